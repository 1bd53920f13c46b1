-- The rows and points of geometries in C's layout (profile).
use Rattle.std.specs.Prelude.{ℕ, ℤ, pos, negsuc, ◌<◌, ◌≤◌, ◌⊎◌, List, length, map, Option, Some, None, ◌≡◌, ◌∷◌, ◌++◌}
use Rattle.std.specs.Prelude.{drop, Bool, true, false}
use Rattle.twkb_points.specs.Point.{Point, point_at}
use Rattle.twkb_tree.specs.declared.kind.Kind.{Kind}
use Rattle.twkb_tree.specs.declared.kind.Kind.TheVariants as kind
use Rattle.twkb_tree.specs.Tree.{Tree}
use Rattle.twkb_tree.specs.Rows.{Row, rows_of, row_points}
use Rattle.twkb_buffer.specs.Polylines.{coordinates_of}
use Rattle.twkb_buffer.specs.declared.point.BufferPoint.{BufferPoint}
use Rattle.twkb_arrays.specs.Ends.{LacksEndRoom}
use Rattle.twkb_arrays.specs.declared.row.BufferRow.{BufferRow}
use Rattle.twkb_table.specs.Record.{header, record_of}
use Rattle.twkb_table.specs.Text.{csvtext}

-- ==== The rows and points of geometries in C's layout (profile).

-- the number of a kind: that of its type (TWKB, type and precision), and 8 for a ring
abbrev pub kind_number : Kind → ℕ
kind_number kind.Point = 1
kind_number kind.Linestring = 2
kind_number kind.Polygon = 3
kind_number kind.MultiPoint = 4
kind_number kind.MultiLinestring = 5
kind_number kind.MultiPolygon = 6
kind_number kind.Collection = 7
kind_number kind.Ring = 8

-- 1 if there is an id, and 0 if there is none
abbrev pub id_flag : Option ℤ → ℕ
id_flag None = 0
id_flag (Some id) = 1

-- the id, or 0
abbrev pub id_number : Option ℤ → ℤ
id_number None = pos 0
id_number (Some id) = id

-- the precision, or -128
abbrev pub precision_number : Option ℤ → ℤ
precision_number None = negsuc 127
precision_number (Some precision) = precision

-- a row in C's layout
abbrev pub row_in_c : Row → BufferRow
row_in_c r = record {
  id = id_number r.id;
  points = length r.points;
  depth = r.depth;
  kind = kind_number r.kind;
  has_id = id_flag r.id;
  precision = precision_number r.precision;
}

-- rows in C's layout
abbrev pub rows_in_c : List Row → List BufferRow
rows_in_c rs = map row_in_c rs

-- the rows of geometries in C's layout
abbrev pub array_rows : List Tree → List BufferRow
array_rows gs = rows_in_c (rows_of gs)

-- the points of their rows in C's layout
abbrev pub array_points : List Tree → List BufferPoint
array_points gs = coordinates_of (row_points (rows_of gs))

-- two arrays have room for the rows and points of these geometries
abbrev pub HasRoom : List BufferRow → List BufferPoint → List Tree → Type 0
HasRoom in_rows in_points gs = (length (rows_of gs) ≤ length in_rows)
    × (length (row_points (rows_of gs)) ≤ length in_points)

-- one of two arrays has too little room for the rows or points of these geometries
abbrev pub LacksRoom : List BufferRow → List BufferPoint → List Tree → Type 0
LacksRoom in_rows in_points gs = (length in_rows < length (rows_of gs))
    ⊎ (length in_points < length (row_points (rows_of gs)))

-- an array of rows, of points or of ends has too little room for these geometries
abbrev pub LacksPlaces : List BufferRow → List BufferPoint → List ℕ → List Tree → Type 0
LacksPlaces in_rows in_points in_ends gs = LacksRoom in_rows in_points gs ⊎ LacksEndRoom in_ends gs

-- the point with these coordinates
abbrev pub point_of : BufferPoint → Point
point_of coordinates = point_at coordinates.x coordinates.y

-- the points with these coordinates
abbrev pub points_of : List BufferPoint → List Point
points_of coordinates = map point_of coordinates

-- ==== The rows of a table's text and of arrays.

-- The text is that of a table of these rows, below its header, and two arrays begin with the rows
-- and with their points.
pub record AreSameRows (text : List ℕ) (old_rows : List BufferRow) (old_points : List BufferPoint)
    (new_rows : List BufferRow) (new_points : List BufferPoint) : Type 0 where
  pub rs : List Row
  pub text_is : text ≡ csvtext (header ∷ map record_of rs)
  pub rows_are : new_rows ≡ rows_in_c rs ++ drop (length rs) old_rows
  pub points_are : new_points ≡ coordinates_of (row_points rs) ++ drop (length (row_points rs)) old_points

-- ==== The status of a call that had too little room.

-- the status, the reason and the place: 5 and none if there was too little room
abbrev pub unless_full : Bool → ℕ × ℕ × ℕ → ℕ × ℕ × ℕ
unless_full true outcome = (5, 0, 0)
unless_full false outcome = outcome
