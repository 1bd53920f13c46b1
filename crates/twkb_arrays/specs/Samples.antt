-- A stream with a geometry of each kind, and its rows and points in arrays, for the samples.
use Rattle.std.specs.Prelude.{ℕ, ℤ, List, [], ◌∷◌, ◌++◌, pos, negsuc}
use Rattle.twkb_tree.specs.Tree.{Tree}
use Rattle.twkb_grammar.specs.Samples.{one_point, three_points, three_points_blob, two_rings, named_points}
use Rattle.twkb_grammar.specs.Samples.{two_lines, named_areas, named_members, named_members_blob}
use Rattle.twkb_buffer.specs.declared.point.BufferPoint.{BufferPoint}
use Rattle.twkb_arrays.specs.declared.row.BufferRow.{BufferRow}

-- A point; a linestring of precision 5; a polygon of two rings; a multipoint with ids; a
-- multilinestring; a multipolygon with ids, of a polygon with two rings and of one with none; and a
-- collection with ids, of a point and of a linestring without points.
abbrev pub each_kind : List Tree
each_kind = one_point ∷ three_points ∷ two_rings ∷ named_points ∷ two_lines ∷ named_areas ∷ named_members ∷ []

-- The blob of the point.
abbrev pub one_point_blob : List ℕ
one_point_blob = 0x01 ∷ 0x02 ∷ 0x02 ∷ 0x04 ∷ 0x02 ∷ []

-- The blob of the polygon: its size, its box, two rings of three points each.
abbrev pub two_rings_blob : List ℕ
two_rings_blob =
    0x03 ∷ 0x03 ∷ 0x13 ∷ 0x00 ∷ 0x08 ∷ 0x00 ∷ 0x08 ∷ 0x02 ∷ 0x03 ∷ 0x00 ∷ 0x00 ∷ 0x08 ∷ 0x00 ∷ 0x07 ∷ 0x08 ∷ 0x03 ∷
    0x02 ∷ 0x05 ∷ 0x02 ∷ 0x00 ∷ 0x01 ∷ 0x02 ∷ []

-- The blob of the multipoint: its size, its box, two points, their ids.
abbrev pub named_points_blob : List ℕ
named_points_blob = 0x04 ∷ 0x07 ∷ 0x0B ∷ 0x00 ∷ 0x02 ∷ 0x00 ∷ 0x02 ∷ 0x02 ∷ 0x02 ∷ 0x04 ∷ 0x00 ∷ 0x00 ∷ 0x02 ∷ 0x02 ∷ []

-- The blob of the multilinestring: its size, its box, two linestrings of one point each.
abbrev pub two_lines_blob : List ℕ
two_lines_blob = 0x05 ∷ 0x03 ∷ 0x0B ∷ 0x02 ∷ 0x02 ∷ 0x02 ∷ 0x02 ∷ 0x02 ∷ 0x01 ∷ 0x02 ∷ 0x02 ∷ 0x01 ∷ 0x02 ∷ 0x02 ∷ []

-- The blob of `named_areas`: its size, its box, two polygons, their ids, the rings of each.
abbrev pub named_areas_blob : List ℕ
named_areas_blob =
    0x06 ∷ 0x07 ∷ 0x0D ∷ 0x02 ∷ 0x00 ∷ 0x02 ∷ 0x00 ∷ 0x02 ∷ 0x06 ∷ 0x08 ∷ 0x02 ∷ 0x01 ∷ 0x02 ∷ 0x02 ∷ 0x00 ∷ 0x00 ∷ []

-- The stream of these blobs.
abbrev pub each_kind_stream : List ℕ
each_kind_stream =
    one_point_blob ++ (three_points_blob ++ (two_rings_blob ++ (named_points_blob ++ (two_lines_blob
    ++ (named_areas_blob ++ named_members_blob)))))

-- A row with a precision, and with no id.
abbrev geometry_row : (kind precision points : ℕ) → BufferRow
geometry_row kind precision points = record {
  id = pos 0;
  points = points;
  depth = 0;
  kind = kind;
  has_id = 0;
  precision = pos precision;
}

-- A row below another, with neither id nor precision.
abbrev part_row : (depth kind points : ℕ) → BufferRow
part_row depth kind points = record {
  id = pos 0;
  points = points;
  depth = depth;
  kind = kind;
  has_id = 0;
  precision = negsuc 127;
}

-- A row below another, with an id and no precision.
abbrev named_row : (id : ℤ) → (kind points : ℕ) → BufferRow
named_row id kind points = record {
  id = id;
  points = points;
  depth = 1;
  kind = kind;
  has_id = 1;
  precision = negsuc 127;
}

-- A row of a member of a collection, with an id.
abbrev member_row : (id : ℤ) → (kind points : ℕ) → BufferRow
member_row id kind points = record {
  id = id;
  points = points;
  depth = 1;
  kind = kind;
  has_id = 1;
  precision = pos 0;
}

-- A point in C's layout.
abbrev xy : ℤ → ℤ → BufferPoint
xy x y = record { x = x; y = y }

-- The rows of the geometries, in preorder: the kinds 1 to 7 are those of TWKB, and 8 is a ring.
abbrev pub each_kind_rows : List BufferRow
each_kind_rows =
    geometry_row 1 0 1
    ∷ geometry_row 2 5 3
    ∷ geometry_row 3 0 0 ∷ part_row 1 8 3 ∷ part_row 1 8 3
    ∷ geometry_row 4 0 0 ∷ named_row (pos 1) 1 1 ∷ named_row (pos 2) 1 1
    ∷ geometry_row 5 0 0 ∷ part_row 1 2 1 ∷ part_row 1 2 1
    ∷ geometry_row 6 0 0 ∷ named_row (pos 3) 3 0 ∷ part_row 2 8 1 ∷ part_row 2 8 0 ∷ named_row (pos 4) 3 0
    ∷ geometry_row 7 0 0 ∷ member_row (pos 7) 1 1 ∷ member_row (negsuc 0) 2 0
    ∷ []

-- Their points, x before y.
abbrev pub each_kind_points : List BufferPoint
each_kind_points =
    xy (pos 2) (pos 1)
    ∷ xy (negsuc 12019999) (pos 3850000) ∷ xy (negsuc 12094999) (pos 4070000) ∷ xy (negsuc 12645299) (pos 4325200)
    ∷ xy (pos 0) (pos 0) ∷ xy (pos 4) (pos 0) ∷ xy (pos 0) (pos 4)
    ∷ xy (pos 1) (pos 1) ∷ xy (pos 2) (pos 1) ∷ xy (pos 1) (pos 2)
    ∷ xy (pos 0) (pos 0) ∷ xy (pos 1) (pos 1)
    ∷ xy (pos 1) (pos 1) ∷ xy (pos 2) (pos 2)
    ∷ xy (pos 1) (pos 1)
    ∷ xy (pos 1) (pos 1)
    ∷ []
