-- Worked tables: the records of geometries, and their text.
use Rattle.std.specs.Prelude.{◌≡◌, pos, negsuc, [], ◌∷◌, Some, codes}
use Rattle.twkb_points.specs.Point.{point_at}
use Rattle.twkb_tree.specs.Tree.{Tree, simple, collection, end, ◌▷◌, point, line, polygon}
use Rattle.twkb_table.specs.Record.{header, table}
use Rattle.twkb_table.specs.Text.{csvtext}

-- the point (2, 1)
abbrev pub a_point : Tree
a_point = simple (pos 0) (point (Some (point_at (pos 2) (pos 1))))

-- the table of the point is as listed
abbrev pub PointTable : Type 0
PointTable = table (a_point ∷ []) ≡ header ∷ (codes "0" ∷ codes "point" ∷ [] ∷ codes "0" ∷ codes "AC" ∷ []) ∷ []

-- the text of that table is as listed
abbrev pub PointText : Type 0
PointText = csvtext (table (a_point ∷ [])) ≡ codes "depth,kind,id,precision,polyline\n0,point,,0,AC\n"

-- the table of a polygon of two rings is as listed
abbrev pub PolygonTable : Type 0
PolygonTable =
    table (simple (pos 0)
    (polygon ((point_at (pos 0) (pos 0) ∷ point_at (pos 4) (pos 0) ∷ point_at (pos 0) (pos 4)
    ∷ []) ∷ (point_at (pos 1) (pos 1) ∷ point_at (pos 2) (pos 1) ∷ point_at (pos 1) (pos 2)
    ∷ []) ∷ [])) ∷ [])
    ≡ header ∷ (codes "0" ∷ codes "polygon" ∷ [] ∷ codes "0" ∷ [] ∷ [])
    ∷ (codes "1" ∷ codes "ring" ∷ [] ∷ [] ∷ codes "???GGF" ∷ [])
    ∷ (codes "1" ∷ codes "ring" ∷ [] ∷ [] ∷ codes "AA?AA@" ∷ []) ∷ []

-- the table of a collection with ids, of a point and a linestring without points, is as listed
abbrev pub CollectionTable : Type 0
CollectionTable =
    table (collection (pos 0) (Some (pos 7 ∷ negsuc 0 ∷ []))
    (simple (pos 0) (point (Some (point_at (pos 1) (pos 1)))) ▷ simple (pos 0) (line []) ▷ end)
    ∷ [])
    ≡ header ∷ (codes "0" ∷ codes "collection" ∷ [] ∷ codes "0" ∷ [] ∷ [])
    ∷ (codes "1" ∷ codes "point" ∷ codes "7" ∷ codes "0" ∷ codes "AA" ∷ [])
    ∷ (codes "1" ∷ codes "linestring" ∷ codes "-1" ∷ codes "0" ∷ [] ∷ []) ∷ []
