-- Geometries, limits and bytes for the samples.
use Rattle.std.specs.Prelude.{ℕ, zero, suc, List, [], ◌∷◌, pos, negsuc, Some, None}
use Rattle.twkb_points.specs.Point.{origin, point_at}
use Rattle.twkb_tree.specs.declared.limits.TheConstants.{POINTS_CAP, NODES_CAP}
use Rattle.twkb_tree.specs.Limits.{Allowance}
use Rattle.twkb_tree.specs.Tree.{point, line, polygon, multi_point, multi_line, multi_polygon, Tree}
use Rattle.twkb_tree.specs.Tree.{simple, collection, end, ◌▷◌}

-- The standard limits.
abbrev pub standard : Allowance
standard = record { nest = 16; nodes = NODES_CAP; points = POINTS_CAP }

-- The standard limits, but with at most eight collections around a member.
abbrev pub nest_eight : Allowance
nest_eight = record { nest = 8; nodes = NODES_CAP; points = POINTS_CAP }

-- The standard limits, but with no members in collections.
abbrev pub no_nest : Allowance
no_nest = record { nest = 0; nodes = NODES_CAP; points = POINTS_CAP }

-- The standard limits, but with at most two nodes.
abbrev pub two_nodes : Allowance
two_nodes = record { nest = 16; nodes = 2; points = POINTS_CAP }

-- The standard limits, but with at most one point.
abbrev pub one_point_only : Allowance
one_point_only = record { nest = 16; nodes = NODES_CAP; points = 1 }

-- The standard limits, but with no points.
abbrev pub no_points : Allowance
no_points = record { nest = 16; nodes = NODES_CAP; points = 0 }

-- A point.
abbrev pub one_point : Tree
one_point = simple (pos 0) (point (Some (point_at (pos 2) (pos 1))))

-- A linestring of three points, the example of the encoded polyline format.
abbrev pub three_points : Tree
three_points = simple (pos 5)
    (line (point_at (negsuc 12019999) (pos 3850000) ∷ point_at (negsuc 12094999) (pos 4070000)
    ∷ point_at (negsuc 12645299) (pos 4325200) ∷ []))

-- A polygon of two rings, neither of them closed.
abbrev pub two_rings : Tree
two_rings = simple (pos 0)
    (polygon ((origin ∷ point_at (pos 4) (pos 0) ∷ point_at (pos 0) (pos 4) ∷ [])
    ∷ (point_at (pos 1) (pos 1) ∷ point_at (pos 2) (pos 1) ∷ point_at (pos 1) (pos 2) ∷ []) ∷ []))

-- A multipoint with ids.
abbrev pub named_points : Tree
named_points = simple (pos 0) (multi_point (Some (pos 1 ∷ pos 2 ∷ [])) (origin ∷ point_at (pos 1) (pos 1) ∷ []))

-- A collection with ids, one of them negative.
abbrev pub named_members : Tree
named_members = collection (pos 0) (Some (pos 7 ∷ negsuc 0 ∷ []))
    ((simple (pos 0) (point (Some (point_at (pos 1) (pos 1))))) ▷ (simple (pos 0) (line [])) ▷ end)

-- A linestring from the greatest coordinate to the least one.
abbrev pub widest : Tree
widest = simple (pos 0)
    (line (point_at (pos 4611686018427387903) (pos 0) ∷ point_at (negsuc 4611686018427387903)
    (pos 0) ∷ []))

-- A linestring of two points.
abbrev pub short_line : Tree
short_line = simple (pos 0) (line (point_at (pos 1) (pos 1) ∷ point_at (pos 5) (pos 5) ∷ []))

-- A point without coordinates.
abbrev pub empty_point : Tree
empty_point = simple (pos 0) (point None)

-- A linestring without points.
abbrev pub empty_line : Tree
empty_line = simple (pos 0) (line [])

-- A collection with a member of another precision.
abbrev pub two_precisions : Tree
two_precisions = collection (pos 0) None ((simple (pos 5) (point (Some (point_at (pos 1) (pos 1))))) ▷ end)

-- A multilinestring of one linestring, which has no points.
abbrev pub empty_part : Tree
empty_part = simple (pos 0) (multi_line None ([] ∷ []))

-- A multipolygon with ids, of a polygon with two rings and of one with none.
abbrev pub named_areas : Tree
named_areas = simple (pos 0) (multi_polygon (Some (pos 3 ∷ pos 4 ∷ []))
    (((point_at (pos 1) (pos 1) ∷ []) ∷ [] ∷ []) ∷ [] ∷ []))

-- A point of the least precision.
abbrev pub least_precision : Tree
least_precision = simple (negsuc 7) (point (Some (point_at (pos 2) (pos 1))))

-- A point of the greatest precision.
abbrev pub greatest_precision : Tree
greatest_precision = simple (pos 7) (point (Some (point_at (pos 2) (pos 1))))

-- A multilinestring of two linestrings.
abbrev pub two_lines : Tree
two_lines = simple (pos 0) (multi_line None ((point_at (pos 1) (pos 1) ∷ []) ∷ (point_at (pos 2) (pos 2) ∷ []) ∷ []))

-- A collection of two points.
abbrev pub two_places : Tree
two_places = collection (pos 0) None ((simple (pos 0) (point (Some (point_at (pos 1) (pos 1))))) ▷
    (simple (pos 0) (point (Some (point_at (pos 3) (pos 0))))) ▷ end)

-- A collection of the same point twice.
abbrev pub two_members : Tree
two_members = collection (pos 0) None ((simple (pos 0) (point (Some (point_at (pos 1) (pos 1))))) ▷
    (simple (pos 0) (point (Some (point_at (pos 1) (pos 1))))) ▷ end)

-- Nine collections, each the only member of the next.
abbrev pub nine_deep : Tree
nine_deep = collection (pos 0) None
    ((collection (pos 0) None
    ((collection (pos 0) None
    ((collection (pos 0) None
    ((collection (pos 0) None
    ((collection (pos 0) None
    ((collection (pos 0) None ((collection (pos 0) None ((collection (pos 0) None end) ▷ end)) ▷
    end)) ▷ end)) ▷ end)) ▷ end)) ▷ end)) ▷ end)) ▷ end)

-- The canonical full blob of the linestring of three points.
abbrev pub three_points_blob : List ℕ
three_points_blob =
    0xA2 ∷ 0x03 ∷ 0x23 ∷ 0xE7 ∷ 0xCE ∷ 0x87 ∷ 0x0C ∷ 0xA8 ∷ 0xAA ∷ 0x4C ∷ 0xA0 ∷ 0xFC ∷ 0xD5 ∷ 0x03 ∷ 0x80 ∷ 0x81 ∷
    0x3A ∷ 0x03 ∷ 0xBF ∷ 0xA4 ∷ 0xBB ∷ 0x0B ∷ 0xA0 ∷ 0xFC ∷ 0xD5 ∷ 0x03 ∷ 0xEF ∷ 0x93 ∷ 0x09 ∷ 0xC0 ∷ 0xED ∷ 0x1A ∷
    0xB7 ∷ 0x96 ∷ 0x43 ∷ 0xC0 ∷ 0x93 ∷ 0x1F ∷ []

-- The canonical full blob of the linestring from the greatest coordinate to the least one.
abbrev pub widest_blob : List ℕ
widest_blob =
    0x02 ∷ 0x03 ∷ 0x2B ∷ 0xFF ∷ 0xFF ∷ 0xFF ∷ 0xFF ∷ 0xFF ∷ 0xFF ∷ 0xFF ∷ 0xFF ∷ 0x7F ∷ 0xFE ∷ 0xFF ∷ 0xFF ∷ 0xFF ∷
    0xFF ∷ 0xFF ∷ 0xFF ∷ 0xFF ∷ 0xFF ∷ 0x01 ∷ 0x00 ∷ 0x00 ∷ 0x02 ∷ 0xFE ∷ 0xFF ∷ 0xFF ∷ 0xFF ∷ 0xFF ∷ 0xFF ∷ 0xFF ∷
    0xFF ∷ 0x7F ∷ 0x00 ∷ 0xFD ∷ 0xFF ∷ 0xFF ∷ 0xFF ∷ 0xFF ∷ 0xFF ∷ 0xFF ∷ 0xFF ∷ 0xFF ∷ 0x01 ∷ 0x00 ∷ []

-- The canonical full blob of the nine collections.
abbrev pub nine_deep_blob : List ℕ
nine_deep_blob =
    0x07 ∷ 0x02 ∷ 0x20 ∷ 0x01 ∷ 0x07 ∷ 0x02 ∷ 0x1C ∷ 0x01 ∷ 0x07 ∷ 0x02 ∷ 0x18 ∷ 0x01 ∷ 0x07 ∷ 0x02 ∷ 0x14 ∷ 0x01 ∷
    0x07 ∷ 0x02 ∷ 0x10 ∷ 0x01 ∷ 0x07 ∷ 0x02 ∷ 0x0C ∷ 0x01 ∷ 0x07 ∷ 0x02 ∷ 0x08 ∷ 0x01 ∷ 0x07 ∷ 0x02 ∷ 0x04 ∷ 0x01 ∷
    0x07 ∷ 0x12 ∷ 0x00 ∷ []

-- The canonical full blob of the collection with ids.
abbrev pub named_members_blob : List ℕ
named_members_blob =
    0x07 ∷ 0x07 ∷ 0x0F ∷ 0x02 ∷ 0x00 ∷ 0x02 ∷ 0x00 ∷ 0x02 ∷ 0x0E ∷ 0x01 ∷ 0x01 ∷ 0x02 ∷ 0x02 ∷ 0x02 ∷ 0x02 ∷ 0x02 ∷
    0x12 ∷ 0x00 ∷ []

-- A plain blob of a collection without members.
abbrev pub bare_collection : List ℕ
bare_collection = 0x07 ∷ 0x10 ∷ []

-- This many plain collections around a blob, each with the next as its only member.
abbrev pub in_collections : ℕ → List ℕ → List ℕ
in_collections zero bytes = bytes
in_collections (suc n) bytes = 0x07 ∷ 0x00 ∷ 0x01 ∷ in_collections n bytes
