-- Worked tables as rows.
use Rattle.std.specs.Prelude.{◌≡◌, ℕ, ◌+◌, ℤ, pos, negsuc, List, [], ◌∷◌, ◌++◌, Option, Some, None, true, false}
use Rattle.twkb_points.specs.Point.{Point, point_at}
use Rattle.twkb_tree.specs.declared.kind.Kind.{Kind}
use Rattle.twkb_tree.specs.declared.kind.Kind.TheVariants.{Point as PointKind, Linestring, Polygon}
use Rattle.twkb_tree.specs.declared.kind.Kind.TheVariants.{Ring, MultiPoint, MultiLinestring}
use Rattle.twkb_tree.specs.declared.kind.Kind.TheVariants.{MultiPolygon, Collection}
use Rattle.twkb_tree.specs.declared.limits.TheConstants.{NODES_CAP, POINTS_CAP}
use Rattle.twkb_tree.specs.Tree.{simple, collection, end, ◌▷◌, point, line, multi_polygon}
use Rattle.twkb_tree.specs.Limits.{Allowance}
use Rattle.twkb_tree.specs.Rows.{Row, rows}
use Rattle.twkb_tree.specs.Refusal.{refusal_after, accepts, continues}
use Rattle.twkb_tree.specs.declared.row_checks.Refusal.{Refusal}
use Rattle.twkb_tree.specs.declared.row_checks.Refusal.TheVariants.{BadPlace, TooDeep, TooManyNodes, BadId}
use Rattle.twkb_tree.specs.declared.row_checks.Refusal.TheVariants.{IdNotAllowed, MixedIds, BadPrecision}
use Rattle.twkb_tree.specs.declared.row_checks.Refusal.TheVariants.{PrecisionMissing, PrecisionNotAllowed}
use Rattle.twkb_tree.specs.declared.row_checks.Refusal.TheVariants.{PointsNotAllowed, CoordinateRange, TooManyPoints}
use Rattle.twkb_tree.specs.declared.row_checks.Refusal.TheVariants.{PointCount}

-- each row is accepted, or the row with this number, from 1, is refused
pub data Outcome : Type 0 where
  Accepted : Outcome
  Refused : ℕ → Refusal → Outcome

-- a refusal at this row, or the outcome of the later ones
abbrev pub or_later : ℕ → Option Refusal → Outcome → Outcome
or_later n None later = later
or_later n (Some why) later = Refused n why

-- the outcome of rows from this number on, after other rows, last one first
abbrev pub outcome_from : Allowance → ℕ → List Row → List Row → Outcome
outcome_from l n before [] = Accepted
outcome_from l n before (r ∷ rs) = or_later n (refusal_after l before r) (outcome_from l (n + 1) (r ∷ before) rs)

-- the outcome of the rows of a table
abbrev pub outcome : Allowance → List Row → Outcome
outcome l rs = outcome_from l 1 [] rs

-- ---- limits

-- limits with these levels and the largest counts
abbrev pub levels : ℕ → Allowance
levels n = record { nest = n; nodes = NODES_CAP; points = POINTS_CAP }

-- ---- rows by their five fields, with points as pairs

-- the row with these fields
abbrev pub row : ℕ → Kind → Option ℤ → Option ℤ → List Point → Row
row d kind id precision ps = record { depth = d; kind = kind; id = id; precision = precision; points = ps }

-- an id or a precision from 0 up
abbrev pub number : ℕ → Option ℤ
number n = Some (pos n)

-- the point at these coordinates, which are not negative
abbrev pub at : ℕ → ℕ → Point
at x y = point_at (pos x) (pos y)

-- nine collections, each inside the one before
abbrev pub nine_collections : List Row
nine_collections =
    row 0 Collection None (number 0) [] ∷ row 1 Collection None (number 0) [] ∷ row 2 Collection None (number 0) []
    ∷ row 3 Collection None (number 0) [] ∷ row 4 Collection None (number 0) [] ∷ row 5 Collection None (number 0) []
    ∷ row 6 Collection None (number 0) [] ∷ row 7 Collection None (number 0) [] ∷ row 8 Collection
    None (number 0) [] ∷ []

-- a collection of a point and of an empty linestring, with ids
abbrev pub members_with_ids : List Row
members_with_ids = row 0 Collection None (number 0) [] ∷ row 1 PointKind (number 7) (number 0)
    (at 1 1 ∷ []) ∷ row 1 Linestring (Some (negsuc 0)) (number 0) [] ∷ []

-- a multipolygon of two polygons with ids, the first of two rings, the second of none
abbrev pub polygons_with_ids : List Row
polygons_with_ids =
    row 0 MultiPolygon None (number 0) [] ∷ row 1 Polygon (number 3) None [] ∷ row 2 Ring None None
    (at 1 1 ∷ []) ∷ row 2 Ring None None [] ∷ row 1 Polygon (number 4) None [] ∷ []

-- ---- the rows of trees

-- the rows of the collection are as listed
abbrev pub MemberRows : Type 0
MemberRows = rows 0 (collection (pos 0) (Some (pos 7 ∷ negsuc 0 ∷ []))
    (simple (pos 0) (point (Some (at 1 1))) ▷ simple (pos 0) (line []) ▷ end)) ≡ members_with_ids

-- the rows of the multipolygon are as listed
abbrev pub PolygonRows : Type 0
PolygonRows = rows 0 (simple (pos 0) (multi_polygon (Some (pos 3 ∷ pos 4 ∷ []))
    (((at 1 1 ∷ []) ∷ [] ∷ []) ∷ [] ∷ []))) ≡ polygons_with_ids

-- ---- tables whose rows are accepted

-- a polygon of two rings is accepted
abbrev pub TwoRings : Type 0
TwoRings =
    outcome (levels 8)
    (row 0 Polygon None (number 0) [] ∷ row 1 Ring None None (at 0 0 ∷ at 4 0 ∷ at 0 4 ∷ [])
    ∷ row 1 Ring None None (at 1 1 ∷ at 2 1 ∷ at 1 2 ∷ []) ∷ [])
    ≡ Accepted

-- a multipoint of two points with ids is accepted
abbrev pub PointsWithIds : Type 0
PointsWithIds =
    outcome (levels 8) (row 0 MultiPoint None (number 0) [] ∷ row 1 PointKind (number 1) None
    (at 0 0 ∷ []) ∷ row 1 PointKind (number 2) None (at 1 1 ∷ []) ∷ []) ≡ Accepted

-- a collection of members with ids is accepted
abbrev pub MembersWithIds : Type 0
MembersWithIds = outcome (levels 8) members_with_ids ≡ Accepted

-- a collection whose member has another precision is accepted
abbrev pub TwoPrecisions : Type 0
TwoPrecisions = outcome (levels 8) (row 0 Collection None (number 0) [] ∷ row 1 PointKind None
    (number 5) (at 1 1 ∷ []) ∷ []) ≡ Accepted

-- a multilinestring of one empty linestring is accepted
abbrev pub EmptyLine : Type 0
EmptyLine = outcome (levels 8) (row 0 MultiLinestring None (number 0) [] ∷ row 1 Linestring None
    None [] ∷ []) ≡ Accepted

-- a multipolygon of polygons with ids is accepted
abbrev pub PolygonsWithIds : Type 0
PolygonsWithIds = outcome (levels 8) polygons_with_ids ≡ Accepted

-- two geometries, one after the other, are accepted
abbrev pub TwoRoots : Type 0
TwoRoots = outcome (levels 8) (row 0 PointKind None (number 0) (at 2 1 ∷ []) ∷ row 0 PointKind None
    (number 0) (at 1 1 ∷ []) ∷ []) ≡ Accepted

-- ---- tables with a refused row

-- a linestring without an id is refused after one with an id
abbrev pub IdsOnSome : Type 0
IdsOnSome =
    outcome (levels 8) (row 0 MultiLinestring None (number 0) [] ∷ row 1 Linestring (number 5) None
    (at 1 1 ∷ []) ∷ row 1 Linestring None None (at 1 1 ∷ []) ∷ []) ≡ Refused 3 MixedIds

-- a member is refused if the limits allow no members in collections
abbrev pub NoLevel : Type 0
NoLevel = outcome (levels 0) (row 0 Collection None (number 0) [] ∷ row 1 PointKind None (number 0)
    (at 1 1 ∷ []) ∷ []) ≡ Refused 2 TooDeep

-- a member in nine collections is refused at eight levels and accepted at sixteen
abbrev pub NineLevels : Type 0
NineLevels =
    (outcome (levels 8) nine_collections ≡ Accepted)
    × (outcome (levels 8) (nine_collections ++ row 9 PointKind None (number 0) [] ∷ [])
    ≡ Refused 10 TooDeep)
    × (outcome (levels 16) (nine_collections ++ row 9 PointKind None (number 0) [] ∷ []) ≡ Accepted)

-- a third row is refused if two are allowed
abbrev pub TwoNodes : Type 0
TwoNodes =
    outcome (record { nest = 8; nodes = 2; points = POINTS_CAP })
    (row 0 MultiPoint None (number 0) [] ∷ row 1 PointKind None None (at 1 1 ∷ [])
    ∷ row 1 PointKind None None (at 1 1 ∷ []) ∷ [])
    ≡ Refused 3 TooManyNodes

-- two points are refused if one is allowed
abbrev pub OnePoint : Type 0
OnePoint = outcome (record { nest = 8; nodes = NODES_CAP; points = 1 })
    (row 0 Linestring None (number 0) (at 1 1 ∷ at 5 5 ∷ []) ∷ []) ≡ Refused 1 TooManyPoints

-- a member without a precision is refused, and so is a ring with one
abbrev pub Precisions : Type 0
Precisions =
    (outcome (levels 8) (row 0 Collection None (number 0) [] ∷ row 1 Polygon None None [] ∷ [])
    ≡ Refused 2 PrecisionMissing)
    × (outcome (levels 8) (row 0 Polygon None (number 0) [] ∷ row 1 Ring None (number 0)
    (at 1 1 ∷ []) ∷ []) ≡ Refused 2 PrecisionNotAllowed)

-- the row is refused as the first of a table, for this reason
abbrev pub RefusedAlone : Row → Refusal → Type 0
RefusedAlone r why = outcome (levels 8) (r ∷ []) ≡ Refused 1 why

-- these rows can't begin a table
abbrev pub FirstRows : Type 0
FirstRows =
    RefusedAlone (row 1 PointKind None (number 0) (at 2 1 ∷ [])) BadPlace
    × RefusedAlone (row 0 Ring None None []) BadPlace
    × RefusedAlone (row 0 PointKind (number 7) (number 0) (at 2 1 ∷ [])) IdNotAllowed
    × RefusedAlone (row 0 PointKind None (number 8) (at 2 1 ∷ [])) BadPrecision
    × RefusedAlone (row 0 PointKind None None (at 2 1 ∷ [])) PrecisionMissing
    × RefusedAlone (row 0 Polygon None (number 0) (at 2 1 ∷ [])) PointsNotAllowed
    × RefusedAlone (row 0 PointKind None (number 0) (at 1 1 ∷ at 2 2 ∷ [])) PointCount

-- ---- the ends of the ranges

-- the outcome of a point with this precision and place
abbrev pub lone_point : ℤ → ℤ → ℤ → Outcome
lone_point precision x y = outcome (levels 8) (row 0 PointKind None (Some precision) (point_at x y ∷ []) ∷ [])

-- the outcome of a multipoint of one point with this id
abbrev pub one_id : ℤ → Outcome
one_id id = outcome (levels 8) (row 0 MultiPoint None (number 0) [] ∷ row 1 PointKind (Some id) None (at 1 1 ∷ []) ∷ [])

-- precisions from -8 to 7 are accepted, and no others
abbrev pub PrecisionRange : Type 0
PrecisionRange =
    (lone_point (negsuc 7) (pos 2) (pos 1) ≡ Accepted)
    × (lone_point (pos 7) (pos 2) (pos 1) ≡ Accepted)
    × (lone_point (negsuc 8) (pos 2) (pos 1) ≡ Refused 1 BadPrecision)
    × (lone_point (pos 8) (pos 2) (pos 1) ≡ Refused 1 BadPrecision)

-- coordinates from -2 ^ 62 to 2 ^ 62 - 1 are accepted, and no others
abbrev pub CoordinateRanges : Type 0
CoordinateRanges =
    (lone_point (pos 0) (pos 4611686018427387903) (negsuc 4611686018427387903) ≡ Accepted)
    × (lone_point (pos 0) (pos 4611686018427387904) (pos 0) ≡ Refused 1 CoordinateRange)
    × (lone_point (pos 0) (pos 0) (negsuc 4611686018427387904) ≡ Refused 1 CoordinateRange)

-- ids from -2 ^ 63 to 2 ^ 63 - 1 are accepted, and no others
abbrev pub IdRange : Type 0
IdRange =
    (one_id (pos 9223372036854775807) ≡ Accepted) × (one_id (negsuc 9223372036854775807) ≡ Accepted)
    × (one_id (pos 9223372036854775808) ≡ Refused 2 BadId)
    × (one_id (negsuc 9223372036854775808) ≡ Refused 2 BadId)

-- ---- one geometry

-- a second root may come next in a table, but is not a row of the first geometry
abbrev pub SecondRoot : Type 0
SecondRoot =
    let first = row 0 PointKind None (number 0) (at 2 1 ∷ []) in
    (accepts (levels 8) (first ∷ []) first ≡ true)
    × (continues (levels 8) (first ∷ []) first ≡ false) × (continues (levels 8) [] first ≡ true)
