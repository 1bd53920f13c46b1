-- The rows of a stack, how an item changes them, and when they can take the change.
use Rattle.std.specs.Prelude.{ℕ, zero, suc, List, [], ◌∷◌, ◌++◌, length, ℤ, Option, Some, None, if◌then◌else◌, ⊤, ◌<◌}
use Rattle.twkb_points.specs.Point.{Point}
use Rattle.twkb_tree.specs.declared.kind.Kind as row
use Rattle.twkb_tree.specs.declared.kind.Kind.TheVariants as kinds
use Rattle.twkb_tree.specs.Tree.{Ids, simple}
use Rattle.twkb_tree.specs.Rows.{Row, plain_row, whole_row, first_id, rows_with, member_rows, row_points}
use Rattle.twkb_tree.specs.RowGrowth.{point_added, EndsInLine}
use Rattle.twkb_grammar.specs.Bits.{bit}
use Rattle.twkb_grammar.specs.Roles.{Role}
use Rattle.twkb_grammar.specs.Machine.{Nested, Around, top, within, Body, Want, WantY, Done, BodyForm, PointForm}
use Rattle.twkb_grammar.specs.Machine.{LineForm, PolygonForm, MultiPointForm, MultiLineForm, MultiPolygonForm, Kind}
use Rattle.twkb_grammar.specs.Machine.{SimpleKind, CollectionKind, depth_of, shape_of, Head, Frame, Many, ManyPoints}
use Rattle.twkb_grammar.specs.Machine.{ManyLines, ManyPolygons, ManyGeometries, Phase, AtBody, AtEnd, Finished, Stack}
use Rattle.twkb_grammar.specs.Machine.{asked}
use Rattle.twkb_body.specs.Outline.{ids_after, FrameOutline, BodyPlace, Wanted, WantedY, Full, Stage, OnMetadata}
use Rattle.twkb_body.specs.Outline.{OnOption, OnCount, OnId, OnBody, Outline}
use Rattle.twkb_tree.specs.declared.limits.TheConstants.{POINTS_CAP}
use Rattle.twkb_tree.specs.Limits.{largest_limits}
use Rattle.twkb_tree.specs.Admits.{Continues}

-- ==== The rows of a stack, and how an item changes them.

-- ---- the rows of a stack

-- The id of the open geometry in these collections.
abbrev pub id_within : List Frame → Option ℤ
id_within [] = None
id_within (f ∷ fs) = first_id (ids_after f.ids f.done)

-- The rows of the open collections, outermost first: each collection's own row and those of its
-- complete members.
abbrev pub frame_rows : List Frame → List Row
frame_rows [] = []
frame_rows (f ∷ fs) = frame_rows fs ++ (whole_row (length fs) kinds.Collection (id_within fs)
    f.head.precision [] ∷ member_rows (suc (length fs)) f.ids f.done)

-- A value, and the lists around it, each ended after the value.
abbrev pub cut_behind : {whole d : ℕ} → Around whole d → Nested d → Nested whole
cut_behind top v = v
cut_behind (within done left a) v = cut_behind a (done ++ v ∷ [])

-- The contents of the lists around a place before that place, if any list has begun.
abbrev pub cut_before : {whole d : ℕ} → Around whole d → Option (Nested whole)
cut_before top = None
cut_before (within done left a) = Some (cut_behind a done)

-- The contents of a body so far, if it has begun.
abbrev pub cut : {whole : ℕ} → Body whole → Option (Nested whole)
cut (Want d a) = cut_before a
cut (WantY a) = cut_before a
cut (Done v) = Some v

-- The rows of a body with this value, at a depth and with an id.
abbrev pub value_rows : ℕ → Option ℤ → Head → (f : BodyForm) → Ids → Option (Nested (depth_of f)) → List Row
value_rows d id h f ids None = []
value_rows d id h f ids (Some v) = rows_with id d (simple h.precision (shape_of f ids v))

-- The rows of the open geometry, at a depth and with an id.
abbrev pub phase_rows : ℕ → Option ℤ → Phase → List Row
phase_rows d id (AtBody h f ids b) = value_rows d id h f ids (cut b)
phase_rows d id (AtEnd h g) = rows_with id d g
phase_rows d id (Finished g) = rows_with id d g
phase_rows d id _ = []

-- The rows of all that a stack contains, in preorder.
abbrev pub rows_so_far : Stack → List Row
rows_so_far st = frame_rows st.0 ++ phase_rows (length st.0) (id_within st.0) st.1

-- ---- the change of an item

-- The change of an item: nothing, a new row, or one more point in the last row.
pub data Change : Type 0 where
  Nothing : Change
  NewRow : Row → Change
  NewPoint : Point → Change

-- The rows after a change.
abbrev pub applied : Change → List Row → List Row
applied Nothing rs = rs
applied (NewRow r) rs = rs ++ r ∷ []
applied (NewPoint p) rs = point_added p rs

-- The rows can take the change: a point can only be added to a line.
abbrev pub Takes : Change → List Row → Type 0
Takes (NewPoint p) rs = EndsInLine rs
Takes _ rs = ⊤

-- The kind of the row of a type.
abbrev pub row_kind : Kind → row.Kind
row_kind (SimpleKind PointForm) = kinds.Point
row_kind (SimpleKind LineForm) = kinds.Linestring
row_kind (SimpleKind PolygonForm) = kinds.Polygon
row_kind (SimpleKind MultiPointForm) = kinds.MultiPoint
row_kind (SimpleKind MultiLineForm) = kinds.MultiLinestring
row_kind (SimpleKind MultiPolygonForm) = kinds.MultiPolygon
row_kind CollectionKind = kinds.Collection

-- A geometry's own row without points.
abbrev pub own_of : ℕ → Option ℤ → Kind → ℤ → Row
own_of d id k precision = whole_row d (row_kind k) id precision []

-- The row of a list that begins, of values of depth `inner`, in a geometry with this depth, id
-- and precision, and in a member with this id.
abbrev pub list_row : ℕ → Option ℤ → ℤ → BodyForm → Option ℤ → (inner : ℕ) → Row
list_row d id precision PolygonForm member zero = plain_row (suc d) kinds.Ring None []
list_row d id precision MultiLineForm member zero = plain_row (suc d) kinds.Linestring member []
list_row d id precision MultiPolygonForm member zero = plain_row (suc (suc d)) kinds.Ring None []
list_row d id precision MultiPolygonForm member (suc zero) = plain_row (suc d) kinds.Polygon member []
list_row d id precision f member inner = own_of d id (SimpleKind f) precision

-- The change of a point at this place.
abbrev pub point_change : Point → ℕ → Option ℤ → ℤ → BodyForm → Option ℤ → Change
point_change p d id precision PointForm member = NewRow (whole_row d kinds.Point id precision (p ∷ []))
point_change p d id precision MultiPointForm member = NewRow (plain_row (suc d) kinds.Point member (p ∷ []))
point_change p d id precision f member = NewPoint p

-- The change of a number in a body that leads to position p.
abbrev pub place_change : Point → ℕ → Option ℤ → ℤ → BodyForm → Option ℤ → BodyPlace → Change
place_change p d id precision f member (Wanted zero lefts) = Nothing
place_change p d id precision f member (Wanted (suc inner) lefts) = NewRow (list_row d id precision f member inner)
place_change p d id precision f member (WantedY lefts) = point_change p d id precision f member
place_change p d id precision f member Full = Nothing

-- The change of a header with this precision and metadata byte, and with these optional parts to come.
abbrev pub header_change : ℕ → Option ℤ → Kind → (precision : ℤ) → (meta : ℕ) → List Role → Change
header_change d id k precision meta (r ∷ rs) = Nothing
header_change d id k precision meta [] = if bit meta 4 then NewRow (own_of d id k precision) else Nothing

-- The type of a geometry with members.
abbrev pub kind_with : Many → Kind
kind_with ManyPoints = SimpleKind MultiPointForm
kind_with ManyLines = SimpleKind MultiLineForm
kind_with ManyPolygons = SimpleKind MultiPolygonForm
kind_with ManyGeometries = CollectionKind

-- The change of a count of n members.
abbrev pub count_change : ℕ → Option ℤ → Many → Head → ℕ → Change
count_change d id m h zero = NewRow (own_of d id (kind_with m) h.precision)
count_change d id m h (suc n) = if bit h.meta 2 then Nothing else NewRow (own_of d id (kind_with m) h.precision)

-- The change of an item with this number, which leads to position p, in a geometry with this
-- depth and id.
abbrev pub stage_change : Point → ℕ → ℕ → Option ℤ → Stage → Change
stage_change p n d id (OnMetadata k precision) = header_change d id k precision n (asked n)
stage_change p n d id (OnOption k h r rs) = header_change d id k h.precision h.meta rs
stage_change p n d id (OnCount m h) = count_change d id m h n
stage_change p n d id (OnId m h members ids zero) = NewRow (own_of d id (kind_with m) h.precision)
stage_change p n d id (OnBody h f ids s) = place_change p d id h.precision f (first_id ids) s
stage_change p n d id _ = Nothing

-- The id of the open geometry.
abbrev pub id_in : List FrameOutline → Option ℤ
id_in [] = None
id_in (g ∷ gs) = first_id g.ids

-- The change of an item.
abbrev pub change_of : Point → ℕ → Outline → Change
change_of p n o = stage_change p n (length o.0) (id_in o.0) o.1

-- ==== When rows can take the change of an item.

-- A new row continues the rows within the largest limits. A new point goes into the row of a line
-- or ring, and there are fewer than 2^24 points.
abbrev pub Admits : Change → List Row → Type 0
Admits Nothing rs = ⊤
Admits (NewRow r) rs = Continues largest_limits rs r
Admits (NewPoint p) rs = EndsInLine rs × (length (row_points rs) < POINTS_CAP)
