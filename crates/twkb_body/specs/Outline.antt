-- The outline of a stack: the open geometries without the values that were read.
use Rattle.std.specs.Prelude.{ℕ, zero, suc, ◌-◌, ◌/◌, ◌%◌, if◌then◌else◌, List, [], ◌∷◌, ◌++◌, length, map, ℤ, Option}
use Rattle.std.specs.Prelude.{Some, None, Bool, true, false, Result, Ok, Err, reverse}
use Rattle.twkb_num.specs.Spelling.{unzigzag_of}
use Rattle.twkb_tree.specs.Tree.{Ids, Trees, end, ◌▷◌}
use Rattle.twkb_tree.specs.Rows.{other_ids}
use Rattle.twkb_grammar.specs.Bits.{bit}
use Rattle.twkb_grammar.specs.Roles.{Role, Header, Metadata, Count, Id, X, Y, End}
use Rattle.twkb_grammar.specs.Fault.{Reason, SizeMismatch}
use Rattle.twkb_grammar.specs.Reading.{is_exact}
use Rattle.twkb_grammar.specs.Machine.{Around, top, within, Body, Want, WantY, Done, BodyForm, PointForm, LineForm}
use Rattle.twkb_grammar.specs.Machine.{PolygonForm, MultiPointForm, MultiLineForm, MultiPolygonForm, Kind, SimpleKind}
use Rattle.twkb_grammar.specs.Machine.{CollectionKind, kind_number, kind_at, Head, Frame, Many, ManyPoints, ManyLines}
use Rattle.twkb_grammar.specs.Machine.{ManyPolygons, ManyGeometries, first_count, listed, Phase, AtHeader, AtMetadata}
use Rattle.twkb_grammar.specs.Machine.{AtOption, AtCount, AtId, AtBody, AtEnd, Finished, Sums, Stack, asked}
use Rattle.twkb_grammar.specs.Machine.{with_option}
use Rattle.twkb_body.specs.declared.member_ids.MemberIds.{MemberIds}

-- ==== The outline of a stack: the open geometries without the values that were read.

-- The ids of the members after some values.
abbrev pub ids_behind : {A : Type 0} → Ids → List A → Ids
ids_behind ids [] = ids
ids_behind ids (x ∷ xs) = ids_behind (other_ids ids) xs

-- The ids of the members after some geometries.
abbrev pub ids_after : Ids → Trees → Ids
ids_after ids end = ids
ids_after ids (g ▷ gs) = ids_after (other_ids ids) gs

-- The outline of a frame: its header, the ids from its open member on, and how many members are left
-- after that one.
pub record FrameOutline : Type 0 where
  pub head : Head
  pub ids : Ids
  pub left : ℕ

-- The place in a body: a count, or at depth 0 an x, is expected; a y is expected; or the body is
-- complete. For each open list, innermost first, it has the number of values left after the open
-- one.
pub data BodyPlace : Type 0 where
  Wanted : (d : ℕ) → (lefts : List ℕ) → BodyPlace
  WantedY : (lefts : List ℕ) → BodyPlace
  Full : BodyPlace

-- What is expected next in the open geometry. For a body it has the ids from the open member on.
pub data Stage : Type 0 where
  OnHeader : Stage
  OnMetadata : Kind → ℤ → Stage
  OnOption : Kind → Head → Role → List Role → Stage
  OnCount : Many → Head → Stage
  OnId : Many → Head → (members : ℕ) → (ids : List ℤ) → (left : ℕ) → Stage
  OnBody : Head → (f : BodyForm) → Ids → BodyPlace → Stage
  OnEnd : Head → Stage
  OnFinished : Stage

-- The open collections, innermost first, and the stage of the geometry in the innermost.
abbrev pub Outline : Type 0
Outline = List FrameOutline × Stage

-- ---- the outline of a stack

-- The outline of an open collection.
abbrev pub frame_outline : Frame → FrameOutline
frame_outline f = record { head = f.head; ids = ids_after f.ids f.done; left = f.left }

-- The number of values left in each list around a value.
abbrev pub lefts_of : {whole d : ℕ} → Around whole d → List ℕ
lefts_of top = []
lefts_of (within done left a) = left ∷ lefts_of a

-- The ids from the open member on.
abbrev pub ids_left : {whole d : ℕ} → Ids → Around whole d → Ids
ids_left ids top = ids
ids_left ids (within done left top) = ids_behind ids done
ids_left ids (within done left (within others more a)) = ids_left ids (within others more a)

-- The outline of a body.
abbrev pub body_stage : {whole : ℕ} → Head → BodyForm → Ids → Body whole → Stage
body_stage h f ids (Want d a) = OnBody h f (ids_left ids a) (Wanted d (lefts_of a))
body_stage h f ids (WantY a) = OnBody h f (ids_left ids a) (WantedY (lefts_of a))
body_stage h f ids (Done v) = OnBody h f ids Full

-- The outline of a phase.
abbrev pub stage_of : Phase → Stage
stage_of AtHeader = OnHeader
stage_of (AtMetadata k p) = OnMetadata k p
stage_of (AtOption k h r rs) = OnOption k h r rs
stage_of (AtCount m h) = OnCount m h
stage_of (AtId m h n ids left) = OnId m h n ids left
stage_of (AtBody h f ids b) = body_stage h f ids b
stage_of (AtEnd h g) = OnEnd h
stage_of (Finished g) = OnFinished

-- The outline of a stack.
abbrev pub outline_of : Stack → Outline
outline_of st = (map frame_outline st.0, stage_of st.1)

-- ---- the role of the next item

-- The role of the next item in a body.
abbrev pub place_role : BodyPlace → Option Role
place_role (Wanted zero lefts) = Some X
place_role (Wanted (suc d) lefts) = Some (Count (listed d))
place_role (WantedY lefts) = Some Y
place_role Full = None

-- The role of the next item, inside `level` collections and after this many bytes.
abbrev pub stage_role : (level bytes : ℕ) → Stage → Option Role
stage_role level bytes OnHeader = Some Header
stage_role level bytes (OnMetadata k p) = Some (Metadata (kind_number k))
stage_role level bytes (OnOption k h r rs) = Some r
stage_role level bytes (OnCount m h) = Some (Count (first_count m level))
stage_role level bytes (OnId m h n ids left) = Some Id
stage_role level bytes (OnBody h f ids s) = place_role s
stage_role level bytes (OnEnd h) = Some (End h.size (bytes - h.from))
stage_role level bytes OnFinished = None

-- The role of the next item of an outline.
abbrev pub outline_role : Sums → Outline → Option Role
outline_role e o = stage_role (length o.0) e.bytes o.1

-- ---- the outline after an item

-- The ids from the next value on, in a list inside these lists: only members have ids.
abbrev pub next_ids : List ℕ → Ids → Ids
next_ids [] ids = other_ids ids
next_ids (left ∷ lefts) ids = ids

-- A value of depth d is complete: the next one of its list is expected, or the list is complete too.
abbrev pub shut : Head → BodyForm → Ids → (d : ℕ) → List ℕ → Stage
shut h f ids d [] = OnEnd h
shut h f ids d (zero ∷ lefts) = shut h f ids (suc d) lefts
shut h f ids d (suc left ∷ lefts) = OnBody h f (next_ids lefts ids) (Wanted d (left ∷ lefts))

-- A list of n values of depth d begins.
abbrev pub listing : Head → BodyForm → Ids → (d n : ℕ) → List ℕ → Stage
listing h f ids d zero lefts = shut h f ids (suc d) lefts
listing h f ids d (suc n) lefts = OnBody h f ids (Wanted d (n ∷ lefts))

-- The stage after a number in a body.
abbrev pub place_after : Head → BodyForm → Ids → ℕ → BodyPlace → Stage
place_after h f ids n (Wanted zero lefts) = OnBody h f ids (WantedY lefts)
place_after h f ids n (Wanted (suc d) lefts) = listing h f ids d n lefts
place_after h f ids n (WantedY lefts) = shut h f ids 0 lefts
place_after h f ids n Full = OnEnd h

-- The body begins.
abbrev pub begins : Kind → Head → Stage
begins (SimpleKind PointForm) h = OnBody h PointForm None (Wanted 0 [])
begins (SimpleKind LineForm) h = OnBody h LineForm None (Wanted 1 [])
begins (SimpleKind PolygonForm) h = OnBody h PolygonForm None (Wanted 2 [])
begins (SimpleKind MultiPointForm) h = OnCount ManyPoints h
begins (SimpleKind MultiLineForm) h = OnCount ManyLines h
begins (SimpleKind MultiPolygonForm) h = OnCount ManyPolygons h
begins CollectionKind h = OnCount ManyGeometries h

-- The next optional part is expected; after the last one the body begins, unless bit 4 says that
-- there is none.
abbrev pub options : Kind → Head → List Role → Stage
options k h (r ∷ rs) = OnOption k h r rs
options k h [] = if bit h.meta 4 then OnEnd h else begins k h

-- The n members begin, after their ids.
abbrev pub members_open : Many → Head → List FrameOutline → Ids → ℕ → Outline
members_open ManyPoints h gs ids n = (gs, listing h MultiPointForm ids 0 n [])
members_open ManyLines h gs ids n = (gs, listing h MultiLineForm ids 1 n [])
members_open ManyPolygons h gs ids n = (gs, listing h MultiPolygonForm ids 2 n [])
members_open ManyGeometries h gs ids zero = (gs, OnEnd h)
members_open ManyGeometries h gs ids (suc n) = (record { head = h; ids = ids; left = n } ∷ gs, OnHeader)

-- A count of n members was read.
abbrev pub many_counted : Many → Head → List FrameOutline → ℕ → Outline
many_counted m h gs zero = members_open m h gs None 0
many_counted m h gs (suc n) = if bit h.meta 2 then (gs, OnId m h (suc n) [] n) else members_open m h gs None (suc n)

-- A geometry is complete.
abbrev pub outline_ended : List FrameOutline → Outline
outline_ended [] = ([], OnFinished)
outline_ended (g ∷ gs) = elim g.left [
  | zero ↦ (gs, OnEnd g.head)
  | suc n ↦ (record { head = g.head; ids = other_ids g.ids; left = n } ∷ gs, OnHeader)
]

-- The outline after an item with this number, which ends after `bytes` bytes.
abbrev pub outline_advanced : (bytes n : ℕ) → Outline → Outline
outline_advanced bytes n (gs, OnHeader) = (gs, OnMetadata (kind_at (n % 16)) (unzigzag_of (n / 16)))
outline_advanced bytes n (gs, OnMetadata k precision) = (
  gs,
  options k (record { precision = precision; meta = n; size = None; from = bytes })
      (asked n),
)
outline_advanced bytes n (gs, OnOption k h r rs) = (gs, options k (with_option h r n bytes) rs)
outline_advanced bytes n (gs, OnCount m h) = many_counted m h gs n
outline_advanced bytes n (gs, OnId m h members ids zero) = members_open m h gs
    (Some (ids ++ unzigzag_of n ∷ [])) members
outline_advanced bytes n (gs, OnId m h members ids (suc left)) = (gs, OnId m h members (ids ++ unzigzag_of n ∷ []) left)
outline_advanced bytes n (gs, OnBody h f ids s) = (gs, place_after h f ids n s)
outline_advanced bytes n (gs, OnEnd h) = outline_ended gs
outline_advanced bytes n (gs, OnFinished) = (gs, OnFinished)

-- A geometry ends after these bytes; its size is exact or not. With it ends each collection whose
-- last member it is, as long as their sizes are exact.
abbrev pub outline_past_end : Bool → ℕ → List FrameOutline → Result Outline Reason
outline_past_end false bytes gs = Err SizeMismatch
outline_past_end true bytes [] = Ok ([], OnFinished)
outline_past_end true bytes (g ∷ gs) = elim g.left [
  | zero ↦ outline_past_end (is_exact g.head.size (bytes - g.head.from)) bytes gs
  | suc n ↦ Ok (record { head = g.head; ids = other_ids g.ids; left = n } ∷ gs, OnHeader)
]

-- The outline after the ends that follow an item.
abbrev pub outline_ends : ℕ → Outline → Result Outline Reason
outline_ends bytes (gs, OnEnd h) = outline_past_end (is_exact h.size (bytes - h.from)) bytes gs
outline_ends bytes (gs, s) = Ok (gs, s)

-- The outline of a stack, if there is one.
abbrev pub outline_in : Result Stack Reason → Result Outline Reason
outline_in (Ok st) = Ok (outline_of st)
outline_in (Err reason) = Err reason

-- ==== The ids of members.

-- from the open member on
abbrev pub ids_of : MemberIds → Ids
ids_of m = if m.has_ids then Some (reverse m.ids.items) else None

-- those that were read so far, if some are still to come
abbrev pub ids_read : MemberIds → List ℤ
ids_read m = m.ids.items
