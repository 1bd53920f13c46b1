-- The state of a reader that keeps an outline and rows, and the notes that it makes of spans.
use Rattle.std.specs.Prelude.{◌+ℤ◌, true, ◌≡◌, ℕ, suc, ◌+◌, ◌++◌, List, length, Option, Some, Result, Ok, Err, ⊤, []}
use Rattle.std.specs.Prelude.{◌∷◌}
use Rattle.twkb_num.specs.Varint.{IsVarint}
use Rattle.twkb_num.specs.Spelling.{unzigzag_of}
use Rattle.twkb_points.specs.Point.{Point, point_at}
use Rattle.twkb_tree.specs.Tree.{Ids}
use Rattle.twkb_tree.specs.Limits.{Allowance}
use Rattle.twkb_tree.specs.Rows.{Row, first_id}
use Rattle.twkb_grammar.specs.Roles.{Role, Item}
use Rattle.twkb_grammar.specs.Fault.{Reason, FirstFault, moved}
use Rattle.twkb_grammar.specs.Machine.{BodyForm, Head, depth_of, Sums, added, Stack, nothing}
use Rattle.twkb_grammar.specs.Reading.{in_range, objection, Reached, IsGiven}
use Rattle.twkb_body.specs.Outline.{FrameOutline, BodyPlace, Wanted, WantedY, Full, Stage, OnHeader, OnBody}
use Rattle.twkb_body.specs.Outline.{OnFinished, Outline, outline_of, outline_role, outline_advanced, shut, OnMetadata}
use Rattle.twkb_body.specs.Outline.{OnOption}
use Rattle.twkb_body.specs.Growing.{rows_so_far, Change, change_of, applied, point_change, id_in}
use Rattle.twkb_grammar.specs.Noting.{Notes, no_notes, noted, note_header, note_metadata, IsQuiet}

-- ==== The state of a reader that keeps an outline and rows, and no part of the tree.

-- The bytes are complete items that the machine ran through within the limits; these are the sums
-- after them, the outline of its stack, and the rows of the stack.
pub record Outlined (limits : Allowance) (bytes : List ℕ) (e : Sums) (o : Outline) (rs : List Row) : Type 0 where
  pub stack : Stack
  pub reached : Reached limits bytes e stack
  pub outline : outline_of stack ≡ o
  pub rows : rows_so_far stack ≡ rs

-- The outline after an item, before the ends that follow it.
abbrev pub outline_after : Sums → Item → Outline → Outline
outline_after e i o = outline_advanced (e.bytes + length i.bytes) i.number o

-- The change of the item.
abbrev pub change_after : Sums → Item → Outline → Change
change_after e i o = change_of (moved e.position i.role i.number) i.number o

-- The state of a reader after one more item.
abbrev pub OutlinedBehind : Allowance → List ℕ → Sums → Outline → List Row → Item → Type 0
OutlinedBehind limits bytes e o rs i = Outlined limits (bytes ++ i.bytes) (added e i)
    (outline_after e i o) (applied (change_after e i o) rs)

-- An item with this role is expected next.
abbrev pub Wants : Sums → Outline → Role → Type 0
Wants e o role = outline_role e o ≡ Some role

-- If this item is expected next, its bytes give its number, and this is the objection to it or
-- there is none, then `Holds` is true.
abbrev pub WithItem : Allowance → Sums → Outline → Item → Option Reason → Type 0 → Type 0
WithItem limits e o i against Holds = Wants e o i.role → IsGiven i
    → objection limits e i.role i.number ≡ against → Holds

-- The state of a reader after the ends, with its rows; or the first fault, whatever bytes follow.
abbrev pub OutlineLanded : Allowance → List ℕ → Sums → List Row → Result Outline Reason → Type 0
OutlineLanded limits bytes e rs (Ok o) = Outlined limits bytes e o rs
OutlineLanded limits bytes e rs (Err reason) = (rest : List ℕ) → FirstFault limits (bytes ++ rest) e.bytes reason

-- The open lists, and the value expected in them, are those of the form.
abbrev pub PlaceFits : ℕ → BodyPlace → Type 0
PlaceFits whole (Wanted d lefts) = d + length lefts ≡ whole
PlaceFits whole (WantedY lefts) = length lefts ≡ whole
PlaceFits whole Full = ⊤

-- The open lists of a stage, and the value expected in them, are those of its form.
abbrev pub StageFits : Stage → Type 0
StageFits (OnBody h f ids s) = PlaceFits (depth_of f) s
StageFits _ = ⊤

-- The number of open geometries.
abbrev pub open_count : Outline → ℕ
open_count (gs, OnHeader) = length gs
open_count (gs, OnFinished) = length gs
open_count (gs, _) = suc (length gs)

-- Two numbers spell the difference from one point to another, both in range.
pub record Pair (from : Point) (bytes : List ℕ) (to : Point) : Type 0 where
  pub x : ℕ
  pub y : ℕ
  pub x_bytes : List ℕ
  pub y_bytes : List ℕ
  pub whole : bytes ≡ x_bytes ++ y_bytes
  pub x_spelled : IsVarint x_bytes x
  pub y_spelled : IsVarint y_bytes y
  pub x_kept : in_range (from.x +ℤ unzigzag_of x) ≡ true
  pub y_kept : in_range (from.y +ℤ unzigzag_of y) ≡ true
  pub leads : to ≡ point_at (from.x +ℤ unzigzag_of x) (from.y +ℤ unzigzag_of y)

-- The sums after bytes that announce nothing and lead to a point.
abbrev pub sums_past : Sums → List ℕ → Point → Sums
sums_past e bytes to = record { bytes = e.bytes + length bytes; position = to; nodes = e.nodes; points = e.points }

-- The change of a point.
abbrev pub point_after : Point → List FrameOutline → Head → BodyForm → Ids → Change
point_after to gs h f ids = point_change to (length gs) (id_in gs) h.precision f (first_id ids)

-- If `Known` is true of a place where a point is expected, and its two numbers come next, then
-- `Holds` is true of the place after them: of the bytes, the sums, the outline, the point's
-- change and the rows.
abbrev pub AtPoint : (List ℕ → Sums → Outline → List Row → Type 0)
    → (List ℕ → Sums → Outline → Change → List Row → Type 0) → Type 0
AtPoint Known Holds = (front : List ℕ) (e : Sums) (gs : List FrameOutline) (h : Head) (f : BodyForm)
    (ids : Ids) (lefts : List ℕ) (rs : List Row) (bytes : List ℕ) (to : Point)
    → Known front e (gs, OnBody h f ids (Wanted 0 lefts)) rs → Pair e.position bytes to
    → Holds (front ++ bytes) (sums_past e bytes to) (gs, shut h f ids 0 lefts) (point_after to gs h f ids) rs

-- ==== The notes that a reader with an outline makes of spans.

-- The notes that the next byte adds at once, if it belongs to a header.
abbrev pub note_stage : Stage → (offset points byte : ℕ) → Notes → Notes
note_stage OnHeader offset points byte w = note_header offset points byte w
note_stage (OnMetadata k p) offset points byte w = note_metadata byte w
note_stage _ offset points byte w = w

-- The notes that items with these bytes add, if only the first item adds any: those of their
-- first byte, if it belongs to a header.
abbrev pub note_first : Stage → (offset points : ℕ) → List ℕ → Notes → Notes
note_first t offset points [] w = w
note_first t offset points (byte ∷ bytes) w = note_stage t offset points byte w

-- A part that a metadata byte asks for is neither a header nor an end.
abbrev pub IsCalmStage : Stage → Type 0
IsCalmStage (OnOption k h r rs) = IsQuiet r
IsCalmStage _ = ⊤

-- The notes of the items so far, if the blob begins at offset `start`.
abbrev pub notes_in : {limits : Allowance} {bytes : List ℕ} {e : Sums} {o : Outline} {rs : List Row}
    → (start : ℕ) → Outlined limits bytes e o rs → Notes
notes_in start r = noted start nothing no_notes r.reached.items

-- A reader is in this state, with these notes, which depend on where the blob begins.
pub record NotedOutline (limits : Allowance) (bytes : List ℕ) (e : Sums) (o : Outline)
    (rs : List Row) (told : ℕ → Notes) : Type 0 where
  pub outlined : Outlined limits bytes e o rs
  pub notes : (start : ℕ) → notes_in start outlined ≡ told start
