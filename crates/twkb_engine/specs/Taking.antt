-- What an engine makes of the next item, and what it notes of spans.
use Rattle.std.specs.Prelude.{◌≡◌, ◌+◌, ◌⊎◌, ℕ, List, [], Bool, true, false, Some, None, Result, Ok, Err, length}
use Rattle.std.specs.Prelude.{if◌then◌else◌, ◌/◌, get_or, IfOk, OnOk}
use Rattle.twkb_points.specs.Point.{Point, origin}
use Rattle.twkb_tree.specs.Rows.{Row, first_id}
use Rattle.twkb_grammar.specs.Bits.{bit}
use Rattle.twkb_grammar.specs.Roles.{Role, Count}
use Rattle.twkb_grammar.specs.Fault.{Reason, moved, nodes_by, points_by}
use Rattle.twkb_grammar.specs.Machine.{Sums, first_count}
use Rattle.twkb_grammar.specs.Reading.{objection}
use Rattle.twkb_body.specs.Outline.{Outline, OnFinished, Stage, OnEnd, options, shut, outline_advanced, outline_ends}
use Rattle.twkb_body.specs.Growing.{Change, NewRow, Nothing, change_of, applied, own_of, header_change, point_change}
use Rattle.twkb_body.specs.HeaderParts.{Passes}
use Rattle.twkb_body.specs.Header.{head_of, kind_of, form_of, many_of}
use Rattle.twkb_engine.specs.State.{sums_of, outline_in, ids_in, IsPlaced, IsHere}
use Rattle.twkb_engine.specs.Collections.{frames_of}
use Rattle.twkb_engine.specs.Fits.{lists_of}
use Rattle.twkb_engine.specs.Stops.{Stop, reason_of}
use Rattle.twkb_engine.specs.declared.next_item.NextItem.TheVariants as next
use Rattle.twkb_engine.specs.declared.engine.Engine.{Engine}
use Rattle.twkb_engine.specs.declared.end.Inexact.{Inexact}
use Rattle.twkb_engine.specs.declared.blob_reason.BlobReason.TheVariants.{SizeMismatch}
use Rattle.twkb_flat.specs.declared.stop.Stop.TheVariants.{Memory, Refused}
use Rattle.twkb_num.specs.Spelling.{unzigzag_of}
use Rattle.twkb_tree.specs.declared.kind.Kind.TheVariants as kinds
use Rattle.twkb_grammar.specs.Noting.{Notes, noted_by, note_ends_to}
use Rattle.twkb_grammar.specs.declared.span.Span.{Span}
use Rattle.twkb_body.specs.Reading.{open_count}

-- ==== What an engine makes of the next item.

-- the sums after an item of this role, number and width
abbrev pub sums_with : Sums → Role → (n width : ℕ) → Sums
sums_with e r n width = record {
  bytes = e.bytes + width;
  position = moved e.position r n;
  nodes = e.nodes + nodes_by r n;
  points = e.points + points_by r n;
}

-- the outline after it, past the ends; or why they are refused
abbrev pub way_of : (n width : ℕ) → Engine → Result Outline Reason
way_of n width d = outline_ends (d.bytes + width) (outline_advanced (d.bytes + width) n (outline_in d))

-- the grammar's first reason against it, if there is one
abbrev pub IsFree : Role → (n : ℕ) → Engine → Type 0
IsFree r n d = objection d.limits (sums_of d) r n ≡ None

-- the row or the point that it brings
abbrev pub brings : Role → (n : ℕ) → Engine → Change
brings r n d = change_of (moved d.position r n) n (outline_in d)

-- a blob begins, at this offset of the stream
pub record BeginsAt (offset : ℕ) (d : Engine) : Type 0 where
  pub start : d.start ≡ offset
  pub next : d.next ≡ next.TypeByte
  pub bytes : d.bytes ≡ 0
  pub nodes : d.nodes ≡ 1
  pub points : d.points ≡ 0
  pub position : d.position ≡ origin
  pub collections : frames_of d.collections ≡ []

-- it stays in its blob, with the limits that it had
pub record SameBlob (d e : Engine) : Type 0 where
  pub limits : e.limits ≡ d.limits
  pub start : e.start ≡ d.start

-- it stays in its blob, with the limits that it had and the bytes that it holds of a number
pub record Stays (d e : Engine) : Type 0 where
  pub limits : e.limits ≡ d.limits
  pub start : e.start ≡ d.start
  pub held : e.held ≡ d.held

-- it keeps its limits, and the bytes that it holds of a number
pub record Keeps (d e : Engine) : Type 0 where
  pub limits : e.limits ≡ d.limits
  pub held : e.held ≡ d.held

-- nothing but its header, its position and its ids changes
pub record SameBut (d e : Engine) : Type 0 where
  pub limits : e.limits ≡ d.limits
  pub start : e.start ≡ d.start
  pub bytes : e.bytes ≡ d.bytes
  pub nodes : e.nodes ≡ d.nodes
  pub points : e.points ≡ d.points
  pub collections : e.collections ≡ d.collections
  pub next : e.next ≡ d.next
  pub held : e.held ≡ d.held
  pub points_left : e.points_left ≡ d.points_left
  pub rings_left : e.rings_left ≡ d.rings_left
  pub members_left : e.members_left ≡ d.members_left

-- What an engine answers to an item of this role, number and width: it leads on past the ends after
-- it; or the blob ends with it; or it was judged, and so were the sizes that end with it, but there
-- is no memory for what it brings; or the grammar's first reason refuses it, or a size at its end.
abbrev pub Takes : Role → (n width : ℕ) → Engine → List Row → Result Bool Stop → Engine → List Row → Type 0
Takes r n width d rs (Ok false) e more = IsFree r n d × (way_of n width d ≡ Ok (outline_in e))
    × (sums_of e ≡ sums_with (sums_of d) r n width) × (more ≡ applied (brings r n d) rs)
    × SameBlob d e
Takes r n width d rs (Ok true) e more = IsFree r n d × (way_of n width d ≡ Ok ([], OnFinished))
    × (more ≡ applied (brings r n d) rs) × BeginsAt (d.start + (d.bytes + width)) e
Takes r n width d rs (Err Memory) e more = IsFree r n d × Passes (way_of n width d)
Takes r n width d rs (Err (Refused why)) e more =
    ((objection d.limits (sums_of d) r n ≡ Some (reason_of why)) × (e.bytes ≡ d.bytes))
    ⊎ (IsFree r n d × (way_of n width d ≡ Err (reason_of why)) × (e.bytes ≡ d.bytes + width))

-- What an engine answers from which this way leads on, with this change of the rows: it is further
-- on that way; or the blob ends; or there is no memory for the change, though the sizes were
-- judged; or one is wrong.
abbrev pub Lands : Result Outline Reason → Change → Engine → List Row → Result Bool Stop → Engine → List Row → Type 0
Lands way change d rs (Ok false) e more = (way ≡ Ok (outline_in e)) × (sums_of e ≡ sums_of d)
    × (more ≡ applied change rs) × SameBlob d e
Lands way change d rs (Ok true) e more = (way ≡ Ok ([], OnFinished)) × (more ≡ applied change rs)
    × BeginsAt (d.start + d.bytes) e
Lands way change d rs (Err Memory) e more = Passes way
Lands way change d rs (Err (Refused why)) e more = (way ≡ Err (reason_of why)) × (e.bytes ≡ d.bytes)

-- the answer to an item with which geometries end: a size may be wrong
abbrev pub judged_as : Result Bool Inexact → Result Bool Stop
judged_as (Ok ends) = Ok ends
judged_as (Err inexact) = Err (Refused SizeMismatch)

-- past this stage of the geometry that is read
abbrev pub past : Engine → Stage → Result Outline Reason
past d s = outline_ends d.bytes (frames_of d.collections, s)

-- past the end of the geometry that is read, and of the collections that end with it
abbrev pub past_end : Engine → Result Outline Reason
past_end d = past d (OnEnd (head_of d.head))

-- to what its header asks for from these parts on
abbrev pub past_parts : Engine → List Role → Result Outline Reason
past_parts d parts = past d (options (kind_of d.head.kind) (head_of d.head) parts)

-- its body, after a value of this depth that is done, in these lists
abbrev pub shut_at : Engine → (depth : ℕ) → List ℕ → Stage
shut_at d depth lists = shut (head_of d.head) (form_of d.head.kind) (ids_in d) depth lists

-- past such a value
abbrev pub past_value : Engine → (depth : ℕ) → List ℕ → Result Outline Reason
past_value d depth lists = past d (shut_at d depth lists)

-- the lists round a point that is the last of its list, or in none
abbrev pub last_lists : Engine → List ℕ
last_lists d = lists_of d.head.kind 0 d.rings_left d.members_left

-- past such a point
abbrev pub past_last : Engine → Result Outline Reason
past_last d = past_value d 0 (last_lists d)

-- its own row
abbrev pub own_row : Engine → Change
own_row d = NewRow (own_of d.head.depth d.head.id (kind_of d.head.kind) d.head.precision)

-- the role of the count of its members
abbrev pub count_role : Engine → Role
count_role d = Count (first_count (many_of d.head.kind) (length (frames_of d.collections)))

-- the row that a count of members brings, if there are any: its own, unless their ids come first
abbrev pub counted_row : Engine → Change
counted_row d = if bit d.head.metadata 2 then Nothing else own_row d

-- the row that its header brings, if these parts are still to come
abbrev pub header_row : Engine → List Role → Change
header_row d parts = header_change d.head.depth d.head.id (kind_of d.head.kind) d.head.precision d.head.metadata parts

-- what this point brings
abbrev pub point_row : Point → Engine → Change
point_row p d = point_change p d.head.depth d.head.id d.head.precision (form_of d.head.kind) (first_id (ids_in d))

-- ==== What an engine has noted of spans.

-- the number of geometries that are begun and not finished
abbrev pub open_in : Engine → ℕ
open_in d = open_count (outline_in d)

-- as many spans are open as geometries
abbrev pub AreOpen : Engine → Notes → Type 0
AreOpen d w = length w.begun ≡ open_in d

-- what an item of this role, number and width notes, and the ends after it: all, if the blob ends,
-- else those of the geometries that are open no more
abbrev pub notes_with : Role → (n width : ℕ) → (d e : Engine) → (ends : Bool) → Notes → Notes
notes_with r n width d e ends w = note_ends_to (if ends then 0 else open_in e)
    (d.start + (d.bytes + width)) (d.points + points_by r n) (noted_by d.start (sums_of d) r n w)

-- what the ends note that come after what an engine took: all, if the blob ends, else those of the
-- geometries that are open no more
abbrev pub notes_past : (d e : Engine) → (ends : Bool) → Notes → Notes
notes_past d e ends = note_ends_to (if ends then 0 else open_in e) (d.start + d.bytes) d.points

-- the notes that are held go on so
abbrev pub NotesGo : {S : Type 0} → (S → Notes → Type 0) → (Notes → Notes) → Engine → (old new : S) → Type 0
NotesGo holds told d old new = (w : Notes) → AreOpen d w → holds old w → holds new (told w)

-- the span of a point whose blob has these bytes and begins at this offset
abbrev pub point_span : (start : ℕ) (bytes : List ℕ) → Span
point_span start bytes = record {
  level = 0;
  offset = start;
  kind = kinds.Point;
  precision = unzigzag_of (get_or bytes 0 0 / 16);
  metadata = get_or bytes 1 0;
  length = length bytes;
  points = 1;
}

-- ==== The answer to an item, with what it notes.

-- What an engine makes of its next item, of this role, number and width: its answer, and what is noted of the
-- item and of the ends after it. The header stays in its place, and the engine keeps what it keeps at each item.
pub record TakesItem {S : Type 0} (holds : S → Notes → Type 0) (r : Role) (n width : ℕ) (d : Engine)
    (rs : List Row) (old : S) (answer : Result Bool Stop) (e : Engine) (more : List Row) (new : S) : Type 0 where
  pub taken : Takes r n width d rs answer e more
  pub noted : IfOk answer (λ ends. NotesGo holds (notes_with r n width d e ends) d old new)
  pub placed : IsPlaced d.next d → OnOk answer (IsPlaced e.next e)
  pub kept : Keeps d e

-- The same of an engine from which this way leads on, with this change of the rows.
pub record GoesOn {S : Type 0} (holds : S → Notes → Type 0) (way : Result Outline Reason) (change : Change)
    (d : Engine) (rs : List Row) (old : S) (answer : Result Bool Stop) (e : Engine) (more : List Row)
    (new : S) : Type 0 where
  pub landed : Lands way change d rs answer e more
  pub noted : IfOk answer (λ ends. NotesGo holds (notes_past d e ends) d old new)
  pub placed : IsHere d → OnOk answer (IsPlaced e.next e)
  pub kept : Keeps d e
