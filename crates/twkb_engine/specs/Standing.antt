-- What an engine stands for.
use Rattle.std.specs.Prelude.{◌≡◌, ◌⊎◌, ℕ, ◌+◌, ◌<◌, ◌≤◌, ◌^◌, List, [], ◌++◌, length, take, Bool, true, false}
use Rattle.std.specs.Prelude.{Result, Ok, Err, IfOk, OnErr, ⊤}
use Rattle.twkb_tree.specs.Tree.{Tree}
use Rattle.twkb_tree.specs.Limits.{Allowance}
use Rattle.twkb_tree.specs.Rows.{Row, rows}
use Rattle.twkb_grammar.specs.Roles.{Role}
use Rattle.twkb_grammar.specs.Reading.{Gives}
use Rattle.twkb_grammar.specs.Items.{Blob}
use Rattle.twkb_grammar.specs.Fault.{FirstFault, Reason, Truncated, IsCut, IsTooLong}
use Rattle.twkb_grammar.specs.Noting.{Notes, spans_of_blob}
use Rattle.twkb_body.specs.Reading.{Outlined, notes_in}
use Rattle.twkb_engine.specs.State.{IsPlaced, IsNext, allowance_of, sums_of, outline_in}
use Rattle.twkb_engine.specs.Fits.{IsByte}
use Rattle.twkb_engine.specs.Caps.{place_cap}
use Rattle.twkb_body.specs.HeaderParts.{PartIn}
use Rattle.twkb_body.specs.declared.numbers.FrontNumber.{FrontNumber}
use Rattle.twkb_body.specs.declared.numbers.FrontNumber.TheVariants.{Complete, Cut, TooLong}
use Rattle.twkb_body.specs.Running.{ListRuns, ListStops}
use Rattle.twkb_engine.specs.Taking.{Stays}
use Rattle.twkb_engine.specs.Stops.{Stop, reason_of}
use Rattle.twkb_engine.specs.declared.next_item.NextItem.{NextItem}
use Rattle.twkb_engine.specs.declared.engine.Engine.{Engine}
use Rattle.twkb_flat.specs.declared.stop.Stop.TheVariants.{Memory, Refused}

-- the bytes of the items that it took since the blob's start
abbrev pub offset_in : Engine → ℕ
offset_in d = d.bytes

-- the bytes that it holds of a number that is not complete
abbrev pub held_in : Engine → List ℕ
held_in d = d.held

-- the bytes that it took since the blob's start
abbrev pub count_of : Engine → ℕ
count_of d = offset_in d + length (held_in d)

-- the points that were announced since the blob's start
abbrev pub points_in : Engine → ℕ
points_in d = d.points

-- where the next item begins, in bytes from the stream's start
abbrev pub place_in : Engine → ℕ
place_in d = d.start + d.bytes

-- the bytes are a blob so far: complete items, which are a part with these rows, and after them the
-- first bytes of a number
pub record StandsAt (bytes : List ℕ) (rs : List Row) (d : Engine) : Type 0 where
  pub front : List ℕ
  pub whole : bytes ≡ front ++ held_in d
  pub outlined : Outlined (allowance_of d) front (sums_of d) (outline_in d) rs
  pub placed : IsPlaced d.next d
  pub spelled : (IsByte d.next → ⊥) ⊎ (held_in d ≡ [])

-- some bytes are a blob so far, with these rows; which, is not said
abbrev pub IsAlive : List Row → Engine → Type 0
IsAlive rs d = ∥ ((bytes : List ℕ) × StandsAt bytes rs d) ∥₁

-- it stands somewhere, and there is room for this number of bytes
pub record IsReady (rs : List Row) (d : Engine) (many : ℕ) : Type 0 where
  pub room : d.start + (count_of d + many) ≤ place_cap
  pub alive : IsAlive rs d

-- what was noted of the items that it took
abbrev pub notes_at : {bytes : List ℕ} {rs : List Row} {d : Engine} → StandsAt bytes rs d → Notes
notes_at {d = d} s = notes_in d.start s.outlined

-- Wherever the engine stands, with these notes held, these bytes lead it on within its blob, and
-- the notes of their items are held.
abbrev pub LeadsOn : {S : Type 0} → (S → Notes → Type 0) → List Row → Engine → S → List ℕ → List Row
    → Engine → S → Type 0
LeadsOn holds rs d old bytes more e new = (front : List ℕ) (s : StandsAt front rs d)
    → (t : StandsAt (front ++ bytes) more e) × (holds old (notes_at s) → holds new (notes_at t))

-- Wherever the engine stands, these bytes lead it on within its blob, and note nothing.
abbrev pub LeadsQuietly : List Row → Engine → List ℕ → List Row → Engine → Type 0
LeadsQuietly rs d bytes more e = (front : List ℕ) (s : StandsAt front rs d)
    → (t : StandsAt (front ++ bytes) more e) × (notes_at t ≡ notes_at s)

-- this number of bytes says this number in the role of the next item
pub record SaysNext (d : Engine) (bytes : List ℕ) (n count : ℕ) : Type 0 where
  pub some : 0 < count
  pub within : count ≤ length bytes
  pub fits : IsByte d.next → (n < 256) × (count ≡ 1)
  pub gives : (r : Role) → IsNext r d → Gives r n (take count bytes)

-- the next item at the start of the bytes is complete, or it is a number that is cut or too long, as the answer says
abbrev pub IsFrontItem : Engine → List ℕ → FrontNumber → Type 0
IsFrontItem d bytes (Complete n count) = SaysNext d bytes n count
IsFrontItem d bytes Cut = (IsByte d.next → ⊥) × IsCut bytes
IsFrontItem d bytes TooLong = (IsByte d.next → ⊥) × IsTooLong bytes

-- this item comes next, with this number, in this number of bytes, for which there is room
pub record ComesNext (item : NextItem) (rs : List Row) (d : Engine) (n width : ℕ) : Type 0 where
  pub next : d.next ≡ item
  pub room : d.start + (d.bytes + width) ≤ place_cap
  pub wide : n < 2 ^ 64
  pub alive : IsAlive rs d

-- this item comes next, no byte of it is held, and there is room for this number of bytes
pub record IsAhead (item : NextItem) (d : Engine) (many : ℕ) : Type 0 where
  pub next : d.next ≡ item
  pub room : place_in d + many ≤ place_cap
  pub alone : held_in d ≡ []

-- wherever the engine stands, a prefix of these bytes ends a part that was judged
abbrev pub StopsIn : List Row → Engine → List ℕ → Type 0
StopsIn rs d bytes = (front : List ℕ) → StandsAt front rs d → PartIn (allowance_of d) front bytes

-- What an engine answers that takes many items at once: so many bytes lead it on within its blob,
-- and note nothing; or there is no memory for one of them.
pub record TakesMany {E : Type 0} (rs : List Row) (d : Engine) (bytes : List ℕ) (answer : Result ℕ E)
    (more : List Row) (e : Engine) : Type 0 where
  pub within : IfOk answer (λ used. used ≤ length bytes)
  pub led : IfOk answer (λ used. LeadsQuietly rs d (take used bytes) more e)
  pub memory : OnErr answer (StopsIn rs d bytes)
  pub stays : Stays d e

-- it is so many bytes further in the same body; its position and the number of points left in its
-- open list may be any
pub record MovesOn (d : Engine) (used : ℕ) (e : Engine) : Type 0 where
  pub bytes : e.bytes ≡ d.bytes + used
  pub nodes : e.nodes ≡ d.nodes
  pub points : e.points ≡ d.points
  pub collections : e.collections ≡ d.collections
  pub head : e.head ≡ d.head
  pub ids : e.ids ≡ d.ids
  pub members_left : e.members_left ≡ d.members_left
  pub rings_left : e.rings_left ≡ d.rings_left
  pub next : e.next ≡ d.next

-- What an engine answers that takes points of the open list, each of a byte or more, and does not go
-- past its end: so many bytes are points that came to the last row; or there is no memory for one.
pub record TakesList {E : Type 0} (rs : List Row) (d : Engine) (bytes : List ℕ) (answer : Result ℕ E)
    (more : List Row) (e : Engine) : Type 0 where
  pub within : IfOk answer (λ used. used ≤ length bytes)
  pub long : IfOk answer (λ used. d.points_left ≤ e.points_left + used)
  pub run : IfOk answer (λ used. ListRuns rs d.position d.points_left (take used bytes) e.points_left
      more e.position)
  pub moves : IfOk answer (λ used. MovesOn d used e)
  pub memory : OnErr answer (ListStops rs d.position d.points_left bytes)
  pub stays : Stays d e

-- a byte of the piece is the last of an item that is refused, whatever follows
pub record RefusedIn (limits : Allowance) (bs piece : List ℕ) (offset : ℕ) (reason : Reason) : Type 0 where
  pub used : ℕ
  pub some : 0 < used
  pub within : used ≤ length piece
  pub fault : (more : List ℕ) → FirstFault limits ((bs ++ take used piece) ++ more) offset reason

-- a byte of the piece is the last of a blob, whose rows these are, and none after it was used
pub record MadeIn (limits : Allowance) (bs piece : List ℕ) (used : ℕ) (rs : List Row) : Type 0 where
  pub some : 0 < used
  pub within : used ≤ length piece
  pub geometry : Tree
  pub blob : Blob limits (bs ++ take used piece) geometry
  pub made : rs ≡ rows 0 geometry

-- the notes are those of a blob of these bytes, which begins at this offset
abbrev pub HoldsSpans : {S : Type 0} → (S → Notes → Type 0) → S → (start : ℕ)
    → {limits : Allowance} {bytes : List ℕ} {g : Tree} → Blob limits bytes g → Type 0
HoldsSpans holds new start b = (w : Notes) × holds new w × (w.spans ≡ spans_of_blob start b)

-- What an engine answers to a piece: bytes of it were used, after which it stands with their notes;
-- or those up to the end of a blob, whose rows and spans it has; or there was no memory for an item
-- of it, or one was refused.
abbrev pub IsFed : {S : Type 0} → (S → Notes → Type 0) → (told : Type 0) → Allowance → (start : ℕ)
    → List ℕ → List ℕ → Result (ℕ × Bool) Stop → List Row → Engine → S → Type 0
IsFed holds told limits start bs piece (Ok (used, false)) rs d new = (used ≤ length piece)
    × (d.start ≡ start) × (s : StandsAt (bs ++ take used piece) rs d)
    × (told → holds new (notes_at s))
IsFed holds told limits start bs piece (Ok (used, true)) rs d new =
    (m : MadeIn limits bs piece used rs) × (told → HoldsSpans holds new start m.blob)
    × StandsAt [] [] d × (d.start ≡ start + (length bs + used))
IsFed holds told limits start bs piece (Err Memory) rs d new = PartIn limits bs piece
IsFed holds told limits start bs piece (Err (Refused r)) rs d new = RefusedIn limits bs piece
    (offset_in d) (reason_of r)

-- an answer, with how many bytes were used
abbrev pub with_used : ℕ → Result Bool Stop → Result (ℕ × Bool) Stop
with_used used (Ok ends) = Ok (used, ends)
with_used used (Err stop) = Err stop

-- all bytes are used if no blob ends in them
abbrev pub TakesAll : ℕ → Result (ℕ × Bool) Stop → Type 0
TakesAll many (Ok (used, false)) = used ≡ many
TakesAll many _ = ⊤

-- there are no bytes, or they end inside a blob
abbrev pub IsEnd : Allowance → List ℕ → ℕ → Bool → Type 0
IsEnd limits bs offset true = bs ≡ []
IsEnd limits bs offset false = FirstFault limits bs offset Truncated

-- wherever the engine stands, that is its answer to the bytes; of the notes it is said if they were
-- those of its items before
abbrev pub FedBy : {S : Type 0} → (S → Notes → Type 0) → Engine → List Row → S → List ℕ
    → Result (ℕ × Bool) Stop → Engine → List Row → S → Type 0
FedBy holds d rs old bytes answer e more new = (bs : List ℕ) (s : StandsAt bs rs d)
    → IsFed holds (holds old (notes_at s)) (allowance_of d) d.start bs bytes answer more e new

-- that is its answer to the bytes, wherever it stands, and it keeps its limits
pub record IsAnswer {S : Type 0} (holds : S → Notes → Type 0) (d : Engine) (rs : List Row) (old : S)
    (bytes : List ℕ) (answer : Result (ℕ × Bool) Stop) (e : Engine) (more : List Row)
    (new : S) : Type 0 where
  pub limits : e.limits ≡ d.limits
  pub fed : FedBy holds d rs old bytes answer e more new
