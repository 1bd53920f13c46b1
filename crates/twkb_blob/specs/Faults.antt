-- The reasons of a fault, and what an engine answers that is fed a piece or held bytes.
use Rattle.std.specs.Prelude.{ℕ, ◌<◌, ◌≤◌, List, ◌++◌, length, take, ◌≡◌, ◌+◌, ◌-◌, [], Bool, true, false}
use Rattle.std.specs.Prelude.{if◌then◌else◌, Result, Ok, Err, IfOk, IfSome}
use Rattle.twkb_tree.specs.Tree.{Tree}
use Rattle.twkb_tree.specs.Limits.{Allowance}
use Rattle.twkb_engine.specs.Stops.{Stop, reason_of}
use Rattle.twkb_flat.specs.declared.stop.Stop.TheVariants.{Memory, Refused}
use Rattle.twkb_blob.specs.declared.fault.BlobFault.{BlobFault}
use Rattle.twkb_blob.specs.declared.fault.BlobFault.TheVariants as fault
use Rattle.twkb_grammar.specs.Fault.{Reason, StreamFault, FirstFault}
use Rattle.std.specs.Io.KnownBytes.{IsAtEnd}
use Rattle.std.specs.declared.io.traits.Read.{Ghosts}
use Rattle.twkb_io.specs.declared.TheConstants.{MAX_BYTES}
use Rattle.twkb_tree.specs.Rows.{Row, rows}
use Rattle.twkb_grammar.specs.Noting.{Notes}
use Rattle.twkb_io.specs.Taps.{count_failure}
use Rattle.twkb_io.specs.Inputs.{input_failures, input_tap, is_spent, rest_of}
use Rattle.twkb_io.specs.declared.input.Input.{Input}
use Rattle.twkb_io.specs.declared.input.InFault.TheVariants.{TooLong}
use Rattle.twkb_engine.specs.State.{allowance_of}
use Rattle.twkb_engine.specs.Standing.{StandsAt, IsAlive, FedBy, HoldsSpans, notes_at, count_of, offset_in}
use Rattle.twkb_engine.specs.declared.engine.Engine.{Engine}
use Rattle.twkb_flat.specs.declared.stop.Stop.TheVariants as stop
use Rattle.twkb_blob.specs.Readers.{AreCutOff, Left, HasNone, Makes, PartAhead, failed_by_read}

-- ==== The reasons of a fault, as the grammar has them.

-- an engine that stops at this offset
abbrev pub fault_of : ℕ → Stop → BlobFault
fault_of offset Memory = fault.Memory
fault_of offset (Refused reason) = fault.At offset reason

-- a byte of the piece is the last of an item that is refused, or of a geometry whose size is wrong, whatever follows it
pub record RefusedAt (limits : Allowance) (bytes : List ℕ) (gs : List Tree) (piece : List ℕ)
    (offset : ℕ) (reason : Reason) : Type 0 where
  pub used : ℕ
  pub some : 0 < used
  pub within : used ≤ length piece
  pub fault : (more : List ℕ) → StreamFault limits ((bytes ++ take used piece) ++ more) gs offset reason

-- ==== What an engine answers that is fed a piece, or the held bytes of an input.

-- What it answers to a piece: the same as to any bytes, with the offset at which it stopped; or the
-- stream has no room for all of it, and no blob ends in what it has room for.
abbrev pub FedPiece : {S : Type 0} → (S → Notes → Type 0) → Engine → List Row → S → List ℕ
    → Result (ℕ × Bool) BlobFault → Engine → List Row → S → Type 0
FedPiece holds d rs old piece (Ok fed) e more new = FedBy holds d rs old piece (Ok fed) e more new
FedPiece holds d rs old piece (Err fault.Memory) e more new = FedBy holds d rs old piece (Err stop.Memory) e more new
FedPiece holds d rs old piece (Err (fault.At offset reason)) e more new =
    FedBy holds d rs old piece (Err (stop.Refused reason)) e more new × (offset ≡ d.start + offset_in e)
FedPiece holds d rs old piece (Err (fault.Device why)) e more new =
    (why ≡ TooLong) × (MAX_BYTES < (d.start + count_of d) + length piece)
    × ((bs : List ℕ) → StandsAt bs rs d → AreCutOff (allowance_of d)
    (bs ++ take (MAX_BYTES - (d.start + count_of d)) piece))
FedPiece holds d rs old piece (Err fault.Spent) e more new = ⊥

-- That is its answer, and its limits stay; no read failed. All bytes are taken if no blob ends, no
-- more than there are and no more than 2^62 of the stream; it can be fed on.
pub record Feeds {S : Type 0} (holds : S → Notes → Type 0) (d : Engine) (rs : List Row) (old : S)
    (piece : List ℕ) (answer : Result (ℕ × Bool) BlobFault) (e : Engine) (more : List Row)
    (new : S) : Type 0 where
  pub limits : e.limits ≡ d.limits
  pub fed : FedPiece holds d rs old piece answer e more new
  pub within : IfOk answer (λ fed. fed.0 ≤ length piece)
  pub all : IfOk answer (λ fed. fed.1 ≡ false → fed.0 ≡ length piece)
  pub few : IfOk answer (λ fed. e.start + count_of e ≤ MAX_BYTES)
  pub alive : IfOk answer (λ fed. IsAlive (if fed.1 then [] else more) e)
  pub unread : failed_by_read answer ≡ false

-- Why the end of a stream is refused, after these bytes, which began at this offset.
abbrev pub IsCutAt : Allowance → (start : ℕ) → List ℕ → BlobFault → Type 0
IsCutAt limits start bs (fault.At offset reason) = (within : ℕ)
    × FirstFault limits bs within (reason_of reason) × (offset ≡ start + within)
IsCutAt limits start bs _ = ⊥

-- What the end of a stream is answered: there are no bytes, or they end inside a blob.
abbrev pub EndsAt : {A : Type 0} → Allowance → (start : ℕ) → List ℕ → Result A BlobFault → Type 0
EndsAt limits start bs (Ok done) = bs ≡ []
EndsAt limits start bs (Err why) = IsCutAt limits start bs why

-- Why no blob of an input was read, after these bytes of it, which began at this offset: there was
-- no memory, or the known bytes have a first fault; or the input gave no byte after some.
abbrev pub ReadsNoBlob : Allowance → (start : ℕ) → List ℕ → {R : Type 0} {read : Ghosts R} → Input R read
    → Input R read → BlobFault → Type 0
ReadsNoBlob limits start bs old new fault.Memory = PartAhead limits bs old
ReadsNoBlob limits start bs old new (fault.At offset reason) =
    IfSome (rest_of old) (λ rest. (within : ℕ) × FirstFault limits (bs ++ rest) within
    (reason_of reason) × (offset ≡ start + within))
ReadsNoBlob limits start bs old new (fault.Device why) =
    (bytes : List ℕ) × Left old new bytes × AreCutOff limits (bs ++ bytes) × HasNone why old new
ReadsNoBlob limits start bs old new fault.Spent = ⊥

-- What it answers that reads a blob of an input, after these bytes of it: some that left end the
-- blob, whose rows and spans it has; or the input ended, and there are no bytes; or it halts.
abbrev pub ReadsBlob : {S : Type 0} → (S → Notes → Type 0) → (told : Type 0) → Allowance
    → (start : ℕ) → List ℕ → {R : Type 0} {read : Ghosts R} → Input R read → Input R read
    → Result Bool BlobFault → Engine → List Row → S → Type 0
ReadsBlob holds told limits start bs old new (Ok true) e more spans =
    (g : Tree) × (made : Makes limits bs old new g)
    × (told → HoldsSpans holds spans start made.blob) × (more ≡ rows 0 g)
    × StandsAt [] [] e × (e.start ≡ start + length (bs ++ made.bytes))
ReadsBlob holds told limits start bs old new (Ok false) e more spans = (bytes : List ℕ)
    × Left old new bytes × IsAtEnd (rest_of new) × (bs ++ bytes ≡ [])
ReadsBlob holds told limits start bs old new (Err why) e more spans = ReadsNoBlob limits start bs old new why

-- What a call says that reads a blob of an input, wherever its engine stands.
pub record Reads {S : Type 0} (holds : S → Notes → Type 0) {R : Type 0} {read : Ghosts R}
    (d : Engine) (rs : List Row) (told : S) (old new : Input R read)
    (answer : Result Bool BlobFault) (e : Engine) (more : List Row) (spans : S) : Type 0 where
  pub same_tap : (input_tap new).ghost_name ≡ (input_tap old).ghost_name
  pub failures : input_failures new ≡ count_failure (failed_by_read answer) (input_failures old)
  pub limits : e.limits ≡ d.limits
  pub blob : (bs : List ℕ) (s : StandsAt bs rs d)
      → ReadsBlob holds (holds told (notes_at s)) (allowance_of d) d.start bs old new answer
      e more spans

-- Bytes left an input, and led an engine on within its blob.
pub record Goes {S : Type 0} (holds : S → Notes → Type 0) {R : Type 0} {read : Ghosts R}
    (d : Engine) (rs : List Row) (told : S) (old new : Input R read) (e : Engine) (more : List Row)
    (spans : S) : Type 0 where
  pub bytes : List ℕ
  pub left : Left old new bytes
  pub leads : (bs : List ℕ) (s : StandsAt bs rs d) → (t : StandsAt (bs ++ bytes) more e)
      × (holds told (notes_at s) → holds spans (notes_at t)) × (e.start ≡ d.start)
  pub limits : e.limits ≡ d.limits
  pub same_tap : (input_tap new).ghost_name ≡ (input_tap old).ghost_name
  pub failures : input_failures new ≡ input_failures old
  pub live : is_spent new ≡ false

-- What it answers that feeds an engine what an input holds: no blob ended, or a blob was read, or none can be.
abbrev pub Turns : {S : Type 0} → (S → Notes → Type 0) → {R : Type 0} {read : Ghosts R} → Engine
    → List Row → S → Input R read → Input R read → Result Bool BlobFault → Engine → List Row
    → S → Type 0
Turns holds d rs told old new (Ok false) e more spans = Goes holds d rs told old new e more spans
Turns holds d rs told old new (Ok true) e more spans = Reads holds d rs told old new (Ok true) e more spans
Turns holds d rs told old new (Err why) e more spans = Reads holds d rs told old new (Err why) e more spans

-- What a call says of a blob that it reads from here on, it says from there on.
pub record Onto {S : Type 0} (holds : S → Notes → Type 0) {R : Type 0} {read : Ghosts R}
    (d : Engine) (rs : List Row) (told : S) (a : Input R read) (e : Engine) (mid : List Row)
    (now : S) (b : Input R read) : Type 0 where
  pub back : (c : Input R read) (answer : Result Bool BlobFault) (x : Engine) (more : List Row)
      (v : S) → Reads holds e mid now b c answer x more v
      → Reads holds d rs told a c answer x more v
