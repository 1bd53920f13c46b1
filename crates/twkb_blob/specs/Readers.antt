-- What a reader of an input answers.
use Rattle.std.specs.Prelude.{ℕ, ◌≡◌, ◌+◌, ◌<◌, ◌⊎◌, ◌↔◌, List, [], ◌++◌, length, Bool, true, false}
use Rattle.std.specs.Prelude.{Option, Some, None, IfSome, Result, Ok, Err, is_err, ⊤}
use Rattle.std.specs.Io.KnownBytes.{Consumes, IsAtEnd}
use Rattle.std.specs.declared.io.traits.Read.{Ghosts}
use Rattle.twkb_io.specs.declared.TheConstants.{MAX_BYTES}
use Rattle.twkb_tree.specs.Tree.{Tree}
use Rattle.twkb_tree.specs.Rows.{Row, rows}
use Rattle.twkb_tree.specs.Limits.{Allowance, IsValid, largest_limits}
use Rattle.twkb_grammar.specs.Items.{Blob}
use Rattle.twkb_grammar.specs.Fault.{FirstFault, Reason, Truncated}
use Rattle.twkb_io.specs.Taps.{count_failure, device_of}
use Rattle.twkb_io.specs.declared.input.Input.{Input}
use Rattle.twkb_io.specs.declared.input.InFault.TheVariants as stopped
use Rattle.twkb_io.specs.declared.input.InFault.{InFault}
use Rattle.twkb_io.specs.Inputs.{given, input_failures, input_tap, rest_of, is_spent as input_spent}
use Rattle.twkb_engine.specs.Stops.{reason_of}
use Rattle.twkb_engine.specs.State.{allowance_of}
use Rattle.twkb_engine.specs.Standing.{IsAlive, count_of}
use Rattle.twkb_engine.specs.declared.engine.Engine.{Engine}
use Rattle.twkb_body.specs.HeaderParts.{PartIn}
use Rattle.twkb_blob.specs.declared.fault.BlobFault.{BlobFault}
use Rattle.twkb_blob.specs.declared.fault.BlobFault.TheVariants as fault
use Rattle.twkb_blob.specs.declared.reader.Reader.{Reader}
use Rattle.twkb_blob.specs.declared.reader.State.{State}
use Rattle.twkb_blob.specs.declared.reader.State.TheVariants as state

-- its input
abbrev pub reader_input : {R : Type 0} {read : Ghosts R} → Reader R read → Input R read
reader_input r = r.input

-- its limits
abbrev pub reader_limits : {R : Type 0} {read : Ghosts R} → Reader R read → Allowance
reader_limits r = r.limits

-- whether this is the state after an error
abbrev pub spent_at : State → Bool
spent_at state.Ready = false
spent_at state.Ended = false
spent_at state.Spent = true

-- whether this is the state after the end
abbrev pub ended_at : State → Bool
ended_at state.Ready = false
ended_at state.Ended = true
ended_at state.Spent = false

-- the state after a call that found no geometry
abbrev pub stopped_at : Result Bool BlobFault → State
stopped_at (Ok found) = state.Ended
stopped_at (Err why) = state.Spent

-- whether a call answered an error
abbrev pub is_spent : {R : Type 0} {read : Ghosts R} → Reader R read → Bool
is_spent r = spent_at r.state

-- whether a call answered the end
abbrev pub has_ended : {R : Type 0} {read : Ghosts R} → Reader R read → Bool
has_ended r = ended_at r.state

-- this, if the reader answered neither an error nor the end
abbrev pub IfGoingOn : {R : Type 0} {read : Ghosts R} → Reader R read → Type 0 → Type 0
IfGoingOn r fact = is_spent r ≡ false → has_ended r ≡ false → fact

-- The engine took no byte of a blob that begins where the input is, and has these limits.
pub record IsAtBlob {R : Type 0} {read : Ghosts R} (limits : Allowance) (input : Input R read)
    (d : Engine) : Type 0 where
  pub alive : IsAlive [] d
  pub none : count_of d ≡ 0
  pub start : d.start ≡ given input
  pub same_limits : allowance_of d ≡ limits

-- An engine keeps pace with a reader: unless that answered an error or the end, it is where the next
-- blob begins, and has the reader's limits.
abbrev pub IsAbreast : {R : Type 0} {read : Ghosts R} → Reader R read → Engine → Type 0
IsAbreast r d = IfGoingOn r (IsAtBlob (reader_limits r) (reader_input r) d)

-- these bytes left the input, which counted them
pub record Left {R : Type 0} {read : Ghosts R} (old new : Input R read) (bytes : List ℕ) : Type 0 where
  pub consumed : Consumes (rest_of old) (rest_of new) bytes
  pub counted : given new ≡ given old + length bytes

-- what is known of the bytes that the device under an input still has
abbrev pub told_by : {R : Type 0} {read : Ghosts R} → Input R read → Option (List ℕ)
told_by {R} {read} input = read.remaining (device_of (input_tap input).now)

-- 2^62 bytes were given out, and there are more.
abbrev pub IsFull : {R : Type 0} {read : Ghosts R} → Input R read → Input R read → Type 0
IsFull old new = (given new ≡ MAX_BYTES) × IfSome (rest_of old) (λ rest. MAX_BYTES < given old + length rest)

-- why an input gave no further byte: its reader failed and no byte was held; it has more than 2^62
-- bytes; or it was refused before
abbrev pub HasNone : {R : Type 0} {read : Ghosts R} → InFault → Input R read → Input R read → Type 0
HasNone stopped.Read old new = rest_of new ≡ told_by new
HasNone stopped.TooLong old new = IsFull old new
HasNone stopped.Spent old new = input_spent old ≡ true

-- Why an input gave no byte: its reader failed, which its tap counts, and no byte was held; it has
-- more than 2^62 bytes; or it was refused before.
abbrev pub Stops : {R : Type 0} {read : Ghosts R} → InFault → Input R read → Input R read → Type 0
Stops stopped.Read old new = Left old new [] × (rest_of new ≡ told_by new)
Stops stopped.TooLong old new = Left old new [] × IsFull old new
Stops stopped.Spent old new = input_spent old ≡ true

-- There are no bytes, or they are cut inside a blob.
abbrev pub AreCutOff : Allowance → List ℕ → Type 0
AreCutOff limits bytes = (bytes ≡ []) ⊎ ((offset : ℕ) × FirstFault limits bytes offset Truncated)

-- The reader failed after these bytes, no prefix of which is a blob, and no further byte was held.
pub record FailsRead {R : Type 0} {read : Ghosts R} (limits : Allowance) (old new : Input R read) : Type 0 where
  pub bytes : List ℕ
  pub left : Left old new bytes
  pub cut_off : AreCutOff limits bytes
  pub none_held : rest_of new ≡ told_by new

-- After these bytes, no prefix of which is a blob, the input had given out all that it may, and has more.
pub record FailsLength {R : Type 0} {read : Ghosts R} (limits : Allowance) (old new : Input R read) : Type 0 where
  pub bytes : List ℕ
  pub left : Left old new bytes
  pub cut_off : AreCutOff limits bytes
  pub full : IsFull old new

-- why an input gave no byte after some that are no blob
abbrev pub StopsWithin : {R : Type 0} {read : Ghosts R} → Allowance → InFault → Input R read → Input R read → Type 0
StopsWithin limits stopped.Read old new = FailsRead limits old new
StopsWithin limits stopped.TooLong old new = FailsLength limits old new
StopsWithin limits stopped.Spent old new = Stops stopped.Spent old new

-- These bytes and some that left are a blob of this geometry, and the input refuses no call.
pub record Makes {R : Type 0} {read : Ghosts R} (limits : Allowance) (bs : List ℕ)
    (old new : Input R read) (g : Tree) : Type 0 where
  pub bytes : List ℕ
  pub left : Left old new bytes
  pub blob : Blob limits (bs ++ bytes) g
  pub unspent : input_spent new ≡ false

-- A prefix of the known bytes that an input has left, at least one byte long, ends a part that these bytes begin.
abbrev pub PartAhead : {R : Type 0} {read : Ghosts R} → Allowance → List ℕ → Input R read → Type 0
PartAhead limits bs input = IfSome (rest_of input) (λ rest. PartIn limits bs rest)

-- The known bytes have this first fault; the offset counts from where the input began to give out bytes.
pub record RefusedKnown (limits : Allowance) (before : ℕ) (rest : List ℕ) (offset : ℕ) (reason : Reason) : Type 0 where
  pub within : ℕ
  pub first : FirstFault limits rest within reason
  pub place : offset ≡ before + within

-- A geometry whose blob left the input; none at the input's end; the first fault of what the input
-- has left; or that the input gave no byte.
abbrev pub IsNext : {R : Type 0} {read : Ghosts R} → Allowance → Input R read → Input R read
    → Result (Option Tree) BlobFault → Type 0
IsNext limits old new (Ok (Some g)) = Makes limits [] old new g
IsNext limits old new (Ok None) = IsAtEnd (rest_of old) × Left old new []
IsNext limits old new (Err fault.Memory) = ⊤
IsNext limits old new (Err (fault.Device why)) = StopsWithin limits why old new
IsNext limits old new (Err fault.Spent) = ⊥
IsNext limits old new (Err (fault.At offset reason)) = IfSome (rest_of old)
    (λ rest. RefusedKnown limits (given old) rest offset (reason_of reason))

-- The answer of a reader into a flat form: the rows of a geometry whose blob left the input; or an
-- answer without a geometry.
abbrev pub IsNextFlat : {R : Type 0} {read : Ghosts R} → Allowance → Input R read → Input R read
    → Result Bool BlobFault → List Row → Type 0
IsNextFlat limits old new (Ok true) rs = (g : Tree) × Makes limits [] old new g × (rs ≡ rows 0 g)
IsNextFlat limits old new (Ok false) rs = IsNext limits old new (Ok None)
IsNextFlat limits old new (Err why) rs = IsNext limits old new (Err why)

-- the geometry that has these rows and keeps the largest limits; or no memory for it
abbrev pub IsTreeOf : List Row → Result Tree BlobFault → Type 0
IsTreeOf rs (Ok g) = (rows 0 g ≡ rs) × IsValid largest_limits g
IsTreeOf rs (Err why) = why ≡ fault.Memory

-- whether a call was answered by a failed read
abbrev pub failed_by_read : {A : Type 0} → Result A BlobFault → Bool
failed_by_read (Err (fault.Device stopped.Read)) = true
failed_by_read _ = false

-- What every call of a reader says: its limits and the name of its tap stay; a failed read is
-- counted; after an error it answers `Spent`, after the end it answers the end, and then it stays
-- as it is.
pub record ReadsNext {A : Type 0} (none : A) {R : Type 0} {read : Ghosts R}
    (old new : Reader R read) (answer : Result A BlobFault) : Type 0 where
  pub same_tap : (input_tap (reader_input new)).ghost_name ≡ (input_tap (reader_input old)).ghost_name
  pub limits : reader_limits new ≡ reader_limits old
  pub failures : input_failures (reader_input new) ≡ count_failure (failed_by_read answer)
      (input_failures (reader_input old))
  pub spent : is_spent old ≡ true → answer ≡ Err fault.Spent
  pub stays : is_spent new ≡ is_err answer
  pub unchanged : is_spent old ≡ true → new ≡ old
  pub end : answer ≡ Ok none → has_ended new ≡ true
  pub going_on : ¬ (answer ≡ Ok none) → has_ended new ≡ false
  pub for_good : has_ended old ≡ true → (answer ≡ Ok none) × (new ≡ old)

-- What a call says that reads the next geometry into rows: what every call does, and of one that
-- reads, its answer and the rows; exactly a geometry leaves rows. It is refused for an error before,
-- and only then.
pub record ReadsRows {R : Type 0} {read : Ghosts R} (old new : Reader R read)
    (answer : Result Bool BlobFault) (rs : List Row) : Type 0 where
  pub shared : ReadsNext false old new answer
  pub next : IfGoingOn old (IsNextFlat (reader_limits old) (reader_input old) (reader_input new) answer rs)
  pub memory : answer ≡ Err fault.Memory → PartAhead (reader_limits old) [] (reader_input old)
  pub cleared : (answer ≡ Ok true) ⊎ (rs ≡ [])
  pub some : answer ≡ Ok true → 0 < length rs
  pub spent : (answer ≡ Err fault.Spent) ↔ (is_spent old ≡ true)
