-- The bytes that an input has left, and the effect of one step.
use Rattle.std.specs.Prelude.{◌≡◌, ℕ, ◌+◌, List, [], ◌∷◌, ◌++◌, ◌-◌, Option, Some, None, IfSome}
use Rattle.std.specs.Prelude.{Bool, true, false, take, slice_range, Result, Ok, Err}
use Rattle.std.specs.Io.KnownBytes.{Consumes, IsAtEnd, Keeps, prepend_known}
use Rattle.std.specs.Borrow.{MutBor}
use Rattle.std.specs.declared.io.traits.Read.{Ghosts}
use Rattle.twkb_io.specs.declared.tap.Tap.{Tap}
use Rattle.twkb_io.specs.declared.input.Input.{Input}
use Rattle.twkb_io.specs.declared.input.InFault.{InFault}
use Rattle.twkb_io.specs.declared.input.InFault.TheVariants as fault
use Rattle.twkb_io.specs.declared.TheConstants.{MAX_BYTES}
use Rattle.twkb_io.specs.Taps.{device_of, failures_of}

-- the borrowed tap
abbrev pub input_tap : {R : Type 0} {read : Ghosts R} → Input R read → MutBor (Tap R)
input_tap input = input.tap

-- the failures of the borrowed tap
abbrev pub input_failures : {R : Type 0} {read : Ghosts R} → Input R read → ℕ
input_failures input = failures_of input.tap.now

-- the number of bytes given out
abbrev pub given : {R : Type 0} {read : Ghosts R} → Input R read → ℕ
given input = input.offset

-- whether a call returned an error
abbrev pub is_spent : {R : Type 0} {read : Ghosts R} → Input R read → Bool
is_spent input = input.spent

-- whether the reader's end was reached
abbrev pub has_ended : {R : Type 0} {read : Ghosts R} → Input R read → Bool
has_ended input = input.ended

-- the unused part of the array
abbrev pub unused : {R : Type 0} {read : Ghosts R} → Input R read → List ℕ
unused input = slice_range input.held input.at input.filled

-- the bytes that can be given out without a read: the unused ones, up to 2^62 bytes in all
abbrev pub held_of : {R : Type 0} {read : Ghosts R} → Input R read → List ℕ
held_of input = take (MAX_BYTES - given input) (unused input)

-- the unused part of the array, and then what the reader still gives
abbrev pub rest_of : {R : Type 0} {read : Ghosts R} → Input R read → Option (List ℕ)
rest_of {R} {read} input = prepend_known (unused input) (read.remaining (device_of input.tap.now))

-- the known bytes begin with these bytes
abbrev pub BeginsWith : Option (List ℕ) → List ℕ → Type 0
BeginsWith rest front = IfSome rest (λ bytes. (left : List ℕ) × (bytes ≡ front ++ left))

-- One call gives the first byte of the rest, gives none only if the rest is empty, and loses no
-- byte.
abbrev pub GivesNext : Option (List ℕ) → Result (Option ℕ) InFault → Option (List ℕ) → Type 0
GivesNext old (Ok (Some byte)) new = Consumes old new (byte ∷ [])
GivesNext old (Ok None) new = IsAtEnd old × Keeps old new
GivesNext old (Err e) new = Keeps old new

-- the number of bytes given out after a call
abbrev pub given_after : ℕ → Result (Option ℕ) InFault → ℕ
given_after n (Ok (Some byte)) = n + 1
given_after n (Ok None) = n
given_after n (Err e) = n

-- whether this fault is a failed read
abbrev pub is_read : InFault → Bool
is_read fault.Read = true
is_read fault.TooLong = false
is_read fault.Spent = false

-- whether a call was refused by a failed read
abbrev pub is_read_fault : {A : Type 0} → Result A InFault → Bool
is_read_fault (Ok found) = false
is_read_fault (Err e) = is_read e
