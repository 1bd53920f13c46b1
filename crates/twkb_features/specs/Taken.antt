-- What is taken in of a JSON text, piece by piece. Only private clauses cite these.
use Rattle.std.specs.Prelude.{◌≡◌, ℕ, ◌-◌, ◌<◌, ◌≤◌, List, Bool, true, false, not, ◌==◌, ◌&&◌, nat_lt}
use Rattle.std.specs.Prelude.{length, take, slice_index}
use Rattle.twkb_features.specs.declared.nesting.Place.{Place}
use Rattle.twkb_features.specs.declared.nesting.Place.TheVariants.{Outside, InString, Escaped}
use Rattle.twkb_features.specs.declared.nesting.Nesting.{Nesting}
use Rattle.twkb_features.specs.Nesting.{nesting_after, closes_at}

-- none of the first bytes closes an array or an object at this depth
abbrev pub NoneCloses : Nesting → ℕ → List ℕ → ℕ → Type 0
NoneCloses n depth bytes count = (k : ℕ) → k < count → closes_at n depth bytes k ≡ false

-- the last of the first bytes is the first that does, or none of them does
abbrev pub Closes : Nesting → ℕ → List ℕ → ℕ → Bool → Type 0
Closes n depth bytes count true =
    (0 < count) × (closes_at n depth bytes (count - 1) ≡ true) × NoneCloses n depth bytes (count - 1)
Closes n depth bytes count false = NoneCloses n depth bytes count

-- the first bytes are taken in, up to the first that closes an array or an object at this depth, or
-- before it
pub record Takes (n : Nesting) (depth : ℕ) (bytes : List ℕ) (count : ℕ) (is_closed : Bool)
    (after : Nesting) : Type 0 where
  pub within : count ≤ length bytes
  pub taken : after ≡ nesting_after n (take count bytes)
  pub closes : Closes n depth bytes count is_closed

-- 32 bytes are taken in, none of which closes at this depth, or nothing
abbrev pub PassesBlock : Nesting → ℕ → List ℕ → Bool → Nesting → Type 0
PassesBlock n depth bytes true after = Takes n depth bytes 32 false after
PassesBlock n depth bytes false after = after ≡ n

-- the quote of a string
abbrev pub is_quote : ℕ → Bool
is_quote byte = byte == 34

-- 1 if so
abbrev pub one_if : Bool → ℕ
one_if true = 1
one_if false = 0

-- a byte leaves each nesting at this place as it is
abbrev pub is_plain : Place → ℕ → Bool
is_plain Outside byte = nat_lt byte 91 && not (byte == 34)
is_plain InString byte = not (byte == 92) && not (byte == 34)
is_plain Escaped byte = false

-- the first bytes do
abbrev pub ArePlain : Place → List ℕ → ℕ → Type 0
ArePlain place bytes count = (k : ℕ) → k < count → is_plain place (slice_index bytes k) ≡ true
