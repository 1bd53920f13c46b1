-- Bytes and their bits.
use Rattle.std.specs.Prelude.{ℕ, ◌/◌, ◌%◌, ◌^◌, ◌<◌, Bool, nat_eq, List}
use Rattle.std.specs.List.{AllByRecursion}

-- Bit k of n is set; bit 0 is the lowest (TWKB numbers the bits of its bytes so).
abbrev pub bit : ℕ → ℕ → Bool
bit n k = nat_eq (n / 2 ^ k % 2) 1

-- The numbers are bytes: each is below 256.
abbrev pub AreBytes : List ℕ → Type 0
AreBytes bytes = AllByRecursion (λ b. b < 256) bytes
