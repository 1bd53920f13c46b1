-- The bytes that hexadecimal digits stand for, and why characters are no digits (profile).
use Rattle.std.specs.Prelude.{ℕ, ◌≡◌, ◌+◌, ◌*◌, ◌/◌, ◌<◌, ◌⊎◌, false, nat_eq, List, [], length, drop, take}
use Rattle.std.specs.Prelude.{slice_index, if◌then◌else◌, codes}
use Rattle.std.specs.List.{AllPass, starts_with}
use Rattle.hex.specs.Hex.{is_hex_digit}
use Rattle.twkb_hex.specs.declared.report.HexReason.{HexReason}
use Rattle.twkb_hex.specs.declared.report.HexReason.TheVariants as reason

-- what is after `\x`, if a field begins with that; else the field
abbrev pub digits_in : List ℕ → List ℕ
digits_in field = if starts_with nat_eq field (codes "\\x") then drop 2 field else field

-- The first character that is no digit, small or capital, is one of the two for this byte.
pub record IsNoDigit (digits : List ℕ) (byte : ℕ) : Type 0 where
  pub place : ℕ
  pub within : place < length digits
  pub other : is_hex_digit (slice_index digits place) ≡ false
  pub before : AllPass is_hex_digit (take place digits)
  pub byte_is : byte ≡ place / 2

-- a character of pairs is no digit
abbrev pub RefusesPairs : List ℕ → HexReason → Type 0
RefusesPairs pairs (reason.NoDigits byte) = IsNoDigit pairs byte
RefusesPairs pairs _ = ⊥

-- why a character after pairs of digits, for this byte, is refused
abbrev pub refused_rest : ℕ → ℕ → HexReason
refused_rest byte character =
    if is_hex_digit character then reason.OddDigits byte else reason.NoDigits byte

-- the characters are no pairs of digits, at least one: there is none, or a character is no digit; or all are digits,
-- and one is left over
abbrev pub RefusesDigits : List ℕ → HexReason → Type 0
RefusesDigits digits (reason.NoDigits byte) = ((digits ≡ []) × (byte ≡ 0)) ⊎ IsNoDigit digits byte
RefusesDigits digits (reason.OddDigits byte) = AllPass is_hex_digit digits × (length digits ≡ 2 * byte + 1)
RefusesDigits digits _ = ⊥
