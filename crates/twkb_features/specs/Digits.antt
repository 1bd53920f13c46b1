-- The parts of a decimal as its digits are read. Only private clauses cite these.
use Rattle.std.specs.Prelude.{◌≡◌, ℕ, ◌+◌, ◌-◌, ◌*◌, ◌^◌, ◌<◌, ◌≤◌}
use Rattle.std.specs.Prelude.{List, length, min, ℤ, Option, Some, None, slice_range}
use Rattle.std.specs.Str.Parse.{digits_value}
use Rattle.std.specs.Float.Numeral.{Parts, numeral_digits, tens_up, tens_down, digits_end}
use Rattle.twkb_features.specs.Decimal.{unit_tens_up, unit_tens_down}

-- a numeral has these digits, so many of them after the point, and no exponent
pub record IsPlain (p : Parts) (digits places : ℕ) : Type 0 where
  pub digits_are : digits ≡ numeral_digits p
  pub up : tens_up p ≡ 0
  pub down : tens_down p ≡ places
  pub few : digits < 10 ^ (11 + places)
  pub small : digits < 10 ^ 18
  pub short : places ≤ 17

-- the number of digits of a numeral
abbrev pub digit_count : Parts → ℕ
digit_count p = length p.whole + length p.fraction

-- So many digits, with zeros after them, are before the point of a numeral in units: at most 19
-- zeros count. Or the point is before the first digit, and before a zero.
abbrev pub IsPoint : ℤ → Parts → Option ℕ → Type 0
IsPoint precision p (Some point) =
    (tens_down p + unit_tens_down precision ≤ digit_count p + (tens_up p + unit_tens_up precision))
    × (point ≡ min
    (digit_count p + (tens_up p + unit_tens_up precision) - (tens_down p + unit_tens_down precision))
    (digit_count p + 19))
IsPoint precision p None = digit_count p + (tens_up p + unit_tens_up precision) < tens_down p + unit_tens_down precision

-- the digits of a text from a place on are read up to another, and the value is theirs after those
-- of `so_far`
pub record IsRead (text : List ℕ) (from so_far at value : ℕ) : Type 0 where
  pub after : from ≤ at
  pub within : at ≤ length text
  pub end : digits_end text from ≡ digits_end text at
  pub value_is : value ≡ so_far * 10 ^ (at - from) + digits_value 10 (slice_range text from at)
  pub few : value < 10 ^ at
