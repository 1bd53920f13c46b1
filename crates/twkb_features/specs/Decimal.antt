-- The number that a decimal says, and the coordinate nearest to it (RFC 8259, section 6).
use Rattle.std.specs.Prelude.{◌≡◌, ℕ, suc, ◌+◌, ◌*◌, ◌^◌, ◌<◌, ◌≤◌, List, Bool, ◌==◌, if◌then◌else◌, slice_index, drop}
use Rattle.std.specs.Prelude.{ℤ, pos, negsuc, neg_ℤ, Option, Some, None}
use Rattle.std.specs.Float.Numeral.{Parts, scan_numeral, numeral_digits, tens_up, tens_down}
use Rattle.twkb_points.specs.Point.{IsCoordinate}

-- ==== The number that a decimal says: that of its digits times a power of ten, over another.

-- a minus sign is first
abbrev pub is_below_zero : List ℕ → Bool
is_below_zero text = slice_index text 0 == 45

-- the text after a minus sign
abbrev pub after_minus : List ℕ → List ℕ
after_minus text = drop (if is_below_zero text then 1 else 0) text

-- the digits, the point and the exponent of a decimal
abbrev pub numeral_of : List ℕ → Parts
numeral_of text = scan_numeral (after_minus text)

-- the power of ten that a number is multiplied by to count units of 10 ^ -precision
abbrev pub unit_tens_up : ℤ → ℕ
unit_tens_up (pos n) = n
unit_tens_up (negsuc n) = 0

-- the power of ten that it is divided by
abbrev pub unit_tens_down : ℤ → ℕ
unit_tens_down (pos n) = 0
unit_tens_down (negsuc n) = suc n

-- The size of a decimal in units is a fraction: the number above.
abbrev pub above : ℤ → Parts → ℕ
above precision p = numeral_digits p * 10 ^ (tens_up p + unit_tens_up precision)

-- the number below
abbrev pub below : ℤ → Parts → ℕ
below precision p = 10 ^ (tens_down p + unit_tens_down precision)

-- ==== The coordinate nearest to it.

-- A whole number is nearest to a fraction: at most one half more than it, and less than one half
-- less. Of two the greater.
pub record IsNearest (above below whole : ℕ) : Type 0 where
  pub at_most_half_over : 2 * (whole * below) ≤ 2 * above + below
  pub less_than_half_under : 2 * above < 2 * (whole * below) + below

-- the whole number nearest to a fraction, or that it is beyond all coordinates
abbrev pub FindsSize : ℕ → ℕ → Option ℕ → Type 0
FindsSize above below (Some whole) = IsNearest above below whole
FindsSize above below None = (whole : ℕ) → IsNearest above below whole → 2 ^ 62 < whole

-- a size with its sign
abbrev pub signed : Bool → ℕ → ℤ
signed is_negative size = if is_negative then neg_ℤ (pos size) else pos size

-- a size with its sign, or that this is no coordinate
abbrev pub HasSign : Bool → ℕ → Option ℤ → Type 0
HasSign is_negative size (Some units) = (units ≡ signed is_negative size) × IsCoordinate units
HasSign is_negative size None = ¬ IsCoordinate (signed is_negative size)

-- A coordinate of this precision is the one nearest to the number that a text says: of two the one
-- farther from 0 (profile).
pub record IsUnits (precision : ℤ) (text : List ℕ) (units : ℤ) : Type 0 where
  pub size : ℕ
  pub nearest : IsNearest (above precision (numeral_of text)) (below precision (numeral_of text)) size
  pub units_are : units ≡ signed (is_below_zero text) size
  pub in_range : IsCoordinate units

-- the coordinate nearest to the number that a text says, or that there is none
abbrev pub FindsUnits : ℤ → List ℕ → Option ℤ → Type 0
FindsUnits precision text (Some units) = IsUnits precision text units
FindsUnits precision text None = (units : ℤ) → ¬ IsUnits precision text units
