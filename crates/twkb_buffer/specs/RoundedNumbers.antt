-- Doubles as coordinates: each the whole number of units nearest to it (profile).
use Rattle.std.specs.Prelude.{ℕ, ℤ, pos, neg_ℤ, ◌+◌, ◌-◌, ◌/◌, ◌%◌, ◌^◌, ◌<◌, cond, nat_eq, nat_lt, max, ◌*◌, ◌≤◌}
use Rattle.std.specs.Prelude.{Option, None, Some, negsuc, suc, ◌≡◌, ◌⊎◌, ◌↔◌, List, length, take, drop, slice_get}
use Rattle.std.specs.Prelude.{nat_le}
use Rattle.twkb_points.specs.declared.point.TheConstants.{COORDINATE_BOUND}
use Rattle.twkb_buffer.specs.declared.moderate_sizes.Multiplier.{Multiplier}
use Rattle.twkb_buffer.specs.declared.scale.Scale.{Scale}
use Rattle.twkb_buffer.specs.declared.scale.Scale.TheVariants.{Over, Times}
use Rattle.std.specs.Float.{binary64}
use Rattle.std.specs.Float.Ieee.{of_bits, round}
use Rattle.std.specs.List.{AllZip}
use Rattle.twkb_points.specs.Point.{IsCoordinate}
use Rattle.twkb_buffer.specs.Polylines.{nothing_report}
use Rattle.twkb_buffer.specs.declared.report.BufferReport.{BufferReport}

-- ==== The number that 64 bits stand for: a sign, a significand and a power of two (IEEE 754-2019,
-- 3.4, binary64).

-- the eleven bits of the exponent
abbrev pub exponent_field : ℕ → ℕ
exponent_field bits = bits / 2 ^ 52 % 2 ^ 11

-- the exponent of a number has a bit that is not set; that of an infinity or of no number has none
abbrev pub IsFinite : ℕ → Type 0
IsFinite bits = exponent_field bits < 2 ^ 11 - 1

-- the whole number that is multiplied by a power of two; a subnormal number has no leading bit
abbrev pub significand : ℕ → ℕ
significand bits = cond (nat_eq (exponent_field bits) 0) (bits % 2 ^ 52) (2 ^ 52 + bits % 2 ^ 52)

-- the exponent of that power of two, and 1075 more; a subnormal number has the least
abbrev pub exponent : ℕ → ℕ
exponent bits = max 1 (exponent_field bits)

-- a size with the sign of the number
abbrev pub with_sign : ℕ → ℕ → ℤ
with_sign bits size = cond (nat_lt bits (2 ^ 63)) (pos size) (neg_ℤ (pos size))

-- ==== The whole number nearest to a fraction.

-- A whole number is at most one half more than the fraction above / below, and at most one half
-- less than it: of two the greater, or if less is 1 the smaller.
pub record IsNearest (above below less whole : ℕ) : Type 0 where
  pub at_most_half_over : 2 * (whole * below) + less ≤ 2 * above + below
  pub less_than_half_under : 2 * above < 2 * (whole * below) + below + less

-- the whole number nearest to a fraction, or that it is beyond all coordinates
abbrev pub FindsNearest : ℕ → ℕ → ℕ → Option ℕ → Type 0
FindsNearest above below less (Some whole) = IsNearest above below less whole
FindsNearest above below less None = (whole : ℕ) → IsNearest above below less whole → COORDINATE_BOUND < whole

-- ==== The powers of ten by which numbers become counts of a unit.

-- what a number is multiplied by to count units of 10^-precision
abbrev pub factor_at : ℤ → ℕ
factor_at (pos n) = 10 ^ n
factor_at (negsuc n) = 1

-- what it is divided by
abbrev pub divisor_at : ℤ → ℕ
divisor_at (pos n) = 1
divisor_at (negsuc n) = 10 ^ suc n

-- what a scale multiplies by
abbrev pub factor_of : Scale → ℕ
factor_of (Times factor) = factor
factor_of (Over divisor) = 1

-- what a scale divides by
abbrev pub divisor_of : Scale → ℕ
divisor_of (Times factor) = 1
divisor_of (Over divisor) = divisor

-- the scale is no more than that of the greatest precision, 7, and of the least, -8
abbrev pub IsScale : Scale → Type 0
IsScale (Times factor) = (0 < factor) × (factor ≤ 10 ^ 7)
IsScale (Over divisor) = (0 < divisor) × (divisor ≤ 10 ^ 8)

-- ==== What moderate doubles are multiplied by.

-- The multiple is a factor of a scale times a power of two, and has 24 bits at most. The greatest
-- exponent of moderate doubles is greater by as many as the power of two has.
pub record IsMultiplier (multiplier : Multiplier) : Type 0 where
  pub positive : 0 < multiplier.factor
  pub small : multiplier.factor ≤ 10 ^ 7
  pub least : 1043 ≤ multiplier.greatest
  pub most : multiplier.greatest ≤ 1047
  pub multiple_is : multiplier.multiple ≡ multiplier.factor * 2 ^ (multiplier.greatest - 1043)
  pub fits : multiplier.multiple < 2 ^ 24

-- ==== Numbers as coordinates: each the whole number of units nearest to it, of two the one farther
-- from 0. Up to 10^14 units a double that is the nearest one to a half counts as that half
-- (profile).

-- the size of a number in units is a fraction: the number above
abbrev pub above : ℕ → ℕ → ℕ
above factor number = significand number * 2 ^ (exponent number - 1075) * factor

-- the number below
abbrev pub below : ℕ → ℕ → ℕ
below divisor number = 2 ^ (1075 - exponent number) * divisor

-- the same two numbers for the point halfway to the double with the next greater size
abbrev pub above_halfway : ℕ → ℕ → ℕ
above_halfway factor number = (2 * significand number + 1) * 2 ^ (exponent number - 1 - 1075) * factor

abbrev pub below_halfway : ℕ → ℕ → ℕ
below_halfway divisor number = 2 ^ (1075 - (exponent number - 1)) * divisor

-- The exact size is a whole number of units and a half, or more.
abbrev pub HasHalf : ℕ → ℕ → ℕ → ℕ → Type 0
HasHalf factor divisor number whole = (2 * whole + 1) * below divisor number ≤ 2 * above factor number

-- The exact size is less than 10^15 tenths of a unit: so far each whole number of tenths has a double
-- of its own.
abbrev pub IsShort : ℕ → ℕ → ℕ → Type 0
IsShort factor divisor number = 10 * above factor number < 10 ^ 15 * below divisor number

-- Of all doubles the number is the nearest to a whole number of units and a half (IEEE 754-2019,
-- 4.3.1: of two the even one).
abbrev pub IsNearestToHalf : ℕ → ℕ → ℕ → ℕ → Type 0
IsNearestToHalf factor divisor number whole =
    of_bits binary64 number ≡ round binary64 (nat_le (2 ^ 63) number) ((2 * whole + 1) * divisor) (2 * factor)

-- The number has that half, or counts as it.
abbrev pub ReachesHalf : ℕ → ℕ → ℕ → ℕ → Type 0
ReachesHalf factor divisor number whole =
    HasHalf factor divisor number whole
    ⊎ (IsShort factor divisor number × IsNearestToHalf factor divisor number whole)

-- The size in whole units: how many of 1/2, 3/2, 5/2 and so on the number reaches.
abbrev pub IsSize : ℕ → ℕ → ℕ → ℕ → Type 0
IsSize factor divisor number size = (whole : ℕ) → whole < size ↔ ReachesHalf factor divisor number whole

-- the size in whole units, or that it is beyond all coordinates
abbrev pub FindsSize : ℕ → ℕ → ℕ → Option ℕ → Type 0
FindsSize factor divisor number (Some size) = IsSize factor divisor number size
FindsSize factor divisor number None = (size : ℕ) → IsSize factor divisor number size → COORDINATE_BOUND < size

-- The coordinate is the number times the factor, over the divisor, rounded.
pub record IsUnit (factor divisor number : ℕ) (unit : ℤ) : Type 0 where
  pub finite : IsFinite number
  pub size : ℕ
  pub size_is : IsSize factor divisor number size
  pub unit_is : unit ≡ with_sign number size
  pub in_range : IsCoordinate unit

-- the coordinate that a number is rounded to, or that there is none
abbrev pub FindsUnit : ℕ → ℕ → ℕ → Option ℤ → Type 0
FindsUnit factor divisor number (Some unit) = IsUnit factor divisor number unit
FindsUnit factor divisor number None = (unit : ℤ) → ¬ IsUnit factor divisor number unit

-- The first numbers are rounded. Later places of the array are unchanged.
pub record RoundsBefore (factor divisor : ℕ) (numbers : List ℕ) (old new : List ℤ) (count : ℕ) : Type 0 where
  pub as_many : length new ≡ length old
  pub rounded : AllZip (IsUnit factor divisor) (take count numbers) (take count new)
  pub left : drop count new ≡ drop count old

-- The first numbers are rounded, up to the first that has no coordinate. Later places of the array
-- are unchanged.
pub record RoundsFront (factor divisor : ℕ) (numbers : List ℕ) (old new : List ℤ) (count : ℕ) : Type 0 where
  pub within : count ≤ length numbers
  pub rounded : AllZip (IsUnit factor divisor) (take count numbers) (take count new)
  pub left : drop count new ≡ drop count old
  pub stopped : (number : ℕ) → slice_get numbers count ≡ Some number → FindsUnit factor divisor number None

-- the report of a call that rounded so many numbers of all: status 0, or that the next one is
-- refused
abbrev pub rounded_report : ℕ → ℕ → BufferReport
rounded_report all count = record (nothing_report (cond (nat_eq count all) 0 1) count) {
  reason = cond (nat_eq count all) 0 26;
  place = cond (nat_eq count all) 0 count;
  done = cond (nat_eq count all) 1 0;
  sent = count;
}

-- All numbers were rounded, or those before the first that is refused, as the report states.
pub record Rounds (precision : ℤ) (numbers : List ℕ) (old new : List ℤ) (report : BufferReport) : Type 0 where
  pub front : RoundsFront (factor_at precision) (divisor_at precision) numbers old new report.sent
  pub report_is : report ≡ rounded_report (length numbers) report.sent
