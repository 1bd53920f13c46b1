-- Doubles and their coordinates, for the samples.
use Rattle.std.specs.Prelude.{ℕ, ℤ, List, [], ◌∷◌, pos, negsuc, ⊤}
use Rattle.twkb_buffer.specs.RoundedNumbers.{IsUnit, divisor_at, factor_at}

-- A double by its bits, a precision, and the coordinate to which the double is rounded.
pub record RoundedDouble : Type 0 where
  pub bits : ℕ
  pub precision : ℤ
  pub unit : ℤ

abbrev double : (bits : ℕ) → (precision unit : ℤ) → RoundedDouble
double bits precision unit = record { bits = bits; precision = precision; unit = unit }

-- each double is rounded to its coordinate
abbrev pub AreRounded : List RoundedDouble → Type 0
AreRounded [] = ⊤
AreRounded (d ∷ ds) = IsUnit (factor_at d.precision) (divisor_at d.precision) d.bits d.unit × AreRounded ds

-- The numbers halfway between two coordinates as they are written, of tests/postgis: 0.15, -0.15,
-- 0.35, 1.005, 0.5, -2.5, 0.000005, 7.44785, 0.015915, -0.267325, 46.947965, 0.0000005, 33.1950265
-- and 33.47520965.
abbrev pub written_halves : List RoundedDouble
written_halves =
    double 0x3FC3333333333333 (pos 1) (pos 2)
    ∷ double 0xBFC3333333333333 (pos 1) (negsuc 1)
    ∷ double 0x3FD6666666666666 (pos 1) (pos 4)
    ∷ double 0x3FF0147AE147AE14 (pos 2) (pos 101)
    ∷ double 0x3FE0000000000000 (pos 0) (pos 1)
    ∷ double 0xC004000000000000 (pos 0) (negsuc 2)
    ∷ double 0x3ED4F8B588E368F1 (pos 5) (pos 1)
    ∷ double 0x401DCA9930BE0DED (pos 4) (pos 74479)
    ∷ double 0x3F904C059210385C (pos 5) (pos 1592)
    ∷ double 0xBFD11BDA5119CE07 (pos 5) (negsuc 26732)
    ∷ double 0x40477956EAC86057 (pos 5) (pos 4694797)
    ∷ double 0x3EA0C6F7A0B5ED8D (pos 6) (pos 1)
    ∷ double 0x404098F6A0DBAD3A (pos 6) (pos 33195027)
    ∷ double 0x4040BCD3AB78BF2E (pos 7) (pos 334752097)
    ∷ []

-- Numbers beside a half and far from one, their bits by IEEE 754: the double before 0.15, 7.44781
-- at two precisions, 150000000 at -8, 0 with the sign set, and the least double above 0.
abbrev pub other_doubles : List RoundedDouble
other_doubles =
    double 0x3FC3333333333332 (pos 1) (pos 1)
    ∷ double 0x401DCA8EB463497B (pos 5) (pos 744781)
    ∷ double 0x401DCA8EB463497B (pos 7) (pos 74478100)
    ∷ double 0x41A1E1A300000000 (negsuc 7) (pos 2)
    ∷ double 0x8000000000000000 (pos 7) (pos 0)
    ∷ double 0x0000000000000001 (pos 7) (pos 0)
    ∷ []

-- Whole numbers of so many units that only an exact half counts: 2^53, the greatest double below
-- 2^62, and -2^62.
abbrev pub large_doubles : List RoundedDouble
large_doubles =
    double 0x4340000000000000 (pos 0) (pos 9007199254740992)
    ∷ double 0x43CFFFFFFFFFFFFF (pos 0) (pos 4611686018427387392)
    ∷ double 0xC3D0000000000000 (pos 0) (negsuc 4611686018427387903)
    ∷ []
