-- How units spell a number, by its digits, and signed numbers as unsigned ones (LEB128; encoded polyline).
use Rattle.std.specs.Prelude.{ℕ, zero, suc, ◌+◌, ◌*◌, ◌/◌, ◌%◌, true, false, List, [], ◌∷◌, nat_lt, ℤ, pos, negsuc}
use Rattle.std.specs.Prelude.{nat_eq, if◌then◌else◌, ◌≡◌, ◌<◌, ◌≤◌, ◌^◌, Bool, length, map}
use Rattle.std.specs.Int.Digits.{AllBelowBase}

-- ==== The digits of a number to a base, low first.

-- The digits of n by at most `turns` divisions; the last digit is the last quotient. The cases are
-- in an `elim`, so that a computation stops at the last digit and not after the last turn.
unfoldable pub digits_within : ℕ → ℕ → ℕ → List ℕ
digits_within zero base n = n ∷ []
digits_within (suc turns) base n =
    elim (nat_lt n base) [
      | true ↦ n ∷ []
      | false ↦ (n % base) ∷ digits_within turns base (n / base)
    ]

-- the digits of n, low first; the last is not 0 unless it is alone
unfoldable pub digits : ℕ → ℕ → List ℕ
digits base n = digits_within n base n

-- the number that the digits stand for, low first
abbrev pub number_of : ℕ → List ℕ → ℕ
number_of base [] = 0
number_of base (d ∷ ds) = d + base * number_of base ds

-- the lowest k digits of n, zeros included
abbrev pub low_digits : ℕ → ℕ → ℕ → List ℕ
low_digits base zero n = []
low_digits base (suc k) n = (n % base) ∷ low_digits base k (n / base)

-- ==== Signed numbers as unsigned ones, the small ones first (TWKB: zigzag; encoded polyline: the
-- shift and the inversion).

-- the zigzag form: 2n if n is at least 0, and -2n - 1 if it is below (`negsuc n` is -n - 1)
abbrev pub zigzag_of : ℤ → ℕ
zigzag_of (pos n) = 2 * n
zigzag_of (negsuc n) = 2 * n + 1

-- the number with this zigzag form: an even form is that of a number from 0 up
abbrev pub unzigzag_of : ℕ → ℤ
unzigzag_of n = if nat_eq (n % 2) 0 then pos (n / 2) else negsuc (n / 2)

-- ==== How units spell a number: a unit for each digit, low first, and each unit but the last says
-- that more follow (LEB128; encoded polyline).

-- the units of the digits of a complete spelling
abbrev pub units_of : (ℕ → Bool → ℕ) → List ℕ → List ℕ
units_of unit [] = []
units_of unit (d ∷ []) = unit d false ∷ []
units_of unit (d ∷ e ∷ ds) = unit d true ∷ units_of unit (e ∷ ds)

-- the units of digits, each with more to follow
abbrev pub open_units : (ℕ → Bool → ℕ) → List ℕ → List ℕ
open_units unit ds = map (λ d. unit d true) ds

-- the shortest spelling of n
abbrev pub shortest : (ℕ → Bool → ℕ) → ℕ → ℕ → List ℕ
shortest unit base n = units_of unit (digits base n)

-- the units spell n, a number of 64 bits, by 1 to `longest` digits, of which the last may be 0
-- (profile: padding is read)
pub record IsSpelling (unit : ℕ → Bool → ℕ) (base longest : ℕ) (units : List ℕ) (n : ℕ) : Type 0 where
  pub ds : List ℕ
  pub spelled : units ≡ units_of unit ds
  pub below : AllBelowBase base ds
  pub some : 1 ≤ length ds
  pub within : length ds ≤ longest
  pub number : number_of base ds ≡ n
  pub fits : n < 2 ^ 64

-- the units begin a spelling and do not end it: each says that more follow, and there is room for
-- one more
pub record IsOpen (unit : ℕ → Bool → ℕ) (base longest : ℕ) (units : List ℕ) : Type 0 where
  pub ds : List ℕ
  pub spelled : units ≡ open_units unit ds
  pub below : AllBelowBase base ds
  pub room : length ds < longest
