-- The whole number nearest to a fraction: there is at most one, and the fraction may be scaled.
use Rattle.std.proofs.Common.{◌≡◌, ℕ, suc, ◌+◌, ◌*◌, ◌/◌, ◌^◌, ◌<◌, ◌≤◌, Option, Some, None}
use Rattle.std.proofs.Common.{sym, subst, arith, inl, inr, mul-le-mul_right}
use Rattle.std.proofs.Math.Nat.{pow-succ', one-le-pow, mul-lt-mul_of_pos_right, le_of_mul-le-mul_right}
use Rattle.std.proofs.Math.Nat.{lt_of_mul-lt-mul_right}
use Rattle.std.proofs.lemmas.Nat.{div-add-mod', mod_below}
use Rattle.std.proofs.lemmas.Bool.{cases_lt}
use Rattle.twkb_features.specs.Decimal.{IsNearest, FindsSize}

-- a power of ten is above 0
pub ten_pow : (k : ℕ) → 0 < 10 ^ k
ten_pow k = one-le-pow k 10 (omega arith)

no_less : (a b m n : ℕ) → IsNearest a b m → IsNearest a b n → m < n → ⊥
no_less a b m n p q h =
    omega (
      arith,
      p.less_than_half_under,
      q.at_most_half_over,
      mul-le-mul_right b h,
    )

-- there is at most one
pub one_nearest : (a b m n : ℕ) → IsNearest a b m → IsNearest a b n → m ≡ n
one_nearest a b m n p q = elim (cases_lt m n) [
  | inl l ↦ absurd (no_less a b m n p q l)
  | inr g ↦ elim (cases_lt n m) [ inl l ↦ absurd (no_less a b n m q p l) | inr k ↦ omega arith ]
]

-- a whole number is nearest to itself
pub itself : (n : ℕ) → IsNearest n 1 n
itself n = record { at_most_half_over = omega arith; less_than_half_under = omega arith }

pub nearest_scaled : (a b c m : ℕ) → 0 < c → IsNearest a b m → IsNearest (a * c) (b * c) m
nearest_scaled a b c m some p = record {
  at_most_half_over = omega (arith, mul-le-mul_right c p.at_most_half_over);
  less_than_half_under = omega (arith, mul-lt-mul_of_pos_right p.less_than_half_under some);
}

nearest_unscaled : (a b c m : ℕ) → 0 < c → IsNearest (a * c) (b * c) m → IsNearest a b m
nearest_unscaled a b c m some p =
    let over : 2 * (m * b) * c ≤ (2 * a + b) * c = omega (arith, p.at_most_half_over) in
    let under : 2 * a * c < (2 * (m * b) + b) * c = omega (arith, p.less_than_half_under) in
    record {
      at_most_half_over = le_of_mul-le-mul_right over some;
      less_than_half_under = lt_of_mul-lt-mul_right c under;
    }

-- what is found for a fraction is found for the same fraction scaled
pub found_scaled : (a b c : ℕ) (o : Option ℕ) → 0 < c → FindsSize a b o → FindsSize (a * c) (b * c) o
found_scaled a b c (Some m) some p = nearest_scaled a b c m some p
found_scaled a b c None some p = λ m q. p m (nearest_unscaled a b c m some q)

-- a size beyond all coordinates
pub found_beyond : (a b size m : ℕ) → 2 ^ 62 < size → size ≤ m → IsNearest a b m → FindsSize a b None
found_beyond a b size m far low near = λ n q. omega (arith, one_nearest a b m n near q)

-- a size that is not
pub found_in_range : (a b size m : ℕ) → size ≤ 2 ^ 62 → (size ≤ 2 ^ 62 → size ≡ m) → IsNearest a b m
    → IsNearest a b size
found_in_range a b size m few same near = subst (λ n. IsNearest a b n) (sym (same few)) near

-- the quotient after half of the divisor was added
pub half_up : (n k : ℕ) → IsNearest n (10 ^ suc k) ((n + 10 ^ suc k / 2) / 10 ^ suc k)
half_up n k =
    let half : 10 ^ suc k / 2 ≡ 5 * 10 ^ k = omega (arith, pow-succ' 10 k) in
    let whole = div-add-mod' (n + 10 ^ suc k / 2) (10 ^ suc k) in
    let rest = mod_below (n + 10 ^ suc k / 2) (10 ^ suc k) (ten_pow (suc k)) in
    record {
      at_most_half_over = omega (arith, half, whole, rest, pow-succ' 10 k);
      less_than_half_under = omega (arith, half, whole, rest, pow-succ' 10 k);
    }

-- the digits q before the point, and one more if the first digit d after it is 5 or above
pub round_digit : (q d t rest up : ℕ) → d < 10 → rest < t → (5 ≤ d → up ≡ 1) → (d < 5 → up ≡ 0)
    → IsNearest ((q * 10 + d) * t + rest) (10 * t) (q + up)
round_digit q d t rest up small below high low = elim (cases_lt d 5) [
  | inl l ↦
      let few : d ≤ 4 = omega arith in
      let most = mul-le-mul_right t few in
      let none : up ≡ 0 = low l in
      rw none (record { at_most_half_over = omega arith; less_than_half_under = omega (arith, most) })
  | inr g ↦
      let few : d ≤ 9 = omega arith in
      let least = mul-le-mul_right t g in
      let most = mul-le-mul_right t few in
      let one : up ≡ 1 = high g in
      rw one (
      record { at_most_half_over = omega (arith, least); less_than_half_under = omega (arith, most) }
      )
]
