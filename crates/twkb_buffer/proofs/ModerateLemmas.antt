-- Sizes of moderate doubles: the product by its parts, which is never halfway between two whole numbers.
use Rattle.std.proofs.Common.{◌≡◌, ◌∙◌, ℕ, zero, suc, ◌+◌, ◌-◌, ◌*◌, ◌/◌, ◌%◌, ◌^◌, ◌<◌, ◌≤◌, false, eqb, ap, refl}
use Rattle.std.proofs.Common.{subst}
use Rattle.std.proofs.Common.{sym, arith, inl, inr}
use Rattle.std.proofs.Math.Nat.{le_of_mul-le-mul_right, lt_of_mul-lt-mul_right}
use Rattle.std.proofs.lemmas.Bool.{cases_lt}
use Rattle.std.proofs.lemmas.Bool.Decides.{nat_tests}
use Rattle.std.proofs.lemmas.Nat.{div-add-mod', div-mul-add, mod_below, mul-le, pow-add, pow_pos, shr-shr, shr_le}
use Rattle.twkb_buffer.specs.RoundedNumbers.{IsMultiplier, IsNearest, above_halfway, below_halfway, exponent}
use Rattle.twkb_buffer.specs.RoundedNumbers.{exponent_field, significand}
use Rattle.twkb_buffer.specs.declared.moderate_sizes.Multiplier.{Multiplier}
use Rattle.twkb_buffer.proofs.FractionLemmas.{IsNearest-cut, doubled, power_more}

-- an odd number times another is a multiple of a power of two only if that power is not above the other
odd_multiple : (k m factor c : ℕ) → 0 < factor → (2 * m + 1) * factor ≡ c * 2 ^ k → 2 ^ k ≤ factor
odd_multiple zero m factor c some is = omega arith
odd_multiple (suc k) m factor c some is =
    let half = factor / 2 in
    let power : 2 ^ suc k ≡ 2 * 2 ^ k = omega (arith, doubled k) in
    let product : c * 2 ^ suc k ≡ 2 * (c * 2 ^ k) = ap (λ (n : ℕ). c * n) power ∙ omega arith in
    let even : factor ≡ 2 * half = omega (arith, is, product) in
    let rest : (2 * m + 1) * (2 * half) ≡ 2 * (c * 2 ^ k)
    = subst (λ (n : ℕ). (2 * m + 1) * n ≡ 2 * (c * 2 ^ k)) even (is ∙ product) in
    let least = odd_multiple k m half c (omega (arith, even)) (omega (arith, rest)) in
    omega (arith, least, even, power)

-- so its product is never a half, if the other number is small
IsNearest-odd : (m factor k whole less : ℕ) → 0 < factor → factor < 2 ^ k → less ≤ 1
    → IsNearest ((2 * m + 1) * factor) (2 * 2 ^ k) 0 whole → IsNearest ((2 * m + 1) * factor) (2 * 2 ^ k) less whole
IsNearest-odd m factor k zero less some small few near = record {
  at_most_half_over = omega (arith, pow_pos k);
  less_than_half_under = omega (arith, near.less_than_half_under);
}
IsNearest-odd m factor k (suc w) less some small few near = record {
  at_most_half_over =
      elim (cases_lt (2 * ((2 * m + 1) * factor) + 2 * 2 ^ k) (2 * (suc w * (2 * 2 ^ k)) + less)) [
        | inr most ↦ most
        | inl over ↦
            let tie : (2 * m + 1) * factor ≡ (2 * w + 1) * 2 ^ k = omega (arith, over, near.at_most_half_over) in
            absurd (omega (arith, odd_multiple k m factor (2 * w + 1) some tie, small))
      ];
  less_than_half_under = omega (arith, near.less_than_half_under);
}

-- a fraction in lower terms
IsNearest-reduced : (above below by whole : ℕ) → 0 < by → IsNearest (above * by) (below * by) 0 whole
    → IsNearest above below 0 whole
IsNearest-reduced above below by whole some near =
    let most : 2 * (whole * below) * by ≤ (2 * above + below) * by = omega (arith, near.at_most_half_over) in
    let less : 2 * above * by < (2 * (whole * below) + below) * by = omega (arith, near.less_than_half_under) in
    record {
      at_most_half_over = omega (arith, le_of_mul-le-mul_right most some);
      less_than_half_under = omega (arith, lt_of_mul-lt-mul_right by less);
    }

-- a product by parts of one factor, over the weight of the upper part
product_of_parts : (number factor cut : ℕ) → 0 < cut
    → number / cut * factor + number % cut * factor / cut ≡ number * factor / cut
product_of_parts number factor cut some =
    let low = number % cut * factor in
    let parts : number * factor ≡ (number / cut * factor + low / cut) * cut + low % cut
    = let whole : factor * number ≡ factor * (number / cut * cut + number % cut)
    = ap (λ (n : ℕ). factor * n) (sym (div-add-mod' number cut)) in
    omega (arith, whole, div-add-mod' low cut) in
    sym (ap (λ (n : ℕ). n / cut) parts
    ∙ div-mul-add (number / cut * factor + low / cut) cut (low % cut) (mod_below low cut some))

-- a product over a power of two, as it is computed
abbrev pub size_by : (odd factor places : ℕ) → ℕ
size_by odd factor places =
    ((odd / 2 ^ 32 * factor + odd % 2 ^ 32 * factor / 2 ^ 32) / 2 ^ places + 1) / 2

near_product : (odd factor places : ℕ)
    → IsNearest (odd * factor) (2 * 2 ^ (32 + places)) 0 (size_by odd factor places)
near_product odd factor places =
    let below : 2 * (1 * 2 ^ (32 + places)) ≡ 2 * 2 ^ (32 + places) = omega arith in
    rw (product_of_parts odd factor (2 ^ 32) (omega arith), shr-shr (odd * factor) 32 places)
    (subst (λ (n : ℕ). IsNearest (odd * factor) n 0 ((odd * factor / 2 ^ (32 + places) + 1) / 2)) below
    (IsNearest-cut (odd * factor) (2 ^ (32 + places)) 1 (pow_pos (32 + places)) (omega arith)))

-- it is small
pub few_units : (odd factor places : ℕ) → odd < 2 ^ 54 → factor ≤ 2 ^ 24 → size_by odd factor places ≤ 10 ^ 14
few_units odd factor places fits small =
    let high = mul-le (odd / 2 ^ 32) factor (2 ^ 22) (2 ^ 24) (omega arith) small in
    let low = mul-le (odd % 2 ^ 32) factor (2 ^ 32) (2 ^ 24) (omega arith) small in
    omega (arith, high, low, shr_le (odd / 2 ^ 32 * factor + odd % 2 ^ 32 * factor / 2 ^ 32) places)

-- the significand of a double that is not subnormal
significand_of : (number : ℕ) → 0 < exponent_field number → significand number ≡ 2 ^ 52 + number % 2 ^ 52
significand_of number some =
    let more : eqb (exponent_field number) 0 ≡ false = grind (arith, nat_tests) in
    rw more refl

-- the halfway point of a moderate double
near_multiple : (by : Multiplier) (number places less : ℕ) → IsMultiplier by → places ≤ 63
    → places + exponent_field number ≡ by.greatest → less ≤ 1
    → IsNearest (above_halfway by.factor number) (below_halfway 1 number) less
    (size_by (2 * significand number + 1) by.multiple places)
near_multiple by number places less is few exponent_is one =
    let m = significand number in
    let j = by.greatest - 1043 in
    let k = 1075 - exponent_field number in
    let none : exponent number - 1 - 1075 ≡ 0 = omega (arith, is.least, is.most) in
    let above : (2 * m + 1) * by.multiple ≡ (2 * m + 1) * by.factor * 2 ^ j
    = ap (λ (n : ℕ). (2 * m + 1) * n) is.multiple_is ∙ omega arith in
    let exponents : 32 + places ≡ k + j = omega (arith, is.least, is.most) in
    let below : 2 * 2 ^ (32 + places) ≡ 2 * 2 ^ k * 2 ^ j
    = ap (λ (n : ℕ). 2 * 2 ^ n) exponents ∙ ap (λ (n : ℕ). 2 * n) (pow-add 2 k j) ∙ omega arith in
    let size = size_by (2 * m + 1) by.multiple places in
    let product = subst (λ (n : ℕ). IsNearest n (2 * 2 ^ (32 + places)) 0 size) above
    (near_product (2 * m + 1) by.multiple places) in
    let whole = IsNearest-reduced ((2 * m + 1) * by.factor) (2 * 2 ^ k) (2 ^ j) size (pow_pos j)
    (subst (λ (n : ℕ). IsNearest ((2 * m + 1) * by.factor * 2 ^ j) n 0 size) below product) in
    let power : 2 ^ 28 ≤ 2 ^ k = power_more 28 k (omega (arith, is.most)) in
    let near = IsNearest-odd m by.factor k size less is.positive (omega (arith, power, is.small)) one whole in
    let halfway : 2 * 2 ^ k ≡ 2 ^ (1075 - (exponent number - 1)) * 1
    = let next : k + 1 ≡ 1075 - (exponent number - 1) = omega (arith, is.least, is.most) in
    sym (doubled k) ∙ ap (λ (n : ℕ). 2 ^ n) next ∙ omega arith in
    let one_times : (2 * m + 1) * by.factor ≡ (2 * m + 1) * 1 * by.factor = omega arith in
    rw none (subst (λ (n : ℕ). IsNearest n (2 ^ (1075 - (exponent number - 1)) * 1) less size) one_times
    (subst (λ (n : ℕ). IsNearest ((2 * m + 1) * by.factor) n less size) halfway near))

-- the same, as the places are computed
pub moderate_nearest : (by : Multiplier) (number field places : ℕ) → IsMultiplier by → field ≡ exponent_field number
    → places ≡ (by.greatest + (2 ^ 64 - field)) % 2 ^ 64 → places ≤ 63
    → IsNearest (above_halfway by.factor number) (below_halfway 1 number) (significand number % 2)
    (size_by (2 * (number % 2 ^ 52) + (2 ^ 53 + 1)) by.multiple places)
moderate_nearest by number field places multiplier is places_are few =
    let fits = mod_below (number / 2 ^ 52) (2 ^ 11) (omega arith) in
    let sum : places + exponent_field number ≡ by.greatest = omega (arith, fits, multiplier.most) in
    let odd : 2 * significand number + 1 ≡ 2 * (number % 2 ^ 52) + (2 ^ 53 + 1)
    = omega (arith, significand_of number (omega (arith, sum, multiplier.least))) in
    subst (λ (n : ℕ). IsNearest (above_halfway by.factor number) (below_halfway 1 number) (significand number % 2)
    (size_by n by.multiple places)) odd
    (near_multiple by number places (significand number % 2) multiplier few sum (omega arith))

-- a moderate double is finite
pub moderate_finite : (by : Multiplier) (number field places : ℕ) → IsMultiplier by → field ≡ exponent_field number
    → places ≡ (by.greatest + (2 ^ 64 - field)) % 2 ^ 64 → places ≤ 63 → exponent_field number < 2 ^ 11 - 1
moderate_finite by number field places multiplier is places_are few =
    omega (arith, mod_below (number / 2 ^ 52) (2 ^ 11) (omega arith), multiplier.most)
