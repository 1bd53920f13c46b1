-- Doubles as coordinates: their values, and the halves that decide how they are rounded.
use lib.Ieee.{down, of_bits, of_fields, up, round}
use lib.Ieee.Exact.{HasValue, odd_sign}
use lib.Dec.{lit<}
use lib.Ieee.Bits.{of_bits-fits}
use lib.Ieee.Fits.{round-fits}
use Rattle.std.proofs.Common.{◌≡◌, ◌∙◌, ℕ, ℤ, ◌+◌, ◌-◌, ◌*◌, ◌/◌, ◌%◌, ◌^◌, ◌<◌, zero, suc, max, Bool, true, false}
use Rattle.std.proofs.Common.{cond, eqb, leb, ltb, neg_ℤ, ap, subst, sym, arith, inl, inr, ◌≤◌, List, [], ◌∷◌, ◌++◌}
use Rattle.std.proofs.Common.{length, take}
use Rattle.std.proofs.Common.{drop, get_or, set, pos, negsuc, refl}
use Rattle.std.proofs.Math.Nat.{eq_of_mul-eq-mul_right, mul_assoc, mul_right_comm, le_of_mul-le-mul_right}
use Rattle.std.proofs.Math.Nat.{lt_of_le_of_lt, lt_of_mul-lt-mul_right, mul-le-mul_left, mul-le-mul_right}
use Rattle.std.proofs.Math.Nat.{mul-lt-mul_of_pos_right, mul-pos, pow-le-pow_right, one-le-pow}
use Rattle.std.proofs.lemmas.Bool.{cases_lt, leb-true, ltb-true}
use Rattle.std.proofs.lemmas.Bool.Decides.{nat_tests}
use Rattle.std.proofs.lemmas.Int.{ints}
use Rattle.std.proofs.lemmas.Nat.{field_of, mod_below, pow-add, pow_pos, mul-le}
use Rattle.std.specs.Float.{Float, binary64, fin, inf, nan}
use Rattle.std.specs.Prelude.{Option, None, Some, SomeIff, nat_le, nat_lt, ◌&&◌, ◌⊎◌}
use Rattle.std.specs.List.{AllZip}
use Rattle.std.proofs.lemmas.Option.{get_or_from_slice_get, slice_get_within}
use Rattle.std.proofs.lemmas.List.{length-set, take_more, take_more_set, drop-drop, drop-set-lt}
use Rattle.fast_float.specs.Rounding.{IsSignificand}
use Rattle.twkb_points.specs.declared.point.TheConstants.{COORDINATE_BOUND}
use Rattle.twkb_points.specs.Point.{IsCoordinate}
use Rattle.twkb_tree.specs.Tree.{IsPrecision}
use Rattle.twkb_buffer.specs.RoundedNumbers.{IsFinite, exponent, exponent_field, significand, with_sign, FindsNearest}
use Rattle.twkb_buffer.specs.RoundedNumbers.{IsNearest, FindsSize, HasHalf, IsShort, IsSize, ReachesHalf, above}
use Rattle.twkb_buffer.specs.RoundedNumbers.{above_halfway, below, below_halfway, FindsUnit, IsUnit, RoundsBefore}
use Rattle.twkb_buffer.specs.RoundedNumbers.{RoundsFront}
use Rattle.twkb_buffer.specs.RoundedNumbers.{IsScale, divisor_of, factor_of, divisor_at, factor_at}
use Rattle.twkb_buffer.specs.declared.scale.Scale.{Scale}
use Rattle.twkb_buffer.specs.declared.scale.Scale.TheVariants.{Over, Times}
use Rattle.twkb_buffer.proofs.FractionLemmas.{before_half, half_before, nearest_some, nearest_value, other_value}
use Rattle.twkb_buffer.proofs.FractionLemmas.{same_value}
use Rattle.twkb_grammar.proofs.Stepping.{both}
use Rattle.twkb_buffer.specs.Samples.{AreRounded, large_doubles, other_doubles, written_halves}

-- ==== The value of a double by the parts of its bits.

-- a whole number by a power of two, in two ways
same_size : (q x l : ℕ) → q * 2 ^ (suc x - suc l) * 2 ^ l ≡ q * 2 ^ x * 2 ^ (suc l - suc x)
same_size q x l =
    let exponents : suc x - suc l + l ≡ x + (suc l - suc x) = omega arith in
    mul_assoc q (2 ^ (suc x - suc l)) (2 ^ l)
    ∙ ap (λ (n : ℕ). q * n) (sym (pow-add 2 (suc x - suc l) l) ∙ ap (λ (n : ℕ). 2 ^ n) exponents
    ∙ pow-add 2 x (suc l - suc x))
    ∙ sym (mul_assoc q (2 ^ x) (2 ^ (suc l - suc x)))

-- a value as another fraction
pub rescaled : (x : Float) (sign : Bool) (a c b d : ℕ)
    → 0 < c → b * c ≡ a * d → HasValue x sign a c → HasValue x sign b d
rescaled (fin t m e) sign a c b d some same value = (
  value.0,
  eq_of_mul-eq-mul_right c some (m * up e * d) (b * down e)
      (mul_right_comm (m * up e) d c
      ∙ ap (λ (n : ℕ). n * d) value.1
      ∙ mul_right_comm a (down e) d
      ∙ ap (λ (n : ℕ). n * down e) (sym same)
      ∙ mul_right_comm b c (down e)),
)
rescaled _ sign a c b d some same value = value

-- the value of a finite number's fields
fields_value : (sign : Bool) (field fraction : ℕ) → field < 2047
    → HasValue (of_fields binary64 sign field fraction) sign
    (cond (eqb field 0) fraction (2 ^ 52 + fraction) * 2 ^ (max 1 field - 1075)) (2 ^ (1075 - max 1 field))
unfolding of_fields
fields_value sign zero fraction finite = odd_sign 53 sign fraction 0 1074
fields_value sign (suc x) fraction finite =
    let most : max 1 (suc x) ≡ suc x = omega arith in
    let some : eqb (suc x) 2047 ≡ false = grind (arith, nat_tests) in
    let more : eqb (suc x) 0 ≡ false = grind (arith, nat_tests) in
    rw (some, more, most)
    (rescaled _ sign ((2 ^ 52 + fraction) * 2 ^ x) (2 ^ 1074) _ _ (pow_pos 1074) (same_size (2 ^ 52 + fraction) x 1074)
    (odd_sign 53 sign (2 ^ 52 + fraction) x 1074))

-- an infinity and what is no number are not finite
not_finite : (b sign s : Bool) (m : ℕ) (e : ℤ) → cond b (inf sign) nan ≡ fin s m e → ⊥
not_finite true sign s m e is = cc
not_finite false sign s m e is = cc

-- nor are their fields those of a finite number
fields_other : (sign s : Bool) (field fraction m : ℕ) (e : ℤ) → field ≡ 2047
    → of_fields binary64 sign field fraction ≡ fin s m e → ⊥
unfolding of_fields
fields_other sign s field fraction m e other is =
    not_finite (eqb fraction 0) sign s m e (subst (λ (n : ℕ). of_fields binary64 sign n fraction ≡ fin s m e) other is)

-- the value of a finite number
pub double_value : (bits : ℕ) → IsFinite bits → HasValue (of_bits binary64 bits) (leb (2 ^ 63) bits)
    (significand bits * 2 ^ (exponent bits - 1075)) (2 ^ (1075 - exponent bits))
unfolding of_bits
double_value bits finite =
    subst (λ (field : ℕ). HasValue (of_fields binary64 (leb (2 ^ 63) bits) field (bits % 2 ^ 52)) (leb (2 ^ 63) bits)
    (significand bits * 2 ^ (exponent bits - 1075)) (2 ^ (1075 - exponent bits)))
    (sym (field_of bits 11 52))
    (fields_value (leb (2 ^ 63) bits) (exponent_field bits) (bits % 2 ^ 52) finite)

-- all others are not finite
pub double_other : (bits : ℕ) (sign : Bool) (m : ℕ) (e : ℤ) → (IsFinite bits → ⊥)
    → of_bits binary64 bits ≡ fin sign m e → ⊥
unfolding of_bits
double_other bits sign m e other is =
    let most : exponent_field bits < 2048 = mod_below (bits / 2 ^ 52) (2 ^ 11) (omega arith) in
    let field : exponent_field bits ≡ 2047 = elim (cases_lt (exponent_field bits) 2047) [
      | inl some ↦ absurd (other some)
      | inr none ↦ omega (arith, none, most)
    ] in
    fields_other (leb (2 ^ 63) bits) sign (bits % 2 ^ 63 / 2 ^ 52) (bits % 2 ^ 52) m e (field_of bits 11 52 ∙ field) is

-- ==== Which halves a number reaches.

-- the order of two numbers, both multiplied and divided, of which the one may be by one more
scaled : (p q r s c d odd : ℕ) → 0 < c → 0 < d → odd ≤ 1 → p * c ≡ r * d → q * c ≡ s * d → p + odd ≤ q → r + odd ≤ s
scaled p q r s c d zero some more few one other order =
    let up : p * c ≤ q * c = mul-le-mul_right c (omega arith) in
    let down : r * d ≤ s * d = omega (arith, up, one, other) in
    let least = le_of_mul-le-mul_right down more in
    omega (arith, least)
scaled p q r s c d (suc zero) some more few one other order =
    let less : p < q = omega arith in
    let up : p * c < q * c = mul-lt-mul_of_pos_right less some in
    let down : r * d < s * d = omega (arith, up, one, other) in
    let least = lt_of_mul-lt-mul_right d down in
    omega (arith, least)
scaled p q r s c d (suc (suc n)) some more few one other order = absurd (omega arith)

-- a power of two by two exponents, of which one is 0
balanced : (e l : ℕ) → 1 ≤ e → 1 ≤ l → 2 ^ (l - e) * 2 ^ (e - 1) ≡ 2 ^ (e - l) * 2 ^ (l - 1)
balanced e l some more =
    let same : l - e + (e - 1) ≡ e - l + (l - 1) = omega arith in
    sym (pow-add 2 (l - e) (e - 1)) ∙ ap (λ (n : ℕ). 2 ^ n) same ∙ pow-add 2 (e - l) (l - 1)

-- a factor and a divisor of units
pub record AreScales (factor divisor : ℕ) : Type 0 where
  pub factor_some : 0 < factor
  pub factor_fits : factor ≤ 10 ^ 7
  pub divisor_some : 0 < divisor
  pub divisor_fits : divisor ≤ 10 ^ 8

-- those of a scale
pub AreScales-scale : (scale : Scale) → IsScale scale → AreScales (factor_of scale) (divisor_of scale)
AreScales-scale (Times factor) fits = record {
  factor_some = fits.0;
  factor_fits = fits.1;
  divisor_some = omega arith;
  divisor_fits = omega arith;
}
AreScales-scale (Over divisor) fits = record {
  factor_some = omega arith;
  factor_fits = omega arith;
  divisor_some = fits.0;
  divisor_fits = fits.1;
}

-- products of the two fractions
over : (w d a b k l : ℕ) → a * k ≡ b * l → (2 * w + 1) * (a * d) * k ≡ (2 * w + 1) * d * l * b
over w d a b k l same =
    let both : (2 * w + 1) * d * (a * k) ≡ (2 * w + 1) * d * (b * l) = ap (λ (n : ℕ). (2 * w + 1) * d * n) same in
    omega (arith, both)

under : (m f b k : ℕ) → 2 * (m * b * f) * k ≡ m * (2 * f * k) * b
under m f b k = omega arith

under_halfway : (m f b k : ℕ) → 2 * ((2 * m + 1) * b * f) * k ≡ (2 * m + 1) * (2 * f * k) * b
under_halfway m f b k = omega arith

-- a significand has 53 bits, and the first one is set but for the least exponent
cut_fits : (b : Bool) (n : ℕ) → n < 2 ^ 52 → cond b n (2 ^ 52 + n) < 2 ^ 53
cut_fits true n small = omega arith
cut_fits false n small = omega arith

pub significand_fits : (number : ℕ) → significand number < 2 ^ 53
significand_fits number =
    cut_fits (eqb (exponent_field number) 0) (number % 2 ^ 52) (mod_below number (2 ^ 52) (omega arith))

leading_at : (field n : ℕ) → 1 < max 1 field → 2 ^ 52 ≤ cond (eqb field 0) n (2 ^ 52 + n)
leading_at zero n more = absurd (omega arith)
leading_at (suc x) n more =
    let none : eqb (suc x) 0 ≡ false = grind (arith, nat_tests) in
    rw none (omega arith)

pub leading : (number : ℕ) → 1 < exponent number → 2 ^ 52 ≤ significand number
leading number more = leading_at (exponent_field number) (number % 2 ^ 52) more

-- a power of two by a greater exponent
power_more : (i j : ℕ) → i ≤ j → 2 ^ i ≤ 2 ^ j
power_more i j more = pow-le-pow_right {n = 2} (omega arith) {i = i} {j = j} more

module _ (factor divisor number : ℕ) where
  abbrev m : ℕ
  m = significand number

  abbrev k : ℕ
  k = exponent number - 1

  abbrev unit : ℕ
  unit = 2 * factor * 2 ^ k

  some_exponent : 1 ≤ exponent number
  some_exponent = omega arith

  -- a half is not above the number
  half_from : (w : ℕ) → HasHalf factor divisor number w → (2 * w + 1) * divisor * 2 ^ 1074 ≤ m * unit
  half_from w has =
      let order = scaled ((2 * w + 1) * below divisor number) (2 * above factor number)
      ((2 * w + 1) * divisor * 2 ^ 1074) (m * unit) (2 ^ k) (2 ^ (exponent number - 1075)) 0 (pow_pos k)
      (pow_pos (exponent number - 1075)) (omega arith)
      (over w divisor (2 ^ (1075 - exponent number)) (2 ^ (exponent number - 1075)) (2 ^ k) (2 ^ 1074)
      (balanced (exponent number) 1075 some_exponent (omega arith)))
      (under m factor (2 ^ (exponent number - 1075)) (2 ^ k)) (omega (arith, has)) in
      omega (arith, order)

  from_half : (w : ℕ) → (2 * w + 1) * divisor * 2 ^ 1074 ≤ m * unit → HasHalf factor divisor number w
  from_half w most =
      let order = scaled ((2 * w + 1) * divisor * 2 ^ 1074) (m * unit)
      ((2 * w + 1) * below divisor number) (2 * above factor number) (2 ^ (exponent number - 1075)) (2 ^ k) 0
      (pow_pos (exponent number - 1075)) (pow_pos k) (omega arith)
      (sym (over w divisor (2 ^ (1075 - exponent number)) (2 ^ (exponent number - 1075)) (2 ^ k) (2 ^ 1074)
      (balanced (exponent number) 1075 some_exponent (omega arith))))
      (sym (under m factor (2 ^ (exponent number - 1075)) (2 ^ k))) (omega (arith, most)) in
      omega (arith, order)

  -- a half is not above the point halfway to the next double
  abbrev WithinHalfway : ℕ → Type 0
  WithinHalfway w = (2 * w + 1) * below_halfway divisor number + m % 2 ≤ 2 * above_halfway factor number

  halfway_over : (w : ℕ)
      → (2 * w + 1) * below_halfway divisor number * 2 ^ k ≡ 2 * ((2 * w + 1) * divisor * 2 ^ 1074) * 2 ^ (k - 1075)
  halfway_over w =
      let same : 2 ^ (1075 - k) * 2 ^ k ≡ 2 ^ (k - 1075) * (2 * 2 ^ 1074)
      = let exponents : 1075 - k + k ≡ k - 1075 + 1075 = omega arith in
      sym (pow-add 2 (1075 - k) k) ∙ ap (λ (n : ℕ). 2 ^ n) exponents ∙ pow-add 2 (k - 1075) 1075 in
      over w divisor (2 ^ (1075 - k)) (2 ^ (k - 1075)) (2 ^ k) (2 * 2 ^ 1074) same ∙ omega arith

  halfway_to : (w : ℕ) → WithinHalfway w → 2 * ((2 * w + 1) * divisor * 2 ^ 1074) + m % 2 ≤ (2 * m + 1) * unit
  halfway_to w within =
      scaled ((2 * w + 1) * below_halfway divisor number) (2 * above_halfway factor number)
      (2 * ((2 * w + 1) * divisor * 2 ^ 1074)) ((2 * m + 1) * unit) (2 ^ k) (2 ^ (k - 1075)) (m % 2) (pow_pos k)
      (pow_pos (k - 1075)) (omega arith) (halfway_over w) (under_halfway m factor (2 ^ (k - 1075)) (2 ^ k)) within

  to_halfway : (w : ℕ) → 2 * ((2 * w + 1) * divisor * 2 ^ 1074) + m % 2 ≤ (2 * m + 1) * unit → WithinHalfway w
  to_halfway w most =
      scaled (2 * ((2 * w + 1) * divisor * 2 ^ 1074)) ((2 * m + 1) * unit)
      ((2 * w + 1) * below_halfway divisor number) (2 * above_halfway factor number) (2 ^ (k - 1075)) (2 ^ k) (m % 2)
      (pow_pos (k - 1075)) (pow_pos k) (omega arith) (sym (halfway_over w))
      (sym (under_halfway m factor (2 ^ (k - 1075)) (2 ^ k))) most

  module _ (scales : AreScales factor divisor) where
    unit_some : 0 < unit
    unit_some = mul-pos (mul-pos (omega arith) scales.factor_some) (pow_pos k)

    -- what the number has is before that point
    half_within : (w : ℕ) → HasHalf factor divisor number w → WithinHalfway w
    half_within w has = to_halfway w (omega (arith, half_from w has, unit_some))

    module _ (finite : IsFinite number) where
      digits : IsSignificand binary64 m k
      digits = record { fits = significand_fits number; normal = λ more. leading number (omega arith) }

      -- the number is not so large that there is no next one
      small_exponent : IsShort factor divisor number → exponent number ≤ 1200
      small_exponent short = elim (cases_lt 1200 (exponent number)) [
        | inr most ↦ most
        | inl large ↦
            let none : 1075 - exponent number ≡ 0 = omega arith in
            let power : 2 ^ 125 ≤ 2 ^ (exponent number - 1075) =
            power_more 125 (exponent number - 1075) (omega arith) in
            let product =
            mul-le (2 ^ 52) (2 ^ 125) m (2 ^ (exponent number - 1075)) (leading number (omega arith)) power in
            let all =
            mul-le (2 ^ 52 * 2 ^ 125) 1 (m * 2 ^ (exponent number - 1075)) factor product scales.factor_some in
            let least : 10 * above factor number < 10 ^ 15 * (2 ^ 0 * divisor) = rw none at short in
            absurd (omega (arith, all, least, scales.divisor_fits))
      ]

      room : IsShort factor divisor number → (m + 1) * 2 ^ k < 2 ^ 2098
      room short =
          let digits : 2 ^ k * (m + 1) ≤ 2 ^ k * 2 ^ 53 =
          mul-le-mul_left (2 ^ k) (omega (arith, significand_fits number)) in
          let power : 2 ^ (k + 53) ≤ 2 ^ 1300 = power_more (k + 53) 1300 (omega (arith, small_exponent short)) in
          let most : (m + 1) * 2 ^ k ≤ 2 ^ 1300 = omega (arith, digits, power, pow-add 2 k 53) in
          lt_of_le_of_lt most (lit< tt)

      value : HasValue (of_bits binary64 number) (leb (2 ^ 63) number) (m * 2 ^ k) (2 ^ 1074)
      value =
          let same : m * 2 ^ k * 2 ^ (1075 - exponent number) ≡ m * 2 ^ (exponent number - 1075) * 2 ^ 1074
          = let powers = balanced (exponent number) 1075 some_exponent (omega arith) in
          let both = ap (λ (n : ℕ). m * n) powers in omega (arith, both) in
          rescaled (of_bits binary64 number) (leb (2 ^ 63) number) (m * 2 ^ (exponent number - 1075))
          (2 ^ (1075 - exponent number)) (m * 2 ^ k) (2 ^ 1074) (pow_pos (1075 - exponent number)) same
          (double_value number finite)

      -- each half that a number of few units reaches is before that point
      reached_within : (w : ℕ) → ReachesHalf factor divisor number w → WithinHalfway w
      reached_within w (inl has) = half_within w has
      reached_within w (inr counts) =
          let n = (2 * w + 1) * divisor * 2 ^ 1074 in
          elim (cases_lt (m * unit) n) [
            | inr most ↦ half_within w (from_half w most)
            | inl more ↦ elim (cases_lt ((2 * m + 1) * unit) (2 * n + m % 2)) [
              | inr within ↦ to_halfway w within
              | inl past ↦ absurd (other_value binary64 (leb (2 ^ 63) number) ((2 * w + 1) * divisor) (2 * factor) m k
                  (mul-pos (omega arith) scales.factor_some) digits (room counts.0) (omega (arith, more)) past
                  (subst (λ (x : Float). HasValue x (leb (2 ^ 63) number) (m * 2 ^ k) (2 ^ 1074)) counts.1 value))
            ]
          ]

      -- and the other way round
      within_reached : IsShort factor divisor number → (w : ℕ) → WithinHalfway w → ReachesHalf factor divisor number w
      within_reached short w within =
          let n = (2 * w + 1) * divisor * 2 ^ 1074 in
          elim (cases_lt (m * unit) n) [
            | inr most ↦ inl (from_half w most)
            | inl more ↦ inr (
              short,
              same_value binary64 (of_bits binary64 number)
                  (round binary64 (leb (2 ^ 63) number) ((2 * w + 1) * divisor) (2 * factor)) (leb (2 ^ 63) number)
                  (m * 2 ^ k) (of_bits-fits binary64 number)
                  (round-fits binary64 (leb (2 ^ 63) number) ((2 * w + 1) * divisor) (2 * factor)) value
                  (nearest_value binary64 (leb (2 ^ 63) number) ((2 * w + 1) * divisor) (2 * factor) m k
                  (mul-pos (omega arith) scales.factor_some) digits (room short) (omega (arith, more))
                  (halfway_to w within)),
            )
          ]

      -- the size of a number of few units
      pub short_size : (size : ℕ) → IsShort factor divisor number
          → IsNearest (above_halfway factor number) (below_halfway divisor number) (m % 2) size
          → IsSize factor divisor number size
      short_size size short near = λ w. (
        λ fewer. within_reached short w (half_before w near fewer),
        λ reaches. before_half w near (reached_within w reaches),
      )

      -- that of a number of more units, if it is found in the same way
      pub middle_size : (size : ℕ) → (IsShort factor divisor number → ⊥) → size ≤ 10 ^ 14
          → IsNearest (above_halfway factor number) (below_halfway divisor number) (m % 2) size
          → IsSize factor divisor number size
      middle_size size long few near = λ w. (
        λ fewer. inl (
            let most : below divisor number * (2 * w + 1) ≤ below divisor number * (2 * 10 ^ 14)
            = mul-le-mul_left (below divisor number) (omega arith) in
            let large : 10 ^ 15 * below divisor number ≤ 10 * above factor number
            = elim (cases_lt (10 * above factor number) (10 ^ 15 * below divisor number)) [
              | inl short ↦ absurd (long short)
              | inr large ↦ large
            ] in
            omega (arith, most, large)),
        λ reaches. before_half w near (reached_within w reaches),
      )

      -- that of any number, if it is found in this way and small
      pub found_size : (size : ℕ) → size ≤ 10 ^ 14
          → IsNearest (above_halfway factor number) (below_halfway divisor number) (m % 2) size
          → IsSize factor divisor number size
      found_size size few near = elim (cases_lt (10 * above factor number) (10 ^ 15 * below divisor number)) [
        | inl short ↦ short_size size short near
        | inr long ↦ middle_size size (λ short. omega (arith, short, long)) few near
      ]

      -- the size of a number of few units is small
      pub short_near : (size : ℕ) → IsShort factor divisor number
          → IsNearest (above_halfway factor number) (below_halfway divisor number) (m % 2) size → size ≤ 10 ^ 14
      short_near size short near = elim (cases_lt (10 ^ 14) size) [
        | inr most ↦ most
        | inl more ↦
            let all = divisor * 2 ^ 1074 in
            let half = halfway_to (10 ^ 14) (half_before (10 ^ 14) near more) in
            let exact : m * unit < (2 * 10 ^ 14) * all = few_units short in
            let wide : 2 * all < unit = omega (arith, half, exact) in
            let tenth : m < 10 ^ 14 = lt_of_mul-lt-mul_right unit (omega (arith, exact, wide)) in
            elim (cases_lt 1 (exponent number)) [
              | inl normal ↦ absurd (omega (arith, leading number normal, tenth))
              | inr least ↦
                  let none : k ≡ 0 = omega (arith, least) in
                  let small : 2 * all < 2 * factor * 1 = rw none at wide in
                  let power : 2 ^ 30 ≤ 2 ^ 1074 = power_more 30 1074 (omega arith) in
                  let large = mul-le 1 (2 ^ 30) divisor (2 ^ 1074) scales.divisor_some power in
                  absurd (omega (arith, small, large, scales.factor_fits))
            ]
      ]
        where
          few_units : IsShort factor divisor number → m * unit < (2 * 10 ^ 14) * (divisor * 2 ^ 1074)
          few_units short =
              let order = scaled (10 * above factor number) (10 ^ 15 * below divisor number)
              (5 * (m * unit)) (10 ^ 15 * (divisor * 2 ^ 1074)) (2 ^ k) (2 ^ (exponent number - 1075)) 1 (pow_pos k)
              (pow_pos (exponent number - 1075)) (omega arith)
              (omega (arith, under m factor (2 ^ (exponent number - 1075)) (2 ^ k)))
              (let powers = balanced (exponent number) 1075 some_exponent (omega arith) in
              let both = ap (λ (n : ℕ). 10 ^ 15 * divisor * n) powers in omega (arith, both))
              (omega (arith, short)) in
              omega (arith, order)

      -- no size is found for a number of so many units
      pub long_none : ((whole : ℕ)
          → IsNearest (above_halfway factor number) (below_halfway divisor number) (m % 2) whole
          → COORDINATE_BOUND < whole) → IsShort factor divisor number → ⊥
      long_none far short =
          let some = mul-pos (pow_pos (1075 - k)) scales.divisor_some in
          let near =
          nearest_some (above_halfway factor number) (below_halfway divisor number) (m % 2) some (omega arith) in
          let size = (2 * above_halfway factor number + below_halfway divisor number - m % 2)
          / (2 * below_halfway divisor number) in
          omega (arith, far size near, short_near size short near)

-- beyond those the exact size decides
module _ (factor divisor number : ℕ) (long : IsShort factor divisor number → ⊥) where
  has_half : (w : ℕ) → ReachesHalf factor divisor number w → HasHalf factor divisor number w
  has_half w (inl has) = has
  has_half w (inr counts) = absurd (long counts.0)

  pub long_size : (size : ℕ) → IsNearest (above factor number) (below divisor number) 0 size
      → IsSize factor divisor number size
  long_size size near = λ w. (
    λ fewer. inl (omega (arith, half_before w near fewer)),
    λ reaches. before_half w near (omega (arith, has_half w reaches)),
  )

  at_most : (size : ℕ) → IsSize factor divisor number size
      → 2 * (size * below divisor number) + 0 ≤ 2 * above factor number + below divisor number
  at_most zero is = omega arith
  at_most (suc last) is = omega (arith, has_half last ((is last).0 (omega arith)))

  size_near : (size : ℕ) → IsSize factor divisor number size
      → IsNearest (above factor number) (below divisor number) 0 size
  size_near size is = record {
    at_most_half_over = at_most size is;
    less_than_half_under =
        elim (cases_lt (2 * above factor number) ((2 * size + 1) * below divisor number)) [
          | inl less ↦ omega (arith, less)
          | inr has ↦ (let less : size < size = (is size).1 (inl has) in absurd (omega (arith, less)))
        ];
  }

  pub long_found : (found : Option ℕ) → FindsNearest (above factor number) (below divisor number) 0 found
      → FindsSize factor divisor number found
  long_found (Some size) near = long_size size near
  long_found None far = λ size is. far size (size_near size is)

-- a number has one size
not_fewer : (factor divisor number one other : ℕ) → IsSize factor divisor number one
    → IsSize factor divisor number other → one ≤ other
not_fewer factor divisor number one other a b = elim (cases_lt other one) [
  | inl fewer ↦ (let less : other < other = (b other).1 ((a other).0 fewer) in absurd (omega (arith, less)))
  | inr most ↦ most
]

pub IsSize-one : (factor divisor number one other : ℕ) → IsSize factor divisor number one
    → IsSize factor divisor number other → one ≡ other
IsSize-one factor divisor number one other a b =
    omega (arith, not_fewer factor divisor number one other a b, not_fewer factor divisor number other one b a)

-- ==== Numbers as coordinates.

-- a power of ten with few zeros
pub ten_fits : (n most power : ℕ) → n ≤ most → power ≡ 10 ^ n → (0 < power) × (power ≤ 10 ^ most)
ten_fits n most power few is =
    let least = one-le-pow n 10 (omega arith) in
    let top : 10 ^ n ≤ 10 ^ most = pow-le-pow_right {n = 10} (omega arith) {i = n} {j = most} few in
    (omega (arith, least), omega (arith, top))

-- a small size is in range with either sign
signed_fits : (b : Bool) (size : ℕ) → size < COORDINATE_BOUND → IsCoordinate (cond b (pos size) (neg_ℤ (pos size)))
signed_fits true size few = (omega (arith, ints), omega (arith, ints))
signed_fits false size few = (omega (arith, ints), omega (arith, ints))

-- the size that was found, with its sign, is the only one
pub FindsUnit-size : (factor divisor number size : ℕ) (found : Option ℤ) → IsFinite number
    → IsSize factor divisor number size
    → SomeIff found (IsCoordinate (with_sign number size)) (with_sign number size)
    → FindsUnit factor divisor number found
FindsUnit-size factor divisor number size (Some unit) finite size_is told = record {
  finite = finite;
  size = size;
  size_is = size_is;
  unit_is = told.1;
  in_range = subst IsCoordinate (sym told.1) told.0;
}
FindsUnit-size factor divisor number size None finite size_is told = λ unit is.
    let same : is.size ≡ size = IsSize-one factor divisor number is.size size is.size_is size_is in
    told (subst (λ (n : ℕ). IsCoordinate (with_sign number n)) same (subst IsCoordinate is.unit_is is.in_range))

-- the unit of a size that is found and small
pub IsUnit-few : (factor divisor number size : ℕ) (coordinate : ℤ) → AreScales factor divisor → IsFinite number
    → size ≤ 10 ^ 14
    → IsNearest (above_halfway factor number) (below_halfway divisor number) (significand number % 2) size
    → coordinate ≡ with_sign number size → IsUnit factor divisor number coordinate
IsUnit-few factor divisor number size coordinate scales finite few near is = record {
  finite = finite;
  size = size;
  size_is = found_size factor divisor number scales finite size few near;
  unit_is = is;
  in_range = subst IsCoordinate (sym is) (signed_fits (ltb number (2 ^ 63)) size (omega (arith, few)));
}

-- The size of a number, which is small or at most half a unit more than the exact one.
record HasSize (factor divisor number : ℕ) : Type 0 where
  size : ℕ
  size_is : IsSize factor divisor number size
  few : (size ≤ 10 ^ 14) ⊎ (2 * (size * below divisor number) ≤ 2 * above factor number + below divisor number)

-- each finite number has one
some_size : (factor divisor number : ℕ) → AreScales factor divisor → IsFinite number → HasSize factor divisor number
some_size factor divisor number scales finite =
    elim (cases_lt (10 * above factor number) (10 ^ 15 * below divisor number)) [
      | inl short ↦
          let some = mul-pos (pow_pos (1075 - (exponent number - 1))) scales.divisor_some in
          let near = nearest_some (above_halfway factor number) (below_halfway divisor number) (significand number % 2)
          some (omega arith) in
          record {
            size = _;
            size_is = short_size factor divisor number scales finite _ short near;
            few = inl (short_near factor divisor number scales finite _ short near);
          }
      | inr long ↦
          let some = mul-pos (pow_pos (1075 - exponent number)) scales.divisor_some in
          let near = nearest_some (above factor number) (below divisor number) 0 some (omega arith) in
          record {
            size = _;
            size_is = long_size factor divisor number (λ short. omega (arith, short, long)) _ near;
            few = inr (omega (arith, near.at_most_half_over));
          }
    ]

-- the powers of ten at a precision are those of a scale
AreScales-at : (precision : ℤ) → IsPrecision precision → AreScales (factor_at precision) (divisor_at precision)
AreScales-at (pos n) is =
    let power = ten_fits n 7 (10 ^ n) (omega (arith, ints, is.1)) refl in
    record {
      factor_some = power.0;
      factor_fits = power.1;
      divisor_some = omega arith;
      divisor_fits = omega arith;
    }
AreScales-at (negsuc n) is =
    let power = ten_fits (suc n) 8 (10 ^ suc n) (omega (arith, ints, is.0)) refl in
    record {
      factor_some = omega arith;
      factor_fits = omega arith;
      divisor_some = power.0;
      divisor_fits = power.1;
    }

pub IsSize-some : (precision : ℤ) (number : ℕ) → IsPrecision precision → IsFinite number
    → (size : ℕ) × IsSize (factor_at precision) (divisor_at precision) number size
IsSize-some precision number is finite =
    let has = some_size (factor_at precision) (divisor_at precision) number (AreScales-at precision is) finite in
    (has.size, has.size_is)

-- a size at most half a unit more than one below the bound
rounded_fits : (size over under : ℕ) → 0 < under → over ≤ (COORDINATE_BOUND - 1) * under
    → 2 * (size * under) ≤ 2 * over + under → size < COORDINATE_BOUND
rounded_fits size over under some small near = elim (cases_lt size COORDINATE_BOUND) [
  | inl less ↦ less
  | inr far ↦
      let most : COORDINATE_BOUND * under ≤ size * under = mul-le-mul_right under far in
      absurd (omega (arith, most, near, small, some))
]

-- it is in range if the exact one is
size_fits : (factor divisor number : ℕ) → 0 < below divisor number
    → above factor number ≤ (COORDINATE_BOUND - 1) * below divisor number
    → (has : HasSize factor divisor number) → has.size < COORDINATE_BOUND
size_fits factor divisor number some small has = elim has.few [
  | inl few ↦ omega (arith, few)
  | inr near ↦ rounded_fits has.size (above factor number) (below divisor number) some small near
]

pub IsUnit-some : (precision : ℤ) (number : ℕ) → IsPrecision precision → IsFinite number
    → above (factor_at precision) number ≤ (COORDINATE_BOUND - 1) * below (divisor_at precision) number
    → (unit : ℤ) × IsUnit (factor_at precision) (divisor_at precision) number unit
IsUnit-some precision number is finite small =
    let factor = factor_at precision in
    let divisor = divisor_at precision in
    let scales = AreScales-at precision is in
    let has = some_size factor divisor number scales finite in
    let some = mul-pos (pow_pos (1075 - exponent number)) scales.divisor_some in (
      with_sign number has.size,
      record {
        finite = finite;
        size = has.size;
        size_is = has.size_is;
        unit_is = refl;
        in_range = signed_fits (ltb number (2 ^ 63)) has.size (size_fits factor divisor number some small has);
      },
    )

-- and so is its unit
pub IsUnit-one : (factor divisor number : ℕ) (one other : ℤ) → IsUnit factor divisor number one
    → IsUnit factor divisor number other → one ≡ other
IsUnit-one factor divisor number one other a b =
    a.unit_is ∙ ap (with_sign number) (IsSize-one factor divisor number a.size b.size a.size_is b.size_is)
    ∙ sym b.unit_is

-- the same, of no more numbers than there are
pub record RoundsUpTo (factor divisor : ℕ) (numbers : List ℕ) (old new : List ℤ) (count : ℕ) : Type 0 where
  pub before : RoundsBefore factor divisor numbers old new count
  pub within : count ≤ length numbers

-- one more pair
AllZip-more : {A B : Type 0} (R : A → B → Type 0) (xs : List A) (ys : List B) (x : A) (y : B) → AllZip R xs ys
    → R x y → AllZip R (xs ++ x ∷ []) (ys ++ y ∷ [])
AllZip-more R [] [] x y all more = (more, tt)
AllZip-more R (a ∷ xs) (b ∷ ys) x y all more = (all.0, AllZip-more R xs ys x y all.1 more)
AllZip-more R _ _ x y all more = absurd all

-- one more number is rounded
pub rounds_more : {factor divisor : ℕ} {numbers : List ℕ} {old new : List ℤ} {count : ℕ} {unit : ℤ}
    → RoundsBefore factor divisor numbers old new count → count < length numbers
    → length numbers ≤ length old → IsUnit factor divisor (get_or numbers count 0) unit
    → RoundsBefore factor divisor numbers old (set new count unit) (count + 1)
rounds_more {factor = factor} {divisor = divisor} {numbers = numbers} {old = old} {new = new}
    {count = count}
    {unit = unit} before some room is =
    let places : count < length new = omega (arith, before.as_many) in
    record {
      as_many = length-set new count unit ∙ before.as_many;
      rounded = rw (take_more numbers count 0 some, take_more_set new count unit places)
          (AllZip-more (IsUnit factor divisor) (take count numbers) (take count new) (get_or numbers count 0) unit
          before.rounded is);
      left = drop-set-lt (count + 1) new count unit (omega arith) ∙ sym (drop-drop 1 count new)
          ∙ ap (λ (ns : List ℤ). drop 1 ns) before.left ∙ drop-drop 1 count old;
    }

-- the next number is refused
pub rounds_to : {factor divisor : ℕ} {numbers : List ℕ} {old new : List ℤ} {count : ℕ}
    → RoundsBefore factor divisor numbers old new count → count < length numbers
    → FindsUnit factor divisor (get_or numbers count 0) None → RoundsFront factor divisor numbers old new count
rounds_to {factor = factor} {divisor = divisor} {numbers = numbers} {count = count} before some
    refused = record {
      within = omega arith;
      rounded = before.rounded;
      left = before.left;
      stopped = λ number next.
          subst (λ (n : ℕ). FindsUnit factor divisor n None)
          (get_or_from_slice_get numbers count number 0 next) refused;
    }

-- no number is left
pub rounds_all : {factor divisor : ℕ} {numbers : List ℕ} {old new : List ℤ} {count : ℕ}
    → RoundsBefore factor divisor numbers old new count → count ≡ length numbers
    → RoundsFront factor divisor numbers old new (length numbers)
rounds_all {numbers = numbers} before all =
    let whole = rw all at before in
    record {
      within = omega arith;
      rounded = whole.rounded;
      left = whole.left;
      stopped = λ number next. absurd (omega (arith, slice_get_within numbers (length numbers) number next));
    }

-- ==== Doubles are rounded as the samples say, by computation.

-- the factor and the divisor are those of a scale
abbrev are_scales : ℕ → ℕ → Bool
are_scales factor divisor = nat_lt 0 factor && (nat_le factor (10 ^ 7) && (nat_lt 0 divisor && nat_le divisor (10 ^ 8)))

scales_by : (factor divisor : ℕ) → are_scales factor divisor ≡ true → AreScales factor divisor
scales_by factor divisor e =
    let a = both _ _ e in
    let b = both _ _ a.1 in
    let c = both _ _ b.1 in
    record {
      factor_some = ltb-true 0 factor a.0;
      factor_fits = leb-true factor (10 ^ 7) b.0;
      divisor_some = ltb-true 0 divisor c.0;
      divisor_fits = leb-true divisor (10 ^ 8) c.1;
    }

-- a whole number is the nearest to a fraction
abbrev is_near : (over under less whole : ℕ) → Bool
is_near over under less whole =
    nat_le (2 * (whole * under) + less) (2 * over + under)
    && nat_lt (2 * over) (2 * (whole * under) + under + less)

near_by : (over under less whole : ℕ) → is_near over under less whole ≡ true → IsNearest over under less whole
near_by over under less whole e =
    let h = both _ _ e in
    record { at_most_half_over = leb-true _ _ h.0; less_than_half_under = ltb-true _ _ h.1 }

-- a double of few units
of_few : (precision : ℤ) (number size : ℕ)
    → are_scales (factor_at precision) (divisor_at precision) ≡ true
    → nat_lt (exponent_field number) (2 ^ 11 - 1) ≡ true
    → nat_lt (10 * above (factor_at precision) number) (10 ^ 15 * below (divisor_at precision) number) ≡ true
    → is_near (above_halfway (factor_at precision) number) (below_halfway (divisor_at precision) number)
    (significand number % 2) size ≡ true
    → IsCoordinate (with_sign number size)
    → IsUnit (factor_at precision) (divisor_at precision) number (with_sign number size)
of_few precision number size scales finite short near within =
    let factor = factor_at precision in
    let divisor = divisor_at precision in
    let is_finite = ltb-true (exponent_field number) (2 ^ 11 - 1) finite in
    record {
      finite = is_finite;
      size = size;
      size_is = short_size factor divisor number (scales_by factor divisor scales) is_finite size
          (ltb-true (10 * above factor number) (10 ^ 15 * below divisor number) short)
          (near_by (above_halfway factor number) (below_halfway divisor number) (significand number % 2) size near);
      unit_is = refl;
      in_range = within;
    }

-- a double of more units
of_many : (precision : ℤ) (number size : ℕ) → nat_lt (exponent_field number) (2 ^ 11 - 1) ≡ true
    → nat_le (10 ^ 15 * below (divisor_at precision) number) (10 * above (factor_at precision) number) ≡ true
    → is_near (above (factor_at precision) number) (below (divisor_at precision) number) 0 size ≡ true
    → IsCoordinate (with_sign number size)
    → IsUnit (factor_at precision) (divisor_at precision) number (with_sign number size)
of_many precision number size finite long near within =
    let factor = factor_at precision in
    let divisor = divisor_at precision in
    let more = leb-true (10 ^ 15 * below divisor number) (10 * above factor number) long in
    record {
      finite = ltb-true (exponent_field number) (2 ^ 11 - 1) finite;
      size = size;
      size_is = long_size factor divisor number (λ short. omega (arith, short, more)) size
          (near_by (above factor number) (below divisor number) 0 size near);
      unit_is = refl;
      in_range = within;
    }

-- two facts, one after the other
infixr 10 ◌also◌
◌also◌ : {A B : Type 0} → A → B → A × B
a also b = (a, b)

pub halves_rounded : AreRounded written_halves
halves_rounded =
    of_few (pos 1) 0x3FC3333333333333 2 refl refl refl refl (omega arith, omega arith)
    also of_few (pos 1) 0xBFC3333333333333 2 refl refl refl refl (omega arith, omega arith)
    also of_few (pos 1) 0x3FD6666666666666 4 refl refl refl refl (omega arith, omega arith)
    also of_few (pos 2) 0x3FF0147AE147AE14 101 refl refl refl refl (omega arith, omega arith)
    also of_few (pos 0) 0x3FE0000000000000 1 refl refl refl refl (omega arith, omega arith)
    also of_few (pos 0) 0xC004000000000000 3 refl refl refl refl (omega arith, omega arith)
    also of_few (pos 5) 0x3ED4F8B588E368F1 1 refl refl refl refl (omega arith, omega arith)
    also of_few (pos 4) 0x401DCA9930BE0DED 74479 refl refl refl refl (omega arith, omega arith)
    also of_few (pos 5) 0x3F904C059210385C 1592 refl refl refl refl (omega arith, omega arith)
    also of_few (pos 5) 0xBFD11BDA5119CE07 26733 refl refl refl refl (omega arith, omega arith)
    also of_few (pos 5) 0x40477956EAC86057 4694797 refl refl refl refl (omega arith, omega arith)
    also of_few (pos 6) 0x3EA0C6F7A0B5ED8D 1 refl refl refl refl (omega arith, omega arith)
    also of_few (pos 6) 0x404098F6A0DBAD3A 33195027 refl refl refl refl (omega arith, omega arith)
    also of_few (pos 7) 0x4040BCD3AB78BF2E 334752097 refl refl refl refl (omega arith, omega arith)
    also tt

pub others_rounded : AreRounded other_doubles
others_rounded =
    of_few (pos 1) 0x3FC3333333333332 1 refl refl refl refl (omega arith, omega arith)
    also of_few (pos 5) 0x401DCA8EB463497B 744781 refl refl refl refl (omega arith, omega arith)
    also of_few (pos 7) 0x401DCA8EB463497B 74478100 refl refl refl refl (omega arith, omega arith)
    also of_few (negsuc 7) 0x41A1E1A300000000 2 refl refl refl refl (omega arith, omega arith)
    also of_few (pos 7) 0x8000000000000000 0 refl refl refl refl (omega arith, omega arith)
    also of_few (pos 7) 0x0000000000000001 0 refl refl refl refl (omega arith, omega arith)
    also tt

pub large_rounded : AreRounded large_doubles
large_rounded =
    of_many (pos 0) 0x4340000000000000 9007199254740992 refl refl refl (omega arith, omega arith)
    also of_many (pos 0) 0x43CFFFFFFFFFFFFF 4611686018427387392 refl refl refl
    (omega arith, omega arith)
    also of_many (pos 0) 0xC3D0000000000000 4611686018427387904 refl refl refl
    (omega arith, omega arith) also tt
