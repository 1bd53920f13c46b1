-- Whole numbers and doubles that are nearest to fractions.
use lib.Dec.{T, eqb, eqb→eq, ltb, ltb→lt}
use lib.Ieee.{Float, Format, fin, inf, nan, down, emax, fits, hid, le, low, neg, of_bits, prec, round, size, to_bits}
use lib.Ieee.{top, up}
use lib.Ieee.Bits.{of_bits-to_bits}
use lib.Ieee.Exact.{HasValue, units_val}
use lib.Ieee.Fits.{down_pos}
use lib.Ieee.Order.{round_mono, transfer}
use Rattle.std.proofs.Common.{◌≡◌, ◌∙◌, ℕ, ◌+◌, ◌-◌, ◌*◌, ◌/◌, ◌%◌, ◌^◌, ◌<◌, ◌≤◌, ap, refl, subst, sym, arith, inl}
use Rattle.std.proofs.Common.{inr, ◌||◌, ◌&&◌, suc, Bool, true, false, cond, true≢false}
use Rattle.std.proofs.Math.Nat.{mul-le-mul_left, pow-le-pow_right, eq_of_mul-eq-mul_right, le_of_mul-le-mul_right}
use Rattle.std.proofs.Math.Nat.{mul-div_cancel, mul-pos}
use Rattle.std.proofs.lemmas.Bool.{cases_lt}
use Rattle.std.proofs.lemmas.Nat.{div-add-mod', div-mul-add, mod_below, mul-le, one_shl, pow-add, pow_pos, shl_whole}
use Rattle.std.proofs.lemmas.Nat.{shr-shr}
use Rattle.std.specs.Prelude.{Option}
use Rattle.fast_float.specs.Rounding.{IsNearestBits, IsSignificand, scaled_bits}
use Rattle.fast_float.proofs.Patterns.{neg-round, of_bits-scaled_bits}
use Rattle.fast_float.proofs.RoundingLemmas.{nearest_above, nearest_below, nearest_tie}
use Rattle.twkb_points.specs.declared.point.TheConstants.{COORDINATE_BOUND}
use Rattle.twkb_buffer.specs.RoundedNumbers.{FindsNearest, IsNearest}

-- ==== Whole numbers nearest to fractions.

-- a whole number of parts, and less than one more
within : (n d : ℕ) → 0 < d → (n / d * d ≤ n) × (n < n / d * d + d)
within n d some = omega (arith, div-add-mod' n d, mod_below n d some)

-- a fraction less than a half
pub IsNearest-zero : (above below less : ℕ) → 2 * above < below → less ≤ 1 → IsNearest above below less 0
IsNearest-zero above below less small few = record {
  at_most_half_over = omega arith;
  less_than_half_under = omega arith;
}

-- a fraction whose number above is cut to a multiple of a divisor of the number below
pub IsNearest-cut : (above cut half : ℕ) → 0 < cut → 0 < half
    → IsNearest above (2 * (half * cut)) 0 ((above / cut + half) / (2 * half))
IsNearest-cut above cut half some more =
    let whole = (above / cut + half) / (2 * half) in
    let parts = within above cut some in
    let wholes = within (above / cut + half) (2 * half) (omega arith) in
    let low : cut * (whole * (2 * half)) ≤ cut * (above / cut + half) = mul-le-mul_left cut wholes.0 in
    let high : cut * (above / cut + half + 1) ≤ cut * (whole * (2 * half) + 2 * half)
    = mul-le-mul_left cut (omega (arith, wholes.1)) in record {
      at_most_half_over = omega (arith, low, parts.0);
      less_than_half_under = omega (arith, high, parts.1);
    }

-- of two the smaller, if half the number below is whole: that of one part less
pub IsNearest-less : (above half less whole : ℕ) → less ≤ 1 → less ≤ above
    → IsNearest (above - less) (2 * half) 0 whole → IsNearest above (2 * half) less whole
IsNearest-less above half less whole few some near = record {
  at_most_half_over = omega (arith, near.at_most_half_over);
  less_than_half_under = omega (arith, near.less_than_half_under);
}

-- some whole units more
pub IsNearest-more : (above below less whole more : ℕ) → IsNearest above below less whole
    → IsNearest (more * below + above) below less (more + whole)
IsNearest-more above below less whole more near = record {
  at_most_half_over = omega (arith, near.at_most_half_over);
  less_than_half_under = omega (arith, near.less_than_half_under);
}

-- a fraction that is at least a whole number is nearest to none below that
pub nearest_from : {above below less whole : ℕ} (least : ℕ) → IsNearest above below less whole
    → 0 < below → less ≤ 1 → least * below ≤ above → least ≤ whole
nearest_from {below = below} {whole = whole} least near some few large = elim (cases_lt whole least) [
  | inl fewer ↦
      let up : below * (whole + 1) ≤ below * least = mul-le-mul_left below (omega arith) in
      absurd (omega (arith, up, near.less_than_half_under))
  | inr most ↦ most
]

-- the halves below the nearest number are those that the fraction reaches
pub half_before : {above below less size : ℕ} (whole : ℕ) → IsNearest above below less size
    → whole < size → (2 * whole + 1) * below + less ≤ 2 * above
half_before {below = below} {size = size} whole near fewer =
    let up : below * (whole + 1) ≤ below * size = mul-le-mul_left below (omega arith) in
    omega (arith, up, near.at_most_half_over)

pub before_half : {above below less size : ℕ} (whole : ℕ) → IsNearest above below less size
    → (2 * whole + 1) * below + less ≤ 2 * above → whole < size
before_half {below = below} {size = size} whole near half = elim (cases_lt whole size) [
  | inl fewer ↦ fewer
  | inr most ↦
      let up : below * size ≤ below * whole = mul-le-mul_left below most in
      absurd (omega (arith, up, near.less_than_half_under, half))
]

-- some number is the nearest
pub nearest_some : (above below less : ℕ) → 0 < below → less ≤ 1
    → IsNearest above below less ((2 * above + below - less) / (2 * below))
nearest_some above below less some few =
    let parts = within (2 * above + below - less) (2 * below) (omega arith) in record {
      at_most_half_over = omega (arith, parts.0);
      less_than_half_under = omega (arith, parts.1);
    }

-- a product by parts of one factor, over the weight of the upper part
product_of_parts : (number factor less cut : ℕ) → 0 < cut → less ≤ number % cut * factor
    → number / cut * factor + (number % cut * factor - less) / cut ≡ (number * factor - less) / cut
product_of_parts number factor less cut some fits =
    let low = number % cut * factor - less in
    let parts : number * factor - less ≡ (number / cut * factor + low / cut) * cut + low % cut
    = let whole : factor * number ≡ factor * (number / cut * cut + number % cut)
    = ap (λ (n : ℕ). factor * n) (sym (div-add-mod' number cut)) in
    omega (arith, whole, div-add-mod' low cut) in
    sym (ap (λ (n : ℕ). n / cut) parts
    ∙ div-mul-add (number / cut * factor + low / cut) cut (low % cut) (mod_below low cut some))

-- a power of two by two smaller ones
pub doubled : (k : ℕ) → 2 ^ (k + 1) ≡ 2 * 2 ^ k
doubled k = omega (arith, pow-add 2 k 1)

-- an odd number has low bits
pub low_bits : (number factor less : ℕ) → 0 < factor → less ≤ number % 2 → less ≤ number % 2 ^ 27 * factor
low_bits number factor less some odd =
    let product : number % 2 ^ 27 * 1 ≤ number % 2 ^ 27 * factor = mul-le-mul_left (number % 2 ^ 27) some in
    omega (arith, product)

-- the product over a power of two, by its upper part
pub small_product : (number factor places less last k : ℕ) → 0 < factor → less ≤ number % 2 → places ≡ k + 28 → last ≡ k
    → IsNearest (number * factor) (2 ^ places) less
    (((number / 2 ^ 27 * factor + (number % 2 ^ 27 * factor - less) / 2 ^ 27) / 2 ^ last + 1) / 2)
small_product number factor places less last k some odd places_are last_is =
    let fits = low_bits number factor less some odd in
    let product : number * 1 ≤ number * factor = mul-le-mul_left number some in
    let below : 2 * (1 * 2 ^ (27 + k)) ≡ 2 ^ (k + 28) = omega (arith, pow-add 2 k 28, pow-add 2 27 k) in
    rw (
      places_are,
      last_is,
      product_of_parts number factor less (2 ^ 27) (omega arith) fits,
      shr-shr (number * factor - less) 27 k,
    )
    (subst (λ (below : ℕ). IsNearest (number * factor) below less
    (((number * factor - less) / 2 ^ (27 + k) + 1) / 2)) below
    (IsNearest-less (number * factor) (1 * 2 ^ (27 + k)) less _ (omega arith) (omega (arith, product))
    (IsNearest-cut (number * factor - less) (2 ^ (27 + k)) 1 (pow_pos (27 + k)) (omega arith))))

-- the quotient by a power of two and a divisor
pub small_quotient : (number divisor places less last k : ℕ)
    → 0 < divisor → less ≤ number % 2 → places ≡ k + 1 → last ≡ k
    → IsNearest number (2 ^ places * divisor) less (((number - less) / 2 ^ last + divisor) / (2 * divisor))
small_quotient number divisor places less last k some odd places_are last_is =
    let below : 2 * (divisor * 2 ^ k) ≡ 2 ^ (k + 1) * divisor
    = omega (arith, doubled k, ap (λ (n : ℕ). n * divisor) (doubled k)) in
    rw (places_are, last_is)
    (subst (λ (below : ℕ). IsNearest number below less (((number - less) / 2 ^ k + divisor) / (2 * divisor))) below
    (IsNearest-less number (divisor * 2 ^ k) less _ (omega arith) (omega arith)
    (IsNearest-cut (number - less) (2 ^ k) divisor (pow_pos k) some)))

-- a product by parts of one factor
split_product : (number factor below : ℕ)
    → number / below * factor * below + number % below * factor ≡ number * factor
split_product number factor below =
    let whole : factor * (number / below * below + number % below) ≡ factor * number
    = ap (λ (n : ℕ). factor * n) (div-add-mod' number below) in
    omega (arith, whole)

-- a product over a number, by the whole quotient of one factor and by what is left of it
pub IsNearest-product : (number factor below less whole part : ℕ) → whole ≡ number / below * factor
    → IsNearest (number % below * factor) below less part → IsNearest (number * factor) below less (whole + part)
IsNearest-product number factor below less whole part whole_is near =
    rw whole_is
    (subst (λ (above : ℕ). IsNearest above below less (number / below * factor + part))
    (split_product number factor below)
    (IsNearest-more (number % below * factor) below less part (number / below * factor) near))

-- that quotient is beyond the coordinates
pub far_product : (number factor below less : ℕ) → 0 < below → less ≤ 1
    → (number / below * factor ≤ COORDINATE_BOUND → ⊥)
    → (whole : ℕ) → IsNearest (number * factor) below less whole → COORDINATE_BOUND < whole
far_product number factor below less some few beyond whole near =
    let least = nearest_from (number / below * factor) near some few
    (omega (arith, split_product number factor below)) in
    elim (cases_lt COORDINATE_BOUND whole) [
      | inl far ↦ far
      | inr within ↦ absurd (beyond (omega (arith, least)))
    ]

-- a power of two by a greater exponent
pub power_more : (i j : ℕ) → i ≤ j → 2 ^ i ≤ 2 ^ j
power_more i j more = pow-le-pow_right {n = 2} (omega arith) {i = i} {j = j} more

-- the same fraction in other words
FindsNearest-same : (above below other_above other_below less : ℕ) (found : Option ℕ) → above ≡ other_above
    → below ≡ other_below → FindsNearest above below less found → FindsNearest other_above other_below less found
FindsNearest-same above below other_above other_below less found a b finds =
    subst (λ (n : ℕ). FindsNearest n other_below less found) a
    (subst (λ (n : ℕ). FindsNearest above n less found) b finds)

-- a product over so large a power of two that it is less than a half
pub tiny_product : (number factor exponent less : ℕ) → number < 2 ^ 54 → factor ≤ 10 ^ 7 → exponent + 80 < 1075
    → less ≤ 1 → IsNearest (number * 2 ^ (exponent - 1075) * factor) (2 ^ (1075 - exponent) * 1) less 0
tiny_product number factor exponent less number_fits factor_fits small few =
    let none : exponent - 1075 ≡ 0 = omega arith in
    let product = mul-le number factor (2 ^ 54) (10 ^ 7) (omega arith) factor_fits in
    let power : 2 ^ 81 ≤ 2 ^ (1075 - exponent) = power_more 81 (1075 - exponent) (omega arith) in
    rw none (IsNearest-zero (number * 1 * factor) (2 ^ (1075 - exponent) * 1) less (omega (arith, product, power)) few)

-- a quotient by so large a power of two that it is less than a half
pub tiny_quotient : (number divisor exponent less : ℕ) → number < 2 ^ 54 → 0 < divisor → exponent + 64 < 1075
    → less ≤ 1 → IsNearest (number * 2 ^ (exponent - 1075) * 1) (2 ^ (1075 - exponent) * divisor) less 0
tiny_quotient number divisor exponent less number_fits some small few =
    let none : exponent - 1075 ≡ 0 = omega arith in
    let power : 2 ^ 65 ≤ 2 ^ (1075 - exponent) = power_more 65 (1075 - exponent) (omega arith) in
    let below : 2 ^ 65 * 1 ≤ 2 ^ (1075 - exponent) * divisor
    = mul-le (2 ^ 65) 1 (2 ^ (1075 - exponent)) divisor power some in
    rw none (IsNearest-zero (number * 1 * 1) (2 ^ (1075 - exponent) * divisor) less (omega (arith, below)) few)

-- a number that is beyond the coordinates before it is multiplied by a factor
pub beyond_product : (number factor exponent less : ℕ) → 2 ^ 52 ≤ number → 0 < factor → 1085 < exponent → less ≤ 1
    → (whole : ℕ) → IsNearest (number * 2 ^ (exponent - 1075) * factor) (2 ^ (1075 - exponent) * 1) less whole
    → COORDINATE_BOUND < whole
beyond_product number factor exponent less leading some large few whole near =
    let none : 1075 - exponent ≡ 0 = omega arith in
    let power : 2 ^ 11 ≤ 2 ^ (exponent - 1075) = power_more 11 (exponent - 1075) (omega arith) in
    let product = mul-le (2 ^ 52) (2 ^ 11) number (2 ^ (exponent - 1075)) leading power in
    let above = mul-le (2 ^ 63) 1 (number * 2 ^ (exponent - 1075)) factor product some in
    let near_one = rw none at near in
    let least = nearest_from (COORDINATE_BOUND + 1) near_one (omega arith) few
    (omega (arith, above)) in
    omega (arith, least)

-- a number that is beyond the coordinates after it is divided
pub beyond_quotient : (number divisor exponent less : ℕ) → 2 ^ 52 ≤ number → 0 < divisor → divisor ≤ 10 ^ 8
    → 1111 < exponent → less ≤ 1
    → (whole : ℕ) → IsNearest (number * 2 ^ (exponent - 1075) * 1) (2 ^ (1075 - exponent) * divisor) less whole
    → COORDINATE_BOUND < whole
beyond_quotient number divisor exponent less leading some small large few whole near =
    let none : 1075 - exponent ≡ 0 = omega arith in
    let power : 2 ^ 37 ≤ 2 ^ (exponent - 1075) = power_more 37 (exponent - 1075) (omega arith) in
    let product = mul-le (2 ^ 52) (2 ^ 37) number (2 ^ (exponent - 1075)) leading power in
    let near_one = rw none at near in
    let least = nearest_from (COORDINATE_BOUND + 1) near_one (omega arith) few
    (omega (arith, product)) in
    omega (arith, least)

-- a power of two up to 2^27
pub power_fits : (places : ℕ) → places ≤ 27 → 1 * 2 ^ places % 2 ^ 64 ≤ 2 ^ 27
power_fits places few =
    let power : 2 ^ places ≤ 2 ^ 27 = power_more places 27 few in
    rw (one_shl places 64 (omega arith)) power

-- a divisor times a power of two up to 2^36
pub scaled_fits : (places divisor : ℕ) → places ≤ 36 → divisor ≤ 10 ^ 8
    → divisor * (1 * 2 ^ places % 2 ^ 64) + divisor ≤ 2 ^ 63
scaled_fits places divisor few small =
    let power : 2 ^ places ≤ 2 ^ 36 = power_more places 36 few in
    let product = mul-le divisor (2 ^ places) (10 ^ 8) (2 ^ 36) small power in
    rw (one_shl places 64 (omega arith)) (omega (arith, product))

-- a whole number times a factor
pub FindsNearest-whole : (number factor exponent less : ℕ) (found : Option ℕ) → factor ≤ 10 ^ 7 → 1075 ≤ exponent
    → exponent ≤ 1085 → FindsNearest (number * (factor * 2 ^ (exponent - 1075) % 2 ^ 64)) 1 less found
    → FindsNearest (number * 2 ^ (exponent - 1075) * factor) (2 ^ (1075 - exponent) * 1) less found
FindsNearest-whole number factor exponent less found fits some few finds =
    let none : 1075 - exponent ≡ 0 = omega arith in
    let shifted = shl_whole factor 24 (exponent - 1075) 64 (omega arith) (omega arith) in
    let product : number * (factor * 2 ^ (exponent - 1075) % 2 ^ 64) ≡ number * 2 ^ (exponent - 1075) * factor
    = ap (λ (n : ℕ). number * n) shifted ∙ omega arith in
    FindsNearest-same _ 1 _ (2 ^ (1075 - exponent) * 1) less found product (rw none refl) finds

-- ==== When a double is the nearest one to a fraction that is not below it. The fraction is num / den, and the double
-- m * 2 ^ k of the format's least values.

-- a value has one size
value_one : (x : Float) (s t : Bool) (a b c : ℕ) → HasValue x s a c → HasValue x t b c → a ≡ b
value_one (fin u m e) s t a b c v w = eq_of_mul-eq-mul_right (down e) (down_pos e) a b (sym v.1 ∙ w.1)
value_one _ s t a b c v w = absurd v

-- a value with a sign is the one without it, negated
negated : (x : Float) (a c : ℕ) → HasValue x false a c → HasValue (neg x) true a c
unfolding neg
negated nan a c v = absurd v
negated (inf _) a c v = absurd v
negated (fin true m e) a c v = absurd (true≢false v.0)
negated (fin false m e) a c v = (refl, v.1)

negated_back : (x : Float) (a c : ℕ) → HasValue (neg x) true a c → HasValue x false a c
unfolding neg
negated_back nan a c v = absurd v
negated_back (inf _) a c v = absurd v
negated_back (fin true m e) a c v = absurd (true≢false (sym v.0))
negated_back (fin false m e) a c v = (refl, v.1)

-- the order of two values is that of their sizes
le_or : (p q : ℕ) (z b d : Bool) → (T b → p < q) → (T d → p ≡ q) → T (b || (d && z)) → p ≤ q
le_or p q z true d less same t = omega (arith, less tt)
le_or p q z false true less same t = omega (arith, same tt)
le_or p q z false false less same t = absurd t

le_sizes : (x y : Float) (a b c : ℕ) → 0 < c → HasValue x false a c → HasValue y false b c → T (le x y) → a ≤ b
unfolding le
le_sizes nan y a b c some v w t = absurd v
le_sizes (inf _) y a b c some v w t = absurd v
le_sizes (fin true m e) y a b c some v w t = absurd (true≢false v.0)
le_sizes (fin false m e) nan a b c some v w t = absurd w
le_sizes (fin false m e) (inf _) a b c some v w t = absurd w
le_sizes (fin false m e) (fin true n d) a b c some v w t = absurd (true≢false w.0)
le_sizes (fin false m e) (fin false n d) a b c some v w t =
    let p = m * up e * down d in
    let q = n * up d * down e in
    let order : p ≤ q
    = le_or p q (true || eqb p 0) (ltb p q) (eqb p q) (ltb→lt p q) (eqb→eq p q) t in
    le_of_mul-le-mul_right (transfer a b c c (m * up e) (n * up d) (down e) (down d) (down_pos e) (down_pos d)
    (sym v.1) (sym w.1) order) some

-- two doubles of one size and sign are the same
bits_of_value : (f : Format) (x : Float) (s : Bool) (a : ℕ) → HasValue x s a (2 ^ low f)
    → to_bits f x ≡ cond s (top f) 0 + (size a - prec f) * hid f + a / 2 ^ (size a - prec f)
unfolding to_bits
bits_of_value f nan s a v = absurd v
bits_of_value f (inf _) s a v = absurd v
bits_of_value f (fin t m e) s a v =
    let n : m * up e * 2 ^ low f / down e ≡ a
    = ap (λ (k : ℕ). k / down e) v.1 ∙ mul-div_cancel a (down_pos e) in
    λ i. cond (v.0 i) (top f) 0 + (size (n i) - prec f) * hid f + n i / 2 ^ (size (n i) - prec f)

pub same_value : (f : Format) (x y : Float) (s : Bool) (a : ℕ) → T (fits f x) → T (fits f y)
    → HasValue x s a (2 ^ low f) → HasValue y s a (2 ^ low f) → x ≡ y
same_value f x y s a p q v w =
    sym (of_bits-to_bits f x p) ∙ ap (of_bits f) (bits_of_value f x s a v ∙ sym (bits_of_value f y s a w))
    ∙ of_bits-to_bits f y q

module _ (f : Format) where
  -- the nearest double, by its bits
  by_bits : (num den q k : ℕ) → q ≤ 2 ^ prec f → (0 < k → hid f ≤ q) → q * 2 ^ k < 2 ^ (low f + suc (emax f))
      → IsNearestBits f num den (scaled_bits f q k) → HasValue (round f false num den) false (q * 2 ^ k) (2 ^ low f)
  by_bits num den q k most least fits near =
      subst (λ (x : Float). HasValue x false (q * 2 ^ k) (2 ^ low f))
      (sym (of_bits-scaled_bits f q k most least) ∙ near.0) (units_val f false q k fits)

  -- up to the point halfway to the next one, which counts for an even significand
  kept : (num den m k : ℕ) → 0 < den → IsSignificand f m k → (m + 1) * 2 ^ k < 2 ^ (low f + suc (emax f))
      → m * (den * 2 ^ k) ≤ num * 2 ^ low f → 2 * (num * 2 ^ low f) + m % 2 ≤ (2 * m + 1) * (den * 2 ^ k)
      → HasValue (round f false num den) false (m * 2 ^ k) (2 ^ low f)
  kept num den m k some fits room from to =
      let unit : 0 < den * 2 ^ k = mul-pos some (pow_pos k) in
      let below : num * 2 ^ low f < (m + 1) * (den * 2 ^ k) = omega (arith, unit) in
      let found = by_bits num den m k (omega (arith, fits.fits)) fits.normal (omega arith) in
      elim (cases_lt (2 * (num * 2 ^ low f)) ((2 * m + 1) * (den * 2 ^ k))) [
        | inl less ↦ found (nearest_below f num den m k some
            (record { significand = fits; from = from; below = below }) less)
        | inr most ↦
            let even : m + m % 2 ≡ m = omega (arith, to, most) in
            found (subst (λ (q : ℕ). IsNearestBits f num den (scaled_bits f q k)) even
            (nearest_tie f num den m k some (record { significand = fits; from = from; below = below })
            (omega (arith, to, most))))
      ]

  -- after that point the next one is nearer
  next : (num den m k : ℕ) → 0 < den → IsSignificand f m k → (m + 1) * 2 ^ k < 2 ^ (low f + suc (emax f))
      → m * (den * 2 ^ k) ≤ num * 2 ^ low f → num * 2 ^ low f < (m + 1) * (den * 2 ^ k)
      → (2 * m + 1) * (den * 2 ^ k) < 2 * (num * 2 ^ low f) + m % 2
      → HasValue (round f false num den) false ((m + 1) * 2 ^ k) (2 ^ low f)
  next num den m k some fits room from below past =
      let found = by_bits num den (m + 1) k (omega (arith, fits.fits)) (λ more. omega (arith, fits.normal more)) room in
      elim (cases_lt ((2 * m + 1) * (den * 2 ^ k)) (2 * (num * 2 ^ low f))) [
        | inl less ↦ found (nearest_above f num den m k some
            (record { significand = fits; from = from; below = below }) less)
        | inr most ↦
            let odd : m + m % 2 ≡ m + 1 = omega (arith, past, most) in
            found (subst (λ (q : ℕ). IsNearestBits f num den (scaled_bits f q k)) odd
            (nearest_tie f num den m k some (record { significand = fits; from = from; below = below })
            (omega (arith, past, most))))
      ]

  -- a fraction three quarters of the way to the next one
  quarters : (m k : ℕ) → IsSignificand f m k → (m + 1) * 2 ^ k < 2 ^ (low f + suc (emax f))
      → HasValue (round f false ((4 * m + 3) * 2 ^ k) (4 * 2 ^ low f)) false ((m + 1) * 2 ^ k) (2 ^ low f)
  quarters m k fits room =
      let unit : 0 < 2 ^ k * 2 ^ low f = mul-pos (pow_pos k) (pow_pos (low f)) in
      next ((4 * m + 3) * 2 ^ k) (4 * 2 ^ low f) m k (omega (arith, pow_pos (low f))) fits room (omega (arith, unit))
      (omega (arith, unit)) (omega (arith, unit))

  not_kept : (num den m k : ℕ) → 0 < den → IsSignificand f m k → (m + 1) * 2 ^ k < 2 ^ (low f + suc (emax f))
      → m * (den * 2 ^ k) ≤ num * 2 ^ low f → (2 * m + 1) * (den * 2 ^ k) < 2 * (num * 2 ^ low f) + m % 2
      → HasValue (round f false num den) false (m * 2 ^ k) (2 ^ low f) → ⊥
  not_kept num den m k some fits room from past value =
      elim (cases_lt (num * 2 ^ low f) ((m + 1) * (den * 2 ^ k))) [
        | inl near ↦
            let other = next num den m k some fits room from near past in
            absurd (omega (
              arith,
              pow_pos k,
              value_one (round f false num den) false false ((m + 1) * 2 ^ k) (m * 2 ^ k) (2 ^ low f) other value,
            ))
        | inr far ↦
            let order = round_mono f ((4 * m + 3) * 2 ^ k) (4 * 2 ^ low f) num den (omega (arith, pow_pos (low f))) some
            (omega (arith, far, mul-pos some (pow_pos k))) in
            absurd (omega (
              arith,
              pow_pos k,
              le_sizes (round f false ((4 * m + 3) * 2 ^ k) (4 * 2 ^ low f)) (round f false num den) ((m + 1) * 2 ^ k)
                  (m * 2 ^ k) (2 ^ low f) (pow_pos (low f)) (quarters m k fits room) value order,
            ))
      ]

  -- the same with a sign
  pub nearest_value : (s : Bool) (num den m k : ℕ) → 0 < den → IsSignificand f m k
      → (m + 1) * 2 ^ k < 2 ^ (low f + suc (emax f)) → m * (den * 2 ^ k) ≤ num * 2 ^ low f
      → 2 * (num * 2 ^ low f) + m % 2 ≤ (2 * m + 1) * (den * 2 ^ k)
      → HasValue (round f s num den) s (m * 2 ^ k) (2 ^ low f)
  nearest_value false num den m k some fits room from to = kept num den m k some fits room from to
  nearest_value true num den m k some fits room from to =
      subst (λ (x : Float). HasValue x true (m * 2 ^ k) (2 ^ low f)) (neg-round f num den)
      (negated (round f false num den) (m * 2 ^ k) (2 ^ low f) (kept num den m k some fits room from to))

  pub other_value : (s : Bool) (num den m k : ℕ) → 0 < den → IsSignificand f m k
      → (m + 1) * 2 ^ k < 2 ^ (low f + suc (emax f)) → m * (den * 2 ^ k) ≤ num * 2 ^ low f
      → (2 * m + 1) * (den * 2 ^ k) < 2 * (num * 2 ^ low f) + m % 2
      → HasValue (round f s num den) s (m * 2 ^ k) (2 ^ low f) → ⊥
  other_value false num den m k some fits room from past value = not_kept num den m k some fits room from past value
  other_value true num den m k some fits room from past value =
      not_kept num den m k some fits room from past (negated_back (round f false num den) (m * 2 ^ k) (2 ^ low f)
      (subst (λ (x : Float). HasValue x true (m * 2 ^ k) (2 ^ low f)) (sym (neg-round f num den)) value))
