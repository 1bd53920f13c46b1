-- Coordinates whose whole part is below 1,000.
use Rattle.std.proofs.Common.{◌≡◌, ℕ, ◌+◌, ◌-◌, ◌*◌, ◌/◌, ◌%◌, ◌^◌, ◌<◌, ◌≤◌}
use Rattle.std.proofs.Common.{ap, ◌∙◌, arith, sym}
use Rattle.std.proofs.Math.Nat.{mul_assoc, mul-lt-mul_of_pos_right}
use Rattle.std.proofs.lemmas.Nat.{mod_below, div_below, pow-add}
use Rattle.twkb_geojson.proofs.DigitLemmas.{ten_pow}

-- the whole part of a near size
pub near_whole : (p size scale : ℕ) → size < 1000 * 10 ^ p → scale ≡ 10 ^ p → size / scale < 1000
near_whole p size scale near is =
    let below = div_below size (10 ^ p) 1000 (ten_pow p) near in
    omega (arith, below, ap (λ n. size / n) is)

-- the fraction after the whole part of a size
pub rest_below : (p size scale rest : ℕ) → rest ≡ size % scale → scale ≡ 10 ^ p → rest < 10 ^ p
rest_below p size scale rest is whole =
    let below = mod_below size (10 ^ p) (ten_pow p) in
    omega (arith, below, is ∙ ap (λ n. size % n) whole)

-- a fraction of at most six places in parts of 10 ^ -6, and in parts of 10 ^ -8
pub six_scale : (p f : ℕ) → p ≤ 6 → f < 10 ^ p
    → (f * 10 ^ (6 - p) * 100 ≡ f * 10 ^ (8 - p)) × (f * 10 ^ (6 - p) < 1000000)
six_scale p f h below =
    let more : 8 - p ≡ 6 - p + 2 = omega arith in
    let all : p + (6 - p) ≡ 6 = omega arith in
    let whole : 10 ^ p * 10 ^ (6 - p) ≡ 1000000 = sym (pow-add 10 p (6 - p)) ∙ ap (λ n. 10 ^ n) all in (
      mul_assoc f (10 ^ (6 - p)) 100
          ∙ ap (λ n. f * n) (sym (ap (λ n. 10 ^ n) more ∙ pow-add 10 (6 - p) 2)),
      omega (arith, whole, mul-lt-mul_of_pos_right below (ten_pow (6 - p))),
    )

-- a fraction in parts of 10 ^ -8
pub eight_scale : (p f : ℕ) → p ≤ 7 → f < 10 ^ p → f * 10 ^ (8 - p) < 100000000
eight_scale p f h below =
    let all : p + (8 - p) ≡ 8 = omega arith in
    let whole : 10 ^ p * 10 ^ (8 - p) ≡ 100000000 = sym (pow-add 10 p (8 - p)) ∙ ap (λ n. 10 ^ n) all in
    omega (arith, whole, mul-lt-mul_of_pos_right below (ten_pow (8 - p)))
