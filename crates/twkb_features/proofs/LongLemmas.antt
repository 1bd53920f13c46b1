-- Decimals of any length: cut at the point, or with zeros after their digits.
use Rattle.std.proofs.Common.{◌≡◌, ℕ, zero, suc, ◌+◌, ◌-◌, ◌*◌, ◌^◌, ◌<◌, ◌≤◌, Option, Some, None, min}
use Rattle.std.proofs.Common.{refl, ap, ◌∙◌, sym, subst, arith, List, [], ◌∷◌, ◌++◌, length, take, drop, get_or}
use Rattle.std.proofs.Common.{mul-le-mul_left, mul-le-mul_right, zero-add, length-append, ℤ}
use Rattle.std.proofs.Math.Nat.{pow-succ', mul_assoc, mul-lt-mul_of_pos_right, pow-le-pow_right}
use Rattle.std.proofs.lemmas.Nat.{pow-add}
use Rattle.std.specs.Char.{digit_value}
use Rattle.std.specs.Str.Parse.{digits_value, AllDigits}
use Rattle.std.specs.Float.Numeral.{Parts, numeral_digits, tens_up, tens_down}
use Rattle.core.proofs.str.DigitValues.{digits_value-lt}
use Rattle.core.proofs.dec2flt.Rows.{one_more, cut_last}
use Rattle.twkb_features.specs.Decimal.{IsNearest, FindsSize, above, below, unit_tens_up, unit_tens_down}
use Rattle.twkb_features.specs.Digits.{digit_count, IsPoint}
use Rattle.twkb_features.proofs.NearestLemmas.{ten_pow, itself, found_scaled, found_beyond, round_digit}

-- a digit is below ten
digit_below : (ds : List ℕ) (i : ℕ) → AllDigits 10 ds → i < length ds → digit_value (get_or ds i 0) < 10
digit_below [] i h l = absurd (omega arith)
digit_below (d ∷ ds) zero h l = h.0
digit_below (d ∷ ds) (suc i) h l = digit_below ds i h.1 (omega arith)

-- the digits before the point, and one more if the first after it is 5 or above
pub cut : (ds : List ℕ) (kept up : ℕ) → AllDigits 10 ds → kept < length ds
    → (5 ≤ digit_value (get_or ds kept 0) → up ≡ 1) → (digit_value (get_or ds kept 0) < 5 → up ≡ 0)
    → IsNearest (digits_value 10 ds) (10 ^ (length ds - kept)) (digits_value 10 (take kept ds) + up)
cut ds kept up digits within high low =
    let j : ℕ = length ds - (kept + 1) in
    let back : length ds - j ≡ kept + 1 = omega arith in
    let parts = rw back at (cut_last ds j digits) in
    let next = rw zero-add at (one_more ds 0 kept (omega arith)) in
    let whole : digits_value 10 ds
    ≡ (digits_value 10 (take kept ds) * 10 + digit_value (get_or ds kept 0)) * 10 ^ j
    + digits_value 10 (drop (kept + 1) ds) =
    parts.0 ∙ ap (λ n. n * 10 ^ j + digits_value 10 (drop (kept + 1) ds)) next in
    let longer : length ds - kept ≡ suc j = omega arith in
    let power : 10 ^ (length ds - kept) ≡ 10 * 10 ^ j = ap (λ k. 10 ^ k) longer ∙ pow-succ' 10 j in
    let near = round_digit (digits_value 10 (take kept ds)) (digit_value (get_or ds kept 0)) (10 ^ j)
    (digits_value 10 (drop (kept + 1) ds)) up (digit_below ds kept digits within) parts.1 high low in
    subst (λ b. IsNearest (digits_value 10 ds) b (digits_value 10 (take kept ds) + up)) (sym power)
    (subst (λ a. IsNearest a (10 * 10 ^ j) (digits_value 10 (take kept ds) + up)) (sym whole) near)

-- a decimal whose point is before a zero before its first digit
pub tiny : (v n up down : ℕ) → v < 10 ^ n → n + up < down → IsNearest (v * 10 ^ up) (10 ^ down) 0
tiny v n up down below far =
    let least : 10 ^ suc (n + up) ≤ 10 ^ down =
    pow-le-pow_right {n = 10} (omega arith) {i = suc (n + up)} {j = down} (omega arith) in
    let most = mul-lt-mul_of_pos_right below (ten_pow up) in
    record {
      at_most_half_over = omega arith;
      less_than_half_under = omega (arith, least, most, pow-succ' 10 (n + up), pow-add 10 n up);
    }

-- a decimal whose point is before one of its digits
pub cut_long : (v n up down point : ℕ) (o : Option ℕ) → down ≤ n + up
    → point ≡ min (n + up - down) (n + 19) → point < n
    → FindsSize v (10 ^ (n - point)) o → FindsSize (v * 10 ^ up) (10 ^ down) o
cut_long v n up down point o fits at below found =
    let e : down ≡ n - point + up = omega arith in
    let power : 10 ^ down ≡ 10 ^ (n - point) * 10 ^ up =
    ap (λ k. 10 ^ k) e ∙ pow-add 10 (n - point) up in
    subst (λ b. FindsSize (v * 10 ^ up) b o) (sym power)
    (found_scaled v (10 ^ (n - point)) (10 ^ up) o (ten_pow up) found)

-- a decimal whose point is after its digits
pub raised_long : (v n up down point count : ℕ) (o : Option ℕ) → down ≤ n + up
    → point ≡ min (n + up - down) (n + 19) → n ≤ point → count ≡ point - n
    → ((z : ℕ) → count ≡ min z 19 → FindsSize (v * 10 ^ z) 1 o)
    → FindsSize (v * 10 ^ up) (10 ^ down) o
raised_long v n up down point count o fits at after count_is found =
    let z : ℕ = up - down in
    let e : up ≡ z + down = omega arith in
    let over : v * 10 ^ up ≡ v * 10 ^ z * 10 ^ down =
    ap (λ k. v * k) (ap (λ k. 10 ^ k) e ∙ pow-add 10 z down) ∙ sym (mul_assoc v (10 ^ z) (10 ^ down)) in
    let under : 10 ^ down ≡ 1 * 10 ^ down = omega arith in
    let scaled = found_scaled (v * 10 ^ z) 1 (10 ^ down) o (ten_pow down) (found z (omega arith)) in
    subst (λ b. FindsSize (v * 10 ^ up) b o) (sym under)
    (subst (λ a. FindsSize a (1 * 10 ^ down) o) (sym over) scaled)

-- no digit but zeros
pub none_raised : (v z : ℕ) → v ≡ 0 → IsNearest (v * 10 ^ z) 1 0
none_raised v z none = rw none (record { at_most_half_over = omega arith; less_than_half_under = omega arith })

-- more zeros than any coordinate has
pub far_raised : (v z : ℕ) → 0 < v → 19 ≤ z → FindsSize (v * 10 ^ z) 1 None
far_raised v z some many =
    let power : 10 ^ 19 ≤ 10 ^ z = pow-le-pow_right {n = 10} (omega arith) {i = 19} {j = z} many in
    let least : 10 ^ z ≤ v * 10 ^ z = omega (arith, mul-le-mul_right (10 ^ z) some) in
    found_beyond (v * 10 ^ z) 1 (10 ^ 19) (v * 10 ^ z) (omega arith) (omega (arith, power, least)) (itself (v * 10 ^ z))

-- a number with zeros, of which the first part may be cut down to one beyond all coordinates
pub raised_low : (v size z : ℕ) → size ≡ min v (2 ^ 62 + 1) → size * 10 ^ z ≤ v * 10 ^ z
raised_low v size z is = mul-le-mul_right (10 ^ z) (omega arith)

pub raised_same : (v size z : ℕ) → size ≡ min v (2 ^ 62 + 1) → size * 10 ^ z ≤ 2 ^ 62 → size * 10 ^ z ≡ v * 10 ^ z
raised_same v size z is few =
    let least : size ≤ size * 10 ^ z = omega (arith, mul-le-mul_left size (ten_pow z)) in
    let e : size ≡ v = omega arith in
    ap (λ n. n * 10 ^ z) e

-- ---- the three of a numeral

pub long_tiny : (precision : ℤ) (p : Parts) → AllDigits 10 (p.whole ++ p.fraction) → IsPoint precision p None
    → IsNearest (above precision p) (below precision p) 0
long_tiny precision p digits far =
    let count = length-append p.whole p.fraction in
    let few : numeral_digits p < 10 ^ digit_count p =
    subst (λ n. numeral_digits p < 10 ^ n) count (digits_value-lt 10 (p.whole ++ p.fraction) digits) in
    tiny (numeral_digits p) (digit_count p) (tens_up p + unit_tens_up precision)
    (tens_down p + unit_tens_down precision) few far

pub long_cut : (precision : ℤ) (p : Parts) (point : ℕ) (o : Option ℕ) → IsPoint precision p (Some point)
    → point < digit_count p → FindsSize (numeral_digits p) (10 ^ (digit_count p - point)) o
    → FindsSize (above precision p) (below precision p) o
long_cut precision p point o is within found =
    cut_long (numeral_digits p) (digit_count p) (tens_up p + unit_tens_up precision)
    (tens_down p + unit_tens_down precision) point o is.0 is.1 within found

pub long_raised : (precision : ℤ) (p : Parts) (point : ℕ) (o : Option ℕ) → IsPoint precision p (Some point)
    → digit_count p ≤ point
    → ((z : ℕ) → point - digit_count p ≡ min z 19 → FindsSize (numeral_digits p * 10 ^ z) 1 o)
    → FindsSize (above precision p) (below precision p) o
long_raised precision p point o is after found =
    raised_long (numeral_digits p) (digit_count p) (tens_up p + unit_tens_up precision)
    (tens_down p + unit_tens_down precision) point (point - digit_count p) o is.0 is.1 after refl found
