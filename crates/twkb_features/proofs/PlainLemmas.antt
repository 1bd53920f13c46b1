-- Plain decimals: their digits as they are read, and what they are as numerals.
use Rattle.std.proofs.Common.{◌≡◌, ℕ, suc, ◌+◌, ◌-◌, ◌*◌, ◌/◌, ◌^◌, ◌<◌, ◌≤◌, Bool, true, false, cond, eqb}
use Rattle.std.proofs.Common.{refl, ap, ◌∙◌, sym, subst, arith, List, [], length, take, drop, get_or}
use Rattle.std.proofs.Common.{ℤ, pos, inl, inr, append-nil, slice_range, length-drop, ne_eqb, eq-eqb}
use Rattle.std.proofs.Math.Nat.{pow-suc, pow-le-pow_right, mul_assoc, mul-lt-mul_of_pos_right}
use Rattle.std.proofs.lemmas.Nat.{pow-add}
use Rattle.std.proofs.lemmas.Bool.{cases_Bool}
use Rattle.std.specs.Char.{is_ascii_digit}
use Rattle.std.specs.Str.Parse.{digits_value}
use Rattle.std.specs.Float.Numeral.{Parts, scan_numeral, digits_end, numeral_digits, tens_up, tens_down}
use lib.Seq.{length-take-le}
use lib.ListN.{get_or-eq_default}
use Rattle.core.proofs.slice.Prefixes.{prefix_len-drop_yes, prefix_len-drop_no, prefix_len-drop_all}
use Rattle.core.proofs.dec2flt.DigitsLemmas.{is_digit, digit_range, digits_value-append}
use Rattle.core.proofs.dec2flt.Rows.{one_more}
use Rattle.twkb_features.specs.Decimal.{IsNearest, above, below}
use Rattle.twkb_features.specs.Digits.{IsPlain, IsRead}
use Rattle.twkb_features.proofs.NearestLemmas.{ten_pow, itself, nearest_scaled, half_up}

-- ---- digits as they are read

ten_step : (n : ℕ) → 10 ^ (n + 1) ≡ 10 ^ n * 10
ten_step n = let e : n + 1 ≡ suc n = omega arith in ap (λ k. 10 ^ k) e ∙ pow-suc 10 n

-- one more digit
pub more_read : (text : List ℕ) (from so_far at value digit : ℕ) → IsRead text from so_far at value
    → at < length text → digit ≤ 9 → get_or text at 0 ≡ 48 + digit
    → IsRead text from so_far (at + 1) (value * 10 + digit)
more_read text from so_far at value digit r within small is =
    let d = is_digit (get_or text at 0) (omega arith) (omega arith) in
    let i : ℕ = at - from in
    let long : at + 1 - from ≡ i + 1 = omega (arith, r.after) in
    let back : from + i ≡ at = omega (arith, r.after) in
    let next = rw back at (one_more text from i (omega (arith, back))) in
    let worth : digits_value 10 (slice_range text from (at + 1))
    ≡ digits_value 10 (slice_range text from at) * 10 + digit =
    ap (λ k. digits_value 10 (take k (drop from text))) long ∙ next
    ∙ omega (arith, d.1) in
    let power : so_far * 10 ^ (at + 1 - from) ≡ so_far * 10 ^ (at - from) * 10 =
    ap (λ k. so_far * k) (ap (λ k. 10 ^ k) long ∙ ten_step i) ∙ sym (mul_assoc so_far (10 ^ i) 10) in
    record {
      after = omega (arith, r.after);
      within = omega arith;
      end = omega (arith, r.end, prefix_len-drop_yes is_ascii_digit text at 0 within d.0);
      value_is = omega (arith, r.value_is, worth, power);
      few = omega (arith, r.few, ten_step at);
    }

-- the number is below a power of ten that fits 64 bits, so one more digit does
pub read_fits : (at value : ℕ) → value < 10 ^ at → at < 18 → value < 10 ^ 17
read_fits at value few short =
    let most : 10 ^ at ≤ 10 ^ 17 = pow-le-pow_right {n = 10} (omega arith) {i = at} {j = 17} (omega arith) in
    omega (arith, few, most)

-- the end of the text
pub ends_at_text : (text : List ℕ) (from so_far at value : ℕ) → IsRead text from so_far at value
    → length text ≤ at → at ≡ digits_end text from
ends_at_text text from so_far at value r past = omega (arith, r.end, prefix_len-drop_all is_ascii_digit text at past)

-- another character
pub ends_at_other : (text : List ℕ) (from so_far at value : ℕ) → IsRead text from so_far at value
    → at < length text → (48 ≤ get_or text at 0 → get_or text at 0 ≤ 57 → ⊥) → at ≡ digits_end text from
ends_at_other text from so_far at value r within other =
    let no : is_ascii_digit (get_or text at 0) ≡ false =
    elim (cases_Bool (is_ascii_digit (get_or text at 0))) [
      | inl e ↦ absurd (other (digit_range (get_or text at 0) e).0 (digit_range (get_or text at 0) e).1)
      | inr e ↦ e
    ] in
    omega (arith, r.end, prefix_len-drop_no is_ascii_digit text at 0 within no)

-- ---- what they are as numerals

-- a numeral that ends with its digits
plain_parts : (bs whole fraction : List ℕ) (point : Bool) (a : ℕ) → digits_end bs 0 ≡ a
    → eqb (get_or bs a 0) 46 ≡ point → cond point (digits_end bs (a + 1)) a ≡ length bs
    → slice_range bs 0 a ≡ whole → cond point (slice_range bs (a + 1) (length bs)) [] ≡ fraction
    → scan_numeral bs ≡ record {
      whole = whole;
      point = point;
      fraction = fraction;
      exponent_negative = false;
      exponent = [];
      len = length bs;
    }
unfolding scan_numeral
plain_parts bs whole fraction point a ea ep eb ew ef =
    let past : get_or bs (length bs) 0 ≡ 0 = get_or-eq_default bs 0 (omega arith) in
    rw (ea, ep, eb, past)
    (λ i. record {
      whole = ew i;
      point = point;
      fraction = ef i;
      exponent_negative = false;
      exponent = [];
      len = length bs;
    })

-- a decimal without a point
pub plain_whole : (bs : List ℕ) (a value : ℕ) → a ≡ digits_end bs 0 → a ≡ length bs → a ≤ 10
    → value ≡ 0 * 10 ^ (a - 0) + digits_value 10 (slice_range bs 0 a) → value < 10 ^ a
    → IsPlain (scan_numeral bs) value 0
plain_whole bs a value ends all short is few =
    let past : get_or bs a 0 ≡ 0 = get_or-eq_default bs 0 (omega arith) in
    let parts = plain_parts bs (slice_range bs 0 a) [] false a (sym ends)
    (ne_eqb (get_or bs a 0) 46 (λ e. absurd (omega (arith, e, past)))) all refl refl in
    let most : 10 ^ a ≤ 10 ^ 10 = pow-le-pow_right {n = 10} (omega arith) {i = a} {j = 10} short in
    subst (λ p. IsPlain p value 0) (sym parts) (record {
      digits_are = is ∙ rw append-nil (omega arith);
      up = refl;
      down = refl;
      few = omega (arith, few, most);
      small = omega (arith, few, most);
      short = omega arith;
    })

-- a decimal with a point
pub plain_point : (bs : List ℕ) (a end whole value places : ℕ) → a ≡ digits_end bs 0 → get_or bs a 0 ≡ 46
    → end ≡ digits_end bs (a + 1) → end ≡ length bs → a + 1 ≤ end → a ≤ 10 → length bs ≤ 18
    → whole ≡ 0 * 10 ^ (a - 0) + digits_value 10 (slice_range bs 0 a)
    → value ≡ whole * 10 ^ (end - (a + 1)) + digits_value 10 (slice_range bs (a + 1) end) → value < 10 ^ end
    → places ≡ end - a - 1 → IsPlain (scan_numeral bs) value places
plain_point bs a end whole value places first dot second all after short fits whole_is value_is few places_are =
    let fraction : List ℕ = slice_range bs (a + 1) (length bs) in
    let parts = plain_parts bs (slice_range bs 0 a) fraction true a (sym first) (eq-eqb (get_or bs a 0) 46 dot)
    (sym second ∙ all) refl refl in
    let count : length fraction ≡ length bs - (a + 1) =
    length-take-le (length bs - (a + 1)) (drop (a + 1) bs) (omega (arith, length-drop (a + 1) bs)) in
    let same : length fraction ≡ places = omega (arith, count, places_are, all) in
    let read : end - (a + 1) ≡ length fraction = omega (arith, count, all) in
    let worth : value ≡ digits_value 10 (slice_range bs 0 a) * 10 ^ length fraction + digits_value 10 fraction =
    value_is ∙ ap (λ k. whole * 10 ^ k + digits_value 10 (slice_range bs (a + 1) end)) read
    ∙ ap (λ k. whole * 10 ^ length fraction + digits_value 10 (slice_range bs (a + 1) k)) all
    ∙ ap (λ n. n * 10 ^ length fraction + digits_value 10 fraction) (whole_is ∙ omega arith) in
    let most : 10 ^ end ≤ 10 ^ (11 + places) =
    pow-le-pow_right {n = 10} (omega arith) {i = end} {j = 11 + places} (omega arith) in
    let wide : 10 ^ end ≤ 10 ^ 18 = pow-le-pow_right {n = 10} (omega arith) {i = end} {j = 18} (omega arith) in
    subst (λ p. IsPlain p value places) (sym parts) (record {
      digits_are = worth ∙ sym (digits_value-append (slice_range bs 0 a) fraction);
      up = refl;
      down = omega (arith, same);
      few = omega (arith, few, most);
      small = omega (arith, few, wide);
      short = omega arith;
    })

-- ---- a number of digits scaled

-- digits after fewer than `precision` of which the point is fit 64 bits with zeros
pub raise_fits : (digits places precision : ℕ) → digits < 10 ^ (11 + places) → places ≤ precision → precision ≤ 7
    → digits * 10 ^ (precision - places) < 10 ^ 18
raise_fits digits places precision few below known =
    let e : 11 + places + (precision - places) ≡ 11 + precision = omega arith in
    let joined : 10 ^ (11 + places) * 10 ^ (precision - places) ≡ 10 ^ (11 + precision) =
    sym (pow-add 10 (11 + places) (precision - places)) ∙ ap (λ k. 10 ^ k) e in
    let most : 10 ^ (11 + precision) ≤ 10 ^ 18 =
    pow-le-pow_right {n = 10} (omega arith) {i = 11 + precision} {j = 18} (omega arith) in
    omega (arith, mul-lt-mul_of_pos_right few (ten_pow (precision - places)), joined, most)

-- zeros after the digits
pub raised : (digits places precision : ℕ) → places ≤ precision
    → IsNearest (digits * 10 ^ precision) (10 ^ places) (digits * 10 ^ (precision - places))
raised digits places precision below =
    let n : ℕ = digits * 10 ^ (precision - places) in
    let e : precision ≡ precision - places + places = omega arith in
    let over : n * 10 ^ places ≡ digits * 10 ^ precision =
    mul_assoc digits (10 ^ (precision - places)) (10 ^ places)
    ∙ ap (λ k. digits * k) (sym (ap (λ k. 10 ^ k) e ∙ pow-add 10 (precision - places) places)) in
    let under : 1 * 10 ^ places ≡ 10 ^ places = omega arith in
    subst (λ b. IsNearest (digits * 10 ^ precision) b n) under
    (subst (λ a. IsNearest a (1 * 10 ^ places) n) over (nearest_scaled n 1 (10 ^ places) n (ten_pow places) (itself n)))

-- digits left out
pub cut_off : (digits places precision : ℕ) → precision < places
    → IsNearest (digits * 10 ^ precision) (10 ^ places)
    ((digits + 10 ^ (places - precision) / 2) / 10 ^ (places - precision))
cut_off digits places precision above =
    let k : ℕ = places - precision - 1 in
    let e : places - precision ≡ suc k = omega arith in
    let sum : places ≡ places - precision + precision = omega arith in
    let near : IsNearest digits (10 ^ (places - precision))
    ((digits + 10 ^ (places - precision) / 2) / 10 ^ (places - precision)) =
    subst (λ j. IsNearest digits (10 ^ j) ((digits + 10 ^ j / 2) / 10 ^ j)) (sym e) (half_up digits k) in
    let under : 10 ^ (places - precision) * 10 ^ precision ≡ 10 ^ places =
    sym (ap (λ j. 10 ^ j) sum ∙ pow-add 10 (places - precision) precision) in
    subst (λ b. IsNearest (digits * 10 ^ precision) b
    ((digits + 10 ^ (places - precision) / 2) / 10 ^ (places - precision))) under
    (nearest_scaled digits (10 ^ (places - precision)) (10 ^ precision)
    ((digits + 10 ^ (places - precision) / 2) / 10 ^ (places - precision)) (ten_pow precision) near)

-- the whole number nearest to the digits of a plain decimal is the one nearest to the decimal
pub plain_found : (precision : ℤ) (p : Parts) (digits places decimals m : ℕ) → precision ≡ pos decimals
    → IsPlain p digits places → IsNearest (digits * 10 ^ decimals) (10 ^ places) m
    → IsNearest (above precision p) (below precision p) m
plain_found precision p digits places decimals m e plain near =
    let ups : tens_up p + decimals ≡ decimals = omega (arith, plain.up) in
    let downs : tens_down p + 0 ≡ places = omega (arith, plain.down) in
    let over : digits * 10 ^ decimals ≡ numeral_digits p * 10 ^ (tens_up p + decimals) =
    sym (ap (λ k. numeral_digits p * 10 ^ k) ups ∙ ap (λ n. n * 10 ^ decimals) (sym plain.digits_are)) in
    let under : 10 ^ places ≡ 10 ^ (tens_down p + 0) = sym (ap (λ k. 10 ^ k) downs) in
    subst (λ z. IsNearest (above z p) (below z p) m) (sym e)
    (subst (λ b. IsNearest (numeral_digits p * 10 ^ (tens_up p + decimals)) b m) under
    (subst (λ a. IsNearest a (10 ^ places) m) over near))
