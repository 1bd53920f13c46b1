-- Digits of numbers as the bytes of a word, and powers of ten.
use Rattle.std.proofs.Common.{◌≡◌, ℕ, zero, suc, ◌+◌, ◌-◌, ◌*◌, ◌/◌, ◌%◌, ◌^◌, ◌<◌, ◌≤◌, Bool, true, ◌&&◌, T, eqb}
use Rattle.std.proofs.Common.{get_or, refl, ap, ◌∙◌, inl, inr, arith, eq-zero-or-pos, eqb→eq, sym}
use Rattle.std.proofs.Common.{ne_eqb}
use Rattle.std.proofs.Math.Nat.{one-le-pow, pow-succ', pow-suc, pow-zero, zero-div, zero-mod, pow-le-pow_right}
use Rattle.std.proofs.lemmas.Nat.{div_below, mod_below, div-add-mod', pow-add, leading_top}
use lib.Count.{count_leading_zeros}
use Rattle.twkb_num.specs.Spelling.{low_digits}
use lib.Ieee.Fits.{and_l, and_r}
use Rattle.twkb_geojson.specs.declared.digits.TheConstants.{PAIRS}
use Rattle.twkb_geojson.specs.declared.coordinate.TheConstants.{TENS}
use Rattle.twkb_geojson.specs.Coordinate.{digit_word, zeros_word, fraction_digits, IsByteCount}

-- ---- the tables

abbrev are_pairs : ℕ → Bool
are_pairs zero = true
are_pairs (suc n) = eqb (get_or PAIRS n 0) (n / 10 + 256 * (n % 10)) && are_pairs n

pairs_below : (n p : ℕ) → T (are_pairs n) → p < n → get_or PAIRS p 0 ≡ p / 10 + 256 * (p % 10)
pairs_below zero p t h = absurd (omega arith)
pairs_below (suc n) p t h =
    elim (eq-zero-or-pos (n - p)) [
      | inl z ↦ let e : p ≡ n = omega arith in rw e (eqb→eq _ _ (and_l _ (are_pairs n) t))
      | inr g ↦ pairs_below n p (and_r _ (are_pairs n) t) (omega arith)
    ]

abbrev are_tens : ℕ → Bool
are_tens zero = true
are_tens (suc n) = eqb (get_or TENS n 0) (10 ^ n) && are_tens n

tens_below : (n p : ℕ) → T (are_tens n) → p < n → get_or TENS p 0 ≡ 10 ^ p
tens_below zero p t h = absurd (omega arith)
tens_below (suc n) p t h =
    elim (eq-zero-or-pos (n - p)) [
      | inl z ↦ let e : p ≡ n = omega arith in rw e (eqb→eq _ _ (and_l _ (are_tens n) t))
      | inr g ↦ tens_below n p (and_r _ (are_tens n) t) (omega arith)
    ]

-- the table of powers of ten
pub ten_at : (p : ℕ) → p ≤ 8 → get_or TENS p 0 ≡ 10 ^ p
ten_at p h = tens_below 9 p tt (omega arith)

-- ---- words of two, four and eight digits

-- two digits
pub two_word : (n : ℕ) → digit_word 2 n ≡ n / 10 + 256 * (n % 10)
unfolding digit_word
two_word n = omega arith

-- the table of two digits
pub pair_at : (p : ℕ) → p < 100 → get_or PAIRS p 0 ≡ digit_word 2 p
pair_at p h = pairs_below 100 p tt h ∙ sym (two_word p)

-- four digits from two numbers of two
pub four_word : (n : ℕ) → n < 10000 → digit_word 2 (n / 100) + digit_word 2 (n % 100) * 65536 ≡ digit_word 4 n
unfolding digit_word
four_word n h = omega arith

-- three digits
pub three_word : (n : ℕ) → digit_word 3 n ≡ n / 100 + 256 * (n / 10 % 10) + 65536 * (n % 10)
unfolding digit_word
three_word n = omega arith

-- three digits need three bytes
pub three_below : (n : ℕ) → n < 1000 → digit_word 3 n < 16777216
three_below n h = omega (arith, three_word n)

-- six digits and two zeros from two numbers of three
pub six_word : (n : ℕ) → n < 1000000
    → digit_word 3 (n / 1000) + digit_word 3 (n % 1000) * 16777216 ≡ digit_word 8 (n * 100)
unfolding digit_word
six_word n h = omega arith

-- two digits need two bytes
pub two_below : (n : ℕ) → n < 100 → digit_word 2 n < 65536
two_below n h = omega (arith, two_word n)

-- eight digits from two numbers of four
pub eight_word : (n : ℕ) → n < 100000000
    → digit_word 4 (n / 10000) + digit_word 4 (n % 10000) * 4294967296 ≡ digit_word 8 n
unfolding digit_word
eight_word n h = omega arith

-- four digits need four bytes
pub four_below : (n : ℕ) → n < 10000 → digit_word 2 (n / 100) + digit_word 2 (n % 100) * 65536 < 4294967296
four_below n h = omega (arith, two_below (n / 100) (omega arith), two_below (n % 100) (omega arith))

-- a power of ten is above 0
pub ten_pow : (k : ℕ) → 0 < 10 ^ k
ten_pow k = one-le-pow k 10 (omega arith)

pub first_below : (k n : ℕ) → n < 10 ^ suc k → n / 10 ^ k < 10
first_below k n h = div_below n (10 ^ k) 10 (ten_pow k) (omega (arith, pow-succ' 10 k))

-- the digits as characters fit as many bytes
pub word_room : (k n : ℕ) → n < 10 ^ k → digit_word k n + zeros_word k < 256 ^ k
unfolding digit_word
word_room zero n h = omega (arith, pow-zero 256)
word_room (suc k) n h =
    omega (arith, first_below k n h, word_room k (n % 10 ^ k) (mod_below n (10 ^ k) (ten_pow k)), pow-succ' 256 k)

-- a word of zeros is that of 0
pub word_zero : (k n : ℕ) → n < 10 ^ k → digit_word k n ≡ 0 → n ≡ 0
unfolding digit_word
word_zero zero n h e = omega (arith, pow-zero 10)
word_zero (suc k) n h e =
    let low = word_zero k (n % 10 ^ k) (mod_below n (10 ^ k) (ten_pow k)) (omega arith) in
    let high : n / 10 ^ k ≡ 0 = omega arith in
    sym (div-add-mod' n (10 ^ k)) ∙ rw (high, low) (omega arith)

word_of_zero : (k : ℕ) → digit_word k 0 ≡ 0
unfolding digit_word
word_of_zero zero = refl
word_of_zero (suc k) = rw (zero-div (10 ^ k), zero-mod (10 ^ k), word_of_zero k) refl

-- the bytes of a word without its first
after_first : (c d w : ℕ) → d < 256 → IsByteCount (suc c) (d + 256 * w) → IsByteCount c w
after_first zero d w h b = omega (arith, b.1, pow-succ' 256 0, pow-zero 256)
after_first (suc c) d w h b =
    (omega (arith, b.0, pow-succ' 256 c), omega (arith, b.1, pow-succ' 256 (suc c)))

-- the bytes up to the last digit that is not 0, as characters
pub significant : (k n c : ℕ) → n < 10 ^ k → IsByteCount c (digit_word k n)
    → low_digits 256 c (digit_word k n + zeros_word k) ≡ fraction_digits k n
unfolding digit_word fraction_digits
significant zero n zero h b = refl
significant zero n (suc c) h b = absurd (omega (arith, b.0, one-le-pow c 256 (omega arith)))
significant (suc k) n zero h b = rw (word_zero (suc k) n h b) refl
significant (suc k) n (suc c) h b =
    let d : ℕ = n / 10 ^ k in
    let w : ℕ = digit_word k (n % 10 ^ k) in
    let small = first_below k n h in
    let first : (d + 256 * w + (48 + 256 * zeros_word k)) % 256 ≡ 48 + d = omega arith in
    let others : (d + 256 * w + (48 + 256 * zeros_word k)) / 256 ≡ w + zeros_word k = omega arith in
    let rest = significant k (n % 10 ^ k) c (mod_below n (10 ^ k) (ten_pow k)) (after_first c d w (omega arith) b) in
    let some : 0 < n = not_zero n (λ e. absurd (omega (
      arith,
      b.0,
      one-le-pow c 256 (omega arith),
      sym (ap (digit_word (suc k)) e ∙ word_of_zero (suc k)),
    ))) in
    rw (first, others, rest, ne_eqb n 0 (λ e. absurd (omega arith))) refl
  where
    not_zero : (n : ℕ) → (n ≡ 0 → ⊥) → 0 < n
    not_zero n f = elim (eq-zero-or-pos n) [
      | inl z ↦ absurd (f z)
      | inr p ↦ p
    ]

-- a power of 256 is one of 2
pub pow_256 : (m : ℕ) → 256 ^ m ≡ 2 ^ (8 * m)
pow_256 zero = pow-zero 256 ∙ sym (pow-zero 2)
pow_256 (suc m) =
    let e : 8 * suc m ≡ 8 * m + 8 = omega arith in
    rw (e, pow-add 2 (8 * m) 8, pow-suc 256 m, pow_256 m) refl

-- the leading zeros of a word give its bytes
pub count_by_zeros : (w : ℕ) → 0 < w → w < 2 ^ 64 → IsByteCount ((71 - count_leading_zeros 64 w) / 8) w
count_by_zeros w some fits =
    let top = leading_top 64 w some fits in
    let j : ℕ = top.0 in
    let m : ℕ = j / 8 in
    let e : (71 - count_leading_zeros 64 w) / 8 ≡ suc m = omega (arith, top.1) in
    rw e (
      omega (arith, pow_256 m, top.2, pow-le-pow_right {n = 2} (omega arith) {i = 8 * m} {j = j} (omega arith)),
      omega (
        arith,
        pow_256 (suc m),
        top.3,
        pow-le-pow_right {n = 2} (omega arith) {i = suc j} {j = 8 * suc m} (omega arith),
      ),
    )

-- eight digits as characters fit a word
pub eight_room : (n : ℕ) → n < 100000000 → digit_word 8 n + 3472328296227680304 < 18446744073709551616
eight_room n h = word_room 8 n h

-- the eight digits of a number above 0 are not all 0
pub eight_some : (n : ℕ) → n < 100000000 → 0 < n → 0 < digit_word 8 n
eight_some n h some = elim (eq-zero-or-pos (digit_word 8 n)) [
  | inl z ↦ absurd (omega (arith, some, word_zero 8 n h z))
  | inr p ↦ p
]
