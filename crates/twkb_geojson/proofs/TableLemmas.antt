-- The tables of numbers below 1,000: their digits, and the characters of their decimals.
use Rattle.std.proofs.Common.{◌≡◌, ℕ, zero, suc, ◌+◌, ◌-◌, ◌*◌, ◌/◌, ◌%◌}
use Rattle.std.proofs.Common.{◌<◌, ◌≤◌, List, [], ◌∷◌, Bool, true, ◌&&◌, T, eqb}
use Rattle.std.proofs.Common.{get_or, refl, ap, ◌∙◌, inl, inr, arith, eq-zero-or-pos, eqb→eq, sym, length, cond}
use Rattle.std.proofs.Math.Dec.{leb}
use Rattle.std.proofs.lemmas.Bool.{le-leb, lt-leb}
use Rattle.std.proofs.lemmas.Fmt.{decimal_digit, decimal_step}
use lib.Ieee.Fits.{and_l, and_r}
use Rattle.std.specs.Fmt.{decimal}
use Rattle.twkb_num.specs.Spelling.{low_digits}
use Rattle.twkb_geojson.specs.declared.tables.TheConstants.{THREES, SHORTS}
use Rattle.twkb_geojson.specs.Coordinate.{digit_word}
use Rattle.twkb_geojson.proofs.DigitLemmas.{three_word}

-- ---- a table of a function

-- the elements are the values of a function from this number on
abbrev are_from : (ℕ → ℕ) → ℕ → List ℕ → Bool
are_from f n [] = true
are_from f n (x ∷ xs) = eqb x (f n) && are_from f (suc n) xs

at_from : (f : ℕ → ℕ) (n : ℕ) (xs : List ℕ) (k : ℕ) → T (are_from f n xs) → k < length xs
    → get_or xs k 0 ≡ f (n + k)
at_from f n [] k t h = absurd (omega arith)
at_from f n (x ∷ xs) zero t h =
    let place : n ≡ n + 0 = omega arith in
    eqb→eq x (f n) (and_l _ (are_from f (suc n) xs) t) ∙ ap f place
at_from f n (x ∷ xs) (suc k) t h =
    let place : suc n + k ≡ n + suc k = omega arith in
    at_from f (suc n) xs k (and_r (eqb x (f n)) (are_from f (suc n) xs) t) (omega arith) ∙ ap f place

-- ---- three digits

abbrev three_of : ℕ → ℕ
three_of n = n / 100 + 256 * (n / 10 % 10) + 65536 * (n % 10)

threes_long : length THREES ≡ 1000
threes_long = refl

-- the table of three digits
pub three_at : (n : ℕ) → n < 1000 → get_or THREES n 0 ≡ digit_word 3 n
three_at n h =
    let place : 0 + n ≡ n = omega arith in
    at_from three_of 0 THREES n tt (omega (arith, threes_long)) ∙ ap three_of place ∙ sym (three_word n)

-- ---- decimals

-- the characters of a decimal below 1,000, and their number
abbrev short_of : ℕ → ℕ
short_of n = cond (leb n 9) (16777216 + (48 + n))
    (cond (leb n 99) (33554432 + (48 + n / 10) + 256 * (48 + n % 10))
    (50331648 + (48 + n / 100) + 256 * (48 + n / 10 % 10) + 65536 * (48 + n % 10)))

shorts_long : length SHORTS ≡ 1000
shorts_long = refl

-- the table of decimals
pub short_at : (n : ℕ) → n < 1000 → get_or SHORTS n 0 ≡ short_of n
short_at n h =
    let place : 0 + n ≡ n = omega arith in
    at_from short_of 0 SHORTS n tt (omega (arith, shorts_long)) ∙ ap short_of place

-- the characters of a word
abbrev IsShort : ℕ → ℕ → Type 0
IsShort n w = (low_digits 256 (w / 16777216) w ≡ decimal n) × (w / 16777216 ≤ 3)

one_short : (n w : ℕ) → n < 10 → w ≡ 16777216 + (48 + n) → IsShort n w
one_short n w h e =
    let count : w / 16777216 ≡ 1 = omega (arith, e) in
    let first : w % 256 ≡ 48 + n = omega (arith, e) in
    (rw (count, first, decimal_digit n h) refl, omega (arith, count))

two_short : (n w : ℕ) → 10 ≤ n → n < 100 → w ≡ 33554432 + (48 + n / 10) + 256 * (48 + n % 10) → IsShort n w
two_short n w some h e =
    let count : w / 16777216 ≡ 2 = omega (arith, e) in
    let first : w % 256 ≡ 48 + n / 10 = omega (arith, e) in
    let second : w / 256 % 256 ≡ 48 + n % 10 = omega (arith, e) in (
      rw (count, first, second, decimal_step n some (omega arith), decimal_digit (n / 10) (omega arith)) refl,
      omega (arith, count),
    )

three_short : (n w : ℕ) → 100 ≤ n → n < 1000
    → w ≡ 50331648 + (48 + n / 100) + 256 * (48 + n / 10 % 10) + 65536 * (48 + n % 10) → IsShort n w
three_short n w some h e =
    let count : w / 16777216 ≡ 3 = omega (arith, e) in
    let first : w % 256 ≡ 48 + n / 10 / 10 = omega (arith, e) in
    let second : w / 256 % 256 ≡ 48 + n / 10 % 10 = omega (arith, e) in
    let third : w / 256 / 256 % 256 ≡ 48 + n % 10 = omega (arith, e) in (
      rw (
        count,
        first,
        second,
        third,
        decimal_step n (omega arith) (omega arith),
        decimal_step (n / 10) (omega arith) (omega arith),
        decimal_digit (n / 10 / 10) (omega arith),
      ) refl,
      omega (arith, count),
    )

-- a word of the table has the characters of its decimal
pub short_is : (n w : ℕ) → n < 1000 → w ≡ short_of n → IsShort n w
short_is n w h e = elim (eq-zero-or-pos (n - 9)) [
  | inl z ↦
      let one = le-leb n 9 (omega arith) in
      one_short n w (omega arith) (e ∙ rw one refl)
  | inr p ↦
      let many = lt-leb n 9 (omega arith) in
      elim (eq-zero-or-pos (n - 99)) [
        | inl z ↦
            let two = le-leb n 99 (omega arith) in
            two_short n w (omega arith) (omega arith) (e ∙ rw (many, two) refl)
        | inr q ↦
            let three = lt-leb n 99 (omega arith) in
            three_short n w (omega arith) h (e ∙ rw (many, three) refl)
      ]
]
