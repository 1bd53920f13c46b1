-- The decimals of sizes: their whole parts, their fractions and the zeros of tens.
use Rattle.std.proofs.Common.{◌≡◌, ℕ, zero, suc, ◌+◌, ◌-◌, ◌*◌, ◌/◌, ◌%◌, ◌^◌, ◌<◌, ◌≤◌, List, [], ◌∷◌, ◌++◌}
use Rattle.std.proofs.Common.{refl, ap, ◌∙◌, arith, sym, ℤ, pos, negsuc, append_assoc, length}
use Rattle.std.proofs.Math.Nat.{pow-suc, pow-zero, mul_assoc, pow-le-pow_right, mul-lt-mul_of_pos_right, add-mul}
use Rattle.std.proofs.Math.Nat.{mul-one, one-le-mul, zero-mul}
use Rattle.std.proofs.lemmas.Nat.{mod_below, div-add-mod', pow-add, div-mul-add, mod-mul-add, mul-le}
use Rattle.std.proofs.lemmas.List.{append-nil}
use Rattle.std.proofs.lemmas.Fmt.{decimal_digit, decimal_step_wide, decimal_step}
use Rattle.std.proofs.Common.{ne_eqb, nat_abs, ◌≤ℤ◌}
use Rattle.std.proofs.Common.{length-append}
use Rattle.twkb_num.proofs.SpellingLemmas.{length-low_digits}
use lib.Dec.{leb→le}
use Rattle.twkb_tree.specs.Tree.{IsPrecision}
use Rattle.std.specs.Fmt.{decimal}
use Rattle.twkb_num.specs.Spelling.{low_digits}
use Rattle.twkb_geojson.specs.Coordinate.{size_text, fraction_text, zeros_word, digit_word, fraction_digits}
use Rattle.twkb_geojson.specs.Coordinate.{IsByteCount}
use Rattle.twkb_geojson.proofs.DigitLemmas.{ten_pow, two_word, significant}

-- ---- precisions from 0 up

-- a size times t, split by s times t
split_by : (size s t : ℕ) → 0 < s → 0 < t
    → (size * t / (s * t) ≡ size / s) × (size * t % (s * t) ≡ size % s * t)
split_by size s t p q =
    let below : size % s * t < s * t = mul-lt-mul_of_pos_right (mod_below size s p) q in
    let parted : size * t ≡ size / s * (s * t) + size % s * t =
    ap (λ n. n * t) (sym (div-add-mod' size s)) ∙ add-mul (size / s * s) (size % s) t
    ∙ ap (λ n. n + size % s * t) (mul_assoc (size / s) s t) in (
      ap (λ n. n / (s * t)) parted ∙ div-mul-add (size / s) (s * t) (size % s * t) below,
      ap (λ n. n % (s * t)) parted ∙ mod-mul-add (size / s) (s * t) (size % s * t) below,
    )

-- both powers together
eight_places : (p : ℕ) → p ≤ 8 → 10 ^ p * 10 ^ (8 - p) ≡ 100000000
eight_places p h =
    let e : p + (8 - p) ≡ 8 = omega arith in
    sym (pow-add 10 p (8 - p)) ∙ ap (λ n. 10 ^ n) e

-- the decimal of a size of so many places
pub places_size : (p size : ℕ) → p ≤ 7
    → size_text (pos p) size ≡ decimal (size / 10 ^ p) ++ fraction_text (size % 10 ^ p * 10 ^ (8 - p))
unfolding size_text
places_size p size h =
    let e = eight_places p (omega arith) in
    let both = split_by size (10 ^ p) (10 ^ (8 - p)) (ten_pow p) (ten_pow (8 - p)) in
    let whole : size * 10 ^ (8 - p) / 100000000 ≡ size / 10 ^ p =
    ap (λ n. size * 10 ^ (8 - p) / n) (sym e) ∙ both.0 in
    let rest : size * 10 ^ (8 - p) % 100000000 ≡ size % 10 ^ p * 10 ^ (8 - p) =
    ap (λ n. size * 10 ^ (8 - p) % n) (sym e) ∙ both.1 in
    ap (λ n. decimal n ++ fraction_text (size * 10 ^ (8 - p) % 100000000)) whole
    ∙ ap (λ n. decimal (size / 10 ^ p) ++ fraction_text n) rest

-- the fraction is below one
pub fraction_below : (p size : ℕ) → p ≤ 7 → size % 10 ^ p * 10 ^ (8 - p) < 100000000
fraction_below p size h =
    omega (
      arith,
      eight_places p (omega arith),
      mul-lt-mul_of_pos_right (mod_below size (10 ^ p) (ten_pow p)) (ten_pow (8 - p)),
    )

-- ---- precisions below 0

-- zeros as characters
abbrev zero_run : ℕ → List ℕ
zero_run zero = []
zero_run (suc n) = 48 ∷ zero_run n

run_pushed : (n : ℕ) → 48 ∷ zero_run n ≡ zero_run n ++ 48 ∷ []
run_pushed zero = refl
run_pushed (suc n) = ap (λ l. 48 ∷ l) (run_pushed n)

zero_bytes : (n k : ℕ) → n ≤ k → low_digits 256 n (zeros_word k) ≡ zero_run n
zero_bytes zero k h = refl
zero_bytes (suc n) zero h = absurd (omega arith)
zero_bytes (suc n) (suc k) h =
    let first : (48 + 256 * zeros_word k) % 256 ≡ 48 = omega arith in
    let others : (48 + 256 * zeros_word k) / 256 ≡ zeros_word k = omega arith in
    rw (first, others, zero_bytes n k (omega arith)) refl

-- ten times a number has one more zero
tenfold : (n : ℕ) → 0 < n → n * 10 < 10 ^ 64 → decimal (n * 10) ≡ decimal n ++ 48 ∷ []
tenfold n some fits =
    let high : n * 10 / 10 ≡ n = omega arith in
    let low : n * 10 % 10 ≡ 0 = omega arith in
    decimal_step_wide (n * 10) (omega arith) fits ∙ rw (high, low) refl

decimal_tens : (k n : ℕ) → 0 < n → n * 10 ^ k < 10 ^ 64 → decimal (n * 10 ^ k) ≡ decimal n ++ zero_run k
decimal_tens zero n some fits = ap decimal (ap (λ m. n * m) (pow-zero 10) ∙ mul-one n) ∙ sym (append-nil (decimal n))
decimal_tens (suc k) n some fits =
    let e : n * 10 ^ suc k ≡ n * 10 ^ k * 10 = ap (λ m. n * m) (pow-suc 10 k) ∙ sym (mul_assoc n (10 ^ k) 10) in
    let above : 0 < n * 10 ^ k = one-le-mul some (ten_pow k) in
    let within : n * 10 ^ k * 10 < 10 ^ 64 = omega (arith, e, fits) in
    ap decimal e ∙ tenfold (n * 10 ^ k) above within
    ∙ ap (λ l. l ++ 48 ∷ []) (decimal_tens k n some (omega (arith, within)))
    ∙ append_assoc (decimal n) (zero_run k) (48 ∷ [])
    ∙ ap (λ l. decimal n ++ l) (sym (run_pushed k))

-- a whole number of tens, of hundreds and so on
tens_parts : (n size : ℕ) → size_text (negsuc n) size ≡ decimal (size * 10 ^ suc n)
unfolding size_text
tens_parts n size =
    let places : 9 + n ≡ suc n + 8 = omega arith in
    let e : size * 10 ^ (9 + n) ≡ size * 10 ^ suc n * 100000000 =
    ap (λ m. size * 10 ^ m) places ∙ ap (λ m. size * m) (pow-add 10 (suc n) 8)
    ∙ sym (mul_assoc size (10 ^ suc n) 100000000) in
    let whole : size * 10 ^ (9 + n) / 100000000 ≡ size * 10 ^ suc n = omega (arith, e) in
    let rest : size * 10 ^ (9 + n) % 100000000 ≡ 0 = omega (arith, e) in
    ap (λ m. decimal m ++ fraction_text (size * 10 ^ (9 + n) % 100000000)) whole
    ∙ ap (λ m. decimal (size * 10 ^ suc n) ++ fraction_text m) rest ∙ append-nil (decimal (size * 10 ^ suc n))

-- the decimal of a size of tens
pub tens_size : (n size : ℕ) → n ≤ 7 → 0 < size → size < 2 ^ 64
    → size_text (negsuc n) size ≡ decimal size ++ low_digits 256 (suc n) 3472328296227680304
tens_size n size few some fits =
    let power : 10 ^ suc n ≤ 100000000 = pow-le-pow_right {n = 10} (omega arith) {i = suc n} {j = 8} (omega arith) in
    let within : size * 10 ^ suc n < 10 ^ 64 =
    omega (arith, mul-le size (10 ^ suc n) (2 ^ 64) 100000000 (omega arith) power) in
    tens_parts n size ∙ decimal_tens (suc n) size some within
    ∙ ap (λ l. decimal size ++ l) (sym (zero_bytes (suc n) 8 (omega arith)))

pub tens_zero : (n : ℕ) → size_text (negsuc n) 0 ≡ decimal 0
tens_zero n = tens_parts n 0 ∙ ap decimal (zero-mul (10 ^ suc n))

-- ---- whole parts below 1,000

pub decimal_two : (n : ℕ) → 10 ≤ n → n < 100
    → low_digits 256 2 (digit_word 2 n + 3472328296227680304) ≡ decimal n
decimal_two n some below =
    let first : (digit_word 2 n + 3472328296227680304) % 256 ≡ 48 + n / 10 = omega (arith, two_word n) in
    let second : (digit_word 2 n + 3472328296227680304) / 256 % 256 ≡ 48 + n % 10 = omega (arith, two_word n) in
    rw (first, second, decimal_step n some (omega arith), decimal_digit (n / 10) (omega arith)) refl

pub decimal_three : (n : ℕ) → 100 ≤ n → n < 1000
    → low_digits 256 3 (n / 100 + digit_word 2 (n % 100) * 256 + 3472328296227680304) ≡ decimal n
decimal_three n some below =
    let word : ℕ = n / 100 + digit_word 2 (n % 100) * 256 + 3472328296227680304 in
    let pair = two_word (n % 100) in
    let first : word % 256 ≡ 48 + n / 10 / 10 = omega (arith, pair) in
    let second : word / 256 % 256 ≡ 48 + n / 10 % 10 = omega (arith, pair) in
    let third : word / 256 / 256 % 256 ≡ 48 + n % 10 = omega (arith, pair) in
    rw (
      first,
      second,
      third,
      decimal_step n (omega arith) (omega arith),
      decimal_step (n / 10) (omega arith) (omega arith),
      decimal_digit (n / 10 / 10) (omega arith),
    ) refl

-- ---- the decimals as the code appends them

pub two_put : (n : ℕ) (old new : List ℕ) → 10 ≤ n → n < 100
    → new ≡ old ++ low_digits 256 2 (digit_word 2 n + 3472328296227680304) → new ≡ old ++ decimal n
two_put n old new some below e = e ∙ ap (λ l. old ++ l) (decimal_two n some below)

pub three_put : (n : ℕ) (old new : List ℕ) → 100 ≤ n → n < 1000
    → new ≡ old ++ low_digits 256 3 (n / 100 + digit_word 2 (n % 100) * 256 + 3472328296227680304)
    → new ≡ old ++ decimal n
three_put n old new some below e = e ∙ ap (λ l. old ++ l) (decimal_three n some below)

pub fraction_put : (n count : ℕ) (old middle new : List ℕ) → n < 100000000 → 0 < n
    → middle ≡ old ++ 46 ∷ [] → IsByteCount count (digit_word 8 n)
    → new ≡ middle ++ low_digits 256 count (digit_word 8 n + 3472328296227680304)
    → new ≡ old ++ fraction_text n
fraction_put n count old middle new below some dot counted put =
    let digits : low_digits 256 count (digit_word 8 n + 3472328296227680304) ≡ fraction_digits 8 n =
    significant 8 n count below counted in
    put ∙ ap (λ l. middle ++ l) digits ∙ ap (λ l. l ++ fraction_digits 8 n) dot
    ∙ append_assoc old (46 ∷ []) (fraction_digits 8 n)
    ∙ ap (λ l. old ++ l) (sym (rw (ne_eqb n 0 (λ e. absurd (omega (arith, some, e)))) refl))

-- a precision below 0 and its places
pub tens_put : (precision : ℤ) (size places : ℕ) (old middle new : List ℕ) → IsPrecision precision
    → precision ≤ℤ negsuc 0 → 0 < size → size < 2 ^ 64 → places ≡ nat_abs precision
    → middle ≡ old ++ decimal size → new ≡ middle ++ low_digits 256 places 3472328296227680304
    → new ≡ old ++ size_text precision size
tens_put (pos n) size places old middle new known negative some fits same whole put = absurd negative.le
tens_put (negsuc n) size places old middle new known negative some fits same whole put =
    let few : n ≤ 7 = leb→le n 7 known.0.le in
    put ∙ ap (λ l. l ++ low_digits 256 places 3472328296227680304) whole
    ∙ ap (λ k. old ++ decimal size ++ low_digits 256 k 3472328296227680304) same
    ∙ append_assoc old (decimal size) (low_digits 256 (suc n) 3472328296227680304)
    ∙ ap (λ l. old ++ l) (sym (tens_size n size few some fits))

pub tens_zero_put : (precision : ℤ) (size : ℕ) (old new : List ℕ)
    → precision ≤ℤ negsuc 0 → size ≡ 0 → new ≡ old ++ decimal size → new ≡ old ++ size_text precision size
tens_zero_put (pos n) size old new negative none put = absurd negative.le
tens_zero_put (negsuc n) size old new negative none put =
    put ∙ ap (λ l. old ++ l) (ap decimal none ∙ sym (tens_zero n) ∙ ap (size_text (negsuc n)) (sym none))

-- there are at most seven places below 0 and one more
pub few_places : (precision : ℤ) → IsPrecision precision → nat_abs precision ≤ 8
few_places (pos n) known = omega (arith, leb→le n 7 known.1.le)
few_places (negsuc n) known = omega (arith, leb→le n 7 known.0.le)

pub places_put : (p size whole fraction : ℕ) (old middle new : List ℕ) → p ≤ 7
    → whole ≡ size / 10 ^ p → fraction ≡ size % 10 ^ p * 10 ^ (8 - p)
    → middle ≡ old ++ decimal whole → new ≡ middle ++ fraction_text fraction
    → new ≡ old ++ size_text (pos p) size
places_put p size whole fraction old middle new few is_whole is_rest first second =
    second ∙ ap (λ l. l ++ fraction_text fraction) first
    ∙ append_assoc old (decimal whole) (fraction_text fraction)
    ∙ ap (λ n. old ++ (decimal n ++ fraction_text fraction)) is_whole
    ∙ ap (λ n. old ++ (decimal (size / 10 ^ p) ++ fraction_text n)) is_rest
    ∙ ap (λ l. old ++ l) (sym (places_size p size few))

-- the length after some low bytes of a word were appended
pub low_put_length : (count word : ℕ) (old new : List ℕ) → new ≡ old ++ low_digits 256 count word
    → length new ≡ length old + count
low_put_length count word old new e =
    ap length e ∙ length-append old (low_digits 256 count word)
    ∙ ap (λ n. length old + n) (length-low_digits 256 count word)
