-- Words of four and of sixteen bytes: the groups of bits and the numbers in them.
use lib.Lanes.{number_l, digits_l, Each1}
use lib.Dec.{T, leb, ltb}
use mathlib.Core.Bool.{cond, ◌||◌}
use mir.Val.{zeroes}
use Rattle.std.proofs.Common.{◌≡◌, ℕ, zero, suc, ◌+◌, ◌*◌, ◌/◌, ◌%◌, ◌<◌, ◌⊎◌, inl, inr, List, [], ◌∷◌, length, refl}
use Rattle.std.proofs.Common.{◌∙◌, ap, arith, ◌-◌, ◌≤◌, ◌^◌, ◌++◌, take, drop, get_or, sym, Fits, w8, map, Bool, true}
use Rattle.std.proofs.Common.{false, subst}
use Rattle.std.specs.Prelude.{IsTrue, nat_eq, ◌↔◌}
use Rattle.std.proofs.Math.Arith.{mod-mul}
use Rattle.std.proofs.Math.Nat.{pow-suc, pow-zero, zero-div, zero-mod, div-div-eq-div-mul, mul_comm, one-le-pow}
use Rattle.std.proofs.lemmas.Bool.{eq-eqb, eqb-true, cases_lt, lt-ltb, le-leb, lt-leb}
use Rattle.std.proofs.lemmas.List.{length-drop, length-take-le, take-take, take_all, drop-drop, take-append-drop}
use Rattle.std.proofs.lemmas.List.{get_or-drop, get_or_past}
use Rattle.std.proofs.lemmas.Simd.{Each1-from_get_or, Each1-chunk, Each1-weaker, swz_l, SwzOk, SwzOk-from_Each1}
use Rattle.std.proofs.lemmas.Nat.{mod_below}
use Rattle.twkb_num.specs.Alphabet.{IsRadix}
use Rattle.twkb_num.specs.Block.{joined_groups, number_in_front, place_in, places_in, eight_groups}
use Rattle.twkb_num.proofs.SpellingLemmas.{low_digit, high_digits, number_of-low_digits, number_of-lt, number_of-same}

-- ==== Bytes as numbers, low first.

-- a fact about the elements of two lists is one about those of both
pub Each1-append : {A : Type 0} (P : A → Type 0) (xs ys : List A) → Each1 P xs → Each1 P ys → Each1 P (xs ++ ys)
Each1-append P [] ys p q = q
Each1-append P (x ∷ xs) ys p q = (p.0, Each1-append P xs ys p.1 q)

-- the number of bytes to each of which a number is added
pub number_l-more : (n : ℕ) (xs : List ℕ) → number_l 256 (map (λ x. n + x) xs) ≡ number_l 256 xs
    + number_l 256 (map (λ _. n) xs)
number_l-more n [] = refl
number_l-more n (x ∷ xs) = let rest = number_l-more n xs in omega arith

-- digits below the base are those of their number
pub digits-number : (p n : ℕ) (xs : List ℕ) → length xs ≡ n → Each1 (λ x. x < p) xs → digits_l p n (number_l p xs) ≡ xs
digits-number p zero [] long below = refl
digits-number p (suc n) (x ∷ xs) long below =
    rw (low_digit p x (number_l p xs) below.0, high_digits p x (number_l p xs) below.0)
    (ap (λ ys. x ∷ ys) (digits-number p n xs (omega arith) below.1))
digits-number p _ _ long below = absurd (omega arith)

-- a quotient by a power drops the low bytes
pub number_l-drop : (p k : ℕ) (xs : List ℕ) → Each1 (λ x. x < p) xs → number_l p xs / p ^ k ≡ number_l p (drop k xs)
number_l-drop p zero xs below = rw (pow-zero p) (omega arith)
number_l-drop p (suc k) [] below = zero-div (p ^ suc k)
number_l-drop p (suc k) (x ∷ xs) below =
    let all = number_l p (x ∷ xs) in
    ap (λ n. all / n) (pow-suc p k ∙ mul_comm (p ^ k) p) ∙ sym (div-div-eq-div-mul all p (p ^ k))
    ∙ ap (λ n. n / p ^ k) (high_digits p x (number_l p xs) below.0) ∙ number_l-drop p k xs below.1

-- a remainder by a power keeps the low bytes
pub number_l-take : (p k : ℕ) (xs : List ℕ) → Each1 (λ x. x < p) xs → number_l p xs % p ^ k ≡ number_l p (take k xs)
number_l-take p zero xs below = rw (pow-zero p) (omega arith)
number_l-take p (suc k) [] below = zero-mod (p ^ suc k)
number_l-take p (suc k) (x ∷ xs) below =
    let all = number_l p (x ∷ xs) in
    let some : 0 < p = omega (arith, below.0) in
    let power : 0 < p ^ k = omega (arith, one-le-pow k p some) in
    ap (λ n. all % n) (pow-suc p k) ∙ mod-mul all {m = p ^ k} {c = p} power some
    ∙ ap (λ n. n % p ^ k * p + all % p) (high_digits p x (number_l p xs) below.0)
    ∙ ap (λ n. n * p + all % p) (number_l-take p k xs below.1)
    ∙ ap (λ n. number_l p (take k xs) * p + n) (low_digit p x (number_l p xs) below.0)
    ∙ omega (arith, mul_comm p (number_l p (take k xs)))

-- the bytes of a text
pub bytes_of : (text : List ℕ) → ((k : ℕ) → Fits w8 (get_or text k 0)) → Each1 (λ b. b < 256) text
bytes_of text fit = Each1-from_get_or (λ b. b < 256) text 0 (λ k _. (fit k).fits)

-- the first bytes as a word have eight bits each
pub word_is : (k : ℕ) (bytes : List ℕ) → ((i : ℕ) → Fits w8 (get_or bytes i 0))
    → number_l 256 (take k bytes) % 256 ^ k ≡ number_l 256 (take k bytes)
word_is k bytes fit = number_l-take 256 k (take k bytes) (Each1-chunk (λ b. b < 256) 0 k bytes (bytes_of bytes fit))
    ∙ ap (number_l 256) (take-take k k bytes (omega arith))

-- a fact about the elements of a list is one about those after a place
pub Each1-drop : {A : Type 0} (P : A → Type 0) (k : ℕ) (xs : List A) → Each1 P xs → Each1 P (drop k xs)
Each1-drop P (suc k) (x ∷ xs) p = Each1-drop P k xs p.1
Each1-drop P _ _ p = p

-- ---- words that are equal

-- bytes are equal if their first k and their last k are, and they are at most twice as many
same_by_ends : (k : ℕ) (xs ys : List ℕ) → Each1 (λ b. b < 256) xs → Each1 (λ b. b < 256) ys
    → length xs ≡ length ys → k ≤ length ys → length ys ≤ k + k
    → number_l 256 (take k xs) ≡ number_l 256 (take k ys)
    → number_l 256 (take k (drop (length ys - k) xs)) ≡ number_l 256 (take k (drop (length ys - k) ys)) → xs ≡ ys
same_by_ends k xs ys p q count long few front back =
    let at = length ys - k in
    let skip = k - at in
    let place : at + skip ≡ k = omega arith in
    let first : take k xs ≡ take k ys = number_of-same 256 (take k xs) (take k ys)
    (Each1-chunk (λ b. b < 256) 0 k xs p) (Each1-chunk (λ b. b < 256) 0 k ys q)
    (length-take-le k xs (omega arith) ∙ sym (length-take-le k ys long)) front in
    let xs_last : length (drop at xs) ≡ k = omega (arith, length-drop at xs) in
    let ys_last : length (drop at ys) ≡ k = omega (arith, length-drop at ys) in
    let last : drop at xs ≡ drop at ys = number_of-same 256 (drop at xs) (drop at ys)
    (Each1-drop (λ b. b < 256) at xs p)
    (Each1-drop (λ b. b < 256) at ys q) (xs_last ∙ sym ys_last)
    (ap (number_l 256) (sym (take_all k (drop at xs) (omega arith))) ∙ back
    ∙ ap (number_l 256) (take_all k (drop at ys) (omega arith))) in
    let rest : drop k xs ≡ drop k ys = ap (λ n. drop n xs) (sym place) ∙ sym (drop-drop skip at xs)
    ∙ ap (drop skip) last ∙ drop-drop skip at ys ∙ ap (λ n. drop n ys) place in
    sym (take-append-drop k xs) ∙ ap (λ zs. zs ++ drop k xs) first ∙ ap (λ zs. take k ys ++ zs) rest
    ∙ take-append-drop k ys

-- the last k bytes decide, if the first k are equal
pub ends_decide : (k : ℕ) (xs ys : List ℕ) (a b : ℕ) → ((i : ℕ) → Fits w8 (get_or xs i 0))
    → ((i : ℕ) → Fits w8 (get_or ys i 0)) → length xs ≡ length ys → k ≤ length ys → length ys ≤ k + k
    → number_l 256 (take k xs) ≡ number_l 256 (take k ys)
    → a ≡ number_l 256 (take k (drop (length ys - k) xs)) → b ≡ number_l 256 (take k (drop (length ys - k) ys))
    → IsTrue (nat_eq a b) ↔ (xs ≡ ys)
ends_decide k xs ys a b p q count long few front a_is b_is = (
  λ t. same_by_ends k xs ys (bytes_of xs p) (bytes_of ys q) count long few front (sym a_is ∙ eqb-true a b t ∙ b_is),
  λ e. eq-eqb a b (a_is ∙ ap (λ zs. number_l 256 (take k (drop (length ys - k) zs))) e ∙ sym b_is),
)

-- ==== The groups in the bytes of a word.

-- ---- a number and its groups

-- the number of the lowest k + 1 groups in the bytes of a word
abbrev groups_in : ℕ → ℕ → ℕ → ℕ
groups_in radix zero word = word % radix
groups_in radix (suc k) word = word % radix + radix * groups_in radix k (word / 256)

-- the first group of a word is that of its first byte
first_group : (radix u n : ℕ) → IsRadix radix → (u + 256 * n) % radix ≡ u % radix
first_group radix u n alphabet = elim alphabet [ inl e ↦ rw e (omega arith) | inr e ↦ rw e (omega arith) ]

-- the groups of a word are those of its bytes
groups_are : (radix k : ℕ) (us : List ℕ) → IsRadix radix → Each1 (λ u. u < 256) us
    → groups_in radix k (number_l 256 us) ≡ number_in_front radix k us
groups_are radix zero [] alphabet fit = zero-mod radix
groups_are radix (suc k) [] alphabet fit = rw (zero-mod radix, groups_are radix k [] alphabet tt) (omega arith)
groups_are radix zero (u ∷ us) alphabet fit = first_group radix u (number_l 256 us) alphabet
groups_are radix (suc k) (u ∷ us) alphabet fit =
    rw (first_group radix u (number_l 256 us) alphabet, high_digits 256 u (number_l 256 us) fit.0)
    (ap (λ n. u % radix + radix * n) (groups_are radix k us alphabet fit.1))

-- the number of units that are 0 is 0
none_in_front : (radix k : ℕ) (us : List ℕ) → ((i : ℕ) → i ≤ k → get_or us i 0 ≡ 0) → number_in_front radix k us ≡ 0
none_in_front radix zero (u ∷ us) none = rw (none 0 (omega arith)) (zero-mod radix)
none_in_front radix (suc k) (u ∷ us) none =
    rw (none 0 (omega arith), zero-mod radix, none_in_front radix k us (λ i few. none (suc i) (omega arith)))
    (omega arith)
none_in_front radix _ _ none = refl

-- a number depends on its own units alone, and units after it that are 0 do not change it
pub same_in_front : (radix more k : ℕ) (us vs : List ℕ) → more ≤ k
    → ((i : ℕ) → i ≤ more → get_or us i 0 ≡ get_or vs i 0)
    → ((i : ℕ) → i ≤ k → more < i → get_or us i 0 ≡ 0)
    → number_in_front radix k us ≡ number_in_front radix more vs
same_in_front radix more k [] vs few same none = sym (none_in_front radix more vs (λ i low. sym (same i low)))
same_in_front radix more k (u ∷ us) [] few same none =
    none_in_front radix k (u ∷ us) (λ i low. elim (cases_lt more i) [
      | inl above ↦ none i low above
      | inr here ↦ same i here
    ])
same_in_front radix zero zero (u ∷ us) (v ∷ vs) few same none = ap (λ n. n % radix) (same 0 (omega arith))
same_in_front radix zero (suc k) (u ∷ us) (v ∷ vs) few same none =
    rw (same 0 (omega arith), none_in_front radix k us (λ i low. none (suc i) (omega arith) (omega arith)))
    (omega arith)
same_in_front radix (suc more) (suc k) (u ∷ us) (v ∷ vs) few same none =
    rw (
      same 0 (omega arith),
      same_in_front radix more k us vs (omega arith) (λ i low. same (suc i) (omega arith))
          (λ i low above. none (suc i) (omega arith) (omega arith)),
    ) refl
same_in_front radix (suc more) zero (u ∷ us) (v ∷ vs) few same none = absurd (omega arith)

-- ---- eight groups

-- the groups of the first four units and of the next four
four_and_four : (us : List ℕ)
    → number_in_front 32 3 (take 4 us) + 2 ^ 20 * number_in_front 32 3 (drop 4 us) ≡ number_in_front 32 7 us
four_and_four (a ∷ b ∷ c ∷ d ∷ us) = omega arith
four_and_four _ = omega arith

-- a word of at most eight units has the number of their groups
pub groups_found : (us : List ℕ) (more : ℕ) → Each1 (λ u. u < 256) us → length us ≡ suc more → more ≤ 7
    → eight_groups (number_l 256 us) ≡ number_in_front 32 more us
groups_found us more fit long few =
    ap (λ w. joined_groups 32 w + 2 ^ 20 * joined_groups 32 (number_l 256 us / 2 ^ 32)) (number_l-take 256 4 us fit)
    ∙ ap (λ w. joined_groups 32 (number_l 256 (take 4 us)) + 2 ^ 20 * joined_groups 32 w) (number_l-drop 256 4 us fit)
    ∙ ap (λ n. n + 2 ^ 20 * joined_groups 32 (number_l 256 (drop 4 us)))
    (groups_are 32 3 (take 4 us) (inr refl) (Each1-chunk (λ u. u < 256) 0 4 us fit))
    ∙ ap (λ n. number_in_front 32 3 (take 4 us) + 2 ^ 20 * n)
    (groups_are 32 3 (drop 4 us) (inr refl) (Each1-drop (λ b. b < 256) 4 us fit))
    ∙ four_and_four us
    ∙ same_in_front 32 more 7 us us few (λ i low. refl) (λ i low above. get_or_past us i 0 (omega arith))

-- ==== The groups of sixteen bytes joined into four numbers, first two by two.

-- ---- digits to a larger base

-- two half words of a number, and the digits after them
half_digits : (k a b c d n : ℕ) → a < 256 → b < 256 → c < 256 → d < 256
    → digits_l 65536 (suc (suc k)) (a + 256 * (b + 256 * (c + 256 * (d + 256 * n))))
    ≡ (a + 256 * b) ∷ (c + 256 * d) ∷ digits_l 65536 k n
half_digits k a b c d n p q r s =
    let number = a + 256 * (b + 256 * (c + 256 * (d + 256 * n))) in
    let first : number % 65536 ≡ a + 256 * b = omega arith in
    let second : number / 65536 % 65536 ≡ c + 256 * d = omega arith in
    let rest : number / 65536 / 65536 ≡ n = omega arith in
    λ i. first i ∷ second i ∷ digits_l 65536 k (rest i)

-- a word of two halves, and the words after it
word_digits : (k x y n : ℕ) → x < 65536 → y < 65536
    → digits_l 4294967296 (suc k) (x + 65536 * (y + 65536 * n)) ≡ (x + 65536 * y) ∷ digits_l 4294967296 k n
word_digits k x y n p q =
    let number = x + 65536 * (y + 65536 * n) in
    let first : number % 4294967296 ≡ x + 65536 * y = omega arith in
    let rest : number / 4294967296 ≡ n = omega arith in
    λ i. first i ∷ digits_l 4294967296 k (rest i)

-- a word of four bytes, and the words after it
first_word : (k : ℕ) (us : List ℕ) → Each1 (λ u. u < 256) us → digits_l 4294967296 (suc k) (number_l 256 us)
    ≡ number_l 256 (take 4 us) ∷ digits_l 4294967296 k (number_l 256 (drop 4 us))
first_word k us fit = λ i. number_l-take 256 4 us fit i ∷ digits_l 4294967296 k (number_l-drop 256 4 us fit i)

-- ---- what the lanes compute

-- the number of the groups in a word's two bytes
abbrev two_of : ℕ → ℕ → ℕ
two_of radix word = (word % 256 + word / 256 * radix % 65536) % 65536

-- the number of a word's two halves
abbrev lane_of : ℕ → ℕ → ℕ
lane_of square lane = (lane % 65536 + lane / 65536 * square % 4294967296) % 4294967296

-- two groups are joined
two_joined : (radix a b : ℕ) → IsRadix radix → a < radix → b < radix → two_of radix (a + 256 * b) ≡ a + radix * b
two_joined radix a b alphabet p q = elim alphabet [ inl e ↦ rw e (omega arith) | inr e ↦ rw e (omega arith) ]

-- the groups of four units are joined
lane_joined : (radix a b c d : ℕ) → IsRadix radix → a < radix → b < radix → c < radix → d < radix
    → lane_of (radix * radix) (two_of radix (a + 256 * b) + 65536 * two_of radix (c + 256 * d))
    ≡ a + radix * (b + radix * (c + radix * d))
lane_joined radix a b c d alphabet p q r s =
    rw (two_joined radix a b alphabet p q, two_joined radix c d alphabet r s)
    (elim alphabet [ inl e ↦ rw e (omega arith) | inr e ↦ rw e (omega arith) ])

-- a half has 16 bits
half_below : (radix : ℕ) (words : List ℕ) → Each1 (λ x. x < 65536) (map (two_of radix) words)
half_below radix [] = tt
half_below radix (word ∷ words) = (omega arith, half_below radix words)

-- twice as many
abbrev twice : ℕ → ℕ
twice zero = zero
twice (suc k) = suc (suc (twice k))

-- the lanes join the groups of each four units
lanes_join : (radix k : ℕ) (us : List ℕ) → IsRadix radix → length us ≡ 4 * k → Each1 (λ u. u < 256) us
    → map (lane_of (radix * radix)) (digits_l 4294967296 k (number_l 65536
    (map (two_of radix) (digits_l 65536 (twice k) (number_l 256 (map (λ u. u % radix) us))))))
    ≡ map (joined_groups radix) (digits_l 4294967296 k (number_l 256 us))
lanes_join radix zero us alphabet long fit = refl
lanes_join radix (suc k) (a ∷ b ∷ c ∷ d ∷ us) alphabet long fit =
    let some : 1 ≤ radix = elim alphabet [ inl e ↦ omega arith | inr e ↦ omega arith ] in
    let few : radix ≤ 256 = elim alphabet [ inl e ↦ omega arith | inr e ↦ omega arith ] in
    let group = λ (u : ℕ). mod_below u radix some in
    let byte = λ (u : ℕ). let below : u % radix < 256 = omega (arith, group u) in below in
    let rest = number_l 256 (map (λ u. u % radix) us) in
    let lane = lane_joined radix (a % radix) (b % radix) (c % radix) (d % radix) alphabet
    (group a) (group b) (group c) (group d)
    ∙ sym (groups_are radix 3 (a ∷ b ∷ c ∷ d ∷ []) alphabet
    (fit.0, (fit.1.0, (fit.1.1.0, (fit.1.1.1.0, tt))))) in
    let low = two_of radix (a % radix + 256 * (b % radix)) in
    let high = two_of radix (c % radix + 256 * (d % radix)) in
    let later = number_l 65536 (map (two_of radix) (digits_l 65536 (twice k) rest)) in
    ap (λ halves. map (lane_of (radix * radix)) (digits_l 4294967296 (suc k) (number_l 65536
    (map (two_of radix) halves))))
    (half_digits (twice k) (a % radix) (b % radix) (c % radix) (d % radix) rest (byte a) (byte b) (byte c) (byte d))
    ∙ ap (map (lane_of (radix * radix))) (word_digits k low high later (omega arith) (omega arith))
    ∙ (λ i. lane i ∷ lanes_join radix k us alphabet (omega arith) fit.1.1.1.1 i)
    ∙ sym (ap (map (joined_groups radix)) (first_word k (a ∷ b ∷ c ∷ d ∷ us) fit))
lanes_join radix (suc k) _ alphabet long fit = absurd (omega arith)

-- What the lanes compute are the numbers of the groups.
pub joined_are : (radix square : ℕ) (us groups : List ℕ) → IsRadix radix
    → square ≡ radix * radix → length us ≡ 16 → Each1 (Fits w8) us
    → groups ≡ map (λ u. u % radix) us
    → map (lane_of square) (digits_l 4294967296 4
    (number_l 256 (digits_l 256 16 (number_l 65536
    (map (two_of radix) (digits_l 65536 8 (number_l 256 groups)))))))
    ≡ map (joined_groups radix) (digits_l 4294967296 4 (number_l 256 us))
joined_are radix square us groups alphabet square_is long fit same =
    let halves = map (two_of radix) (digits_l 65536 8 (number_l 256 (map (λ u. u % radix) us))) in
    let below = number_of-lt 65536 halves (half_below radix (digits_l 65536 8
    (number_l 256 (map (λ u. u % radix) us)))) in
    rw (square_is, same, number_of-low_digits 256 16 (number_l 65536 halves) (omega arith) below)
    (lanes_join radix 4 us alphabet long (Each1-weaker (Fits w8) (λ u. u < 256) (λ u byte. byte.fits) us fit))

-- ---- the size of a number

-- eight groups of five bits have 40 bits
pub groups_small : (word : ℕ) → eight_groups word < 2 ^ 40
groups_small word = both (joined_groups 32 (word % 2 ^ 32)) (joined_groups 32 (word / 2 ^ 32))
    (four_small (word % 2 ^ 32)) (four_small (word / 2 ^ 32))
  where
    four_small : (word : ℕ) → joined_groups 32 word < 2 ^ 20
    four_small word = omega arith

    both : (low high : ℕ) → low < 2 ^ 20 → high < 2 ^ 20 → low + 2 ^ 20 * high < 2 ^ 40
    both low high few_low few_high = omega arith

-- ==== The places from which the units of numbers are loaded into words, and the numbers that these words hold.

-- ---- places

-- a place is one of the sixteen units, or is read as no unit
place_is : (at more k : ℕ) → at + more ≤ 15 → ((k ≤ more) × (place_in at more k ≡ at + k))
    ⊎ ((more < k) × (place_in at more k ≡ at + 128))
place_is at more k within = elim (cases_lt more k) [
  | inl above ↦ inr (above, rw (lt-leb k more above) refl)
  | inr short ↦ inl (short, rw (le-leb k more short) refl)
]

-- a place fits a byte
place_below : (at more k : ℕ) → at + more ≤ 15 → place_in at more k < 256
place_below at more k within = elim (place_is at more k within) [
  | inl here ↦ let e = here.1 in let short = here.0 in omega arith
  | inr none ↦ let e = none.1 in omega arith
]

-- a place passes the test of `swizzle_dyn`
place_ok : (at more k : ℕ) → at + more ≤ 15 → T (zeroes 16 w8 (place_in at more k) || ltb (place_in at more k) 16)
place_ok at more k within = elim (place_is at more k within) [
  | inl here ↦ let short = here.0 in rw here.1 (second (leb 128 (at + k)) (ltb (at + k) 16)
      (lt-ltb (at + k) 16 (omega arith)))
  | inr none ↦ rw none.1 (first (leb 128 (at + 128)) (ltb (at + 128) 16) (le-leb 128 (at + 128) (omega arith)))
]
  where
    first : (p q : Bool) → p ≡ true → T (p || q)
    first p q e = rw e tt

    second : (p q : Bool) → q ≡ true → T (p || q)
    second true q e = tt
    second false q e = rw e tt

-- the unit that a place brings
abbrev pub lane : List ℕ → ℕ → ℕ
lane us place = cond (leb 128 place) 0 (get_or us place 0)

-- a fact about each number up to 3 is proved in four cases
pub four_cases : (P : ℕ → Type 0) → P 0 → P 1 → P 2 → P 3 → (i : ℕ) → i ≤ 3 → P i
four_cases P a b c d zero small = a
four_cases P a b c d (suc zero) small = b
four_cases P a b c d (suc (suc zero)) small = c
four_cases P a b c d (suc (suc (suc zero))) small = d
four_cases P a b c d (suc (suc (suc (suc i)))) small = absurd (omega arith)

-- a place brings a unit that the number has
lane_here : (us : List ℕ) (at more k : ℕ) → at + more ≤ 15 → k ≤ more
    → lane us (place_in at more k) ≡ get_or us (at + k) 0
lane_here us at more k within short =
    let same : place_in at more k ≡ at + k = rw (le-leb k more short) refl in
    rw (same, lt-leb 128 (at + k) (let q : at + k < 128 = omega arith in q)) refl

-- a place brings 0 if the number has no such unit
lane_none : (us : List ℕ) (at more k : ℕ) → more < k → lane us (place_in at more k) ≡ 0
lane_none us at more k above =
    let same : place_in at more k ≡ at + 128 = rw (lt-leb k more above) refl in
    rw (same, le-leb 128 (at + 128) (let q : 128 ≤ at + 128 = omega arith in q)) refl

-- places bring bytes
lanes_below : (us places : List ℕ) → ((k : ℕ) → get_or us k 0 < 256) → Each1 (λ u. u < 256) (map (lane us) places)
lanes_below us [] fit = tt
lanes_below us (place ∷ places) fit =
    (small (leb 128 place) (get_or us place 0) (fit place), lanes_below us places fit)
  where
    small : (b : Bool) (x : ℕ) → x < 256 → cond b 0 x < 256
    small true x h = omega arith
    small false x h = h

-- up to sixteen lanes of `swizzle_dyn` are what their places bring
pub lanes_brought : (us : List ℕ) (k : ℕ) (places : List ℕ) → k + length places ≤ 16
    → swz_l w8 16 us k places ≡ map (lane us) places
lanes_brought us k [] few = refl
lanes_brought us k (place ∷ places) few =
    let at : 16 * (k / 16) + place ≡ place = omega arith in
    λ i. cond (leb 128 place) 0 (get_or us (at i) 0) ∷ lanes_brought us (suc k) places (omega arith) i

-- ---- places moved by the units before them

-- places after `used` units are moved by `used`
moved_places : (used at more : ℕ) → places_in (used + at) more ≡ map (λ place. used + place) (places_in at more)
moved_places used at more = λ i. moved 0 i ∷ moved 1 i ∷ moved 2 i ∷ moved 3 i ∷ []
  where
    moved : (k : ℕ) → place_in (used + at) more k ≡ used + place_in at more k
    moved k = elim (cases_lt more k) [
      | inl above ↦ rw (lt-leb k more above) (omega arith)
      | inr short ↦ rw (le-leb k more short) (omega arith)
    ]

-- the places of two numbers after `used` units: each byte is `used` higher
pub places_moved : (used first second i j : ℕ)
    → number_l 256 (places_in first i ++ places_in second j) + used * 72340172838076673
    ≡ number_l 256 (places_in (used + first) i ++ places_in (used + second) j)
places_moved used first second i j =
    let more = number_l-more used (places_in first i ++ places_in second j) in
    sym (ap (λ ps. number_l 256 (ps ++ places_in (used + second) j)) (moved_places used first i)
    ∙ ap (λ ps. number_l 256 (map (λ place. used + place) (places_in first i) ++ ps)) (moved_places used second j)
    ∙ more ∙ omega arith)

-- ---- the numbers at some places

-- the places of numbers, each by the place of its first unit and by how many units it has after that
abbrev pub places_of : List (ℕ × ℕ) → List ℕ
places_of [] = []
places_of (n ∷ ns) = places_in n.0 n.1 ++ places_of ns

-- a number has at most four units, all among the first sixteen
abbrev pub IsWithin : ℕ × ℕ → Type 0
IsWithin n = (n.0 + n.1 ≤ 15) × (n.1 ≤ 3)

-- a fact about each place of some numbers
each_place : (P : ℕ → Type 0) (ns : List (ℕ × ℕ)) → ((at more k : ℕ) → at + more ≤ 15 → P (place_in at more k))
    → Each1 IsWithin ns → Each1 P (places_of ns)
each_place P [] each within = tt
each_place P (n ∷ ns) each within =
    let of = λ (k : ℕ). each n.0 n.1 k within.0.0 in
    (of 0, (of 1, (of 2, (of 3, each_place P ns each within.1))))

-- places are bytes
pub places_below : (ns : List (ℕ × ℕ)) → Each1 IsWithin ns → Each1 (λ place. place < 256) (places_of ns)
places_below ns within = each_place (λ place. place < 256) ns place_below within

-- the places of four numbers are the bytes of their number
places_are : (n : ℕ) (ns : List (ℕ × ℕ)) → length (places_of ns) ≡ 16 → Each1 IsWithin ns
    → n ≡ number_l 256 (places_of ns) → digits_l 256 16 n ≡ places_of ns
places_are n ns four within is =
    ap (digits_l 256 16) is ∙ digits-number 256 16 (places_of ns) four (places_below ns within)

-- these places pass the test of `swizzle_dyn`
pub places_ok : (n : ℕ) (ns : List (ℕ × ℕ)) → length (places_of ns) ≡ 16 → Each1 IsWithin ns
    → n ≡ number_l 256 (places_of ns) → SwzOk w8 16 16 0 (digits_l 256 16 n)
places_ok n ns four within is =
    subst (λ places. SwzOk w8 16 16 0 places) (sym (places_are n ns four within is))
    (SwzOk-from_Each1 w8 16 1 16 0 (places_of ns) (omega arith) (omega arith)
    (each_place (λ place. T (zeroes 16 w8 place || ltb place 16)) ns place_ok within))

-- the word of the units at a number's places has its groups
word_found : (radix at more : ℕ) (us : List ℕ) → IsRadix radix → ((k : ℕ) → get_or us k 0 < 256)
    → at + more ≤ 15 → more ≤ 3
    → joined_groups radix (number_l 256 (map (lane us) (places_in at more))) ≡ number_in_front radix more (drop at us)
word_found radix at more us alphabet fit within short =
    let units = map (lane us) (places_in at more) in
    let brought = four_cases (λ i. get_or units i 0 ≡ lane us (place_in at more i)) refl refl refl refl in
    groups_are radix 3 units alphabet (lanes_below us (places_in at more) fit)
    ∙ same_in_front radix more 3 units (drop at us) short
    (λ i low. brought i (omega arith) ∙ lane_here us at more i within low ∙ sym (get_or-drop at us i 0))
    (λ i few above. brought i few ∙ lane_none us at more i above)

-- the words of the units at some places have the numbers at these places
words_found : (radix : ℕ) (us : List ℕ) (k : ℕ) (ns : List (ℕ × ℕ)) → IsRadix radix
    → ((i : ℕ) → get_or us i 0 < 256) → length ns ≡ k → Each1 IsWithin ns
    → map (joined_groups radix) (digits_l 4294967296 k (number_l 256 (map (lane us) (places_of ns))))
    ≡ map (λ n. number_in_front radix n.1 (drop n.0 us)) ns
words_found radix us zero [] alphabet fit count within = refl
words_found radix us (suc k) (n ∷ ns) alphabet fit count within =
    ap (map (joined_groups radix)) (first_word k (map (lane us) (places_of (n ∷ ns)))
    (lanes_below us (places_of (n ∷ ns)) fit))
    ∙ (λ i. word_found radix n.0 n.1 us alphabet fit within.0.0 within.0.1 i
    ∷ words_found radix us k ns alphabet fit (omega arith) within.1 i)
words_found radix us _ _ alphabet fit count within = absurd (omega arith)

-- the places of four numbers bring these numbers
pub numbers_brought : (radix : ℕ) (us : List ℕ) (n : ℕ) (ns : List (ℕ × ℕ)) → IsRadix radix
    → ((i : ℕ) → get_or us i 0 < 256) → length ns ≡ 4 → length (places_of ns) ≡ 16 → Each1 IsWithin ns
    → n ≡ number_l 256 (places_of ns)
    → map (joined_groups radix) (digits_l 4294967296 4 (number_l 256 (swz_l w8 16 us 0 (digits_l 256 16 n))))
    ≡ map (λ m. number_in_front radix m.1 (drop m.0 us)) ns
numbers_brought radix us n ns alphabet fit count four within is =
    ap (λ places. map (joined_groups radix) (digits_l 4294967296 4 (number_l 256 (swz_l w8 16 us 0 places))))
    (places_are n ns four within is)
    ∙ ap (λ lanes. map (joined_groups radix) (digits_l 4294967296 4 (number_l 256 lanes)))
    (lanes_brought us 0 (places_of ns) (omega arith))
    ∙ words_found radix us 4 ns alphabet fit count within
