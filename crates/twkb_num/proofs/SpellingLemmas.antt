-- Digits and the units of digits: a number's spelling grows unit by unit, and the laws of spellings in any alphabet.
use Rattle.std.proofs.Common.{◌≡◌, ℕ, zero, suc, ◌+◌, ◌*◌, ◌/◌, ◌%◌, ◌<◌, ◌≤◌, ◌^◌, inl, inr, List, [], ◌∷◌, ◌++◌}
use Rattle.std.proofs.Common.{length, refl, sym, ◌∙◌, ap, arith, Bool, true, false, ◌-◌, take, set, append_assoc, lit<}
use Rattle.std.proofs.Common.{bit_and, add-one, Option, map, ◌⊎◌, length-append, Some}
use Rattle.std.proofs.Math.Nat.{pow-suc, pow-zero, div-lt_self, add-mul-mod_self_right, add-mul-div_right, mod-eq_of_lt}
use Rattle.std.proofs.Math.Nat.{div-eq_of_lt, mul-le-mul_left, pow-le-pow_right, div-mul-le_self, mul-le-mul_right}
use Rattle.std.proofs.Math.Nat.{lt_of_mul-lt-mul_right}
use Rattle.std.proofs.lemmas.Nat.{div_below, mod_below, div-add-mod', mul-lt, and_mask, one_shl, le-div, pow-add}
use Rattle.std.proofs.lemmas.Nat.{pow_pos}
use Rattle.std.proofs.lemmas.Bool.{lt-ltb, le-ltb, cases_lt, false≢true}
use Rattle.std.specs.Int.Digits.{AllBelowBase}
use Rattle.std.proofs.lemmas.List.{take_more_set, map-append, length-map, nil_from_length}
use Rattle.std.specs.Prelude.{IsTrue, ◌↔◌}
use Rattle.twkb_num.specs.Spelling.{digits, digits_within, number_of, low_digits, units_of, open_units, shortest}
use Rattle.twkb_num.specs.Spelling.{IsSpelling, IsOpen}
use Rattle.twkb_num.specs.Alphabet.{AlphabetLaws}
use Rattle.twkb_num.specs.Answer.{IsAbove}
pub use Rattle.twkb_num.proofs.ZigzagLemmas.{zigzag_one}

-- ==== Digits, low first.

-- ---- one digit

-- the remainder of a digit plus higher digits is the digit
pub low_digit : (base d n : ℕ) → d < base → (d + base * n) % base ≡ d
low_digit base d n h =
    let turned : d + base * n ≡ d + n * base = omega arith in
    rw (turned, add-mul-mod_self_right d n base) (mod-eq_of_lt h)

-- the quotient of a digit plus higher digits is the number of the higher ones
pub high_digits : (base d n : ℕ) → d < base → (d + base * n) / base ≡ n
high_digits base d n h =
    let above : 0 < base = omega arith in
    let turned : d + base * n ≡ d + n * base = omega arith in
    rw (turned, add-mul-div_right d n above, div-eq_of_lt h) (omega arith)

-- ---- the number that digits stand for

-- the number of two lists of digits: the second counts from its place on
pub number_of-append : (base : ℕ) (xs ys : List ℕ)
    → number_of base (xs ++ ys) ≡ number_of base xs + base ^ length xs * number_of base ys
number_of-append base [] ys = rw (pow-zero base) (omega arith)
number_of-append base (x ∷ xs) ys = rw (number_of-append base xs ys, pow-suc base (length xs)) (omega arith)

-- the number of some digits with one more above them
pub number_of-push : (base : ℕ) (xs : List ℕ) (d : ℕ)
    → number_of base (xs ++ d ∷ []) ≡ number_of base xs + base ^ length xs * d
number_of-push base xs d = rw (number_of-append base xs (d ∷ [])) (omega arith)

-- digits below the base stand for a number below the power
pub number_of-lt : (base : ℕ) (ds : List ℕ) → AllBelowBase base ds → number_of base ds < base ^ length ds
number_of-lt base [] below = rw (pow-zero base) (omega arith)
number_of-lt base (d ∷ ds) below =
    let rest = number_of-lt base ds below.1 in
    let product : base * (number_of base ds + 1) ≤ base * base ^ length ds = mul-le-mul_left base
    (let q : number_of base ds + 1 ≤ base ^ length ds = omega arith in q) in
    rw (pow-suc base (length ds)) (omega (arith, below.0))

-- two lists of equally many digits for the same number are equal
pub number_of-same : (base : ℕ) (ds es : List ℕ) → AllBelowBase base ds → AllBelowBase base es
    → length ds ≡ length es → number_of base ds ≡ number_of base es → ds ≡ es
number_of-same base [] [] p q l e = refl
number_of-same base (d ∷ ds) (f ∷ es) p q l e =
    let low = ap (λ n. n % base) e in
    let high = ap (λ n. n / base) e in
    let first : d ≡ f = rw (
      low_digit base d (number_of base ds) p.0,
      low_digit base f (number_of base es) q.0,
    ) at low in
    let others : number_of base ds ≡ number_of base es =
    rw (high_digits base d (number_of base ds) p.0, high_digits base f (number_of base es) q.0)
    at high in
    let rest = number_of-same base ds es p.1 q.1 (omega arith) others in
    cc
number_of-same base _ _ p q l e = absurd (omega arith)

-- digits below the base stay so with one more such digit
pub AllBelowBase-push : (base : ℕ) (ds : List ℕ) (d : ℕ) → AllBelowBase base ds → d < base
    → AllBelowBase base (ds ++ d ∷ [])
AllBelowBase-push base [] d below h = (h, tt)
AllBelowBase-push base (x ∷ ds) d below h = (below.0, AllBelowBase-push base ds d below.1 h)

-- ---- the lowest digits

-- there are k lowest digits
pub length-low_digits : (base k n : ℕ) → length (low_digits base k n) ≡ k
length-low_digits base zero n = refl
length-low_digits base (suc k) n = ap suc (length-low_digits base k (n / base))

-- each of the lowest digits is below the base
pub low_digits_below : (base k n : ℕ) → 0 < base → AllBelowBase base (low_digits base k n)
low_digits_below base zero n p = tt
low_digits_below base (suc k) n p = (mod_below n base p, low_digits_below base k (n / base) p)

-- a number below a power, without its lowest digit
high_below : (base k n : ℕ) → 0 < base → n < base ^ suc k → n / base < base ^ k
high_below base k n p h = div_below n base (base ^ k) p (let e = rw (pow-suc base k) at h in e)

-- the lowest k digits of a number below base ^ k stand for the number
pub number_of-low_digits : (base k n : ℕ) → 0 < base → n < base ^ k → number_of base (low_digits base k n) ≡ n
number_of-low_digits base zero n p h = let e = rw (pow-zero base) at h in omega arith
number_of-low_digits base (suc k) n p h =
    rw (number_of-low_digits base k (n / base) p (high_below base k n p h)) (omega (arith, div-add-mod' n base))

-- the lowest k digits with one more above them
pub low_digits-push : (base k n d : ℕ) → n < base ^ k → d < base
    → low_digits base (suc k) (n + d * base ^ k) ≡ low_digits base k n ++ d ∷ []
low_digits-push base zero n d h b =
    let small = rw (pow-zero base) at h in
    let e : n + d * base ^ 0 ≡ d = rw (pow-zero base) (omega arith) in
    rw (e, mod-eq_of_lt b) refl
low_digits-push base (suc k) n d h b =
    let p : 0 < base = omega arith in
    let e : n + d * base ^ suc k ≡ n + (d * base ^ k) * base = rw (pow-suc base k) (omega arith) in
    rw (e, add-mul-mod_self_right n (d * base ^ k) base, add-mul-div_right n (d * base ^ k) p)
    (ap (λ ds. (n % base) ∷ ds) (low_digits-push base k (n / base) d (high_below base k n p h) b))

-- ---- the digits of a number

-- a number below the base is one digit
digits_within-small : (f base n : ℕ) → n < base → digits_within (suc f) base n ≡ n ∷ []
unfolding digits_within
digits_within-small f base n h = rw (lt-ltb n base h, digits_within) refl

-- any other number takes a turn
digits_within-large : (f base n : ℕ) → base ≤ n
    → digits_within (suc f) base n ≡ (n % base) ∷ digits_within f base (n / base)
unfolding digits_within
digits_within-large f base n h = rw (le-ltb n base h, digits_within) refl

-- with no turn left the rest of the number is the last digit
digits_within-zero : (base n : ℕ) → digits_within 0 base n ≡ n ∷ []
unfolding digits_within
digits_within-zero base n = refl

-- more turns than needed change nothing
digits_within-turns : (f g base n : ℕ) → 2 ≤ base → n ≤ f → n ≤ g → digits_within f base n ≡ digits_within g base n
digits_within-turns zero zero base n p a b = refl
digits_within-turns zero (suc g) base n p a b = digits_within-zero base n
    ∙ sym (digits_within-small g base n (omega arith))
digits_within-turns (suc f) zero base n p a b = digits_within-small f base n (omega arith)
    ∙ sym (digits_within-zero base n)
digits_within-turns (suc f) (suc g) base n p a b =
    elim (cases_lt n base) [
      | inl small ↦ digits_within-small f base n small ∙ sym (digits_within-small g base n small)
      | inr large ↦
          let falls : n / base < n = div-lt_self (omega arith) p in
          digits_within-large f base n large
          ∙ ap (λ ds. (n % base) ∷ ds) (digits_within-turns f g base (n / base) p (omega arith) (omega arith))
          ∙ sym (digits_within-large g base n large)
    ]

-- a number below the base is its own digit
pub digits_one : (base n : ℕ) → n < base → digits base n ≡ n ∷ []
unfolding digits
digits_one base zero h = digits_within-zero base 0
digits_one base (suc n) h = digits_within-small n base (suc n) h

-- any other number has its remainder as its lowest digit
pub digits_more : (base n : ℕ) → 2 ≤ base → base ≤ n → digits base n ≡ (n % base) ∷ digits base (n / base)
unfolding digits
digits_more base zero p h = absurd (omega arith)
digits_more base (suc n) p h =
    let falls : suc n / base < suc n = div-lt_self (omega arith) p in
    digits_within-large n base (suc n) h
    ∙ ap (λ ds. (suc n % base) ∷ ds) (digits_within-turns n (suc n / base) base (suc n / base) p
    (omega arith) (omega arith))

-- the digits stand for their number, and each is below the base
digits_are : (turns base n : ℕ) → 2 ≤ base → n ≤ turns
    → (number_of base (digits base n) ≡ n) × AllBelowBase base (digits base n)
digits_are zero base n p h = rw (digits_one base n (omega arith)) (omega arith, (omega arith, tt))
digits_are (suc turns) base n p h =
    elim (cases_lt n base) [
      | inl small ↦ rw (digits_one base n small) (omega arith, (small, tt))
      | inr large ↦
          let falls : n / base < n = div-lt_self (omega arith) p in
          let rest = digits_are turns base (n / base) p (omega arith) in
          let value : n % base + base * number_of base (digits base (n / base)) ≡ n =
          rw rest.0 (omega (arith, div-add-mod' n base)) in
          rw (digits_more base n p large) (value, (mod_below n base (omega arith), rest.1))
    ]

-- the digits stand for their number
pub number_of-digits : (base n : ℕ) → 2 ≤ base → number_of base (digits base n) ≡ n
number_of-digits base n p = (digits_are n base n p (omega arith)).0

-- each digit is below the base
pub digits_below : (base n : ℕ) → 2 ≤ base → AllBelowBase base (digits base n)
digits_below base n p = (digits_are n base n p (omega arith)).1

-- a number below base ^ k has at most k digits
pub length-digits-le : (base k n : ℕ) → 2 ≤ base → n < base ^ suc k → length (digits base n) ≤ suc k
length-digits-le base zero n p h =
    let small : n < base = let e = rw (pow-suc base 0, pow-zero base) at h in omega arith in
    rw (digits_one base n small) (omega arith)
length-digits-le base (suc k) n p h =
    elim (cases_lt n base) [
      | inl small ↦ rw (digits_one base n small) (omega arith)
      | inr large ↦
          let rest = length-digits-le base k (n / base) p (high_below base (suc k) n (omega arith) h) in
          rw (digits_more base n p large) (omega arith)
    ]

-- the last digit is above 0
abbrev pub EndsAbove : List ℕ → Type 0
EndsAbove [] = ⊥
EndsAbove (d ∷ []) = 0 < d
EndsAbove (d ∷ e ∷ ds) = EndsAbove (e ∷ ds)

-- the last digit is above 0 if a digit above 0 is put last
pub EndsAbove-push : (ds : List ℕ) (d : ℕ) → 0 < d → EndsAbove (ds ++ d ∷ [])
EndsAbove-push (x ∷ y ∷ ds) d h = EndsAbove-push (y ∷ ds) d h
EndsAbove-push _ d h = h

-- digits whose last is above 0 stand for a number above 0
number_of-above : (base : ℕ) (ds : List ℕ) → 0 < base → EndsAbove ds → 0 < number_of base ds
number_of-above base [] p h = absurd h
number_of-above base (d ∷ []) p h = omega arith
number_of-above base (d ∷ e ∷ ds) p h =
    let rest = number_of-above base (e ∷ ds) p h in
    let product : 0 < base * number_of base (e ∷ ds) = mul-lt 0 0 base (number_of base (e ∷ ds)) p rest in
    omega arith

-- Digits whose last is above 0 are those of their number.
pub digits-number_of : (base : ℕ) (ds : List ℕ) → 2 ≤ base → AllBelowBase base ds → EndsAbove ds
    → digits base (number_of base ds) ≡ ds
digits-number_of base [] p below h = absurd h
digits-number_of base (d ∷ []) p below h =
    let e : d + base * 0 ≡ d = omega arith in
    rw e (digits_one base d below.0)
digits-number_of base (d ∷ e ∷ ds) p below h =
    let rest = number_of base (e ∷ ds) in
    let above : 0 < rest = number_of-above base (e ∷ ds) (omega arith) h in
    let product : base * 1 ≤ base * rest = mul-le-mul_left base above in
    let large : base ≤ d + base * rest = omega arith in
    let low = low_digit base d rest below.0 in
    let high = high_digits base d rest below.0 in
    digits_more base (d + base * rest) p large
    ∙ rw (low, high) (ap (λ xs. d ∷ xs) (digits-number_of base (e ∷ ds) p below.1 h))

-- ==== The units of digits.

-- a digit before others says that more follow
pub units_of-cons : (unit : ℕ → Bool → ℕ) (d : ℕ) (ds : List ℕ) → 1 ≤ length ds
    → units_of unit (d ∷ ds) ≡ unit d true ∷ units_of unit ds
units_of-cons unit d [] h = absurd (omega arith)
units_of-cons unit d (e ∷ ds) h = refl

-- with one more digit at the end, the other digits say that more follow
pub units_of-push : (unit : ℕ → Bool → ℕ) (ds : List ℕ) (d : ℕ)
    → units_of unit (ds ++ d ∷ []) ≡ open_units unit ds ++ unit d false ∷ []
units_of-push unit (x ∷ y ∷ ds) d = ap (λ us. unit x true ∷ us) (units_of-push unit (y ∷ ds) d)
units_of-push unit _ d = refl

-- there is one unit for each digit
pub length-units_of : (unit : ℕ → Bool → ℕ) (ds : List ℕ) → length (units_of unit ds) ≡ length ds
length-units_of unit (d ∷ e ∷ ds) = ap suc (length-units_of unit (e ∷ ds))
length-units_of unit _ = refl

-- every number has a digit
pub digits_some : (base n : ℕ) → 2 ≤ base → 1 ≤ length (digits base n)
digits_some base n p =
    elim (cases_lt n base) [
      | inl small ↦ rw (digits_one base n small) (omega arith)
      | inr large ↦ rw (digits_more base n p large) (omega arith)
    ]

-- a number below the base is one unit
pub shortest_one : (unit : ℕ → Bool → ℕ) (base n : ℕ) → n < base → shortest unit base n ≡ unit n false ∷ []
shortest_one unit base n h = rw (digits_one base n h) refl

-- any other number is its lowest digit, then the spelling of the quotient
pub shortest_more : (unit : ℕ → Bool → ℕ) (base n : ℕ) → 2 ≤ base → base ≤ n
    → shortest unit base n ≡ unit (n % base) true ∷ shortest unit base (n / base)
shortest_more unit base n p h =
    rw (digits_more base n p h) (units_of-cons unit (n % base) (digits base (n / base)) (digits_some base (n / base) p))

-- units are the shortest spelling of the number of their digits if the last digit is above 0 or alone
pub shortest_by_last : (unit : ℕ → Bool → ℕ) (base : ℕ) (ds : List ℕ) (d : ℕ) → 2 ≤ base
    → AllBelowBase base (ds ++ d ∷ []) → ((0 < d) ⊎ (ds ≡ []))
    → units_of unit (ds ++ d ∷ []) ≡ shortest unit base (number_of base (ds ++ d ∷ []))
shortest_by_last unit base ds d p below (inl high) =
    ap (units_of unit) (sym (digits-number_of base (ds ++ d ∷ []) p below (EndsAbove-push ds d high)))
shortest_by_last unit base [] d p below (inr alone) =
    let same : d + base * 0 ≡ d = omega arith in
    rw (same, digits_one base d below.0) refl
shortest_by_last unit base (e ∷ ds) d p below (inr alone) = let none = ap length alone in absurd (omega arith)

-- the last digit of a number is above 0 unless it is alone
pub last_digit_above : (base n : ℕ) (ds : List ℕ) (d : ℕ) → 2 ≤ base → AllBelowBase base ds
    → digits base n ≡ ds ++ d ∷ [] → 0 < length ds → 0 < d
last_digit_above base n ds d p below e some =
    elim (cases_lt 0 d) [
      | inl high ↦ high
      | inr low ↦
          let none : base ^ length ds * d ≡ base ^ length ds * 0 = ap (λ x. base ^ length ds * x) (omega arith) in
          let value : n ≡ number_of base ds = sym (number_of-digits base n p) ∙ ap (number_of base) e
          ∙ number_of-push base ds d ∙ omega arith in
          let whole : suc (length ds - 1) ≡ length ds = omega arith in
          let small : n < base ^ suc (length ds - 1) = rw (whole, value) (number_of-lt base ds below) in
          let few = length-digits-le base (length ds - 1) n p small in
          absurd (omega (arith, ap length e, length-append ds (d ∷ [])))
    ]

-- ==== The loop that writes a number's units.

-- the code's mask takes the remainder by a power of 2
pub masked : (n bits : ℕ) → bits < 64 → bit_and n ((1 * 2 ^ bits) % 2 ^ 64 - 1) ≡ n % 2 ^ bits
masked n bits h = rw (one_shl bits 64 h) (and_mask n bits)

-- an alphabet has at least 32 digits
pub base-le : (bits : ℕ) → 5 ≤ bits → 32 ≤ 2 ^ bits
base-le bits h = pow-le-pow_right {n = 2} (lit< tt) h

-- a number whose quotient is not 0 is not below the base
pub large_from_high : (n base : ℕ) → (n / base ≡ 0 → ⊥) → base ≤ n
large_from_high n base h =
    elim (cases_lt n base) [
      | inl small ↦ absurd (h (div-eq_of_lt small))
      | inr large ↦ large
    ]

-- the last unit, written after the others, completes the spelling
pub put_one : (unit : ℕ → Bool → ℕ) (base : ℕ) (units : List ℕ) (len rest number u : ℕ)
    → len < length units → rest < base → u ≡ unit rest false
    → take len units ++ shortest unit base rest ≡ shortest unit base number
    → take (len + 1) (set units len u) ≡ shortest unit base number
put_one unit base units len rest number u within small read spelled =
    take_more_set units len u within
    ∙ ap (λ v. take len units ++ v ∷ []) read
    ∙ ap (λ us. take len units ++ us) (sym (shortest_one unit base rest small))
    ∙ spelled

-- a unit that says that more follow, written after the others, leaves the spelling of the quotient
pub put_more : (unit : ℕ → Bool → ℕ) (base : ℕ) (units : List ℕ) (len rest number u : ℕ) → 2 ≤ base
    → len < length units → base ≤ rest → u ≡ unit (rest % base) true
    → take len units ++ shortest unit base rest ≡ shortest unit base number
    → take (len + 1) (set units len u) ++ shortest unit base (rest / base) ≡ shortest unit base number
put_more unit base units len rest number u p within large read spelled =
    ap (λ us. us ++ shortest unit base (rest / base)) (take_more_set units len u within)
    ∙ append_assoc (take len units) (u ∷ []) (shortest unit base (rest / base))
    ∙ ap (λ v. take len units ++ (v ∷ shortest unit base (rest / base))) read
    ∙ ap (λ us. take len units ++ us) (sym (shortest_more unit base rest p large))
    ∙ spelled

-- the quotient times the next power stays below 2 ^ 64
pub rest_small : (base len rest : ℕ) → 32 ≤ base → rest * 32 ^ len < 2 ^ 64 → rest / base * 32 ^ (len + 1) < 2 ^ 64
rest_small base len rest p small =
    let high = rest / base in
    let a : high * 32 ≤ high * base = mul-le-mul_left high p in
    let b : high * base ≤ rest = div-mul-le_self rest base in
    let c : high * 32 ≤ rest = omega arith in
    let d : (high * 32) * 32 ^ len ≤ rest * 32 ^ len = mul-le-mul_right (32 ^ len) c in
    let e : high * 32 ^ (len + 1) ≡ (high * 32) * 32 ^ len = rw (add-one, pow-suc 32 len) (omega arith) in
    omega arith

-- there is room for another unit while the rest is not below the base
pub room_left : (base len rest : ℕ) → 32 ≤ base → base ≤ rest → rest * 32 ^ len < 2 ^ 64 → len + 1 ≤ 12
room_left base len rest p large small =
    elim (cases_lt len 12) [
      | inl below ↦ omega arith
      | inr above ↦
          let a : 32 ^ 12 ≤ 32 ^ len = pow-le-pow_right {n = 32} (lit< tt) above in
          let b : 32 * 32 ^ len ≤ rest * 32 ^ len = mul-le-mul_right (32 ^ len)
          (let q : 32 ≤ rest = omega arith in q) in
          absurd (omega arith)
    ]

-- a number whose quotient is 0 is below the base
pub low_from_high : (n base : ℕ) → 0 < base → n / base ≡ 0 → n < base
low_from_high n base p h =
    elim (cases_lt n base) [
      | inl small ↦ small
      | inr large ↦ let one_at_least : 1 ≤ n / base = le-div 1 n base p (omega arith) in absurd (omega arith)
    ]

-- ==== Adding one more unit to a spelling.

-- a power of a power of 2
pow-mul : (b k : ℕ) → (2 ^ b) ^ k ≡ 2 ^ (b * k)
pow-mul b zero = let e : b * 0 ≡ 0 = omega arith in rw (pow-zero (2 ^ b), e, pow-zero 2) refl
pow-mul b (suc k) =
    let e : b * suc k ≡ b * k + b = omega arith in
    rw (e, pow-add 2 (b * k) b, pow-suc (2 ^ b) k, pow-mul b k) refl

-- one digit more stays below the next power
one_more_below : (base k n d : ℕ) → n < base ^ k → d < base → n + d * base ^ k < base ^ suc k
one_more_below base k n d h b =
    let e : (d + 1) * base ^ k ≤ base * base ^ k = mul-le-mul_right (base ^ k)
    (let q : d + 1 ≤ base = omega arith in q) in
    rw (pow-suc base k) (omega arith)

-- ---- numbers of 64 bits

-- a group fits if the room above s bits can hold it
pub stays_below : (s n d : ℕ) → s < 64 → n < 2 ^ s → d ≤ (2 ^ 64 - 1) / 2 ^ s → n + d * 2 ^ s < 2 ^ 64
stays_below s n d within h b =
    let e : 64 ≡ (64 - s) + s = omega arith in
    let whole : 2 ^ 64 ≡ 2 ^ (64 - s) * 2 ^ s = ap (λ w. 2 ^ w) e ∙ pow-add 2 (64 - s) s in
    let a : d * 2 ^ s ≤ (2 ^ 64 - 1) / 2 ^ s * 2 ^ s = mul-le-mul_right (2 ^ s) b in
    let c : (2 ^ 64 - 1) / 2 ^ s * 2 ^ s ≤ 2 ^ 64 - 1 = div-mul-le_self (2 ^ 64 - 1) (2 ^ s) in
    let f : d < 2 ^ (64 - s) = lt_of_mul-lt-mul_right (2 ^ s) (omega (arith, whole)) in
    let i : (d + 1) * 2 ^ s ≤ 2 ^ (64 - s) * 2 ^ s = mul-le-mul_right (2 ^ s)
    (let q : d + 1 ≤ 2 ^ (64 - s) = omega arith in q) in
    omega (arith, whole)

-- a group overflows if the room above s bits can't hold it
pub goes_above : (s d : ℕ) → 0 < 2 ^ s → (2 ^ 64 - 1) / 2 ^ s < d → 2 ^ 64 ≤ d * 2 ^ s
goes_above s d p b =
    elim (cases_lt (d * 2 ^ s) (2 ^ 64)) [
      | inl below ↦ let e : d ≤ (2 ^ 64 - 1) / 2 ^ s = le-div d (2 ^ 64 - 1) (2 ^ s) p
          (omega arith) in absurd (omega arith)
      | inr above ↦ above
    ]

-- ---- the laws

module _ {bits longest : ℕ} {unit : ℕ → Bool → ℕ} {group : ℕ → Option (ℕ × Bool)}
    (laws : AlphabetLaws bits longest unit group) where
  -- the number of fewer than `longest` digits is below 2 ^ 64
  pub power_fits : (k : ℕ) → k < longest → (2 ^ bits) ^ k < 2 ^ 64
  power_fits k h =
      let base = base-le bits laws.five in
      let e : (2 ^ bits) ^ k ≤ (2 ^ bits) ^ (longest - 1) = pow-le-pow_right {n = 2 ^ bits}
      (omega arith) (omega arith) in
      omega (arith, laws.needed)

  -- the code's shift is below 64
  pub shift_fits : (k : ℕ) → k < longest → bits * k < 64
  shift_fits k h =
      elim (cases_lt (bits * k) 64) [
        | inl below ↦ below
        | inr above ↦
            let e : 2 ^ 64 ≤ 2 ^ (bits * k) = pow-le-pow_right {n = 2} (lit< tt) above in
            absurd (omega (arith, power_fits k h, pow-mul bits k))
      ]

  -- no spelling has more than 13 units
  pub longest-le : longest ≤ 13
  longest-le =
      let e : bits * (longest - 1) < 64 = shift_fits (longest - 1) (omega (arith, laws.some)) in
      let f : 5 * (longest - 1) ≤ bits * (longest - 1) = mul-le-mul_right (longest - 1) laws.five in
      omega arith

  -- the code's shift multiplies by the power
  pub shifted : (k d : ℕ) → d * (2 ^ bits) ^ k < 2 ^ 64 → (d * 2 ^ (bits * k)) % 2 ^ 64 ≡ d * (2 ^ bits) ^ k
  shifted k d h = rw (← (pow-mul bits k)) (mod-eq_of_lt h)

  -- the value stays below the next power with a unit that says that more follow
  pub more_below : (k n d : ℕ) → k < longest → n < (2 ^ bits) ^ k → d < 2 ^ bits
      → n + d * (2 ^ bits) ^ k < (2 ^ bits) ^ (k + 1)
  more_below k n d h b c = rw (add-one k) (one_more_below (2 ^ bits) k n d b c)

  -- the held units gain a unit that says that more follow
  pub more_held : (k n d u : ℕ) → n < (2 ^ bits) ^ k → d < 2 ^ bits → u ≡ unit d true
      → open_units unit (low_digits (2 ^ bits) (k + 1) (n + d * (2 ^ bits) ^ k)) ≡ open_units unit
      (low_digits (2 ^ bits) k n) ++ u ∷ []
  more_held k n d u h b e =
      let unit_of = λ (x : ℕ). unit x true in
      let grown : low_digits (2 ^ bits) (k + 1) (n + d * (2 ^ bits) ^ k) ≡ low_digits (2 ^ bits) k n ++ d ∷ [] =
      ap (λ l. low_digits (2 ^ bits) l (n + d * (2 ^ bits) ^ k)) (add-one k) ∙ low_digits-push (2 ^ bits) k n d h b in
      ap (map unit_of) grown ∙ map-append unit_of (low_digits (2 ^ bits) k n) (d ∷ [])
      ∙ ap (λ v. open_units unit (low_digits (2 ^ bits) k n) ++ v ∷ []) (sym e)

  -- the value with one more group fits 64 bits
  pub more_fits : (k n d : ℕ) → k + 1 < longest → n < (2 ^ bits) ^ k → d < 2 ^ bits → n + d * (2 ^ bits) ^ k < 2 ^ 64
  more_fits k n d h b c = omega (arith, more_below k n d (omega arith) b c, power_fits (k + 1) h)

  -- the code's sum is the value with one more group
  pub more_sum : (k n d : ℕ) → k + 1 < longest → n < (2 ^ bits) ^ k → d < 2 ^ bits
      → n + (d * 2 ^ (bits * k)) % 2 ^ 64 ≡ n + d * (2 ^ bits) ^ k
  more_sum k n d h b c = ap (λ x. n + x) (shifted k d (omega (arith, more_fits k n d h b c)))

  -- a last group that passes the code's test fits 64 bits
  pub last_fits : (k n d : ℕ) → k < longest → n < (2 ^ bits) ^ k → d ≤ (2 ^ 64 - 1) / 2 ^ (bits * k)
      → n + d * (2 ^ bits) ^ k < 2 ^ 64
  last_fits k n d h b c =
      let small : n < 2 ^ (bits * k) = rw (pow-mul bits k) at b in
      rw (pow-mul bits k) (stays_below (bits * k) n d (shift_fits k h) small c)

  -- the code's sum is the number with its last group
  pub last_sum : (k n d : ℕ) → k < longest → n < (2 ^ bits) ^ k → d ≤ (2 ^ 64 - 1) / 2 ^ (bits * k)
      → n + (d * 2 ^ (bits * k)) % 2 ^ 64 ≡ n + d * (2 ^ bits) ^ k
  last_sum k n d h b c = ap (λ x. n + x) (shifted k d (omega (arith, last_fits k n d h b c)))

  -- a last group that fails the code's test makes 2 ^ 64 or more
  pub last_above : (k d : ℕ) → (2 ^ 64 - 1) / 2 ^ (bits * k) < d → 2 ^ 64 ≤ d * (2 ^ bits) ^ k
  last_above k d c = rw (pow-mul bits k) (goes_above (bits * k) d (pow_pos (bits * k)) c)

  -- the held units are open
  pub held_open : (k n : ℕ) → k < longest → IsOpen unit (2 ^ bits) longest (open_units unit (low_digits (2 ^ bits) k n))
  held_open k n h =
      let base = base-le bits laws.five in
      record {
        ds = low_digits (2 ^ bits) k n;
        spelled = refl;
        below = low_digits_below (2 ^ bits) k n (omega arith);
        room = omega (arith, length-low_digits (2 ^ bits) k n);
      }

  -- ---- the last unit

  -- the held units and the last one are the units of their digits
  pub done_units : (k n d u : ℕ) → u ≡ unit d false
      → open_units unit (low_digits (2 ^ bits) k n) ++ u ∷ [] ≡ units_of unit (low_digits (2 ^ bits) k n ++ d ∷ [])
  done_units k n d u e = rw e (sym (units_of-push unit (low_digits (2 ^ bits) k n) d))

  -- the number of the held units and the last one is the code's number
  done_number : (k n d : ℕ) → n < (2 ^ bits) ^ k → d < 2 ^ bits
      → number_of (2 ^ bits) (low_digits (2 ^ bits) k n ++ d ∷ []) ≡ n + d * (2 ^ bits) ^ k
  done_number k n d h b =
      let base = base-le bits laws.five in
      rw (
        number_of-push (2 ^ bits) (low_digits (2 ^ bits) k n) d,
        number_of-low_digits (2 ^ bits) k
            n (omega arith) h,
        length-low_digits (2 ^ bits) k n,
      ) (omega arith)

  -- the digits of the held units and the last one are below the base
  done_below : (k n d : ℕ) → d < 2 ^ bits → AllBelowBase (2 ^ bits) (low_digits (2 ^ bits) k n ++ d ∷ [])
  done_below k n d b =
      let base = base-le bits laws.five in
      AllBelowBase-push (2 ^ bits) (low_digits (2 ^ bits) k n) d (low_digits_below (2 ^ bits) k n (omega arith)) b

  -- there is one digit more than units held
  length_done : (k n d : ℕ) → length (low_digits (2 ^ bits) k n ++ d ∷ []) ≡ k + 1
  length_done k n d = length-append (low_digits (2 ^ bits) k n) (d ∷ [])
      ∙ ap (λ l. l + 1) (length-low_digits (2 ^ bits) k n)

  -- a last unit whose number fits ends a spelling
  pub done_spelling : (k n d u : ℕ) → k < longest → n < (2 ^ bits) ^ k → d < 2 ^ bits
      → u ≡ unit d false → n + d * (2 ^ bits) ^ k < 2 ^ 64
      → IsSpelling unit (2 ^ bits) longest (open_units unit (low_digits (2 ^ bits) k n) ++ u ∷ [])
      (n + d * (2 ^ bits) ^ k)
  done_spelling k n d u within h b e fits = record {
    ds = low_digits (2 ^ bits) k n ++ d ∷ [];
    spelled = done_units k n d u e;
    below = done_below k n d b;
    some = omega (arith, length_done k n d);
    within = omega (arith, length_done k n d);
    number = done_number k n d h b;
    fits = fits;
  }

  -- a last unit whose number does not fit ends a spelling that is too large
  pub done_above : (k n d u : ℕ) → n < (2 ^ bits) ^ k → d < 2 ^ bits → u ≡ unit d false → 2 ^ 64 ≤ d * (2 ^ bits) ^ k
      → IsAbove unit (2 ^ bits) (open_units unit (low_digits (2 ^ bits) k n) ++ u ∷ [])
  done_above k n d u h b e above = record {
    ds = low_digits (2 ^ bits) k n ++ d ∷ [];
    spelled = done_units k n d u e;
    below = done_below k n d b;
    above = omega (arith, done_number k n d h b);
  }

  -- the spelling is the shortest if its last digit is above 0 or alone
  pub is_shortest : (k n d u : ℕ) → n < (2 ^ bits) ^ k → d < 2 ^ bits → u ≡ unit d false → ((0 < d) ⊎ (k ≡ 0))
      → open_units unit (low_digits (2 ^ bits) k n) ++ u ∷ [] ≡ shortest unit (2 ^ bits) (n + d * (2 ^ bits) ^ k)
  is_shortest k n d u h b e which =
      let base = base-le bits laws.five in
      let short : (0 < d) ⊎ (low_digits (2 ^ bits) k n ≡ []) = elim which [
        | inl high ↦ inl high
        | inr none ↦ inr (nil_from_length (low_digits (2 ^ bits) k n) (length-low_digits (2 ^ bits) k n ∙ none))
      ] in
      done_units k n d u e
      ∙ shortest_by_last unit (2 ^ bits) (low_digits (2 ^ bits) k n) d (omega arith) (done_below k n d b) short
      ∙ ap (shortest unit (2 ^ bits)) (done_number k n d h b)

  -- the spelling is not the shortest if its last digit is 0 and not alone
  pub not_shortest : (k n u : ℕ) → n < (2 ^ bits) ^ k → 0 < k
      → open_units unit (low_digits (2 ^ bits) k n) ++ u ∷ [] ≡ shortest unit (2 ^ bits) (n + 0 * (2 ^ bits) ^ k) → ⊥
  not_shortest zero n u h p e = absurd (omega arith)
  not_shortest (suc k) n u h p e =
      let base = base-le bits laws.five in
      let same : n + 0 * (2 ^ bits) ^ suc k ≡ n = omega arith in
      let a = ap length e in
      let b : length (open_units unit (low_digits (2 ^ bits) (suc k) n) ++ u ∷ []) ≡ suc k + 1 =
      length-append (open_units unit (low_digits (2 ^ bits) (suc k) n)) (u ∷ [])
      ∙ ap (λ l. l + 1) (length-map (low_digits (2 ^ bits) (suc k) n) (λ x. unit x true)
      ∙ length-low_digits (2 ^ bits) (suc k) n) in
      let c : length (shortest unit (2 ^ bits) (n + 0 * (2 ^ bits) ^ suc k)) ≤ suc k =
      rw (same, length-units_of unit (digits (2 ^ bits) n)) (length-digits-le (2 ^ bits) k n (omega arith) h) in
      omega arith

  -- the reader's flag says whether the spelling is the shortest
  pub flag_says : (k n d u : ℕ) (flag : Bool) → n < (2 ^ bits) ^ k → d < 2 ^ bits → u ≡ unit d false
      → (flag ≡ true → (0 < d) ⊎ (k ≡ 0)) → (flag ≡ false → (d ≡ 0) × (0 < k))
      → IsTrue flag ↔ (open_units unit (low_digits (2 ^ bits) k n) ++ u ∷ [] ≡ shortest unit
      (2 ^ bits) (n + d * (2 ^ bits) ^ k))
  flag_says k n d u true h b e at_true at_false = (λ _. is_shortest k n d u h b e (at_true refl), λ _. refl)
  flag_says k n d u false h b e at_true at_false =
      let padded = at_false refl in
      (λ t. absurd (false≢true t), λ same. absurd (not_shortest k n u h padded.1 (rw padded.0 at same)))

-- how many units are held
pub length-held : (unit : ℕ → Bool → ℕ) (base k n : ℕ) → length (open_units unit (low_digits base k n)) ≡ k
length-held unit base k n = length-map (low_digits base k n) (λ x. unit x true) ∙ length-low_digits base k n

-- ==== Laws of spellings in any alphabet: each spells one number, and each number has one shortest spelling.

module _ {bits longest : ℕ} {unit : ℕ → Bool → ℕ} {group : ℕ → Option (ℕ × Bool)}
    (laws : AlphabetLaws bits longest unit group) where
  -- a unit has one digit and one mark
  unit_one : (d e : ℕ) (m n : Bool) → d < 2 ^ bits → e < 2 ^ bits → unit d m ≡ unit e n → (d ≡ e) × (m ≡ n)
  unit_one d e m n p q h =
      let both : Some (d, m) ≡ Some (e, n) = sym (laws.read_back d m p) ∙ ap group h ∙ laws.read_back e n q in
      let pair : (d, m) ≡ (e, n) = cc in
      (ap (λ (z : ℕ × Bool). z.0) pair, ap (λ (z : ℕ × Bool). z.1) pair)

  -- the digits of no spelling begin those of another
  pub same_digits : (ds es x y : List ℕ) → AllBelowBase (2 ^ bits) ds → AllBelowBase (2 ^ bits) es
      → 1 ≤ length ds → 1 ≤ length es
      → units_of unit ds ++ x ≡ units_of unit es ++ y → ds ≡ es
  same_digits [] es x y p q a b h = absurd (omega arith)
  same_digits (d ∷ ds) [] x y p q a b h = absurd (omega arith)
  same_digits (d ∷ []) (e ∷ []) x y p q a b h =
      let head : unit d false ≡ unit e false = cc in
      ap (λ n. n ∷ []) (unit_one d e false false p.0 q.0 head).0
  same_digits (d ∷ []) (e ∷ f ∷ es) x y p q a b h =
      let head : unit d false ≡ unit e true = cc in
      let apart = (unit_one d e false true p.0 q.0 head).1 in cc
  same_digits (d ∷ c ∷ ds) (e ∷ []) x y p q a b h =
      let head : unit d true ≡ unit e false = cc in
      let apart = (unit_one d e true false p.0 q.0 head).1 in cc
  same_digits (d ∷ c ∷ ds) (e ∷ f ∷ es) x y p q a b h =
      let head : unit d true ≡ unit e true = cc in
      let rest : units_of unit (c ∷ ds) ++ x ≡ units_of unit (f ∷ es) ++ y = cc in
      let first = (unit_one d e true true p.0 q.0 head).0 in
      let others = same_digits (c ∷ ds) (f ∷ es) x y p.1 q.1 (omega arith) (omega arith) rest in cc

  -- no spelling begins another, and each spells one number
  pub spelling_one : (a b x y : List ℕ) (m n : ℕ) → IsSpelling unit (2 ^ bits) longest a m
      → IsSpelling unit (2 ^ bits) longest b n → a ++ x ≡ b ++ y → (a ≡ b) × (m ≡ n)
  spelling_one a b x y m n p q h =
      let same = same_digits p.ds q.ds x y p.below q.below p.some q.some
      (ap (λ t. t ++ x) (sym p.spelled) ∙ h ∙ ap (λ t. t ++ y) q.spelled) in
      (p.spelled ∙ ap (units_of unit) same ∙ sym q.spelled, sym p.number ∙ ap (number_of (2 ^ bits)) same ∙ q.number)

  -- the shortest spelling is a spelling
  pub shortest_spelling : (n : ℕ) → n < 2 ^ 64 → IsSpelling unit (2 ^ bits) longest (shortest unit (2 ^ bits) n) n
  shortest_spelling n h =
      let base = base-le bits laws.five in
      let two : 2 ≤ 2 ^ bits = omega arith in
      let turned : (2 ^ bits) ^ suc (longest - 1) ≡ (2 ^ bits) ^ longest = ap (λ k. (2 ^ bits) ^ k)
      (omega (arith, laws.some)) in
      let within : length (digits (2 ^ bits) n) ≤ suc (longest - 1) = length-digits-le (2 ^ bits)
      (longest - 1) n two (omega (arith, laws.enough, turned)) in
      record {
        ds = digits (2 ^ bits) n;
        spelled = refl;
        below = digits_below (2 ^ bits) n two;
        some = digits_some (2 ^ bits) n two;
        within = omega (arith, laws.some);
        number = number_of-digits (2 ^ bits) n two;
        fits = h;
      }

  -- no spelling of the number is shorter
  pub shortest_least : (us : List ℕ) (n : ℕ) → IsSpelling unit (2 ^ bits) longest us n
      → length (shortest unit (2 ^ bits) n) ≤ length us
  shortest_least us n s =
      let base = base-le bits laws.five in
      let whole : suc (length s.ds - 1) ≡ length s.ds = omega (arith, s.some) in
      let small : n < (2 ^ bits) ^ length s.ds = rw s.number at (number_of-lt (2 ^ bits) s.ds s.below) in
      let fewer = length-digits-le (2 ^ bits) (length s.ds - 1) n (omega arith) (rw whole small) in
      rw (s.spelled, length-units_of unit s.ds, length-units_of unit (digits (2 ^ bits) n)) (omega arith)

  -- no other spelling of the number is as short as the shortest
  pub shortest_only : (us : List ℕ) (n : ℕ) → IsSpelling unit (2 ^ bits) longest us n
      → length us ≤ length (shortest unit (2 ^ bits) n) → us ≡ shortest unit (2 ^ bits) n
  shortest_only us n s h =
      let base = base-le bits laws.five in
      let two : 2 ≤ 2 ^ bits = omega arith in
      let as_long : length s.ds ≡ length (digits (2 ^ bits) n) =
      omega (
        arith,
        shortest_least us n s,
        length-units_of unit s.ds,
        length-units_of unit
            (digits (2 ^ bits) n),
        ap length s.spelled,
      ) in
      let same = number_of-same (2 ^ bits) s.ds (digits (2 ^ bits) n) s.below
      (digits_below (2 ^ bits) n two) as_long (s.number
      ∙ sym (number_of-digits (2 ^ bits) n two)) in
      s.spelled ∙ ap (units_of unit) same
