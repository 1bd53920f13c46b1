-- Units in blocks of sixteen, and two numbers that are a whole text.
use lib.Lanes.{mask_l, zip2, Each1, number_l, digits_l}
use lib.ListN.{replicate}
use mathlib.Core.Bool.{cond}
use Rattle.std.proofs.Common.{◌≡◌, ℕ, suc, ◌+◌, ◌-◌, ◌*◌, ◌/◌, ◌%◌, ◌<◌, ◌≤◌, ◌^◌, Bool, true, false, inl, inr, List}
use Rattle.std.proofs.Common.{[], ◌∷◌, length, take, drop, map, get_or, min, max, refl, sym, ◌∙◌, ap, subst, arith}
use Rattle.std.proofs.Common.{bit_and, bit_or, Fits, w8, w64, zero, ◌++◌, length-append, ltb}
use Rattle.std.specs.Prelude.{nat_eq, nat_lt, not}
use Rattle.std.specs.Int.{bit_at, bit_not, trailing_zeros}
use Rattle.std.proofs.lemmas.Bool.{cases_lt, eq-eqb, lt-ltb, le-ltb, ltb-true, ltb-false, eqb-true}
use Rattle.std.proofs.lemmas.List.{drop-drop, drop-map, drop_all, get_or-drop, get_or-map, get_or-take, get_or_past}
use Rattle.std.proofs.lemmas.List.{length-drop, length-map, length-take-le, length-take, take-map, take-take, take_all}
use Rattle.std.proofs.lemmas.List.{take_min, take_rest, drop-take, take-append-le, take-append-drop, map-id}
use Rattle.std.proofs.lemmas.Nat.{and_le_l, le_or_r, or_lt, shr-shr, and_mask, one_shl, pow-add}
use Rattle.std.proofs.lemmas.Nat.Bits.{bit_at-suc, bit_at_and, bit_at_or, bit_at_not, bit_at-pow_other}
use Rattle.std.proofs.lemmas.Nat.Bits.{bit_at-trailing_zeros, ones_shr}
use Rattle.std.proofs.lemmas.Simd.{bit_mask_l, chunk-fits, Each1-chunk, Each1-get_or, Each1-weaker, trailing_mask_l}
use Rattle.std.proofs.lemmas.Simd.{zip2_splat}
use Rattle.std.specs.Int.Count.{count_trailing_zeros, trailing_of_zero}
use Rattle.std.specs.List.{prefix_len}
use Rattle.std.proofs.Math.Nat.{pow-suc, pow-zero}
use Rattle.std.proofs.Math.Seq.{drop-append-add}
use Rattle.twkb_num.specs.Block.{units_in, AreUnits, AreEnds, AreMarks, AreEndsBefore, IsFault, number_in_front}
use Rattle.twkb_num.specs.Block.{run_of, first_and_last, eight_groups, AreMarked, AreTwoRuns}
use Rattle.twkb_num.specs.declared.block.Marks.{Marks}
use Rattle.twkb_num.specs.Alphabet.{five_unit}
use Rattle.twkb_num.specs.Spelling.{shortest}
use Rattle.twkb_num.proofs.ZigzagLemmas.{lanes_are, wrapped_sub}
use Rattle.twkb_num.proofs.FoundLemmas.{mask_l-drop, mask_l-take, AreLanes, marks_of, number_spelled}
use Rattle.twkb_num.proofs.SpellingLemmas.{number_of-append}
use Rattle.twkb_num.proofs.WordLemmas.{number_l-drop, number_l-take, Each1-drop, digits-number}
use Rattle.twkb_num.proofs.WordLemmas.{Each1-append, groups_found, same_in_front}

-- ==== Units at the start of some bytes, and the bits of their ends.

-- ---- ends before a fault

-- the bit of one unit among the marks
bit_of : (p : ℕ → Bool) (us : List ℕ) (k : ℕ) → k < length us
    → bit_at (mask_l (map p us)) k ≡ cond (p (get_or us k 0)) 1 0
bit_of p us k within = bit_mask_l (map p us) k ∙ ap (λ b. cond b 1 0) (get_or-map p us k 0 false within)

-- the bits of the units at fault, and the last bit
abbrev pub faults_of : Marks → ℕ
faults_of m = bit_or (bit_or m.bad (bit_and (m.zeros / 2) (bit_not w64 m.ends))) 9223372036854775808

-- the fault bits have 64 bits, and one of them is set
pub faults_fit : (m : Marks) → Fits w64 m.bad → Fits w64 m.zeros → (faults_of m < 2 ^ 64) × (0 < faults_of m)
faults_fit m bad zeros =
    let behind = bit_and (m.zeros / 2) (bit_not w64 m.ends) in
    let behind_fits : behind < 2 ^ 64 = omega (arith, and_le_l (m.zeros / 2) (bit_not w64 m.ends)) in
    let bad_fits : m.bad < 2 ^ 64 = omega arith in
    let both = or_lt 64 m.bad behind bad_fits behind_fits in (
      or_lt 64 (bit_or m.bad behind) 9223372036854775808 both (omega arith),
      omega (arith, le_or_r (bit_or m.bad behind) 9223372036854775808),
    )

-- the first of them is one of the 64
pub fault_within : (m : Marks) → Fits w64 m.bad → Fits w64 m.zeros → trailing_zeros w64 (faults_of m) < 64
fault_within m bad zeros =
    let fit = faults_fit m bad zeros in (bit_at-trailing_zeros w64 (faults_of m) fit.1 fit.0).0

-- a unit that is marked is there, and is what it is marked as
marked : (p : ℕ → Bool) (us : List ℕ) {n : ℕ} (k : ℕ) → n ≡ mask_l (map p us) → 0 < bit_at n k
    → (k < length us) × (p (get_or us k 0) ≡ true)
marked p us k is some = elim (cases_lt k (length us)) [
  | inl within ↦ (
    within,
    set (p (get_or us k 0)) (let bit = ap (λ m. bit_at m k) is ∙ bit_of p us k within in omega arith),
  )
  | inr beyond ↦
      let past : get_or (map p us) k false ≡ false = get_or_past (map p us) k false (omega (arith, length-map us p)) in
      let none = ap (λ m. bit_at m k) is ∙ bit_mask_l (map p us) k ∙ ap (λ b. cond b 1 0) past in
      absurd (omega arith)
]
  where
    set : (b : Bool) → 0 < cond b 1 0 → b ≡ true
    set true h = refl
    set false h = absurd (omega (arith, h))

-- a unit that is not marked is not what it would be marked as
unmarked : (p : ℕ → Bool) (us : List ℕ) {n : ℕ} (k : ℕ) → n ≡ mask_l (map p us) → k < length us → bit_at n k ≡ 0
    → p (get_or us k 0) ≡ false
unmarked p us k is within none =
    clear (p (get_or us k 0)) (sym (ap (λ m. bit_at m k) is ∙ bit_of p us k within) ∙ none)
  where
    clear : (b : Bool) → cond {A = ℕ} b 1 0 ≡ 0 → b ≡ false
    clear true h = absurd (omega (arith, h))
    clear false h = refl

-- the first fault among the first 63 units is a unit at fault
first_fault : (m : Marks) (t radix most : ℕ) (us : List ℕ) → Fits w64 m.ends → t < 63
    → bit_at (faults_of m) t ≡ 1 → AreMarks radix most us m → IsFault radix most us t
first_fault m t radix most us ends_fit few set are =
    let behind = bit_and (m.zeros / 2) (bit_not w64 m.ends) in
    let top : bit_at 9223372036854775808 t ≡ 0 = bit_at-pow_other 63 t (λ e. absurd (omega (arith, e))) in
    let outer = bit_at_or (bit_or m.bad behind) 9223372036854775808 t in
    let inner = bit_at_or m.bad behind t in
    elim (cases_lt 0 (bit_at m.bad t)) [
      | inl bad ↦ inl (ltb-true most (get_or us t 0) (marked (λ u. nat_lt most u) us t are.bad bad).1)
      | inr good ↦
          let split = bit_at_and (m.zeros / 2) (bit_not w64 m.ends) t in
          let half = bit_at-suc m.zeros t in
          let is = marked (λ u. nat_eq u 0) us (suc t) are.zeros (omega arith) in
          let small : m.ends < 2 ^ 64 = omega arith in
          let unset = bit_at_not w64 m.ends t small (omega (arith, few)) in
          inr (
            is.0,
            eqb-true (get_or us (suc t) 0) 0 is.1,
            ltb-false (get_or us t 0) radix
                (unmarked (λ u. nat_lt u radix) us t are.ends (omega (arith, is.0)) (omega arith)),
          )
    ]

-- no unit before the first fault is at fault
pub ends_before : (m : Marks) (radix most : ℕ) (us : List ℕ) → Fits w64 m.ends → Fits w64 m.bad → Fits w64 m.zeros
    → AreMarks radix most us m → AreEndsBefore radix most us (m.ends % 2 ^ trailing_zeros w64 (faults_of m))
ends_before m radix most us ends_fit bad_fit zeros_fit are =
    let t = trailing_zeros w64 (faults_of m) in
    let behind = bit_and (m.zeros / 2) (bit_not w64 m.ends) in
    let fit = faults_fit m bad_fit zeros_fit in
    let lowest = bit_at-trailing_zeros w64 (faults_of m) fit.1 fit.0 in
    let clear = λ (k : ℕ) (low : k < t). let bit : bit_at (faults_of m) k ≡ 0 = lowest.2 k (omega arith) in
    let outer = bit_at_or (bit_or m.bad behind) 9223372036854775808 k in
    let inner = bit_at_or m.bad behind k in
    let both : max (bit_at m.bad k) (bit_at behind k) ≡ 0 = omega arith in both in
    record {
      count = t;
      marks = ap (λ n. n % 2 ^ t) are.ends ∙ mask_l-take t (map (λ u. nat_lt u radix) us)
          ∙ ap mask_l (take-map (λ u. nat_lt u radix) t us);
      below = λ k low within. ltb-false most (get_or us k 0)
          (unmarked (λ u. nat_lt most u) us k are.bad within (let both = clear k low in omega arith));
      shortest = λ k low within is_zero. ends_there k within is_zero (omega (arith, lowest.0))
          (let both = clear k low in omega arith);
      far = λ few. first_fault m t radix most us ends_fit few lowest.1 are;
    }
  where
    ends_there : (k : ℕ) → suc k < length us → get_or us (suc k) 0 ≡ 0 → k < 64
        → bit_at (bit_and (m.zeros / 2) (bit_not w64 m.ends)) k ≡ 0 → get_or us k 0 < radix
    ends_there k within is_zero low none =
        let zero_bit = ap (λ n. bit_at n (suc k)) are.zeros ∙ bit_of (λ u. nat_eq u 0) us (suc k) within in
        let zero_set = rw (eq-eqb (get_or us (suc k) 0) 0 is_zero) at zero_bit in
        let half = bit_at-suc m.zeros k in
        let split = bit_at_and (m.zeros / 2) (bit_not w64 m.ends) k in
        let small : m.ends < 2 ^ 64 = omega arith in
        let unset = bit_at_not w64 m.ends k small low in
        ltb-true (get_or us k 0) radix (marked (λ u. nat_lt u radix) us k are.ends (omega arith)).1

-- ---- ends of numbers in bytes

-- bytes are their units plus the base
pub same_units : (base most : ℕ) (bytes : List ℕ) → most + base < 256 → Each1 (Fits w8) bytes
    → ((k : ℕ) → k < length bytes → get_or (units_in base bytes) k 0 ≤ most)
    → bytes ≡ map (λ u. u + base) (units_in base bytes)
same_units base most [] room fit few = refl
same_units base most (b ∷ bytes) room fit few =
    let byte = fit.0 in
    let within : (b + (2 ^ 8 - base)) % 2 ^ 8 ≤ most = few 0 (omega arith) in
    let first : (b + (2 ^ 8 - base)) % 2 ^ 8 + base ≡ b = omega arith in
    let rest = same_units base most bytes room fit.1 (λ k low. few (suc k) (omega arith)) in
    rw first (ap (λ bs. b ∷ bs) rest)

-- a unit past the end of the list reads as 0
pub all_below : (us : List ℕ) (bound : ℕ) → 0 < bound
    → ((k : ℕ) → k < length us → get_or us k 0 < bound) → (k : ℕ) → get_or us k 0 < bound
all_below us bound some each k = elim (cases_lt k (length us)) [
  | inl within ↦ each k within
  | inr beyond ↦ let past = get_or_past us k 0 beyond in omega arith
]

-- The ends among the first n bytes.
pub ends_of : (base radix most n ends : ℕ) (bytes : List ℕ) → most < 2 * radix → most + base < 256
    → n ≤ length bytes → ((k : ℕ) → Fits w8 (get_or bytes k 0))
    → AreEndsBefore radix most (units_in base (take n bytes)) ends → AreEnds base radix bytes ends
ends_of base radix most n ends bytes bound room long fit before =
    let unit = λ (b : ℕ). (b + (2 ^ 8 - base)) % 2 ^ 8 in
    let all = units_in base (take n bytes) in
    let front = take before.count (take n bytes) in
    let us = units_in base front in
    let cut : take before.count all ≡ us = take-map unit before.count (take n bytes) in
    let bytes_long = length-take-le n bytes long in
    let all_long : length all ≡ n = length-map (take n bytes) unit ∙ bytes_long in
    let us_long : length us ≡ min before.count n = length-map front unit
    ∙ length-take before.count (take n bytes) ∙ ap (min before.count) bytes_long in
    let same = λ (k : ℕ) (low : k < length us). let is : get_or us k 0 ≡ get_or all k 0 =
    ap (λ vs. get_or vs k 0) (sym cut) ∙ get_or-take before.count all k 0 (omega arith) in is in
    let each = λ (k : ℕ) (low : k < length us). let is = same k low in
    let small = before.below k (omega arith) (omega arith) in
    let few : get_or us k 0 ≤ most = omega arith in few in
    record {
      units = us;
      are = record {
        within = omega arith;
        same = ap (λ k. take k bytes) us_long ∙ sym (take-take (min before.count n) n bytes (omega arith))
            ∙ ap (λ l. take (min before.count l) (take n bytes)) (sym bytes_long) ∙ take_min before.count (take n bytes)
            ∙ same_units base most front room
            (Each1-chunk (Fits w8) 0 before.count (take n bytes) (chunk-fits w8 0 n bytes fit))
            (λ k low. each k (omega (arith, length-map front unit)));
        below = all_below us (2 * radix) (omega arith) (λ k low. let few = each k low in omega arith);
        shortest = λ k low is_zero.
            let next = same (suc k) low in
            let this = same k (omega arith) in
            let ended = before.shortest k (omega arith) (omega arith) (omega arith) in
            omega arith;
        marks = before.marks ∙ ap (λ vs. mask_l (map (λ u. nat_lt u radix) vs)) cut;
      };
    }

-- there are no ends if there are too few bytes
pub no_ends : (base radix : ℕ) (bytes : List ℕ) → 0 < radix → AreEnds base radix bytes 0
no_ends base radix bytes some = record {
  units = [];
  are = record {
    within = omega arith;
    same = refl;
    below = λ k. omega arith;
    shortest = λ k low is_zero. omega arith;
    marks = refl;
  };
}

-- Shifting the ends by the units used gives the ends of the units after them.
pub ends_dropped : (base radix used : ℕ) (bytes us : List ℕ) (ends : ℕ)
    → AreUnits base radix bytes us ends → used ≤ length us
    → AreEnds base radix (drop used bytes) (ends / 2 ^ used)
ends_dropped base radix used bytes us ends read within =
    let bytes_long = length-drop used bytes in
    let us_long = length-drop used us in
    let enough = read.within in
    let whole : used + length (drop used us) ≡ length us = omega arith in
    record {
      units = drop used us;
      are = record {
        within = omega arith;
        same = sym (drop-take used (length (drop used us)) bytes)
            ∙ ap (λ n. drop used (take n bytes)) whole ∙ ap (drop used) read.same
            ∙ drop-map (λ u. u + base) used us;
        below = λ k. let at = get_or-drop used us k 0 in let small = read.below (used + k) in omega arith;
        shortest = λ k low is_zero.
            let at = get_or-drop used us k 0 in
            let next = get_or-drop used us (suc k) 0 in
            let place : used + suc k ≡ suc (used + k) = omega arith in
            let there = rw place at next in
            let small = read.shortest (used + k) (omega arith) (omega arith) in
            omega arith;
        marks = ap (λ n. n / 2 ^ used) read.marks ∙ mask_l-drop used (map (λ u. nat_lt u radix) us)
            ∙ ap mask_l (drop-map (λ u. nat_lt u radix) used us);
      };
    }

-- After any number of units the shifted ends are those of what follows.
pub ends_shifted : (base radix skipped : ℕ) (bytes : List ℕ) (ends : ℕ) → AreEnds base radix bytes ends
    → AreEnds base radix (drop skipped bytes) (ends / 2 ^ skipped)
ends_shifted base radix skipped bytes ends are =
    let us = are.units in
    let read = are.are in
    elim (cases_lt (length us) skipped) [
      | inl past ↦
          let marks = map (λ u. nat_lt u radix) us in
          let long = length-map us (λ u. nat_lt u radix) in
          let none : ends / 2 ^ skipped ≡ 0 = ap (λ n. n / 2 ^ skipped) read.marks ∙ mask_l-drop skipped marks
          ∙ ap mask_l (drop_all skipped marks (omega arith)) in
          subst (AreEnds base radix (drop skipped bytes)) (sym none)
          (no_ends base radix (drop skipped bytes) (omega (arith, read.below 0)))
      | inr within ↦ ends_dropped base radix skipped bytes us ends read within
    ]

-- Sixteen bytes, loaded as lanes, hold these units after the first `skipped`.
pub lanes_read : (base radix skipped : ℕ) (bytes us : List ℕ) (ends : ℕ) → 16 ≤ length bytes
    → ((k : ℕ) → Fits w8 (get_or bytes k 0)) → AreUnits base radix (drop skipped bytes) us ends
    → AreLanes (zip2 wrapped_sub (take 16 bytes) (replicate 16 base)) skipped us
lanes_read base radix skipped bytes us ends long fit read =
    let unit = λ (b : ℕ). (b + (2 ^ 8 - base)) % 2 ^ 8 in
    let are = lanes_are base bytes long in
    let lanes = units_in base (take 16 bytes) in
    let front : length (take 16 bytes) ≡ 16 = length-take-le 16 bytes long in
    let lanes_long : length lanes ≡ 16 = length-map (take 16 bytes) unit ∙ front in
    let lane = λ (k : ℕ) (low : k < 16). let is : get_or lanes k 0 ≡ unit (get_or bytes k 0) =
    get_or-map unit (take 16 bytes) k 0 0 (omega arith)
    ∙ ap unit (get_or-take 16 bytes k 0 low) in is in
    let byte = λ (k : ℕ) (low : k < length us). let is : get_or bytes (skipped + k) 0 ≡ get_or us k 0 + base =
    sym (get_or-drop skipped bytes k 0) ∙ sym (get_or-take (length us) (drop skipped bytes) k 0 low)
    ∙ ap (λ bs. get_or bs k 0) read.same ∙ get_or-map (λ u. u + base) us k 0 0 low in is in
    subst (λ ls. AreLanes ls skipped us) (sym are) (record {
      count = lanes_long;
      fit = all_below lanes 256 (omega arith) (λ k low. let is = lane k (omega arith) in omega arith);
      same = λ k low within.
          let is = lane (skipped + k) low in
          let at = byte k within in
          let small = fit (skipped + k) in
          omega arith;
    })

-- ends of a slice cut at i, after j bytes, are the ends after i + j bytes
pub ends_after : (base radix : ℕ) (bytes : List ℕ) (ends i j : ℕ)
    → AreEnds base radix (drop j (take (length bytes - i) (drop i bytes))) ends
    → AreEnds base radix (drop (i + j) bytes) ends
ends_after base radix bytes ends i j are = subst (λ l. AreEnds base radix l ends)
    (ap (drop j) (take_rest bytes i) ∙ drop-drop j i bytes) are

-- two shifts of the ends, by i and by j, are one by i + j
pub ends_behind : (base radix : ℕ) (bytes : List ℕ) (ends i j : ℕ)
    → AreEnds base radix (drop j (take (length bytes - i) (drop i bytes))) (ends / 2 ^ i / 2 ^ j)
    → AreEnds base radix (drop (i + j) bytes) (ends / 2 ^ (i + j))
ends_behind base radix bytes ends i j are = subst (λ n. AreEnds base radix (drop (i + j) bytes) n)
    (shr-shr ends i j) (ends_after base radix bytes (ends / 2 ^ i / 2 ^ j) i j are)

-- ends after i bytes are those of the slice cut there
pub ends_in_slice : (base radix : ℕ) (bytes : List ℕ) (ends i : ℕ)
    → AreEnds base radix (drop i bytes) ends → AreEnds base radix
    (take (length bytes - i) (drop i bytes)) ends
ends_in_slice base radix bytes ends i are = subst (λ l. AreEnds base radix l ends) (sym (take_rest bytes i)) are

-- ==== Two numbers that are a whole text, by its first eight and its last eight characters.

-- ---- a text by its first eight and its last eight characters

module _ (text : List ℕ) (long : 8 ≤ length text) where
  front_long : length (take 8 text) ≡ 8
  front_long = length-take-le 8 text long

  back_long : length (drop (length text - 8) text) ≡ 8
  back_long = omega (arith, length-drop (length text - 8) text)

  -- there are sixteen
  pub length-first_and_last : length (first_and_last text) ≡ 16
  length-first_and_last =
      omega (arith, length-append (take 8 text) (drop (length text - 8) text), front_long, back_long)

  -- the bytes of the two words are the first eight and the last eight
  pub bytes_are : (front back : ℕ) → Each1 (λ b. b < 256) text → front ≡ number_l 256 (take 8 text)
      → back ≡ number_l 256 (take 8 (drop (length text - 8) text))
      → digits_l 256 16 (number_l 18446744073709551616 (front ∷ back ∷ [])) ≡ first_and_last text
  bytes_are front back below front_is back_is =
      let first = take 8 text in
      let last = drop (length text - 8) text in
      let all : take 8 last ≡ last = take_all 8 last (omega (arith, back_long)) in
      let power : 256 ^ length first ≡ 18446744073709551616 = ap (λ n. 256 ^ n) front_long in
      let joined : number_l 18446744073709551616 (front ∷ back ∷ [])
      ≡ number_l 256 (first_and_last text) =
      ap (λ n. n + 18446744073709551616 * (back + 18446744073709551616 * 0)) front_is
      ∙ ap (λ n. number_l 256 first + 18446744073709551616 * (n + 18446744073709551616 * 0))
      (back_is ∙ ap (number_l 256) all)
      ∙ (let sum : number_l 256 first + 18446744073709551616 * (number_l 256 last + 18446744073709551616 * 0)
      ≡ number_l 256 first + 18446744073709551616 * number_l 256 last = omega arith in sum)
      ∙ ap (λ n. number_l 256 first + n * number_l 256 last) (sym power)
      ∙ sym (number_of-append 256 first last) in
      ap (digits_l 256 16) joined
      ∙ digits-number 256 16 (first_and_last text) length-first_and_last
      (Each1-append (λ b. b < 256) first last (Each1-chunk (λ b. b < 256) 0 8 text below)
      (Each1-drop (λ b. b < 256) (length text - 8) text below))

  -- the first eight and the last eight, cut at `used` characters, are the text cut there
  pub cut_apart : (used : ℕ) → used ≤ 8 → used ≤ length text → length text ≤ used + 8
      → text ≡ take used (first_and_last text)
      ++ drop (16 - (length text - used)) (first_and_last text)
  cut_apart used first_short within second_short =
      let last = drop (length text - 8) text in
      let rest = length text - used in
      let place : 16 - rest ≡ length (take 8 text) + (8 - rest) = omega (arith, front_long) in
      let from : (length text - 8) + (8 - rest) ≡ used = omega arith in
      let low : take used (first_and_last text) ≡ take used text =
      take-append-le used (take 8 text) last (omega (arith, front_long)) ∙ take-take used 8 text first_short in
      let high : drop (16 - rest) (first_and_last text) ≡ drop used text =
      ap (λ n. drop n (first_and_last text)) place ∙ drop-append-add (take 8 text) last (8 - rest)
      ∙ drop-drop (8 - rest) (length text - 8) text ∙ ap (λ n. drop n text) from in
      sym (take-append-drop used text) ∙ ap (λ xs. xs ++ drop used text) (sym low)
      ∙ ap (λ xs. take used (first_and_last text) ++ xs) (sym high)

-- ---- runs of marks

-- the lowest bit that is set is the first mark
lowest_mark : (marks : List Bool) → prefix_len (λ b. not b) marks ≡ run_of marks
lowest_mark (false ∷ marks) = omega (arith, lowest_mark marks)
lowest_mark _ = refl

pub run_found : (marks : List Bool) → length marks ≡ 16 → count_trailing_zeros 64 (mask_l marks) < 64
    → run_of marks ≡ count_trailing_zeros 64 (mask_l marks)
run_found marks long few =
    let same : map (λ (b : Bool). b) marks ≡ marks = map-id marks in
    elim (cases_lt 0 (mask_l marks)) [
      | inl some ↦
          sym (rw same at (trailing_mask_l (λ (b : Bool). b) 64 marks (omega arith) (rw same some))
          ∙ lowest_mark marks)
      | inr none ↦
          let zero_mask : mask_l marks ≡ 0 = omega arith in
          let past = ap (count_trailing_zeros 64) zero_mask ∙ trailing_of_zero 64 in
          absurd (omega (arith, past))
    ]

-- marks of which the last alone is set
pub run_of-last : (marks : List Bool) (k : ℕ) → length marks ≡ suc k → mask_l marks ≡ 2 ^ k → run_of marks ≡ k
run_of-last [] k long mask = absurd (omega arith)
run_of-last (true ∷ marks) zero long mask = refl
run_of-last (false ∷ marks) zero long mask = let one = pow-zero 2 in absurd (omega arith)
run_of-last (true ∷ marks) (suc k) long mask = let power = pow-suc 2 k in absurd (omega arith)
run_of-last (false ∷ marks) (suc k) long mask =
    let power = pow-suc 2 k in
    ap suc (run_of-last marks k (omega arith) (omega arith))

-- no mark is set
none_above : (us : List ℕ) (most : ℕ) → mask_l (map (λ u. ltb most u) us) ≡ 0 → Each1 (λ u. u ≤ most) us
none_above [] most none = tt
none_above (u ∷ us) most none =
    elim (cases_lt most u) [
      | inl above ↦ let set = rw (lt-ltb most u above) at none in absurd (omega arith)
      | inr below ↦
          let rest : 0 + 2 * mask_l (map (λ v. ltb most v) us) ≡ 0 = rw (le-ltb most u below) at none in
          (below, none_above us most (omega arith))
    ]

-- there are sixteen units, and each is a byte
pub length-first_and_last_units : (text us : List ℕ) → 8 ≤ length text
    → us ≡ units_in 63 (first_and_last text) → length us ≡ 16
length-first_and_last_units text us long us_are = ap length us_are
    ∙ length-map (first_and_last text) (λ b. (b + (2 ^ 8 - 63)) % 2 ^ 8)
    ∙ length-first_and_last text long

pub units_below : (text us : List ℕ) → us ≡ units_in 63 (first_and_last text)
    → Each1 (λ u. u < 256) us
units_below text us us_are = rw us_are (each (first_and_last text))
  where
    each : (bytes : List ℕ) → Each1 (λ u. u < 256) (units_in 63 bytes)
    each [] = tt
    each (b ∷ bytes) = (omega arith, each bytes)

-- units less 1 are as many
pub length-less : (us : List ℕ) → length us ≡ 16 → length (zip2 wrapped_sub us (replicate 16 1)) ≡ 16
length-less us long = ap length (zip2_splat wrapped_sub us 16 1 long) ∙ length-map us (λ u. wrapped_sub u 1) ∙ long

-- units less 1 that are at most 62, and their ends
pub marked_by : (us : List ℕ) (ends : ℕ) → length us ≡ 16 → Each1 (Fits w8) us
    → ends ≡ mask_l (map (λ u. nat_lt u 32) us)
    → mask_l (map (λ u. ltb 62 u) (zip2 wrapped_sub us (replicate 16 1))) ≡ 0 → AreMarked us ends
marked_by us ends long fit ends_are none = record {
  marks = ends_are;
  few = each us fit (none_above (map (λ u. wrapped_sub u 1) us) 62
      (subst (λ ls. mask_l (map (λ u. ltb 62 u) ls) ≡ 0) (zip2_splat wrapped_sub us 16 1 long) none));
}
  where
    each : (us : List ℕ) → Each1 (Fits w8) us → Each1 (λ v. v ≤ 62) (map (λ u. wrapped_sub u 1) us)
        → Each1 (λ u. (0 < u) × (u < 64)) us
    each [] fit few = tt
    each (u ∷ us) fit few =
        let byte = fit.0.fits in
        let small : wrapped_sub u 1 ≤ 62 = few.0 in
        ((omega arith, omega arith), each us fit.1 few.1)

-- the last marks are those of a number that ends with the text
pub last_run : (marks : List Bool) (ends rest : ℕ) → length marks ≡ 16 → ends ≡ mask_l marks → 1 ≤ rest
    → rest ≤ 8 → ends / 2 ^ (16 - rest) ≡ (1 * 2 ^ (rest - 1)) % 2 ^ 64
    → suc (run_of (drop (16 - rest) marks)) ≡ rest
last_run marks ends rest long ends_are some few alone =
    let last = drop (16 - rest) marks in
    let count : length last ≡ suc (rest - 1) = omega (arith, length-drop (16 - rest) marks) in
    let mask : mask_l last ≡ 2 ^ (rest - 1) = sym (mask_l-drop (16 - rest) marks)
    ∙ ap (λ n. n / 2 ^ (16 - rest)) (sym ends_are) ∙ alone ∙ one_shl (rest - 1) 64 (omega arith) in
    omega (arith, run_of-last last (rest - 1) count mask)

-- ---- the two numbers

-- eight bits are a byte
bytes_power : (k : ℕ) → 2 ^ (8 * k) ≡ 256 ^ k
bytes_power zero = refl
bytes_power (suc k) =
    let count : 8 * suc k ≡ 8 * k + 8 = omega arith in
    ap (λ n. 2 ^ n) count ∙ pow-add 2 (8 * k) 8 ∙ ap (λ n. n * 256) (bytes_power k) ∙ sym (pow-suc 256 k)

-- units after a number's last one are not among its groups
number_in_front-take : (radix more k : ℕ) (us : List ℕ) → more < k
    → number_in_front radix more (take k us) ≡ number_in_front radix more us
number_in_front-take radix more k us within =
    same_in_front radix more more (take k us) us (omega arith) (λ i low. get_or-take k us i 0 (omega arith))
    (λ i few above. absurd (omega arith))

module _ (us : List ℕ) (long : length us ≡ 16) (fit : Each1 (λ u. u < 256) us) where
  -- the groups of the first units
  pub first_groups : (front used : ℕ) → front ≡ number_l 256 us % 256 ^ 8 → 1 ≤ used → used ≤ 8
      → eight_groups (bit_and front ((2 ^ 64 - 1) / 2 ^ (64 - 8 * used))) ≡ number_in_front 32 (used - 1) us
  first_groups front used front_is some few =
      let left : 64 - (64 - 8 * used) ≡ 8 * used = omega arith in
      let count : length (take used us) ≡ suc (used - 1) = omega (arith, length-take-le used us (omega arith)) in
      ap (λ m. eight_groups (bit_and front m)) (ones_shr 64 (64 - 8 * used) (omega arith)
      ∙ ap (λ n. 2 ^ n - 1) left)
      ∙ ap eight_groups (
      and_mask front (8 * used)
      ∙ ap (λ n. front % n) (bytes_power used)
      ∙ ap (λ n. n % 256 ^ used) (front_is ∙ number_l-take 256 8 us fit)
      ∙ number_l-take 256 used (take 8 us) (Each1-chunk (λ u. u < 256) 0 8 us fit)
      ∙ ap (number_l 256) (take-take used 8 us few))
      ∙ groups_found (take used us) (used - 1) (Each1-chunk (λ u. u < 256) 0 used us fit) count (omega arith)
      ∙ number_in_front-take 32 (used - 1) used us (omega arith)

  -- the groups of the last units
  pub last_groups : (back rest : ℕ) → back ≡ number_l 256 us / 256 ^ 8 % 256 ^ 8 → 1 ≤ rest → rest ≤ 8
      → eight_groups (back / 2 ^ (64 - 8 * rest)) ≡ number_in_front 32 (rest - 1) (drop (16 - rest) us)
  last_groups back rest back_is some few =
      let last = drop 8 us in
      let last_fit = Each1-drop (λ b. b < 256) 8 us fit in
      let shift : 64 - 8 * rest ≡ 8 * (8 - rest) = omega arith in
      let place : 8 + (8 - rest) ≡ 16 - rest = omega arith in
      let count : length (drop (16 - rest) us) ≡ suc (rest - 1) = omega (arith, length-drop (16 - rest) us) in
      ap eight_groups (
      ap (λ n. back / n) (ap (λ n. 2 ^ n) shift ∙ bytes_power (8 - rest))
      ∙ ap (λ n. n / 256 ^ (8 - rest)) (
      back_is
      ∙ ap (λ n. n % 256 ^ 8) (number_l-drop 256 8 us fit)
      ∙ number_l-take 256 8 last last_fit
      ∙ ap (number_l 256) (take_all 8 last (omega (arith, length-drop 8 us))))
      ∙ number_l-drop 256 (8 - rest) last last_fit
      ∙ ap (number_l 256) (drop-drop (8 - rest) 8 us ∙ ap (λ n. drop n us) place))
      ∙ groups_found (drop (16 - rest) us) (rest - 1) (Each1-drop (λ b. b < 256) (16 - rest) us fit) count (omega arith)

-- units up to the first that ends a number are its characters
run_spelled : (us : List ℕ) (count : ℕ) → Each1 (λ u. (0 < u) × (u < 64)) us
    → suc (run_of (marks_of 32 us)) ≡ count → count ≤ length us
    → map (λ u. u + 63) (take count us) ≡ shortest five_unit 32 (number_in_front 32 (count - 1) us)
run_spelled us count few run within =
    let number : count - 1 ≡ run_of (marks_of 32 us) = omega arith in
    let unit = λ (k : ℕ) (low : k < length us). Each1-get_or (λ u. (0 < u) × (u < 64)) us k 0 low few in
    ap (λ n. map (λ u. u + 63) (take n us)) (sym run)
    ∙ number_spelled 63 32 us (omega arith) (all_below us 64 (omega arith) (λ k low. (unit k low).1)) (omega arith)
    (λ _. (unit (run_of (marks_of 32 us)) (omega arith)).0)
    ∙ ap (λ n. shortest five_unit 32 (number_in_front 32 n us)) (sym number)

-- A text is the two numbers whose units are its first eight and its last eight.
pub two_read : (text us : List ℕ) (ends used : ℕ) → 8 ≤ length text → Each1 (λ b. b < 256) text
    → us ≡ units_in 63 (first_and_last text) → AreMarked us ends → used ≤ 8 → used < length text
    → length text ≤ used + 8 → AreTwoRuns (marks_of 32 us) used (length text)
    → text ≡ shortest five_unit 32 (number_in_front 32 (used - 1) us)
    ++ shortest five_unit 32 (number_in_front 32 (length text - used - 1) (drop (16 - (length text - used)) us))
two_read text us ends used long fit us_are marked first_short within second_short runs =
    let bytes = first_and_last text in
    let rest = length text - used in
    let last = drop (16 - rest) us in
    let character = λ (u : ℕ). u + 63 in
    let count = length-first_and_last_units text us long us_are in
    let last_count : length last ≡ rest = omega (arith, length-drop (16 - rest) us) in
    let bytes_fit = Each1-weaker (λ b. b < 256) (Fits w8) (λ b small. record { fits = small }) bytes
    (Each1-append (λ b. b < 256) (take 8 text) (drop (length text - 8) text) (Each1-chunk (λ b. b < 256) 0 8 text fit)
    (Each1-drop (λ b. b < 256) (length text - 8) text fit)) in
    let same : bytes ≡ map character us = same_units 63 63 bytes (omega arith) bytes_fit
    (λ k low. let unit = Each1-get_or (λ u. (0 < u) × (u < 64)) us k 0
    (omega (arith, count, length-first_and_last text long)) marked.few in
    let is = ap (λ vs. get_or vs k 0) us_are in omega (arith, unit.1)) ∙ ap (map character) (sym us_are) in
    let last_run : suc (run_of (marks_of 32 last)) ≡ rest =
    ap (λ marks. suc (run_of marks)) (sym (drop-map (λ u. nat_lt u 32) (16 - rest) us)) ∙ runs.second in
    let first = ap (take used) same ∙ take-map character used us
    ∙ run_spelled us used marked.few runs.first (omega arith) in
    let second = ap (drop (16 - rest)) same ∙ drop-map character (16 - rest) us
    ∙ ap (map character) (sym (take_all rest last (omega arith)))
    ∙ run_spelled last rest (Each1-drop (λ u. (0 < u) × (u < 64)) (16 - rest) us marked.few) last_run (omega arith) in
    cut_apart text long used first_short (omega arith) second_short
    ∙ ap (λ xs. xs ++ drop (16 - rest) bytes) first
    ∙ ap (λ xs. shortest five_unit 32 (number_in_front 32 (used - 1) us) ++ xs) second
