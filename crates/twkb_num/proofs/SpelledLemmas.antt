-- Four numbers spelled at once by a shuffle of their units.
use lib.Dec.{leb, T}
use lib.Lanes.{number_l, digits_l, mask_l, top, zip2, Each1}
use mathlib.Core.Bool.{cond, ◌||◌, ◌&&◌}
use mir.Val.{zeroes}
use lib.ListN.{replicate}
use Rattle.std.proofs.Common.{◌≡◌, ℕ, zero, suc, ◌+◌, ◌*◌, ◌/◌, ◌%◌, ◌-◌, ◌<◌, ◌≤◌, ◌^◌, Bool, true, false, inl}
use Rattle.std.proofs.Common.{inr, [], ◌∷◌, ◌++◌, take, map, refl, sym, ◌∙◌, ap, arith, List, drop, get_or, subst}
use Rattle.std.proofs.Common.{count_ones, ltb, w8}
use Rattle.std.specs.Prelude.{nat_le, nat_eq, nat_lt}
use Rattle.std.specs.List.{concat}
use Rattle.std.proofs.Math.Nat.{mod-eq_of_lt, div-eq_of_lt, pow-suc, pow-zero, one-le-pow}
use Rattle.std.proofs.lemmas.Bool.{cases_lt, le-leb, lt-leb, lt-ltb, and_parts, eqb-true, ltb-true}
use Rattle.std.proofs.lemmas.Nat.{div_below, mod_below}
use Rattle.std.proofs.lemmas.Simd.{swz_l, SwzOk, SwzOk-from_Each1, Each1-all, tops_compared, zip2_splat_left}
use Rattle.twkb_num.specs.Alphabet.{unit_over, leb_unit, IsRadix, leb_numbered}
use Rattle.twkb_num.specs.Block.{units_within, lane_units, groups_after, marks_of_two, place_for, shuffle_of}
use Rattle.twkb_num.specs.Block.{AreSpelled}
use Rattle.twkb_num.specs.Spelling.{shortest}
use Rattle.twkb_num.specs.declared.shuffles.TheConstants.{SHUFFLES}
use Rattle.twkb_num.proofs.SpellingLemmas.{number_of-append, number_of-lt}
use Rattle.twkb_num.proofs.WordLemmas.{Each1-append, digits-number, number_l-more}
use Rattle.twkb_num.proofs.WordLemmas.{four_cases, lane, lanes_brought}
use Rattle.twkb_num.proofs.SpellingLemmas.{shortest_one, shortest_more}
use Rattle.twkb_num.proofs.FoundLemmas.{mask_l-append}

-- ==== The units of a number in a lane of four bytes, as the code adds them, are its shortest spelling.

-- a number without its lowest group has one group fewer
fewer : (radix most n : ℕ) → 1 ≤ radix → n < radix ^ suc (suc most) → n / radix < radix ^ suc most
fewer radix most n p below = div_below n radix (radix ^ suc most) p (rw (pow-suc radix (suc most)) at below)

-- a number of one group is below the radix
one_group : (radix n : ℕ) → n < radix ^ 1 → n < radix
one_group radix n below = let e = rw (pow-suc radix 0, pow-zero radix) at below in omega arith

-- ---- the spelling

-- a number's units are its shortest spelling
pub units_spell : (base radix most n : ℕ) → 2 ≤ radix → n < radix ^ suc most
    → take (suc (groups_after radix most n)) (units_within base radix (suc most) n) ≡ shortest
    (unit_over base radix) radix n
units_spell base radix zero n p below =
    let small = one_group radix n below in
    rw (lt-leb radix n small, mod-eq_of_lt small) (sym (shortest_one (unit_over base radix) radix n small))
units_spell base radix (suc most) n p below =
    elim (cases_lt n radix) [
      | inl small ↦ rw (lt-leb radix n small, mod-eq_of_lt small)
          (sym (shortest_one (unit_over base radix) radix n small))
      | inr large ↦
          let rest = units_spell base radix most (n / radix) p (fewer radix most n (omega arith) below) in
          rw (le-leb radix n large) (ap (λ us. unit_over base radix (n % radix) true ∷ us) rest
          ∙ sym (shortest_more (unit_over base radix) radix n p large))
    ]

-- ---- the marks

-- a unit that goes on is `radix` above the others
mark_is : (base radix d : ℕ) (more : Bool) → d < radix → leb (base + radix) (unit_over base radix d more) ≡ more
mark_is base radix d true small = le-leb (base + radix) (d + radix + base) (omega arith)
mark_is base radix d false small = lt-leb (base + radix) (d + base) (omega arith)

-- no group follows the last one of a number
no_marks : (base radix most : ℕ) → 1 ≤ radix → mask_l
    (map (λ u. leb (base + radix) u) (units_within base radix most 0)) ≡ 0
no_marks base radix zero p = refl
no_marks base radix (suc most) p =
    let low : 0 % radix ≡ 0 = mod-eq_of_lt p in
    let high : 0 / radix ≡ 0 = div-eq_of_lt p in
    rw (low, high, lt-leb radix 0 p, mark_is base radix 0 false p, no_marks base radix most p) refl

-- the marks have a bit for each group that has others above it
pub marks_are : (base radix most n : ℕ) → 1 ≤ radix → n < radix ^ suc most
    → mask_l (map (λ u. leb (base + radix) u) (units_within base radix (suc most) n))
    ≡ 2 ^ groups_after radix most n - 1
marks_are base radix zero n p below =
    let small = one_group radix n below in
    rw (lt-leb radix n small, mark_is base radix (n % radix) false (mod_below n radix p)) refl
marks_are base radix (suc most) n p below =
    elim (cases_lt n radix) [
      | inl small ↦
          let none : n / radix ≡ 0 = div-eq_of_lt small in
          rw (
            lt-leb radix n small,
            mark_is base radix (n % radix) false (mod_below n radix p),
            none,
            no_marks base radix (suc most) p,
          ) refl
      | inr large ↦
          let rest = marks_are base radix most (n / radix) p (fewer radix most n p below) in
          let k = groups_after radix most (n / radix) in
          let power : 2 ^ suc k ≡ 2 ^ k * 2 = pow-suc 2 k in
          let one : 1 ≤ 2 ^ k = one-le-pow k 2 (omega arith) in
          rw (le-leb radix n large, mark_is base radix (n % radix) true (mod_below n radix p), rest) (omega arith)
    ]

-- at most three groups follow the first
pub few_groups : (radix most n : ℕ) → groups_after radix most n ≤ most
few_groups radix zero n = omega arith
few_groups radix (suc most) n = by_test (nat_le radix n) (few_groups radix most (n / radix))
  where
    by_test : (more : Bool) → groups_after radix most (n / radix) ≤ most
        → cond more (suc (groups_after radix most (n / radix))) 0 ≤ suc most
    by_test true few = omega arith
    by_test false few = omega arith

-- the units of four numbers
abbrev pub units_of_four : (base radix a b c d : ℕ) → List ℕ
units_of_four base radix a b c d = lane_units base radix a
    ++ (lane_units base radix b ++ (lane_units base radix c ++ lane_units base radix d))

-- ---- a lane as the code adds it

-- the value that a comparison selects
abbrev selected : Bool → ℕ → ℕ
selected more value = cond (top 31 (cond more 4294967295 0)) value 0

-- a lane's groups, marks and base, added
abbrev lane_of : (base radix n : ℕ) → ℕ
lane_of base radix n =
    (((((n % radix + (n / radix % radix * 256) % 4294967296) % 4294967296
    + (n / radix / radix % radix * 65536) % 4294967296) % 4294967296
    + (n / radix / radix / radix * 16777216) % 4294967296) % 4294967296
    + ((selected (leb radix n) radix + selected (leb radix (n / radix)) (radix * 256)) % 4294967296
    + selected (leb radix (n / radix / radix)) (radix * 65536)) % 4294967296) % 4294967296
    + base * 16843009) % 4294967296

-- a mark at its place
mark_at : (more : Bool) (radix : ℕ) → (selected more radix ≡ cond more radix 0)
    × (selected more (radix * 256) ≡ cond more radix 0 * 256)
    × (selected more (radix * 65536) ≡ cond more radix 0 * 65536) × (cond more radix 0 ≤ radix)
mark_at true radix = (refl, refl, refl, omega arith)
mark_at false radix = (refl, refl, refl, omega arith)

-- the sum of groups at their places
groups_sum : (a b c d : ℕ) → a < 128 → b < 128 → c < 128 → d < 128
    → (((a + (b * 256) % 4294967296) % 4294967296 + (c * 65536) % 4294967296) % 4294967296
    + (d * 16777216) % 4294967296) % 4294967296 ≡ a + 256 * b + 65536 * c + 16777216 * d
groups_sum a b c d p q r s = omega arith

-- a sum of bytes that leaves no carry is the sum of each byte
whole_sum : (base radix a b c d x y z : ℕ) → radix ≤ 128 → base + 2 * radix ≤ 256 → a < radix
    → b < radix → c < radix → d < radix → x ≤ radix → y ≤ radix → z ≤ radix
    → ((a + 256 * b + 65536 * c + 16777216 * d + ((x + y * 256) % 4294967296 + z * 65536) % 4294967296) % 4294967296
    + base * 16843009) % 4294967296
    ≡ number_l 256 ((a + x + base) ∷ (b + y + base) ∷ (c + z + base) ∷ (d + base) ∷ [])
whole_sum base radix a b c d x y z most within p q r s u v w = omega arith

-- a unit is its group, its mark and the base
unit_is : (base radix d : ℕ) (more : Bool) → d + cond more radix 0 + base ≡ unit_over base radix d more
unit_is base radix d true = refl
unit_is base radix d false = omega arith

module _ (base radix : ℕ) (alphabet : IsRadix radix) (within : base + 2 * radix ≤ 256) where
  most : radix ≤ 128
  most = elim alphabet [ inl e ↦ omega arith | inr e ↦ omega arith ]

  some : 1 ≤ radix
  some = elim alphabet [ inl e ↦ omega arith | inr e ↦ omega arith ]

  -- a lane holds the units of its number
  lane_is : (n : ℕ) → n < radix ^ 4 → lane_of base radix n ≡ number_l 256 (lane_units base radix n)
  lane_is n small =
      let two = n / radix in
      let three = n / radix / radix in
      let four = n / radix / radix / radix in
      let last : four < radix = one_group radix four
      (fewer radix 0 three some (fewer radix 1 two some (fewer radix 2 n some small))) in
      let a = mod_below n radix some in
      let b = mod_below two radix some in
      let c = mod_below three radix some in
      let x = mark_at (leb radix n) radix in
      let y = mark_at (leb radix two) radix in
      let z = mark_at (leb radix three) radix in
      let ended : four + base ≡ unit_over base radix (four % radix) (nat_le radix four) =
      rw (mod-eq_of_lt last, lt-leb radix four last) refl in
      (λ i. (((groups_sum (n % radix) (two % radix) (three % radix) four (omega arith) (omega arith) (omega arith)
      (omega arith) i + ((x.0 i + y.1 i) % 4294967296 + z.2 i) % 4294967296) % 4294967296)
      + base * 16843009) % 4294967296)
      ∙ whole_sum base radix (n % radix) (two % radix) (three % radix) four _ _ _ most within a b c last x.3 y.3 z.3
      ∙ (λ i. number_l 256 (unit_is base radix (n % radix) (leb radix n) i
      ∷ unit_is base radix (two % radix) (leb radix two) i
      ∷ unit_is base radix (three % radix) (leb radix three) i ∷ ended i ∷ []))

  -- the units of a number are bytes
  units_below : (k n : ℕ) → Each1 (λ u. u < 256) (units_within base radix k n)
  units_below zero n = tt
  units_below (suc k) n = (byte (nat_le radix n) (mod_below n radix some), units_below k (n / radix))
    where
      byte : (more : Bool) {d : ℕ} → d < radix → unit_over base radix d more < 256
      byte true small = omega arith
      byte false small = omega arith

  -- the units of some numbers
  abbrev units_of_all : List ℕ → List ℕ
  units_of_all ns = concat (map (lane_units base radix) ns)

  -- they are bytes
  all_below : (ns : List ℕ) → Each1 (λ u. u < 256) (units_of_all ns)
  all_below [] = tt
  all_below (n ∷ ns) = Each1-append (λ u. u < 256) (lane_units base radix n) (units_of_all ns)
      (units_below 4 n) (all_below ns)

  -- lanes hold the units of their numbers
  all_lanes : (ns : List ℕ) → Each1 (λ n. n < radix ^ 4) ns
      → number_l 4294967296 (map (lane_of base radix) ns) ≡ number_l 256 (units_of_all ns)
  all_lanes [] small = refl
  all_lanes (n ∷ ns) small = (λ i. lane_is n small.0 i + 4294967296 * all_lanes ns small.1 i)
      ∙ sym (number_of-append 256 (lane_units base radix n) (units_of_all ns))

-- Four lanes are the units of four numbers.
pub lanes_are : (base radix from_base bound a b c d : ℕ) → IsRadix radix
    → base + 2 * radix ≤ 256 → from_base ≡ base → bound ≡ radix
    → a < radix ^ 4 → b < radix ^ 4 → c < radix ^ 4 → d < radix ^ 4
    → digits_l 256 16 (number_l 4294967296 (map (lane_of from_base bound) (a ∷ b ∷ c ∷ d ∷ [])))
    ≡ units_of_four base radix a b c d
lanes_are base radix from_base bound a b c d alphabet within base_is bound_is p q r s =
    let ns = a ∷ b ∷ c ∷ d ∷ [] in
    rw (base_is, bound_is)
    (ap (digits_l 256 16) (all_lanes base radix alphabet within ns (p, (q, (r, (s, tt)))))
    ∙ digits-number 256 16 (units_of_all base radix alphabet within ns) refl (all_below base radix alphabet within ns))

-- ==== The table of shuffles, and the units that a shuffle by it gives.

-- a fact about each pair of numbers up to 3
abbrev pub OfTwo : (ℕ → ℕ → Type 0) → ℕ → Type 0
OfTwo P i = (j : ℕ) → j ≤ 3 → P i j

-- ---- the table

-- the table has the shuffle of two marks, which are eight bits and as many as the units that go on
abbrev is_shuffle : ℕ → ℕ → Bool
is_shuffle i j = nat_eq (get_or SHUFFLES (marks_of_two i j) 0) (number_l 256 (shuffle_of i j))
    && (nat_eq (count_ones (marks_of_two i j)) (i + j) && nat_lt (marks_of_two i j) 256)

-- a test passes at each number up to 3
abbrev every : (ℕ → Bool) → Bool
every test = test 0 && (test 1 && (test 2 && test 3))

-- then it passes at any of them
every_at : (test : ℕ → Bool) → every test ≡ true → (i : ℕ) → i ≤ 3 → test i ≡ true
every_at test all =
    let later = and_parts (test 0) _ all in
    let last = and_parts (test 1) _ later.1 in
    let ends = and_parts (test 2) (test 3) last.1 in
    four_cases (λ i. test i ≡ true) later.0 last.0 ends.0 ends.1

-- the table has the shuffle of each two marks
all_shuffles : every (λ i. every (λ j. is_shuffle i j)) ≡ true
unfolding lib.Count.ones
all_shuffles = refl

-- the table has the shuffle of two marks
shuffle_at : (i j : ℕ) → i ≤ 3 → j ≤ 3 → (get_or SHUFFLES (marks_of_two i j) 0 ≡ number_l 256 (shuffle_of i j))
    × (count_ones (marks_of_two i j) ≡ i + j) × (marks_of_two i j < 256)
shuffle_at i j p q =
    let test = every_at (is_shuffle i) (every_at (λ k. every (λ l. is_shuffle k l)) all_shuffles i p) j q in
    let word = and_parts _ _ test in
    let bits = and_parts _ _ word.1 in
    (eqb-true _ _ word.0, eqb-true _ _ bits.0, ltb-true _ _ bits.1)

-- the table at two marks
pub table_at : (i : ℕ) → i ≤ 3 → (j : ℕ) → j ≤ 3
    → get_or SHUFFLES (marks_of_two i j) 0 ≡ number_l 256 (shuffle_of i j)
table_at i p j q = (shuffle_at i j p q).0

-- ---- the places

-- each place of a shuffle is one of the eight units, or none
each_shuffled : (P : ℕ → Type 0) → ((p : ℕ) → p ≤ 7 → P p) → P 128 → (i j : ℕ) → i ≤ 3 → j ≤ 3
    → Each1 P (shuffle_of i j)
each_shuffled P unit none i j p q = Each1-all (λ k. P (place_for i j k)) (λ k. elim (cases_lt i k) [
  | inr first ↦ rw (le-leb k i first) (unit k (omega arith))
  | inl behind ↦ elim (cases_lt (i + 1 + j) k) [
    | inr second ↦ rw (lt-leb k i behind, le-leb k (i + 1 + j) second) (unit (4 + (k - (i + 1))) (omega arith))
    | inl above ↦ rw (lt-leb k i behind, lt-leb k (i + 1 + j) above) none
  ]
]) (0 ∷ 1 ∷ 2 ∷ 3 ∷ 4 ∷ 5 ∷ 6 ∷ 7 ∷ [])

-- the places of a shuffle, and those of another moved by eight
abbrev both_shuffles : ℕ → ℕ → ℕ → ℕ → List ℕ
both_shuffles i j k l = shuffle_of i j ++ map (λ place. 8 + place) (shuffle_of k l)

-- the number of two words, as the code adds them
abbrev pub joined_words : ℕ → ℕ → ℕ
joined_words p q = number_l 18446744073709551616
    ((p + 0) % 18446744073709551616 ∷ (q + 578721382704613384) % 18446744073709551616 ∷ [])

module _ (p q i j k l : ℕ) (is : i ≤ 3) (js : j ≤ 3) (ks : k ≤ 3) (ls : l ≤ 3)
    (p_is : p ≡ number_l 256 (shuffle_of i j)) (q_is : q ≡ number_l 256 (shuffle_of k l)) where
  -- a fact about each place of both
  each_of_both : (P : ℕ → Type 0) → ((x : ℕ) → x ≤ 15 → P x) → P 128 → P (8 + 128) → Each1 P (both_shuffles i j k l)
  each_of_both P unit none past =
      Each1-append P (shuffle_of i j) (map (λ place. 8 + place) (shuffle_of k l))
      (each_shuffled P (λ x few. unit x (omega arith)) none i j is js)
      (each_shuffled (λ x. P (8 + x)) (λ x few. unit (8 + x) (omega arith)) past k l ks ls)

  -- the bytes of the number are those of both words
  places_split : digits_l 256 16 (joined_words p q) ≡ both_shuffles i j k l
  places_split =
      let moved = map (λ place. 8 + place) (shuffle_of k l) in
      let low = number_of-lt 256 (shuffle_of i j)
      (each_shuffled (λ x. x < 256) (λ x few. omega arith) (omega arith) i j is js) in
      let high = number_of-lt 256 moved
      (each_shuffled (λ x. 8 + x < 256) (λ x few. omega arith) (omega arith) k l ks ls) in
      let more = number_l-more 8 (shuffle_of k l) in
      let first : (p + 0) % 18446744073709551616 ≡ number_l 256 (shuffle_of i j) = omega arith in
      let second : (q + 578721382704613384) % 18446744073709551616 + 18446744073709551616 * 0 ≡ number_l 256 moved =
      omega arith in
      ap (digits_l 256 16) ((λ n. first n + 18446744073709551616 * second n)
      ∙ sym (number_of-append 256 (shuffle_of i j) moved))
      ∙ digits-number 256 16 (both_shuffles i j k l) refl
      (each_of_both (λ x. x < 256) (λ x few. omega arith) (omega arith) (omega arith))

  -- the places pass the test of `swizzle_dyn`
  shuffle_ok : SwzOk w8 16 16 0 (digits_l 256 16 (joined_words p q))
  shuffle_ok =
      subst (λ xs. SwzOk w8 16 16 0 xs) (sym places_split)
      (SwzOk-from_Each1 w8 16 1 16 0 (both_shuffles i j k l) (omega arith) (omega arith)
      (each_of_both (λ x. T (zeroes 16 w8 x || ltb x 16)) (λ x few. unit (leb 128 x) (ltb x 16)
      (lt-ltb x 16 (omega arith))) tt tt))
    where
      unit : (p q : Bool) → q ≡ true → T (p || q)
      unit true q e = tt
      unit false q e = rw e tt

  -- the shuffle brings the units at its places
  shuffled : (units : List ℕ) → swz_l w8 16 units 0 (digits_l 256 16 (joined_words p q))
      ≡ map (lane units) (both_shuffles i j k l)
  shuffled units = ap (swz_l w8 16 units 0) places_split
      ∙ lanes_brought units 0 (both_shuffles i j k l) (omega arith)

-- ---- the result of a shuffle

-- a shuffle brings the units of two numbers together
abbrev IsGathered : (ℕ → ℕ) → ℕ → ℕ → Type 0
IsGathered f i j = take (i + j + 2) (map f (shuffle_of i j))
    ≡ take (suc i) (f 0 ∷ f 1 ∷ f 2 ∷ f 3 ∷ []) ++ take (suc j) (f 4 ∷ f 5 ∷ f 6 ∷ f 7 ∷ [])

gathered : (f : ℕ → ℕ) (i : ℕ) → i ≤ 3 → (j : ℕ) → j ≤ 3 → IsGathered f i j
gathered f = four_cases (OfTwo (IsGathered f))
    (four_cases (IsGathered f 0) refl refl refl refl)
    (four_cases (IsGathered f 1) refl refl refl refl)
    (four_cases (IsGathered f 2) refl refl refl refl)
    (four_cases (IsGathered f 3) refl refl refl refl)

-- ==== Four numbers spelled by a shuffle of their units.

-- the mask of comparing sixteen units with a bound
abbrev pub mask_from : ℕ → List ℕ → ℕ
mask_from bound units = mask_l
    (map (top 7) (zip2 (λ x y. cond (leb x y) (2 ^ 8 - 1) 0) (replicate 16 bound) units))
    % 18446744073709551616

-- a number of sixteen bits as four groups of four bits
in_fours : (w x y z : ℕ) → w + 16 * (x + 16 * (y + 16 * z)) ≡ (w + 16 * x) + 256 * (y + 16 * z)
in_fours w x y z = omega arith

module _ (base radix a b c d : ℕ) (alphabet : IsRadix radix) (p : a < radix ^ 4)
    (q : b < radix ^ 4) (r : c < radix ^ 4) (s : d < radix ^ 4) where
  one : 1 ≤ radix
  one = elim alphabet [ inl e ↦ omega arith | inr e ↦ omega arith ]

  two : 2 ≤ radix
  two = elim alphabet [ inl e ↦ omega arith | inr e ↦ omega arith ]

  -- how many groups of a number say that more follow
  abbrev more_of : ℕ → ℕ
  more_of n = groups_after radix 3 n

  few : (n : ℕ) → more_of n ≤ 3
  few n = few_groups radix 3 n

  abbrev low_marks : ℕ
  low_marks = marks_of_two (more_of a) (more_of b)

  abbrev high_marks : ℕ
  high_marks = marks_of_two (more_of c) (more_of d)

  -- the marks of all four numbers
  all_marks : mask_l (map (λ u. leb (base + radix) u) (units_of_four base radix a b c d)) ≡ low_marks + 256 * high_marks
  all_marks =
      let marked = λ (n : ℕ). map (λ u. leb (base + radix) u) (lane_units base radix n) in
      mask_l-append (marked a) (marked b ++ (marked c ++ marked d))
      ∙ ap (λ x. mask_l (marked a) + 16 * x) (mask_l-append (marked b) (marked c ++ marked d)
      ∙ ap (λ x. mask_l (marked b) + 16 * x) (mask_l-append (marked c) (marked d)))
      ∙ rw (
        marks_are base radix 3 a one p,
        marks_are base radix 3 b one q,
        marks_are base radix 3 c one r,
        marks_are base radix 3 d one s,
      )
      (in_fours (2 ^ more_of a - 1) (2 ^ more_of b - 1) (2 ^ more_of c - 1) (2 ^ more_of d - 1))

  -- the marks of four numbers, as the code reads them
  marks_read : (units : List ℕ) → units ≡ units_of_four base radix a b c d
      → mask_from (base + radix) units ≡ low_marks + 256 * high_marks
  marks_read units is =
      let compared = tops_compared w8 leb (replicate 16 (base + radix)) (units_of_four base radix a b c d) in
      let each = zip2_splat_left leb (base + radix) 16 (units_of_four base radix a b c d) refl in
      let mask : mask_l (map (top 7) (zip2 (λ x y. cond (leb x y) (2 ^ 8 - 1) 0)
      (replicate 16 (base + radix)) (units_of_four base radix a b c d))) ≡ low_marks + 256
      * high_marks =
      ap mask_l (compared ∙ each) ∙ all_marks in
      let low = (shuffle_at (more_of a) (more_of b) (few a) (few b)).2 in
      let high = (shuffle_at (more_of c) (more_of d) (few c) (few d)).2 in
      ap (mask_from (base + radix)) is ∙ ap (λ x. x % 18446744073709551616) mask
      ∙ (let small : (low_marks + 256 * high_marks) % 18446744073709551616 ≡ low_marks + 256
      * high_marks = omega arith in small)

  module _ (units : List ℕ) (units_are : units ≡ units_of_four base radix a b c d) where
    low_is : mask_from (base + radix) units % 256 ≡ low_marks
    low_is =
        let low = (shuffle_at (more_of a) (more_of b) (few a) (few b)).2 in
        omega (arith, marks_read units units_are)

    high_is : mask_from (base + radix) units / 256 ≡ high_marks
    high_is =
        let low = (shuffle_at (more_of a) (more_of b) (few a) (few b)).2 in
        omega (arith, marks_read units units_are)

    -- the marks of the last two numbers are eight bits
    pub high_small : mask_from (base + radix) units / 256 < 256
    high_small = let high = (shuffle_at (more_of c) (more_of d) (few c) (few d)).2 in omega (arith, high_is)

    module _ (x y : ℕ)
        (low_found : (i j : ℕ) → i ≤ 3 → j ≤ 3 → mask_from (base + radix) units % 256
        ≡ marks_of_two i j → x ≡ number_l 256 (shuffle_of i j))
        (high_found : (i j : ℕ) → i ≤ 3 → j ≤ 3 → mask_from (base + radix) units / 256
        ≡ marks_of_two i j → y ≡ number_l 256 (shuffle_of i j)) where
      x_is : x ≡ number_l 256 (shuffle_of (more_of a) (more_of b))
      x_is = low_found (more_of a) (more_of b) (few a) (few b) low_is

      y_is : y ≡ number_l 256 (shuffle_of (more_of c) (more_of d))
      y_is = high_found (more_of c) (more_of d) (few c) (few d) high_is

      -- the shuffle's places pass its test
      pub may_shuffle : SwzOk w8 16 16 0 (digits_l 256 16 (joined_words x y))
      may_shuffle = shuffle_ok x y (more_of a) (more_of b) (more_of c) (more_of d) (few a) (few b)
          (few c) (few d) x_is y_is

      -- the shuffle spells the four numbers
      pub four_spelled : AreSpelled (unit_over base radix) radix a b c d
          (swz_l w8 16 units 0 (digits_l 256 16 (joined_words x y)))
          (count_ones (mask_from (base + radix) units % 256) + 2)
          (count_ones (mask_from (base + radix) units / 256) + 2)
      four_spelled =
          let four = units_of_four base radix a b c d in
          let low : count_ones (mask_from (base + radix) units % 256) + 2 ≡ more_of a + more_of b + 2 =
          ap (λ m. count_ones m + 2) low_is ∙ ap (λ n. n + 2) (shuffle_at (more_of a) (more_of b) (few a) (few b)).1 in
          let high : count_ones (mask_from (base + radix) units / 256) + 2 ≡ more_of c + more_of d + 2 =
          ap (λ m. count_ones m + 2) high_is ∙ ap (λ n. n + 2) (shuffle_at (more_of c) (more_of d) (few c) (few d)).1 in
          let brought : swz_l w8 16 units 0 (digits_l 256 16 (joined_words x y))
          ≡ map (lane four) (both_shuffles (more_of a) (more_of b) (more_of c) (more_of d)) =
          ap (λ us. swz_l w8 16 us 0 (digits_l 256 16 (joined_words x y))) units_are
          ∙ shuffled x y (more_of a) (more_of b) (more_of c) (more_of d) (few a) (few b) (few c) (few d)
          x_is y_is four in
          record {
            few_low = omega (arith, low, few a, few b);
            few_high = omega (arith, high, few c, few d);
            first_two =
                (λ i. take (low i) (take 8 (brought i)))
                ∙ gathered (lane four) (more_of a) (few a) (more_of b) (few b)
                ∙ (λ i. units_spell base radix 3 a two p i ++ units_spell base radix 3 b two q i);
            last_two =
                (λ i. take (high i) (take 8 (drop 8 (brought i))))
                ∙ gathered (λ place. lane four (8 + place)) (more_of c) (few c) (more_of d) (few d)
                ∙ (λ i. units_spell base radix 3 c two r i ++ units_spell base radix 3 d two s i);
          }

-- Units that spell four numbers over base 0 are four varints.
pub spelled_varints : {a b c d low high : ℕ} (units : List ℕ)
    → AreSpelled (unit_over 0 128) 128 a b c d units low high
    → AreSpelled leb_unit 128 a b c d units low high
spelled_varints {a = a} {b = b} {c = c} {d = d} {low = low} {high = high} units are =
    subst (λ unit. AreSpelled unit 128 a b c d units low high)
    (λ i d more. sym (leb_numbered.units d more) i) are
