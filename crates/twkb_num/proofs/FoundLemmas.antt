-- Numbers found among units by the marks of their last units: one, two and four at once.
use mathlib.Core.Bool.{cond}
use lib.Lanes.{mask_l, number_l, digits_l, Each1}
use Rattle.std.proofs.Common.{◌≡◌, ℕ, zero, suc, ◌+◌, ◌*◌, ◌%◌, ◌<◌, ◌^◌, ◌==◌, Bool, true, false, ◌&&◌, List, []}
use Rattle.std.proofs.Common.{◌∷◌, ◌++◌, length, take, drop, get_or, refl, sym, ◌∙◌, ap, arith, ◌/◌, inl, inr, ◌-◌}
use Rattle.std.proofs.Common.{◌≤◌, map, le-ltb, ◌⊎◌, subst, append-nil, append_assoc}
use Rattle.std.specs.Prelude.{nat_lt, if◌then◌else◌, nat_eq}
use Rattle.std.proofs.Math.Nat.{pow-suc, mod-eq_of_lt, mul-le-mul_left, mul_comm, pow-le-pow_right, one-le-pow}
use Rattle.std.proofs.lemmas.Bool.{and_parts, eqb-true, ltb-true, cases_lt, lt-ltb}
use Rattle.std.proofs.lemmas.List.{drop-append-le, length-drop, length-take-le, take-append-drop, take_all}
use Rattle.std.proofs.lemmas.List.{length-map, length-take, map-append, take-map, get_or-drop, drop-map, drop-drop}
use Rattle.std.proofs.lemmas.List.{drop-take}
use Rattle.std.proofs.lemmas.Simd.{mask_l-lt, mask_l-mod, swz_l, SwzOk}
use Rattle.std.proofs.lemmas.Nat.{shr-shr, mod_below, mul-le}
use Rattle.std.proofs.Math.Seq.{take-suc, get_or-take, take-take, take-add}
use Rattle.twkb_num.specs.declared.places.TheConstants.{PLACES, USED}
use Rattle.twkb_num.specs.Block.{places_in, run_of, second_run, AreTwo, units_in, AreUnits, AreEndsBefore, HasEndsOf}
use Rattle.twkb_num.specs.Block.{number_in_front, joined_groups, FourInFront, AreMarks}
use Rattle.twkb_num.proofs.SpellingLemmas.{low_digit, high_digits, shortest_one, shortest_more, number_of-append}
use Rattle.twkb_num.proofs.SpellingLemmas.{number_of-lt}
use Rattle.twkb_num.specs.Alphabet.{unit_over, IsRadix, IsNumbered}
use Rattle.twkb_num.specs.Spelling.{shortest}
use mir.Syntax.{w8}
use Rattle.twkb_num.proofs.WordLemmas.{Each1-append, places_moved, places_of, IsWithin, places_below, places_ok}
use Rattle.twkb_num.proofs.WordLemmas.{numbers_brought, same_in_front}
use Rattle.std.specs.List.{concat}
use Rattle.twkb_num.specs.declared.alphabet.Alphabet.{Alphabet}
use Rattle.twkb_num.specs.declared.block.Marks.{Marks}

-- ==== The tables of places and of lengths: each word is compared with its definition by computing.

-- the first two set marks end numbers of at most four units
abbrev is_two : List Bool → Bool
is_two marks = nat_lt (run_of marks) 4 && (nat_lt (second_run marks) 4 && nat_lt
    (suc (run_of marks + second_run marks)) (length marks))

-- the places of two numbers
abbrev two_places : List Bool → ℕ
two_places marks = number_l 256 (places_in 0 (run_of marks) ++ places_in (suc (run_of marks)) (second_run marks))

-- the word that the table needs for some marks
abbrev word_for : List Bool → ℕ
word_for marks = if is_two marks then two_places marks else 18446744073709551615

-- the test passes at each list of at most k marks
passes : ℕ → (List Bool → Bool) → Bool
passes zero test = test []
passes (suc k) test = test [] && (passes k (λ marks. test (true ∷ marks)) && passes k (λ marks. test (false ∷ marks)))

-- a test that passes at every list of at most k marks passes at one of them
passes_at : (k : ℕ) (test : List Bool → Bool) (marks : List Bool) → passes k test ≡ true
    → length marks ≤ k → test marks ≡ true
unfolding passes
passes_at zero test [] all long = all
passes_at (suc k) test [] all long = (and_parts _ _ all).0
passes_at zero test (mark ∷ marks) all long = absurd (omega arith)
passes_at (suc k) test (true ∷ marks) all long = passes_at k (λ ms. test (true ∷ ms)) marks
    (and_parts _ _ (and_parts _ _ all).1).0 (omega arith)
passes_at (suc k) test (false ∷ marks) all long = passes_at k (λ ms. test (false ∷ ms)) marks
    (and_parts _ _ (and_parts _ _ all).1).1 (omega arith)

-- the table of places has the right word for at most eight marks
table_is : passes 8 (λ marks. get_or PLACES (mask_l marks) 0 == word_for marks) ≡ true
unfolding passes
table_is = refl

-- the table of places at one index
table_word : (marks : List Bool) → length marks ≤ 8 → get_or PLACES (mask_l marks) 0 ≡ word_for marks
table_word marks long = eqb-true (get_or PLACES (mask_l marks) 0) (word_for marks)
    (passes_at 8 (λ ms. get_or PLACES (mask_l ms) 0 == word_for ms) marks table_is long)

-- the number of units that the table needs for some marks
abbrev units_for : List Bool → ℕ
units_for marks = if is_two marks then suc (suc (run_of marks + second_run marks)) else 0

-- the table of lengths has the right number for at most eight marks
used_table_is : passes 8 (λ marks. get_or USED (mask_l marks) 0 == units_for marks) ≡ true
unfolding passes
used_table_is = refl

-- the table of lengths at one index
table_units : (marks : List Bool) → length marks ≤ 8 → get_or USED (mask_l marks) 0 ≡ units_for marks
table_units marks long = eqb-true (get_or USED (mask_l marks) 0) (units_for marks)
    (passes_at 8 (λ ms. get_or USED (mask_l ms) 0 == units_for ms) marks used_table_is long)

-- ---- marks before others

-- the bits of the first marks are below those of the others
pub mask_l-append : (xs ys : List Bool) → mask_l (xs ++ ys) ≡ mask_l xs + 2 ^ length xs * mask_l ys
mask_l-append [] ys = omega arith
mask_l-append (x ∷ xs) ys =
    let rest = mask_l-append xs ys in
    let power : 2 ^ suc (length xs) ≡ 2 ^ length xs * 2 = pow-suc 2 (length xs) in
    rw (rest, power) (omega arith)

-- a shift to the right by k drops the first k marks
pub mask_l-drop : (k : ℕ) (marks : List Bool) → mask_l marks / 2 ^ k ≡ mask_l (drop k marks)
mask_l-drop (suc k) (mark ∷ marks) =
    let apart : suc k ≡ 1 + k = omega arith in
    let first : mask_l (mark ∷ marks) / 2 ^ 1 ≡ mask_l marks = half mark (mask_l marks) in
    ap (λ n. mask_l (mark ∷ marks) / 2 ^ n) apart ∙ sym (shr-shr (mask_l (mark ∷ marks)) 1 k)
    ∙ ap (λ n. n / 2 ^ k) first ∙ mask_l-drop k marks
  where
    half : (mark : Bool) (n : ℕ) → (cond mark 1 0 + 2 * n) / 2 ^ 1 ≡ n
    half true n = omega arith
    half false n = omega arith
mask_l-drop _ _ = omega arith

-- a remainder by 2 ^ k keeps the first k marks
pub mask_l-take : (k : ℕ) (marks : List Bool) → mask_l marks % 2 ^ k ≡ mask_l (take k marks)
mask_l-take k marks =
    elim (cases_lt k (length marks)) [
      | inl within ↦
          let long : length (take k marks) ≡ k = length-take-le k marks (omega arith) in
          let power : 2 ^ length (take k marks) ≡ 2 ^ k = ap (λ n. 2 ^ n) long in
          let small = mask_l-lt (take k marks) in
          let parts : mask_l marks ≡ mask_l (take k marks) + 2 ^ k * mask_l (drop k marks) =
          ap mask_l (sym (take-append-drop k marks)) ∙ mask_l-append (take k marks) (drop k marks)
          ∙ ap (λ n. mask_l (take k marks) + n * mask_l (drop k marks)) power in
          ap (λ n. n % 2 ^ k) parts ∙ low_digit (2 ^ k) (mask_l (take k marks)) (mask_l (drop k marks)) (omega arith)
      | inr beyond ↦ mask_l-mod marks k beyond ∙ ap mask_l (sym (take_all k marks beyond))
    ]

-- the first set mark is found among the first marks, if one is set there
run_of-append : (xs ys : List Bool) → run_of xs < length xs → run_of (xs ++ ys) ≡ run_of xs
run_of-append [] ys within = absurd (omega arith)
run_of-append (true ∷ xs) ys within = refl
run_of-append (false ∷ xs) ys within = ap suc (run_of-append xs ys (omega arith))

-- the second set mark is found among the first marks, if two are set there
second_run-append : (xs ys : List Bool) → suc (run_of xs + second_run xs) < length xs
    → second_run (xs ++ ys) ≡ second_run xs
second_run-append xs ys within =
    let first = run_of-append xs ys (omega arith) in
    let apart : drop (suc (run_of xs)) (xs ++ ys) ≡ drop (suc (run_of xs)) xs ++ ys = drop-append-le
    (suc (run_of xs)) xs ys (omega arith) in
    let long = length-drop (suc (run_of xs)) xs in
    ap (λ n. run_of (drop (suc n) (xs ++ ys))) first ∙ ap run_of apart
    ∙ run_of-append (drop (suc (run_of xs)) xs) ys (omega arith)

-- ---- two numbers

-- what the test of two numbers says, as facts
is_two-true : (marks : List Bool) → is_two marks ≡ true → (run_of marks < 4)
    × (second_run marks < 4) × (suc (run_of marks + second_run marks) < length marks)
is_two-true marks is =
    let outer = and_parts _ _ is in
    let inner = and_parts _ _ outer.1 in (
      ltb-true (run_of marks) 4 outer.0,
      ltb-true (second_run marks) 4 inner.0,
      ltb-true (suc (run_of marks + second_run marks)) (length marks) inner.1,
    )

-- an even word has the places of two numbers
even_word : (marks : List Bool) (word : ℕ) → word ≡ word_for marks → word % 2 ≡ 0
    → (is_two marks ≡ true) × (word ≡ two_places marks)
even_word marks word is even = by_test (is_two marks) (two_places marks) word is even
  where
    by_test : (test : Bool) (places word : ℕ) → word
        ≡ (if test then places else 18446744073709551615) → word % 2 ≡ 0 → (test ≡ true)
        × (word ≡ places)
    by_test true places word is even = (refl, is)
    by_test false places word is even = absurd (omega arith)

-- The entries of both tables for the first eight marks.
pub two_found : (marks : List Bool) (places used : ℕ)
    → places ≡ get_or PLACES (mask_l marks % 256) 0 → used ≡ get_or USED (mask_l marks % 256) 0
    → places % 2 ≡ 0 → AreTwo marks places used
two_found marks places used is used_is even =
    let front = take 8 marks in
    let rest = drop 8 marks in
    let count = length-take 8 marks in
    let few : length front ≤ 8 = omega arith in
    let whole : front ++ rest ≡ marks = take-append-drop 8 marks in
    let index : mask_l marks % 256 ≡ mask_l front = mask_l-take 8 marks in
    let two = even_word front places (is ∙ ap (λ i. get_or PLACES i 0) index ∙ table_word front few) even in
    let facts = is_two-true front two.0 in
    let used_here : used ≡ units_for front = used_is ∙ ap (λ i. get_or USED i 0) index ∙ table_units front few in
    let units : units_for front ≡ suc (suc (run_of front + second_run front)) = rw two.0 refl in
    let first : run_of front ≡ run_of marks = sym (run_of-append front rest (omega arith)) ∙ ap run_of whole in
    let second : second_run front ≡ second_run marks = sym (second_run-append front rest facts.2)
    ∙ ap second_run whole in
    record {
      first_short = omega (arith, first);
      second_short = omega (arith, second);
      used_is = omega (arith, first, second);
      within = omega (arith, first, second, facts.2);
      places_are = two.1 ∙ (λ i. number_l 256 (places_in 0 (first i) ++ places_in (suc (first i)) (second i)));
    }

-- ==== The ends of a block include those of all units before a fault, among the first 63.

-- adding the base to units and subtracting it again gives the units
units_back : (base bound : ℕ) (us : List ℕ) → bound + base ≤ 256 → ((k : ℕ) → get_or us k 0 < bound)
    → units_in base (map (λ u. u + base) us) ≡ us
units_back base bound [] room below = refl
units_back base bound (u ∷ us) room below =
    let first : u < bound = below 0 in
    let same : ((u + base) + (2 ^ 8 - base)) % 2 ^ 8 ≡ u = omega arith in
    rw same (ap (λ vs. u ∷ vs) (units_back base bound us room (λ k. below (suc k))))

-- units that the bytes begin with are the first units of a block
units_first : (base radix n ends : ℕ) (bytes us : List ℕ) → 2 * radix + base ≤ 256 → length us ≤ n
    → AreUnits base radix bytes us ends → us ≡ take (length us) (units_in base (take n bytes))
units_first base radix n ends bytes us room few are =
    let count = length us in
    let unit = λ (b : ℕ). (b + (2 ^ 8 - base)) % 2 ^ 8 in
    sym (units_back base (2 * radix) us room are.below)
    ∙ ap (units_in base) (sym are.same)
    ∙ ap (units_in base) (sym (take-take count n bytes few))
    ∙ sym (take-map unit count (take n bytes))

-- a unit after which more follow adds no end
no_end_more : (radix k : ℕ) (us : List ℕ) → k < length us → radix ≤ get_or us k 0
    → mask_l (map (λ u. nat_lt u radix) (take k us)) ≡ mask_l
    (map (λ u. nat_lt u radix) (take (suc k) us))
no_end_more radix k us within goes_on =
    let ends = λ (u : ℕ). nat_lt u radix in
    let last : ends (get_or us k 0) ≡ false = le-ltb (get_or us k 0) radix goes_on in
    let joined = mask_l-append (map ends (take k us)) (false ∷ []) in
    let split = ap (map ends) (take-suc us k 0 within)
    ∙ map-append ends (take k us) (get_or us k 0 ∷ [])
    ∙ ap (λ b. map ends (take k us) ++ (b ∷ [])) last in
    sym (ap mask_l split ∙ joined ∙ omega arith)

-- a block's ends are the ends of any units that the bytes begin with
pub ends_reach : (base radix most n ends : ℕ) (bytes : List ℕ) → most + 1 ≡ 2 * radix
    → most + base < 256 → 63 < n → n ≤ length bytes
    → AreEndsBefore radix most (units_in base (take n bytes)) ends
    → HasEndsOf 63 base radix bytes ends
ends_reach base radix most n ends bytes bound room long within before us marks are few =
    let count = length us in
    let all = units_in base (take n bytes) in
    let is_end = λ (u : ℕ). nat_lt u radix in
    let first : us ≡ take count all = units_first base radix n marks bytes us (omega arith) (omega arith) are in
    let all_long : length all ≡ n = length-map (take n bytes)
    (λ (b : ℕ). (b + (2 ^ 8 - base)) % 2 ^ 8) ∙ length-take-le n bytes within in
    let unit = λ (k : ℕ) (low : k < count). ap (λ vs. get_or vs k 0) first ∙ get_or-take count all k 0 low in
    let cut : ends % 2 ^ count ≡ mask_l (map is_end (take count (take before.count all))) =
    ap (λ n. n % 2 ^ count) before.marks ∙ mask_l-take count (map is_end (take before.count all))
    ∙ ap mask_l (take-map is_end count (take before.count all)) in
    let told : mask_l (map is_end (take count all)) ≡ marks = ap (λ vs. mask_l (map is_end vs))
    (sym first) ∙ sym are.marks in
    elim (cases_lt before.count count) [
      | inr reaches ↦ cut ∙ ap (λ vs. mask_l (map is_end vs)) (take-take count before.count all reaches) ∙ told
      | inl short ↦
          let here : get_or us before.count 0 ≡ get_or all before.count 0 = unit before.count short in
          elim (before.far (omega arith)) [
            | inl outside ↦ let small = are.below before.count in absurd (omega arith)
            | inr padded ↦
                let last : count ≡ suc before.count = elim (cases_lt (suc before.count) count) [
                  | inl more ↦
                      let next : get_or us (suc before.count) 0 ≡ get_or all (suc before.count) 0 =
                      unit (suc before.count) more in
                      let ended = are.shortest before.count more (next ∙ padded.1) in
                      absurd (omega (arith, ended, here, padded.2))
                  | inr no_more ↦ omega arith
                ] in
                let whole : take count (take before.count all) ≡ take before.count all =
                take_all count (take before.count all) (omega
                (arith, length-take before.count all)) in
                cut
                ∙ ap (λ vs. mask_l (map is_end vs)) whole
                ∙ no_end_more radix before.count all (omega arith) padded.2
                ∙ ap (λ k. mask_l (map is_end (take k all))) (sym last)
                ∙ told
          ]
    ]

-- ==== The number that units stand for, and that they are its shortest spelling.

-- the marks of units: one for each unit that ends a number
abbrev pub marks_of : ℕ → List ℕ → List Bool
marks_of radix us = map (λ u. nat_lt u radix) us

-- a number whose last unit is above 0 is above 0
number_above : (radix : ℕ) (us : List ℕ) → 1 ≤ radix → run_of (marks_of radix us) < length us
    → 0 < get_or us (run_of (marks_of radix us)) 0
    → 0 < number_in_front radix (run_of (marks_of radix us)) us
number_above radix [] p h above = absurd (omega arith)
number_above radix (u ∷ us) p h above =
    elim (cases_lt u radix) [
      | inl small ↦
          let last = lt-ltb u radix small in
          let first = rw last at above in
          rw (last, mod-eq_of_lt small) first
      | inr large ↦
          let goes_on = le-ltb u radix large in
          let within = rw goes_on at h in
          let later = rw goes_on at above in
          let rest = number_above radix us p (omega arith) later in
          let product : radix * 1 ≤ radix * number_in_front radix (run_of (marks_of radix us)) us =
          mul-le-mul_left radix rest in
          rw goes_on (omega arith)
    ]

-- Units up to the first that ends a number are the shortest spelling of their number, unless the
-- last is a 0 after others.
pub number_spelled : (base radix : ℕ) (us : List ℕ) → 2 ≤ radix → ((k : ℕ) → get_or us k 0 < 2 * radix)
    → run_of (marks_of radix us) < length us → (0 < run_of (marks_of radix us)
    → 0 < get_or us (run_of (marks_of radix us)) 0)
    → map (λ u. u + base) (take (suc (run_of (marks_of radix us))) us) ≡ shortest
    (unit_over base radix) radix (number_in_front radix (run_of (marks_of radix us)) us)
number_spelled base radix [] p below h above = absurd (omega arith)
number_spelled base radix (u ∷ us) p below h above =
    elim (cases_lt u radix) [
      | inl small ↦
          let last = lt-ltb u radix small in
          rw (last, mod-eq_of_lt small) (sym (shortest_one (unit_over base radix) radix u small))
      | inr large ↦
          let goes_on = le-ltb u radix large in
          let within = rw goes_on at h in
          let later = rw goes_on at above in
          let last_above = later (omega arith) in
          let n = number_in_front radix (run_of (marks_of radix us)) us in
          let positive : 0 < n = number_above radix us (omega arith) (omega arith) last_above in
          let rest = number_spelled base radix us p (λ k. below (suc k)) (omega arith) (λ _. last_above) in
          let product : radix * 1 ≤ radix * n = mul-le-mul_left radix positive in
          let bound : u < 2 * radix = below 0 in
          let small : u % radix < radix = mod_below u radix (omega arith) in
          let one : u - radix + radix * 1 ≡ u = omega arith in
          let low : u % radix ≡ u - radix = ap (λ x. x % radix) (sym one)
          ∙ low_digit radix (u - radix) 1 (omega arith) in
          let digit : u % radix + radix ≡ u = omega arith in
          let more = shortest_more (unit_over base radix) radix (u % radix + radix * n) p (omega arith) in
          let joined = rw (low_digit radix (u % radix) n small, high_digits radix (u % radix) n small) at more in
          rw (goes_on, joined, digit) (ap (λ xs. (u + base) ∷ xs) rest)
    ]

-- ==== Four numbers by the marks of their last units.

-- the first two numbers, and the two after them; all four, after `skipped` units, are among sixteen
pub record AreTwice (marks : List Bool) (skipped places used later_places later_used : ℕ) : Type 0 where
  pub low : AreTwo marks places used
  pub high : AreTwo (drop used marks) later_places later_used
  pub within : used + later_used ≤ length marks
  pub window : skipped + (used + later_used) ≤ 16

-- the end bits give the first two numbers, and the shifted bits the next two; if bytes are skipped
-- there are just sixteen
pub twice_found : {base radix skipped : ℕ} (bytes : List ℕ) {us : List ℕ}
    {ends places used later_places later_used : ℕ}
    → (skipped ≡ 0) ⊎ (length bytes ≡ 16) → AreUnits base radix (drop skipped bytes) us ends
    → ((marks : List Bool) → ends ≡ mask_l marks → AreTwo marks places used)
    → ((marks : List Bool) → ends / 2 ^ used ≡ mask_l marks → AreTwo marks later_places later_used)
    → AreTwice (marks_of radix us) skipped places used later_places later_used
twice_found {radix = radix} {skipped = skipped} bytes {us = us} {used = used} {later_used = later_used}
    loaded read first later =
    let marks = marks_of radix us in
    let low = first marks read.marks in
    let high = later (drop used marks) (ap (λ n. n / 2 ^ used) read.marks ∙ mask_l-drop used marks) in
    let within : used + later_used ≤ length marks = omega
    (arith, low.within, high.within, length-drop used marks) in
    let few : used + later_used ≤ 16 = omega (
      arith,
      low.used_is,
      low.first_short,
      low.second_short,
      high.used_is,
      high.first_short,
      high.second_short,
    ) in
    record {
      low = low;
      high = high;
      within = within;
      window = elim loaded [
        | inl none ↦ omega arith
        | inr sixteen ↦ omega (
          arith,
          within,
          low.used_is,
          read.within,
          length-drop skipped bytes,
          length-map us (λ u. nat_lt u radix),
        )
      ];
    }

-- two numbers from `at` on, each by the place of its first unit and by how many units it has after that
abbrev pub two_at : ℕ → List Bool → List (ℕ × ℕ)
two_at at marks = (at, run_of marks) ∷ (at + suc (run_of marks), second_run marks) ∷ []

-- two numbers from `at` on, and two more after their `used` units
abbrev pub four_at : ℕ → ℕ → List Bool → List (ℕ × ℕ)
four_at at used marks = two_at at marks ++ two_at (at + used) (drop used marks)

-- two numbers that end among sixteen units are among them
two_within : (at : ℕ) (marks : List Bool) (places used : ℕ) → AreTwo marks places used → at + used ≤ 16
    → Each1 IsWithin (two_at at marks)
two_within at marks places used two within =
    let count = two.used_is in
    ((omega arith, two.first_short), ((omega arith, two.second_short), tt))

module _ (marks : List Bool) (skipped places used later_places later_used : ℕ)
    (twice : AreTwice marks skipped places used later_places later_used) where
  -- all four numbers are among sixteen units
  pub four_within : Each1 IsWithin (four_at skipped used marks)
  four_within = Each1-append IsWithin (two_at skipped marks) (two_at (skipped + used) (drop used marks))
      (two_within skipped marks places used twice.low (omega (arith, twice.window)))
      (two_within (skipped + used) (drop used marks) later_places later_used twice.high (omega (arith, twice.window)))

-- ---- the places of all four

-- the places of two numbers, moved by the units before them
moved_places_are : (marks : List Bool) (at moved places used : ℕ) → moved ≡ at → AreTwo marks places used
    → places + moved * 72340172838076673 ≡ number_l 256 (places_of (two_at at marks))
moved_places_are marks at moved places used same two =
    let none : at + 0 ≡ at = omega arith in
    rw (same, two.places_are)
    (places_moved at 0 (suc (run_of marks)) (run_of marks) (second_run marks)
    ∙ ap (λ k. number_l 256 (places_of ((k, run_of marks) ∷ (at + suc (run_of marks), second_run marks) ∷ []))) none)

-- the moved places of two numbers fit their bytes if the numbers are within sixteen units
pub moved_places_below : (marks : List Bool) (at moved places used : ℕ) → moved ≡ at
    → AreTwo marks places used → at + used ≤ 16 → places + moved * 72340172838076673 < 18446744073709551616
moved_places_below marks at moved places used same two within =
    let below = number_of-lt 256 (places_of (two_at at marks))
    (places_below (two_at at marks) (two_within at marks places used two within)) in
    omega (arith, moved_places_are marks at moved places used same two)

-- the number of all sixteen bytes
abbrev pub both_places : ℕ → ℕ → ℕ → ℕ → ℕ
both_places places by later_places moved = number_l 18446744073709551616
    ((places + by * 72340172838076673) ∷ (later_places + moved * 72340172838076673) ∷ [])

-- sixteen lanes are bytes, and after the first `skipped` they are these units
pub record AreLanes (lanes : List ℕ) (skipped : ℕ) (us : List ℕ) : Type 0 where
  pub count : length lanes ≡ 16
  pub fit : (k : ℕ) → get_or lanes k 0 < 256
  pub same : (k : ℕ) → skipped + k < 16 → k < length us → get_or lanes (skipped + k) 0 ≡ get_or us k 0

-- the lanes give the number of these units
lanes_tell : (radix skipped at place more : ℕ) (lanes us : List ℕ) → AreLanes lanes skipped us
    → place ≡ skipped + at → place + more ≤ 15 → at + more < length us
    → number_in_front radix more (drop place lanes) ≡ number_in_front radix more (drop at us)
lanes_tell radix skipped at place more lanes us are place_is within fits =
    same_in_front radix more more (drop place lanes) (drop at us) (omega arith)
    (λ k few. get_or-drop place lanes k 0
    ∙ ap (λ n. get_or lanes n 0) (let e : place + k ≡ skipped + (at + k) = omega arith in e)
    ∙ are.same (at + k) (omega arith) (omega arith) ∙ sym (get_or-drop at us k 0))
    (λ k few above. absurd (omega arith))

module _ (marks : List Bool) (skipped by places used moved later_places later_used : ℕ)
    (first_same : by ≡ skipped) (same : moved ≡ skipped + used)
    (twice : AreTwice marks skipped places used later_places later_used) where
  -- the two words hold the places of the four numbers, which begin after `skipped` units
  four_places : both_places places by later_places moved ≡ number_l 256 (places_of (four_at skipped used marks))
  four_places =
      rw (
        moved_places_are marks skipped by places used first_same twice.low,
        moved_places_are (drop used marks) (skipped + used) moved later_places later_used same twice.high,
      )
      (sym (number_of-append 256 (places_of (two_at skipped marks))
      (places_of (two_at (skipped + used) (drop used marks))) ∙ omega arith))

  -- the sixteen places pass the test of `swizzle_dyn`
  pub four_places_ok : SwzOk w8 16 16 0 (digits_l 256 16 (both_places places by later_places moved))
  four_places_ok = places_ok (both_places places by later_places moved) (four_at skipped used marks) refl
      (four_within marks skipped places used later_places later_used twice) four_places

  -- The groups at the places found are those of the four numbers.
  pub numbers_found : (radix : ℕ) (lanes us : List ℕ) → IsRadix radix → AreLanes lanes skipped us
      → length marks ≡ length us
      → map (joined_groups radix) (digits_l 4294967296 4
      (number_l 256 (swz_l w8 16 lanes 0 (digits_l 256 16 (both_places places by later_places moved)))))
      ≡ map (λ n. number_in_front radix n.1 (drop n.0 us)) (four_at 0 used marks)
  numbers_found radix lanes us alphabet are long =
      let first = run_of marks in
      let third = run_of (drop used marks) in
      let tell = λ (at place more : ℕ). lanes_tell radix skipped at place more lanes us are in
      let low_used = twice.low.used_is in
      let high_used = twice.high.used_is in
      let within = twice.within in
      let window = twice.window in
      numbers_brought radix lanes (both_places places by later_places moved) (four_at skipped used marks) alphabet
      are.fit refl refl (four_within marks skipped places used later_places later_used twice) four_places
      ∙ (λ i. tell 0 skipped first (omega arith) (omega arith) (omega arith) i
      ∷ tell (0 + suc first) (skipped + suc first) (second_run marks) (omega arith) (omega arith) (omega arith) i
      ∷ tell (0 + used) (skipped + used) third (omega arith) (omega arith) (omega arith) i
      ∷ tell (0 + used + suc third) (skipped + used + suc third) (second_run (drop used marks)) (omega arith)
      (omega arith) (omega arith) i ∷ [])

-- ==== Four numbers found among units.

-- units before the first that ends a number say that more follow
before_run : (radix : ℕ) (us : List ℕ) (k : ℕ) → k < run_of (marks_of radix us) → radix ≤ get_or us k 0
before_run radix [] k h = absurd (omega arith)
before_run radix (u ∷ us) zero h =
    elim (cases_lt u radix) [
      | inl small ↦ let none = rw (lt-ltb u radix small) at h in absurd (omega arith)
      | inr large ↦ large
    ]
before_run radix (u ∷ us) (suc k) h =
    elim (cases_lt u radix) [
      | inl small ↦ let none = rw (lt-ltb u radix small) at h in absurd (omega arith)
      | inr large ↦ let more = rw (le-ltb u radix large) at h in before_run radix us k (omega arith)
    ]

-- the number of four groups has at most 28 bits
number_below : (radix more : ℕ) (us : List ℕ) → 1 ≤ radix → radix ≤ 128 → number_in_front radix more us < 128 ^ suc more
number_below radix more [] p q = one-le-pow (suc more) 128 (omega arith)
number_below radix zero (u ∷ us) p q = let digit : u % radix < radix = mod_below u radix p in omega arith
number_below radix (suc more) (u ∷ us) p q =
    let rest = number_below radix more us p q in
    let digit : u % radix < radix = mod_below u radix p in
    let product : radix * number_in_front radix more us ≤ 128 * number_in_front radix more us =
    mul-le radix (number_in_front radix more us) 128 (number_in_front radix more us) q
    (omega arith) in
    rw (pow-suc 128 (suc more)) (omega arith)

-- a number of at most four units has at most 28 bits
pub number_small : (radix more : ℕ) (us : List ℕ) → (radix ≡ 128) ⊎ (radix ≡ 32) → more ≤ 3
    → number_in_front radix more us < 2 ^ 28
number_small radix more us alphabet short =
    let above : 1 ≤ radix = elim alphabet [ inl e ↦ omega arith | inr e ↦ omega arith ] in
    let within : radix ≤ 128 = elim alphabet [ inl e ↦ omega arith | inr e ↦ omega arith ] in
    let power : 128 ^ suc more ≤ 128 ^ 4 = pow-le-pow_right {n = 128} (omega arith)
    (let q : suc more ≤ 4 = omega arith in q) in
    omega (arith, number_below radix more us above within)

-- ---- one number among the units

-- the units from `at` to the next that ends a number spell it
spelled_at : (base radix at : ℕ) (bytes us : List ℕ) (ends more : ℕ) → IsRadix radix
    → AreUnits base radix bytes us ends → more ≡ run_of (drop at (marks_of radix us)) → at + more < length us
    → map (λ u. u + base) (take (suc more) (drop at us))
    ≡ shortest (unit_over base radix) radix (number_in_front radix more (drop at us))
spelled_at base radix at bytes us ends more alphabet read more_is within =
    let p : 2 ≤ radix = elim alphabet [ inl e ↦ omega arith | inr e ↦ omega arith ] in
    let rest = drop at us in
    let run : more ≡ run_of (marks_of radix rest) = more_is ∙ ap run_of (drop-map (λ u. nat_lt u radix) at us) in
    let long : length rest ≡ length us - at = length-drop at us in
    let below : (k : ℕ) → get_or rest k 0 < 2 * radix = λ k.
    omega (arith, get_or-drop at us k 0, read.below (at + k)) in
    let last : 0 < run_of (marks_of radix rest) → 0 < get_or rest (run_of (marks_of radix rest)) 0 =
    λ some. last_at base radix at bytes us ends more read run within (omega arith) in
    rw run (number_spelled base radix rest p below (omega arith) last)
  where
    last_at : (base radix at : ℕ) (bytes us : List ℕ) (ends more : ℕ)
        → AreUnits base radix bytes us ends → more ≡ run_of (marks_of radix (drop at us))
        → at + more < length us → 0 < more → 0 < get_or (drop at us) (run_of (marks_of radix (drop at us))) 0
    last_at base radix at bytes us ends zero read run within some = absurd (omega arith)
    last_at base radix at bytes us ends (suc more) read run within some =
        elim (cases_lt 0 (get_or us (suc (at + more)) 0)) [
          | inl above ↦
              let place : at + suc more ≡ suc (at + more) = omega arith in
              let same = get_or-drop at us (suc more) 0 in
              let there = rw place at same in
              rw (sym run) (omega arith)
          | inr none ↦
              let is_zero : get_or us (suc (at + more)) 0 ≡ 0 = omega arith in
              let ended = read.shortest (at + more) (omega arith) is_zero in
              let goes_on = before_run radix (drop at us) more (omega arith) in
              let same = get_or-drop at us more 0 in
              absurd (omega arith)
        ]

-- numbers follow one another from `at` to `end`: each has the units up to its mark
AreRuns : List Bool → ℕ → List (ℕ × ℕ) → ℕ → Type 0
AreRuns marks at [] end = at ≡ end
AreRuns marks at (n ∷ ns) end = (at ≡ n.0) × (n.1 ≡ run_of (drop n.0 marks)) × AreRuns marks (n.0 + suc n.1) ns end

-- they end after their beginning
runs_end : (marks : List Bool) (at : ℕ) (ns : List (ℕ × ℕ)) (end : ℕ) → AreRuns marks at ns end → at ≤ end
unfolding AreRuns
runs_end marks at [] end runs = omega arith
runs_end marks at (n ∷ ns) end runs = omega (arith, runs.0, runs_end marks (n.0 + suc n.1) ns end runs.2)

-- their units spell them
runs_spelled : (base radix : ℕ) (bytes us : List ℕ) (ends at : ℕ) (ns : List (ℕ × ℕ)) (end : ℕ) → IsRadix radix
    → AreUnits base radix bytes us ends → AreRuns (marks_of radix us) at ns end → end ≤ length us
    → map (λ u. u + base) (take end us) ≡ map (λ u. u + base) (take at us)
    ++ concat (map (λ n. shortest (unit_over base radix) radix (number_in_front radix n.1 (drop n.0 us))) ns)
unfolding AreRuns
runs_spelled base radix bytes us ends at [] end alphabet read runs within =
    ap (λ k. map (λ u. u + base) (take k us)) (sym runs) ∙ sym (append-nil (map (λ u. u + base) (take at us)))
runs_spelled base radix bytes us ends at (n ∷ ns) end alphabet read runs within =
    let character = λ (u : ℕ). u + base in
    let next = runs_end (marks_of radix us) (n.0 + suc n.1) ns end runs.2 in
    let spelled = λ (m : ℕ × ℕ). shortest (unit_over base radix) radix (number_in_front radix m.1 (drop m.0 us)) in
    runs_spelled base radix bytes us ends (n.0 + suc n.1) ns end alphabet read runs.2 within
    ∙ ap (λ cs. cs ++ concat (map spelled ns)) (ap (map character) (take-add n.0 (suc n.1) us)
    ∙ map-append character (take n.0 us) (take (suc n.1) (drop n.0 us))
    ∙ ap (λ cs. map character (take n.0 us) ++ cs)
    (spelled_at base radix n.0 bytes us ends n.1 alphabet read runs.1 (omega arith)))
    ∙ append_assoc (map character (take n.0 us)) (spelled n) (concat (map spelled ns))
    ∙ ap (λ k. map character (take k us) ++ concat (map spelled (n ∷ ns))) (sym runs.0)

-- two numbers and two more follow one another
four_runs : (marks : List Bool) (skipped places used later_places later_used : ℕ)
    → AreTwice marks skipped places used later_places later_used
    → AreRuns marks 0 (four_at 0 used marks) (used + later_used)
unfolding AreRuns
four_runs marks skipped places used later_places later_used twice =
    let low = twice.low.used_is in
    let high = twice.high.used_is in
    let first = suc (run_of marks) in
    let third = suc (run_of (drop used marks)) in
    let at = λ (i j : ℕ) (e : i ≡ j). ap (λ k. run_of (drop k marks)) e in (
      refl,
      refl,
      (
        refl,
        at first (0 + first) (omega arith),
        (
          omega arith,
          at used (0 + used) (omega arith),
          (
            refl,
            ap run_of (drop-drop third used marks) ∙ at (used + third) (0 + used + third) (omega arith),
            omega arith,
          ),
        ),
      ),
    )

-- numbers of at most four units are small
pub numbers_small : (radix : ℕ) (us : List ℕ) (marks : List Bool) (skipped places used later_places later_used : ℕ)
    → IsRadix radix → AreTwice marks skipped places used later_places later_used
    → Each1 (λ n. n < 2 ^ 28) (map (λ n. number_in_front radix n.1 (drop n.0 us)) (four_at 0 used marks))
numbers_small radix us marks skipped places used later_places later_used alphabet twice =
    let small = λ (more at : ℕ) (short : more ≤ 3). number_small radix more (drop at us) alphabet short in (
      small _ 0 twice.low.first_short,
      (
        small _ (0 + suc (run_of marks)) twice.low.second_short,
        (
          small _ (0 + used) twice.high.first_short,
          (small _ (0 + used + suc (run_of (drop used marks))) twice.high.second_short, tt),
        ),
      ),
    )

-- Four numbers found by the marks of their last units.
pub four_found : (base radix : ℕ) (bytes us : List ℕ) (ends skipped places used later_places later_used a b c d : ℕ)
    → IsRadix radix → AreUnits base radix bytes us ends
    → AreTwice (marks_of radix us) skipped places used later_places later_used
    → a ∷ b ∷ c ∷ d ∷ [] ≡ map (λ n. number_in_front radix n.1 (drop n.0 us)) (four_at 0 used (marks_of radix us))
    → FourInFront (unit_over base radix) radix bytes a b c d (used + later_used)
four_found base radix bytes us ends skipped places used later_places later_used a b c d alphabet read twice are =
    let count = used + later_used in
    let spell = shortest (unit_over base radix) radix in
    let small = subst (Each1 (λ n. n < 2 ^ 28)) (sym are)
    (numbers_small radix us (marks_of radix us) skipped places used later_places later_used alphabet twice) in
    let within : count ≤ length us = omega (arith, twice.within, length-map us (λ u. nat_lt u radix)) in
    record {
      within = omega (arith, read.within);
      spelled = sym (take-take count (length us) bytes within) ∙ ap (take count) read.same
          ∙ take-map (λ u. u + base) count us
          ∙ runs_spelled base radix bytes us ends 0 (four_at 0 used (marks_of radix us)) count alphabet read
          (four_runs (marks_of radix us) skipped places used later_places later_used twice) within
          ∙ ap (λ ns. concat (map spell ns)) (sym are)
          ∙ ap (λ text. spell a ++ (spell b ++ (spell c ++ text))) (append-nil (spell d));
      first_small = small.0;
      second_small = small.1.0;
      third_small = small.1.1.0;
      fourth_small = small.1.1.1.0;
    }

-- ---- numbers found in a part of the bytes

-- Four numbers after some of the sixteen bytes from a place on are those at their place in all bytes.
pub four_in_window : (unit : ℕ → Bool → ℕ) (radix : ℕ) (bytes : List ℕ) (start from a b c d count : ℕ)
    → from ≤ start → start ≤ from + 16
    → FourInFront unit radix (drop (start - from) (take (from + 16 - from) (drop from bytes))) a b c d count
    → FourInFront unit radix (drop start bytes) a b c d count
four_in_window unit radix bytes start from a b c d count begun within found =
    let skipped = start - from in
    let left = 16 - skipped in
    let size : from + 16 - from ≡ skipped + left = omega arith in
    let place : from + skipped ≡ start = omega arith in
    let window : drop skipped (take (from + 16 - from) (drop from bytes)) ≡ take left (drop start bytes) =
    ap (λ n. drop skipped (take n (drop from bytes))) size ∙ drop-take skipped left (drop from bytes)
    ∙ ap (take left) (drop-drop skipped from bytes ∙ ap (λ n. drop n bytes) place) in
    let few : count ≤ length (take left (drop start bytes)) = rw (sym (ap length window)) found.within in
    let long = length-take left (drop start bytes) in
    record {
      within = omega arith;
      spelled = sym (take-take count left (drop start bytes) (omega arith)) ∙ ap (take count) (sym window)
          ∙ found.spelled;
      first_small = found.first_small;
      second_small = found.second_small;
      third_small = found.third_small;
      fourth_small = found.fourth_small;
    }

-- four numbers found by the base and the radix of an alphabet are four in its units
pub four_in_units : {unit : ℕ → Bool → ℕ} {alphabet : Alphabet} → IsNumbered unit alphabet
    → (bytes : List ℕ) {a b c d count : ℕ}
    → FourInFront (unit_over alphabet.base alphabet.radix) alphabet.radix bytes a b c d count
    → FourInFront unit alphabet.radix bytes a b c d count
four_in_units {alphabet = alphabet} numbered bytes {a = a} {b = b} {c = c} {d = d} {count = count} found =
    subst (λ unit. FourInFront unit alphabet.radix bytes a b c d count)
    (λ i d more. sym (numbered.units d more) i) found

-- ==== The marks of some units and of the units after them, joined.

-- the mask of some units and of the units after them
mask_joined : (p : ℕ → Bool) (base n m : ℕ) (bytes : List ℕ) → n ≤ length bytes
    → mask_l (map p (units_in base (take (n + m) bytes))) ≡ mask_l (map p (units_in base (take n bytes)))
    + 2 ^ n * mask_l (map p (units_in base (take m (drop n bytes))))
mask_joined p base n m bytes long =
    let unit = λ (b : ℕ). (b + (2 ^ 8 - base)) % 2 ^ 8 in
    let front = units_in base (take n bytes) in
    let next = units_in base (take m (drop n bytes)) in
    let count : length (map p front) ≡ n = length-map front p ∙ length-map (take n bytes) unit
    ∙ length-take-le n bytes long in
    ap (λ bs. mask_l (map p (units_in base bs))) (take-add n m bytes)
    ∙ ap (λ us. mask_l (map p us)) (map-append unit (take n bytes) (take m (drop n bytes)))
    ∙ ap mask_l (map-append p front next)
    ∙ mask_l-append (map p front) (map p next)
    ∙ ap (λ k. mask_l (map p front) + 2 ^ k * mask_l (map p next)) count

-- the marks of n units from `at` on, and of the n units after them
pub marks_joined : (at n base : ℕ) {radix most : ℕ} (bytes : List ℕ) (low high : Marks) → at + (n + n) ≤ length bytes
    → AreMarks radix most (units_in base (take n (drop at bytes))) low
    → AreMarks radix most (units_in base (take n (drop (at + n) bytes))) high
    → AreMarks radix most (units_in base (take (n + n) (drop at bytes))) (record {
      ends = low.ends + high.ends * 2 ^ n;
      zeros = low.zeros + high.zeros * 2 ^ n;
      bad = low.bad + high.bad * 2 ^ n;
    })
marks_joined at n base {radix = radix} {most = most} bytes low high long first second = record {
  ends = joined (λ u. nat_lt u radix) first.ends second.ends;
  zeros = joined (λ u. nat_eq u 0) first.zeros second.zeros;
  bad = joined (λ u. nat_lt most u) first.bad second.bad;
}
  where
    joined : (p : ℕ → Bool) {a b : ℕ} → a ≡ mask_l (map p (units_in base (take n (drop at bytes))))
        → b ≡ mask_l (map p (units_in base (take n (drop (at + n) bytes))))
        → a + b * 2 ^ n ≡ mask_l (map p (units_in base (take (n + n) (drop at bytes))))
    joined p {a = a} {b = b} a_is b_is = sym (
        mask_joined p base n n (drop at bytes) (omega (arith, length-drop at bytes, long))
        ∙ ap (λ bs. mask_l (map p (units_in base (take n (drop at bytes))))
        + 2 ^ n * mask_l (map p (units_in base (take n bs)))) (drop-drop n at bytes)
        ∙ (λ i. sym a_is i + 2 ^ n * sym b_is i) ∙ omega (arith, mul_comm (2 ^ n) b)
        )

-- the mask of n units has n bits
pub mask_small : (p : ℕ → Bool) (base n m : ℕ) (bytes : List ℕ) → n ≤ length bytes
    → m ≡ mask_l (map p (units_in base (take n bytes))) → m < 2 ^ n
mask_small p base n m bytes long is =
    let us = units_in base (take n bytes) in
    let count : length (map p us) ≡ n = length-map us p
    ∙ length-map (take n bytes) (λ b. (b + (2 ^ 8 - base)) % 2 ^ 8) ∙ length-take-le n bytes long in
    let power : 2 ^ length (map p us) ≡ 2 ^ n = ap (λ k. 2 ^ k) count in
    omega (arith, mask_l-lt (map p us))
