-- Where numbers begin and end among the first units of some bytes.
use Rattle.std.specs.Prelude.{◌≡◌, ℕ, zero, suc, ◌+◌, ◌*◌, ◌/◌, ◌%◌, ◌<◌, ◌≤◌, ◌^◌, Bool, true, false, List, [], ◌∷◌}
use Rattle.std.specs.Prelude.{◌++◌, length, take, nat_le, if◌then◌else◌, ◌-◌, drop, map, nat_lt, ◌⊎◌, get_or, nat_eq}
use Rattle.std.specs.Int.{w32, cast_unsigned}
use Rattle.twkb_num.specs.Spelling.{shortest, unzigzag_of, zigzag_of}
use Rattle.twkb_num.specs.declared.four.Four.{Four}
use Rattle.twkb_num.specs.Alphabet.{unit_over}
use lib.Lanes.{number_l, mask_l, Each1}
use Rattle.twkb_num.specs.declared.block.Marks.{Marks}

-- ==== Four numbers at the start of some units, each in its shortest spelling.

-- the first `count` units are the shortest spellings of four numbers, one after the other, of at
-- most 28 bits each
pub record FourInFront (unit : ℕ → Bool → ℕ) (base : ℕ) (units : List ℕ) (a b c d count : ℕ) : Type 0 where
  pub within : count ≤ length units
  pub spelled : take count units ≡ shortest unit base a
      ++ (shortest unit base b ++ (shortest unit base c ++ shortest unit base d))
  pub first_small : a < 2 ^ 28
  pub second_small : b < 2 ^ 28
  pub third_small : c < 2 ^ 28
  pub fourth_small : d < 2 ^ 28

-- the first units are the shortest spellings of the zigzag forms of four signed numbers
abbrev pub SignedInFront : (ℕ → Bool → ℕ) → ℕ → List ℕ → Four → Type 0
SignedInFront unit base units f = FourInFront unit base units (zigzag_of f.first) (zigzag_of f.second)
    (zigzag_of f.third) (zigzag_of f.fourth) f.used

-- the number whose groups are those of the first unit and of `more` units after it, low group first
abbrev pub number_in_front : ℕ → ℕ → List ℕ → ℕ
number_in_front radix more [] = 0
number_in_front radix zero (u ∷ us) = u % radix
number_in_front radix (suc more) (u ∷ us) = u % radix + radix * number_in_front radix more us

-- the place of unit k of a number that begins at `at` and has `more` units after the first; 128
-- or above if the number has no unit k
abbrev pub place_in : ℕ → ℕ → ℕ → ℕ
place_in at more k = if nat_le k more then at + k else at + 128

-- the places of a number's four units
abbrev pub places_in : ℕ → ℕ → List ℕ
places_in at more = place_in at more 0 ∷ place_in at more 1 ∷ place_in at more 2 ∷ place_in at more 3 ∷ []

-- the number of the four groups in the bytes of a word, low first
abbrev pub joined_groups : ℕ → ℕ → ℕ
joined_groups radix word =
    word % radix + radix * (word / 256 % radix + radix
    * (word / 256 / 256 % radix + radix * (word / 256 / 256 / 256 % radix)))

-- the number with this zigzag form, as 32 bits
abbrev pub unzigzagged_bits : ℕ → ℕ
unzigzagged_bits form = cast_unsigned w32 (unzigzag_of form)

-- the number of marks before the first that is set
abbrev pub run_of : List Bool → ℕ
run_of [] = 0
run_of (true ∷ marks) = 0
run_of (false ∷ marks) = suc (run_of marks)

-- ==== The units of two numbers, each number's in four bytes, and the shuffle that brings them
-- together.

-- the lowest `count` groups of n, each as a unit that says whether n has bits above it
abbrev pub units_within : ℕ → ℕ → ℕ → ℕ → List ℕ
units_within base radix zero n = []
units_within base radix (suc count) n = unit_over base radix (n % radix) (nat_le radix n)
    ∷ units_within base radix count (n / radix)

-- the four units of a number in its lane
abbrev pub lane_units : ℕ → ℕ → ℕ → List ℕ
lane_units base radix n = units_within base radix 4 n

-- how many groups n has after its first, at most `most`
abbrev pub groups_after : ℕ → ℕ → ℕ → ℕ
groups_after radix zero n = 0
groups_after radix (suc most) n = if nat_le radix n then suc (groups_after radix most (n / radix)) else 0

-- the marks of two numbers that have `first` and `second` units before the last one
abbrev pub marks_of_two : ℕ → ℕ → ℕ
marks_of_two first second = (2 ^ first - 1) + 16 * (2 ^ second - 1)

-- the place of the unit that moves to k: one of the first number's, one of the second's, or none
abbrev pub place_for : ℕ → ℕ → ℕ → ℕ
place_for first second k = if nat_le k first then k else
    (if nat_le k (first + 1 + second) then 4 + (k - (first + 1)) else 128)

-- the places of the units of two numbers, one number after the other, up to eight
abbrev pub shuffle_of : ℕ → ℕ → List ℕ
shuffle_of first second =
    place_for first second 0 ∷ place_for first second 1 ∷ place_for first second 2 ∷ place_for first second 3
    ∷ place_for first second 4 ∷ place_for first second 5 ∷ place_for first second 6 ∷ place_for first second 7 ∷ []

-- the first `low` of eight units are the shortest spellings of two numbers, and the first `high`
-- of the next eight those of the other two
pub record AreSpelled (unit : ℕ → Bool → ℕ) (radix a b c d : ℕ) (units : List ℕ) (low high : ℕ) : Type 0 where
  pub few_low : low ≤ 8
  pub few_high : high ≤ 8
  pub first_two : take low (take 8 units) ≡ shortest unit radix a ++ shortest unit radix b
  pub last_two : take high (take 8 (drop 8 units)) ≡ shortest unit radix c ++ shortest unit radix d

-- ==== The places of the units of the first two numbers.

-- the number of marks between the first two that are set
abbrev pub second_run : List Bool → ℕ
second_run marks = run_of (drop (suc (run_of marks)) marks)

-- the first two marks that are set end numbers of at most four units; the two numbers have `used`
-- units together, at these places
pub record AreTwo (marks : List Bool) (places used : ℕ) : Type 0 where
  pub first_short : run_of marks ≤ 3
  pub second_short : second_run marks ≤ 3
  pub used_is : used ≡ suc (suc (run_of marks + second_run marks))
  pub within : used ≤ length marks
  pub places_are : places ≡ number_l 256 (places_in 0 (run_of marks) ++ places_in
      (suc (run_of marks)) (second_run marks))

-- ==== A text that is two numbers, by its first and its last eight characters.

-- the first eight characters of a text, and then its last eight
abbrev pub first_and_last : List ℕ → List ℕ
first_and_last text = take 8 text ++ drop (length text - 8) text

-- the number of the eight groups of five bits in the bytes of a word, low first
abbrev pub eight_groups : ℕ → ℕ
eight_groups word = joined_groups 32 (word % 2 ^ 32) + 2 ^ 20 * joined_groups 32 (word / 2 ^ 32)

-- The units are from 1 to 63, and `ends` has a bit for each that ends a number.
pub record AreMarked (units : List ℕ) (ends : ℕ) : Type 0 where
  pub marks : ends ≡ mask_l (map (λ u. nat_lt u 32) units)
  pub few : Each1 (λ u. (0 < u) × (u < 64)) units

-- A text of `count` characters is two numbers, the first of `used`, by a mark for each of its first
-- and its last eight characters that ends a number.
pub record AreTwoRuns (marks : List Bool) (used count : ℕ) : Type 0 where
  pub first : suc (run_of marks) ≡ used
  pub second : suc (run_of (drop (16 - (count - used)) marks)) ≡ count - used

-- ==== Where numbers end among the first units of some bytes.

-- the units of bytes: each byte minus the base of an alphabet, modulo 256, so that a byte below the
-- base gives a large unit
abbrev pub units_in : ℕ → List ℕ → List ℕ
units_in base bytes = map (λ b. (b + (2 ^ 8 - base)) % 2 ^ 8) bytes

-- `units` are the first bytes minus the base: all are in the alphabet and none pads a number;
-- `ends` has a bit for each of them that ends a number
pub record AreUnits (base radix : ℕ) (bytes units : List ℕ) (ends : ℕ) : Type 0 where
  pub within : length units ≤ length bytes
  pub same : take (length units) bytes ≡ map (λ u. u + base) units
  pub below : (k : ℕ) → get_or units k 0 < 2 * radix
  pub shortest : (k : ℕ) → suc k < length units → get_or units (suc k) 0 ≡ 0 → get_or units k 0 < radix
  pub marks : ends ≡ mask_l (map (λ u. nat_lt u radix) units)

-- `ends` has a bit for each unit that ends a number, among some first units that are all in the
-- alphabet and pad no number
pub record AreEnds (base radix : ℕ) (bytes : List ℕ) (ends : ℕ) : Type 0 where
  pub units : List ℕ
  pub are : AreUnits base radix bytes units ends

-- no end is missing: if the first units, at most `most` of them, are all in the alphabet and none
-- pads a number, `ends` has a bit for each of them that ends a number
abbrev pub HasEndsOf : ℕ → ℕ → ℕ → List ℕ → ℕ → Type 0
HasEndsOf most base radix bytes ends = (units : List ℕ) (marks : ℕ)
    → AreUnits base radix bytes units marks → length units ≤ most → ends % 2 ^ length units ≡ marks

-- each word has a bit for each unit: `ends` if the unit ends a number, `zeros` if it is 0, `bad` if
-- it is above `most`
pub record AreMarks (radix most : ℕ) (units : List ℕ) (m : Marks) : Type 0 where
  pub ends : m.ends ≡ mask_l (map (λ u. nat_lt u radix) units)
  pub zeros : m.zeros ≡ mask_l (map (λ u. nat_eq u 0) units)
  pub bad : m.bad ≡ mask_l (map (λ u. nat_lt most u) units)

-- each of the three words is below `bound`
pub record AreBelow (bound : ℕ) (m : Marks) : Type 0 where
  pub ends : m.ends < bound
  pub zeros : m.zeros < bound
  pub bad : m.bad < bound

-- unit k is a fault: it is above `most`, or the unit after it is a 0 that pads the number
abbrev pub IsFault : ℕ → ℕ → List ℕ → ℕ → Type 0
IsFault radix most units k = (most < get_or units k 0)
    ⊎ ((suc k < length units) × (get_or units (suc k) 0 ≡ 0) × (radix ≤ get_or units k 0))

-- `ends` has a bit for each unit that ends a number, among the units before the first fault, or
-- among the first 63 or more if these have no fault
pub record AreEndsBefore (radix most : ℕ) (units : List ℕ) (ends : ℕ) : Type 0 where
  pub count : ℕ
  pub marks : ends ≡ mask_l (map (λ u. nat_lt u radix) (take count units))
  pub below : (k : ℕ) → k < count → k < length units → get_or units k 0 ≤ most
  pub shortest : (k : ℕ) → k < count → suc k < length units → get_or units (suc k) 0 ≡ 0 → get_or units k 0 < radix
  pub far : count < 63 → IsFault radix most units count
