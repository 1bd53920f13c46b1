-- The characters of one number: their codes and groups, where they end, and the answers of their reader.
use Rattle.std.proofs.Common.{◌≡◌, ℕ, ◌+◌, ◌-◌, ◌<◌, true, false, List, [], ◌∷◌, ◌++◌, map, refl, ◌∙◌, ap, arith}
use Rattle.std.proofs.Common.{suc, ◌*◌, ◌/◌, ◌%◌, ◌≤◌, ◌^◌, length, ◌⊎◌, inl, inr, sym, lit≤, length-append, ℤ, drop}
use Rattle.std.proofs.Common.{get_or, append_assoc, append-nil, lit<, subst}
use Rattle.std.proofs.lemmas.Grind.{common_steps}
use Rattle.std.specs.List.{AllByRecursion}
use Rattle.std.specs.Int.Digits.{AllBelowBase}
use Rattle.std.specs.Prelude.{Some, None, Option, nat_lt, if◌then◌else◌}
use Rattle.std.proofs.Math.Nat.{pow-le-pow_right, mul_comm}
use Rattle.std.proofs.lemmas.Bool.{cases_lt}
use Rattle.std.proofs.lemmas.List.{length-map, same_from_push, nil_from_length, drop_all, drop_more, map-append}
use Rattle.twkb_num.specs.Alphabet.{five_unit, five_group, five_laws}
use Rattle.twkb_num.specs.Spelling.{open_units, units_of, shortest, IsSpelling, digits, number_of, zigzag_of}
use Rattle.twkb_num.specs.Spelling.{unzigzag_of}
use Rattle.twkb_num.specs.Answer.{IsAbove, IsAnswer}
use Rattle.twkb_num.specs.declared.partial.Step.TheVariants as step
use Rattle.twkb_num.proofs.SpellingLemmas.{shortest_by_last, last_digit_above}
use Rattle.twkb_num.proofs.SpellingLemmas.{number_of-lt, number_of-push, units_of-push, length-units_of}
use Rattle.twkb_num.proofs.SpellingLemmas.{AllBelowBase-push, shortest_spelling, digits_below, number_of-digits}
use Rattle.twkb_num.proofs.SpellingLemmas.{digits_some, more_sum, more_fits, last_sum, last_fits}
use Rattle.twkb_num.proofs.ZigzagLemmas.{zigzag_of-unzigzag_of}
use Rattle.twkb_polyline.specs.Fault.{IsCharacter, GoesOn, EndsIn, Reaches, IsTooLong, IsPadded, IsNumberFault}
use Rattle.twkb_polyline.specs.Fault.{StartsWithNumber}
use Rattle.twkb_polyline.specs.Polyline.{number_text}
use Rattle.twkb_polyline.specs.declared.fault.PolyReason.TheVariants.{BadChar, Cut, TooLong, Padded}
use Rattle.twkb_polyline.specs.Reading.{IsNumberAt, IsBegun}
use Rattle.twkb_polyline.specs.declared.fault.PolyReason.{PolyReason}

-- ==== The characters by their codes, and by the groups that they stand for.

-- a character whose group says that more follow goes on
pub goes_on : (c d : ℕ) → five_group c ≡ Some (d, true) → GoesOn c
goes_on c d h = (grind (arith, common_steps), grind (arith, common_steps))

-- a character that goes on is the unit of its group
pub unit_more : (c d : ℕ) → five_group c ≡ Some (d, true) → (c ≡ five_unit d true) × (d < 32)
unit_more c d h = (grind (arith, common_steps), grind (arith, common_steps))

pub unit_last : (c d : ℕ) → five_group c ≡ Some (d, false) → (c ≡ five_unit d false) × (d < 32)
unit_last c d h = (grind (arith, common_steps), grind (arith, common_steps))

-- a code without a group is no character
pub no_character : (c : ℕ) → five_group c ≡ None → IsCharacter c → ⊥
no_character c h known = grind (arith, common_steps)

-- for each group below 32 there is a character that goes on and one that ends a number
pub unit_goes_on : (d : ℕ) → d < 32 → GoesOn (five_unit d true)
unit_goes_on d h = (omega arith, omega arith)

-- the groups of characters that go on
unfoldable pub groups_of : List ℕ → List ℕ
groups_of us = map (λ c. c - 95) us

pub open_goes_on : (ds : List ℕ) → AllBelowBase 32 ds → AllByRecursion GoesOn (open_units five_unit ds)
open_goes_on [] below = tt
open_goes_on (d ∷ ds) below = (unit_goes_on d below.0, open_goes_on ds below.1)

pub goes_on_open : (us : List ℕ) → AllByRecursion GoesOn us → us ≡ open_units five_unit (groups_of us)
unfolding groups_of
goes_on_open [] go = refl
goes_on_open (u ∷ us) go =
    let head : u ≡ (u - 95) + 32 + 63 = omega (arith, go.0.0, go.0.1) in
    ap (λ v. v ∷ us) head ∙ ap (λ vs. ((u - 95) + 32 + 63) ∷ vs) (goes_on_open us go.1)

pub groups_below : (us : List ℕ) → AllByRecursion GoesOn us → AllBelowBase 32 (groups_of us)
unfolding groups_of
groups_below [] go = tt
groups_below (u ∷ us) go = (omega (arith, go.0.0, go.0.1), groups_below us go.1)

-- one more character that goes on
pub GoesOn-push : (us : List ℕ) (u : ℕ) → AllByRecursion GoesOn us → GoesOn u → AllByRecursion GoesOn (us ++ u ∷ [])
GoesOn-push [] u go h = (h, tt)
GoesOn-push (v ∷ us) u go h = (go.0, GoesOn-push us u go.1 h)

-- ==== The groups of a number's characters: the last group, and the size of the number.

-- Groups are some groups and a last one, all below 32.
pub record HasLast (ds : List ℕ) : Type 0 where
  pub front : List ℕ
  pub last : ℕ
  pub split : ds ≡ front ++ last ∷ []
  pub below : AllBelowBase 32 front
  pub last_below : last < 32

pub has_last : (ds : List ℕ) → AllBelowBase 32 ds → 1 ≤ length ds → HasLast ds
has_last [] below some = absurd (omega arith)
has_last (d ∷ []) below some = record { front = []; last = d; split = refl; below = tt; last_below = below.0 }
has_last (d ∷ e ∷ ds) below some =
    let rest = has_last (e ∷ ds) below.1 (omega arith) in
    record {
      front = d ∷ rest.front;
      last = rest.last;
      split = ap (λ es. d ∷ es) rest.split;
      below = (below.0, rest.below);
      last_below = rest.last_below;
    }

-- the characters of some groups and a last one
pub units_of-last : (ds : List ℕ) (h : HasLast ds)
    → units_of five_unit ds ≡ open_units five_unit h.front ++ five_unit h.last false ∷ []
units_of-last ds h = ap (units_of five_unit) h.split ∙ units_of-push five_unit h.front h.last

pub length-open_units : (ds : List ℕ) → length (open_units five_unit ds) ≡ length ds
length-open_units ds = length-map ds (λ d. five_unit d true)

-- the number of at most twelve groups is below 2 ^ 60
pub twelve_below : (ds : List ℕ) → AllBelowBase 32 ds → length ds ≤ 12 → number_of 32 ds < 2 ^ 60
twelve_below ds below few =
    let power : 32 ^ length ds ≤ 32 ^ 12 = pow-le-pow_right {n = 32} (lit≤ tt) few in
    omega (arith, number_of-lt 32 ds below)

-- the number of thirteen groups is 2 ^ 64 or above exactly if the last group is 16 or more
pub thirteenth : (front : List ℕ) (d : ℕ) → AllBelowBase 32 front → length front ≡ 12
    → (2 ^ 64 ≤ number_of 32 (front ++ d ∷ []) → 16 ≤ d)
    × (16 ≤ d → 2 ^ 64 ≤ number_of 32 (front ++ d ∷ []))
thirteenth front d below twelve =
    let e : number_of 32 (front ++ d ∷ []) ≡ number_of 32 front + 32 ^ 12 * d = number_of-push 32
    front d ∙ ap (λ k. number_of 32 front + 32 ^ k * d) twelve in
    let small = twelve_below front below (omega arith) in
    (λ above. omega arith, λ large. omega arith)

-- ==== The answers of a reader of characters: the number, or its fault.

-- The reader holds the characters `us` of the number at the start of `rest`, and u is the next one.
pub record IsNext (rest us : List ℕ) (u : ℕ) (more : List ℕ) : Type 0 where
  pub split : rest ≡ us ++ u ∷ more
  pub go_on : AllByRecursion GoesOn us
  pub within : length us < 13

reaches : {rest us : List ℕ} {u : ℕ} {more : List ℕ} {k : ℕ} → IsNext rest us u more → length us ≡ k → Reaches rest k u
reaches {us = us} {more = more} next place = record {
  before = us;
  after = more;
  split = next.split;
  go_on = next.go_on;
  place = place;
  within = omega (arith, next.within);
}

-- a code that is no character is a fault
bad_code : {rest us : List ℕ} {u : ℕ} {more : List ℕ} → IsNext rest us u more → (IsCharacter u → ⊥)
    → IsNumberFault rest (length us) BadChar
bad_code {u = u} next unknown = (u, reaches next refl, unknown)

-- a code without a group is such a code
pub bad_character : {rest us : List ℕ} {u : ℕ} {more : List ℕ} → IsNext rest us u more
    → five_group u ≡ None → IsNumberFault rest (length us) BadChar
bad_character {u = u} next none = bad_code next (no_character u none)

-- a thirteenth character that goes on, or whose group is 16 or more, is too much
too_much : {rest us : List ℕ} {u : ℕ} {more : List ℕ} → IsNext rest us u more → length us ≡ 12
    → GoesOn u ⊎ ((group : ℕ) × EndsIn u group × (16 ≤ group)) → IsTooLong rest
too_much {u = u} next full much = record { character = u; reached = reaches next full; too_much = much }

-- a last group of 0 after others pads the number
padded_by : {rest us : List ℕ} {u : ℕ} {more : List ℕ} → IsNext rest us u more → 0 < length us
    → EndsIn u 0 → IsPadded rest
padded_by {us = us} {u = u} next some none = record {
  place = length us;
  some = some;
  character = u;
  reached = reaches next refl;
  zero = none;
}

-- ---- the last character of a spelling

-- The characters spell groups, the last of which is that of u.
record EndsAt (us : List ℕ) (u : ℕ) (ds : List ℕ) : Type 0 where
  pub last : HasLast ds
  pub front : us ≡ open_units five_unit last.front
  pub end : u ≡ last.last + 63
  pub count : length us ≡ length last.front
  pub length_is : length ds ≡ length us + 1

ends_at : (us : List ℕ) (u : ℕ) (ds : List ℕ) → us ++ u ∷ [] ≡ units_of five_unit ds
    → AllBelowBase 32 ds → EndsAt us u ds
ends_at us u ds spelled below =
    let units : length us + 1 ≡ length ds = sym (length-append us (u ∷ [])) ∙ ap length spelled
    ∙ length-units_of five_unit ds in
    let last = has_last ds below (omega arith) in
    let same = same_from_push us (open_units five_unit last.front) u (five_unit last.last false)
    (spelled ∙ units_of-last ds last) in
    record {
      last = last;
      front = same.0;
      end = same.1;
      count = ap length same.0
          ∙ length-open_units last.front;
      length_is = sym units;
    }

-- a number of 2 ^ 64 or above has thirteen characters, and its last group is 16 or more
pub above_ends : (us : List ℕ) (u : ℕ) → length us < 13 → IsAbove five_unit 32 (us ++ u ∷ [])
    → (length us ≡ 12) × ((group : ℕ) × EndsIn u group × (16 ≤ group))
above_ends us u within above =
    let at_end = ends_at us u above.ds above.spelled above.below in
    let last = at_end.last in
    let value : 2 ^ 64 ≤ number_of 32 (last.front ++ last.last ∷ []) = rw last.split at above.above in
    elim (cases_lt (length us) 12) [
      | inl few ↦ absurd (omega
          (arith, twelve_below above.ds above.below (omega (arith, at_end.length_is)), above.above))
      | inr all ↦
          let twelve : length us ≡ 12 = omega arith in (
            twelve,
            (
              last.last,
              (at_end.end, last.last_below),
              (thirteenth last.front last.last last.below (sym at_end.count ∙ twelve)).0 value,
            ),
          )
    ]

-- a thirteenth character that goes on, or a number of 2 ^ 64 or above, is too long
pub too_long : {rest us : List ℕ} {u : ℕ} {more : List ℕ} → IsNext rest us u more
    → IsAnswer five_unit five_group 32 13 us u step.TooLong → IsTooLong rest
too_long {u = u} next (inl long) = too_much next (omega (arith, long.0)) (inl (goes_on u long.1.0 long.1.1))
too_long {us = us} {u = u} next (inr above) =
    let ends = above_ends us u next.within above in too_much next ends.0 (inr ends.1)

-- a spelling that is not the shortest is padded
pub padded : {rest us : List ℕ} {u : ℕ} {more : List ℕ} {value : ℕ} → IsNext rest us u more
    → IsSpelling five_unit 32 13 (us ++ u ∷ []) value
    → (us ++ u ∷ [] ≡ shortest five_unit 32 value → ⊥) → IsPadded rest
padded {us = us} {u = u} next spelling longer =
    let at_end = ends_at us u spelling.ds spelling.spelled spelling.below in
    let last = at_end.last in
    let below : AllBelowBase 32 (last.front ++ last.last ∷ []) = rw last.split at spelling.below in
    let short : ((0 < last.last) ⊎ (last.front ≡ [])) → ⊥ = λ why.
    longer (spelling.spelled ∙ ap (units_of five_unit) last.split
    ∙ shortest_by_last five_unit 32 last.front last.last (lit≤ tt) below why
    ∙ ap (shortest five_unit 32) (ap (number_of 32) (sym last.split) ∙ spelling.number)) in
    let none : last.last ≡ 0 = elim (cases_lt 0 last.last)
    [ inl high ↦ absurd (short (inl high)) | inr low ↦ omega arith ] in
    let some : 0 < length us = elim (cases_lt 0 (length us)) [
      | inl high ↦ high
      | inr low ↦ absurd
          (short (inr (nil_from_length last.front (omega (arith, at_end.count)))))
    ] in
    padded_by next some (omega (arith, at_end.end, none), lit< tt)

-- the shortest spelling is the number
read_number : {rest us : List ℕ} {u : ℕ} {more : List ℕ} {n : ℤ} {value : ℕ} → IsNext rest us u more
    → us ++ u ∷ [] ≡ shortest five_unit 32 value → zigzag_of n ≡ value
    → value < 2 ^ 64 → StartsWithNumber rest n more
read_number {us = us} {u = u} {more = more} next spelled form fits = record {
  split = next.split ∙ sym (append_assoc us (u ∷ []) more)
      ∙ ap (λ t. t ++ more) (spelled ∙ ap (shortest five_unit 32) (sym form));
  fits = omega (arith, form);
}

-- ---- places in a text

-- The characters from `start` to `at`, at most twelve, go on.
pub record AreHeld (text : List ℕ) (start at : ℕ) (us : List ℕ) : Type 0 where
  pub held : us ++ drop at text ≡ drop start text
  pub place : start + length us ≡ at
  pub go_on : AllByRecursion GoesOn us
  pub within : length us < 13

-- the next character comes after them
pub next_at : {text : List ℕ} {start at : ℕ} {us : List ℕ} → AreHeld text start at us → at < length text
    → IsNext (drop start text) us (get_or text at 0) (drop (at + 1) text)
next_at {text = text} {at = at} {us = us} held more = record {
  split = sym held.held ∙ ap (λ t. us ++ t) (drop_more text at 0 more);
  go_on = held.go_on;
  within = held.within;
}

-- the next character goes on, and is not the thirteenth
pub held_more : {rest us : List ℕ} {u : ℕ} {more : List ℕ} → IsNext rest us u more → (us ++ u ∷ []) ++ more ≡ rest
held_more {us = us} {u = u} {more = more} next = append_assoc us (u ∷ []) more ∙ sym next.split

-- a number ends at this place
pub number_at : {text : List ℕ} {start at : ℕ} {us : List ℕ} {n : ℤ} {value : ℕ} → AreHeld text start at us
    → at < length text → us ++ get_or text at 0 ∷ [] ≡ shortest five_unit 32 value → zigzag_of n ≡ value
    → value < 2 ^ 64 → IsNumberAt text start n (at + 1)
number_at {text = text} {at = at} {us = us} {n = n} held more spelled form fits =
    let u = get_or text at 0 in
    let count : length us + 1 ≡ length (number_text n) = sym (length-append us (u ∷ []))
    ∙ ap length (spelled ∙ ap (shortest five_unit 32) (sym form)) in
    record {
      number = read_number (next_at held more) spelled form fits;
      further = omega (arith, count, held.place);
      some = omega (arith, held.place);
      within = omega arith;
    }

-- the text ends before the number does
pub cut_short : {text : List ℕ} {start at : ℕ} {us : List ℕ} → AreHeld text start at us → length text ≤ at
    → IsNumberFault (drop start text) 0 Cut
cut_short {text = text} {start = start} {at = at} {us = us} held past =
    let whole : us ≡ drop start text = sym (append-nil us) ∙ ap (λ t. us ++ t) (sym (drop_all at text past))
    ∙ held.held in (
      record {
        go_on = subst (AllByRecursion GoesOn) whole held.go_on;
        within = subst (λ l. length l < 13) whole held.within;
      },
      refl,
    )

-- ==== Each text begins with a number, or is refused as one.

-- A number at the start of `rest`, or the reason for which there is none.
pub data NumberOrFault (rest : List ℕ) : Type 0 where
  is_number : (n : ℤ) (after : List ℕ) → StartsWithNumber rest n after → NumberOrFault rest
  is_fault : (k : ℕ) (reason : PolyReason) → IsNumberFault rest k reason → NumberOrFault rest

pub length-groups_of : (us : List ℕ) → length (groups_of us) ≡ length us
unfolding groups_of
length-groups_of us = length-map us (λ c. c - 95)

-- characters that go on, and one that ends the number, are those of their groups
pub spells_groups : (us : List ℕ) (d : ℕ) → AllByRecursion GoesOn us
    → us ++ (d + 63) ∷ [] ≡ units_of five_unit (groups_of us ++ d ∷ [])
spells_groups us d go = ap (λ vs. vs ++ (d + 63) ∷ []) (goes_on_open us go)
    ∙ sym (units_of-push five_unit (groups_of us) d)

-- a thirteenth character that ends a number has a group of 16 or more exactly if the number has
-- more than 64 bits
pub too_long_numbers : (us : List ℕ) (c d : ℕ) → AllByRecursion GoesOn us → length us ≡ 12
    → EndsIn c d → (16 ≤ d → IsAbove five_unit 32 (us ++ c ∷ []))
    × (IsAbove five_unit 32 (us ++ c ∷ []) → 16 ≤ d)
too_long_numbers us c d go twelve ends = (
  λ large. record {
    ds = groups_of us ++ d ∷ [];
    spelled = ap (λ u. us ++ u ∷ []) ends.0 ∙ spells_groups us d go;
    below = AllBelowBase-push 32 (groups_of us) d (groups_below us go) ends.1;
    above = (thirteenth (groups_of us) d (groups_below us go) (length-groups_of us ∙ twelve)).1 large;
  },
  λ above. let last = above_ends us c (omega arith) above in omega (arith, last.1.1.0, last.1.2, ends.0),
)

-- characters that go on, and one that ends the number, are the number if it is neither padded nor
-- too long
ended : {rest us : List ℕ} {more : List ℕ} (d : ℕ) → IsNext rest us (d + 63) more → d < 32
    → ((0 < d) ⊎ (groups_of us ≡ [])) → (length us ≡ 12 → d < 16) → NumberOrFault rest
ended {us = us} {more = more} d next below above small =
    let front = groups_of us in
    let ds = front ++ d ∷ [] in
    let fronts = groups_below us next.go_on in
    let all_below : AllBelowBase 32 ds = AllBelowBase-push 32 front d fronts below in
    let count = length-groups_of us in
    let fits : number_of 32 ds < 2 ^ 64 =
    elim (cases_lt (length us) 12) [
      | inl few ↦ omega (arith, twelve_below ds all_below (omega (arith, length-append front (d ∷ []))))
      | inr full ↦
          let twelve : length us ≡ 12 = omega (arith, next.within) in
          elim (cases_lt (number_of 32 ds) (2 ^ 64)) [
            | inl fits ↦ fits
            | inr over ↦ absurd
                (omega (arith, small twelve, (thirteenth front d fronts (count ∙ twelve)).0 over))
          ]
    ] in
    let spelled : us ++ (d + 63) ∷ [] ≡ shortest five_unit 32 (number_of 32 ds) =
    spells_groups us d next.go_on ∙ shortest_by_last five_unit 32 front d (lit≤ tt) all_below above in
    is_number (unzigzag_of (number_of 32 ds)) more
    (read_number next spelled (zigzag_of-unzigzag_of (number_of 32 ds)) fits)

-- the last group may be padding, which is a fault
scan_end : {rest us : List ℕ} {more : List ℕ} (d : ℕ) → IsNext rest us (d + 63) more → d < 32
    → (length us ≡ 12 → d < 16) → NumberOrFault rest
scan_end {us = us} d next below small =
    elim (cases_lt 0 d) [
      | inl high ↦ ended d next below (inl high) small
      | inr low ↦
          elim (cases_lt 0 (length us)) [
            | inl some ↦ is_fault 0 Padded (padded_by next some (omega arith, lit< tt), refl)
            | inr none ↦ ended d next below (inr
                (nil_from_length (groups_of us) (omega (arith, length-groups_of us)))) small
          ]
    ]

-- the last group may be too large, which is a fault
scan_last : {rest us : List ℕ} {more : List ℕ} (d : ℕ) → IsNext rest us (d + 63) more → d < 32 → NumberOrFault rest
scan_last {us = us} d next below =
    elim (cases_lt (length us) 12) [
      | inl few ↦ scan_end d next below (λ full. absurd (omega arith))
      | inr full ↦
          elim (cases_lt d 16) [
            | inl small ↦ scan_end d next below (λ _. small)
            | inr large ↦
                is_fault 0 TooLong (too_much next (omega (arith, next.within)) (inr (d, (refl, below), large)), refl)
          ]
    ]

-- the scan so far: characters that go on, and the characters left
scan_from : (left rest us : List ℕ) → rest ≡ us ++ left → AllByRecursion GoesOn us → length us < 13 → NumberOrFault rest
scan_from [] rest us split go within =
    let same : rest ≡ us = split ∙ append-nil us in
    is_fault 0 Cut (record { go_on = rw same go; within = rw same within }, refl)
scan_from (c ∷ left) rest us split go within =
    let next : IsNext rest us c left = record { split = split; go_on = go; within = within } in
    elim (cases_lt c 63) [
      | inl low ↦ is_fault (length us) BadChar (bad_code next (λ known. absurd (omega (arith, known.0))))
      | inr least ↦
          elim (cases_lt 126 c) [
            | inl high ↦ is_fault (length us) BadChar (bad_code next (λ known. absurd (omega (arith, known.1))))
            | inr most ↦
                elim (cases_lt c 95) [
                  | inr goes ↦
                      elim (cases_lt (length us) 12) [
                        | inl few ↦ scan_from left rest (us ++ c ∷ [])
                            (sym (held_more next)) (GoesOn-push us c go (goes, most))
                            (omega (arith, length-append us (c ∷ [])))
                        | inr full ↦ is_fault 0 TooLong (too_much next (omega arith) (inl (goes, most)), refl)
                      ]
                  | inl ends ↦
                      let last : c ≡ (c - 63) + 63 = omega arith in
                      scan_last (c - 63) (subst (λ u. IsNext rest us u left) last next) (omega arith)
                ]
          ]
    ]

-- each text starts with a number, or has a fault
pub number_or_fault : (rest : List ℕ) → NumberOrFault rest
number_or_fault rest = scan_from rest rest [] refl tt (lit< tt)

-- ==== The characters of a number stop at one place, where the number is read or refused for one reason.

-- the place where characters stop: k of them go on, and these are left
abbrev pub Halts : ℕ → List ℕ → Type 0
Halts k [] = Unit {0}
Halts k (c ∷ more) = GoesOn c → 12 ≤ k

-- the verdict at that place: the offset and reason of a refusal, or none for a number
abbrev pub verdict : ℕ → List ℕ → Option (ℕ × PolyReason)
verdict k [] = Some (0, Cut)
verdict k (c ∷ more) =
    if nat_lt c 63 then Some (k, BadChar) else
    if nat_lt 126 c then Some (k, BadChar) else
    if nat_lt c 64 then (if nat_lt 0 k then Some (0, Padded) else None) else
    if nat_lt c 79 then None else
    if nat_lt k 12 then None else Some (0, TooLong)

-- The number at the start of `rest` stops with this verdict.
pub record Stops (rest : List ℕ) (answer : Option (ℕ × PolyReason)) : Type 0 where
  pub us : List ℕ
  pub left : List ℕ
  pub split : rest ≡ us ++ left
  pub go_on : AllByRecursion GoesOn us
  pub within : length us ≤ 12
  pub halts : Halts (length us) left
  pub answered : verdict (length us) left ≡ answer

-- ---- one place to stop

same_stop : (n k l : ℕ) (us vs s t : List ℕ) → AllByRecursion GoesOn us → AllByRecursion GoesOn vs
    → n + length us ≡ k → n + length vs ≡ l → k ≤ 12 → l ≤ 12 → Halts k s → Halts l t
    → us ++ s ≡ vs ++ t → (us ≡ vs) × (s ≡ t)
same_stop n k l [] [] s t g h p q a b x y e = (refl, e)
same_stop n k l [] (v ∷ vs) (c ∷ s) t g h p q a b x y e =
    let head : v ≡ c = cc in
    let full = x (rw head at h.0) in
    absurd (omega arith)
same_stop n k l (u ∷ us) [] s (c ∷ t) g h p q a b x y e =
    let head : u ≡ c = cc in
    let full = y (rw head at g.0) in
    absurd (omega arith)
same_stop n k l (u ∷ us) (v ∷ vs) s t g h p q a b x y e =
    let head : u ≡ v = cc in
    let tail : us ++ s ≡ vs ++ t = cc in
    let rest = same_stop (suc n) k l us vs s t g.1 h.1 (omega arith) (omega arith) a b x y tail in
    let front : us ≡ vs = rest.0 in
    (cc, rest.1)
same_stop n k l _ _ _ _ g h p q a b x y e = cc

-- a number stops with one verdict
pub stops_one : (rest : List ℕ) (a b : Option (ℕ × PolyReason)) → Stops rest a → Stops rest b → a ≡ b
stops_one rest a b s t =
    let same = same_stop 0 (length s.us) (length t.us) s.us t.us s.left t.left s.go_on t.go_on
    (omega arith) (omega arith) s.within t.within s.halts t.halts (sym s.split ∙ t.split) in
    sym s.answered ∙ ap (λ us. verdict (length us) s.left) same.0
    ∙ ap (λ left. verdict (length t.us) left) same.1 ∙ t.answered

-- ---- the verdicts

outside_verdict : (k c : ℕ) (more : List ℕ) → (IsCharacter c → ⊥) → verdict k (c ∷ more) ≡ Some (k, BadChar)
outside_verdict k c more unknown =
    elim (cases_lt c 63) [
      | inl low ↦ grind (arith, common_steps)
      | inr high ↦ elim (cases_lt 126 c) [
        | inl above ↦ grind (arith, common_steps)
        | inr below ↦ absurd (unknown (high, below))
      ]
    ]

padded_verdict : (k c : ℕ) (more : List ℕ) → 0 < k → c ≡ 63 → verdict k (c ∷ more) ≡ Some (0, Padded)
padded_verdict k c more some e = grind (arith, common_steps)

too_long_verdict : (c : ℕ) (more : List ℕ) → 79 ≤ c → c ≤ 126 → verdict 12 (c ∷ more) ≡ Some (0, TooLong)
too_long_verdict c more low high = grind (arith, common_steps)

number_verdict : (k c : ℕ) (more : List ℕ) → 63 ≤ c → c < 95 → (0 < k → 63 < c) → (12 ≤ k → c < 79)
    → verdict k (c ∷ more) ≡ None
number_verdict k c more low high some few =
    elim (cases_lt c 64) [
      | inl least ↦ elim (cases_lt 0 k) [
        | inl more_before ↦ absurd (omega (arith, some more_before))
        | inr alone ↦ grind (arith, common_steps)
      ]
      | inr above ↦
          elim (cases_lt c 79) [
            | inl small ↦ grind (arith, common_steps)
            | inr large ↦ elim (cases_lt k 12) [
              | inl early ↦ grind (arith, common_steps)
              | inr full ↦ absurd (omega (arith, few full))
            ]
          ]
    ]

-- a number stops at a character that does not go on, or is the thirteenth
reached_stops : {rest : List ℕ} {k c : ℕ} {answer : Option (ℕ × PolyReason)} (reached : Reaches rest k c)
    → (GoesOn c → 12 ≤ k) → verdict k (c ∷ reached.after) ≡ answer → Stops rest answer
reached_stops {c = c} reached halts answered = record {
  us = reached.before;
  left = c ∷ reached.after;
  split = reached.split;
  go_on = reached.go_on;
  within = omega (arith, reached.place, reached.within);
  halts = λ goes. omega (arith, reached.place, halts goes);
  answered = ap (λ n. verdict n (c ∷ reached.after)) reached.place ∙ answered;
}

-- the fault of a number is the verdict where it stops
pub fault_stops : (rest : List ℕ) (k : ℕ) (reason : PolyReason) → IsNumberFault rest k reason
    → Stops rest (Some (k, reason))
fault_stops rest k BadChar f = reached_stops f.1 (λ goes. absurd (f.2 (omega (arith, goes.0), goes.1)))
    (outside_verdict k f.0 f.1.after f.2)
fault_stops rest k Cut f = record {
  us = rest;
  left = [];
  split = sym (append-nil rest);
  go_on = f.0.go_on;
  within = omega (arith, f.0.within);
  halts = tt;
  answered = ap (λ n. Some (n, Cut)) (sym f.1);
}
fault_stops rest k TooLong f =
    let low : 79 ≤ f.0.character = elim f.0.too_much
    [ inl goes ↦ omega (arith, goes.0) | inr ends ↦ omega (arith, ends.1.0, ends.2) ] in
    let high : f.0.character ≤ 126 = elim f.0.too_much
    [ inl goes ↦ goes.1 | inr ends ↦ omega (arith, ends.1.0, ends.1.1) ] in
    reached_stops f.0.reached (λ goes. omega arith) (too_long_verdict f.0.character f.0.reached.after low high
    ∙ ap (λ n. Some (n, TooLong)) (sym f.1))
fault_stops rest k Padded f = reached_stops f.0.reached (λ goes. absurd (omega (arith, goes.0, f.0.zero.0)))
    (padded_verdict f.0.place f.0.character f.0.reached.after f.0.some (omega (arith, f.0.zero.0))
    ∙ ap (λ n. Some (n, Padded)) (sym f.1))
fault_stops rest k _ f = absurd f

-- a number stops after its groups
groups_stop : (rest after : List ℕ) (z : ℕ) (ds : List ℕ) → HasLast ds → digits 32 z ≡ ds
    → rest ≡ units_of five_unit ds ++ after → length ds ≤ 13 → number_of 32 ds ≡ z → z < 2 ^ 64
    → Stops rest None
groups_stop rest after z ds last digits_are split few value fits =
    let count : length ds ≡ length last.front + 1 = ap length last.split ∙ length-append last.front (last.last ∷ []) in
    let units = length-open_units last.front in
    let whole : number_of 32 (last.front ++ last.last ∷ []) ≡ z = ap (number_of 32) (sym last.split) ∙ value in
    let above : 0 < length last.front → 0 < last.last = last_digit_above 32 z last.front last.last (lit≤ tt)
    last.below (digits_are ∙ last.split) in
    let below : 12 ≤ length last.front → last.last < 16 = λ full.
    elim (cases_lt last.last 16) [
      | inl small ↦ small
      | inr large ↦ let over = (thirteenth last.front last.last last.below (omega arith)).1 large in
          absurd (omega arith)
    ] in
    record {
      us = open_units five_unit last.front;
      left = (last.last + 63) ∷ after;
      split = split ∙ ap (λ t. t ++ after) (units_of-last ds last)
          ∙ append_assoc (open_units five_unit last.front) ((last.last + 63) ∷ []) after;
      go_on = open_goes_on last.front last.below;
      within = omega arith;
      halts = λ goes. absurd (omega (arith, goes.0, last.last_below));
      answered = number_verdict (length (open_units five_unit last.front)) (last.last + 63) after
          (omega arith) (omega (arith, last.last_below))
          (λ some. omega (arith, above (omega arith)))
          (λ full. omega (arith, below (omega arith)));
    }

-- a number stops with no refusal
pub number_stops : (rest : List ℕ) (n : ℤ) (after : List ℕ) → StartsWithNumber rest n after → Stops rest None
number_stops rest n after number =
    let z = zigzag_of n in
    let two : 2 ≤ 32 = lit≤ tt in
    let ds = digits 32 z in
    let spelling = shortest_spelling five_laws z number.fits in
    let same : length ds ≡ length spelling.ds = sym (length-units_of five_unit ds)
    ∙ ap length spelling.spelled ∙ length-units_of five_unit spelling.ds in
    groups_stop rest after z ds (has_last ds (digits_below 32 z two) (digits_some 32 z two)) refl
    number.split (omega (arith, spelling.within)) (number_of-digits 32 z two) number.fits

-- ==== Numbers read one group at a time.

-- before the first character nothing is read
abbrev begun_none : {text : List ℕ} {start : ℕ} → start ≤ length text → IsBegun text start start 0
begun_none h = record {
  groups = [];
  split = refl;
  below = tt;
  number = refl;
  further = omega arith;
  few = omega arith;
  within = h;
}

-- the number of some groups and one more
pub pushed : (gs : List ℕ) (value d : ℕ) → value ≡ number_of 32 gs
    → value + d * 32 ^ length gs ≡ number_of 32 (gs ++ d ∷ [])
pushed gs value d e = ap (λ n. n + d * 32 ^ length gs) e
    ∙ ap (λ n. number_of 32 gs + n) (mul_comm d (32 ^ length gs)) ∙ sym (number_of-push 32 gs d)

module _ {text : List ℕ} {start at value : ℕ} (begun : IsBegun text start at value) where
  -- the value of the groups is below a power of 32
  value_below : value < 32 ^ length begun.groups
  value_below = rw begun.number (number_of-lt 32 begun.groups begun.below)

  -- one more character that goes on is read
  abbrev pub begun_more : {d : ℕ} → at < length text → five_group (get_or text at 0) ≡ Some (d, true)
      → length begun.groups < 12
      → IsBegun text start (at + 1) (value + d * 32 ^ length begun.groups)
  begun_more {d = d} more e room =
      let gs = begun.groups in
      let unit = unit_more (get_or text at 0) d e in
      let rest = drop (at + 1) text in
      record {
        groups = gs ++ d ∷ [];
        split =
            begun.split
            ∙ ap (λ t. open_units five_unit gs ++ t) (drop_more text at 0 more ∙ ap (λ u. u ∷ rest) unit.0)
            ∙ sym (append_assoc (open_units five_unit gs) (five_unit d true ∷ []) rest)
            ∙ ap (λ us. us ++ rest) (sym (map-append (λ g. five_unit g true) gs (d ∷ [])));
        below = AllBelowBase-push 32 gs d begun.below unit.1;
        number = pushed gs value d begun.number;
        further = omega (arith, begun.further, length-append gs (d ∷ []));
        few = omega (arith, length-append gs (d ∷ []));
        within = omega arith;
      }

  -- the last character ends the number
  pub begun_ends : {n : ℤ} {d : ℕ} → at < length text → five_group (get_or text at 0) ≡ Some (d, false)
      → ((0 < d) ⊎ (begun.groups ≡ [])) → zigzag_of n ≡ value + d * 32 ^ length begun.groups
      → value + d * 32 ^ length begun.groups < 2 ^ 64 → IsNumberAt text start n (at + 1)
  begun_ends {d = d} more e short form fits =
      let gs = begun.groups in
      let us = open_units five_unit gs in
      let unit = unit_last (get_or text at 0) d e in
      let count = length-open_units gs in
      let spelled : us ++ get_or text at 0 ∷ [] ≡ shortest five_unit 32 (value + d * 32 ^ length gs) =
      ap (λ u. us ++ u ∷ []) unit.0
      ∙ sym (units_of-push five_unit gs d)
      ∙ shortest_by_last five_unit 32 gs d (lit≤ tt) (AllBelowBase-push 32 gs d begun.below unit.1) short
      ∙ ap (shortest five_unit 32) (sym (pushed gs value d begun.number)) in
      let held : AreHeld text start at us = record {
        held = sym begun.split;
        place = omega (arith, begun.further);
        go_on = open_goes_on gs begun.below;
        within = omega (arith, begun.few);
      } in
      number_at held more spelled form fits

  -- ---- the code's sum for a group

  pub more_added : (d : ℕ) → d < 32 → length begun.groups < 12
      → value + (d * 2 ^ (5 * length begun.groups)) % 2 ^ 64 ≡ value + d * 32 ^ length begun.groups
  more_added d h room = more_sum five_laws (length begun.groups) value d (omega arith) value_below h

  pub more_within : (d : ℕ) → d < 32 → length begun.groups < 12 → value + d * 32 ^ length begun.groups < 2 ^ 64
  more_within d h room = more_fits five_laws (length begun.groups) value d (omega arith) value_below h

  pub last_added : (d : ℕ) → d ≤ (2 ^ 64 - 1) / 2 ^ (5 * length begun.groups)
      → value + (d * 2 ^ (5 * length begun.groups)) % 2 ^ 64 ≡ value + d * 32 ^ length begun.groups
  last_added d h = last_sum five_laws (length begun.groups) value d (omega (arith, begun.few)) value_below h

  pub last_within : (d : ℕ) → d ≤ (2 ^ 64 - 1) / 2 ^ (5 * length begun.groups)
      → value + d * 32 ^ length begun.groups < 2 ^ 64
  last_within d h = last_fits five_laws (length begun.groups) value d (omega (arith, begun.few)) value_below h

-- ---- the first two characters

-- a number of one character
pub one_number : {text : List ℕ} {start : ℕ} {n : ℤ} {first : ℕ} → start < length text
    → five_group (get_or text start 0) ≡ Some (first, false) → zigzag_of n ≡ first
    → IsNumberAt text start n (start + 1)
one_number {text = text} {start = start} {first = first} more e form =
    let unit = unit_last (get_or text start 0) first e in
    begun_ends (begun_none (omega arith)) more e (inr refl) (omega (arith, form)) (omega (arith, unit.1))

-- the first character goes on
abbrev one_begun : {text : List ℕ} {start first : ℕ} → start + 1 < length text
    → five_group (get_or text start 0) ≡ Some (first, true) → IsBegun text start (start + 1) (0 + first * 32 ^ 0)
one_begun more e = begun_more (begun_none (omega arith)) (omega arith) e (omega arith)

-- a number of two characters
pub two_number : {text : List ℕ} {start : ℕ} {n : ℤ} {first second : ℕ} → start + 1 < length text
    → five_group (get_or text start 0) ≡ Some (first, true)
    → five_group (get_or text (start + 1) 0) ≡ Some (second, false) → 0 < second
    → zigzag_of n ≡ first + second * 32 % 2 ^ 64 → IsNumberAt text start n (start + 2)
two_number {text = text} {start = start} {n = n} {first = first} {second = second} more e f high form =
    let a = unit_more (get_or text start 0) first e in
    let b = unit_last (get_or text (start + 1) 0) second f in
    let place : (start + 1) + 1 ≡ start + 2 = omega arith in
    rw place at (begun_ends (one_begun more e) {n = n} more f (inl high) (omega (arith, form, b.1))
    (omega (arith, a.1, b.1)))

-- two characters that go on
pub two_begun : {text : List ℕ} {start first second : ℕ} → start + 1 < length text
    → five_group (get_or text start 0) ≡ Some (first, true)
    → five_group (get_or text (start + 1) 0) ≡ Some (second, true)
    → IsBegun text start (start + 2) (first + second * 32 % 2 ^ 64)
two_begun {text = text} {start = start} {first = first} {second = second} more e f =
    let b = unit_more (get_or text (start + 1) 0) second f in
    let place : (start + 1) + 1 ≡ start + 2 = omega arith in
    let value : (0 + first * 32 ^ 0) + second * 32 ^ 1 ≡ first + second * 32 % 2 ^ 64 = omega (arith, b.1) in
    subst (λ v. IsBegun text start (start + 2) v) value
    (subst (λ p. IsBegun text start p ((0 + first * 32 ^ 0) + second * 32 ^ 1)) place
    (begun_more (one_begun more e) more f (omega arith)))
