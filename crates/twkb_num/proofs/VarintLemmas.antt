-- Varints: the answers of their reader, their lengths, and varints appended to a piece.
use Rattle.std.proofs.Common.{◌≡◌, ℕ, ◌+◌, ◌<◌, ◌≤◌, ◌^◌, Bool, true, false, ◌⊎◌, inl, inr, Option, Some, None}
use Rattle.std.proofs.Common.{List, [], ◌∷◌, ◌++◌, length, refl, sym, ◌∙◌, ap, arith, append_assoc, length-append}
use Rattle.std.proofs.Common.{◌-◌, ◌*◌, ◌/◌, ◌%◌, map, lit<, take, set, zero, suc, Fits, w64, drop, length-take}
use Rattle.std.proofs.Common.{length-drop}
use Rattle.std.specs.Prelude.{IsTrue, ◌↔◌, if◌then◌else◌, nat_lt}
use Rattle.std.proofs.lemmas.Bool.{false≢true, cases_lt, lt-ltb, le-ltb, le-leb, lt-leb}
use Rattle.std.proofs.lemmas.List.{append-nil, map-append, length-map, take_more_set, take-set-le, length-set}
use Rattle.std.proofs.lemmas.List.{length-take-le}
use Rattle.std.proofs.lemmas.List.{take-append-le}
use Rattle.std.specs.Int.Digits.{AllBelowBase}
use Rattle.std.specs.List.{AllByRecursion}
use Rattle.std.proofs.Math.Nat.{mod-eq_of_lt, mul-le-mul_left, pow-le-pow_right, pow-suc, pow-zero}
use Rattle.std.proofs.Math.Nat.{div-div-eq-div-mul, div-one}
use Rattle.std.proofs.lemmas.Nat.{mod_below, leading_top, pow-add}
use Rattle.twkb_num.specs.Alphabet.{AlphabetLaws, leb_unit, leb_group, leb_laws}
use Rattle.twkb_num.specs.Answer.{IsAbove, IsAnswer}
use Rattle.twkb_num.specs.Spelling.{number_of, low_digits, units_of, open_units, shortest, IsSpelling, IsOpen}
use Rattle.twkb_num.specs.declared.partial.Step.{Step}
use Rattle.twkb_num.specs.declared.partial.Step.TheVariants.{More, Done, BadUnit, TooLong}
use Rattle.twkb_num.specs.Varint.{HasMarks, seven_bit_sum, IsVarint, varint_of, IsOpenVarint, four_lens, more_bytes}
use Rattle.twkb_num.specs.Varint.{lanes_cap}
use Rattle.twkb_num.proofs.SpellingLemmas.{base-le, AllBelowBase-push, number_of-lt, number_of-push, same_digits}
use Rattle.twkb_num.proofs.SpellingLemmas.{spelling_one, shortest_spelling, power_fits, length-units_of}
use Rattle.twkb_num.proofs.SpellingLemmas.{units_of-push, shortest_one, shortest_more}
use lib.Dec.{leb}
use lib.Lanes.{top, zip2, sum_l, fold_l, put_chunk}
use mathlib.Core.Bool.{cond}
use Rattle.std.specs.Int.Count.{count_leading_zeros}
use borrow.Rule.Slice.PartMut.{put_mid, mid_of, post_of}
use Rattle.std.proofs.Math.Seq.{take-append-add}
use Rattle.std.proofs.lemmas.Simd.{put_chunk_whole}
use Rattle.std.specs.Int.{to_le_bytes, bytes_low_first, byte_at}

-- ==== The answers of a reader: one answer fits, open units can become a spelling, and refused ones can't.

-- no unit says both that more follow and that none do
pub marks_apart : (g : Option (ℕ × Bool)) (d e : ℕ) → g ≡ Some (d, true) → g ≡ Some (e, false) → ⊥
marks_apart g d e p q =
    let both : Some (d, true) ≡ Some (e, false) = sym p ∙ q in
    let pair : (d, true) ≡ (e, false) = cc in
    false≢true (sym (ap (λ (z : ℕ × Bool). z.1) pair))

-- no byte is both in the alphabet and outside it
none_apart : (g : Option (ℕ × Bool)) (z : ℕ × Bool) → g ≡ None → g ≡ Some z → ⊥
none_apart g z p q = cc

-- two tests of the same fact are equal
same_flag : (P : Type 0) (s t : Bool) → (IsTrue s ↔ P) → (IsTrue t ↔ P) → s ≡ t
same_flag P true false a b = sym (b.1 (a.0 refl))
same_flag P false true a b = a.1 (b.0 refl)
same_flag P _ _ a b = refl

-- the unit u after the units us, in a spelling of `count` digits, says that more follow only if another does
abbrev StandsIn : (ℕ → Option (ℕ × Bool)) → List ℕ → ℕ → ℕ → Type 0
StandsIn group us u count = ((d : ℕ) × (group u ≡ Some (d, true)) × (length us + 1 < count))
    ⊎ ((d : ℕ) × (group u ≡ Some (d, false)))

module _ {bits longest : ℕ} {unit : ℕ → Bool → ℕ} {group : ℕ → Option (ℕ × Bool)}
    (laws : AlphabetLaws bits longest unit group) where
  -- each unit of a spelling is in the alphabet, and says that more follow only if another follows
  stands_in : (us : List ℕ) (u : ℕ) (more ds : List ℕ) → AllBelowBase (2 ^ bits) ds
      → us ++ u ∷ more ≡ units_of unit ds → StandsIn group us u (length ds)
  stands_in [] u more (d ∷ []) below e =
      let head : u ≡ unit d false = cc in
      inr (d, ap group head ∙ laws.read_back d false below.0)
  stands_in [] u more (d ∷ f ∷ ds) below e =
      let head : u ≡ unit d true = cc in
      inl (d, ap group head ∙ laws.read_back d true below.0, omega arith)
  stands_in (x ∷ us) u more (d ∷ f ∷ ds) below e =
      let rest : us ++ u ∷ more ≡ units_of unit (f ∷ ds) = cc in
      elim (stands_in us u more (f ∷ ds) below.1 rest) [
        | inl goes_on ↦ inl (goes_on.0, goes_on.1, omega (arith, goes_on.2))
        | inr ends ↦ inr ends
      ]
  stands_in us u more ds below e =
      absurd (omega (arith, ap length e, length-append us (u ∷ more), length-units_of unit ds))

  -- the last unit of a spelling says that no more follow
  last_unit : (us : List ℕ) (u : ℕ) (ds : List ℕ) → AllBelowBase (2 ^ bits) ds
      → us ++ u ∷ [] ≡ units_of unit ds → (d : ℕ) × (group u ≡ Some (d, false))
  last_unit us u ds below e = elim (stands_in us u [] ds below e) [
    | inl goes_on ↦
        absurd (omega (arith, goes_on.2, ap length e, length-append us (u ∷ []), length-units_of unit ds))
    | inr ends ↦ ends
  ]

  -- units before the last one have digits
  some_digits : (us : List ℕ) (u : ℕ) (more ds : List ℕ) → us ++ u ∷ more ≡ units_of unit ds → 1 ≤ length ds
  some_digits us u more ds e = omega (arith, ap length e, length-append us (u ∷ more), length-units_of unit ds)

  -- units whose number is too large begin no spelling
  not_above : (us : List ℕ) (u : ℕ) (more : List ℕ) (n : ℕ) → IsAbove unit (2 ^ bits) (us ++ u ∷ [])
      → IsSpelling unit (2 ^ bits) longest (us ++ u ∷ more) n → ⊥
  not_above us u more n a s =
      let regrouped : (us ++ u ∷ []) ++ more ≡ us ++ u ∷ more = append_assoc us (u ∷ []) more in
      let same = same_digits laws a.ds s.ds more [] a.below s.below (some_digits us u [] a.ds a.spelled) s.some
      (ap (λ t. t ++ more) (sym a.spelled) ∙ regrouped ∙ s.spelled ∙ sym (append-nil (units_of unit s.ds))) in
      let number : number_of (2 ^ bits) a.ds ≡ n = ap (number_of (2 ^ bits)) same ∙ s.number in
      omega (arith, a.above, s.fits)

  -- ---- one answer

  done_ends : (us : List ℕ) (u n : ℕ) → IsSpelling unit (2 ^ bits) longest (us ++ u ∷ []) n
      → (d : ℕ) × (group u ≡ Some (d, false))
  done_ends us u n s = last_unit us u s.ds s.below s.spelled

  long_reads : (us : List ℕ) (u : ℕ) → IsAnswer unit group (2 ^ bits) longest us u TooLong → (d : ℕ)
      × (more : Bool) × (group u ≡ Some (d, more))
  long_reads us u (inl t) = (t.1.0, true, t.1.1)
  long_reads us u (inr a) = let l = last_unit us u a.ds a.below a.spelled in (l.0, false, l.1)

  more_long : (us : List ℕ) (u : ℕ) → IsAnswer unit group (2 ^ bits) longest us u More
      → IsAnswer unit group (2 ^ bits) longest us u TooLong → ⊥
  more_long us u a (inl t) = omega (arith, a.0, t.0)
  more_long us u a (inr b) = let l = last_unit us u b.ds b.below b.spelled in marks_apart (group u) a.1.0 l.0 a.1.1 l.1

  done_long : (us : List ℕ) (u n : ℕ) → IsSpelling unit (2 ^ bits) longest (us ++ u ∷ []) n
      → IsAnswer unit group (2 ^ bits) longest us u TooLong → ⊥
  done_long us u n s (inl t) = let l = done_ends us u n s in marks_apart (group u) t.1.0 l.0 t.1.1 l.1
  done_long us u n s (inr b) = not_above us u [] n b s

  -- at most one answer fits
  pub answer_one : (us : List ℕ) (u : ℕ) (a b : Step)
      → IsAnswer unit group (2 ^ bits) longest us u a
      → IsAnswer unit group (2 ^ bits) longest us u b → a ≡ b
  answer_one us u More (Done n s) p q = let l = done_ends us u n q.0 in
      absurd (marks_apart (group u) p.1.0 l.0 p.1.1 l.1)
  answer_one us u More BadUnit p q = absurd (none_apart (group u) (p.1.0, true) q p.1.1)
  answer_one us u More TooLong p q = absurd (more_long us u p q)
  answer_one us u (Done n s) More p q = let l = done_ends us u n p.0 in
      absurd (marks_apart (group u) q.1.0 l.0 q.1.1 l.1)
  answer_one us u (Done n s) (Done m t) p q =
      let number : n ≡ m = (spelling_one laws (us ++ u ∷ []) (us ++ u ∷ []) [] [] n m p.0 q.0 refl).1 in
      let flag : s ≡ t = same_flag (us ++ u ∷ [] ≡ shortest unit (2 ^ bits) m) s t (rw number at p.1) q.1 in
      cc
  answer_one us u (Done n s) BadUnit p q = let l = done_ends us u n p.0 in
      absurd (none_apart (group u) (l.0, false) q l.1)
  answer_one us u (Done n s) TooLong p q = absurd (done_long us u n p.0 q)
  answer_one us u BadUnit More p q = absurd (none_apart (group u) (q.1.0, true) p q.1.1)
  answer_one us u BadUnit (Done n s) p q = let l = done_ends us u n q.0 in
      absurd (none_apart (group u) (l.0, false) p l.1)
  answer_one us u BadUnit TooLong p q = let l = long_reads us u q in absurd (none_apart (group u) (l.0, l.1) p l.2)
  answer_one us u TooLong More p q = absurd (more_long us u q p)
  answer_one us u TooLong (Done n s) p q = absurd (done_long us u n q.0 p)
  answer_one us u TooLong BadUnit p q = let l = long_reads us u p in absurd (none_apart (group u) (l.0, l.1) q l.2)
  answer_one us u _ _ p q = refl

  -- ---- what can still follow

  -- open units can be completed to a spelling: a last digit of 0 ends them
  pub open_ends : (us : List ℕ) → IsOpen unit (2 ^ bits) longest us → (u n : ℕ)
      × IsSpelling unit (2 ^ bits) longest (us ++ u ∷ []) n
  open_ends us o =
      let base = base-le bits laws.five in
      let value = number_of (2 ^ bits) o.ds in
      let small : value < (2 ^ bits) ^ length o.ds = number_of-lt (2 ^ bits) o.ds o.below in
      let many : length (o.ds ++ 0 ∷ []) ≡ length o.ds + 1 = length-append o.ds (0 ∷ []) in (
        unit 0 false,
        value,
        record {
          ds = o.ds ++ 0 ∷ [];
          spelled = ap (λ t. t ++ unit 0 false ∷ []) o.spelled ∙ sym (units_of-push unit o.ds 0);
          below = AllBelowBase-push (2 ^ bits) o.ds 0 o.below (omega arith);
          some = omega arith;
          within = omega (arith, o.room);
          number = number_of-push (2 ^ bits) o.ds 0 ∙ omega arith;
          fits = omega (arith, power_fits laws (length o.ds) o.room);
        },
      )

  -- refused units begin no spelling
  pub refused_ends : (us : List ℕ) (u : ℕ) (more : List ℕ) (n : ℕ)
      → (IsAnswer unit group (2 ^ bits) longest us u BadUnit)
      ⊎ (IsAnswer unit group (2 ^ bits) longest us u TooLong)
      → IsSpelling unit (2 ^ bits) longest (us ++ u ∷ more) n → ⊥
  refused_ends us u more n (inl bad) s = elim (stands_in us u more s.ds s.below s.spelled) [
    | inl goes_on ↦ none_apart (group u) (goes_on.0, true) bad goes_on.1
    | inr ends ↦ none_apart (group u) (ends.0, false) bad ends.1
  ]
  refused_ends us u more n (inr (inl long)) s = elim (stands_in us u more s.ds s.below s.spelled) [
    | inl goes_on ↦ omega (arith, goes_on.2, long.0, s.within)
    | inr ends ↦ marks_apart (group u) long.1.0 ends.0 long.1.1 ends.1
  ]
  refused_ends us u more n (inr (inr above)) s = not_above us u more n above s

  -- ---- when each answer is due

  -- the last of some open units says that more follow
  open_last : (us : List ℕ) (u : ℕ) (ds : List ℕ) → AllBelowBase (2 ^ bits) ds
      → us ++ u ∷ [] ≡ open_units unit ds → (d : ℕ) × (group u ≡ Some (d, true))
  open_last us u [] below e = absurd (omega (arith, ap length e, length-append us (u ∷ [])))
  open_last [] u (d ∷ ds) below e = let head : u ≡ unit d true = cc in
      (d, ap group head ∙ laws.read_back d true below.0)
  open_last (x ∷ us) u (d ∷ ds) below e = let rest : us ++ u ∷ [] ≡ open_units unit ds = cc in
      open_last us u ds below.1 rest

  -- the answer is More if the units with this one are open
  pub due_more : (us : List ℕ) (u : ℕ) (a : Step) → IsOpen unit (2 ^ bits) longest (us ++ u ∷ [])
      → IsAnswer unit group (2 ^ bits) longest us u a → a ≡ More
  due_more us u a o h =
      let many : length us + 1 ≡ length o.ds = sym (length-append us (u ∷ [])) ∙ ap length o.spelled
      ∙ length-map o.ds (λ d. unit d true) in
      answer_one us u a More h (omega (arith, o.room), open_last us u o.ds o.below o.spelled)

  -- the answer is Done if this unit ends a spelling
  pub due_done : (us : List ℕ) (u n : ℕ) (a : Step)
      → IsSpelling unit (2 ^ bits) longest (us ++ u ∷ []) n
      → IsAnswer unit group (2 ^ bits) longest us u a → (short : Bool) × (a ≡ Done n short)
  due_done us u n More s h = let l = done_ends us u n s in absurd (marks_apart (group u) h.1.0 l.0 h.1.1 l.1)
  due_done us u n (Done m short) s h = (
    short,
    ap (λ v. Done v short) (spelling_one laws (us ++ u ∷ []) (us ++ u ∷ []) [] [] m n
        h.0 s refl).1,
  )
  due_done us u n BadUnit s h = absurd (refused_ends us u [] n (inl h) s)
  due_done us u n TooLong s h = absurd (refused_ends us u [] n (inr h) s)

-- ==== Varints as the spellings by seven bits; no varint begins another; which ones are too long.

-- a varint's bytes are the units of their low seven bits
sevens_spell : (bs : List ℕ) → HasMarks bs → bs ≡ units_of leb_unit (map (λ b. b % 128) bs)
sevens_spell [] h = absurd h
sevens_spell (b ∷ []) h = ap (λ n. n ∷ []) (sym (mod-eq_of_lt h))
sevens_spell (b ∷ c ∷ bs) h =
    let high : b ≡ b % 128 + 128 = omega (arith, h.0, h.1) in
    let rest = sevens_spell (c ∷ bs) h.2 in
    ap (λ n. n ∷ c ∷ bs) high ∙ ap (λ ts. (b % 128 + 128) ∷ ts) rest

-- the low seven bits of bytes are digits
sevens_below : (bs : List ℕ) → AllBelowBase 128 (map (λ b. b % 128) bs)
sevens_below [] = tt
sevens_below (b ∷ bs) = (mod_below b 128 (omega arith), sevens_below bs)

-- the low seven bits stand for the sum
sevens_sum : (bs : List ℕ) → number_of 128 (map (λ b. b % 128) bs) ≡ seven_bit_sum bs
sevens_sum [] = refl
sevens_sum (b ∷ bs) = rw (sevens_sum bs) refl

-- a varint has a byte
marks_some : (bs : List ℕ) → HasMarks bs → 1 ≤ length bs
marks_some [] h = absurd h
marks_some (b ∷ bs) h = omega arith

-- the units of digits have a varint's marks
units_marked : (ds : List ℕ) → AllBelowBase 128 ds → 1 ≤ length ds → HasMarks (units_of leb_unit ds)
units_marked [] p h = absurd (omega arith)
units_marked (d ∷ []) p h = p.0
units_marked (d ∷ e ∷ []) p h = (omega arith, omega (arith, p.0), p.1.0)
units_marked (d ∷ e ∷ f ∷ ds) p h = (omega arith, omega (arith, p.0), units_marked (e ∷ f ∷ ds) p.1 (omega arith))

-- the sum of the units of digits is their number
units_sum : (ds : List ℕ) → AllBelowBase 128 ds → seven_bit_sum (units_of leb_unit ds) ≡ number_of 128 ds
units_sum [] p = refl
units_sum (d ∷ []) p = rw (mod-eq_of_lt p.0) refl
units_sum (d ∷ e ∷ ds) p =
    let low : (d + 128) % 128 ≡ d = omega (arith, p.0) in
    rw (low, units_sum (e ∷ ds) p.1) refl

-- varints are the spellings by seven bits
pub varint_is : (bs : List ℕ) (n : ℕ) → (IsVarint bs n → IsSpelling leb_unit 128 10 bs n)
    × (IsSpelling leb_unit 128 10 bs n → IsVarint bs n)
varint_is bs n = (
  λ v. record {
    ds = map (λ b. b % 128) bs;
    spelled = sevens_spell bs v.marked;
    below = sevens_below bs;
    some = rw (length-map bs (λ b. b % 128)) (marks_some bs v.marked);
    within = rw (length-map bs (λ b. b % 128)) v.within;
    number = sevens_sum bs ∙ v.sum;
    fits = v.fits;
  },
  λ s. record {
    marked = rw s.spelled (units_marked s.ds s.below s.some);
    within = rw (s.spelled, length-units_of leb_unit s.ds) s.within;
    sum = ap seven_bit_sum s.spelled ∙ units_sum s.ds s.below ∙ s.number;
    fits = s.fits;
  },
)

-- no varint begins another, and each spells one number
pub one_varint : (a b x y : List ℕ) (m n : ℕ) → IsVarint a m → IsVarint b n → a ++ x ≡ b ++ y → (m ≡ n) × (a ≡ b)
one_varint a b x y m n va vb e = let s = spelling_one leb_laws a b x y m n ((varint_is a m).0 va)
    ((varint_is b n).0 vb) e in (s.1, s.0)

-- the shortest varint is a varint
pub IsVarint-varint_of : (n : ℕ) → n < 2 ^ 64 → IsVarint (varint_of n) n
IsVarint-varint_of n h = (varint_is (varint_of n) n).1 (shortest_spelling leb_laws n h)

-- the shortest varint of 64 bits has at most ten bytes
pub length-varint_of : (n : ℕ) → n < 2 ^ 64 → length (varint_of n) ≤ 10
length-varint_of n h = (IsVarint-varint_of n h).within

-- ---- bytes that begin a varint

-- bytes with the top bit set are the open units of their low seven bits
open_sevens : (bs : List ℕ) → AllByRecursion (λ b. 128 ≤ b) bs → AllByRecursion (λ b. b < 256) bs
    → bs ≡ open_units leb_unit (map (λ b. b % 128) bs)
open_sevens [] h l = refl
open_sevens (b ∷ bs) h l =
    let first : b ≡ b % 128 + 128 = omega (arith, h.0, l.0) in
    ap (λ n. n ∷ bs) first ∙ ap (λ ts. (b % 128 + 128) ∷ ts) (open_sevens bs h.1 l.1)

-- open units have their top bit set
open_high : (ds : List ℕ) → AllByRecursion (λ b. 128 ≤ b) (open_units leb_unit ds)
open_high [] = tt
open_high (d ∷ ds) = (omega arith, open_high ds)

-- open units are bytes
open_low : (ds : List ℕ) → AllBelowBase 128 ds → AllByRecursion (λ b. b < 256) (open_units leb_unit ds)
open_low [] p = tt
open_low (d ∷ ds) p = (omega (arith, p.0), open_low ds p.1)

-- the bytes that begin varints are open units by seven bits
pub open_varint_is : (bs : List ℕ) → (IsOpenVarint bs → IsOpen leb_unit 128 10 bs)
    × (IsOpen leb_unit 128 10 bs → IsOpenVarint bs)
open_varint_is bs = (
  λ v. record {
    ds = map (λ b. b % 128) bs;
    spelled = open_sevens bs v.high v.below;
    below = sevens_below bs;
    room = rw (length-map bs (λ b. b % 128)) (omega (arith, v.room));
  },
  λ s. record {
    high = rw s.spelled (open_high s.ds);
    below = rw s.spelled (open_low s.ds s.below);
    room = rw (s.spelled, length-map s.ds (λ d. leb_unit d true)) (omega (arith, s.room));
  },
)

-- ---- varints that are too long

-- a sum of 2 ^ 64 or above needs nine bytes and a tenth above 1
too_large : (us : List ℕ) (u : ℕ) → length us ≤ 9 → 2 ^ 64 ≤ seven_bit_sum (us ++ u ∷ []) → (length us ≡ 9) × (2 ≤ u)
too_large us u room large =
    let ds = map (λ b. b % 128) us in
    let sum : seven_bit_sum (us ++ u ∷ []) ≡ number_of 128 ds + 128 ^ length ds * (u % 128) =
    sym (sevens_sum (us ++ u ∷ [])) ∙ ap (number_of 128) (map-append (λ b. b % 128) us (u ∷ []))
    ∙ number_of-push 128 ds (u % 128) in
    let count : 128 ^ length ds ≡ 128 ^ length us = ap (λ k. 128 ^ k) (length-map us (λ b. b % 128)) in
    let scaled : 128 ^ length ds * (u % 128) ≡ 128 ^ length us * (u % 128) = ap (λ p. p * (u % 128)) count in
    let low = number_of-lt 128 ds (sevens_below us) in
    let digit : u % 128 < 128 = mod_below u 128 (omega arith) in
    elim (cases_lt (length us) 9) [
      | inl short ↦
          let few : length us ≤ 8 = omega arith in
          let power : 128 ^ length us ≤ 128 ^ 8 = pow-le-pow_right {n = 128} (lit< tt) few in
          let product : 128 ^ length us * (u % 128) ≤ 128 ^ length us * 127 = mul-le-mul_left
          (128 ^ length us) (omega arith) in
          absurd (omega arith)
      | inr long ↦
          let nine : length us ≡ 9 = omega arith in
          let power : 128 ^ length us ≡ 128 ^ 9 = ap (λ k. 128 ^ k) nine in (
            nine,
            elim (cases_lt u 2) [
              | inl small ↦ let same : u % 128 ≡ u = mod-eq_of_lt (omega arith) in
                  let product : 128 ^ length us * (u % 128) ≤ 128 ^ length us * 1 = mul-le-mul_left
                  (128 ^ length us) (omega arith) in
                  absurd (omega arith)
              | inr above ↦ above
            ],
          )
    ]

-- a byte that says that more follow has its top bit set
pub high_from_group : (u d : ℕ) → leb_group u ≡ Some (d, true) → 128 ≤ u
high_from_group u d e =
    elim (cases_lt u 128) [
      | inl small ↦ let last : leb_group u ≡ Some (u, false) = rw (lt-ltb u 128 small) refl in
          absurd (marks_apart (leb_group u) d u e last)
      | inr high ↦ high
    ]

-- a varint is too long exactly if its tenth byte is above 1
pub too_long_is : (us : List ℕ) (u : ℕ) → IsOpenVarint us → u < 256
    → IsAnswer leb_unit leb_group 128 10 us u TooLong ↔ ((length us ≡ 9) × (2 ≤ u))
too_long_is us u o small = (λ t. long us u o t, λ h. answered us u o small h.0 h.1)
  where
    long : (us : List ℕ) (u : ℕ) → IsOpenVarint us → IsAnswer leb_unit leb_group 128 10 us u TooLong
        → (length us ≡ 9) × (2 ≤ u)
    long us u o (inl goes_on) = (omega (arith, goes_on.0), omega (arith, high_from_group u goes_on.1.0 goes_on.1.1))
    long us u o (inr above) = too_large us u o.room (rw above.spelled (rw (units_sum above.ds above.below) above.above))

    answered : (us : List ℕ) (u : ℕ) → IsOpenVarint us → u < 256 → length us ≡ 9 → 2 ≤ u
        → IsAnswer leb_unit leb_group 128 10 us u TooLong
    answered us u o small nine two =
        elim (cases_lt u 128) [
          | inl last ↦
              let ds = map (λ b. b % 128) us in
              let power : 128 ^ length ds ≡ 128 ^ 9 = ap (λ k. 128 ^ k) (length-map us (λ b. b % 128) ∙ nine) in
              let product : 128 ^ length ds * 2 ≤ 128 ^ length ds * u = mul-le-mul_left (128 ^ length ds) two in
              inr (record {
                ds = ds ++ u ∷ [];
                spelled = ap (λ bs. bs ++ u ∷ []) (open_sevens us o.high o.below) ∙ sym (units_of-push leb_unit ds u);
                below = AllBelowBase-push 128 ds u (sevens_below us) last;
                above = rw (number_of-push 128 ds u) (omega arith);
              })
          | inr high ↦ inl (omega arith, (u - 128, high_group u high))
        ]
      where
        high_group : (u : ℕ) → 128 ≤ u → leb_group u ≡ Some (u - 128, true)
        high_group u h = rw (le-ltb u 128 h) refl

-- ---- the length of the shortest varint

-- a number below 128 has one byte
pub one_byte : (n : ℕ) → n < 128 → length (varint_of n) ≡ 1
one_byte n h = ap length (shortest_one leb_unit 128 n h)

-- any other number has one byte more than its quotient
pub one_byte_more : (n : ℕ) → 128 ≤ n → length (varint_of n) ≡ 1 + length (varint_of (n / 128))
one_byte_more n h = omega (arith, ap length (shortest_more leb_unit 128 n (lit< tt) h))

-- a varint has a byte
pub some_byte : (n : ℕ) → 1 ≤ length (varint_of n)
some_byte n = elim (cases_lt n 128) [
  | inl small ↦ omega (arith, one_byte n small)
  | inr large ↦ omega (arith, one_byte_more n large)
]

pub ruleset varint_lengths = (one_byte, one_byte_more, length-varint_of)

-- ==== Numbers appended to a piece.

-- a number below 128 is one byte
pub last_byte : (n : ℕ) → n < 128 → varint_of n ≡ n ∷ []
last_byte n h = shortest_one leb_unit 128 n h

-- any other number is a byte that says that more follow, and the bytes of its quotient
pub byte_more : (n : ℕ) → 128 ≤ n → varint_of n ≡ (n % 128 + 128) ∷ varint_of (n / 128)
byte_more n h = shortest_more leb_unit 128 n (lit< tt) h

-- two bytes are written, and only one is counted if the number has one
pub both_written : (bytes : List ℕ) (at n lead len : ℕ) → at + 2 ≤ length bytes → n < 2 ^ 14
    → lead ≡ (if nat_lt n 128 then n else n % 128 + 128) → len ≡ length (varint_of n)
    → take (at + len) (set (set bytes at lead) (at + 1) (n / 128)) ≡ take at bytes ++ varint_of n
both_written bytes at n lead len room small lead_is len_is =
    elim (cases_lt n 128) [
      | inl one ↦
          let spelled = last_byte n one in
          let lead_one : lead ≡ n = lead_is ∙ rw (lt-ltb n 128 one) refl in
          let count : at + len ≡ at + 1 = omega (arith, len_is, ap length spelled) in
          ap (λ k. take k (set (set bytes at lead) (at + 1) (n / 128))) count
          ∙ take-set-le (at + 1) (set bytes at lead) (at + 1) (n / 128) (omega arith)
          ∙ take_more_set bytes at lead (omega arith)
          ∙ ap (λ b. take at bytes ++ b ∷ []) lead_one
          ∙ ap (λ bs. take at bytes ++ bs) (sym spelled)
      | inr two ↦
          let high : n / 128 < 128 = omega arith in
          let spelled : varint_of n ≡ (n % 128 + 128) ∷ (n / 128) ∷ [] = byte_more n two
          ∙ ap (λ bs. (n % 128 + 128) ∷ bs) (last_byte (n / 128) high) in
          let lead_two : lead ≡ n % 128 + 128 = lead_is ∙ rw (le-ltb n 128 two) refl in
          let count : at + len ≡ at + 1 + 1 = omega (arith, len_is, ap length spelled) in
          ap (λ k. take k (set (set bytes at lead) (at + 1) (n / 128))) count
          ∙ take_more_set (set bytes at lead) (at + 1) (n / 128) (omega (arith, length-set bytes at lead))
          ∙ ap (λ bs. bs ++ (n / 128) ∷ []) (take_more_set bytes at lead (omega arith))
          ∙ append_assoc (take at bytes) (lead ∷ []) ((n / 128) ∷ [])
          ∙ ap (λ b. take at bytes ++ (b ∷ (n / 128) ∷ [])) lead_two
          ∙ ap (λ bs. take at bytes ++ bs) (sym spelled)
    ]

-- there is room for two bytes
pub room_for_two : (room : ℕ) (bytes held : List ℕ) (at : ℕ) → at ≤ room → length bytes ≡ room
    → take at bytes ≡ held → length held + 2 ≤ room → at + 2 ≤ length bytes
room_for_two room bytes held at within whole view enough = omega
    (arith, ap length view, length-take-le at bytes (omega arith))

-- a byte that says that more follow is written, and the quotient is left
pub written_more : (held whole now : List ℕ) (n lead number : ℕ) → 128 ≤ n
    → lead ≡ (if nat_lt n 128 then n else n % 128 + 128) → now ≡ held ++ lead ∷ []
    → held ++ varint_of n ≡ whole ++ varint_of number
    → now ++ varint_of (n / 128) ≡ whole ++ varint_of number
written_more held whole now n lead number more lead_is pushed so_far =
    let lead_more : lead ≡ n % 128 + 128 = lead_is ∙ rw (le-ltb n 128 more) refl in
    ap (λ bs. bs ++ varint_of (n / 128)) pushed
    ∙ append_assoc held (lead ∷ []) (varint_of (n / 128))
    ∙ ap (λ b. held ++ (b ∷ varint_of (n / 128))) lead_more
    ∙ ap (λ bs. held ++ bs) (sym (byte_more n more))
    ∙ so_far

-- the last byte is written, and nothing is left
pub written_last : (held whole now : List ℕ) (n number : ℕ) → n < 128 → now ≡ held ++ n ∷ []
    → held ++ varint_of n ≡ whole ++ varint_of number → now ≡ whole ++ varint_of number
written_last held whole now n number small pushed so_far = pushed
    ∙ ap (λ bs. held ++ bs) (sym (last_byte n small)) ∙ so_far

-- there is room for a byte while the number is not complete
pub room_here : (room : ℕ) (held whole : List ℕ) (n number : ℕ)
    → held ++ varint_of n ≡ whole ++ varint_of number
    → length whole + length (varint_of number) ≤ room → length held < room
room_here room held whole n number so_far enough =
    omega (
      arith,
      ap length so_far,
      length-append held (varint_of n),
      length-append whole (varint_of number),
      some_byte n,
    )

-- a number takes at most ten bytes
pub ten_at_most : (held now : List ℕ) (n : ℕ) → now ≡ held ++ varint_of n → n < 2 ^ 64 → length now ≤ length held + 10
ten_at_most held now n e fits = omega (arith, ap length e, length-append held (varint_of n), length-varint_of n fits)

-- ==== The length of the shortest varint, by the place of the number's highest bit.

-- two to the power 7 + i is 128 times two to the power i
pow-seven : (i : ℕ) → 2 ^ (7 + i) ≡ 128 * 2 ^ i
pow-seven i = pow-add 2 7 i

-- a number whose highest bit is at j has j / 7 + 1 bytes; so has 0, if j is 0
pub length_by_top : (k j n : ℕ) → j / 7 ≡ k → 2 ^ j ≤ n / 2 * 2 + 1 → n < 2 ^ suc j → length (varint_of n) ≡ k + 1
length_by_top zero j n first low high =
    let few : 2 ^ suc j ≤ 2 ^ 7 = pow-le-pow_right {n = 2} (lit< tt) {i = suc j} {j = 7} (omega (arith, first)) in
    omega (arith, one_byte n (omega (arith, high, few)))
length_by_top (suc k) j n more low high =
    let i : ℕ = j - 7 in
    let place : j ≡ 7 + i = omega (arith, more) in
    let next : suc j ≡ 7 + suc i = omega (arith, more) in
    let least : 2 ^ j ≡ 128 * 2 ^ i = ap (λ m. 2 ^ m) place ∙ pow-seven i in
    let past : 2 ^ suc j ≡ 128 * 2 ^ suc i = ap (λ m. 2 ^ m) next ∙ pow-seven (suc i) in
    let some : 1 ≤ 2 ^ i = pow-le-pow_right {n = 2} (lit< tt) {i = 0} {j = i} (omega arith) in
    let rest : length (varint_of (n / 128)) ≡ k + 1 = length_by_top k i (n / 128)
    (omega (arith, more)) (omega (arith, low, least)) (omega (arith, high, past)) in
    omega (arith, rest, one_byte_more n (omega (arith, low, least, some)))

-- the leading zeros of the number with its last bit set give the length
pub length_by_zeros : (n : ℕ) → n < 2 ^ 64 → (63 - count_leading_zeros 64 (n / 2 * 2 + 1)) / 7 + 1
    ≡ length (varint_of n)
length_by_zeros n fits =
    let top = leading_top 64 (n / 2 * 2 + 1) (omega arith) (omega (arith, fits)) in
    let j : ℕ = top.0 in
    let place : 63 - count_leading_zeros 64 (n / 2 * 2 + 1) ≡ j = omega (arith, top.1) in
    let bytes : length (varint_of n) ≡ j / 7 + 1 = length_by_top (j / 7) j n refl top.2 (omega (arith, top.3)) in
    omega (arith, place, bytes)

-- ---- lengths by comparisons

-- what a comparison with a bound adds to a length
abbrev pub one_from : ℕ → ℕ → ℕ
one_from bound n = cond (top 31 (cond (leb bound n) 4294967295 0)) 1 0

-- the bytes after the first, as the code adds them
abbrev pub added : ℕ → ℕ
added n = ((one_from 128 n + one_from 16384 n) % 4294967296 + one_from 2097152 n) % 4294967296

-- comparisons with three bounds give the bytes after the first of a number below 2 ^ 28
length_by_bounds : (n : ℕ) → n < 2 ^ 28 → length (varint_of n) ≡ added n + 1
length_by_bounds n small =
    elim (cases_lt n 128) [
      | inl one ↦ rw (lt-leb 128 n one, lt-leb 16384 n (omega arith), lt-leb 2097152 n (omega arith)) (one_byte n one)
      | inr two ↦ elim (cases_lt n 16384) [
        | inl below ↦
            rw (le-leb 128 n two, lt-leb 16384 n below, lt-leb 2097152 n (omega arith))
            (omega (arith, one_byte_more n two, one_byte (n / 128) (omega arith)))
        | inr three ↦ elim (cases_lt n 2097152) [
          | inl below ↦
              rw (le-leb 128 n two, le-leb 16384 n three, lt-leb 2097152 n below)
              (omega (
                arith,
                one_byte_more n two,
                one_byte_more (n / 128) (omega arith),
                one_byte (n / 128 / 128) (omega arith),
              ))
          | inr four ↦
              rw (le-leb 128 n two, le-leb 16384 n three, le-leb 2097152 n four)
              (omega (
                arith,
                one_byte_more n two,
                one_byte_more (n / 128) (omega arith),
                one_byte_more (n / 128 / 128) (omega arith),
                one_byte (n / 128 / 128 / 128)
                    (omega arith),
              ))
        ]
      ]
    ]

-- the sum that the code adds is the number of bytes after the first
pub added_is : (n : ℕ) → n < 2 ^ 28 → added n ≡ more_bytes n
added_is n small = omega (arith, length_by_bounds n small)

-- a comparison adds at most one byte
one_at_most : (more : Bool) → cond more 1 0 ≤ 1
one_at_most true = omega arith
one_at_most false = omega arith

-- a number below 2 ^ 28 has at most four bytes
short_length : (n : ℕ) → n < 2 ^ 28 → length (varint_of n) ≤ 4
short_length n small =
    let one = λ (bound : ℕ). let few : one_from bound n ≤ 1 = one_at_most (top 31 (cond (leb bound n) 4294967295 0))
    in few in
    omega (arith, length_by_bounds n small, one 128, one 16384, one 2097152)

-- ---- sums of lanes

-- lanes are added one by one, without a carry if both sums fit
lanes_more : (ls ms : List ℕ) → length ls ≡ length ms → sum_l ls + sum_l ms < 4294967296
    → sum_l (zip2 (λ x y. (x + y) % 4294967296) ls ms) ≡ sum_l ls + sum_l ms
lanes_more [] [] count fits = refl
lanes_more (l ∷ ls) (m ∷ ms) count fits = let rest = lanes_more ls ms (omega arith) (omega arith) in omega arith
lanes_more _ _ count fits = absurd (omega arith)

-- four varints of numbers below 2 ^ 28 have at most sixteen bytes
pub few_lens : (a b c d : ℕ) → a < 2 ^ 28 → b < 2 ^ 28 → c < 2 ^ 28 → d < 2 ^ 28 → four_lens a b c d ≤ 16
few_lens a b c d p q r s =
    omega (arith, short_length a p, short_length b q, short_length c r, short_length d s)

-- four lengths are added to the lanes and the other bytes
pub lens_added : (ls : List ℕ) (o a b c d : ℕ) → length ls ≡ 4 → sum_l ls + o ≤ lanes_cap → a < 2 ^ 28
    → b < 2 ^ 28 → c < 2 ^ 28 → d < 2 ^ 28
    → sum_l (zip2 (λ x y. (x + y) % 4294967296) ls
    (more_bytes a ∷ more_bytes b ∷ more_bytes c ∷ more_bytes d ∷ [])) + (o + 4)
    ≡ sum_l ls + o + four_lens a b c d
lens_added ls o a b c d four room p q r s =
    let ms = more_bytes a ∷ more_bytes b ∷ more_bytes c ∷ more_bytes d ∷ [] in
    let few = few_lens a b c d p q r s in
    omega (arith, lanes_more ls ms four (omega arith), some_byte a, some_byte b, some_byte c, some_byte d)

-- a sum grows by at most sixteen
pub grown_few : (new old more : ℕ) → new ≡ old + more → more ≤ 16 → new ≤ old + 16
grown_few new old more e few = omega arith

-- lanes whose sum fits are added up without a carry
pub lanes_total : (ls : List ℕ) (o : ℕ) → length ls ≡ 4 → sum_l ls + o ≤ lanes_cap
    → fold_l (λ s x. (s + x) % 4294967296) 0 ls ≡ sum_l ls
lanes_total (w ∷ x ∷ y ∷ z ∷ []) o four room = omega (arith, room)
lanes_total _ o four room = absurd (omega arith)

-- the lanes and the other bytes add up to the whole sum
pub total_is : (ls : List ℕ) (sum o now : ℕ) → length ls ≡ 4
    → sum ≡ fold_l (λ s x. (s + x) % 4294967296) 0 ls → sum_l ls + o ≡ now → now ≤ lanes_cap
    → sum + o ≡ now
total_is ls sum o now four sum_is whole room =
    let lanes = lanes_total ls o four (omega (arith, whole, room)) in
    ap (λ x. x + o) (sum_is ∙ lanes) ∙ whole

-- the whole sum fits 64 bits
pub total_fits : (sum o now : ℕ) → sum + o ≡ now → now ≤ lanes_cap → Fits w64 (sum + o)
total_fits sum o now is room = record { fits = omega arith }

-- ==== The bytes that a piece holds.

-- the first k of the lowest m digits are the lowest k
take-low_digits : (k m n : ℕ) → k ≤ m → take k (low_digits 256 m n) ≡ low_digits 256 k n
take-low_digits zero m n few = refl
take-low_digits (suc k) zero n few = absurd (omega arith)
take-low_digits (suc k) (suc m) n few = ap (λ bs. (n % 256) ∷ bs) (take-low_digits k m (n / 256) (omega arith))

-- std's `byte_at` is a quotient's remainder at every place
byte_at-is : (i n : ℕ) → byte_at i n ≡ n / 256 ^ i % 256
byte_at-is zero n = rw (pow-zero 256, div-one n) refl
byte_at-is (suc i) n = refl

-- std's `bytes_low_first` gives the lowest digits
bytes_low_first-is : (i k n : ℕ) → bytes_low_first i k n ≡ low_digits 256 k (n / 256 ^ i)
bytes_low_first-is i zero n = refl
bytes_low_first-is i (suc k) n =
    let next : n / 256 ^ i / 256 ≡ n / 256 ^ suc i = div-div-eq-div-mul n (256 ^ i) 256
    ∙ ap (λ p. n / p) (sym (pow-suc 256 i)) in
    ap (λ b. b ∷ bytes_low_first (suc i) k n) (byte_at-is i n)
    ∙ ap (λ bs. (n / 256 ^ i % 256) ∷ bs) (bytes_low_first-is (suc i) k n ∙ ap (low_digits 256 k) (sym next))

-- the lowest bytes of a word of 64 bits
pub take-le_bytes : (k n : ℕ) → k ≤ 8 → take k (to_le_bytes w64 n) ≡ low_digits 256 k n
take-le_bytes k n few =
    ap (take k) (bytes_low_first-is 0 8 n ∙ ap (low_digits 256 8) (rw (pow-zero 256) (div-one n)))
    ∙ take-low_digits k 8 n few

-- bytes stored after those held, of which the first `count` are kept
pub front_stored : (bytes held stored : List ℕ) (at room count : ℕ) → at ≤ length bytes
    → take at bytes ≡ held → count ≤ length stored
    → take (at + count) (put_mid at room bytes stored) ≡ held ++ take count stored
front_stored bytes held stored at room count within view few =
    let place : at + count ≡ length (take at bytes) + count = omega (arith, length-take-le at bytes within) in
    ap (λ k. take k (put_mid at room bytes stored)) place
    ∙ take-append-add (take at bytes) (stored ++ post_of at room bytes) count
    ∙ ap (λ bs. take at bytes ++ bs) (take-append-le count stored (post_of at room bytes) few)
    ∙ ap (λ bs. bs ++ take count stored) view

-- eight bytes stored after those held, of which some are kept
pub eight_stored : (bytes held stored : List ℕ) (at room count : ℕ) → room ≡ 8
    → at + 8 ≤ length bytes → take at bytes ≡ held → count ≤ 8 → length stored ≡ 8
    → take (at + count) (put_mid at room bytes (put_chunk 0 (mid_of at room bytes) stored)) ≡ held ++ take count stored
eight_stored bytes held stored at room count eight within view few long =
    let chunk : put_chunk 0 (mid_of at room bytes) stored ≡ stored = put_chunk_whole
    (mid_of at room bytes) stored
    (omega (arith, length-take room (drop at bytes), length-drop at bytes)) in
    front_stored bytes held (put_chunk 0 (mid_of at room bytes) stored) at room count
    (omega (arith, within)) view (omega (arith, ap length chunk))
    ∙ ap (λ bs. held ++ take count bs) chunk
