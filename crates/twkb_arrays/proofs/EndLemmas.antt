-- Where geometries end: ends that are written into an array one after another, and the counts of those without room.
use Rattle.std.proofs.Common.{◌≡◌, ◌⊎◌, inl, inr, ◌<◌, ◌≤◌, ◌+◌, ℕ, List, [], ◌∷◌, ◌++◌, length, take, drop}
use Rattle.std.proofs.Common.{refl, sym, ap, ◌∙◌, arith, length-append, append_assoc, subst, true, false}
use Rattle.std.proofs.lemmas.List.{append-nil, take-append-le, take_all}
use Rattle.std.proofs.lemmas.Bool.Decides.{nat_tests}
use Rattle.std.specs.Prelude.{nat_lt}
use Rattle.twkb_tree.specs.Tree.{Tree, saturated}
use Rattle.twkb_tree.specs.Limits.{Allowance}
use Rattle.twkb_grammar.specs.Items.{Stream}
use Rattle.twkb_arrays.specs.Ends.{AreEnds, EndAt, HasEnds, LacksEndRoom}
use Rattle.twkb_arrays.specs.SentBlobs.{FitCounted, are_more}
use Rattle.twkb_arrays.proofs.ArrayLemmas.{laid_length, laid_next}

-- ==== Ends in an array.

-- ends in one sense are ends in another
pub ends_kept : (P Q : List Tree → ℕ → Type 0) → ((gs : List Tree) (n : ℕ) → P gs n → Q gs n)
    → (before gs : List Tree) (ends : List ℕ) → AreEnds P before gs ends → AreEnds Q before gs ends
ends_kept P Q f before [] [] a = tt
ends_kept P Q f before (g ∷ gs) (e ∷ es) a = (f (before ++ g ∷ []) e a.0, ends_kept P Q f (before ++ g ∷ []) gs es a.1)
ends_kept P Q f before _ _ a = absurd a

-- the end of one more geometry
pub ends_more : (P : List Tree → ℕ → Type 0) (before gs : List Tree) (g : Tree) (ends : List ℕ) (end : ℕ)
    → AreEnds P before gs ends → P (before ++ (gs ++ g ∷ [])) end
    → AreEnds P before (gs ++ g ∷ []) (ends ++ end ∷ [])
ends_more P before [] g [] end a last = (last, tt)
ends_more P before (h ∷ gs) g (e ∷ ends) end a last = (
  a.0,
  ends_more P (before ++ h ∷ []) gs g ends end a.1
      (subst (λ (hs : List Tree). P hs end) (sym (append_assoc before (h ∷ []) (gs ++ g ∷ []))) last),
)
ends_more P before _ g _ end a last = absurd a

-- there are as many ends as geometries
pub length-ends : (P : List Tree → ℕ → Type 0) (before gs : List Tree) (ends : List ℕ) → AreEnds P before gs ends
    → length ends ≡ length gs
length-ends P before [] [] a = refl
length-ends P before (g ∷ gs) (e ∷ ends) a = omega (arith, length-ends P (before ++ g ∷ []) gs ends a.1)
length-ends P before _ _ a = absurd a

pub has_ends_kept : {P Q : List Tree → ℕ → Type 0} {old new : List ℕ} {gs : List Tree}
    → ((gs : List Tree) (n : ℕ) → P gs n → Q gs n) → HasEnds P old gs new → HasEnds Q old gs new
has_ends_kept f (inl none) = inl none
has_ends_kept {P = P} {Q = Q} {gs = gs} f (inr s) = inr (record {
  ends = s.ends;
  are_ends = ends_kept P Q f [] gs s.ends s.are_ends;
  new_is = s.new_is;
  room = s.room;
})

-- an array with ends is as long as it was
pub ends_length : {P : List Tree → ℕ → Type 0} {old now : List ℕ} {gs : List Tree} → HasEnds P old gs now
    → length now ≡ length old
ends_length (inl none) = ap (λ (l : List ℕ). length l) (none.1 ∙ sym none.0)
ends_length {P = P} {old = old} {gs = gs} (inr s) = laid_length s.ends old
    (sym (length-ends P [] gs s.ends s.are_ends)) s.new_is s.room

no_places : (l : List ℕ) → length l ≡ 0 → l ≡ []
no_places [] e = refl
no_places (x ∷ xs) e = absurd (omega (arith, e))

-- the end of one more geometry is written, if there are places
pub ends_next : {P : List Tree → ℕ → Type 0} {old now new : List ℕ} {gs : List Tree} (g : Tree) (place end : ℕ)
    → HasEnds P old gs now → P (gs ++ g ∷ []) end → place ≡ length gs → (length now ≡ 0) ⊎ (place < length now)
    → (length now ≡ 0 → new ≡ now)
    → (place < length now → new ≡ take place now ++ ((end ∷ []) ++ drop (place + 1) now))
    → HasEnds P old (gs ++ g ∷ []) new
ends_next {old = old} {now = now} g place end has last count (inl none) kept put = inl (
  no_places old (sym (ends_length has) ∙ none),
  kept none ∙ no_places now none,
)
ends_next g place end (inl empty) last count (inr within) kept put =
    absurd (omega (arith, within, ap (λ (l : List ℕ). length l) empty.1))
ends_next {P = P} {old = old} {now = now} {gs = gs} g place end (inr s) last count (inr within) kept put =
    let many = length-ends P [] gs s.ends s.are_ends in
    let more : length (gs ++ g ∷ []) ≡ length gs + 1 = length-append gs (g ∷ []) in inr (record {
      ends = s.ends ++ end ∷ [];
      are_ends = ends_more P [] gs g s.ends end s.are_ends last;
      new_is = laid_next old s.ends (end ∷ []) 1 (count ∙ sym many) (omega (arith, more, count))
          (s.new_is ∙ ap (λ (n : ℕ). s.ends ++ drop n old) (sym count)) refl (put within);
      room = omega (arith, more, count, within, ends_length (inr s));
    })

-- there is no place for the end of one more
pub lacks_end : {P : List Tree → ℕ → Type 0} {old now : List ℕ} {gs : List Tree} (g : Tree) (place : ℕ)
    → HasEnds P old gs now → place ≡ length gs → (0 < length now) × (length now ≤ place)
    → LacksEndRoom old (gs ++ g ∷ [])
lacks_end {gs = gs} g place has count lacks =
    let some = lacks.0 in
    let few = lacks.1 in (
      omega (arith, some, ends_length has),
      omega (arith, few, count, ends_length has, length-append gs (g ∷ [])),
    )

-- ==== Where geometries end in bytes.

-- in bytes that go on they end where they did
pub end_kept : (l : Allowance) (bytes more : List ℕ) (gs : List Tree) (end : ℕ) → EndAt l bytes gs end
    → EndAt l (bytes ++ more) gs end
end_kept l bytes more gs end a =
    let within = a.0 in (
      omega (arith, within, length-append bytes more),
      subst (λ (b : List ℕ). Stream l b gs) (sym (take-append-le end bytes more within)) a.1,
    )

-- a stream ends with its last byte
pub end_whole : (l : Allowance) (bytes : List ℕ) (gs : List Tree) (end : ℕ) → Stream l bytes gs → end ≡ length bytes
    → EndAt l bytes gs end
end_whole l bytes gs end s is = (
  omega (arith, is),
  subst (λ (b : List ℕ). Stream l b gs) (sym (take_all end bytes (omega (arith, is)))) s,
)

-- ==== The geometries for which there was room, and the count of those after them.

-- one more came, and there was no room for it or for one before
pub passes : {lacks : List Tree → Type 0} {given later : List Tree} {passed done : ℕ} (g : Tree)
    → FitCounted lacks given later passed done → (0 < passed) ⊎ lacks (given ++ g ∷ [])
    → FitCounted lacks given (later ++ g ∷ []) (saturated (passed + 1)) done
passes {later = []} g f (inl some) = absurd (omega (arith, f.passed_is, some))
passes {later = []} g f (inr lack) = record {
  stops = lack;
  passed_is = omega (arith, f.passed_is);
  done_is = f.done_is;
}
passes {later = x ∷ xs} g f some = record {
  stops = f.stops;
  passed_is = omega (arith, f.passed_is, length-append (x ∷ xs) (g ∷ []));
  done_is = f.done_is;
}

-- none was passed
pub none_later : {lacks : List Tree → Type 0} {given later : List Tree} {passed done : ℕ}
    → FitCounted lacks given later passed done → passed ≡ 0 → later ≡ []
none_later {later = []} f none = refl
none_later {later = x ∷ xs} f none = absurd (omega (arith, f.passed_is, none))

-- one more after others, of which none was passed
pub all_given : (given later : List Tree) (g : Tree) → later ≡ [] → (given ++ later) ++ g ∷ [] ≡ given ++ g ∷ []
all_given given later g none = ap (λ (l : List Tree). (given ++ l) ++ g ∷ []) none
    ∙ ap (λ (l : List Tree). l ++ g ∷ []) (append-nil given)

-- there was room for one more
pub has_room : {lacks : List Tree → Type 0} {given later : List Tree} {passed done : ℕ}
    (g : Tree) → FitCounted lacks given later passed done → passed ≡ 0
    → FitCounted lacks (given ++ g ∷ []) [] passed (done + 1)
has_room {given = given} g f none = record {
  stops = tt;
  passed_is = omega (arith, none);
  done_is = omega (arith, f.done_is, length-append given (g ∷ []));
}

-- whether some were passed
pub more_is : {lacks : List Tree → Type 0} {given later : List Tree} {passed done : ℕ}
    → FitCounted lacks given later passed done → nat_lt 0 passed ≡ are_more later
more_is {later = []} {passed = passed} f = at_none passed (omega (arith, f.passed_is))
  where
    at_none : (n : ℕ) → n ≡ 0 → nat_lt 0 n ≡ false
    at_none n e = grind (arith, nat_tests)
more_is {later = x ∷ xs} {passed = passed} f = at_some passed (omega (arith, f.passed_is))
  where
    at_some : (n : ℕ) → 0 < n → nat_lt 0 n ≡ true
    at_some n e = grind (arith, nat_tests)

-- at most one was passed
pub one_later : {lacks : List Tree → Type 0} {given later : List Tree} {passed done : ℕ}
    → FitCounted lacks given later passed done → passed ≤ 1 → length later ≤ 1
one_later f one = omega (arith, f.passed_is, one)

-- some were passed
pub some_later : {lacks : List Tree → Type 0} {given later : List Tree} {passed done : ℕ}
    → FitCounted lacks given later passed done → 0 < passed → later ≡ [] → ⊥
some_later f some none = omega (arith, f.passed_is, some, ap (λ (l : List Tree). length l) none)
