-- The bytes that a reader gives, and puts that were cut.
use Rattle.std.proofs.Common.{◌≡◌, Bool, true, false, ◌≢◌, ◌≤◌, ◌<◌, ◌+◌, ◌-◌, min, ℕ, List, [], ◌∷◌, ◌++◌, take}
use Rattle.std.proofs.Common.{drop, length, Option, Some, None, arith, ap, sym, ◌∙◌, inl, inr, append_assoc}
use Rattle.std.proofs.Common.{length-append, length-drop, subst, append-nil, refl}
use Rattle.std.specs.Prelude.{Result, Ok, Err, IfSome, slice_get, slice_range}
use Rattle.std.proofs.KnownBytes.{Keeps-refl, prepend_known-end}
use Rattle.std.proofs.Math.Nat.{eq-or-lt_of_le}
use Rattle.std.proofs.Math.Seq.{take-nil, take-append-add}
use Rattle.std.proofs.lemmas.List.{length-take, nil_from_length, take-take, drop-take, drop-drop, take-append-drop}
use Rattle.std.proofs.lemmas.List.{length-take-le, take-append-le}
use Rattle.std.specs.Io.KnownBytes.{Consumes, IsAtEnd, Keeps, prepend_known}
use Rattle.twkb_io.specs.Taps.{passed}
use Rattle.twkb_io.specs.Sinks.{TookFront}
use Rattle.twkb_io.specs.Outputs.{Cut, Refused, Took, is_device, sent_of, refused_join}
use Rattle.twkb_io.specs.declared.output.Output.{Output}
use Rattle.twkb_io.specs.declared.output.OutFault.{OutFault}
use Rattle.twkb_io.specs.declared.output.OutFault.TheVariants as fault

-- ==== An answer is either `Ok` or one error.

-- a call that passed was not refused
pub ok_no_err : {T E : Type 0} {x : T} {e : E} → ◌≡◌ {A = Result T E} (Ok x) (Err e) → ⊥
ok_no_err other = cc other

-- of two calls that passed, neither was refused
pub both_ok : {T U E F : Type 0} {x : T} {y : U} {e : E} {k : F}
    → ◌≡◌ {A = Result T E} (Ok x) (Err e) → ◌≡◌ {A = Result U F} (Ok y) (Err k)
both_ok other = absurd (ok_no_err other)

-- a call that is refused as another is refused for the same reason
pub same_fault : {T U E : Type 0} {e k : E} → ◌≡◌ {A = Result T E} (Err e) (Err k)
    → ◌≡◌ {A = Result U E} (Err e) (Err k)
same_fault same = cc same

-- a test is not both true and false
pub not_both : {test : Bool} → test ≡ true → test ≡ false → ⊥
not_both was other = cc (was, other)

-- ==== The held bytes of an array: its unused part from `at` to `filled`, as far as there is room.

-- after n more bytes, the unused part has lost its first n
pub unused_advanced : (held : List ℕ) (at filled n : ℕ) → at + n ≤ filled
    → slice_range held (at + n) filled ≡ drop n (slice_range held at filled)
unused_advanced held at filled n fits =
    let parts : filled - at ≡ n + (filled - (at + n)) = omega arith in
    sym (ap (λ k. drop n (take k (drop at held))) parts
    ∙ drop-take n (filled - (at + n)) (drop at held)
    ∙ ap (take (filled - (at + n))) (drop-drop n at held))

-- after n more bytes, the held bytes have lost their first n
pub held_advanced : (unused : List ℕ) (most given n : ℕ) → given + n ≤ most
    → take (most - (given + n)) (drop n unused) ≡ drop n (take (most - given) unused)
held_advanced unused most given n fits =
    let parts : most - given ≡ n + (most - (given + n)) = omega arith in
    sym (ap (λ k. drop n (take k unused)) parts ∙ drop-take n (most - (given + n)) unused)

-- a prefix of the unused part is a prefix of the rest, and dropping it consumes it
pub consumed_front : (unused : List ℕ) (known : Option (List ℕ)) (n room : ℕ) → n ≤ room
    → Consumes (prepend_known unused known) (prepend_known (drop n unused) known) (take n (take room unused))
consumed_front unused None n room fits = tt
consumed_front unused (Some more) n room fits =
    ap (λ l. l ++ more) (sym (take-append-drop n unused)) ∙ append_assoc (take n unused) (drop n unused) more
    ∙ ap (λ l. l ++ (drop n unused ++ more)) (sym (take-take n room unused fits))

-- an array is used up only at the end
pub not_used_up : (at filled : ℕ) (ended : Bool) → at ≤ filled → (at ≡ filled → ended ≡ true)
    → ended ≡ false → at < filled
not_used_up at filled ended ordered end more = elim (eq-or-lt_of_le ordered)
    [ inl same ↦ absurd (cc (end same, more)) | inr less ↦ less ]

-- a byte is held if the array is not used up and there is room
pub some_held : (held : List ℕ) (at filled room : ℕ) → at < filled → filled ≤ length held → 0 < room
    → take room (slice_range held at filled) ≢ []
some_held held at filled room less within roomy none =
    omega (
      arith,
      ap length none,
      length-take room (slice_range held at filled),
      length-take (filled - at) (drop at held),
      length-drop at held,
    )

-- the rest is not empty if the array has an unused byte
pub held_rest : (held : List ℕ) (known : Option (List ℕ)) (at filled : ℕ) → at < filled → filled ≤ length held
    → IfSome (prepend_known (slice_range held at filled) known) (λ rest. rest ≢ [])
held_rest held None at filled less within = tt
held_rest held (Some more) at filled less within = λ none.
    omega (
      arith,
      ap length none,
      length-append (slice_range held at filled) more,
      length-take (filled - at) (drop at held),
      length-drop at held,
    )

-- a rest that was kept and is not empty was not empty before
pub kept_rest : (old new : Option (List ℕ)) → Keeps old new → IfSome new (λ rest. rest ≢ [])
    → IfSome old (λ rest. rest ≢ [])
kept_rest None new keeps some = tt
kept_rest (Some rest) None keeps some = absurd keeps
kept_rest (Some rest) (Some same) keeps some = λ none. some (keeps ∙ none)

-- a number of held bytes stays within the array and the room
pub count_fits : (held : List ℕ) (at filled room n : ℕ) → at ≤ filled
    → n ≤ length (take room (slice_range held at filled)) → (at + n ≤ filled) × (n ≤ room)
count_fits held at filled room n ordered fits =
    let unused = slice_range held at filled in
    let cut : length (take room unused) ≡ min room (length unused) = length-take room unused in
    let part : length unused ≡ min (filled - at) (length (drop at held)) = length-take (filled - at) (drop at held) in
    (omega arith, omega arith)

-- bytes without a first byte are none
pub no_first : (piece held : List ℕ) → piece ≡ held → None ≡ slice_get piece 0 → held ≡ []
no_first [] held same none = sym same
no_first (x ∷ xs) held same none = absurd (cc none)

-- a rest that was kept and is at its end was at its end before
pub kept_end : (old new : Option (List ℕ)) → Keeps old new → IsAtEnd new → IsAtEnd old
kept_end None new keeps end = tt
kept_end (Some rest) None keeps end = absurd keeps
kept_end (Some rest) (Some same) keeps end = sym keeps ∙ end

-- an input that has ended is not spent
pub not_spent : {ended spent : Bool} → (ended ≡ true → spent ≡ false) → spent ≡ true → ended ≡ true → ⊥
not_spent fresh was end = not_both was (fresh end)

-- an array that is used up holds no byte
pub none_unused : (held : List ℕ) (at filled : ℕ) → at ≡ filled → slice_range held at filled ≡ []
none_unused held at filled same = nil_from_length (slice_range held at filled)
    (omega (arith, length-take (filled - at) (drop at held)))

pub none_held : (held : List ℕ) (at filled room : ℕ) → at ≡ filled → take room (slice_range held at filled) ≡ []
none_held held at filled room same = ap (take room) (none_unused held at filled same) ∙ take-nil room

-- an array that holds bytes is not used up
pub held_unused : (held : List ℕ) (at filled room : ℕ) → at ≤ filled
    → take room (slice_range held at filled) ≢ [] → at < filled
held_unused held at filled room ordered some = elim (eq-or-lt_of_le ordered)
    [ inl same ↦ absurd (some (none_held held at filled room same)) | inr less ↦ less ]

-- a reader at its end gives nothing
told_end : (known : Option (List ℕ)) → IfSome known (λ left. left ≡ []) → IsAtEnd known
told_end None end = tt
told_end (Some left) end = end

-- at the end nothing is held, and nothing is left
pub ended_rest : (held : List ℕ) (known : Option (List ℕ)) (at filled room : ℕ) → at ≡ filled
    → IfSome known (λ left. left ≡ [])
    → (take room (slice_range held at filled) ≡ [])
    × IsAtEnd (prepend_known (slice_range held at filled) known) × IsAtEnd known
ended_rest held known at filled room same end =
    let none = none_unused held at filled same in (
      none_held held at filled room same,
      prepend_known-end _ known (slice_range held at filled)
          (Keeps-refl _) none (told_end known end),
      told_end known end,
    )

-- ==== The effect of a fuse on the bytes that a reader gives.

-- a read of n bytes leaves n fewer to pass
pub passed_read : (old new : Option (List ℕ)) (left n : ℕ) (front back : List ℕ) → n ≤ left
    → n ≤ length front → Consumes old new (take n front)
    → Consumes (passed left old) (passed (left - n) new) (take n (front ++ back))
passed_read None new left n front back fits within taken = tt
passed_read (Some all) None left n front back fits within taken = absurd taken
passed_read (Some all) (Some rest) left n front back fits within taken =
    let parts : left ≡ length (take n front) + (left - n) = omega (arith, length-take-le n front within) in
    ap (take left) taken ∙ ap (λ k. take k (take n front ++ rest)) parts
    ∙ take-append-add (take n front) rest (left - n)
    ∙ ap (λ l. l ++ take (left - n) rest) (sym (take-append-le n front back within))

-- at the reader's end nothing is left to pass
pub passed_end : (known : Option (List ℕ)) (left : ℕ) → IsAtEnd known → IsAtEnd (passed left known)
passed_end None left end = tt
passed_end (Some rest) left end = nil_from_length (take left rest) (omega (arith, ap length end, length-take left rest))

-- ==== Puts that were cut.

-- a fault of the device is not another fault
pub no_device : (e other : OutFault) → is_device e ≡ true → is_device other ≡ false → e ≢ other
no_device e other device none same = let both = sym device ∙ ap is_device same ∙ none in cc both

length-some : (rest : List ℕ) → rest ≢ [] → 0 < length rest
length-some [] some = absurd (some refl)
length-some (x ∷ rest) some = omega arith

module _ {W : Type 0} (contents : W → Option (List ℕ)) where
  -- a put that was cut was handed over as a prefix of itself
  pub front_cut : (a b : Output W) (bytes : List ℕ) (e : OutFault) → Cut contents a bytes e b
      → TookFront (Cut contents) a bytes e b
  front_cut a b bytes e cut = (bytes, [], sym (append-nil bytes), cut)

  -- a put that was cut with bytes left over sends fewer than were handed over
  pub cut_short : (a m b : Output W) (bytes front rest : List ℕ) (e : OutFault)
      → bytes ≡ front ++ rest → rest ≢ [] → Took contents a front m → Refused contents m [] e b
      → sent_of b < sent_of a + length bytes
  cut_short a m b bytes front rest e parts some took refused =
      omega (
        arith,
        length-some rest some,
        ap length parts,
        length-append front rest,
        took.sends.sent,
        refused.sends.sent,
      )

  -- a put that was cut by the device after a prefix was sent
  pub cut_inside : (a m b : Output W) (bytes front rest : List ℕ) (e : OutFault)
      → bytes ≡ front ++ rest → rest ≢ [] → Took contents a front m → Refused contents m [] e b
      → is_device e ≡ true
      → Cut contents a bytes e b
  cut_inside a m b bytes front rest e parts some took refused device = record {
    front = front;
    rest = rest;
    whole = parts;
    refused = subst (λ (l : List ℕ). Refused contents a l e b) (append-nil front)
        (refused_join contents a m b front [] e took refused);
    left = λ fresh. some;
    unspent = λ fresh. no_device e fault.Spent device refl;
    too_long = λ far. absurd (no_device e fault.TooLong device refl far);
  }
