-- Characters that are pairs of digits, and those that are none.
use Rattle.std.proofs.Common.{◌≡◌, ◌∙◌, ℕ, List, Result, Ok, Err, Bool, true, false, refl, sym, ap, subst}
use Rattle.std.proofs.Common.{inl, inr, arith, length, take, get_or, ◌<◌, ◌≤◌, ◌+◌, ◌*◌, ◌/◌, ◌%◌}
use Rattle.std.specs.Prelude.{MatchResult}
use Rattle.std.specs.List.{AllPass}
use Rattle.std.proofs.lemmas.List.{get_or-take, length-take-le, take-take, take_all, nil_from_length}
use Rattle.std.proofs.lemmas.List.Elements.{All-more}
use Rattle.hex.specs.Hex.{decode_of, decode_sized, is_hex_digit}
use Rattle.hex.specs.declared.error.FromHexError.{FromHexError}
use Rattle.hex.specs.declared.error.FromHexError.TheVariants.{InvalidHexCharacter}
use Rattle.hex.proofs.HexLemmas.{decode_of-err, decode_of-ok, decode_sized-twice}
use Rattle.twkb_flat.specs.Taking.{IfRefused}
use Rattle.twkb_flat.specs.declared.stop.Stop.{Stop}
use Rattle.twkb_flat.specs.declared.stop.Stop.TheVariants as stop
use Rattle.twkb_hex.specs.Digits.{IsNoDigit, RefusesDigits, RefusesPairs, refused_rest}
use Rattle.twkb_hex.specs.declared.report.HexReason.{HexReason}
use Rattle.twkb_hex.specs.declared.report.HexReason.TheVariants as reason

-- what a decoding into a slice answers, and what the slice holds then
abbrev pub IsDecoded : Result (List ℕ) FromHexError → Result (Unit {0}) FromHexError → List ℕ → Type 0
IsDecoded decoded answer out = MatchResult decoded (λ bytes. (answer ≡ Ok tt) × (out ≡ bytes)) (λ e. answer ≡ Err e)

-- ==== Pairs of digits.

decoded_ok : (decoded : Result (List ℕ) FromHexError) (answer : Result (Unit {0}) FromHexError) (out : List ℕ)
    → IsDecoded decoded answer out → answer ≡ Ok tt → decoded ≡ Ok out
decoded_ok (Ok bytes) answer out (is, same) ok = ap Ok (sym same)
decoded_ok (Err e) answer out is ok = cc (is, ok)

decoded_err : (decoded : Result (List ℕ) FromHexError) (answer : Result (Unit {0}) FromHexError) (out : List ℕ)
    (e : FromHexError) → IsDecoded decoded answer out → answer ≡ Err e → decoded ≡ Err e
decoded_err (Ok bytes) answer out e (is, same) err = cc (is, err)
decoded_err (Err d) answer out e is err = cc (is, err)

module _ (pairs out : List ℕ) (room : ℕ) (answer : Result (Unit {0}) FromHexError)
    (even : length pairs % 2 ≡ 0) (half : room ≡ length pairs / 2)
    (is : IsDecoded (decode_sized pairs room) answer out)
  where
    whole : IsDecoded (decode_of pairs) answer out
    whole = subst (λ r. IsDecoded r answer out) (decode_sized-twice pairs room (omega (arith, even, half))) is

    -- they were decoded
    pub pairs_ok : answer ≡ Ok tt → decode_of pairs ≡ Ok out
    pairs_ok ok = decoded_ok (decode_of pairs) answer out whole ok

    -- a character is no digit
    bad : (e : FromHexError) → answer ≡ Err e → (k : ℕ) × (e ≡ InvalidHexCharacter (get_or pairs k 0) (0 + k))
        × (k < length pairs) × (is_hex_digit (get_or pairs k 0) ≡ false) × AllPass is_hex_digit (take k pairs)
    bad e err = elim (decode_of-err pairs e (decoded_err (decode_of pairs) answer out e whole err)) [
      | inl odd ↦ absurd (omega (arith, even, odd.0))
      | inr wrong ↦ wrong
    ]

    pub pairs_err : (c place byte : ℕ) → answer ≡ Err (InvalidHexCharacter c place) → byte ≡ place / 2
        → IsNoDigit pairs byte
    pairs_err c place byte err is =
        let (k, same, within, other, before) = bad (InvalidHexCharacter c place) err in
        let at : place ≡ 0 + k = cc in
        record {
          place = k;
          within = within;
          other = other;
          before = before;
          byte_is = is ∙ ap (λ (n : ℕ). n / 2) (omega (arith, at));
        }

    -- no other error comes
    pub pairs_only : (e : FromHexError) → answer ≡ Err e → ((c k : ℕ) → e ≡ InvalidHexCharacter c k → ⊥) → ⊥
    pairs_only e err other = let b = bad e err in other (get_or pairs b.0 0) (0 + b.0) b.1

-- ==== Any number of digits.

-- a character that is no digit among the first ones is the first among all
first_no_digit : (digits : List ℕ) (n byte : ℕ) → n ≤ length digits → IsNoDigit (take n digits) byte
    → IsNoDigit digits byte
first_no_digit digits n byte many is =
    let long = length-take-le n digits many in
    let within = is.within in
    let early : is.place < n = omega (arith, within, long) in
    record {
      place = is.place;
      within = omega (arith, early, many);
      other = subst (λ (c : ℕ). is_hex_digit c ≡ false) (get_or-take n digits is.place 0 early) is.other;
      before = subst (AllPass is_hex_digit) (take-take is.place n digits (omega (arith, early))) is.before;
      byte_is = is.byte_is;
    }

pairs_reason : (digits : List ℕ) (n : ℕ) (why : HexReason) → n ≤ length digits → RefusesPairs (take n digits) why
    → RefusesDigits digits why
pairs_reason digits n (reason.NoDigits byte) many is = inr (first_no_digit digits n byte many is)
pairs_reason digits n _ many is = absurd is

-- the pairs are refused
pub pairs_refused : (digits : List ℕ) (n : ℕ) (s : Stop HexReason) → n ≤ length digits
    → IfRefused (RefusesPairs (take n digits)) s → IfRefused (RefusesDigits digits) s
pairs_refused digits n stop.Memory many is = is
pairs_refused digits n (stop.Refused why) many is = pairs_reason digits n why many is

-- a character is left over
pub odd_refused : (digits bytes : List ℕ) (count character : ℕ) → length digits ≡ 2 * count + 1
    → decode_of (take (2 * count) digits) ≡ Ok bytes → character ≡ get_or digits (2 * count) 0
    → RefusesDigits digits (refused_rest count character)
odd_refused digits bytes count character odd decoded is = go (is_hex_digit character) refl
  where
    before : AllPass is_hex_digit (take (2 * count) digits)
    before = (decode_of-ok (take (2 * count) digits) bytes decoded).1

    digit_at : (b : Bool) → is_hex_digit character ≡ b → is_hex_digit (get_or digits (2 * count) 0) ≡ b
    digit_at b e = subst (λ (c : ℕ). is_hex_digit c ≡ b) is e

    go : (b : Bool) → is_hex_digit character ≡ b → RefusesDigits digits (refused_rest count character)
    go true e = rw e (
      subst (AllPass is_hex_digit) (take_all (2 * count + 1) digits (omega (arith, odd)))
          (All-more (λ (c : ℕ). is_hex_digit c ≡ true) digits (2 * count) 0 (omega (arith, odd)) before
          (digit_at true e)),
      odd,
    )
    go false e = rw e (inr (record {
      place = 2 * count;
      within = omega (arith, odd);
      other = digit_at false e;
      before = before;
      byte_is = omega arith;
    }))

-- all pairs were decoded, and nothing is left over
pub all_decoded : (digits bytes : List ℕ) (count : ℕ) → length digits ≤ 2 * count
    → decode_of (take (2 * count) digits) ≡ Ok bytes → decode_of digits ≡ Ok bytes
all_decoded digits bytes count all decoded =
    ap decode_of (sym (take_all (2 * count) digits all)) ∙ decoded

-- digits stand for bytes
pub some_decoded : (digits bytes : List ℕ) → decode_of digits ≡ Ok bytes → 0 < length digits → 0 < length bytes
some_decoded digits bytes decoded some = let long = (decode_of-ok digits bytes decoded).2 in omega (arith, long, some)

-- there is none
pub none_refused : (digits : List ℕ) → length digits ≡ 0 → RefusesDigits digits (reason.NoDigits 0)
none_refused digits none = inl (nil_from_length digits none, refl)
