-- The bytes of a reader without its byte order mark.
use Rattle.std.proofs.Common.{◌≡◌, ◌∙◌, sym, ap, refl, ℕ, Bool, true, false, zero, suc, List, [], ◌∷◌, ◌++◌}
use Rattle.std.proofs.Common.{Option, Some, None, ◌<◌, ◌≤◌, ◌-◌, length, drop, take, arith, Result, Ok, Err}
use Rattle.std.specs.Prelude.{option_map, slice_range, if◌then◌else◌}
use Rattle.std.specs.Io.KnownBytes.{Consumes, IsAtEnd, Keeps, ReadConsumes, prepend_known}
use Rattle.std.proofs.KnownBytes.{Keeps-trans, prepend_known-nil}
use Rattle.csv.specs.Reading.{is_bom, strip_bom}
use Rattle.twkb_csv.specs.Marks.{mark_length}

-- ==== What a reader has left, after it was kept.

pub consumes_kept : (a b c : Option (List ℕ)) (bs : List ℕ) → Keeps a b → Consumes b c bs → Consumes a c bs
consumes_kept None b c bs k h = tt
consumes_kept (Some x) None c bs k h = absurd k
consumes_kept (Some x) (Some y) None bs k h = absurd h
consumes_kept (Some x) (Some y) (Some z) bs k h = sym k ∙ h

pub read_kept : {E : Type 0} (a b c : Option (List ℕ)) (r : Result ℕ E) (buf : List ℕ) → Keeps a b
    → ReadConsumes b c r buf
    → ReadConsumes a c r buf
read_kept a b c (Ok n) buf k h = (consumes_kept a b c (take n buf) k h.0, h.1)
read_kept a b c (Err e) buf k h = Keeps-trans a b c k h

-- ==== The first three bytes.

-- fewer than three bytes have no mark
no_mark : (d : List ℕ) (told : Option (List ℕ)) → length d < 3 → IsAtEnd told
    → Keeps (option_map strip_bom (prepend_known d told)) (prepend_known d told)
unfolding strip_bom
no_mark d None h e = tt
no_mark [] (Some xs) h e = rw e refl
no_mark (a ∷ []) (Some xs) h e = rw e refl
no_mark (a ∷ b ∷ []) (Some xs) h e = rw e refl
no_mark (a ∷ b ∷ c ∷ d) (Some xs) h e = absurd (omega arith)

-- three bytes are passed over if they are the mark
mark_if : (is : Bool) (a b c : ℕ) (rest : List ℕ) → (if is then rest else a ∷ b ∷ c ∷ rest)
    ≡ slice_range (a ∷ b ∷ c ∷ []) (if is then 3 else 0) 3 ++ rest
mark_if true a b c rest = refl
mark_if false a b c rest = refl

-- the first three bytes are passed over if they are the mark
three : (a b c : ℕ) (told : Option (List ℕ)) → Keeps (option_map strip_bom (prepend_known (a ∷ b ∷ c ∷ []) told))
    (prepend_known (slice_range (a ∷ b ∷ c ∷ []) (if is_bom a b c then 3 else 0) 3) told)
unfolding strip_bom
three a b c None = tt
three a b c (Some xs) = sym (mark_if (is_bom a b c) a b c xs)

-- the bytes after the mark was passed over
passed : (start : List ℕ) (filled : ℕ) (told : Option (List ℕ)) → length start ≡ 3 → filled ≤ 3
    → (filled < 3 → IsAtEnd told)
    → Keeps (option_map strip_bom (prepend_known (take filled start) told))
    (prepend_known (slice_range start (mark_length start filled) filled) told)
passed [] filled told len most end = absurd (omega (arith, len))
passed (a ∷ []) filled told len most end = absurd (omega (arith, len))
passed (a ∷ b ∷ []) filled told len most end = absurd (omega (arith, len))
passed (a ∷ b ∷ c ∷ d ∷ rest) filled told len most end = absurd (omega (arith, len))
passed (a ∷ b ∷ c ∷ []) zero told len most end = no_mark [] told (omega arith) (end (omega arith))
passed (a ∷ b ∷ c ∷ []) (suc zero) told len most end = no_mark (a ∷ []) told (omega arith) (end (omega arith))
passed (a ∷ b ∷ c ∷ []) (suc (suc zero)) told len most end = no_mark (a ∷ b ∷ []) told (omega arith) (end (omega arith))
passed (a ∷ b ∷ c ∷ []) (suc (suc (suc zero))) told len most end = three a b c told
passed (a ∷ b ∷ c ∷ []) (suc (suc (suc (suc n)))) told len most end = absurd (omega arith)

pub passed_if : (begun : Bool) (start other : List ℕ) (filled : ℕ) (told : Option (List ℕ)) → begun ≡ false
    → length start ≡ 3
    → filled ≤ 3 → (filled < 3 → IsAtEnd told)
    → Keeps (if begun then prepend_known other told else option_map strip_bom (prepend_known (take filled start) told))
    (prepend_known (slice_range start (mark_length start filled) filled) told)
passed_if begun start other filled told e len most end = rw e (passed start filled told len most end)

-- ==== After the first bytes.

-- nothing is between these places
none_between : (start : List ℕ) (at filled : ℕ) → filled ≤ at → slice_range start at filled ≡ []
none_between start at filled h =
    let none : filled - at ≡ 0 = omega arith in
    ap (λ (n : ℕ). take n (drop at start)) none

pub read_on_if : {E : Type 0} (begun : Bool) (start other : List ℕ) (at filled : ℕ) (a b : Option (List ℕ))
    (r : Result ℕ E)
    (buf : List ℕ) → begun ≡ true → filled ≤ at → ReadConsumes a b r buf
    → ReadConsumes (if begun then prepend_known (slice_range start at filled) a else option_map strip_bom
    (prepend_known other a))
    (if begun then prepend_known (slice_range start at filled) b else option_map strip_bom (prepend_known other b)) r
    buf
read_on_if begun start other at filled a b r buf e h read =
    rw (e, none_between start at filled h, prepend_known-nil a, prepend_known-nil b) read
