-- The fields of a row determine it, and it can be decided what a field spells.
use Rattle.std.proofs.Common.{◌≡◌, ℕ, ◌+◌, ◌-◌, ◌<◌, ◌≤◌, ◌^◌, List, [], ◌∷◌, length, slice_index_or, get_or, take}
use Rattle.std.proofs.Common.{decimal, ◌++◌, ◌*◌, ◌/◌, ◌%◌, Result, Ok, Err, sym, ◌∙◌, ap, subst, arith, ℤ, pos}
use Rattle.std.proofs.Common.{negsuc, FitsSigned, w64, map, Fits, w8, ◌==◌, Option, Some, None, refl, zero, suc, ◌⊎◌}
use Rattle.std.proofs.Common.{Bool, true, false, inl, inr, ne_eqb}
use Rattle.std.proofs.lemmas.Int.{ints}
use Rattle.std.proofs.lemmas.List.{take_more, length-map, length-take-le, get_or-map, get_or-take}
use Rattle.std.specs.Fmt.{signed_decimal}
use Rattle.std.specs.Int.Signed.{mag}
use Rattle.std.specs.Str.{IsUtf8, bytes_eq}
use Rattle.std.specs.Str.Parse.{ParsesSigned, digits_value}
use Rattle.std.proofs.lemmas.Fmt.{decimal_digit, decimal_step, IsAscii-signed, parse-signed_decimal}
use Rattle.std.proofs.lemmas.Fmt.{signed_decimal_injective, decimal_injective, decimal_nonempty, decimal_is_IsNumeral}
use Rattle.std.proofs.lemmas.Fmt.{first_decimal}
use Rattle.std.proofs.lemmas.Str.{IsUtf8-from_ascii}
use Rattle.twkb_tree.specs.Tree.{IsId, IsPrecision}
use Rattle.twkb_table.specs.Record.{IsDepthField, IsIdField, IsPrecisionField, eight_digits, optional, IsOptionalId}
use Rattle.twkb_table.specs.Record.{IsOptionalPrecision, record_of}
use Rattle.twkb_table.specs.declared.decimal.TheConstants.{GREATEST_DEPTH}
use lib.Lanes.{zip2, Each1}
use lib.ListN.{replicate}
use Rattle.std.proofs.lemmas.Simd.{zip2_splat, Each1-get_or}
use Rattle.twkb_num.proofs.ZigzagLemmas.{wrapped_sub}
use Rattle.std.specs.Prelude.{IfSome, if◌then◌else◌, nat_le}
use Rattle.std.specs.List.{AllByRecursion}
use Rattle.std.proofs.lemmas.Bool.{true≢false}
use Rattle.std.proofs.lemmas.Bool.Decides.{nat_tests}
use Rattle.std.proofs.lemmas.Slice.Eq.{bytes_eq-Decides}
use Rattle.twkb_points.specs.Point.{Point}
use Rattle.twkb_polyline.specs.Polyline.{polyline}
use Rattle.twkb_polyline.proofs.FaultLemmas.{one_polyline}
use Rattle.twkb_tree.specs.declared.kind.Kind.{Kind}
use Rattle.twkb_tree.specs.Rows.{Row}
use Rattle.twkb_tree.specs.Kind.{word_of}
use Rattle.twkb_tree.specs.declared.kind.Kind.TheVariants as kind
use Rattle.twkb_tree.specs.Admits.{is_id, is_precision}
use Rattle.twkb_tree.proofs.RowForest.{is_id-true, id_is, is_precision-true, precision_is}

-- ==== Canonical decimals, as std reads and prints them.

-- the size of an i64, less one if it is negative, is below 2 ^ 63
pub mag-id : (id : ℤ) → IsId id → mag id < 2 ^ 63
mag-id (pos n) h = let most = h.1 in omega (arith, ints)
mag-id (negsuc n) h = let least = h.0 in omega (arith, ints)

fits_id : (id : ℤ) → IsId id → FitsSigned w64 id
fits_id id h = let least = h.0 in let most = h.1 in omega (arith, ints)

-- bytes that are not text spell no number
pub no_text : (field : List ℕ) → (IsUtf8 field → ⊥) → (id : ℤ) → IsIdField field id → ⊥
no_text field bad id h = bad (subst IsUtf8 (sym h.0)
    (IsUtf8-from_ascii (signed_decimal id) (IsAscii-signed id (mag-id id h.1))))

-- std reads the number that a field spells
pub parsed : {E : Type 0} (field : List ℕ) (r : Result ℤ E) (id : ℤ) → ParsesSigned w64 10 field r
    → IsIdField field id → r ≡ Ok id
parsed field r id p h = parse-signed_decimal w64 id field r (fits_id id h.1) (mag-id id h.1) h.0 p

-- a field that std does not read spells no number
pub no_number : {E : Type 0} (text field : List ℕ) (r : Result ℤ E) (e : E)
    → ParsesSigned w64 10 text r → r ≡ Err e → text ≡ field → (id : ℤ) → IsIdField field id → ⊥
no_number text field r e p is whole id h = let same : r ≡ Ok id = parsed text r id p (whole ∙ h.0, h.1) in cc (is, same)

-- a field that is not the text of the number that std reads spells no number
pub other_spelling : {E : Type 0} (text field : List ℕ) (r : Result ℤ E) (number : ℤ)
    → ParsesSigned w64 10 text r → r ≡ Ok number → text ≡ field
    → (signed_decimal number ≡ field → ⊥) → (id : ℤ) → IsIdField field id → ⊥
other_spelling text field r number p is whole differs id h =
    let same : r ≡ Ok id = parsed text r id p (whole ∙ h.0, h.1) in
    let one : number ≡ id = cc (is, same) in
    differs (ap (λ n. signed_decimal n) one ∙ sym h.0)

-- two i64s with the same spelling are equal
pub one_id : (a b : ℤ) → IsId a → IsId b → signed_decimal a ≡ signed_decimal b → a ≡ b
one_id a b p q e = signed_decimal_injective a b (mag-id a p) (mag-id b q) e

-- a precision is an i64
pub precision-id : (precision : ℤ) → IsPrecision precision → IsId precision
precision-id precision h = let least = h.0 in let most = h.1 in (omega (arith, ints), omega (arith, ints))

-- a depth is an i64
pub depth-id : (depth : ℕ) → depth ≤ GREATEST_DEPTH → IsId (pos depth)
depth-id depth few = (omega (arith, ints), omega (arith, ints))

-- the depth that a field spells is its number
pub depth_number : (field : List ℕ) (number : ℤ) (depth : ℕ) → IsIdField field number
    → IsDepthField field depth → number ≡ pos depth
depth_number field number depth n d = one_id number (pos depth) n.1 (depth-id depth d.1) (sym n.0 ∙ d.0)

-- the precision that a field spells is its number
pub precision_number : (field : List ℕ) (number precision : ℤ) → IsIdField field number
    → IsPrecisionField field precision → number ≡ precision
precision_number field number precision n p = one_id number precision n.1 (precision-id precision p.1) (sym n.0 ∙ p.0)

-- a field of one digit spells its value
pub one_digit : (field : List ℕ) → 1 ≤ length field → length field < 2
    → 48 ≤ slice_index_or field 0 0 → slice_index_or field 0 0 ≤ 57
    → IsIdField field (pos (slice_index_or field 0 0 - 48))
one_digit (d ∷ []) some few low high =
    let value : 48 + (d - 48) ≡ d = omega arith in
    let spelled : decimal (d - 48) ≡ d ∷ [] = decimal_digit (d - 48) (omega arith) ∙ ap (λ n. n ∷ []) value in
    (sym spelled, depth-id (d - 48) (omega arith))
one_digit _ some few low high = absurd (omega arith)

-- the value of the first digit alone
pub digit_first : (field : List ℕ) → 0 < length field → 49 ≤ get_or field 0 0
    → get_or field 0 0 ≤ 57 → decimal (get_or field 0 0 - 48) ≡ take 1 field
digit_first [] some low high = absurd (omega arith)
digit_first (d ∷ ds) some low high = let value : 48 + (d - 48) ≡ d = omega arith in
    decimal_digit (d - 48) (omega arith) ∙ ap (λ n. n ∷ []) value

-- one more digit after a number that is not 0
pub digit_more : (field : List ℕ) (at n : ℕ) → at < length field → 0 < n → 48 ≤ get_or field at 0
    → get_or field at 0 ≤ 57 → n * 10 + (get_or field at 0 - 48) < 2 ^ 64
    → decimal n ≡ take at field
    → decimal (n * 10 + (get_or field at 0 - 48)) ≡ take (at + 1) field
digit_more field at n more some low high fits h =
    let d = get_or field at 0 in
    let m = n * 10 + (d - 48) in
    let front : m / 10 ≡ n = omega arith in
    let last : 48 + m % 10 ≡ d = omega arith in
    decimal_step m (omega arith) fits ∙ ap (λ k. decimal k ++ (48 + m % 10) ∷ []) front
    ∙ ap (λ u. decimal n ++ u ∷ []) last ∙ ap (λ ds. ds ++ d ∷ []) h
    ∙ sym (take_more field at 0 more)

-- ==== Eight digits read at once.

-- eight digits, the first of which is not 0, are the decimal of their number
eight_spelled : (field ds : List ℕ) → 8 ≤ length field
    → ((k : ℕ) → k < 8 → get_or field k 0 ≡ 48 + get_or ds k 0) → ((k : ℕ) → k < 8 → get_or ds k 0 < 10)
    → 0 < get_or ds 0 0 → decimal (get_or ds 0 0) ≡ take 1 field → decimal (eight_digits ds) ≡ take 8 field
eight_spelled field ds long are below some first =
    let d = λ (k : ℕ). get_or ds k 0 in
    let more = λ (at n : ℕ) (low : at < 8) (above : 0 < n) (few : n < 10 ^ 8) (h : decimal n ≡ take at field).
    let is = are at low in let digit = below at low in
    let value : get_or field at 0 - 48 ≡ get_or ds at 0 = omega arith in
    let e : decimal (n * 10 + get_or ds at 0) ≡ take (at + 1) field =
    ap (λ v. decimal (n * 10 + v)) (sym value)
    ∙ digit_more field at n (omega arith) above (omega arith) (omega arith) (omega arith) h in e in
    let b0 = below 0 (omega arith) in let b1 = below 1 (omega arith) in let b2 = below 2 (omega arith) in
    let b3 = below 3 (omega arith) in let b4 = below 4 (omega arith) in let b5 = below 5 (omega arith) in
    let b6 = below 6 (omega arith) in
    let two = more 1 (d 0) (omega arith) some (omega arith) first in
    let three = more 2 (d 0 * 10 + d 1) (omega arith) (omega arith) (omega arith) two in
    let four = more 3 ((d 0 * 10 + d 1) * 10 + d 2) (omega arith) (omega arith) (omega arith) three in
    let five = more 4 (((d 0 * 10 + d 1) * 10 + d 2) * 10 + d 3) (omega arith) (omega arith) (omega arith) four in
    let six = more 5 ((((d 0 * 10 + d 1) * 10 + d 2) * 10 + d 3) * 10 + d 4) (omega arith) (omega arith)
    (omega arith) five in
    let seven = more 6 (((((d 0 * 10 + d 1) * 10 + d 2) * 10 + d 3) * 10 + d 4) * 10 + d 5) (omega arith)
    (omega arith) (omega arith) six in
    let eight = more 7 ((((((d 0 * 10 + d 1) * 10 + d 2) * 10 + d 3) * 10 + d 4) * 10 + d 5) * 10 + d 6)
    (omega arith) (omega arith) (omega arith) seven in
    let value : eight_digits ds
    ≡ ((((((d 0 * 10 + d 1) * 10 + d 2) * 10 + d 3) * 10 + d 4) * 10 + d 5) * 10 + d 6) * 10 + d 7 = omega arith in
    ap decimal value ∙ eight

-- eight bytes that are digits after the code of 0 is taken off
pub eight_read : (field : List ℕ) → 8 ≤ length field → ((k : ℕ) → Fits w8 (get_or field k 0))
    → Each1 (λ d. d < 10) (zip2 wrapped_sub (take 8 field) (replicate 8 48)) → 49 ≤ get_or field 0 0
    → get_or field 0 0 ≤ 57
    → decimal (eight_digits (zip2 wrapped_sub (take 8 field) (replicate 8 48))) ≡ take 8 field
eight_read field long fit below low high =
    let front = take 8 field in
    let less = λ (b : ℕ). wrapped_sub b 48 in
    let ds = zip2 wrapped_sub front (replicate 8 48) in
    let count : length front ≡ 8 = length-take-le 8 field long in
    let ds_are : ds ≡ map less front = zip2_splat wrapped_sub front 8 48 count in
    let ds_count : length ds ≡ 8 = ap length ds_are ∙ length-map front less ∙ count in
    let digit = λ (k : ℕ) (within : k < 8). let e : get_or ds k 0 < 10 =
    Each1-get_or (λ d. d < 10) ds k 0 (omega arith) below in e in
    let are = λ (k : ℕ) (within : k < 8). let e : get_or field k 0 ≡ 48 + get_or ds k 0 =
    (let byte = (fit k).fits in let d = digit k within in
    let is : get_or ds k 0 ≡ wrapped_sub (get_or field k 0) 48 = ap (λ xs. get_or xs k 0) ds_are
    ∙ get_or-map less front k 0 0 (omega arith) ∙ ap less (get_or-take 8 field k 0 within) in omega arith) in e in
    let first : get_or field 0 0 - 48 ≡ get_or ds 0 0 = (let e = are 0 (omega arith) in omega arith) in
    eight_spelled field ds long are digit (omega arith)
    (ap decimal (sym first) ∙ digit_first field (omega arith) low high)

-- ==== The fields of a row determine it.

-- ---- words

-- the kind of a word of ten letters, whose first letter is l, m or c
abbrev pub kind_of_ten : List ℕ → Kind
kind_of_ten [] = kind.Point
kind_of_ten (c ∷ cs) = if c == 108 then kind.Linestring else if c == 109 then kind.MultiPoint else kind.Collection

-- the kind of a word, by its length
abbrev pub kind_from : List ℕ → Kind
kind_from word =
    if length word == 5 then kind.Point
    else if length word == 7 then kind.Polygon
    else if length word == 4 then kind.Ring
    else if length word == 15 then kind.MultiLinestring
    else if length word == 12 then kind.MultiPolygon
    else kind_of_ten word

pub kind_from-word_of : (k : Kind) → kind_from (word_of k) ≡ k
kind_from-word_of kind.Point = refl
kind_from-word_of _ = refl

-- two kinds with the same word are equal
pub one_word : (j k : Kind) → word_of j ≡ word_of k → j ≡ k
one_word j k e = sym (kind_from-word_of j) ∙ ap kind_from e ∙ kind_from-word_of k

-- ---- lists with a first element

pub head_same : {A : Type 0} (x y : A) (xs ys : List A) → x ∷ xs ≡ y ∷ ys → x ≡ y
head_same x y xs ys e = cc e

pub tail_same : {A : Type 0} (x y : A) (xs ys : List A) → x ∷ xs ≡ y ∷ ys → xs ≡ ys
tail_same x y xs ys e = cc e

-- ---- numbers

-- two depths with the same decimal are equal
pub one_depth : (d e : ℕ) → d ≤ GREATEST_DEPTH → e ≤ GREATEST_DEPTH → decimal d ≡ decimal e → d ≡ e
one_depth d e p q h = decimal_injective d e (omega arith) (omega arith) h

-- a number's decimal is not empty
some_decimal : (n : ℤ) → IsId n → signed_decimal n ≡ [] → ⊥
some_decimal (pos m) p e = let few = mag-id (pos m) p in
    let some = decimal_nonempty m (omega arith) in omega (arith, ap length e)
some_decimal (negsuc m) p e = cc e

-- two optional numbers with the same text are equal
pub one_optional : (a b : Option ℤ) → IfSome a IsId → IfSome b IsId → optional a ≡ optional b → a ≡ b
one_optional None None p q e = refl
one_optional None (Some b) p q e = absurd (some_decimal b q (sym e))
one_optional (Some a) None p q e = absurd (some_decimal a p e)
one_optional (Some a) (Some b) p q e = ap (λ z. Some z) (one_id a b p q e)

-- an optional precision is an optional i64
pub precision-ids : (precision : Option ℤ) → IfSome precision IsPrecision → IfSome precision IsId
precision-ids None h = tt
precision-ids (Some n) h = precision-id n h

-- ---- rows

-- The row's numbers are in the ranges of their fields.
pub record IsPlain (r : Row) : Type 0 where
  pub depth : r.depth ≤ GREATEST_DEPTH
  pub id : IfSome r.id IsId
  pub precision : IfSome r.precision IsPrecision

-- two rows with the same fields are equal
pub same_row : (d e : ℕ) (j k : Kind) (a b p q : Option ℤ) (xs ys : List Point) → d ≡ e → j ≡ k
    → a ≡ b
    → p ≡ q → xs ≡ ys
    → Path Row (record { depth = d; kind = j; id = a; precision = p; points = xs })
    (record { depth = e; kind = k; id = b; precision = q; points = ys })
same_row d e j k a b p q xs ys same_depth same_kind same_id same_precision same_points = cc

-- two rows with the same record are equal
pub one_record : (r s : Row) → IsPlain r → IsPlain s → record_of r ≡ record_of s → r ≡ s
one_record r s p q e =
    let depths : decimal r.depth ≡ decimal s.depth = cc e in
    let words : word_of r.kind ≡ word_of s.kind = cc e in
    let ids : optional r.id ≡ optional s.id = cc e in
    let precisions : optional r.precision ≡ optional s.precision = cc e in
    let lines : polyline r.points ≡ polyline s.points = cc e in
    let same_depth = one_depth r.depth s.depth p.depth q.depth depths in
    let same_kind = one_word r.kind s.kind words in
    let same_id = one_optional r.id s.id p.id q.id ids in
    let same_precision = one_optional r.precision s.precision
    (precision-ids r.precision p.precision) (precision-ids s.precision q.precision)
    precisions in
    same_row _ _ _ _ _ _ _ _ _ _ same_depth same_kind same_id same_precision
    (one_polyline r.points s.points lines)

-- each row is plain
abbrev pub ArePlain : List Row → Type 0
ArePlain rs = AllByRecursion IsPlain rs

-- two lists of rows with the same records are equal
pub one_list : (rs ss : List Row) → ArePlain rs → ArePlain ss → map record_of rs ≡ map record_of ss → rs ≡ ss
one_list [] [] p q e = refl
one_list (r ∷ rs) (s ∷ ss) p q e =
    let head : record_of r ≡ record_of s = head_same (record_of r) (record_of s) (map record_of rs)
    (map record_of ss) e in
    let tail : map record_of rs ≡ map record_of ss = tail_same (record_of r) (record_of s)
    (map record_of rs) (map record_of ss) e in
    ap (λ (x : Row). x ∷ rs) (one_record r s p.0 q.0 head) ∙ ap (λ xs. s ∷ xs) (one_list rs ss p.1 q.1 tail)
one_list _ _ p q e = cc e

-- ==== It can be decided whether a field spells a number, a depth, a precision, an id or a kind.

-- a value has P, or no value has it
abbrev pub SomeOrNone : {A : Type 0} → (A → Type 0) → Type 0
SomeOrNone {A} P = ((a : A) × P a) ⊎ ((a : A) → P a → ⊥)

-- ---- the number that a field may spell

-- the negative of a number that is not 0
abbrev negative : ℕ → ℤ
negative zero = pos 0
negative (suc m) = negsuc m

abbrev by_sign : Bool → ℕ → ℕ → ℤ
by_sign true rest whole = negative rest
by_sign false rest whole = pos whole

abbrev spelled : List ℕ → ℤ
spelled [] = pos 0
spelled (c ∷ cs) = by_sign (c == 45) (digits_value 10 cs) (digits_value 10 (c ∷ cs))

no_sign : (c : ℕ) (cs : List ℕ) (n : ℕ) → 47 < c → digits_value 10 (c ∷ cs) ≡ n → spelled (c ∷ cs) ≡ pos n
no_sign c cs n lt e = let off : (c == 45) ≡ false = ne_eqb c 45 (λ h. omega arith) in rw off (ap pos e)

begun : (ds : List ℕ) (n : ℕ) → 47 < get_or ds 0 0 → digits_value 10 ds ≡ n → spelled ds ≡ pos n
begun [] n lt e = absurd (omega arith)
begun (c ∷ cs) n lt e = no_sign c cs n lt e

decimal_begins : (n : ℕ) → n < 2 ^ 63 → 47 < get_or (decimal n) 0 0
decimal_begins zero few = let one = decimal_digit 0 (omega arith) in
    subst (λ ds. 47 < get_or ds 0 0) (sym one) (omega arith)
decimal_begins (suc n) few = let first = first_decimal (suc n) (omega arith) (omega arith) in omega arith

spelled-signed_decimal : (id : ℤ) → IsId id → spelled (signed_decimal id) ≡ id
spelled-signed_decimal (pos n) h =
    let few = mag-id (pos n) h in
    begun (decimal n) n (decimal_begins n few) (decimal_is_IsNumeral n (omega arith)).1
spelled-signed_decimal (negsuc n) h =
    let few = mag-id (negsuc n) h in
    ap negative (decimal_is_IsNumeral (suc n) (omega arith)).1

-- ---- numbers

id_by : (field : List ℕ) (id : ℤ) (a b : Bool) → bytes_eq field (signed_decimal id) ≡ a
    → is_id id ≡ b → ((other : ℤ) → IsIdField field other → id ≡ other)
    → SomeOrNone (IsIdField field)
id_by field id true true e r one = inl (id, ((bytes_eq-Decides field (signed_decimal id)).0 e, id_is id r))
id_by field id false b e r one = inr (λ other h.
    true≢false (sym ((bytes_eq-Decides field (signed_decimal id)).1
    (h.0 ∙ ap (λ z. signed_decimal z) (sym (one other h)))) ∙ e))
id_by field id true false e r one = inr (λ other h.
    true≢false (sym (is_id-true id (subst IsId (sym (one other h)) h.1)) ∙ r))

pub decided_id : (field : List ℕ) → SomeOrNone (IsIdField field)
decided_id field = id_by field (spelled field) (bytes_eq field (signed_decimal (spelled field)))
    (is_id (spelled field)) refl refl (λ id h. ap (λ ds. spelled ds) h.0
    ∙ spelled-signed_decimal id h.1)

too_deep : (field : List ℕ) (number : ℤ) → IsIdField field number
    → ((d : ℕ) → number ≡ pos d → d ≤ GREATEST_DEPTH → ⊥) → (d : ℕ) → IsDepthField field d → ⊥
too_deep field number n apart d h = apart d (depth_number field number d n h) h.1

depth_by : (field : List ℕ) (n : ℕ) (b : Bool) → IsIdField field (pos n) → nat_le n GREATEST_DEPTH ≡ b
    → SomeOrNone (IsDepthField field)
depth_by field n true h e = inl (n, (h.0, grind (arith, nat_tests)))
depth_by field n false h e = inr (too_deep field (pos n) h
    (λ d same few. (let one : n ≡ d = cc same in grind (arith, nat_tests))))

depth_of : (field : List ℕ) → SomeOrNone (IsIdField field) → SomeOrNone (IsDepthField field)
depth_of field (inl (pos n, h)) = depth_by field n (nat_le n GREATEST_DEPTH) h refl
depth_of field (inl (negsuc n, h)) = inr (too_deep field (negsuc n) h (λ d same few. cc same))
depth_of field (inr none) = inr (λ d h. none (pos d) (h.0, depth-id d h.1))

pub decided_depth : (field : List ℕ) → SomeOrNone (IsDepthField field)
decided_depth field = depth_of field (decided_id field)

precision_by : (field : List ℕ) (n : ℤ) (b : Bool) → IsIdField field n → is_precision n ≡ b
    → SomeOrNone (IsPrecisionField field)
precision_by field n true h e = inl (n, (h.0, precision_is n e))
precision_by field n false h e = inr (λ q p. true≢false
    (sym (is_precision-true n (subst IsPrecision (sym (precision_number field n q h p)) p.1)) ∙ e))

precision_of : (field : List ℕ) → SomeOrNone (IsIdField field) → SomeOrNone (IsPrecisionField field)
precision_of field (inl (n, h)) = precision_by field n (is_precision n) h refl
precision_of field (inr none) = inr (λ q h. none q (h.0, precision-id q h.1))

-- ---- optional numbers

optional_of : (P : ℤ → Type 0) (field : List ℕ)
    → SomeOrNone (λ n. (field ≡ signed_decimal n) × P n)
    → SomeOrNone (λ o. (field ≡ optional o) × IfSome o P)
optional_of P [] d = inl (None, (refl, tt))
optional_of P (c ∷ cs) (inl (n, h)) = inl (Some n, (h.0, h.1))
optional_of P (c ∷ cs) (inr none) = inr (missing c cs none)
  where
    missing : (c : ℕ) (cs : List ℕ) → ((n : ℤ) → (c ∷ cs ≡ signed_decimal n) × P n → ⊥)
        → (o : Option ℤ) → (c ∷ cs ≡ optional o) × IfSome o P → ⊥
    missing c cs none None h = cc h.0
    missing c cs none (Some n) h = none n (h.0, h.1)

pub decided_optional_id : (field : List ℕ) → SomeOrNone (IsOptionalId field)
decided_optional_id field = optional_of IsId field (decided_id field)

pub decided_optional_precision : (field : List ℕ) → SomeOrNone (IsOptionalPrecision field)
decided_optional_precision field = optional_of IsPrecision field
    (precision_of field (decided_id field))

-- ---- kinds

kind_by : (field : List ℕ) (k : Kind) (b : Bool) → bytes_eq field (word_of k) ≡ b
    → ((j : Kind) → field ≡ word_of j → k ≡ j) → SomeOrNone (λ j. field ≡ word_of j)
kind_by field k true e one = inl (k, (bytes_eq-Decides field (word_of k)).0 e)
kind_by field k false e one = inr (λ j h. true≢false
    (sym ((bytes_eq-Decides field (word_of k)).1 (h ∙ ap (λ i. word_of i) (sym (one j h)))) ∙ e))

pub decided_kind : (field : List ℕ) → SomeOrNone (λ k. field ≡ word_of k)
decided_kind field = kind_by field (kind_from field) (bytes_eq field (word_of (kind_from field)))
    refl (λ j h. ap (λ w. kind_from w) h ∙ kind_from-word_of j)
