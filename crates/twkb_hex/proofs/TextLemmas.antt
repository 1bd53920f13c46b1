-- The text of fields and of records, with a delimiter, and one field replaced.
use Rattle.std.proofs.Common.{◌≡◌, ◌∙◌, sym, ap, refl, ℕ, zero, suc, Bool, true, false, List, [], ◌∷◌, ◌++◌, take}
use Rattle.std.proofs.Common.{length, get_or, ◌<◌, ◌≤◌, ◌+◌, append_assoc, append-nil, arith, Some, None}
use Rattle.std.proofs.Common.{length-append}
use Rattle.std.specs.Prelude.{◌≢◌, ◌==◌, ◌↔◌, IsTrue}
use Rattle.std.proofs.lemmas.Bool.{eq-eqb, eqb-true}
use Rattle.std.proofs.lemmas.List.{take_all}
use Rattle.csv.specs.Records.{field_at}
use Rattle.csv.specs.Writing.{escaped, field_text, fields_text, is_blank, needs_byte, needs_quotes}
use Rattle.csv.specs.Writing.{next_sep, quoted, row_body, row_text}
use Rattle.csv.proofs.WriteFacts.{any-hit, any-step, quoted-step, row-step}
use Rattle.csv.proofs.RecordFacts.{field-get}
use Rattle.twkb_csv.specs.Named.{Record}
use Rattle.twkb_hex.specs.Records.{end_of_row, written_with}
use Rattle.twkb_hex.specs.Rows.{replaced}

-- ==== Bytes that need quotes.

pub bare_more : (d : ℕ) (xs : List ℕ) (i : ℕ) → i < length xs → needs_quotes (written_with d) (take i xs) ≡ false
    → needs_byte (written_with d) (get_or xs i 0) ≡ false → needs_quotes (written_with d) (take (i + 1) xs) ≡ false
bare_more d xs i h before here = any-step (needs_byte (written_with d)) xs i h before here

pub quoted_at : (d : ℕ) (xs : List ℕ) (i : ℕ) → i < length xs → needs_byte (written_with d) (get_or xs i 0) ≡ true
    → needs_quotes (written_with d) xs ≡ true
quoted_at d xs i h here = any-hit (needs_byte (written_with d)) xs i h here

pub bare_all : (d : ℕ) (xs : List ℕ) (i : ℕ) → length xs ≤ i → needs_quotes (written_with d) (take i xs) ≡ false
    → needs_quotes (written_with d) xs ≡ false
bare_all d xs i all bare = ap (needs_quotes (written_with d)) (sym (take_all i xs all)) ∙ bare

-- lemmas that search has to know for loops over bytes
pub ruleset bare_bytes = (bare_more, quoted_at, bare_all)

-- ==== Bytes between quotes.

-- one more byte after the first quote
pub quoted_more : (d : ℕ) (old text new xs : List ℕ) (i : ℕ) → i < length xs
    → text ≡ old ++ (34 ∷ escaped (written_with d) (take i xs))
    → new ≡ text ++ escaped (written_with d) (get_or xs i 0 ∷ [])
    → new ≡ old ++ (34 ∷ escaped (written_with d) (take (i + 1) xs))
quoted_more d old text new xs i h before here =
    here ∙ ap (λ (t : List ℕ). t ++ escaped (written_with d) (get_or xs i 0 ∷ [])) before
    ∙ append_assoc old (34 ∷ escaped (written_with d) (take i xs)) (escaped (written_with d) (get_or xs i 0 ∷ []))
    ∙ ap (λ (t : List ℕ). old ++ t) (quoted-step (written_with d) 34 xs i h)

pub quoted_all : (d : ℕ) (old text new field : List ℕ) (i : ℕ) → length field ≤ i
    → text ≡ old ++ (34 ∷ escaped (written_with d) (take i field)) → new ≡ text ++ 34 ∷ []
    → new ≡ old ++ quoted (written_with d) field
quoted_all d old text new field i all before same =
    let whole : take i field ≡ field = take_all i field all in
    same ∙ ap (λ (t : List ℕ). t ++ 34 ∷ []) before
    ∙ append_assoc old (34 ∷ escaped (written_with d) (take i field)) (34 ∷ [])
    ∙ ap (λ (l : List ℕ). old ++ (34 ∷ (escaped (written_with d) l ++ 34 ∷ []))) whole

-- ==== The fields of a record.

pub field_got : (fields : Record) (i : ℕ) (x : List ℕ) → Some x ≡ field_at fields i → x ≡ get_or fields i []
field_got fields i x is = sym (field-get fields i x (sym is))

pub field_not : (fields : Record) (i : ℕ) → None ≡ field_at fields i → [] ≡ get_or fields i []
unfolding field_at
field_not [] i is = refl
field_not (f ∷ fs) zero is = cc is
field_not (f ∷ fs) (suc i) is = field_not fs i is

pub length-replaced : (place : ℕ) (made : List ℕ) (fields : Record) → length (replaced place made fields) ≡ length
    fields
unfolding replaced
length-replaced place made [] = refl
length-replaced zero made (f ∷ fs) = refl
length-replaced (suc n) made (f ∷ fs) = ap suc (length-replaced n made fs)

-- the field that was replaced
pub get-replaced : (place : ℕ) (made : List ℕ) (fields : Record) → place < length fields
    → made ≡ get_or (replaced place made fields) place []
unfolding replaced
get-replaced place made [] h = absurd (omega arith)
get-replaced zero made (f ∷ fs) h = refl
get-replaced (suc n) made (f ∷ fs) h = get-replaced n made fs (omega arith)

-- another field
pub get-kept : (place i : ℕ) (made : List ℕ) (fields : Record) → i ≢ place
    → get_or fields i [] ≡ get_or (replaced place made fields) i []
unfolding replaced
get-kept place i made [] other = refl
get-kept zero zero made (f ∷ fs) other = absurd (other refl)
get-kept zero (suc i) made (f ∷ fs) other = refl
get-kept (suc n) zero made (f ∷ fs) other = refl
get-kept (suc n) (suc i) made (f ∷ fs) other = get-kept n i made fs (λ e. other (ap suc e))

-- no field there
pub replaced_past : (place : ℕ) (made : List ℕ) (fields : Record) → length fields ≤ place
    → replaced place made fields ≡ fields
unfolding replaced
replaced_past place made [] h = refl
replaced_past zero made (f ∷ fs) h = absurd (omega arith)
replaced_past (suc n) made (f ∷ fs) h = ap (λ (r : Record). f ∷ r) (replaced_past n made fs (omega arith))

-- ==== The text of a record.

-- one more field, after what is before it
pub body_more : (d : ℕ) (old text sep new : List ℕ) (fields : Record) (i : ℕ) (field : List ℕ) → i < length fields
    → field ≡ get_or fields i [] → text ≡ old ++ row_body (written_with d) (take i fields)
    → sep ≡ text ++ next_sep (written_with d) i → new ≡ sep ++ field_text (written_with d) field
    → new ≡ old ++ row_body (written_with d) (take (i + 1) fields)
body_more d old text sep new fields i field h is before between here =
    let cfg = written_with d in
    here ∙ ap (λ (t : List ℕ). t ++ field_text cfg field) (between ∙ ap (λ (t : List ℕ). t ++ next_sep cfg i) before)
    ∙ append_assoc (old ++ row_body cfg (take i fields)) (next_sep cfg i) (field_text cfg field)
    ∙ append_assoc old (row_body cfg (take i fields)) (next_sep cfg i ++ field_text cfg field)
    ∙ ap (λ (t : List ℕ). old ++ t) (ap (λ (f : List ℕ). row_body cfg (take i fields) ++
    (next_sep cfg i ++ field_text cfg f)) is
    ∙ sym (row-step cfg fields i h))

pub body_none : (d : ℕ) (old : List ℕ) (fields : Record) → old ≡ old ++ row_body (written_with d) (take 0 fields)
body_none d old fields = sym (append-nil old)

pub body_all : (d : ℕ) (old text : List ℕ) (fields : Record) (i : ℕ) → length fields ≤ i
    → text ≡ old ++ row_body (written_with d) (take i fields) → text ≡ old ++ row_body (written_with d) fields
body_all d old text fields i all is =
    is ∙ ap (λ (f : Record). old ++ row_body (written_with d) f) (take_all i fields all)

same_bool : (a b : Bool) → (a ≡ true → b ≡ true) → (b ≡ true → a ≡ true) → a ≡ b
same_bool true b there back = sym (there refl)
same_bool false true there back = back refl
same_bool false false there back = refl

-- whether the record shows no byte
blank_same : (d : ℕ) (fields : Record) (blank : Bool)
    → IsTrue blank ↔ ((length fields ≤ 1) × (length (row_body (written_with d) fields) ≡ 0))
    → is_blank (written_with d) fields ≡ blank
unfolding is_blank fields_text
blank_same d [] blank h = sym (h.1 (omega arith, refl))
blank_same d (f ∷ []) blank h =
    let text = field_text (written_with d) f in
    let same : length (text ++ []) ≡ length text = ap length (append-nil text) in
    same_bool (length text == 0) blank (λ e. h.1 (omega arith, same ∙ eqb-true (length text) 0 e))
    (λ e. eq-eqb (length text) 0 (sym same ∙ (h.0 e).1))
blank_same d (f ∷ g ∷ rest) true h = absurd (let few = (h.0 refl).0 in omega (arith, few))
blank_same d (f ∷ g ∷ rest) false h = refl

-- the end of a record
pub row_end : (d : ℕ) (old body new : List ℕ) (fields : Record) (count start stop : ℕ) (blank : Bool)
    → body ≡ old ++ row_body (written_with d) fields → count ≡ length fields → start ≡ length old
    → stop ≡ length body → IsTrue blank ↔ ((count ≤ 1) × (stop ≡ start))
    → new ≡ body ++ end_of_row blank → new ≡ old ++ row_text (written_with d) fields
row_end d old body new fields count start stop blank is many from to h end =
    let long : length body ≡ length old + length (row_body (written_with d) fields) =
    ap length is ∙ length-append old (row_body (written_with d) fields) in
    let same = blank_same d fields blank (
      λ e. (let few = (h.0 e).0 in let still = (h.0 e).1 in (
        omega (arith, few, many),
        omega
            (arith, still, long, from, to),
      )),
      λ (few, none). h.1 (omega (arith, few, many), omega (arith, none, long, from, to)),
    ) in
    end ∙ ap (λ (t : List ℕ). t ++ end_of_row blank) is
    ∙ append_assoc old (row_body (written_with d) fields) (end_of_row blank)
    ∙ ap (λ (b : Bool). old ++ (row_body (written_with d) fields ++ end_of_row b)) (sym same)

-- the text of one record, put into an empty text
pub row_alone : (d : ℕ) (old new : List ℕ) (fields : Record) → old ≡ [] → new ≡ old ++ row_text (written_with d) fields
    → new ≡ row_text (written_with d) fields ++ []
row_alone d old new fields none is =
    is ∙ ap (λ (t : List ℕ). t ++ row_text (written_with d) fields) none
    ∙ sym (append-nil (row_text (written_with d) fields))
