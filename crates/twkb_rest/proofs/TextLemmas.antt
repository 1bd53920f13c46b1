-- Fields and records of one field as text.
use Rattle.std.proofs.Common.{◌≡◌, ◌∙◌, sym, ap, refl, ℕ, Bool, true, false, List, [], ◌∷◌, ◌++◌, take, length, get_or}
use Rattle.std.proofs.Common.{◌<◌, ◌≤◌, ◌+◌}
use Rattle.std.proofs.Common.{append_assoc, append-nil, arith}
use Rattle.std.specs.Prelude.{◌||◌}
use Rattle.std.proofs.lemmas.List.Folds.{list_any_more, list_any-append}
use Rattle.std.proofs.lemmas.List.{take-append-drop}
use Rattle.std.proofs.Common.{ne_eqb, drop}
use Rattle.std.proofs.Common.{add-one}
use Rattle.std.proofs.Math.Seq.{take-suc}
use Rattle.std.proofs.lemmas.List.{take_all}
use Rattle.csv.proofs.WriteFacts.{escaped-append}
use Rattle.csv.specs.Writing.{escaped, field_text, fields_text, is_blank, needs_byte, needs_quotes}
use Rattle.csv.specs.Writing.{quoted, row_text}
use Rattle.twkb_rest.specs.Written.{Grows, written_with}

-- ==== Bytes that need quotes.

-- no byte above the delimiter and the quote needs quotes
pub high_byte : (d b : ℕ) → d < b → 34 < b → needs_byte (written_with d) b ≡ false
high_byte d b above high =
    let delimiter = ne_eqb b d (λ e. omega (arith, above, e)) in
    let quote = ne_eqb b 34 (λ e. omega (arith, high, e)) in
    let cr = ne_eqb b 13 (λ e. omega (arith, high, e)) in
    let lf = ne_eqb b 10 (λ e. omega (arith, high, e)) in
    rw (delimiter, quote, cr, lf) refl

-- one more byte that needs no quotes
pub bare_more : (d : ℕ) (xs : List ℕ) (i : ℕ) → i < length xs → needs_quotes (written_with d) (take i xs) ≡ false
    → needs_byte (written_with d) (get_or xs i 0) ≡ false → needs_quotes (written_with d) (take (i + 1) xs) ≡ false
bare_more d xs i h before here = list_any_more (needs_byte (written_with d)) xs i 0 h
    ∙ ap (λ t. t || needs_byte (written_with d) (get_or xs i 0)) before ∙ here

-- one byte that needs quotes is enough
pub quoted_at : (d : ℕ) (xs : List ℕ) (i : ℕ) → i < length xs → needs_quotes (written_with d) (take i xs) ≡ false
    → needs_byte (written_with d) (get_or xs i 0) ≡ true → needs_quotes (written_with d) xs ≡ true
quoted_at d xs i h before here =
    let front : needs_quotes (written_with d) (take (i + 1) xs) ≡ true =
    list_any_more (needs_byte (written_with d)) xs i 0 h
    ∙ ap (λ (t : Bool). t || needs_byte (written_with d) (get_or xs i 0)) before ∙ here in
    ap (needs_quotes (written_with d)) (sym (take-append-drop (i + 1) xs))
    ∙ list_any-append (needs_byte (written_with d)) (take (i + 1) xs) (drop (i + 1) xs)
    ∙ ap (λ (t : Bool). t || needs_quotes (written_with d) (drop (i + 1) xs)) front

-- bytes that need no quotes up to the end
pub bare_all : (d : ℕ) (xs : List ℕ) (i : ℕ) → length xs ≤ i → needs_quotes (written_with d) (take i xs) ≡ false
    → needs_quotes (written_with d) xs ≡ false
bare_all d xs i all bare = ap (needs_quotes (written_with d)) (sym (take_all i xs all)) ∙ bare

-- lemmas that search has to know for loops over bytes
pub ruleset bare_bytes = (bare_more, high_byte, quoted_at, bare_all)

-- ==== Texts that grow.

pub grows_by : (old new xs : List ℕ) → new ≡ old ++ xs → Grows old new
grows_by old new xs same = (xs, same)

pub grows_on : (old mid new : List ℕ) → Grows old mid → Grows mid new → Grows old new
grows_on old mid new (first, a) (second, b) = (
  first ++ second,
  b ∙ ap (λ t. t ++ second) a ∙ append_assoc old first second,
)

-- ==== Bytes between quotes.

pub escaped_more : (d : ℕ) (xs : List ℕ) (i : ℕ) → i < length xs → escaped (written_with d) (take (i + 1) xs)
    ≡ escaped (written_with d) (take i xs) ++ escaped (written_with d) (get_or xs i 0 ∷ [])
escaped_more d xs i h = rw (add-one, take-suc xs i 0 h)
    (escaped-append (written_with d) (take i xs) (get_or xs i 0 ∷ []))

pub quoted_all : (d : ℕ) (old new field : List ℕ) (i : ℕ) → length field ≤ i
    → new ≡ (old ++ (34 ∷ escaped (written_with d) (take i field))) ++ 34 ∷ []
    → new ≡ old ++ quoted (written_with d) field
quoted_all d old new field i all same =
    let whole : take i field ≡ field = take_all i field all in
    same ∙ append_assoc old (34 ∷ escaped (written_with d) (take i field)) (34 ∷ [])
    ∙ ap (λ (l : List ℕ). old ++ (34 ∷ (escaped (written_with d) l ++ 34 ∷ []))) whole

-- one more byte after the first quote
pub quoted_more : (d : ℕ) (old text new xs : List ℕ) (i : ℕ) → i < length xs
    → text ≡ old ++ (34 ∷ escaped (written_with d) (take i xs))
    → new ≡ text ++ escaped (written_with d) (get_or xs i 0 ∷ [])
    → new ≡ old ++ (34 ∷ escaped (written_with d) (take (i + 1) xs))
quoted_more d old text new xs i h before here =
    here ∙ ap (λ (t : List ℕ). t ++ escaped (written_with d) (get_or xs i 0 ∷ [])) before
    ∙ append_assoc old (34 ∷ escaped (written_with d) (take i xs)) (escaped (written_with d) (get_or xs i 0 ∷ []))
    ∙ ap (λ (t : List ℕ). old ++ (34 ∷ t)) (sym (escaped_more d xs i h))

-- ==== The record of one field.

-- of no byte
pub empty_record : (d : ℕ) (field : List ℕ) → field ≡ [] → row_text (written_with d) (field ∷ []) ≡ 34 ∷ 34 ∷ 10 ∷ []
unfolding fields_text is_blank
empty_record d field none = rw none refl

-- of bytes that are shown
shown_record : (d : ℕ) (field shown : List ℕ) → field_text (written_with d) field ≡ shown → 0 < length shown
    → row_text (written_with d) (field ∷ []) ≡ shown ++ 10 ∷ []
unfolding fields_text is_blank
shown_record d field shown same some =
    rw (same, ne_eqb (length shown) 0 (λ e. omega (arith, some, e)))
    (ap (λ (t : List ℕ). t ++ 10 ∷ []) (append-nil shown))

-- of bytes that need quotes
pub quoted_record : (d : ℕ) (field : List ℕ) → needs_quotes (written_with d) field ≡ true
    → row_text (written_with d) (field ∷ []) ≡ quoted (written_with d) field ++ 10 ∷ []
quoted_record d field needs = shown_record d field (quoted (written_with d) field) (rw needs refl) (omega arith)

-- of bytes that need none
pub bare_record : (d : ℕ) (field : List ℕ) → 0 < length field → needs_quotes (written_with d) field ≡ false
    → row_text (written_with d) (field ∷ []) ≡ field ++ 10 ∷ []
bare_record d field some bare = shown_record d field field (rw bare refl) some
