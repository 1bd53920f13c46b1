-- Fields and records as text.
use Rattle.std.proofs.Common.{◌≡◌, ◌∙◌, sym, ap, refl, ℕ, Bool, true, false, List, [], ◌∷◌, ◌++◌, take, length, get_or}
use Rattle.std.proofs.Common.{◌<◌, ◌≤◌, ◌+◌}
use Rattle.std.proofs.Common.{append_assoc, append-nil, arith}
use Rattle.std.specs.Prelude.{◌||◌}
use Rattle.std.proofs.lemmas.List.Folds.{list_any_more, list_any-append}
use Rattle.std.proofs.lemmas.List.{take-append-drop}
use Rattle.std.proofs.Common.{ne_eqb, drop}
use Rattle.std.proofs.Common.{ℤ, add-one}
use Rattle.std.specs.Prelude.{codes}
use Rattle.std.specs.Fmt.{signed_decimal}
use Rattle.std.proofs.Math.Seq.{take-suc}
use Rattle.std.proofs.lemmas.List.{take_all}
use Rattle.csv.proofs.WriteFacts.{escaped-append}
use Rattle.csv.specs.Writing.{default_writer, escaped, field_text, fields_text, is_blank, needs_byte, needs_quotes}
use Rattle.csv.specs.Writing.{quoted, row_text}
use Rattle.twkb_csv.specs.Named.{Grows, header, linestring, member, root, text_of}

-- ==== Bytes that need quotes.

-- no byte from 45 on needs quotes
pub high_byte : (b : ℕ) → 45 ≤ b → needs_byte default_writer b ≡ false
high_byte b h =
    let comma = ne_eqb b 44 (λ e. omega arith) in
    let quote = ne_eqb b 34 (λ e. omega arith) in
    let cr = ne_eqb b 13 (λ e. omega arith) in
    let lf = ne_eqb b 10 (λ e. omega arith) in
    rw (comma, quote, cr, lf) refl

-- one more byte that needs no quotes
pub bare_more : (xs : List ℕ) (i : ℕ) → i < length xs → needs_quotes default_writer (take i xs) ≡ false
    → needs_byte default_writer (get_or xs i 0) ≡ false → needs_quotes default_writer (take (i + 1) xs) ≡ false
bare_more xs i h before here = list_any_more (needs_byte default_writer) xs i 0 h
    ∙ ap (λ t. t || needs_byte default_writer (get_or xs i 0)) before ∙ here

-- one byte that needs quotes is enough
pub quoted_at : (xs : List ℕ) (i : ℕ) → i < length xs → needs_quotes default_writer (take i xs) ≡ false
    → needs_byte default_writer (get_or xs i 0) ≡ true → needs_quotes default_writer xs ≡ true
quoted_at xs i h before here =
    let front : needs_quotes default_writer (take (i + 1) xs) ≡ true =
    list_any_more (needs_byte default_writer) xs i 0 h
    ∙ ap (λ (t : Bool). t || needs_byte default_writer (get_or xs i 0)) before ∙ here in
    ap (needs_quotes default_writer) (sym (take-append-drop (i + 1) xs))
    ∙ list_any-append (needs_byte default_writer) (take (i + 1) xs) (drop (i + 1) xs)
    ∙ ap (λ (t : Bool). t || needs_quotes default_writer (drop (i + 1) xs)) front

-- bytes that need no quotes up to the end
pub bare_all : (xs : List ℕ) (i : ℕ) → length xs ≤ i → needs_quotes default_writer (take i xs) ≡ false
    → needs_quotes default_writer xs ≡ false
bare_all xs i all bare = ap (needs_quotes default_writer) (sym (take_all i xs all)) ∙ bare

-- lemmas that search has to know for loops over bytes
pub ruleset bare_bytes = (bare_more, high_byte, quoted_at, bare_all)

-- ==== Texts that grow.

pub grows_by : (old new xs : List ℕ) → new ≡ old ++ xs → Grows old new
grows_by old new xs same = (xs, same)

pub grows_on : (old mid new : List ℕ) → Grows old mid → Grows mid new → Grows old new
grows_on old mid new (first, a) (second, b) = (
  first ++ second,
  b ∙ ap (λ t. t ++ second) a ∙ append_assoc old first second,
)

-- ==== The line of a linestring.

pub line_text : (precision : ℤ) (polyline : List ℕ) → row_text default_writer (linestring precision polyline)
    ≡ codes "0,linestring,," ++ (field_text default_writer (signed_decimal precision)
    ++ (44 ∷ (field_text default_writer polyline ++ 10 ∷ [])))
unfolding fields_text is_blank
line_text precision polyline =
    let a = field_text default_writer (signed_decimal precision) in
    let b = field_text default_writer polyline in
    ap (λ (t : List ℕ). codes "0,linestring,," ++ t)
    (append_assoc a (44 ∷ (b ++ [])) (10 ∷ []) ∙ ap (λ (t : List ℕ). a ++ (44 ∷ (t ++ 10 ∷ []))) (append-nil b))

-- ==== Bytes between quotes.

pub escaped_more : (xs : List ℕ) (i : ℕ) → i < length xs → escaped default_writer (take (i + 1) xs)
    ≡ escaped default_writer (take i xs) ++ escaped default_writer (get_or xs i 0 ∷ [])
escaped_more xs i h = rw (add-one, take-suc xs i 0 h) (escaped-append default_writer (take i xs) (get_or xs i 0 ∷ []))

pub quoted_all : (old new field : List ℕ) (i : ℕ) → length field ≤ i
    → new ≡ (old ++ (34 ∷ escaped default_writer (take i field))) ++ 34 ∷ []
    → new ≡ old ++ quoted default_writer field
quoted_all old new field i all same =
    let whole : take i field ≡ field = take_all i field all in
    same ∙ append_assoc old (34 ∷ escaped default_writer (take i field)) (34 ∷ [])
    ∙ ap (λ (l : List ℕ). old ++ (34 ∷ (escaped default_writer l ++ 34 ∷ []))) whole

-- one more byte after the first quote
pub quoted_more : (old text new xs : List ℕ) (i : ℕ) → i < length xs
    → text ≡ old ++ (34 ∷ escaped default_writer (take i xs))
    → new ≡ text ++ escaped default_writer (get_or xs i 0 ∷ [])
    → new ≡ old ++ (34 ∷ escaped default_writer (take (i + 1) xs))
quoted_more old text new xs i h before here =
    here ∙ ap (λ (t : List ℕ). t ++ escaped default_writer (get_or xs i 0 ∷ [])) before
    ∙ append_assoc old (34 ∷ escaped default_writer (take i xs)) (escaped default_writer (get_or xs i 0 ∷ []))
    ∙ ap (λ (t : List ℕ). old ++ (34 ∷ t)) (sym (escaped_more xs i h))

-- the pieces of a line
join5 : (t0 pre a b : List ℕ) → ((((t0 ++ pre) ++ a) ++ 44 ∷ []) ++ b) ++ 10 ∷ [] ≡ t0 ++
    (pre ++ (a ++ (44 ∷ (b ++ 10 ∷ []))))
join5 t0 pre a b = simp append_assoc refl

pub line_put : (t0 t1 t2 t3 t4 t5 : List ℕ) (precision : ℤ) (polyline : List ℕ) → t1 ≡ t0 ++ codes "0,linestring,,"
    → t2 ≡ t1 ++ field_text default_writer (signed_decimal precision) → t3 ≡ t2 ++ 44 ∷ []
    → t4 ≡ t3 ++ field_text default_writer polyline → t5 ≡ t4 ++ 10 ∷ []
    → t5 ≡ t0 ++ row_text default_writer (linestring precision polyline)
line_put t0 t1 t2 t3 t4 t5 precision polyline e1 e2 e3 e4 e5 =
    let a = field_text default_writer (signed_decimal precision) in
    let b = field_text default_writer polyline in
    e5 ∙ ap (λ (t : List ℕ). t ++ 10 ∷ []) (e4 ∙ ap (λ (t : List ℕ). t ++ b) (e3 ∙ ap (λ (t : List ℕ). t ++ 44 ∷ [])
    (e2 ∙ ap (λ (t : List ℕ). t ++ a) e1)))
    ∙ join5 t0 (codes "0,linestring,,") a b ∙ ap (λ (t : List ℕ). t0 ++ t) (sym (line_text precision polyline))

-- ==== The lines of a multilinestring.

pub member_text : (id polyline : List ℕ) → row_text default_writer (member id polyline)
    ≡ codes "1,linestring," ++ (field_text default_writer id
    ++ (44 ∷ 44 ∷ (field_text default_writer polyline ++ 10 ∷ [])))
unfolding fields_text is_blank
member_text id polyline =
    let a = field_text default_writer id in
    let b = field_text default_writer polyline in
    ap (λ (t : List ℕ). codes "1,linestring," ++ t)
    (append_assoc a (44 ∷ 44 ∷ (b ++ [])) (10 ∷ [])
    ∙ ap (λ (t : List ℕ). a ++ (44 ∷ 44 ∷ (t ++ 10 ∷ []))) (append-nil b))

-- the pieces of such a line
join_member : (t0 pre a b : List ℕ) → ((((t0 ++ pre) ++ a) ++ 44 ∷ 44 ∷ []) ++ b) ++ 10 ∷ [] ≡ t0 ++
    (pre ++ (a ++ (44 ∷ 44 ∷ (b ++ 10 ∷ []))))
join_member t0 pre a b = simp append_assoc refl

pub member_put : (t0 t1 t2 t3 t4 t5 id polyline : List ℕ) → t1 ≡ t0 ++ codes "1,linestring,"
    → t2 ≡ t1 ++ field_text default_writer id → t3 ≡ t2 ++ 44 ∷ 44 ∷ []
    → t4 ≡ t3 ++ field_text default_writer polyline → t5 ≡ t4 ++ 10 ∷ []
    → t5 ≡ t0 ++ row_text default_writer (member id polyline)
member_put t0 t1 t2 t3 t4 t5 id polyline e1 e2 e3 e4 e5 =
    let a = field_text default_writer id in
    let b = field_text default_writer polyline in
    e5 ∙ ap (λ (t : List ℕ). t ++ 10 ∷ []) (e4 ∙ ap (λ (t : List ℕ). t ++ b)
    (e3 ∙ ap (λ (t : List ℕ). t ++ 44 ∷ 44 ∷ []) (e2 ∙ ap (λ (t : List ℕ). t ++ a) e1)))
    ∙ join_member t0 (codes "1,linestring,") a b ∙ ap (λ (t : List ℕ). t0 ++ t) (sym (member_text id polyline))

pub root_text : (precision : ℤ) → text_of (header ∷ root precision ∷ [])
    ≡ (row_text default_writer header ++ codes "0,multilinestring,,")
    ++ (field_text default_writer (signed_decimal precision) ++ (44 ∷ 10 ∷ []))
unfolding fields_text is_blank
root_text precision =
    let a = field_text default_writer (signed_decimal precision) in
    ap (λ (t : List ℕ). (row_text default_writer header ++ codes "0,multilinestring,,") ++ t)
    (append-nil ((a ++ 44 ∷ []) ++ 10 ∷ []) ∙ append_assoc a (44 ∷ []) (10 ∷ []))

-- the pieces of such a text
join_root : (t0 pre a z : List ℕ) → ((t0 ++ pre) ++ a) ++ z ≡ t0 ++ (pre ++ (a ++ z))
join_root t0 pre a z = simp append_assoc refl

pub root_put : (t0 t1 t2 t3 : List ℕ) (precision : ℤ)
    → t1 ≡ t0 ++ (row_text default_writer header ++ codes "0,multilinestring,,")
    → t2 ≡ t1 ++ field_text default_writer (signed_decimal precision) → t3 ≡ t2 ++ 44 ∷ 10 ∷ []
    → t3 ≡ t0 ++ text_of (header ∷ root precision ∷ [])
root_put t0 t1 t2 t3 precision e1 e2 e3 =
    let a = field_text default_writer (signed_decimal precision) in
    e3 ∙ ap (λ (t : List ℕ). t ++ 44 ∷ 10 ∷ []) (e2 ∙ ap (λ (t : List ℕ). t ++ a) e1)
    ∙ join_root t0 (row_text default_writer header ++ codes "0,multilinestring,,") a (44 ∷ 10 ∷ [])
    ∙ ap (λ (t : List ℕ). t0 ++ t) (sym (root_text precision))
