-- The lines of rows, written without quotes and appended one after the other.
use Rattle.std.proofs.Common.{◌≡◌, ℕ, ◌+◌, ◌^◌, ◌<◌, ◌≤◌, List, [], ◌∷◌, ◌++◌, length, length-append, take, drop}
use Rattle.std.proofs.Common.{get_or, slice_get, Some, arith, refl, sym, ◌∙◌, ap, subst, append_assoc, append-nil}
use Rattle.std.proofs.Common.{suc, ◌%◌, Bool, true, false, Option, None, ne_eqb, add-one}
use Rattle.std.specs.Prelude.{map, Result, OnOk, ℤ, pos, negsuc, IfSome, decimal}
use Rattle.std.proofs.lemmas.List.{map-append, take_all, take_more, take-append-drop, drop_all}
use Rattle.std.proofs.lemmas.Option.{get_or_from_slice_get, slice_get_within}
use Rattle.std.proofs.lemmas.Grind.{flat_map-append}
use Rattle.twkb_tree.specs.Tree.{saturated, IsId, Ids, Tree}
use Rattle.twkb_flat.specs.declared.work.Work.{Work}
use Rattle.twkb_tree.specs.Rows.{Row, row_points, plain_row, polygon_rows, ring_rows, first_id, ids_from}
use Rattle.twkb_tree.specs.Rows.{rows_of_each, rows_with, rows_under, own_row}
use Rattle.twkb_table.specs.Record.{Record, record_of, optional}
use Rattle.twkb_table.specs.Text.{csvtext, joined, row_lines, Grows, IsBare, more_fields, IsReady, Writes}
use Rattle.twkb_table.specs.Text.{text_of as record_text_of}
use Rattle.std.specs.List.{AllByRecursion}
use Rattle.std.specs.Fmt.{signed_decimal}
use Rattle.std.proofs.lemmas.Fmt.{decimal_by_steps}
use Rattle.csv.specs.Writing.{default_writer, field_text, fields_text, is_blank, row_text, needs_byte}
use Rattle.twkb_num.specs.Alphabet.{five_unit}
use Rattle.twkb_num.specs.Spelling.{units_of, digits, zigzag_of}
use Rattle.twkb_polyline.specs.Polyline.{number_text, text_of, polyline}
use Rattle.twkb_tree.specs.declared.kind.Kind.{Kind}
use Rattle.twkb_tree.specs.declared.kind.Kind.TheVariants as kind
use Rattle.twkb_tree.specs.Kind.{word_of}
use Rattle.twkb_table.proofs.FieldLemmas.{mag-id}
use Rattle.std.specs.Global.{Vec}
use Rattle.std.proofs.lemmas.Result.{on_ok_weaker}
use Rattle.csv.specs.declared.writer.Writer.{Writer}
use Rattle.twkb_points.specs.Steps.{differences}
use Rattle.twkb_points.specs.Point.{Point}
use Rattle.twkb_tree.proofs.TreeLemmas.{each_next, ids_from_start, own_row_first}

-- ==== The lines of rows, appended one after the other.

-- the lines of two lists of rows
pub row_lines-append : (rs ss : List Row) → row_lines (rs ++ ss) ≡ row_lines rs ++ row_lines ss
unfolding row_lines
row_lines-append rs ss = ap csvtext (map-append record_of rs ss)
    ∙ flat_map-append (λ (fields : Record). joined fields ++ 10 ∷ []) (map record_of rs)
    (map record_of ss)

-- no rows have no lines
pub no_lines : row_lines [] ≡ []
unfolding row_lines
no_lines = refl

-- ---- a text that grew

pub grows_by : (old new xs : List ℕ) → new ≡ old ++ xs → Grows old new
grows_by old new xs e = (xs, e)

-- a text that grows twice grows
pub grows_on : (old mid new : List ℕ) → Grows old mid → Grows mid new → Grows old new
grows_on old mid new g h = (g.0 ++ h.0, h.1 ∙ ap (λ t. t ++ h.0) g.1 ∙ append_assoc old g.0 h.0)

-- ---- rows

cons_append : (x : ℕ) (xs ys : List ℕ) → (x ∷ xs) ++ ys ≡ x ∷ (xs ++ ys)
cons_append x xs ys = refl

-- four fields, with commas after each, appended at once, and then the fifth
pub fields_put : {T E : Type 0} (result : Result T E)
    (old depth kind id precision line head field a b c : List ℕ)
    → head ≡ ((depth ++ 44 ∷ (kind ++ 44 ∷ [])) ++ id) ++ 44 ∷ (precision ++ 44 ∷ []) → field ≡ head
    → a ≡ old ++ field → b ≡ a ++ line
    → OnOk result (c ≡ b ++ 10 ∷ []) → OnOk result
    (c ≡ old ++ csvtext ((depth ∷ kind ∷ id ∷ precision ∷ line ∷ []) ∷ []))
fields_put result old depth kind id precision line head field a b c gathered same ea eb told =
    let whole : b ≡ (old ++ (((depth ++ 44 ∷ (kind ++ 44 ∷ [])) ++ id) ++ 44 ∷ (precision ++ 44 ∷ []))) ++ line = cc in
    let text : b ++ 10 ∷ [] ≡ old ++ csvtext ((depth ∷ kind ∷ id ∷ precision ∷ line ∷ []) ∷ []) =
    ap (λ t. t ++ 10 ∷ []) whole ∙ simp (append_assoc, append-nil, cons_append) in
    subst (λ u. OnOk result (c ≡ u)) text told

-- a list of one element is that element
pub just_one : {A : Type 0} (xs : List A) (x : A) → 1 ≤ length xs → length xs < 2 → x ≡ get_or xs 0 x → xs ≡ x ∷ []
just_one xs x some few first = sym (take_all 1 xs (omega (arith, some, few)))
    ∙ take_more xs 0 x (omega (arith, some)) ∙ ap (λ y. y ∷ []) (sym first)

-- the five fields and the line feed, appended at once
pub line_put : {T E : Type 0} (result : Result T E)
    (old depth kind id precision line head fields whole given new : List ℕ)
    → head ≡ ((depth ++ 44 ∷ (kind ++ 44 ∷ [])) ++ id) ++ 44 ∷ (precision ++ 44 ∷ [])
    → fields ≡ head ++ line → whole ≡ fields ++ 10 ∷ [] → given ≡ whole
    → OnOk result (new ≡ old ++ given) → OnOk result
    (new ≡ old ++ csvtext ((depth ∷ kind ∷ id ∷ precision ∷ line ∷ []) ∷ []))
line_put result old depth kind id precision line head fields whole given new gathered spelled ended same told =
    let all : given ≡ ((((depth ++ 44 ∷ (kind ++ 44 ∷ [])) ++ id) ++ 44 ∷ (precision ++ 44 ∷ []))
    ++ line) ++ 10 ∷ [] = cc in
    let text : old ++ given ≡ old ++ csvtext ((depth ∷ kind ∷ id ∷ precision ∷ line ∷ []) ∷ []) =
    ap (λ t. old ++ t) all ∙ simp (append_assoc, append-nil, cons_append) in
    subst (λ u. OnOk result (new ≡ u)) text told

-- the counters after reads of this many nodes and points
abbrev pub counted_on : Work → ℕ → ℕ → Work
counted_on before nodes points = record before {
  node_reads = saturated (before.node_reads + nodes);
  point_reads = saturated (before.point_reads + points);
}

-- the lines of the rows before place i were appended to `old`, and these rows and their points were
-- read once
pub record RowsPut (rows : List Row) (i : ℕ) (old text : List ℕ) (before work : Work) : Type 0 where
  pub lines : text ≡ old ++ row_lines (take i rows)
  pub counted : work ≡ counted_on before i (length (row_points (take i rows)))

-- a counter that has not stopped stays, if nothing is read
counts_none : (n : ℕ) → n < 2 ^ 64 → n ≡ saturated (n + 0)
counts_none n fits = omega (arith, fits)

pub rows_put_none : (rows : List Row) (old : List ℕ) (before : Work) → before.node_reads < 2 ^ 64
    → before.point_reads < 2 ^ 64 → RowsPut rows 0 old old before before
rows_put_none rows old before nodes points = record {
  lines = sym (append-nil old)
      ∙ ap (λ t. old ++ t) (sym no_lines);
  counted = ap (λ (n : ℕ). record before { node_reads = n }) (counts_none before.node_reads nodes)
      ∙ ap (λ (n : ℕ). record before { node_reads = saturated (before.node_reads + 0); point_reads = n })
      (counts_none before.point_reads points);
}

take_next : (rows : List Row) (i : ℕ) (r : Row) → slice_get rows i ≡ Some r → take (i + 1) rows ≡ take i rows ++ r ∷ []
take_next rows i r here = take_more rows i r (slice_get_within rows i r here)
    ∙ ap (λ (q : Row). take i rows ++ q ∷ []) (get_or_from_slice_get rows i r r here)

points_next : (rows : List Row) (i : ℕ) (r : Row) → slice_get rows i ≡ Some r
    → length (row_points (take (i + 1) rows)) ≡ length (row_points (take i rows)) + length r.points
points_next rows i r here =
    let both : row_points (take (i + 1) rows) ≡ row_points (take i rows) ++ (r.points ++ []) =
    ap row_points (take_next rows i r here) ∙ flat_map-append (λ (q : Row). q.points)
    (take i rows) (r ∷ []) in
    omega (arith, ap length both, length-append (row_points (take i rows)) (r.points ++ []), length-append r.points [])

-- counts that follow each other add up
counts_join : (before : Work) (nodes more points others : ℕ)
    → counted_on (counted_on before nodes points) more others ≡ counted_on before (nodes + more) (points + others)
counts_join before nodes more points others =
    rw (joined before.node_reads nodes more, joined before.point_reads points others)
  where
    joined : (n k m : ℕ) → saturated (saturated (n + k) + m) ≡ saturated (n + (k + m))
    joined n k m = omega arith

pub rows_put_more : {rows : List Row} {i : ℕ} {r : Row} {old text after : List ℕ}
    {before work next : Work} → RowsPut rows i old text before work → slice_get rows i ≡ Some r
    → next ≡ record work {
      node_reads = saturated (work.node_reads + 1);
      point_reads = saturated (work.point_reads + length r.points);
    }
    → after ≡ text ++ row_lines (r ∷ []) → RowsPut rows (i + 1) old after before next
rows_put_more {rows = rows} {i = i} {r = r} {old = old} {before = before} so_far here counted
    put = record {
      lines = rw (take_next rows i r here, row_lines-append) (put
          ∙ rw so_far.lines (append_assoc old (row_lines (take i rows)) (row_lines (r ∷ []))));
      counted = rw (points_next rows i r here) (counted
          ∙ ap (λ (w : Work). counted_on w 1 (length r.points)) so_far.counted
          ∙ counts_join before i 1 (length (row_points (take i rows))) (length r.points));
    }

-- the lines of all rows
pub all_lines : {rows : List Row} {i : ℕ} {old text : List ℕ} {before work : Work}
    → RowsPut rows i old text before work → i ≡ length rows → text ≡ old ++ row_lines rows
all_lines {rows = rows} {i = i} {old = old} so_far end = so_far.lines
    ∙ ap (λ (rs : List Row). old ++ row_lines rs) (take_all i rows (omega (arith, end)))

-- all rows and points were read once
pub all_counted : {rows : List Row} {i : ℕ} {old text : List ℕ} {before work : Work}
    → RowsPut rows i old text before work → i ≡ length rows
    → work ≡ counted_on before (length rows) (length (row_points rows))
all_counted {rows = rows} {i = i} so_far end =
    let whole = take_all i rows (omega (arith, end)) in
    rw (← end) (rw whole at so_far.counted)

-- at most as many rows were read as there are
pub few_nodes : {rows : List Row} {i : ℕ} {old text : List ℕ} {before work : Work}
    → RowsPut rows i old text before work → i ≤ length rows → work.node_reads ≤ before.node_reads + length rows
few_nodes so_far within = omega (arith, within, ap (λ (w : Work). w.node_reads) so_far.counted)

-- at most as many points were read as there are
pub few_points : {rows : List Row} {i : ℕ} {old text : List ℕ} {before work : Work}
    → RowsPut rows i old text before work
    → work.point_reads ≤ before.point_reads + length (row_points rows)
few_points {rows = rows} {i = i} so_far =
    let both : row_points (take i rows) ++ row_points (drop i rows) ≡ row_points rows =
    sym (flat_map-append (λ (q : Row). q.points) (take i rows) (drop i rows))
    ∙ ap row_points (take-append-drop i rows) in
    omega (
      arith,
      ap (λ (w : Work). w.point_reads) so_far.counted,
      ap length both,
      length-append (row_points (take i rows)) (row_points (drop i rows)),
    )

-- ==== The fields of rows are written without quotes.

-- ---- bytes above the comma need no quotes

abbrev pub IsHigh : List ℕ → Type 0
IsHigh bytes = AllByRecursion (λ b. 45 ≤ b) bytes

high_byte : (b : ℕ) → 45 ≤ b → needs_byte default_writer b ≡ false
high_byte b h =
    let comma = ne_eqb b 44 (λ e. omega arith) in
    let quote = ne_eqb b 34 (λ e. omega arith) in
    let cr = ne_eqb b 13 (λ e. omega arith) in
    let lf = ne_eqb b 10 (λ e. omega arith) in
    rw (comma, quote, cr, lf) refl

pub high_bare : (bytes : List ℕ) → IsHigh bytes → IsBare bytes
high_bare [] h = refl
high_bare (b ∷ bytes) h = rw (high_byte b h.0, high_bare bytes h.1) refl

-- ---- records of bare fields

abbrev pub AreBare : Record → Type 0
AreBare fields = AllByRecursion IsBare fields

field_same : (field : List ℕ) → IsBare field → field_text default_writer field ≡ field
field_same field h = rw h refl

fields_same : (fields : Record) → AreBare fields → fields_text default_writer fields ≡ more_fields fields
unfolding fields_text
fields_same [] h = refl
fields_same (field ∷ fields) h = rw (field_same field h.0, fields_same fields h.1) refl

-- a record of at least two fields is written as its line
pub row_same : (x y : List ℕ) (ys : Record) → AreBare (x ∷ y ∷ ys)
    → row_text default_writer (x ∷ y ∷ ys) ≡ joined (x ∷ y ∷ ys) ++ 10 ∷ []
unfolding is_blank
row_same x y ys h = ap (λ t. (t ++ fields_text default_writer (y ∷ ys)) ++ 10 ∷ [])
    (field_same x h.0) ∙ ap (λ t. (x ++ t) ++ 10 ∷ []) (fields_same (y ∷ ys) h.1)

-- ---- the fields of a row are bare

high_join : (xs ys : List ℕ) → IsHigh xs → IsHigh ys → IsHigh (xs ++ ys)
high_join [] ys a b = b
high_join (x ∷ xs) ys a b = (a.0, high_join xs ys a.1 b)

high_decimal : (n : ℕ) → n < 2 ^ 64 → IsHigh (decimal n)
high_decimal n h = decimal_by_steps (λ m ds. IsHigh ds) (λ m lt. (omega arith, tt))
    (λ m ds le below. high_join ds ((48 + m % 10) ∷ []) below (omega arith, tt)) n h

high_signed : (z : ℤ) → IsId z → IsHigh (signed_decimal z)
high_signed (pos n) h = let few = mag-id (pos n) h in high_decimal n (omega arith)
high_signed (negsuc n) h = let few = mag-id (negsuc n) h in (omega arith, high_decimal (suc n) (omega arith))

pub bare_decimal : (n : ℕ) → n < 2 ^ 64 → IsBare (decimal n)
bare_decimal n h = high_bare (decimal n) (high_decimal n h)

pub bare_signed : (z : ℤ) → IsId z → IsBare (signed_decimal z)
bare_signed z h = high_bare (signed_decimal z) (high_signed z h)

pub bare_optional : (o : Option ℤ) → IfSome o IsId → IsBare (optional o)
bare_optional None h = refl
bare_optional (Some z) h = bare_signed z h

high_unit : (d : ℕ) (more : Bool) → 45 ≤ five_unit d more
high_unit d true = omega arith
high_unit d false = omega arith

high_units : (ds : List ℕ) → IsHigh (units_of five_unit ds)
high_units [] = tt
high_units (d ∷ []) = (high_unit d false, tt)
high_units (d ∷ e ∷ ds) = (high_unit d true, high_units (e ∷ ds))

high_text : (ds : List (ℤ × ℤ)) → IsHigh (text_of ds)
high_text [] = tt
high_text (d ∷ ds) = high_join (number_text d.1) (number_text d.0 ++ text_of ds)
    (high_units (digits 32 (zigzag_of d.1))) (high_join (number_text d.0) (text_of ds)
    (high_units (digits 32 (zigzag_of d.0))) (high_text ds))

pub bare_text : (ds : List (ℤ × ℤ)) → IsBare (text_of ds)
bare_text ds = high_bare (text_of ds) (high_text ds)

pub bare_word : (k : Kind) → IsBare (word_of k)
bare_word kind.Point = refl
bare_word _ = refl

-- ==== Rows written as records, one after the other.

-- a record of a row's fields, which need no quotes, is written as the row's line
pub row_written : {T E : Type 0} (result : Result T E) (old new : Writer (Vec ℕ)) (row : Row)
    (depth kind id precision line : List ℕ) → depth ≡ optional (Some (pos row.depth))
    → kind ≡ word_of row.kind → id ≡ optional row.id → precision ≡ optional row.precision
    → line ≡ polyline row.points
    → IsBare depth → IsBare id → IsBare precision
    → OnOk result (Writes old new (row_text default_writer
    (depth ∷ kind ∷ id ∷ precision ∷ line ∷ [])))
    → OnOk result (Writes old new (row_lines (row ∷ [])))
unfolding row_lines
row_written result old new row depth kind id precision line d k i p l bare_depth bare_id bare_precision written =
    let word : IsBare kind = subst IsBare (sym k) (bare_word row.kind) in
    let points : IsBare line = subst IsBare (sym l) (bare_text (differences row.points)) in
    let plain : row_text default_writer (depth ∷ kind ∷ id ∷ precision ∷ line ∷ []) ≡ row_lines (row ∷ []) =
    row_same depth kind (id ∷ precision ∷ line ∷ [])
    (bare_depth, (word, (bare_id, (bare_precision, (points, tt)))))
    ∙ rw (d, k, i, p, l) (sym (append-nil _)) in
    subst (λ text. OnOk result (Writes old new text)) plain written

-- the lines of rows and then those of other rows are written
rows_written : (a b c : Writer (Vec ℕ)) (rs ss : List Row) → Writes a b (row_lines rs)
    → Writes b c (row_lines ss) → Writes a c (row_lines (rs ++ ss))
rows_written a b c rs ss front more = record {
  ready = more.ready;
  text = more.text ∙ ap (λ t. t ++ row_lines ss) front.text
      ∙ append_assoc (record_text_of a) (row_lines rs) (row_lines ss)
      ∙ ap (λ t. record_text_of a ++ t) (sym (row_lines-append rs ss));
}

-- the records of the members before place i were written
pub record HasWritten {A : Type 0} (f : Option ℤ → A → List Row) (ids : Ids) (xs : List A)
    (i index : ℕ) (old now : Writer (Vec ℕ)) : Type 0 where
  pub place : index ≡ i
  pub ready : IsReady now
  pub lines : record_text_of now ++ row_lines (rows_of_each f (ids_from i ids) (drop i xs)) ≡ record_text_of old
      ++ row_lines (rows_of_each f ids xs)

pub has_written_none : {A : Type 0} {f : Option ℤ → A → List Row} {ids : Ids} {xs : List A}
    {old : Writer (Vec ℕ)} → IsReady old → HasWritten f ids xs 0 0 old old
has_written_none {f = f} {ids = ids} {xs = xs} {old = old} ready = record {
  place = refl;
  ready = ready;
  lines = ap (λ (js : Ids). record_text_of old ++ row_lines (rows_of_each f js xs)) (ids_from_start ids);
}

pub has_written_more : {A : Type 0} {f : Option ℤ → A → List Row} {ids : Ids} {xs : List A}
    {i index : ℕ} {x : A} {id : Option ℤ} {old now next : Writer (Vec ℕ)}
    → HasWritten f ids xs i index old now → i < length xs → x ≡ get_or xs i x
    → id ≡ first_id (ids_from index ids) → Writes now next (row_lines (f id x))
    → HasWritten f ids xs (i + 1) (index + 1) old next
has_written_more {f = f} {ids = ids} {xs = xs} {i = i} {x = x} {id = id} {now = now} has within read
    eid put =
    let rest = rows_of_each f (ids_from (i + 1) ids) (drop (i + 1) xs) in
    let first : id ≡ first_id (ids_from i ids) = eid ∙ ap (λ j. first_id (ids_from j ids)) has.place in
    let whole : f id x ++ rest ≡ rows_of_each f (ids_from i ids) (drop i xs) =
    ap (λ j. f j x ++ rest) first ∙ sym (each_next f ids xs i x within read) in
    record {
      place = ap (λ j. j + 1) has.place;
      ready = put.ready;
      lines =
          ap (λ t. t ++ row_lines rest) put.text
          ∙ append_assoc (record_text_of now) (row_lines (f id x)) (row_lines rest)
          ∙ ap (λ t. record_text_of now ++ t) (sym (row_lines-append (f id x) rest))
          ∙ ap (λ rs. record_text_of now ++ row_lines rs) whole
          ∙ has.lines;
    }

pub has_written_all : {A : Type 0} {f : Option ℤ → A → List Row} {ids : Ids} {xs : List A}
    {i index : ℕ} {old now : Writer (Vec ℕ)} → HasWritten f ids xs i index old now → length xs ≤ i
    → Writes old now (row_lines (rows_of_each f ids xs))
has_written_all {f = f} {ids = ids} {xs = xs} {i = i} {now = now} has done = record {
  ready = has.ready;
  text = sym (append-nil (record_text_of now)) ∙ ap (λ t. record_text_of now ++ t) (sym no_lines)
      ∙ ap (λ ys. record_text_of now ++ row_lines (rows_of_each f (ids_from i ids) ys))
      (sym (drop_all i xs done)) ∙ has.lines;
}

-- a geometry's own record and those below it are written, if all writes passed
pub geometry_written : {T E : Type 0} (result : Result T E) (id : Option ℤ) (d : ℕ) (g : Tree)
    (r : Row) (rs : List Row) (old mid new : Writer (Vec ℕ)) → r ≡ own_row id d g
    → rs ≡ rows_under (d + 1) g → Writes old mid (row_lines (r ∷ []))
    → OnOk result (Writes mid new (row_lines rs))
    → OnOk result (Writes old new (row_lines (rows_with id d g)))
geometry_written result id d g r rs old mid new er ers own below =
    let whole : r ∷ rs ≡ rows_with id d g = ap (λ q. q ∷ rs) er
    ∙ ap (λ qs. own_row id d g ∷ qs) (ers ∙ ap (λ k. rows_under k g) (add-one d))
    ∙ sym (own_row_first id d g) in
    subst (λ qs. OnOk result (Writes old new (row_lines qs))) whole
    (on_ok_weaker result (rows_written old mid new (r ∷ []) rs own) below)

-- a polygon's record and those of its rings are written
pub area_written : (d : ℕ) (id : Option ℤ) (rings given : List (List Point))
    (old mid new : Writer (Vec ℕ)) → Writes old mid
    (row_lines (plain_row d Kind.Polygon id [] ∷ [])) → given ≡ rings
    → Writes mid new (row_lines (ring_rows (d + 1) given))
    → Writes old new (row_lines (polygon_rows d id rings))
area_written d id rings given old mid new own eg below =
    let rest : ring_rows (d + 1) given ≡ ring_rows (suc d) rings = ap (ring_rows (d + 1)) eg
    ∙ ap (λ k. ring_rows k rings) (add-one d) in
    subst (λ rs. Writes old new (row_lines (plain_row d Kind.Polygon id [] ∷ rs))) rest
    (rows_written old mid new (plain_row d Kind.Polygon id [] ∷ [])
    (ring_rows (d + 1) given) own below)
