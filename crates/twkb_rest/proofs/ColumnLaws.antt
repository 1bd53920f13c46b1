-- A column that is packed again gives the canonical stream.
use Rattle.std.proofs.Common.{◌≡◌, ◌∙◌, sym, ap, refl, subst, ℕ, ℤ}
use Rattle.std.proofs.Common.{Bool, true, false, List, [], ◌∷◌, ◌++◌}
use Rattle.std.proofs.Common.{None, inl, inr}
use Rattle.std.specs.Prelude.{◌⊎◌, map, if◌then◌else◌, codes, decimal}
use Rattle.std.specs.Fmt.{signed_decimal}
use Rattle.std.proofs.lemmas.Fmt.{decimal_digit}
use Rattle.std.proofs.Common.{arith}
use Rattle.std.specs.List.{AllByRecursion}
use Rattle.std.specs.Str.{bytes_eq}
use Rattle.std.proofs.lemmas.Slice.Eq.{bytes_eq-Decides}
use Rattle.std.proofs.lemmas.List.{map-append}
use Rattle.twkb_tree.specs.Tree.{Tree, simple, collection, flat, point, line, polygon, multi_point}
use Rattle.twkb_tree.specs.Tree.{multi_line, multi_polygon}
use Rattle.twkb_tree.specs.Rows.{AreValid, rows, rows_of}
use Rattle.twkb_tree.specs.Limits.{Allowance, IsAllowance}
use Rattle.twkb_grammar.specs.Items.{Stream}
use Rattle.twkb_grammar.specs.Written.{canonical_stream}
use Rattle.twkb_grammar.specs.declared.style.Style.{Style}
use Rattle.twkb_polyline.specs.Polyline.{polyline}
use Rattle.twkb_csv.specs.Named.{both, found_from, header_named, id_at, ids_from, is_among, is_missing, linestring}
use Rattle.twkb_csv.specs.Named.{named, roots, rows_named, value_record}
use Rattle.twkb_csv.specs.declared.column.Column.{Column}
use Rattle.twkb_csv.specs.declared.found.Found.{Found}
use Rattle.twkb_csv.specs.declared.found.Found.TheVariants.{Absent, At}
use Rattle.twkb_table.specs.Record.{header, record_of, table}
use Rattle.twkb_table.specs.RowFault.{Named}
use Rattle.twkb_convert.specs.Outputs.{PackTo}
use Rattle.twkb_rest.specs.Written.{HasField, IsSeparator, Record}
use Rattle.twkb_rest.specs.Columns.{AreOf, IsLine, IsNoWord, IsPackedAgain, column_records, line_record}
use Rattle.twkb_rest.proofs.RoundTrip.{read_all}

same_bytes : (xs : List ℕ) → bytes_eq xs xs ≡ true
same_bytes xs = (bytes_eq-Decides xs xs).1 refl

-- ==== The row that a field of the column names.

either : {A : Type 0} (b : Bool) (x : A) → (if b then x else x) ≡ x
either true x = refl
either false x = refl

value_kept : (column : Column) (id field : List ℕ) → column.ids ≡ None → (field ≡ [])
    ⊎ ((is_among column.nulls.now field ≡ false) × (is_missing field ≡ false))
    → value_record column id field ≡ linestring column.precision field
value_kept column id field plain (inl none) =
    rw (plain, none) (either (is_among column.nulls.now []) (linestring column.precision []))
value_kept column id field plain (inr (among, missing)) = rw (plain, among, missing) refl

zero_digit : decimal 0 ≡ codes "0"
zero_digit = decimal_digit 0 (omega arith)

-- a linestring has one row
line_row : (p : ℤ) (g : Tree) → IsLine p g → map record_of (rows 0 g) ≡ linestring p (polyline (flat g)) ∷ []
line_row p (simple q (line ps)) h =
    ap (λ (zero : List ℕ). (zero ∷ codes "linestring" ∷ [] ∷ signed_decimal q ∷ polyline ps ∷ []) ∷ []) zero_digit
    ∙ ap (λ (n : ℤ). linestring n (polyline ps) ∷ []) h.1
line_row p (simple q (point o)) h = absurd (cc h.0)
line_row p (simple q (polygon rings)) h = absurd (cc h.0)
line_row p (simple q (multi_point ids ps)) h = absurd (cc h.0)
line_row p (simple q (multi_line ids lines)) h = absurd (cc h.0)
line_row p (simple q (multi_polygon ids areas)) h = absurd (cc h.0)
line_row p (collection q ids gs) h = absurd (cc h.0)

-- the rows that the records of a column name are those of the geometries
rows_are : (column : Column) (ids : Found) (gs : List Tree) → column.ids ≡ None
    → AllByRecursion (IsLine column.precision) gs → AllByRecursion (IsNoWord column) gs
    → rows_named column (At 0) ids 1 (map line_record gs) ≡ map record_of (rows_of gs)
rows_are column ids [] plain lines words = refl
rows_are column ids (g ∷ gs) plain lines words =
    let here = value_kept column (id_at ids (line_record g)) (polyline (flat g)) plain words.0 in
    let own = line_row column.precision g lines.0 in
    ap (λ (r : Record). r ∷ rows_named column (At 0) ids 1 (map line_record gs)) here
    ∙ ap (λ (rs : List Record). linestring column.precision (polyline (flat g)) ∷ rs)
    (rows_are column ids gs plain lines.1 words.1)
    ∙ ap (λ (rs : List Record). rs ++ map record_of (rows_of gs)) (sym own)
    ∙ sym (map-append record_of (rows 0 g) (rows_of gs))

-- the only name is the column's
name_found : (column : Column) → found_from column.name.now Absent 0 (column.name.now ∷ []) ≡ At 0
name_found column = rw (same_bytes column.name.now) refl

-- without ids it is the only one that is looked for
both_found : (column : Column) (ids : Found) → column.ids ≡ None
    → both column.ids (found_from column.name.now Absent 0 (column.name.now ∷ [])) ids ≡ At 0
both_found column ids plain = rw (plain, name_found column) refl

no_roots : (column : Column) → column.ids ≡ None → roots column.ids column.precision ≡ []
no_roots column plain = rw plain refl

-- the records of a column name the table of the geometries
pub named_again : (column : Column) (gs : List Tree) → AreOf column gs
    → named column (column_records column.name.now gs) ≡ table gs
named_again column gs are =
    let ids = ids_from column.ids Absent 0 (column.name.now ∷ []) in
    ap (λ (f : Found). header_named column f ++ rows_named column f ids 1 (map line_record gs))
    (both_found column ids are.no_ids)
    ∙ ap (λ (rs : List Record). (header ∷ rs) ++ rows_named column (At 0) ids 1 (map line_record gs))
    (no_roots column are.no_ids)
    ∙ ap (λ (rs : List Record). header ∷ rs) (rows_are column ids gs are.no_ids are.lines are.words)

valid_stream : (l : Allowance) (bytes : List ℕ) (gs : List Tree) → Stream l bytes gs → AreValid l gs
valid_stream l bytes [] s = tt
valid_stream l bytes (g ∷ gs) s = (s.3.valid, valid_stream l s.1 gs s.4)

line_fields : (gs : List Tree) → AllByRecursion HasField (map line_record gs)
line_fields [] = tt
line_fields (g ∷ gs) = (tt, line_fields gs)

pub packed_again : (style : Style) (l : Allowance) (column : Column) (stream : List ℕ) (gs : List Tree) → IsAllowance l
    → IsSeparator column.delimiter → Stream l stream gs → AreOf column gs → IsPackedAgain style l column gs
packed_again style l column stream gs allowed separates is are =
    let same = named_again column gs are in
    let names : Named l (table gs) gs = record { table_of = refl; valid = valid_stream l stream gs is } in
    record {
      read = read_all column.delimiter separates (column_records column.name.now gs) (tt, line_fields gs);
      names = same;
      packed = subst (λ (rs : List Record). PackTo style l rs (canonical_stream style gs)) (sym same)
          (inl (gs, names, refl));
    }
