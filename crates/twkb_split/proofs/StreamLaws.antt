-- The stream of pieces is the packed output of the column.
use Rattle.std.proofs.Common.{◌≡◌, ◌∙◌, sym, ap, refl, subst, ℕ, Bool, true, false, List, [], ◌∷◌, ◌++◌, Some, None}
use Rattle.std.proofs.Common.{inl, length, get_or, arith, ◌+◌}
use Rattle.std.specs.Prelude.{◌==◌, map, if◌then◌else◌, codes, decimal}
use Rattle.std.specs.Fmt.{signed_decimal}
use Rattle.std.specs.Str.{bytes_eq}
use Rattle.std.proofs.lemmas.Bool.{eq-eqb}
use Rattle.std.proofs.lemmas.Fmt.{decimal_digit}
use Rattle.twkb_points.specs.Point.{Point}
use Rattle.twkb_polyline.specs.Polyline.{polyline}
use Rattle.twkb_tree.specs.Limits.{Allowance, IsAllowance, IsValid}
use Rattle.twkb_tree.specs.Rows.{AreValid, rows_of}
use Rattle.twkb_tree.specs.Tree.{Tree}
use Rattle.twkb_grammar.specs.Written.{canonical_blob, canonical_stream}
use Rattle.twkb_grammar.specs.declared.style.Style.{Style}
use Rattle.twkb_csv.specs.Named as named
use Rattle.twkb_csv.specs.Named.{Record, both, header_named, ids_from, is_among, is_missing, linestring, record_named}
use Rattle.twkb_csv.specs.Named.{roots, rows_named, value_record}
use Rattle.twkb_csv.specs.declared.column.Column.{Column}
use Rattle.twkb_csv.specs.declared.found.Found as csv_found
use Rattle.twkb_csv.specs.declared.found.Found.TheVariants as csv
use Rattle.twkb_table.specs.Record.{header, record_of, table}
use Rattle.twkb_table.specs.RowFault.{Named}
use Rattle.twkb_convert.specs.Outputs.{PackTo}
use Rattle.twkb_column.specs.Packing.{PackColumnTo}
use Rattle.twkb_records.specs.Rows.{found_from, found_in, one_more}
use Rattle.twkb_records.specs.declared.found.Found.{Found}
use Rattle.twkb_records.specs.declared.found.Found.TheVariants.{Absent, At, Twice}
use Rattle.twkb_writer.specs.Bytes.{one_line}
use Rattle.twkb_split.specs.Pieces.{Become, Becomes, Piece, Splits, stream_of}
use Rattle.twkb_split.specs.Results.{WholeCsv, packing_of}

-- ==== The column of a header, as the table of the CSV finds it.

abbrev as_named : Found → csv_found.Found
as_named Absent = csv.Absent
as_named (At place) = csv.At place
as_named Twice = csv.Twice

one_more_named : (found : Found) (place : ℕ) → as_named (one_more found place) ≡ named.one_more (as_named found) place
one_more_named Absent place = refl
one_more_named (At other) place = refl
one_more_named Twice place = refl

next_named : (is_name : Bool) (found : Found) (place : ℕ) → as_named (if is_name then one_more found place else found)
    ≡ (if is_name then named.one_more (as_named found) place else as_named found)
next_named true found place = one_more_named found place
next_named false found place = refl

found_named : (name : List ℕ) (found : Found) (place : ℕ) (fields : Record)
    → as_named (found_from name found place fields) ≡ named.found_from name (as_named found) place fields
unfolding found_from
found_named name found place [] = refl
found_named name found place (field ∷ fields) =
    found_named name (if bytes_eq field name then one_more found place else found) (place + 1) fields
    ∙ ap (λ (f : csv_found.Found). named.found_from name f (place + 1) fields)
    (next_named (bytes_eq field name) found place)

-- ==== The row that a field names.

zero_digit : decimal 0 ≡ codes "0"
zero_digit = decimal_digit 0 (omega arith)

-- a field that has a blob names the linestring of its polyline
value_by : (column : Column) (id field : List ℕ) (ps : List Point) (among : Bool)
    → is_among column.nulls.now field ≡ among → column.ids ≡ None → is_missing (if among then [] else field) ≡ false
    → (if among then [] else field) ≡ polyline ps
    → value_record column id field ≡ linestring column.precision (polyline ps)
value_by column id field ps true is plain value spelled =
    rw (is, plain) (ap (λ (text : List ℕ). linestring column.precision text) spelled)
value_by column id field ps false is plain value spelled =
    rw (is, value, plain) (ap (λ (text : List ℕ). linestring column.precision text) spelled)

module _ (style : Style) (l : Allowance) (column : Column) (allowed : IsAllowance l) (plain : column.ids ≡ None) where
  -- the geometry of a piece
  abbrev geometry : {place width : ℕ} {row : Record} {piece : Piece}
      → Becomes (packing_of style l column) place width row piece → Tree
  geometry becomes = one_line column.precision becomes.packs.line.points

  valid_line : {place width : ℕ} {row : Record} {piece : Piece}
      (becomes : Becomes (packing_of style l column) place width row piece) → IsValid l (geometry becomes)
  valid_line becomes = record {
    tree = (becomes.packs.line.is_precision, tt);
    in_range = becomes.packs.line.decoded.in_range;
    nest_kept = omega arith;
    nodes_kept = (let one = allowed.one_node in omega (arith, one));
    points_kept = becomes.packs.line.decoded.few;
  }

  row_named : (ids : csv_found.Found) (place width : ℕ) (row : Record) (piece : Piece)
      (becomes : Becomes (packing_of style l column) place width row piece)
      → record_named column (length row == width) (named.id_at ids row) (get_or row place [])
      ≡ linestring column.precision (polyline becomes.packs.line.points)
  row_named ids place width row piece becomes =
      rw (eq-eqb (length row) width becomes.fields) (value_by column (named.id_at ids row) (get_or row place [])
      becomes.packs.line.points _ refl plain becomes.packs.value becomes.packs.line.decoded.spelled)

  line_row : (points : List Point) → linestring column.precision (polyline points) ∷ []
      ≡ map record_of (rows_of (one_line column.precision points ∷ []))
  line_row points = ap (λ (zero : List ℕ). (zero ∷ codes "linestring" ∷ [] ∷ signed_decimal column.precision
      ∷ polyline points ∷ []) ∷ []) (sym zero_digit)

  -- Records that become pieces name geometries, whose stream is that of the pieces.
  record AreNamed (ids : csv_found.Found) (place width : ℕ) (rows : List Record) (pieces : List Piece) : Type 0 where
    gs : List Tree
    named_as : rows_named column (csv.At place) ids width rows ≡ map record_of (rows_of gs)
    valid : AreValid l gs
    stream : stream_of pieces ≡ canonical_stream style gs

  are_named : (ids : csv_found.Found) (place width : ℕ) (rows : List Record) (pieces : List Piece)
      → Become (packing_of style l column) place width rows pieces → AreNamed ids place width rows pieces
  unfolding Become
  are_named ids place width [] [] become = record { gs = []; named_as = refl; valid = tt; stream = refl }
  are_named ids place width [] (piece ∷ pieces) become = absurd become
  are_named ids place width (row ∷ rows) [] become = absurd become
  are_named ids place width (row ∷ rows) (piece ∷ pieces) (becomes, become) =
      let others = are_named ids place width rows pieces become in
      record {
        gs = geometry becomes ∷ others.gs;
        named_as = ap (λ (r : Record). r ∷ rows_named column (csv.At place) ids width rows)
            (row_named ids place width row piece becomes)
            ∙ ap (λ (rs : List Record). linestring column.precision (polyline becomes.packs.line.points) ∷ rs)
            others.named_as
            ∙ ap (λ (rs : List Record). rs ++ map record_of (rows_of others.gs))
            (line_row becomes.packs.line.points);
        valid = (valid_line becomes, others.valid);
        stream = ap (λ (blob : List ℕ). blob ++ stream_of pieces) becomes.packs.line.written
            ∙ ap (λ (rest : List ℕ). canonical_blob style (geometry becomes) ++ rest) others.stream;
      }

  no_roots : roots column.ids column.precision ≡ []
  no_roots = rw plain refl

  -- without ids the column is the only one that is looked for
  both_named : (names : Record) (place : ℕ) (ids : csv_found.Found) → found_in column.name.now names ≡ At place
      → both column.ids (named.found_from column.name.now csv.Absent 0 names) ids ≡ csv.At place
  both_named names place ids found =
      rw (plain, sym (found_named column.name.now Absent 0 names), found) refl

  -- the records name the table of the geometries
  table_named : (names : Record) (rows : List Record) (place : ℕ) (pieces : List Piece)
      → found_in column.name.now names ≡ At place
      → (are : AreNamed (ids_from column.ids csv.Absent 0 names) place (length names) rows pieces)
      → named.named column (names ∷ rows) ≡ table are.gs
  table_named names rows place pieces found are =
      let ids = ids_from column.ids csv.Absent 0 names in
      ap (λ (f : csv_found.Found). header_named column f ++ rows_named column f ids (length names) rows)
      (both_named names place ids found)
      ∙ ap (λ (rs : List Record). (header ∷ rs) ++ rows_named column (csv.At place) ids (length names) rows) no_roots
      ∙ ap (λ (rs : List Record). header ∷ rs) are.named_as

  pub packed_alike : (text : List ℕ) (whole : WholeCsv (packing_of style l column) (Some text))
      → PackColumnTo style l column text (stream_of whole.pieces)
  packed_alike text whole = (whole.header ∷ whole.rows, whole.all, go whole.pieces whole.splits)
    where
      go : (pieces : List Piece) → Splits (packing_of style l column) (whole.header ∷ whole.rows) pieces
          → PackTo style l (named.named column (whole.header ∷ whole.rows)) (stream_of pieces)
      go [] splits = absurd splits
      go (piece ∷ pieces) (same, (place, found, become)) =
          let are = are_named (ids_from column.ids csv.Absent 0 whole.header) place (length whole.header) whole.rows
          pieces become in
          let names : Named l (table are.gs) are.gs = record { table_of = refl; valid = are.valid } in
          subst (λ (rs : List Record). PackTo style l rs (stream_of (piece ∷ pieces)))
          (sym (table_named whole.header whole.rows place pieces found are))
          (inl (are.gs, names, ap (λ (first : Piece). first.blob ++ stream_of pieces) same ∙ are.stream))
