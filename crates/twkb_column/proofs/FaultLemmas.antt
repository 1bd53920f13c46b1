-- The first record of a CSV that its own rules refuse is the refused record of the table that stands for it.
use Rattle.std.proofs.Common.{◌≡◌, ◌∙◌, sym, ap, refl, subst, ℕ, ℤ, Bool, true, false, List, [], ◌∷◌, ◌++◌}
use Rattle.std.proofs.Common.{Option, Some, None, ◌<◌, ◌≤◌, ◌+◌, length, get_or, arith, inl, inr}
use Rattle.std.proofs.lemmas.Fmt.{decimal_digit, decimal_nonempty}
use Rattle.std.specs.Prelude.{map, if◌then◌else◌, ⊤, decimal, ◌==◌, reverse, codes, is_some}
use Rattle.std.specs.Borrow.{Bor}
use Rattle.twkb_tree.specs.Kind.{word_of}
use Rattle.twkb_tree.specs.Limits.{Allowance}
use Rattle.twkb_tree.specs.Rows.{Row, rows_of}
use Rattle.twkb_tree.specs.Tree.{Tree}
use Rattle.twkb_tree.specs.declared.kind.Kind.{Kind}
use Rattle.twkb_tree.specs.declared.kind.Kind.TheVariants as kind
use Rattle.twkb_csv.specs.Named.{Record, header, header_named, id_at, ids_from, is_among, is_missing, line_named}
use Rattle.twkb_csv.specs.Named.{linestring, member, named, no_depth, no_kind, root, roots}
use Rattle.twkb_csv.specs.Named.{one_field, record_named, rows_named}
use Rattle.twkb_csv.specs.declared.column.Column.{Column}
use Rattle.twkb_csv.specs.declared.found.Found.{Found}
use Rattle.twkb_csv.specs.declared.found.Found.TheVariants.{Absent, At, Twice}
use Rattle.twkb_points.specs.Point.{Point}
use Rattle.twkb_table.specs.Judged.{Judged, JudgedByCount, JudgedById, JudgedByPlace, JudgedByPoints}
use Rattle.twkb_table.specs.Judged.{JudgedByPrecision, Place, Refused}
use Rattle.twkb_table.specs.Judged.{place_of}
use Rattle.twkb_table.specs.Record.{record_of, table}
use Rattle.twkb_table.specs.RowFault.{AreComplete, Named}
use Rattle.twkb_table.specs.declared.reason.RowReason.{RowReason}
use Rattle.twkb_table.specs.declared.reason.RowReason.TheVariants as row
use Rattle.twkb_convert.specs.declared.report.Cause.TheVariants.{Row as RowCause}
use Rattle.twkb_column.specs.Causes.{record_number, refused_as}
use Rattle.twkb_column.specs.CsvFaults.{IsFirst, csv_fault, fault_or, found_in, record_fault, rows_fault, table_fault}
use Rattle.twkb_column.specs.declared.fault.ColumnCause.TheVariants.{Csv, Pack}
use Rattle.twkb_column.specs.declared.fault.ColumnReason.{ColumnReason}
use Rattle.twkb_column.specs.declared.fault.ColumnReason.TheVariants.{ColumnTwice, FieldCount, MissingValue}
use Rattle.twkb_column.specs.declared.fault.ColumnReason.TheVariants.{NoSuchColumn}

-- ==== Reasons that no record of a CSV is refused for.

-- a row is refused for this reason in the words of `pack`
abbrev pub IsOwn : RowReason → Type 0
IsOwn reason = (has_ids : Bool) (number : ℕ)
    → refused_as has_ids number reason ≡ Pack (RowCause (record_number has_ids number) reason)

own_by : (reason other : RowReason) → Refused reason ≡ Refused other → IsOwn other → IsOwn reason
own_by reason other e own =
    let same : reason ≡ other = cc e in
    subst (λ (r : RowReason). IsOwn r) (sym same) own

-- ==== Why the row of a linestring is refused.

own_count : (here : Place) (k : Kind) (id precision : Option ℤ) (ps : List Point) (reason : RowReason)
    → JudgedByCount here k id precision ps (Refused reason) → IsOwn reason
own_count here k id precision ps reason (inl h) = own_by reason row.PointCount h.1 (λ b n. refl)
own_count here k id precision ps reason (inr h) = absurd (let e = h.1 in cc e)

own_points : (l : Allowance) (here : Place) (k : Kind) (id precision : Option ℤ) (text : List ℕ) (reason : RowReason)
    → JudgedByPoints l here k id precision text (Refused reason) → IsOwn reason
own_points l here k id precision text reason (inl h) = own_by reason row.PolylineNotAllowed h.1 (λ b n. refl)
own_points l here k id precision text reason (inr (none, inl (offset, why, fault, e))) =
    own_by reason (row.Polyline offset why) e (λ b n. refl)
own_points l here k id precision text reason (inr (none, inr (ps, decodes, h))) =
    own_count here k id precision ps reason h

own_precision : (l : Allowance) (here : Place) (k : Kind) (id : Option ℤ) (field text : List ℕ) (reason : RowReason)
    → JudgedByPrecision l here k id field text (Refused reason) → IsOwn reason
own_precision l here k id field text reason (inl h) = own_by reason row.BadPrecision h.1 (λ b n. refl)
own_precision l here k id field text reason (inr (p, spelled, inl h)) =
    own_by reason row.PrecisionMissing h.1 (λ b n. refl)
own_precision l here k id field text reason (inr (p, spelled, inr (some, inl h))) =
    own_by reason row.PrecisionNotAllowed h.1 (λ b n. refl)
own_precision l here k id field text reason (inr (p, spelled, inr (some, inr (allowed, h)))) =
    own_points l here k id p text reason h

own_id : (l : Allowance) (here : Place) (k : Kind) (id_field field text : List ℕ) (reason : RowReason)
    → JudgedById l here k id_field field text (Refused reason) → IsOwn reason
own_id l here k id_field field text reason (inl h) = own_by reason row.BadId h.1 (λ b n. refl)
own_id l here k id_field field text reason (inr (id, spelled, inl h)) = own_by reason row.IdNotAllowed h.1 (λ b n. refl)
own_id l here k id_field field text reason (inr (id, spelled, inr (allowed, inl h))) =
    own_by reason row.MixedIds h.1 (λ b n. refl)
own_id l here k id_field field text reason (inr (id, spelled, inr (allowed, inr (same, h)))) =
    own_precision l here k id field text reason h

own_place : (l : Allowance) (here : Place) (k : Kind) (id_field field text : List ℕ) (reason : RowReason)
    → JudgedByPlace l here k id_field field text (Refused reason) → IsOwn reason
own_place l here k id_field field text reason (inl h) = own_by reason row.BadPlace h.1 (λ b n. refl)
own_place l here k id_field field text reason (inr (a, inl h)) = own_by reason row.TooDeep h.1 (λ b n. refl)
own_place l here k id_field field text reason (inr (a, inr (b, inl h))) =
    own_by reason row.TooManyNodes h.1 (λ b n. refl)
own_place l here k id_field field text reason (inr (a, inr (b, inr (c, h)))) =
    own_id l here k id_field field text reason h

-- the depths of a root and of its children
zero_digit : codes "0" ≡ decimal 0
zero_digit = sym (decimal_digit 0 (omega arith))

one_digit : codes "1" ≡ decimal 1
one_digit = sym (decimal_digit 1 (omega arith))

own_linestring : (l : Allowance) (before : List Row) (precision : ℤ) (text : List ℕ) (reason : RowReason)
    → Judged l before (linestring precision text) (Refused reason) → IsOwn reason
own_linestring l before precision text reason (inl (none, e)) = absurd (none 0 (zero_digit, omega arith))
own_linestring l before precision text reason (inr (d, spelled, inl (none, e))) = absurd (none kind.Linestring refl)
own_linestring l before precision text reason (inr (d, spelled, inr (k, word, h))) =
    own_place l (place_of d before) k _ _ _ reason h

own_root : (l : Allowance) (before : List Row) (precision : ℤ) (reason : RowReason)
    → Judged l before (root precision) (Refused reason) → IsOwn reason
own_root l before precision reason (inl (none, e)) = absurd (none 0 (zero_digit, omega arith))
own_root l before precision reason (inr (d, spelled, inl (none, e))) = absurd (none kind.MultiLinestring refl)
own_root l before precision reason (inr (d, spelled, inr (k, word, h))) =
    own_place l (place_of d before) k _ _ _ reason h

own_member : (l : Allowance) (before : List Row) (id text : List ℕ) (reason : RowReason)
    → Judged l before (member id text) (Refused reason) → IsOwn reason
own_member l before id text reason (inl (none, e)) = absurd (none 1 (one_digit, omega arith))
own_member l before id text reason (inr (d, spelled, inl (none, e))) = absurd (none kind.Linestring refl)
own_member l before id text reason (inr (d, spelled, inr (k, word, h))) =
    own_place l (place_of d before) k _ _ _ reason h

own_line : (l : Allowance) (before : List Row) (wanted : Option (Bor (List ℕ))) (precision : ℤ) (id text : List ℕ)
    (reason : RowReason) → Judged l before (line_named wanted precision id text) (Refused reason) → IsOwn reason
own_line l before None precision id text reason h = own_linestring l before precision text reason h
own_line l before (Some wanted) precision id text reason h = own_member l before id text reason h

-- ==== Why the rows are refused that stand for a fault.

-- a decimal has a digit
some_digit : (n : ℕ) → n ≤ 999 → [] ≡ decimal n → ⊥
some_digit n most e =
    let digits = decimal_nonempty n (omega (arith, most)) in
    omega (arith, digits, ap length e)

-- a kind has a word
some_word : (k : Kind) → [] ≡ word_of k → ⊥
some_word kind.Point e = cc e
some_word kind.Linestring e = cc e
some_word kind.Polygon e = cc e
some_word kind.Ring e = cc e
some_word kind.MultiPoint e = cc e
some_word kind.MultiLinestring e = cc e
some_word kind.MultiPolygon e = cc e
some_word kind.Collection e = cc e

refused_field : (l : Allowance) (before : List Row) (reason : RowReason) → Judged l before one_field (Refused reason)
    → reason ≡ row.FieldCount
refused_field l before reason e = cc e

refused_depth : (l : Allowance) (before : List Row) (reason : RowReason) → Judged l before no_depth (Refused reason)
    → reason ≡ row.BadDepth
refused_depth l before reason (inl (none, e)) = cc e
refused_depth l before reason (inr (d, spelled, h)) = absurd (some_digit d spelled.1 spelled.0)

refused_kind : (l : Allowance) (before : List Row) (reason : RowReason) → Judged l before no_kind (Refused reason)
    → reason ≡ row.BadKind
refused_kind l before reason (inl (none, e)) = absurd (none 0 (zero_digit, omega arith))
refused_kind l before reason (inr (d, spelled, inl (none, e))) = cc e
refused_kind l before reason (inr (d, spelled, inr (k, word, h))) = absurd (some_word k word)

-- ==== A refused row, and the fault of the record that it stands for.

-- the first fault is after the record with this number
abbrev pub IsAfter : ℕ → Option (ℕ × ColumnReason) → Type 0
IsAfter number None = ⊤
IsAfter number (Some (first, why)) = number < first

own_first : (has_ids : Bool) (number : ℕ) (reason : RowReason) (later : Option (ℕ × ColumnReason))
    → IsAfter (record_number has_ids number) later → IsOwn reason → IsFirst has_ids later number reason
own_first has_ids number reason None after own = own has_ids number
own_first has_ids number reason (Some (first, why)) after own = inr (own has_ids number, after)

-- a row that stands for a fault of the record with this number
depth_first : (has_ids : Bool) (number first : ℕ) (reason : RowReason) → record_number has_ids number ≡ first
    → reason ≡ row.BadDepth → IsFirst has_ids (Some (first, MissingValue)) number reason
depth_first has_ids number first reason same why = inl (rw why (ap (λ (n : ℕ). Csv n MissingValue) same))

count_first : (has_ids : Bool) (number first : ℕ) (reason : RowReason) → record_number has_ids number ≡ first
    → reason ≡ row.FieldCount → IsFirst has_ids (Some (first, FieldCount)) number reason
count_first has_ids number first reason same why = inl (rw why (ap (λ (n : ℕ). Csv n FieldCount) same))

module _ (l : Allowance) (before : List Row) (column : Column) (number first : ℕ) (reason : RowReason)
    (later : Option (ℕ × ColumnReason)) (same : record_number (is_some column.ids) number ≡ first)
    (after : IsAfter first later)
  where
    still_after : IsAfter (record_number (is_some column.ids) number) later
    still_after = subst (λ (n : ℕ). IsAfter n later) (sym same) after

    value_first : (id field : List ℕ) (null missing : Bool)
        → Judged l before (if null then line_named column.ids column.precision id [] else if missing then no_depth else
        line_named column.ids column.precision id field) (Refused reason)
        → IsFirst (is_some column.ids)
        (fault_or first (if null then None else if missing then Some MissingValue else None) later) number reason
    value_first id field true missing h = own_first (is_some column.ids) number reason later still_after
        (own_line l before column.ids column.precision id [] reason h)
    value_first id field false true h =
        depth_first (is_some column.ids) number first reason same (refused_depth l before reason h)
    value_first id field false false h = own_first (is_some column.ids) number reason later still_after
        (own_line l before column.ids column.precision id field reason h)

    record_first : (right : Bool) (id field : List ℕ)
        → Judged l before (record_named column right id field) (Refused reason)
        → IsFirst (is_some column.ids) (fault_or first (record_fault column right field) later) number reason
    record_first true id field h =
        value_first id field (is_among column.nulls.now field) (is_missing field) h
    record_first false id field h =
        count_first (is_some column.ids) number first reason same (refused_field l before reason h)

-- ==== A row that is taken stands for no fault.

value_sound : (wanted : Option (Bor (List ℕ))) (precision : ℤ) (id field : List ℕ) (null missing : Bool) (r : Row)
    → (if null then line_named wanted precision id [] else if missing then no_depth else line_named wanted precision id
    field) ≡ record_of r
    → ◌≡◌ {A = Option ColumnReason} (if null then None else if missing then Some MissingValue else None) None
value_sound wanted precision id field true missing r e = refl
value_sound wanted precision id field false true r e =
    let word : [] ≡ word_of r.kind = cc e in
    absurd (some_word r.kind word)
value_sound wanted precision id field false false r e = refl

record_sound : (column : Column) (right : Bool) (id field : List ℕ) (r : Row)
    → record_named column right id field ≡ record_of r
    → record_fault column right field ≡ None
record_sound column true id field r e = value_sound column.ids column.precision id field
    (is_among column.nulls.now field) (is_missing field) r e
record_sound column false id field r e = absurd (cc e)

-- ==== The rows of a table.

module _ (column : Column) (place : ℕ) (ids : Found) (width : ℕ) where
  -- the record that one names, and its fault
  abbrev pub one_named : Record → Record
  one_named fields = record_named column (length fields == width) (id_at ids fields) (get_or fields place [])

  abbrev pub one_fault : Record → Option ColumnReason
  one_fault fields = record_fault column (length fields == width) (get_or fields place [])

  fault_after : (m number : ℕ) (here : Option ColumnReason) (later : Option (ℕ × ColumnReason)) → m < number
      → IsAfter m later → IsAfter m (fault_or number here later)
  fault_after m number None later less after = after
  fault_after m number (Some why) later less after = less

  rows_after : (m number : ℕ) (rows : List Record) → m < number → IsAfter m (rows_fault column place width number rows)
  rows_after m number [] less = tt
  rows_after m number (fields ∷ rows) less = fault_after m number (one_fault fields) _ less
      (rows_after m (number + 1) rows (omega (arith, less)))

  rows_first : (l : Allowance) (judged : List Row) (rows before : List Record) (rs : List Row) (here : Record)
      (more : List Record) (first number : ℕ) (reason : RowReason)
      → map one_named rows ≡ before ++ here ∷ more → before ≡ map record_of rs
      → record_number (is_some column.ids) number ≡ first + length before
      → Judged l judged here (Refused reason)
      → IsFirst (is_some column.ids) (rows_fault column place width first rows) number reason
  rows_first l judged [] [] rs here more first number reason split named place_is h = absurd (cc split)
  rows_first l judged [] (b ∷ before) rs here more first number reason split named place_is h = absurd (cc split)
  rows_first l judged (fields ∷ rows) [] rs here more first number reason split named place_is h =
      let same : one_named fields ≡ here = cc split in
      let number_is : record_number (is_some column.ids) number ≡ first = omega (arith, place_is) in
      record_first l judged column number first reason (rows_fault column place width (first + 1) rows) number_is
      (rows_after first (first + 1) rows (omega arith)) (length fields == width) (id_at ids fields)
      (get_or fields place []) (subst (λ (r : Record). Judged l judged r (Refused reason)) (sym same) h)
  rows_first l judged (fields ∷ rows) (b ∷ before) [] here more first number reason split named place_is h =
      absurd (cc named)
  rows_first l judged (fields ∷ rows) (b ∷ before) (r ∷ rs) here more first number reason split named place_is h =
      let same : one_named fields ≡ b = cc split in
      let tail : map one_named rows ≡ before ++ here ∷ more = cc split in
      let head : b ≡ record_of r = cc named in
      let others : before ≡ map record_of rs = cc named in
      let sound : one_fault fields ≡ None = record_sound column (length fields == width) (id_at ids fields)
      (get_or fields place []) r (same ∙ head) in
      subst (λ (o : Option ColumnReason). IsFirst (is_some column.ids)
      (fault_or first o (rows_fault column place width (first + 1) rows)) number reason) (sym sound)
      (rows_first l judged rows before rs here more (first + 1) number reason tail others (omega (arith, place_is)) h)

  rows_sound : (rows : List Record) (rs : List Row) (first : ℕ) → map one_named rows ≡ map record_of rs
      → rows_fault column place width first rows ≡ None
  rows_sound [] rs first e = refl
  rows_sound (fields ∷ rows) [] first e = absurd (cc e)
  rows_sound (fields ∷ rows) (r ∷ rs) first e =
      let same : one_named fields ≡ record_of r = cc e in
      let tail : map one_named rows ≡ map record_of rs = cc e in
      let sound : one_fault fields ≡ None = record_sound column (length fields == width) (id_at ids fields)
      (get_or fields place []) r same in
      ap (λ (o : Option ColumnReason). fault_or first o (rows_fault column place width (first + 1) rows)) sound
      ∙ rows_sound rows rs (first + 1) tail

  -- ---- after the header, and after the row of a multilinestring

  -- a row after the header is refused
  after_header : (l : Allowance) (judged : List Row) (wanted : Option (Bor (List ℕ))) (rows before : List Record)
      (rs : List Row) (here : Record) (more : List Record) (number : ℕ) (reason : RowReason) → column.ids ≡ wanted
      → roots wanted column.precision ++ map one_named rows ≡ before ++ here ∷ more → before ≡ map record_of rs
      → number ≡ 2 + length before → Judged l judged here (Refused reason)
      → IsFirst (is_some column.ids) (rows_fault column place width 2 rows) number reason
  after_header l judged None rows before rs here more number reason is split named place_is h =
      let same : record_number (is_some column.ids) number ≡ 2 + length before = rw is place_is in
      rows_first l judged rows before rs here more 2 number reason split named same h
  after_header l judged (Some wanted) rows [] rs here more number reason is split named place_is h =
      let two : number ≡ 2 = omega (arith, place_is) in
      let one : record_number true number ≡ 1 = rw two refl in
      let same : here ≡ root column.precision = cc split in
      let own = own_root l judged column.precision reason
      (subst (λ (r : Record). Judged l judged r (Refused reason)) same h) in
      rw is (own_first true number reason (rows_fault column place width 2 rows)
      (rw one (rows_after 1 2 rows (omega arith))) own)
  after_header l judged (Some wanted) rows (b ∷ before) [] here more number reason is split named place_is h =
      absurd (cc named)
  after_header l judged (Some wanted) rows (b ∷ before) (r ∷ rs) here more number reason is split named place_is h =
      let tail : map one_named rows ≡ before ++ here ∷ more = cc split in
      let others : before ≡ map record_of rs = cc named in
      let same : record_number (is_some column.ids) number ≡ 2 + length before = rw is (omega (arith, place_is)) in
      rows_first l judged rows before rs here more 2 number reason tail others same h

  all_sound : (wanted : Option (Bor (List ℕ))) (rows : List Record) (rs : List Row)
      → roots wanted column.precision ++ map one_named rows ≡ map record_of rs
      → rows_fault column place width 2 rows ≡ None
  all_sound None rows rs e = rows_sound rows rs 2 e
  all_sound (Some wanted) rows [] e = absurd (cc e)
  all_sound (Some wanted) rows (r ∷ rs) e =
      let tail : map one_named rows ≡ map record_of rs = cc e in
      rows_sound rows rs 2 tail

-- ==== The whole table.

-- no row has no kind
no_such_row : (rs : List Row) (c : Record) (more : List Record) → no_kind ≡ c → c ∷ more ≡ map record_of rs → ⊥
no_such_row [] c more same e = cc e
no_such_row (r ∷ rs) c more same e =
    let head : c ≡ record_of r = cc e in
    let whole = same ∙ head in
    let word : [] ≡ word_of r.kind = cc whole in
    some_word r.kind word

-- the number of the header is 1
header_number : (has_ids : Bool) → record_number has_ids 1 ≡ 1
header_number true = refl
header_number false = refl

header_first : (has_ids : Bool) (number : ℕ) (reason : RowReason) → number ≡ 1 → reason ≡ row.BadHeader
    → IsFirst has_ids (Some (1, NoSuchColumn)) number reason
header_first has_ids number reason one why =
    inl (rw (one, why) (ap (λ (n : ℕ). Csv n NoSuchColumn) (header_number has_ids)))

twice_first : (has_ids : Bool) (number : ℕ) (reason : RowReason) → reason ≡ row.BadKind
    → IsFirst has_ids (Some (1, ColumnTwice)) number reason
twice_first has_ids number reason why = inl (rw why refl)

-- a record after the header is refused
later_first : (column : Column) (found ids : Found) (width : ℕ) (rows : List Record) (l : Allowance) (number : ℕ)
    (reason : RowReason) (before : List Record) (here : Record) (more : List Record) (gs : List Tree)
    → header_named column found ++ rows_named column found ids width rows ≡ before ++ here ∷ more
    → number ≡ length before + 1
    → before ≡ table gs → Judged l (reverse (rows_of gs)) here (Refused reason)
    → IsFirst (is_some column.ids) (table_fault column found width rows) number reason
later_first column found ids width rows l number reason [] here more gs split place_is named h = absurd (cc named)
later_first column Absent ids width rows l number reason (b ∷ before) here more gs split place_is named h =
    let first : one_field ≡ b = cc split in
    let head : b ≡ header = cc named in
    absurd (let e = first ∙ head in cc e)
later_first column Twice ids width rows l number reason (b ∷ []) here more gs split place_is named h =
    let same : here ≡ no_kind = cc split in
    twice_first (is_some column.ids) number reason (refused_kind l (reverse (rows_of gs)) reason
    (subst (λ (r : Record). Judged l (reverse (rows_of gs)) r (Refused reason)) same h))
later_first column Twice ids width rows l number reason (b ∷ c ∷ before) here more gs split place_is named h =
    let same : no_kind ≡ c = cc split in
    let others : c ∷ before ≡ map record_of (rows_of gs) = cc named in
    absurd (no_such_row (rows_of gs) c before same others)
later_first column (At place) ids width rows l number reason (b ∷ before) here more gs split place_is named h =
    let tail : roots column.ids column.precision ++ map (one_named column place ids width) rows
    ≡ before ++ here ∷ more = cc split in
    let others : before ≡ map record_of (rows_of gs) = cc named in
    after_header column place ids width l (reverse (rows_of gs)) column.ids rows before (rows_of gs) here more number
    reason refl tail others (omega (arith, place_is)) h

table_first : (column : Column) (found ids : Found) (width : ℕ) (rows : List Record) (l : Allowance) (number : ℕ)
    (reason : RowReason) (gs : List Tree)
    → AreComplete l (header_named column found ++ rows_named column found ids width rows) number reason gs
    → IsFirst (is_some column.ids) (table_fault column found width rows) number reason
table_first column Absent ids width rows l number reason gs (inl (none, one, why, _)) =
    header_first (is_some column.ids) number reason one why
table_first column Twice ids width rows l number reason gs (inl (none, one, why, _)) = absurd (none refl)
table_first column (At place) ids width rows l number reason gs (inl (none, one, why, _)) = absurd (none refl)
table_first column found ids width rows l number reason gs (inr (later, same)) =
    later_first column found ids width rows l number reason later.before later.here later.more later.geometries
    later.split later.place later.named.table_of later.judged

none_before : {A : Type 0} (before : List Record) (here : Record) (more : List Record) → [] ≡ before ++ here ∷ more → A
none_before [] here more e = absurd (cc e)
none_before (b ∷ before) here more e = absurd (cc e)

pub first_fault : (l : Allowance) (column : Column) (records : List Record) (number : ℕ) (reason : RowReason)
    (gs : List Tree) → AreComplete l (named column records) number reason gs
    → IsFirst (is_some column.ids) (csv_fault column records) number reason
first_fault l column [] number reason gs (inl (none, one, why, _)) =
    header_first (is_some column.ids) number reason one why
first_fault l column [] number reason gs (inr (later, same)) =
    none_before later.before later.here later.more later.split
first_fault l column (names ∷ rows) number reason gs h = table_first column (found_in column names)
    (ids_from column.ids Absent 0 names) (length names) rows l number reason gs h

-- the cause in the words of the CSV is that of its first fault
pub told_fault : (has_ids : Bool) (fault : Option (ℕ × ColumnReason)) (number first : ℕ) (reason : RowReason)
    (why : ColumnReason) → IsFirst has_ids fault number reason → refused_as has_ids number reason ≡ Csv first why
    → fault ≡ Some (first, why)
told_fault has_ids None number first reason why e told = absurd (let both = sym e ∙ told in cc both)
told_fault has_ids (Some (m, reason_told)) number first reason why (inl e) told =
    let both : Csv m reason_told ≡ Csv first why = sym e ∙ told in
    let same : m ≡ first = cc both in
    let also : reason_told ≡ why = cc both in
    rw (same, also) refl
told_fault has_ids (Some (m, reason_told)) number first reason why (inr (e, less)) told =
    absurd (let both = sym e ∙ told in cc both)

table_sound : (column : Column) (found ids : Found) (width : ℕ) (rows : List Record) (gs : List Tree)
    → header_named column found ++ rows_named column found ids width rows ≡ table gs
    → table_fault column found width rows ≡ None
table_sound column Absent ids width rows gs e =
    let head : one_field ≡ header = cc e in
    absurd (cc head)
table_sound column Twice ids width rows gs e =
    let tail : no_kind ∷ [] ≡ map record_of (rows_of gs) = cc e in
    absurd (no_such_row (rows_of gs) no_kind [] refl tail)
table_sound column (At place) ids width rows gs e =
    let tail : roots column.ids column.precision ++ map (one_named column place ids width) rows
    ≡ map record_of (rows_of gs) = cc e in
    all_sound column place ids width column.ids rows (rows_of gs) tail

pub no_fault : (l : Allowance) (column : Column) (records : List Record) (gs : List Tree)
    → Named l (named column records) gs → csv_fault column records ≡ None
no_fault l column [] gs n = absurd (let e = n.table_of in cc e)
no_fault l column (names ∷ rows) gs n = table_sound column (found_in column names)
    (ids_from column.ids Absent 0 names) (length names) rows gs n.table_of
