-- The table that a CSV with a column of polylines names (profile).
use Rattle.std.specs.Prelude.{Option, Some, None}
use Rattle.std.specs.Prelude.{ℕ, ℤ, ◌+◌, ◌≡◌, ◌==◌, ◌||◌, Bool, true, false, List, [], ◌∷◌, ◌++◌, map, flat_map, length}
use Rattle.std.specs.Prelude.{get_or}
use Rattle.std.specs.Prelude.{codes, if◌then◌else◌}
use Rattle.std.specs.Borrow.{Bor}
use Rattle.std.specs.Fmt.{signed_decimal}
use Rattle.std.specs.List.{list_any}
use Rattle.std.specs.Str.{bytes_eq}
use Rattle.csv.specs.Writing.{default_writer, row_text}
use Rattle.twkb_csv.specs.declared.column.Column.{Column}
use Rattle.twkb_csv.specs.declared.found.Found.{Found}
use Rattle.twkb_csv.specs.declared.found.Found.TheVariants.{Absent, At, Twice}

-- ==== The field of the column, and the row that it names.

-- the fields of a record, each a list of bytes
abbrev pub Record : Type 0
Record = List (List ℕ)

-- the field is one of these words
abbrev pub is_among : List (Bor (List ℕ)) → List ℕ → Bool
is_among words field = list_any (λ word. bytes_eq field word.now) words

-- the field is a word that other programs write for a missing value
abbrev pub is_missing : List ℕ → Bool
is_missing field = bytes_eq field (codes "NULL") || (bytes_eq field (codes "\\N") || (bytes_eq field (codes "NA")
    || (bytes_eq field (codes "NaN") || (bytes_eq field (codes "NaT")
    || (bytes_eq field (codes "NONE") || bytes_eq field (codes "[NULL]"))))))

-- the names of the five fields of a table
abbrev pub header : Record
header = codes "depth" ∷ codes "kind" ∷ codes "id" ∷ codes "precision" ∷ codes "polyline" ∷ []

-- the record of a linestring with this polyline
abbrev pub linestring : ℤ → List ℕ → Record
linestring precision polyline = codes "0" ∷ codes "linestring" ∷ [] ∷ signed_decimal precision ∷ polyline ∷ []

-- the record of a multilinestring, whose lines come after it
abbrev pub root : ℤ → Record
root precision = codes "0" ∷ codes "multilinestring" ∷ [] ∷ signed_decimal precision ∷ [] ∷ []

-- the record of a line of a multilinestring with this id and polyline
abbrev pub member : List ℕ → List ℕ → Record
member id polyline = codes "1" ∷ codes "linestring" ∷ id ∷ [] ∷ polyline ∷ []

-- the record of a line with this polyline: a linestring, or a line of the multilinestring with this id
abbrev pub line_named : Option (Bor (List ℕ)) → ℤ → (id polyline : List ℕ) → Record
line_named None precision id polyline = linestring precision polyline
line_named (Some ids) precision id polyline = member id polyline

-- the records before those of lines, after the header
abbrev pub roots : Option (Bor (List ℕ)) → ℤ → List Record
roots None precision = []
roots (Some ids) precision = root precision ∷ []

-- a record that a table refuses, since it has one field: it stands for one with a wrong number of fields
abbrev pub one_field : Record
one_field = codes "x" ∷ []

-- a record that a table refuses, since it has no depth: it stands for one whose value is missing
abbrev pub no_depth : Record
no_depth = [] ∷ [] ∷ [] ∷ [] ∷ [] ∷ []

-- a record that a table refuses, since it has no kind: it stands for a header that has the column twice
abbrev pub no_kind : Record
no_kind = codes "0" ∷ [] ∷ [] ∷ [] ∷ [] ∷ []

-- the record that a field of the column names, beside this id
abbrev pub value_record : Column → (id field : List ℕ) → Record
value_record column id field = if is_among column.nulls.now field then line_named column.ids column.precision id []
    else if is_missing field then no_depth else line_named column.ids column.precision id field

-- the record that a record names, whose field of ids and whose field of the column are these, and which has as many
-- fields as the header or not
abbrev pub record_named : Column → Bool → (id field : List ℕ) → Record
record_named column true id field = value_record column id field
record_named column false id field = one_field

-- ==== The header of the CSV, and the table.

-- one more column has the name, at this place
abbrev pub one_more : Found → ℕ → Found
one_more Absent place = At place
one_more (At other) place = Twice
one_more Twice place = Twice

-- what is known of the column with a name after the name at this place
abbrev pub found_next : List ℕ → Found → ℕ → List ℕ → Found
found_next wanted found place name = if bytes_eq name wanted then one_more found place else found

-- which of the names, from this place on, is the wanted one, after what was found before
abbrev pub found_from : List ℕ → Found → ℕ → Record → Found
found_from wanted found place [] = found
found_from wanted found place (name ∷ names) = found_from wanted (found_next wanted found place name) (place + 1) names

-- what is known of the column of ids after the name at this place: nothing if there is none
abbrev pub ids_next : Option (Bor (List ℕ)) → Found → ℕ → List ℕ → Found
ids_next None found place name = found
ids_next (Some wanted) found place name = found_next wanted.now found place name

-- which of the names, from this place on, is that of the column of ids, after what was found before; nothing new if no
-- column of ids is asked for
abbrev pub ids_from : Option (Bor (List ℕ)) → Found → ℕ → Record → Found
ids_from ids found place [] = found
ids_from ids found place (name ∷ names) = ids_from ids (ids_next ids found place name) (place + 1) names

-- the column at this place, unless that of ids is absent or there twice
abbrev pub unless_ids : Found → ℕ → Found
unless_ids Absent place = Absent
unless_ids Twice place = Twice
unless_ids (At other) place = At place

-- the column, unless it or that of ids is absent or there twice; that of ids is looked at second
abbrev pub both : Option (Bor (List ℕ)) → (found ids : Found) → Found
both wanted Absent ids = Absent
both wanted Twice ids = Twice
both None (At place) ids = At place
both (Some wanted) (At place) ids = unless_ids ids place

-- the column is the one at this place
abbrev pub is_at : Found → ℕ → Bool
is_at (At column) place = column == place
is_at Absent place = false
is_at Twice place = false

-- the id among the fields of a record, if there is a column of ids
abbrev pub id_at : Found → Record → List ℕ
id_at (At place) fields = get_or fields place []
id_at Absent fields = []
id_at Twice fields = []

-- the records that the header of the CSV names
abbrev pub header_named : Column → Found → List Record
header_named column Absent = one_field ∷ []
header_named column Twice = header ∷ no_kind ∷ []
header_named column (At place) = header ∷ roots column.ids column.precision

-- the records that records after a header of so many names name
abbrev pub rows_named : Column → (found ids : Found) → ℕ → List Record → List Record
rows_named column (At place) ids width rows = map (λ fields. record_named column (length fields == width)
    (id_at ids fields) (get_or fields place [])) rows
rows_named column Absent ids width rows = []
rows_named column Twice ids width rows = []

-- The records of the table that the records of a CSV name. Record 1 names the header, and each other one the
-- linestring of its field, or a record that a table refuses. If there is a column of ids, record 1 also names a
-- multilinestring, and the others its lines.
abbrev pub named : Column → List Record → List Record
named column [] = []
named column (names ∷ rows) = let ids = ids_from column.ids Absent 0 names in
    let found = both column.ids (found_from column.name.now Absent 0 names) ids in
    header_named column found ++ rows_named column found ids (length names) rows

-- the second text begins with the first
abbrev pub Grows : List ℕ → List ℕ → Type 0
Grows old new = (more : List ℕ) × (new ≡ old ++ more)

-- the text of records, as `csv` writes it
abbrev pub text_of : List Record → List ℕ
text_of records = flat_map (row_text default_writer) records
