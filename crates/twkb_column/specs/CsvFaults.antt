-- Which record of a CSV is refused first by the rules of the CSV itself, and why (profile).
use Rattle.std.specs.Prelude.{ℕ, ◌+◌, ◌==◌, ◌<◌, ◌≡◌, ◌⊎◌, Bool, true, false, List, [], ◌∷◌, Option, Some, None, length}
use Rattle.std.specs.Prelude.{get_or, if◌then◌else◌}
use Rattle.twkb_csv.specs.Named.{Record, both, found_from, ids_from, is_among, is_missing}
use Rattle.twkb_csv.specs.declared.column.Column.{Column}
use Rattle.twkb_csv.specs.declared.found.Found.{Found}
use Rattle.twkb_csv.specs.declared.found.Found.TheVariants.{Absent, At, Twice}
use Rattle.twkb_table.specs.declared.reason.RowReason.{RowReason}
use Rattle.twkb_convert.specs.declared.report.Cause.TheVariants.{Row}
use Rattle.twkb_column.specs.Causes.{record_number, refused_as}
use Rattle.twkb_column.specs.declared.fault.ColumnCause.TheVariants.{Csv, Pack}
use Rattle.twkb_column.specs.declared.fault.ColumnReason.{ColumnReason}
use Rattle.twkb_column.specs.declared.fault.ColumnReason.TheVariants.{NoSuchColumn, ColumnTwice, FieldCount}
use Rattle.twkb_column.specs.declared.fault.ColumnReason.TheVariants.{MissingValue}

-- why the value of a column is refused, if it is: it is a word for a missing value, and not named as one
abbrev pub value_fault : Column → List ℕ → Option ColumnReason
value_fault column field = if is_among column.nulls.now field then None
    else if is_missing field then Some MissingValue else None

-- why a record is refused, if it is, given whether it has as many fields as the header, and its field of the column
abbrev pub record_fault : Column → Bool → List ℕ → Option ColumnReason
record_fault column true field = value_fault column field
record_fault column false field = Some FieldCount

-- the number and the reason of the first record that is refused, if one is, given the fault of the record with this
-- number and the first one among those after it
abbrev pub fault_or : ℕ → Option ColumnReason → Option (ℕ × ColumnReason) → Option (ℕ × ColumnReason)
fault_or number (Some reason) later = Some (number, reason)
fault_or number None later = later

-- the first of these records, the first of which has this number, that is refused, if one is; the column is at this
-- place of so many
abbrev pub rows_fault : Column → (place width number : ℕ) → List Record → Option (ℕ × ColumnReason)
rows_fault column place width number [] = None
rows_fault column place width number (fields ∷ rows) =
    fault_or number (record_fault column (length fields == width) (get_or fields place []))
    (rows_fault column place width (number + 1) rows)

-- the same of all records, given what is found in the header, which has so many names
abbrev pub table_fault : Column → Found → ℕ → List Record → Option (ℕ × ColumnReason)
table_fault column Absent width rows = Some (1, NoSuchColumn)
table_fault column Twice width rows = Some (1, ColumnTwice)
table_fault column (At place) width rows = rows_fault column place width 2 rows

-- the place of the column among these names, unless it or that of ids is absent or there twice
abbrev pub found_in : Column → Record → Found
found_in column names = both column.ids (found_from column.name.now Absent 0 names) (ids_from column.ids Absent 0 names)

-- The first record that is refused by the rules of the CSV itself, with its number, counted from 1, which is the
-- header, and the reason; none if none is.
abbrev pub csv_fault : Column → List Record → Option (ℕ × ColumnReason)
csv_fault column [] = Some (1, NoSuchColumn)
csv_fault column (names ∷ rows) = table_fault column (found_in column names) (length names) rows

-- the cause is the refusal of this record by the CSV's own rules; or an earlier row is refused for a reason of its own
abbrev pub IsFirst : (has_ids : Bool) → Option (ℕ × ColumnReason) → ℕ → RowReason → Type 0
IsFirst has_ids None number reason =
    refused_as has_ids number reason ≡ Pack (Row (record_number has_ids number) reason)
IsFirst has_ids (Some (first, why)) number reason = (refused_as has_ids number reason ≡ Csv first why)
    ⊎ ((refused_as has_ids number reason ≡ Pack (Row (record_number has_ids number) reason))
    × (record_number has_ids number < first))
