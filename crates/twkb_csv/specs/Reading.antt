-- The text that a reader of a column still gives.
use Rattle.std.specs.Prelude.{ℕ, List, ◌++◌, Option, Some, option_map, drop, take, if◌then◌else◌}
use Rattle.std.specs.declared.io.traits.Read.{Ghosts}
use Rattle.twkb_csv.specs.Scan.{begin, rest_text, stand_of}
use Rattle.twkb_csv.specs.declared.column.Column.{Column}
use Rattle.twkb_csv.specs.declared.column_reader.ColumnReader.{ColumnReader}

-- the reader underneath
abbrev pub under : {R : Type 0} {read : Ghosts R} → ColumnReader R read → R
under r = r.reader

-- the bytes that are held, and not used yet
abbrev pub held_of : {R : Type 0} {read : Ghosts R} → ColumnReader R read → List ℕ
held_of r = drop r.at (take r.filled r.held)

-- the text that was made, and not given yet
abbrev pub pending_of : {R : Type 0} {read : Ghosts R} → ColumnReader R read → List ℕ
pending_of r = drop r.sent r.text.items

-- the text that is still given, by the bytes that the reader underneath still gives
abbrev pub left_of : {R : Type 0} {read : Ghosts R} → Option (List ℕ) → ColumnReader R read → Option (List ℕ)
left_of told r = if r.ended then Some (pending_of r)
    else option_map (λ bytes. pending_of r ++ rest_text r.scan.column (stand_of r.scan) (held_of r ++ bytes)) told

-- the text that all bytes of a CSV name, if they are known
abbrev pub fresh_text : Column → Option (List ℕ) → Option (List ℕ)
fresh_text column told = option_map (λ bytes. rest_text column begin bytes) told
