-- Records that were packed and are unpacked again.
use Rattle.std.specs.Prelude.{ℕ, List, [], ◌∷◌, get_or, map, if◌then◌else◌}
use Rattle.twkb_csv.specs.Named.{Record}
use Rattle.twkb_hex.specs.Fields.{stays_empty}
use Rattle.twkb_hex.specs.Rows.{found_in, replaced}
use Rattle.twkb_hex.specs.declared.found.Found.{Found}
use Rattle.twkb_hex.specs.declared.found.Found.TheVariants.{Absent, At, Twice}
use Rattle.twkb_hex.specs.declared.packing.Packing.{Packing}
use Rattle.twkb_hex.specs.declared.packing.Unpacking.{Unpacking}

-- the unpacking of the column that was packed
abbrev pub unpacking_of : Packing → Unpacking
unpacking_of p = record { name = p.column.name; delimiter = p.column.delimiter }

-- the field, or nothing if it is a word for a missing value
abbrev pub emptied : Packing → List ℕ → List ℕ
emptied p field = if stays_empty p field then [] else field

-- the record with its field of the column emptied, if that is a word for a missing value
abbrev pub row_emptied : Packing → Found → Record → Record
row_emptied p (At place) row = replaced place (emptied p (get_or row place [])) row
row_emptied p Absent row = row
row_emptied p Twice row = row

-- the records with the words for a missing value in the column emptied; the header stays
abbrev pub with_empty : Packing → List Record → List Record
with_empty p [] = []
with_empty p (header ∷ rows) = header ∷ map (row_emptied p (found_in p.column.name.now header)) rows
