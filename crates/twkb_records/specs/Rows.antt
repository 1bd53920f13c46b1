-- The column of a header, and a record with one field replaced.
use Rattle.std.specs.Prelude.{ℕ, zero, suc, ◌+◌, List, [], ◌∷◌, if◌then◌else◌}
use Rattle.std.specs.Str.{bytes_eq}
use Rattle.twkb_csv.specs.Named.{Record}
use Rattle.twkb_records.specs.declared.found.Found.{Found}
use Rattle.twkb_records.specs.declared.found.Found.TheVariants.{Absent, At, Twice}

-- ==== The column of a header.

-- one more field of the header is the name, at this place
abbrev pub one_more : Found → ℕ → Found
one_more Absent place = At place
one_more (At other) place = Twice
one_more Twice place = Twice

-- which of the fields, from this place on, is the name, after what was found before
unfoldable pub found_from : List ℕ → Found → ℕ → Record → Found
found_from name found place [] = found
found_from name found place (field ∷ fields) =
    found_from name (if bytes_eq field name then one_more found place else found) (place + 1) fields

-- which field of the header is the name
abbrev pub found_in : List ℕ → Record → Found
found_in name header = found_from name Absent 0 header

-- ==== A field of a record.

-- the record with the field at this place replaced; the record itself, if it has no field there
unfoldable pub replaced : ℕ → List ℕ → Record → Record
replaced place made [] = []
replaced zero made (field ∷ fields) = made ∷ fields
replaced (suc place) made (field ∷ fields) = field ∷ replaced place made fields
