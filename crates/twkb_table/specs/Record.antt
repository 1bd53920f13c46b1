-- The records of geometries, and the values that their fields spell.
use Rattle.std.specs.Prelude.{◌≡◌, ℕ, ℤ, ◌≤◌, ◌+◌, ◌*◌, List, [], Option, Some, None, IfSome, decimal, get_or, ◌∷◌}
use Rattle.std.specs.Prelude.{map, codes, if◌then◌else◌, ◌==◌}
use Rattle.std.specs.Fmt.{signed_decimal}
use Rattle.twkb_tree.specs.Tree.{IsPrecision, IsId, Tree}
use Rattle.twkb_table.specs.declared.decimal.TheConstants.{GREATEST_DEPTH}
use Rattle.twkb_polyline.specs.Polyline.{polyline}
use Rattle.twkb_tree.specs.Rows.{Row, rows_of}
use Rattle.twkb_tree.specs.Kind.{word_of}
use Rattle.twkb_table.specs.declared.fields.Fields.{Fields}
use Rattle.twkb_tree.specs.declared.kind.Kind.{Kind}
use Rattle.twkb_tree.specs.declared.kind.Kind.TheVariants.{Linestring, MultiPoint, Collection}

-- ==== The values that the fields of a record spell.

-- the answer is a value that the field spells, or none if it spells no value
abbrev pub Reads : {A : Type 0} → (A → Type 0) → Option A → Type 0
Reads {A} Spells None = (value : A) → Spells value → ⊥
Reads {A} Spells (Some value) = Spells value

-- the number of eight digits, the highest first
abbrev pub eight_digits : List ℕ → ℕ
eight_digits ds =
    ((get_or ds 0 0 * 10 + get_or ds 1 0) * 100 + (get_or ds 2 0 * 10 + get_or ds 3 0)) * 10000
    + ((get_or ds 4 0 * 10 + get_or ds 5 0) * 100 + (get_or ds 6 0 * 10 + get_or ds 7 0))

-- the canonical decimal of a depth up to GREATEST_DEPTH (profile)
abbrev pub IsDepthField : List ℕ → ℕ → Type 0
IsDepthField field depth = (field ≡ decimal depth) × (depth ≤ GREATEST_DEPTH)

-- the canonical decimal of an i64 (profile)
abbrev pub IsIdField : List ℕ → ℤ → Type 0
IsIdField field id = (field ≡ signed_decimal id) × IsId id

-- the canonical decimal of a precision (profile)
abbrev pub IsPrecisionField : List ℕ → ℤ → Type 0
IsPrecisionField field precision = (field ≡ signed_decimal precision) × IsPrecision precision

-- a number's canonical decimal; empty if there is no number (profile)
abbrev pub optional : Option ℤ → List ℕ
optional None = []
optional (Some n) = signed_decimal n

-- the field spells this id, an i64, or is empty and there is none
abbrev pub IsOptionalId : List ℕ → Option ℤ → Type 0
IsOptionalId field id = (field ≡ optional id) × IfSome id IsId

-- the field spells this precision, from -8 to 7, or is empty and there is none
abbrev pub IsOptionalPrecision : List ℕ → Option ℤ → Type 0
IsOptionalPrecision field precision = (field ≡ optional precision) × IfSome precision IsPrecision

-- ==== The records of geometries.

-- the fields of a record, each a list of bytes
abbrev pub Record : Type 0
Record = List (List ℕ)

-- a row as a record: depth, kind, id, precision and polyline (profile)
abbrev pub record_of : Row → Record
record_of row = decimal row.depth ∷ word_of row.kind ∷ optional row.id ∷ optional row.precision
    ∷ polyline row.points ∷ []

-- the names of the five fields (profile)
abbrev pub header : Record
header = codes "depth" ∷ codes "kind" ∷ codes "id" ∷ codes "precision" ∷ codes "polyline" ∷ []

-- the table of geometries: the header, and the rows of each geometry in preorder (profile)
abbrev pub table : List Tree → List Record
table gs = header ∷ map record_of (rows_of gs)

-- ==== The five fields of a record.

-- the record with these fields
abbrev pub record_seen : Fields → Record
record_seen fields = fields.depth.now ∷ fields.kind.now ∷ fields.id.now ∷ fields.precision.now
    ∷ fields.polyline.now ∷ []

-- ==== Words of ten letters can be those of only one kind, by their first letter.

-- the kind of a word of ten letters that begins with this one
abbrev pub kind_of_ten : ℕ → Kind
kind_of_ten first = if first == 108 then Linestring else (if first == 109 then MultiPoint else Collection)
