-- What a field of the column becomes, and why it is refused (profile).
use Rattle.std.specs.Prelude.{ℕ, ◌≡◌, ◌||◌, ◌++◌, ◌==◌, Bool, true, false, List, [], length, if◌then◌else◌, codes}
use Rattle.hex.specs.Hex.{encode_lower}
use Rattle.twkb_csv.specs.Named.{is_among, is_missing}
use Rattle.twkb_points.specs.Point.{Point}
use Rattle.twkb_polyline.specs.Fault.{IsTextFault}
use Rattle.twkb_polyline.specs.Polyline.{DecodesTo}
use Rattle.twkb_tree.specs.Limits.{Allowance}
use Rattle.twkb_tree.specs.Tree.{IsPrecision}
use Rattle.twkb_grammar.specs.Written.{canonical_blob}
use Rattle.twkb_writer.specs.Bytes.{one_line}
use Rattle.twkb_hex.specs.Polylines.{RefusesUnpacking, Unpacks}
use Rattle.twkb_hex.specs.declared.packing.Packing.{Packing}
use Rattle.twkb_hex.specs.declared.packing.Unpacking.{Unpacking}
use Rattle.twkb_hex.specs.declared.report.HexReason.{HexReason}
use Rattle.twkb_hex.specs.declared.report.HexReason.TheVariants as reason

-- ==== A polyline becomes the digits of a blob.

-- the digits of some bytes, two small ones for each, after `\x` or bare
abbrev pub hex_text : Bool → List ℕ → List ℕ
hex_text is_bare bytes = if is_bare then encode_lower bytes else codes "\\x" ++ encode_lower bytes

-- the field stands for a missing value, which stays missing: it is empty, or one of the words
abbrev pub stays_empty : Packing → List ℕ → Bool
stays_empty p field = (length field == 0) || is_among p.column.nulls.now field

-- The field is a polyline, within the limit of points, and the digits are those of the canonical blob
-- of its linestring.
pub record IsPackedTo (p : Packing) (l : Allowance) (field made : List ℕ) : Type 0 where
  pub value : is_missing field ≡ false
  pub precision : IsPrecision p.column.precision
  pub points : List Point
  pub decoded : DecodesTo field l.points points
  pub digits : made ≡ hex_text p.is_bare (canonical_blob p.style (one_line p.column.precision points))

-- what a field becomes, given whether it stays empty
abbrev pub PacksBy : Bool → Packing → Allowance → List ℕ → List ℕ → Type 0
PacksBy true p l field made = made ≡ []
PacksBy false p l field made = IsPackedTo p l field made

-- what a field becomes when the column is packed
abbrev pub Packs : Packing → Allowance → List ℕ → List ℕ → Type 0
Packs p l field made = PacksBy (stays_empty p field) p l field made

-- the text is no polyline of at most so many points
abbrev pub RefusesPolyline : List ℕ → ℕ → HexReason → Type 0
RefusesPolyline text max (reason.Polyline offset why) = IsTextFault text max offset why
RefusesPolyline text max _ = ⊥

-- the reason is the first for which a field that does not stay empty is refused
abbrev pub RefusesValue : Packing → Allowance → List ℕ → HexReason → Type 0
RefusesValue p l field reason.MissingValue = is_missing field ≡ true
RefusesValue p l field reason.BadPrecision = (is_missing field ≡ false) × ¬ IsPrecision p.column.precision
RefusesValue p l field (reason.Polyline offset why) =
    (is_missing field ≡ false) × IsPrecision p.column.precision × IsTextFault field l.points offset why
RefusesValue p l field _ = ⊥

-- a field is refused for this reason when the column is packed
abbrev pub RefusesPacking : Packing → Allowance → List ℕ → HexReason → Type 0
RefusesPacking p l field why = (stays_empty p field ≡ false) × RefusesValue p l field why

-- ==== The two ways.

-- what is done with the column of a CSV
pub data Way : Type 0 where
  Packed : Packing → Allowance → Way
  Unpacked : Unpacking → Allowance → Way

-- what a field of the column becomes
abbrev pub Becomes : Way → List ℕ → List ℕ → Type 0
Becomes (Packed p l) field made = Packs p l field made
Becomes (Unpacked u l) field made = Unpacks l field made

-- a field of the column is refused for this reason
abbrev pub Refuses : Way → List ℕ → HexReason → Type 0
Refuses (Packed p l) field why = RefusesPacking p l field why
Refuses (Unpacked u l) field why = RefusesUnpacking l field why

-- the name of the column
abbrev pub name_of : Way → List ℕ
name_of (Packed p l) = p.column.name.now
name_of (Unpacked u l) = u.name.now

-- the byte between two fields
abbrev pub delimiter_of : Way → ℕ
delimiter_of (Packed p l) = p.column.delimiter
delimiter_of (Unpacked u l) = u.delimiter
