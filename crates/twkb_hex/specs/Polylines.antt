-- What digits become when a column is unpacked, and why a field is refused then (profile).
use Rattle.std.specs.Prelude.{ℕ, ℤ, ◌≡◌, ◌≢◌, ◌⊎◌, List, [], ◌∷◌, length, Ok}
use Rattle.hex.specs.Hex.{decode_of}
use Rattle.twkb_points.specs.Point.{Point}
use Rattle.twkb_polyline.specs.Polyline.{polyline}
use Rattle.twkb_tree.specs.Limits.{Allowance}
use Rattle.twkb_tree.specs.Rows.{Row, rows}
use Rattle.twkb_tree.specs.Tree.{Tree}
use Rattle.twkb_grammar.specs.Fault.{FirstFault}
use Rattle.twkb_grammar.specs.Items.{Blob, BlobInFront}
use Rattle.twkb_engine.specs.Stops.{reason_of}
use Rattle.twkb_writer.specs.Bytes.{one_line}
use Rattle.twkb_hex.specs.Digits.{RefusesDigits, digits_in}
use Rattle.twkb_hex.specs.declared.report.HexReason.{HexReason}
use Rattle.twkb_hex.specs.declared.report.HexReason.TheVariants as reason

-- ==== The polyline of a blob.

-- the geometry is a linestring
abbrev pub IsLine : Tree → Type 0
IsLine g = (precision : ℤ) × (points : List Point) × (g ≡ one_line precision points)

-- The digits are those of a blob of a linestring, within the limits, and the text is its polyline.
pub record IsUnpackedTo (l : Allowance) (field made : List ℕ) : Type 0 where
  pub bytes : List ℕ
  pub digits : decode_of (digits_in field) ≡ Ok bytes
  pub precision : ℤ
  pub points : List Point
  pub blob : Blob l bytes (one_line precision points)
  pub text : made ≡ polyline points

-- a geometry with these rows is a linestring, and the text is its polyline
abbrev pub IsLineIn : List Row → List ℕ → Type 0
IsLineIn rs made = (g : Tree) → rs ≡ rows 0 g
    → (precision : ℤ) × (points : List Point) × (g ≡ one_line precision points) × (made ≡ polyline points)

-- a geometry with these rows is no linestring, which is the reason
abbrev pub IsNoLineIn : List Row → HexReason → Type 0
IsNoLineIn rs why = (why ≡ reason.NoLinestring) × ((g : Tree) → rs ≡ rows 0 g → ¬ IsLine g)

-- ==== Bytes that are no blob of a linestring.

-- the bytes begin with the blob of another geometry than a linestring
abbrev pub BeginWithNoLine : Allowance → List ℕ → Type 0
BeginWithNoLine l bytes = (g : Tree) × (rest : List ℕ) × BlobInFront l bytes g rest × ¬ IsLine g

-- The bytes begin with the blob of a linestring, which ends before this byte, and there are more.
pub record HasMore (l : Allowance) (bytes : List ℕ) (byte : ℕ) : Type 0 where
  pub line : Tree
  pub is_line : IsLine line
  pub rest : List ℕ
  pub first : BlobInFront l bytes line rest
  pub more : rest ≢ []
  pub ends : byte ≡ length first.front

-- why bytes are no blob of a linestring: they have a first fault, they begin with the blob of another geometry, or
-- more bytes come after the blob
abbrev pub RefusesBytes : Allowance → List ℕ → HexReason → Type 0
RefusesBytes l bytes (reason.Blob offset why) = FirstFault l bytes offset (reason_of why)
RefusesBytes l bytes reason.NoLinestring = BeginWithNoLine l bytes
RefusesBytes l bytes (reason.MoreBlobs byte) = HasMore l bytes byte
RefusesBytes l bytes _ = ⊥

-- ==== What a field becomes, and why it is refused.

-- characters are refused: for their digits, or for the bytes that they stand for
abbrev pub RefusesHex : Allowance → List ℕ → HexReason → Type 0
RefusesHex l field why = RefusesDigits (digits_in field) why
    ⊎ ((bytes : List ℕ) × (decode_of (digits_in field) ≡ Ok bytes) × RefusesBytes l bytes why)

-- what a field becomes when the column is unpacked: an empty one stays empty
abbrev pub Unpacks : Allowance → List ℕ → List ℕ → Type 0
Unpacks l [] made = made ≡ []
Unpacks l (c ∷ field) made = IsUnpackedTo l (c ∷ field) made

-- a field is refused for this reason when the column is unpacked
abbrev pub RefusesUnpacking : Allowance → List ℕ → HexReason → Type 0
RefusesUnpacking l field why = (field ≢ []) × RefusesHex l field why
