-- What the records of a CSV become: a record of the rest, and a blob (profile).
use Rattle.std.specs.Prelude.{ℕ, ◌≡◌, ◌≢◌, ◌⊎◌, true, false, List, [], ◌∷◌, length, get_or, flat_map, ⊤}
use Rattle.std.specs.Prelude.{if◌then◌else◌}
use Rattle.csv.specs.Writing.{row_text}
use Rattle.twkb_csv.specs.Named.{Record, is_among, is_missing}
use Rattle.twkb_column.specs.declared.fault.ColumnReason.TheVariants as csv
use Rattle.twkb_records.specs.Lines.{IsBlobOf, RefusesLine}
use Rattle.twkb_records.specs.Records.{written_with}
use Rattle.twkb_records.specs.Rows.{found_in, replaced}
use Rattle.twkb_records.specs.declared.found.Found.{Found}
use Rattle.twkb_records.specs.declared.found.Found.TheVariants.{Absent, At, Twice}
use Rattle.twkb_split.specs.declared.causes.RecordReason.{RecordReason}
use Rattle.twkb_split.specs.declared.causes.RecordReason.TheVariants as reason
use Rattle.twkb_split.specs.declared.packing.Packing.{Packing}

-- ==== A field of the column.

-- the polyline of a field: an empty one, if the field is one of the words for a missing one
abbrev pub polyline_of : Packing → List ℕ → List ℕ
polyline_of p field = if is_among p.column.nulls.now field then [] else field

-- A field is packed to this blob: its polyline is no word that other programs write for a missing value.
pub record Packs (p : Packing) (field blob : List ℕ) : Type 0 where
  pub value : is_missing (polyline_of p field) ≡ false
  pub line : IsBlobOf p.style p.column.precision p.limits (polyline_of p field) blob

-- the reason is the first for which a field is refused
abbrev pub RefusesField : Packing → List ℕ → RecordReason → Type 0
RefusesField p field (reason.Csv csv.MissingValue) = is_missing (polyline_of p field) ≡ true
RefusesField p field (reason.Csv csv.NoSuchColumn) = ⊥
RefusesField p field (reason.Csv csv.ColumnTwice) = ⊥
RefusesField p field (reason.Csv csv.FieldCount) = ⊥
RefusesField p field (reason.Line why) =
    (is_missing (polyline_of p field) ≡ false) × RefusesLine p.column.precision p.limits (polyline_of p field) why

-- ==== Pieces: a record of the rest, and the blob that is sent after it.

-- A record of the rest, and the blob after it.
pub record Piece : Type 0 where
  pub row : Record
  pub blob : List ℕ

-- the header of the rest is that of the CSV, and no blob is sent after it
abbrev pub header_piece : Record → Piece
header_piece header = record { row = header; blob = [] }

-- the text of the records of pieces
abbrev pub rest_text : ℕ → List Piece → List ℕ
rest_text delimiter pieces = flat_map (λ (piece : Piece). row_text (written_with delimiter) piece.row) pieces

-- the blobs of pieces, one after another
abbrev pub stream_of : List Piece → List ℕ
stream_of pieces = flat_map (λ (piece : Piece). piece.blob) pieces

-- ==== What records become.

-- A record of as many fields as the header becomes the record with its field of the column empty, and the blob of that
-- field.
pub record Becomes (p : Packing) (place width : ℕ) (row : Record) (piece : Piece) : Type 0 where
  pub fields : length row ≡ width
  pub packs : Packs p (get_or row place []) piece.blob
  pub is : piece.row ≡ replaced place [] row

-- a record is refused, for the first reason that holds: its number of fields, or its field of the column
abbrev pub RefusesRow : Packing → ℕ → ℕ → Record → RecordReason → Type 0
RefusesRow p place width row why = ((length row ≢ width) × (why ≡ reason.Csv csv.FieldCount))
    ⊎ ((length row ≡ width) × RefusesField p (get_or row place []) why)

-- each record becomes the piece of the same number
unfoldable pub Become : Packing → ℕ → ℕ → List Record → List Piece → Type 0
Become p place width [] [] = ⊤
Become p place width [] (piece ∷ pieces) = ⊥
Become p place width (row ∷ rows) [] = ⊥
Become p place width (row ∷ rows) (piece ∷ pieces) =
    Becomes p place width row piece × Become p place width rows pieces

-- The header has the column, and each record after it becomes a piece. Without a header there is nothing.
abbrev pub Splits : Packing → List Record → List Piece → Type 0
Splits p [] [] = ⊤
Splits p [] (piece ∷ pieces) = ⊥
Splits p (header ∷ rows) [] = ⊥
Splits p (header ∷ rows) (piece ∷ pieces) = (piece ≡ header_piece header) × ((place : ℕ)
    × (found_in p.column.name.now header ≡ At place) × Become p place (length header) rows pieces)

-- the header has no such column, or has it twice
abbrev pub RefusesHeader : Found → RecordReason → Type 0
RefusesHeader Absent why = why ≡ reason.Csv csv.NoSuchColumn
RefusesHeader (At place) why = ⊥
RefusesHeader Twice why = why ≡ reason.Csv csv.ColumnTwice
