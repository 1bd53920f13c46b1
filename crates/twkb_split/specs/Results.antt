-- The results of packing a column and its rest.
use Rattle.std.specs.Prelude.{ℕ, ◌≡◌, ◌≢◌, ◌<◌, ◌-◌, ◌==◌, ◌++◌, ◌⊎◌, List, [], ◌∷◌, length, Option, IfSome, ⊤}
use Rattle.std.specs.Prelude.{Result, Ok, Err, false, if◌then◌else◌}
use Rattle.std.specs.Io.KnownBytes.{Appends}
use Rattle.twkb_io.specs.declared.TheConstants.{MAX_BYTES}
use Rattle.twkb_io.specs.declared.tap.Tap.{Tap}
use Rattle.twkb_io.specs.Taps.{device_of, failures_of, has_unflushed}
use Rattle.twkb_csv.specs.Named.{Record}
use Rattle.twkb_csv.specs.declared.column.Column.{Column}
use Rattle.twkb_tree.specs.Limits.{Allowance}
use Rattle.twkb_grammar.specs.declared.style.Style.{Style}
use Rattle.twkb_convert.specs.declared.report.Cause.TheVariants as cause
use Rattle.twkb_convert.specs.declared.report.Report.{Report}
use Rattle.twkb_column.specs.declared.fault.ColumnCause.{ColumnCause}
use Rattle.twkb_column.specs.declared.fault.ColumnCause.TheVariants.{Csv, Pack}
use Rattle.twkb_column.specs.declared.fault.ColumnFault.{ColumnFault}
use Rattle.twkb_records.specs.Records.{AreRecordsOf, BeginWith}
use Rattle.twkb_split.specs.Causes.{DevicesTell}
use Rattle.twkb_split.specs.Pieces.{Piece, Splits, rest_text, stream_of}
use Rattle.twkb_split.specs.Refusals.{HasTooMany, IsHeldBack, IsRefusal}
use Rattle.twkb_split.specs.declared.packing.Packing.{Packing}

-- a column, and how it is packed
abbrev pub packing_of : Style → Allowance → Column → Packing
packing_of style l column = record { column = column; style = style; limits = l }

-- the number of records of the CSV, with its header, that so many geometries are; 0 if there is none
abbrev pub records_of : ℕ → ℕ
records_of pieces = if pieces - 1 == 0 then 0 else pieces

-- ==== The result if the end was reached.

-- These are all records of the text, with a header that has the column, and what they become.
pub record WholeCsv (p : Packing) (told : Option (List ℕ)) : Type 0 where
  pub header : Record
  pub rows : List Record
  pub all : IfSome told (λ text. AreRecordsOf p.column.delimiter text (header ∷ rows))
  pub pieces : List Piece
  pub splits : Splits p (header ∷ rows) pieces

-- The records of the reader's text were packed: the blobs were written after the bytes that the one writer held, and
-- the text of the records of the rest after those of the other. No device failed.
pub record PackedRest {R W V : Type 0} (p : Packing) (remaining : R → Option (List ℕ))
    (contents : W → Option (List ℕ)) (rest_contents : V → Option (List ℕ)) (reader : Tap R) (blobs : Tap W)
    (rest : Tap V) (report : Report) (read : Tap R) (blobs_new : Tap W) (rest_new : Tap V) : Type 0 where
  pub csv : WholeCsv p (remaining (device_of reader))
  pub stream : Appends (contents (device_of blobs)) (contents (device_of blobs_new)) (stream_of csv.pieces)
  pub records : Appends (rest_contents (device_of rest)) (rest_contents (device_of rest_new))
      (rest_text p.column.delimiter csv.pieces)
  pub count : report.geometries ≡ length csv.rows
  pub bytes : report.bytes ≡ length (stream_of csv.pieces)
  pub taken : report.taken ≡ records_of (length csv.pieces)
  pub reads : failures_of read ≡ failures_of reader
  pub blob_writes : failures_of blobs_new ≡ failures_of blobs
  pub rest_writes : failures_of rest_new ≡ failures_of rest

-- ==== The result if it stopped.

-- The text begins with records, the first of which become pieces; the one writer took the blobs of the first of those,
-- and a prefix of that of at most one more, the other one the text of their records, and a prefix of that of the same
-- one more, whose record was written whole before its blob; and the last are held back.
pub record FrontOfPieces (p : Packing) (told : Option (List ℕ)) (blobs rest : List ℕ) : Type 0 where
  pub before : List Record
  pub here : List Record
  pub begins : IfSome told (λ text. BeginWith p.column.delimiter text (before ++ here))
  pub whole : List Piece
  pub later : List Piece
  pub held : List Piece
  pub splits : Splits p before (whole ++ (later ++ held))
  pub blob_front : List ℕ
  pub blob_left : List ℕ
  pub blob_cut : stream_of later ≡ blob_front ++ blob_left
  pub blobs_are : blobs ≡ stream_of whole ++ blob_front
  pub rest_front : List ℕ
  pub rest_left : List ℕ
  pub rest_cut : rest_text p.column.delimiter later ≡ rest_front ++ rest_left
  pub rest_is : rest ≡ rest_text p.column.delimiter whole ++ rest_front
  pub one : (later ≡ []) ⊎ ((next : Piece) × (later ≡ next ∷ []) × ((rest_left ≢ []) ⊎ (blob_left ≢ [])))
  pub rest_first : (rest_left ≡ []) ⊎ (blob_front ≡ [])

-- no blob and no record is cut, and with what is left of one more piece one of the two would be too long
abbrev pub IsTooLong : {p : Packing} {told : Option (List ℕ)} {blobs rest : List ℕ}
    → FrontOfPieces p told blobs rest → Type 0
IsTooLong {p = p} part = (part.blob_front ≡ []) × ((part.rest_front ≡ []) ⊎ (part.rest_left ≡ []))
    × ((MAX_BYTES < length (stream_of (part.whole ++ part.later)))
    ⊎ (MAX_BYTES < length (rest_text p.column.delimiter (part.whole ++ part.later))))

-- a record is refused, and all before it were written but for the one held back
abbrev pub IsRefused : {p : Packing} {told : Option (List ℕ)} {blobs rest : List ℕ}
    → FrontOfPieces p told blobs rest → ColumnCause → Type 0
IsRefused {p = p} {told = told} part why = (part.later ≡ []) × IsRefusal p told part.before part.here why
    × IsHeldBack part.whole part.held

-- What a cause says about the records and the bytes written. A refused record: all before it were written but for the
-- one held back. TooLong: an output would be too long. WriteDevice: nothing. The other causes leave no piece cut, but
-- ReadDevice if an output would also be too long.
abbrev pub ExplainsCause : {p : Packing} {told : Option (List ℕ)} {blobs rest : List ℕ}
    → ColumnCause → FrontOfPieces p told blobs rest → Type 0
ExplainsCause (Csv number why) part = IsRefused part (Csv number why)
ExplainsCause (Pack (cause.Row number why)) part = IsRefused part (Pack (cause.Row number why))
ExplainsCause (Pack (cause.Blob offset why)) part = ⊥
ExplainsCause (Pack cause.ReadDevice) part = (part.later ≡ []) ⊎ IsTooLong part
ExplainsCause (Pack cause.WriteDevice) part = ⊤
ExplainsCause (Pack cause.Memory) part = part.later ≡ []
ExplainsCause (Pack cause.TooLong) part = IsTooLong part
ExplainsCause (Pack cause.TooManyRecords) part = (part.later ≡ []) × HasTooMany part.before part.here

-- The writers took the blobs and the records of the first pieces, and a prefix of the next one's. The fault has the
-- number of blobs written whole (`done`), the number of bytes of the stream (`sent`), the number of records that these
-- are (`taken`), and a cause that explains why the writing stopped there, and agrees with the failures that the taps
-- counted.
pub record StoppedRest {R W V : Type 0} (p : Packing) (remaining : R → Option (List ℕ))
    (contents : W → Option (List ℕ)) (rest_contents : V → Option (List ℕ)) (reader : Tap R) (blobs : Tap W)
    (rest : Tap V) (fault : ColumnFault) (read : Tap R) (blobs_new : Tap W) (rest_new : Tap V) : Type 0 where
  pub bytes : List ℕ
  pub text : List ℕ
  pub part : FrontOfPieces p (remaining (device_of reader)) bytes text
  pub stream : Appends (contents (device_of blobs)) (contents (device_of blobs_new)) bytes
  pub records : Appends (rest_contents (device_of rest)) (rest_contents (device_of rest_new)) text
  pub sent : fault.sent ≡ length bytes
  pub done : fault.done ≡ length part.whole - 1
  pub taken : fault.taken ≡ records_of (length part.whole)
  pub explains : ExplainsCause fault.cause part
  pub devices : DevicesTell reader blobs rest fault.cause read blobs_new rest_new

-- no byte that the writers took is unflushed, unless the cause is that a device failed or that too much would be
-- written
abbrev pub AreFlushedButForDevices : {T W V : Type 0} → Result T ColumnFault → Tap W → Tap V → Type 0
AreFlushedButForDevices (Ok report) blobs rest = (has_unflushed blobs ≡ false) × (has_unflushed rest ≡ false)
AreFlushedButForDevices (Err fault) blobs rest = fault.cause ≢ Pack cause.WriteDevice
    → fault.cause ≢ Pack cause.ReadDevice → fault.cause ≢ Pack cause.TooLong
    → (has_unflushed blobs ≡ false) × (has_unflushed rest ≡ false)
