-- How far the pieces of a CSV were sent, and what outputs are left like.
use Rattle.std.specs.Prelude.{ℕ, ◌≡◌, ◌≢◌, ◌≤◌, ◌+◌, ◌-◌, ◌++◌, ◌||◌, ◌⊎◌, List, [], ◌∷◌, length, Option, Bool, true}
use Rattle.std.specs.Prelude.{false, Result, Ok, Err}
use Rattle.std.specs.Borrow.{MutBor}
use Rattle.csv.specs.declared.reader.Reader.{Reader}
use Rattle.twkb_io.specs.Outputs.{Cut, Refused, Sent, Took, is_spent, output_failures, output_tap, sent_of}
use Rattle.twkb_io.specs.Taps.{count_failure, has_unflushed}
use Rattle.twkb_io.specs.declared.output.Output.{Output}
use Rattle.twkb_io.specs.declared.output.OutFault.{OutFault}
use Rattle.twkb_io.specs.declared.output.OutFault.TheVariants as out
use Rattle.twkb_io.specs.declared.tap.Tap.{Tap}
use Rattle.twkb_csv.specs.Named.{Record}
use Rattle.twkb_table.specs.declared.numbered_records.TheConstants.{RECORD_CAP}
use Rattle.twkb_convert.specs.declared.report.Cause.TheVariants as cause
use Rattle.twkb_convert.specs.declared.report.Report.{Report}
use Rattle.twkb_column.specs.declared.fault.ColumnCause.{ColumnCause}
use Rattle.twkb_column.specs.declared.fault.ColumnCause.TheVariants.{Pack}
use Rattle.twkb_column.specs.declared.fault.ColumnFault.{ColumnFault}
use Rattle.twkb_records.specs.Records.{HasGiven, ReadsNext}
use Rattle.twkb_records.specs.Rows.{found_in}
use Rattle.twkb_records.specs.declared.found.Found.TheVariants.{At}
use Rattle.twkb_split.specs.Causes.{after_flush, after_reads, cause_of_output, is_write, refused_at}
use Rattle.twkb_split.specs.Pieces.{Become, Becomes, Piece, RefusesHeader, RefusesRow, header_piece, rest_text}
use Rattle.twkb_split.specs.Pieces.{stream_of}
use Rattle.twkb_split.specs.Refusals.{IsHeldBack}
use Rattle.twkb_split.specs.Results.{ExplainsCause, FrontOfPieces, WholeCsv, records_of}
use Rattle.twkb_split.specs.declared.causes.RecordReason.{RecordReason}
use Rattle.twkb_split.specs.declared.causes.RecordReason.TheVariants as reason
use Rattle.twkb_column.specs.declared.fault.ColumnReason.TheVariants as csv
use Rattle.twkb_split.specs.declared.packing.Packing.{Packing}

-- the output has sent nothing, and no call of it was refused
abbrev pub IsFresh : {W : Type 0} → Output W → Type 0
IsFresh output = (is_spent output ≡ false) × (sent_of output ≡ 0)

-- ==== The header.

-- The header was read, has the column at this place, and this is its text.
pub record FindsHeader {R : Type 0} (name : List ℕ) (delimiter : ℕ) (remaining : R → Option (List ℕ))
    (old : Reader (MutBor (Tap R))) (place : ℕ) (header : Record) (text : List ℕ) (new : Reader (MutBor (Tap R)))
    : Type 0 where
  pub reads : ReadsNext remaining old true header new
  pub found : found_in name header ≡ At place
  pub own : text ≡ rest_text delimiter (header_piece header ∷ [])

-- memory was refused, or the header is refused
abbrev pub IsHeaderCause : List ℕ → Record → ColumnCause → Type 0
IsHeaderCause name header why = (why ≡ Pack cause.Memory)
    ⊎ ((because : RecordReason) × (why ≡ refused_at 1 because) × RefusesHeader (found_in name header) because)

-- why there is no header: it could not be read, there is none, or a cause of its own
abbrev pub MissesHeader : {R : Type 0} → List ℕ → (R → Option (List ℕ)) → Reader (MutBor (Tap R)) → ColumnCause
    → Reader (MutBor (Tap R)) → Type 0
MissesHeader name remaining old why new = (why ≡ Pack cause.ReadDevice)
    ⊎ (ReadsNext remaining old false [] new × (why ≡ refused_at 1 (reason.Csv csv.NoSuchColumn)))
    ⊎ ((header : Record) × ReadsNext remaining old true header new × IsHeaderCause name header why)

-- ==== A later record.

-- a record becomes a piece, with this text of its record and this blob
abbrev pub PieceMade : Packing → ℕ → ℕ → Record → (text blob : List ℕ) → Type 0
PieceMade p place width row text blob = (piece : Piece) × Becomes p place width row piece
    × (text ≡ rest_text p.column.delimiter (piece ∷ [])) × (blob ≡ stream_of (piece ∷ []))

-- A record was read, it becomes a piece, and these are its text and its blob.
pub record MakesPiece {R : Type 0} (p : Packing) (place width : ℕ) (remaining : R → Option (List ℕ))
    (old : Reader (MutBor (Tap R))) (text blob : List ℕ) (new : Reader (MutBor (Tap R))) : Type 0 where
  pub row : Record
  pub reads : ReadsNext remaining old true row new
  pub made : PieceMade p place width row text blob

-- memory was refused, there are too many records, or the record is refused
abbrev pub IsRowCause : Packing → ℕ → ℕ → ℕ → Record → ColumnCause → Type 0
IsRowCause p place width number row why = (why ≡ Pack cause.Memory)
    ⊎ ((why ≡ Pack cause.TooManyRecords) × (RECORD_CAP ≤ number))
    ⊎ ((because : RecordReason) × (why ≡ refused_at number because) × RefusesRow p place width row because)

-- why no piece was made: the record with this number could not be read, or a cause of its own
abbrev pub MissesRow : {R : Type 0} → Packing → ℕ → ℕ → ℕ → (R → Option (List ℕ)) → Reader (MutBor (Tap R))
    → ColumnCause → Reader (MutBor (Tap R)) → Type 0
MissesRow p place width number remaining old why new = (why ≡ Pack cause.ReadDevice)
    ⊎ ((row : Record) × ReadsNext remaining old true row new × IsRowCause p place width number row why)

-- the result of reading the record with this number and making its piece
abbrev pub NextPiece : {R : Type 0} → Packing → ℕ → ℕ → ℕ → (R → Option (List ℕ)) → Reader (MutBor (Tap R))
    → Result Bool ColumnCause → (text blob : List ℕ) → Reader (MutBor (Tap R)) → Type 0
NextPiece p place width number remaining old (Ok true) text blob new =
    MakesPiece p place width remaining old text blob new
NextPiece p place width number remaining old (Ok false) text blob new = ReadsNext remaining old false [] new
NextPiece p place width number remaining old (Err why) text blob new =
    MissesRow p place width number remaining old why new

-- ==== A put.

-- The output refused these bytes, for this cause.
pub record IsCut {W : Type 0} (contents : W → Option (List ℕ)) (old : Output W) (bytes : List ℕ) (why : ColumnCause)
    (new : Output W) : Type 0 where
  pub fault : OutFault
  pub told_as : why ≡ cause_of_output fault
  pub cut : Cut contents old bytes fault new
  pub untouched : fault ≡ out.TooLong → sent_of new ≡ sent_of old

-- a piece was not put: its record was refused, and no blob was put; or its record was put, and its blob refused
abbrev pub IsPieceCut : {W V : Type 0} → (W → Option (List ℕ)) → (V → Option (List ℕ)) → Output W → Output V
    → (text blob : List ℕ) → ColumnCause → Output W → Output V → Type 0
IsPieceCut contents rest_contents blobs rest text blob why blobs_new rest_new =
    (IsCut rest_contents rest text why rest_new × (blobs_new ≡ blobs))
    ⊎ (Took rest_contents rest text rest_new × IsCut contents blobs blob why blobs_new)

-- ==== How far the pieces were sent.

-- The header and some records after it were read, all before the one with this number. They become pieces, the first of
-- which were sent, so many; the others wait.
pub record StandsAt {R W V : Type 0} (p : Packing) (place width : ℕ) (remaining : R → Option (List ℕ))
    (contents : W → Option (List ℕ)) (rest_contents : V → Option (List ℕ)) (told : Option (List ℕ))
    (csv : Reader (MutBor (Tap R))) (first blobs : Output W) (rest_first rest : Output V) (number done : ℕ)
    (text blob : List ℕ) : Type 0 where
  pub header : Record
  pub rows : List Record
  pub given : HasGiven p.column.delimiter remaining told (header ∷ rows) csv
  pub found : found_in p.column.name.now header ≡ At place
  pub width_is : length header ≡ width
  pub news : List Piece
  pub become : Become p place width rows news
  pub sent : List Piece
  pub held : List Piece
  pub parts : header_piece header ∷ news ≡ sent ++ held
  pub held_back : IsHeldBack sent held
  pub took : Took contents first (stream_of sent) blobs
  pub rest_took : Took rest_contents rest_first (rest_text p.column.delimiter sent) rest
  pub text_is : text ≡ rest_text p.column.delimiter held
  pub blob_is : blob ≡ stream_of held
  pub fresh : IsFresh first
  pub rest_fresh : IsFresh rest_first
  pub number_is : number ≡ length rows + 2
  pub count : done ≡ length sent

-- ==== How the pieces were sent.

-- a fact that holds unless the cause may be that an output refused a call
abbrev pub UnlessRefused : {T : Type 0} → Result T ColumnCause → Type 0 → Type 0
UnlessRefused (Ok done) fact = fact
UnlessRefused (Err why) fact = why ≢ Pack cause.WriteDevice → why ≢ Pack cause.TooLong → fact

-- These bytes were sent, and a call of the writer failed or not; if one did, the output is spent.
pub record IsLeft {W : Type 0} (contents : W → Option (List ℕ)) (old : Output W) (bytes : List ℕ) (new : Output W)
    (failed : Bool) : Type 0 where
  pub sends : Sent contents old bytes new
  pub failures : output_failures new ≡ count_failure failed (output_failures old)
  pub quiet : is_spent new ≡ false → failed ≡ false

-- So many pieces were sent whole, and this cause explains why no more.
abbrev pub EndsEarly : Packing → Option (List ℕ) → (stream text : List ℕ) → ℕ → ColumnCause → Type 0
EndsEarly p told stream text done why =
    (part : FrontOfPieces p told stream text) × (done ≡ length part.whole) × ExplainsCause why part

-- what an answer says of the bytes sent and the number of pieces; a read that failed left no piece cut
abbrev pub Ends : Packing → Option (List ℕ) → (stream text : List ℕ) → ℕ → Result (Unit {0}) ColumnCause → Type 0
Ends p told stream text done (Ok all) = (whole : WholeCsv p told) × (stream ≡ stream_of whole.pieces)
    × (text ≡ rest_text p.column.delimiter whole.pieces) × (done ≡ length whole.pieces)
Ends p told stream text done (Err why) = (early : EndsEarly p told stream text done why)
    × (why ≡ Pack cause.ReadDevice → early.0.later ≡ [])

-- So many pieces were sent, by outputs that had sent nothing before.
pub record Sends {W V : Type 0} (p : Packing) (contents : W → Option (List ℕ)) (rest_contents : V → Option (List ℕ))
    (told : Option (List ℕ)) (first blobs : Output W) (rest_first rest : Output V) (done : ℕ)
    (answer : Result (Unit {0}) ColumnCause) : Type 0 where
  pub stream : List ℕ
  pub text : List ℕ
  pub failed : Bool
  pub rest_failed : Bool
  pub left : IsLeft contents first stream blobs failed
  pub rest_left : IsLeft rest_contents rest_first text rest rest_failed
  pub tells : is_write answer ≡ (rest_failed || failed)
  pub open_still : UnlessRefused answer ((is_spent blobs ≡ false) × (is_spent rest ≡ false))
  pub ends : Ends p told stream text done answer

-- ==== The end.

-- a flush at the end: it passed, or was refused since a call before was; or it failed
abbrev pub Flushes : {W : Type 0} → (W → Option (List ℕ)) → Output W → Bool → Output W → Type 0
Flushes contents old false new = (Took contents old [] new × (has_unflushed (output_tap new).now ≡ false))
    ⊎ ((is_spent old ≡ true) × (new ≡ old))
Flushes contents old true new = (is_spent old ≡ false) × Refused contents old [] out.Write new

-- the report or the fault of an answer, with the numbers of pieces and of the stream's bytes
abbrev pub reported : (pieces bytes : ℕ) → Result (Unit {0}) ColumnCause → Result Report ColumnFault
reported pieces bytes (Ok done) =
    Ok (record { geometries = pieces - 1; bytes = bytes; taken = records_of pieces })
reported pieces bytes (Err why) =
    Err (record { done = pieces - 1; sent = bytes; taken = records_of pieces; cause = why })

-- Both outputs were flushed, and the stream's bytes, the number of pieces and the answer are reported.
pub record Finishes {W V : Type 0} (contents : W → Option (List ℕ)) (rest_contents : V → Option (List ℕ))
    (blobs blobs_new : Output W) (rest rest_new : Output V) (pieces : ℕ) (read_failed : Bool)
    (sending : Result (Unit {0}) ColumnCause) (report : Result Report ColumnFault) : Type 0 where
  pub failed : Bool
  pub rest_failed : Bool
  pub flushes : Flushes contents blobs failed blobs_new
  pub rest_flushes : Flushes rest_contents rest rest_failed rest_new
  pub reports : report ≡ reported pieces (sent_of blobs_new)
      (after_reads read_failed (after_flush (rest_failed || failed) sending))
