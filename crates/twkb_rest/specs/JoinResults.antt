-- The results of joining a rest with a stream.
use Rattle.std.specs.Prelude.{ℕ, ◌≡◌, ◌≢◌, ◌+◌, ◌⊎◌, List, [], ◌∷◌, ◌++◌, length, Option, IfSome, Bool, false, Result}
use Rattle.std.specs.Prelude.{Ok, Err}
use Rattle.std.specs.Io.KnownBytes.{Appends, IsAtEnd}
use Rattle.twkb_io.specs.Taps.{count_failure, device_of, failures_of, has_unflushed}
use Rattle.twkb_io.specs.declared.tap.Tap.{Tap}
use Rattle.twkb_tree.specs.Limits.{Allowance}
use Rattle.twkb_tree.specs.Tree.{Tree}
use Rattle.twkb_grammar.specs.Items.{Blob}
use Rattle.twkb_convert.specs.Causes.{Changes}
use Rattle.twkb_convert.specs.Parts.{FrontOfText, TakesBlobs}
use Rattle.twkb_convert.specs.declared.report.Cause.TheVariants as cause
use Rattle.twkb_convert.specs.declared.report.Report.{Report}
use Rattle.twkb_records.specs.Records.{AreRecordsOf, BeginWith}
use Rattle.twkb_records.specs.Rows.{found_in}
use Rattle.twkb_records.specs.declared.found.Found.TheVariants.{Absent, Twice}
use Rattle.twkb_rest.specs.Joins.{AreJoined, Joined, IsHeaded, blobs_of, joined_text, rows_of}
use Rattle.twkb_rest.specs.JoinCauses.{IsJoinDevice}
use Rattle.twkb_rest.specs.Unpacked.{ExplainsUnpackCause}
use Rattle.twkb_rest.specs.Written.{Record}
use Rattle.twkb_rest.specs.declared.fault.UnpackCause.{UnpackCause}
use Rattle.twkb_rest.specs.declared.fault.UnpackCause.TheVariants.{Stream}
use Rattle.twkb_rest.specs.declared.join_fault.JoinCause.{JoinCause}
use Rattle.twkb_rest.specs.declared.join_fault.JoinCause.TheVariants.{Column, NoRecord, Rest, RestDevice}
use Rattle.twkb_rest.specs.declared.join_fault.JoinFault.{JoinFault}
use Rattle.twkb_rest.specs.declared.join_fault.RestReason.{RestReason}
use Rattle.twkb_rest.specs.declared.join_fault.RestReason.TheVariants as rest

-- All bytes of the one reader are linestrings of one precision, all those of the other a CSV with a header that has
-- the column and as many records after it, of as many fields, and the writer took the text of these records with the
-- polylines in their column. The report has the numbers of blobs, of bytes written and of bytes of the stream, no
-- device failed, and the reader of the stream is at its end.
pub record JoinedRest {R Q W : Type 0} (delimiter : ℕ) (name : List ℕ) (l : Allowance)
    (remaining : R → Option (List ℕ)) (rest_remaining : Q → Option (List ℕ)) (contents : W → Option (List ℕ))
    (reader : Tap R) (rest : Tap Q) (writer : Tap W) (report : Report) (read : Tap R) (rest_read : Tap Q)
    (written : Tap W) : Type 0 where
  pub header : Record
  pub place : ℕ
  pub joined : List Joined
  pub headed : IsHeaded name place (header ∷ []) joined
  pub stream : IfSome (remaining (device_of reader)) (λ bytes. AreJoined l bytes joined)
  pub records : IfSome (rest_remaining (device_of rest)) (λ text. AreRecordsOf delimiter text (header ∷ rows_of joined))
  pub appends : Appends (contents (device_of writer)) (contents (device_of written))
      (joined_text delimiter place (header ∷ []) joined)
  pub geometries : report.geometries ≡ length joined
  pub bytes : report.bytes ≡ length (joined_text delimiter place (header ∷ []) joined)
  pub taken : IfSome (remaining (device_of reader)) (λ bytes. report.taken ≡ length bytes)
  pub end : IfSome (remaining (device_of reader)) (λ bytes. IsAtEnd (remaining (device_of read)))
  pub reads : failures_of read ≡ failures_of reader
  pub rest_reads : failures_of rest_read ≡ failures_of rest
  pub writes : failures_of written ≡ failures_of writer

-- after these bytes comes a whole blob
abbrev pub HasBlobAfter : Allowance → (bytes all : List ℕ) → Type 0
HasBlobAfter l bytes all =
    (here : List ℕ) × (more : List ℕ) × (g : Tree) × (all ≡ bytes ++ (here ++ more)) × Blob l here g

-- Why a record of a rest is refused, after a header and joined records.
abbrev pub RefusesRest : (delimiter : ℕ) (name : List ℕ) (told rest_told : Option (List ℕ)) (bytes : List ℕ)
    → List Record → List Joined → List Record → ℕ → RestReason → Type 0
RefusesRest delimiter name told rest_told bytes header whole here number rest.NoSuchColumn =
    (header ≡ []) × (number ≡ 1)
    × (((here ≡ []) × IfSome rest_told (λ text. AreRecordsOf delimiter text []))
    ⊎ ((names : Record) × (here ≡ names ∷ []) × (found_in name names ≡ Absent)))
RefusesRest delimiter name told rest_told bytes header whole here number rest.ColumnTwice =
    (header ≡ []) × (number ≡ 1) × ((names : Record) × (here ≡ names ∷ []) × (found_in name names ≡ Twice))
RefusesRest delimiter name told rest_told bytes header whole here number rest.FieldCount =
    (number ≡ length whole + 2)
    × ((names : Record) × (row : Record) × (header ≡ names ∷ []) × (here ≡ row ∷ []) × (length row ≢ length names))
RefusesRest delimiter name told rest_told bytes header whole here number rest.NoBlob =
    (number ≡ length whole + 2) × ((row : Record) × (here ≡ row ∷ [])) × IfSome told (λ all. all ≡ bytes)

-- What a cause says of a stream with a rest: the bytes known at the start and at the end, those of the rest, the bytes
-- of the blobs that were read, the text that was written, the header, the joined records that were written whole,
-- another one that was not, a record of the rest after these, and the text that is left to be written.
pub record Parts : Type 0 where
  pub told : Option (List ℕ)
  pub told_last : Option (List ℕ)
  pub rest_told : Option (List ℕ)
  pub bytes : List ℕ
  pub text : List ℕ
  pub header : List Record
  pub place : ℕ
  pub whole : List Joined
  pub later : List Joined
  pub here : List Record
  pub left : List ℕ

-- what a cause of `unpack_column` says, as it is said there
abbrev pub ExplainsAsColumn : (delimiter : ℕ) → Allowance → UnpackCause → Parts → Type 0
ExplainsAsColumn delimiter l why p =
    ExplainsUnpackCause (λ trees. joined_text delimiter p.place p.header (p.whole ++ p.later)) l p.told p.told_last
    p.bytes p.text why (blobs_of p.whole) (blobs_of p.later) p.left

-- No record for a blob: all records of the rest were read, and after the bytes of the blobs written comes another
-- one. A refused record of the rest: as `RefusesRest` has it. A failed read of the rest left no record cut, unless the
-- output would also be too long.
abbrev pub ExplainsJoin : (delimiter : ℕ) (name : List ℕ) → Allowance → JoinCause → Parts → Type 0
ExplainsJoin delimiter name l (Column why) p = ExplainsAsColumn delimiter l why p
ExplainsJoin delimiter name l (NoRecord offset) p = (p.later ≡ []) × (p.left ≡ []) × (offset ≡ length p.bytes)
    × IfSome p.rest_told (λ text. AreRecordsOf delimiter text (p.header ++ rows_of p.whole))
    × IfSome p.told (λ all. HasBlobAfter l p.bytes all)
ExplainsJoin delimiter name l (Rest number why) p = (p.later ≡ [])
    × RefusesRest delimiter name p.told p.rest_told p.bytes p.header p.whole p.here number why
ExplainsJoin delimiter name l RestDevice p =
    (blobs_of p.later ≡ []) ⊎ ExplainsAsColumn delimiter l (Stream cause.TooLong) p

-- The stream begins with blobs of linestrings of one precision, the rest with a header that has the column and as many
-- records, and the writer took a prefix of the text of these records with the polylines in their column. The fault has
-- the number of those that are whole in it (`done`), how many bytes of the stream their blobs are (`taken`), the
-- length of the prefix (`sent`), and a cause that explains why the writing stopped there, and agrees with the failures
-- that the taps counted.
pub record StoppedRest {R Q W : Type 0} (delimiter : ℕ) (name : List ℕ) (l : Allowance)
    (remaining : R → Option (List ℕ)) (rest_remaining : Q → Option (List ℕ)) (contents : W → Option (List ℕ))
    (reader : Tap R) (rest : Tap Q) (writer : Tap W) (fault : JoinFault) (read : Tap R) (rest_read : Tap Q)
    (written : Tap W) : Type 0 where
  pub text : List ℕ
  pub header : List Record
  pub place : ℕ
  pub here : List Record
  pub part : FrontOfText (AreJoined l) (joined_text delimiter place header) (remaining (device_of reader)) text
  pub headed : IsHeaded name place header (part.whole ++ part.later)
  pub records : IfSome (rest_remaining (device_of rest))
      (λ bytes. BeginWith delimiter bytes ((header ++ rows_of (part.whole ++ part.later)) ++ here))
  pub appends : Appends (contents (device_of writer)) (contents (device_of written)) text
  pub done : fault.done ≡ length part.whole
  pub sent : fault.sent ≡ length text
  pub taken : TakesBlobs (AreJoined l) part.bytes part.whole fault.taken
  pub explains : ExplainsJoin delimiter name l fault.cause (record {
    told = remaining (device_of reader);
    told_last = remaining (device_of read);
    rest_told = rest_remaining (device_of rest);
    bytes = part.bytes;
    text = text;
    header = header;
    place = place;
    whole = part.whole;
    later = part.later;
    here = here;
    left = part.left;
  })
  pub read_failed : Bool
  pub rest_failed : Bool
  pub write_failed : Bool
  pub reads : failures_of read ≡ count_failure read_failed (failures_of reader)
  pub rest_reads : Changes rest_failed (failures_of rest) (failures_of rest_read)
  pub writes : failures_of written ≡ count_failure write_failed (failures_of writer)
  pub devices : IsJoinDevice read_failed rest_failed write_failed fault.cause

-- no byte that the writer took is unflushed, unless the cause is that the writer or a read of the rest failed, or that
-- too much would be written
abbrev pub IsFlushedRest : {W : Type 0} → Result Report JoinFault → Tap W → Type 0
IsFlushedRest (Ok report) writer = has_unflushed writer ≡ false
IsFlushedRest (Err fault) writer = fault.cause ≢ Column (Stream cause.WriteDevice)
    → fault.cause ≢ Column (Stream cause.TooLong) → fault.cause ≢ RestDevice → has_unflushed writer ≡ false
