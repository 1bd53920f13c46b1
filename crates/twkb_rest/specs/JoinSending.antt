-- The reading of one blob and one record of a rest, and how far joined records were sent.
use Rattle.std.specs.Prelude.{ℕ, ℤ, ◌≡◌, ◌≢◌, ◌+◌, ◌≤◌, ◌⊎◌, List, [], ◌∷◌, ◌++◌, length, Bool, true, false, Option}
use Rattle.std.specs.Prelude.{IfSome, Result, Ok, Err}
use Rattle.std.specs.Borrow.{MutBor}
use Rattle.std.specs.Io.KnownBytes.{IsAtEnd}
use Rattle.std.specs.List.{AllByRecursion}
use Rattle.std.specs.declared.io.traits.Read.{Ghosts}
use Rattle.csv.specs.declared.reader.Reader.{Reader as CsvReader}
use Rattle.twkb_io.specs.Outputs.{Cut, Refused, Sent, Took, is_spent, output_failures, output_tap, sent_of}
use Rattle.twkb_io.specs.Taps.{count_failure, has_unflushed}
use Rattle.twkb_io.specs.declared.output.Output.{Output}
use Rattle.twkb_io.specs.declared.output.OutFault.{OutFault}
use Rattle.twkb_io.specs.declared.output.OutFault.TheVariants as out
use Rattle.twkb_io.specs.declared.tap.Tap.{Tap}
use Rattle.twkb_tree.specs.Tree.{Tree, flat}
use Rattle.twkb_polyline.specs.Polyline.{polyline}
use Rattle.twkb_blob.specs.declared.reader.Reader.{Reader}
use Rattle.twkb_convert.specs.Listed.{EndsBlobs, Follows, IsBetween, MissesText, Used, given, limits_of, rest_of}
use Rattle.twkb_convert.specs.Listed.{told_of}
use Rattle.twkb_convert.specs.Parts.{FrontOfText, TakesBlobs}
use Rattle.twkb_convert.specs.declared.report.Cause.{Cause}
use Rattle.twkb_convert.specs.declared.report.Cause.TheVariants as cause
use Rattle.twkb_convert.specs.declared.report.Report.{Report}
use Rattle.twkb_records.specs.Records.{AreRecordsOf, BeginWith, HasGiven, ReadsNext}
use Rattle.twkb_records.specs.Rows.{found_in, replaced}
use Rattle.twkb_records.specs.declared.found.Found.{Found}
use Rattle.twkb_records.specs.declared.found.Found.TheVariants.{Absent, At, Twice}
use Rattle.twkb_rest.specs.Columns.{first_precision}
use Rattle.twkb_rest.specs.JoinCauses.{after_flush, after_rest, cause_of_put, is_failed_read, is_failed_write}
use Rattle.twkb_rest.specs.JoinResults.{ExplainsAsColumn, ExplainsJoin, Parts}
use Rattle.twkb_rest.specs.Joins.{AreJoined, HasWidth, IsHeaded, Joined, blobs_of, joined_text, rows_of}
use Rattle.twkb_rest.specs.Lines.{GivesTree, RefusesNext, Takes}
use Rattle.twkb_rest.specs.Written.{Record, records_text}
use Rattle.twkb_rest.specs.declared.fault.LineReason.{LineReason}
use Rattle.twkb_rest.specs.declared.fault.UnpackCause.TheVariants.{Line, Stream}
use Rattle.twkb_rest.specs.declared.join_fault.JoinCause.{JoinCause}
use Rattle.twkb_rest.specs.declared.join_fault.JoinCause.TheVariants.{Column, NoRecord, Rest, RestDevice}
use Rattle.twkb_rest.specs.declared.join_fault.JoinFault.{JoinFault}
use Rattle.twkb_rest.specs.declared.join_fault.RestReason.{RestReason}
use Rattle.twkb_rest.specs.declared.join_fault.RestReason.TheVariants as rest
use Rattle.twkb_rest.specs.declared.line.Next.{Next}
use Rattle.twkb_rest.specs.declared.line.Next.TheVariants as next
use Rattle.twkb_rest.specs.declared.rest_records.RestColumn.{RestColumn}

-- ==== The reading of one linestring.

-- One linestring was read, this is its polyline, and the reader is between two blobs.
pub record GivesPolyline {R : Type 0} {read : Ghosts R} (first after : Option ℤ) (from to : Reader R read)
    (line : List ℕ) : Type 0 where
  pub found : Tree
  pub gives : GivesTree (limits_of from) (rest_of from) (given from) found (rest_of to) (given to)
  pub takes : Takes first found after
  pub own : line ≡ polyline (flat found)
  pub follows : Follows from to false
  pub between : IsBetween to

-- the result of reading the next linestring and making its polyline
abbrev pub ReadsPolyline : {R : Type 0} {read : Ghosts R} → (first after : Option ℤ) → Reader R read
    → Reader R read → List ℕ → Result Next Cause → Type 0
ReadsPolyline first after from to line (Ok next.Line) = GivesPolyline first after from to line
ReadsPolyline first after from to line (Ok next.End) = EndsBlobs from to
ReadsPolyline first after from to line (Ok (next.Refused why)) = RefusesNext first from to why
ReadsPolyline first after from to line (Err why) = MissesText from to why

-- ==== The header of a rest.

-- the header has no such column, or has it twice
abbrev pub RefusesNames : Found → RestReason → Type 0
RefusesNames Absent why = why ≡ rest.NoSuchColumn
RefusesNames (At place) why = ⊥
RefusesNames Twice why = why ≡ rest.ColumnTwice

-- The header was read, has the column at its place, and this is its text.
pub record FindsHeader {Q : Type 0} (name : List ℕ) (delimiter : ℕ) (remaining : Q → Option (List ℕ))
    (old : CsvReader (MutBor (Tap Q))) (column : RestColumn) (header : Record) (text : List ℕ)
    (new : CsvReader (MutBor (Tap Q))) : Type 0 where
  pub reads : ReadsNext remaining old true header new
  pub found : found_in name header ≡ At column.place
  pub width : length header ≡ column.width
  pub same : column.delimiter ≡ delimiter
  pub own : text ≡ records_text delimiter (header ∷ [])

-- why there is no header: it could not be read, there is none, memory was refused, or it is refused
abbrev pub MissesHeader : {Q : Type 0} → List ℕ → (Q → Option (List ℕ)) → CsvReader (MutBor (Tap Q)) → JoinCause
    → CsvReader (MutBor (Tap Q)) → Type 0
MissesHeader name remaining old why new = (why ≡ RestDevice)
    ⊎ (ReadsNext remaining old false [] new × (why ≡ Rest 1 rest.NoSuchColumn))
    ⊎ ((header : Record) × ReadsNext remaining old true header new × ((why ≡ Column (Stream cause.Memory))
    ⊎ ((because : RestReason) × (why ≡ Rest 1 because) × RefusesNames (found_in name header) because)))

-- ==== A later record of a rest.

-- A record of as many fields as the header was read, and this is its text with a polyline in the column.
pub record GivesRow {Q : Type 0} (column : RestColumn) (remaining : Q → Option (List ℕ)) (line : List ℕ)
    (old : CsvReader (MutBor (Tap Q))) (text : List ℕ) (new : CsvReader (MutBor (Tap Q))) : Type 0 where
  pub row : Record
  pub reads : ReadsNext remaining old true row new
  pub fields : length row ≡ column.width
  pub own : text ≡ records_text column.delimiter (replaced column.place line row ∷ [])

-- why there is no text of a record: it could not be read, there is none, memory was refused, or it is refused
abbrev pub MissesRow : {Q : Type 0} → RestColumn → (number taken : ℕ) → (Q → Option (List ℕ))
    → CsvReader (MutBor (Tap Q)) → JoinCause → CsvReader (MutBor (Tap Q)) → Type 0
MissesRow column number taken remaining old why new = (why ≡ RestDevice)
    ⊎ (ReadsNext remaining old false [] new × (why ≡ NoRecord taken))
    ⊎ ((row : Record) × ReadsNext remaining old true row new × ((why ≡ Column (Stream cause.Memory))
    ⊎ ((why ≡ Rest number rest.FieldCount) × (length row ≢ column.width))))

-- the result of reading a record and making its text with a polyline
abbrev pub JoinsRow : {Q : Type 0} → RestColumn → (number taken : ℕ) → (Q → Option (List ℕ)) → (line : List ℕ)
    → CsvReader (MutBor (Tap Q)) → Result (Unit {0}) JoinCause → (text : List ℕ) → CsvReader (MutBor (Tap Q)) → Type 0
JoinsRow column number taken remaining line old (Ok done) text new = GivesRow column remaining line old text new
JoinsRow column number taken remaining line old (Err why) text new =
    MissesRow column number taken remaining old why new

-- the result of reading on after the stream's end
abbrev pub EndsRest : {Q : Type 0} → (number : ℕ) → (Q → Option (List ℕ)) → CsvReader (MutBor (Tap Q))
    → Result (Unit {0}) JoinCause → CsvReader (MutBor (Tap Q)) → Type 0
EndsRest number remaining old (Ok done) new = ReadsNext remaining old false [] new
EndsRest number remaining old (Err why) new = (why ≡ RestDevice)
    ⊎ ((row : Record) × ReadsNext remaining old true row new × (why ≡ Rest number rest.NoBlob))

-- A blob and a record were read, and this is the text of both.
pub record GivesJoined {R Q : Type 0} {read : Ghosts R} (column : RestColumn) (remaining : Q → Option (List ℕ))
    (first after : Option ℤ) (from to : Reader R read) (old : CsvReader (MutBor (Tap Q))) (text : List ℕ)
    (new : CsvReader (MutBor (Tap Q))) : Type 0 where
  pub line : List ℕ
  pub blob : GivesPolyline first after from to line
  pub row : GivesRow column remaining line old text new

-- why no text of a blob and a record was made: the one's reason, or the other's after a blob or the stream's end
abbrev pub MissesJoined : {R Q : Type 0} {read : Ghosts R} → RestColumn → (number taken : ℕ)
    → (Q → Option (List ℕ)) → (first after : Option ℤ) → (from to : Reader R read) → CsvReader (MutBor (Tap Q))
    → JoinCause → CsvReader (MutBor (Tap Q)) → Type 0
MissesJoined column number taken remaining first after from to old why new =
    ((because : Cause) × MissesText from to because × (why ≡ Column (Stream because)))
    ⊎ ((because : LineReason) × RefusesNext first from to because × (why ≡ Column (Line taken because)))
    ⊎ (EndsBlobs from to × EndsRest number remaining old (Err why) new)
    ⊎ ((line : List ℕ) × GivesPolyline first after from to line × MissesRow column number taken remaining old why new)

-- the result of reading a blob and a record
abbrev pub NextJoined : {R Q : Type 0} {read : Ghosts R} → RestColumn → (number taken : ℕ) → (Q → Option (List ℕ))
    → (first after : Option ℤ) → (from to : Reader R read) → CsvReader (MutBor (Tap Q)) → Result Bool JoinCause
    → List ℕ → CsvReader (MutBor (Tap Q)) → Type 0
NextJoined column number taken remaining first after from to old (Ok true) text new =
    GivesJoined column remaining first after from to old text new
NextJoined column number taken remaining first after from to old (Ok false) text new =
    EndsBlobs from to × ReadsNext remaining old false [] new
NextJoined column number taken remaining first after from to old (Err why) text new =
    MissesJoined column number taken remaining first after from to old why new

-- ==== How far joined records were sent.

-- The header and joined records were sent, from a reader that had read nothing, and nothing was refused. Their number
-- is at most that of the bytes given out, which are those taken.
pub record SentJoined {R Q W : Type 0} {read : Ghosts R} (name : List ℕ) (column : RestColumn)
    (remaining : Q → Option (List ℕ)) (rest_told : Option (List ℕ)) (contents : W → Option (List ℕ))
    (from : Reader R read) (old : Output W) (csv : CsvReader (MutBor (Tap Q))) (first : Option ℤ)
    (to : Reader R read) (new : Output W) (number done taken : ℕ) : Type 0 where
  pub header : Record
  pub found : found_in name header ≡ At column.place
  pub width : length header ≡ column.width
  pub joined : List Joined
  pub bytes : List ℕ
  pub blobs : AreJoined (limits_of from) bytes joined
  pub first_is : first ≡ first_precision (blobs_of joined)
  pub fits : AllByRecursion (HasWidth column.width) joined
  pub records : HasGiven column.delimiter remaining rest_told (header ∷ rows_of joined) csv
  pub used : Used (rest_of from) 0 bytes (rest_of to) (given to)
  pub took : Took contents old (joined_text column.delimiter column.place (header ∷ []) joined) new
  pub number_is : number ≡ length joined + 2
  pub count : done ≡ length joined
  pub follows : Follows from to false
  pub unspent : is_spent new ≡ false
  pub unsent : sent_of old ≡ 0
  pub few : length joined ≤ given to
  pub taken_is : taken ≡ given to

-- These bytes were sent, and a call of the writer failed or not; if one did, the output is spent.
pub record IsLeft {W : Type 0} (contents : W → Option (List ℕ)) (old : Output W) (bytes : List ℕ) (new : Output W)
    (failed : Bool) : Type 0 where
  pub sends : Sent contents old bytes new
  pub failures : output_failures new ≡ count_failure failed (output_failures old)
  pub quiet : is_spent new ≡ false → failed ≡ false

-- The output refused these bytes, for this cause.
pub record IsCut {W : Type 0} (contents : W → Option (List ℕ)) (old : Output W) (bytes : List ℕ) (why : JoinCause)
    (new : Output W) : Type 0 where
  pub fault : OutFault
  pub told_as : why ≡ cause_of_put fault
  pub cut : Cut contents old bytes fault new

-- a fact that holds unless the cause may be that the output refused a call
abbrev pub UnlessRefused : {T : Type 0} → Result T JoinCause → Type 0 → Type 0
UnlessRefused (Ok done) fact = fact
UnlessRefused (Err why) fact = why ≢ Column (Stream cause.WriteDevice) → why ≢ Column (Stream cause.TooLong) → fact

-- All bytes are the blobs whose records were sent, all records of the rest were read, and the reader is at its end.
pub record JoinsAll {R : Type 0} {read : Ghosts R} (name : List ℕ) (delimiter : ℕ) (rest_told : Option (List ℕ))
    (from to : Reader R read) (header : List Record) (place : ℕ) (bytes : List ℕ) (whole later : List Joined)
    (left : List ℕ) : Type 0 where
  pub names : Record
  pub header_is : header ≡ names ∷ []
  pub no_later : later ≡ []
  pub none_left : left ≡ []
  pub all : IfSome (rest_of from) (λ known. known ≡ bytes)
  pub ended : IfSome (rest_of from) (λ known. IsAtEnd (told_of to))
  pub records : IfSome rest_told (λ text. AreRecordsOf delimiter text (names ∷ rows_of whole))

-- what an answer says
abbrev pub EndsJoin : {R : Type 0} {read : Ghosts R} → List ℕ → ℕ → Option (List ℕ) → (from to : Reader R read)
    → Result (Unit {0}) JoinCause → Parts → Type 0
EndsJoin name delimiter rest_told from to (Ok done) p =
    JoinsAll name delimiter rest_told from to p.header p.place p.bytes p.whole p.later p.left
EndsJoin name delimiter rest_told from to (Err why) p = ExplainsJoin delimiter name (limits_of from) why p
    × (why ≡ RestDevice → ExplainsAsColumn delimiter (limits_of from) (Stream cause.Memory) p)

-- A prefix of the text of joined records was sent, from a reader that had read nothing, and these are the numbers of
-- those that are whole in it, and of the bytes of their blobs.
pub record SendsJoined {R W : Type 0} {read : Ghosts R} (name : List ℕ) (delimiter : ℕ) (rest_told : Option (List ℕ))
    (contents : W → Option (List ℕ)) (from : Reader R read) (old : Output W) (to : Reader R read) (new : Output W)
    (done taken : ℕ) (answer : Result (Unit {0}) JoinCause) : Type 0 where
  pub text : List ℕ
  pub header : List Record
  pub place : ℕ
  pub here : List Record
  pub part : FrontOfText (AreJoined (limits_of from)) (joined_text delimiter place header) (rest_of from) text
  pub headed : IsHeaded name place header (part.whole ++ part.later)
  pub records : IfSome rest_told
      (λ bytes. BeginWith delimiter bytes ((header ++ rows_of (part.whole ++ part.later)) ++ here))
  pub count : done ≡ length part.whole
  pub takes : TakesBlobs (AreJoined (limits_of from)) part.bytes part.whole taken
  pub failed : Bool
  pub leaves : IsLeft contents old text new failed
  pub open_still : UnlessRefused answer (is_spent new ≡ false)
  pub read_failed : Bool
  pub follows : Follows from to read_failed
  pub writes : is_failed_write answer ≡ failed
  pub reads : failed ≡ false → is_failed_read answer ≡ read_failed
  pub ends : EndsJoin name delimiter rest_told from to answer (record {
    told = rest_of from;
    told_last = told_of to;
    rest_told = rest_told;
    bytes = part.bytes;
    text = text;
    header = header;
    place = place;
    whole = part.whole;
    later = part.later;
    here = here;
    left = part.left;
  })

-- ==== The end.

-- a flush at the end: it passed, or was refused since a call before was; or it failed
abbrev pub Flushes : {W : Type 0} → (W → Option (List ℕ)) → Output W → Bool → Output W → Type 0
Flushes contents old false new = (Took contents old [] new × (has_unflushed (output_tap new).now ≡ false))
    ⊎ ((is_spent old ≡ true) × (new ≡ old))
Flushes contents old true new = (is_spent old ≡ false) × Refused contents old [] out.Write new

-- the report or the fault of an answer, with the numbers of blobs, of bytes and of the blobs' bytes
abbrev pub join_reported : (blobs bytes taken : ℕ) → Result (Unit {0}) JoinCause → Result Report JoinFault
join_reported blobs bytes taken (Ok done) = Ok (record { geometries = blobs; bytes = bytes; taken = taken })
join_reported blobs bytes taken (Err why) = Err (record { done = blobs; sent = bytes; taken = taken; cause = why })

-- The output was flushed, and its bytes, this number of blobs, their bytes and the answer are reported.
pub record FinishesJoin {W : Type 0} (contents : W → Option (List ℕ)) (old : Output W) (blobs taken : ℕ)
    (rest_failed : Bool) (sending : Result (Unit {0}) JoinCause) (new : Output W) (report : Result Report JoinFault)
    : Type 0 where
  pub failed : Bool
  pub flushes : Flushes contents old failed new
  pub reports : report ≡ join_reported blobs (sent_of new) taken (after_rest rest_failed (after_flush failed sending))
