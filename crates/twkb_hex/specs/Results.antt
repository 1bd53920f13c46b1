-- The results of a conversion, and how it ends.
use Rattle.std.specs.Prelude.{ℕ, ◌≡◌, ◌≢◌, ◌≤◌, ◌<◌, ◌-◌, ◌^◌, ◌++◌, ◌⊎◌, List, [], ◌∷◌, length, Option, IfSome, ⊤}
use Rattle.std.specs.Prelude.{Result, Ok, Err, true, false}
use Rattle.std.specs.Io.KnownBytes.{Appends}
use Rattle.twkb_io.specs.declared.TheConstants.{MAX_BYTES}
use Rattle.twkb_io.specs.declared.tap.Tap.{Tap}
use Rattle.twkb_io.specs.Taps.{count_failure, device_of, failures_of, has_unflushed}
use Rattle.twkb_io.specs.Outputs.{Refused, Sent, Took, is_spent, output_failures, output_tap, sent_of}
use Rattle.twkb_io.specs.declared.output.Output.{Output}
use Rattle.twkb_io.specs.declared.output.OutFault.TheVariants as out
use Rattle.twkb_csv.specs.Named.{Record}
use Rattle.twkb_hex.specs.Causes.{DevicesTell, is_write}
use Rattle.twkb_hex.specs.Fields.{Way, delimiter_of}
use Rattle.twkb_hex.specs.Records.{AreRecordsOf, BeginWith, text_of}
use Rattle.twkb_hex.specs.Refusals.{IsHeldBack, IsRefusedAt}
use Rattle.twkb_hex.specs.Rows.{Converts}
use Rattle.twkb_hex.specs.declared.report.HexCause.{HexCause}
use Rattle.twkb_hex.specs.declared.report.HexCause.TheVariants as cause
use Rattle.twkb_hex.specs.declared.report.HexFault.{HexFault}
use Rattle.twkb_hex.specs.declared.report.HexReport.{HexReport}

-- ==== The result of a conversion that reached its end.

-- These are all records of the text, with a header that has the column, and what they become.
pub record WholeCsv (way : Way) (told : Option (List ℕ)) : Type 0 where
  pub header : Record
  pub rows : List Record
  pub all : IfSome told (λ text. AreRecordsOf (delimiter_of way) text (header ∷ rows))
  pub become : List Record
  pub converts : Converts way (header ∷ rows) become

-- The records of the reader's text were converted, and the text of what they become was written
-- after the bytes that the writer held. No device failed.
pub record Converted {R W : Type 0} (way : Way) (remaining : R → Option (List ℕ)) (contents : W → Option (List ℕ))
    (reader : Tap R) (writer : Tap W) (report : HexReport) (read : Tap R) (written : Tap W) : Type 0 where
  pub csv : WholeCsv way (remaining (device_of reader))
  pub appends : Appends (contents (device_of writer)) (contents (device_of written))
      (text_of (delimiter_of way) csv.become)
  pub count : report.records ≡ length csv.become
  pub bytes : report.bytes ≡ length (text_of (delimiter_of way) csv.become)
  pub reads : failures_of read ≡ failures_of reader
  pub writes : failures_of written ≡ failures_of writer

-- ==== The result of a conversion that stopped.

-- The text begins with records, the first of which become others; these bytes are the text of the
-- first of those and a prefix of that of at most one more, and the last are held back.
pub record FrontOfRecords (way : Way) (told : Option (List ℕ)) (bytes : List ℕ) : Type 0 where
  pub before : List Record
  pub here : List Record
  pub begins : IfSome told (λ text. BeginWith (delimiter_of way) text (before ++ here))
  pub whole : List Record
  pub later : List Record
  pub held : List Record
  pub converts : Converts way before (whole ++ (later ++ held))
  pub front : List ℕ
  pub left : List ℕ
  pub cut : text_of (delimiter_of way) later ≡ front ++ left
  pub written : bytes ≡ text_of (delimiter_of way) whole ++ front
  pub one : (later ≡ []) ⊎ ((next : Record) × (later ≡ next ∷ []) × (left ≢ []))

-- What a cause says about the records and the bytes written. Record: all records before it were
-- written but for the one held back. TooLong: the output would be too long, or there are 2^64 - 2
-- records. WriteDevice: nothing. The other causes leave no record cut.
abbrev pub ExplainsCause : (way : Way) (told : Option (List ℕ)) (bytes : List ℕ) → HexCause
    → FrontOfRecords way told bytes → Type 0
ExplainsCause way told bytes (cause.Record number why) part = (part.later ≡ []) × (part.front ≡ [])
    × IsRefusedAt way told part.before part.here number why × IsHeldBack way part.whole part.held
ExplainsCause way told bytes cause.ReadDevice part = part.front ≡ []
ExplainsCause way told bytes cause.WriteDevice part = ⊤
ExplainsCause way told bytes cause.Memory part = part.front ≡ []
ExplainsCause way told bytes cause.TooLong part = (part.front ≡ [])
    × ((MAX_BYTES < length (text_of (delimiter_of way) (part.whole ++ part.later)))
    ⊎ (2 ^ 64 - 2 ≤ length part.before))

-- The writer took the text of the first records that become others, and a prefix of the next one's.
-- The fault has the number of these records (`done`), the number of bytes (`sent`), and a cause that
-- explains why the writing stopped there, and agrees with the failures that the taps counted.
pub record StoppedConverting {R W : Type 0} (way : Way) (remaining : R → Option (List ℕ))
    (contents : W → Option (List ℕ)) (reader : Tap R) (writer : Tap W) (fault : HexFault) (read : Tap R)
    (written : Tap W) : Type 0 where
  pub bytes : List ℕ
  pub part : FrontOfRecords way (remaining (device_of reader)) bytes
  pub appends : Appends (contents (device_of writer)) (contents (device_of written)) bytes
  pub sent : fault.sent ≡ length bytes
  pub done : fault.done ≡ length part.whole
  pub explains : ExplainsCause way (remaining (device_of reader)) bytes fault.cause part
  pub devices : DevicesTell reader writer fault.cause read written

-- no byte that the writer took is unflushed, unless the cause is that a device failed or that too
-- much would be written
abbrev pub IsFlushedButForDevices : {T W : Type 0} → Result T HexFault → Tap W → Type 0
IsFlushedButForDevices (Ok report) writer = has_unflushed writer ≡ false
IsFlushedButForDevices (Err fault) writer = fault.cause ≢ cause.WriteDevice
    → fault.cause ≢ cause.ReadDevice → fault.cause ≢ cause.TooLong → has_unflushed writer ≡ false

-- ==== How the records were sent, before the flush.

-- a fact that holds unless the cause may be that the output refused a call
abbrev pub UnlessRefused : {T : Type 0} → Result T HexCause → Type 0 → Type 0
UnlessRefused (Ok done) fact = fact
UnlessRefused (Err why) fact = why ≢ cause.WriteDevice → why ≢ cause.TooLong → fact

-- These bytes were sent, and the output is left like this by an answer: a write failed exactly if
-- that is the cause, and the output is spent if one failed, and only if a call was refused.
pub record Leaves {A W : Type 0} (contents : W → Option (List ℕ)) (old : Output W) (bytes : List ℕ)
    (new : Output W) (answer : Result A HexCause) : Type 0 where
  pub sends : Sent contents old bytes new
  pub failures : output_failures new ≡ count_failure (is_write answer) (output_failures old)
  pub quiet : is_spent new ≡ false → output_failures new ≡ output_failures old
  pub unspent : UnlessRefused answer (is_spent new ≡ false)

-- what an answer says of the bytes sent and the number of records
abbrev pub Ends : Way → Option (List ℕ) → List ℕ → ℕ → Result (Unit {0}) HexCause → Type 0
Ends way told bytes done (Ok all) = (csv : WholeCsv way told) × (bytes ≡ text_of (delimiter_of way) csv.become)
    × (done ≡ length csv.become)
Ends way told bytes done (Err why) = (part : FrontOfRecords way told bytes) × (done ≡ length part.whole)
    × ExplainsCause way told bytes why part

-- The text of so many records was sent, by an output that had sent nothing before.
pub record Sends {W : Type 0} (way : Way) (contents : W → Option (List ℕ)) (told : Option (List ℕ))
    (old new : Output W) (done : ℕ) (answer : Result (Unit {0}) HexCause) : Type 0 where
  pub bytes : List ℕ
  pub leaves : Leaves contents old bytes new answer
  pub ends : Ends way told bytes done answer

-- a flush after all was sent or after a stop: it passed, or was refused since a call before was, and
-- the answer stays; or it failed
abbrev pub Flushes : {A W : Type 0} → (W → Option (List ℕ)) → Output W → Result A HexCause → Output W
    → Result A HexCause → Type 0
Flushes contents old sending new answer =
    (Took contents old [] new × (has_unflushed (output_tap new).now ≡ false) × (answer ≡ sending))
    ⊎ ((is_spent old ≡ true) × (new ≡ old) × (answer ≡ sending))
    ⊎ ((is_spent old ≡ false) × Refused contents old [] out.Write new × (answer ≡ Err cause.WriteDevice))

-- the report or the fault of an answer, with the numbers of records and of bytes
abbrev pub reported : ℕ → ℕ → Result (Unit {0}) HexCause → Result HexReport HexFault
reported records bytes (Ok done) = Ok (record { records = records; bytes = bytes })
reported records bytes (Err why) = Err (record { done = records; sent = bytes; cause = why })

-- The output was flushed, and its bytes, this number of records and the answer are reported.
pub record Finishes {W : Type 0} (contents : W → Option (List ℕ)) (old : Output W) (records : ℕ)
    (sending : Result (Unit {0}) HexCause) (new : Output W) (report : Result HexReport HexFault) : Type 0 where
  pub answer : Result (Unit {0}) HexCause
  pub flushes : Flushes contents old sending new answer
  pub reports : report ≡ reported records (sent_of new) answer
