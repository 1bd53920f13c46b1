-- The effect of a run of the command, its status, and the answers to words that make no request (profile).
use Rattle.std.specs.Prelude.{ℕ, ◌≡◌, List, [], Option, None, Some, Result, Ok, Err, IfOk, IfErr, ◌≢◌, ◌⊎◌, Bool}
use Rattle.twkb_convert.specs.declared.report.Cause.{Cause}
use Rattle.twkb_convert.specs.declared.report.Cause.TheVariants as cause
use Rattle.twkb_io.specs.declared.tap.Tap.{Tap}
use Rattle.twkb_tree.specs.Limits.{Allowance}
use Rattle.twkb_conversions.specs.Conversions.{Converts}
use Rattle.twkb_csv.specs.declared.column.Column.{Column}
use Rattle.twkb_column.specs.Packing.{IsFlushedButForReads, PackedColumn, StoppedColumn}
use Rattle.twkb_column.specs.declared.fault.ColumnCause.{ColumnCause}
use Rattle.twkb_column.specs.declared.fault.ColumnCause.TheVariants.{Csv, Pack}
use Rattle.twkb_column.specs.declared.fault.ColumnFault.{ColumnFault}
use Rattle.twkb_convert.specs.Collections.{StoppedCollection, UnpackedCollection}
use Rattle.twkb_convert.specs.Outputs.{IsFlushed}
use Rattle.twkb_convert.specs.declared.report.Report.{Report}
use Rattle.twkb_convert.specs.declared.report.ConvertFault.{ConvertFault}
use Rattle.twkb_hex.specs.Fields.{Packed, Unpacked}
use Rattle.twkb_hex.specs.Results.{Converted, IsFlushedButForDevices, StoppedConverting}
use Rattle.twkb_hex.specs.declared.packing.Packing.{Packing}
use Rattle.twkb_hex.specs.declared.packing.Unpacking.{Unpacking}
use Rattle.twkb_hex.specs.declared.report.HexCause.{HexCause}
use Rattle.twkb_hex.specs.declared.report.HexCause.TheVariants as hex
use Rattle.twkb_hex.specs.declared.report.HexFault.{HexFault}
use Rattle.twkb_hex.specs.declared.report.HexReport.{HexReport}
use Rattle.twkb_rest.specs.Unpacked as rest
use Rattle.twkb_rest.specs.Unpacked.{UnpackedColumn}
use Rattle.twkb_rest.specs.declared.fault.UnpackCause.{UnpackCause}
use Rattle.twkb_rest.specs.declared.fault.UnpackCause.TheVariants.{Line, Stream}
use Rattle.twkb_rest.specs.declared.fault.UnpackFault.{UnpackFault}
use Rattle.twkb_command.specs.declared.refusal.Refusal.{Refusal}
use Rattle.twkb_command.specs.declared.refusal.Refusal.TheVariants as refusal
use Rattle.twkb_command.specs.declared.misuse.Misuse.{Misuse}
use Rattle.twkb_command.specs.declared.request.ColumnWords.{ColumnWords}
use Rattle.twkb_command.specs.declared.request.Job.{Job}
use Rattle.twkb_command.specs.declared.request.Job.TheVariants as job
use Rattle.twkb_command.specs.declared.request.Request.{Request}
use Rattle.twkb_command.specs.declared.stop.Stop.{Stop}
use Rattle.twkb_command.specs.declared.stop.Stop.TheVariants as stop
use Rattle.twkb_command.specs.Misuses.{misuse_of, misuse_text}
use Rattle.twkb_command.specs.Printing.{line_of, named_line, HasShortName, IsPrinted}
use Rattle.clap.specs.Words.{App, IsAmong, Text, fault_of, subcommand_of}
use Rattle.clap.specs.declared.error.kind.ErrorKind.{ErrorKind}
use Rattle.clap.specs.declared.error.kind.ErrorKind.TheVariants.{DisplayHelp, DisplayVersion}
use Rattle.twkb_command.specs.CommandLine.{AsksFor, IsColumnOf, IsOneRequest, name_in}

-- ==== The status of a run (profile).

-- 1 if the input is refused, 3 if a device failed, 4 if memory was refused
abbrev pub status_of : Cause → ℕ
status_of (cause.Row number reason) = 1
status_of (cause.Blob offset reason) = 1
status_of cause.ReadDevice = 3
status_of cause.WriteDevice = 3
status_of cause.Memory = 4
status_of cause.TooLong = 1
status_of cause.TooManyRecords = 1

-- why a job stopped, for a cause of packing a column
abbrev pub column_stop : ColumnCause → Stop
column_stop (Csv number reason) = stop.Csv number reason
column_stop (Pack c) = stop.Cause c

-- why a job stopped, for a cause of unpacking a column
abbrev pub lines_stop : UnpackCause → Stop
lines_stop (Line offset reason) = stop.Line offset reason
lines_stop (Stream c) = stop.Cause c

-- why a job stopped, for a cause of writing a column as digits, or as polylines again
abbrev pub hex_stop : HexCause → Stop
hex_stop (hex.Record number reason) = stop.Hex number reason
hex_stop hex.ReadDevice = stop.Cause cause.ReadDevice
hex_stop hex.WriteDevice = stop.Cause cause.WriteDevice
hex_stop hex.Memory = stop.Cause cause.Memory
hex_stop hex.TooLong = stop.Cause cause.TooLong

-- the status for a stop: that of its cause, and 1 if a record of a CSV or a blob is refused
abbrev pub stop_status : Stop → ℕ
stop_status (stop.Cause c) = status_of c
stop_status (stop.Csv number reason) = 1
stop_status (stop.Hex number reason) = 1
stop_status (stop.Line offset reason) = 1

-- ==== The effect of carrying out a request, and the answers to words that make none (profile).

-- the answer of a job for that of a conversion
abbrev pub convert_answer : Result Report ConvertFault → Result (Unit {0}) Stop
convert_answer (Ok report) = Ok tt
convert_answer (Err fault) = Err (stop.Cause fault.cause)

-- A stream was unpacked to one collection of GeoJSON, or unpacking stopped.
pub record UnpacksCollection {R W : Type 0} (l : Allowance) (remaining : R → Option (List ℕ))
    (contents : W → Option (List ℕ)) (reader : Tap R) (writer : Tap W) (reader_after : Tap R) (writer_after : Tap W)
    (answer : Result Report ConvertFault) : Type 0 where
  pub ok : IfOk answer (λ report. UnpackedCollection l remaining contents reader writer report
      reader_after writer_after)
  pub err : IfErr answer (λ fault. StoppedCollection l remaining contents reader writer fault
      reader_after writer_after)
  pub flushed : IsFlushed answer writer_after

-- the answer of a job for that of packing a column
abbrev pub column_answer : Result Report ColumnFault → Result (Unit {0}) Stop
column_answer (Ok report) = Ok tt
column_answer (Err fault) = Err (column_stop fault.cause)

-- A column of a CSV was packed, or packing stopped.
pub record PacksColumn {R W : Type 0} (words : ColumnWords) (l : Allowance) (remaining : R → Option (List ℕ))
    (contents : W → Option (List ℕ)) (reader : Tap R) (writer : Tap W) (reader_after : Tap R) (writer_after : Tap W)
    (answer : Result Report ColumnFault) : Type 0 where
  pub column : Column
  pub is : IsColumnOf words column
  pub ok : IfOk answer (λ report. PackedColumn words.style l column remaining contents reader writer report
      reader_after writer_after)
  pub err : IfErr answer (λ fault. StoppedColumn words.style l column remaining contents reader writer fault
      reader_after writer_after)
  pub flushed : IsFlushedButForReads answer writer_after

-- the answer of a job for that of writing a column as digits, or as polylines again
abbrev pub hex_answer : Result HexReport HexFault → Result (Unit {0}) Stop
hex_answer (Ok report) = Ok tt
hex_answer (Err fault) = Err (hex_stop fault.cause)

-- the digits that are asked for of a column
abbrev pub packing_of : ColumnWords → Bool → Column → Packing
packing_of words is_bare column = record { column = column; style = words.style; is_bare = is_bare }

-- A CSV was written again with digits in its column, or that stopped.
pub record PacksHex {R W : Type 0} (words : ColumnWords) (is_bare : Bool) (l : Allowance)
    (remaining : R → Option (List ℕ)) (contents : W → Option (List ℕ)) (reader : Tap R) (writer : Tap W)
    (reader_after : Tap R) (writer_after : Tap W) (answer : Result HexReport HexFault) : Type 0 where
  pub column : Column
  pub is : IsColumnOf words column
  pub ok : IfOk answer (λ report. Converted (Packed (packing_of words is_bare column) l) remaining contents
      reader writer report reader_after writer_after)
  pub err : IfErr answer (λ fault. StoppedConverting (Packed (packing_of words is_bare column) l) remaining contents
      reader writer fault reader_after writer_after)
  pub flushed : IsFlushedButForDevices answer writer_after

-- the answer of a job for that of unpacking a column
abbrev pub lines_answer : Result Report UnpackFault → Result (Unit {0}) Stop
lines_answer (Ok report) = Ok tt
lines_answer (Err fault) = Err (lines_stop fault.cause)

-- A stream was unpacked to a column of a CSV with this name, or unpacking stopped.
pub record UnpacksColumn {R W : Type 0} (name : Text) (delimiter : ℕ) (l : Allowance)
    (remaining : R → Option (List ℕ)) (contents : W → Option (List ℕ)) (reader : Tap R) (writer : Tap W)
    (reader_after : Tap R) (writer_after : Tap W) (answer : Result Report UnpackFault) : Type 0 where
  pub ok : IfOk answer (λ report. UnpackedColumn delimiter name l remaining contents reader writer report
      reader_after writer_after)
  pub err : IfErr answer (λ fault. rest.StoppedColumn delimiter name l remaining contents reader writer fault
      reader_after writer_after)
  pub flushed : rest.IsFlushed answer writer_after

-- A CSV was written again with polylines in place of the digits of its column with this name, or that stopped.
pub record UnpacksHex {R W : Type 0} (name : Text) (delimiter : ℕ) (l : Allowance)
    (remaining : R → Option (List ℕ)) (contents : W → Option (List ℕ)) (reader : Tap R) (writer : Tap W)
    (reader_after : Tap R) (writer_after : Tap W) (answer : Result HexReport HexFault) : Type 0 where
  pub unpacking : Unpacking
  pub name_is : unpacking.name.now ≡ name
  pub delimiter_is : unpacking.delimiter ≡ delimiter
  pub ok : IfOk answer (λ report. Converted (Unpacked unpacking l) remaining contents reader writer report
      reader_after writer_after)
  pub err : IfErr answer (λ fault. StoppedConverting (Unpacked unpacking l) remaining contents reader writer fault
      reader_after writer_after)
  pub flushed : IsFlushedButForDevices answer writer_after

-- the result of a job, and its effect on its reader and writer
abbrev pub Does : {R W : Type 0} → Job → Allowance → (R → Option (List ℕ)) → (W → Option (List ℕ)) → Tap R → Tap W
    → Tap R → Tap W → Result (Unit {0}) Stop → Type 0
Does (job.Convert what) l remaining contents reader writer reader_after writer_after answer =
    (own : Result Report ConvertFault) × Converts what l remaining contents reader writer reader_after writer_after own
    × (answer ≡ convert_answer own)
Does job.UnpackCollection l remaining contents reader writer reader_after writer_after answer =
    (own : Result Report ConvertFault)
    × UnpacksCollection l remaining contents reader writer reader_after writer_after own
    × (answer ≡ convert_answer own)
Does (job.PackColumn words) l remaining contents reader writer reader_after writer_after answer =
    (own : Result Report ColumnFault)
    × PacksColumn words l remaining contents reader writer reader_after writer_after own
    × (answer ≡ column_answer own)
Does (job.PackHex words is_bare) l remaining contents reader writer reader_after writer_after answer =
    (own : Result HexReport HexFault)
    × PacksHex words is_bare l remaining contents reader writer reader_after writer_after own
    × (answer ≡ hex_answer own)
Does (job.UnpackColumn name delimiter) l remaining contents reader writer reader_after writer_after answer =
    (own : Result Report UnpackFault)
    × UnpacksColumn name.now delimiter l remaining contents reader writer reader_after writer_after own
    × (answer ≡ lines_answer own)
Does (job.UnpackHex name delimiter) l remaining contents reader writer reader_after writer_after answer =
    (own : Result HexReport HexFault)
    × UnpacksHex name.now delimiter l remaining contents reader writer reader_after writer_after own
    × (answer ≡ hex_answer own)

-- the status of an answer
abbrev pub status_of_answer : Result (Unit {0}) Stop → ℕ
status_of_answer (Ok done) = 0
status_of_answer (Err why) = stop_status why

-- the name of the file that a stop is about: the output's if writing failed, the input's if
-- reading failed or the input is refused, and none for both and for memory
abbrev pub file_at : Stop → Request → Option Text
file_at (stop.Cause cause.WriteDevice) request = name_in request.output
file_at (stop.Cause cause.TooLong) request = None
file_at (stop.Cause cause.Memory) request = None
file_at _ request = name_in request.input

-- the name of the file that an answer is about
abbrev pub file_of_answer : Request → Result (Unit {0}) Stop → Option Text
file_of_answer request (Ok done) = None
file_of_answer request (Err why) = file_at why request

-- the line that standard error gets for an answer
abbrev pub line_of_answer : Request → Result (Unit {0}) Stop → List ℕ
line_of_answer request (Ok done) = []
line_of_answer request (Err why) = named_line (file_at why request) why

-- A request is carried out: its status is that of the job's answer, and standard error
-- gets the line of a fault, with the name of the file that it is about.
pub record CarriesOut {R W E : Type 0} (remaining : R → Option (List ℕ))
    (contents : W → Option (List ℕ)) (told : E → Option (List ℕ)) (request : Request)
    (reader : Tap R) (writer : Tap W) (errors : Tap E) (reader_after : Tap R) (writer_after : Tap W)
    (errors_after : Tap E) (status : ℕ) : Type 0 where
  pub answer : Result (Unit {0}) Stop
  pub does : Does request.job request.limits remaining contents reader writer reader_after writer_after answer
  pub status_is : status ≡ status_of_answer answer
  pub line : HasShortName (file_of_answer request answer)
      → IsPrinted told errors (line_of_answer request answer) errors_after

-- Memory was refused: nothing is written, the status is 4, and standard error gets the line that
-- says so.
pub record TellsMemory {W E : Type 0} (told : E → Option (List ℕ)) (writer : Tap W) (errors : Tap E)
    (writer_after : Tap W) (errors_after : Tap E) (status : ℕ) : Type 0 where
  pub unwritten : writer_after ≡ writer
  pub status_is : status ≡ 4
  pub line : IsPrinted told errors (line_of cause.Memory) errors_after

-- Words do not go together: nothing is written, the status is 2, and standard error gets the text that says so.
pub record TellsMisuse {W E : Type 0} (told : E → Option (List ℕ)) (m : Misuse) (writer : Tap W) (errors : Tap E)
    (writer_after : Tap W) (errors_after : Tap E) (status : ℕ) : Type 0 where
  pub unwritten : writer_after ≡ writer
  pub status_is : status ≡ 2
  pub text : IsPrinted told errors (misuse_text m) errors_after

-- The answer to words that make no request: help and the version with status 0 and nothing on
-- standard error, a fault with status 2 and nothing written.
abbrev pub Refuses : {W E : Type 0} → (E → Option (List ℕ)) → Refusal → Tap W → Tap E → Tap W → Tap E → ℕ → Type 0
Refuses told refusal.Memory writer errors writer_after errors_after status = TellsMemory told writer
    errors writer_after errors_after status
Refuses told (refusal.Help text) writer errors writer_after errors_after status = (status ≡ 0) × (errors_after ≡ errors)
Refuses told (refusal.Version text) writer errors writer_after errors_after status = (status ≡ 0)
    × (errors_after ≡ errors)
Refuses told (refusal.Usage text) writer errors writer_after errors_after status = (status ≡ 2)
    × (writer_after ≡ writer)
Refuses told (refusal.Misused m) writer errors writer_after errors_after status = TellsMisuse told m writer errors
    writer_after errors_after status

-- ==== The effect of a run of the command (profile).

-- Memory was refused while the words were read: nothing is converted, and standard error gets the
-- line that says so.
pub record LacksMemory {R W E : Type 0} (told : E → Option (List ℕ)) (reader : Tap R)
    (writer : Tap W) (errors : Tap E) (reader_after : Tap R) (writer_after : Tap W)
    (errors_after : Tap E) (status : ℕ) : Type 0 where
  pub unread : reader_after ≡ reader
  pub unwritten : writer_after ≡ writer
  pub status_is : status ≡ 4
  pub line : IsPrinted told errors (line_of cause.Memory) errors_after

-- Words refused with an error of this kind are answered: help and the version with status 0 and
-- nothing on standard error, any other with status 2 and nothing written. Nothing is read.
pub record Answers {R W E : Type 0} (kind : ErrorKind) (reader : Tap R) (writer : Tap W)
    (errors : Tap E) (reader_after : Tap R) (writer_after : Tap W) (errors_after : Tap E)
    (status : ℕ) : Type 0 where
  pub unread : reader_after ≡ reader
  pub told : (kind ≡ DisplayHelp) ⊎ (kind ≡ DisplayVersion) → (status ≡ 0) × (errors_after ≡ errors)
  pub refused : kind ≢ DisplayHelp → kind ≢ DisplayVersion → (status ≡ 2) × (writer_after ≡ writer)

-- The effect of a run with these words of a command line. Words without a fault: their request is
-- carried out, or they do not go together, and nothing is read; or memory was refused. Words with a
-- fault: one of its kinds is answered, or memory was refused. The fault asks only for help, only for
-- the version, or for neither.
pub record Runs {R W E : Type 0} (remaining : R → Option (List ℕ)) (contents : W → Option (List ℕ))
    (told : E → Option (List ℕ)) (line : App) (words : List Text) (reader : Tap R) (writer : Tap W)
    (errors : Tap E) (reader_after : Tap R) (writer_after : Tap W) (errors_after : Tap E)
    (status : ℕ) : Type 0 where
  pub accepted : fault_of line words ≡ [] → misuse_of (subcommand_of line words) ≡ None
      → ((request : Request) × AsksFor line words request
      × CarriesOut remaining contents told request reader writer errors reader_after writer_after errors_after status)
      ⊎ LacksMemory told reader writer errors reader_after writer_after errors_after status
  pub misused : (m : Misuse) → fault_of line words ≡ [] → misuse_of (subcommand_of line words) ≡ Some m
      → ((reader_after ≡ reader) × TellsMisuse told m writer errors writer_after errors_after status)
      ⊎ LacksMemory told reader writer errors reader_after writer_after errors_after status
  pub refused : fault_of line words ≢ [] → ((kind : ErrorKind) × IsAmong kind (fault_of line words)
      × Answers kind reader writer errors reader_after writer_after errors_after status)
      ⊎ LacksMemory told reader writer errors reader_after writer_after errors_after status
  pub one_request : IsOneRequest (fault_of line words)
