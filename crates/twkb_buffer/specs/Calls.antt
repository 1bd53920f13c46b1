-- The effect of a call, and what its report states.
use Rattle.std.specs.Prelude.{◌≡◌, ◌≢◌, ℕ, ◌<◌, ◌≤◌, List, take, length, Option, Some, None, Result, Ok, Err}
use Rattle.twkb_conversions.specs.Conversions.{Answers, IsRefusal, Outputs}
use Rattle.twkb_convert.specs.declared.report.Cause.{Cause}
use Rattle.twkb_buffer.specs.declared.report.BufferReport.{BufferReport}
use Rattle.twkb_buffer.specs.Numbers.{place_of, reason_number_of, status_of, text_offset_of}
use Rattle.twkb_convert.specs.declared.report.Cause.TheVariants as cause
use Rattle.twkb_convert.specs.declared.report.ConvertFault.{ConvertFault}
use Rattle.twkb_convert.specs.declared.report.Report.{Report}

-- ==== What a report states.

-- The report states this cause: its status, its reason and its places.
pub record Tells (report : BufferReport) (why : Cause) : Type 0 where
  pub status : report.status ≡ status_of why
  pub reason : report.reason ≡ reason_number_of why
  pub place : report.place ≡ place_of why
  pub text_offset : report.text_offset ≡ text_offset_of why

-- ==== The effect of a call, for any conversion.

-- the number of bytes that an answer counts
abbrev pub sent_of : Result Report ConvertFault → ℕ
sent_of (Ok report) = report.bytes
sent_of (Err fault) = fault.sent

-- The start of a slice is the bytes written, as the answer counts them.
pub record Fills (outputs : Outputs) (slice : List ℕ) (answer : Result Report ConvertFault) : Type 0 where
  pub fits : sent_of answer ≤ length slice
  pub agrees : Answers outputs (take (sent_of answer) slice) answer

-- the number of bytes sent, if the input is refused
abbrev pub refused_length : Cause → ℕ → Option ℕ
refused_length (cause.Row number reason) sent = Some sent
refused_length (cause.Blob offset reason) sent = Some sent
refused_length _ sent = None

-- the number of bytes that an answer counts, if they are the whole output
abbrev pub whole_length_of : Result Report ConvertFault → Option ℕ
whole_length_of (Ok report) = Some report.bytes
whole_length_of (Err fault) = refused_length fault.cause fault.sent

-- a length, or 0
abbrev pub count_of : Option ℕ → ℕ
count_of None = 0
count_of (Some n) = n

-- The words of a report that no conversion uses, and those for later versions, are 0.
pub record HasNoMore (report : BufferReport) : Type 0 where
  pub taken_points : report.taken_points ≡ 0
  pub reserved_1 : report.reserved_1 ≡ 0
  pub reserved_2 : report.reserved_2 ≡ 0

-- the report states what the answer does, except that nothing was sent, and that the whole length
-- is needed
abbrev pub MeasuresBy : Result Report ConvertFault → BufferReport → Type 0
MeasuresBy (Ok answer) report = (report.sent ≡ 0) × (report.status ≡ 0)
    × (report.done ≡ answer.geometries) × (report.needed ≡ answer.bytes) × (report.taken ≡ answer.taken)
    × HasNoMore report
MeasuresBy (Err fault) report = (report.sent ≡ 0) × Tells report fault.cause
    × (report.done ≡ fault.done)
    × (report.needed ≡ count_of (refused_length fault.cause fault.sent)) × (report.taken ≡ fault.taken)
    × HasNoMore report

-- A call wrote nothing. Its report states what would be written, and the length of the whole
-- output, or 0 if that is not known.
pub record Measures (outputs : Outputs) (report : BufferReport) : Type 0 where
  pub none : report.sent ≡ 0
  pub finished : report.status ≡ 0 → (written : List ℕ) × outputs.IsWhole written report.done report.taken
      × (report.needed ≡ length written)
  pub stopped : report.status ≢ 0 → (why : Cause) × (written : List ℕ) × Tells report why
      × outputs.IsFront written report.done report.taken why × (IsRefusal why → report.needed ≡ length written)
  pub needed : report.needed ≢ 0 → outputs.HasLength report.needed
  pub no_more : HasNoMore report

-- A call filled the start of a slice as its report states. If the slice is too small, the report
-- gives the length of the whole output, and the slice is full; or it gives 0.
pub record FillsSlice (outputs : Outputs) (slice : List ℕ) (report : BufferReport) : Type 0 where
  pub fits : report.sent ≤ length slice
  pub finished : report.status ≡ 0 → outputs.IsWhole (take report.sent slice) report.done report.taken
  pub stopped : report.status ≢ 0 → (why : Cause) × Tells report why
      × outputs.IsFront (take report.sent slice) report.done report.taken why
  pub full : report.status ≡ 5 → report.needed ≢ 0 → report.sent ≡ length slice
  pub needed : report.status ≡ 5 → report.needed ≢ 0 → (length slice < report.needed)
      × outputs.HasLength report.needed
  pub as_sent : report.status ≢ 5 → report.needed ≡ report.sent
  pub no_more : HasNoMore report
