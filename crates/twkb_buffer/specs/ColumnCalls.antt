-- The effect of a call that converts a column of a CSV, and what its report states.
use Rattle.std.specs.Prelude.{◌≡◌, ◌≢◌, ℕ, ◌<◌, ◌≤◌, List, take, length, Option, Some, None, Result, Ok, Err}
use Rattle.twkb_column.specs.declared.fault.ColumnCause.TheVariants as packing
use Rattle.twkb_convert.specs.declared.report.Cause.TheVariants as cause
use Rattle.twkb_convert.specs.declared.report.Report.{Report}
use Rattle.twkb_rest.specs.declared.fault.UnpackCause.TheVariants as unpacking
use Rattle.twkb_convert.specs.declared.report.Cause.{Cause}
use Rattle.twkb_buffer.specs.Calls.{HasNoMore, Tells}
use Rattle.twkb_buffer.specs.ColumnJobs.{ColumnOutputs, JobAnswers}
use Rattle.twkb_buffer.specs.ColumnNumbers.{job_cause_of, own_number_of, own_place_of}
use Rattle.twkb_buffer.specs.declared.column_job.JobCause.{JobCause}
use Rattle.twkb_buffer.specs.declared.column_job.JobCause.TheVariants as job
use Rattle.twkb_buffer.specs.declared.column_job.JobFault.{JobFault}
use Rattle.twkb_buffer.specs.declared.report.BufferReport.{BufferReport}

-- ==== What a report states.

-- The report states a cause that only columns have: status 1, its reason and its place.
pub record TellsOwn (report : BufferReport) (why : JobCause) : Type 0 where
  pub status : report.status ≡ 1
  pub reason : report.reason ≡ own_number_of why
  pub place : report.place ≡ own_place_of why
  pub text_offset : report.text_offset ≡ 0

-- the report states this cause, given what it is among those of other conversions, if it is one
abbrev pub TellsEither : BufferReport → JobCause → Option Cause → Type 0
TellsEither report why (Some common) = Tells report common
TellsEither report why None = TellsOwn report why

-- the report states this cause
abbrev pub TellsJob : BufferReport → JobCause → Type 0
TellsJob report why = TellsEither report why (job_cause_of why)

-- ==== The effect of a call.

-- the number of bytes that an answer counts
abbrev pub sent_of : Result Report JobFault → ℕ
sent_of (Ok report) = report.bytes
sent_of (Err fault) = fault.sent

-- The start of a slice is the bytes written, as the answer counts them.
pub record FillsFront (outputs : ColumnOutputs) (slice : List ℕ) (answer : Result Report JobFault) : Type 0 where
  pub fits : sent_of answer ≤ length slice
  pub agrees : JobAnswers outputs (take (sent_of answer) slice) answer

-- the number of bytes sent, if the input is refused, and 0 if it is not
abbrev pub refused_length : JobCause → ℕ → ℕ
refused_length (job.Pack (packing.Csv number reason)) sent = sent
refused_length (job.Pack (packing.Pack (cause.Row number reason))) sent = sent
refused_length (job.Unpack (unpacking.Line offset reason)) sent = sent
refused_length (job.Unpack (unpacking.Stream (cause.Blob offset reason))) sent = sent
refused_length _ sent = 0

-- the number of bytes that an answer counts, if they are the whole output, and 0 if they are not
abbrev pub whole_length_of : Result Report JobFault → ℕ
whole_length_of (Ok report) = report.bytes
whole_length_of (Err fault) = refused_length fault.cause fault.sent

-- A call filled the start of a slice as its report states. If the slice is too small, the report gives the length of
-- the whole output, and the slice is full; or it gives 0.
pub record FillsColumn (outputs : ColumnOutputs) (slice : List ℕ) (report : BufferReport) : Type 0 where
  pub fits : report.sent ≤ length slice
  pub finished : report.status ≡ 0 → outputs.IsWhole (take report.sent slice) report.done report.taken
  pub stopped : report.status ≢ 0 → (why : JobCause) × TellsJob report why
      × outputs.IsFront (take report.sent slice) report.done report.taken why
  pub full : report.status ≡ 5 → report.needed ≢ 0 → report.sent ≡ length slice
  pub needed : report.status ≡ 5 → report.needed ≢ 0 → (length slice < report.needed)
      × outputs.HasLength report.needed
  pub as_sent : report.status ≢ 5 → report.needed ≡ report.sent
  pub no_more : HasNoMore report
