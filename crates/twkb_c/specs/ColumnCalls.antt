-- The effect of a call that converts a column of a CSV, for the arguments as C passes them (profile).
use Rattle.std.specs.Prelude.{◌≡◌, ◌⊎◌, ℕ, ℤ, pos, ◌-ℤ◌, ◌<◌, ◌==◌, if◌then◌else◌, List, Option, Some, None, nat_lt}
use Rattle.twkb_tree.specs.Limits.{IsAllowance}
use Rattle.twkb_grammar.specs.declared.style.Style.{Style}
use Rattle.twkb_csv.specs.declared.column.Column.{Column}
use Rattle.twkb_buffer.specs.ColumnCalls.{FillsColumn}
use Rattle.twkb_buffer.specs.ColumnJobs.{column_outputs}
use Rattle.twkb_buffer.specs.Polylines.{nothing_report}
use Rattle.twkb_buffer.specs.declared.column_job.ColumnConversion.{ColumnConversion}
use Rattle.twkb_buffer.specs.declared.column_job.ColumnConversion.TheVariants.{Pack, Unpack}
use Rattle.twkb_buffer.specs.declared.report.BufferReport.{BufferReport}
use Rattle.twkb_c.specs.Arguments.{AreOptionsOf, IsStyleNumber, allowance_of, option_at, option_limits}
use Rattle.twkb_c.specs.ColumnWords.{IsColumnOf, IsEnded, ended_words}
use Rattle.twkb_c.specs.declared.columns.ColumnCall.{ColumnCall}

-- ==== What the numbers ask for.

-- the precision that a word gives, which is 9 less, or -9 if the word is left out; none if it is out of range
abbrev pub precision_at : ℕ → Option ℤ
precision_at word = if nat_lt 16 word then None else Some (pos word -ℤ pos 9)

-- no byte between two fields: a quote, CR, LF, and what is not ASCII
abbrev pub IsNoDelimiter : ℕ → Type 0
IsNoDelimiter word = (127 < word) ⊎ (word ≡ 34) ⊎ (word ≡ 13) ⊎ (word ≡ 10)

-- this is the byte between two fields that a word gives: a comma if the word is left out
abbrev pub IsDelimiterAt : ℕ → ℕ → Type 0
IsDelimiterAt word byte = (IsNoDelimiter word → ⊥) × (byte ≡ (if word == 0 then 44 else word))

-- packing, which needs a precision
abbrev pub packing_at : Style → ℕ → Option ColumnConversion
packing_at style precision = if precision == 0 then None else Some (Pack style)

-- the conversion of a column with a number, in this style if it packs
abbrev pub conversion_with : ℕ → Style → ℕ → Option ColumnConversion
conversion_with number style precision =
    if number == 0 then packing_at style precision else if number == 1 then Some Unpack else None

-- This is asked for by the number of a conversion and these options.
pub record IsColumnCall (number : ℕ) (options : List ℕ) (call : ColumnCall) : Type 0 where
  pub are : AreOptionsOf 7 options
  pub style : Style
  pub named : IsStyleNumber style (option_at options 1)
  pub what_is : conversion_with number style (option_at options 5) ≡ Some call.what
  pub allowed : IsAllowance (allowance_of (option_limits options))
  pub limits_are : call.limits ≡ allowance_of (option_limits options)
  pub precision_is : precision_at (option_at options 5) ≡ Some call.precision
  pub delimiter_is : IsDelimiterAt (option_at options 6) call.delimiter

-- ==== The effect of a call.

-- Nothing was done: the report has this status, and the output is as it was.
pub record DoesNothing (status : ℕ) (old new : List ℕ) (report : BufferReport) : Type 0 where
  pub report_is : report ≡ nothing_report status 0
  pub same : new ≡ old

-- The column that the words name was converted.
pub record ConvertsColumn (call : ColumnCall) (input words new : List ℕ) (report : BufferReport) : Type 0 where
  pub list : List (List ℕ)
  pub words_are : ended_words list ≡ words
  pub column : Column
  pub column_is : IsColumnOf list call.precision call.delimiter column
  pub fills : FillsColumn (column_outputs call.what column call.limits input) new report

-- what is asked for was done, or memory for the list of the words was refused
abbrev pub DoesCall : ColumnCall → (input words old new : List ℕ) → BufferReport → Type 0
DoesCall call input words old new report =
    ConvertsColumn call input words new report ⊎ DoesNothing 4 old new report

-- What was asked for was done, if the words end with a zero byte. If they do not, or the numbers ask for nothing, the
-- report is that of such arguments.
pub record CallsColumn (number : ℕ) (options input words old new : List ℕ) (report : BufferReport) : Type 0 where
  pub does : (call : ColumnCall) → IsColumnCall number options call → IsEnded words
      → DoesCall call input words old new report
  pub no_call : ((call : ColumnCall) → IsColumnCall number options call → ⊥) → DoesNothing 2 old new report
  pub no_words : (IsEnded words → ⊥) → DoesNothing 2 old new report
