-- The numbers by which a report states why a column of a CSV is refused, and where (profile).
use Rattle.std.specs.Prelude.{ℕ, Option, Some, None}
use Rattle.twkb_column.specs.declared.fault.ColumnCause.TheVariants as packing
use Rattle.twkb_column.specs.declared.fault.ColumnReason.{ColumnReason}
use Rattle.twkb_column.specs.declared.fault.ColumnReason.TheVariants as csv
use Rattle.twkb_rest.specs.declared.fault.LineReason.{LineReason}
use Rattle.twkb_rest.specs.declared.fault.LineReason.TheVariants as line
use Rattle.twkb_rest.specs.declared.fault.UnpackCause.TheVariants as unpacking
use Rattle.twkb_convert.specs.declared.report.Cause.{Cause}
use Rattle.twkb_buffer.specs.declared.column_job.JobCause.{JobCause}
use Rattle.twkb_buffer.specs.declared.column_job.JobCause.TheVariants as job

-- the numbers of the reasons for which a record of a CSV is refused: 81 to 84
abbrev pub column_number_of : ColumnReason → ℕ
column_number_of csv.NoSuchColumn = 81
column_number_of csv.ColumnTwice = 82
column_number_of csv.FieldCount = 83
column_number_of csv.MissingValue = 84

-- the numbers of the reasons for which a blob can't be a field of a column: 91 and 92
abbrev pub line_number_of : LineReason → ℕ
line_number_of line.NoLinestring = 91
line_number_of line.AnotherPrecision = 92

-- the cause that conversions of tables and streams have too, if it is one
abbrev pub job_cause_of : JobCause → Option Cause
job_cause_of (job.Pack (packing.Pack why)) = Some why
job_cause_of (job.Pack (packing.Csv number reason)) = None
job_cause_of (job.Unpack (unpacking.Stream why)) = Some why
job_cause_of (job.Unpack (unpacking.Line offset reason)) = None

-- the number of the reason of a cause that only columns have, and 0 for any other
abbrev pub own_number_of : JobCause → ℕ
own_number_of (job.Pack (packing.Csv number reason)) = column_number_of reason
own_number_of (job.Unpack (unpacking.Line offset reason)) = line_number_of reason
own_number_of _ = 0

-- the number of the refused record, from 1, or the offset of the blob, of a cause that only columns have, and 0 for any
-- other
abbrev pub own_place_of : JobCause → ℕ
own_place_of (job.Pack (packing.Csv number reason)) = number
own_place_of (job.Unpack (unpacking.Line offset reason)) = offset
own_place_of _ = 0
