-- The numbers by which a report states statuses, reasons and places (profile).
use Rattle.std.specs.Prelude.{ℕ}
use Rattle.twkb_polyline.specs.declared.fault.PolyReason.{PolyReason}
use Rattle.twkb_polyline.specs.declared.fault.PolyReason.TheVariants as text
use Rattle.twkb_table.specs.declared.reason.RowReason.{RowReason}
use Rattle.twkb_table.specs.declared.reason.RowReason.TheVariants as row
use Rattle.twkb_engine.specs.declared.blob_reason.BlobReason.{BlobReason}
use Rattle.twkb_engine.specs.declared.blob_reason.BlobReason.TheVariants as blob
use Rattle.twkb_convert.specs.declared.report.Cause.{Cause}
use Rattle.twkb_convert.specs.declared.report.Cause.TheVariants as cause

-- the status: 1 if the input is refused, 3 if the reader failed, 4 if memory was refused, 5 if the
-- output is full
abbrev pub status_of : Cause → ℕ
status_of cause.ReadDevice = 3
status_of cause.WriteDevice = 5
status_of cause.Memory = 4
status_of _ = 1

-- the numbers of the reasons for which a polyline is refused: 21 to 27
abbrev pub point_text_number_of : PolyReason → ℕ
point_text_number_of text.BadChar = 21
point_text_number_of text.Cut = 22
point_text_number_of text.TooLong = 23
point_text_number_of text.Padded = 24
point_text_number_of text.Half = 25
point_text_number_of text.Range = 26
point_text_number_of text.TooMany = 27

-- the numbers of the reasons for which an id, a precision or points are refused: 8 to 16, with the
-- polyline's number in place of 15
abbrev pub value_number_of : RowReason → ℕ
value_number_of row.BadId = 8
value_number_of row.IdNotAllowed = 9
value_number_of row.MixedIds = 10
value_number_of row.BadPrecision = 11
value_number_of row.PrecisionMissing = 12
value_number_of row.PrecisionNotAllowed = 13
value_number_of row.PolylineNotAllowed = 14
value_number_of (row.Polyline offset why) = point_text_number_of why
value_number_of row.PointCount = 16
value_number_of reason = 0

-- the numbers of the reasons for which a record is refused: 1 to 7 for its form or its place, and
-- others for a value in it
abbrev pub row_number_of : RowReason → ℕ
row_number_of row.BadHeader = 1
row_number_of row.FieldCount = 2
row_number_of row.BadDepth = 3
row_number_of row.BadKind = 4
row_number_of row.BadPlace = 5
row_number_of row.TooDeep = 6
row_number_of row.TooManyNodes = 7
row_number_of reason = value_number_of reason

-- the numbers of the reasons for which a blob is refused: 41 to 49
abbrev pub blob_number_of : BlobReason → ℕ
blob_number_of blob.Truncated = 41
blob_number_of blob.BadType = 42
blob_number_of blob.ExtraDimensions = 43
blob_number_of blob.BadVarint = 44
blob_number_of blob.TooDeep = 45
blob_number_of blob.TooManyNodes = 46
blob_number_of blob.TooManyPoints = 47
blob_number_of blob.CoordinateRange = 48
blob_number_of blob.SizeMismatch = 49

-- the number of the reason for which the input is refused, and 0 if it is not
abbrev pub reason_number_of : Cause → ℕ
reason_number_of (cause.Row number reason) = row_number_of reason
reason_number_of (cause.Blob offset reason) = blob_number_of reason
reason_number_of cause.TooLong = 61
reason_number_of cause.TooManyRecords = 62
reason_number_of _ = 0

-- the number of the refused record, from 1, or the offset of the refused item; 0 if none is refused
abbrev pub place_of : Cause → ℕ
place_of (cause.Row number reason) = number
place_of (cause.Blob offset reason) = offset
place_of _ = 0

-- the offset at which the text of points of a record is refused
abbrev pub row_text_offset_of : RowReason → ℕ
row_text_offset_of (row.Polyline offset why) = offset
row_text_offset_of reason = 0

-- the offset at which a text of points is refused, and 0 if none is
abbrev pub text_offset_of : Cause → ℕ
text_offset_of (cause.Row number reason) = row_text_offset_of reason
text_offset_of _ = 0
