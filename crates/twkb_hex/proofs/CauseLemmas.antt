-- The texts of reasons and causes are short.
use Rattle.std.proofs.Common.{◌≤◌, arith, length}
use Rattle.twkb_polyline.proofs.TextLemmas.{short_point_text}
use Rattle.twkb_engine.proofs.Parts.{short_blob}
use Rattle.twkb_hex.specs.Causes.{cause_words, reason_words}
use Rattle.twkb_hex.specs.declared.report.HexCause.{HexCause}
use Rattle.twkb_hex.specs.declared.report.HexCause.TheVariants as cause
use Rattle.twkb_hex.specs.declared.report.HexReason.{HexReason}
use Rattle.twkb_hex.specs.declared.report.HexReason.TheVariants as reason

pub short_reason : (why : HexReason) → length (reason_words why) ≤ 31
short_reason reason.NoColumn = omega arith
short_reason reason.ColumnTwice = omega arith
short_reason reason.FieldCount = omega arith
short_reason reason.MissingValue = omega arith
short_reason reason.BadPrecision = omega arith
short_reason (reason.Polyline offset why) = short_point_text why
short_reason (reason.NoDigits byte) = omega arith
short_reason (reason.OddDigits byte) = omega arith
short_reason (reason.Blob offset why) = short_blob why
short_reason reason.NoLinestring = omega arith
short_reason (reason.MoreBlobs byte) = omega arith

pub short_cause : (why : HexCause) → length (cause_words why) ≤ 31
short_cause (cause.Record number why) = short_reason why
short_cause cause.ReadDevice = omega arith
short_cause cause.WriteDevice = omega arith
short_cause cause.Memory = omega arith
short_cause cause.TooLong = omega arith
