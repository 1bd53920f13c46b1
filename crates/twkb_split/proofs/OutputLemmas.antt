-- What an output is left like, and what that says of the devices.
use Rattle.std.proofs.Common.{◌≡◌, ℕ, List, Option, false, Err, refl}
use Rattle.std.specs.Prelude.{◌||◌}
use Rattle.twkb_io.specs.declared.output.OutFault.{OutFault}
use Rattle.twkb_io.specs.declared.output.OutFault.TheVariants as out
use Rattle.twkb_io.specs.declared.output.Output.{Output}
use Rattle.twkb_io.specs.Outputs.{Refused, Took, is_device}
use Rattle.twkb_convert.specs.declared.report.Cause.TheVariants as cause
use Rattle.twkb_column.specs.declared.fault.ColumnCause.TheVariants.{Pack}
use Rattle.twkb_split.specs.Causes.{cause_of_output, is_write, refused_at}
use Rattle.twkb_split.specs.Sending.{IsLeft, UnlessRefused}
use Rattle.twkb_split.specs.declared.causes.RecordReason.{RecordReason}
use Rattle.twkb_split.specs.declared.causes.RecordReason.TheVariants as reason
use Rattle.twkb_records.specs.declared.line.LineFault.TheVariants as line

-- no call was refused
pub left_took : {W : Type 0} {contents : W → Option (List ℕ)} {old new : Output W} {bytes : List ℕ}
    → Took contents old bytes new → IsLeft contents old bytes new false
left_took took = record { sends = took.sends; failures = took.failures; quiet = λ still. refl }

-- a call was refused
pub left_refused : {W : Type 0} {contents : W → Option (List ℕ)} {old new : Output W} {bytes : List ℕ} {f : OutFault}
    → Refused contents old bytes f new → IsLeft contents old bytes new (is_device f)
left_refused refused = record {
  sends = refused.sends;
  failures = refused.failures;
  quiet = λ fresh. absurd (cc (fresh, refused.spent));
}

-- nothing is said of an output that refused a put
pub put_refused : (f : OutFault) (Fact : Type 0) → UnlessRefused {T = Unit {0}} (Err (cause_of_output f)) Fact
put_refused out.TooLong Fact no_write no_length = absurd (no_length refl)
put_refused out.Spent Fact no_write no_length = absurd (no_length refl)
put_refused out.Write Fact no_write no_length = absurd (no_write refl)
put_refused out.Stuck Fact no_write no_length = absurd (no_write refl)

-- an output that refused a put is no read that failed
pub no_read : (f : OutFault) (Fact : Type 0) → cause_of_output f ≡ Pack cause.ReadDevice → Fact
no_read out.TooLong Fact is = cc is
no_read out.Spent Fact is = cc is
no_read out.Write Fact is = cc is
no_read out.Stuck Fact is = cc is

-- whether the rest failed, if the blobs did not
pub rest_tells : (f : OutFault) → is_write {A = Unit {0}} (Err (cause_of_output f)) ≡ (is_device f || false)
rest_tells out.TooLong = refl
rest_tells out.Spent = refl
rest_tells out.Write = refl
rest_tells out.Stuck = refl

-- whether the blobs failed, if the rest did not
pub blobs_tell : (f : OutFault) → is_write {A = Unit {0}} (Err (cause_of_output f)) ≡ (false || is_device f)
blobs_tell out.TooLong = refl
blobs_tell out.Spent = refl
blobs_tell out.Write = refl
blobs_tell out.Stuck = refl

-- a refusal is no failed write
pub refusal_tells : (number : ℕ) (because : RecordReason)
    → is_write {A = Unit {0}} (Err (refused_at number because)) ≡ false
refusal_tells number (reason.Csv why) = refl
refusal_tells number (reason.Line line.BadPrecision) = refl
refusal_tells number (reason.Line (line.Polyline offset why)) = refl
