-- The causes for which a rest is not joined with a stream, and the devices that failed.
use Rattle.std.specs.Prelude.{Bool, true, false, Result, Ok, Err, ℕ, ◌≡◌, ◌≢◌, List, codes}
use Rattle.twkb_io.specs.declared.output.OutFault.{OutFault}
use Rattle.twkb_convert.specs.Causes.{cause_of_output}
use Rattle.twkb_convert.specs.declared.report.Cause.TheVariants as cause
use Rattle.twkb_rest.specs.declared.fault.UnpackCause.TheVariants.{Stream}
use Rattle.twkb_rest.specs.declared.join_fault.JoinCause.{JoinCause}
use Rattle.twkb_rest.specs.declared.join_fault.JoinCause.TheVariants.{Column, RestDevice}
use Rattle.twkb_rest.specs.declared.join_fault.RestReason.{RestReason}
use Rattle.twkb_rest.specs.declared.join_fault.RestReason.TheVariants as rest

-- the text of a reason (profile)
abbrev pub rest_words : RestReason → List ℕ
rest_words rest.NoSuchColumn = codes "no such column"
rest_words rest.ColumnTwice = codes "column twice"
rest_words rest.FieldCount = codes "wrong number of fields"
rest_words rest.NoBlob = codes "no blob for the record"

-- the cause to report for a fault of an output
abbrev pub cause_of_put : OutFault → JoinCause
cause_of_put fault = Column (Stream (cause_of_output fault))

-- the answer to report, given whether the flush failed
abbrev pub after_flush : {A : Type 0} → Bool → Result A JoinCause → Result A JoinCause
after_flush true answer = Err (Column (Stream cause.WriteDevice))
after_flush false answer = answer

-- the cause to report, given whether a read of the rest failed: if one did, that, unless another device failed; if
-- none did, want of memory in its place
abbrev pub cause_after : Bool → JoinCause → JoinCause
cause_after failed (Column (Stream cause.WriteDevice)) = Column (Stream cause.WriteDevice)
cause_after failed (Column (Stream cause.ReadDevice)) = Column (Stream cause.ReadDevice)
cause_after true why = RestDevice
cause_after false RestDevice = Column (Stream cause.Memory)
cause_after false why = why

-- the answer to report, given whether a read of the rest failed
abbrev pub after_rest : {A : Type 0} → Bool → Result A JoinCause → Result A JoinCause
after_rest true (Ok done) = Err RestDevice
after_rest false (Ok done) = Ok done
after_rest failed (Err why) = Err (cause_after failed why)

-- the cause is a device's exactly if one failed: the writer goes first, then the stream, then the rest
abbrev pub IsJoinDevice : (read rest write : Bool) → JoinCause → Type 0
IsJoinDevice read rest true why = why ≡ Column (Stream cause.WriteDevice)
IsJoinDevice true rest false why = why ≡ Column (Stream cause.ReadDevice)
IsJoinDevice false true false why = why ≡ RestDevice
IsJoinDevice false false false why = (why ≢ Column (Stream cause.WriteDevice))
    × (why ≢ Column (Stream cause.ReadDevice)) × (why ≢ RestDevice)

-- whether the answer is that a write or a flush failed
abbrev pub is_failed_write : {A : Type 0} → Result A JoinCause → Bool
is_failed_write (Err (Column (Stream cause.WriteDevice))) = true
is_failed_write _ = false

-- whether the answer is that a read of the stream failed
abbrev pub is_failed_read : {A : Type 0} → Result A JoinCause → Bool
is_failed_read (Err (Column (Stream cause.ReadDevice))) = true
is_failed_read _ = false
