-- Why a reader stops.
use Rattle.std.specs.Prelude.{Option, Some, None}
use Rattle.twkb_flat.specs.declared.stop.Stop.{Stop as StopOf}
use Rattle.twkb_grammar.specs.Fault as fault
use Rattle.twkb_engine.specs.declared.blob_reason.BlobReason.{BlobReason}
use Rattle.twkb_engine.specs.declared.blob_reason.BlobReason.TheVariants as reason

-- why an item is not taken: want of memory, or a reason
abbrev pub Stop : Type 0
Stop = StopOf BlobReason

-- the grammar's reason
abbrev pub reason_of : BlobReason → fault.Reason
reason_of reason.Truncated = fault.Truncated
reason_of reason.BadType = fault.BadType
reason_of reason.ExtraDimensions = fault.ExtraDimensions
reason_of reason.BadVarint = fault.BadVarint
reason_of reason.TooDeep = fault.TooDeep
reason_of reason.TooManyNodes = fault.TooManyNodes
reason_of reason.TooManyPoints = fault.TooManyPoints
reason_of reason.CoordinateRange = fault.CoordinateRange
reason_of reason.SizeMismatch = fault.SizeMismatch

-- the grammar's reason, if there is one
abbrev pub objection_of : Option BlobReason → Option fault.Reason
objection_of None = None
objection_of (Some r) = Some (reason_of r)
