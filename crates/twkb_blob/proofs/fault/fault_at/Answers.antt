use Rattle.std.proofs.Common.{rules}
use Rattle.twkb_blob.proofs.fault.fault_at.Goals as goal

pub returns-in-Refused : goal.returns-in-Refused
returns-in-Refused c = search rules
