use Rattle.std.proofs.Common.{arith}
use Rattle.twkb_flat.proofs.LastPoint.{last_is, last_of}
use Rattle.twkb_flat.proofs.kept_nodes.ends_in_line.Goals as goal

pub returns : goal.returns
returns c = let (forth, back) = c.is_line.ensures in (
  (λ yes. last_is c.args.kept.now _ _ (omega arith) (forth yes)),
  (λ h. back (last_of c.args.kept.now _ _ (omega arith) h)),
)
