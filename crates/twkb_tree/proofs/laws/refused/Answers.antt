use Rattle.std.specs.Prelude.{reverse}
use Rattle.twkb_tree.proofs.LimitLaws.{refused_begins_none}
use Rattle.twkb_tree.proofs.OpenLaws.{accepts_unrefused, accepted_unrefused}
use Rattle.twkb_tree.proofs.laws.refused.Goals as goal

pub returns : goal.returns
returns c = record {
  reasons = λ l rs r. (accepts_unrefused l (reverse rs) r, accepted_unrefused l (reverse rs) r);
  dead = refused_begins_none;
}
