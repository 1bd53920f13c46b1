use Rattle.std.proofs.Common.{◌∙◌, sym, ap, length}
use Rattle.twkb_flat.proofs.LinkLemmas.{flat_points}
use Rattle.twkb_flat.proofs.flat.Flat.point_count.Goals as goal

pub returns : goal.returns
returns c = rw (← c.self.view_is) (c.len.ensures ∙ c.self.inside.points.ok.0
    ∙ sym (ap length (flat_points _ _ c.self.invariant.laid)))
