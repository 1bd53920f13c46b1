use Rattle.std.proofs.Common.{Some, ap, ◌∙◌, rules}
use Rattle.twkb_points.specs.Extent.{joined}
use Rattle.twkb_points.proofs.PointLemmas.{extent-append_some}
use Rattle.twkb_points.proofs.bounds.Bounds.merge.Goals as goal

pub returns-clause-stands : goal.returns-clause-stands
unfolding joined
returns-clause-stands c = λ ps qs h k. extent-append_some ps qs _ _ h k ∙ ap Some (search rules)
