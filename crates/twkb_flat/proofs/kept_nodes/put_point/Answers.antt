use Rattle.std.proofs.Common.{[], ◌∷◌, ◌∙◌}
use Rattle.twkb_flat.proofs.PushLemmas.{cut_back}
use Rattle.twkb_flat.proofs.kept_nodes.put_point.Goals as goal

pub returns-in_default-push-clause-no_point : goal.returns-in_default-push-clause-no_point
returns-in_default-push-clause-no_point c =
    cut_back c.args.points.now.items (c.args.point ∷ []) c.put.new.self.items
    c.truncate.new.self.items c.len-before.result (c.len-before.ensures
    ∙ c.args.points.now.ok.0) c.in_default.ensures.appended c.truncate.ensures.items
