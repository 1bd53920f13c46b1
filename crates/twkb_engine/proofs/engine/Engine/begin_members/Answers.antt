use Rattle.std.proofs.Common.{rules}
use Rattle.twkb_engine.proofs.Items.{collection_begun}
use Rattle.twkb_engine.proofs.engine.Engine.begin_members.Goals as goal
use Rattle.twkb_tree.specs.declared.kind.Kind.TheVariants.{Collection}
use Rattle.std.proofs.Common.{◌≡◌}

pub returns-then-eq-clause-step : goal.returns-then-eq-clause-step
returns-then-eq-clause-step c =
    let is : c.args.self.now.head.kind ≡ Collection = search rules in
    rw is (collection_begun _ _ _ c.in_ok-push.ensures.pushed)
