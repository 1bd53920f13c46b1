use Rattle.std.specs.Bool.{one_answer}
use Rattle.twkb_tree.specs.TreeCode.{tree_eq, tree_eq_decides}
use Rattle.twkb_tree.proofs.equality.GeometryPartialEq.eq.Goals as goal

pub returns-clause-test : goal.returns-clause-test
returns-clause-test c = one_answer c.same.result (tree_eq c.args.self.now c.args.other.now)
    c.same.ensures (tree_eq_decides c.args.self.now c.args.other.now)
