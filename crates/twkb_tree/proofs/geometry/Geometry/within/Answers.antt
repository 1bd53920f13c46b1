use Rattle.std.proofs.Common.{rules, arith, ◌≤◌, length}
use Rattle.std.proofs.lemmas.Bool.Decides.{nat_tests}
use Rattle.twkb_tree.specs.Tree.{nest, nodes, flat}
use Rattle.twkb_tree.specs.Limits.{IsValid}
use Rattle.twkb_tree.proofs.InRange.{valid_within}
use Rattle.twkb_tree.proofs.geometry.Geometry.within.Goals as goal
use Rattle.twkb_tree.proofs.geometry.Geometry.within.Goals.{then-nest-from, else-nest-from}

pub returns-then-count_nodes-from : goal.returns-then-count_nodes-from
returns-then-count_nodes-from c = elim c.if-nest-from.branch [
  | then-nest-from w ↦
      let few_levels : nest c.args.self.now ≤ c.args.limits.now.nest = search rules in
      let few_nodes : nodes c.args.self.now ≤ c.args.limits.now.nodes = grind (arith, nat_tests) in (
        λ few_points. valid_within c.args.limits.now c.args.self.now c.precision-learnt.ensures.sound
            c.precision-learnt.ensures.in_range few_levels few_nodes (search rules),
        λ (valid : IsValid c.args.limits.now c.args.self.now). let few_points : length
            (flat c.args.self.now) ≤ c.args.limits.now.points = valid.points_kept in search rules,
      )
  | else-nest-from w ↦ absurd (grind (arith, nat_tests, w.if-nest-from.false))
]

pub returns-else-count_nodes-from : goal.returns-else-count_nodes-from
returns-else-count_nodes-from c = search rules
