use Rattle.std.proofs.Common.{sym, ap, subst, ◌∙◌, length, List}
use Rattle.std.specs.Prelude.{◌↔◌, IsTrue}
use Rattle.twkb_tree.specs.declared.limits.TheConstants.{POINTS_CAP}
use Rattle.twkb_tree.specs.Rows.{row_points}
use Rattle.twkb_flat.specs.declared.kept_nodes.KeptNode.{KeptNode}
use Rattle.twkb_flat.specs.KeptNodes.{LastIsLine}
use Rattle.twkb_flat.proofs.LastPoint.{both, neither}
use Rattle.twkb_flat.proofs.LinkLemmas.{flat_points}
use Rattle.twkb_flat.proofs.flat.Flat.takes_point.Goals as goal

pub returns-then-not-ends_in_line : goal.returns-then-not-ends_in_line
returns-then-not-ends_in_line c =
    let same = subst (λ (es : List KeptNode). IsTrue c.ends_in_line.result ↔ LastIsLine es)
    c.deref.ensures.value c.ends_in_line.ensures in
    neither c.ends_in_line.result POINTS_CAP c.self.inside.kept.items c.self.inside.points.items
    c.args.self.now c.self.view_is same c.if-not-ends_in_line.true

pub returns : goal.returns
returns c =
    let same = subst (λ (es : List KeptNode). IsTrue c.ends_in_line.result ↔ LastIsLine es)
    c.deref.ensures.value c.ends_in_line.ensures in
    let total = c.len.ensures ∙ c.self.inside.points.ok.0
    ∙ sym (ap length (flat_points _ _ c.self.invariant.laid))
    ∙ ap (λ rs. length (row_points rs)) c.self.view_is in
    both c.ends_in_line.result c.len.result POINTS_CAP c.self.inside.kept.items
    c.self.inside.points.items c.args.self.now c.self.view_is total same
    c.if-not-ends_in_line.false
