use Rattle.std.proofs.Common.{List, ℕ, sym, subst}
use Rattle.twkb_flat.specs.Rows.{Linked}
use Rattle.twkb_flat.specs.KeptNodes.{depths_in}
use Rattle.twkb_flat.proofs.LinkLemmas.{read_linked}
use Rattle.twkb_flat.proofs.kept_nodes.link_last.Goals as goal

pub returns-clause-links : goal.returns-clause-links
returns-clause-links c =
    subst (λ (ls : List ℕ). Linked (depths_in c.args.kept.now) ls) (sym c.link-2.ensures.links)
    (read_linked c.args.kept.now c.close_from-parent.new.kept c.args.at
    c.close_from-parent.result _ c.requires c.if-at-eq0.false c.close_from-parent.ensures.placed_rows
    c.close_from-parent.ensures.links c.close_from-parent.ensures.above)
