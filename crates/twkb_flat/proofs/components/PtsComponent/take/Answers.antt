use Rattle.std.proofs.Common.{◌∙◌}
use Rattle.twkb_tree.specs.Rows.{plain_row}
use Rattle.twkb_flat.proofs.BuildLemmas.{drop_more}
use Rattle.twkb_flat.proofs.components.PtsComponent.take.Goals as goal

pub returns : goal.returns
returns c = λ kind d id component rest it.
    let own = c.own_points.ensures.points (plain_row d kind id component) rest it.here in (
      c.from_vec.ensures ∙ c.in_ok-points.ensures.items
          ∙ own,
      drop_more c.args.flat.now c.args.at (plain_row d kind id component) rest it.here,
    )
