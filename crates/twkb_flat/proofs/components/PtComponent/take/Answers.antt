use Rattle.std.proofs.Common.{◌∙◌, [], ◌∷◌, get_or, ap}
use Rattle.twkb_tree.specs.Rows.{plain_row}
use Rattle.twkb_flat.proofs.BuildLemmas.{drop_more}
use Rattle.twkb_flat.proofs.components.PtComponent.take.Goals as goal

pub returns : goal.returns
returns c = λ kind d id component rest it.
    let own = c.own_points.ensures.points (plain_row d kind id (component ∷ [])) rest it.here in (
      c.index-own_points-0.is ∙ ap (λ ps. get_or ps 0 c.index-own_points-0.result) own,
      drop_more c.args.flat.now c.args.at (plain_row d kind id (component ∷ [])) rest it.here,
    )
