use Rattle.std.proofs.Common.{◌++◌, ◌∷◌, [], List, ◌∙◌, ap}
use Rattle.twkb_engine.specs.declared.open_collections.OpenCollection.{OpenCollection}
use Rattle.twkb_engine.proofs.open_collections.make_place.Goals as goal

pub returns-clause-place : goal.returns-clause-place
returns-clause-place c = (
  c.made_with-blank.result,
  c.push_reserved.ensures.items
      ∙ ap (λ (gs : List OpenCollection). gs ++ c.made_with-blank.result ∷ [])
      c.reserve.ensures.items,
)
