use Rattle.std.proofs.Common.{◌≡◌, length, map, arith}
use Rattle.std.proofs.lemmas.List.{length-map}
use Rattle.std.proofs.lemmas.Grind.{common_steps}
use Rattle.twkb_flat.specs.KeptNodes.{placed_of}
use Rattle.twkb_flat.proofs.LinkLemmas.{nil_rows, some_rows}
use Rattle.twkb_flat.proofs.flat.Flat.is_empty.Goals as goal

pub returns-clause-value : goal.returns-clause-value
returns-clause-value c = rw (← c.self.view_is) (
    let same : length (map placed_of c.self.inside.kept.items) ≡ length c.self.inside.kept.items = length-map _ _ in
    let len = c.self.inside.kept.ok.0 in
    rw c.is_empty.ensures (
      (λ yes. nil_rows _ _ (grind (arith, common_steps))),
      (λ e. let none = some_rows _ _ e in grind (arith, common_steps)),
    ))
