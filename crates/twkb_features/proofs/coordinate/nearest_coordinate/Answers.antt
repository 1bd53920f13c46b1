use Rattle.std.proofs.Common.{subst, w8}
use Rattle.std.proofs.lemmas.Int.{to_z-of_z}
use Rattle.twkb_features.specs.Decimal.{IsNearest, above, below, numeral_of}
use Rattle.twkb_features.proofs.SignLemmas.{units_found}
use Rattle.twkb_features.proofs.coordinate.nearest_coordinate.Goals as goal

pub returns : goal.returns
returns c =
    units_found c.args.precision c.args.text.now c.in_ok-size.size c.with_sign.result
    (subst (λ z. IsNearest (above z (numeral_of c.args.text.now))
    (below z (numeral_of c.args.text.now)) c.in_ok-size.size)
    (to_z-of_z w8 c.args.precision c.ranges.precision) (rw c.without_minus.ensures at c.in_ok-size.ensures))
    (rw c.has_minus.ensures at c.with_sign.ensures)
