use Rattle.std.proofs.Common.{refl}
use Rattle.twkb_tree.proofs.laws.ranges_of_rows.Goals as goal

pub returns : goal.returns
returns c = record {
  precisions = (refl, refl, refl, refl);
  coordinates = (refl, refl, refl);
  ids = (refl, refl, refl, refl);
  second_root = (refl, refl, refl);
}
