use Rattle.std.proofs.Common.{refl}
use Rattle.twkb_tree.proofs.laws.refused_tables.Goals as goal

pub returns : goal.returns
returns c = record {
  ids_on_some = refl;
  no_level = refl;
  nine_levels = (refl, refl, refl);
  two_nodes = refl;
  one_point = refl;
  precisions = (refl, refl);
  first_rows = (refl, refl, refl, refl, refl, refl, refl);
}
