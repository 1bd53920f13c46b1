use Rattle.std.proofs.Common.{refl}
use Rattle.twkb_tree.proofs.laws.accepted_tables.Goals as goal

pub returns : goal.returns
returns c = record {
  two_rings = refl;
  points_with_ids = refl;
  members_with_ids = refl;
  two_precisions = refl;
  empty_line = refl;
  polygons_with_ids = refl;
  two_roots = refl;
}
