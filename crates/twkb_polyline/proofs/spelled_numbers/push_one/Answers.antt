use Rattle.std.proofs.Common.{ap, arith, length}
use Rattle.twkb_polyline.proofs.TextLemmas.{few_characters}
use Rattle.twkb_polyline.proofs.spelled_numbers.push_one.Goals as goal

pub push_all-requires : goal.push_all-requires
push_all-requires c = omega (
  arith,
  ap length c.as_slice.ensures,
  ap length c.put.ensures,
  few_characters c.args.number (omega arith),
)
