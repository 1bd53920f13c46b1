use Rattle.std.proofs.Common.{refl}
use Rattle.twkb_polyline.proofs.TextLemmas.{group_count, few_groups}
use Rattle.twkb_polyline.proofs.spelled_numbers.group_count.Goals as goal

pub returns-clause-groups : goal.returns-clause-groups
returns-clause-groups c = group_count c.args.number _ c.requires refl

pub returns-clause-few : goal.returns-clause-few
returns-clause-few c = few_groups c.args.number _ c.requires (group_count c.args.number _ c.requires refl)
