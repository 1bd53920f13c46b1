use Rattle.std.proofs.Common.{◌≡◌, ◌<◌, length, rules}
use Rattle.twkb_polyline.proofs.TextLemmas.{one_of_none, one_with_more, one_refused}
use Rattle.twkb_polyline.proofs.decoded_points.one_by_one.Goals as goal

pub returns-then-is_empty-clause-no_other : goal.returns-then-is_empty-clause-no_other
returns-then-is_empty-clause-no_other c =
    let none : length c.args.text.now ≡ 0 = search rules in
    one_of_none c.args.text.now none

pub returns-in_default-clause-no_other : goal.returns-in_default-clause-no_other
returns-in_default-clause-no_other c =
    let some : 0 < length c.args.text.now = search rules in
    one_refused c.args.text.now c.in_default.field-0 some (rw c.origin-cursor.ensures at c.in_default.ensures.refused)

pub returns-then-end-text-clause-no_other : goal.returns-then-end-text-clause-no_other
returns-then-end-text-clause-no_other c = one_with_more
    (rw c.origin-cursor.ensures at c.in-Ok.ensures.read) c.in-Ok.ensures.in_range c.if-end-text.true
