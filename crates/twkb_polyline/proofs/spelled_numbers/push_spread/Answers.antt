use Rattle.std.proofs.Common.{◌+◌, ◌∙◌, ap, arith, length, length-append}
use Rattle.twkb_num.proofs.SpellingLemmas.{length-low_digits}
use Rattle.twkb_polyline.proofs.TextLemmas.{spelled_far}
use Rattle.twkb_polyline.proofs.spelled_numbers.push_spread.Goals as goal

pub returns-clause-appended : goal.returns-clause-appended
returns-clause-appended c =
    let count = c.group_count-count.ensures in
    rw (spelled_far c.args.number c.group_count-count.result c.args.groups count.groups count.few
    c.requires.groups) at c.push_low.ensures

pub returns-clause-most : goal.returns-clause-most
returns-clause-most c =
    let held = c.args.piece.now in
    let total = ap length c.push_low.ensures ∙ length-append held _
    ∙ ap (λ n. length held + n) (length-low_digits 256 _ _) in
    omega (arith, total, c.group_count-count.ensures.few)
