use Rattle.std.proofs.Common.{◌∙◌, ◌<◌, ap, take, decimal, rules}
use lib.Lanes.{zip2, Each1}
use lib.ListN.{replicate}
use Rattle.twkb_num.proofs.ZigzagLemmas.{wrapped_sub}
use Rattle.twkb_table.proofs.FieldLemmas.{digit_first, eight_read}
use Rattle.twkb_table.proofs.decimal.first_digits.Goals as goal

pub returns-then-field-lt-EIGHT-clause-spelled : goal.returns-then-field-lt-EIGHT-clause-spelled
returns-then-field-lt-EIGHT-clause-spelled c = ap decimal c.from.ensures
    ∙ digit_first c.args.field.now c.requires.some c.requires.low c.requires.high

pub returns-clause-spelled : goal.returns-clause-spelled
returns-clause-spelled c =
    let field = c.args.field.now in
    let below : Each1 (λ d. d < 10) (zip2 wrapped_sub (take 8 field) (replicate 8 48)) = search rules in
    ap decimal c.number_of_eight.ensures
    ∙ eight_read field c.if-field-lt-EIGHT.false c.type_inv.field below c.requires.low c.requires.high
