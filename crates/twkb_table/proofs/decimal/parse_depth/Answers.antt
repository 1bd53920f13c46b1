use Rattle.std.proofs.Common.{arith}
use Rattle.twkb_table.proofs.FieldLemmas.{one_digit}
use Rattle.twkb_table.proofs.decimal.parse_depth.Goals as goal

pub returns-in-len1 : goal.returns-in-len1
returns-in-len1 c =
    let spelled = one_digit c.args.field.now c.in-len1.len_at_least c.in-len1.len_below c.if-digit-ge48.true
    c.if-digit-le57.true in
    record { reads = rw c.from.ensures (spelled.0, omega (arith, c.if-digit-le57.true)) }
