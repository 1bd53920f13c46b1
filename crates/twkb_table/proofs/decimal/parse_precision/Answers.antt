use Rattle.std.proofs.Common.{◌≡◌, ◌-◌, arith, get_or, pos, to_z, w8}
use Rattle.std.proofs.lemmas.Int.{ints, to_z_pos}
use Rattle.twkb_table.proofs.FieldLemmas.{one_digit}
use Rattle.twkb_table.proofs.decimal.parse_precision.Goals as goal

pub returns-in-len1 : goal.returns-in-len1
returns-in-len1 c =
    let spelled = one_digit c.args.field.now c.in-len1.len_at_least c.in-len1.len_below c.if-digit-ge48.true
    (omega (arith, c.if-digit-le55.true)) in
    let value : to_z w8 (get_or c.args.field.now 0 0 - 48) ≡ pos (get_or c.args.field.now 0 0 - 48) =
    to_z_pos w8 _ (omega (arith, c.if-digit-le55.true)) in
    record { reads = rw value (spelled.0, (omega (arith, ints), omega (arith, ints, c.if-digit-le55.true))) }
