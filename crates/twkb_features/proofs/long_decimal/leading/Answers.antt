use Rattle.std.proofs.Common.{◌++◌, arith, zero-add, length-append}
use Rattle.core.proofs.dec2flt.Rows.{one_more}
use Rattle.twkb_features.proofs.long_decimal.leading.Goals as goal

pub loop-at-preserved : goal.loop-at-preserved
loop-at-preserved c =
    let long = length-append c.args.whole.now c.args.fraction.now in
    omega (arith, rw zero-add at (one_more (c.args.whole.now ++ c.args.fraction.now) 0 c.loop-at.at (omega arith)))
