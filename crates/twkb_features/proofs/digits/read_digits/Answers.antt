use Rattle.std.proofs.Common.{◌+◌, ◌%◌, arith}
use Rattle.twkb_features.proofs.PlainLemmas.{more_read, read_fits}
use Rattle.twkb_features.proofs.digits.read_digits.Goals as goal

pub overflow_mul-value : goal.overflow_mul-value
overflow_mul-value c = omega (arith, read_fits c.loop-at.at c.loop-at.value c.loop-at.invariant.few (omega arith))

pub overflow_add-value : goal.overflow_add-value
overflow_add-value c = omega (arith, read_fits c.loop-at.at c.loop-at.value c.loop-at.invariant.few (omega arith))

pub loop-at-preserved : goal.loop-at-preserved
loop-at-preserved c =
    let byte = (c.type_inv.text c.loop-at.at).fits in
    more_read c.args.text.now c.args.from c.args.so_far c.loop-at.at c.loop-at.value
    ((c.from-digit.result + 18446744073709551568) % 18446744073709551616) c.loop-at.invariant c.loop-at-test.true
    (omega arith) (omega (arith, c.from-digit.ensures))
