use Rattle.std.proofs.Common.{arith, ◌%◌}
use Rattle.twkb_geojson.proofs.DigitLemmas.{four_word, four_below, two_below}
use Rattle.twkb_geojson.proofs.digits.four_digits.Goals as goal

pub overflow_mul-result : goal.overflow_mul-result
overflow_mul-result c =
    let n = c.args.number in
    omega (arith, c.two_digits-2.ensures, two_below (n % 100) (omega arith))

pub overflow_add-result : goal.overflow_add-result
overflow_add-result c =
    let n = c.args.number in
    omega (arith, c.two_digits.ensures, c.two_digits-2.ensures, four_below n c.requires)

pub returns-clause-digits : goal.returns-clause-digits
returns-clause-digits c =
    omega (arith, c.two_digits.ensures, c.two_digits-2.ensures, four_word c.args.number c.requires)

pub returns-clause-fits : goal.returns-clause-fits
returns-clause-fits c =
    omega (arith, c.two_digits.ensures, c.two_digits-2.ensures, four_below c.args.number c.requires)
