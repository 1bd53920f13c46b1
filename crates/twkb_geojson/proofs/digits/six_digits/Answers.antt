use Rattle.std.proofs.Common.{arith, ◌≡◌, ◌-◌, ◌*◌, ◌/◌, ◌%◌, ap, ◌∙◌}
use Rattle.twkb_geojson.specs.Coordinate.{digit_word}
use Rattle.twkb_geojson.proofs.DigitLemmas.{six_word, three_below}
use Rattle.twkb_geojson.proofs.digits.six_digits.Goals as goal

pub overflow_mul-result : goal.overflow_mul-result
overflow_mul-result c =
    let low = c.args.number - c.args.number / 1000 * 1000 in
    omega (arith, c.three_digits-2.ensures, three_below low (omega arith))

pub overflow_add-result : goal.overflow_add-result
overflow_add-result c =
    omega (
      arith,
      c.three_digits.ensures,
      c.three_digits-2.ensures,
      three_below (c.args.number / 1000) (omega arith),
      three_below (c.args.number - c.args.number / 1000 * 1000) (omega arith),
    )

pub returns : goal.returns
returns c =
    let low : c.args.number - c.args.number / 1000 * 1000 ≡ c.args.number % 1000 = omega arith in
    omega (
      arith,
      c.three_digits.ensures,
      c.three_digits-2.ensures ∙ ap (digit_word 3) low,
      six_word c.args.number c.requires,
    )
