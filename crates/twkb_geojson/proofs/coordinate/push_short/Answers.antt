use Rattle.std.proofs.Common.{arith, ◌+◌, ◌*◌, ◌%◌, ap, ◌∙◌, ◌++◌}
use Rattle.twkb_num.specs.Spelling.{low_digits}
use Rattle.twkb_geojson.specs.Coordinate.{digit_word}
use Rattle.twkb_geojson.proofs.DigitLemmas.{two_below}
use Rattle.twkb_geojson.proofs.SizeLemmas.{two_put, three_put}
use Rattle.twkb_geojson.proofs.coordinate.push_short.Goals as goal

pub overflow_add-two_digits : goal.overflow_add-two_digits
overflow_add-two_digits c = omega (arith, c.two_digits.ensures, two_below c.args.number (omega arith))

pub overflow_mul-word : goal.overflow_mul-word
overflow_mul-word c =
    omega (arith, c.two_digits-else-number-lt100.ensures, two_below (c.args.number % 100) (omega arith))

pub overflow_add-word : goal.overflow_add-word
overflow_add-word c =
    omega (arith, c.from.ensures, c.two_digits-else-number-lt100.ensures, two_below (c.args.number % 100) (omega arith))

pub overflow_add-word-else-number-lt100 : goal.overflow_add-word-else-number-lt100
overflow_add-word-else-number-lt100 c =
    omega (arith, c.from.ensures, c.two_digits-else-number-lt100.ensures, two_below (c.args.number % 100) (omega arith))

pub returns-then-number-lt100-clause-appended : goal.returns-then-number-lt100-clause-appended
returns-then-number-lt100-clause-appended c =
    two_put c.args.number _ _ c.requires.least (omega arith)
    (c.push_low.ensures ∙ ap (λ w. c.args.piece.now ++ low_digits 256 2 (w + 3472328296227680304)) c.two_digits.ensures)

pub returns-else-number-lt100-clause-appended : goal.returns-else-number-lt100-clause-appended
returns-else-number-lt100-clause-appended c =
    three_put c.args.number _ _ (omega arith) c.requires.most
    (c.push_low-else-number-lt100.ensures
    ∙ ap (λ w. c.args.piece.now ++ low_digits 256 3 (c.from.result + w * 256 + 3472328296227680304))
    c.two_digits-else-number-lt100.ensures
    ∙ ap (λ h. c.args.piece.now ++ low_digits 256 3 (h + digit_word 2 (c.args.number % 100) * 256
    + 3472328296227680304)) c.from.ensures)
