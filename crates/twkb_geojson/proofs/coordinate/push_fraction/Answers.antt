use Rattle.std.proofs.Common.{arith, ◌≡◌, ◌+◌, ap, ◌∙◌, subst, ◌++◌, length, length-append}
use Rattle.twkb_num.specs.Spelling.{low_digits}
use Rattle.twkb_geojson.specs.Coordinate.{IsByteCount}
use Rattle.twkb_geojson.proofs.DigitLemmas.{eight_room, eight_some}
use Rattle.twkb_geojson.proofs.SizeLemmas.{fraction_put, low_put_length}
use Rattle.twkb_geojson.proofs.coordinate.push_fraction.Goals as goal

pub overflow_add-digits : goal.overflow_add-digits
overflow_add-digits c = omega (arith, c.eight_digits-digits.ensures, eight_room c.args.fraction c.requires.below)

pub byte_count-requires : goal.byte_count-requires
byte_count-requires c =
    omega (arith, c.eight_digits-digits.ensures, eight_some c.args.fraction c.requires.below (omega arith))

pub returns-then-fraction-ne0-clause-appended : goal.returns-then-fraction-ne0-clause-appended
returns-then-fraction-ne0-clause-appended c =
    let word = c.eight_digits-digits.ensures in
    fraction_put c.args.fraction c.byte_count.result _ _ _ c.requires.below (omega arith) c.push.ensures
    (subst (IsByteCount c.byte_count.result) word c.byte_count.ensures.counted)
    (c.push_low.ensures
    ∙ ap (λ w. c.push.new.self ++ low_digits 256 c.byte_count.result (w + 3472328296227680304)) word)

pub returns-then-fraction-ne0-clause-most : goal.returns-then-fraction-ne0-clause-most
returns-then-fraction-ne0-clause-most c =
    let dot : length c.push.new.self ≡ length c.args.piece.now + 1 = ap length c.push.ensures ∙ length-append _ _ in
    omega (arith, dot, c.byte_count.ensures.few, low_put_length _ _ _ _ c.push_low.ensures)
