use Rattle.std.proofs.Common.{arith, ◌++◌, ◌/◌, ap, ◌∙◌}
use Rattle.twkb_num.specs.Spelling.{low_digits}
use Rattle.twkb_geojson.proofs.SizeLemmas.{low_put_length}
use Rattle.twkb_geojson.proofs.near.push_hundreds.Goals as goal

pub returns-clause-appended : goal.returns-clause-appended
returns-clause-appended c =
    c.push_low.ensures
    ∙ ap (λ w. c.args.piece.now ++ low_digits 256 (c.short_decimal-word.result / 16777216) w) c.from.ensures
    ∙ ap (λ l. c.args.piece.now ++ l) c.short_decimal-word.ensures.text

pub returns-clause-most : goal.returns-clause-most
returns-clause-most c =
    omega (arith, c.short_decimal-word.ensures.few, low_put_length _ _ _ _ c.push_low.ensures)
