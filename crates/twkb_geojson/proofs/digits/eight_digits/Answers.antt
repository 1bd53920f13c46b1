use Rattle.std.proofs.Common.{arith}
use Rattle.twkb_geojson.proofs.DigitLemmas.{eight_word}
use Rattle.twkb_geojson.proofs.digits.eight_digits.Goals as goal

pub returns : goal.returns
returns c = omega (arith, c.four_digits.ensures, c.four_digits-2.ensures, eight_word c.args.number c.requires)
