use Rattle.std.proofs.Common.{arith, ◌++◌, ap, ◌∙◌, sym}
use Rattle.std.proofs.lemmas.Fmt.{decimal_digit}
use Rattle.twkb_geojson.proofs.coordinate.push_whole.Goals as goal

pub returns-then-number-lt10-clause-appended : goal.returns-then-number-lt10-clause-appended
returns-then-number-lt10-clause-appended c =
    c.push.ensures ∙ ap (λ l. c.args.piece.now ++ l) (sym (decimal_digit c.args.number (omega arith)))
