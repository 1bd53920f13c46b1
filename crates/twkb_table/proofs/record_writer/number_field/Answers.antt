use Rattle.std.proofs.Common.{◌≡◌, rules, arith, sym, subst, w64, SFits}
use Rattle.std.proofs.lemmas.Int.{ints}
use Rattle.std.specs.Fmt.{signed_decimal}
use Rattle.twkb_table.specs.Text.{IsBare}
use Rattle.twkb_table.proofs.LineLemmas.{bare_signed}
use Rattle.twkb_table.proofs.record_writer.number_field.Goals as goal

pub returns-in-Some-clause-bare : goal.returns-in-Some-clause-bare
returns-in-Some-clause-bare c =
    let fits : SFits w64 c.in-Some.number = search rules in
    let spelled : c.as_bytes.result.now ≡ signed_decimal c.in-Some.number = search rules in
    subst IsBare (sym spelled) (bare_signed c.in-Some.number (grind (arith, ints, fits)))
