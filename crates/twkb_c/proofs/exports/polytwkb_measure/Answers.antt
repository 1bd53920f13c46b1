use Rattle.std.proofs.Common.{◌≡◌, rules}
use Rattle.std.specs.Prelude.{Some}
use Rattle.twkb_tree.specs.Limits.{IsAllowance}
use Rattle.twkb_conversions.specs.Conversions.{conversion_at}
use Rattle.twkb_c.specs.Arguments.{IsStyleNumber, allowance_of}
use Rattle.twkb_c.proofs.ExportLemmas.{called}
use Rattle.twkb_c.proofs.exports.polytwkb_measure.Goals as goal

pub returns-in-Some : goal.returns-in-Some
returns-in-Some c =
    let accepted : IsAllowance (allowance_of c.args.limits) = search rules in
    let value : c.in-Some-Some.limits ≡ allowance_of c.args.limits = search rules in
    let style : IsStyleNumber c.in-Some-Some.style c.args.style = search rules in
    let found : Some c.in-Some.what ≡ conversion_at c.in-Some-Some.style c.args.conversion = search rules in
    record {
      measures = called _ c.in-Some.what c.args.limits _ _ c.args.conversion c.args.style _ accepted value style found
          c.measure.ensures;
    }
