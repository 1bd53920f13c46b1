use Rattle.std.proofs.Common.{◌≡◌, ◌<◌, ◌∙◌, ◌++◌, ◌∷◌, [], List, ℕ, ap, arith, false, length, sym, rules}
use Rattle.std.proofs.lemmas.Bool.Decides.{nat_tests}
use Rattle.std.proofs.lemmas.List.{nil_from_length}
use Rattle.csv.specs.Writing.{needs_quotes}
use Rattle.twkb_rest.specs.Written.{written_with}
use Rattle.twkb_rest.proofs.TextLemmas.{bare_record, empty_record}
use Rattle.twkb_rest.proofs.field_text.end_record.Goals as goal

pub returns-then-is_empty : goal.returns-then-is_empty
returns-then-is_empty c =
    let none : c.args.text.now.items ≡ [] = nil_from_length c.args.text.now.items (grind (arith, nat_tests)) in
    c.in_ok-extend_from_slice.ensures.items ∙ ap (λ (t : List ℕ). t ++ 34 ∷ 34 ∷ 10 ∷ []) none
    ∙ sym (empty_record c.args.delimiter c.args.text.now.items none)

pub returns : goal.returns
returns c =
    let some : 0 < length c.args.text.now.items = grind (arith, nat_tests) in
    let bare : needs_quotes (written_with c.args.delimiter) c.args.text.now.items ≡ false = search rules in
    c.in_ok-push.ensures.items ∙ sym (bare_record c.args.delimiter c.args.text.now.items some bare)
