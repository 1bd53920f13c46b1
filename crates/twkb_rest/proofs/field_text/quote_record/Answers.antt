use Rattle.std.proofs.Common.{◌≡◌, ◌∙◌, ◌++◌, ◌∷◌, [], List, ℕ, ap, sym, rules}
use Rattle.csv.specs.Writing.{quoted}
use Rattle.twkb_rest.specs.Written.{written_with}
use Rattle.twkb_rest.proofs.TextLemmas.{quoted_record}
use Rattle.twkb_rest.proofs.field_text.quote_record.Goals as goal

pub returns : goal.returns
returns c =
    let whole : c.append_quoted.new.text.items ≡ quoted (written_with c.args.delimiter) c.args.text.now.items =
    search rules in
    c.in_ok-push.ensures.items ∙ ap (λ (t : List ℕ). t ++ 10 ∷ []) whole
    ∙ sym (quoted_record c.args.delimiter c.args.text.now.items c.requires)
