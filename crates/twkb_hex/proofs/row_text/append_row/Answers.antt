use Rattle.std.proofs.Common.{◌∙◌, sym, rules}
use Rattle.csv.specs.Records.{fields_of}
use Rattle.twkb_hex.proofs.TextLemmas.{length-replaced, row_end}
use Rattle.twkb_hex.proofs.row_text.append_row.Goals as goal

pub returns : goal.returns
returns c = row_end _ _ _ _ _ _ _ _ _ c.in_ok-append_fields.ensures
    (c.len.ensures ∙ sym (length-replaced c.args.place c.args.made.now (fields_of c.args.row.now)))
    (search rules) (search rules) c.shows_nothing-is_blank.ensures c.in_ok-append_end.ensures
