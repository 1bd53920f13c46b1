use Rattle.std.proofs.Common.{◌≡◌, rules}
use Rattle.std.specs.Fmt.{signed_decimal}
use Rattle.csv.specs.Writing.{fields_text, is_blank}
use Rattle.twkb_csv.proofs.TextLemmas.{root_put}
use Rattle.twkb_csv.proofs.row_text.append_root.Goals as goal

pub returns-clause-ok : goal.returns-clause-ok
unfolding fields_text is_blank
returns-clause-ok c =
    let digits : c.as_bytes.result.now ≡ signed_decimal c.args.precision = search rules in
    root_put _ _ _ _ c.args.precision c.in_ok-extend_from_slice.ensures.items
    (rw digits at c.in_ok-append_field.ensures.ok) c.in_ok-extend_from_slice-2.ensures.items
