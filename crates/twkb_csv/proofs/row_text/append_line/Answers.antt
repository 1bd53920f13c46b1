use Rattle.std.proofs.Common.{◌≡◌, rules}
use Rattle.std.specs.Fmt.{signed_decimal}
use Rattle.twkb_csv.proofs.TextLemmas.{grows_by, line_put}
use Rattle.twkb_csv.proofs.row_text.append_line.Goals as goal

pub returns : goal.returns
returns c =
    let digits : c.as_bytes.result.now ≡ signed_decimal c.args.precision = search rules in
    let put = line_put _ _ _ _ _ _ c.args.precision c.args.polyline.now c.in_ok-extend_from_slice.ensures.items
    (rw digits at c.in_ok-append_field.ensures.ok) c.in_ok-extend_from_slice-2.ensures.items
    c.in_ok-append_field-2.ensures.ok c.in_ok-extend_from_slice-3.ensures.items in
    record { ok = put; grown = grows_by _ _ _ put }
