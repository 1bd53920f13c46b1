use Rattle.twkb_csv.proofs.TextLemmas.{member_put}
use Rattle.twkb_csv.proofs.row_text.append_member.Goals as goal

pub returns-clause-ok : goal.returns-clause-ok
returns-clause-ok c = member_put _ _ _ _ _ _ c.args.id.now c.args.polyline.now c.in_ok-extend_from_slice.ensures.items
    c.in_ok-append_field.ensures.ok c.in_ok-extend_from_slice-2.ensures.items c.in_ok-append_field-2.ensures.ok
    c.in_ok-extend_from_slice-3.ensures.items
