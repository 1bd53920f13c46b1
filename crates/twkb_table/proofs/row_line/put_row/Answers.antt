use Rattle.std.proofs.Common.{◌≡◌, ◌++◌, rules, sym, subst}
use Rattle.twkb_polyline.specs.Polyline.{polyline}
use Rattle.twkb_table.specs.Text.{row_lines}
use Rattle.twkb_table.proofs.LineLemmas.{fields_put, just_one, line_put}
use Rattle.twkb_table.proofs.row_line.put_row.Goals as goal

pub returns-clause-appended : goal.returns-clause-appended
unfolding row_lines
returns-clause-appended c = fields_put _ _ _ _ _ _ _ _ _ _ _ _ c.push_head.ensures.gathered
    c.as_slice-2.ensures c.in_ok-extend_from_slice.ensures.items
    c.in_ok-encode_into.ensures.appended (search rules)

pub returns-in-len1-clause-appended : goal.returns-in-len1-clause-appended
unfolding row_lines
returns-in-len1-clause-appended c =
    let one = just_one c.args.points.now c.point-item.result c.in-len1.len_at_least
    c.in-len1.len_below c.point-item.is in
    let spelled = subst (λ points. c.encode_point.new.piece ≡ c.push_head.new.head
    ++ polyline points) (sym one) c.encode_point.ensures.appended in
    line_put _ _ _ _ _ _ _ _ _ _ _ _ c.push_head.ensures.gathered spelled c.push.ensures
    c.as_slice.ensures (search rules)
