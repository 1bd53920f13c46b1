use Rattle.std.proofs.Common.{◌≡◌, [], FitsSigned, w8, rules, ap, sym, subst, to_z-of_z}
use Rattle.twkb_tree.specs.Tree.{IsPrecision, simple, line}
use Rattle.twkb_geojson.proofs.FlatLemmas.{has_row, lone_known, line_put}
use Rattle.twkb_geojson.proofs.flat_text.put_geojson.Goals as goal

pub returns-then-is_empty-clause-appended : goal.returns-then-is_empty-clause-appended
returns-then-is_empty-clause-appended c = λ g sound own.
    let none : c.args.form.now.flat ≡ [] = search rules in
    absurd (has_row g c.args.form.now.flat own none)

pub put_line-requires : goal.put_line-requires
put_line-requires c =
    let fits : FitsSigned w8 c.in-Some.precision = search rules in
    let known = lone_known c.args.form.now.flat c.row_at.result.0 c.row_at.result.1.now
    c.in-Some.precision c.is_empty.ensures.sound c.row_at.ensures.row c.in-Linestring.is
    c.in-Some.is in
    record { known = subst IsPrecision (sym (to_z-of_z fits)) known }

pub returns-in-Linestring-clause-appended : goal.returns-in-Linestring-clause-appended
returns-in-Linestring-clause-appended c =
    let fits : FitsSigned w8 c.in-Some.precision = search rules in
    line_put _ c.args.form.now.flat c.row_at.result.0 c.row_at.result.1.now c.in-Some.precision _
    c.args.text.now.items _ c.row_at.ensures.row c.in-Linestring.is c.in-Some.is
    (ap (λ p. simple p (line c.row_at.result.1.now)) (to_z-of_z fits)) c.put_line.ensures.appended
