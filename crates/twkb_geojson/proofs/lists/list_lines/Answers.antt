use Rattle.std.proofs.Common.{FitsSigned, w8, ◌∙◌, ap, ◌++◌}
use Rattle.std.proofs.Common.{to_z-of_z as whole_again}
use Rattle.std.proofs.lemmas.Int.{to_z-of_z}
use Rattle.twkb_geojson.specs.Value.{text_of, positions}
use Rattle.twkb_geojson.proofs.PrintLemmas.{grows_more}
use Rattle.twkb_geojson.proofs.ListLemmas.{has_listed_none, has_listed_more, has_listed_all}
use Rattle.twkb_geojson.proofs.lists.list_lines.Goals as goal

pub loop-line-init : goal.loop-line-init
loop-line-init c = has_listed_none _ _ _

pub loop-line-preserved : goal.loop-line-preserved
loop-line-preserved c =
    let fits : FitsSigned w8 c.args.precision = c.ranges.precision in
    let so_far = simp to_z-of_z at c.loop-line.invariant in
    let put = c.in_ok-put_positions.ensures.appended
    ∙ ap (λ p. c.put_comma.new.text.items ++ text_of (positions p c.as_slice.result.now))
    (whole_again c.ranges.precision) in
    simp to_z-of_z (has_listed_more (positions c.args.precision) c.args.lines.now c.loop-line.line-index
    c.loop-line.index c.line-item.result _ _ _ _ so_far c.loop-line-test.true c.line-item.is
    c.in_ok-put_comma.ensures.appended
    (put ∙ ap (λ ps. c.put_comma.new.text.items ++ text_of (positions c.args.precision ps)) c.as_slice.ensures.items))

pub returns-clause-appended : goal.returns-clause-appended
returns-clause-appended c =
    let fits : FitsSigned w8 c.args.precision = c.ranges.precision in
    let so_far = simp to_z-of_z at c.loop-line.invariant in
    has_listed_all (positions c.args.precision) c.args.lines.now _ _ _ _ so_far c.loop-line-test.false

pub returns-in_err-put_positions-clause-grown : goal.returns-in_err-put_positions-clause-grown
returns-in_err-put_positions-clause-grown c =
    grows_more _ _ _ (grows_more _ _ _ c.loop-line.invariant.grown c.in_ok-put_comma.ensures.grown)
    c.in_err-put_positions.ensures.grown
