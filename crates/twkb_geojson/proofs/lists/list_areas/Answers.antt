use Rattle.std.proofs.Common.{FitsSigned, w8, ◌∙◌, ap, ◌++◌}
use Rattle.std.proofs.Common.{to_z-of_z as whole_again}
use Rattle.std.proofs.lemmas.Int.{to_z-of_z}
use Rattle.twkb_geojson.specs.Value.{text_of, lists}
use Rattle.twkb_geojson.proofs.PrintLemmas.{grows_more}
use Rattle.twkb_geojson.proofs.ListLemmas.{has_listed_none, has_listed_more, has_listed_all}
use Rattle.twkb_geojson.proofs.lists.list_areas.Goals as goal

pub loop-rings-init : goal.loop-rings-init
loop-rings-init c = has_listed_none _ _ _

pub loop-rings-preserved : goal.loop-rings-preserved
loop-rings-preserved c =
    let fits : FitsSigned w8 c.args.precision = c.ranges.precision in
    let so_far = simp to_z-of_z at c.loop-rings.invariant in
    let put = c.in_ok-put_lists.ensures.appended
    ∙ ap (λ p. c.put_comma.new.text.items ++ text_of (lists p c.as_slice.result.now))
    (whole_again c.ranges.precision) in
    simp to_z-of_z (has_listed_more (lists c.args.precision) c.args.areas.now c.loop-rings.rings-index
    c.loop-rings.index c.rings-item.result _ _ _ _ so_far c.loop-rings-test.true c.rings-item.is
    c.in_ok-put_comma.ensures.appended
    (put ∙ ap (λ ps. c.put_comma.new.text.items ++ text_of (lists c.args.precision ps)) c.as_slice.ensures.items))

pub returns-clause-appended : goal.returns-clause-appended
returns-clause-appended c =
    let fits : FitsSigned w8 c.args.precision = c.ranges.precision in
    let so_far = simp to_z-of_z at c.loop-rings.invariant in
    has_listed_all (lists c.args.precision) c.args.areas.now _ _ _ _ so_far c.loop-rings-test.false

pub returns-in_err-put_lists-clause-grown : goal.returns-in_err-put_lists-clause-grown
returns-in_err-put_lists-clause-grown c =
    grows_more _ _ _ (grows_more _ _ _ c.loop-rings.invariant.grown c.in_ok-put_comma.ensures.grown)
    c.in_err-put_lists.ensures.grown
