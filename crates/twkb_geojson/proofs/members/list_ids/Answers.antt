use Rattle.std.proofs.Common.{FitsSigned, w64, rules, ◌∙◌, ◌++◌, ap, get_or, pos, to_z-of_z}
use Rattle.twkb_geojson.specs.Value.{id_value, text_of}
use Rattle.twkb_geojson.proofs.PrintLemmas.{grows_more}
use Rattle.twkb_geojson.proofs.ListLemmas.{has_listed_none, has_listed_more, has_listed_all, read_again}
use Rattle.twkb_geojson.proofs.members.list_ids.Goals as goal

pub loop-id-init : goal.loop-id-init
loop-id-init c = has_listed_none _ _ _

pub loop-id-preserved : goal.loop-id-preserved
loop-id-preserved c =
    let fits : FitsSigned w64 (get_or c.args.ids.now c.loop-id.id-index (pos 0)) = search rules in
    has_listed_more id_value c.args.ids.now c.loop-id.id-index c.loop-id.index
    (get_or c.args.ids.now c.loop-id.id-index (pos 0)) _ _ _ _ c.loop-id.invariant c.loop-id-test.true
    (read_again c.args.ids.now c.loop-id.id-index (pos 0) c.loop-id-test.true)
    c.in_ok-put_comma.ensures.appended
    (c.in_ok-put_id.ensures.appended
    ∙ ap (λ k. c.put_comma.new.text.items ++ text_of (id_value k)) (to_z-of_z fits))

pub returns-clause-appended : goal.returns-clause-appended
returns-clause-appended c = has_listed_all _ _ _ _ _ _ c.loop-id.invariant c.loop-id-test.false

pub returns-in_err-put_id-clause-grown : goal.returns-in_err-put_id-clause-grown
returns-in_err-put_id-clause-grown c =
    grows_more _ _ _ (grows_more _ _ _ c.loop-id.invariant.grown c.in_ok-put_comma.ensures.grown)
    c.in_err-put_id.ensures.grown
