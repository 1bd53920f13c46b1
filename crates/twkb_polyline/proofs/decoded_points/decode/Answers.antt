use Rattle.std.proofs.lemmas.Result.{err_from_is_err_and}
use Rattle.twkb_polyline.proofs.FaultLemmas.{behind_none, no_other_points, only_memory, only_fault, text_fault_none}
use Rattle.twkb_polyline.proofs.decoded_points.decode.Goals as goal

pub returns-in_err-decode_into-clause-each_polyline : goal.returns-in_err-decode_into-clause-each_polyline
returns-in_err-decode_into-clause-each_polyline c =
    let p = err_from_is_err_and c.from_residual.result c.from_residual.ensures.1 in
    λ ps read. rw (p.1, p.2) (only_memory c.args.text.now c.args.max ps
    c.in_err-decode_into.field-0.0 c.in_err-decode_into.ensures.refuses read)

pub returns-in_err-decode_into-clause-each_fault : goal.returns-in_err-decode_into-clause-each_fault
returns-in_err-decode_into-clause-each_fault c =
    let p = err_from_is_err_and c.from_residual.result c.from_residual.ensures.1 in
    λ offset reason fault. rw (p.1, p.2) (only_fault c.args.text.now c.args.max offset reason
    c.in_err-decode_into.field-0.0 c.in_err-decode_into.ensures.refuses fault)

pub returns-clause-each_polyline : goal.returns-clause-each_polyline
returns-clause-each_polyline c =
    let read = behind_none c.args.text.now c.args.max c.new-points.result.items
    c.decode_into.new.points.items c.new-points.ensures.items
    c.in_ok-decode_into.ensures.decodes in
    λ ps also. no_other_points c.args.text.now c.args.max ps c.decode_into.new.points.items read also

pub returns-clause-each_fault : goal.returns-clause-each_fault
returns-clause-each_fault c =
    let read = behind_none c.args.text.now c.args.max c.new-points.result.items
    c.decode_into.new.points.items c.new-points.ensures.items
    c.in_ok-decode_into.ensures.decodes in
    λ offset reason fault. text_fault_none c.args.text.now c.args.max offset reason
    c.decode_into.new.points.items fault read
