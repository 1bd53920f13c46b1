use Rattle.std.proofs.Common.{◌∙◌, ◌+◌, rules, FitsSigned, w8}
use Rattle.std.proofs.lemmas.Int.{to_z-of_z}
use Rattle.twkb_writer.proofs.LoneBlobLemmas.{point_put}
use Rattle.twkb_writer.proofs.point_blob.put_point.Goals as goal

pub returns : goal.returns
returns c fits =
    let precision_fits : FitsSigned w8 c.args.precision = search rules in
    let type = simp to_z-of_z at c.of.ensures.number in
    let x = rw c.origin-cursor.ensures at c.step_to-x.ensures.x in
    let y = rw c.origin-cursor.ensures at c.step_to-x.ensures.y in
    point_put c.args.style c.args.precision c.args.point _ _ _ _ _ _ _ _ fits x y
    (λ i. c.number_len.ensures.value i + c.number_len-2.ensures.value i)
    (c.byte.ensures ∙ type) c.clear.ensures c.push.ensures c.push_frame.ensures.value c.push_two_varints.ensures
