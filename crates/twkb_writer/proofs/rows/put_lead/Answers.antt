use Rattle.std.proofs.Common.{◌∙◌, ap, rules, w8, List, get_or}
use Rattle.std.proofs.lemmas.Int.{to_z-of_z}
use Rattle.twkb_writer.proofs.PutLemmas.{put_join}
use Rattle.twkb_writer.proofs.BelowLemmas.{own_at, room_here}
use mir.Val.{SFits}
use Rattle.twkb_writer.specs.declared.sizes.Entry.{Entry}
use Rattle.twkb_writer.proofs.rows.put_lead.Goals as goal

pub returns-in-Some-clause-put : goal.returns-in-Some-clause-put
returns-in-Some-clause-put g c =
    let here = room_here _ _ c.args.entry _ c.in-Some.is c.requires.room in
    let fits : SFits w8 c.in-Some.precision = search rules in
    let first = simp to_z-of_z at c.put_header.ensures in
    rw (own_at c.args.job.now.style _ _ c.args.job.now.sizes.now c.args.entry c.index.result.now
    c.args.at.now.node.row.kind c.args.at.now.node.row.depth c.args.at.now.node.points _
    c.in-Some.is here (c.index.ensures ∙ ap (λ (es : List Entry).
    get_or es c.args.entry c.index.result.now) c.sizes.view_is))
    (put_join first c.put_own.ensures.put)
