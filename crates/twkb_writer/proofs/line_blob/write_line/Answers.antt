use Rattle.std.proofs.Common.{◌∙◌, refl, rules, to_z-of_z}
use Rattle.twkb_writer.proofs.LoneBlobLemmas.{line_bytes, all_own, line_work}
use Rattle.twkb_writer.proofs.PutLemmas.{put_join, whole_run, cut_run}
use Rattle.twkb_writer.proofs.line_blob.write_line.Goals as goal

pub returns-in-Some-clause-err : goal.returns-in-Some-clause-err
returns-in-Some-clause-err g c =
    let ps = g.L.PointList.points c.args.list.now in
    let count = c.line_node-node.ensures.points ∙ c.count-count.ensures in
    let entry = simp (to_z-of_z, c.ranges.precision) at c.line_entry-entry.ensures.value in
    let lead = simp (to_z-of_z, c.ranges.precision) at c.put_line_lead.ensures in
    let way = rw c.origin.ensures at c.put_points.ensures.put in
    λ fits. cut_run g.S.Sink.took g.S.Sink.refused _ _ _ _ _ _ _ _ (g.met.S.Sink.takes_nothing _) refl
    c.clear.ensures (put_join lead way)
    c.flush.ensures.put (search rules) c.in-Some.is (search rules)
    (line_bytes c.args.style c.args.precision ps _ c.line_node-node.result.points c.line_entry-entry.result fits
    count (all_own ps _ _ c.line_node-node.ensures.first count) entry)

pub returns-in-Some-clause-work : goal.returns-in-Some-clause-work
returns-in-Some-clause-work g c =
    let count = c.line_node-node.ensures.points ∙ c.count-count.ensures in
    line_work _ _ _ _ _ _ c.reads_fit.ensures.nodes count
    (rw c.line_node-node.ensures.points c.count_measured.ensures)
    c.line_entry-entry.ensures.reads c.put_points.ensures.reads

pub returns-in-None-clause-ok : goal.returns-in-None-clause-ok
returns-in-None-clause-ok g c =
    let ps = g.L.PointList.points c.args.list.now in
    let count = c.line_node-node.ensures.points ∙ c.count-count.ensures in
    let entry = simp (to_z-of_z, c.ranges.precision) at c.line_entry-entry.ensures.value in
    let lead = simp (to_z-of_z, c.ranges.precision) at c.put_line_lead.ensures in
    let way = rw c.origin.ensures at c.put_points.ensures.put in
    λ fits. whole_run g.S.Sink.took g.S.Sink.refused _ _ _ _ _ _ _ (g.met.S.Sink.takes_nothing _) refl
    c.clear.ensures (put_join lead way)
    c.flush.ensures.put (search rules) c.in-None.is c.flush.ensures.empty (search rules)
    (line_bytes c.args.style c.args.precision ps _ c.line_node-node.result.points c.line_entry-entry.result fits
    count (all_own ps _ _ c.line_node-node.ensures.first count) entry)

pub returns-in-None-clause-work : goal.returns-in-None-clause-work
returns-in-None-clause-work g c =
    let count = c.line_node-node.ensures.points ∙ c.count-count.ensures in
    line_work _ _ _ _ _ _ c.reads_fit.ensures.nodes count
    (rw c.line_node-node.ensures.points c.count_measured.ensures)
    c.line_entry-entry.ensures.reads c.put_points.ensures.reads
