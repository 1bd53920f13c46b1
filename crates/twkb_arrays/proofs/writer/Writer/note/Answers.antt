use Rattle.twkb_arrays.proofs.WritingLemmas.{noted}
use Rattle.twkb_arrays.proofs.writer.Writer.note.Goals as goal

pub returns-clause-marks : goal.returns-clause-marks
returns-clause-marks c = λ style start start_ends in_output in_ends given later h counted.
    noted c.args.read h counted
    (λ none. rw (
      c.saturating_sub.ensures,
      c.saturating_sub-2.ensures,
      c.node_count-rows.ensures.value,
      c.point_count-points.ensures,
    ) at (c.note.ensures.first none))
    c.note.ensures.same
