-- The rows so far and their points are written at the start of the arrays.
use Rattle.twkb_arrays.proofs.ArrayLemmas.{IsWritten}
use Rattle.twkb_arrays.proofs.copied_form.put_form.Given as goal

abbrev pub invariant-loop-at : goal.invariant-loop-at
invariant-loop-at l = IsWritten l.form.flat l.at l.first l.rows l.points
