-- What is joined so far and the points not looked at yet decide.
use Rattle.std.proofs.Common.{drop}
use Rattle.twkb_arrays.proofs.ArrayLemmas.{Decides}
use Rattle.twkb_arrays.proofs.judged_row.are_in_range.Given as goal

abbrev pub invariant-loop-point : goal.invariant-loop-point
invariant-loop-point l = Decides l.own (drop l.point-index l.own) l.joined
