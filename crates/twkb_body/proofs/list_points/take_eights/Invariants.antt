use Rattle.std.proofs.Common.{drop}
use Rattle.twkb_num.specs.Block.{AreEnds}
use Rattle.twkb_body.specs.Running.{ListGoesOn}
use Rattle.twkb_body.proofs.list_points.take_eights.Given as goal

-- the bytes so far are points that were taken, the row takes those that are left, and the ends are
-- those of the bytes that are left
abbrev pub invariant-loop-left : goal.invariant-loop-left
invariant-loop-left l = record {
  so_far : ListGoesOn l.initial.flat l.initial.position l.bytes l.initial.left
      (record { used = l.used; position = l.position }) l.left l.flat;
  ends : AreEnds 0 128 (drop l.used l.bytes) l.ends;
}

abbrev pub decreases-loop-left : goal.decreases-loop-left
decreases-loop-left l = l.left
