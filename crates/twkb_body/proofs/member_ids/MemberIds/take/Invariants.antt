use Rattle.std.proofs.Common.{◌≡◌, ◌+◌, ◌≤◌, length, take}
use Rattle.twkb_body.specs.Outline.{ids_read}
use Rattle.twkb_body.specs.Running.{IdsRun}
use Rattle.twkb_body.proofs.member_ids.MemberIds.take.Given as goal

-- the bytes so far are ids that were kept
abbrev pub invariant-loop-left : goal.invariant-loop-left
invariant-loop-left l = record {
  within : l.used ≤ length l.bytes;
  run : IdsRun (ids_read l.initial.self) l.initial.left (take l.used l.bytes) (ids_read l.self) l.left;
  all : length (ids_read l.self) + l.left ≡ length (ids_read l.initial.self) + l.initial.left;
  has : l.self.has_ids ≡ l.initial.self.has_ids;
}

abbrev pub decreases-loop-left : goal.decreases-loop-left
decreases-loop-left l = l.left
