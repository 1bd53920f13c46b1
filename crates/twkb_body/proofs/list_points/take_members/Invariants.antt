use Rattle.std.proofs.Common.{◌≡◌, ◌+◌, ◌≤◌, length}
use Rattle.twkb_tree.specs.declared.limits.TheConstants.{NODES_CAP, POINTS_CAP}
use Rattle.twkb_tree.specs.Rows.{row_points}
use Rattle.twkb_flat.specs.Taking.{EndsInMember}
use Rattle.twkb_body.specs.Outline.{ids_of}
use Rattle.twkb_body.specs.Running.{MembersLead}
use Rattle.twkb_body.proofs.list_points.take_members.Given as goal

-- the bytes so far are members that were taken, and the multipoint takes those that are left
abbrev pub invariant-loop-left : goal.invariant-loop-left
invariant-loop-left l = record {
  leads : MembersLead l.initial.flat (ids_of l.initial.ids) l.depth l.initial.position l.bytes
      l.initial.left (record { used = l.used; position = l.position }) l.left (ids_of l.ids) l.flat;
  has : l.ids.has_ids ≡ l.initial.ids.has_ids;
  member : EndsInMember l.depth l.ids.has_ids l.flat;
  nodes : length l.flat + l.left ≤ NODES_CAP;
  points : length (row_points l.flat) + l.left ≤ POINTS_CAP;
}

abbrev pub decreases-loop-left : goal.decreases-loop-left
decreases-loop-left l = l.left
