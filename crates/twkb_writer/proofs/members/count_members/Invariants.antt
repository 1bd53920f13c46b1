use Rattle.std.proofs.Common.{◌≡◌, ◌+◌, ◌-◌, ◌≤◌, length, drop}
use Rattle.twkb_writer.specs.Bytes.{members_below}
use Rattle.twkb_writer.specs.Nodes.{Reads}
use Rattle.twkb_writer.proofs.BelowLemmas.{At}
use Rattle.twkb_writer.proofs.members.count_members.Given as goal

abbrev pub invariant-loop-child : goal.invariant-loop-child
invariant-loop-child l =
    let d = l.at.node.row.depth in
    record {
      after : l.fn.at.id.0 + 1 ≤ l.child;
      at : At l.flat d l.at.node.next.0 l.child;
      small : l.count ≤ l.child;
      total : l.count + length (members_below d (drop l.child l.flat)) ≡ length
          (members_below d (drop (l.fn.at.id.0 + 1) l.flat));
      reads : Reads l.fn.work l.count 0 l.work;
    }

abbrev pub decreases-loop-child : goal.decreases-loop-child
decreases-loop-child l = l.at.node.next.0 - l.child
