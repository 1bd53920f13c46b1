use Rattle.std.proofs.Common.{◌≡◌, ℕ, ◌+◌, ◌-◌, ◌≤◌, length, drop}
use Rattle.twkb_writer.specs.Bytes.{members_below, ids_bytes, Progress}
use Rattle.twkb_writer.specs.Nodes.{Reads}
use Rattle.twkb_writer.proofs.BelowLemmas.{At}
use Rattle.twkb_writer.proofs.members.put_ids.Given as goal

abbrev pub invariant-loop-child : goal.invariant-loop-child
invariant-loop-child g l =
    let d = l.at.node.row.depth in
    record {
      after : l.fn.at.id.0 + 1 ≤ l.child;
      at : At l.flat d l.at.node.next.0 l.child;
      progress : Progress g.S.Sink.took g.S.Sink.refused l.fn.gatherer
          (ids_bytes (members_below d (drop (l.fn.at.id.0 + 1) l.flat))) l.gatherer
          (ids_bytes (members_below d (drop l.child l.flat)));
      read : (n : ℕ) × (n + length (members_below d (drop l.child l.flat)) ≡ length
          (members_below d (drop (l.fn.at.id.0 + 1) l.flat))) × Reads l.fn.work n 0 l.work;
    }

abbrev pub decreases-loop-child : goal.decreases-loop-child
decreases-loop-child g l = l.at.node.next.0 - l.child
