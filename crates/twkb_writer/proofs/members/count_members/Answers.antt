use Rattle.std.proofs.Common.{ap, length, arith}
use Rattle.twkb_writer.proofs.BelowLemmas.{node_ends, first_at, next_at, members_step, members_end}
use Rattle.twkb_writer.proofs.PutLemmas.{reads_none, reads_join, one_node}
use Rattle.twkb_writer.proofs.members.count_members.Goals as goal

pub loop-child-init : goal.loop-child-init
loop-child-init c = record {
  after = omega arith;
  at = first_at _ _ _ c.requires;
  small = omega arith;
  total = omega arith;
  reads = reads_none _ _ _;
}

pub loop-child-preserved : goal.loop-child-preserved
loop-child-preserved c =
    let inv = c.loop-child.invariant in
    let ends = node_ends _ _ _ c.requires in
    let member = c.node-member.ensures.node in
    let more = members_step _ _ 0 _ _ _ member inv.at c.loop-child-test.true in
    record {
      after = omega (arith, member.next.after, inv.after);
      at = next_at _ _ _ _ _ _ ends inv.at c.loop-child-test.true inv.after member;
      small = omega (arith, member.next.after, inv.small);
      total = omega (arith, inv.total, ap length more);
      reads = reads_join _ _ _ _ _ _ _ _ _ inv.reads
          (one_node _ _ c.node-member.ensures.no_fewer c.node-member.ensures.counted) (omega arith)
          (omega arith);
    }

pub returns-clause-count : goal.returns-clause-count
returns-clause-count c =
    let inv = c.loop-child.invariant in
    let none = members_end _ _ _ _ _ (node_ends _ _ _ c.requires) inv.at (omega arith) in
    omega (arith, inv.total, ap length none)

pub returns-clause-reads : goal.returns-clause-reads
returns-clause-reads c =
    let inv = c.loop-child.invariant in
    reads_join _ _ _ _ _ 0 0 _ _ inv.reads (reads_none _ _ _) (omega (arith, inv.total)) (omega arith)
