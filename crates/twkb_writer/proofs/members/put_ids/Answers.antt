use Rattle.std.proofs.Common.{◌+◌, ap, length, arith}
use Rattle.twkb_writer.specs.Bytes.{ids_bytes}
use Rattle.twkb_writer.proofs.PutLemmas.{begun, step, finished, reads_none, reads_join, one_node}
use Rattle.twkb_writer.proofs.BelowLemmas.{node_ends, first_at, next_at, members_step, members_end}
use Rattle.twkb_writer.proofs.members.put_ids.Goals as goal

pub loop-child-init : goal.loop-child-init
loop-child-init g c = record {
  after = omega arith;
  at = first_at _ _ _ c.requires;
  progress = begun _ _;
  read = (0, omega arith, reads_none _ _ _);
}

pub loop-child-preserved : goal.loop-child-preserved
loop-child-preserved g c =
    let inv = c.loop-child.invariant in
    let ends = node_ends _ _ _ c.requires in
    let member = c.node-member.ensures.node in
    let more = members_step _ _ 0 _ _ _ member inv.at c.loop-child-test.true in
    let (n, total, reads) = inv.read in
    record {
      after = omega (arith, member.next.after, inv.after);
      at = next_at _ _ _ _ _ _ ends inv.at c.loop-child-test.true inv.after member;
      progress = step (ap ids_bytes more) inv.progress c.put_id.ensures;
      read = (
        n + 1,
        omega (arith, total, ap length more),
        reads_join _ _ _ _ _ _ _ _ _ reads
            (one_node _ _ c.node-member.ensures.no_fewer c.node-member.ensures.counted) (omega arith)
            (omega arith),
      );
    }

pub returns-clause-put : goal.returns-clause-put
returns-clause-put g c =
    let inv = c.loop-child.invariant in
    finished (ap ids_bytes (members_end _ _ _ _ _ (node_ends _ _ _ c.requires) inv.at (omega arith)))
    inv.progress

pub returns-clause-reads : goal.returns-clause-reads
returns-clause-reads g c =
    let (n, total, reads) = c.loop-child.invariant.read in
    reads_join _ _ _ _ _ 0 0 _ _ reads (reads_none _ _ _) (omega (arith, total)) (omega arith)
