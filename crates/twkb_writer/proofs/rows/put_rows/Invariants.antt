use Rattle.std.proofs.Common.{◌≡◌, ℕ, ◌+◌, ◌≤◌, length, drop}
use Rattle.twkb_points.specs.Point.{origin}
use Rattle.twkb_tree.specs.Rows.{row_points}
use Rattle.twkb_writer.specs.Bytes.{rows_bytes, entries_in, Progress}
use Rattle.twkb_writer.specs.Nodes.{Reads}
use Rattle.twkb_writer.proofs.BelowLemmas.{walks}
use Rattle.twkb_writer.proofs.rows.put_rows.Given as goal

abbrev pub invariant-loop-index : goal.invariant-loop-index
invariant-loop-index g l =
    record {
      progress : Progress g.S.Sink.took g.S.Sink.refused l.fn.gatherer
          (rows_bytes l.job.style origin l.job.sizes.now l.job.flat.now) l.gatherer
          (rows_bytes l.job.style l.start.cursor (drop l.start.entry l.job.sizes.now) (drop l.index l.job.flat.now));
      room : l.start.entry + entries_in (drop l.index l.job.flat.now) ≤ length l.job.sizes.now;
      read : (n m : ℕ) × (n + walks (drop l.index l.job.flat.now) ≡ walks l.job.flat.now)
          × (m + length (row_points (drop l.index l.job.flat.now)) ≡ length
          (row_points l.job.flat.now)) × Reads l.fn.work n m l.work;
    }
