-- What the pass knows about the rows after its place.
use Rattle.std.proofs.Common.{◌-◌, length, drop}
use Rattle.twkb_tree.specs.Rows.{row_points}
use Rattle.twkb_writer.specs.Nodes.{ReadsExactly}
use Rattle.twkb_writer.proofs.MeasuringPass.{Pass}
use Rattle.twkb_writer.proofs.measured_rows.measure_rows.Given as goal

abbrev pub invariant-loop-back : goal.invariant-loop-back
invariant-loop-back l = record {
  pass : Pass l.style (drop (l.total - l.back) l.flat) l.depths l.tail l.entries.items;
  reads : ReadsExactly l.fn.work l.back (length (row_points (drop (l.total - l.back) l.flat))) l.work;
}
