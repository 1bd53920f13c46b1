-- The last points of the node come before those up to the end of its geometry.
use Rattle.std.proofs.Common.{◌≡◌, ◌≤◌, ◌+◌, ◌*◌, ◌-◌, ◌++◌, List}
use Rattle.twkb_points.specs.Point.{Point}
use Rattle.twkb_writer.specs.Nodes.{ReadsExactly}
use Rattle.twkb_writer.specs.Totals.{tail_from, tail_of}
use Rattle.twkb_writer.proofs.PutLemmas.{part}
use Rattle.twkb_writer.proofs.measured_rows.take_each_point.Given as goal

abbrev pub invariant-loop-pair : goal.invariant-loop-pair
invariant-loop-pair g l =
    let end = l.node.first.0 + l.node.points in
    record {
      value : (ahead : List Point) → l.fn.tail ≡ tail_of ahead
          → tail_from l.points ≡ tail_of (part (g.P.PlacedPoints.points l.all) (end - (1 + 2 * l.pair)) end ++ ahead);
      most : l.points.bytes ≤ l.fn.tail.bytes + 20 * (1 + 2 * l.pair);
      reads : ReadsExactly l.fn.work 0 (1 + 2 * l.pair) l.work;
    }
