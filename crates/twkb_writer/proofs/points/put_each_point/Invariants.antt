use Rattle.std.proofs.Common.{◌≡◌, ◌+◌, ◌-◌, ◌≤◌, take, drop}
use Rattle.twkb_writer.specs.Bytes.{way_bytes, way_end, Progress}
use Rattle.twkb_writer.specs.Nodes.{ReadsExactly}
use Rattle.twkb_writer.proofs.points.put_each_point.Given as goal

abbrev pub invariant-loop-index : goal.invariant-loop-index
invariant-loop-index g l =
    let ps = g.P.PlacedPoints.points l.all in
    record {
      behind : l.fn.node.first.0 ≤ l.index;
      within : l.index ≤ l.fn.node.first.0 + l.fn.node.points;
      progress : Progress g.S.Sink.took g.S.Sink.refused l.fn.gatherer
          (way_bytes l.fn.cursor (take l.fn.node.points (drop l.fn.node.first.0 ps))) l.gatherer
          (way_bytes l.cursor (take (l.fn.node.first.0 + l.fn.node.points - l.index) (drop l.index ps)));
      last : way_end l.cursor (take (l.fn.node.first.0 + l.fn.node.points - l.index)
          (drop l.index ps)) ≡ way_end l.fn.cursor (take l.fn.node.points
          (drop l.fn.node.first.0 ps));
      reads : ReadsExactly l.fn.work 0 (l.index - l.fn.node.first.0) l.work;
    }

abbrev pub decreases-loop-index : goal.decreases-loop-index
decreases-loop-index g l = l.fn.node.first.0 + l.fn.node.points - l.index
