use Rattle.twkb_points.proofs.PointLemmas.{near_sum}
use Rattle.twkb_points.proofs.point.Pt.moved_near.Goals as goal

pub returns : goal.returns
returns c =
    let kept = c.x.ensures.in_range in
    let x = near_sum c.x.result c.args.self.x c.args.dx c.x.ensures.value kept.0 c.requires.near_x in
    let y = near_sum c.y.result c.args.self.y c.args.dy c.y.ensures.value kept.1 c.requires.near_y in
    record {
      range = rw (x, y) at c.try_new.ensures.range;
      value = rw (x, y) at c.try_new.ensures.value;
    }
