use Rattle.std.proofs.Common.{◌-◌, ◌≡◌, ◌≤◌}
use Rattle.twkb_convert.specs.SentGeometries.{SendsMore, with_rows}
use Rattle.twkb_convert.proofs.sent_geometries.send_each_point.Given as goal

-- the points so far were sent
abbrev pub invariant-loop-sent : goal.invariant-loop-sent
invariant-loop-sent g l =
    record {
      no_fewer : l.fn.sent.geometries ≤ l.sent.geometries;
      same_rows : l.sent.rows ≡ l.fn.sent.rows;
      sends : SendsMore l.style g.R.Read.remaining g.W.Write.contents l.fn.table l.fn.output l.fn.sent l.table l.output
          (with_rows l.fn.sent l.sent);
    }

-- the number of geometries that may still be counted
abbrev pub decreases-loop-sent : goal.decreases-loop-sent
decreases-loop-sent g l = 18446744073709551615 - l.sent.geometries
