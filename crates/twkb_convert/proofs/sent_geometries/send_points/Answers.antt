use Rattle.std.proofs.Common.{rules}
use Rattle.twkb_convert.proofs.SendingLemmas.{rows_counted}
use Rattle.twkb_convert.proofs.sent_geometries.send_points.Goals as goal

pub returns : goal.returns
returns g c = record {
  sends = rows_counted c.args.style g.R.Read.remaining g.W.Write.contents c.args.table.now
      c.send_each_point-sending.new.table _ c.args.output.now c.send_each_point-sending.new.output _ c.args.sent.now
      c.send_each_point-sending.new.sent _ c.send_each_point-sending.result (search rules) (search rules)
      c.send_each_point-sending.ensures.same_rows (search rules) (search rules) (search rules)
      c.send_each_point-sending.ensures.sends;
}
