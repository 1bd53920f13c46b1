use Rattle.std.proofs.Common.{rules, arith, refl}
use Rattle.std.proofs.lemmas.Result.{err_from_is_err_and}
use Rattle.twkb_convert.specs.SentGeometries.{SentSoFar}
use Rattle.twkb_convert.proofs.SendingLemmas.{ends_blob, ends_fault, ends_table, ends_uncounted, sent_more}
use Rattle.twkb_convert.proofs.sent_geometries.send_table.Goals as goal
use Rattle.twkb_convert.proofs.sent_geometries.send_table.Goals.{then-has_point+in_ok-send_points, else-has_point}

pub returns-in_err-next_flat : goal.returns-in_err-next_flat
returns-in_err-next_flat g c =
    let p = err_from_is_err_and c.from_residual-in_err-next_flat.result c.from_residual-in_err-next_flat.ensures.1 in
    rw (p.1, p.2) (record {
      ends = λ l told given first s.
          let sent : SentSoFar c.args.style l g.R.Read.remaining g.W.Write.contents told c.if-has_point.table first
          c.if-has_point.output c.if-has_point.sent = elim c.if-has_point.branch [
            | then-has_point+in_ok-send_points w ↦ rw (w.table-is, w.output-is, w.sent-is)
                (w.in_ok-send_points.ensures.sends.2 l told first (c.loop-sent.invariant l told first s))
            | else-has_point w ↦ rw (w.table-is, w.output-is, w.sent-is) (c.loop-sent.invariant l told first s)
          ] in
          ends_fault sent _ given _ refl refl
          (c.in_err-next_flat.ensures.fault l told sent.records sent.geometries sent.stands);
    })

pub returns-then-not-branch : goal.returns-then-not-branch
returns-then-not-branch g c = record {
  ends = λ l told given first s.
      let sent : SentSoFar c.args.style l g.R.Read.remaining g.W.Write.contents told c.if-has_point.table first
      c.if-has_point.output c.if-has_point.sent = elim c.if-has_point.branch [
        | then-has_point+in_ok-send_points w ↦ rw (w.table-is, w.output-is, w.sent-is)
            (w.in_ok-send_points.ensures.sends.2 l told first (c.loop-sent.invariant l told first s))
        | else-has_point w ↦ rw (w.table-is, w.output-is, w.sent-is) (c.loop-sent.invariant l told first s)
      ] in
      ends_table sent given
      (c.in_ok-next_flat.ensures.ends (search rules) l told sent.records sent.geometries sent.stands);
}

pub returns-in_err-write_blob : goal.returns-in_err-write_blob
returns-in_err-write_blob g c =
    let p = err_from_is_err_and c.from_residual-in_err-write_blob.result c.from_residual-in_err-write_blob.ensures.1 in
    rw (p.1, p.2) (record {
      ends = λ l told given first s.
          let sent : SentSoFar c.args.style l g.R.Read.remaining g.W.Write.contents told c.if-has_point.table first
          c.if-has_point.output c.if-has_point.sent = elim c.if-has_point.branch [
            | then-has_point+in_ok-send_points w ↦ rw (w.table-is, w.output-is, w.sent-is)
                (w.in_ok-send_points.ensures.sends.2 l told first (c.loop-sent.invariant l told first s))
            | else-has_point w ↦ rw (w.table-is, w.output-is, w.sent-is) (c.loop-sent.invariant l told first s)
          ] in
          let gives = c.in_ok-next_flat.ensures.gives (search rules) l told sent.records sent.geometries sent.stands in
          ends_blob sent _ given gives refl refl
          (c.in_err-write_blob.ensures.err gives.geometry gives.valid.tree gives.rows);
    })

pub loop-sent-preserved : goal.loop-sent-preserved
loop-sent-preserved g c = λ l told first s.
    let sent : SentSoFar c.args.style l g.R.Read.remaining g.W.Write.contents told c.if-has_point.table first
    c.if-has_point.output c.if-has_point.sent = elim c.if-has_point.branch [
      | then-has_point+in_ok-send_points w ↦ rw (w.table-is, w.output-is, w.sent-is)
          (w.in_ok-send_points.ensures.sends.2 l told first (c.loop-sent.invariant l told first s))
      | else-has_point w ↦ rw (w.table-is, w.output-is, w.sent-is) (c.loop-sent.invariant l told first s)
    ] in
    let gives = c.in_ok-next_flat.ensures.gives (search rules) l told sent.records sent.geometries sent.stands in
    sent_more sent _ gives refl refl
    (c.in_ok-write_blob.ensures.ok gives.geometry gives.valid.tree gives.rows)

pub returns : goal.returns
returns g c = record {
  ends = λ l told given first s. ends_uncounted (c.loop-sent.invariant l told first s) given
      (let all = c.loop-sent-test.false in omega (arith, all));
}
