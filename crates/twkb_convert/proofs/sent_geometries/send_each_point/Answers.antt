use Rattle.std.proofs.Common.{rules, arith, refl, SFits, w8}
use Rattle.std.proofs.lemmas.Int.{to_z-of_z}
use Rattle.std.proofs.lemmas.Result.{err_from_is_err_and}
use Rattle.twkb_io.specs.Outputs.{cut_front}
use Rattle.twkb_convert.proofs.SendingLemmas.{cuts_point, writes_point, ends_cut, ends_fault, ends_uncounted}
use Rattle.twkb_convert.proofs.SendingLemmas.{one_more_row, rows_first, sent_more}
use Rattle.twkb_convert.proofs.sent_geometries.send_each_point.Goals as goal

pub returns-in_err-found : goal.returns-in_err-found
returns-in_err-found g c =
    let p = err_from_is_err_and c.from_residual.result c.from_residual.ensures.1 in
    rw (p.1, p.2) (record {
      sends = λ l told given first s.
          let so = c.loop-sent.invariant.sends l told first s in
          ends_fault so _ given _ refl refl
          (c.in_err-found.ensures.fault l told so.records so.geometries so.stands);
      no_fewer = c.loop-sent.invariant.no_fewer;
      same_rows = c.loop-sent.invariant.same_rows;
    })

pub returns-in_err-write_point : goal.returns-in_err-write_point
returns-in_err-write_point g c =
    let p = err_from_is_err_and c.from_residual-in_err-write_point.result
    c.from_residual-in_err-write_point.ensures.1 in
    rw (p.1, p.2) (record {
      sends = λ l told given first s.
          let so = c.loop-sent.invariant.sends l told first s in
          let gives = (rw c.in-Some.is at c.in_ok-found.ensures.gives) l told so.records so.geometries so.stands in
          let range : SFits w8 c.in-Some.found.0 = search rules in
          let cut = simp (to_z-of_z w8 c.in-Some.found.0 range) at c.in_err-write_point.ensures.err in
          ends_cut so _ given gives refl refl
          (cuts_point gives c.args.style (λ fits. cut_front g.W.Write.contents _ _ _ _ (cut fits)));
      no_fewer = c.loop-sent.invariant.no_fewer;
      same_rows = c.loop-sent.invariant.same_rows;
    })

pub loop-sent-init : goal.loop-sent-init
loop-sent-init g c = record { no_fewer = omega arith; same_rows = refl; sends = λ l told first s. rows_first s }

pub loop-sent-preserved : goal.loop-sent-preserved
loop-sent-preserved g c = record {
  no_fewer = (let most = c.loop-sent.invariant.no_fewer in omega (arith, most));
  same_rows = c.loop-sent.invariant.same_rows;
  sends = λ l told first s.
      let so = c.loop-sent.invariant.sends l told first s in
      let gives = (rw c.in-Some.is at c.in_ok-found.ensures.gives) l told so.records so.geometries so.stands in
      let range : SFits w8 c.in-Some.found.0 = search rules in
      let took = simp (to_z-of_z w8 c.in-Some.found.0 range) at c.in_ok-write_point.ensures.ok in
      sent_more so _ gives refl
      (one_more_row _ _ _ _ _ _ c.loop-sent.invariant.no_fewer so.rows_is so.work_of.all_nodes
      c.write_point.ensures.work.more_nodes)
      (writes_point gives took c.write_point.ensures.work);
}

pub returns : goal.returns
returns g c = record {
  sends = λ l told given first s. ends_uncounted (c.loop-sent.invariant.sends l told first s) given
      (let all = c.loop-sent-test.false in omega (arith, all));
  no_fewer = c.loop-sent.invariant.no_fewer;
  same_rows = c.loop-sent.invariant.same_rows;
}
