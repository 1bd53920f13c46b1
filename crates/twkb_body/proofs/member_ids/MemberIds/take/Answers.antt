use Rattle.std.proofs.Common.{◌+◌, ◌-◌, ◌<◌, ◌++◌, ◌∷◌, [], ◌∙◌, length, length-append, take, ap, sym, subst, refl}
use Rattle.std.proofs.Common.{arith, rules, SFits, w64, to_z-of_z}
use Rattle.twkb_body.proofs.InFront.{unzigzag_back, one_within}
use Rattle.twkb_body.proofs.PointRuns.{on_err, ids_more, ids_stop, no_ids}
use Rattle.twkb_body.specs.Outline.{ids_read}
use Rattle.twkb_body.specs.Running.{IdsRun}
use Rattle.twkb_body.proofs.member_ids.MemberIds.take.Goals as goal

pub loop-left-init : goal.loop-left-init
loop-left-init c = record {
  within = omega arith;
  run = no_ids (ids_read c.args.self.now) c.args.most;
  all = refl;
  has = refl;
}

pub returns-in_err-push-clause-memory : goal.returns-in_err-push-clause-memory
returns-in_err-push-clause-memory c =
    on_err c.from_residual.result (ids_stop (ids_read c.args.self.now) (ids_read c.loop-left.self)
    c.args.most c.loop-left.left c.loop-left.used c.in-Complete.width c.in-Complete.number
    c.args.bytes.now c.loop-left.invariant.within c.loop-left.invariant.run
    (omega (arith, c.loop-left-test.true)) c.in-Complete.ensures)

pub loop-left-preserved : goal.loop-left-preserved
loop-left-preserved c =
    let fits : SFits w64 c.unzigzag.result = search rules in
    let pushed = simp to_z-of_z at c.in_ok-push.ensures.pushed in
    let one = pushed ∙ ap (λ z. ids_read c.loop-left.self ++ z ∷ [])
    (sym (unzigzag_back c.unzigzag.result c.in-Complete.number c.unzigzag.ensures)) in
    let some : 0 < c.loop-left.left = omega (arith, c.loop-left-test.true) in
    let longer = ap length pushed ∙ length-append (ids_read c.loop-left.self) _ in
    record {
      within = one_within c.args.bytes.now c.loop-left.used c.in-Complete.width
          c.loop-left.invariant.within c.in-Complete.ensures.within;
      run = subst (λ l. IdsRun (ids_read c.args.self.now) c.args.most
          (take (c.loop-left.used + c.in-Complete.width) c.args.bytes.now) l (c.loop-left.left - 1))
          (sym one)
          (ids_more (ids_read c.args.self.now) (ids_read c.loop-left.self) c.args.most
          c.loop-left.left c.in-Complete.number c.loop-left.used c.in-Complete.width c.args.bytes.now
          c.loop-left.invariant.run some c.in-Complete.ensures);
      all = omega (arith, longer, c.loop-left.invariant.all, some);
      has = c.push.ensures.has ∙ c.loop-left.invariant.has;
    }
