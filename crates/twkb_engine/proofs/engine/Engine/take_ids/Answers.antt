use Rattle.std.proofs.Common.{refl, arith}
use Rattle.std.proofs.lemmas.Result.{err_from_is_err_and}
use Rattle.twkb_engine.proofs.Points.{none_taken, ids_stop, ids_taken}
use Rattle.twkb_engine.proofs.engine.Engine.take_ids.Goals as goal

pub returns-then-most-eq0 : goal.returns-then-most-eq0
returns-then-most-eq0 c = λ rs. none_taken

pub returns-in_err-used : goal.returns-in_err-used
returns-in_err-used c = λ rs.
    ids_stop rs c.args.self.now c.requires.next c.requires.alone c.saturating_sub-most.result
    (omega (arith, c.saturating_sub-most.ensures, c.count.ensures))
    (err_from_is_err_and c.from_residual.result c.from_residual.ensures.1).1
    (record { limits = refl; start = refl; held = refl }) c.in_err-used.ensures.memory

pub returns : goal.returns
returns c = λ rs.
    ids_taken rs c.args.self.now c.requires.next c.requires.alone c.saturating_sub-most.result
    (omega (arith, c.saturating_sub-most.ensures, c.count.ensures)) _ c.in_ok-used.used c.args.rest.now
    (omega (arith, c.if-most-eq0.false)) c.in_ok-used.ensures.within refl c.in_ok-used.ensures.taken
