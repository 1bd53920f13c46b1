use Rattle.std.proofs.Common.{Ok, Err, refl}
use Rattle.twkb_engine.proofs.Answering.{none_fed, same_stop}
use Rattle.twkb_engine.proofs.Points.{front_admits, point_fed}
use Rattle.twkb_engine.proofs.engine.Engine.take_point.Goals as goal

pub returns-in_default : goal.returns-in_default
returns-in_default g c = none_fed

pub put_last_point-requires-clause-may : goal.put_last_point-requires-clause-may
put_last_point-requires-clause-may g c = front_admits c.args.flat.now c.args.self.now c.requires.next
    c.requires.last c.args.rest.now _ _ c.in-Some.ensures c.requires.ready.alive

pub returns-in_err-put_last_point : goal.returns-in_err-put_last_point
returns-in_err-put_last_point g c =
    same_stop c.from_residual.ensures.1
    (point_fed c.args.flat.now c.args.self.now c.requires.next c.requires.last c.args.rest.now _ _ c.in-Some.ensures
    (Err c.in_err-put_last_point.field-0.0) c.in_err-put_last_point.ensures refl c.requires.alone)

pub returns : goal.returns
returns g c =
    point_fed c.args.flat.now c.args.self.now c.requires.next c.requires.last c.args.rest.now _ _ c.in-Some.ensures
    (Ok c.in_ok-put_last_point.field-0) c.in_ok-put_last_point.ensures refl c.requires.alone
