use Rattle.std.proofs.Common.{Ok, Err, arith}
use Rattle.twkb_engine.proofs.Answering.{alone, front_fed, first_fed, long_fed, same_stop}
use Rattle.twkb_engine.proofs.engine.Engine.take_item.Goals as goal

pub returns-in_err-take-in-Complete-clause-answer : goal.returns-in_err-take-in-Complete-clause-answer
returns-in_err-take-in-Complete-clause-answer g c =
    let none = alone c.args.self.now c.len.ensures.count (omega (arith, c.if-len-eq0.true)) in
    same_stop c.from_residual.ensures.1 (front_fed (Err c.in_err-take-in-Complete.field-0.0) none
    c.in-Complete.ensures c.in_err-take-in-Complete.ensures)

pub returns-in-Complete-clause-answer : goal.returns-in-Complete-clause-answer
returns-in-Complete-clause-answer g c =
    let none = alone c.args.self.now c.len.ensures.count (omega (arith, c.if-len-eq0.true)) in
    front_fed (Ok c.in_ok-take-in-Complete.field-0) none c.in-Complete.ensures c.in_ok-take-in-Complete.ensures

pub returns-in-TooLong-clause-answer : goal.returns-in-TooLong-clause-answer
returns-in-TooLong-clause-answer g c =
    let none = alone c.args.self.now c.len.ensures.count (omega (arith, c.if-len-eq0.true)) in
    long_fed none c.in-TooLong.ensures.0 c.in-TooLong.ensures.1

pub returns-in_err-take_byte-clause-answer : goal.returns-in_err-take_byte-clause-answer
returns-in_err-take_byte-clause-answer g c =
    let t = c.in_err-take_byte.ensures in
    same_stop c.from_residual-in_err-take_byte.ensures.1
    (first_fed (Err c.in_err-take_byte.field-0.0) c.requires.some t.limits t.fed)

pub returns-clause-answer : goal.returns-clause-answer
returns-clause-answer g c =
    let t = c.in_ok-take_byte.ensures in
    first_fed (Ok c.in_ok-take_byte.field-0) c.requires.some t.limits t.fed
