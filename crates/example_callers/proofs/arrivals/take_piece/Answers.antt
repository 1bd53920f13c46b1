use Rattle.std.proofs.Common.{◌∙◌, arith, rules}
use Rattle.std.proofs.lemmas.List.{take_rest}
use Rattle.example_callers.proofs.ArrivalsLemmas.{fed_some, took_all, took_more, took_none}
use Rattle.example_callers.proofs.arrivals.take_piece.Goals as goal

pub loop-used-init : goal.loop-used-init
loop-used-init c = record {
  took = took_none c.args.session.now;
  within = omega arith;
  few = omega arith;
  limits = search rules;
}

pub returns-then-not-is_whole-clause-took : goal.returns-then-not-is_whole-clause-took
returns-then-not-is_whole-clause-took c =
    took_all c.args.session.now c.loop-used.session c.feed_flat.new.self c.args.piece.now _
    c.loop-used.at c.loop-used.count c.in_ok-used.used c.in_ok-used.is_whole
    c.loop-used.invariant.took c.in_ok-used.ensures.fed
    (take_rest c.args.piece.now c.loop-used.at) (search rules)

pub overflow_add-at : goal.overflow_add-at
overflow_add-at c =
    let some = fed_some c.args.session.now c.loop-used.session c.feed_flat.new.self c.args.piece.now
    _ c.loop-used.at c.loop-used.count c.in_ok-used.used c.in_ok-used.is_whole c.requires.stands
    c.loop-used.invariant.took c.in_ok-used.ensures.fed
    (take_rest c.args.piece.now c.loop-used.at) (search rules) c.loop-used.invariant.within in
    search (rules, some)

pub loop-used-smaller : goal.loop-used-smaller
loop-used-smaller c =
    let some = fed_some c.args.session.now c.loop-used.session c.feed_flat.new.self c.args.piece.now
    _ c.loop-used.at c.loop-used.count c.in_ok-used.used c.in_ok-used.is_whole c.requires.stands
    c.loop-used.invariant.took c.in_ok-used.ensures.fed
    (take_rest c.args.piece.now c.loop-used.at) (search rules) c.loop-used.invariant.within in
    omega (arith, some.0, some.1)

pub loop-used-preserved : goal.loop-used-preserved
loop-used-preserved c =
    let some = fed_some c.args.session.now c.loop-used.session c.feed_flat.new.self c.args.piece.now
    _ c.loop-used.at c.loop-used.count c.in_ok-used.used c.in_ok-used.is_whole c.requires.stands
    c.loop-used.invariant.took c.in_ok-used.ensures.fed
    (take_rest c.args.piece.now c.loop-used.at) (search rules) c.loop-used.invariant.within in
    record {
      took = took_more c.args.session.now c.loop-used.session c.feed_flat.new.self c.args.piece.now
          _ c.loop-used.at c.loop-used.count c.in_ok-used.used c.in_ok-used.is_whole
          c.loop-used.invariant.took c.in_ok-used.ensures.fed
          (take_rest c.args.piece.now c.loop-used.at) (search rules);
      within = some.1;
      few = omega (arith, some.0, c.loop-used.invariant.few);
      limits = c.in_ok-used.ensures.limits ∙ c.loop-used.invariant.limits;
    }
