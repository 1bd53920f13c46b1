use Rattle.std.proofs.Common.{arith, ◌+◌, ◌<◌, length, sym, ◌∙◌}
use Rattle.twkb_features.proofs.TakenLemmas.{takes_none, takes_plain_at, takes_byte_at}
use Rattle.twkb_features.proofs.nesting.Nesting.take_few.Goals as goal

pub loop-at-init : goal.loop-at-init
loop-at-init c = takes_none c.args.self.now c.args.depth c.args.bytes.now

pub returns-then-at-bytes-clause-taken : goal.returns-then-at-bytes-clause-taken
returns-then-at-bytes-clause-taken c =
    takes_plain_at c.plain_run-plain.result c.loop-at.invariant c.plain_run-plain.ensures.within
    c.plain_run-plain.ensures.plain

pub returns-then-is_closed-clause-taken : goal.returns-then-is_closed-clause-taken
returns-then-is_closed-clause-taken c =
    let plain = takes_plain_at c.plain_run-plain.result c.loop-at.invariant c.plain_run-plain.ensures.within
    c.plain_run-plain.ensures.plain in
    let inside : c.loop-at.at + c.plain_run-plain.result < length c.args.bytes.now = omega (arith, plain.within) in
    takes_byte_at plain inside c.take_byte-is_closed.ensures.taken
    (sym c.if-is_closed.true ∙ c.take_byte-is_closed.ensures.closed)

pub loop-at-preserved : goal.loop-at-preserved
loop-at-preserved c =
    let plain = takes_plain_at c.plain_run-plain.result c.loop-at.invariant c.plain_run-plain.ensures.within
    c.plain_run-plain.ensures.plain in
    let inside : c.loop-at.at + c.plain_run-plain.result < length c.args.bytes.now = omega (arith, plain.within) in
    takes_byte_at plain inside c.take_byte-is_closed.ensures.taken
    (sym c.if-is_closed.false ∙ c.take_byte-is_closed.ensures.closed)
