use Rattle.std.proofs.Common.{◌+◌, rules, arith}
use Rattle.twkb_num.proofs.BlockLemmas.{ends_after, ends_behind, ends_in_slice}
use Rattle.twkb_points.specs.Point.{IsInner}
use Rattle.twkb_points.proofs.PointLemmas.{near_further, eight_led}
use Rattle.twkb_points.proofs.eight.eight_points.Goals as goal

pub two_by-requires-clause-near : goal.two_by-requires-clause-near
two_by-requires-clause-near g c =
    let inner : IsInner c.args.from = search rules in
    near_further 0 6 c.args.from (omega arith) inner

pub two_by-requires-2-clause-near : goal.two_by-requires-2-clause-near
two_by-requires-2-clause-near g c =
    let inner : IsInner c.args.from = search rules in
    near_further 2 6 c.in_ok-a.b (omega arith) (c.in_ok-a.ensures.onward 0 inner)

pub two_by-requires-3-clause-near : goal.two_by-requires-3-clause-near
two_by-requires-3-clause-near g c =
    let inner : IsInner c.args.from = search rules in
    near_further 4 6 c.in_ok-c.d (omega arith) (c.in_ok-c.ensures.onward 2
    (c.in_ok-a.ensures.onward 0 inner))

pub two_by-requires-4-clause-near : goal.two_by-requires-4-clause-near
two_by-requires-4-clause-near g c =
    let inner : IsInner c.args.from = search rules in
    c.in_ok-e.ensures.onward 4 (c.in_ok-c.ensures.onward 2 (c.in_ok-a.ensures.onward 0 inner))

pub two_by-requires-3-clause-ends : goal.two_by-requires-3-clause-ends
two_by-requires-3-clause-ends g c =
    let two = c.in_ok-a.two in
    ends_in_slice g.C.Numbered.ALPHABET.base g.C.Numbered.ALPHABET.radix c.args.bytes.now _ (two + c.in_ok-c.more)
    (ends_behind g.C.Numbered.ALPHABET.base g.C.Numbered.ALPHABET.radix c.args.bytes.now c.args.ends two c.in_ok-c.more
    c.in_ok-c.ensures.rest)

pub two_by-requires-4-clause-ends : goal.two_by-requires-4-clause-ends
two_by-requires-4-clause-ends g c =
    let four = c.in_ok-a.two + c.in_ok-c.more in
    ends_in_slice g.C.Numbered.ALPHABET.base g.C.Numbered.ALPHABET.radix c.args.bytes.now _ (four + c.in_ok-e.more)
    (ends_behind g.C.Numbered.ALPHABET.base g.C.Numbered.ALPHABET.radix c.args.bytes.now c.args.ends four c.in_ok-e.more
    c.in_ok-e.ensures.rest)

pub returns-clause-points : goal.returns-clause-points
returns-clause-points g c =
    eight_led g.C.StepCode.bytes_of c.args.from c.in_ok-a.a c.in_ok-a.b c.in_ok-c.c c.in_ok-c.d c.in_ok-e.e
    c.in_ok-e.f c.in_ok-g.g c.in_ok-g.h c.args.bytes.now
    c.in_ok-a.two c.in_ok-c.more c.in_ok-e.more c.in_ok-g.more c.in_ok-a.ensures.two
    c.in_ok-c.ensures.two c.in_ok-e.ensures.two c.in_ok-g.ensures.two

pub returns-clause-rest : goal.returns-clause-rest
returns-clause-rest g c =
    ends_after g.C.Numbered.ALPHABET.base g.C.Numbered.ALPHABET.radix c.args.bytes.now _
    (c.in_ok-a.two + c.in_ok-c.more + c.in_ok-e.more) c.in_ok-g.more c.in_ok-g.ensures.rest
