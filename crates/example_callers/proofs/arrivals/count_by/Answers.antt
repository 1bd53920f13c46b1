use Rattle.std.proofs.Common.{◌∙◌, arith, rules}
use Rattle.example_callers.proofs.ArrivalsLemmas.{bytes_fewer, bytes_more, few_more}
use Rattle.example_callers.proofs.arrivals.count_by.Goals as goal

pub loop-count-smaller : goal.loop-count-smaller
loop-count-smaller g c =
    let took = c.loop-count.invariant.took in
    let one = c.in_ok-arrived.ensures.took _ _ took.stands in
    bytes_fewer _ _ _ _ _ _ (bytes_more _ _ _ _ _ _ _ c.read.new.buf _ _ _ took
    c.in-Ok.ensures.bound.0 (search rules) one c.in-Ok.ensures.bytes.0)
    (omega (arith, c.if-count-eq0.false))

pub loop-count-preserved : goal.loop-count-preserved
loop-count-preserved g c =
    let took = c.loop-count.invariant.took in
    let one = c.in_ok-arrived.ensures.took _ _ took.stands in
    record {
      took = bytes_more _ _ _ _ _ _ _ c.read.new.buf _ _ _ took c.in-Ok.ensures.bound.0
          (search rules) one c.in-Ok.ensures.bytes.0;
      few = few_more _ _ _ _ c.read.new.buf _ c.loop-count.invariant.few c.in_ok-arrived.ensures.few
          (search rules) c.in-Ok.ensures.bound.0;
      limits = c.in_ok-arrived.ensures.limits ∙ c.loop-count.invariant.limits;
    }
