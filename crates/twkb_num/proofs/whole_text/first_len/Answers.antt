use Rattle.std.proofs.Common.{arith, ap}
use Rattle.std.specs.Int.Count.{count_trailing_zeros}
use Rattle.twkb_num.proofs.BlockLemmas.{run_found, last_run}
use Rattle.twkb_num.proofs.whole_text.first_len.Goals as goal

pub returns-clause-runs : goal.returns-clause-runs
returns-clause-runs c = λ marks long ends_are.
    let same = ap (count_trailing_zeros 64) ends_are in
    record {
      first = omega (arith, run_found marks long (omega (arith, c.if-used-gt8.false)));
      second = last_run marks c.args.ends _ long ends_are (omega arith) (omega arith) c.if-ends-rest.false;
    }
