use Rattle.std.proofs.Common.{◌≡◌, ◌≤◌, arith, rules, length}
use Rattle.twkb_io.proofs.DeviceLemmas.{passed_end, passed_read}
use Rattle.twkb_io.proofs.fuse.FuseRead.read.Goals as goal

pub returns-clause-bytes : goal.returns-clause-bytes
returns-clause-bytes g c =
    let shown : length c.read.new.buf ≡ c.passing-most.result = search rules in
    let moved : c.in_ok-count.count ≤ length c.read.new.buf = c.in_ok-count.ensures.bound.0 in (
      passed_read _ _ c.args.self.now.left c.in_ok-count.count c.read.new.buf _ (omega arith) moved
          c.in_ok-count.ensures.bytes.0,
      λ none some. passed_end _ _ (c.in_ok-count.ensures.bytes.1 none (omega arith)),
    )
