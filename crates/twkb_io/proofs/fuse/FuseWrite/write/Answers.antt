use Rattle.std.proofs.Common.{◌≤◌, arith}
use Rattle.std.proofs.lemmas.List.{length-take, take-take}
use Rattle.twkb_io.proofs.fuse.FuseWrite.write.Goals as goal

pub returns-clause-bytes : goal.returns-clause-bytes
returns-clause-bytes g c =
    let within : c.in_ok-count.count ≤ c.passing-most.result = omega
    (arith, c.in_ok-count.ensures.bound, length-take c.passing-most.result c.args.buf.now) in
    rw take-take at c.in_ok-count.ensures.bytes
