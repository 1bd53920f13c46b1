use Rattle.std.proofs.Common.{arith}
use Rattle.twkb_buffer.specs.RoundedNumbers.{divisor_of, factor_of}
use Rattle.twkb_buffer.proofs.RoundingLemmas.{AreScales-scale, found_size, long_found, long_none, short_near}
use Rattle.twkb_buffer.proofs.rounded_numbers.size_of.Goals as goal
use Rattle.twkb_buffer.proofs.rounded_numbers.size_of.Goals.{in_default-via-in-Some+else-size-le-SHORT}
use Rattle.twkb_buffer.proofs.rounded_numbers.size_of.Goals.{in_default-via-in_default}

pub returns-in_default : goal.returns-in_default
returns-in_default c =
    let factor = factor_of c.args.scale in
    let divisor = divisor_of c.args.scale in
    let scales = AreScales-scale c.args.scale c.requires.scale in
    long_found factor divisor c.args.number
    (elim c.in_default.branch [
      | in_default-via-in-Some+else-size-le-SHORT w ↦ λ short. omega (
        arith,
        w.if-size-le-SHORT.false,
        short_near factor divisor c.args.number scales c.requires.finite w.in-Some.size short w.in-Some.ensures,
      )
      | in_default-via-in_default w ↦
          long_none factor divisor c.args.number scales c.requires.finite w.in_default.ensures
    ])
    c.exact_size.result c.exact_size.ensures

pub returns-in-Some : goal.returns-in-Some
returns-in-Some c =
    found_size (factor_of c.args.scale) (divisor_of c.args.scale) c.args.number
    (AreScales-scale c.args.scale c.requires.scale) c.requires.finite c.in-Some.size
    (omega (arith, c.if-size-le-SHORT.true)) c.in-Some.ensures
