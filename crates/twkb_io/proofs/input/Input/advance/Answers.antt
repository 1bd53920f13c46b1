use Rattle.std.proofs.Common.{◌-◌, ◌+◌, ◌≤◌, arith}
use Rattle.std.specs.Prelude.{slice_range}
use Rattle.twkb_io.specs.declared.TheConstants.{MAX_BYTES}
use Rattle.twkb_io.specs.Taps.{device_of}
use Rattle.twkb_io.proofs.DeviceLemmas.{consumed_front, count_fits, held_advanced, unused_advanced}
use Rattle.twkb_io.proofs.input.Input.advance.Goals as goal

pub returns-clause-gives : goal.returns-clause-gives
returns-clause-gives g c =
    let input = c.args.self.now in
    let (inside, roomy) = count_fits input.held input.at input.filled (MAX_BYTES - input.offset)
    c.args.count input.in_order c.requires in
    rw (unused_advanced input.held input.at input.filled c.args.count inside)
    (consumed_front (slice_range input.held input.at input.filled)
    (g.R.Read.remaining (device_of input.tap.now)) c.args.count (MAX_BYTES - input.offset) roomy)

pub returns-clause-held : goal.returns-clause-held
returns-clause-held g c =
    let input = c.args.self.now in
    let (inside, roomy) = count_fits input.held input.at input.filled (MAX_BYTES - input.offset)
    c.args.count input.in_order c.requires in
    let fits : input.offset + c.args.count ≤ MAX_BYTES = omega arith in
    rw (unused_advanced input.held input.at input.filled c.args.count inside)
    (held_advanced (slice_range input.held input.at input.filled) MAX_BYTES input.offset
    c.args.count fits)
