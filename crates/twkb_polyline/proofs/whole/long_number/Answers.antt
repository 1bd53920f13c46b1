use Rattle.std.proofs.Common.{get_or, length, ◌<◌, inl, arith, rules, FitsSigned, w64}
use Rattle.std.proofs.lemmas.Int.{to_z-of_z}
use Rattle.twkb_polyline.proofs.NumberLemmas.{unit_more, begun_more, begun_ends, more_added, more_within}
use Rattle.twkb_polyline.proofs.NumberLemmas.{last_added, last_within}
use Rattle.twkb_polyline.proofs.whole.long_number.Goals as goal

pub loop-at-init : goal.loop-at-init
loop-at-init c = record {
  begun = c.requires;
  shift_is = omega (arith, c.requires.further);
  some = omega (arith, c.requires.further);
}

pub overflow_add-value : goal.overflow_add-value
overflow_add-value c =
    let inv = c.loop-at.invariant in
    let last = c.in_ok-last.last in
    let small = rw inv.shift_is at c.if-last-shift.false in
    rw (inv.shift_is, last_added inv.begun last small) (omega (arith, last_within inv.begun last small))

pub returns-in_default : goal.returns-in_default
returns-in_default c =
    let inv = c.loop-at.invariant in
    let last = c.in_ok-last.last in
    let small = rw inv.shift_is at c.if-last-shift.false in
    let high : 0 < last = omega (arith, c.if-last-eq0.false) in
    let form = rw (inv.shift_is, last_added inv.begun last small) at c.unzigzag.ensures in
    let fits : FitsSigned w64 c.unzigzag.result = search rules in
    simp to_z-of_z (begun_ends inv.begun c.loop-at-test.true c.in_ok-last.ensures (inl high) form
    (last_within inv.begun last small))

pub overflow_add-value-in-loop-at : goal.overflow_add-value-in-loop-at
overflow_add-value-in-loop-at c =
    let inv = c.loop-at.invariant in
    let group = c.in-Some.group in
    let room : length inv.begun.groups < 12 = omega (arith, c.if-shift-eq-LAST_SHIFT.false, inv.begun.few) in
    let below = (unit_more (get_or c.args.text.now c.loop-at.at 0) group c.in-Some.ensures).1 in
    rw (inv.shift_is, more_added inv.begun group below room) (omega (arith, more_within inv.begun group below room))

pub loop-at-preserved : goal.loop-at-preserved
loop-at-preserved c =
    let inv = c.loop-at.invariant in
    let group = c.in-Some.group in
    let room : length inv.begun.groups < 12 = omega (arith, c.if-shift-eq-LAST_SHIFT.false, inv.begun.few) in
    let below = (unit_more (get_or c.args.text.now c.loop-at.at 0) group c.in-Some.ensures).1 in
    let next = begun_more inv.begun c.loop-at-test.true c.in-Some.ensures room in
    let place = inv.begun.further in
    let more = next.further in
    rw (inv.shift_is, more_added inv.begun group below room)
    (record { begun = next; shift_is = omega arith; some = omega arith })
