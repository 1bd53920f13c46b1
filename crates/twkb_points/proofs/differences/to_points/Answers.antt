use Rattle.std.proofs.Common.{◌≡◌, ℤ, pos, Some, true, false, get_or, slice_get, SFits, w64, ◌∙◌}
use Rattle.std.proofs.Common.{ap, subst, rules, arith}
use Rattle.std.proofs.lemmas.Grind.{common_steps}
use Rattle.std.proofs.lemmas.Int.{to_z-of_z}
use Rattle.twkb_points.specs.Point.{IsInRange, moved_by}
use Rattle.twkb_points.specs.Steps.{points_of}
use Rattle.twkb_points.proofs.PointLemmas.{points_of-differences, next_point, no_next_point, in_range_again}
use Rattle.twkb_points.proofs.differences.to_points.Goals as goal

-- the next point, which `add` refuses
next : (c : goal.In_default) → let d : ℤ × ℤ = get_or c.args.deltas.now c.loop-i.i (pos 0, pos 0) in
    slice_get (points_of c.args.deltas.now) c.loop-i.i ≡ Some (moved_by c.loop-i.cursor d.0 d.1)
next c =
    next_point c.args.deltas.now c.loop-i.points c.loop-i.cursor c.loop-i.i (pos 0, pos 0)
    c.loop-i-test.true c.loop-i.invariant.as_many c.loop-i.invariant.written

refused : (c : goal.In_default) → let d : ℤ × ℤ = get_or c.args.deltas.now c.loop-i.i (pos 0, pos 0) in
    IsInRange (moved_by c.loop-i.cursor d.0 d.1) → ⊥
refused c r =
    let d : ℤ × ℤ = get_or c.args.deltas.now c.loop-i.i (pos 0, pos 0) in
    let x_fits : SFits w64 d.0 = search rules in
    let y_fits : SFits w64 d.1 = search rules in
    let told : false ≡ true = c.in_default.ensures.range.1
    (simp (to_z-of_z w64 d.0 x_fits, to_z-of_z w64 d.1 y_fits) r) in
    cc

pub returns-in_default-clause-stopped : goal.returns-in_default-clause-stopped
returns-in_default-clause-stopped c = λ p e r.
    let d : ℤ × ℤ = get_or c.args.deltas.now c.loop-i.i (pos 0, pos 0) in
    let is_next = next c in
    let same : p ≡ moved_by c.loop-i.cursor d.0 d.1 = cc in
    refused c (subst IsInRange same r)

pub returns-in_default-clause-back : goal.returns-in_default-clause-back
returns-in_default-clause-back c = λ ps in_range e.
    absurd (refused c (in_range_again ps c.args.deltas.now c.loop-i.i _ in_range e (next c)))

pub returns-clause-stopped : goal.returns-clause-stopped
returns-clause-stopped c = λ p e r. no_next_point c.args.deltas.now p e

pub returns-clause-back : goal.returns-clause-back
returns-clause-back c = λ ps in_range e.
    let whole : c.loop-i.points ≡ points_of c.args.deltas.now = grind (arith, common_steps) in
    whole ∙ ap points_of e ∙ points_of-differences ps
