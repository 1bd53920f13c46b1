use Rattle.std.proofs.Common.{◌+◌, ◌-◌, ◌<◌, ◌^◌, rules, length, refl, arith}
use Rattle.std.proofs.lemmas.Result.{err_from_is_err_and}
use Rattle.twkb_polyline.proofs.TextLemmas.{all_counted, counted_none, counted_on, counted_one, few_counted, no_memory}
use Rattle.twkb_polyline.proofs.TextLemmas.{one_too_many, points_end, points_from, put_alone, put_count, read_within}
use Rattle.twkb_polyline.proofs.TextLemmas.{text_refused}
use Rattle.twkb_polyline.proofs.decoded_points.count_points.Goals as goal

pub loop-at-init : goal.loop-at-init
loop-at-init c = rw c.origin-cursor.ensures counted_none

pub loop-at-preserved : goal.loop-at-preserved
loop-at-preserved c = rw c.in_ok-end-2.ensures.moved (counted_one c.loop-at.invariant
    c.in_ok-end-2.ensures.read c.in_ok-end-2.ensures.in_range c.in_ok-one_more.ensures.few refl)

pub loop-at-preserved-then-text-at-ge-BLOCK : goal.loop-at-preserved-then-text-at-ge-BLOCK
loop-at-preserved-then-text-at-ge-BLOCK c =
    let put = c.in_ok-end.ensures.read in
    counted_on put.ps c.loop-at.invariant put.points
    (omega (arith, put.few, c.at_once-most.ensures, few_counted c.loop-at.invariant))
    (omega (arith, put_alone put c.clear.ensures.items))

pub loop-at-smaller-then-text-at-ge-BLOCK : goal.loop-at-smaller-then-text-at-ge-BLOCK
loop-at-smaller-then-text-at-ge-BLOCK c =
    let put = c.in_ok-end.ensures.read in
    let text = c.args.text.now in
    let end = points_end put.ps _ _ _ _ _ (read_within c.loop-at.invariant.read) put.points in
    let on = points_from put.ps _ _ _ _ _ put.points in
    let smaller : length text - c.in_ok-end.end + (length text - (c.in_ok-end.end + c.apart.result))
    < length text - c.loop-at.at + (length text - c.loop-at.next_look) =
    omega (arith, end, on, c.if-at-next_look.true, c.if-text-at-ge-BLOCK.true, c.apart.ensures.some) in
    smaller

pub overflow_add-next_look : goal.overflow_add-next_look
overflow_add-next_look c =
    let put = c.in_ok-end.ensures.read in
    let end = points_end put.ps _ _ _ _ _ (read_within c.loop-at.invariant.read) put.points in
    let few : length c.args.text.now + 256 < 2 ^ 64 = search rules in
    record { fits = omega (arith, end, few, c.apart.ensures.few) }

pub returns-in_err-end-clause-refuses : goal.returns-in_err-end-clause-refuses
returns-in_err-end-clause-refuses c =
    let p = err_from_is_err_and c.from_residual.result c.from_residual.ensures.1 in
    let has = c.loop-at.invariant in
    rw (p.1, p.2) (no_memory has.read _ c.in_err-end.ensures.refused
    (omega (arith, has.counted, put_count has.read, few_counted has, c.at_once-most.ensures)))

pub returns-in_err-one_more-clause-refuses : goal.returns-in_err-one_more-clause-refuses
returns-in_err-one_more-clause-refuses c =
    let p = err_from_is_err_and c.from_residual-in_err-one_more.result c.from_residual-in_err-one_more.ensures.1 in
    let has = c.loop-at.invariant in
    let full = c.in_err-one_more.ensures.full in
    rw (p.1, p.2, full.1) (one_too_many has.read c.loop-at-test.true
    (omega (arith, full.0, has.counted, put_count has.read)))

pub returns-in_err-end-2-clause-refuses : goal.returns-in_err-end-2-clause-refuses
returns-in_err-end-2-clause-refuses c =
    let p = err_from_is_err_and c.from_residual-in_err-end-2.result c.from_residual-in_err-end-2.ensures.1 in
    let has = c.loop-at.invariant in
    rw (p.1, p.2) (text_refused has.read c.in_err-end-2.field-0.0 c.loop-at-test.true
    (omega (arith, c.in_ok-one_more.ensures.few, has.counted, put_count has.read)) c.in_err-end-2.ensures.refused)

pub returns-clause-counts : goal.returns-clause-counts
returns-clause-counts c = all_counted c.loop-at.invariant c.loop-at-test.false
