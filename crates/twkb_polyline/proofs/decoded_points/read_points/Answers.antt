use Rattle.std.proofs.Common.{◌∙◌, ◌+◌, ◌-◌, ◌<◌, ◌^◌, rules, length, refl, arith}
use Rattle.std.proofs.lemmas.Result.{err_from_is_err_and}
use Rattle.twkb_polyline.proofs.TextLemmas.{has_read_all, no_memory, one_too_many, points_end, points_from, put_count}
use Rattle.twkb_polyline.proofs.TextLemmas.{put_none, put_on, put_one, read_within, short_one, text_refused, two_read}
use Rattle.twkb_polyline.proofs.decoded_points.read_points.Goals as goal

pub loop-at-init : goal.loop-at-init
loop-at-init g c = rw c.origin-cursor.ensures (record { read = put_none; held = c.count-held.ensures })

pub loop-at-preserved : goal.loop-at-preserved
loop-at-preserved g c =
    let read = c.loop-at.invariant.read in
    rw (c.in_ok-put.ensures.appended, c.in_ok-point.ensures.moved) (record {
      read = put_one read c.in_ok-point.ensures.read c.in_ok-point.ensures.in_range
          (omega (arith, c.count.ensures, c.in_ok-one_more.ensures.few, put_count read)) refl;
      held = c.loop-at.invariant.held;
    })

pub loop-at-preserved-in-Some : goal.loop-at-preserved-in-Some
loop-at-preserved-in-Some g c =
    let read = c.loop-at.invariant.read in
    rw (c.in_ok-put_all.ensures.appended, c.go.ensures) (record {
      read = put_on _ read (two_read (read_within read) c.place.ensures c.in-Some.ensures)
          (omega (arith, c.count.ensures, c.if-room-ge2.true, put_count read)) refl;
      held = c.loop-at.invariant.held;
    })

pub overflow_add-at : goal.overflow_add-at
overflow_add-at g c =
    let points = two_read (read_within c.loop-at.invariant.read) c.place.ensures c.in-Some.ensures in
    let few : length c.args.text.now < 2 ^ 64 = search rules in
    record { fits = omega (arith, points.3.1.within, few) }

pub loop-at-smaller-in-Some : goal.loop-at-smaller-in-Some
loop-at-smaller-in-Some g c =
    let points = two_read (read_within c.loop-at.invariant.read) c.place.ensures c.in-Some.ensures in
    omega (arith, points.1.further, points.3.1.further, points.3.3.1, c.loop-at-test.true)

pub returns-in_err-end-clause-refuses : goal.returns-in_err-end-clause-refuses
returns-in_err-end-clause-refuses g c =
    let p = err_from_is_err_and c.from_residual.result c.from_residual.ensures.1 in
    let read = c.loop-at.invariant.read in
    rw (p.1, p.2) (no_memory read _ c.in_err-end.ensures.refused
    (omega (arith, c.count.ensures, c.loop-at.invariant.held, read.few, put_count read)))

pub overflow_add-next_look : goal.overflow_add-next_look
overflow_add-next_look g c =
    let put = c.in_ok-end.ensures.read in
    let end = points_end put.ps _ _ _ _ _ (read_within c.loop-at.invariant.read) put.points in
    let few : length c.args.text.now + 256 < 2 ^ 64 = search rules in
    record { fits = omega (arith, end, few, c.apart.ensures.few) }

pub loop-at-smaller-then-text-at-ge-BLOCK : goal.loop-at-smaller-then-text-at-ge-BLOCK
loop-at-smaller-then-text-at-ge-BLOCK g c =
    let put = c.in_ok-end.ensures.read in
    let text = c.args.text.now in
    let end = points_end put.ps _ _ _ _ _ (read_within c.loop-at.invariant.read) put.points in
    let on = points_from put.ps _ _ _ _ _ put.points in
    let smaller : length text - c.in_ok-end.end + (length text - (c.in_ok-end.end + c.apart.result))
    < length text - c.loop-at.at + (length text - c.loop-at.next_look) =
    omega (arith, end, on, c.if-at-next_look.true, c.if-text-at-ge-BLOCK.true, c.apart.ensures.some) in
    smaller

pub loop-at-preserved-then-text-at-ge-BLOCK : goal.loop-at-preserved-then-text-at-ge-BLOCK
loop-at-preserved-then-text-at-ge-BLOCK g c =
    let read = c.loop-at.invariant.read in
    let put = c.in_ok-end.ensures.read in
    record {
      read = put_on put.ps read put.points
          (omega (arith, c.count.ensures, c.loop-at.invariant.held, read.few, put.few, put_count read)) put.appended;
      held = c.loop-at.invariant.held;
    }

pub returns-in_err-put_all-clause-refuses : goal.returns-in_err-put_all-clause-refuses
returns-in_err-put_all-clause-refuses g c =
    let p = err_from_is_err_and c.from_residual-in_err-put_all.result c.from_residual-in_err-put_all.ensures.1 in
    let read = c.loop-at.invariant.read in
    let points = two_read (read_within read) c.place.ensures c.in-Some.ensures in
    rw (p.1, p.2) (no_memory read 1 (short_one points.1 points.2)
    (omega (arith, c.count.ensures, c.if-room-ge2.true, put_count read)))

pub returns-in_err-point-clause-refuses : goal.returns-in_err-point-clause-refuses
returns-in_err-point-clause-refuses g c =
    let p = err_from_is_err_and c.from_residual-in_err-point.result c.from_residual-in_err-point.ensures.1 in
    let read = c.loop-at.invariant.read in
    rw (p.1, p.2) (text_refused read c.in_err-point.field-0.0 c.loop-at-test.true
    (omega (arith, c.count.ensures, c.in_ok-one_more.ensures.few, put_count read)) c.in_err-point.ensures.refused)

pub returns-in_err-put-clause-refuses : goal.returns-in_err-put-clause-refuses
returns-in_err-put-clause-refuses g c =
    let p = err_from_is_err_and c.from_residual-in_err-put.result c.from_residual-in_err-put.ensures.1 in
    let read = c.loop-at.invariant.read in
    rw (p.1, p.2) (no_memory read 1 (short_one c.in_ok-point.ensures.read c.in_ok-point.ensures.in_range)
    (omega (arith, c.count.ensures, c.in_ok-one_more.ensures.few, put_count read)))

pub returns-in_err-one_more-clause-refuses : goal.returns-in_err-one_more-clause-refuses
returns-in_err-one_more-clause-refuses g c =
    let p = err_from_is_err_and c.from_residual-in_err-one_more.result c.from_residual-in_err-one_more.ensures.1 in
    let read = c.loop-at.invariant.read in
    let full = c.in_err-one_more.ensures.full in
    rw (p.1, p.2, full.1) (one_too_many read c.loop-at-test.true
    (omega (arith, c.count.ensures, full.0, c.loop-at.invariant.held, put_count read)))

pub returns-in_err-one_more-clause-grown : goal.returns-in_err-one_more-clause-grown
returns-in_err-one_more-clause-grown g c = (c.loop-at.invariant.read.ps, c.loop-at.invariant.read.appended)

pub returns-in_err-point-clause-grown : goal.returns-in_err-point-clause-grown
returns-in_err-point-clause-grown g c = (c.loop-at.invariant.read.ps, c.loop-at.invariant.read.appended)

pub returns-in_err-put-clause-grown : goal.returns-in_err-put-clause-grown
returns-in_err-put-clause-grown g c = (
  c.loop-at.invariant.read.ps,
  c.in_err-put.ensures.same ∙ c.loop-at.invariant.read.appended,
)

pub returns-clause-decodes : goal.returns-clause-decodes
returns-clause-decodes g c = has_read_all c.loop-at.invariant.read c.loop-at-test.false

pub returns-clause-grown : goal.returns-clause-grown
returns-clause-grown g c = (c.loop-at.invariant.read.ps, c.loop-at.invariant.read.appended)
