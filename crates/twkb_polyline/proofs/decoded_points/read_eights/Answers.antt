use Rattle.std.proofs.Common.{◌∙◌, ◌<◌, ◌^◌, arith, rules, length, drop}
use Rattle.std.proofs.lemmas.Result.{err_from_is_err_and}
use Rattle.twkb_num.proofs.BlockLemmas.{ends_after, no_ends}
use Rattle.twkb_polyline.proofs.TextLemmas.{points_end, put_fewer, put_none, put_on, rest_read, short_on}
use Rattle.twkb_polyline.proofs.decoded_points.read_eights.Goals as goal

pub loop-left-init : goal.loop-left-init
loop-left-init g c = record {
  put = put_none;
  fits = omega arith;
  within = c.requires;
  ends = no_ends 63 32 (drop c.args.start c.args.text.now) (omega arith);
}

pub returns-in_err-put_all-clause-refused : goal.returns-in_err-put_all-clause-refused
returns-in_err-put_all-clause-refused g c =
    let eight = c.in-Some.ensures in
    let inv = c.loop-left.invariant in
    let read = rest_read c.in-Some.eight.points _ _ _ _ _ inv.within (rw c.place.ensures at eight.points)
    (rw c.place.ensures at eight.last) in
    let p = err_from_is_err_and c.from_residual.result c.from_residual.ensures.1 in
    rw p.1 (short_on c.in-Some.eight.points _ _ inv.put read (omega (arith, eight.count))
    (omega (arith, eight.count, inv.fits, inv.put.few, c.loop-left-test.true)))

pub returns-in_err-put_all-clause-grown : goal.returns-in_err-put_all-clause-grown
returns-in_err-put_all-clause-grown g c = (
  c.loop-left.invariant.put.ps,
  c.in_err-put_all.ensures.same ∙ c.loop-left.invariant.put.appended,
)

pub overflow_add-at : goal.overflow_add-at
overflow_add-at g c =
    let eight = c.in-Some.ensures in
    let inv = c.loop-left.invariant in
    let end = points_end c.in-Some.eight.points _ _ _ _ _ inv.within
    (rest_read c.in-Some.eight.points _ _ _ _ _ inv.within eight.points eight.last) in
    let few : length c.args.text.now < 2 ^ 64 = search rules in
    record { fits = omega arith }

pub loop-left-preserved : goal.loop-left-preserved
loop-left-preserved g c =
    let eight = c.in-Some.ensures in
    let inv = c.loop-left.invariant in
    let read = rest_read c.in-Some.eight.points _ _ _ _ _ inv.within (rw c.place.ensures at eight.points)
    (rw c.place.ensures at eight.last) in
    rw c.go.ensures (record {
      put = put_on c.in-Some.eight.points inv.put read
          (omega (arith, eight.count, inv.fits, inv.put.few, c.loop-left-test.true)) c.in_ok-put_all.ensures.appended;
      fits = omega (arith, inv.fits);
      within = points_end c.in-Some.eight.points _ _ _ _ _ inv.within read;
      ends = ends_after 63 32 c.args.text.now c.in-Some.eight.ends c.loop-left.at c.in-Some.eight.used eight.rest;
    })

pub returns-in_default-clause-read : goal.returns-in_default-clause-read
returns-in_default-clause-read g c = put_fewer c.loop-left.invariant.put (omega arith)

pub returns-in_default-clause-grown : goal.returns-in_default-clause-grown
returns-in_default-clause-grown g c = (c.loop-left.invariant.put.ps, c.loop-left.invariant.put.appended)

pub returns-after-loop-left-clause-read : goal.returns-after-loop-left-clause-read
returns-after-loop-left-clause-read g c = put_fewer c.loop-left.invariant.put (omega arith)

pub returns-after-loop-left-clause-grown : goal.returns-after-loop-left-clause-grown
returns-after-loop-left-clause-grown g c = (c.loop-left.invariant.put.ps, c.loop-left.invariant.put.appended)
