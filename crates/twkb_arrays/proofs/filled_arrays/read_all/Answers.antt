use Rattle.std.proofs.Common.{◌∙◌, ◌++◌, ap, arith, subst, sym, take}
use Rattle.std.proofs.lemmas.Bool.{true≢false}
use Rattle.twkb_tree.specs.Limits.{Allowance}
use Rattle.twkb_blob.specs.Sessions.{session_limits}
use Rattle.twkb_grammar.specs.Items.{Stream}
use Rattle.twkb_arrays.specs.FilledArrays.{IsReading, StopsReading}
use Rattle.twkb_arrays.specs.declared.taken_geometries.Taken.{Taken}
use Rattle.twkb_arrays.proofs.ReadingLemmas.{all_read, ended, finished_whole, read_to_end, read_to_stop}
use Rattle.twkb_arrays.proofs.TakingLemmas.{within}
use Rattle.twkb_arrays.proofs.filled_arrays.read_all.Goals as goal
use Rattle.twkb_arrays.proofs.filled_arrays.read_all.Goals.{else-stops-via-then-stops+else-taken-gt0}
use Rattle.twkb_arrays.proofs.filled_arrays.read_all.Goals.{else-stops-via-else-stops}

pub read_next-requires-clause-within : goal.read_next-requires-clause-within
read_next-requires-clause-within c = within c.loop-used.invariant.0.3

pub returns-in-Err : goal.returns-in-Err
returns-in-Err c =
    let blobs = c.args.blobs.now in
    let rows = c.args.row_array.now in
    let points = c.args.point_array.now in
    let ends = c.args.ends.now in
    let limits = c.loop-used.invariant.2 in
    let here = subst (λ (l : Allowance). IsReading l rows points ends (take c.loop-used.used blobs)
    c.loop-used.row_array c.loop-used.point_array c.loop-used.ends c.loop-used.session c.loop-used.taken)
    (sym limits) c.loop-used.invariant.0 in
    let r = subst (λ (l : Allowance). StopsReading l rows points ends blobs c.read_next.new.row_array
    c.read_next.new.point_array c.read_next.new.ends c.read_next.new.taken c.in-Err.fault) limits
    (c.in-Err.ensures.stops rows points ends here) in
    let same = ap (λ (t : Taken). t.passed) c.in-Err.ensures.kept in
    read_to_end blobs r.2 r.3 (λ may. same ∙ c.loop-used.invariant.3 may)

pub returns-then-taken-gt0 : goal.returns-then-taken-gt0
returns-then-taken-gt0 c =
    let l = session_limits c.args.session.now in
    let blobs = c.args.blobs.now in
    let rows = c.args.row_array.now in
    let points = c.args.point_array.now in
    let ends = c.args.ends.now in
    let limits = c.loop-used.invariant.2 in
    let here = subst (λ (l : Allowance). IsReading l rows points ends (take c.loop-used.used blobs)
    c.loop-used.row_array c.loop-used.point_array c.loop-used.ends c.loop-used.session c.loop-used.taken)
    (sym limits) c.loop-used.invariant.0 in
    let r = subst (λ (l : Allowance). IsReading l rows points ends (take c.in-Ok.next blobs)
    c.read_next.new.row_array c.read_next.new.point_array c.read_next.new.ends c.read_next.new.session
    c.read_next.new.taken) limits (c.in-Ok.ensures.reads rows points ends here) in
    let none = c.loop-used.invariant.3 c.if-stops.true in
    let whole = c.in-Ok.ensures.passes (λ same. omega (arith, c.if-taken-gt0.true, none, same)) in
    read_to_stop blobs c.in-Ok.next r.3
    (ended l (take c.in-Ok.next blobs) (r.0 ++ r.1) c.read_next.new.session c.finish.result
    (c.in-Ok.ensures.limits ∙ limits) (c.finish.ensures.finished (take c.in-Ok.next blobs) (r.0 ++ r.1) r.2))
    c.in-Ok.ensures.more.1 c.if-stops.true c.if-taken-gt0.true
    (omega (arith, c.in-Ok.ensures.one, c.loop-used.invariant.3 c.if-stops.true))
    (finished_whole l (take c.in-Ok.next blobs) (r.0 ++ r.1) whole.0 c.read_next.new.session c.finish.result
    (c.in-Ok.ensures.limits ∙ limits) (c.finish.ensures.finished (take c.in-Ok.next blobs) (r.0 ++ r.1) r.2)
    (subst (λ (m : Allowance). Stream m (take c.in-Ok.next blobs) whole.0) limits whole.1))

pub loop-used-preserved : goal.loop-used-preserved
loop-used-preserved c =
    let blobs = c.args.blobs.now in
    let rows = c.args.row_array.now in
    let points = c.args.point_array.now in
    let ends = c.args.ends.now in
    let limits = c.loop-used.invariant.2 in
    let here = subst (λ (l : Allowance). IsReading l rows points ends (take c.loop-used.used blobs)
    c.loop-used.row_array c.loop-used.point_array c.loop-used.ends c.loop-used.session c.loop-used.taken)
    (sym limits) c.loop-used.invariant.0 in
    let r = subst (λ (l : Allowance). IsReading l rows points ends (take c.in-Ok.next blobs)
    c.read_next.new.row_array c.read_next.new.point_array c.read_next.new.ends c.read_next.new.session
    c.read_next.new.taken) limits (c.in-Ok.ensures.reads rows points ends here) in (
      r,
      c.in-Ok.ensures.more.1,
      c.in-Ok.ensures.limits ∙ limits,
      λ may. elim c.else-stops.branch [
        | else-stops-via-then-stops+else-taken-gt0 w ↦ omega (arith, w.if-taken-gt0.false)
        | else-stops-via-else-stops w ↦ absurd (true≢false (sym may ∙ w.if-stops.false))
      ],
    )

pub returns : goal.returns
returns c =
    let r = c.loop-used.invariant.0 in
    all_read c.args.blobs.now c.loop-used.used c.loop-used-test.false r.3
    (ended (session_limits c.args.session.now) (take c.loop-used.used c.args.blobs.now) (r.0 ++ r.1)
    c.loop-used.session c.finish-2.result c.loop-used.invariant.2
    (c.finish-2.ensures.finished (take c.loop-used.used c.args.blobs.now) (r.0 ++ r.1) r.2))
    c.loop-used.invariant.3
