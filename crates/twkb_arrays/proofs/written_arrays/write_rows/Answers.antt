use Rattle.std.proofs.Common.{◌<◌, ◌≤◌, arith, inl, inr, length, subst, sym, take}
use Rattle.std.proofs.lemmas.List.{drop-drop, length-take-le, take_rest}
use Rattle.twkb_arrays.specs.JudgedRow.{BeginWithRoot}
use Rattle.twkb_arrays.proofs.ArrayLemmas.{length-rest_of, parts_join, some_more}
use Rattle.twkb_arrays.proofs.WritingLemmas.{sent_within}
use Rattle.twkb_arrays.proofs.WrittenLemmas.{wrote_to_halt, wrote_to_stop}
use Rattle.twkb_arrays.proofs.written_arrays.write_rows.Goals as goal

pub write_row-requires : goal.write_row-requires
write_row-requires c =
    let here = c.loop-at.invariant.0 in
    let left = length-rest_of c.args.rows.now c.loop-at.at in record {
      some = omega (arith, left);
      within = sent_within here.sent;
      on = c.loop-at.invariant.3;
      valid = here.read.begun_valid;
    }

pub returns-in-Ok-None-clause-early : goal.returns-in-Ok-None-clause-early
returns-in-Ok-None-clause-early c =
    let full = c.in-Ok-None.ensures.full c.in-Ok-None.field-0-is in
    wrote_to_stop c.args.rows.now c.args.points.now c.loop-at.at c.loop-at.used (omega arith) c.loop-at.invariant.1
    c.loop-at.invariant.0 full
    full.one

pub returns-in-Err-clause-early : goal.returns-in-Err-clause-early
returns-in-Err-clause-early c =
    let rows = c.args.rows.now in
    let points = c.args.points.now in
    let i = c.loop-at.at in
    let n = c.loop-at.used in
    let some : i ≤ length rows = omega arith in
    rw c.at_row.ensures
    (wrote_to_halt c.write_row.new.writer c.note.new.self rows points
    (rw (parts_join rows i, parts_join points n, length-take-le i rows some) at
    (c.in-Err.ensures.stops.1 c.args.output.now c.args.ends.now (take i rows) (take n points)
    (sym (length-take-le i rows some), sym (length-take-le n points c.loop-at.invariant.1)) c.loop-at.invariant.0
    (λ closed. elim (c.loop-at.invariant.2 closed) [
      | inl none ↦ inl none
      | inr root ↦ inr (subst BeginWithRoot (sym (take_rest rows i)) root)
    ]))) c.note.ensures.marks
    (λ may. omega (arith, c.note.ensures.passed, c.in-Err.ensures.stops.0 may)))

pub loop-at-preserved : goal.loop-at-preserved
loop-at-preserved c =
    let rows = c.args.rows.now in
    let points = c.args.points.now in
    let i = c.loop-at.at in
    let n = c.loop-at.used in
    let some : i ≤ length rows = omega arith in
    let found = c.in-Ok-Some.field-0-is in
    let row = rw found at c.in-Ok-Some.ensures.reads in
    let few = row.few in
    let left = length-rest_of points n in rw found (
      rw (some_more rows i 1, some_more points n c.in-Ok-Some.count) at
          (row.reads c.args.output.now c.args.ends.now (take i rows) (take n points)
          (sym (length-take-le i rows some), sym (length-take-le n points c.loop-at.invariant.1))
          c.loop-at.invariant.0),
      omega (arith, few, left, c.loop-at.invariant.1),
      λ none. inr (rw (take_rest rows i, drop-drop 1 i rows) at (row.closed none)),
      row.on,
    )
