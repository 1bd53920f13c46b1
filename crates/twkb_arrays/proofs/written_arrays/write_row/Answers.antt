use Rattle.std.proofs.Common.{◌∙◌, List, ap, arith, drop, refl, subst, sym, take}
use Rattle.twkb_arrays.specs.JudgedRow.{BeginWithRoot, IsMadeFirst}
use Rattle.twkb_arrays.specs.declared.row.BufferRow.{BufferRow}
use Rattle.twkb_arrays.specs.SentBlobs.{blob_in}
use Rattle.twkb_arrays.specs.declared.writer.Writer.{Writer}
use Rattle.twkb_arrays.proofs.WritingLemmas.{first_alone, first_closes, first_has_bytes, first_is_root, first_made}
use Rattle.twkb_arrays.proofs.WritingLemmas.{first_written, lacks_memory, row_not_read, row_read, stopped_before}
use Rattle.twkb_arrays.proofs.WritingLemmas.{some_pushed, stopped_first}
use Rattle.twkb_arrays.proofs.written_arrays.write_row.Goals as goal

pub returns-in_default-clause-stops : goal.returns-in_default-clause-stops
returns-in_default-clause-stops c = (
  λ may. omega (arith, c.requires.on may, ap (λ (x : Writer). x.sent.passed) c.in_default.ensures.same),
  λ start start_ends in_rows in_points many w was.
      lacks_memory c.end_before.new.self w many c.args.rows.now c.args.ahead.now c.in_default.ensures.same_output.0
      c.in_default.ensures.same_output.1 (ap (λ (x : Writer). x.sent) c.in_default.ensures.same)
      (ap (λ (x : Writer). x.open_geometry) c.in_default.ensures.same),
)

pub returns-then-not-goes_on-clause-full : goal.returns-then-not-goes_on-clause-full
returns-then-not-goes_on-clause-full c = λ none.
    let off = c.in-Ok.ensures.off c.if-not-goes_on.true in
    stopped_before c.args.rows.now c.args.ahead.now off (omega (arith, c.in-Ok.ensures.one, c.requires.on off.0))
    c.in-Ok.ensures.ended

pub send-requires-clause-some : goal.send-requires-clause-some
send-requires-clause-some c =
    let first : IsMadeFirst c.args.limits.now c.args.style c.args.rows.now c.args.ahead.now c.in-Ok-Some.count
    (blob_in c.make_first.new.room) = first_made c.in-Ok-Some.field-0-is refl c.in-Ok-Some.ensures in
    first_has_bytes first

pub push_judged-requires-clause-valid : goal.push_judged-requires-clause-valid
push_judged-requires-clause-valid c = c.in-Ok.ensures.valid c.args.limits.now c.requires.valid

pub returns-then-send-clause-reads : goal.returns-then-send-clause-reads
returns-then-send-clause-reads c =
    let first : IsMadeFirst c.args.limits.now c.args.style c.args.rows.now c.args.ahead.now c.in-Ok-Some.count
    (blob_in c.make_first.new.room) = first_made c.in-Ok-Some.field-0-is refl c.in-Ok-Some.ensures in
    let enough = first.made.accepted.3 in record {
      few = omega (arith, enough, first.made.count_is);
      closed = λ none. subst (λ (rows : List BufferRow). BeginWithRoot (drop 1 rows)) (sym first.rows_are) first.whole;
      reads = first_written first c.args.read c.args.output.now c.args.ends.now c.end_before.new.output
          c.end_before.new.ends
          _ _ c.args.writer.now c.end_before.new.self _ c.in-Ok.ensures.ended
          (λ root. c.in-Ok.ensures.closed (first_is_root c.args.rows.now _ _ refl root))
          c.if-send.ensures.sends (ap (λ (w : Writer). w.open_geometry) c.if-send.ensures.same);
      on = c.if-send.ensures.on refl;
    }

pub returns-else-send-clause-full : goal.returns-else-send-clause-full
returns-else-send-clause-full c = λ none.
    let first : IsMadeFirst c.args.limits.now c.args.style c.args.rows.now c.args.ahead.now c.in-Ok-Some.count
    (blob_in c.make_first.new.room) = first_made c.in-Ok-Some.field-0-is refl c.in-Ok-Some.ensures in
    let same = ap (λ (w : Writer). w.open_geometry) c.if-send.ensures.same in
    let off = c.if-send.ensures.off refl in
    stopped_first first c.requires.some off
    (omega (arith, c.if-send.ensures.one, c.in-Ok.ensures.on c.if-not-goes_on.false off.0))
    (same ∙ first_closes first (λ root. c.in-Ok.ensures.closed (first_is_root c.args.rows.now _ _ refl root)))
    (first_written first c.args.read c.args.output.now c.args.ends.now c.end_before.new.output
    c.end_before.new.ends _ _ c.args.writer.now c.end_before.new.self _ c.in-Ok.ensures.ended
    (λ root. c.in-Ok.ensures.closed (first_is_root c.args.rows.now _ _ refl root)) c.if-send.ensures.sends same)

pub returns-in-Ok-push_judged-clause-reads : goal.returns-in-Ok-push_judged-clause-reads
returns-in-Ok-push_judged-clause-reads c = let pushed = c.in-Ok-push_judged.ensures.pushed in record {
  few = c.in-Ok-push_judged.ensures.count.0;
  closed = λ none. absurd (some_pushed c.end_before.new.self.open_geometry _ pushed.0 pushed.1 none);
  reads = row_read c.args.limits.now c.args.style c.args.read c.args.output.now c.args.ends.now c.end_before.new.output
      c.end_before.new.ends c.args.writer.now c.end_before.new.self _ c.args.rows.now _ c.args.ahead.now _
      (first_alone c.args.rows.now _ _ c.requires.some refl) c.in-Ok.ensures.ended c.in-Ok-push_judged.ensures.count
      pushed refl;
  on = c.in-Ok.ensures.on c.if-not-goes_on.false;
}

pub returns-in-Err-push_judged-clause-stops : goal.returns-in-Err-push_judged-clause-stops
returns-in-Err-push_judged-clause-stops c = (
  λ may. omega (arith, c.in-Ok.ensures.on c.if-not-goes_on.false may),
  row_not_read c.args.limits.now c.args.style c.args.read c.args.output.now c.args.ends.now
      c.end_before.new.output c.end_before.new.ends c.args.writer.now c.end_before.new.self
      (record c.end_before.new.self { open_geometry = c.push_judged.new.form }) _ _ c.args.rows.now c.args.ahead.now
      c.in-Err-push_judged.stop c.requires.some refl c.in-Ok.ensures.ended refl c.in-Err-push_judged.ensures.same
      c.in-Ok.ensures.closed c.in-Ok.ensures.kept c.in-Err-push_judged.ensures.refused,
)

pub returns-in-Err-clause-stops : goal.returns-in-Err-clause-stops
returns-in-Err-clause-stops c = (
  λ may. omega (arith, c.in-Ok.ensures.on c.if-not-goes_on.false may),
  λ start start_ends in_rows in_points many w was.
      lacks_memory c.end_before.new.self
      (c.in-Ok.ensures.ended c.args.limits.now start start_ends in_rows in_points many w) many c.args.rows.now
      c.args.ahead.now refl refl refl refl,
)
