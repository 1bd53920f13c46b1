use Rattle.std.proofs.Common.{◌≡◌, false, refl, rules}
use Rattle.twkb_io.specs.Outputs.{output_tap}
use Rattle.twkb_io.specs.Taps.{has_unflushed}
use Rattle.std.proofs.lemmas.Result.{err_from_is_err_and}
use Rattle.twkb_convert.proofs.SendingLemmas.{changes_as, flushed_err, flushed_ok, packed_with, stopped_packing}
use Rattle.twkb_convert.proofs.SendingLemmas.{drained, sends_drained, sent_none}
use Rattle.twkb_convert.proofs.packed_table.pack_counted.Goals as goal

pub returns-in_err-report-clause-err : goal.returns-in_err-report-clause-err
returns-in_err-report-clause-err g c =
    let p = err_from_is_err_and c.from_residual.result c.from_residual.ensures.1 in
    let sends = sends_drained _ _ _ c.drain-drained.ensures.drains
    (c.send_table-sending.ensures.ends c.args.limits _ _ _
    (sent_none c.new.ensures (search rules) (search rules) c.new-table.ensures)) in
    let finishes = rw (c.after_reads-answer.ensures, c.records_taken-taken.ensures)
    at c.in_err-report.ensures.finishes in
    rw (p.1, p.2) (stopped_packing g.R.Read.remaining _ _ _ _ _ _
    (changes_as c.failures-failures.result c.failures.result _ _ c.failures-failures.ensures c.failures.ensures)
    (drained _ _ _ _ c.drain-drained.ensures.drains) finishes sends (search rules) (search rules)
    (search rules) _ refl)

pub returns-in_err-report-clause-flushed : goal.returns-in_err-report-clause-flushed
returns-in_err-report-clause-flushed g c =
    let p = err_from_is_err_and c.from_residual.result c.from_residual.ensures.1 in
    let sends = sends_drained _ _ _ c.drain-drained.ensures.drains
    (c.send_table-sending.ensures.ends c.args.limits _ _ _
    (sent_none c.new.ensures (search rules) (search rules) c.new-table.ensures)) in
    let finishes = rw (c.after_reads-answer.ensures, c.records_taken-taken.ensures)
    at c.in_err-report.ensures.finishes in
    rw (p.1, p.2) (λ no_write no_read no_length.
    let held : has_unflushed (output_tap c.finish.new.output).now ≡ false = flushed_err _ _ finishes
    sends.leaves.unspent _ refl _ refl no_write no_read no_length in search rules)

pub returns-clause-ok : goal.returns-clause-ok
returns-clause-ok g c =
    let sends = sends_drained _ _ _ c.drain-drained.ensures.drains
    (c.send_table-sending.ensures.ends c.args.limits _ _ _
    (sent_none c.new.ensures (search rules) (search rules) c.new-table.ensures)) in
    let finishes = rw (c.after_reads-answer.ensures, c.records_taken-taken.ensures)
    at c.in_ok-report.ensures.finishes in
    packed_with g.R.Read.remaining _ _ _ _ _ _
    (changes_as c.failures-failures.result c.failures.result _ _ c.failures-failures.ensures c.failures.ensures)
    (drained _ _ _ _ c.drain-drained.ensures.drains) finishes sends (search rules) (search rules)
    (search rules) _ refl c.reads_fit.ensures.points c.reads_fit.ensures.nodes

pub returns-clause-flushed : goal.returns-clause-flushed
returns-clause-flushed g c =
    let sends = sends_drained _ _ _ c.drain-drained.ensures.drains
    (c.send_table-sending.ensures.ends c.args.limits _ _ _
    (sent_none c.new.ensures (search rules) (search rules) c.new-table.ensures)) in
    let finishes = rw (c.after_reads-answer.ensures, c.records_taken-taken.ensures)
    at c.in_ok-report.ensures.finishes in
    let held : has_unflushed (output_tap c.finish.new.output).now ≡ false = flushed_ok _ _ finishes
    sends.leaves.unspent _ refl _ refl in search rules
