use Rattle.std.proofs.Common.{ap, refl}
use Rattle.std.proofs.lemmas.Result.{err_from_is_err_and}
use Rattle.csv.specs.Records.{fields_of}
use Rattle.twkb_table.specs.TableReading.{progress}
use Rattle.twkb_table.specs.Waiting.{is_stopped}
use Rattle.twkb_table.proofs.TableSteps.{completes_some, none_shown, reads_end, refusal_shown, row_shown}
use Rattle.twkb_table.proofs.table_reader.TableReader.next_row.Goals as goal

pub returns-then-not-branch : goal.returns-then-not-branch
returns-then-not-branch g c = (
  λ l told records given r. completes_some l g.R.Read.remaining told records given c.args.flat.now _
      c.requires.0.some (reads_end l g.R.Read.remaining told records given c.args.flat.now
      (progress c.args.self.now) r _ (fields_of c.next_record.new.last)
      (rw c.if-not-branch.true at c.in_ok-next_record.ensures) c.stop.ensures.limits
      c.stop.ensures.state),
  refl,
  ap is_stopped c.stop.ensures.state,
)

pub returns-in_err-next_record : goal.returns-in_err-next_record
returns-in_err-next_record g c =
    let p = err_from_is_err_and c.from_residual.result c.from_residual.ensures.1 in
    rw (p.1, p.2) (none_shown g.R.Read.remaining (progress c.args.self.now) c.args.flat.now _
    c.args.self.now.rows c.requires.1 c.in_err-next_record.ensures)

pub returns-in-Ok : goal.returns-in-Ok
returns-in-Ok g c = row_shown g.R.Read.remaining (progress c.args.self.now) _ c.args.flat.now
    c.read_row.new.flat c.in-Ok.more c.requires.0.some
    (rw c.if-not-branch.false at c.in_ok-next_record.ensures) c.read_row.ensures.limits
    c.in-Ok.ensures.row

pub returns-in-Err : goal.returns-in-Err
returns-in-Err g c = rw c.fault_at.ensures.value
    (refusal_shown g.R.Read.remaining (progress c.args.self.now) c.args.flat.now
    (fields_of c.next_record.new.last) _ _ c.read_row.new.self _
    (rw c.if-not-branch.false at c.in_ok-next_record.ensures)
    c.in-Err.ensures.row)
