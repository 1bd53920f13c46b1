use Rattle.std.proofs.Common.{[], ◌∷◌, ap, arith}
use Rattle.csv.specs.Records.{fields_of}
use Rattle.twkb_table.specs.RowReading.{limits_of, waiting}
use Rattle.twkb_table.specs.TableReading.{progress}
use Rattle.twkb_table.specs.Waiting.{is_over}
use Rattle.twkb_table.proofs.TableSteps.{none_shown, reads_end, reads_root, refusal_shown, root_waits}
use Rattle.twkb_table.proofs.table_reader.TableReader.next_root.Goals as goal

pub returns-in-Ok-false : goal.returns-in-Ok-false
returns-in-Ok-false g c = (
  λ l told records given r. reads_end l g.R.Read.remaining told records given
      (waiting c.args.self.now.rows)
      (progress c.args.self.now) r _ (fields_of c.next_record.new.last)
      (rw c.in-Ok-false.field-0-test at c.in-Ok-false.ensures) c.stop.ensures.limits
      c.stop.ensures.state,
  ap is_over c.stop.ensures.state,
)

pub returns-in-Err : goal.returns-in-Err
returns-in-Err g c = none_shown g.R.Read.remaining (progress c.args.self.now)
    (waiting c.args.self.now.rows)
    c.in-Err.fault c.stop-in-Err.new.self c.stop-in-Err.ensures.state c.in-Err.ensures

pub returns-in-Ok : goal.returns-in-Ok
returns-in-Ok g c = (
  λ l told records given r. reads_root l g.R.Read.remaining told records given
      (waiting c.args.self.now.rows)
      (progress c.args.self.now) r _ (rw c.in-Ok-true.field-0-test at c.in-Ok-true.ensures)
      c.read_root.ensures.limits c.in-Ok.ensures.root,
  (root_waits (limits_of c.args.self.now.rows) c.read_root.new.self.state c.read_root.new.self.points.items
      (fields_of c.next_record.new.last) (c.in-Ok.ensures.root.row ∷ []) 0 c.in-Ok.ensures.root.waits
      (omega arith)).3,
)

pub returns-in-Err-read_root : goal.returns-in-Err-read_root
returns-in-Err-read_root g c = rw c.fault_at.ensures.value
    (refusal_shown g.R.Read.remaining (progress c.args.self.now) (waiting c.args.self.now.rows)
    (fields_of c.next_record.new.last) _ _ c.read_root.new.self _
    (rw c.in-Ok-true.field-0-test at c.in-Ok-true.ensures) c.in-Err-read_root.ensures.root)
