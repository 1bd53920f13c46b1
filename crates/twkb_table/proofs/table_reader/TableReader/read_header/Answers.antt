use Rattle.std.proofs.Common.{[], ◌∙◌, ap, false, refl}
use Rattle.std.proofs.lemmas.Bool.{false≢true}
use Rattle.csv.specs.Records.{fields_of}
use Rattle.twkb_table.specs.TableReading.{progress}
use Rattle.twkb_table.specs.Waiting.{is_stopped, waiting_rows}
use Rattle.twkb_table.proofs.RowReaderLemmas.{row_place_begins}
use Rattle.twkb_table.proofs.TableSteps.{fresh, no_header, other_header, the_header}
use Rattle.twkb_table.proofs.table_reader.TableReader.read_header.Goals as goal
use Rattle.twkb_table.proofs.table_reader.TableReader.read_header.Goals.{
  then-not-branch-via-then-not-branch,
  then-not-branch-via-else-not-branch+then-not-is_header,
}

pub returns-then-not-branch : goal.returns-then-not-branch
returns-then-not-branch g c = rw c.fault_at.ensures.value (
  λ l told records given s. (let (none, before, source) = fresh l g.R.Read.remaining told records
      given (progress c.args.self.now) c.requires s in
      elim c.then-not-branch.branch [
        | then-not-branch-via-then-not-branch w ↦
            no_header l told records given none before
            ((rw w.if-not-branch.true at c.in_ok-read_next.ensures) told [] source)
        | then-not-branch-via-else-not-branch+then-not-is_header w ↦
            other_header l told records given (fields_of c.read_next.new.last) none before
            (row_place_begins g.R.Read.remaining told _ false _
            ((rw w.if-not-branch.false at c.in_ok-read_next.ensures) told [] source))
            (λ e. false≢true (w.if-not-is_header.ensures.1 e))
      ]),
  (λ e. cc e, ap is_stopped c.stop.ensures.state),
)

pub returns : goal.returns
returns g c =
    let none = ap (λ s. waiting_rows s c.stop.new.self.points.items) c.stop.ensures.state in (
      λ l told records given s. (let (no_record, before, source) = fresh l g.R.Read.remaining told
          records given
          (progress c.args.self.now) c.requires s in
          the_header l g.R.Read.remaining told records given (fields_of c.read_next.new.last) _ none
          no_record before
          ((rw c.if-not-branch.false at c.in_ok-read_next.ensures) told [] source)
          (c.is_header.ensures.0 c.if-not-is_header.false) refl (c.stop.ensures.limits ∙ s.limits)),
      none,
    )
