use Rattle.std.proofs.lemmas.Result.{err_from_is_err_and}
use Rattle.twkb_table.specs.TableReading.{progress}
use Rattle.twkb_table.proofs.TableSteps.{begin_shown, begun_in, ends_over}
use Rattle.twkb_table.proofs.table_reader.TableReader.read_geometry.Goals as goal

pub returns-then-not-branch : goal.returns-then-not-branch
returns-then-not-branch g c =
    let (reaches, over) = rw c.if-not-branch.true at c.in_ok-find_root.ensures in (
      λ l told records given s. ends_over l g.R.Read.remaining told records given
          (progress c.find_root.new.self) over (reaches l told records given s),
      c.requires.empty,
      over,
    )

pub returns-in-Err : goal.returns-in-Err
returns-in-Err g c =
    let (reaches, waits) = rw c.if-not-branch.false at c.in_ok-find_root.ensures in
    rw c.fault_at.ensures.value (begin_shown g.R.Read.remaining c.args.self.now (progress c.find_root.new.self)
    _ c.begin.new.self c.in-Err.stop reaches c.in-Err.ensures.memory c.begin.ensures.state)

pub begin-requires : goal.begin-requires
begin-requires g c = record {
  waits = (rw c.if-not-branch.false at c.in_ok-find_root.ensures).1;
  empty = c.requires.empty;
}

pub loop-init : goal.loop-init
loop-init g c =
    let (reaches, waits) = rw c.if-not-branch.false at c.in_ok-find_root.ensures in
    record {
      keeps = c.in-Ok.ensures.keeps;
      begins = λ l told records given s. begun_in l g.R.Read.remaining told records given
          (progress c.find_root.new.self) c.begin.new.self c.begin.new.flat c.begin.ensures.limits
          (reaches l told records given s) waits c.in-Ok.ensures.put;
    }

pub returns : goal.returns
returns g c =
    let (shows, same, unspent) = rw c.if-branch.false at c.in_ok-next_row.ensures in
    rw same (
      λ l told records given s. shows l told records given (c.loop.invariant.begins l told records given s),
      c.loop.invariant.keeps.0.some,
      unspent,
    )

pub returns-in_err-next_row : goal.returns-in_err-next_row
returns-in_err-next_row g c =
    let p = err_from_is_err_and c.from_residual-in_err-next_row.result
    c.from_residual-in_err-next_row.ensures.1 in
    let (faults, marked) = c.in_err-next_row.ensures in
    rw (p.1, p.2) (
      λ l told records given s. faults l told records given
          (c.loop.invariant.begins l told records given s),
      marked,
    )
