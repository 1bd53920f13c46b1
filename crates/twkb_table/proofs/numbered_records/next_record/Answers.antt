use Rattle.std.proofs.Common.{arith, refl, inl, inr}
use Rattle.std.proofs.lemmas.Result.{err_from_is_err_and}
use Rattle.csv.specs.Records.{fields_of}
use Rattle.twkb_table.proofs.numbered_records.next_record.Goals as goal

pub overflow_add-number : goal.overflow_add-number
overflow_add-number g c = omega (arith, c.from.ensures, c.if-from-ge-RECORD_CAP.false)

pub returns-then-not-branch : goal.returns-then-not-branch
returns-then-not-branch g c = (rw c.if-not-branch.true at c.in_ok-read_next.ensures, refl)

pub returns-in_err-read_next : goal.returns-in_err-read_next
returns-in_err-read_next g c =
    let p = err_from_is_err_and c.from_residual.result c.from_residual.ensures.1 in
    rw (p.1, p.2) (inl c.in_err-read_next.ensures)

pub returns-then-from-ge-RECORD_CAP : goal.returns-then-from-ge-RECORD_CAP
returns-then-from-ge-RECORD_CAP g c = inr (
  refl,
  omega (arith, c.from.ensures, c.if-from-ge-RECORD_CAP.true),
  (
    fields_of c.read_next.new.last,
    c.read_next.new.reader,
    rw c.if-not-branch.false at c.in_ok-read_next.ensures,
  ),
)

pub returns : goal.returns
returns g c = (
  rw c.if-not-branch.false at c.in_ok-read_next.ensures,
  refl,
  omega (arith, c.from.ensures, c.if-from-ge-RECORD_CAP.false),
)
