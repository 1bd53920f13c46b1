use Rattle.std.proofs.Common.{◌∙◌, arith}
use Rattle.twkb_csv.proofs.MarkLemmas.{consumes_kept}
use Rattle.twkb_csv.proofs.ScanLemmas.{ended_end}
use Rattle.twkb_csv.proofs.column_reader.ColumnReaderRead.read.Goals as goal
use Rattle.twkb_csv.proofs.column_reader.ColumnReaderRead.read.Goals.{then-self-len-via-else-self-len+then-self}
use Rattle.twkb_csv.proofs.column_reader.ColumnReaderRead.read.Goals.{then-self-len-via-then-self-len}

pub returns-then-self-len-clause-bytes : goal.returns-then-self-len-clause-bytes
returns-then-self-len-clause-bytes g c =
    let given = consumes_kept _ _ _ _ c.loop-turn.invariant c.give.ensures.gives in
    elim c.then-self-len.branch [
      | then-self-len-via-then-self-len w ↦ (
        given,
        λ zero some. absurd (omega (arith, w.if-self-len.true, c.len.ensures, c.give.ensures.none zero some)),
      )
      | then-self-len-via-else-self-len+then-self w ↦ (
        given,
        λ zero some. ended_end _ _ _ _ (c.give.ensures.ended ∙ w.if-self.true) (c.give.ensures.end zero some),
      )
    ]
