use Rattle.std.proofs.Common.{List, [], ℕ}
use Rattle.std.specs.Prelude.{Option}
use Rattle.twkb_io.specs.declared.output.Output.{Output}
use Rattle.twkb_hex.specs.Fields.{Unpacked}
use Rattle.twkb_hex.specs.Sending.{StandsAt}
use Rattle.twkb_hex.proofs.unpacked_records.send_rows.Given as goal

-- the records so far were sent
abbrev pub invariant-loop-number : goal.invariant-loop-number
invariant-loop-number g l = (told : Option (List ℕ)) (first : Output g.row.W.Denot)
    → StandsAt (Unpacked l.unpacking l.limits) l.place l.width g.R.Read.remaining g.W.Write.contents told l.fn.csv
    first l.fn.output 2 l.fn.done []
    → StandsAt (Unpacked l.unpacking l.limits) l.place l.width g.R.Read.remaining g.W.Write.contents told l.csv first
    l.output l.number l.done []
