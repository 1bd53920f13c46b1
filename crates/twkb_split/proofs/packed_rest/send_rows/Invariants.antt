use Rattle.std.proofs.Common.{List, ℕ}
use Rattle.std.specs.Prelude.{Option}
use Rattle.twkb_io.specs.Bytes.{bytes_of}
use Rattle.twkb_io.specs.declared.output.Output.{Output}
use Rattle.twkb_split.specs.Sending.{StandsAt}
use Rattle.twkb_split.proofs.packed_rest.send_rows.Given as goal

-- the pieces so far were sent, but for one that waits
abbrev pub invariant-loop-number : goal.invariant-loop-number
invariant-loop-number g l = (told : Option (List ℕ)) (first : Output g.row.W.Denot) (rest_first : Output g.row.V.Denot)
    → StandsAt l.packing l.place l.width g.R.Read.remaining g.W.Write.contents g.V.Write.contents told l.fn.csv first
    l.fn.blobs rest_first l.fn.rest 2 l.fn.done l.fn.rows.waiting.text.items (bytes_of l.fn.rows.waiting.blob)
    → StandsAt l.packing l.place l.width g.R.Read.remaining g.W.Write.contents g.V.Write.contents told l.csv first
    l.blobs rest_first l.rest l.number l.done l.rows.waiting.text.items (bytes_of l.rows.waiting.blob)
