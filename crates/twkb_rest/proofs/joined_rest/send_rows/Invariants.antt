use Rattle.std.proofs.Common.{List, ℕ}
use Rattle.std.specs.Prelude.{None, Option}
use Rattle.twkb_blob.specs.StreamReaders.{reader_in}
use Rattle.twkb_convert.specs.Listed.{IsBetween}
use Rattle.twkb_io.specs.declared.output.Output.{Output}
use Rattle.twkb_rest.specs.JoinSending.{SentJoined}
use Rattle.twkb_rest.proofs.joined_rest.send_rows.Given as goal

-- the records so far were joined and sent
abbrev pub invariant-loop-number : goal.invariant-loop-number
invariant-loop-number g l = IsBetween (reader_in l.blobs)
    × ((name : List ℕ) (told : Option (List ℕ)) (first : Output g.row.W.Denot)
    → SentJoined name l.column g.Q.Read.remaining told g.W.Write.contents (reader_in l.fn.blobs) first l.fn.csv None
    (reader_in l.fn.blobs) l.fn.output 2 l.fn.done l.fn.taken
    → SentJoined name l.column g.Q.Read.remaining told g.W.Write.contents (reader_in l.fn.blobs) first l.csv
    l.lines.first (reader_in l.blobs) l.output l.number l.done l.taken)
