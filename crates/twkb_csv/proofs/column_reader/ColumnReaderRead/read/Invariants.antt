use Rattle.std.specs.Io.KnownBytes.{Keeps}
use Rattle.twkb_csv.specs.Reading.{left_of, under}
use Rattle.twkb_csv.proofs.column_reader.ColumnReaderRead.read.Given as goal

-- the text that is left is the same
abbrev pub invariant-loop-turn : goal.invariant-loop-turn
invariant-loop-turn g l = Keeps (left_of (g.R.Read.remaining (under l.fn.self)) l.fn.self)
    (left_of (g.R.Read.remaining (under l.self)) l.self)
