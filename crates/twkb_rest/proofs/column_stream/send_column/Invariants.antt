use Rattle.std.proofs.Common.{◌-◌}
use Rattle.twkb_io.specs.declared.TheConstants.{MAX_BYTES}
use Rattle.twkb_blob.specs.StreamReaders.{reader_in}
use Rattle.twkb_convert.specs.Listed.{given}
use Rattle.twkb_rest.specs.Lines.{SentSoFar}
use Rattle.twkb_rest.proofs.column_stream.send_column.Given as goal

-- the records of the linestrings so far were sent, and nothing was refused
abbrev pub invariant-loop-reason : goal.invariant-loop-reason
invariant-loop-reason g l = SentSoFar l.delimiter l.name g.W.Write.contents (reader_in l.fn.blobs) l.fn.output
    l.lines.first (reader_in l.blobs) l.output l.done l.taken

-- the number of bytes that may still be given out
abbrev pub decreases-loop-reason : goal.decreases-loop-reason
decreases-loop-reason g l = MAX_BYTES - given (reader_in l.blobs)
