use Rattle.std.proofs.Common.{◌-◌}
use Rattle.twkb_io.specs.declared.TheConstants.{MAX_BYTES}
use Rattle.twkb_blob.specs.StreamReaders.{reader_in}
use Rattle.twkb_convert.specs.Listed.{given}
use Rattle.twkb_convert.specs.BlobsListed.{SentSoFar}
use Rattle.twkb_convert.proofs.listed_stream.list_blobs.Given as goal

-- the texts of the blobs so far were sent, and nothing was refused
abbrev pub invariant-loop-output : goal.invariant-loop-output
invariant-loop-output g l = SentSoFar g.T.BlobText.layout g.W.Write.contents (reader_in l.fn.blobs) l.fn.output
    (reader_in l.blobs) l.output l.done l.taken

-- the number of bytes that may still be given out
abbrev pub decreases-loop-output : goal.decreases-loop-output
decreases-loop-output g l = MAX_BYTES - given (reader_in l.blobs)
