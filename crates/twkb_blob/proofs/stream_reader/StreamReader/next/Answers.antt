use Rattle.twkb_blob.proofs.Answering.{rows_read}
use Rattle.twkb_blob.proofs.stream_reader.StreamReader.next.Goals as goal

pub returns : goal.returns
returns g c = rows_read c.feed_from.ensures.shared c.feed_from.ensures.into c.feed_from.ensures.cleared
