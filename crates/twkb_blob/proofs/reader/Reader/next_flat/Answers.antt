use Rattle.twkb_blob.proofs.Answering.{rows_read}
use Rattle.twkb_blob.proofs.reader.Reader.next_flat.Goals as goal

pub returns : goal.returns
returns g c = rows_read c.read_with.ensures.shared c.read_with.ensures.into c.read_with.ensures.cleared
