use Rattle.twkb_records.proofs.RecordLemmas.{given_next}
use Rattle.twkb_records.proofs.records.read_next.Goals as goal

pub returns : goal.returns
returns g c = given_next g.R.Read.remaining c.args.reader.now c.read_byte_record.new.self _
    c.in-Ok.found
    c.in-Ok.ensures.ready c.in-Ok.ensures.flexible c.in-Ok.ensures.reads
