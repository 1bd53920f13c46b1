use Rattle.twkb_hex.proofs.RecordLemmas.{given_next}
use Rattle.twkb_hex.proofs.records.read_next.Goals as goal

pub returns-clause-ok : goal.returns-clause-ok
returns-clause-ok g c = given_next g.R.Read.remaining c.args.reader.now c.read_byte_record.new.self _
    c.in-Ok.found
    c.in-Ok.ensures.ready c.in-Ok.ensures.flexible c.in-Ok.ensures.reads
