use Rattle.twkb_table.proofs.RowReaderLemmas.{given_next}
use Rattle.twkb_table.proofs.numbered_records.read_next.Goals as goal

pub returns : goal.returns
returns g c = given_next g.R.Read.remaining c.args.reader.now c.read_byte_record.new.self _
    c.in-Ok.found
    c.in-Ok.ensures.ready c.in-Ok.ensures.flexible c.in-Ok.ensures.reads
