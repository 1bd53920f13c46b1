use Rattle.twkb_csv.proofs.RecordLemmas.{named_read}
use Rattle.twkb_csv.proofs.laws.named_text.Goals as goal

pub returns : goal.returns
returns c = λ column bytes records all. named_read column records all.0 bytes all.1 all.2 all.3
