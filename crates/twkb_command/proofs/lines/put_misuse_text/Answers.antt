use Rattle.twkb_command.proofs.RefusalLemmas.{prints_join, short_misuse}
use Rattle.twkb_command.proofs.lines.put_misuse_text.Goals as goal

pub returns-clause-prints : goal.returns-clause-prints
returns-clause-prints g c = prints_join g.W.Write.contents _ _ _ _ _ c.put_misuse.ensures c.put_flushed.ensures

pub returns-clause-short : goal.returns-clause-short
returns-clause-short g c = short_misuse c.args.misuse
