use Rattle.twkb_command.proofs.RefusalLemmas.{prints_join}
use Rattle.twkb_command.proofs.lines.put_file.Goals as goal

pub returns : goal.returns
returns g c = prints_join g.W.Write.contents _ _ _ _ _ c.put_text.ensures c.put_text-2.ensures
