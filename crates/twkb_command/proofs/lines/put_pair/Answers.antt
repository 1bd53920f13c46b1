use Rattle.twkb_command.proofs.RefusalLemmas.{prints_join}
use Rattle.twkb_command.proofs.lines.put_pair.Goals as goal

pub returns : goal.returns
returns g c =
    let join = prints_join g.W.Write.contents in
    join _ _ _ _ _ c.put_text.ensures (join _ _ _ _ _ (rw c.shown.ensures at c.put_text-2.ensures)
    (join _ _ _ _ _ c.put_text-3.ensures (join _ _ _ _ _ (rw c.shown-2.ensures at c.put_text-4.ensures)
    c.put_text-5.ensures)))
