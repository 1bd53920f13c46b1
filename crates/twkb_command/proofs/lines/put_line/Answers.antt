use Rattle.twkb_command.proofs.RefusalLemmas.{prints_join, short_line}
use Rattle.twkb_command.specs.CommandLine.{name_in}
use Rattle.twkb_command.proofs.lines.put_line.Goals as goal

pub returns-clause-prints : goal.returns-clause-prints
returns-clause-prints g c =
    let join = prints_join g.W.Write.contents in
    join _ _ _ _ _ c.put_text.ensures (join _ _ _ _ _ c.put_name.ensures
    (join _ _ _ _ _ c.put_stop.ensures.prints c.put_text-2.ensures))

pub returns-clause-short : goal.returns-clause-short
returns-clause-short g c = short_line (name_in c.args.name) c.args.stop c.put_stop.ensures.short
