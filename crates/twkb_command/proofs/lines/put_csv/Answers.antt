use Rattle.twkb_command.proofs.RefusalLemmas.{prints_join, short_csv_line}
use Rattle.twkb_command.proofs.lines.put_csv.Goals as goal

pub returns-clause-prints : goal.returns-clause-prints
returns-clause-prints g c =
    let join = prints_join g.W.Write.contents in
    join _ _ _ _ _ c.put_text.ensures (join _ _ _ _ _ c.put_decimal.ensures.prints
    (join _ _ _ _ _ c.put_text-2.ensures (rw c.text.ensures.words at c.put_text-3.ensures)))

pub returns-clause-short : goal.returns-clause-short
returns-clause-short g c = short_csv_line c.args.number c.args.reason c.put_decimal.ensures.short c.text.ensures.short
