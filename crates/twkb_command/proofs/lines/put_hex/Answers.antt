use Rattle.twkb_command.proofs.RefusalLemmas.{prints_join, short_hex_line}
use Rattle.twkb_command.proofs.lines.put_hex.Goals as goal

pub returns-clause-prints : goal.returns-clause-prints
returns-clause-prints g c =
    let join = prints_join g.W.Write.contents in
    join _ _ _ _ _ c.put_text.ensures (join _ _ _ _ _ c.put_decimal.ensures.prints
    (join _ _ _ _ _ c.put_text-2.ensures c.put_hex_reason.ensures.prints))

pub returns-clause-short : goal.returns-clause-short
returns-clause-short g c = short_hex_line c.args.number c.args.reason c.put_decimal.ensures.short
    c.put_hex_reason.ensures.short
