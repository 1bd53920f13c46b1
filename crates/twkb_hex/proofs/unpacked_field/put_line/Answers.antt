use Rattle.std.proofs.Common.{rules}
use Rattle.twkb_hex.proofs.BlobLemmas.{line_in, no_line_in}
use Rattle.twkb_hex.proofs.unpacked_field.put_line.Goals as goal

pub returns-clause-ok : goal.returns-clause-ok
returns-clause-ok c = line_in c.args.rows.now.flat c.row_at.result.0 c.row_at.result.1.now c.row_at.ensures.row
    c.encode_into.new.text.items (search rules) (search rules)

pub returns-then-ne-clause-err : goal.returns-then-ne-clause-err
returns-then-ne-clause-err c = no_line_in c.args.rows.now.flat c.row_at.result.0 c.row_at.result.1.now
    c.row_at.ensures.row (search rules)
