use Rattle.std.proofs.Common.{◌∙◌, ◌++◌, [], ap, arith, ◌≤◌, length}
use Rattle.csv.specs.Writing.{row_text}
use Rattle.csv.specs.Records.{fields_of}
use Rattle.twkb_csv.specs.Named.{Record}
use Rattle.twkb_hex.specs.Records.{written_with}
use Rattle.twkb_hex.specs.Rows.{replaced}
use Rattle.twkb_hex.proofs.TextLemmas.{replaced_past, row_alone}
use Rattle.twkb_hex.proofs.header.put_header.Goals as goal

pub returns-clause-own : goal.returns-clause-own
returns-clause-own c =
    let past : length (fields_of c.args.header.now) ≤ c.len.result = omega (arith, c.len.ensures) in
    row_alone c.args.delimiter _ _ (replaced c.len.result [] (fields_of c.args.header.now)) c.clear.ensures.items
    c.in_ok-append_row.ensures
    ∙ ap (λ (fs : Record). row_text (written_with c.args.delimiter) fs ++ [])
    (replaced_past c.len.result [] (fields_of c.args.header.now) past)
