use Rattle.std.proofs.Common.{◌≡◌, ◌++◌, take}
use Rattle.csv.specs.Records.{fields_of}
use Rattle.csv.specs.Writing.{row_body}
use Rattle.twkb_hex.specs.Records.{written_with}
use Rattle.twkb_hex.specs.Rows.{replaced}
use Rattle.twkb_hex.proofs.row_text.append_fields.Given as goal

-- the fields so far were appended
abbrev pub invariant-loop-index : goal.invariant-loop-index
invariant-loop-index l = l.text.items ≡ l.fn.text.items
    ++ row_body (written_with l.delimiter) (take l.index (replaced l.place l.made (fields_of l.row)))
