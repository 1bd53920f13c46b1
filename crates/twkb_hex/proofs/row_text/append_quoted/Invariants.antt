use Rattle.std.proofs.Common.{◌≡◌, ◌++◌, ◌∷◌, take}
use Rattle.csv.specs.Writing.{escaped}
use Rattle.twkb_hex.specs.Records.{written_with}
use Rattle.twkb_hex.proofs.row_text.append_quoted.Given as goal

-- the bytes so far were appended after the first quote
abbrev pub invariant-loop-byte : goal.invariant-loop-byte
invariant-loop-byte l = l.text.items
    ≡ l.fn.text.items ++ (34 ∷ escaped (written_with l.delimiter) (take l.byte-index l.field))
