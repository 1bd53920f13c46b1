use Rattle.std.proofs.Common.{◌≡◌, false, take}
use Rattle.csv.specs.Writing.{needs_quotes}
use Rattle.twkb_hex.specs.Records.{written_with}
use Rattle.twkb_hex.proofs.row_text.needs_quotes.Given as goal

-- the bytes so far need no quotes
abbrev pub invariant-loop-byte : goal.invariant-loop-byte
invariant-loop-byte l = needs_quotes (written_with l.delimiter) (take l.byte-index l.field) ≡ false
