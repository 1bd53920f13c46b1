use Rattle.std.proofs.Common.{◌≡◌, false, take}
use Rattle.csv.specs.Writing.{default_writer, needs_quotes}
use Rattle.twkb_csv.proofs.field_text.needs_quotes.Given as goal

-- the bytes so far need no quotes
abbrev pub invariant-loop-byte : goal.invariant-loop-byte
invariant-loop-byte l = needs_quotes default_writer (take l.byte-index l.field) ≡ false
