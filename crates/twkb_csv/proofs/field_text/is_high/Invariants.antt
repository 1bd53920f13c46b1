use Rattle.std.proofs.Common.{◌≡◌, ◌≤◌, false, take}
use Rattle.csv.specs.Writing.{default_writer, needs_quotes}
use Rattle.twkb_csv.proofs.field_text.is_high.Given as goal

-- if no byte so far is low, those so far need no quotes
abbrev pub invariant-loop-byte : goal.invariant-loop-byte
invariant-loop-byte l = 45 ≤ l.least → needs_quotes default_writer (take l.byte-index l.field) ≡ false
