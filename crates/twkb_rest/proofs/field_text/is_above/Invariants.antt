use Rattle.std.proofs.Common.{◌≡◌, ◌<◌, false, take}
use Rattle.csv.specs.Writing.{needs_quotes}
use Rattle.twkb_rest.specs.Written.{written_with}
use Rattle.twkb_rest.proofs.field_text.is_above.Given as goal

-- if no byte so far is low, those so far need no quotes
abbrev pub invariant-loop-byte : goal.invariant-loop-byte
invariant-loop-byte l = l.delimiter < l.least → 34 < l.least
    → needs_quotes (written_with l.delimiter) (take l.byte-index l.field) ≡ false
