-- The digits so far are those of the number, which is an i64 and not 0.
use Rattle.std.proofs.Common.{◌≡◌, ◌<◌, ◌^◌, take, decimal}
use Rattle.twkb_table.proofs.decimal.digits_of.Given as goal

abbrev pub invariant-loop-at : goal.invariant-loop-at
invariant-loop-at l =
    record {
      spelled : decimal l.number ≡ take l.at l.field;
      some : 0 < l.number;
      fits : l.number < 2 ^ 63;
    }
