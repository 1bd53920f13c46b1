use Rattle.std.proofs.Common.{◌≡◌, ◌≤◌, ◌-◌, length, drop}
use Rattle.twkb_csv.specs.Scan.{GoesOn, stand_of}
use Rattle.twkb_csv.proofs.scan.Scan.take_all.Given as goal

-- the bytes so far were taken
abbrev pub invariant-loop-at : goal.invariant-loop-at
invariant-loop-at l = record {
  same : l.self.column ≡ l.fn.self.column;
  within : l.at ≤ length l.bytes;
  goes : GoesOn l.fn.self.column (stand_of l.fn.self) l.fn.text.items (drop l.fn.at l.bytes)
      (stand_of l.self) l.text.items (drop l.at l.bytes);
}

abbrev pub decreases-loop-at : goal.decreases-loop-at
decreases-loop-at l = length l.bytes - l.at
