-- The characters so far all go on, and the shift is that of the next group.
use Rattle.std.proofs.Common.{◌≡◌, ◌*◌, ◌≤◌, length}
use Rattle.twkb_polyline.specs.Reading.{IsBegun}
use Rattle.twkb_polyline.proofs.whole.long_number.Given as goal

abbrev pub invariant-loop-at : goal.invariant-loop-at
invariant-loop-at l =
    record {
      begun : IsBegun l.text l.start l.at l.value;
      shift_is : l.shift ≡ 5 * length begun.groups;
      some : 1 ≤ length begun.groups;
    }
