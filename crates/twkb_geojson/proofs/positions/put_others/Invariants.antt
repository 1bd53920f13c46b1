-- The positions so far were appended.
use Rattle.std.proofs.Common.{◌≡◌, ◌++◌, take}
use Rattle.twkb_geojson.specs.Value.{position}
use Rattle.twkb_geojson.specs.Text.{after_commas, Grows}
use Rattle.twkb_geojson.proofs.positions.put_others.Given as goal

abbrev pub invariant-loop-point : goal.invariant-loop-point
invariant-loop-point l =
    record {
      put : l.text.items ++ l.piece
          ≡ (l.fn.text.items ++ l.fn.piece) ++ after_commas (position l.precision) (take l.point-index l.points);
      grown : Grows l.fn.text.items l.text.items;
    }
