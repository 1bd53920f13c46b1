-- The elements so far were appended.
use Rattle.twkb_geojson.specs.Value.{lists}
use Rattle.twkb_geojson.proofs.ListLemmas.{HasListed}
use Rattle.twkb_geojson.proofs.lists.list_areas.Given as goal

abbrev pub invariant-loop-rings : goal.invariant-loop-rings
invariant-loop-rings l = HasListed (lists l.precision) l.areas l.rings-index l.index l.fn.text.items l.text.items
