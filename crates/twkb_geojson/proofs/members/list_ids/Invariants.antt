-- The elements so far were appended.
use Rattle.twkb_geojson.specs.Value.{id_value}
use Rattle.twkb_geojson.proofs.ListLemmas.{HasListed}
use Rattle.twkb_geojson.proofs.members.list_ids.Given as goal

abbrev pub invariant-loop-id : goal.invariant-loop-id
invariant-loop-id l = HasListed id_value l.ids l.id-index l.index l.fn.text.items l.text.items
