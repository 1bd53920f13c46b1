-- The elements so far were appended.
use Rattle.twkb_geojson.specs.Value.{value_of}
use Rattle.twkb_geojson.proofs.ListLemmas.{HasListed}
use Rattle.twkb_geojson.proofs.geometry_text.+text.Given as goal

abbrev pub invariant-list_members-loop-member : goal.invariant-list_members-loop-member
invariant-list_members-loop-member l =
    HasListed value_of l.member-items l.member-index l.index l.fn.text.items l.text.items
