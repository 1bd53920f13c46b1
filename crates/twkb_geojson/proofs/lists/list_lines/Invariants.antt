-- The elements so far were appended.
use Rattle.twkb_geojson.specs.Value.{positions}
use Rattle.twkb_geojson.proofs.ListLemmas.{HasListed}
use Rattle.twkb_geojson.proofs.lists.list_lines.Given as goal

abbrev pub invariant-loop-line : goal.invariant-loop-line
invariant-loop-line l = HasListed (positions l.precision) l.lines l.line-index l.index l.fn.text.items l.text.items
