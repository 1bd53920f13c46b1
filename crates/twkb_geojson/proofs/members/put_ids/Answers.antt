use Rattle.std.proofs.Common.{◌∙◌, ap, ◌++◌, sym}
use Rattle.twkb_geojson.specs.Value.{id_value}
use Rattle.twkb_geojson.specs.Text.{listed, ids_text}
use Rattle.twkb_geojson.proofs.ListLemmas.{ids_put}
use Rattle.twkb_geojson.proofs.members.put_ids.Goals as goal

pub returns-clause-appended : goal.returns-clause-appended
returns-clause-appended c =
    ids_put _ _ _ _ _ c.in_ok-extend_from_slice.ensures.items
    (c.in_ok-list_ids.ensures.appended
    ∙ ap (λ ids. c.extend_from_slice.new.self.items ++ listed id_value ids) c.as_slice.ensures.items)
    c.in_ok-extend_from_slice-2.ensures.items
    ∙ ap (λ o. c.args.text.now.items ++ ids_text o) (sym c.in-Some.is)
