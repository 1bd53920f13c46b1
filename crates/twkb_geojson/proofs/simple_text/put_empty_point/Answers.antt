use Rattle.twkb_geojson.proofs.ObjectLemmas.{empty_put}
use Rattle.twkb_geojson.proofs.simple_text.put_empty_point.Goals as goal

pub returns-clause-appended : goal.returns-clause-appended
returns-clause-appended c =
    λ p. empty_put p _ _ _ c.in_ok-put_start.ensures.appended c.in_ok-extend_from_slice.ensures.items
