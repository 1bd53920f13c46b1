use Rattle.twkb_geojson.proofs.FlatLemmas.{of_rows}
use Rattle.twkb_geojson.proofs.flat_text.put_tree.Goals as goal

pub returns-clause-appended : goal.returns-clause-appended
returns-clause-appended c = λ h sound own.
    of_rows _ h c.args.form.now.flat _ _ c.in_ok-geometry.ensures.valid.tree sound c.in_ok-geometry.ensures.rows own
    c.in_ok-put_geometry.ensures.appended
