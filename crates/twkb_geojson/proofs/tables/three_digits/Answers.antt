use Rattle.std.proofs.Common.{◌∙◌}
use Rattle.twkb_geojson.proofs.TableLemmas.{three_at}
use Rattle.twkb_geojson.proofs.tables.three_digits.Goals as goal

pub returns : goal.returns
returns c = c.from.ensures ∙ three_at c.args.number c.requires
