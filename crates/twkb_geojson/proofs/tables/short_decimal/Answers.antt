use Rattle.twkb_geojson.proofs.TableLemmas.{short_at, short_is}
use Rattle.twkb_geojson.proofs.tables.short_decimal.Goals as goal

pub returns-clause-text : goal.returns-clause-text
returns-clause-text c = (short_is c.args.number _ c.requires (short_at c.args.number c.requires)).0

pub returns-clause-few : goal.returns-clause-few
returns-clause-few c = (short_is c.args.number _ c.requires (short_at c.args.number c.requires)).1
