use Rattle.twkb_table.proofs.FaultLaws.{grows, refused_none}
use Rattle.twkb_table.proofs.laws.judged.Goals as goal

pub returns : goal.returns
returns c = record {
  grows = λ l records fields gs r n j.
      (let g = grows l records fields gs r n j in (g.geometries, g.named, g.rows));
  refused = refused_none;
}
