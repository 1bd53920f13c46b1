use Rattle.twkb_rest.proofs.RowLemmas.{goes_on}
use Rattle.twkb_rest.proofs.rest_records.end_rest.Goals as goal

pub returns-then-found : goal.returns-then-found
returns-then-found g c = record {
  ends = goes_on g.Q.Read.remaining _ _ _ _ (rw c.if-found.true at c.in-Ok.ensures) c.args.number c.refused.ensures;
}
