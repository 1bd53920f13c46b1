use Rattle.std.proofs.Common.{rules}
use Rattle.twkb_tree.proofs.kind.Kind.padded_name.Goals as goal

-- Stated here so that a wrong count of letters is refused at once, without a search for another
-- proof.
pub returns-in-MultiPolygon-clause-word : goal.returns-in-MultiPolygon-clause-word
returns-in-MultiPolygon-clause-word c = search rules
