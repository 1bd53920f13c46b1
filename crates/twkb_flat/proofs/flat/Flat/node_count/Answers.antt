use Rattle.std.proofs.Common.{rules}
use Rattle.std.proofs.lemmas.List.{length-map}
use Rattle.twkb_flat.proofs.LinkLemmas.{length-listed}
use Rattle.twkb_flat.proofs.flat.Flat.node_count.Goals as goal

pub returns : goal.returns
returns c = rw (← c.self.view_is) (simp (length-listed, length-map) (search rules))
