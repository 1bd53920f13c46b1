use Rattle.twkb_tree.proofs.OpenLaws.{local_refusal, root_refusal}
use Rattle.twkb_tree.proofs.laws.last_geometry.Goals as goal

pub returns : goal.returns
returns c = record { local = λ l earlier s rs r. local_refusal l s rs earlier r; root = root_refusal }
