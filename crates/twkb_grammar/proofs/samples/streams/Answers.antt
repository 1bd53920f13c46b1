use Rattle.std.proofs.Common.{refl}
use Rattle.std.specs.Prelude.{[], ◌∷◌}
use Rattle.twkb_grammar.proofs.OneFault.{standard_allowed, blob_by, fault_by}
use Rattle.twkb_grammar.proofs.samples.streams.Goals as goal

pub returns-clause-cut_point : goal.returns-clause-cut_point
returns-clause-cut_point c = record {
  front = 0x01 ∷ 0x00 ∷ 0x04 ∷ 0x02 ∷ [];
  rest = 0x01 ∷ 0x00 ∷ 0x04 ∷ [];
  within = 3;
  whole = refl;
  blobs = (
    0x01 ∷ 0x00 ∷ 0x04 ∷ 0x02 ∷ [],
    [],
    refl,
    blob_by _ _ _ standard_allowed refl refl,
    refl,
  );
  first = fault_by _ _ _ _ standard_allowed refl refl;
  place = refl;
}
