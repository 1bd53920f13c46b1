use Rattle.std.proofs.Common.{◌≡◌, arith}
use Rattle.std.proofs.lemmas.Int.{ints}
use Rattle.twkb_table.proofs.FieldLemmas.{precision_number}
use Rattle.twkb_table.proofs.decimal.long_precision.Goals as goal

pub returns-in_default : goal.returns-in_default
returns-in_default c = record {
  reads = λ q h.
      (let same : c.in-Some.precision ≡ q = precision_number _ _ q c.in-Some.ensures.reads h in
      let most = h.1 in grind (arith, ints));
}

pub returns-in_default-2 : goal.returns-in_default-2
returns-in_default-2 c = record {
  reads = λ q h.
      (let same : c.in-Some.precision ≡ q = precision_number _ _ q c.in-Some.ensures.reads h in
      let least = h.0 in grind (arith, ints));
}
