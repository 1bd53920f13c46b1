use Rattle.std.proofs.Common.{◌≡◌, arith, pos}
use Rattle.std.proofs.lemmas.Int.{ints}
use Rattle.twkb_table.proofs.FieldLemmas.{depth_number, depth-id}
use Rattle.twkb_table.proofs.decimal.long_depth.Goals as goal

pub returns-in_default : goal.returns-in_default
returns-in_default c = record {
  reads = λ d h.
      (let same : c.in-Some.depth ≡ pos d = depth_number _ _ d c.in-Some.ensures.reads h in
      let few = h.1 in grind (arith, ints));
}

pub returns-in_default-2 : goal.returns-in_default-2
returns-in_default-2 c = record {
  reads = λ d h.
      (let same : c.in-Some.depth ≡ pos d = depth_number _ _ d c.in-Some.ensures.reads h in
      grind (arith, ints));
}

pub returns-in_default-3 : goal.returns-in_default-3
returns-in_default-3 c = record { reads = λ d h. c.in_default.ensures.reads (pos d) (h.0, depth-id d h.1) }
