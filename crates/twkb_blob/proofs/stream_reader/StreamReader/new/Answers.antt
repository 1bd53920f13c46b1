use Rattle.std.proofs.Common.{arith, ap, rules}
use Rattle.twkb_io.specs.Inputs.{given}
use Rattle.twkb_blob.proofs.Answering.{new_abreast}
use Rattle.twkb_blob.proofs.stream_reader.StreamReader.new.Goals as goal

pub invariant_of-result : goal.invariant_of-result
invariant_of-result g c = record {
  abreast = λ live going. new_abreast c.restart.ensures.stands
      (omega (arith, c.restart.ensures.begins.start, c.offset.ensures.offset, ap given c.new.ensures.input))
      (search rules);
}
