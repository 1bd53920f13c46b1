use Rattle.std.proofs.Common.{arith}
use Rattle.std.proofs.lemmas.Int.{ints}
use Rattle.twkb_buffer.proofs.RoundingLemmas.{ten_fits}
use Rattle.twkb_buffer.proofs.scale.scale_of.Goals as goal

pub returns-then-precision-lt0-clause-scale : goal.returns-then-precision-lt0-clause-scale
returns-then-precision-lt0-clause-scale c =
    ten_fits c.unsigned_abs.result 8 c.pow-power.result (omega (arith, ints)) c.pow-power.ensures

pub returns-else-precision-lt0-clause-scale : goal.returns-else-precision-lt0-clause-scale
returns-else-precision-lt0-clause-scale c =
    ten_fits c.unsigned_abs.result 7 c.pow-power.result (omega (arith, ints)) c.pow-power.ensures
