use Rattle.std.proofs.Common.{arith}
use Rattle.std.proofs.lemmas.Grind.{common_steps}
use Rattle.twkb_body.proofs.numbers.short_number.Goals as goal

pub returns-then-fifth-lt-GOES_ON : goal.returns-then-fifth-lt-GOES_ON
returns-then-fifth-lt-GOES_ON c = grind (arith, common_steps)
