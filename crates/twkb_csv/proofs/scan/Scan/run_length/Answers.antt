use Rattle.std.proofs.Common.{arith}
use Rattle.csv.specs.Machine.{Runs}
use Rattle.twkb_csv.proofs.scan.Scan.run_length.Goals as goal

pub returns-in_default : goal.returns-in_default
unfolding Runs
returns-in_default c = record { within = omega arith; joins = tt }
