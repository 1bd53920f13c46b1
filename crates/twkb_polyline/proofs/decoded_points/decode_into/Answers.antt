use Rattle.std.proofs.Common.{rules, arith}
use Rattle.std.proofs.lemmas.Grind.{common_steps}
use Rattle.twkb_polyline.proofs.decoded_points.decode_into.Goals as goal

pub returns-then-is_err-clause-refuses : goal.returns-then-is_err-clause-refuses
returns-then-is_err-clause-refuses g c = search rules

pub returns-then-is_err-clause-same : goal.returns-then-is_err-clause-same
returns-then-is_err-clause-same g c = grind (arith, common_steps)
