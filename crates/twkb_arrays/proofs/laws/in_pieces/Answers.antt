use Rattle.twkb_arrays.proofs.PieceLaws.{as_one, ended, so_far}
use Rattle.twkb_arrays.proofs.laws.in_pieces.Goals as goal

pub returns : goal.returns
returns c = record { so_far = so_far; ended = ended; as_one = as_one }
