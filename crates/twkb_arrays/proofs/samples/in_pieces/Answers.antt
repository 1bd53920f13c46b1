use Rattle.twkb_arrays.proofs.PieceSampleLemmas.{add_up, in_pieces, is_last, is_whole}
use Rattle.twkb_arrays.proofs.samples.in_pieces.Goals as goal

pub returns : goal.returns
returns c = record { pieces = in_pieces; last = is_last; whole = is_whole; same = add_up }
