use Rattle.twkb_arrays.proofs.PieceLaws.{no_places, no_whole_blob, reads_one_more, takes_whole}
use Rattle.twkb_arrays.proofs.laws.progress.Goals as goal

pub returns : goal.returns
returns c = record {
  takes = takes_whole;
  no_places = no_places;
  no_whole_blob = no_whole_blob;
  one_more = reads_one_more;
}
