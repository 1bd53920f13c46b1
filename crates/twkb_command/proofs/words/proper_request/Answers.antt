use Rattle.twkb_command.proofs.MisuseLemmas.{proper_rows}
use Rattle.twkb_command.proofs.words.proper_request.Goals as goal

pub job_of-requires : goal.job_of-requires
job_of-requires c = record {
  named = c.requires.named;
  proper = proper_rows _ _ c.requires.proper c.requires.precision;
}
