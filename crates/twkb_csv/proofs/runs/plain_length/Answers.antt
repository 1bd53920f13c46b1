use Rattle.twkb_csv.proofs.RunLemmas.{plain_runs}
use Rattle.twkb_csv.proofs.runs.plain_length.Goals as goal

pub returns-in-Some-clause-joins : goal.returns-in-Some-clause-joins
returns-in-Some-clause-joins c = plain_runs _ _ _ c.in-Some.ensures.0.before

pub returns-in-None-clause-joins : goal.returns-in-None-clause-joins
returns-in-None-clause-joins c = plain_runs _ _ _ c.in-None.ensures
