use Rattle.twkb_csv.proofs.RunLemmas.{quoted_runs}
use Rattle.twkb_csv.proofs.runs.quoted_length.Goals as goal

pub returns-in-Some-clause-joins : goal.returns-in-Some-clause-joins
returns-in-Some-clause-joins c = quoted_runs _ _ _ c.in-Some.ensures.0.before

pub returns-in-None-clause-joins : goal.returns-in-None-clause-joins
returns-in-None-clause-joins c = quoted_runs _ _ _ c.in-None.ensures
