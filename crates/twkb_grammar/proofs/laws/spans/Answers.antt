use Rattle.twkb_grammar.proofs.NotedSpans.{one_list, blob_many, blob_first, blob_moved}
use Rattle.twkb_grammar.proofs.laws.spans.Goals as goal

pub returns-clause-one_list : goal.returns-clause-one_list
returns-clause-one_list c = one_list

pub returns-clause-one_each : goal.returns-clause-one_each
returns-clause-one_each c = blob_many

pub returns-clause-first : goal.returns-clause-first
returns-clause-first c = blob_first

pub returns-clause-moved : goal.returns-clause-moved
returns-clause-moved c = blob_moved
