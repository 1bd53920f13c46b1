use Rattle.twkb_grammar.proofs.NotedSpans.{blob_noted}
use Rattle.twkb_grammar.proofs.Standing.{goes_on, ends_blob}
use Rattle.twkb_grammar.proofs.laws.noting.Goals as goal

pub returns-clause-whole : goal.returns-clause-whole
returns-clause-whole c = blob_noted

pub returns-clause-goes_on : goal.returns-clause-goes_on
returns-clause-goes_on c = goes_on

pub returns-clause-ends : goal.returns-clause-ends
returns-clause-ends c = ends_blob
