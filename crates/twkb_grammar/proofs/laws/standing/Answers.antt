use Rattle.twkb_grammar.proofs.Standing.{stands_start, one_place, stands_whole, stands_cut}
use Rattle.twkb_grammar.proofs.laws.standing.Goals as goal

pub returns-clause-starts : goal.returns-clause-starts
returns-clause-starts c = stands_start

pub returns-clause-one_place : goal.returns-clause-one_place
returns-clause-one_place c = one_place

pub returns-clause-whole : goal.returns-clause-whole
returns-clause-whole c = stands_whole

pub returns-clause-cut : goal.returns-clause-cut
returns-clause-cut c = stands_cut
