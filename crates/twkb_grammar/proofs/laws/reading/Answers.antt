use Rattle.twkb_grammar.proofs.Running.{reached_nothing, reached_bytes, leads, reached_blob, reached_cut}
use Rattle.twkb_grammar.proofs.Running.{reached_long, reached_end}
use Rattle.twkb_grammar.proofs.Parts.{reached_depth, reached_frames, reached_few}
use Rattle.twkb_grammar.proofs.laws.reading.Goals as goal

pub returns-clause-starts : goal.returns-clause-starts
returns-clause-starts c = reached_nothing

pub returns-clause-offset : goal.returns-clause-offset
returns-clause-offset c = reached_bytes

pub returns-clause-leads : goal.returns-clause-leads
returns-clause-leads c = leads

pub returns-clause-blob : goal.returns-clause-blob
returns-clause-blob c = reached_blob

pub returns-clause-cut : goal.returns-clause-cut
returns-clause-cut c = λ limits bytes e st rest role. reached_cut limits bytes e st rest role

pub returns-clause-long : goal.returns-clause-long
returns-clause-long c = λ limits bytes e st rest role. reached_long limits bytes e st rest role

pub returns-clause-missing : goal.returns-clause-missing
returns-clause-missing c = reached_end

pub returns-clause-depth : goal.returns-clause-depth
returns-clause-depth c = reached_depth

pub returns-clause-frames : goal.returns-clause-frames
returns-clause-frames c = reached_frames

pub returns-clause-few_frames : goal.returns-clause-few_frames
returns-clause-few_frames c = reached_few
