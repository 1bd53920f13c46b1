use Rattle.twkb_command.proofs.RefusalLemmas.{misuse_among, ok_always, refusal_among}
use Rattle.std.proofs.lemmas.Result.{IfErr-weaker}
use Rattle.twkb_command.proofs.words.read_styled_words.Goals as goal

pub returns-in-Err-clause-refused : goal.returns-in-Err-clause-refused
returns-in-Err-clause-refused c =
    refusal_among _ _ c.in-Err.error c.refusal_of.result c.in-Err.ensures.kinds
    c.refusal_of.ensures.memory c.refusal_of.ensures.kind

pub returns-in-Ok-clause-refused : goal.returns-in-Ok-clause-refused
returns-in-Ok-clause-refused c =
    IfErr-weaker c.request_of.result _ _ (λ r is. misuse_among _ _ r c.in-Ok.ensures.kinds is)
    (rw c.in-Ok.ensures.ok at c.request_of.ensures.refused)

pub returns-in-Ok-clause-fits : goal.returns-in-Ok-clause-fits
returns-in-Ok-clause-fits c = ok_always c.request_of.result c.in-Ok.ensures.kinds

pub returns-in-Ok-clause-proper : goal.returns-in-Ok-clause-proper
returns-in-Ok-clause-proper c = rw c.in-Ok.ensures.ok at c.request_of.ensures.proper
