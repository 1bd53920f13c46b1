use Rattle.std.proofs.lemmas.Bool.{false≢true}
use Rattle.twkb_table.proofs.RowReaderLemmas.{count_accepted, count_refused, text_refused}
use Rattle.twkb_table.proofs.head.RowHead.judge_points.Goals as goal

pub returns-in-Err-At-clause-refused : goal.returns-in-Err-At-clause-refused
returns-in-Err-At-clause-refused c = text_refused c.args.self.now c.in-Err-At.offset
    c.in-Err-At.reason
    c.in-Err-At.field-0 (λ h. false≢true (c.if-has_needless_text.ensures.1 h))
    c.in-Err-At.field-0-is
    (rw (c.saturating_sub-left.ensures, c.points.ensures) at c.in-Err-At.ensures.refuses)

pub returns-in-Some-clause-refused : goal.returns-in-Some-clause-refused
returns-in-Some-clause-refused c = count_refused c.args.self.now c.in-Ok.count c.in-Some.reason
    (λ h. false≢true (c.if-has_needless_text.ensures.1 h))
    (rw (c.saturating_sub-left.ensures, c.points.ensures) at c.in-Ok.ensures.counts)
    c.in-Some.ensures.judged

pub returns-in-None-clause-accepted : goal.returns-in-None-clause-accepted
returns-in-None-clause-accepted c = count_accepted c.args.self.now c.in-Ok.count
    (λ h. false≢true (c.if-has_needless_text.ensures.1 h))
    (rw (c.saturating_sub-left.ensures, c.points.ensures) at c.in-Ok.ensures.counts)
    c.in-None.ensures.judged
