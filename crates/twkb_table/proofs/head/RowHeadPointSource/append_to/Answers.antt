use Rattle.std.proofs.Common.{[], ◌∷◌}
use Rattle.std.proofs.lemmas.Bool.{false≢true}
use Rattle.twkb_table.proofs.RowReaderLemmas.{has_grown, points_accepted, points_refused, text_refused}
use Rattle.twkb_table.proofs.head.RowHeadPointSource.append_to.Goals as goal

pub overflow_sub-count : goal.overflow_sub-count
overflow_sub-count g c = has_grown _ _ _ _ _ _ c.in-Ok-decode_into.ensures.decodes c.count-start.ensures c.count.ensures

pub returns-in-Ok-clause-given : goal.returns-in-Ok-clause-given
returns-in-Ok-clause-given g c = (c.in-Some.point ∷ [], c.in-Ok.ensures.appended, c.in-Some.ensures)

pub returns-in-Err-At-clause-refused : goal.returns-in-Err-At-clause-refused
returns-in-Err-At-clause-refused g c = text_refused c.args.self.now c.in-Err-At.offset
    c.in-Err-At.reason
    c.in-Err-At.field-0 (λ h. false≢true (c.if-has_needless_text.ensures.1 h))
    c.in-Err-At.field-0-is
    (rw (c.saturating_sub-left.ensures, c.points.ensures) at c.in-Err-At.ensures.refuses)

pub returns-in-Some-refused_count-clause-refused : goal.returns-in-Some-refused_count-clause-refused
returns-in-Some-refused_count-clause-refused g c = points_refused c.args.self.now
    c.count-start.result
    c.count.result _ _ c.in-Some-refused_count.reason (λ h. false≢true
    (c.if-has_needless_text.ensures.1 h))
    (rw (c.saturating_sub-left.ensures, c.points.ensures) at c.in-Ok-decode_into.ensures.decodes)
    c.count-start.ensures c.count.ensures c.in-Some-refused_count.ensures.judged

pub returns-clause-given : goal.returns-clause-given
returns-clause-given g c = points_accepted c.args.self.now c.count-start.result c.count.result _ _
    (λ h. false≢true (c.if-has_needless_text.ensures.1 h))
    (rw (c.saturating_sub-left.ensures, c.points.ensures) at c.in-Ok-decode_into.ensures.decodes)
    c.count-start.ensures c.count.ensures c.in_default-refused_count.ensures.judged
