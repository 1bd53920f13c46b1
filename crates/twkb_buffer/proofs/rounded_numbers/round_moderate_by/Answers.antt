use Rattle.twkb_buffer.proofs.rounded_numbers.round_moderate_by.Goals as goal

pub returns-in-Times-clause-rounds : goal.returns-in-Times-clause-rounds
returns-in-Times-clause-rounds c =
    rw c.in-Times.is (rw c.multiplier_of.ensures.factor at c.round_moderate.ensures.rounds)
