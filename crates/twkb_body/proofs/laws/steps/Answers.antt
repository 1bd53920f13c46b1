use Rattle.twkb_body.proofs.Outlines.{outline_steps, outline_at_ends}
use Rattle.twkb_body.proofs.laws.steps.Goals as goal

pub returns-clause-item : goal.returns-clause-item
returns-clause-item c = λ p bytes n st. outline_steps p bytes n st.0 st.1

pub returns-clause-ends : goal.returns-clause-ends
returns-clause-ends c = λ bytes st. outline_at_ends bytes st.0 st.1
