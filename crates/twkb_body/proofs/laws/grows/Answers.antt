use Rattle.std.proofs.Common.{refl}
use Rattle.twkb_body.proofs.Outlined.{stack_grows, rows_at_ends}
use Rattle.twkb_body.proofs.laws.grows.Goals as goal

pub returns-clause-item : goal.returns-clause-item
returns-clause-item c = λ p bytes n st. stack_grows p bytes n st.0 st.1

pub returns-clause-ends : goal.returns-clause-ends
returns-clause-ends c = λ bytes st last. rows_at_ends bytes st.0 st.1 last

pub returns-clause-whole : goal.returns-clause-whole
returns-clause-whole c = λ g. refl
