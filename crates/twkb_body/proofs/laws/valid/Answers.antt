use Rattle.twkb_body.proofs.Outlined.{reached_valid, stack_takes}
use Rattle.twkb_body.proofs.laws.valid.Goals as goal

pub returns-clause-rows : goal.returns-clause-rows
returns-clause-rows c = reached_valid

pub returns-clause-takes : goal.returns-clause-takes
returns-clause-takes c = λ p n st. stack_takes p n st.0 st.1
