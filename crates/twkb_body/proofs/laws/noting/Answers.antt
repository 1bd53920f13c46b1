use Rattle.twkb_body.proofs.Outlines.{same_note, same_calm, same_count}
use Rattle.twkb_body.proofs.laws.noting.Goals as goal

pub returns-clause-note : goal.returns-clause-note
returns-clause-note c = λ st. same_note st.1

pub returns-clause-calm : goal.returns-clause-calm
returns-clause-calm c = λ st. same_calm st.1

pub returns-clause-count : goal.returns-clause-count
returns-clause-count c = λ st. same_count st.0 st.1
