use Rattle.twkb_hex.proofs.TextLemmas.{field_got, field_not}
use Rattle.twkb_hex.proofs.row_text.field_at.Goals as goal

pub returns-in-Some : goal.returns-in-Some
returns-in-Some c = field_got _ _ _ c.in-Some.ensures.value

pub returns-in-None : goal.returns-in-None
returns-in-None c = field_not _ _ c.in-None.ensures.value
