use Rattle.std.proofs.Common.{◌∙◌}
use Rattle.twkb_hex.proofs.TextLemmas.{get-kept, get-replaced}
use Rattle.twkb_hex.proofs.row_text.field_of.Goals as goal

pub returns-then-index-place : goal.returns-then-index-place
returns-then-index-place c =
    let same = c.if-index-place.true in
    rw same (get-replaced c.args.place c.args.made.now _ (rw same at c.requires))

pub returns-else-index-place : goal.returns-else-index-place
returns-else-index-place c = c.field_at.ensures
    ∙ get-kept c.args.place c.args.index c.args.made.now _ c.if-index-place.false
