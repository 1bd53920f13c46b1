-- The rows of the members so far come after the old ones.
use Rattle.twkb_tree.specs.Rows.{rows_with}
use Rattle.twkb_flat.proofs.BuildLemmas.{HasRows}
use Rattle.twkb_flat.proofs.geometry_rows.+filling.Given as goal

abbrev pub invariant-push_members-loop-member : goal.invariant-push_members-loop-member
invariant-push_members-loop-member l = HasRows (λ id g. rows_with id l.depth g) l.ids l.member-items
    l.member-index l.index l.fn.flat l.flat
