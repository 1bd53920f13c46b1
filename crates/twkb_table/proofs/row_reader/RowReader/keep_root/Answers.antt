use Rattle.std.proofs.Common.{[], ◌∷◌, ap, inl, inr, refl}
use Rattle.twkb_tree.specs.Rows.{Row}
use Rattle.twkb_table.proofs.RootLemmas.{kept_row}
use Rattle.twkb_table.proofs.RowReaderLemmas.{may_wait_as}
use Rattle.twkb_table.proofs.row_reader.RowReader.keep_root.Goals as goal

pub returns-then-is_long-clause-kept : goal.returns-then-is_long-clause-kept
returns-then-is_long-clause-kept c =
    let own = c.in_ok-judge_points.ensures.accepted in
    record { own = own.0; judged = own.1; place = inr refl }

pub invariant_of-self-2-clause-waits : goal.invariant_of-self-2-clause-waits
invariant_of-self-2-clause-waits c =
    let own = c.in_ok-append_to.ensures.given in
    let points = c.append_to.new.points.items in
    may_wait_as c.args.self.now.limits c.row-row.result points
    (kept_row c.args.self.now.limits c.args.head.now c.row-row.result c.clear.new.self.items points own.0
    c.row-row.ensures c.clear.ensures.items own.1 (c.requires.begins own.0 own.2)).begins

pub returns-clause-kept : goal.returns-clause-kept
returns-clause-kept c =
    let own = c.in_ok-append_to.ensures.given in
    let points = c.append_to.new.points.items in
    let kept = kept_row c.args.self.now.limits c.args.head.now c.row-row.result c.clear.new.self.items points own.0
    c.row-row.ensures c.clear.ensures.items own.1 (c.requires.begins own.0 own.2) in
    record { own = own.0; judged = own.2; place = inl (ap (λ (r : Row). r ∷ []) kept.waits) }
