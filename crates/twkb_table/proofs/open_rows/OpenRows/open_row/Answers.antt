use Rattle.std.proofs.Common.{◌≡◌, ◌+◌, ◌∙◌, List, length, take, refl, sym, ap}
use Rattle.twkb_tree.specs.declared.open_rows.OpenRow.{OpenRow}
use Rattle.twkb_tree.specs.Open.{opened}
use Rattle.twkb_flat.specs.Rows.{row_with}
use Rattle.smallvec.proofs.SmallVecLemmas.{items-with_items}
use Rattle.twkb_table.proofs.RowReaderLemmas.{opened_in}
use Rattle.twkb_table.proofs.open_rows.OpenRows.open_row.Goals as goal
use Rattle.twkb_table.proofs.open_rows.OpenRows.open_row.Goals.{then-depth-len+in_ok-write_apart, else-depth-len}

pub returns-clause-opened : goal.returns-clause-opened
returns-clause-opened c = λ points.
    let d = c.args.row.now.depth in
    let r = row_with c.args.row.now points in
    let items = c.self.inside.places.items in
    let open_now : opened d items r ≡ opened d c.args.self.now r = opened_in d c.self.inside.open_count
    items c.args.self.now r c.self.invariant (sym c.self.view_is) c.requires in
    elim c.if-depth-len.branch [
      | then-depth-len+in_ok-write_apart w ↦
          ap (λ s. take (d + 1) s.places.items) w.self-inside-is
          ∙ (w.in_ok-write_apart.ensures.opened r refl (sym c.is_some-has_id.ensures) ∙ open_now)
      | else-depth-len w ↦
          ap (λ s. take (d + 1) s.places.items) w.self-inside-is
          ∙ (ap (take (d + 1)) (items-with_items c.self.inside.places w.write.new.places
          (w.write.ensures.as_many ∙ ap length w.as_mut_slice.ensures.value))
          ∙ (w.write.ensures.opened r refl (sym c.is_some-has_id.ensures)
          ∙ (ap (λ (xs : List OpenRow). opened d xs r) w.as_mut_slice.ensures.value ∙ open_now)))
    ]
