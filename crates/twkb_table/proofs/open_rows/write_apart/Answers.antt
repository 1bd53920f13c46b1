use Rattle.std.proofs.Common.{◌≡◌, ◌+◌, ◌∙◌, List, length, take, ap}
use Rattle.twkb_tree.specs.declared.open_rows.OpenRow.{OpenRow}
use Rattle.twkb_tree.specs.Open.{opened}
use Rattle.smallvec.proofs.SmallVecLemmas.{items-with_items}
use Rattle.twkb_table.proofs.RowReaderLemmas.{opened_before}
use Rattle.twkb_table.proofs.open_rows.write_apart.Goals as goal
use Rattle.twkb_table.proofs.open_rows.write_apart.Goals.{then-depth-len+in-Ok, else-depth-len}

pub returns-clause-opened : goal.returns-clause-opened
returns-clause-opened c = λ r k id.
    let d = c.args.depth in
    let before : opened d c.if-depth-len.places.items r ≡ opened d c.args.places.now.items r =
    elim c.if-depth-len.branch [
      | then-depth-len+in-Ok w ↦
          ap (λ (xs : List OpenRow). opened d xs r) (ap (λ v. v.items) w.places-is
          ∙ w.in-Ok.ensures.ok) ∙ opened_before d c.args.places.now.items _ r c.requires
      | else-depth-len w ↦ ap (λ v. opened d v.items r) w.places-is
    ] in
    ap (take (d + 1)) (items-with_items c.if-depth-len.places c.write.new.places
    (c.write.ensures.as_many ∙ ap length c.as_mut_slice.ensures.value))
    ∙ (c.write.ensures.opened r k id
    ∙ (ap (λ (xs : List OpenRow). opened d xs r) c.as_mut_slice.ensures.value ∙ before))
