use Rattle.std.proofs.Common.{rules, ◌∙◌, ap, inl, inr, length, arith}
use Rattle.std.proofs.lemmas.List.{length-map}
use Rattle.twkb_flat.proofs.LinkLemmas.{length-listed, Answers, node_is}
use Rattle.twkb_flat.proofs.flat.Flat.node.Goals as goal
use Rattle.twkb_flat.proofs.flat.Flat.node.Goals.{then-kept_node-id, else-kept_node-id}

pub index-kept_node-requires : goal.index-kept_node-requires
index-kept_node-requires c =
    let same = ap length c.self.view_is in
    omega (arith, c.requires, simp (length-listed, length-map) at same, c.self.inside.kept.ok.0)

pub returns-clause-node : goal.returns-clause-node
returns-clause-node c =
    let same = simp (length-listed, length-map) at (ap length c.self.view_is) in
    let answers : Answers c.args.id.0 c.index-kept_node.result.now.next.0
    (length c.self.inside.kept.items) c.if-kept_node-id.next =
    elim c.if-kept_node-id.branch [
      | then-kept_node-id w ↦ inl (
        w.if-kept_node-id.true,
        w.next-is
            ∙ omega (arith, w.node_count-next.ensures.value, same),
      )
      | else-kept_node-id w ↦ inr (w.if-kept_node-id.false, w.next-is)
    ] in
    node_is _ _ c.args.id.0 _ c.index-kept_node.result.now _ c.self.invariant.laid
    c.self.invariant.linked c.self.view_is (omega (arith, c.requires, same))
    c.index-kept_node.ensures answers

pub returns-clause-counted : goal.returns-clause-counted
returns-clause-counted c = search rules
