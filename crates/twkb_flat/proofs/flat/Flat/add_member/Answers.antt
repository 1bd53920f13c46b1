use Rattle.std.proofs.Common.{◌≡◌, ◌-◌, List, [], ◌∷◌, length, map, None, sym, ap, ◌∙◌, subst, arith, rules}
use Rattle.std.proofs.lemmas.List.{with_items_is}
use Rattle.twkb_tree.specs.declared.kind.Kind.{Kind}
use Rattle.twkb_flat.specs.declared.kept_nodes.KeptNode.{KeptNode}
use Rattle.twkb_flat.specs.KeptNodes.{IsFlat, listed, placed_of}
use Rattle.twkb_flat.proofs.PushLemmas.{member_node, member_kept, member_pushed, Pushed, kept_flat, kept_view}
use Rattle.twkb_flat.proofs.PushLemmas.{same_count}
use Rattle.twkb_flat.proofs.flat.Flat.add_member.Goals as goal

-- the kept nodes with the member
pushed : (c : goal.After-self-1) → Pushed c.self.inside.kept.items c.link.new.kept
    c.self.inside.points.items (c.args.point ∷ []) c.put_point.new.points.items
    (record { depth = c.args.depth; kind = Kind.Point; id = c.args.id; precision = None })
pushed c =
    let some = member_node _ _ _ _ _ c.self.view_is c.requires.member in
    let count = c.len-next.ensures ∙ c.self.inside.kept.ok.0 in
    member_pushed c.self.inside.kept.items c.deref_mut.result.now c.link.new.kept
    c.self.inside.points.items c.put_point.new.points.items c.args.point c.index.result.now
    (c.len-next.result - 1) c.len.result c.len-next.result c.args.depth c.args.id _
    c.self.invariant c.self.view_is c.requires.member
    (omega (arith, some.0, count)) (sym count) (sym (c.len.ensures ∙ c.self.inside.points.ok.0))
    c.index.ensures (c.deref_mut.ensures.value ∙ c.in_default.ensures.node)
    c.in_default.ensures.point c.link.ensures.placed_rows c.link.ensures.links

-- there are as many kept nodes as before the link was set
same : (c : goal.After-self-1) → length c.link.new.kept ≡ c.put_point.new.kept.len
same c = same_count _ _ c.link.ensures.placed_rows ∙ (ap length c.deref_mut.ensures.value
    ∙ sym c.put_point.new.kept.ok.0)

pub invariant_of-self : goal.invariant_of-self
invariant_of-self c = kept_flat _ _ _ _ c.self.invariant c.in-Err.ensures.no_node c.in-Err.ensures.no_point

pub returns-in-Err-clause-same : goal.returns-in-Err-clause-same
returns-in-Err-clause-same c = kept_view _ _ _ _ _ c.self.view_is c.in-Err.ensures.no_node c.in-Err.ensures.no_point

pub invariant_of-self-2 : goal.invariant_of-self-2
invariant_of-self-2 c =
    subst (λ (es : List KeptNode). IsFlat es c.put_point.new.points.items)
    (sym (with_items_is c.put_point.new.kept c.link.new.kept (same c)))
    (member_kept _ _ _ _ c.args.point c.args.depth c.args.id _ c.self.invariant c.self.view_is
    c.requires.member (search rules) (search rules) c.requires.nodes
    c.requires.points (pushed c)).0

pub returns-clause-added : goal.returns-clause-added
returns-clause-added c =
    ap (λ (es : List KeptNode). listed (map placed_of es) c.put_point.new.points.items)
    (with_items_is c.put_point.new.kept c.link.new.kept (same c))
    ∙ (member_kept _ _ _ _ c.args.point c.args.depth c.args.id _ c.self.invariant c.self.view_is
    c.requires.member (search rules) (search rules) c.requires.nodes
    c.requires.points (pushed c)).1
