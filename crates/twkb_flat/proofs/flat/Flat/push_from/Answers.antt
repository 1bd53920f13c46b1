use Rattle.std.proofs.Common.{◌≡◌, List, length, map, sym, ap, ◌∙◌, subst}
use Rattle.std.proofs.lemmas.List.{with_items_is}
use Rattle.twkb_flat.specs.declared.kept_nodes.KeptNode.{KeptNode}
use Rattle.twkb_flat.specs.Rows.{Linked}
use Rattle.twkb_flat.specs.KeptNodes.{IsFlat, IsUnlinked, depths_in, links_in, listed, placed_of}
use Rattle.twkb_flat.proofs.PushLemmas.{flat_after, kept_flat, kept_view, points_left, pushed_by}
use Rattle.twkb_flat.proofs.PushLemmas.{same_count, unlinked, view_after}
use Rattle.twkb_flat.proofs.flat.Flat.push_from.Goals as goal

pub put_row-requires-clause-few : goal.put_row-requires-clause-few
put_row-requires-clause-few g c = c.self.invariant.most

pub put_row-requires-clause-room : goal.put_row-requires-clause-room
put_row-requires-clause-room g c = λ own gives. points_left _ _ c.args.row own _ c.self.invariant
    c.self.view_is (c.requires own gives)

pub invariant_of-self : goal.invariant_of-self
invariant_of-self g c = kept_flat _ _ _ _ c.self.invariant c.in-Err.ensures.no_node c.in-Err.ensures.no_point

pub returns-in-Err-clause-same : goal.returns-in-Err-clause-same
returns-in-Err-clause-same g c = kept_view _ _ _ _ _ c.self.view_is c.in-Err.ensures.no_node c.in-Err.ensures.no_point

pub link_last-requires : goal.link_last-requires
link_last-requires g c =
    let own = c.in_default.ensures.put in
    subst (λ (es : List KeptNode). IsUnlinked es c.len-next.result) (sym c.deref_mut.ensures.value)
    (unlinked _ _ _ own.0 _ _ c.args.row _ c.self.invariant c.self.view_is (c.requires own.0 own.2)
    own.1 (c.len-next.ensures ∙ c.self.inside.kept.ok.0))

pub invariant_of-self-2 : goal.invariant_of-self-2
invariant_of-self-2 g c =
    let own = c.in_default.ensures.put in
    let placed_rows : map placed_of c.link_last.new.kept ≡ map placed_of c.put_row.new.kept.items =
    c.link_last.ensures.placed_rows ∙ ap (λ (es : List KeptNode). map placed_of es)
    c.deref_mut.ensures.value in
    let linked = subst (λ (es : List KeptNode). Linked (depths_in es)
    (links_in c.link_last.new.kept)) c.deref_mut.ensures.value c.link_last.ensures.links in
    let pushed = pushed_by c.self.inside.kept.items c.put_row.new.kept.items
    c.link_last.new.kept c.self.inside.points.items own.0 c.put_row.new.points.items
    c.args.row own.1 placed_rows linked in
    let same : length c.link_last.new.kept ≡ c.put_row.new.kept.len = same_count _ _ placed_rows
    ∙ sym c.put_row.new.kept.ok.0 in
    subst (λ (es : List KeptNode). IsFlat es c.put_row.new.points.items)
    (sym (with_items_is c.put_row.new.kept c.link_last.new.kept same))
    (flat_after _ _ _ own.0 _ c.args.row _ c.self.invariant c.self.view_is (c.requires own.0 own.2) pushed)

pub returns-clause-pushed : goal.returns-clause-pushed
returns-clause-pushed g c =
    let own = c.in_default.ensures.put in
    let placed_rows : map placed_of c.link_last.new.kept ≡ map placed_of c.put_row.new.kept.items =
    c.link_last.ensures.placed_rows ∙ ap (λ (es : List KeptNode). map placed_of es)
    c.deref_mut.ensures.value in
    let linked = subst (λ (es : List KeptNode). Linked (depths_in es)
    (links_in c.link_last.new.kept)) c.deref_mut.ensures.value c.link_last.ensures.links in
    let pushed = pushed_by c.self.inside.kept.items c.put_row.new.kept.items
    c.link_last.new.kept c.self.inside.points.items own.0 c.put_row.new.points.items
    c.args.row own.1 placed_rows linked in
    let same : length c.link_last.new.kept ≡ c.put_row.new.kept.len = same_count _ _ placed_rows
    ∙ sym c.put_row.new.kept.ok.0 in (
      own.0,
      ap (λ (es : List KeptNode). listed (map placed_of es) c.put_row.new.points.items)
          (with_items_is c.put_row.new.kept c.link_last.new.kept same)
          ∙ view_after _ _ _ own.0 _ c.args.row _ c.self.invariant c.self.view_is pushed,
      own.2,
    )
