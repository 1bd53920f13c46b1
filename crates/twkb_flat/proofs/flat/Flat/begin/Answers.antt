use Rattle.std.proofs.Common.{◌≡◌, map, length, sym, ap, ◌∙◌, subst}
use Rattle.twkb_flat.specs.KeptNodes.{IsFlat, listed, placed_of}
use Rattle.twkb_flat.proofs.PushLemmas.{begun_flat, begun_rows, no_points}
use Rattle.twkb_flat.proofs.flat.Flat.begin.Goals as goal

counted : (c : goal.After-swap) → c.len.result ≡ length c.args.points.now.items
counted c = c.len.ensures ∙ c.args.points.now.ok.0

points_are : (c : goal.After-swap) → c.swap.new.x.items ≡ c.args.points.now.items
points_are c = ap (λ v. v.items) c.swap.ensures.x_after

pub invariant_of-self-2 : goal.invariant_of-self-2
invariant_of-self-2 c =
    subst (λ ps. IsFlat c.push.new.self.items ps) (sym (points_are c))
    (begun_flat _ _ _ c.args.points.now.items c.len.result c.args.root
    (c.self.view_is ∙ c.clear.ensures) c.requires (counted c) c.in_default.ensures.items)

pub returns-clause-begun : goal.returns-clause-begun
returns-clause-begun c =
    ap (λ ps. listed (map placed_of c.push.new.self.items) ps) (points_are c)
    ∙ begun_rows _ _ _ c.args.points.now.items c.len.result c.args.root
    (c.self.view_is ∙ c.clear.ensures) c.requires (counted c) c.in_default.ensures.items

pub returns-clause-taken : goal.returns-clause-taken
returns-clause-taken c = ap (λ v. v.items) c.swap.ensures.y_after
    ∙ no_points _ _ c.self.invariant (c.self.view_is ∙ c.clear.ensures)
