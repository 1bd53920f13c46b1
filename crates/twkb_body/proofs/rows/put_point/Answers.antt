use Rattle.std.proofs.Common.{◌≡◌, suc, ◌+◌, [], ◌∷◌, subst, sym, arith}
use Rattle.twkb_tree.specs.Rows.{Row, plain_row}
use Rattle.twkb_tree.specs.Limits.{largest_limits}
use Rattle.twkb_tree.specs.Admits.{Continues}
use Rattle.twkb_tree.specs.declared.kind.Kind.TheVariants as kinds
use Rattle.twkb_body.specs.Growing.{point_change, Admits}
use Rattle.twkb_body.specs.Header.{form_of}
use Rattle.twkb_tree.specs.declared.kind.Kind.{Kind}
use Rattle.twkb_body.proofs.rows.put_point.Goals as goal

pub push_point_row-requires-in-MultiPoint : goal.push_point_row-requires-in-MultiPoint
push_point_row-requires-in-MultiPoint c =
    let h = c.args.head.now in
    let deep : suc h.depth ≡ h.depth + 1 = omega arith in
    subst (λ (r : Row). Continues largest_limits c.args.flat.now (record r { points = c.args.point ∷ [] }))
    (sym c.component_row.ensures)
    (subst (λ d. Continues largest_limits c.args.flat.now
    (plain_row d kinds.Point c.args.member (c.args.point ∷ []))) deep
    (subst (λ (f : Kind). Admits (point_change c.args.point h.depth h.id h.precision (form_of f)
    c.args.member) c.args.flat.now) c.in-MultiPoint.is c.requires))
