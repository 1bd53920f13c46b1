use Rattle.std.proofs.Common.{◌≡◌, List, [], ◌∷◌, ◌++◌, map, Some, None, refl, sym, ap, ◌∙◌, subst, rules}
use Rattle.std.proofs.lemmas.Int.{to_z-of_z}
use Rattle.twkb_points.specs.Point.{Point}
use Rattle.twkb_tree.specs.declared.kind.Kind.{Kind}
use Rattle.twkb_flat.specs.declared.node.Row.{Row}
use Rattle.twkb_flat.specs.KeptNodes.{IsFlat, listed, placed_of}
use Rattle.twkb_flat.proofs.PushLemmas.{begun_flat, begun_rows, no_points, point_begins, kept_flat, kept_view}
use Rattle.twkb_flat.proofs.flat.Flat.begin_point.Goals as goal

abbrev row_is : goal.In_default → Row
row_is c = record { depth = 0; kind = Kind.Point; id = None; precision = Some c.args.precision }

points_are : (c : goal.In_default) → c.put_point.new.points.items ≡ c.args.point ∷ []
points_are c = c.in_default.ensures.point ∙ ap (λ (ps : List Point). ps ++ c.args.point ∷ [])
    (no_points _ _ c.self.invariant (c.self.view_is ∙ c.clear.ensures))

pub invariant_of-self : goal.invariant_of-self
invariant_of-self c = kept_flat _ _ _ _ c.self.invariant c.in-Err.ensures.no_node c.in-Err.ensures.no_point

pub returns-in-Err-clause-none : goal.returns-in-Err-clause-none
returns-in-Err-clause-none c = kept_view _ _ _ _ _ (c.self.view_is ∙ c.clear.ensures)
    c.in-Err.ensures.no_node c.in-Err.ensures.no_point

pub invariant_of-self-2 : goal.invariant_of-self-2
invariant_of-self-2 c =
    let put = simp (to_z-of_z, c.ranges.precision) at c.in_default.ensures.node in
    subst (λ (ps : List Point). IsFlat c.put_point.new.kept.items ps) (sym (points_are c))
    (begun_flat _ _ _ (c.args.point ∷ []) 1 (row_is c) (c.self.view_is ∙ c.clear.ensures)
    (point_begins c.args.precision c.args.point c.requires (search rules)) refl
    put)

pub returns-clause-begun : goal.returns-clause-begun
returns-clause-begun c =
    let put = simp (to_z-of_z, c.ranges.precision) at c.in_default.ensures.node in
    ap (λ (ps : List Point). listed (map placed_of c.put_point.new.kept.items) ps) (points_are c)
    ∙ begun_rows _ _ _ (c.args.point ∷ []) 1 (row_is c) (c.self.view_is ∙ c.clear.ensures)
    (point_begins c.args.precision c.args.point c.requires (search rules)) refl put
