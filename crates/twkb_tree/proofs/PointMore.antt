-- A line may get one more point as long as the limits allow it, and no other row changes.
use Rattle.std.proofs.Common.{◌≡◌, List, [], ◌∷◌, ◌++◌, refl, ap, ◌+◌, ◌<◌, Bool, true, false, length, length-append}
use Rattle.std.proofs.Common.{Option, sym, ◌∙◌, subst, inl, inr, arith}
use Rattle.twkb_points.specs.Point.{Point, IsInRange, AreInRange}
use Rattle.twkb_tree.specs.Rows.{Row, row_points, AreValidRowsOfOne}
use Rattle.twkb_tree.specs.RowGrowth.{with_point, point_added, EndsInLine}
use Rattle.std.specs.Prelude.{reverse, ◌⊎◌, ◌&&◌}
use Rattle.twkb_tree.specs.Limits.{Allowance}
use Rattle.twkb_tree.specs.declared.kind.Kind.{Kind}
use Rattle.twkb_tree.specs.declared.kind.Kind.TheVariants as kinds
use Rattle.twkb_tree.specs.Admits.{points_fit, fits, is_geometry, has_place, id_in_range, id_allowed, has_same_ids}
use Rattle.twkb_tree.specs.Admits.{precision_in_range, precision_fits, steps_to, parent, first_child, Accepts}
use Rattle.twkb_tree.specs.Admits.{IsOneRoot, geometry_rows, point_count}
use Rattle.twkb_tree.proofs.LimitLaws.{continued, continues_row, one_valid_front, of_one, one_geometry_rows}
use Rattle.twkb_tree.proofs.RowLaws.{length-row_points, row_points-append}
use Rattle.twkb_tree.proofs.OpenLaws.{point_count-reverse}

-- ==== Adding a point to the last row changes no other row.

-- one more point goes to the last row
pub point_last : (p : Point) (rs : List Row) (r : Row) → point_added p (rs ++ r ∷ []) ≡ rs ++ with_point r p ∷ []
point_last p (s ∷ t ∷ rs) r = ap (λ l. s ∷ l) (point_last p (t ∷ rs) r)
point_last p _ r = refl

-- ==== A line may get one more point as long as the limits allow it.

-- a line fits any number of points
pub line_fits : (k : Kind) (whole : Bool) (ps : List Point) → (k ≡ kinds.Linestring)
    ⊎ (k ≡ kinds.Ring) → points_fit k whole ps ≡ true
line_fits k whole ps (inl e) = subst (λ k. points_fit k whole ps ≡ true) (sym e) (go whole ps)
  where
    go : (whole : Bool) (ps : List Point) → points_fit kinds.Linestring whole ps ≡ true
    go true [] = refl
    go false [] = refl
    go whole (p ∷ ps) = refl
line_fits k whole ps (inr e) = subst (λ k. points_fit k whole ps ≡ true) (sym e) (go whole ps)
  where
    go : (whole : Bool) (ps : List Point) → points_fit kinds.Ring whole ps ≡ true
    go true [] = refl
    go false [] = refl
    go whole (p ∷ ps) = refl

-- one more point of a line changes none of the tests
pub fits_same : (p f : Option Row) (r : Row) (q : Point) → (r.kind ≡ kinds.Linestring)
    ⊎ (r.kind ≡ kinds.Ring) → fits p f r ≡ fits p f (with_point r q)
fits_same p f r q line =
    ap (λ b. has_place p r.kind && id_in_range r.id && id_allowed p r.kind r.id && has_same_ids f
    r.id && precision_in_range r.precision && precision_fits p r.precision && b)
    (line_fits r.kind (is_geometry p) r.points line ∙ sym (line_fits r.kind (is_geometry p) (r.points ++ q ∷ []) line))

in_range_snoc : (ps : List Point) (q : Point) → AreInRange ps → IsInRange q → AreInRange (ps ++ q ∷ [])
in_range_snoc [] q h k = (k, tt)
in_range_snoc (p ∷ ps) q h k = (h.0, in_range_snoc ps q h.1 k)

accepts_more : (l : Allowance) (before : List Row) (r : Row) (q : Point)
    → (r.kind ≡ kinds.Linestring) ⊎ (r.kind ≡ kinds.Ring) → IsInRange q
    → point_count (geometry_rows r.depth before) + length r.points < l.points
    → Accepts l before r → Accepts l before (with_point r q)
accepts_more l before r q line within room a = record {
  admitted = ap (λ b. steps_to r.depth before && b)
      (sym (fits_same (parent r.depth before) (first_child r.depth before) r q line)) ∙ a.admitted;
  nest = a.nest;
  nodes = a.nodes;
  in_range = in_range_snoc r.points q a.in_range within;
  points = omega (arith, room, length-append r.points (q ∷ []));
}

root_more : (rs : List Row) (r : Row) (q : Point) → IsOneRoot rs r → IsOneRoot rs (with_point r q)
root_more [] r q h = h
root_more (s ∷ rs) r q h = h

-- the rows with one more point are valid
pub line_more : (l : Allowance) (rs : List Row) (q : Point) → EndsInLine rs → IsInRange q
    → length (row_points rs) < l.points → AreValidRowsOfOne l rs
    → AreValidRowsOfOne l (point_added q rs)
line_more l rs q e within room v =
    let whole : AreValidRowsOfOne l (e.front ++ e.last ∷ []) = subst (AreValidRowsOfOne l) e.whole v in
    let front = one_valid_front l e.front (e.last ∷ []) whole in
    let c = continues_row l e.front e.last whole in
    let before : point_count (geometry_rows e.last.depth (reverse e.front)) ≡ length (row_points e.front) =
    ap point_count (one_geometry_rows e.front e.last (of_one l e.front front) c.1)
    ∙ (point_count-reverse e.front ∙ sym (length-row_points e.front)) in
    let all : length (row_points rs) ≡ length (row_points e.front) + length (row_points (e.last ∷ [])) =
    ap (λ l. length (row_points l)) e.whole
    ∙ (ap (λ l. length l) (row_points-append e.front (e.last ∷ []))
    ∙ length-append (row_points e.front) (row_points (e.last ∷ []))) in
    let own : length (row_points (e.last ∷ [])) ≡ length e.last.points = omega
    (arith, length-append e.last.points []) in
    let more = continued l e.front (with_point e.last q) front (
      accepts_more l (reverse e.front) e.last q e.line within
          (omega (arith, before, all, own, room)) c.0,
      root_more e.front e.last q c.1,
    ) in
    subst (AreValidRowsOfOne l) (sym (ap (point_added q) e.whole ∙ point_last q e.front e.last)) more
