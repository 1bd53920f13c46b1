-- A row that gets more points.
use Rattle.std.specs.Prelude.{◌≡◌, ◌⊎◌, List, [], ◌∷◌, ◌++◌}
use Rattle.twkb_points.specs.Point.{Point}
use Rattle.twkb_tree.specs.declared.kind.Kind.TheVariants as kind
use Rattle.twkb_tree.specs.Rows.{Row}

-- the row with one more point
abbrev pub with_point : Row → Point → Row
with_point r p = record {
  depth = r.depth;
  kind = r.kind;
  id = r.id;
  precision = r.precision;
  points = r.points ++ p ∷ [];
}

-- the rows with one more point in the last one
abbrev pub point_added : Point → List Row → List Row
point_added p [] = []
point_added p (r ∷ []) = with_point r p ∷ []
point_added p (r ∷ s ∷ rs) = r ∷ point_added p (s ∷ rs)

-- the rows with these points added to the last one
abbrev pub points_added : List Point → List Row → List Row
points_added [] rs = rs
points_added (p ∷ ps) rs = points_added ps (point_added p rs)

-- the last row is that of a linestring or a ring
pub record EndsInLine (rs : List Row) : Type 0 where
  pub front : List Row
  pub last : Row
  pub line : (last.kind ≡ kind.Linestring) ⊎ (last.kind ≡ kind.Ring)
  pub whole : rs ≡ front ++ last ∷ []
