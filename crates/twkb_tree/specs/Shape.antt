-- A shape with a precision as a tree.
use Rattle.std.specs.Prelude.{ℤ, length, None, Some, ⊤}
use Rattle.twkb_points.specs.Point.{IsInRange, AreInRange}
use Rattle.twkb_tree.specs.Tree.{Tree, simple, collection, point, line, polygon, multi_point}
use Rattle.twkb_tree.specs.Tree.{multi_line, multi_polygon, trees, HasIds, AreTrees}
use Rattle.twkb_tree.specs.Limits.{LinesAreInRange, AreasAreInRange, AreTreesInRange}
use Rattle.twkb_tree.specs.declared.geometry.Shape.{Shape}
use Rattle.twkb_tree.specs.declared.geometry.Shape.TheVariants.{Point, Line, Polygon, MultiPoint}
use Rattle.twkb_tree.specs.declared.geometry.Shape.TheVariants.{MultiLine, MultiPolygon, Collection}

-- the tree of a shape with a precision
abbrev pub tree_of : ℤ → Shape → Tree
tree_of p (Point o) = simple p (point o)
tree_of p (Line ps) = simple p (line ps)
tree_of p (Polygon rings) = simple p (polygon rings)
tree_of p (MultiPoint ps ids) = simple p (multi_point ids ps)
tree_of p (MultiLine lines ids) = simple p (multi_line ids lines)
tree_of p (MultiPolygon areas ids) = simple p (multi_polygon ids areas)
tree_of p (Collection gs ids) = collection p ids (trees gs)

-- there are no ids, or one for each member and at least one member
abbrev pub HasFitIds : Shape → Type 0
HasFitIds (MultiPoint ps ids) = HasIds ids (length ps)
HasFitIds (MultiLine lines ids) = HasIds ids (length lines)
HasFitIds (MultiPolygon areas ids) = HasIds ids (length areas)
HasFitIds (Collection gs ids) = HasIds ids (length gs)
HasFitIds _ = ⊤

-- the members of a collection are geometries
abbrev pub HasTrees : Shape → Type 0
HasTrees (Collection gs ids) = AreTrees (trees gs)
HasTrees _ = ⊤

-- each point of the shape is in range
abbrev pub IsShapeInRange : Shape → Type 0
IsShapeInRange (Point None) = ⊤
IsShapeInRange (Point (Some p)) = IsInRange p
IsShapeInRange (Line ps) = AreInRange ps
IsShapeInRange (Polygon rings) = LinesAreInRange rings
IsShapeInRange (MultiPoint ps ids) = AreInRange ps
IsShapeInRange (MultiLine lines ids) = LinesAreInRange lines
IsShapeInRange (MultiPolygon areas ids) = AreasAreInRange areas
IsShapeInRange (Collection gs ids) = AreTreesInRange (trees gs)
