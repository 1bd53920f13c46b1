-- The kept nodes, and the rows that they stand for.
use Rattle.std.specs.Prelude.{ℕ, ◌≡◌, ◌+◌, ◌<◌, ◌≤◌, ◌^◌, ⊤, List, [], ◌∷◌, ◌++◌, map, length, slice_index, take}
use Rattle.std.specs.Prelude.{drop, ◌⊎◌}
use Rattle.twkb_points.specs.Point.{Point}
use Rattle.twkb_tree.specs.declared.limits.TheConstants.{NODES_CAP, POINTS_CAP}
use Rattle.twkb_tree.specs.Limits.{largest_limits}
use Rattle.twkb_tree.specs.Rows.{Row as TableRow, AreValidRowsOfOne}
use Rattle.twkb_flat.specs.declared.kept_nodes.PlacedRow.{PlacedRow}
use Rattle.twkb_flat.specs.declared.kept_nodes.KeptNode.{KeptNode}
use Rattle.twkb_flat.specs.declared.node.Row.{Row}
use Rattle.twkb_flat.specs.Rows.{row_with, Linked, MayFollow}
use Rattle.twkb_tree.specs.declared.kind.Kind.{Kind}
use Rattle.twkb_tree.specs.declared.kind.Kind.TheVariants as kind

-- ==== The kept nodes, and the rows that they stand for.

-- the placed row of a node
abbrev pub placed_of : KeptNode → PlacedRow
placed_of e = e.placed

-- the link of a node
abbrev pub next_of : KeptNode → ℕ
next_of e = e.next.0

-- a new node, with the link of a root
abbrev pub new_node : PlacedRow → KeptNode
new_node s = record { placed = s; next = record { 0 = 0 } }

-- one node was appended for this row, and its own points after all other points
pub record IsPut (row : Row) (own : List Point) (es more : List KeptNode) (ps all : List Point) : Type 0 where
  pub node : more ≡ es ++ new_node (record { row = row; first = length ps; points = length own }) ∷ []
  pub points : all ≡ ps ++ own

-- the depth of a placed row's row
abbrev pub placed_depth : PlacedRow → ℕ
placed_depth s = s.row.depth

-- the depths of the nodes' rows
abbrev pub depths_in : List KeptNode → List ℕ
depths_in es = map placed_depth (map placed_of es)

-- the links of the nodes
abbrev pub links_in : List KeptNode → List ℕ
links_in es = map next_of es

-- The kept node at `at` is the last, and its row may come after the rows before it. Their links do not
-- count it yet.
pub record IsUnlinked (es : List KeptNode) (at : ℕ) : Type 0 where
  pub last : length es ≡ at + 1
  pub linked : Linked (take at (depths_in es)) (take at (links_in es))
  pub place : MayFollow (take at (depths_in es)) (slice_index (depths_in es) at)

-- the rows of the placed rows, each with its own points
abbrev pub listed : List PlacedRow → List Point → List TableRow
listed [] ps = []
listed (s ∷ ss) ps = row_with s.row (take s.points ps) ∷ listed ss (drop s.points ps)

-- each placed row begins where the one before it ends, and the last ends at `total`
abbrev pub Laid : ℕ → List PlacedRow → ℕ → Type 0
Laid at [] total = at ≡ total
Laid at (s ∷ ss) total = (s.first ≡ at) × Laid (at + s.points) ss total

-- The kept nodes and points stand for the rows of one valid geometry, or for none.
pub record IsFlat (kept : List KeptNode) (points : List Point) : Type 0 where
  pub laid : Laid 0 (map placed_of kept) (length points)
  pub linked : Linked (depths_in kept) (links_in kept)
  pub valid : AreValidRowsOfOne largest_limits (listed (map placed_of kept) points)
  pub nodes : length kept ≤ NODES_CAP
  pub most : length points ≤ POINTS_CAP

-- a placed row with `n` more points
abbrev pub longer : ℕ → PlacedRow → PlacedRow
longer n s = record { row = s.row; first = s.first; points = s.points + n }

-- the placed rows, the last one with `n` more points
abbrev pub last_longer : ℕ → List PlacedRow → List PlacedRow
last_longer n [] = []
last_longer n (s ∷ []) = longer n s ∷ []
last_longer n (s ∷ t ∷ ss) = s ∷ last_longer n (t ∷ ss)

-- the last kept node can count `n` more points
abbrev pub LastHasRoom : ℕ → List KeptNode → Type 0
LastHasRoom n [] = ⊤
LastHasRoom n (e ∷ []) = e.placed.points + n < 2 ^ 32
LastHasRoom n (e ∷ f ∷ es) = LastHasRoom n (f ∷ es)

-- ==== The kind of the last kept node.

-- the kind is a linestring's or a ring's
abbrev pub IsLineKind : Kind → Type 0
IsLineKind k = (k ≡ kind.Linestring) ⊎ (k ≡ kind.Ring)

-- there is a kept node, and the last one is that of a linestring or a ring
abbrev pub LastIsLine : List KeptNode → Type 0
LastIsLine [] = ⊥
LastIsLine (e ∷ []) = IsLineKind e.placed.row.kind
LastIsLine (e ∷ f ∷ es) = LastIsLine (f ∷ es)
