-- The rows of a flat form, its nodes among them, and how the depths of rows link them.
use Rattle.std.specs.Prelude.{ℕ, ◌≡◌, ◌+◌, ◌<◌, ◌≤◌, List, [], ◌∷◌, length, slice_index, ◌⊎◌, map, drop, take}
use Rattle.twkb_points.specs.Point.{Point}
use Rattle.twkb_tree.specs.declared.limits.TheConstants.{NEST_CAP}
use Rattle.twkb_tree.specs.Rows.{Row as TableRow, row_points}
use Rattle.twkb_flat.specs.declared.node.Row.{Row}
use Rattle.twkb_flat.specs.declared.node.Node.{Node}

-- ==== The end of a row's subtree and the parent of an open row, by the depths of the rows.

-- one more than the last depth
abbrev pub levels : List ℕ → ℕ
levels [] = 0
levels (d ∷ []) = d + 1
levels (d ∷ e ∷ ds) = levels (e ∷ ds)

-- `next` is the row after the subtree of row i: the rows between are deeper than i, and the one
-- at `next`, if there is one, is not
pub record IsNext (ds : List ℕ) (i next : ℕ) : Type 0 where
  pub after : i < next
  pub within : next ≤ length ds
  pub deeper : (j : ℕ) → i < j → j < next → slice_index ds i < slice_index ds j
  pub ends : next < length ds → slice_index ds next ≤ slice_index ds i

-- all rows after this one are deeper
abbrev pub IsOpen : List ℕ → ℕ → Type 0
IsOpen ds i = (j : ℕ) → i < j → j < length ds → slice_index ds i < slice_index ds j

-- the open row at this depth is at place i
pub record OpenPlace (ds : List ℕ) (d i : ℕ) : Type 0 where
  pub within : i < length ds
  pub depth : slice_index ds i ≡ d
  pub is_open : IsOpen ds i

-- `up` is the place of the parent of the open row i; if i is a root, `up` is only known to be at
-- most i
pub record IsUp (ds : List ℕ) (i up : ℕ) : Type 0 where
  pub before : up ≤ i
  pub parent : (d : ℕ) → slice_index ds i ≡ d + 1 → OpenPlace ds d up

-- Each link is the end of the row's subtree, or, for an open row, the place of its parent, which
-- is not after it.
pub record Linked (ds nexts : List ℕ) : Type 0 where
  pub same : length nexts ≡ length ds
  pub links : (i : ℕ) → i < length ds → (IsOpen ds i × IsUp ds i (slice_index nexts i))
      ⊎ (IsNext ds i (slice_index nexts i) × (slice_index nexts i < length ds))
  pub steps : (i : ℕ) → i + 1 < length ds → slice_index ds (i + 1) ≤ slice_index ds i + 1

-- the links, with those of the open rows from depth d on set to `next`
pub record AreClosed (ds nexts after : List ℕ) (d next : ℕ) : Type 0 where
  pub shut : (i : ℕ) → i < length ds → IsOpen ds i → d ≤ slice_index ds i → slice_index after i ≡ next
  pub kept : (i : ℕ) → i < length ds → (IsOpen ds i → slice_index ds i < d) → slice_index after i ≡ slice_index nexts i

-- one more row at this depth may come after these: under an open row, or as the first row and a
-- root
pub record MayFollow (ds : List ℕ) (d : ℕ) : Type 0 where
  pub step : d ≤ levels ds
  pub below : 0 < length ds → 0 < d

-- ==== The rows of a flat form, and its nodes among them.

-- a row with its own points
abbrev pub row_with : Row → List Point → TableRow
row_with r ps = record { depth = r.depth; kind = r.kind; id = r.id; precision = r.precision; points = ps }

-- The greatest depth of a row: that of a ring in a polygon of a multipolygon that is in as many
-- collections as limits allow.
abbrev pub row_depth_cap : ℕ
row_depth_cap = NEST_CAP + 2

-- the depth of a row
abbrev pub depth_of : TableRow → ℕ
depth_of r = r.depth

-- the depths of the rows
abbrev pub depths : List TableRow → List ℕ
depths rows = map depth_of rows

-- The node at a place of the rows: its row, its own points among all points, and the place after
-- its subtree. The row after the node is its child, or is no deeper.
pub record IsNode (rows : List TableRow) (i : ℕ) (node : Node) : Type 0 where
  pub own : List Point
  pub rest : List TableRow
  pub here : drop i rows ≡ row_with node.row own ∷ rest
  pub count : length own ≡ node.points
  pub first : length (row_points (take i rows)) ≡ node.first.0
  pub next : IsNext (depths rows) i node.next.0
  pub child : i + 1 < length rows → slice_index (depths rows) (i + 1) ≤ node.row.depth + 1
