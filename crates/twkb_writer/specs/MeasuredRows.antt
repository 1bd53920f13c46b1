-- The totals of rows, found in one pass from the last row to the first.
use Rattle.std.specs.Prelude.{◌≡◌, ℕ, suc, ◌+◌, ◌*◌, ◌<◌, ◌≤◌, ℤ, nat_lt, nat_eq, if◌then◌else◌, List, [], ⊤, ◌∷◌}
use Rattle.std.specs.Prelude.{◌++◌, length, slice_index_or, slice_set, Option, None, Some}
use Rattle.twkb_points.specs.Point.{Point}
use Rattle.twkb_tree.specs.declared.kind.Kind.{Kind}
use Rattle.twkb_tree.specs.declared.limits.TheConstants.{NODES_CAP, POINTS_CAP}
use Rattle.twkb_tree.specs.Rows.{Row, row_points, IsAbove}
use Rattle.twkb_tree.specs.Tree.{saturated}
use Rattle.twkb_flat.specs.Rows.{row_depth_cap}
use Rattle.twkb_flat.specs.declared.node.Node.{Node}
use Rattle.twkb_flat.specs.declared.work.Work.{Work}
use Rattle.twkb_grammar.specs.declared.style.Style.{Style}
use Rattle.twkb_writer.specs.declared.depths.TheConstants.{DEPTHS}
use Rattle.twkb_writer.specs.declared.totals.RowTotals.{RowTotals}
use Rattle.twkb_writer.specs.declared.sizes.Entry.{Entry}
use Rattle.twkb_writer.specs.declared.tails.TailTotals.{TailTotals}
use Rattle.twkb_writer.specs.Totals.{blank, entry_for, with_component, with_geometry, tail_of}
use Rattle.twkb_flat.specs.declared.node.Row.{Row as FlatRow}
use Rattle.twkb_grammar.specs.declared.style.Style.TheVariants.{Full}
use Rattle.twkb_writer.specs.declared.measured_tree.RowPass.{RowPass}

-- ==== The totals of rows, found in one pass from the last row to the first.

-- the points up to the next geometry, if the row is a component; none if it is a geometry itself
abbrev pub ahead_of : Option ℤ → List Point → List Point
ahead_of None ps = ps
ahead_of (Some p) ps = []

-- the points of the rows before the next geometry
abbrev pub points_ahead : List Row → List Point
points_ahead [] = []
points_ahead (r ∷ rs) = ahead_of r.precision (r.points ++ points_ahead rs)

-- the totals after one more row is added before the rows: it has `own` points, `below` totals the
-- rows under it, and `t` totals the points up to the end of its geometry
abbrev pub row_totals : Style → Kind → ℕ → Option ℤ → Option ℤ → RowTotals → TailTotals → RowTotals → RowTotals
row_totals style k own id None below t l = with_component k own id below l
row_totals style k own id (Some p) below t l = with_geometry style (entry_for style k p own below t).size p id below t l

-- the entry of the row, if it is a geometry itself
abbrev pub row_entry : Style → Kind → ℕ → Option ℤ → RowTotals → TailTotals → Option Entry
row_entry style k own None below t = None
row_entry style k own (Some p) below t = Some (entry_for style k p own below t)

-- the totals of the rows at a depth, up to the first row above it; deeper rows are passed over
abbrev pub totals : Style → ℕ → List Row → RowTotals
totals style k [] = blank
totals style k (r ∷ rs) = if nat_lt r.depth k then blank else if nat_eq r.depth k then row_totals style r.kind
    (length r.points) r.id r.precision (totals style (suc k) rs) (tail_of (r.points ++ points_ahead rs))
    (totals style k rs) else totals style k rs

-- the totals of points that the row before this one adds to: none if this row begins a geometry
abbrev pub tail_after : Option ℤ → TailTotals → TailTotals
tail_after None t = t
tail_after (Some p) t = tail_of []

-- the sum of three numbers in the totals of a depth: of its rows, of the bytes of their ids, and of
-- their other bytes
abbrev pub weight : RowTotals → ℕ
weight l = l.members + l.ids + l.bytes

-- the sum of the weights of all depths
abbrev pub weights : List RowTotals → ℕ
weights [] = 0
weights (l ∷ ls) = weight l + weights ls

-- the most that a row adds to the weights of the rows below and after it, if the points up to the
-- end of its geometry have this many bytes
abbrev pub cost_of : Option ℤ → ℕ → ℕ
cost_of None points = 100
cost_of (Some p) points = 100 + points

-- the entry, if there is one
abbrev pub option_list : Option Entry → List Entry
option_list None = []
option_list (Some e) = e ∷ []

-- the entries of the geometries among the rows
abbrev pub measured : Style → List Row → List Entry
measured style [] = []
measured style (r ∷ rs) =
    option_list (row_entry style r.kind (length r.points) r.precision (totals style (suc r.depth) rs)
    (tail_of (r.points ++ points_ahead rs)))
    ++ measured style rs

-- One row is added: the totals at each depth after it, and its entry, given the points up to the
-- end of its geometry.
pub record TakenRow (style : Style) (node : Node) (points : TailTotals) (old new : List RowTotals)
    (entry : Option Entry) : Type 0 where
  pub own : RowTotals
  pub own_is : own ≡ row_totals style node.row.kind node.points node.row.id node.row.precision
      (slice_index_or old (node.row.depth + 1) blank) points (slice_index_or old node.row.depth blank)
  pub own_small : weight own ≤ weight (slice_index_or old (node.row.depth + 1) blank) + weight
      (slice_index_or old node.row.depth blank) + cost_of node.row.precision points.bytes
  pub set_both : new ≡ slice_set (slice_set old (node.row.depth + 1) blank) node.row.depth own
  pub entry_is : entry ≡ row_entry style node.row.kind node.points node.row.precision
      (slice_index_or old (node.row.depth + 1) blank) points

-- no row is deeper than the cap, or more than one level deeper than the row before it
abbrev pub AreNested : List Row → Type 0
AreNested [] = ⊤
AreNested (r ∷ rs) = (r.depth ≤ row_depth_cap) × IsAbove (r.depth + 2) rs × AreNested rs

-- a pass can measure these rows: there are not too many rows and points, and they are nested
pub record AreMeasurable (rs : List Row) : Type 0 where
  pub few_rows : length rs ≤ NODES_CAP
  pub few_points : length (row_points rs) ≤ POINTS_CAP
  pub nested : AreNested rs

-- What a pass has found of these rows: the totals at each depth, and those of the points up to the
-- next geometry.
pub record Stands (style : Style) (rs : List Row) (by_depth : List RowTotals) (tail : TailTotals)
    : Type 0 where
  pub size : length by_depth ≡ DEPTHS
  pub totals_are : (k : ℕ) → k < DEPTHS → slice_index_or by_depth k blank ≡ totals style k rs
  pub tail_is : tail ≡ tail_of (points_ahead rs)
  pub small : weights by_depth + tail.bytes ≤ 100 * length rs + 20 * length (row_points rs)

-- these points, nodes and entries were measured, and nothing was read
pub record Measures (old : Work) (points nodes entries : ℕ) (new : Work) : Type 0 where
  pub more_points : new.points ≡ saturated (old.points + points)
  pub more_nodes : new.nodes ≡ saturated (old.nodes + nodes)
  pub more_entries : new.entries ≡ saturated (old.entries + entries)
  pub same_point_reads : new.point_reads ≡ old.point_reads
  pub same_node_reads : new.node_reads ≡ old.node_reads

-- these points, nodes and entries were measured, and as many reads of points and of nodes were counted
pub record Counted (old : Work) (points nodes entries : ℕ) (new : Work) : Type 0 where
  pub more_points : new.points ≡ saturated (old.points + points)
  pub more_nodes : new.nodes ≡ saturated (old.nodes + nodes)
  pub more_entries : new.entries ≡ saturated (old.entries + entries)
  pub point_reads : new.point_reads ≡ saturated (old.point_reads + points)
  pub node_reads : new.node_reads ≡ saturated (old.node_reads + nodes)

-- ==== The rows of a geometry, added to a pass from the last to the first.

-- these rows may be added before those that the pass has measured
pub record Awaits (pass : RowPass) (rs : List Row) : Type 0 where
  pub rest : List Row
  pub stands : Stands Full rest pass.depths pass.tail
  pub fit : AreMeasurable (rs ++ rest)

-- these rows were added before whichever rows the pass had measured
pub record Adds (old : RowPass) (rs : List Row) (new : RowPass) : Type 0 where
  pub stands : (rest : List Row) → Stands Full rest old.depths old.tail → AreMeasurable (rs ++ rest)
      → Stands Full (rs ++ rest) new.depths new.tail

-- the row of a component, without its points
abbrev pub part_row : Kind → ℕ → Option ℤ → FlatRow
part_row kind depth id = record { depth = depth; kind = kind; id = id; precision = None }
