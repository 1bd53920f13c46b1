-- The state of a reader of rows, and the root that waits after the geometry before it.
use Rattle.std.specs.Prelude.{◌≡◌, ◌⊎◌, ℤ, List, [], ◌∷◌, None, Bool, true, false}
use Rattle.twkb_points.specs.Point.{Point}
use Rattle.twkb_tree.specs.Limits.{Allowance}
use Rattle.twkb_tree.specs.Refusal.{continues}
use Rattle.twkb_tree.specs.Admits.{Continues}
use Rattle.twkb_tree.specs.Rows.{Row as TableRow, whole_row}
use Rattle.twkb_tree.specs.declared.kind.Kind.TheVariants.{Point as PointKind}
use Rattle.twkb_flat.specs.Rows.{row_with}
use Rattle.twkb_flat.specs.declared.node.Row.{Row}
use Rattle.twkb_table.specs.Record.{Record, record_of}
use Rattle.twkb_table.specs.declared.row_reader.Root.{Root}
use Rattle.twkb_table.specs.declared.row_reader.State.{State}
use Rattle.twkb_table.specs.declared.row_reader.State.TheVariants as state

-- the row of the root
abbrev pub root_row : Root → Row
root_row root = record { depth = 0; kind = root.kind; id = None; precision = root.precision }

-- the rows of the root that waits with its points, if one does
abbrev pub waiting_rows : State → List Point → List TableRow
waiting_rows (state.Waiting root) points = row_with (root_row root) points ∷ []
waiting_rows _ points = []

-- The record is that of one row, which begins a valid geometry.
pub record IsOfRoot (l : Allowance) (fields : Record) (rows : List TableRow) : Type 0 where
  pub row : TableRow
  pub only : rows ≡ row ∷ []
  pub told : fields ≡ record_of row
  pub begins : Continues l [] row

-- these are the rows of the root that waits, if one does: with its points, or in this record, which
-- was the last one read
abbrev pub AreWaiting : Allowance → State → List Point → Record → List TableRow → Type 0
AreWaiting l state.InRecord points fields rows = IsOfRoot l fields rows
AreWaiting l s points fields rows = rows ≡ waiting_rows s points

-- a root waits
abbrev pub is_waiting : State → Bool
is_waiting (state.Waiting root) = true
is_waiting state.InRecord = true
is_waiting _ = false

-- a root waits with its points
abbrev pub has_its_points : State → Bool
has_its_points (state.Waiting root) = true
has_its_points _ = false

-- a root that waits begins a valid geometry
abbrev pub may_wait : Allowance → State → List Point → Bool
may_wait l (state.Waiting root) points = continues l [] (row_with (root_row root) points)
may_wait l _ points = true

-- the end of the table was reached, and no root waits
abbrev pub is_over : State → Bool
is_over state.Over = true
is_over _ = false

-- a call returned an error, or is reading a header or a geometry
abbrev pub is_stopped : State → Bool
is_stopped state.Spent = true
is_stopped _ = false

-- the row of a root that is a point, with its precision
abbrev pub point_row : ℤ → Point → TableRow
point_row p q = whole_row 0 PointKind None p (q ∷ [])

-- these are the rows of a point that is not empty
abbrev pub IsPoint : List TableRow → Type 0
IsPoint rs = (p : ℤ) × (q : Point) × (rs ≡ point_row p q ∷ [])

-- there is no row, or these are the rows of a point that is not empty
abbrev pub IsAlone : List TableRow → Type 0
IsAlone rs = (rs ≡ []) ⊎ IsPoint rs
