-- The totals of the rows at each depth.
use Rattle.std.specs.Prelude.{ℕ, ◌≡◌, ◌<◌, ◌≤◌, List, length, slice_index_or}
use Rattle.twkb_writer.specs.declared.depths.TheConstants.{DEPTHS}
use Rattle.twkb_writer.specs.declared.totals.RowTotals.{RowTotals}
use Rattle.twkb_writer.specs.Totals.{blank}

-- there are totals for all depths, and those from depth `used` on are of no rows
pub record IsBlankFrom (used : ℕ) (by_depth : List RowTotals) : Type 0 where
  pub size : length by_depth ≡ DEPTHS
  pub within : used ≤ DEPTHS
  pub blanks : (k : ℕ) → used ≤ k → k < DEPTHS → slice_index_or by_depth k blank ≡ blank
