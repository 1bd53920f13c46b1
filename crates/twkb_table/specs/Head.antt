-- A row that was read except for its points, and the verdict that its points give the record.
use Rattle.std.specs.Prelude.{◌≡◌, ◌≢◌, List, [], false, Result, Ok, Err}
use Rattle.twkb_points.specs.Point.{Point}
use Rattle.twkb_flat.specs.Rows.{row_with}
use Rattle.twkb_tree.specs.Admits.{has_points}
use Rattle.twkb_flat.specs.declared.node.Row.{Row}
use Rattle.twkb_table.specs.Judged.{Verdict, Accepted, Refused, JudgedByPoints, place_seen}
use Rattle.twkb_table.specs.declared.head.RowHead.{RowHead}
use Rattle.twkb_table.specs.declared.reason.RowReason.{RowReason}

-- the row, without points
abbrev pub head_row : RowHead → Row
head_row head = record { depth = head.row_place.depth; kind = head.kind; id = head.id; precision = head.precision }

-- the row's kind has no points, but its record has a text of points
abbrev pub HasNeedlessText : RowHead → Type 0
HasNeedlessText head = (head.text.now ≢ []) × (has_points head.kind ≡ false)

-- the verdict that the text of the points gives the record
abbrev pub JudgedAs : RowHead → Verdict → Type 0
JudgedAs head v = JudgedByPoints head.limits
    (place_seen head.row_place) head.kind head.id head.precision head.text.now v

-- the text of the points gives the record this verdict: it is accepted, with some points
abbrev pub IsAccepted : RowHead → Type 0
IsAccepted head = (own : List Point) × JudgedAs head (Accepted (row_with (head_row head) own))

-- `Holds` is true of the verdict on a record: the one that the points of its row give, or else the
-- reason found before them
abbrev pub JudgedBy : (Verdict → Type 0) → Result RowHead RowReason → Type 0
JudgedBy Holds (Ok head) = (v : Verdict) → JudgedAs head v → Holds v
JudgedBy Holds (Err reason) = Holds (Refused reason)
