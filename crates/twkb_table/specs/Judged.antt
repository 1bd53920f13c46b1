-- The verdict on a record after the rows so far: a row, or refused for the first reason that holds (profile).
use Rattle.std.specs.Prelude.{◌≡◌, ◌≢◌, ℕ, ◌-◌, ◌≤◌, ◌⊎◌, ◌&&◌, ℤ, List, [], ◌∷◌, length, Option, Bool, false, true}
use Rattle.twkb_points.specs.Point.{Point}
use Rattle.twkb_polyline.specs.Polyline.{DecodesTo}
use Rattle.twkb_polyline.specs.Fault.{IsTextFault}
use Rattle.twkb_polyline.specs.declared.fault.PolyReason.{PolyReason}
use Rattle.twkb_tree.specs.declared.kind.Kind.{Kind}
use Rattle.twkb_tree.specs.Rows.{Row}
use Rattle.twkb_tree.specs.Limits.{Allowance}
use Rattle.twkb_tree.specs.Admits.{parent, first_child, steps_to, has_place, id_allowed, has_same_ids}
use Rattle.twkb_tree.specs.Admits.{has_needed_precision, precision_allowed, is_geometry, points_fit, has_points}
use Rattle.twkb_tree.specs.Admits.{nest_kept, geometry_rows, point_count, since_root}
use Rattle.twkb_table.specs.Record.{IsDepthField, IsOptionalId, IsOptionalPrecision, Record}
use Rattle.twkb_tree.specs.Kind.{word_of}
use Rattle.twkb_table.specs.declared.reason.RowReason.{RowReason}
use Rattle.twkb_table.specs.declared.reason.RowReason.TheVariants.{FieldCount, BadDepth, BadKind, BadPlace, TooDeep}
use Rattle.twkb_table.specs.declared.reason.RowReason.TheVariants.{TooManyNodes, BadId, IdNotAllowed, MixedIds}
use Rattle.twkb_table.specs.declared.reason.RowReason.TheVariants.{BadPrecision, PrecisionMissing}
use Rattle.twkb_table.specs.declared.reason.RowReason.TheVariants.{PrecisionNotAllowed, PolylineNotAllowed, Polyline}
use Rattle.twkb_table.specs.declared.reason.RowReason.TheVariants.{PointCount}
use Rattle.twkb_polyline.specs.declared.fault.PolyReason.TheVariants as text
use Rattle.twkb_tree.specs.declared.row_checks.Refusal.{Refusal}
use Rattle.twkb_table.specs.declared.reason.RowReason.TheVariants as row
use Rattle.twkb_tree.specs.declared.open_rows.OpenRow.{OpenRow}
use Rattle.twkb_tree.specs.Open.{AreOpen, row_of, child_of}
use Rattle.twkb_tree.specs.declared.row_place.RowPlace.{RowPlace}

-- ==== The verdict on a record after the rows so far: a row, or refused for the first reason that
-- holds (profile).

-- a record is a row, or is refused for a reason
pub data Verdict : Type 0 where
  Accepted : Row → Verdict
  Refused : RowReason → Verdict

-- the verdict is this reason if P holds; if not, the other reasons decide
abbrev pub When : Verdict → Type 0 → RowReason → Type 0 → Type 0
When v P reason Others = (P × (v ≡ Refused reason)) ⊎ ((P → ⊥) × Others)

-- the verdict is this reason if P holds of no value; if it holds of one, the other reasons decide,
-- given that value
abbrev pub Unless : {A : Type 0} → Verdict → (A → Type 0) → RowReason → (A → Type 0) → Type 0
Unless {A} v P reason Others = (((a : A) → P a → ⊥) × (v ≡ Refused reason)) ⊎ ((a : A) × P a × Others a)

-- the verdict is the fault of the text, with its offset; if the text has no fault, the other
-- reasons decide, given the points that it decodes to
abbrev pub UnlessFaulty : List ℕ → ℕ → Verdict → (List Point → Type 0) → Type 0
UnlessFaulty text most v Others =
    ((offset : ℕ) × (why : PolyReason) × IsTextFault text most offset why × (v ≡ Refused (Polyline offset why)))
    ⊎ ((ps : List Point) × DecodesTo text most ps × Others ps)

-- The place of a row: its depth, whether a row may be so deep here, its parent, the first child
-- of that parent, and the numbers of rows and points of its geometry so far.
pub record Place : Type 0 where
  pub depth : ℕ
  pub steps : Bool
  pub parent : Option Row
  pub first : Option Row
  pub nodes : ℕ
  pub points : ℕ

-- the place of a row at this depth after the rows so far, last one first
abbrev pub place_of : ℕ → List Row → Place
place_of d before = record {
  depth = d;
  steps = steps_to d before;
  parent = parent d before;
  first = first_child d before;
  nodes = length (geometry_rows d before);
  points = point_count (geometry_rows d before);
}

-- the number of points that the limit leaves for the geometry
abbrev pub points_left : Allowance → Place → ℕ
points_left l here = l.points - here.points

-- the reason PointCount, given the points that the text decodes to
abbrev pub JudgedByCount : Place → Kind → Option ℤ → Option ℤ → List Point → Verdict → Type 0
JudgedByCount here k id precision ps v =
    When v (points_fit k (is_geometry here.parent) ps ≡ false) PointCount
    (v ≡ Accepted (record { depth = here.depth; kind = k; id = id; precision = precision; points = ps }))

-- the reasons PolylineNotAllowed and Polyline, followed by that of the number of points
abbrev pub JudgedByPoints : Allowance → Place → Kind → Option ℤ → Option ℤ → List ℕ → Verdict → Type 0
JudgedByPoints l here k id precision text v =
    When v ((text ≢ []) × (has_points k ≡ false)) PolylineNotAllowed
    (UnlessFaulty text (points_left l here) v (λ ps. JudgedByCount here k id precision ps v))

-- the reasons PrecisionMissing and PrecisionNotAllowed, followed by those of the points
abbrev pub JudgedHavingPrecision : Allowance → Place → Kind → Option ℤ → Option ℤ → List ℕ → Verdict → Type 0
JudgedHavingPrecision l here k id precision text v =
    When v (has_needed_precision here.parent precision ≡ false) PrecisionMissing
    (When v (precision_allowed here.parent precision ≡ false) PrecisionNotAllowed
    (JudgedByPoints l here k id precision text v))

-- the reason BadPrecision, followed by the others of the precision
abbrev pub JudgedByPrecision : Allowance → Place → Kind → Option ℤ → List ℕ → List ℕ → Verdict → Type 0
JudgedByPrecision l here k id precision_field text v =
    Unless v (IsOptionalPrecision precision_field) BadPrecision (λ precision.
    JudgedHavingPrecision l here k id precision text v)

-- the reasons IdNotAllowed and MixedIds, followed by those of the precision
abbrev pub JudgedHavingId : Allowance → Place → Kind → Option ℤ → List ℕ → List ℕ → Verdict → Type 0
JudgedHavingId l here k id precision_field text v =
    When v (id_allowed here.parent k id ≡ false) IdNotAllowed
    (When v (has_same_ids here.first id ≡ false) MixedIds
    (JudgedByPrecision l here k id precision_field text v))

-- the reason BadId, followed by the others of the id
abbrev pub JudgedById : Allowance → Place → Kind → List ℕ → List ℕ → List ℕ → Verdict → Type 0
JudgedById l here k id_field precision_field text v =
    Unless v (IsOptionalId id_field) BadId (λ id. JudgedHavingId l here k id precision_field text v)

-- the reasons BadPlace, TooDeep and TooManyNodes, followed by those of the id
abbrev pub JudgedByPlace : Allowance → Place → Kind → List ℕ → List ℕ → List ℕ → Verdict → Type 0
JudgedByPlace l here k id_field precision_field text v =
    When v ((here.steps && has_place here.parent k) ≡ false) BadPlace
    (When v (nest_kept l here.parent here.depth ≡ false) TooDeep
    (When v (l.nodes ≤ here.nodes) TooManyNodes
    (JudgedById l here k id_field precision_field text v)))

-- the verdict on a record after these rows, last one first: FieldCount, BadDepth and BadKind,
-- followed by the reasons of its place
abbrev pub Judged : Allowance → List Row → Record → Verdict → Type 0
Judged l before (depth_field ∷ kind_field ∷ id_field ∷ precision_field ∷ text ∷ []) v =
    Unless v (IsDepthField depth_field) BadDepth (λ d.
    Unless v (λ k. kind_field ≡ word_of k) BadKind (λ k.
    JudgedByPlace l (place_of d before) k id_field precision_field text v))
Judged l before _ v = v ≡ Refused FieldCount

-- ==== The reason of a record that breaks a rule of rows.

-- the reason of a record that breaks a rule of rows; points that have no text are refused at byte 0
abbrev pub rule_reason : Refusal → RowReason
rule_reason Refusal.BadPlace = row.BadPlace
rule_reason Refusal.TooDeep = row.TooDeep
rule_reason Refusal.TooManyNodes = row.TooManyNodes
rule_reason Refusal.BadId = row.BadId
rule_reason Refusal.IdNotAllowed = row.IdNotAllowed
rule_reason Refusal.MixedIds = row.MixedIds
rule_reason Refusal.BadPrecision = row.BadPrecision
rule_reason Refusal.PrecisionMissing = row.PrecisionMissing
rule_reason Refusal.PrecisionNotAllowed = row.PrecisionNotAllowed
rule_reason Refusal.PointsNotAllowed = row.PolylineNotAllowed
rule_reason Refusal.PointCount = row.PointCount
rule_reason Refusal.CoordinateRange = row.Polyline 0 text.Range
rule_reason Refusal.TooManyPoints = row.Polyline 0 text.TooMany

-- ==== The verdict that a row's id, its precision and the number of its points give its record.

-- a row of this kind may have this id at this place, and the field spells it: the verdict on its
-- precision is the verdict on its id
abbrev pub HasId : Place → Kind → List ℕ → Option ℤ → Type 0
HasId here k field id =
    (l : Allowance) (precision_field text : List ℕ) (v : Verdict)
    → JudgedByPrecision l here k id precision_field text v → JudgedById l here k field precision_field text v

-- the field is no id for a row of this kind at this place, for this reason, whatever its other
-- fields are
abbrev pub LacksId : Place → Kind → List ℕ → RowReason → Type 0
LacksId here k field reason =
    (l : Allowance) (precision_field text : List ℕ) → JudgedById l here k field precision_field text (Refused reason)

-- a row may have this precision at this place, and the field spells it: the verdict on its points
-- is the verdict on its precision
abbrev pub HasPrecision : Place → List ℕ → Option ℤ → Type 0
HasPrecision here field precision =
    (l : Allowance) (k : Kind) (id : Option ℤ) (text : List ℕ) (v : Verdict)
    → JudgedByPoints l here k id precision text v → JudgedByPrecision l here k id field text v

-- the field is no precision for a row at this place, for this reason, whatever its other fields are
abbrev pub LacksPrecision : Place → List ℕ → RowReason → Type 0
LacksPrecision here field reason =
    (l : Allowance) (k : Kind) (id : Option ℤ) (text : List ℕ)
    → JudgedByPrecision l here k id field text (Refused reason)

-- a row of this kind may have these points at this place: the record is accepted
abbrev pub AllowsCount : Place → Kind → List Point → Type 0
AllowsCount here k ps =
    (id precision : Option ℤ)
    → JudgedByCount here k id precision ps (Accepted (record {
      depth = here.depth;
      kind = k;
      id = id;
      precision = precision;
      points = ps;
    }))

-- a row of this kind may not have as many points as these at this place, for this reason
abbrev pub RefusesCount : Place → Kind → List Point → RowReason → Type 0
RefusesCount here k ps reason = (id precision : Option ℤ) → JudgedByCount here k id precision ps (Refused reason)

-- ==== The place of the next row, by the open rows.

-- the place of a row, with a parent of the open row's kind and a first child with an id or without
abbrev pub place_seen : RowPlace → Place
place_seen row_place = record {
  depth = row_place.depth;
  steps = true;
  parent = row_of row_place.parent;
  first = child_of row_place.parent;
  nodes = row_place.nodes;
  points = row_place.points;
}

-- The open rows and the two counts are those of the rows so far, last one first.
pub record StandsAfter (before : List Row) (rows : List OpenRow) (nodes points : ℕ) : Type 0 where
  pub open_rows : AreOpen before rows
  pub node_count : nodes ≡ length (since_root before)
  pub points_held : points ≡ point_count (since_root before)
