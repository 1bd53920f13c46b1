-- The root of the next geometry while it waits, with its points or in its record.
use Rattle.std.proofs.Common.{◌≡◌, ◌∙◌, List, [], ◌∷◌, ◌++◌, true, false, sym, refl, inl, inr, ap, subst}
use Rattle.std.proofs.Common.{arith, ◌<◌, length}
use Rattle.std.specs.Prelude.{reverse, ◌⊎◌}
use Rattle.twkb_points.specs.Point.{Point}
use Rattle.twkb_tree.specs.Limits.{Allowance}
use Rattle.twkb_tree.specs.Rows.{Row, AreValidRowsOfOne}
use Rattle.twkb_tree.specs.Admits.{Continues}
use Rattle.twkb_tree.specs.Open.{opened}
use Rattle.twkb_tree.specs.declared.open_rows.OpenRow.{OpenRow}
use Rattle.twkb_tree.proofs.LimitLaws.{accepted_rows, valid_list}
use Rattle.twkb_flat.specs.Rows.{row_with}
use Rattle.twkb_flat.specs.Taking.{IfRefused}
use Rattle.twkb_flat.specs.declared.stop.Stop.{Stop}
use Rattle.twkb_flat.specs.declared.stop.Stop.TheVariants as stop
use Rattle.twkb_flat.specs.declared.node.Row.{Row as Bare}
use Rattle.twkb_table.specs.Record.{Record, record_of}
use Rattle.twkb_table.specs.Judged.{Accepted, Judged, Refused, Verdict}
use Rattle.twkb_table.specs.Head.{head_row, JudgedAs}
use Rattle.twkb_table.specs.Waiting.{AreWaiting, IsOfRoot, has_its_points, is_waiting, root_row, waiting_rows}
use Rattle.twkb_table.specs.declared.head.RowHead.{RowHead}
use Rattle.twkb_table.specs.declared.reason.RowReason.{RowReason}
use Rattle.twkb_table.specs.declared.row_reader.State.{State}
use Rattle.twkb_table.specs.declared.row_reader.State.TheVariants as state
use Rattle.twkb_table.proofs.Verdicts.{accepted_apart, has_room, judged_row, one_verdict, row_judged, same_accepted}
use Rattle.twkb_table.proofs.RowReaderLemmas.{begins_first, given_row, root_is, root_of}

-- ==== A root that is kept.

-- The points given are those that the verdict accepts, and the row with them begins a geometry.
pub record KeptRow (l : Allowance) (head : RowHead) (row : Bare) (points own : List Point) : Type 0 where
  pub same : row_with (head_row head) own ≡ row_with row points
  pub begins : Continues l [] (row_with row points)
  pub waits : row_with (root_row (root_of row)) points ≡ row_with (head_row head) own

pub kept_row : (l : Allowance) (head : RowHead) (row : Bare) (cleared points own : List Point)
    → row ≡ head_row head → cleared ≡ [] → points ≡ cleared ++ own
    → Continues l [] (row_with (head_row head) own) → KeptRow l head row points own
kept_row l head row cleared points own row_is none put begins =
    let same = given_row head row cleared points own row_is none put in
    let first = subst (Continues l []) same begins in
    record { same = same; begins = first; waits = sym (same ∙ root_is l row points first) }

-- ==== A root that waits in its record.

-- an accepted row after the rows of one geometry is told by its record
pub row_told : (l : Allowance) (rows : List Row) (fields : Record) (row : Row)
    → AreValidRowsOfOne l rows → Judged l (reverse rows) fields (Accepted row) → fields ≡ record_of row
row_told l rows fields row v j = (judged_row l (reverse rows) fields row
    (has_room l (reverse rows) (accepted_rows l rows (valid_list l rows v))) j).text

-- so is a first one
pub first_told : (l : Allowance) (fields : Record) (row : Row) → Judged l [] fields (Accepted row)
    → fields ≡ record_of row
first_told l fields row j = (judged_row l [] fields row (has_room l [] tt) j).text

-- a root that was accepted waits with its points or in its record
pub are_waiting : (l : Allowance) (s : State) (points : List Point) (fields : Record) (row : Row)
    → fields ≡ record_of row → Continues l [] row
    → (waiting_rows s points ≡ row ∷ []) ⊎ (s ≡ state.InRecord)
    → AreWaiting l s points fields (row ∷ [])
are_waiting l (state.Waiting root) points fields row told begins (inl kept) = sym kept
are_waiting l (state.Waiting root) points fields row told begins (inr e) = cc e
are_waiting l state.InRecord points fields row told begins place =
    record { row = row; only = refl; told = told; begins = begins }
are_waiting l _ points fields row told begins (inl kept) = cc kept
are_waiting l _ points fields row told begins (inr e) = cc e

-- the verdict on the record of a root is that root
root_judged : (l : Allowance) (fields : Record) (rows : List Row) (is : IsOfRoot l fields rows)
    → Judged l [] fields (Accepted is.row)
root_judged l fields rows is =
    subst (λ (fs : Record). Judged l [] fs (Accepted is.row)) (sym is.told)
    (row_judged l [] is.row is.begins.0 (omega (arith, is.begins.1)))

-- it is not refused
pub root_stands : (l : Allowance) (fields : Record) (rows : List Row) (reason : RowReason)
    → Judged l [] fields (Refused reason) → IsOfRoot l fields rows → ⊥
root_stands l fields rows reason j is = accepted_apart is.row reason
    (one_verdict l [] fields (Accepted is.row) (Refused reason) (root_judged l fields rows is) j)

-- nor are its points
pub root_not_refused : (l : Allowance) (fields : Record) (head : RowHead) (why : Stop RowReason)
    → ((v : Verdict) → JudgedAs head v → Judged l [] fields v)
    → IfRefused (λ reason. JudgedAs head (Refused reason)) why
    → IfRefused (λ reason. (rows : List Row) → IsOfRoot l fields rows → ⊥) why
root_not_refused l fields head stop.Memory read j = tt
root_not_refused l fields head (stop.Refused reason) read j =
    λ rows is. root_stands l fields rows reason (read (Refused reason) j) is

-- the root decoded from its record is the one that waited there
pub root_again : (l : Allowance) (fields : Record) (rows flat : List Row) (row : Row)
    → Judged l [] fields (Accepted row) → flat ≡ row ∷ [] → IsOfRoot l fields rows → rows ≡ flat
root_again l fields rows flat row j is_flat is =
    let same = same_accepted is.row row
    (one_verdict l [] fields (Accepted is.row) (Accepted row) (root_judged l fields rows is) j) in
    is.only ∙ (ap (λ (r : Row). r ∷ []) same ∙ sym is_flat)

-- a root that waits without its points is in its record
pub in_record : (l : Allowance) (s : State) (points : List Point) (fields : Record) (rows : List Row)
    → has_its_points s ≡ false → is_waiting s ≡ true → AreWaiting l s points fields rows
    → IsOfRoot l fields rows
in_record l state.InRecord points fields rows none ready w = w
in_record l (state.Waiting root) points fields rows none ready w = cc none
in_record l _ points fields rows none ready w = cc ready

-- the rows of a root that waits with its points
pub has_root : (s : State) (points : List Point) → has_its_points s ≡ true → 0 < length (waiting_rows s points)
has_root (state.Waiting root) points e = omega arith
has_root _ points e = cc e

-- a root that waits with its points is the one that waits
pub waits_alone : (l : Allowance) (s : State) (points : List Point) (fields : Record) (rows : List Row)
    → AreWaiting l s points fields rows → 0 < length (waiting_rows s points) → rows ≡ waiting_rows s points
waits_alone l (state.Waiting root) points fields rows w some = w
waits_alone l _ points fields rows w some = absurd (omega (arith, some))

-- there is a root if the state says that one waits
pub some_waits : (l : Allowance) (s : State) (points : List Point) (fields : Record) (rows : List Row)
    → AreWaiting l s points fields rows → is_waiting s ≡ true → 0 < length rows
some_waits l (state.Waiting root) points fields rows w e = omega (arith, ap (λ (rs : List Row). length rs) w)
some_waits l state.InRecord points fields rows w e = omega (arith, ap (λ (rs : List Row). length rs) w.only)
some_waits l _ points fields rows w e = cc e

-- the open rows after a root do not depend on those before it
pub opened_root : (os : List OpenRow) (r : Row) → r.depth ≡ 0 → opened r.depth os r ≡ opened r.depth [] r
opened_root os r root = subst (λ d. opened d os r ≡ opened d [] r) (sym root) refl

-- ==== A root that is decoded from its record.

-- The verdict on the record is this row, which begins a geometry.
pub record IsDecoded (l : Allowance) (fields : Record) (row : Row) : Type 0 where
  pub judged : Judged l [] fields (Accepted row)
  pub begins : Continues l [] row

pub decoded : (l : Allowance) (fields : Record) (head : RowHead) (row : Bare) (own : List Point)
    → ((v : Verdict) → JudgedAs head v → Judged l [] fields v) → row ≡ head_row head
    → JudgedAs head (Accepted (row_with (head_row head) own)) → IsDecoded l fields (row_with row own)
decoded l fields head row own read row_is given =
    let judged = subst (λ (r : Bare). Judged l [] fields (Accepted (row_with r own))) (sym row_is)
    (read (Accepted (row_with (head_row head) own)) given) in
    record { judged = judged; begins = begins_first l fields (row_with row own) judged }
