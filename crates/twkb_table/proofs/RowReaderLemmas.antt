-- The records of a text, and the next row of a record, judged by the open rows.
use Rattle.std.proofs.Common.{◌≡◌, ◌∙◌, ℕ, List, [], ◌∷◌, ◌++◌, Option, Some, None, Bool, true, false, Ok, sym, refl}
use Rattle.std.proofs.Common.{inl, ap, subst, arith, zero, suc, ◌+◌, ◌-◌, ◌<◌, ◌≤◌, length, take, set, get_or}
use Rattle.std.proofs.Common.{length-append, inr, ℤ, Result, Err, Bor}
use Rattle.std.specs.Prelude.{option_map, IfSome, map, is_some, nat_le, reverse, ◌&&◌, IsSome}
use Rattle.std.specs.Borrow.{MutBor}
use Rattle.csv.specs.Reading.{Reached, ReadRecord, Ready, default_config, is_flexible, reader_state, reader_trim}
use Rattle.csv.specs.Reading.{source_of, strip_bom, took_first, AreRecords}
use Rattle.csv.specs.declared.reader.Reader.{Reader}
use Rattle.csv.specs.declared.parser.State.TheVariants as st
use Rattle.csv.specs.declared.reader.Trim.TheVariants as trim
use Rattle.csv.proofs.ReadFacts.{rows-end, rows-more}
use Rattle.twkb_io.specs.declared.tap.Tap.{Tap}
use Rattle.twkb_table.specs.Record.{Record, record_of, header, table, IsDepthField}
use Rattle.twkb_table.specs.CsvRecords.{ReadsNext, AreRecordsOf, BeginWith, HasGivenOf, IsSetUp, standing, told_by}
use Rattle.std.specs.List.{AllByRecursion}
use Rattle.csv.specs.Machine.{next_record}
use Rattle.csv.proofs.RoundTrip.{read-write}
use Rattle.twkb_points.specs.Steps.{differences}
use Rattle.twkb_tree.specs.Tree.{Tree}
use Rattle.twkb_tree.specs.Limits.{Allowance, IsAllowance}
use Rattle.twkb_tree.specs.Rows.{Row, rows_of, row_points, AreRowsOfOne, AreValidRowsOfOne}
use Rattle.twkb_table.specs.RowFault.{Named}
use Rattle.twkb_table.specs.Text.{joined, csvtext}
use Rattle.twkb_table.proofs.FieldLemmas.{IsPlain, ArePlain, precision-ids, same_row}
use Rattle.twkb_table.proofs.Verdicts.{plain_rows, judged_row, has_room, both_true}
use Rattle.twkb_table.proofs.LineLemmas.{AreBare, bare_decimal, bare_optional, bare_text, bare_word, row_same}
use Rattle.std.proofs.Math.Seq.{take-append_seam}
use Rattle.std.proofs.lemmas.List.{length-take-le, get_or-set_other, reverse-append, length-reverse}
use Rattle.twkb_tree.specs.declared.kind.Kind.{Kind}
use Rattle.twkb_tree.specs.declared.open_rows.OpenRow.{OpenRow}
use Rattle.twkb_tree.specs.Open.{opened, first_answer, ids_by, open_parent, row_of, child_of, count_at, AreOpen}
use Rattle.twkb_tree.specs.Open.{row_place_at}
use Rattle.std.proofs.lemmas.Bool.Decides.{nat_tests}
use Rattle.std.proofs.lemmas.Bool.{true≢false}
use Rattle.csv.specs.Records.{field_at}
use Rattle.twkb_points.specs.Point.{Point}
use Rattle.twkb_polyline.specs.Polyline.{AppendsDecoded, DecodesTo}
use Rattle.twkb_polyline.specs.Fault.{IsRefused}
use Rattle.twkb_polyline.specs.declared.fault.PolyFault.{PolyFault}
use Rattle.twkb_polyline.specs.declared.fault.PolyFault.TheVariants.{At}
use Rattle.twkb_polyline.specs.declared.fault.PolyReason.{PolyReason}
use Rattle.twkb_tree.specs.Admits.{parent, first_child, steps_to, has_place, fits, id_allowed, admits_after}
use Rattle.twkb_tree.specs.Admits.{has_points, geometry_rows, point_count, Accepts, Continues, since_root}
use Rattle.twkb_tree.specs.Kind.{word_of}
use Rattle.twkb_tree.specs.declared.row_place.RowPlace.{RowPlace}
use Rattle.twkb_tree.specs.declared.kind.Kind.TheVariants as kind
use Rattle.twkb_tree.proofs.OpenLaws.{kind_by, head_kind, head_id, steps_open, kind_under, ids_under, nodes_under}
use Rattle.twkb_tree.proofs.OpenLaws.{points_under, open_more, open_none, steps_within, continues_is, continues_true}
use Rattle.twkb_tree.proofs.OpenLaws.{none_is, root_alone, open_last, since_last, point_count-reverse}
use Rattle.twkb_tree.proofs.LimitLaws.{accepted_rows, continued, valid_list}
use Rattle.twkb_tree.proofs.RowForest.{facts}
use Rattle.twkb_flat.specs.declared.stop.Stop.{Stop}
use Rattle.twkb_flat.specs.Taking.{IfRefused}
use Rattle.twkb_flat.specs.declared.stop.Stop.TheVariants as stop
use Rattle.twkb_flat.specs.Rows.{row_with}
use Rattle.twkb_flat.specs.declared.node.Row.{Row as Bare}
use Rattle.twkb_table.specs.Judged.{Verdict, place_of, JudgedByPlace, Accepted, Judged, Refused, place_seen}
use Rattle.twkb_table.specs.Judged.{StandsAfter, AllowsCount, RefusesCount}
use Rattle.twkb_table.specs.Waiting.{point_row, IsAlone, may_wait, root_row}
use Rattle.twkb_table.specs.declared.row_reader.State.{State}
use Rattle.twkb_table.specs.declared.row_reader.State.TheVariants as state
use Rattle.twkb_table.specs.RowReading.{JudgedAfter, Kept}
use Rattle.twkb_table.specs.declared.reason.RowReason.{RowReason}
use Rattle.twkb_table.specs.declared.reason.RowReason.TheVariants.{BadKind, BadPlace, Polyline}
use Rattle.twkb_table.specs.declared.row_reader.Root.{Root}
use Rattle.twkb_table.specs.Head.{head_row, HasNeedlessText, IsAccepted, JudgedAs, JudgedBy}
use Rattle.twkb_table.specs.declared.head.RowHead.{RowHead}

-- ==== What a read of `csv` says about the place in a text.

-- a new reader has given no record
pub given_none : {R : Type 0} (remaining : R → Option (List ℕ)) (told : Option (List ℕ))
    (reader : Reader (MutBor (Tap R)))
    → source_of (told_by remaining) reader ≡ option_map strip_bom told → reader_state reader ≡ st.StartRecord
    → HasGivenOf remaining told [] reader
unfolding Reached
given_none remaining None reader source state = tt
given_none remaining (Some text) reader source state = (strip_bom text, source, (sym state, refl))

-- one more record was given
given_more : {R : Type 0} (remaining : R → Option (List ℕ)) (old new : Reader (MutBor (Tap R)))
    (fields : Record)
    → IsSetUp old → ReadRecord (told_by remaining) old new true fields
    → (told : Option (List ℕ)) (records : List Record) → HasGivenOf remaining told records old
    → HasGivenOf remaining told (records ++ fields ∷ []) new
given_more remaining old new fields set_up read None records given = tt
given_more remaining old new fields set_up read (Some text) records given =
    rows-more (told_by remaining) old new fields default_config st.StartRecord (strip_bom text)
    given.0 records set_up.3 given.1 given.2 read

-- there is no further record
given_all : {R : Type 0} (remaining : R → Option (List ℕ)) (old new : Reader (MutBor (Tap R)))
    (fields : Record)
    → IsSetUp old → ReadRecord (told_by remaining) old new false fields
    → (told : Option (List ℕ)) (records : List Record) → HasGivenOf remaining told records old
    → IfSome told (λ text. AreRecordsOf text records)
given_all remaining old new fields set_up read None records given = tt
given_all remaining old new fields set_up read (Some text) records given = (
  reader_state old,
  given.0,
  given.2,
  rows-end (told_by remaining) old new fields default_config
      given.0 set_up.3 given.1 read,
)

-- the text begins with the records given
pub row_place_begins : {R : Type 0} (remaining : R → Option (List ℕ)) (told : Option (List ℕ))
    (records : List Record) (ended : Bool) (reader : Reader (MutBor (Tap R)))
    → standing remaining told records ended reader → IfSome told (λ text. BeginWith text records)
row_place_begins remaining None records ended reader s = tt
row_place_begins remaining (Some text) records false reader s = (reader_state reader, s.1.0, s.1.2)
row_place_begins remaining (Some text) records true reader s = (s.0, s.1, s.2)

-- what a read of `csv` shows
pub given_next : {R : Type 0} (remaining : R → Option (List ℕ)) (old new : Reader (MutBor (Tap R)))
    (fields : Record) (found : Bool) → (reader_trim old ≡ trim.None → took_first new ≡ true)
    → is_flexible new ≡ is_flexible old
    → (reader_trim old ≡ trim.None → Ready old → ReadRecord (told_by remaining) old new found
    fields)
    → ReadsNext remaining old (Ok found) fields new
given_next remaining old new fields true first flexible read = λ told records (set_up, given).
    (let step = read set_up.0 set_up.1 in (
      (step.3 ∙ set_up.0, inl (first set_up.0), flexible ∙ set_up.2, step.2 ∙ set_up.3),
      given_more remaining old new fields set_up step told records given,
    ))
given_next remaining old new fields false first flexible read = λ told records (set_up, given).
    given_all remaining old new fields set_up (read set_up.0 set_up.1) told records given

-- ==== The reader of `csv` gives the records of a table's text.

-- ---- records that are read back

abbrev IsOpen : Record → Type 0
IsOpen (x ∷ y ∷ ys) = AreBare (x ∷ y ∷ ys)
IsOpen _ = ⊥

line_read : (x y : List ℕ) (ys : Record) (tail : List ℕ) → AreBare (x ∷ y ∷ ys)
    → next_record default_config st.StartRecord [] [] ((joined (x ∷ y ∷ ys) ++ 10 ∷ []) ++ tail)
    ≡ Some (x ∷ y ∷ ys, st.StartRecord, tail)
line_read x y ys tail h = ap (λ t. next_record default_config st.StartRecord [] [] (t ++ tail))
    (sym (row_same x y ys h)) ∙ read-write (x ∷ y ∷ ys) tail

lines_read : (records : List Record) → AllByRecursion IsOpen records
    → Reached default_config st.StartRecord (csvtext records) records st.StartRecord []
unfolding Reached
lines_read [] h = (refl, refl)
lines_read ([] ∷ records) h = absurd h.0
lines_read ((x ∷ []) ∷ records) h = absurd h.0
lines_read ((x ∷ y ∷ ys) ∷ records) h = (
  (x ∷ y ∷ ys, st.StartRecord, csvtext records),
  line_read x y ys (csvtext records) h.0,
  refl,
  lines_read records h.1,
)

no_more : next_record default_config st.StartRecord [] [] [] ≡ None
unfolding next_record
no_more = refl

open_record : (r : Row) → IsPlain r → IsOpen (record_of r)
open_record r p = (
  bare_decimal r.depth (omega (arith, p.depth)),
  (
    bare_word r.kind,
    (
      bare_optional r.id p.id,
      (
        bare_optional r.precision
            (precision-ids r.precision p.precision),
        (bare_text (differences r.points), tt),
      ),
    ),
  ),
)

open_records : (rs : List Row) → ArePlain rs → AllByRecursion IsOpen (map record_of rs)
open_records [] p = tt
open_records (r ∷ rs) p = (open_record r p.0, open_records rs p.1)

open_header : IsOpen header
open_header = (refl, (refl, (refl, (refl, (refl, tt)))))

no_mark : (records : List Record) → strip_bom (csvtext (header ∷ records)) ≡ csvtext (header ∷ records)
unfolding strip_bom
no_mark records = refl

pub text_read : (l : Allowance) (records : List Record) (gs : List Tree) → IsAllowance l
    → Named l records gs → AreRecords default_config st.StartRecord
    (strip_bom (csvtext records)) records
text_read l records gs cap n =
    let lines = lines_read (table gs) (open_header, open_records (rows_of gs) (plain_rows l gs cap n.valid)) in
    let all : AreRecords default_config st.StartRecord (strip_bom (csvtext (table gs))) (table gs) = (
      st.StartRecord,
      [],
      subst (λ t. Reached default_config st.StartRecord t (table gs)
          st.StartRecord []) (sym (no_mark (map record_of (rows_of gs)))) lines,
      no_more,
    ) in
    subst (λ rs. AreRecords default_config st.StartRecord (strip_bom (csvtext rs)) rs) (sym n.table_of) all

-- ==== The open rows after one more row, from their last ones.

-- the open row of the last row
abbrev pub entered : Row → OpenRow
entered r = record { kind = r.kind; child_ids = None }

-- the open row of the parent, with a child noted
abbrev pub noted : OpenRow → Row → OpenRow
noted o r = record { kind = o.kind; child_ids = first_answer o.child_ids (is_some r.id) }

-- the open row of a row of this kind
pub as_entered : (r : Row) (k : Kind) → r.kind ≡ k → record { kind = k; child_ids = None } ≡ entered r
as_entered r k is = ap (λ (x : Kind). record { kind = x; child_ids = None }) (sym is)

-- the open rows after a row depend only on those above it
pub opened_front : (d n : ℕ) (os : List OpenRow) (r : Row) → d ≤ n → n ≤ length os
    → opened d (take n os) r ≡ opened d os r
opened_front (suc d) zero os r le few = absurd (omega (arith, le))
opened_front (suc d) (suc n) [] r le few = absurd (omega (arith, few))
opened_front (suc (suc d)) (suc n) (o ∷ os) r le few = ap (λ xs. o ∷ xs)
    (opened_front (suc d) n os r (omega (arith, le)) (omega (arith, few)))
opened_front _ _ _ r le few = refl

-- the open rows after a row do not depend on those below it
pub opened_before : (d : ℕ) (os more : List OpenRow) (r : Row) → d ≤ length os → opened d (os ++ more) r ≡ opened d os r
opened_before d os more r le =
    sym (opened_front d (length os) (os ++ more) r le (omega (arith, length-append os more)))
    ∙ ap (λ (xs : List OpenRow). opened d xs r) (take-append_seam os more)

-- a row is written below its parent, which notes it as a child
written : (os : List OpenRow) (i : ℕ) (r : Row) (e x q : OpenRow) → suc i < length os → e ≡ entered r
    → q ≡ noted (get_or os i x) r → take (suc (suc i)) (set (set os (suc i) e) i q) ≡ opened (suc i) os r
written (o ∷ p ∷ os) zero r e x q within is notes = cc (is, notes)
written (o ∷ p ∷ os) (suc i) r e x q within is notes =
    ap (λ xs. o ∷ xs) (written (p ∷ os) i r e x q (omega (arith, within)) is notes)
written _ i r e x q within is notes = absurd (omega (arith, within))

pub row_written : (os : List OpenRow) (d : ℕ) (r : Row) (e x q : OpenRow) (b : Bool) → 0 < d
    → d < length os → e ≡ entered r
    → q ≡ record {
      kind = (get_or (set os d e) (d - 1) x).kind;
      child_ids = first_answer (get_or (set os d e) (d - 1) x).child_ids b;
    } → b ≡ is_some r.id
    → take (d + 1) (set (set os d e) (d - 1) q) ≡ opened d os r
row_written os d r e x q b below within is notes bit =
    let i = d - 1 in
    let next : suc i ≡ d = omega (arith, below) in
    let stood : get_or (set os d e) i x ≡ get_or os i x = get_or-set_other os d i e x
    (λ same. omega (arith, same, next)) in
    let noted_so : q ≡ noted (get_or os i x) r =
    notes ∙ (ap (λ (o : OpenRow). record { kind = o.kind; child_ids = first_answer o.child_ids b }) stood
    ∙ ap (λ (a : Bool). record { kind = (get_or os i x).kind; child_ids = first_answer (get_or os i x).child_ids a })
    bit) in
    let after : suc d ≡ d + 1 = omega arith in
    subst (λ n. take n (set (set os d e) i q) ≡ opened d os r) after
    (subst (λ n. take (suc n) (set (set os n e) i q) ≡ opened n os r) next
    (written os i r e x q (omega (arith, within, next)) is noted_so))

-- places after the open rows have no effect
pub opened_in : (d n : ℕ) (items now : List OpenRow) (r : Row) → n ≤ length items
    → now ≡ take n items → d ≤ length now → opened d items r ≡ opened d now r
opened_in d n items now r few is le =
    let size = length-take-le n items few in
    sym (opened_front d n items r (omega (arith, le, ap length is, size)) few)
    ∙ ap (λ (xs : List OpenRow). opened d xs r) (sym is)

-- ==== The verdict on a record by the open rows is the verdict by the rows so far.

-- ---- the chain of reasons looks only at the kind of the parent and at whether the first child
-- has an id

-- a row of this kind
abbrev of_kind : Kind → Row
of_kind kind = record { depth = 0; kind = kind; id = None; precision = None; points = [] }

-- a row with this id
abbrev of_id : Option ℤ → Row
of_id id = record { depth = 0; kind = Kind.Point; id = id; precision = None; points = [] }

module _ (l : Allowance) (d : ℕ) (k : Kind) (id_field field text : List ℕ) (v : Verdict) where
  -- the verdict on a record at this place
  abbrev JudgedAt : Bool → Option Row → Option Row → ℕ → ℕ → Type 0
  JudgedAt steps p f nodes points =
      JudgedByPlace l (record {
        depth = d;
        steps = steps;
        parent = p;
        first = f;
        nodes = nodes;
        points = points;
      }) k id_field field text v

  parent_alike : (p q f : Option Row) (nodes points : ℕ) → kind_by p ≡ kind_by q
      → JudgedAt true p f nodes points → JudgedAt true q f nodes points
  parent_alike None None f nodes points e j = j
  parent_alike (Some p) (Some q) f nodes points e j =
      subst (λ (kind : Kind). JudgedAt true (Some (of_kind kind)) f nodes points) (head_kind p q e) j
  parent_alike _ _ f nodes points e j = cc e

  id_alike : (p : Option Row) (a b : Option ℤ) (nodes points : ℕ) → is_some a ≡ is_some b
      → JudgedAt true p (Some (of_id a)) nodes points → JudgedAt true p (Some (of_id b)) nodes points
  id_alike p None (Some b) nodes points e j = cc e
  id_alike p (Some a) None nodes points e j = cc e
  id_alike p _ _ nodes points e j = j

  first_alike : (p f g : Option Row) (nodes points : ℕ) → ids_by f ≡ ids_by g
      → JudgedAt true p f nodes points → JudgedAt true p g nodes points
  first_alike p None None nodes points e j = j
  first_alike p (Some f) (Some g) nodes points e j = id_alike p f.id g.id nodes points (head_id f g e) j
  first_alike p _ _ nodes points e j = cc e

-- ---- the two places

near : (d n : ℕ) → d ≤ n → nat_le d n ≡ true
near d n le = grind (arith, nat_tests)

pub far : (d n : ℕ) → n < d → nat_le d n ≡ false
far d n lt = grind (arith, nat_tests)

pub judged_there : (l : Allowance) (before : List Row) (rows : List OpenRow) (nodes points d : ℕ)
    (k : Kind) (id_field field text : List ℕ) (v : Verdict) → StandsAfter before rows nodes points
    → d ≤ length rows
    → JudgedByPlace l (place_seen (row_place_at d rows nodes points)) k id_field field text v
    → JudgedByPlace l (place_of d before) k id_field field text v
judged_there l before rows nodes points d k id_field field text v stands le j =
    let p = row_of (open_parent d rows) in
    let f = child_of (open_parent d rows) in
    let at = JudgedAt l d k id_field field text v in
    let a = parent_alike l d k id_field field text v p (parent d before) f (count_at d nodes)
    (count_at d points) (kind_under d before rows stands.open_rows le) j in
    let b = first_alike l d k id_field field text v (parent d before) f (first_child d before)
    (count_at d nodes) (count_at d points) (ids_under d before rows stands.open_rows le) a in
    let steps : true ≡ steps_to d before = sym (steps_open d before rows stands.open_rows ∙ near d (length rows) le) in
    let c = subst (λ n. at true (parent d before) (first_child d before) n (count_at d points))
    (ap (count_at d) stands.node_count ∙ nodes_under d before) b in
    let e = subst (λ n. at true (parent d before) (first_child d before) (length (geometry_rows d before)) n)
    (ap (count_at d) stands.points_held ∙ points_under d before) c in
    subst (λ s. at s (parent d before) (first_child d before) (length (geometry_rows d before))
    (point_count (geometry_rows d before))) steps e

-- a row may not be more than one level below the last row
pub steps_missing : (before : List Row) (rows : List OpenRow) (nodes points d : ℕ)
    → StandsAfter before rows nodes points → length rows < d → steps_to d before ≡ false
steps_missing before rows nodes points d stands lt = steps_open d before rows stands.open_rows ∙ far d (length rows) lt

-- ==== The record after a geometry that is a point is judged like the first one.

-- a point has no child
no_child : (p : ℤ) (q : Point) (earlier : List Row) (d : ℕ) (k : Kind)
    → (steps_to (suc d) (point_row p q ∷ earlier) && has_place (parent (suc d) (point_row p q ∷ earlier)) k) ≡ false
no_child p q earlier zero k = refl
no_child p q earlier (suc d) k =
    ap (λ (b : Bool). b && has_place (parent (suc (suc d)) (point_row p q ∷ earlier)) k)
    (far (suc d) 0 (omega arith))

by_place : (l : Allowance) (p : ℤ) (q : Point) (earlier : List Row) (d : ℕ) (k : Kind) (id precision text : List ℕ)
    (v : Verdict) → JudgedByPlace l (place_of d []) k id precision text v
    → JudgedByPlace l (place_of d (point_row p q ∷ earlier)) k id precision text v
by_place l p q earlier zero k id precision text v j = j
by_place l p q earlier (suc d) k id precision text v (inl (lacks, refused)) = inl (no_child p q earlier d k, refused)
by_place l p q earlier (suc d) k id precision text v (inr (has, others)) = absurd (has refl)

-- the verdict after a point is that on a record before any row
after_point : (l : Allowance) (p : ℤ) (q : Point) (earlier : List Row) (fields : Record) (v : Verdict)
    → Judged l [] fields v → Judged l (point_row p q ∷ earlier) fields v
after_point l p q earlier (a ∷ b ∷ c ∷ e ∷ f ∷ []) v (inl none) = inl none
after_point l p q earlier (a ∷ b ∷ c ∷ e ∷ f ∷ []) v (inr (d, is, inl none)) = inr (d, is, inl none)
after_point l p q earlier (a ∷ b ∷ c ∷ e ∷ f ∷ []) v (inr (d, is, inr (k, word, j))) =
    inr (d, is, inr (k, word, by_place l p q earlier d k c e f v j))
after_point l p q earlier _ v j = j

-- a record is judged as the first one before any row, and after a point
pub judged_alone : (l : Allowance) (rows : List Row) (fields : Record) (v : Verdict) → IsAlone rows
    → Judged l [] fields v → JudgedAfter l rows fields v
judged_alone l rows fields v (inl none) j earlier same =
    subst (λ (rs : List Row). Judged l (reverse (earlier ++ rs)) fields v) (sym none)
    (subst (λ (rs : List Row). Judged l (reverse (rs ++ [])) fields v) (sym (same none)) j)
judged_alone l rows fields v (inr (p, q, is)) j earlier same =
    subst (λ (rs : List Row). Judged l (reverse (earlier ++ rs)) fields v) (sym is)
    (subst (λ (before : List Row). Judged l before fields v) (sym (reverse-append earlier (point_row p q ∷ [])))
    (after_point l p q (reverse earlier) fields v j))

-- ==== The verdict on a record of five fields, from its fields.

-- a place within the record has a field
pub field_there : (fs : Record) (i : ℕ) (o : Option (List ℕ)) → i < length fs → o ≡ field_at fs i → IsSome o
unfolding field_at
field_there [] i o lt e = absurd (omega arith)
field_there (f ∷ fs) zero o lt e = subst IsSome (sym e) refl
field_there (f ∷ fs) (suc i) o lt e = field_there fs i o (omega arith) e

-- ---- five fields

-- The fields of a record that has five.
pub record AreFields (fs : Record) (a b c e f : List ℕ) : Type 0 where
  pub count : length fs ≡ 5
  pub first : field_at fs 0 ≡ Some a
  pub second : field_at fs 1 ≡ Some b
  pub third : field_at fs 2 ≡ Some c
  pub fourth : field_at fs 3 ≡ Some e
  pub fifth : field_at fs 4 ≡ Some f

pub five_are : (fs : Record) (a b c e f : List ℕ) → AreFields fs a b c e f → fs ≡ a ∷ b ∷ c ∷ e ∷ f ∷ []
unfolding field_at
five_are (v ∷ w ∷ x ∷ y ∷ z ∷ []) a b c e f h =
    cc (h.first, h.second, h.third, h.fourth, h.fifth)
five_are _ a b c e f h = absurd (omega (arith, h.count))

-- ---- what each refusal means

pub bad_kind : (l : Allowance) (before : List Row) (a b c e f : List ℕ) (d : ℕ) → IsDepthField a d
    → ((k : Kind) → b ≡ word_of k → ⊥) → Judged l before (a ∷ b ∷ c ∷ e ∷ f ∷ []) (Refused BadKind)
bad_kind l before a b c e f d depth none = inr (d, depth, inl (none, refl))

no_steps : (a b : Bool) → a ≡ false → (a && b) ≡ false
no_steps a b e = rw e refl

pub bad_place : (l : Allowance) (before : List Row) (rows : List OpenRow) (nodes points : ℕ)
    (a b c e f : List ℕ) (d : ℕ) (k : Kind) → IsDepthField a d → b ≡ word_of k
    → length rows < d → StandsAfter before rows nodes points
    → Judged l before (a ∷ b ∷ c ∷ e ∷ f ∷ []) (Refused BadPlace)
bad_place l before rows nodes points a b c e f d k depth word lt stands =
    let none = no_steps (steps_to d before) (has_place (parent d before) k)
    (steps_missing before rows nodes points d stands lt) in
    inr (d, depth, inr (k, word, inl (none, refl)))

-- the verdict by the place that the open rows give
pub judged_of : (l : Allowance) (before : List Row) (rows : List OpenRow) (nodes points : ℕ)
    (a b c e f : List ℕ) (d : ℕ) (k : Kind) (row_place : RowPlace) (v : Verdict) → IsDepthField a d
    → b ≡ word_of k
    → (d ≤ length rows) × (row_place ≡ row_place_at d rows nodes points)
    → JudgedByPlace l (place_seen row_place) k c e f v → StandsAfter before rows nodes points
    → Judged l before (a ∷ b ∷ c ∷ e ∷ f ∷ []) v
judged_of l before rows nodes points a b c e f d k row_place v depth word at j stands =
    let there = subst (λ (s : RowPlace). JudgedByPlace l (place_seen s) k c e f v) at.1 j in
    inr (d, depth, inr (k, word, judged_there l before rows nodes points d k c e f v stands at.0 there))

-- ---- answers

pub judged_by : (P Q : Verdict → Type 0) (r : Result RowHead RowReason)
    → ((v : Verdict) → P v → Q v)
    → JudgedBy P r → JudgedBy Q r
judged_by P Q (Ok head) f h = λ v j. f v (h v j)
judged_by P Q (Err reason) f h = f (Refused reason) h

pub if_refused : (P Q : RowReason → Type 0) (why : Stop RowReason)
    → ((reason : RowReason) → P reason → Q reason) → IfRefused P why → IfRefused Q why
if_refused P Q stop.Memory f h = tt
if_refused P Q (stop.Refused reason) f h = f reason h

-- a field is found if the record has one
pub some_field : (fs : Record) (i : ℕ) (o : Option (Bor (List ℕ))) → i < length fs
    → option_map (λ s. s.now) o ≡ field_at fs i → IsSome o
some_field fs i (Some s) lt e = refl
some_field fs i None lt e = field_there fs i None lt e

-- ==== The next row and the rows of the geometry that is being read.

-- two ways to count the points of rows agree
point_total : (rs : List Row) → length (row_points rs) ≡ point_count rs
point_total [] = refl
point_total (r ∷ rs) = omega (arith, length-append r.points (row_points rs), point_total rs)

-- the open rows and counts of one geometry are those of all rows that end with it
pub stands_after : (l : Allowance) (os : List OpenRow) (rows earlier : List Row)
    → AreValidRowsOfOne l rows → 0 < length rows → AreOpen (reverse rows) os
    → StandsAfter (reverse (earlier ++ rows)) os (length rows) (length (row_points rows))
stands_after l os [] earlier v some open_now = absurd (omega (arith, some))
stands_after l os (s ∷ rs) earlier v some open_now =
    let one : AreRowsOfOne (s ∷ rs) = (v.0, v.1.tree, v.2) in
    let turned : reverse (earlier ++ s ∷ rs) ≡ reverse (s ∷ rs) ++ reverse earlier = reverse-append earlier (s ∷ rs) in
    let since : since_root (reverse (earlier ++ s ∷ rs)) ≡ reverse (s ∷ rs) = ap since_root turned
    ∙ since_last s rs (reverse earlier) one in
    record {
      open_rows = subst (λ xs. AreOpen xs os) (sym turned)
          (open_last (reverse (s ∷ rs)) (reverse earlier) os
          (omega (arith, length-reverse (s ∷ rs))) open_now);
      node_count = sym (ap (λ xs. length xs) since ∙ length-reverse (s ∷ rs));
      points_held = point_total (s ∷ rs) ∙ sym (ap point_count since ∙ point_count-reverse (s ∷ rs));
    }

-- a record whose verdict after the rows of one geometry is a row
pub accepts_next : (l : Allowance) (rows : List Row) (fields : Record) (row : Row)
    → AreValidRowsOfOne l rows → Judged l (reverse rows) fields (Accepted row)
    → Accepts l (reverse rows) row
accepts_next l rows fields row v j = (judged_row l (reverse rows) fields row
    (has_room l (reverse rows) (accepted_rows l rows (valid_list l rows v))) j).accepts

no_depth : (d : ℕ) → steps_to d [] ≡ true → d ≡ 0
no_depth zero e = refl
no_depth (suc d) e = cc e

steps : (l : Allowance) (before : List Row) (row : Row) → Accepts l before row → steps_to row.depth before ≡ true
steps l before row a = (both_true (steps_to row.depth before)
    (fits (parent row.depth before) (first_child row.depth before) row) a.admitted).0

-- a record whose verdict is a row, if no row is there, is a root
pub begins_first : (l : Allowance) (fields : Record) (row : Row) → Judged l [] fields (Accepted row)
    → Continues l [] row
begins_first l fields row j =
    let a = (judged_row l [] fields row (has_room l [] tt) j).accepts in
    (a, no_depth row.depth (steps l [] row a))

-- any other row belongs to the same geometry
pub continues_below : (l : Allowance) (rows : List Row) (row : Row) → 0 < length rows
    → Accepts l (reverse rows) row → 0 < row.depth → Continues l rows row
continues_below l [] row some a below = absurd (omega (arith, some))
continues_below l (s ∷ rs) row some a below = (a, below)

-- a root after the rows of one geometry begins another
pub begins_anew : (l : Allowance) (rows : List Row) (row : Row) → Accepts l (reverse rows) row
    → row.depth ≡ 0 → Continues l [] row
begins_anew l rows row a root = (root_alone l rows row a root, root)

-- the root that waits begins a geometry
pub waiting_begins : (l : Allowance) (s : State) (root : Root) (points : List Point)
    → may_wait l s points ≡ true → s ≡ state.Waiting root
    → Continues l [] (row_with (root_row root) points)
waiting_begins l s root points e is = continues_is l [] (row_with (root_row root) points)
    (subst (λ (t : State). may_wait l t points ≡ true) is e)

-- a root has no id
root_id : (row : Row) → row.depth ≡ 0 → admits_after [] row ≡ true → row.id ≡ None
root_id row root e =
    let fit = (both_true (steps_to row.depth []) (fits (parent row.depth []) (first_child row.depth []) row) e).1 in
    let id = (facts (parent row.depth []) (first_child row.depth []) row fit).id in
    none_is row.id (subst (λ d. id_allowed (parent d []) row.kind row.id ≡ true) root id)

-- the root that waits for a row
abbrev pub root_of : Bare → Root
root_of row = record { kind = row.kind; precision = row.precision }

-- a root is its kind, precision and points
pub root_is : (l : Allowance) (row : Bare) (points : List Point)
    → Continues l [] (row_with row points) → row_with row points ≡ row_with
    (root_row (root_of row)) points
root_is l row points c = same_row _ _ _ _ _ _ _ _ _ _ c.1 refl
    (root_id (row_with row points) c.1 c.0.admitted) refl refl

-- a root may wait
pub may_wait_as : (l : Allowance) (row : Bare) (points : List Point)
    → Continues l [] (row_with row points) → may_wait l (state.Waiting (root_of row)) points ≡ true
may_wait_as l row points c = continues_true l [] (row_with (root_row (root_of row)) points)
    (subst (Continues l []) (root_is l row points c) c)

-- without rows there are no open rows
pub stands_nowhere : StandsAfter [] [] 0 0
stands_nowhere = record { open_rows = open_none; node_count = refl; points_held = refl }

-- a row is no deeper than the open rows allow
pub depth_within : (l : Allowance) (before : List Row) (os : List OpenRow) (row : Row)
    → Accepts l before row → AreOpen before os → row.depth ≤ length os
depth_within l before os row a open_now = omega
    (arith, steps_within row.depth before (steps l before row a), open_now.all)

-- the open rows after the next row
opens_next : (l : Allowance) (rows : List Row) (os : List OpenRow) (row : Row)
    → Accepts l (reverse rows) row → AreOpen (reverse rows) os
    → AreOpen (reverse (rows ++ row ∷ [])) (opened row.depth os row)
opens_next l rows os row a open_now =
    subst (λ xs. AreOpen xs (opened row.depth os row)) (sym (reverse-append rows (row ∷ [])))
    (open_more (reverse rows) os row (steps l (reverse rows) row a) open_now)

pub keeps_first : (l : Allowance) (row : Row) (rows : List Row) (os : List OpenRow)
    → Continues l [] row → rows ≡ row ∷ [] → os ≡ opened row.depth [] row → Kept l rows os
keeps_first l row rows os c put open_now = record {
  of_one = subst (AreValidRowsOfOne l) (sym put) (continued l [] row tt c);
  some = omega (arith, ap (λ (rs : List Row). length rs) put);
  are_open = subst (λ rs. AreOpen (reverse rs) os) (sym put)
      (subst (λ xs. AreOpen (row ∷ []) xs) (sym open_now) (opens_next l [] [] row c.0 open_none));
}

pub keeps_next : (l : Allowance) (row : Row) (before rows : List Row) (was os : List OpenRow)
    → Kept l before was → Accepts l (reverse before) row → 0 < row.depth → rows ≡ before ++ row ∷ []
    → os ≡ opened row.depth was row → Kept l rows os
keeps_next l row before rows was os kept a below put open_now = record {
  of_one = subst (AreValidRowsOfOne l) (sym put)
      (continued l before row kept.of_one (continues_below l before row kept.some a below));
  some = omega (arith, ap (λ (rs : List Row). length rs) put, length-append before (row ∷ []));
  are_open = subst (λ rs. AreOpen (reverse rs) os) (sym put)
      (subst (λ xs. AreOpen (reverse (before ++ row ∷ [])) xs) (sym open_now)
      (opens_next l before was row a kept.are_open));
}

-- the verdict on a record by the open rows of one geometry is the verdict after all rows that end
-- with that geometry
pub judged_by_open : (l : Allowance) (rows : List Row) (os : List OpenRow) (nodes points : ℕ)
    (fields : Record) (v : Verdict) → Kept l rows os → nodes ≡ length rows
    → points ≡ length (row_points rows)
    → ((before : List Row) → StandsAfter before os nodes points → Judged l before fields v)
    → JudgedAfter l rows fields v
judged_by_open l rows os nodes points fields v kept nodes_are points_are j earlier same =
    j (reverse (earlier ++ rows))
    (rw (nodes_are, points_are) (stands_after l os rows earlier kept.of_one kept.some
    kept.are_open))

-- ==== The row of a record whose points are read after its other fields.

-- points appended to an empty list are all points in it
pub given_row : (head : RowHead) (row : Bare) (cleared points own : List Point)
    → row ≡ head_row head → cleared ≡ [] → points ≡ cleared ++ own
    → row_with (head_row head) own ≡ row_with row points
given_row head row cleared points own row_is none put =
    ap (row_with (head_row head)) (sym (put ∙ ap (λ (xs : List Point). xs ++ own) none))
    ∙ ap (λ r. row_with r points) (sym row_is)

-- The verdict on a record after the rows of one geometry is a row that they accept.
pub record ComesNext (l : Allowance) (rows : List Row) (fields : Record) (row : Row) : Type 0 where
  pub judged : JudgedAfter l rows fields (Accepted row)
  pub accepts : Accepts l (reverse rows) row

-- if the verdict on the record is that on its points, it is the row with the points given
pub comes_next : (l : Allowance) (rows : List Row) (fields : Record) (head : RowHead) (row : Bare)
    (cleared points own : List Point) → AreValidRowsOfOne l rows
    → ((v : Verdict) → JudgedAs head v → JudgedAfter l rows fields v)
    → row ≡ head_row head → cleared ≡ [] → points ≡ cleared ++ own
    → JudgedAs head (Accepted (row_with (head_row head) own))
    → ComesNext l rows fields (row_with row points)
comes_next l rows fields head row cleared points own of_one read row_is none put given =
    let judged : JudgedAfter l rows fields (Accepted (row_with row points)) =
    subst (λ r. JudgedAfter l rows fields (Accepted r)) (given_row head row cleared points own
    row_is none put)
    (read (Accepted (row_with (head_row head) own)) given) in
    record {
      judged = judged;
      accepts = accepts_next l rows fields (row_with row points) of_one
          (judged [] (λ e. refl));
    }

-- the most points that the row may have by the limits
abbrev pub most_points : RowHead → ℕ
most_points head = head.limits.points - head.row_place.points

-- the place of the row allows this many points
abbrev pub AllowsMany : RowHead → ℕ → Type 0
AllowsMany head count =
    (ps : List Point) → length ps ≡ count → AllowsCount (place_seen head.row_place) head.kind ps

-- a text of one point is that of a row of kind point, if its place allows it and there is room
one_accepted : (head : RowHead) (p : Point) → head.kind ≡ kind.Point
    → head.row_place.points < head.limits.points → AllowsMany head 1
    → DecodesTo head.text.now 1 (p ∷ []) → JudgedAs head (Accepted (row_with (head_row head) (p ∷ [])))
one_accepted head p is room allows read =
    let one : DecodesTo head.text.now (most_points head) (p ∷ []) =
    record { spelled = read.spelled; in_range = read.in_range; few = omega (arith, room) } in
    inr (
      λ bare. true≢false (sym (ap has_points is) ∙ bare.1),
      inr (p ∷ [], one, allows (p ∷ []) refl head.id head.precision),
    )

pub one_judged : (head : RowHead) (r : Option Point) → head.kind ≡ kind.Point
    → head.row_place.points < head.limits.points → AllowsMany head 1
    → IfSome r (λ p. DecodesTo head.text.now 1 (p ∷ []))
    → IfSome r (λ p. JudgedAs head (Accepted (row_with (head_row head) (p ∷ []))))
one_judged head None is room allows read = tt
one_judged head (Some p) is room allows read = one_accepted head p is room allows read

-- ---- the points of a row

pub text_refused : (head : RowHead) (offset : ℕ) (why : PolyReason) (f : PolyFault)
    → (HasNeedlessText head → ⊥) → f ≡ At offset why → IsRefused head.text.now (most_points head) f
    → JudgedAs head (Refused (Polyline offset why))
text_refused head offset why f needed is refused =
    inr (
      needed,
      inl (
        offset,
        why,
        subst (IsRefused head.text.now (most_points head)) is refused,
        refl,
      ),
    )

-- the list grew by the points that were decoded
pub has_grown : (text : List ℕ) (left start count : ℕ) (old new : List Point)
    → AppendsDecoded text left old new → start ≡ length old → count ≡ length new → start ≤ count
has_grown text left start count old new a before after = omega
    (arith, before, after, ap length a.appended, length-append old a.ps)

-- as many points were decoded as the list grew by
grown_by : (text : List ℕ) (left start count : ℕ) (old new : List Point) (a : AppendsDecoded text left old new)
    → start ≡ length old → count ≡ length new → length a.ps ≡ count - start
grown_by text left start count old new a before after = omega
    (arith, before, after, ap length a.appended, length-append old a.ps)

pub points_accepted : (head : RowHead) (start count : ℕ) (old new : List Point)
    → (HasNeedlessText head → ⊥) → AppendsDecoded head.text.now (most_points head) old new
    → start ≡ length old → count ≡ length new → AllowsMany head (count - start)
    → (own : List Point) × (new ≡ old ++ own) × JudgedAs head (Accepted (row_with (head_row head) own))
points_accepted head start count old new needed a before after allows =
    let many = grown_by head.text.now (most_points head) start count old new a before after in
    (a.ps, a.appended, inr (needed, inr (a.ps, a.decoded, allows a.ps many head.id head.precision)))

-- as many points were counted as the place allows
pub count_accepted : (head : RowHead) (count : ℕ) → (HasNeedlessText head → ⊥)
    → ((ps : List Point) × DecodesTo head.text.now (most_points head) ps × (length ps ≡ count))
    → AllowsMany head count → IsAccepted head
count_accepted head count needed (ps, decoded, many) allows =
    (ps, inr (needed, inr (ps, decoded, allows ps many head.id head.precision)))

-- the place of the row refuses this many points for this reason
abbrev pub RefusesMany : RowHead → ℕ → RowReason → Type 0
RefusesMany head count reason =
    (ps : List Point) → length ps ≡ count → RefusesCount (place_seen head.row_place) head.kind ps reason

pub points_refused : (head : RowHead) (start count : ℕ) (old new : List Point) (reason : RowReason)
    → (HasNeedlessText head → ⊥) → AppendsDecoded head.text.now (most_points head) old new
    → start ≡ length old → count ≡ length new → RefusesMany head (count - start) reason
    → JudgedAs head (Refused reason)
points_refused head start count old new reason needed a before after refuses =
    let many = grown_by head.text.now (most_points head) start count old new a before after in
    inr (needed, inr (a.ps, a.decoded, refuses a.ps many head.id head.precision))

-- the place refuses as many points as were counted
pub count_refused : (head : RowHead) (count : ℕ) (reason : RowReason) → (HasNeedlessText head → ⊥)
    → ((ps : List Point) × DecodesTo head.text.now (most_points head) ps × (length ps ≡ count))
    → RefusesMany head count reason → JudgedAs head (Refused reason)
count_refused head count reason needed (ps, decoded, many) refuses =
    inr (needed, inr (ps, decoded, refuses ps many head.id head.precision))
