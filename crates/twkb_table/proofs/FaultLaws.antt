-- Records name geometries or have one fault.
use Rattle.std.proofs.Common.{◌≡◌, ℕ, ◌<◌, List, [], ◌∷◌, ◌++◌, length, refl, sym, ◌∙◌, ap, subst, arith}
use Rattle.std.proofs.Common.{append_assoc, length-append, inl, inr, ◌≤◌, ◌+◌, suc, Bool, true, false, append-nil}
use Rattle.std.proofs.Common.{◌⊎◌, Option}
use Rattle.std.specs.Prelude.{map, reverse, if◌then◌else◌, ℤ, ◌&&◌, nat_le}
use Rattle.std.specs.Str.{bytes_eq}
use Rattle.std.proofs.lemmas.Bool.{true≢false}
use Rattle.std.proofs.lemmas.List.{map-append, reverse-append}
use Rattle.std.proofs.lemmas.Slice.Eq.{bytes_eq-Decides}
use Rattle.std.proofs.lemmas.Bool.Decides.{nat_tests}
use Rattle.twkb_points.specs.Point.{Point}
use Rattle.twkb_polyline.specs.Polyline.{DecodesTo}
use Rattle.twkb_polyline.specs.Fault.{IsTextFault}
use Rattle.twkb_polyline.specs.declared.fault.PolyReason.{PolyReason}
use Rattle.twkb_polyline.proofs.FaultLemmas.{text_or_fault}
use Rattle.twkb_tree.specs.Tree.{Tree, simple, collection}
use Rattle.twkb_tree.specs.Limits.{Allowance, IsAllowance, IsValid}
use Rattle.twkb_tree.specs.Rows.{rows_of, Row, rows}
use Rattle.twkb_tree.specs.Admits.{Accepts, nest_kept, has_place, id_allowed, has_same_ids, has_needed_precision}
use Rattle.twkb_tree.specs.Admits.{precision_allowed, is_geometry, points_fit, has_points}
use Rattle.twkb_tree.specs.declared.kind.Kind.{Kind}
use Rattle.twkb_tree.proofs.LimitLaws.{row_accepted, accepts_row, accepted_rows}
use Rattle.twkb_tree.proofs.RowLaws.{all_join, all_apart}
use Rattle.twkb_tree.proofs.OpenLaws.{grown_geometry, new_geometry, rows_of-last}
use Rattle.twkb_table.specs.Record.{Record, record_of, header, table}
use Rattle.twkb_table.specs.RowFault.{Named, NamesNone, HasNoHeader, IsLaterFault, RowFault, AreComplete}
use Rattle.twkb_table.specs.RowFault.{all_but_last, Stopped, read_rows, read_table, reading_after, is_record, Judges}
use Rattle.twkb_table.specs.RowFault.{IsReading, Reading, Whole, row_words}
use Rattle.twkb_table.specs.Judged.{Refused, Judged, Verdict, Accepted, When, Unless, UnlessFaulty, Place, place_of}
use Rattle.twkb_table.specs.Judged.{points_left, JudgedByPoints, JudgedByPlace}
use Rattle.twkb_table.specs.declared.reason.RowReason.{RowReason}
use Rattle.twkb_table.specs.declared.reason.RowReason.TheVariants.{BadHeader, FieldCount, Polyline}
use Rattle.twkb_table.proofs.FieldLemmas.{head_same, tail_same, IsPlain, ArePlain, one_list, SomeOrNone}
use Rattle.twkb_table.proofs.FieldLemmas.{decided_depth, decided_kind, decided_optional_id}
use Rattle.twkb_table.proofs.FieldLemmas.{decided_optional_precision}
use Rattle.twkb_table.proofs.Verdicts.{one_verdict, one_table, table_front, plain_rows, split, judged_row, has_room}
use Rattle.twkb_table.proofs.Verdicts.{row_judged, both, both_true}
use Rattle.twkb_polyline.proofs.TextLemmas.{short_point_text}
use Rattle.twkb_table.specs.declared.reason.RowReason.TheVariants as row

-- ==== A fault excludes geometries, and records have at most one fault.

snoc_some : (xs : List Record) (y : Record) → xs ++ y ∷ [] ≡ [] → ⊥
snoc_some xs y e = omega (arith, ap length e, length-append xs (y ∷ []))

-- ---- records with a fault name no geometries

pub later_none : (l : Allowance) (records : List Record) (number : ℕ) (reason : RowReason)
    → IsLaterFault l records number reason → NamesNone l records
later_none l records number reason f gs n =
    let regrouped : records ≡ (f.before ++ f.here ∷ []) ++ f.more = f.split
    ∙ sym (append_assoc f.before (f.here ∷ []) f.more) in
    let front = table_front l (f.before ++ f.here ∷ []) f.more gs (snoc_some f.before f.here)
    (record { table_of = sym regrouped ∙ n.table_of; valid = n.valid }) in
    f.none front.0 front.1

header_first : (l : Allowance) (records : List Record) (gs : List Tree) → HasNoHeader records → Named l records gs → ⊥
header_first l [] gs h n = cc n.table_of
header_first l (q ∷ qs) gs h n = h (head_same q header qs (map record_of (rows_of gs)) n.table_of)

pub fault_none : (l : Allowance) (records : List Record) (number : ℕ) (reason : RowReason)
    → RowFault l records number reason → NamesNone l records
fault_none l records number reason (inl h) gs n = header_first l records gs h.0 n
fault_none l records number reason (inr f) gs n = later_none l records number reason f gs n

-- ---- a fault has one place

-- two ways to split a list: the longer first part continues the shorter one
longer : (xs ys : List Record) (x y : Record) (more rest : List Record)
    → xs ++ x ∷ more ≡ ys ++ y ∷ rest → length xs < length ys → (zs : List Record)
    × (ys ≡ (xs ++ x ∷ []) ++ zs)
longer [] [] x y more rest e lt = absurd (omega arith)
longer [] (b ∷ ys) x y more rest e lt = (ys, ap (λ q. q ∷ ys) (sym (head_same x b more (ys ++ y ∷ rest) e)))
longer (a ∷ xs) [] x y more rest e lt = absurd (omega arith)
longer (a ∷ xs) (b ∷ ys) x y more rest e lt =
    let h = head_same a b (xs ++ x ∷ more) (ys ++ y ∷ rest) e in
    let t = longer xs ys x y more rest (tail_same a b (xs ++ x ∷ more) (ys ++ y ∷ rest) e) (omega arith) in
    (t.0, ap (λ q. q ∷ ys) (sym h) ∙ ap (λ qs. a ∷ qs) t.1)

not_longer : (l : Allowance) (records : List Record) (m n : ℕ) (why reason : RowReason)
    → IsLaterFault l records m why → IsLaterFault l records n reason → m < n → ⊥
not_longer l records m n why reason f g lt =
    let long = longer f.before g.before f.here g.here f.more g.more (sym f.split ∙ g.split)
    (omega (arith, f.place, g.place)) in
    let front = table_front l (f.before ++ f.here ∷ []) long.0 g.geometries
    (snoc_some f.before f.here)
    (record { table_of = sym long.1 ∙ g.named.table_of; valid = g.named.valid }) in
    f.none front.0 front.1

front_header : (l : Allowance) (before records rest : List Record) (gs : List Tree)
    → HasNoHeader records → records ≡ before ++ rest → Named l before gs → ⊥
front_header l [] [] rest gs h e n = cc n.table_of
front_header l (b ∷ before) [] rest gs h e n = cc e
front_header l [] (q ∷ qs) rest gs h e n = cc n.table_of
front_header l (b ∷ before) (q ∷ qs) rest gs h e n =
    h (head_same q b qs (before ++ rest) e ∙ head_same b header before (map record_of (rows_of gs)) n.table_of)

same_number : (m n : ℕ) → (m < n → ⊥) → (n < m → ⊥) → m ≡ n
same_number m n a b = omega arith

pub header_stands : (l : Allowance) (records : List Record) (n : ℕ) (reason : RowReason)
    → HasNoHeader records → IsLaterFault l records n reason → ⊥
header_stands l records n reason h g = front_header l g.before records (g.here ∷ g.more) g.geometries h g.split g.named

-- two ways to split a list with first parts of the same length are equal
same_split : (xs ys : List Record) (x y : Record) (more rest : List Record)
    → xs ++ x ∷ more ≡ ys ++ y ∷ rest → length xs ≡ length ys → (xs ≡ ys) × (x ≡ y)
same_split [] [] x y more rest e n = (refl, head_same x y more rest e)
same_split (a ∷ xs) (b ∷ ys) x y more rest e n =
    let h = head_same a b (xs ++ x ∷ more) (ys ++ y ∷ rest) e in
    let t = same_split xs ys x y more rest (tail_same a b (xs ++ x ∷ more) (ys ++ y ∷ rest) e) (omega arith) in
    (ap (λ q. q ∷ xs) h ∙ ap (λ qs. b ∷ qs) t.0, t.1)
same_split _ _ x y more rest e n = absurd (omega arith)

-- Two faults of the same records are equal.
pub record AreOne (l : Allowance) (records : List Record) (m n : ℕ) (why other : RowReason)
    (f : IsLaterFault l records m why) (g : IsLaterFault l records n other) : Type 0 where
  pub number : m ≡ n
  pub geometries : f.geometries ≡ g.geometries
  pub reason : why ≡ other

judged_alike : (l : Allowance) (gs hs : List Tree) (x y : Record) (why reason : RowReason) → gs ≡ hs
    → x ≡ y → Judged l (reverse (rows_of gs)) x (Refused why)
    → Judged l (reverse (rows_of hs)) y (Refused reason) → why ≡ reason
judged_alike l gs hs x y why reason same here a b =
    cc (one_verdict l (reverse (rows_of hs)) y (Refused why) (Refused reason)
    (rw (sym same, sym here) a) b)

pub are_one : (l : Allowance) (records : List Record) (m n : ℕ) (why other : RowReason)
    (f : IsLaterFault l records m why) (g : IsLaterFault l records n other) → IsAllowance l
    → AreOne l records m n why other f g
are_one l records m n why other f g cap =
    let number = same_number m n (not_longer l records m n why other f g) (not_longer l records n m other why g f) in
    let parts = same_split f.before g.before f.here g.here f.more g.more (sym f.split ∙ g.split)
    (omega (arith, f.place, g.place, number)) in
    let there : Named l g.before f.geometries = record {
      table_of = sym parts.0 ∙ f.named.table_of;
      valid = f.named.valid;
    } in
    let same = one_table l g.before f.geometries g.geometries cap there g.named in
    record {
      number = number;
      geometries = same;
      reason = judged_alike l f.geometries g.geometries
          f.here g.here why other same parts.1 f.judged g.judged;
    }

-- records have at most one fault
pub one_fault : (l : Allowance) (records : List Record) (m n : ℕ) (why reason : RowReason)
    → IsAllowance l → RowFault l records m why → RowFault l records n reason → (m ≡ n)
    × (why ≡ reason)
one_fault l records m n why reason cap (inl f) (inl g) = (f.1 ∙ sym g.1, f.2 ∙ sym g.2)
one_fault l records m n why reason cap (inl f) (inr g) = absurd (header_stands l records n reason f.0 g)
one_fault l records m n why reason cap (inr f) (inl g) = absurd (header_stands l records m why g.0 f)
one_fault l records m n why reason cap (inr f) (inr g) = let one = are_one l records m n why reason
    f g cap in (one.number, one.reason)

-- ==== The geometries that a fault leaves complete.

-- a fault leaves one list of geometries complete
pub one_complete : (l : Allowance) (records : List Record) (m n : ℕ) (why reason : RowReason)
    (gs hs : List Tree) → IsAllowance l → AreComplete l records m why gs
    → AreComplete l records n reason hs → gs ≡ hs
one_complete l records m n why reason gs hs cap (inl f) (inl g) = f.3 ∙ sym g.3
one_complete l records m n why reason gs hs cap (inl f) (inr g) = absurd (header_stands l records n reason f.0 g.0)
one_complete l records m n why reason gs hs cap (inr f) (inl g) = absurd (header_stands l records m why g.0 f.0)
one_complete l records m n why reason gs hs cap (inr f) (inr g) = let one = are_one l records m n
    why reason f.0 g.0 cap in f.1 ∙ ap all_but_last one.geometries ∙ sym g.1

pub some_complete : (l : Allowance) (records : List Record) (number : ℕ) (reason : RowReason)
    → RowFault l records number reason → (gs : List Tree) × AreComplete l records number reason gs
some_complete l records number reason (inl f) = ([], inl (f.0, f.1, f.2, refl))
some_complete l records number reason (inr f) = (all_but_last f.geometries, inr (f, refl))

-- one record names no geometry, since each has a row
no_rows : (gs : List Tree) → length (map record_of (rows_of gs)) ≤ 0 → gs ≡ []
no_rows [] few = refl
no_rows (simple q s ∷ gs) few = absurd (omega arith)
no_rows (collection q ids hs ∷ gs) few = absurd (omega arith)

few_rows : (l : Allowance) (before : List Record) (gs : List Tree) → Named l before gs → length before ≤ 1 → gs ≡ []
few_rows l before gs n few = no_rows gs (omega (arith, ap length n.table_of, few))

pub early_none : (l : Allowance) (records : List Record) (number : ℕ) (reason : RowReason)
    (gs : List Tree) → number ≤ 2 → AreComplete l records number reason gs → gs ≡ []
early_none l records number reason gs early (inl f) = f.3
early_none l records number reason gs early (inr f) = f.1
    ∙ ap all_but_last (few_rows l f.0.before f.0.geometries f.0.named (let place = f.0.place in
    omega (arith, place, early)))

-- ==== One more record: records that name geometries still name geometries with it exactly if its verdict is a row.

-- the records with one more name geometries
pub record Grown (l : Allowance) (records : List Record) (gs : List Tree) (r : Row) : Type 0 where
  pub geometries : List Tree
  pub named : Named l records geometries
  pub rows : rows_of geometries ≡ rows_of gs ++ r ∷ []

pub grows : (l : Allowance) (records : List Record) (here : Record) (gs : List Tree) (r : Row)
    → Named l records gs → Judged l (reverse (rows_of gs)) here (Accepted r)
    → Grown l (records ++ here ∷ []) gs r
grows l records here gs r n j =
    let p = judged_row l (reverse (rows_of gs)) here r
    (has_room l (reverse (rows_of gs)) (accepted_rows l (rows_of gs) (gs, n.valid, refl))) j in
    let v = row_accepted l (rows_of gs) r (gs, n.valid, refl) p.accepts in
    record {
      geometries = v.0;
      named = record {
        table_of = ap (λ rs. rs ++ here ∷ []) n.table_of
            ∙ ap (λ q. header ∷ (map record_of (rows_of gs) ++ q ∷ [])) p.text
            ∙ ap (λ qs. header ∷ qs) (sym (map-append record_of (rows_of gs) (r ∷ []))
            ∙ ap (λ rs. map record_of rs) (sym v.2));
        valid = v.1;
      };
      rows = v.2;
    }

-- the last record of a list that names geometries
pub record Last (l : Allowance) (here : Record) (gs hs : List Tree) : Type 0 where
  pub row : Row
  pub rows : rows_of hs ≡ rows_of gs ++ row ∷ []
  pub text : here ≡ record_of row
  pub accepts : Accepts l (reverse (rows_of gs)) row
  pub plain : IsPlain row

one_more : (ys : List Row) (here : Record) → map record_of ys ≡ here ∷ [] → (r : Row)
    × (ys ≡ r ∷ []) × (here ≡ record_of r)
one_more (r ∷ []) here e = (r, refl, sym (head_same (record_of r) here [] [] e))
one_more _ here e = cc e

pub last_row : (l : Allowance) (records : List Record) (here : Record) (gs hs : List Tree)
    → IsAllowance l → Named l records gs → Named l (records ++ here ∷ []) hs → Last l here gs hs
last_row l records here gs hs cap n m =
    let lists : header ∷ map record_of (rows_of hs) ≡ header
    ∷ (map record_of (rows_of gs) ++ here ∷ []) = sym m.table_of
    ∙ ap (λ rs. rs ++ here ∷ []) n.table_of in
    let cut = split (rows_of hs) (map record_of (rows_of gs)) (here ∷ [])
    (tail_same header header (map record_of (rows_of hs))
    (map record_of (rows_of gs) ++ here ∷ []) lists) in
    let end = one_more cut.more here cut.others in
    let plain = all_apart IsPlain cut.front cut.more (subst ArePlain cut.whole
    (plain_rows l hs cap m.valid)) in
    let same : cut.front ≡ rows_of gs = one_list cut.front (rows_of gs) plain.0
    (plain_rows l gs cap n.valid) cut.fronts in
    let rows : rows_of hs ≡ rows_of gs ++ end.0 ∷ [] = cut.whole ∙ ap (λ rs. rs ++ cut.more) same
    ∙ ap (λ rs. rows_of gs ++ rs) end.1 in
    record {
      row = end.0;
      rows = rows;
      text = end.2;
      accepts = accepts_row l (rows_of gs) end.0 (hs, m.valid, rows);
      plain = (subst ArePlain end.1 plain.1).0;
    }

-- the verdict on the last record of a list that names geometries is a row
pub only_accepted : (l : Allowance) (records : List Record) (here : Record) (gs hs : List Tree)
    (v : Verdict) → IsAllowance l → Named l records gs → Named l (records ++ here ∷ []) hs
    → Judged l (reverse (rows_of gs)) here v → (r : Row) × (v ≡ Accepted r)
only_accepted l records here gs hs v cap n m j =
    let last = last_row l records here gs hs cap n m in
    let accepted = row_judged l (reverse (rows_of gs)) last.row last.accepts last.plain.depth in (
      last.row,
      one_verdict l (reverse (rows_of gs)) here v (Accepted last.row) j
          (subst (λ q. Judged l (reverse (rows_of gs)) q (Accepted last.row)) (sym last.text)
          accepted),
    )

pub refused_none : (l : Allowance) (records : List Record) (here : Record) (gs : List Tree)
    (reason : RowReason) → IsAllowance l → Named l records gs
    → Judged l (reverse (rows_of gs)) here (Refused reason) → NamesNone l (records ++ here ∷ [])
refused_none l records here gs reason cap n j hs m =
    let only = only_accepted l records here gs hs (Refused reason) cap n m j in
    cc only.1

-- ==== The geometries after one more record.

-- the records name these geometries and one more with these rows
pub record NamedWith (l : Allowance) (records : List Record) (given : List Tree) (so_far : List Row) : Type 0 where
  pub geometry : Tree
  pub named : Named l records (given ++ geometry ∷ [])
  pub rows_are : rows 0 geometry ≡ so_far

-- a record whose verdict is a row is accepted
pub row_accepts : (l : Allowance) (records : List Record) (here : Record) (gs : List Tree)
    (row : Row) → Named l records gs → Judged l (reverse (rows_of gs)) here (Accepted row)
    → Accepts l (reverse (rows_of gs)) row
row_accepts l records here gs row n j =
    let room = has_room l (reverse (rows_of gs)) (accepted_rows l (rows_of gs) (gs, n.valid, refl)) in
    (judged_row l (reverse (rows_of gs)) here row room j).accepts

-- the geometries with one more row than those that the records name
named_by : (l : Allowance) (records : List Record) (here : Record) (gs hs : List Tree) (row : Row)
    → Named l records gs → Judged l (reverse (rows_of gs)) here (Accepted row)
    → rows_of hs ≡ rows_of gs ++ row ∷ [] → records ++ here ∷ [] ≡ table hs
named_by l records here gs hs row n j e =
    let grown = grows l records here gs row n j in
    grown.named.table_of ∙ ap (λ (rs : List Row). header ∷ map record_of rs) (grown.rows ∙ sym e)

-- the row is one more row of the last geometry
pub row_more : (l : Allowance) (records : List Record) (here : Record) (given : List Tree)
    (g : Tree) (row : Row) → Named l records (given ++ g ∷ [])
    → Judged l (reverse (rows_of (given ++ g ∷ []))) here (Accepted row) → 0 < row.depth
    → NamedWith l (records ++ here ∷ []) given (rows 0 g ++ row ∷ [])
row_more l records here given g row n j below =
    let grown = grown_geometry l given g row n.valid (row_accepts l records here (given ++ g ∷ []) row n j) below in
    let h = grown.0 in
    let same : rows_of (given ++ h ∷ []) ≡ rows_of (given ++ g ∷ []) ++ row ∷ [] =
    rows_of-last given h ∙ ap (λ rs. rows_of given ++ rs) grown.2
    ∙ sym (append_assoc (rows_of given) (rows 0 g) (row ∷ []))
    ∙ ap (λ rs. rs ++ row ∷ []) (sym (rows_of-last given g)) in
    record {
      geometry = h;
      named = record {
        table_of = named_by l records here (given ++ g ∷ []) (given ++ h ∷ []) row n j same;
        valid = all_join (IsValid l) given (h ∷ []) (all_apart (IsValid l) given (g ∷ []) n.valid).0 (grown.1, tt);
      };
      rows_are = grown.2;
    }

-- the row is the root of another geometry
pub root_more : (l : Allowance) (records : List Record) (here : Record) (gs : List Tree) (row : Row)
    → Named l records gs → Judged l (reverse (rows_of gs)) here (Accepted row) → row.depth ≡ 0
    → NamedWith l (records ++ here ∷ []) gs (row ∷ [])
root_more l records here gs row n j root =
    let new = new_geometry l (rows_of gs) row (row_accepts l records here gs row n j) root in
    record {
      geometry = new.0;
      named = record {
        table_of = named_by l records here gs (gs ++ new.0 ∷ []) row n j (rows_of-last gs new.0
            ∙ ap (λ rs. rows_of gs ++ rs) new.2);
        valid = all_join (IsValid l) gs (new.0 ∷ []) n.valid (new.1, tt);
      };
      rows_are = new.2;
    }

-- a refused record leaves all geometries but the last
pub refused_more : (l : Allowance) (records : List Record) (here : Record) (gs : List Tree)
    (reason : RowReason) → IsAllowance l → Named l records gs
    → Judged l (reverse (rows_of gs)) here (Refused reason)
    → AreComplete l (records ++ here ∷ []) (length records + 1) reason (all_but_last gs)
refused_more l records here gs reason cap n j =
    inr (
      record {
        before = records;
        here = here;
        more = [];
        split = refl;
        place = refl;
        geometries = gs;
        named = n;
        none = refused_none l records here gs reason cap n j;
        judged = j;
      },
      refl,
    )

-- ==== The plain reader returns the geometries that records name, or their fault.

-- what must be shown of the records left, after any that name geometries
abbrev ReadsOn : Allowance → (List Row → Record → Verdict) → List Record → Type 0
ReadsOn l judge more = (front : List Record) (gs : List Tree) (number : ℕ) → Named l front gs
    → number ≡ length front + 1 → IsReading l (front ++ more)
    (read_rows judge (reverse (rows_of gs)) number more)

reads_on : (l : Allowance) (judge : List Row → Record → Verdict) (front : List Record)
    (here : Record) (more : List Record) (gs : List Tree) (number : ℕ) → IsAllowance l
    → ReadsOn l judge more → Named l front gs → number ≡ length front + 1
    → (v : Verdict) → Judged l (reverse (rows_of gs)) here v
    → IsReading l (front ++ here ∷ more) (reading_after v (reverse (rows_of gs)) number
    (λ r. read_rows judge (r ∷ reverse (rows_of gs)) (suc number) more))
reads_on l judge front here more gs number caps others n e (Accepted r) j =
    let g = grows l front here gs r n j in
    let rest = others (front ++ here ∷ []) g.geometries (suc number) g.named
    (omega (arith, length-append front (here ∷ []))) in
    let rows : reverse (rows_of g.geometries) ≡ r ∷ reverse (rows_of gs) = ap (λ rs. reverse rs)
    g.rows ∙ reverse-append (rows_of gs) (r ∷ []) in
    subst (λ rs. IsReading l rs (read_rows judge (r ∷ reverse (rows_of gs)) (suc number) more))
    (append_assoc front (here ∷ []) more)
    (subst (λ b. IsReading l ((front ++ here ∷ []) ++ more) (read_rows judge b (suc number) more)) rows rest)
reads_on l judge front here more gs number caps others n e (Refused why) j =
    inr (
      record {
        before = front;
        here = here;
        more = more;
        split = refl;
        place = e;
        geometries = gs;
        named = n;
        none = refused_none l front here gs why caps n j;
        judged = j;
      },
      refl,
    )

reads : (l : Allowance) (judge : List Row → Record → Verdict) (more : List Record) → IsAllowance l
    → Judges l judge → ReadsOn l judge more
reads l judge [] caps judges = λ front gs number n e.
    (gs, record { table_of = append-nil front ∙ n.table_of; valid = n.valid }, refl)
reads l judge (here ∷ more) caps judges = λ front gs number n e.
    reads_on l judge front here more gs number caps (reads l judge more caps judges) n e
    (judge (reverse (rows_of gs)) here)
    (judges (reverse (rows_of gs)) here (accepted_rows l (rows_of gs) (gs, n.valid, refl)))

-- ---- the header

bytes_eq-same : (xs ys : List ℕ) → bytes_eq xs ys ≡ true → xs ≡ ys
bytes_eq-same xs ys e = (bytes_eq-Decides xs ys).0 e

bytes_eq-refl : (xs : List ℕ) → bytes_eq xs xs ≡ true
bytes_eq-refl xs = (bytes_eq-Decides xs xs).1 refl

is_record-same : (a b : Record) → is_record a b ≡ true → a ≡ b
is_record-same [] [] e = refl
is_record-same (x ∷ xs) (y ∷ ys) e =
    let two = both_true (bytes_eq x y) (is_record xs ys) e in
    ap (λ f. f ∷ xs) (bytes_eq-same x y two.0) ∙ ap (λ fs. y ∷ fs) (is_record-same xs ys two.1)
is_record-same _ _ e = cc e

is_record-refl : (a : Record) → is_record a a ≡ true
is_record-refl [] = refl
is_record-refl (x ∷ xs) = both (bytes_eq x x) (is_record xs xs) (bytes_eq-refl x) (is_record-refl xs)

reads_rows : (l : Allowance) (judge : List Row → Record → Verdict) (records : List Record)
    → IsAllowance l → Judges l judge → IsReading l (header ∷ records) (read_rows judge [] 2 records)
reads_rows l judge records caps judges = reads l judge records caps judges (header ∷ []) [] 2
    (record { table_of = refl; valid = tt }) refl

reads_first : (l : Allowance) (judge : List Row → Record → Verdict) (first : Record)
    (records : List Record) (b : Bool) → IsAllowance l → Judges l judge → is_record first header ≡ b
    → IsReading l (first ∷ records) (if b then read_rows judge [] 2 records else Stopped [] 1 BadHeader)
reads_first l judge first records true caps judges e =
    subst (λ (r : Record). IsReading l (r ∷ records) (read_rows judge [] 2 records))
    (sym (is_record-same first header e)) (reads_rows l judge records caps judges)
reads_first l judge first records false caps judges e =
    inl (
      (λ (same : first ≡ header). true≢false (sym (is_record-refl header)
          ∙ ap (λ (r : Record). is_record r header) (sym same) ∙ e)),
      refl,
      refl,
      refl,
    )

-- the plain reader reads what records name, or their fault
pub reads_table : (l : Allowance) (judge : List Row → Record → Verdict) (records : List Record)
    → IsAllowance l → Judges l judge → IsReading l records (read_table judge records)
reads_table l judge [] caps judges = inl (tt, refl, refl, refl)
reads_table l judge (first ∷ records) caps judges = reads_first l judge first records
    (is_record first header) caps judges refl

-- ==== Each record has a verdict, so that records name geometries or have a fault.

-- P holds or does not hold
abbrev Decided : Type 0 → Type 0
Decided P = P ⊎ (P → ⊥)

is_false : (b : Bool) → Decided (b ≡ false)
is_false true = inr (λ e. true≢false e)
is_false false = inl refl

both_decided : {P Q : Type 0} → Decided P → Decided Q → Decided (P × Q)
both_decided (inl p) (inl q) = inl (p, q)
both_decided (inl p) (inr q) = inr (λ h. q h.1)
both_decided (inr p) q = inr (λ h. p h.0)

le_by : (m n : ℕ) (b : Bool) → nat_le m n ≡ b → Decided (m ≤ n)
le_by m n true e = inl (grind (arith, nat_tests))
le_by m n false e = inr (λ h. grind (arith, nat_tests))

some_text : (text : List ℕ) → Decided (text ≡ [] → ⊥)
some_text [] = inr (λ h. h refl)
some_text (c ∷ cs) = inl (λ e. cc e)

-- ---- each step of the chain gives a verdict

-- there is a verdict
abbrev pub Told : (Verdict → Type 0) → Type 0
Told S = (v : Verdict) × S v

told_when : {P : Type 0} {Others : Verdict → Type 0} {reason : RowReason} → Decided P → Told Others
    → Told (λ v. When v P reason (Others v))
told_when {reason} (inl p) others = (Refused reason, inl (p, refl))
told_when (inr q) others = (others.0, inr (q, others.1))

told_unless : {A : Type 0} {P : A → Type 0} {Others : A → Verdict → Type 0} {reason : RowReason}
    → SomeOrNone P → ((a : A) → Told (Others a)) → Told (λ v. Unless v P reason (λ a. Others a v))
told_unless (inl a) others = ((others a.0).0, inr (a.0, a.1, (others a.0).1))
told_unless {reason} (inr none) others = (Refused reason, inl (none, refl))

told_text : {text : List ℕ} {most : ℕ} {Others : List Point → Verdict → Type 0}
    → ((ps : List Point) × DecodesTo text most ps)
    ⊎ ((offset : ℕ) × (why : PolyReason) × IsTextFault text most offset why)
    → ((ps : List Point) → Told (Others ps))
    → Told (λ v. UnlessFaulty text most v (λ ps. Others ps v))
told_text (inl d) others = ((others d.0).0, inr (d.0, d.1, (others d.0).1))
told_text (inr f) others = (Refused (Polyline f.0 f.1), inl (f.0, f.1, f.2, refl))

by_points : (l : Allowance) (here : Place) (k : Kind) (id q : Option ℤ) (text : List ℕ)
    → Told (JudgedByPoints l here k id q text)
by_points l here k id q text =
    told_when (both_decided (some_text text) (is_false (has_points k)))
    (told_text (text_or_fault text (points_left l here)) (λ ps.
    told_when (is_false (points_fit k (is_geometry here.parent) ps)) (_, refl)))

by_place : (l : Allowance) (here : Place) (k : Kind) (id_field field text : List ℕ)
    → Told (JudgedByPlace l here k id_field field text)
by_place l here k id_field field text =
    told_when (is_false (here.steps && has_place here.parent k))
    (told_when (is_false (nest_kept l here.parent here.depth))
    (told_when (le_by l.nodes here.nodes (nat_le l.nodes here.nodes) refl)
    (told_unless (decided_optional_id id_field) (λ id.
    told_when (is_false (id_allowed here.parent k id))
    (told_when (is_false (has_same_ids here.first id))
    (told_unless (decided_optional_precision field) (λ q.
    told_when (is_false (has_needed_precision here.parent q))
    (told_when (is_false (precision_allowed here.parent q)) (by_points l here k id q text)))))))))

-- each record has a verdict
pub some_verdict : (l : Allowance) (before : List Row) (fields : Record) → Told (Judged l before fields)
some_verdict l before (a ∷ b ∷ c ∷ e ∷ f ∷ []) =
    told_unless (decided_depth a) (λ d.
    told_unless (decided_kind b) (λ k. by_place l (place_of d before) k c e f))
some_verdict l before _ = (Refused FieldCount, refl)

-- ---- whole lists of records

abbrev NamedOrFault : Allowance → List Record → Type 0
NamedOrFault l records = ((gs : List Tree) × Named l records gs)
    ⊎ ((number : ℕ) × (reason : RowReason) × RowFault l records number reason)

of_reading : (l : Allowance) (records : List Record) (r : Reading) → IsReading l records r → NamedOrFault l records
of_reading l records (Whole before) h = inl (h.0, h.1)
of_reading l records (Stopped before number reason) (inl h) = inr (number, reason, inl (h.0, h.1, h.2))
of_reading l records (Stopped before number reason) (inr h) = inr (number, reason, inr h.0)

-- records name geometries, or they have a fault
pub named_or_fault : (l : Allowance) (records : List Record) → IsAllowance l → NamedOrFault l records
named_or_fault l records cap =
    let judge : List Row → Record → Verdict = λ before here. (some_verdict l before here).0 in
    of_reading l records (read_table judge records)
    (reads_table l judge records cap (λ before here _. (some_verdict l before here).1))

-- ==== The text of each reason is short.

-- the text of a record's reason is short
pub short_row : (reason : RowReason) → length (row_words reason) ≤ 31
short_row (row.Polyline offset reason) = short_point_text reason
short_row _ = omega arith
