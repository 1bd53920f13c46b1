-- What one more record, and what a call of a reader of tables shows.
use Rattle.std.proofs.Common.{◌≡◌, ℕ, ◌<◌, List, [], ◌∷◌, ◌++◌, length, Option, Some, None, refl, sym, ◌∙◌, ap, subst}
use Rattle.std.proofs.Common.{arith, append_assoc, append-nil, ◌+◌, Bool, true, false, Ok, length-append, inl, inr, ℤ}
use Rattle.std.proofs.Common.{Result, Err}
use Rattle.std.specs.Prelude.{reverse, IfSome}
use Rattle.std.specs.Borrow.{MutBor}
use Rattle.csv.specs.declared.reader.Reader.{Reader}
use Rattle.csv.specs.Reading.{strip_bom, Reached}
use Rattle.csv.specs.declared.parser.State.TheVariants as st
use Rattle.twkb_io.specs.declared.tap.Tap.{Tap}
use Rattle.twkb_points.specs.Point.{Point}
use Rattle.twkb_tree.specs.Tree.{Tree, IsTree}
use Rattle.twkb_tree.specs.Limits.{Allowance, IsAllowance}
use Rattle.twkb_tree.specs.Rows.{Row, rows, rows_of}
use Rattle.twkb_tree.proofs.OpenLaws.{rows_of-last, last_valid}
use Rattle.twkb_flat.specs.declared.stop.Stop.{Stop}
use Rattle.twkb_flat.specs.Taking.{IfRefused}
use Rattle.twkb_flat.specs.declared.stop.Stop.TheVariants as stop
use Rattle.twkb_table.specs.Record.{Record, header}
use Rattle.twkb_table.specs.RowFault.{Named, all_but_last, AreComplete}
use Rattle.twkb_table.specs.Judged.{Verdict, Judged, Accepted, Refused}
use Rattle.twkb_table.specs.CsvRecords.{BeginWith, standing, MissesRecord, ReadsRecord, fault_of, AreRecordsOf}
use Rattle.twkb_table.specs.CsvRecords.{HasGiven}
use Rattle.twkb_table.specs.Waiting.{AreWaiting, is_over, is_stopped, is_waiting, point_row}
use Rattle.twkb_table.specs.RowReading.{limits_of, JudgedAfter, GoesOn, EndsBefore, Refuses, ReadsRow, waiting}
use Rattle.twkb_table.specs.RowReading.{Awaits}
use Rattle.twkb_table.specs.TableReading.{NameSoFar, Extends, Explains, HaveGiven, Progress, NameReading, IsReading}
use Rattle.twkb_table.specs.TableReading.{Reaches, Completes, records_read, GivesRows, FaultsIn, IsMarked}
use Rattle.twkb_table.specs.TableReading.{ReadsNextRow, StandsAt, GivesTree, ReachesEnd, IsRefusedAt, Begins}
use Rattle.twkb_table.specs.TableReading.{FindsRoot, ReadsNextRoot, progress, Wherever, Faults}
use Rattle.twkb_table.specs.declared.table_fault.TableFault.{TableFault}
use Rattle.twkb_table.specs.declared.table_fault.TableFault.TheVariants as fault
use Rattle.twkb_table.specs.declared.row_reader.RowReader.{RowReader}
use Rattle.twkb_table.specs.declared.row_reader.State.{State}
use Rattle.twkb_table.specs.declared.row_reader.State.TheVariants as state
use Rattle.twkb_table.specs.declared.reason.RowReason.{RowReason}
use Rattle.twkb_table.proofs.RootLemmas.{some_waits, waits_alone}
use Rattle.twkb_table.proofs.RowReaderLemmas.{row_place_begins}
use Rattle.twkb_table.proofs.FaultLaws.{row_more, root_more, refused_more}
use Rattle.std.proofs.lemmas.Bool.{true≢false}
use Rattle.twkb_tree.proofs.RowLaws.{one_geometry}
use Rattle.twkb_table.specs.declared.table_reader.TableReader.{TableReader}
use Rattle.twkb_table.specs.declared.reason.RowReason.TheVariants.{BadHeader}

-- ==== What a reader of tables knows of the records read and the geometries returned.

-- ---- the text begins with the records read

pub begins_none : (told : Option (List ℕ)) → IfSome told (λ text. BeginWith text [])
unfolding Reached
begins_none None = tt
begins_none (Some text) = (st.StartRecord, strip_bom text, (refl, refl))

pub text_begins : {R : Type 0} (remaining : R → Option (List ℕ)) (told : Option (List ℕ))
    (records : List Record) (now : Progress R)
    → standing remaining told records (is_over now.rows.state) now.source
    → IfSome told (λ text. BeginWith text records)
text_begins remaining told records now s =
    row_place_begins remaining told records (is_over now.rows.state) now.source s

more_extends : (records seen : List Record) (here : Record) → Extends records seen
    → Extends records (seen ++ here ∷ [])
more_extends records seen here (more, is) =
    (more ++ here ∷ [], ap (λ rs. rs ++ here ∷ []) is ∙ append_assoc records more (here ∷ []))

-- ---- records and the geometries that they name

pub never_none : (records : List Record) (here : Record) → records ++ here ∷ [] ≡ [] → ⊥
never_none [] here e = cc e
never_none (r ∷ records) here e = cc e

pub named_some : (l : Allowance) (records : List Record) (gs : List Tree) → 0 < length records
    → NameSoFar l records gs → Named l records gs
named_some l [] gs some n = absurd (omega (arith, some))
named_some l (first ∷ records) gs some n = n

pub names_so_far : (l : Allowance) (records : List Record) (gs : List Tree) → Named l records gs
    → NameSoFar l records gs
names_so_far l [] gs n = (let e = n.table_of in cc)
names_so_far l (first ∷ records) gs n = n

-- all but the last of a list and one more
pub all_but_last-last : (xs : List Tree) (x : Tree) → all_but_last (xs ++ x ∷ []) ≡ xs
all_but_last-last (y ∷ z ∷ xs) x = ap (λ (l : List Tree). y ∷ l) (all_but_last-last (z ∷ xs) x)
all_but_last-last _ x = refl

-- The geometries that the records name, of which all but the last were returned.
record AllNamed (l : Allowance) (records : List Record) (given : List Tree) (so_far : List Row) :
    Type 0 where
  pub geometries : List Tree
  pub named : Named l records geometries
  pub but : all_but_last geometries ≡ given
  pub rows : rows_of geometries ≡ rows_of given ++ so_far

all_named : (l : Allowance) (records : List Record) (given : List Tree) (so_far : List Row)
    → NameReading l records given so_far → AllNamed l records given so_far
all_named l records given [] (n, none) = record {
  geometries = given;
  named = n;
  but = ap all_but_last none ∙ sym none;
  rows = sym (append-nil (rows_of given));
}
all_named l records given (root ∷ more) (last, n, same) = record {
  geometries = given ++ last ∷ [];
  named = n;
  but = all_but_last-last given last;
  rows = rows_of-last given last ∙ ap (λ rs. rows_of given ++ rs) same;
}

-- ==== What one more record shows while a geometry is read.

-- a reader in which a root waits is neither at the end nor spent
pub root_waits : (l : Allowance) (s : State) (ps : List Point) (last : Record) (root : List Row) (number : ℕ)
    → AreWaiting l s ps last root → 0 < length root
    → (is_over s ≡ false) × (is_stopped s ≡ false) × (records_read s number ≡ number + 1)
    × (is_waiting s ≡ true)
root_waits l (state.Waiting one) ps last root number waits some = (refl, refl, refl, refl)
root_waits l state.InRecord ps last root number waits some = (refl, refl, refl, refl)
root_waits l _ ps last root number waits some =
    absurd (omega (arith, some, ap (λ (rs : List Row). length rs) waits))

-- the geometry that was being read is complete
completed : {R : Type 0} (l : Allowance) (remaining : R → Option (List ℕ)) (told : Option (List ℕ))
    (records seen : List Record) (given : List Tree) (so_far : List Row) (now : Progress R)
    (n : NameReading l seen given so_far)
    → Reaches l remaining told records (all_named l seen given so_far n).geometries now
    → Completes l remaining told records given so_far now
unfolding all_named
completed l remaining told records seen given [] now (n, none) r = r
completed l remaining told records seen given (root ∷ more) now (last, n, same) r = record {
  seen = r.seen;
  extends = r.extends;
  begins = r.begins;
  geometry = last;
  valid = last_valid l given last n.valid;
  rows = same;
  stands = r.stands;
}

-- before the first root no geometry was returned
none_before : (l : Allowance) (records : List Record) (given : List Tree) (so_far : List Row)
    → NameReading l records given so_far → so_far ≡ [] → rows_of given ≡ []
none_before l records given [] (n, none) e = ap rows_of none
none_before l records given (root ∷ more) n e = cc e

-- the geometry that is being read has one more row
more_named : (l : Allowance) (seen : List Record) (given : List Tree) (so_far after : List Row)
    (here : Record) (row : Row) (n : NameReading l seen given so_far) → 0 < length so_far
    → after ≡ so_far ++ row ∷ [] → 0 < row.depth
    → Judged l (reverse (rows_of (all_named l seen given so_far n).geometries)) here (Accepted row)
    → NameReading l (seen ++ here ∷ []) given after
unfolding all_named
more_named l seen given [] after here row n some is below j = absurd (omega (arith, some))
more_named l seen given (root ∷ more) after here row (last, named, same) some is below j =
    let n = row_more l seen here given last row named j below in
    subst (NameReading l (seen ++ here ∷ []) given) (sym is)
    (n.geometry, n.named, n.rows_are ∙ ap (λ rs. rs ++ row ∷ []) same)

module _ {R : Type 0} (l : Allowance) (remaining : R → Option (List ℕ)) (told : Option (List ℕ))
    (records : List Record) (given : List Tree) (so_far : List Row) (old : Progress R)
    (r : IsReading l remaining told records given so_far old) where
  -- all geometries that the records name
  abbrev all_now : AllNamed l r.seen given so_far
  all_now = all_named l r.seen given so_far r.named

  -- the verdict is that after the rows of all geometries
  judged_all : (here : Record) (v : Verdict) → JudgedAfter (limits_of old.rows) so_far here v
      → Judged l (reverse (rows_of all_now.geometries)) here v
  judged_all here v j =
      subst (λ rs. Judged l (reverse rs) here v) (sym all_now.rows)
      (subst (λ m. Judged m (reverse (rows_of given ++ so_far)) here v) r.limits
      (j (rows_of given) (none_before l r.seen given so_far r.named)))

  -- one more record was read
  one_more : (here : Record) (number : ℕ) → number + 1 ≡ (old.number + 1) + 1
      → number + 1 ≡ length (r.seen ++ here ∷ [])
  one_more here number next = omega (arith, next, r.count, length-append r.seen (here ∷ []))

  -- ---- the record is a row

  -- one more row of the geometry
  pub reads_more : (new : Progress R) (after : List Row) (here : Record) → 0 < length so_far
      → ReadsRecord remaining old.source (old.number + 1) (Ok true) here new.source (new.number + 1)
      → limits_of new.rows ≡ limits_of old.rows → GoesOn old.rows so_far here new.rows after
      → IsReading l remaining told records given after new
  reads_more new after here some (comes, next, few) limits g = record {
    seen = r.seen ++ here ∷ [];
    extends = more_extends records r.seen here r.extends;
    source = comes told r.seen r.source;
    count = one_more here new.number next;
    few = (let count = one_more here new.number next in omega (arith, count, few));
    limits = limits ∙ r.limits;
    named = more_named l r.seen given so_far after here g.row r.named some g.rows g.below
        (judged_all here (Accepted g.row) g.judged);
  }

  -- the root of another geometry
  pub reads_root : (new : Progress R)
      → ReadsRecord remaining old.source (old.number + 1) (Ok true) new.last new.source (new.number + 1)
      → limits_of new.rows ≡ limits_of old.rows → EndsBefore old.rows so_far new.last new.rows
      → Completes l remaining told records given so_far new
  reads_root new (comes, next, few) limits e =
      let here = new.last in
      let n = root_more l r.seen here all_now.geometries e.row all_now.named
      (judged_all here (Accepted e.row) e.judged) e.root in
      let (going, unspent, count, ready) = root_waits (limits_of old.rows) new.rows.state new.rows.points.items here
      (e.row ∷ []) new.number e.waits (omega arith) in
      let seen = r.seen ++ here ∷ [] in
      let source = comes told r.seen r.source in
      let many = one_more here new.number next in
      completed l remaining told records r.seen given so_far new r.named (record {
        seen = seen;
        extends = more_extends records r.seen here r.extends;
        begins = row_place_begins remaining told seen false new.source source;
        stands = record {
          source = subst (λ e. standing remaining told seen e new.source) (sym going) source;
          count = count ∙ many;
          few = omega (arith, many, few);
          limits = limits ∙ r.limits;
          root = e.row ∷ [];
          waits = subst (λ (m : Allowance). AreWaiting m new.rows.state new.rows.points.items here (e.row ∷ []))
              (sym limits) e.waits;
          gave = (n.geometry, n.named, n.rows_are, going);
          unspent = unspent;
        };
      })

  -- ---- the table ended

  pub reads_end : (new : Progress R) (here : Record)
      → ReadsRecord remaining old.source (old.number + 1) (Ok false) here new.source
      (new.number + 1)
      → limits_of new.rows ≡ limits_of old.rows → new.rows.state ≡ state.Over
      → Completes l remaining told records given so_far new
  reads_end new here (all, same) limits over =
      let source = all told r.seen r.source in
      completed l remaining told records r.seen given so_far new r.named (record {
        seen = r.seen;
        extends = r.extends;
        begins = row_place_begins remaining told r.seen true new.source source;
        stands = record {
          source = subst (λ (s : State). standing remaining told r.seen (is_over s) new.source)
              (sym over) source;
          count = ap (λ (s : State). records_read s new.number) over ∙ (same ∙ r.count);
          few = r.few;
          limits = limits ∙ r.limits;
          root = [];
          waits = subst (λ (s : State). AreWaiting (limits_of new.rows) s new.rows.points.items new.last [])
              (sym over) refl;
          gave = subst (λ (s : State). HaveGiven l r.seen all_now.geometries [] (is_over s)) (sym over) (
            names_so_far l r.seen all_now.geometries all_now.named,
            inr
                refl,
          );
          unspent = ap is_stopped over;
        };
      })

  -- ---- the record is refused, or was not read

  pub reads_stop : (here : Record) (csv : Reader (MutBor (Tap R))) (number : ℕ)
      (why : Stop RowReason)
      → ReadsRecord remaining old.source (old.number + 1) (Ok true) here csv (number + 1)
      → IfRefused (λ reason. JudgedAfter (limits_of old.rows) so_far here (Refused reason)) why
      → Explains l told records given (fault_of (number + 1) why)
  reads_stop here csv number stop.Memory comes j = tt
  reads_stop here csv number (stop.Refused reason) (comes, next, few) j =
      let seen = r.seen ++ here ∷ [] in
      record {
        seen = seen;
        extends = more_extends records r.seen here r.extends;
        begins = row_place_begins remaining told seen false csv (comes told r.seen r.source);
        none = λ e. absurd (never_none r.seen here e);
        complete = subst (AreComplete l seen (number + 1) reason) all_now.but
            (subst (λ m. AreComplete l seen m reason (all_but_last all_now.geometries))
            (omega (arith, next, r.count))
            (refused_more l r.seen here all_now.geometries reason
            (subst IsAllowance r.limits old.rows.sound)
            all_now.named (judged_all here (Refused reason) j)));
      }

  pub reads_none : (f : TableFault) → MissesRecord remaining old.source (old.number + 1) f
      → Explains l told records given f
  reads_none f (inl source) = subst (Explains l told records given) (sym source) tt
  reads_none f (inr (many, last, (here, csv, comes))) =
      subst (Explains l told records given) (sym many) (record {
        before = r.seen;
        here = here;
        extends = r.extends;
        begins = row_place_begins remaining told (r.seen ++ here ∷ []) false csv
            (comes told r.seen r.source);
        many = omega (arith, last, r.count, r.few);
        geometries = all_now.geometries;
        named = all_now.named;
        complete = sym all_now.but;
      })

-- ==== What one more record shows to a call.

missed_fresh : {R : Type 0} (remaining : R → Option (List ℕ)) (csv : Reader (MutBor (Tap R)))
    (number : ℕ) (f : TableFault) → MissesRecord remaining csv number f → f ≡ fault.Spent → ⊥
missed_fresh remaining csv number f (inl source) e = cc (source, e)
missed_fresh remaining csv number f (inr many) e = (let is = many.0 in cc (is, e))

stop_fresh : (number : ℕ) (why : Stop RowReason) → fault_of number why ≡ fault.Spent → ⊥
stop_fresh number stop.Memory e = cc e
stop_fresh number (stop.Refused reason) e = cc e

-- a geometry that has rows is complete
pub completes_some : {R : Type 0} (l : Allowance) (remaining : R → Option (List ℕ))
    (told : Option (List ℕ))
    (records : List Record) (given : List Tree) (so_far : List Row) (now : Progress R)
    → 0 < length so_far → Completes l remaining told records given so_far now
    → GivesRows l remaining told records given so_far now
completes_some l remaining told records given [] now some done = absurd (omega (arith, some))
completes_some l remaining told records given (root ∷ more) now some done = done

-- a record was read
pub row_shown : {R : Type 0} (remaining : R → Option (List ℕ)) (old new : Progress R)
    (before after : List Row) (more : Bool) → 0 < length before
    → ReadsRecord remaining old.source (old.number + 1) (Ok true) new.last new.source (new.number + 1)
    → limits_of new.rows ≡ limits_of old.rows → ReadsRow old.rows before new.last (Ok more) new.rows
    after
    → ReadsNextRow remaining old before (Ok more) after new
row_shown remaining old new before after true some reads limits g = (
  λ l told records given r. reads_more l remaining told records given before old r
      new after new.last some reads limits g,
  g.keeps,
  (let next = reads.1 in omega (arith, next)),
  (let few = reads.2 in omega (arith, few)),
)
row_shown remaining old new before after false some reads limits (e, same) = (
  λ l told records given r. completes_some l remaining told records given before new some
      (reads_root l remaining told records given before old r new reads limits e),
  same,
  (root_waits (limits_of old.rows) new.rows.state new.rows.points.items new.last (e.row ∷ []) new.number
      e.waits (omega arith)).1,
)

-- no record was read
pub none_shown : {R : Type 0} (remaining : R → Option (List ℕ)) (old : Progress R)
    (so_far : List Row)
    (f : TableFault) (rows : RowReader) → rows.state ≡ state.Spent
    → MissesRecord remaining old.source (old.number + 1) f → FaultsIn remaining old so_far f ×
    IsMarked f rows
none_shown remaining old so_far f rows spent missed = (
  λ l told records given r. reads_none l remaining told records given so_far old r f missed,
  (missed_fresh remaining old.source (old.number + 1) f missed, ap is_stopped spent),
)

-- a record was refused
pub refusal_shown : {R : Type 0} (remaining : R → Option (List ℕ)) (old : Progress R)
    (so_far : List Row)
    (here : Record) (csv : Reader (MutBor (Tap R))) (number : ℕ) (rows : RowReader)
    (why : Stop RowReason)
    → ReadsRecord remaining old.source (old.number + 1) (Ok true) here csv (number + 1)
    → Refuses old.rows so_far here why rows
    → FaultsIn remaining old so_far (fault_of (number + 1) why) × IsMarked
    (fault_of (number + 1) why) rows
refusal_shown remaining old so_far here csv number rows why reads (refused, spent) = (
  λ l told records given r. reads_stop l remaining told records given so_far old r here csv number
      why reads refused,
  (stop_fresh (number + 1) why, ap is_stopped spent),
)

-- ==== What a call of a reader of tables shows, from its steps.

-- ---- a reader that stands after records

none_read : (l : Allowance) (records : List Record) (given : List Tree) (ended : Bool)
    → 0 ≡ length records → HaveGiven l records given [] ended → (records ≡ []) × (given ≡ [])
none_read l [] given ended none h = (refl, h.0)
none_read l (r ∷ records) given ended none h = absurd (omega (arith, none))

so_far_named : (l : Allowance) (records : List Record) (given : List Tree) (ws : List Row)
    (ended : Bool) → HaveGiven l records given ws ended → ended ≡ true → NameSoFar l records given
so_far_named l records given [] ended h over = h.0
so_far_named l records given (root ∷ more) ended (last, named, same, going) over = absurd
    (true≢false (sym over ∙ going))

over_read : (s : State) (number : ℕ) → is_over s ≡ true → 0 < records_read s number
over_read state.Over number over = omega arith
over_read _ number over = cc over

a_tree : (l : Allowance) (records : List Record) (given : List Tree) (ws : List Row) (ended : Bool)
    → HaveGiven l records given ws ended → 0 < length ws → NameReading l records given ws
a_tree l records given [] ended h some = absurd (omega (arith, some))
a_tree l records given (root ∷ more) ended (last, named, same, going) some = (last, named, same)

module _ {R : Type 0} (l : Allowance) (remaining : R → Option (List ℕ)) (told : Option (List ℕ))
    (records : List Record) (given : List Tree) (now : Progress R) where
  -- no record was read, and no geometry returned
  pub fresh : now.rows.state ≡ state.Fresh → StandsAt l remaining told records given now
      → (records ≡ []) × (given ≡ []) × HasGiven remaining told [] now.source
  fresh is s =
      let empty : s.root ≡ [] = subst (λ (t : State). AreWaiting (limits_of now.rows) t now.rows.points.items
      now.last s.root) is s.waits in
      let (none, before) = none_read l records given (is_over now.rows.state)
      (subst (λ (t : State). records_read t now.number ≡ length records) is s.count)
      (subst (λ rs. HaveGiven l records given rs (is_over now.rows.state)) empty s.gave) in (
        none,
        before,
        subst (λ rs. HasGiven remaining told rs now.source) none
            (subst (λ (t : State). standing remaining told records (is_over t) now.source) is
            s.source),
      )

  -- the records are those read before the call
  pub reaches : StandsAt l remaining told records given now
      → Reaches l remaining told records given now
  reaches s = record {
    seen = records;
    extends = ([], sym (append-nil records));
    begins = row_place_begins remaining told records (is_over now.rows.state) now.source s.source;
    stands = s;
  }

  -- the end was reached
  pub ends_over : is_over now.rows.state ≡ true → Reaches l remaining told records given now
      → ReachesEnd l remaining told records given now
  ends_over over r = record {
    seen = r.seen;
    extends = r.extends;
    all = subst (λ e. standing remaining told r.seen e now.source) over r.stands.source;
    named = named_some l r.seen given
        (subst (λ n. 0 < n) r.stands.count (over_read now.rows.state now.number over))
        (so_far_named l r.seen given r.stands.root (is_over now.rows.state) r.stands.gave over);
    stands = r.stands;
  }

  -- the root that waits is that of the geometry which is read now
  pub begun : (rows : RowReader) → limits_of rows ≡ limits_of now.rows
      → (r : Reaches l remaining told records given now) → is_waiting now.rows.state ≡ true
      → IsReading l remaining told records given r.stands.root (record now { rows = rows })
  begun rows limits r ready =
      let some = some_waits (limits_of now.rows) now.rows.state now.rows.points.items now.last r.stands.root
      r.stands.waits ready in
      let (going, unspent, count, same) = root_waits (limits_of now.rows) now.rows.state now.rows.points.items
      now.last r.stands.root now.number r.stands.waits some in
      record {
        seen = r.seen;
        extends = r.extends;
        source = subst (λ e. standing remaining told r.seen e now.source) going r.stands.source;
        count = sym count ∙ r.stands.count;
        few = r.stands.few;
        limits = limits ∙ r.stands.limits;
        named = a_tree l r.seen given r.stands.root (is_over now.rows.state) r.stands.gave some;
      }

  -- so it is if its rows were put into a form
  pub begun_in : (rows : RowReader) (flat : List Row) → limits_of rows ≡ limits_of now.rows
      → Reaches l remaining told records given now → is_waiting now.rows.state ≡ true
      → ((root : List Row) → Awaits now.rows now.last root → root ≡ flat)
      → IsReading l remaining told records given flat (record now { rows = rows })
  begun_in rows flat limits r ready put =
      subst (λ root. IsReading l remaining told records given root (record now { rows = rows }))
      (put r.stands.root r.stands.waits) (begun rows limits r ready)

  -- the geometry of the rows that were given
  pub tree_given : (flat : List Row) (tree : Tree) → rows 0 tree ≡ flat → IsTree tree
      → GivesRows l remaining told records given flat now → GivesTree l remaining told records given
      tree now
  tree_given flat tree e is_tree n = record {
    seen = n.seen;
    extends = n.extends;
    begins = n.begins;
    stands = subst (λ (h : Tree). StandsAt l remaining told n.seen (given ++ h ∷ []) now)
        (one_geometry n.geometry tree n.valid.tree is_tree (n.rows ∙ sym e)) n.stands;
  }

  -- the point that waited is the next geometry
  pub point_given : (new : Progress R) (p : ℤ) (q same : Point)
      → waiting now.rows ≡ point_row p q ∷ [] → same ≡ q
      → (IsReading l remaining told records given (waiting now.rows) now
      → Completes l remaining told records given (waiting now.rows) new)
      → StandsAt l remaining told records given now
      → GivesRows l remaining told records given (point_row p same ∷ []) new
  point_given new p q same waits is completes s =
      let some : 0 < length (waiting now.rows) = omega (arith, ap (λ (rs : List Row). length rs) waits) in
      let root = waits_alone (limits_of now.rows) now.rows.state now.rows.points.items now.last s.root s.waits
      some in
      let (going, unspent, count, ready) = root_waits (limits_of now.rows) now.rows.state now.rows.points.items
      now.last s.root now.number s.waits (omega (arith, some, ap (λ (rs : List Row). length rs) root)) in
      rw is (subst (λ ws. Completes l remaining told records given ws new) waits
      (completes (begun_in now.rows (waiting now.rows) refl (reaches s) ready
      (λ one held. waits_alone (limits_of now.rows) now.rows.state now.rows.points.items now.last one held some))))

-- no root that waits is refused
pub begin_shown : {R : Type 0} (remaining : R → Option (List ℕ)) (old : TableReader R) (now : Progress R)
    (number : ℕ) (rows : RowReader) (why : Stop RowReason)
    → Wherever remaining old (λ l told records given. Reaches l remaining told records given now)
    → IfRefused (λ reason. (root : List Row) → Awaits now.rows now.last root → ⊥) why
    → rows.state ≡ state.Spent
    → Faults remaining old (fault_of number why) × IsMarked (fault_of number why) rows
begin_shown remaining old now number rows stop.Memory reaches none spent =
    (λ l told records given s. tt, (stop_fresh number stop.Memory, ap is_stopped spent))
begin_shown remaining old now number rows (stop.Refused reason) reaches none spent = (
  λ l told records given s. (let r = reaches l told records given s in absurd (none r.stands.root r.stands.waits)),
  (stop_fresh number (stop.Refused reason), ap is_stopped spent),
)

-- ---- the header

refused_first : (l : Allowance) (told : Option (List ℕ)) (seen records : List Record)
    (given : List Tree) → records ≡ [] → given ≡ [] → IfSome told (λ text. BeginWith text seen)
    → (seen ≡ [] → IfSome told (λ text. AreRecordsOf text [])) → AreComplete l seen 1 BadHeader []
    → IsRefusedAt l told records given 1 BadHeader
refused_first l told seen records given none before begins all complete = record {
  seen = seen;
  extends = (seen, ap (λ (rs : List Record). rs ++ seen) (sym none));
  begins = begins;
  none = all;
  complete = subst (AreComplete l seen 1 BadHeader) (sym before) complete;
}

pub no_header : (l : Allowance) (told : Option (List ℕ)) (records : List Record) (given : List Tree)
    → records ≡ [] → given ≡ [] → IfSome told (λ text. AreRecordsOf text [])
    → IsRefusedAt l told records given 1 BadHeader
no_header l told records given none before all =
    refused_first l told [] records given none before (begins_none told) (λ e. all)
    (inl (tt, refl, refl, refl))

pub other_header : (l : Allowance) (told : Option (List ℕ)) (records : List Record)
    (given : List Tree) (here : Record) → records ≡ [] → given ≡ []
    → IfSome told (λ text. BeginWith text (here ∷ [])) → (here ≡ header → ⊥)
    → IsRefusedAt l told records given 1 BadHeader
other_header l told records given here none before begins other =
    refused_first l told (here ∷ []) records given none before begins
    (λ e. absurd (never_none [] here e)) (inl (other, refl, refl, refl))

pub the_header : {R : Type 0} (l : Allowance) (remaining : R → Option (List ℕ))
    (told : Option (List ℕ)) (records : List Record) (given : List Tree) (here : Record)
    (now : Progress R) → waiting now.rows ≡ [] → records ≡ [] → given ≡ []
    → HasGiven remaining told (here ∷ []) now.source → here ≡ header → now.number ≡ 0
    → limits_of now.rows ≡ l
    → IsReading l remaining told records given (waiting now.rows) now
the_header l remaining told records given here now waits none before source same number limits =
    record {
      seen = header ∷ [];
      extends = (header ∷ [], ap (λ (rs : List Record). rs ++ header ∷ []) (sym none));
      source = subst (λ (r : Record). HasGiven remaining told (r ∷ []) now.source) same source;
      count = omega (arith, number);
      few = omega arith;
      limits = limits;
      named = subst (NameReading l (header ∷ []) given) (sym waits)
          (subst (Named l (header ∷ [])) (sym before) (record { table_of = refl; valid = tt }), before);
    }

-- the header and the first root were read
pub first_shown : {R : Type 0} (remaining : R → Option (List ℕ)) (old mid new : TableReader R)
    (r : Result Bool TableFault) → Begins remaining old (waiting mid.rows) mid
    → waiting mid.rows ≡ []
    → ReadsNextRoot remaining (progress mid) r (progress new) → FindsRoot remaining old r new
first_shown remaining old mid new (Ok found) reads none (shows, ready) = (
  λ l told records given s. subst (λ ws. Completes l remaining told records given ws (progress new))
      none
      (shows l told records given (reads l told records given s)),
  ready,
)
first_shown remaining old mid new (Err f) reads none (faults, marked) =
    (λ l told records given s. faults l told records given (reads l told records given s), marked)
