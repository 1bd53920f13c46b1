-- The sending of a table and its result for the caller of a conversion.
use lib.Dec.{eqb}
use Rattle.std.specs.Prelude.{OnOk, not, ℤ}
use Rattle.std.proofs.lemmas.Bool.{eqb-false, eqb-true}
use Rattle.std.proofs.lemmas.Bool.Decides.{nat_tests}
use Rattle.twkb_points.specs.Point.{Point}
use Rattle.twkb_io.specs.declared.TheConstants.{MAX_BYTES}
use Rattle.twkb_io.specs.declared.output.OutFault.TheVariants as out
use Rattle.twkb_io.specs.Taps.{has_unflushed}
use Rattle.twkb_tree.specs.Tree.{nodes, saturated, Simple, point, IsTree, IsPrecision}
use Rattle.twkb_tree.specs.Rows.{own_row}
use Rattle.twkb_tree.proofs.TreeLemmas.{length-rows_with}
use Rattle.twkb_grammar.specs.Noting.{geometries}
use Rattle.twkb_writer.specs.MeasuredRows.{Measures}
use Rattle.twkb_writer.specs.Bytes.{one_point}
use Rattle.twkb_table.specs.TableReading.{GivesRows, HaveGiven, NameSoFar, Progress, ReachesEnd}
use Rattle.twkb_table.specs.TableReading.{StandsAfter, StandsAt, progress}
use Rattle.twkb_table.specs.TableReading as Table
use Rattle.twkb_table.specs.declared.table_fault.TableFault.{TableFault}
use Rattle.twkb_table.specs.declared.table_reader.TableReader.{TableReader}
use Rattle.twkb_table.specs.declared.table_fault.TableFault.TheVariants as table_fault
use Rattle.twkb_table.specs.Waiting.{is_over, point_row}
use Rattle.twkb_table.proofs.TableSteps.{all_but_last-last, names_so_far, text_begins}
use Rattle.twkb_convert.specs.Packed.{AddsWork, IsWorkOf, points, total, no_work, ExplainsPackingCause, PackedWith}
use Rattle.twkb_convert.specs.Packed.{StoppedPacking}
use Rattle.twkb_convert.specs.SentGeometries.{CutsBlob, WritesBlob, Ends, SendsTable, SentSoFar, EndsTable}
use Rattle.twkb_convert.specs.SentGeometries.{SendsPoints, records_with, with_rows}
use Rattle.twkb_convert.specs.Causes.{cause_of_output, cause_of_table, after_reads, is_write, Drains}
use Rattle.twkb_convert.specs.Outputs.{Flushes, Finishes, UnlessRefused}
use Rattle.twkb_convert.specs.declared.sent_geometries.Sent.{Sent}
use Rattle.twkb_convert.specs.declared.report.Cause.TheVariants as cause
use Rattle.twkb_convert.proofs.Prelude.{◌≡◌, ◌≢◌, ◌∙◌, ◌⊎◌, ◌+◌, ◌<◌, ◌≤◌, ℕ, Bool, true, false, List, [], ◌∷◌, ◌++◌}
use Rattle.twkb_convert.proofs.Prelude.{Option, Result, Ok, Err, length, ap, arith, refl, sym, subst, inl, inr}
use Rattle.twkb_convert.proofs.Prelude.{length-append, IfSome, append-nil, flat_map-append, Cut, is_spent, sent_of}
use Rattle.twkb_convert.proofs.Prelude.{refused_join, took_join, took_nothing, Output, OutFault, Tree, simple}
use Rattle.twkb_convert.proofs.Prelude.{collection, Row, Allowance, Work, canonical_blob, canonical_stream, Style}
use Rattle.twkb_convert.proofs.Prelude.{Record, AreRecordsOf, BeginWith, standing, all_but_last, MayBeWritten, Cause}
use Rattle.twkb_convert.proofs.Prelude.{IsAtEnd, Named, ◌^◌, ◌-◌, Appends, bytes_given, count_failure, device_of}
use Rattle.twkb_convert.proofs.Prelude.{failures_of, output_tap, Tap, Changes, IsDeviceCause, ConvertFault, Report}
use Rattle.twkb_convert.proofs.Prelude.{Some, None, Took, rows, rows_of, record_of, records_of, length-map}
use Rattle.twkb_convert.proofs.FlushLemmas.{leaves_last, leaves_refused, leaves_took, flushed_after, flushed_last}
use Rattle.twkb_convert.proofs.FlushLemmas.{flushes_before, kept_last, ok_before, reports_err, reports_ok}

-- ==== The work of geometries, one after another.

total-last : (count : Tree → ℕ) (gs : List Tree) (g : Tree) → total count (gs ++ g ∷ []) ≡ total count gs + count g
total-last count [] g = omega arith
total-last count (h ∷ gs) g = omega (arith, total-last count gs g)

-- a sum capped twice is capped once
saturated-twice : (a b : ℕ) → saturated (saturated a + b) ≡ saturated (a + b)
saturated-twice a b = omega arith

sum_more : (count : Tree → ℕ) (gs : List Tree) (g : Tree) (old new : ℕ)
    → old ≡ saturated (total count gs) → new ≡ saturated (old + count g)
    → new ≡ saturated (total count (gs ++ g ∷ []))
sum_more count gs g old new before more =
    more ∙ ap (λ n. saturated (n + count g)) before ∙ saturated-twice (total count gs) (count g)
    ∙ ap saturated (sym (total-last count gs g))

-- one more geometry
pub work_more : (gs : List Tree) (g : Tree) (old new : Work) → IsWorkOf gs old → AddsWork g old new
    → IsWorkOf (gs ++ g ∷ []) new
work_more gs g old new before adds = record {
  all_points = sum_more points gs g old.points new.points before.all_points adds.more_points;
  all_nodes = sum_more nodes gs g old.nodes new.nodes before.all_nodes adds.more_nodes;
  all_entries = sum_more geometries gs g old.entries new.entries before.all_entries adds.more_entries;
  point_reads = (let a = before.point_reads in let b = adds.point_reads in omega (arith, a, b, total-last points gs g));
  node_reads = (let a = before.node_reads in let b = adds.node_reads in omega (arith, a, b, total-last nodes gs g));
}

-- ==== The sending of a table, up to each place where it ends.

-- ---- geometries that may be written

ready_gave : (l : Allowance) (told : Option (List ℕ)) (records : List Record) (given : List Tree)
    (waits : List Row) (ended : Bool) → IfSome told (λ text. BeginWith text records)
    → (ended ≡ true → IfSome told (λ text. AreRecordsOf text records))
    → HaveGiven l records given waits ended → MayBeWritten l told given
ready_gave l told records given [] ended begins all (named, inl none) =
    record {
      records = records;
      geometries = given;
      begins = begins;
      named = named;
      ready = inl (none ∙ ap all_but_last (sym none));
    }
ready_gave l told records given [] ended begins all (named, inr over) =
    record { records = records; geometries = given; begins = begins; named = named; ready = inr (all over, refl) }
ready_gave l told records given (root ∷ more) ended begins all (last, named, same, going) = record {
  records = records;
  geometries = given ++ last ∷ [];
  begins = begins;
  named = names_so_far l records (given ++ last ∷ []) named;
  ready = inl (sym (all_but_last-last given last));
}

-- the geometries that a table gave may be written
pub ready_after : {R : Type 0} (l : Allowance) (remaining : R → Option (List ℕ))
    (told : Option (List ℕ)) (records : List Record) (given : List Tree) (now : Progress R)
    → StandsAt l remaining told records given now → MayBeWritten l told given
ready_after l remaining told records given now s =
    ready_gave l told records given s.root (is_over now.rows.state)
    (text_begins remaining told records now s.source)
    (λ over. subst (λ e. standing remaining told records e now.source) over s.source) s.gave

-- ---- their rows

-- geometries have as many rows as nodes
length-rows_of : (gs : List Tree) → length (rows_of gs) ≡ total nodes gs
length-rows_of [] = refl
length-rows_of (g ∷ gs) = length-append (rows 0 g) (rows_of gs)
    ∙ omega (arith, length-rows_with None 0 g, length-rows_of gs)

-- the records of a table are the header and its rows
named_rows : (l : Allowance) (records : List Record) (gs : List Tree) → Named l records gs
    → length records ≡ total nodes gs + 1
named_rows l records gs named =
    omega (arith, ap length named.table_of, length-map (rows_of gs) record_of, length-rows_of gs)

so_far_rows : (l : Allowance) (records : List Record) (gs : List Tree) → NameSoFar l records gs
    → total nodes gs ≤ length records
so_far_rows l [] gs none = omega (arith, ap (total nodes) none)
so_far_rows l (first ∷ records) gs named = omega (arith, named_rows l (first ∷ records) gs named)

-- the geometries that were given have no more rows than there are records
given_rows : (l : Allowance) (records : List Record) (given : List Tree) (waits : List Row) (ended : Bool)
    → HaveGiven l records given waits ended → total nodes given ≤ length records
given_rows l records given [] ended (named, none) = so_far_rows l records given named
given_rows l records given (root ∷ more) ended (last, named, same, going) =
    omega (arith, named_rows l records (given ++ last ∷ []) named, total-last nodes given last)

-- so the number of their records is as it is computed
taken_records : (gs : List Tree) (geometries rows : ℕ) → geometries ≡ length gs → rows ≡ saturated (total nodes gs)
    → total nodes gs < 2 ^ 32 → records_with geometries rows ≡ records_of gs
taken_records [] geometries rows count rows_is few = rw count refl
taken_records (g ∷ gs) geometries rows count rows_is few =
    let more : eqb geometries 0 ≡ false = grind (arith, nat_tests) in
    let exact : rows ≡ total nodes (g ∷ gs) = omega (arith, rows_is, few) in
    rw more (omega (arith, exact, few, length-map (rows_of (g ∷ gs)) record_of, length-rows_of (g ∷ gs)))

-- ---- geometries that were sent

stream_one : (style : Style) (gs : List Tree) (g : Tree)
    → canonical_stream style (gs ++ g ∷ []) ≡ canonical_stream style gs ++ canonical_blob style g
stream_one style gs g = flat_map-append (canonical_blob style) gs (g ∷ [])
    ∙ ap (λ l. canonical_stream style gs ++ l) (append-nil (canonical_blob style g))

blob_long : (style : Style) (g : Tree) → 0 < length (canonical_blob style g)
blob_long style (simple p s) = omega arith
blob_long style (collection p ids gs) = omega arith

-- a blob has at least one byte
stream_long : (style : Style) (gs : List Tree) → length gs ≤ length (canonical_stream style gs)
stream_long style [] = omega arith
stream_long style (g ∷ gs) = omega (
  arith,
  length-append (canonical_blob style g)
      (canonical_stream style gs),
  blob_long style g,
  stream_long style gs,
)

-- one more row, at most the greatest u64
pub one_more_row : (first all nodes before mid after : ℕ) → before ≤ mid
    → saturated (first + (mid - before)) ≡ saturated all → nodes ≡ saturated all → after ≡ saturated (nodes + 1)
    → saturated (first + (mid + 1 - before)) ≡ after
one_more_row first all nodes before mid after few same known is = omega (arith, few, same, known, is)

same_sent : (a b : Sent) → a.geometries ≡ b.geometries → a.rows ≡ b.rows → a.work ≡ b.work → a ≡ b
same_sent a b p q r =
    ap (λ (n : ℕ). record { geometries = n; rows = a.rows; work = a.work }) p
    ∙ ap (λ (n : ℕ). record { geometries = b.geometries; rows = n; work = a.work }) q
    ∙ ap (λ (w : Work). record { geometries = b.geometries; rows = b.rows; work = w }) r

-- the points of a run were sent, and then their rows were counted
pub rows_counted : {R W : Type 0} (style : Style) (remaining : R → Option (List ℕ)) (contents : W → Option (List ℕ))
    (from to last : TableReader R) (old new end : Output W) (before sent after : Sent)
    (answer : Result (Unit {0}) Cause) → last ≡ to → end ≡ new → sent.rows ≡ before.rows
    → after.geometries ≡ sent.geometries
    → after.rows ≡ saturated (sent.rows + (sent.geometries - before.geometries)) → after.work ≡ sent.work
    → SendsPoints style remaining contents from old before to new (with_rows before sent) answer
    → SendsPoints style remaining contents from old before last end after answer
rows_counted style remaining contents from to last old new end before sent after answer there closed same p q r sends =
    let is : after ≡ with_rows before sent = same_sent after (with_rows before sent) p
    (q ∙ ap (λ (n : ℕ). saturated (n + (sent.geometries - before.geometries))) same) r in
    subst (λ t. SendsPoints style remaining contents from old before t end after answer) (sym there)
    (subst (λ o. SendsPoints style remaining contents from old before to o after answer) (sym closed)
    (subst (λ s. SendsPoints style remaining contents from old before to new s answer) (sym is) sends))

module _ {R W : Type 0} {style : Style} {l : Allowance} {remaining : R → Option (List ℕ)}
    {contents : W → Option (List ℕ)} {told : Option (List ℕ)} where
  -- no point was sent yet
  pub rows_first : {from : TableReader R} {old mid : Output W} {before : Sent}
      → SentSoFar style l remaining contents told from old mid before
      → SentSoFar style l remaining contents told from old mid (with_rows before before)
  rows_first {before = before} s = record {
    records = s.records;
    geometries = s.geometries;
    stands = s.stands;
    took = s.took;
    count = s.count;
    rows_is = (let is = s.rows_is in omega (arith, is));
    work_of = s.work_of;
    fresh = s.fresh;
    unsent = s.unsent;
  }

  -- no geometry was sent yet
  pub sent_none : {from : TableReader R} {old : Output W} {work : Work} → work ≡ no_work
      → is_spent old ≡ false → sent_of old ≡ 0 → StandsAfter l remaining told [] [] from
      → SentSoFar style l remaining contents told from old old
      (record { geometries = 0; rows = 0; work = work })
  sent_none {old = old} idle fresh unsent stands = record {
    records = [];
    geometries = [];
    stands = stands;
    took = took_nothing contents old;
    count = refl;
    rows_is = refl;
    work_of = subst (λ (w : Work). IsWorkOf [] w) (sym idle) (record {
      all_points = refl;
      all_nodes = refl;
      all_entries = refl;
      point_reads = omega arith;
      node_reads = omega arith;
    });
    fresh = fresh;
    unsent = unsent;
  }

  module _ {from : TableReader R} {old mid : Output W} {before : Sent}
      (s : SentSoFar style l remaining contents told from old mid before) (after : Sent) where
    -- one more geometry was sent
    pub sent_more : {to : TableReader R} {new : Output W} {rows : List Row}
        (gives : GivesRows l remaining told s.records s.geometries rows (progress to))
        → after.geometries ≡ before.geometries + 1 → after.rows ≡ after.work.nodes
        → WritesBlob style contents gives.geometry mid before.work new after.work
        → SentSoFar style l remaining contents told to old new after
    sent_more {new = new} gives more rows_are writes = record {
      records = gives.seen;
      geometries = s.geometries ++ gives.geometry ∷ [];
      stands = gives.stands;
      took = rw (stream_one style s.geometries gives.geometry) (took_join contents old mid new _ _ s.took writes.took);
      count = (let c = s.count in omega (arith, more, c, length-append s.geometries (gives.geometry ∷ [])));
      rows_is = rows_are
          ∙ (work_more s.geometries gives.geometry before.work after.work s.work_of writes.work).all_nodes;
      work_of = work_more s.geometries gives.geometry before.work after.work s.work_of writes.work;
      fresh = s.fresh;
      unsent = s.unsent;
    }

    -- what was taken, if nothing more was sent
    all_taken : after.geometries ≡ before.geometries → after.rows ≡ before.rows
        → records_with after.geometries after.rows ≡ records_of s.geometries
    all_taken same same_rows = taken_records s.geometries after.geometries after.rows (same ∙ s.count)
        (same_rows ∙ s.rows_is)
        (omega (arith, s.stands.few, given_rows l s.records s.geometries _ _ s.stands.gave))

    -- no more was sent, for this answer
    sent_whole : (given : ℕ) (answer : Result (Unit {0}) Cause) → after.geometries ≡ before.geometries
        → after.rows ≡ before.rows → is_write answer ≡ false
        → Ends style l told given after.work s.geometries [] [] answer
        → SendsTable style l contents told given old mid after answer
    sent_whole given answer same same_rows quiet ends = record {
      bytes = canonical_stream style s.geometries;
      part = record {
        whole = s.geometries;
        later = [];
        front = [];
        rest = [];
        ready = rw append-nil (ready_after l remaining told s.records s.geometries (progress from) s.stands);
        cut = refl;
        bytes = sym (append-nil (canonical_stream style s.geometries));
      };
      one = inl refl;
      leaves = leaves_took answer s.took s.fresh quiet;
      count = same ∙ s.count;
      taken_is = all_taken same same_rows;
      ends = ends;
    }

    -- the table gave no geometry
    pub ends_fault : (given : ℕ) (f : TableFault) → after.geometries ≡ before.geometries
        → after.rows ≡ before.rows → Table.Explains l told s.records s.geometries f
        → SendsTable style l contents told given old mid after (Err (cause_of_table f))
    ends_fault given (table_fault.At number reason) same rows_same e =
        sent_whole given (Err (cause.Row number reason)) same rows_same refl
        (refl, refl, record { seen = e.seen; begins = e.begins; none = e.none; fault = e.complete })
    ends_fault given table_fault.TooManyRecords same rows_same e =
        sent_whole given (Err cause.TooManyRecords) same rows_same refl (
          refl,
          refl,
          record {
            before = e.before;
            here = e.here;
            begins = e.begins;
            many = e.many;
            geometries = e.geometries;
            named = e.named;
            complete = e.complete;
          },
        )
    ends_fault given table_fault.Source same rows_same e =
        sent_whole given (Err cause.ReadDevice) same rows_same refl (refl, refl)
    ends_fault given table_fault.Memory same rows_same e =
        sent_whole given (Err cause.Memory) same rows_same refl (refl, refl)
    ends_fault given table_fault.Spent same rows_same e = absurd e

    cut_ends : (given : ℕ) (f : OutFault) (later : List Tree) (front : List ℕ)
        → (f ≡ out.TooLong → MAX_BYTES < length (canonical_stream style (s.geometries ++ later))) → f ≢ out.Spent
        → Ends style l told given after.work s.geometries later front (Err (cause_of_output f))
    cut_ends given out.TooLong later front long unspent = inl (long refl)
    cut_ends given out.Spent later front long unspent = absurd (unspent refl)
    cut_ends given _ later front long unspent = tt

    -- the output refused a prefix of the next blob
    pub ends_cut : {now : Progress R} {new : Output W} {f : OutFault} {rows : List Row}
        (given : ℕ) (gives : GivesRows l remaining told s.records s.geometries rows now)
        → after.geometries ≡ before.geometries → after.rows ≡ before.rows
        → Cut contents mid (canonical_blob style gives.geometry) f new
        → SendsTable style l contents told given old new after (Err (cause_of_output f))
    ends_cut {now = now} {new = new} {f = f} given gives same same_rows cut =
        let fresh : is_spent mid ≡ false = s.took.spent ∙ s.fresh in
        record {
          bytes = canonical_stream style s.geometries ++ cut.front;
          part = record {
            whole = s.geometries;
            later = gives.geometry ∷ [];
            front = cut.front;
            rest = cut.rest;
            ready = ready_after l remaining told gives.seen (s.geometries ++ gives.geometry ∷ []) now gives.stands;
            cut = append-nil (canonical_blob style gives.geometry) ∙ cut.whole;
            bytes = refl;
          };
          one = inr (gives.geometry, refl, cut.left fresh);
          leaves = leaves_refused (refused_join contents old mid new _ cut.front f s.took
              cut.refused);
          count = same ∙ s.count;
          taken_is = all_taken same same_rows;
          ends = cut_ends given f (gives.geometry ∷ []) cut.front
              (λ far. (let most = cut.too_long far in let sent = s.took.sends.sent in
              omega (
                arith,
                most,
                sent,
                s.unsent,
                ap length (stream_one style s.geometries gives.geometry),
                length-append (canonical_stream style s.geometries) (canonical_blob style gives.geometry),
              )))
              (cut.unspent fresh);
        }

    -- the blob of the next geometry was not sent whole
    pub ends_blob : {now : Progress R} {new : Output W} {why : Cause} {rows : List Row}
        (given : ℕ) (gives : GivesRows l remaining told s.records s.geometries rows now)
        → after.geometries ≡ before.geometries → after.rows ≡ before.rows
        → CutsBlob style contents gives.geometry mid why new
        → SendsTable style l contents told given old new after (Err why)
    ends_blob given gives same same_rows (inl (memory, unsent)) =
        rw (unsent, memory) (ends_fault given table_fault.Memory same same_rows tt)
    ends_blob given gives same same_rows (inr (f, is, cut)) = rw is (ends_cut given gives same same_rows cut)

  module _ {from : TableReader R} {old mid : Output W} {sent : Sent}
      (s : SentSoFar style l remaining contents told from old mid sent) where
    -- the table was read to its end
    pub ends_table : {now : Progress R} (given : ℕ)
        → ReachesEnd l remaining told s.records s.geometries now
        → SendsTable style l contents told given old mid sent (Ok tt)
    ends_table given meets = sent_whole s sent given (Ok tt) refl refl refl (record {
      table = record {
        records = meets.seen;
        geometries = s.geometries;
        all = meets.all;
        few = meets.stands.few;
        named = meets.named;
      };
      same = refl;
      work_of = s.work_of;
      no_later = refl;
      no_front = refl;
    })

    -- more geometries than can be counted have more bytes than can be sent
    pub ends_uncounted : (given : ℕ) → MAX_BYTES < sent.geometries
        → SendsTable style l contents told given old mid sent (Err cause.TooLong)
    ends_uncounted given many = sent_whole s sent given (Err cause.TooLong) refl refl refl
        (inl (let c = s.count in omega (
          arith,
          many,
          c,
          stream_long style s.geometries,
          ap (λ gs. length (canonical_stream style gs)) (append-nil s.geometries),
        )))

-- ---- the reader's end, and the flush

pub drained : (left : Option (List ℕ)) (given : ℕ) (sending answer : Result (Unit {0}) Cause)
    → Drains left given sending answer → OnOk answer (IsAtEnd left)
drained left given (Ok sent) (Ok done) drains = drains
drained left given (Ok sent) (Err why) drains = tt
drained left given (Err why) answer drains = subst (λ a. OnOk a (IsAtEnd left)) (sym drains) tt

module _ {W : Type 0} {style : Style} {l : Allowance} {contents : W → Option (List ℕ)}
    {told : Option (List ℕ)}
    {given : ℕ} {old mid : Output W} {sent : Sent} where
  -- the whole table was sent, and the reader was not read to its end
  undrained : (why : Cause) → is_write {A = Unit {0}} (Err why) ≡ false
      → (s : SendsTable style l contents told given old mid sent (Ok tt))
      → Ends style l told given sent.work s.part.whole s.part.later s.part.front (Err why)
      → SendsTable style l contents told given old mid sent (Err why)
  undrained why quiet s ends = record {
    bytes = s.bytes;
    part = s.part;
    one = s.one;
    leaves = record {
      sends = s.leaves.sends;
      failures = rw quiet s.leaves.failures;
      quiet = s.leaves.quiet;
      unspent = λ no_write no_length. s.leaves.unspent;
    };
    count = s.count;
    taken_is = s.taken_is;
    ends = ends;
  }

  -- the answer of reading to the end
  pub sends_drained : (left : Option (List ℕ)) (sending answer : Result (Unit {0}) Cause)
      → Drains left given sending answer → SendsTable style l contents told given old mid sent sending
      → SendsTable style l contents told given old mid sent answer
  sends_drained left (Ok all) (Ok end) drains s = s
  sends_drained left (Ok all) (Err why) (inl is) s =
      rw is (undrained cause.ReadDevice refl s (s.ends.no_later, s.ends.no_front))
  sends_drained left (Ok all) (Err why) (inr (is, many)) s =
      rw is (undrained cause.TooLong refl s (inr (
        s.ends.no_later,
        s.ends.no_front,
        (
          s.ends.table.records,
          s.ends.table.all,
          subst (λ gs. Named l s.ends.table.records gs) s.ends.same s.ends.table.named,
        ),
        many,
      )))
  sends_drained left (Err why) answer drains s = rw drains s

  -- what was sent, after the flush
  pub sends_last : {new : Output W} {answer last : Result (Unit {0}) Cause}
      → SendsTable style l contents told given old mid sent answer
      → Flushes contents mid answer new last
      → SendsTable style l contents told given old new sent last
  sends_last {answer = answer} {last = last} s flushes =
      let after = leaves_last s.leaves flushes in
      record {
        bytes = s.bytes;
        part = s.part;
        one = s.one;
        leaves = after.0;
        count = s.count;
        taken_is = s.taken_is;
        ends = ends after.1;
      }
    where
      ends : (last ≡ answer) ⊎ (last ≡ Err cause.WriteDevice)
          → Ends style l told given sent.work s.part.whole s.part.later s.part.front last
      ends (inl same) = rw same s.ends
      ends (inr write) = rw write tt

-- ==== From an output to the result that a conversion's caller sees.

-- ---- the cause

-- what an answer says of the table and of the devices, once it is known whether a read failed
abbrev Tells : Style → Allowance → Option (List ℕ) → ℕ → Work → List Tree → List Tree → List ℕ → Bool
    → Result (Unit {0}) Cause → Result (Unit {0}) Cause → Type 0
Tells style l told given work whole later front failed answer (Ok done) =
    (failed ≡ false) × EndsTable l told work whole later front
Tells style l told given work whole later front failed answer (Err why) =
    ExplainsPackingCause style l told given why whole later front × IsDeviceCause failed (is_write answer) why

module _ (style : Style) (l : Allowance) (told : Option (List ℕ)) (given : ℕ) (work : Work) (whole later : List Tree)
    (front : List ℕ) where
  tells : (failed : Bool) (answer : Result (Unit {0}) Cause) → Ends style l told given work whole later front answer
      → Tells style l told given work whole later front failed answer (after_reads failed answer)
  tells true (Ok done) e = (inl (e.no_later, e.no_front), refl)
  tells true (Err (cause.Row number reason)) e = (inl (e.0, e.1), refl)
  tells true (Err (cause.Blob offset reason)) e = absurd e
  tells true (Err cause.WriteDevice) e = (tt, refl)
  tells true (Err cause.TooLong) (inl far) = (inr far, refl)
  tells true (Err cause.TooLong) (inr e) = (inl (e.0, e.1), refl)
  tells true (Err cause.TooManyRecords) e = (inl (e.0, e.1), refl)
  tells true (Err _) e = (inl e, refl)
  tells false (Ok done) e = (refl, e)
  tells false (Err (cause.Blob offset reason)) e = absurd e
  tells false (Err cause.WriteDevice) e = (tt, refl)
  tells false (Err _) e = (e, (λ i. cc i, λ i. cc i))

-- ---- the taps

-- a count that was read twice
changes_by : (before after : ℕ) → Changes (not (eqb after before)) before after
changes_by before after = go (eqb after before) refl
  where
    go : (same : Bool) → eqb after before ≡ same → Changes (not same) before after
    go true is = eqb-true after before is
    go false is = λ e. eqb-false after before is e

-- whether a count changed, by what it was before and after
pub changes_as : (before after first last : ℕ) → before ≡ first → after ≡ last
    → Changes (not (eqb after before)) first last
changes_as before after first last was is = subst (λ n. Changes (not (eqb after before)) first n) is
    (subst (λ n. Changes (not (eqb after before)) n after) was (changes_by before after))

-- what is flushed at the end
module _ {W : Type 0} {contents : W → Option (List ℕ)} {mid new : Output W} {geometries taken : ℕ}
    {report : Result Report ConvertFault} (failed : Bool) (drained : Result (Unit {0}) Cause)
    (finishes : Finishes contents mid geometries taken (after_reads failed drained) new report)
    (unspent : UnlessRefused drained (is_spent mid ≡ false)) (written : Tap W)
    (closes : (output_tap new).now ≡ written) where
  flushes : (answer : Result (Unit {0}) Cause) × Flushes contents mid drained new answer
      × (finishes.answer ≡ after_reads failed answer)
  flushes = flushes_before failed drained finishes.flushes

  held : UnlessRefused flushes.0 (has_unflushed written ≡ false)
  held = subst (λ t. UnlessRefused flushes.0 (has_unflushed t ≡ false)) closes
      (flushed_last flushes.1 unspent)

  pub flushed_ok : (done : Report) → report ≡ Ok done → has_unflushed written ≡ false
  flushed_ok done is =
      let (ok, same) = reports_ok geometries (sent_of new) taken done finishes.answer (sym is ∙ finishes.reports) in
      subst (λ a. UnlessRefused a (has_unflushed written ≡ false))
      (ok_before failed flushes.0 tt (sym ok ∙ flushes.2)) held

  pub flushed_err : (fault : ConvertFault) → report ≡ Err fault → fault.cause ≢ cause.WriteDevice
      → fault.cause ≢ cause.ReadDevice → fault.cause ≢ cause.TooLong → has_unflushed written ≡ false
  flushed_err fault is no_write no_read no_length =
      let (stops, same) = reports_err geometries (sent_of new) taken fault finishes.answer
      (sym is ∙ finishes.reports) in
      flushed_after failed flushes.0 fault.cause (has_unflushed written ≡ false) (sym stops ∙ flushes.2) held
      no_write no_read no_length

module _ {R W : Type 0} {style : Style} {l : Allowance} {contents : W → Option (List ℕ)}
    {old mid new : Output W}
    {sent : Sent} {report : Result Report ConvertFault} (remaining : R → Option (List ℕ))
    (reader read : Tap R)
    (writer written : Tap W) (failed : Bool) (drained : Result (Unit {0}) Cause)
    (changes : Changes failed (failures_of reader) (failures_of read))
    (end : OnOk drained (IsAtEnd (remaining (device_of read))))
    (finishes : Finishes contents mid sent.geometries (records_with sent.geometries sent.rows)
    (after_reads failed drained) new report)
    (sends : SendsTable style l contents (remaining (device_of reader)) (bytes_given read) old mid
    sent drained)
    (borrowed : (output_tap old).now ≡ writer) (closes : (output_tap new).now ≡ written) (none : sent_of old ≡ 0)
  where
    flushed : (answer : Result (Unit {0}) Cause) × Flushes contents mid drained new answer
        × (finishes.answer ≡ after_reads failed answer)
    flushed = flushes_before failed drained finishes.flushes

    s : SendsTable style l contents (remaining (device_of reader)) (bytes_given read) old new sent flushed.0
    s = sends_last sends flushed.1

    told : Tells style l (remaining (device_of reader)) (bytes_given read) sent.work s.part.whole s.part.later
        s.part.front failed flushed.0 finishes.answer
    told = subst (Tells style l (remaining (device_of reader)) (bytes_given read) sent.work s.part.whole s.part.later
        s.part.front failed flushed.0) (sym flushed.2) (tells style l (remaining (device_of reader)) (bytes_given read)
        sent.work s.part.whole s.part.later s.part.front failed flushed.0 s.ends)

    writes : failures_of written ≡ count_failure (is_write flushed.0) (failures_of writer)
    writes = ap failures_of (sym closes) ∙ s.leaves.failures
        ∙ ap (λ (t : Tap W). count_failure (is_write flushed.0) (failures_of t)) borrowed

    appended : Appends (contents (device_of writer)) (contents (device_of written)) s.bytes
    appended = subst (λ t. Appends (contents (device_of t)) (contents (device_of written)) s.bytes) borrowed
        (subst (λ t. Appends (contents (device_of (output_tap old).now)) (contents (device_of t)) s.bytes) closes
        s.leaves.sends.appends)

    -- the whole table was sent, and no read failed
    pub packed_with : (done : Report) → report ≡ Ok done → sent.work.point_reads < 2 ^ 64
        → sent.work.node_reads < 2 ^ 64
        → PackedWith style l remaining contents reader writer done sent.work read written
    packed_with done is few_points few_nodes =
        let (ok, same) = reports_ok sent.geometries (sent_of new) (records_with sent.geometries sent.rows) done
        finishes.answer (sym is ∙ finishes.reports) in
        let all = ok_before failed flushed.0 tt (sym ok ∙ flushed.2) in
        let (quiet, ends) = subst (Tells style l (remaining (device_of reader)) (bytes_given read) sent.work
        s.part.whole s.part.later s.part.front failed flushed.0) ok told in
        let stream : s.bytes ≡ canonical_stream style ends.table.geometries = s.part.bytes
        ∙ ap (λ b. canonical_stream style s.part.whole ++ b) ends.no_front
        ∙ append-nil (canonical_stream style s.part.whole) ∙ ap (canonical_stream style) (sym ends.same) in
        record {
          packed = record {
            table = ends.table;
            appends = subst (λ b. Appends (contents (device_of writer)) (contents (device_of written)) b)
                stream appended;
            count = ap (λ (r : Report). r.geometries) same ∙ s.count ∙ ap length (sym ends.same);
            bytes = (let more = s.leaves.sends.sent in let total = ap (λ (r : Report). r.bytes) same in
                omega (arith, total, more, none, ap length stream));
            taken = ap (λ (r : Report). r.taken) same ∙ s.taken_is ∙ ap records_of (sym ends.same);
            end = kept_last tt (IsAtEnd (remaining (device_of read))) flushed.1 end all;
            reads = subst (λ f. Changes f (failures_of reader) (failures_of read)) quiet changes;
            writes = subst (λ a. failures_of written ≡ count_failure (is_write a) (failures_of writer)) all writes;
          };
          work_of = subst (λ gs. IsWorkOf gs sent.work) (sym ends.same) ends.work_of;
          point_reads = omega (arith, few_points, ends.work_of.all_points, ends.work_of.point_reads);
          node_reads = omega (arith, few_nodes, ends.work_of.all_nodes, ends.work_of.node_reads);
        }

    -- not the whole table was sent, the flush failed, or a read failed
    pub stopped_packing : (fault : ConvertFault) → report ≡ Err fault
        → StoppedPacking style l remaining contents reader writer fault read written
    stopped_packing fault is =
        let (stops, same) = reports_err sent.geometries (sent_of new)
        (records_with sent.geometries sent.rows) fault finishes.answer (sym is ∙ finishes.reports) in
        let (explains, device) = subst (Tells style l (remaining (device_of reader)) (bytes_given read) sent.work
        s.part.whole s.part.later s.part.front failed flushed.0) stops told in
        record {
          bytes = s.bytes;
          part = s.part;
          one = s.one;
          appends = appended;
          sent = (let more = s.leaves.sends.sent in let total = ap (λ (f : ConvertFault). f.sent) same in
              omega (arith, total, more, none));
          done = ap (λ (f : ConvertFault). f.done) same ∙ s.count;
          taken = ap (λ (f : ConvertFault). f.taken) same ∙ s.taken_is;
          explains = explains;
          devices = record {
            read_failed = failed;
            write_failed = is_write flushed.0;
            reads = changes;
            writes = writes;
            tell = device;
          };
        }

-- ==== A geometry that is a point, sent without a form.

-- ---- the geometry

-- the first row of a geometry is that of a point
own_is : (g : Tree) (p : ℤ) (q : Point) → rows 0 g ≡ point_row p q ∷ [] → own_row None 0 g ≡ point_row p q
own_is (simple r s) p q e = cc e
own_is (collection r ids gs) p q e = cc e

simple_point : (r : ℤ) (s : Simple) (p : ℤ) (q : Point) → own_row None 0 (simple r s) ≡ point_row p q
    → simple r s ≡ one_point p q
simple_point r (point None) p q e = (let none = ap (λ (o : Row). o.points) e in cc none)
simple_point r (point (Some at)) p q e =
    let precision : r ≡ p = (let some = ap (λ (o : Row). o.precision) e in cc some) in
    let place : at ≡ q = (let some = ap (λ (o : Row). o.points) e in cc some) in
    ap (λ (n : ℤ). one_point n at) precision ∙ ap (λ (a : Point). one_point p a) place
simple_point r _ p q e = (let kind = ap (λ (o : Row). o.kind) e in cc kind)

-- a geometry whose only row is that of a point
point_tree : (g : Tree) (p : ℤ) (q : Point) → rows 0 g ≡ point_row p q ∷ [] → g ≡ one_point p q
point_tree (simple r s) p q e = simple_point r s p q (own_is (simple r s) p q e)
point_tree (collection r ids gs) p q e =
    (let kind = ap (λ (o : Row). o.kind) (own_is (collection r ids gs) p q e) in cc kind)

-- ---- its work

-- a point that was measured and not read
point_work : (p : ℤ) (q : Point) (old new : Work) → Measures old 1 1 1 new → AddsWork (one_point p q) old new
point_work p q old new m = record {
  more_points = m.more_points;
  more_nodes = m.more_nodes;
  more_entries = m.more_entries;
  point_reads = (let same = m.same_point_reads in omega (arith, same));
  node_reads = (let same = m.same_node_reads in omega (arith, same));
}

-- ---- its blob

module _ {R : Type 0} {l : Allowance} {remaining : R → Option (List ℕ)} {told : Option (List ℕ)}
    {records : List Record} {given : List Tree} {p : ℤ} {q : Point} {now : Progress R}
    (gives : GivesRows l remaining told records given (point_row p q ∷ []) now) where
  -- the geometry is the point
  is_point : gives.geometry ≡ one_point p q
  is_point = point_tree gives.geometry p q gives.rows

  precise : IsPrecision p
  precise = (subst IsTree is_point gives.valid.tree).0

  -- the point was sent
  pub writes_point : {W : Type 0} {style : Style} {contents : W → Option (List ℕ)}
      {old new : Output W} {before after : Work}
      → (IsPrecision p → Took contents old (canonical_blob style (one_point p q)) new)
      → Measures before 1 1 1 after → WritesBlob style contents gives.geometry old before new after
  writes_point {before = before} {after = after} took measures = rw is_point (record {
    took = took precise;
    work = point_work p q before after measures;
  })

  -- the output refused a prefix of the point's blob
  pub cuts_point : {W : Type 0} {contents : W → Option (List ℕ)} {old new : Output W}
      {fault : OutFault} (style : Style)
      → (IsPrecision p → Cut contents old (canonical_blob style (one_point p q)) fault new)
      → Cut contents old (canonical_blob style gives.geometry) fault new
  cuts_point style cut = rw is_point (cut precise)
