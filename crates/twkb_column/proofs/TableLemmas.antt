-- The results of packing a table, of reading to the end after it, and of packing a column.
use Rattle.std.proofs.Common.{◌≡◌, ◌∙◌, sym, ap, refl, subst, ℕ, Bool, true, false, List, [], ◌++◌, Option, Some, None}
use Rattle.std.proofs.Common.{Result, Ok, Err, inl, inr}
use Rattle.std.proofs.lemmas.List.{append-nil}
use Rattle.std.specs.Prelude.{IfOk, IfErr, IfSome, ◌⊎◌, is_some}
use Rattle.twkb_io.specs.declared.tap.Tap.{Tap}
use Rattle.twkb_io.specs.Taps.{count_failure, device_of, failures_of}
use Rattle.twkb_csv.specs.declared.column.Column.{Column}
use Rattle.twkb_tree.specs.Tree.{Tree}
use Rattle.twkb_tree.specs.Limits.{Allowance}
use Rattle.twkb_grammar.specs.Written.{canonical_stream}
use Rattle.twkb_grammar.specs.declared.style.Style.{Style}
use Rattle.twkb_table.specs.Record.{Record}
use Rattle.twkb_table.specs.CsvRecords.{AreRecordsOf, BeginWith}
use Rattle.twkb_table.proofs.TableSteps.{names_so_far}
use Rattle.twkb_convert.specs.Causes.{Changes, IsDeviceCause, cause_after, is_write}
use Rattle.twkb_convert.specs.Packed.{ExplainsPackingCause, Packed, StoppedPacking}
use Rattle.twkb_convert.specs.Parts.{MayBeWritten, WholeTable}
use Rattle.twkb_convert.specs.declared.report.Cause.{Cause}
use Rattle.twkb_convert.specs.declared.report.Cause.TheVariants as cause
use Rattle.twkb_convert.specs.declared.report.ConvertFault.{ConvertFault}
use Rattle.twkb_convert.specs.declared.report.Report.{Report}
use Rattle.twkb_column.specs.Causes.{fault_after, told}
use Rattle.twkb_column.specs.Packing.{NamesText, PackedColumn, StoppedColumn}
use Rattle.twkb_column.specs.Tables.{EndsReading, Explains, PackedTable, PacksTable, StoppedTable, stopped_with}

-- ==== Packing a table.

-- the cause says as much, or less
less_explained : (style : Style) (l : Allowance) (text : Option (List ℕ)) (given : ℕ) (why : Cause)
    (whole later : List Tree) (front : List ℕ) → ExplainsPackingCause style l text given why whole later front
    → Explains style l text why whole later front
less_explained style l text given (cause.Row number reason) whole later front e = e
less_explained style l text given (cause.Blob offset reason) whole later front e = e
less_explained style l text given cause.ReadDevice whole later front e = e
less_explained style l text given cause.WriteDevice whole later front e = e
less_explained style l text given cause.Memory whole later front e = inl e
less_explained style l text given cause.TooLong whole later front (inl long) = inl long
less_explained style l text given cause.TooLong whole later front (inr (a, b, c, d)) = inr (a, b, c)
less_explained style l text given cause.TooManyRecords whole later front e = e

-- a write failed exactly if that is the cause
write_told : (read write : Bool) (why : Cause) → IsDeviceCause read write why
    → is_write {A = Report} (Err why) ≡ write
write_told read true why e = rw e refl
write_told true false why e = rw e refl
write_told false false (cause.Row number reason) e = refl
write_told false false (cause.Blob offset reason) e = refl
write_told false false cause.ReadDevice e = refl
write_told false false cause.WriteDevice e = absurd (e.1 refl)
write_told false false cause.Memory e = refl
write_told false false cause.TooLong e = refl
write_told false false cause.TooManyRecords e = refl

module _ {R W : Type 0} (style : Style) (l : Allowance) (remaining : R → Option (List ℕ))
    (contents : W → Option (List ℕ)) (reader read : Tap R) (writer written : Tap W) where
  pub packs_table : (answer : Result Report ConvertFault)
      → IfOk answer (λ report. Packed style l remaining contents reader writer report read written)
      → IfErr answer (λ fault. StoppedPacking style l remaining contents reader writer fault read written)
      → PacksTable style l (remaining (device_of reader)) contents writer written answer
  packs_table (Ok report) p err = record {
    table = p.table;
    appends = p.appends;
    count = p.count;
    bytes = p.bytes;
    taken = p.taken;
    writes = p.writes;
  }
  packs_table (Err fault) ok s = record {
    bytes = s.bytes;
    part = s.part;
    one = s.one;
    appends = s.appends;
    sent_is = s.sent;
    done_is = s.done;
    taken_is = s.taken;
    explains = less_explained style l _ _ fault.cause _ _ _ s.explains;
    writes = s.devices.writes ∙ ap (λ (b : Bool). count_failure b (failures_of writer))
        (sym (write_told s.devices.read_failed s.devices.write_failed fault.cause s.devices.tell));
  }

-- ==== Reading to the end.

-- all records are the first records
all_begin : (text : Option (List ℕ)) (records : List Record) → IfSome text (λ bytes. AreRecordsOf bytes records)
    → IfSome text (λ bytes. BeginWith bytes records)
all_begin None records all = tt
all_begin (Some bytes) records all = (all.0, all.1, all.2)

-- all geometries of a table may be written
may_whole : (l : Allowance) (text : Option (List ℕ)) (table : WholeTable l text)
    → MayBeWritten l text (table.geometries ++ [])
may_whole l text table =
    subst (λ (gs : List Tree). MayBeWritten l text gs) (sym (append-nil table.geometries)) (record {
      records = table.records;
      geometries = table.geometries;
      begins = all_begin text table.records table.all;
      named = names_so_far l table.records table.geometries table.named;
      ready = inr (table.all, refl);
    })

-- a read failed, or gave too many bytes
end_explained : (style : Style) (l : Allowance) (text : Option (List ℕ)) (table : WholeTable l text) (why : Cause)
    → (why ≡ cause.ReadDevice) ⊎ (why ≡ cause.TooLong) → Explains style l text why table.geometries [] []
end_explained style l text table why (inl e) = rw e (inl (refl, refl))
end_explained style l text table why (inr e) = rw e (inr (refl, refl, (table.records, table.all, table.named)))

no_write : (why : Cause) → (why ≡ cause.ReadDevice) ⊎ (why ≡ cause.TooLong) → is_write {A = Report} (Err why) ≡ false
no_write why (inl e) = rw e refl
no_write why (inr e) = rw e refl

module _ {W : Type 0} (style : Style) (l : Allowance) (text : Option (List ℕ)) (contents : W → Option (List ℕ))
    (writer written : Tap W) where
  -- the whole table was written, and then the end was not reached
  whole_stopped : (report : Report) (why : Cause) → (why ≡ cause.ReadDevice) ⊎ (why ≡ cause.TooLong)
      → PackedTable style l text contents writer report written
      → StoppedTable style l text contents writer report.geometries report.bytes report.taken why written
  whole_stopped report why is p = record {
    bytes = canonical_stream style p.table.geometries;
    part = record {
      whole = p.table.geometries;
      later = [];
      front = [];
      rest = [];
      ready = may_whole l text p.table;
      cut = refl;
      bytes = sym (append-nil (canonical_stream style p.table.geometries));
    };
    one = inl refl;
    appends = p.appends;
    sent_is = p.bytes;
    done_is = p.count;
    taken_is = p.taken;
    explains = end_explained style l text p.table why is;
    writes = p.writes ∙ ap (λ (b : Bool). count_failure b (failures_of writer)) (sym (no_write why is));
  }

  pub ends_table : (left : Option (List ℕ)) (packed ended : Result Report ConvertFault)
      → PacksTable style l text contents writer written packed → EndsReading left packed ended
      → PacksTable style l text contents writer written ended
  ends_table left (Ok report) (Ok again) p e =
      subst (λ (r : Report). PackedTable style l text contents writer r written) (sym e.0) p
  ends_table left (Ok report) (Err fault) p (why, is, e) =
      subst (λ (f : ConvertFault). PacksTable style l text contents writer written (Err f)) (sym e)
      (whole_stopped report why is p)
  ends_table left (Err fault) ended p e =
      subst (λ (r : Result Report ConvertFault). PacksTable style l text contents writer written r) (sym e) p

-- ==== The cause, once it is known whether a read failed.

after_explained : (style : Style) (l : Allowance) (text : Option (List ℕ)) (failed : Bool) (why : Cause)
    (whole later : List Tree) (front : List ℕ) → Explains style l text why whole later front
    → Explains style l text (cause_after failed why) whole later front
after_explained style l text failed cause.WriteDevice whole later front e = e
after_explained style l text true (cause.Row number reason) whole later front (a, b, c) = inl (a, b)
after_explained style l text true (cause.Blob offset reason) whole later front e = absurd e
after_explained style l text true cause.ReadDevice whole later front e = e
after_explained style l text true cause.Memory whole later front e = e
after_explained style l text true cause.TooLong whole later front (inl long) = inr long
after_explained style l text true cause.TooLong whole later front (inr (a, b, c)) = inl (a, b)
after_explained style l text true cause.TooManyRecords whole later front (a, b, c) = inl (a, b)
after_explained style l text false (cause.Row number reason) whole later front e = e
after_explained style l text false (cause.Blob offset reason) whole later front e = e
after_explained style l text false cause.ReadDevice whole later front e = e
after_explained style l text false cause.Memory whole later front e = e
after_explained style l text false cause.TooLong whole later front e = e
after_explained style l text false cause.TooManyRecords whole later front e = e

-- a failed write stays the cause, and nothing becomes one
after_write : (failed : Bool) (why : Cause)
    → is_write {A = Report} (Err (cause_after failed why)) ≡ is_write {A = Report} (Err why)
after_write failed cause.WriteDevice = refl
after_write true (cause.Row number reason) = refl
after_write true (cause.Blob offset reason) = refl
after_write true cause.ReadDevice = refl
after_write true cause.Memory = refl
after_write true cause.TooLong = refl
after_write true cause.TooManyRecords = refl
after_write false (cause.Row number reason) = refl
after_write false (cause.Blob offset reason) = refl
after_write false cause.ReadDevice = refl
after_write false cause.Memory = refl
after_write false cause.TooLong = refl
after_write false cause.TooManyRecords = refl

-- the cause agrees with the devices
after_told : (failed : Bool) (why : Cause)
    → IsDeviceCause failed (is_write {A = Report} (Err why)) (cause_after failed why)
after_told failed cause.WriteDevice = refl
after_told true (cause.Row number reason) = refl
after_told true (cause.Blob offset reason) = refl
after_told true cause.ReadDevice = refl
after_told true cause.Memory = refl
after_told true cause.TooLong = refl
after_told true cause.TooManyRecords = refl
after_told false (cause.Row number reason) = (λ e. cc e, λ e. cc e)
after_told false (cause.Blob offset reason) = (λ e. cc e, λ e. cc e)
after_told false cause.ReadDevice = (λ e. cc e, λ e. cc e)
after_told false cause.Memory = (λ e. cc e, λ e. cc e)
after_told false cause.TooLong = (λ e. cc e, λ e. cc e)
after_told false cause.TooManyRecords = (λ e. cc e, λ e. cc e)

-- ==== Packing a column.

module _ {R W : Type 0} (style : Style) (l : Allowance) (column : Column) (remaining : R → Option (List ℕ))
    (contents : W → Option (List ℕ)) (reader read : Tap R) (writer written : Tap W) (text : Option (List ℕ))
    (names : NamesText column (remaining (device_of reader)) text)
  where
    -- a stop of the table is one of the column
    stop_told : (failed : Bool) (fault : ConvertFault) → Changes failed (failures_of reader) (failures_of read)
        → StoppedTable style l text contents writer fault.done fault.sent fault.taken fault.cause written
        → StoppedColumn style l column remaining contents reader writer (fault_after (is_some column.ids) failed fault)
        read written
    stop_told failed fault changes s = record {
      text = text;
      names = names;
      why = cause_after failed fault.cause;
      told = refl;
      records = fault.taken;
      stopped = record {
        bytes = s.bytes;
        part = s.part;
        one = s.one;
        appends = s.appends;
        sent_is = s.sent_is;
        done_is = s.done_is;
        taken_is = s.taken_is;
        explains = after_explained style l text failed fault.cause _ _ _ s.explains;
        writes = s.writes ∙ ap (λ (b : Bool). count_failure b (failures_of writer))
            (sym (after_write failed fault.cause));
      };
      taken = refl;
      devices = record {
        read_failed = failed;
        write_failed = is_write {A = Report} (Err fault.cause);
        reads = changes;
        writes = s.writes;
        tell = after_told failed fault.cause;
      };
    }

    pub stopped_column : (failed : Bool) (ended : Result Report ConvertFault)
        → Changes failed (failures_of reader) (failures_of read)
        → PacksTable style l text contents writer written ended
        → IfErr (told (is_some column.ids) failed ended) (λ fault. StoppedColumn style l column remaining contents
        reader writer fault read written)
    stopped_column true (Ok report) changes p = stop_told true (stopped_with report cause.ReadDevice) changes
        (whole_stopped style l text contents writer written report cause.ReadDevice (inl refl) p)
    stopped_column false (Ok report) changes p = tt
    stopped_column true (Err fault) changes s = stop_told true fault changes s
    stopped_column false (Err fault) changes s = stop_told false fault changes s

    pub packed_column : (failed : Bool) (packed ended : Result Report ConvertFault)
        → Changes failed (failures_of reader) (failures_of read)
        → PacksTable style l text contents writer written ended
        → EndsReading (remaining (device_of read)) packed ended
        → IfOk (told (is_some column.ids) failed ended) (λ report. PackedColumn style l column remaining contents
        reader writer report read written)
    packed_column true packed (Ok report) changes p e = tt
    packed_column false (Ok first) (Ok report) changes p e = record {
      text = text;
      names = names;
      records = report.taken;
      packed = p;
      taken = refl;
      end = e.1;
      reads = changes;
    }
    packed_column false (Err fault) (Ok report) changes p e = absurd (cc e)
    packed_column true packed (Err fault) changes p e = tt
    packed_column false packed (Err fault) changes p e = tt
