-- What a conversion of a column between two slices says about the bytes written, and the length of its output.
use Rattle.std.specs.Io.KnownBytes.{Appends}
use Rattle.std.specs.Prelude.{Bool, IfSome, IfOk, IfErr, Result, Ok, Err, Option, is_some, ◌≢◌}
use Rattle.std.proofs.Common.{◌≡◌, ◌∙◌, ℕ, ◌≤◌, List, [], ◌++◌, length, take, Some, inl, inr, ap, sym, subst, refl}
use Rattle.std.proofs.Common.{append_assoc}
use Rattle.std.proofs.lemmas.List.{append-nil}
use Rattle.twkb_io.specs.Taps.{device_of}
use Rattle.twkb_io.specs.Inputs.{BeginsWith}
use Rattle.twkb_io.specs.declared.tap.Tap.{Tap}
use Rattle.twkb_csv.specs.Named.{named, text_of}
use Rattle.twkb_csv.specs.declared.column.Column.{Column}
use Rattle.twkb_tree.specs.Tree.{Tree}
use Rattle.twkb_tree.specs.Limits.{Allowance}
use Rattle.twkb_grammar.specs.Written.{canonical_stream}
use Rattle.twkb_grammar.specs.declared.style.Style.{Style}
use Rattle.twkb_engine.specs.Stops.{reason_of}
use Rattle.twkb_table.specs.CsvRecords.{AreRecordsOf}
use Rattle.twkb_table.specs.RowFault.{Named}
use Rattle.twkb_convert.specs.Outputs.{PackTo}
use Rattle.twkb_convert.specs.Parts.{FrontOfText, MayBeWritten, TakesBlobs}
use Rattle.twkb_convert.specs.declared.report.Cause.{Cause}
use Rattle.twkb_convert.specs.declared.report.Cause.TheVariants as cause
use Rattle.twkb_convert.specs.declared.report.Report.{Report}
use Rattle.twkb_convert.proofs.RoundTrips.{one_records, refused_output}
use Rattle.twkb_column.specs.Causes.{cause_of, reason_words, records_taken, refused_as}
use Rattle.twkb_table.specs.declared.reason.RowReason.{RowReason}
use Rattle.twkb_table.specs.declared.reason.RowReason.TheVariants as row
use Rattle.twkb_column.specs.Packing.{NamesText, PackColumnTo, PackedColumn}
use Rattle.twkb_column.specs.Packing as packing
use Rattle.twkb_column.specs.Tables.{Explains}
use Rattle.twkb_column.specs.declared.fault.ColumnCause.{ColumnCause}
use Rattle.twkb_column.specs.declared.fault.ColumnCause.TheVariants as column
use Rattle.twkb_column.specs.declared.fault.ColumnFault.{ColumnFault}
use Rattle.twkb_column.specs.declared.fault.ColumnReason.{ColumnReason}
use Rattle.twkb_column.specs.declared.fault.ColumnReason.TheVariants as csv
use Rattle.twkb_column.proofs.CsvLemmas.{text_back}
use Rattle.twkb_rest.specs.declared.fault.LineReason.{LineReason}
use Rattle.twkb_rest.specs.declared.fault.LineReason.TheVariants as line
use Rattle.twkb_rest.specs.Columns.{AreLines, LineStream, column_text}
use Rattle.twkb_rest.specs.Unpacked.{ExplainsUnpackCause, UnpackedColumn, line_words}
use Rattle.twkb_rest.specs.Unpacked as unpacking
use Rattle.twkb_rest.specs.declared.fault.UnpackCause.{UnpackCause}
use Rattle.twkb_rest.specs.declared.fault.UnpackCause.TheVariants as lines
use Rattle.twkb_rest.specs.declared.fault.UnpackFault.{UnpackFault}
use Rattle.twkb_buffer.specs.ColumnCalls.{FillsFront, refused_length, whole_length_of}
use Rattle.twkb_buffer.specs.ColumnJobs.{ColumnOutputs, JobAnswers, PackedCsv, PackedCsvFront, RunsColumn}
use Rattle.twkb_buffer.specs.ColumnJobs.{column_outputs, packed_csv}
use Rattle.twkb_buffer.specs.ColumnJobs.{as_packed, as_unpacked, unpacked_csv}
use Rattle.twkb_buffer.specs.ColumnNumbers.{column_number_of, line_number_of}
use Rattle.twkb_buffer.specs.Texts.{other_words}
use Rattle.twkb_buffer.specs.declared.column_job.ColumnConversion.{ColumnConversion}
use Rattle.twkb_buffer.specs.declared.column_job.ColumnConversion.TheVariants as conversion
use Rattle.twkb_buffer.specs.declared.column_job.JobCause.{JobCause}
use Rattle.twkb_buffer.specs.declared.column_job.JobCause.TheVariants as job
use Rattle.twkb_buffer.specs.declared.column_job.JobFault.{JobFault}
use Rattle.twkb_buffer.proofs.RunLemmas.{at_start}

-- ==== What a run between a reader and a writer says about the bytes read and written.

-- These bytes were written after those that the writer held, and agree with the answer.
pub record WroteColumn {W : Type 0} (outputs : ColumnOutputs) (contents : W → Option (List ℕ)) (writer written : Tap W)
    (answer : Result Report JobFault) : Type 0 where
  pub bytes : List ℕ
  pub appends : Appends (contents (device_of writer)) (contents (device_of written)) bytes
  pub agrees : JobAnswers outputs bytes answer

-- the bytes taken are the first of all bytes
takes_of : (l : Allowance) (whole : List Tree) (stream bytes : List ℕ) (taken : ℕ) → BeginsWith (Some stream) bytes
    → TakesBlobs (LineStream l) bytes whole taken → TakesBlobs (LineStream l) stream whole taken
takes_of l whole stream bytes taken (more, is) takes = record {
  front = takes.front;
  rest = takes.rest ++ more;
  cut = is ∙ ap (λ (bs : List ℕ). bs ++ more) takes.cut ∙ append_assoc takes.front takes.rest more;
  blobs = takes.blobs;
  taken_is = takes.taken_is;
}

module _ {R W : Type 0} (column : Column) (l : Allowance) (input : List ℕ) (remaining : R → Option (List ℕ))
    (contents : W → Option (List ℕ)) (reader : Tap R) (writer : Tap W) (read : Tap R) (written : Tap W)
    (told : remaining (device_of reader) ≡ Some input) where
  -- the text of the table that the CSV names is known
  names_in : (text : Option (List ℕ)) → NamesText column (remaining (device_of reader)) text
      → (t : List ℕ) × (text ≡ Some t) × NamesText column (Some input) (Some t)
  names_in text names =
      let n = subst (λ (o : Option (List ℕ)). NamesText column o text) told names in
      (text_of (named column n.0), n.2, (n.0, n.1, refl))

  packed : (style : Style) (report : Report)
      → PackedColumn style l column remaining contents reader writer report read written
      → WroteColumn (packed_csv style column l input) contents writer written (Ok report)
  packed style report p =
      let n = names_in p.text p.names in
      let table = p.packed.table in
      record {
        bytes = canonical_stream style table.geometries;
        appends = p.packed.appends;
        agrees = (
          record {
            text = n.0;
            names = n.2;
            records = p.records;
            packed = record {
              whole = record {
                records = table.records;
                geometries = table.geometries;
                all = subst (λ (o : Option (List ℕ)). IfSome o (λ text. AreRecordsOf text table.records)) n.1 table.all;
                few = table.few;
                named = table.named;
              };
              written_is = refl;
              done_is = p.packed.count;
              taken_is = p.packed.taken;
            };
            taken_is = p.taken;
          },
          p.packed.bytes,
        );
      }

  packed_front : (style : Style) (fault : ColumnFault)
      → packing.StoppedColumn style l column remaining contents reader writer fault read written
      → WroteColumn (packed_csv style column l input) contents writer written (as_packed (Err fault))
  packed_front style fault p =
      let n = names_in p.text p.names in
      let stop = p.stopped in
      let part = stop.part in
      record {
        bytes = stop.bytes;
        appends = stop.appends;
        agrees = (
          record {
            text = n.0;
            names = n.2;
            part = record {
              whole = part.whole;
              later = part.later;
              front = part.front;
              rest = part.rest;
              ready = subst (λ (o : Option (List ℕ)). MayBeWritten l o (part.whole ++ part.later)) n.1 part.ready;
              cut = part.cut;
              bytes = part.bytes;
            };
            one = stop.one;
            done_is = stop.done_is;
            taken_is = p.taken ∙ ap (records_taken (is_some column.ids)) stop.taken_is;
            own = p.why;
            told = ap job.Pack p.told;
            explains = subst (λ (o : Option (List ℕ)). Explains style l o p.why part.whole part.later part.front) n.1
                stop.explains;
          },
          stop.sent_is,
        );
      }

  packs_own : (style : Style) (own : Result Report ColumnFault)
      → IfOk own (λ report. PackedColumn style l column remaining contents reader writer report read written)
      → IfErr own (λ fault. packing.StoppedColumn style l column remaining contents reader writer fault read written)
      → WroteColumn (packed_csv style column l input) contents writer written (as_packed own)
  packs_own style (Ok report) ok err = packed style report ok
  packs_own style (Err fault) ok err = packed_front style fault err

  unpacked : (report : Report)
      → UnpackedColumn column.delimiter column.name.now l remaining contents reader writer report read written
      → WroteColumn (unpacked_csv column l input) contents writer written (Ok report)
  unpacked report p = record {
    bytes = column_text column.delimiter column.name.now p.found;
    appends = p.appends;
    agrees = (
      record {
        found = p.found;
        stream_is = subst (λ (o : Option (List ℕ)). IfSome o (λ bytes. LineStream l bytes p.found)) told p.stream;
        written_is = refl;
        done_is = p.geometries;
        taken_is = subst (λ (o : Option (List ℕ)). IfSome o (λ bytes. report.taken ≡ length bytes)) told p.taken;
      },
      p.bytes,
    );
  }

  unpacked_front : (fault : UnpackFault)
      → unpacking.StoppedColumn column.delimiter column.name.now l remaining contents reader writer fault read written
      → WroteColumn (unpacked_csv column l input) contents writer written (as_unpacked (Err fault))
  unpacked_front fault p =
      let part = p.part in
      let begins = subst (λ (o : Option (List ℕ)). BeginsWith o part.bytes) told part.begins in
      record {
        bytes = p.text;
        appends = p.appends;
        agrees = (
          record {
            part = record {
              whole = part.whole;
              later = part.later;
              bytes = part.bytes;
              left = part.left;
              blobs = part.blobs;
              begins = begins;
              cut = part.cut;
              one = part.one;
              holds = part.holds;
            };
            done_is = p.done;
            takes = takes_of l part.whole input part.bytes fault.taken begins p.taken;
            left = remaining (device_of read);
            own = fault.cause;
            told = refl;
            explains = subst (λ (o : Option (List ℕ)). ExplainsUnpackCause
                (column_text column.delimiter column.name.now) l o (remaining (device_of read)) part.bytes p.text
                fault.cause part.whole part.later part.left) told p.explains;
          },
          p.sent,
        );
      }

  unpacks_own : (own : Result Report UnpackFault)
      → IfOk own (λ report. UnpackedColumn column.delimiter column.name.now l remaining contents reader writer report
      read written)
      → IfErr own (λ fault. unpacking.StoppedColumn column.delimiter column.name.now l remaining contents reader writer
      fault read written)
      → WroteColumn (unpacked_csv column l input) contents writer written (as_unpacked own)
  unpacks_own (Ok report) ok err = unpacked report ok
  unpacks_own (Err fault) ok err = unpacked_front fault err

  pub ran_column : (what : ColumnConversion) (answer : Result Report JobFault)
      → RunsColumn what column l remaining contents reader writer read written answer
      → WroteColumn (column_outputs what column l input) contents writer written answer
  ran_column (conversion.Pack style) answer p =
      subst (λ (a : Result Report JobFault). WroteColumn (packed_csv style column l input) contents writer written a)
      (sym p.same) (packs_own style p.own p.ok p.err)
  ran_column conversion.Unpack answer p =
      subst (λ (a : Result Report JobFault). WroteColumn (unpacked_csv column l input) contents writer written a)
      (sym p.same) (unpacks_own p.own p.ok p.err)

-- the start of a slice is the bytes written
pub fills_front : (outputs : ColumnOutputs) (answer : Result Report JobFault) (bytes slice : List ℕ)
    → JobAnswers outputs bytes answer → length bytes ≤ length slice → take (length bytes) slice ≡ bytes
    → FillsFront outputs slice answer
fills_front outputs (Ok report) bytes slice agrees within front = record {
  fits = rw agrees.1 within;
  agrees = at_start (λ written. outputs.IsWhole written report.geometries report.taken) report.bytes bytes slice
      agrees.1 front agrees.0;
}
fills_front outputs (Err fault) bytes slice agrees within front = record {
  fits = rw agrees.1 within;
  agrees = at_start (λ written. outputs.IsFront written fault.done fault.taken fault.cause) fault.sent bytes slice
      agrees.1 front agrees.0;
}

-- ==== The length of the whole output.

-- the refusal of a row is that of a record of the CSV
row_length : (has_ids : Bool) (number : ℕ) (reason : RowReason) (sent : ℕ)
    → refused_length (job.Pack (refused_as has_ids number reason)) sent ≡ sent
row_length has_ids number row.BadHeader sent = refl
row_length has_ids number _ sent = refl

module _ (style : Style) (column : Column) (l : Allowance) (csv written : List ℕ) (done taken : ℕ) where
  -- the output of a whole CSV has its length
  packed_length : (n : ℕ) → PackedCsv style column l csv written done taken → n ≡ length written
      → (packed_csv style column l csv).HasLength n
  packed_length n p e =
      let whole = p.packed.whole in
      let same = one_records p.text whole.records (named column p.names.0) whole.all
      (text_back column csv p.text p.names.0 p.names.1 p.names) in (
        written,
        (
          p.names.0,
          p.names.1,
          inl (whole.geometries, subst (λ rs. Named l rs whole.geometries) same whole.named, p.packed.written_is),
        ),
        e,
      )

  -- the output of a CSV that is refused has its length
  refused_csv : (n : ℕ) (why : JobCause) (p : PackedCsvFront style column l csv written done taken why)
      (number : ℕ) → (reason : RowReason) → p.own ≡ cause.Row number reason → n ≡ length written
      → (packed_csv style column l csv).HasLength n
  refused_csv n why p number reason is e =
      let part = p.part in
      let explains = subst (λ (own : Cause). Explains style l (Some p.text) own part.whole part.later part.front) is
      p.explains in
      let whole : written ≡ canonical_stream style part.whole = part.bytes
      ∙ (ap (λ front. canonical_stream style part.whole ++ front) explains.1
      ∙ append-nil (canonical_stream style part.whole)) in (
        written,
        (
          p.names.0,
          p.names.1,
          subst (PackTo style l (named column p.names.0)) (sym whole) (refused_output style l p.text
              (named column p.names.0) number reason part.whole
              (text_back column csv p.text p.names.0 p.names.1 p.names, explains.2)),
        ),
        e,
      )

  -- the output of a CSV that is refused has the length that its cause tells
  front_by : (n sent : ℕ) (why : JobCause) (p : PackedCsvFront style column l csv written done taken why) (own : Cause)
      → p.own ≡ own → sent ≡ length written → n ≡ refused_length (job.Pack (cause_of (is_some column.ids) own)) sent
      → n ≢ 0 → (packed_csv style column l csv).HasLength n
  front_by n sent why p (cause.Row number reason) is count e some =
      refused_csv n why p number reason is (e ∙ row_length (is_some column.ids) number reason sent ∙ count)
  front_by n sent why p _ is count e some = absurd (some e)

  packed_front_length : (n sent : ℕ) (why : JobCause) → PackedCsvFront style column l csv written done taken why
      → sent ≡ length written → n ≡ refused_length why sent → n ≢ 0 → (packed_csv style column l csv).HasLength n
  packed_front_length n sent why p count e some =
      front_by n sent why p p.own refl count (e ∙ ap (λ w. refused_length w sent) p.told) some

-- no record is left, so all those of the first blobs were written
all_records : (text_of : List Tree → List ℕ) (whole later : List Tree) (written left : List ℕ)
    → text_of (whole ++ later) ≡ written ++ left → later ≡ [] → left ≡ [] → written ≡ text_of whole
all_records text_of whole later written left cut no_later none =
    sym (append-nil written) ∙ (ap (λ (bytes : List ℕ). written ++ bytes) (sym none)
    ∙ (sym cut ∙ (ap (λ more. text_of (whole ++ more)) no_later ∙ ap text_of (append-nil whole))))

-- the text of a stream that is refused has the length that its cause tells
lines_length : (column : Column) (l : Allowance) (stream written : List ℕ) (left : Option (List ℕ)) (n sent : ℕ)
    (part : FrontOfText (LineStream l) (column_text column.delimiter column.name.now) (Some stream) written)
    (own : UnpackCause) → ExplainsUnpackCause (column_text column.delimiter column.name.now) l (Some stream) left
    part.bytes written own part.whole part.later part.left → sent ≡ length written
    → n ≡ refused_length (job.Unpack own) sent → n ≢ 0 → (unpacked_csv column l stream).HasLength n
lines_length column l stream written left n sent part (lines.Line offset why) explains count e some =
    let text = all_records (column_text column.delimiter column.name.now) part.whole part.later written part.left
    part.cut explains.0 explains.1 in
    (written, (part.whole, inr (inr (offset, why, explains.2)), text), e ∙ count)
lines_length column l stream written left n sent part (lines.Stream (cause.Blob offset reason)) explains count e some =
    let text = all_records (column_text column.delimiter column.name.now) part.whole part.later written part.left
    part.cut explains.0 explains.1 in
    let whole : part.whole ++ part.later ≡ part.whole = ap (λ later. part.whole ++ later) explains.0
    ∙ append-nil part.whole in
    let are : AreLines part.whole = subst AreLines whole part.blobs.1 in
    (written, (part.whole, inr (inl (are, (offset, reason_of reason, explains.2))), text), e ∙ count)
lines_length column l stream written left n sent part _ explains count e some = absurd (some e)

-- the length that an answer counts as the whole output is that length
pub known_length : (what : ColumnConversion) (column : Column) (l : Allowance) (input written : List ℕ)
    (answer : Result Report JobFault) (n : ℕ) → JobAnswers (column_outputs what column l input) written answer
    → n ≡ whole_length_of answer → n ≢ 0 → (column_outputs what column l input).HasLength n
known_length (conversion.Pack style) column l input written (Ok report) n agrees e some =
    packed_length style column l input written report.geometries report.taken n agrees.0 (e ∙ agrees.1)
known_length (conversion.Pack style) column l input written (Err fault) n agrees e some =
    packed_front_length style column l input written fault.done fault.taken n fault.sent fault.cause agrees.0 agrees.1
    e some
known_length conversion.Unpack column l input written (Ok report) n agrees e some = (
  written,
  (agrees.0.found, inl agrees.0.stream_is, agrees.0.written_is),
  e ∙ agrees.1,
)
known_length conversion.Unpack column l input written (Err fault) n agrees e some =
    let p = agrees.0 in
    lines_length column l input written p.left n fault.sent p.part p.own p.explains agrees.1
    (e ∙ ap (λ w. refused_length w fault.sent) p.told) some

-- ==== The words of reasons, by their numbers.

pub csv_texts : (reason : ColumnReason) → other_words (column_number_of reason) ≡ reason_words reason
csv_texts csv.NoSuchColumn = refl
csv_texts csv.ColumnTwice = refl
csv_texts csv.FieldCount = refl
csv_texts csv.MissingValue = refl

pub line_texts : (reason : LineReason) → other_words (line_number_of reason) ≡ line_words reason
line_texts line.NoLinestring = refl
line_texts line.AnotherPrecision = refl
