-- What a run of a conversion says about the bytes written, and the length of its whole output.
use Rattle.std.specs.Io.KnownBytes.{Appends}
use Rattle.std.specs.Prelude.{IfSome, Result, Ok, Err, Option, option_map, slice_get}
use Rattle.std.proofs.Common.{◌≡◌, ◌∙◌, ℕ, List, [], ◌++◌, length, Some, inl, inr, ap, sym, subst, refl, append_assoc}
use Rattle.std.proofs.lemmas.List.{append-nil}
use Rattle.std.proofs.lemmas.Option.{slice_get-map}
use Rattle.twkb_io.specs.Taps.{bytes_given, device_of}
use Rattle.twkb_io.specs.Inputs.{BeginsWith}
use Rattle.twkb_io.specs.declared.tap.Tap.{Tap}
use Rattle.twkb_tree.specs.Limits.{Allowance}
use Rattle.twkb_tree.specs.Tree.{Tree}
use Rattle.twkb_grammar.specs.Written.{canonical_stream}
use Rattle.twkb_grammar.specs.declared.style.Style.{Style}
use Rattle.twkb_grammar.specs.Items.{Stream}
use Rattle.twkb_engine.specs.Stops.{reason_of}
use Rattle.twkb_engine.specs.declared.blob_reason.BlobReason.{BlobReason}
use Rattle.twkb_blob.specs.declared.spans.Located.{Located}
use Rattle.twkb_table.specs.CsvRecords.{AreRecordsOf}
use Rattle.twkb_table.specs.RowFault.{Named}
use Rattle.twkb_conversions.specs.Conversions.{Answers, Converts, IsRefusal, ListsBlobs, Outputs, Packs, listed_outputs}
use Rattle.twkb_conversions.specs.Conversions.{ListedFront, conversion_at, in_style, located_outputs, outputs_of}
use Rattle.twkb_conversions.specs.Conversions.{packed_outputs, tree_outputs}
use Rattle.twkb_convert.specs.Listed.{ExplainsListingCause, Listed, StoppedListing}
use Rattle.twkb_convert.specs.Listings.{ListTo, LocatedStream, geometries_of, headers_bytes, lines_text}
use Rattle.twkb_convert.specs.Outputs.{PackTo, TextTo, geojson_text, table_text}
use Rattle.twkb_convert.specs.Packed.{ExplainsPackingCause, Packed, StoppedPacking}
use Rattle.twkb_convert.specs.Parts.{MayBeWritten, TakesBlobs}
use Rattle.twkb_conversions.specs.declared.conversion.Conversion.{Conversion}
use Rattle.twkb_conversions.specs.declared.conversion.Conversion.TheVariants as conversion
use Rattle.twkb_conversions.specs.declared.conversion.TheConstants.{CONVERSIONS}
use Rattle.twkb_convert.specs.declared.report.Cause.{Cause}
use Rattle.twkb_convert.specs.declared.report.Cause.TheVariants as cause
use Rattle.twkb_convert.specs.declared.report.ConvertFault.{ConvertFault}
use Rattle.twkb_convert.specs.declared.report.Report.{Report}
use Rattle.twkb_convert.proofs.RoundTrips.{refused_output, one_records}

-- ==== A conversion by its number.

-- the place of a conversion in the table is its number
pub place_is_number : (style : Style) (number : ℕ)
    → option_map (in_style style) (slice_get CONVERSIONS number) ≡ conversion_at style number
place_is_number style number = sym (slice_get-map (in_style style) CONVERSIONS number)

-- ==== What a run between a reader and a writer says about the bytes read and written.

-- These bytes were written after those that the writer held, and agree with the answer.
pub record Wrote {W : Type 0} (outputs : Outputs) (contents : W → Option (List ℕ)) (writer written : Tap W)
    (answer : Result Report ConvertFault) : Type 0 where
  pub bytes : List ℕ
  pub appends : Appends (contents (device_of writer)) (contents (device_of written)) bytes
  pub agrees : Answers outputs bytes answer

-- the bytes taken are the first of all bytes
takes_of : {A : Type 0} (AreBlobs : List ℕ → List A → Type 0) (whole : List A) (stream bytes : List ℕ) (taken : ℕ)
    → BeginsWith (Some stream) bytes → TakesBlobs AreBlobs bytes whole taken → TakesBlobs AreBlobs stream whole taken
takes_of AreBlobs whole stream bytes taken (more, is) takes = record {
  front = takes.front;
  rest = takes.rest ++ more;
  cut = is ∙ ap (λ (bs : List ℕ). bs ++ more) takes.cut ∙ append_assoc takes.front takes.rest more;
  blobs = takes.blobs;
  taken_is = takes.taken_is;
}

module _ {R W : Type 0} (l : Allowance) (input : List ℕ) (remaining : R → Option (List ℕ))
    (contents : W → Option (List ℕ))
    (reader : Tap R) (writer : Tap W) (read : Tap R) (written : Tap W)
    (told : remaining (device_of reader) ≡ Some input) where
  packed : (style : Style) (report : Report) → Packed style l remaining contents reader writer report read written
      → Wrote (packed_outputs style l input) contents writer written (Ok report)
  packed style report p = record {
    bytes = canonical_stream style p.table.geometries;
    appends = p.appends;
    agrees = (
      record {
        whole = record {
          records = p.table.records;
          geometries = p.table.geometries;
          all = subst (λ (o : Option (List ℕ)). IfSome o (λ text. AreRecordsOf text p.table.records)) told p.table.all;
          few = p.table.few;
          named = p.table.named;
        };
        written_is = refl;
        done_is = p.count;
        taken_is = p.taken;
      },
      p.bytes,
    );
  }

  packed_front : (style : Style) (fault : ConvertFault)
      → StoppedPacking style l remaining contents reader writer fault read written
      → Wrote (packed_outputs style l input) contents writer written (Err fault)
  packed_front style fault p = record {
    bytes = p.bytes;
    appends = p.appends;
    agrees = (
      record {
        part = record {
          whole = p.part.whole;
          later = p.part.later;
          front = p.part.front;
          rest = p.part.rest;
          ready = subst (λ (o : Option (List ℕ)). MayBeWritten l o (p.part.whole ++ p.part.later)) told p.part.ready;
          cut = p.part.cut;
          bytes = p.part.bytes;
        };
        one = p.one;
        done_is = p.done;
        taken_is = p.taken;
        given = bytes_given read;
        explains = subst (λ (o : Option (List ℕ)). ExplainsPackingCause style l o (bytes_given read)
            fault.cause p.part.whole p.part.later p.part.front) told p.explains;
      },
      p.sent,
    );
  }

  listed : {A : Type 0} (AreBlobs : List ℕ → List A → Type 0) (trees_of : List A → List Tree)
      (text_of : List A → List ℕ) (ListTo : Allowance → List ℕ → List ℕ → Type 0) (report : Report)
      → Listed AreBlobs text_of remaining contents reader writer report read written
      → Wrote (listed_outputs AreBlobs trees_of text_of ListTo l input) contents writer written (Ok report)
  listed AreBlobs trees_of text_of ListTo report p = record {
    bytes = text_of p.found;
    appends = p.appends;
    agrees = (
      record {
        found = p.found;
        stream_is = subst (λ (o : Option (List ℕ)). IfSome o (λ bytes. AreBlobs bytes p.found)) told p.stream;
        written_is = refl;
        done_is = p.geometries;
        taken_is = subst (λ (o : Option (List ℕ)). IfSome o (λ bytes. report.taken ≡ length bytes)) told p.taken;
      },
      p.bytes,
    );
  }

  listed_front : {A : Type 0} (AreBlobs : List ℕ → List A → Type 0) (trees_of : List A → List Tree)
      (text_of : List A → List ℕ) (ListTo : Allowance → List ℕ → List ℕ → Type 0) (fault : ConvertFault)
      → StoppedListing AreBlobs trees_of text_of l remaining contents reader writer fault read written
      → Wrote (listed_outputs AreBlobs trees_of text_of ListTo l input) contents writer written (Err fault)
  listed_front AreBlobs trees_of text_of ListTo fault p = record {
    bytes = p.text;
    appends = p.appends;
    agrees = (
      record {
        part = record {
          whole = p.part.whole;
          later = p.part.later;
          bytes = p.part.bytes;
          left = p.part.left;
          blobs = p.part.blobs;
          begins = subst (λ (o : Option (List ℕ)). BeginsWith o p.part.bytes) told p.part.begins;
          cut = p.part.cut;
          one = p.part.one;
          holds = p.part.holds;
        };
        done_is = p.done;
        takes = takes_of AreBlobs p.part.whole input p.part.bytes fault.taken
            (subst (λ (o : Option (List ℕ)). BeginsWith o p.part.bytes) told p.part.begins) p.taken;
        told = remaining (device_of read);
        explains = subst (λ (o : Option (List ℕ)). ExplainsListingCause trees_of text_of l o
            (remaining (device_of read)) p.part.bytes fault.cause p.part.whole p.part.later
            p.part.left) told p.explains;
      },
      p.sent,
    );
  }

  lists : {A : Type 0} (AreBlobs : List ℕ → List A → Type 0) (trees_of : List A → List Tree)
      (text_of : List A → List ℕ) (ListTo : Allowance → List ℕ → List ℕ → Type 0)
      (answer : Result Report ConvertFault)
      → ListsBlobs AreBlobs trees_of text_of l remaining contents reader writer read written answer
      → Wrote (listed_outputs AreBlobs trees_of text_of ListTo l input) contents writer written answer
  lists AreBlobs trees_of text_of ListTo (Ok report) p = listed AreBlobs trees_of text_of ListTo report p.ok
  lists AreBlobs trees_of text_of ListTo (Err fault) p = listed_front AreBlobs trees_of text_of ListTo fault p.err

  packs : (style : Style) (answer : Result Report ConvertFault)
      → Packs style l remaining contents reader writer read written answer
      → Wrote (packed_outputs style l input) contents writer written answer
  packs style (Ok report) p = packed style report p.ok
  packs style (Err fault) p = packed_front style fault p.err

  pub ran : (what : Conversion) (answer : Result Report ConvertFault)
      → Converts what l remaining contents reader writer read written answer
      → Wrote (outputs_of what l input) contents writer written answer
  ran (conversion.Pack style) = packs style
  ran conversion.Unpack = lists _ _ _ (TextTo table_text)
  ran conversion.Show = lists _ _ _ (ListTo lines_text)
  ran conversion.Geojson = lists _ _ _ (TextTo geojson_text)
  ran conversion.Headers = lists _ _ _ (ListTo headers_bytes)

-- ==== The length of the whole output.

-- no output is left, so all output of the complete geometries was written
all_written : {A : Type 0} (text_of : List A → List ℕ) (whole later : List A)
    (written left : List ℕ) → text_of (whole ++ later) ≡ written ++ left → later ≡ [] → left ≡ []
    → written ≡ text_of whole
all_written text_of whole later written left cut no_later none =
    sym (append-nil written) ∙ (ap (λ (bytes : List ℕ). written ++ bytes) (sym none)
    ∙ (sym cut ∙ (ap (λ more. text_of (whole ++ more)) no_later
    ∙ ap text_of (append-nil whole))))

-- the length of the text of a stream with a refused item, whose blobs have places
located_length : (text_of : List Located → List ℕ) (l : Allowance) (input written : List ℕ) (done taken n offset : ℕ)
    (reason : BlobReason)
    → ListedFront (LocatedStream l 0) geometries_of text_of l input written done taken (cause.Blob offset reason)
    → n ≡ length written → (located_outputs text_of l input).HasLength n
located_length text_of l input written done taken n offset reason f e =
    let p = f.part in
    let text : written ≡ text_of p.whole = all_written text_of p.whole p.later written p.left
    p.cut f.explains.0 f.explains.1 in
    let none : p.whole ++ p.later ≡ p.whole = ap (λ later. p.whole ++ later) f.explains.0 ∙ append-nil p.whole in
    let begin : LocatedStream l 0 p.bytes p.whole = subst (λ blobs. LocatedStream l 0 p.bytes blobs) none p.blobs in
    (written, inr (offset, reason_of reason, p.whole, f.explains.2, (p.bytes, p.begins.0, p.begins.1, begin), text), e)

-- the length of the text of a stream with a refused item, whose geometries have a text
tree_length : (text_of : List Tree → List ℕ) (l : Allowance) (input written : List ℕ) (done taken n offset : ℕ)
    (reason : BlobReason)
    → ListedFront (Stream l) (λ trees. trees) text_of l input written done taken (cause.Blob offset reason)
    → n ≡ length written → (tree_outputs text_of l input).HasLength n
tree_length text_of l input written done taken n offset reason f e =
    let p = f.part in
    let text : written ≡ text_of p.whole = all_written text_of p.whole p.later written p.left
    p.cut f.explains.0 f.explains.1 in
    (written, inr (offset, reason_of reason, p.whole, f.explains.2, text), e)

-- the length of the output of a refused input
pub refused_length_is : (what : Conversion) (l : Allowance) (input written : List ℕ) (done taken n : ℕ)
    (why : Cause) → (outputs_of what l input).IsFront written done taken why → IsRefusal why → n ≡ length written
    → (outputs_of what l input).HasLength n
refused_length_is (conversion.Pack style) l input written done taken n (cause.Row number reason) f refused
    e =
    λ records all.
    let p = f.part in
    let whole : written ≡ canonical_stream style p.whole = p.bytes
    ∙ (ap (λ front. canonical_stream style p.whole ++ front) f.explains.1
    ∙ append-nil (canonical_stream style p.whole)) in (
      written,
      subst (PackTo style l records) (sym whole)
          (refused_output style l input records number reason p.whole (all, f.explains.2)),
      e,
    )
refused_length_is conversion.Unpack l input written done taken n (cause.Blob offset reason) f refused e =
    tree_length table_text l input written done taken n offset reason f e
refused_length_is conversion.Show l input written done taken n (cause.Blob offset reason) f refused e =
    located_length lines_text l input written done taken n offset reason f e
refused_length_is conversion.Geojson l input written done taken n (cause.Blob offset reason) f refused e =
    tree_length geojson_text l input written done taken n offset reason f e
refused_length_is conversion.Headers l input written done taken n (cause.Blob offset reason) f refused e =
    located_length headers_bytes l input written done taken n offset reason f e
refused_length_is (conversion.Pack style) l input written done taken n (cause.Blob offset reason) f
    refused e =
    absurd f.explains
refused_length_is what l input written done taken n (cause.Row number reason) f refused e = absurd
    f.explains
refused_length_is what l input written done taken n _ f refused e = absurd refused

-- the length of the whole output
pub finished_length_is : (what : Conversion) (l : Allowance) (input written : List ℕ) (done taken n : ℕ)
    → (outputs_of what l input).IsWhole written done taken → n ≡ length written → (outputs_of what l input).HasLength n
finished_length_is (conversion.Pack style) l input written done taken n p e = λ records all. (
  written,
  inl (
    p.whole.geometries,
    subst (λ rs. Named l rs p.whole.geometries)
        (one_records input p.whole.records records p.whole.all all) p.whole.named,
    p.written_is,
  ),
  e,
)
finished_length_is conversion.Unpack l input written done taken n p
    e = (written, inl (p.found, p.stream_is, p.written_is), e)
finished_length_is conversion.Show l input written done taken n p
    e = (written, inl (p.found, p.stream_is, p.written_is), e)
finished_length_is conversion.Geojson l input written done taken n p
    e = (written, inl (p.found, p.stream_is, p.written_is), e)
finished_length_is conversion.Headers l input written done taken n p
    e = (written, inl (p.found, p.stream_is, p.written_is), e)
