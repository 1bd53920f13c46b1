-- Conversions as values, and what each promises and makes of bytes.
use Rattle.std.specs.Prelude.{ℕ, ◌≡◌, List, [], ◌∷◌, slice_get, length, Option, Some, None, Result, Ok, Err}
use Rattle.std.specs.Prelude.{IfOk, IfErr, codes, ⊤}
use Rattle.twkb_io.specs.declared.tap.Tap.{Tap}
use Rattle.twkb_tree.specs.Tree.{Tree}
use Rattle.twkb_tree.specs.Limits.{Allowance}
use Rattle.twkb_grammar.specs.Items.{Stream}
use Rattle.twkb_grammar.specs.Written.{canonical_stream}
use Rattle.twkb_grammar.specs.declared.style.Style.{Style}
use Rattle.twkb_blob.specs.declared.spans.Located.{Located}
use Rattle.twkb_table.specs.Record.{Record}
use Rattle.twkb_table.specs.CsvRecords.{AreRecordsOf}
use Rattle.twkb_convert.specs.Listed.{ExplainsListingCause, Listed, StoppedListing}
use Rattle.twkb_convert.specs.Listings.{ListTo, LocatedStream, geometries_of, headers_bytes, lines_text}
use Rattle.twkb_convert.specs.Outputs.{AtMostOneCut, IsFlushed, IsFlushedButForDevices, PackTo, TextTo}
use Rattle.twkb_convert.specs.Outputs.{geojson_text, table_text}
use Rattle.twkb_convert.specs.Packed.{ExplainsPackingCause, Packed, StoppedPacking}
use Rattle.twkb_convert.specs.Parts.{FrontOfBlobs, FrontOfText, TakesBlobs, WholeTable, records_of}
use Rattle.twkb_conversions.specs.declared.conversion.Conversion.{Conversion}
use Rattle.twkb_conversions.specs.declared.conversion.Conversion.TheVariants as conversion
use Rattle.twkb_convert.specs.declared.report.Cause.{Cause}
use Rattle.twkb_convert.specs.declared.report.Cause.TheVariants as cause
use Rattle.twkb_convert.specs.declared.report.ConvertFault.{ConvertFault}
use Rattle.twkb_convert.specs.declared.report.Report.{Report}

-- ==== A conversion as a value (profile).

-- the name of a conversion, as the command line has it
abbrev pub name_of : Conversion → List ℕ
name_of (conversion.Pack style) = codes "pack"
name_of conversion.Unpack = codes "unpack"
name_of conversion.Show = codes "show"
name_of conversion.Geojson = codes "geojson"
name_of conversion.Headers = codes "headers"

-- the style of a conversion that has one
abbrev pub style_of : Conversion → Option Style
style_of (conversion.Pack style) = Some style
style_of _ = None

-- the same conversion in this style, if it has one
abbrev pub in_style : Style → Conversion → Conversion
in_style style (conversion.Pack s) = conversion.Pack style
in_style style what = what

-- the conversions, in this style if they have one, in the order of their numbers
abbrev pub conversions : Style → List Conversion
conversions style = conversion.Pack style ∷ conversion.Unpack ∷ conversion.Show ∷ conversion.Geojson
    ∷ conversion.Headers ∷ []

-- the conversion with a number, in this style if it has one
abbrev pub conversion_at : Style → ℕ → Option Conversion
conversion_at style number = slice_get (conversions style) number

-- ==== What the conversions promise, over any reader and writer.

-- The result of a conversion: all was converted, or it stopped.
pub record Ended (IsDone : Report → Type 0) (IsStopped : ConvertFault → Type 0) (Flushed : Type 0)
    (answer : Result Report ConvertFault) : Type 0 where
  pub ok : IfOk answer IsDone
  pub err : IfErr answer IsStopped
  pub flushed : Flushed

-- the result of packing: the whole table was packed, or it stopped
abbrev pub Packs : {R W : Type 0} → Style → Allowance → (R → Option (List ℕ))
    → (W → Option (List ℕ)) → Tap R → Tap W → Tap R → Tap W → Result Report ConvertFault → Type 0
Packs style l remaining contents reader writer reader_after writer_after answer = Ended
    (λ report. Packed style l remaining contents reader writer report reader_after writer_after)
    (λ fault. StoppedPacking style l remaining contents reader writer fault reader_after writer_after)
    (IsFlushedButForDevices answer writer_after) answer

-- the result of writing a text for the blobs of a stream: that of the whole stream, or it stopped
abbrev pub ListsBlobs : {A R W : Type 0} → (List ℕ → List A → Type 0) → (List A → List Tree)
    → (List A → List ℕ) → Allowance → (R → Option (List ℕ)) → (W → Option (List ℕ)) → Tap R → Tap W
    → Tap R → Tap W → Result Report ConvertFault → Type 0
ListsBlobs AreBlobs trees_of text_of l remaining contents reader writer reader_after writer_after answer = Ended
    (λ report. Listed AreBlobs text_of remaining contents reader writer report reader_after writer_after)
    (λ fault. StoppedListing AreBlobs trees_of text_of l remaining contents reader writer fault
    reader_after writer_after)
    (IsFlushed answer writer_after) answer

-- the result of the conversion asked for, and its effect on its reader and writer
abbrev pub Converts : {R W : Type 0} → Conversion → Allowance → (R → Option (List ℕ))
    → (W → Option (List ℕ)) → Tap R → Tap W → Tap R → Tap W → Result Report ConvertFault → Type 0
Converts (conversion.Pack style) l = Packs style l
Converts conversion.Unpack l = ListsBlobs (Stream l) (λ trees. trees) table_text l
Converts conversion.Show l = ListsBlobs (LocatedStream l 0) geometries_of lines_text l
Converts conversion.Geojson l = ListsBlobs (Stream l) (λ trees. trees) geojson_text l
Converts conversion.Headers l = ListsBlobs (LocatedStream l 0) geometries_of headers_bytes l

-- ==== What the conversions make of bytes, whatever reads and writes them.

-- What a conversion makes of an input: its whole output, a prefix of it with the cause that it ends
-- there, and the length of the whole output, even if the input is refused. The first two also state
-- the number of geometries whose output is whole, and how much of the input these are.
pub record Outputs : Type 1 where
  pub IsWhole : (written : List ℕ) → (done taken : ℕ) → Type 0
  pub IsFront : (written : List ℕ) → (done taken : ℕ) → Cause → Type 0
  pub HasLength : ℕ → Type 0

-- The records of the table name this many geometries, and their canonical stream was written. All
-- records were taken, if there are geometries.
pub record PackedTable (style : Style) (l : Allowance) (table written : List ℕ) (done taken : ℕ) : Type 0 where
  pub whole : WholeTable l (Some table)
  pub written_is : written ≡ canonical_stream style whole.geometries
  pub done_is : done ≡ length whole.geometries
  pub taken_is : taken ≡ records_of whole.geometries

-- Geometries of the table may be written: the canonical blobs of this many were, which have so many
-- records, and a prefix of the next one's. The cause explains that.
pub record PackedFront (style : Style) (l : Allowance) (table written : List ℕ) (done taken : ℕ) (why : Cause) : Type 0
  where
    pub part : FrontOfBlobs style l (Some table) written
    pub one : AtMostOneCut part.later part.rest
    pub done_is : done ≡ length part.whole
    pub taken_is : taken ≡ records_of part.whole
    pub given : ℕ
    pub explains : ExplainsPackingCause style l (Some table) given why part.whole part.later part.front

-- The bytes are this many blobs, all of which were taken, and their text was written.
pub record ListedStream {A : Type 0} (AreBlobs : List ℕ → List A → Type 0)
    (text_of : List A → List ℕ) (stream written : List ℕ) (done taken : ℕ) : Type 0 where
  pub found : List A
  pub stream_is : AreBlobs stream found
  pub written_is : written ≡ text_of found
  pub done_is : done ≡ length found
  pub taken_is : taken ≡ length stream

-- The bytes begin with blobs, and a prefix of their text was written, with all text of this many
-- of them, which are the bytes taken. The cause explains that.
pub record ListedFront {A : Type 0} (AreBlobs : List ℕ → List A → Type 0)
    (trees_of : List A → List Tree) (text_of : List A → List ℕ) (l : Allowance)
    (stream written : List ℕ) (done taken : ℕ) (why : Cause) : Type 0 where
  pub part : FrontOfText AreBlobs text_of (Some stream) written
  pub done_is : done ≡ length part.whole
  pub takes : TakesBlobs AreBlobs stream part.whole taken
  pub told : Option (List ℕ)
  pub explains : ExplainsListingCause trees_of text_of l (Some stream) told part.bytes why
      part.whole part.later part.left

-- the outputs of a table that is packed
abbrev pub packed_outputs : Style → Allowance → List ℕ → Outputs
packed_outputs style l table = record {
  IsWhole = PackedTable style l table;
  IsFront = PackedFront style l table;
  HasLength = λ count. (records : List Record) → AreRecordsOf table records
      → (bytes : List ℕ) × PackTo style l records bytes × (count ≡ length bytes);
}

-- the outputs of a stream whose blobs have a text, which is written to this
abbrev pub listed_outputs : {A : Type 0} → (List ℕ → List A → Type 0) → (List A → List Tree)
    → (List A → List ℕ) → (Allowance → List ℕ → List ℕ → Type 0) → Allowance → List ℕ → Outputs
listed_outputs AreBlobs trees_of text_of ListTo l stream = record {
  IsWhole = ListedStream AreBlobs text_of stream;
  IsFront = ListedFront AreBlobs trees_of text_of l stream;
  HasLength = λ count. (text : List ℕ) × ListTo l stream text × (count ≡ length text);
}

-- the outputs of a stream that is converted to this text of its geometries, within these limits
abbrev pub tree_outputs : (List Tree → List ℕ) → Allowance → List ℕ → Outputs
tree_outputs text_of l = listed_outputs (Stream l) (λ trees. trees) text_of (TextTo text_of) l

-- the outputs of a stream whose blobs have a text that their places in the stream determine
abbrev pub located_outputs : (List Located → List ℕ) → Allowance → List ℕ → Outputs
located_outputs text_of l = listed_outputs (LocatedStream l 0) geometries_of text_of (ListTo text_of) l

-- what the conversion asked for makes of this input
abbrev pub outputs_of : Conversion → Allowance → List ℕ → Outputs
outputs_of (conversion.Pack style) l = packed_outputs style l
outputs_of conversion.Unpack l = tree_outputs table_text l
outputs_of conversion.Show l = located_outputs lines_text l
outputs_of conversion.Geojson l = tree_outputs geojson_text l
outputs_of conversion.Headers l = located_outputs headers_bytes l

-- the cause is one for which the input is refused: everything that the input is converted to was
-- written
abbrev pub IsRefusal : Cause → Type 0
IsRefusal (cause.Row number reason) = ⊤
IsRefusal (cause.Blob offset reason) = ⊤
IsRefusal _ = ⊥

-- the bytes written and the numbers counted agree with the answer
abbrev pub Answers : Outputs → List ℕ → Result Report ConvertFault → Type 0
Answers outputs written (Ok report) =
    outputs.IsWhole written report.geometries report.taken × (report.bytes ≡ length written)
Answers outputs written (Err fault) =
    outputs.IsFront written fault.done fault.taken fault.cause × (fault.sent ≡ length written)
