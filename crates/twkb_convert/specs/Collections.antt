-- A stream as one FeatureCollection: its text for located blobs, and where its writing stops.
use Rattle.std.specs.Prelude.{ℕ, ◌≡◌, ◌<◌, ◌⊎◌, List, [], ◌∷◌, ◌++◌, length, Bool, true, false, Option, IfSome, nat_eq}
use Rattle.std.specs.Prelude.{Result, Ok, Err, OnOk, IfErr}
use Rattle.std.specs.Io.KnownBytes.{Appends, IsAtEnd}
use Rattle.twkb_io.specs.declared.tap.Tap.{Tap}
use Rattle.twkb_io.specs.declared.output.Output.{Output}
use Rattle.twkb_io.specs.declared.output.OutFault.{OutFault}
use Rattle.twkb_io.specs.declared.TheConstants.{MAX_BYTES}
use Rattle.twkb_io.specs.Outputs.{Cut, Took}
use Rattle.twkb_io.specs.Taps.{device_of}
use Rattle.twkb_tree.specs.Tree.{Tree}
use Rattle.twkb_tree.specs.Limits.{Allowance}
use Rattle.twkb_grammar.specs.Items.{Stream}
use Rattle.twkb_grammar.specs.Fault.{Reason, StreamFault}
use Rattle.twkb_grammar.specs.declared.span.Span.{Span}
use Rattle.twkb_blob.specs.declared.spans.Located.{Located}
use Rattle.twkb_geojson.specs.Collection.{opening_text, closing_text, feature_text, features_text, collection_text}
use Rattle.twkb_convert.specs.Listings.{Layout}
use Rattle.twkb_convert.specs.Listed.{Listed, StoppedListing}
use Rattle.twkb_convert.specs.Causes.{CountsOne, DevicesTell, cause_of_output}
use Rattle.twkb_convert.specs.declared.report.Cause.{Cause}
use Rattle.twkb_convert.specs.declared.report.Cause.TheVariants as cause
use Rattle.twkb_convert.specs.declared.report.Report.{Report}
use Rattle.twkb_convert.specs.declared.report.ConvertFault.{ConvertFault}

-- ==== The text of located blobs, up to the closing.

-- whether a blob with these spans is the first of its stream: its type byte is at offset 0
abbrev pub is_first : List Span → Bool
is_first [] = true
is_first (s ∷ ss) = nat_eq s.offset 0

-- what is written before a feature: LF, after a comma unless it is the first
abbrev pub before_feature : Bool → List ℕ
before_feature true = 10 ∷ []
before_feature false = 44 ∷ 10 ∷ []

-- the features of blobs, after the opening of the collection
abbrev pub collection_layout : Layout
collection_layout = record {
  first = opening_text;
  text_of = λ b. before_feature (is_first b.spans) ++ feature_text b.geometry;
}

-- A stream is collected to this text: the collection of its geometries or, if an item is refused,
-- that of the geometries of the blobs before it, up to its closing (profile).
abbrev pub CollectTo : Allowance → List ℕ → List ℕ → Type 0
CollectTo l bytes text =
    ((gs : List Tree) × Stream l bytes gs × (text ≡ collection_text gs))
    ⊎ ((offset : ℕ) × (reason : Reason) × (gs : List Tree) × StreamFault l bytes gs offset reason
    × (text ≡ features_text gs))

-- ==== The closing of a collection.

-- the closing was put, unless the features were not all sent: then that answer stays
abbrev pub Closes : {W : Type 0} → (W → Option (List ℕ)) → Output W → Result (Unit {0}) Cause → Output W
    → Result (Unit {0}) Cause → Type 0
Closes contents old (Err why) new answer = (new ≡ old) × (answer ≡ Err why)
Closes contents old (Ok sent) new (Ok done) = Took contents old closing_text new
Closes contents old (Ok sent) new (Err why) =
    (f : OutFault) × (why ≡ cause_of_output f) × Cut contents old closing_text f new

-- ==== The result of unpacking a stream as a collection.

-- All bytes of the reader are a stream, and the writer took the text of the collection of its
-- geometries. The report has the numbers of geometries and of bytes written, no device failed, and
-- the reader is at its end.
abbrev pub UnpackedCollection : {R W : Type 0} → Allowance → (R → Option (List ℕ)) → (W → Option (List ℕ))
    → Tap R → Tap W → Report → Tap R → Tap W → Type 0
UnpackedCollection l = Listed (Stream l) collection_text

-- All bytes of the reader are a stream, and the writer took the text of the collection of its
-- geometries, but for an end of the closing, since a write or the flush failed or since too many
-- bytes would be written.
pub record Unclosed {R W : Type 0} (l : Allowance) (remaining : R → Option (List ℕ))
    (contents : W → Option (List ℕ)) (reader : Tap R) (writer : Tap W) (fault : ConvertFault)
    (read : Tap R) (written : Tap W) : Type 0 where
  pub found : List Tree
  pub stream : IfSome (remaining (device_of reader)) (λ bytes. Stream l bytes found)
  pub front : List ℕ
  pub rest : List ℕ
  pub cut : closing_text ≡ front ++ rest
  pub appends : Appends (contents (device_of writer)) (contents (device_of written)) (features_text found ++ front)
  pub done : fault.done ≡ length found
  pub sent : fault.sent ≡ length (features_text found ++ front)
  pub taken : IfSome (remaining (device_of reader)) (λ bytes. fault.taken ≡ length bytes)
  pub end : IfSome (remaining (device_of reader)) (λ bytes. IsAtEnd (remaining (device_of read)))
  pub why : (fault.cause ≡ cause.WriteDevice)
      ⊎ ((fault.cause ≡ cause.TooLong) × (MAX_BYTES < length (collection_text found)))
  pub devices : DevicesTell CountsOne reader writer fault.cause read written

-- The writing of a collection stopped: before its closing, where the bytes of the reader begin with
-- blobs and the writer took a prefix of the text of their features, with all of the first ones, and
-- the fault is as with `StoppedUnpacking`; or in its closing.
abbrev pub StoppedCollection : {R W : Type 0} → Allowance → (R → Option (List ℕ)) → (W → Option (List ℕ))
    → Tap R → Tap W → ConvertFault → Tap R → Tap W → Type 0
StoppedCollection l remaining contents reader writer fault read written =
    StoppedListing (Stream l) (λ trees. trees) features_text l remaining contents reader writer fault read written
    ⊎ Unclosed l remaining contents reader writer fault read written
