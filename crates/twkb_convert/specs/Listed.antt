-- The reading of blobs and the writing of their text: how far a stream came, and why it stopped.
use Rattle.std.specs.Prelude.{ℕ, ◌≡◌, ◌+◌, ◌<◌, ◌≤◌, List, [], ◌++◌, length, Bool, true, false, Option, IfSome, ⊤}
use Rattle.std.specs.Prelude.{Result, Ok, Err, ◌⊎◌}
use Rattle.std.specs.Io.KnownBytes.{Consumes, IsAtEnd, Appends}
use Rattle.std.specs.Borrow.{MutBor}
use Rattle.std.specs.declared.io.traits.Read.{Ghosts}
use Rattle.twkb_io.specs.declared.tap.Tap.{Tap}
use Rattle.twkb_io.specs.Inputs as Inputs
use Rattle.twkb_io.specs.Taps.{count_failure, device_of, failures_of}
use Rattle.twkb_io.specs.declared.TheConstants.{MAX_BYTES}
use Rattle.twkb_tree.specs.Limits.{Allowance}
use Rattle.twkb_grammar.specs.Fault.{FirstFault, StreamFault}
use Rattle.twkb_engine.specs.declared.blob_reason.BlobReason.{BlobReason}
use Rattle.twkb_engine.specs.Stops.{reason_of}
use Rattle.twkb_blob.specs.Readers.{AreCutOff, has_ended, is_spent, reader_input, reader_limits, told_by}
use Rattle.twkb_blob.specs.declared.reader.Reader.{Reader}
use Rattle.twkb_blob.specs.declared.spans.Located.{Located}
use Rattle.twkb_convert.specs.Listings.{TellsSpans, Layout}
use Rattle.twkb_convert.specs.declared.report.Cause.{Cause}
use Rattle.twkb_convert.specs.declared.report.Cause.TheVariants as cause
use Rattle.twkb_tree.specs.Tree.{Tree}
use Rattle.twkb_convert.specs.Causes.{CountsOne, DevicesTell}
use Rattle.twkb_convert.specs.Parts.{FrontOfText, TakesBlobs}
use Rattle.twkb_convert.specs.declared.report.Report.{Report}
use Rattle.twkb_convert.specs.declared.report.ConvertFault.{ConvertFault}

-- ==== The effect of reading one blob and making its text, on the bytes left and on the reader.

-- the borrowed tap
abbrev pub reader_tap : {R : Type 0} {read : Ghosts R} → Reader R read → MutBor (Tap R)
reader_tap reader = Inputs.input_tap (reader_input reader)

-- the failures of the borrowed tap
abbrev pub reader_failures : {R : Type 0} {read : Ghosts R} → Reader R read → ℕ
reader_failures reader = Inputs.input_failures (reader_input reader)

-- the number of bytes that the input gave out
abbrev pub given : {R : Type 0} {read : Ghosts R} → Reader R read → ℕ
given reader = Inputs.given (reader_input reader)

-- the bytes left to read, if they are known
abbrev pub rest_of : {R : Type 0} {read : Ghosts R} → Reader R read → Option (List ℕ)
rest_of reader = Inputs.rest_of (reader_input reader)

-- the bytes that the device still gives, if they are known
abbrev pub told_of : {R : Type 0} {read : Ghosts R} → Reader R read → Option (List ℕ)
told_of reader = told_by (reader_input reader)

-- whether a call of the input returned an error
abbrev pub is_input_spent : {R : Type 0} {read : Ghosts R} → Reader R read → Bool
is_input_spent reader = Inputs.is_spent (reader_input reader)

-- the limits of each geometry
abbrev pub limits_of : {R : Type 0} {read : Ghosts R} → Reader R read → Allowance
limits_of reader = reader_limits reader

-- These bytes left the input, which counted them.
pub record Used (old : Option (List ℕ)) (before : ℕ) (bytes : List ℕ) (new : Option (List ℕ)) (after : ℕ) : Type 0 where
  pub consumed : Consumes old new bytes
  pub counted : after ≡ before + length bytes

-- One blob was read, and its bytes determine these spans at its offset.
pub record GivesBlob (limits : Allowance) (old : Option (List ℕ)) (before : ℕ) (b : Located)
    (new : Option (List ℕ)) (after : ℕ) : Type 0 where
  pub front : List ℕ
  pub tells : TellsSpans limits before front b
  pub used : Used old before front new after

-- The bytes left have a first fault, at this offset from the start of the stream.
pub record RefusesBlob (limits : Allowance) (bytes : List ℕ) (before : ℕ) (offset : ℕ) (why : BlobReason) : Type 0 where
  pub within : ℕ
  pub place : offset ≡ before + within
  pub first : FirstFault limits bytes within (reason_of why)

-- The device gave these bytes and then at most a part of a blob. The bytes after that part are
-- still to come.
pub record GaveOnly (limits : Allowance) (old : Option (List ℕ)) (bytes : List ℕ)
    (told : Option (List ℕ)) : Type 0 where
  pub cut : List ℕ
  pub consumed : Consumes old told (bytes ++ cut)
  pub cut_off : AreCutOff limits cut

-- what a cause says if no blob was read, given the bytes left, the number of bytes before them, and
-- the bytes that the device still gives
abbrev pub Misses : Allowance → Option (List ℕ) → ℕ → Option (List ℕ) → Cause → Type 0
Misses limits old before told cause.Memory = ⊤
Misses limits old before told cause.ReadDevice = GaveOnly limits old [] told
Misses limits old before told cause.TooLong = IfSome old (λ bytes. MAX_BYTES < before + length bytes)
Misses limits old before told (cause.Blob offset why) = IfSome old (λ bytes. RefusesBlob limits bytes before offset why)
Misses limits old before told cause.WriteDevice = ⊥
Misses limits old before told (cause.Row number reason) = ⊥
Misses limits old before told cause.TooManyRecords = ⊥

-- whether the cause is a failed read
abbrev pub is_read : Cause → Bool
is_read cause.ReadDevice = true
is_read _ = false

-- The reader kept its tap and its limits, and the tap counted whether a read failed.
pub record Follows {R : Type 0} {read : Ghosts R} (old new : Reader R read) (has_failed : Bool) : Type 0 where
  pub same_tap : (reader_tap new).ghost_name ≡ (reader_tap old).ghost_name
  pub limits : limits_of new ≡ limits_of old
  pub failures : reader_failures new ≡ count_failure has_failed (reader_failures old)
  pub within : given new ≤ MAX_BYTES

-- No call of the reader or of its input was refused, and none of the reader found the end.
pub record IsBetween {R : Type 0} {read : Ghosts R} (reader : Reader R read) : Type 0 where
  pub fresh : is_spent reader ≡ false
  pub going_on : has_ended reader ≡ false
  pub input : is_input_spent reader ≡ false

-- One blob was read, this is its text, and the reader is between two blobs.
pub record GivesText {R : Type 0} {read : Ghosts R} (layout : Layout) (from to : Reader R read)
    (text : List ℕ) : Type 0 where
  pub found : Located
  pub gives : GivesBlob (limits_of from) (rest_of from) (given from) found (rest_of to) (given to)
  pub own : text ≡ layout.text_of found
  pub follows : Follows from to false
  pub between : IsBetween to

-- No byte is left for another blob, nor in the device.
pub record EndsBlobs {R : Type 0} {read : Ghosts R} (from to : Reader R read) : Type 0 where
  pub empty : IsAtEnd (rest_of from)
  pub ended : IfSome (rest_of from) (λ bytes. IsAtEnd (told_of to))
  pub follows : Follows from to false

-- No text was made, for this cause.
pub record MissesText {R : Type 0} {read : Ghosts R} (from to : Reader R read) (why : Cause) : Type 0 where
  pub misses : Misses (limits_of from) (rest_of from) (given from) (told_of to) why
  pub follows : Follows from to (is_read why)

-- the result of reading the next blob and making its text
abbrev pub ReadsText : {R : Type 0} {read : Ghosts R} → Layout → Reader R read → Reader R read
    → List ℕ → Result Bool Cause → Type 0
ReadsText layout from to text (Ok true) = GivesText layout from to text
ReadsText layout from to text (Ok false) = EndsBlobs from to
ReadsText layout from to text (Err why) = MissesText from to why

-- ==== How far the text of a stream was written, and why it stopped. The blobs are given as trees,
-- or as trees with their spans.

-- All bytes of the reader are these blobs, and the writer took their text; the report has their
-- number and the numbers of bytes written and taken; no device failed, and the reader is at its
-- end.
pub record Listed {R W A : Type 0} (AreBlobs : List ℕ → List A → Type 0) (text_of : List A → List ℕ)
    (remaining : R → Option (List ℕ)) (contents : W → Option (List ℕ))
    (reader : Tap R) (writer : Tap W) (report : Report) (read : Tap R) (written : Tap W) : Type 0 where
  pub found : List A
  pub stream : IfSome (remaining (device_of reader)) (λ bytes. AreBlobs bytes found)
  pub appends : Appends (contents (device_of writer)) (contents (device_of written)) (text_of found)
  pub geometries : report.geometries ≡ length found
  pub bytes : report.bytes ≡ length (text_of found)
  pub taken : IfSome (remaining (device_of reader)) (λ bytes. report.taken ≡ length bytes)
  pub end : IfSome (remaining (device_of reader)) (λ bytes. IsAtEnd (remaining (device_of read)))
  pub reads : failures_of read ≡ failures_of reader
  pub writes : failures_of written ≡ failures_of writer

-- What a cause says, given the bytes known at the start and at the end, the bytes of the blobs
-- that were read, the blobs whose text was written, another blob whose text was not written
-- whole, and the text that is left to be written for all these. After a failed read, the text of
-- every complete blob in the bytes read was written.
abbrev pub ExplainsListingCause : {A : Type 0} → (List A → List Tree) → (List A → List ℕ)
    → Allowance → Option (List ℕ) → Option (List ℕ) → List ℕ → Cause → List A → List A
    → List ℕ → Type 0
ExplainsListingCause trees_of text_of l old told bytes (cause.Row number reason) whole later left = ⊥
ExplainsListingCause trees_of text_of l old told bytes (cause.Blob offset reason) whole later left =
    (later ≡ []) × (left ≡ []) × IfSome old (λ all. StreamFault l all (trees_of whole) offset (reason_of reason))
ExplainsListingCause trees_of text_of l old told bytes cause.ReadDevice whole later left =
    (later ≡ []) × (left ≡ []) × GaveOnly l old bytes told
ExplainsListingCause trees_of text_of l old told bytes cause.WriteDevice whole later left = ⊤
ExplainsListingCause trees_of text_of l old told bytes cause.Memory whole later left = (later ≡ []) × (left ≡ [])
ExplainsListingCause trees_of text_of l old told bytes cause.TooLong whole later left =
    IfSome old (λ all. MAX_BYTES < length all) ⊎ (MAX_BYTES < length (text_of (whole ++ later)))
ExplainsListingCause trees_of text_of l old told bytes cause.TooManyRecords whole later left = ⊥

-- The bytes of the reader begin with blobs, and the writer took a prefix of their text, with the
-- whole text of the first ones. The fault has the number of these (`done`), how many bytes of the
-- input they are (`taken`), the length of the prefix (`sent`), and a cause that explains why the
-- writing stopped there, and agrees with the failures that the taps counted.
pub record StoppedListing {R W A : Type 0} (AreBlobs : List ℕ → List A → Type 0)
    (trees_of : List A → List Tree) (text_of : List A → List ℕ) (l : Allowance)
    (remaining : R → Option (List ℕ)) (contents : W → Option (List ℕ)) (reader : Tap R)
    (writer : Tap W) (fault : ConvertFault) (read : Tap R) (written : Tap W) : Type 0 where
  pub text : List ℕ
  pub part : FrontOfText AreBlobs text_of (remaining (device_of reader)) text
  pub appends : Appends (contents (device_of writer)) (contents (device_of written)) text
  pub done : fault.done ≡ length part.whole
  pub sent : fault.sent ≡ length text
  pub taken : TakesBlobs AreBlobs part.bytes part.whole fault.taken
  pub explains : ExplainsListingCause trees_of text_of l (remaining (device_of reader))
      (remaining (device_of read)) part.bytes fault.cause part.whole part.later part.left
  pub devices : DevicesTell CountsOne reader writer fault.cause read written
