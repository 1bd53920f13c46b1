-- How far the text of a stream was sent.
use Rattle.std.specs.Prelude.{◌≡◌, ℕ, ◌≤◌, List, [], length, Option, IfSome, Bool, false, Result, Ok, Err}
use Rattle.std.specs.Io.KnownBytes.{IsAtEnd}
use Rattle.std.specs.declared.io.traits.Read.{Ghosts}
use Rattle.twkb_io.specs.Outputs.{Took, is_spent, sent_of}
use Rattle.twkb_io.specs.declared.output.Output.{Output}
use Rattle.twkb_blob.specs.declared.reader.Reader.{Reader}
use Rattle.twkb_blob.specs.declared.spans.Located.{Located}
use Rattle.twkb_convert.specs.Listed.{Follows, IsBetween, Used, given, limits_of, rest_of, told_of}
use Rattle.twkb_convert.specs.Listed.{ExplainsListingCause}
use Rattle.twkb_convert.specs.Causes.{IsDeviceCause, is_write}
use Rattle.twkb_convert.specs.Outputs.{Leaves}
use Rattle.twkb_convert.specs.Parts.{FrontOfText, TakesBlobs}
use Rattle.twkb_convert.specs.Listings.{Layout, listing_text, LocatedStream, geometries_of}
use Rattle.twkb_convert.specs.declared.report.Cause.{Cause}

-- Nothing was read or sent yet, and no call was refused.
pub record IsFresh {R W : Type 0} {read : Ghosts R} (reader : Reader R read) (output : Output W) : Type 0 where
  pub between : IsBetween reader
  pub unread : given reader ≡ 0
  pub unspent : is_spent output ≡ false
  pub unsent : sent_of output ≡ 0

-- The text before the first blob and the texts of these blobs were sent, from a reader that had
-- read nothing, and nothing was refused. Their number is at most that of the bytes given out, which
-- are those taken.
pub record SentSoFar {R W : Type 0} {read : Ghosts R} (layout : Layout) (contents : W → Option (List ℕ))
    (from : Reader R read) (old : Output W) (to : Reader R read) (new : Output W) (done taken : ℕ) : Type 0 where
  pub found : List Located
  pub bytes : List ℕ
  pub blobs : LocatedStream (limits_of from) 0 bytes found
  pub used : Used (rest_of from) 0 bytes (rest_of to) (given to)
  pub took : Took contents old (listing_text layout found) new
  pub count : done ≡ length found
  pub follows : Follows from to false
  pub between : IsBetween to
  pub unspent : is_spent new ≡ false
  pub few : done ≤ given to
  pub taken_is : taken ≡ given to

-- All bytes are the blobs whose text was sent, no read failed, and the reader is at its end.
pub record ListsAll {R : Type 0} {read : Ghosts R} (from to : Reader R read) (bytes : List ℕ)
    (later : List Located) (left : List ℕ) (read_failed : Bool) : Type 0 where
  pub no_later : later ≡ []
  pub none_left : left ≡ []
  pub all : IfSome (rest_of from) (λ whole. whole ≡ bytes)
  pub ended : IfSome (rest_of from) (λ whole. IsAtEnd (told_of to))
  pub no_read : read_failed ≡ false

-- What a cause says about the text sent and the bytes left, and about the devices.
pub record ListsUpTo {R : Type 0} {read : Ghosts R} (layout : Layout) (from to : Reader R read)
    (bytes : List ℕ) (whole later : List Located) (left : List ℕ) (read_failed : Bool)
    (why : Cause) : Type 0 where
  pub explains : ExplainsListingCause geometries_of (listing_text layout) (limits_of from)
      (rest_of from) (told_of to) bytes why whole later left
  pub tell : IsDeviceCause read_failed (is_write {A = Unit {0}} (Err why)) why

-- what an answer says
abbrev pub Ends : {R : Type 0} {read : Ghosts R} → Layout → Reader R read → Reader R read → List ℕ
    → List Located → List Located → List ℕ → Bool → Result (Unit {0}) Cause → Type 0
Ends layout from to bytes whole later left read_failed (Ok done) = ListsAll from to bytes later left read_failed
Ends layout from to bytes whole later left read_failed (Err why) =
    ListsUpTo layout from to bytes whole later left read_failed why

-- A prefix of the text of a stream was sent, from a reader that had read nothing, and these are the
-- numbers of blobs whose text is whole in it, and of their bytes.
pub record Lists {R W : Type 0} {read : Ghosts R} (layout : Layout)
    (contents : W → Option (List ℕ)) (from : Reader R read) (old : Output W) (to : Reader R read)
    (new : Output W) (done taken : ℕ) (answer : Result (Unit {0}) Cause) : Type 0 where
  pub text : List ℕ
  pub part : FrontOfText (LocatedStream (limits_of from) 0) (listing_text layout) (rest_of from) text
  pub leaves : Leaves contents old text new answer
  pub count : done ≡ length part.whole
  pub takes : TakesBlobs (LocatedStream (limits_of from) 0) part.bytes part.whole taken
  pub read_failed : Bool
  pub follows : Follows from to read_failed
  pub ends : Ends layout from to part.bytes part.whole part.later part.left read_failed answer
