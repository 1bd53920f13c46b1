-- The reading of one linestring, and how far a column was sent.
use Rattle.std.specs.Prelude.{ℕ, ℤ, ◌≡◌, ◌≤◌, ◌⊎◌, List, [], length, Bool, false, Option}
use Rattle.std.specs.Prelude.{Some, None, IfSome, Result, Ok, Err}
use Rattle.std.specs.Io.KnownBytes.{IsAtEnd}
use Rattle.std.specs.declared.io.traits.Read.{Ghosts}
use Rattle.csv.specs.Writing.{row_text}
use Rattle.twkb_io.specs.Outputs.{Took, is_spent}
use Rattle.twkb_io.specs.declared.output.Output.{Output}
use Rattle.twkb_tree.specs.Tree.{Tree, precision_of}
use Rattle.twkb_tree.specs.Limits.{Allowance}
use Rattle.twkb_tree.specs.declared.kind.Kind.TheVariants.{Linestring}
use Rattle.twkb_grammar.specs.Items.{Blob}
use Rattle.twkb_blob.specs.declared.reader.Reader.{Reader}
use Rattle.twkb_convert.specs.Causes.{IsDeviceCause, is_write}
use Rattle.twkb_convert.specs.Listed.{EndsBlobs, Follows, IsBetween, MissesText, Used, given, limits_of, rest_of}
use Rattle.twkb_convert.specs.Listed.{told_of}
use Rattle.twkb_convert.specs.Outputs.{Leaves}
use Rattle.twkb_convert.specs.Parts.{FrontOfText, TakesBlobs}
use Rattle.twkb_convert.specs.declared.report.Cause.{Cause}
use Rattle.twkb_rest.specs.Written.{written_with}
use Rattle.twkb_rest.specs.Columns.{LineStream, Refuses, RefusesLine, column_text, first_precision, kind_of}
use Rattle.twkb_rest.specs.Columns.{line_record}
use Rattle.twkb_rest.specs.Unpacked.{ExplainsUnpackCause}
use Rattle.twkb_rest.specs.declared.fault.LineReason.{LineReason}
use Rattle.twkb_rest.specs.declared.fault.UnpackCause.TheVariants as cause
use Rattle.twkb_rest.specs.declared.line.Next.{Next}
use Rattle.twkb_rest.specs.declared.line.Next.TheVariants as next

-- ==== The reading of one linestring.

-- One blob was read: its geometry, and the bytes that left the input.
pub record GivesTree (limits : Allowance) (old : Option (List ℕ)) (before : ℕ) (g : Tree)
    (new : Option (List ℕ)) (after : ℕ) : Type 0 where
  pub front : List ℕ
  pub blob : Blob limits front g
  pub used : Used old before front new after

-- A geometry is taken after a first one of this precision, if there is one: it is a linestring of that precision.
pub record Takes (first : Option ℤ) (g : Tree) (next : Option ℤ) : Type 0 where
  pub line : kind_of g ≡ Linestring
  pub same : (first ≡ None) ⊎ (first ≡ Some (precision_of g))
  pub kept : next ≡ Some (precision_of g)

-- One linestring was read, this is the text of its record, and the reader is between two blobs.
pub record GivesLine {R : Type 0} {read : Ghosts R} (delimiter : ℕ) (first next : Option ℤ)
    (from to : Reader R read) (text : List ℕ) : Type 0 where
  pub found : Tree
  pub gives : GivesTree (limits_of from) (rest_of from) (given from) found (rest_of to) (given to)
  pub takes : Takes first found next
  pub own : text ≡ row_text (written_with delimiter) (line_record found)
  pub follows : Follows from to false
  pub between : IsBetween to

-- One blob was read, and is refused for this reason.
pub record RefusesNext {R : Type 0} {read : Ghosts R} (first : Option ℤ) (from to : Reader R read)
    (why : LineReason) : Type 0 where
  pub found : Tree
  pub gives : GivesTree (limits_of from) (rest_of from) (given from) found (rest_of to) (given to)
  pub refused : Refuses first found why
  pub follows : Follows from to false

-- the result of reading the next linestring and making its text
abbrev pub ReadsLine : {R : Type 0} {read : Ghosts R} → ℕ → (first next : Option ℤ) → Reader R read
    → Reader R read → List ℕ → Result Next Cause → Type 0
ReadsLine delimiter first after from to text (Ok next.Line) = GivesLine delimiter first after from to text
ReadsLine delimiter first after from to text (Ok next.End) = EndsBlobs from to
ReadsLine delimiter first after from to text (Ok (next.Refused why)) = RefusesNext first from to why
ReadsLine delimiter first after from to text (Err why) = MissesText from to why

-- ==== How far a column was sent.

-- The column's name and the records of these linestrings were sent, from a reader that had read nothing, and nothing
-- was refused. Their number is at most that of the bytes given out, which are those taken.
pub record SentSoFar {R W : Type 0} {read : Ghosts R} (delimiter : ℕ) (name : List ℕ)
    (contents : W → Option (List ℕ)) (from : Reader R read) (old : Output W) (first : Option ℤ)
    (to : Reader R read) (new : Output W) (done taken : ℕ) : Type 0 where
  pub found : List Tree
  pub bytes : List ℕ
  pub blobs : LineStream (limits_of from) bytes found
  pub first_is : first ≡ first_precision found
  pub used : Used (rest_of from) 0 bytes (rest_of to) (given to)
  pub took : Took contents old (column_text delimiter name found) new
  pub count : done ≡ length found
  pub follows : Follows from to false
  pub between : IsBetween to
  pub unspent : is_spent new ≡ false
  pub few : done ≤ given to
  pub taken_is : taken ≡ given to

-- All bytes are the blobs whose records were sent, no read failed, and the reader is at its end.
pub record SendsAll {R : Type 0} {read : Ghosts R} (from to : Reader R read) (bytes : List ℕ)
    (later : List Tree) (left : List ℕ) (read_failed : Bool) : Type 0 where
  pub no_later : later ≡ []
  pub none_left : left ≡ []
  pub all : IfSome (rest_of from) (λ whole. whole ≡ bytes)
  pub ended : IfSome (rest_of from) (λ whole. IsAtEnd (told_of to))
  pub no_read : read_failed ≡ false

-- All records of the blobs before a refused one were sent, and no read failed.
pub record SendsBefore {R : Type 0} {read : Ghosts R} (from : Reader R read) (whole later : List Tree)
    (left : List ℕ) (taken : ℕ) (read_failed : Bool) (why : LineReason) : Type 0 where
  pub no_later : later ≡ []
  pub none_left : left ≡ []
  pub refused : IfSome (rest_of from) (λ all. RefusesLine (limits_of from) all whole taken why)
  pub no_read : read_failed ≡ false

-- What a cause says about the text sent and the bytes left, and about the devices.
pub record SendsUpTo {R : Type 0} {read : Ghosts R} (delimiter : ℕ) (name : List ℕ) (from to : Reader R read)
    (bytes text : List ℕ) (whole later : List Tree) (left : List ℕ) (read_failed : Bool) (why : Cause) : Type 0 where
  pub explains : ExplainsUnpackCause (column_text delimiter name) (limits_of from) (rest_of from) (told_of to) bytes
      text (cause.Stream why) whole later left
  pub tell : IsDeviceCause read_failed (is_write {A = Unit {0}} (Err why)) why

-- what an answer says
abbrev pub Ends : {R : Type 0} {read : Ghosts R} → ℕ → List ℕ → Reader R read → Reader R read → List ℕ → List ℕ
    → List Tree → List Tree → List ℕ → ℕ → Bool → Result (Option LineReason) Cause → Type 0
Ends delimiter name from to bytes text whole later left taken read_failed (Ok None) =
    SendsAll from to bytes later left read_failed
Ends delimiter name from to bytes text whole later left taken read_failed (Ok (Some why)) =
    SendsBefore from whole later left taken read_failed why
Ends delimiter name from to bytes text whole later left taken read_failed (Err why) =
    SendsUpTo delimiter name from to bytes text whole later left read_failed why

-- A prefix of the text of a column was sent, from a reader that had read nothing, and these are the numbers of blobs
-- whose records are whole in it, and of their bytes.
pub record Sends {R W : Type 0} {read : Ghosts R} (delimiter : ℕ) (name : List ℕ) (contents : W → Option (List ℕ))
    (from : Reader R read) (old : Output W) (to : Reader R read) (new : Output W) (done taken : ℕ)
    (answer : Result (Option LineReason) Cause) : Type 0 where
  pub text : List ℕ
  pub part : FrontOfText (LineStream (limits_of from)) (column_text delimiter name) (rest_of from) text
  pub leaves : Leaves contents old text new answer
  pub count : done ≡ length part.whole
  pub takes : TakesBlobs (LineStream (limits_of from)) part.bytes part.whole taken
  pub read_failed : Bool
  pub follows : Follows from to read_failed
  pub ends : Ends delimiter name from to part.bytes text part.whole part.later part.left taken read_failed answer
