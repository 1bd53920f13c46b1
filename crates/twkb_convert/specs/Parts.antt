-- Parts of a table or of a stream, and prefixes of an output, up to the place that is refused.
use Rattle.std.specs.Prelude.{◌≡◌, ℕ, List, ◌∷◌, ◌++◌, map, ◌+◌, ◌<◌, ◌⊎◌, [], length, Option, Some, IfSome}
use Rattle.twkb_tree.specs.Limits.{Allowance}
use Rattle.twkb_grammar.specs.Noting.{moved_span}
use Rattle.twkb_grammar.specs.declared.style.Style.{Style}
use Rattle.twkb_table.specs.Record.{Record, header, table}
use Rattle.twkb_blob.specs.declared.spans.Located.{Located}
use Rattle.twkb_convert.specs.Listings.{lines_text}
use Rattle.twkb_convert.specs.Outputs.{NamesSome, PackTo, AtMostOneCut}
use Rattle.twkb_tree.specs.Tree.{Tree}
use Rattle.twkb_table.specs.RowFault.{Named, AreComplete, all_but_last}
use Rattle.twkb_table.specs.declared.numbered_records.TheConstants.{RECORD_CAP}
use Rattle.twkb_table.specs.declared.reason.RowReason.{RowReason}
use Rattle.twkb_table.specs.CsvRecords.{AreRecordsOf, BeginWith}
use Rattle.twkb_table.specs.TableReading.{NameSoFar}
use Rattle.twkb_io.specs.Inputs.{BeginsWith}
use Rattle.twkb_grammar.specs.Written.{canonical_stream}

-- ==== Parts of a table or of a stream that are converted separately.

-- the rows of a table, below its header, name geometries
abbrev pub RowsName : Allowance → List Record → Type 0
RowsName l rows = NamesSome l (header ∷ rows)

-- two lists of rows, each packed below a header, have outputs whose join is the output of both
-- lists below one header
abbrev pub PackApart : Style → Allowance → List Record → List Record → Type 0
PackApart style l rows more = (a b : List ℕ) → PackTo style l (header ∷ rows) a
    → PackTo style l (header ∷ more) b → PackTo style l (header ∷ (rows ++ more)) (a ++ b)

-- a blob with its spans, moved by this many bytes
abbrev pub moved : ℕ → Located → Located
moved n b = record { geometry = b.geometry; spans = map (moved_span n) b.spans }

-- blobs with their spans, each moved by this many bytes
abbrev pub all_moved : ℕ → List Located → List Located
all_moved n bs = map (moved n) bs

-- the second lines are the first, with this number added to each offset
abbrev pub AreMovedLines : ℕ → List ℕ → List ℕ → Type 0
AreMovedLines n lines others = (bs : List Located) × (lines ≡ lines_text bs) × (others ≡ lines_text (all_moved n bs))

-- ==== Where and why a table is refused, and which geometries may be written before that place.

-- The first records of the text are refused at the record with this number, for this reason, and
-- these geometries are complete before it. If they are no records, the text has none.
pub record IsRefusedAt (l : Allowance) (told : Option (List ℕ)) (number : ℕ) (reason : RowReason)
    (gs : List Tree) : Type 0 where
  pub seen : List Record
  pub begins : IfSome told (λ text. BeginWith text seen)
  pub none : seen ≡ [] → IfSome told (λ text. AreRecordsOf text [])
  pub fault : AreComplete l seen number reason gs

-- the text has these records, and is refused at the record with this number
abbrev pub IsRefusedText : Allowance → List ℕ → List Record → ℕ → RowReason → List Tree → Type 0
IsRefusedText l text records number reason gs = AreRecordsOf text records × IsRefusedAt l (Some text) number reason gs

-- The text begins with RECORD_CAP records. The records before the last name geometries, and these are
-- all of those geometries but the last.
pub record HasTooMany (l : Allowance) (told : Option (List ℕ)) (gs : List Tree) : Type 0 where
  pub before : List Record
  pub here : Record
  pub begins : IfSome told (λ text. BeginWith text (before ++ here ∷ []))
  pub many : length before + 1 ≡ RECORD_CAP
  pub geometries : List Tree
  pub named : Named l before geometries
  pub complete : gs ≡ all_but_last geometries

-- These geometries may be written: all but the last of those that the first records of the text
-- name, and the last too if the text has no more records.
pub record MayBeWritten (l : Allowance) (told : Option (List ℕ)) (gs : List Tree) : Type 0 where
  pub records : List Record
  pub geometries : List Tree
  pub begins : IfSome told (λ text. BeginWith text records)
  pub named : NameSoFar l records geometries
  pub ready : (gs ≡ all_but_last geometries) ⊎ (IfSome told (λ text. AreRecordsOf text records) × (gs ≡ geometries))

-- All records of the text were read, are fewer than RECORD_CAP, and name geometries.
pub record WholeTable (l : Allowance) (told : Option (List ℕ)) : Type 0 where
  pub records : List Record
  pub geometries : List Tree
  pub all : IfSome told (λ text. AreRecordsOf text records)
  pub few : length records < RECORD_CAP
  pub named : Named l records geometries

-- all records of the text were read, and name these geometries
abbrev pub NamesAll : Allowance → Option (List ℕ) → List Tree → Type 0
NamesAll l told gs = (records : List Record) × IfSome told (λ text. AreRecordsOf text records) × Named l records gs

-- ==== A prefix of a conversion's output: all output for the first geometries, and a prefix of that
-- for the next one.

-- The known text of a table has geometries that may be written, and these bytes are the blobs of
-- the first of them and a prefix of those of the others.
pub record FrontOfBlobs (style : Style) (l : Allowance) (told : Option (List ℕ)) (written : List ℕ) : Type 0 where
  pub whole : List Tree
  pub later : List Tree
  pub front : List ℕ
  pub rest : List ℕ
  pub ready : MayBeWritten l told (whole ++ later)
  pub cut : canonical_stream style later ≡ front ++ rest
  pub bytes : written ≡ canonical_stream style whole ++ front

-- the whole text of these blobs is a prefix of this text, if there are any blobs
abbrev pub HoldsWhole : {A : Type 0} → (List A → List ℕ) → List ℕ → List A → Type 0
HoldsWhole text_of text bs = (bs ≡ []) ⊎ ((more : List ℕ) × (text ≡ text_of bs ++ more))

-- The known bytes begin with blobs, and this is a prefix of their text: the whole text of the first
-- blobs, and a part of the text of at most one more.
pub record FrontOfText {A : Type 0} (AreBlobs : List ℕ → List A → Type 0)
    (text_of : List A → List ℕ) (told : Option (List ℕ)) (written : List ℕ) : Type 0 where
  pub whole : List A
  pub later : List A
  pub bytes : List ℕ
  pub left : List ℕ
  pub blobs : AreBlobs bytes (whole ++ later)
  pub begins : BeginsWith told bytes
  pub cut : text_of (whole ++ later) ≡ written ++ left
  pub one : AtMostOneCut later left
  pub holds : HoldsWhole text_of written whole

-- ==== How much of the input the geometries of an output are.

-- The first of these bytes, so many, are these blobs.
pub record TakesBlobs {A : Type 0} (AreBlobs : List ℕ → List A → Type 0) (bytes : List ℕ) (whole : List A)
    (taken : ℕ) : Type 0 where
  pub front : List ℕ
  pub rest : List ℕ
  pub cut : bytes ≡ front ++ rest
  pub blobs : AreBlobs front whole
  pub taken_is : taken ≡ length front

-- the number of records of the table of these geometries, with its header; none if there are no
-- geometries
abbrev pub records_of : List Tree → ℕ
records_of [] = 0
records_of (g ∷ gs) = length (table (g ∷ gs))
