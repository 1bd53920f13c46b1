-- What a reader of geometries with their spans answers.
use Rattle.std.specs.Prelude.{◌≡◌, ◌⊎◌, Bool, true, false, List, [], Option, Some, None, IfOk, IfSome, Result, Ok, Err}
use Rattle.std.specs.declared.io.traits.Read.{Ghosts}
use Rattle.twkb_tree.specs.Tree.{Tree}
use Rattle.twkb_tree.specs.Rows.{Row, rows}
use Rattle.twkb_tree.specs.Limits.{Allowance}
use Rattle.twkb_grammar.specs.Noting.{spans_of_blob, Notes}
use Rattle.twkb_grammar.specs.declared.span.Span.{Span}
use Rattle.twkb_io.specs.declared.input.Input.{Input}
use Rattle.twkb_io.specs.Inputs.{given}
use Rattle.twkb_engine.specs.Standing.{HoldsSpans}
use Rattle.twkb_engine.specs.declared.engine.Engine.{Engine}
use Rattle.twkb_blob.specs.Readers.{Makes, IfGoingOn, IsAbreast, IsNext}
use Rattle.twkb_blob.specs.Readers.{PartAhead, ReadsNext, reader_input, reader_limits}
use Rattle.twkb_blob.specs.declared.reader.Reader.{Reader}
use Rattle.twkb_blob.specs.declared.fault.BlobFault.{BlobFault}
use Rattle.twkb_blob.specs.declared.fault.BlobFault.TheVariants as fault
use Rattle.twkb_blob.specs.declared.spans.Located.{Located}

-- the blob of this geometry left the input, and these are its spans at the place where it stood
pub record HasSpans {R : Type 0} {read : Ghosts R} (limits : Allowance) (old new : Input R read)
    (g : Tree) (spans : List Span) : Type 0 where
  pub made : Makes limits [] old new g
  pub told : spans ≡ spans_of_blob (given old) made.blob

-- the geometry without its spans
abbrev pub without_spans : Result (Option Located) BlobFault → Result (Option Tree) BlobFault
without_spans (Ok (Some l)) = Ok (Some l.geometry)
without_spans (Ok None) = Ok None
without_spans (Err e) = Err e

-- an answer of a reader, with the spans of the geometry that it gives, if any
pub record IsLocated {R : Type 0} {read : Ghosts R} (limits : Allowance) (old new : Input R read)
    (answer : Result (Option Located) BlobFault) : Type 0 where
  pub next : IsNext limits old new (without_spans answer)
  pub spans : IfOk answer (λ found. IfSome found (λ l. HasSpans limits old new l.geometry l.spans))

-- the rows and the spans of a geometry whose blob left the input; or an answer without a geometry
abbrev pub IsSpanned : {R : Type 0} {read : Ghosts R} → Allowance → Input R read → Input R read
    → Result Bool BlobFault → List Row → List Span → Type 0
IsSpanned limits old new (Ok true) rs spans = (g : Tree) × HasSpans limits old new g spans × (rs ≡ rows 0 g)
IsSpanned limits old new (Ok false) rs spans = IsNext limits old new (Ok None)
IsSpanned limits old new (Err why) rs spans = IsNext limits old new (Err why)

-- The answer to a call that reads a blob of an input into a form, and its spans: a geometry whose blob left the input,
-- with its rows and its spans; or no memory for a part of a blob that is there; or another answer without a geometry.
abbrev pub IsInto : {S : Type 0} → (S → Notes → Type 0) → {R : Type 0} {read : Ghosts R} → Allowance
    → Input R read → Input R read → Result Bool BlobFault → List Row → S → Type 0
IsInto holds limits old new (Ok true) rs spans = (g : Tree) × (made : Makes limits [] old new g)
    × HoldsSpans holds spans (given old) made.blob × (rs ≡ rows 0 g)
IsInto holds limits old new (Ok false) rs spans = IsNext limits old new (Ok None)
IsInto holds limits old new (Err fault.Memory) rs spans = PartAhead limits [] old
IsInto holds limits old new (Err why) rs spans = IsNext limits old new (Err why)

-- That is its answer.
pub record ReadsInto {S : Type 0} (holds : S → Notes → Type 0) {R : Type 0} {read : Ghosts R}
    (limits : Allowance) (old new : Input R read) (answer : Result Bool BlobFault) (rs : List Row)
    (spans : S) : Type 0 where
  pub is : IsInto holds limits old new answer rs spans

-- What a call says that reads the next blob with an engine that keeps pace: what every call does, and
-- of one that reads, its answer, the rows and the spans; exactly a geometry leaves rows; the engine
-- keeps pace.
pub record ReadsWith {S : Type 0} (holds : S → Notes → Type 0) {R : Type 0} {read : Ghosts R}
    (old new : Reader R read) (answer : Result Bool BlobFault) (rs : List Row) (spans : S)
    (d : Engine) : Type 0 where
  pub shared : ReadsNext false old new answer
  pub into : IfGoingOn old (ReadsInto holds (reader_limits old) (reader_input old) (reader_input new)
      answer rs spans)
  pub cleared : (answer ≡ Ok true) ⊎ (rs ≡ [])
  pub abreast : IsAbreast new d

-- What a call says that reads the next geometry into rows, and the spans of its headers into a list.
pub record ReadsSpans {R : Type 0} {read : Ghosts R} (old new : Reader R read)
    (answer : Result Bool BlobFault) (rs : List Row) (spans : List Span) : Type 0 where
  pub shared : ReadsNext false old new answer
  pub next : IfGoingOn old (IsSpanned (reader_limits old) (reader_input old) (reader_input new) answer rs spans)
  pub memory : answer ≡ Err fault.Memory → PartAhead (reader_limits old) [] (reader_input old)
  pub cleared : (answer ≡ Ok true) ⊎ ((rs ≡ []) × (spans ≡ []))
