-- The outputs of the conversions, and what is flushed when a conversion ends.
use Rattle.std.specs.Prelude.{◌≡◌, ◌≢◌, ℕ, ◌⊎◌, List, [], ◌∷◌, map, Option, Result, Ok, Err, false, true, flat_map}
use Rattle.twkb_tree.specs.Tree.{Tree}
use Rattle.twkb_tree.specs.Limits.{Allowance}
use Rattle.twkb_tree.specs.Rows.{rows_of}
use Rattle.twkb_grammar.specs.Items.{Stream}
use Rattle.twkb_grammar.specs.Fault.{Reason, StreamFault}
use Rattle.twkb_grammar.specs.Written.{canonical_stream}
use Rattle.twkb_grammar.specs.declared.style.Style.{Style}
use Rattle.twkb_table.specs.Record.{Record, record_of, table}
use Rattle.twkb_table.specs.Text.{csvtext}
use Rattle.twkb_geojson.specs.Value.{line_of}
use Rattle.twkb_table.specs.CsvRecords.{AreRecordsOf}
use Rattle.twkb_table.specs.RowFault.{Named, AreComplete}
use Rattle.twkb_table.specs.declared.reason.RowReason.{RowReason}
use Rattle.twkb_io.specs.declared.tap.Tap.{Tap}
use Rattle.twkb_io.specs.Taps.{count_failure, has_unflushed}
use Rattle.twkb_io.specs.Outputs.{Refused, Sent, Took, is_spent, output_failures, output_tap, sent_of}
use Rattle.twkb_io.specs.declared.output.Output.{Output}
use Rattle.twkb_io.specs.declared.output.OutFault.TheVariants as out
use Rattle.twkb_convert.specs.Causes.{is_write}
use Rattle.twkb_convert.specs.declared.report.Cause.{Cause}
use Rattle.twkb_convert.specs.declared.report.Cause.TheVariants as cause
use Rattle.twkb_convert.specs.declared.report.ConvertFault.{ConvertFault}
use Rattle.twkb_convert.specs.declared.report.Report.{Report}

-- ==== The outputs of the conversions.

-- The records of a table are packed to these bytes in a style: the canonical stream of the
-- geometries that they name or, if a record is refused, of those that the refusal leaves complete
-- (profile).
abbrev pub PackTo : Style → Allowance → List Record → List ℕ → Type 0
PackTo style l records bytes =
    ((gs : List Tree) × Named l records gs × (bytes ≡ canonical_stream style gs))
    ⊎ ((number : ℕ) × (reason : RowReason) × (gs : List Tree)
    × AreComplete l records number reason gs × (bytes ≡ canonical_stream style gs))

-- a text is packed to these bytes if its records are
abbrev pub PackTextTo : Style → Allowance → List ℕ → List ℕ → Type 0
PackTextTo style l text bytes = (records : List Record) × AreRecordsOf text records × PackTo style l records bytes

-- the records name geometries
abbrev pub NamesSome : Allowance → List Record → Type 0
NamesSome l records = (gs : List Tree) × Named l records gs

-- a text has these records, and they name geometries
abbrev pub IsTable : Allowance → List ℕ → List Record → Type 0
IsTable l text records = AreRecordsOf text records × NamesSome l records

-- the lines of the rows of geometries, without the header (profile)
abbrev pub rows_text : List Tree → List ℕ
rows_text gs = csvtext (map record_of (rows_of gs))

-- the text of the table of geometries (profile)
abbrev pub table_text : List Tree → List ℕ
table_text gs = csvtext (table gs)

-- the GeoJSON of geometries, each in a line (profile)
abbrev pub geojson_text : List Tree → List ℕ
geojson_text gs = flat_map line_of gs

-- The bytes have this text: that of the stream's geometries or, if an item is refused, of those of
-- the blobs before the refused one (profile).
abbrev pub TextTo : (List Tree → List ℕ) → Allowance → List ℕ → List ℕ → Type 0
TextTo text_of l bytes text =
    ((gs : List Tree) × Stream l bytes gs × (text ≡ text_of gs))
    ⊎ ((offset : ℕ) × (reason : Reason) × (gs : List Tree) × StreamFault l bytes gs offset reason
    × (text ≡ text_of gs))

-- a stream is unpacked to this text: the table of its geometries
abbrev pub UnpackTo : Allowance → List ℕ → List ℕ → Type 0
UnpackTo = TextTo table_text

-- At most one more geometry was begun, and bytes of its output are left to be written, so the
-- output of no other geometry is whole.
abbrev pub AtMostOneCut : {A : Type 0} → List A → List ℕ → Type 0
AtMostOneCut {A} later left = (later ≡ []) ⊎ ((one : A) × (later ≡ one ∷ []) × (left ≢ []))

-- ==== What is flushed when a conversion ends.

-- no byte that the writer took is unflushed, unless the cause is that it failed or that too much
-- would be written
abbrev pub IsFlushed : {T W : Type 0} → Result T ConvertFault → Tap W → Type 0
IsFlushed (Ok report) writer = has_unflushed writer ≡ false
IsFlushed (Err fault) writer = fault.cause ≢ cause.WriteDevice → fault.cause ≢ cause.TooLong
    → has_unflushed writer ≡ false

-- no byte that the writer took is unflushed, with a failed read as one more exception
abbrev pub IsFlushedButForDevices : {T W : Type 0} → Result T ConvertFault → Tap W → Type 0
IsFlushedButForDevices (Ok report) writer = has_unflushed writer ≡ false
IsFlushedButForDevices (Err fault) writer = fault.cause ≢ cause.WriteDevice
    → fault.cause ≢ cause.ReadDevice → fault.cause ≢ cause.TooLong → has_unflushed writer ≡ false

-- a fact that holds unless the cause may be that the output refused a call
abbrev pub UnlessRefused : {T : Type 0} → Result T Cause → Type 0 → Type 0
UnlessRefused (Ok done) fact = fact
UnlessRefused (Err why) fact = why ≢ cause.WriteDevice → why ≢ cause.TooLong → fact

-- These bytes were sent, and the output is left like this by an answer: a write failed exactly if
-- that is the cause, and the output is spent if one failed, and only if a call was refused.
pub record Leaves {A W : Type 0} (contents : W → Option (List ℕ)) (old : Output W) (bytes : List ℕ)
    (new : Output W) (answer : Result A Cause) : Type 0 where
  pub sends : Sent contents old bytes new
  pub failures : output_failures new ≡ count_failure (is_write answer) (output_failures old)
  pub quiet : is_spent new ≡ false → output_failures new ≡ output_failures old
  pub unspent : UnlessRefused answer (is_spent new ≡ false)

-- a flush after all was sent or after a stop: it passed, or was refused since a call before was, and
-- the answer stays; or it failed
abbrev pub Flushes : {A W : Type 0} → (W → Option (List ℕ)) → Output W → Result A Cause → Output W
    → Result A Cause → Type 0
Flushes contents old sending new answer =
    (Took contents old [] new × (has_unflushed (output_tap new).now ≡ false) × (answer ≡ sending))
    ⊎ ((is_spent old ≡ true) × (new ≡ old) × (answer ≡ sending))
    ⊎ ((is_spent old ≡ false) × Refused contents old [] out.Write new × (answer ≡ Err cause.WriteDevice))

-- the report or the fault of an answer, with the numbers of geometries and of bytes, and how much
-- of the input was taken
abbrev pub reported : ℕ → ℕ → ℕ → Result (Unit {0}) Cause → Result Report ConvertFault
reported geometries bytes taken (Ok done) = Ok (record { geometries = geometries; bytes = bytes; taken = taken })
reported geometries bytes taken (Err why) =
    Err (record { done = geometries; sent = bytes; taken = taken; cause = why })

-- The output was flushed, and its bytes, this number of geometries, what was taken for them and the
-- answer are reported.
pub record Finishes {W : Type 0} (contents : W → Option (List ℕ)) (old : Output W) (geometries taken : ℕ)
    (sending : Result (Unit {0}) Cause) (new : Output W) (report : Result Report ConvertFault) : Type 0 where
  pub answer : Result (Unit {0}) Cause
  pub flushes : Flushes contents old sending new answer
  pub reports : report ≡ reported geometries (sent_of new) taken answer
