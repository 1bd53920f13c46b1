-- What is printed to a writer that may fail, and the line on standard error (profile).
use Rattle.std.specs.Prelude.{ℕ, ◌≡◌, ◌<◌, ◌≤◌, ◌+◌, ◌-◌, ◌^◌, ◌⊎◌, List, Option, length, true, false, ◌++◌, codes}
use Rattle.std.specs.Prelude.{decimal, None, Some, [], ⊤}
use Rattle.std.specs.Io.KnownBytes.{Appends}
use Rattle.twkb_io.specs.declared.tap.Tap.{Tap}
use Rattle.twkb_io.specs.declared.output.Output.{Output}
use Rattle.twkb_io.specs.declared.TheConstants.{MAX_BYTES}
use Rattle.twkb_io.specs.Taps.{count_failure, device_of, failures_of}
use Rattle.twkb_io.specs.Outputs.{Took, is_spent, output_failures, output_tap, sent_of}
use Rattle.twkb_polyline.specs.declared.fault.PolyReason.{PolyReason}
use Rattle.twkb_polyline.specs.Fault.{point_text_words}
use Rattle.twkb_table.specs.declared.reason.RowReason.{RowReason}
use Rattle.twkb_table.specs.declared.reason.RowReason.TheVariants as row
use Rattle.twkb_table.specs.RowFault.{row_words}
use Rattle.twkb_engine.specs.Texts.{blob_words}
use Rattle.twkb_convert.specs.declared.report.Cause.{Cause}
use Rattle.twkb_convert.specs.declared.report.Cause.TheVariants as cause
use Rattle.twkb_convert.specs.Causes.{cause_words}
use Rattle.twkb_column.specs.Causes.{reason_words}
use Rattle.twkb_hex.specs.Causes.{reason_words as hex_words}
use Rattle.twkb_hex.specs.declared.report.HexReason.{HexReason}
use Rattle.twkb_hex.specs.declared.report.HexReason.TheVariants as hex
use Rattle.twkb_rest.specs.Unpacked.{line_words}
use Rattle.twkb_command.specs.declared.stop.Stop.{Stop}
use Rattle.twkb_command.specs.declared.stop.Stop.TheVariants as stop

-- ==== What is printed to a writer that may fail.

-- A write failed, and no more bytes are taken.
pub record Fails {W : Type 0} (old new : Output W) : Type 0 where
  pub same_tap : (output_tap new).ghost_name ≡ (output_tap old).ghost_name
  pub failures : output_failures new ≡ count_failure true (output_failures old)
  pub spent : is_spent new ≡ true

-- The writer took all of these bytes, or a write failed, now or earlier.
pub record Prints {W : Type 0} (contents : W → Option (List ℕ)) (old : Output W) (bytes : List ℕ)
    (new : Output W) : Type 0 where
  pub puts : is_spent old ≡ false → sent_of old + length bytes ≤ MAX_BYTES → Took contents old bytes new ⊎ Fails old new
  pub stays : is_spent old ≡ true → new ≡ old

-- these bytes were added to those that the writer took, unless a write failed
abbrev pub IsPrinted : {W : Type 0} → (W → Option (List ℕ)) → Tap W → List ℕ → Tap W → Type 0
IsPrinted contents old bytes new = failures_of old < 2 ^ 64 - 1 → failures_of new ≡ failures_of old
    → Appends (contents (device_of old)) (contents (device_of new)) bytes

-- ==== The line on standard error for a conversion that stopped, or for words that were refused
-- (profile).

-- the reason and the place of a fault in a text of points
abbrev pub text_reason : ℕ → PolyReason → List ℕ
text_reason offset reason = codes "polyline at " ++ (decimal offset ++ (codes ": " ++ point_text_words reason))

-- the reason for which a record is refused
abbrev pub reason_text : RowReason → List ℕ
reason_text (row.Polyline offset reason) = text_reason offset reason
reason_text reason = row_words reason

-- an offset in a blob, and a reason
abbrev pub at_byte : ℕ → List ℕ → List ℕ
at_byte offset words = codes "byte " ++ (decimal offset ++ (codes ": " ++ words))

-- the reason for which a field of a column is not converted from digits or to them
abbrev pub hex_reason_text : HexReason → List ℕ
hex_reason_text (hex.Polyline offset reason) = text_reason offset reason
hex_reason_text (hex.NoDigits offset) = at_byte offset (codes "no hexadecimal digits")
hex_reason_text (hex.OddDigits offset) = at_byte offset (codes "odd number of digits")
hex_reason_text (hex.Blob offset reason) = at_byte offset (blob_words reason)
hex_reason_text hex.NoLinestring = at_byte 0 (codes "no linestring")
hex_reason_text (hex.MoreBlobs offset) = at_byte offset (codes "more than one blob")
hex_reason_text reason = hex_words reason

-- the place and the reason of a stop
abbrev pub cause_text : Cause → List ℕ
cause_text (cause.Row number reason) = codes "record " ++ (decimal number ++ (codes ": " ++ reason_text reason))
cause_text (cause.Blob offset reason) = codes "byte " ++ (decimal offset ++ (codes ": " ++ blob_words reason))
cause_text c = cause_words c

-- the place and the reason of a job's stop
abbrev pub stop_text : Stop → List ℕ
stop_text (stop.Cause c) = cause_text c
stop_text (stop.Csv number reason) = codes "record " ++ (decimal number ++ (codes ": " ++ reason_words reason))
stop_text (stop.Hex number reason) = codes "record " ++ (decimal number ++ (codes ": " ++ hex_reason_text reason))
stop_text (stop.Line offset reason) = codes "byte " ++ (decimal offset ++ (codes ": " ++ line_words reason))

-- what is before a message about a file: its name, a colon and a space; nothing if it has no name
abbrev pub before_of : Option (List ℕ) → List ℕ
before_of None = []
before_of (Some name) = name ++ codes ": "

-- the line of a stop, about a file with this name if it has one
abbrev pub named_line : Option (List ℕ) → Stop → List ℕ
named_line name why = codes "polytwkb: " ++ (before_of name ++ (stop_text why ++ codes "\n"))

-- the line of a cause, without a name
abbrev pub line_of : Cause → List ℕ
line_of c = named_line None (stop.Cause c)

-- the line of a file with this name that the system refuses with these words
abbrev pub file_line : List ℕ → List ℕ → List ℕ
file_line name words = codes "polytwkb: " ++ (name ++ (codes ": " ++ (words ++ codes "\n")))

-- the name has at most 2^61 bytes, if there is one
abbrev pub HasShortName : Option (List ℕ) → Type 0
HasShortName None = ⊤
HasShortName (Some name) = length name ≤ 2 ^ 61

-- the line for a word that is not UTF-8
abbrev pub no_text_line : List ℕ
no_text_line = codes "polytwkb: a word is not UTF-8\n"
