-- The results of packing a table, and of unpacking or showing a stream, and the work of packing.
use Rattle.std.specs.Prelude.{ℕ, List, Option, ◌≡◌, ◌+◌, ◌*◌, ◌≤◌, [], ◌∷◌, length, ◌-◌, ◌^◌, ◌<◌, ◌⊎◌, ◌++◌, ⊤}
use Rattle.twkb_io.specs.declared.tap.Tap.{Tap}
use Rattle.twkb_tree.specs.Limits.{Allowance}
use Rattle.twkb_grammar.specs.Items.{Stream}
use Rattle.twkb_convert.specs.Outputs.{table_text, geojson_text, AtMostOneCut}
use Rattle.twkb_convert.specs.Listed.{Listed, StoppedListing}
use Rattle.twkb_convert.specs.declared.report.Report.{Report}
use Rattle.twkb_convert.specs.declared.report.ConvertFault.{ConvertFault}
use Rattle.twkb_convert.specs.Listings.{LocatedStream, geometries_of, lines_text}
use Rattle.twkb_tree.specs.Tree.{Tree, flat, nodes, saturated}
use Rattle.twkb_flat.specs.declared.work.Work.{Work}
use Rattle.twkb_grammar.specs.Noting.{geometries}
use Rattle.std.specs.Io.KnownBytes.{Appends, IsAtEnd}
use Rattle.twkb_io.specs.declared.TheConstants.{MAX_BYTES}
use Rattle.twkb_io.specs.Taps.{bytes_given, device_of, failures_of}
use Rattle.twkb_grammar.specs.Written.{canonical_stream}
use Rattle.twkb_grammar.specs.declared.style.Style.{Style}
use Rattle.twkb_convert.specs.Causes.{Changes, DevicesTell}
use Rattle.twkb_convert.specs.Parts.{FrontOfBlobs, HasTooMany, IsRefusedAt, NamesAll, WholeTable, records_of}
use Rattle.twkb_convert.specs.declared.report.Cause.{Cause}
use Rattle.twkb_convert.specs.declared.report.Cause.TheVariants as cause

-- ==== The result of unpacking a stream.

-- All bytes of the reader are a stream, and the writer took the text of its table. The report has
-- the numbers of geometries, of bytes written and of bytes taken, no device failed, and the reader
-- is at its end.
abbrev pub Unpacked : {R W : Type 0} → Allowance → (R → Option (List ℕ)) → (W → Option (List ℕ))
    → Tap R → Tap W → Report → Tap R → Tap W → Type 0
Unpacked l = Listed (Stream l) table_text

-- The bytes of the reader begin with blobs, and the writer took a prefix of the text of their
-- table, with all rows of the first ones. The fault has the number of these (`done`), how many
-- bytes of the input they are (`taken`), the length of the prefix (`sent`), and a cause that
-- explains why the writing stopped there, and agrees with the failures that the taps counted.
abbrev pub StoppedUnpacking : {R W : Type 0} → Allowance → (R → Option (List ℕ))
    → (W → Option (List ℕ)) → Tap R → Tap W → ConvertFault → Tap R → Tap W → Type 0
StoppedUnpacking l = StoppedListing (Stream l) (λ trees. trees) table_text l

-- ==== The result of unpacking a stream as GeoJSON.

-- All bytes of the reader are a stream, and the writer took the lines of its geometries. The report
-- has the numbers of geometries, of bytes written and of bytes taken, no device failed, and the
-- reader is at its end.
abbrev pub UnpackedGeojson : {R W : Type 0} → Allowance → (R → Option (List ℕ)) → (W → Option (List ℕ))
    → Tap R → Tap W → Report → Tap R → Tap W → Type 0
UnpackedGeojson l = Listed (Stream l) geojson_text

-- The bytes of the reader begin with blobs, and the writer took a prefix of the lines of their
-- geometries, with all of the first ones. The fault is as with `StoppedUnpacking`.
abbrev pub StoppedGeojson : {R W : Type 0} → Allowance → (R → Option (List ℕ))
    → (W → Option (List ℕ)) → Tap R → Tap W → ConvertFault → Tap R → Tap W → Type 0
StoppedGeojson l = StoppedListing (Stream l) (λ trees. trees) geojson_text l

-- ==== The result of showing a stream.

-- All bytes of the reader are a stream, and the writer took the lines of its blobs. The report has
-- the numbers of geometries, of bytes written and of bytes taken, no device failed, and the reader
-- is at its end.
abbrev pub Shown : {R W : Type 0} → Allowance → (R → Option (List ℕ)) → (W → Option (List ℕ))
    → Tap R → Tap W → Report → Tap R → Tap W → Type 0
Shown l = Listed (LocatedStream l 0) lines_text

-- The bytes of the reader begin with blobs, and the writer took a prefix of their lines, with all
-- lines of the first ones. The fault is as with `StoppedUnpacking`.
abbrev pub StoppedShowing : {R W : Type 0} → Allowance → (R → Option (List ℕ))
    → (W → Option (List ℕ)) → Tap R → Tap W → ConvertFault → Tap R → Tap W → Type 0
StoppedShowing l = StoppedListing (LocatedStream l 0) geometries_of lines_text l

-- ==== The work of packing geometries.

-- the number of points of a geometry
abbrev pub points : Tree → ℕ
points g = length (flat g)

-- the work of no geometry
abbrev pub no_work : Work
no_work = record { points = 0; nodes = 0; entries = 0; point_reads = 0; node_reads = 0 }

-- the sum of a count over geometries
abbrev pub total : (Tree → ℕ) → List Tree → ℕ
total count [] = 0
total count (g ∷ gs) = count g + total count gs

-- One more geometry was measured and written, with at most twice as many reads of points as it has
-- points, and at most three times as many reads of nodes as it has nodes.
pub record AddsWork (g : Tree) (old new : Work) : Type 0 where
  pub more_points : new.points ≡ saturated (old.points + points g)
  pub more_nodes : new.nodes ≡ saturated (old.nodes + nodes g)
  pub more_entries : new.entries ≡ saturated (old.entries + geometries g)
  pub point_reads : new.point_reads ≤ old.point_reads + 2 * points g
  pub node_reads : new.node_reads ≤ old.node_reads + 3 * nodes g

-- The work of packing these geometries: their points, nodes and TWKB geometries, each sum capped
-- at the greatest u64; at most twice as many reads of points as they have points, and at most three
-- times as many reads of nodes as they have nodes.
pub record IsWorkOf (gs : List Tree) (work : Work) : Type 0 where
  pub all_points : work.points ≡ saturated (total points gs)
  pub all_nodes : work.nodes ≡ saturated (total nodes gs)
  pub all_entries : work.entries ≡ saturated (total geometries gs)
  pub point_reads : work.point_reads ≤ 2 * total points gs
  pub node_reads : work.node_reads ≤ 3 * total nodes gs

-- ==== The result of packing a table.

-- The records of the reader's text, fewer than RECORD_CAP, name geometries, and their canonical
-- stream in this style was written after the bytes that the writer held. No device failed, and
-- the reader is at its end.
pub record Packed {R W : Type 0} (style : Style) (l : Allowance) (remaining : R → Option (List ℕ))
    (contents : W → Option (List ℕ)) (reader : Tap R) (writer : Tap W)
    (report : Report) (read : Tap R) (written : Tap W) : Type 0 where
  pub table : WholeTable l (remaining (device_of reader))
  pub appends : Appends (contents (device_of writer)) (contents (device_of written))
      (canonical_stream style table.geometries)
  pub count : report.geometries ≡ length table.geometries
  pub bytes : report.bytes ≡ length (canonical_stream style table.geometries)
  pub taken : report.taken ≡ records_of table.geometries
  pub end : IsAtEnd (remaining (device_of read))
  pub reads : failures_of read ≡ failures_of reader
  pub writes : failures_of written ≡ failures_of writer

-- The whole table was packed, and this is the work of measuring and writing its geometries.
pub record PackedWith {R W : Type 0} (style : Style) (l : Allowance)
    (remaining : R → Option (List ℕ)) (contents : W → Option (List ℕ)) (reader : Tap R)
    (writer : Tap W)
    (report : Report) (work : Work) (read : Tap R) (written : Tap W) : Type 0 where
  pub packed : Packed style l remaining contents reader writer report read written
  pub work_of : IsWorkOf packed.table.geometries work
  pub point_reads : work.point_reads ≤ 2 * work.points
  pub node_reads : work.node_reads ≤ 3 * work.nodes

-- What a cause says about the table and the bytes written. Row: all output of the geometries that
-- the refusal leaves complete was written. TooLong: the output would be too long, or after the
-- whole table the reader gave bytes until its tap's count of them was full. ReadDevice: a blob is
-- cut only if the output would also be too long. WriteDevice: nothing. The other causes leave no
-- blob cut.
abbrev pub ExplainsPackingCause : Style → Allowance → Option (List ℕ) → ℕ → Cause → List Tree
    → List Tree → List ℕ → Type 0
ExplainsPackingCause style l told given (cause.Row number reason) whole later front = (later ≡ [])
    × (front ≡ []) × IsRefusedAt l told number reason whole
ExplainsPackingCause style l told given cause.TooManyRecords whole later front =
    (later ≡ []) × (front ≡ []) × HasTooMany l told whole
ExplainsPackingCause style l told given (cause.Blob offset reason) whole later front = ⊥
ExplainsPackingCause style l told given cause.ReadDevice whole later front =
    ((later ≡ []) × (front ≡ [])) ⊎ (MAX_BYTES < length (canonical_stream style (whole ++ later)))
ExplainsPackingCause style l told given cause.WriteDevice whole later front = ⊤
ExplainsPackingCause style l told given cause.Memory whole later front = (later ≡ []) × (front ≡ [])
ExplainsPackingCause style l told given cause.TooLong whole later front =
    (MAX_BYTES < length (canonical_stream style (whole ++ later)))
    ⊎ ((later ≡ []) × (front ≡ []) × NamesAll l told whole × (2 ^ 64 - 1 ≤ given))

-- The writer took canonical blobs of geometries that may be written, and a prefix of the next blob.
pub record StoppedPacking {R W : Type 0} (style : Style) (l : Allowance)
    (remaining : R → Option (List ℕ)) (contents : W → Option (List ℕ)) (reader : Tap R)
    (writer : Tap W)
    (fault : ConvertFault) (read : Tap R) (written : Tap W) : Type 0 where
  pub bytes : List ℕ
  pub part : FrontOfBlobs style l (remaining (device_of reader)) bytes
  pub one : AtMostOneCut part.later part.rest
  pub appends : Appends (contents (device_of writer)) (contents (device_of written)) bytes
  pub sent : fault.sent ≡ length bytes
  pub done : fault.done ≡ length part.whole
  pub taken : fault.taken ≡ records_of part.whole
  pub explains : ExplainsPackingCause style l (remaining (device_of reader)) (bytes_given read)
      fault.cause part.whole part.later part.front
  pub devices : DevicesTell Changes reader writer fault.cause read written
