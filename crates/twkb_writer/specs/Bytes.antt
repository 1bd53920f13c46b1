-- The bytes of rows in preorder, given the measured sizes of their geometries, and how a gatherer puts them.
use Rattle.std.specs.Prelude.{ℕ, zero, suc, ◌+◌, Bool, true, false, if◌then◌else◌, nat_le, nat_eq, not, ◌&&◌, is_some}
use Rattle.std.specs.Prelude.{List, [], ◌∷◌, ◌++◌, length, drop, flat_map, ℤ, Option, None, Some, ◌≡◌, ◌*◌}
use Rattle.twkb_num.specs.Spelling.{zigzag_of}
use Rattle.twkb_num.specs.Varint.{varint_of}
use Rattle.twkb_points.specs.Point.{Point, origin}
use Rattle.twkb_points.specs.Steps.{differences_from}
use Rattle.twkb_points.specs.Extent.{Extent, box_numbers}
use Rattle.twkb_tree.specs.declared.kind.Kind.{Kind}
use Rattle.twkb_tree.specs.declared.kind.Kind.TheVariants as kind
use Rattle.twkb_tree.specs.Rows.{Row}
use Rattle.twkb_grammar.specs.declared.style.Style.{Style}
use Rattle.twkb_grammar.specs.declared.style.Style.TheVariants.{Full, Plain}
use Rattle.twkb_grammar.specs.Roles.{type_byte, metadata_number}
use Rattle.twkb_grammar.specs.declared.metadata.MetadataFlags.{MetadataFlags}
use Rattle.twkb_writer.specs.declared.sizes.Entry.{Entry}
use Rattle.twkb_tree.specs.Tree.{Tree, simple, point, line, saturated}
use Rattle.twkb_flat.specs.declared.work.Work.{Work}
use Rattle.twkb_io.specs.Sinks.{TookFront}
use Rattle.twkb_writer.specs.declared.gatherer.Gatherer.{Gatherer}
use Rattle.twkb_writer.specs.declared.encoded_geometry.EncodeFault.{EncodeFault}
use Rattle.twkb_writer.specs.declared.encoded_geometry.EncodeFault.TheVariants.{Memory, Sink}

-- ==== The bytes of rows in preorder, given the measured sizes of their geometries.

-- ---- numbers

-- a signed number: the shortest varint of its zigzag form (TWKB, zigzag)
abbrev pub signed : ℤ → List ℕ
signed n = varint_of (zigzag_of n)

-- a difference: x, then y (TWKB, point arrays)
abbrev pub step_bytes : ℤ × ℤ → List ℕ
step_bytes d = signed d.0 ++ signed d.1

-- the bytes of the differences from a point through some others (TWKB, point arrays)
abbrev pub way_bytes : Point → List Point → List ℕ
way_bytes at ps = flat_map step_bytes (differences_from at ps)

-- the last of the points, or the first point given if there are none
abbrev pub way_end : Point → List Point → Point
way_end at [] = at
way_end at (p ∷ ps) = way_end p ps

-- ---- members

-- the members of a row among the rows after it: the rows one level deeper, up to the first row
-- that is no deeper than it
abbrev pub members_below : ℕ → List Row → List Row
members_below d [] = []
members_below d (r ∷ rs) = if nat_le r.depth d then [] else if nat_eq r.depth (suc d) then r
    ∷ members_below d rs else members_below d rs

-- the bytes of an id; none if there is no id
abbrev pub id_bytes : Option ℤ → List ℕ
id_bytes None = []
id_bytes (Some n) = signed n

-- the bytes of the ids of rows
abbrev pub ids_bytes : List Row → List ℕ
ids_bytes rs = flat_map (λ (r : Row). id_bytes r.id) rs

-- the bytes of the counts before the points of a row: npoints of a linestring or ring, or the count
-- and the ids of members (TWKB, description of types)
abbrev pub counts_bytes : Kind → ℕ → ℕ → List ℕ → List ℕ
counts_bytes kind.Point own members ids = []
counts_bytes kind.Linestring own members ids = varint_of own
counts_bytes kind.Ring own members ids = varint_of own
counts_bytes _ own members ids = varint_of members ++ ids

-- ---- headers

-- the count is 0
abbrev pub is_zero : ℕ → Bool
is_zero zero = true
is_zero (suc n) = false

-- a geometry with this many points in its own row has no body (profile)
abbrev pub is_bare : ℕ → Entry → Bool
is_bare own e = is_zero own && is_zero e.members

-- whether blobs of a style have sizes and boxes
abbrev pub is_full : Style → Bool
is_full Full = true
is_full Plain = false

-- the flags of the metadata byte in a style: ids only with a body, size and box only in a full
-- blob (TWKB, metadata header; profile)
abbrev pub flags_of : Style → ℕ → Entry → MetadataFlags
flags_of style own e = record {
  has_box = is_full style && is_some e.bounds;
  has_size = is_full style;
  has_ids = not (is_bare own e) && e.named;
  is_empty = is_bare own e;
}

-- the metadata byte in a style
abbrev pub metadata_of : Style → ℕ → Entry → ℕ
metadata_of style own e = metadata_number (flags_of style own e)

-- the bytes of the size, which only a full blob has
abbrev pub size_bytes : Style → Entry → List ℕ
size_bytes Full e = varint_of e.size
size_bytes Plain e = []

-- the bytes of the four numbers of the box (TWKB, bounding box)
abbrev pub box_bytes : Option Extent → List ℕ
box_bytes None = []
box_bytes (Some b) = flat_map signed (box_numbers b)

-- the bytes of a geometry's header: type byte, metadata byte, size and box
abbrev pub header : Style → Kind → ℤ → ℕ → Entry → List ℕ
header style k p own e = type_byte k p ∷ metadata_of style own e ∷ (size_bytes style e ++ box_bytes e.bounds)

-- ---- rows

-- the bytes before the points of a row that is a geometry itself, given its kind, its depth, the
-- number of its points and the rows after it
abbrev pub geometry_lead : Style → ℤ → Entry → Kind → ℕ → ℕ → List Row → List ℕ
geometry_lead style p e k d own rs =
    header style k p own e ++ (if is_bare own e then [] else counts_bytes k own e.members
    (if e.named then ids_bytes (members_below d rs) else []))

-- the bytes before the points of a component of a geometry: a ring, or a member of a multi type
abbrev pub component_lead : Kind → ℕ → ℕ → List Row → List ℕ
component_lead k d own rs = counts_bytes k own (length (members_below d rs)) []

-- the bytes before the points of any row; a row with a precision is a geometry itself
abbrev pub lead : Style → Option ℤ → List Entry → Kind → ℕ → ℕ → List Row → List ℕ
lead style None es k d own rs = component_lead k d own rs
lead style (Some p) [] k d own rs = []
lead style (Some p) (e ∷ es) k d own rs = geometry_lead style p e k d own rs

-- the point from which the first difference of a row counts: the origin for a geometry itself, the
-- point before it for a component (profile)
abbrev pub way_start : Option ℤ → Point → Point
way_start None at = at
way_start (Some p) at = origin

-- the number of entries of a row
abbrev pub entry_count : Option ℤ → ℕ
entry_count None = 0
entry_count (Some p) = 1

-- the bytes of rows with their entries, after a given point
abbrev pub rows_bytes : Style → Point → List Entry → List Row → List ℕ
rows_bytes style at es [] = []
rows_bytes style at es (r ∷ rs) =
    (lead style r.precision es r.kind r.depth (length r.points) rs ++ way_bytes (way_start r.precision at) r.points)
    ++ rows_bytes style (way_end (way_start r.precision at) r.points) (drop (entry_count r.precision) es) rs

-- the number of entries of the rows
abbrev pub entries_in : List Row → ℕ
entries_in [] = 0
entries_in (r ∷ rs) = entry_count r.precision + entries_in rs

-- ==== The blob of a point that is not empty.

-- the geometry that is this point, with this precision
abbrev pub one_point : ℤ → Point → Tree
one_point p q = simple p (point (Some q))

-- the bytes between a point's type byte and its body of this size: the metadata byte and, in a full
-- blob, the size (TWKB, metadata header and size)
abbrev pub point_frame : Style → ℕ → List ℕ
point_frame Full size = 2 ∷ varint_of size
point_frame Plain size = 0 ∷ []

-- ==== The blob of a line.

-- the geometry that is the line through these points, with this precision
abbrev pub one_line : ℤ → List Point → Tree
one_line p ps = simple p (line ps)

-- a line of this many points was measured, and twice as many reads of points were counted, and none of nodes
pub record MeasuresLine (old : Work) (points : ℕ) (new : Work) : Type 0 where
  pub more_points : new.points ≡ saturated (old.points + points)
  pub more_nodes : new.nodes ≡ saturated (old.nodes + 1)
  pub more_entries : new.entries ≡ saturated (old.entries + 1)
  pub point_reads : new.point_reads ≡ saturated (old.point_reads + 2 * points)
  pub same_node_reads : new.node_reads ≡ old.node_reads

-- ==== The bytes put through a gatherer, which collects them in a piece on their way to a sink.

-- since a first state, the sink took all of these bytes but the held ones, or took a prefix of them
-- and refused a put
abbrev pub Stands : {S F : Type 0} → (S → List ℕ → S → Type 0) → (S → List ℕ → F → S → Type 0) → S
    → List ℕ → Option F → S → List ℕ → Type 0
Stands took refused from bytes None sink held = (front : List ℕ) × took from front sink × (bytes ≡ front ++ held)
Stands took refused from bytes (Some fault) sink held = TookFront refused from bytes fault sink

-- these bytes were put after all earlier bytes
pub record Put {S F : Type 0} (took : S → List ℕ → S → Type 0) (refused : S → List ℕ → F → S
    → Type 0) (old : Gatherer S F) (bytes : List ℕ) (new : Gatherer S F) : Type 0 where
  pub same_sink : new.sink.ghost_name ≡ old.sink.ghost_name
  pub same_fault : new.fault.ghost_name ≡ old.fault.ghost_name
  pub puts : (from : S) (before : List ℕ) → Stands took refused from before old.fault.now old.sink.now old.piece.now
      → Stands took refused from (before ++ bytes) new.fault.now new.sink.now new.piece.now

-- of all the bytes, these are still to be put
pub record Progress {S F : Type 0} (took : S → List ℕ → S → Type 0) (refused : S → List ℕ → F → S
    → Type 0) (old : Gatherer S F) (all : List ℕ) (new : Gatherer S F)
    (rest : List ℕ) : Type 0 where
  pub written : List ℕ
  pub put : Put took refused old written new
  pub total : written ++ rest ≡ all

-- ==== The bytes that a sink took of a geometry that was not written to its end.

-- no bytes if memory was refused, otherwise a prefix of them
abbrev pub Stopped : {T F : Type 0} → (T → List ℕ → F → T → Type 0) → T → List ℕ → EncodeFault F → T → Type 0
Stopped refused old bytes Memory new = new ≡ old
Stopped refused old bytes (Sink fault) new = TookFront refused old bytes fault new
