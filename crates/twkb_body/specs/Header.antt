-- The header that was read, and a header that is complete at the start of bytes.
use Rattle.std.specs.Prelude.{◌≡◌, ℕ, ℤ, Option, ⊤, false, ◌+◌, ◌≤◌, ◌<◌, ◌%◌, List, length, drop, get_or}
use Rattle.twkb_tree.specs.declared.kind.Kind as row
use Rattle.twkb_tree.specs.declared.kind.Kind.TheVariants as kinds
use Rattle.twkb_grammar.specs.Machine as machine
use Rattle.twkb_grammar.specs.Machine.{SimpleKind, CollectionKind, PointForm, LineForm, PolygonForm, MultiPointForm}
use Rattle.twkb_grammar.specs.Machine.{MultiLineForm, MultiPolygonForm, Many, ManyPoints, ManyLines, ManyPolygons}
use Rattle.twkb_grammar.specs.Machine.{ManyGeometries}
use Rattle.twkb_body.specs.declared.head.Head.{Head}
use Rattle.twkb_grammar.specs.Bits.{bit}
use Rattle.twkb_body.specs.HeaderParts.{PartsInFront}
use Rattle.twkb_body.specs.declared.header.FrontHeader.{FrontHeader}

-- ==== The header that was read.

-- the type whose row is of this kind; no type has rings
abbrev pub kind_of : row.Kind → machine.Kind
kind_of kinds.Point = SimpleKind PointForm
kind_of kinds.Linestring = SimpleKind LineForm
kind_of kinds.Polygon = SimpleKind PolygonForm
kind_of kinds.MultiPoint = SimpleKind MultiPointForm
kind_of kinds.MultiLinestring = SimpleKind MultiLineForm
kind_of kinds.MultiPolygon = SimpleKind MultiPolygonForm
kind_of _ = CollectionKind

-- the form of a body of this kind; a collection has none of its own
abbrev pub form_of : row.Kind → machine.BodyForm
form_of kinds.Point = PointForm
form_of kinds.Linestring = LineForm
form_of kinds.Polygon = PolygonForm
form_of kinds.MultiPoint = MultiPointForm
form_of kinds.MultiLinestring = MultiLineForm
form_of _ = MultiPolygonForm

-- what the count of a geometry of this kind counts
abbrev pub many_of : row.Kind → Many
many_of kinds.MultiPoint = ManyPoints
many_of kinds.MultiLinestring = ManyLines
many_of kinds.MultiPolygon = ManyPolygons
many_of _ = ManyGeometries

-- it is the kind of a type
abbrev pub IsTyped : row.Kind → Type 0
IsTyped kinds.Ring = ⊥
IsTyped _ = ⊤

-- it is the kind of a type that has a body of its own
abbrev pub IsBodied : row.Kind → Type 0
IsBodied kinds.Ring = ⊥
IsBodied kinds.Collection = ⊥
IsBodied _ = ⊤

-- the header as the grammar has it
abbrev pub head_of : Head → machine.Head
head_of h = record { precision = h.precision; meta = h.metadata; size = h.size; from = h.from }

-- the header's geometry is at this depth and has this id
pub record IsHeadAt (depth : ℕ) (id : Option ℤ) (h : Head) : Type 0 where
  pub depth_is : h.depth ≡ depth
  pub id_is : h.id ≡ id

-- ==== A header that is complete at the start of bytes.

-- the first byte names a type, the second asks for a body, and after them are the parts that it asks for
pub record HeaderInFront (bytes : List ℕ) (h : FrontHeader) : Type 0 where
  pub two : 2 ≤ length bytes
  pub type_byte : h.type_byte ≡ get_or bytes 0 0
  pub metadata : h.metadata ≡ get_or bytes 1 0
  pub some_type : 0 < h.type_byte % 16
  pub known_type : h.type_byte % 16 < 8
  pub body : bit h.metadata 4 ≡ false
  pub parts : PartsInFront h.metadata (drop 2 bytes) h.parts.size h.parts.from h.parts.used
  pub from : h.from ≡ 2 + h.parts.from
  pub used : h.used ≡ 2 + h.parts.used
