-- The item machine: after any prefix of items it knows which geometries are open and which item
-- comes next. It has no limits and checks no sizes. It is our way to walk through the items of a
-- geometry, and no part of the format: the laws `machine` and `fronts` state that it accepts the
-- items of geometries and their prefixes, and nothing else.
use Rattle.std.specs.Prelude.{◌≡◌, ℕ, zero, suc, ◌+◌, ◌-◌, ◌/◌, ◌%◌, if◌then◌else◌, List, [], ◌∷◌}
use Rattle.std.specs.Prelude.{◌++◌, length, ℤ, Option, Some, None}
use Rattle.twkb_num.specs.Spelling.{unzigzag_of}
use Rattle.twkb_points.specs.Point.{Point, origin}
use Rattle.twkb_tree.specs.Tree.{Simple, point, line, polygon, multi_point, multi_line}
use Rattle.twkb_tree.specs.Tree.{multi_polygon, Tree, simple, collection, Trees, end, ◌▷◌, Ids}
use Rattle.twkb_grammar.specs.Bits.{bit}
use Rattle.twkb_grammar.specs.Roles.{Counted, Vertices, Rings, Points, Components, Geometries, Role, Header, Metadata}
use Rattle.twkb_grammar.specs.Roles.{Extended, Size, Box, Count, Id, X, Y, End, Item, IsItem, where_set}
use Rattle.twkb_grammar.specs.Fault.{nodes_by, points_by, moved}

-- A point, a list of points, a list of such lists, and so on.
abbrev pub Nested : ℕ → Type 0
Nested zero = Point
Nested (suc d) = List (Nested d)

-- The place of a value of depth d in one of depth `whole`: at the top, or in a list with some
-- values done before it and some left after it.
pub data Around (whole : ℕ) : ℕ → Type 0 where
  top : Around whole whole
  within : {d : ℕ} → (done : List (Nested d)) → (left : ℕ) → Around whole (suc d) → Around whole d

-- A body that is being read: a count, or at depth 0 an x, is expected; a y is expected; or the
-- body is complete.
pub data Body (whole : ℕ) : Type 0 where
  Want : (d : ℕ) → Around whole d → Body whole
  WantY : Around whole 0 → Body whole
  Done : Nested whole → Body whole

-- The body after a complete value: the next one of its list is expected, or the list is complete
-- too.
abbrev pub closed : {whole d : ℕ} → Around whole d → Nested d → Body whole
closed top v = Done v
closed (within done zero a) v = closed a (done ++ v ∷ [])
closed (within {d = d} done (suc left) a) v = Want d (within (done ++ v ∷ []) left a)

-- The body at the start of a list of n values.
abbrev pub opened : {whole : ℕ} (d n : ℕ) → Around whole (suc d) → Body whole
opened d zero a = closed a []
opened d (suc n) a = Want d (within [] n a)

-- A body after a number, which leads to position p.
abbrev pub body_after : {whole : ℕ} → Point → ℕ → Body whole → Body whole
body_after p n (Want zero a) = WantY a
body_after p n (Want (suc d) a) = opened d n a
body_after p n (WantY a) = closed a p
body_after p n (Done v) = Done v

-- The six simple types (TWKB, description of types).
pub data BodyForm : Type 0 where
  PointForm LineForm PolygonForm MultiPointForm MultiLineForm MultiPolygonForm : BodyForm

-- The seven types: the simple ones, and the collection (TWKB, type and precision).
pub data Kind : Type 0 where
  SimpleKind : BodyForm → Kind
  CollectionKind : Kind

-- The number of a type (TWKB, type and precision).
abbrev pub kind_number : Kind → ℕ
kind_number (SimpleKind PointForm) = 1
kind_number (SimpleKind LineForm) = 2
kind_number (SimpleKind PolygonForm) = 3
kind_number (SimpleKind MultiPointForm) = 4
kind_number (SimpleKind MultiLineForm) = 5
kind_number (SimpleKind MultiPolygonForm) = 6
kind_number CollectionKind = 7

-- The type with a number from 1 to 7.
abbrev pub kind_at : ℕ → Kind
kind_at (suc zero) = SimpleKind PointForm
kind_at (suc (suc zero)) = SimpleKind LineForm
kind_at (suc (suc (suc zero))) = SimpleKind PolygonForm
kind_at (suc (suc (suc (suc zero)))) = SimpleKind MultiPointForm
kind_at (suc (suc (suc (suc (suc zero))))) = SimpleKind MultiLineForm
kind_at (suc (suc (suc (suc (suc (suc zero)))))) = SimpleKind MultiPolygonForm
kind_at _ = CollectionKind

-- How deep the lists of a form are nested.
abbrev pub depth_of : BodyForm → ℕ
depth_of PointForm = 0
depth_of LineForm = 1
depth_of PolygonForm = 2
depth_of MultiPointForm = 1
depth_of MultiLineForm = 2
depth_of MultiPolygonForm = 3

-- The shape of a form, with these ids and this value.
abbrev pub shape_of : (f : BodyForm) → Ids → Nested (depth_of f) → Simple
shape_of PointForm ids p = point (Some p)
shape_of LineForm ids ps = line ps
shape_of PolygonForm ids rings = polygon rings
shape_of MultiPointForm ids ps = multi_point ids ps
shape_of MultiLineForm ids lines = multi_line ids lines
shape_of MultiPolygonForm ids areas = multi_polygon ids areas

-- The geometry that bit 4 stands for (TWKB, metadata header).
abbrev pub empty_of : Kind → ℤ → Tree
empty_of (SimpleKind PointForm) p = simple p (point None)
empty_of (SimpleKind LineForm) p = simple p (line [])
empty_of (SimpleKind PolygonForm) p = simple p (polygon [])
empty_of (SimpleKind MultiPointForm) p = simple p (multi_point None [])
empty_of (SimpleKind MultiLineForm) p = simple p (multi_line None [])
empty_of (SimpleKind MultiPolygonForm) p = simple p (multi_polygon None [])
empty_of CollectionKind p = collection p None end

-- A header that was read: its precision, its metadata byte, its size if it has one, and `from`,
-- the place from which a size counts the bytes.
pub record Head : Type 0 where
  pub precision : ℤ
  pub meta : ℕ
  pub size : Option ℕ
  pub from : ℕ

-- An open collection: its header and ids, its members so far, and how many are left after the open
-- one.
pub record Frame : Type 0 where
  pub head : Head
  pub ids : Ids
  pub done : Trees
  pub left : ℕ

-- The types that may have ids, by what their members are.
pub data Many : Type 0 where
  ManyPoints ManyLines ManyPolygons ManyGeometries : Many

-- What is expected next in the open geometry.
pub data Phase : Type 0 where
  AtHeader : Phase
  AtMetadata : Kind → ℤ → Phase
  AtOption : Kind → Head → Role → List Role → Phase  -- the optional part expected next, and those after it
  AtCount : Many → Head → Phase  -- the count before ids
  AtId : Many → Head → (members : ℕ) → (ids : List ℤ) → (left : ℕ) → Phase  -- `left` ids follow this one
  AtBody : Head → (f : BodyForm) → Ids → Body (depth_of f) → Phase
  AtEnd : Head → Tree → Phase
  Finished : Tree → Phase

-- What the items so far add up to: their bytes, the position, and what they have announced.
pub record Sums : Type 0 where
  pub bytes : ℕ
  pub position : Point
  pub nodes : ℕ  -- the number announced, the root included
  pub points : ℕ

-- The sums before the first item.
abbrev pub nothing : Sums
nothing = record { bytes = 0; position = origin; nodes = 1; points = 0 }

-- The sums after one more item.
abbrev pub added : Sums → Item → Sums
added e i = record {
  bytes = e.bytes + length i.bytes;
  position = moved e.position i.role i.number;
  nodes = e.nodes + nodes_by i.role i.number;
  points = e.points + points_by i.role i.number;
}

-- The sums after a list of items.
abbrev pub sums_after : Sums → List Item → Sums
sums_after e [] = e
sums_after e (i ∷ is) = sums_after (added e i) is

-- The open collections, innermost first, and the state of the geometry in the innermost.
abbrev pub Stack : Type 0
Stack = List Frame × Phase

-- The stack at the start: nothing is open.
abbrev pub started : Stack
started = ([], AtHeader)

-- What the count before the ids counts.
abbrev pub first_count : Many → ℕ → Counted
first_count ManyPoints level = Points
first_count ManyLines level = Components
first_count ManyPolygons level = Components
first_count ManyGeometries level = Geometries level

-- What the count of a list of values of depth d counts.
abbrev pub listed : ℕ → Counted
listed zero = Vertices
listed (suc d) = Rings

-- The role of the next item of a body.
abbrev pub body_role : {whole : ℕ} → Body whole → Option Role
body_role (Want zero a) = Some X
body_role (Want (suc d) a) = Some (Count (listed d))
body_role (WantY a) = Some Y
body_role (Done v) = None

-- The role of the next item, inside `level` collections and after `bytes` bytes.
abbrev pub phase_role : (level bytes : ℕ) → Phase → Option Role
phase_role level bytes AtHeader = Some Header
phase_role level bytes (AtMetadata k p) = Some (Metadata (kind_number k))
phase_role level bytes (AtOption k h r rs) = Some r
phase_role level bytes (AtCount m h) = Some (Count (first_count m level))
phase_role level bytes (AtId m h n ids left) = Some Id
phase_role level bytes (AtBody h f ids b) = body_role b
phase_role level bytes (AtEnd h g) = Some (End h.size (bytes - h.from))
phase_role level bytes (Finished g) = None

-- The role of the next item.
abbrev pub role_at : Sums → Stack → Option Role
role_at e st = phase_role (length st.0) e.bytes st.1

-- The phase with this body: at the geometry's end if the body is complete, otherwise inside the
-- body.
abbrev pub settled : Head → (f : BodyForm) → Ids → Body (depth_of f) → Phase
settled h f ids (Want d a) = AtBody h f ids (Want d a)
settled h f ids (WantY a) = AtBody h f ids (WantY a)
settled h f ids (Done v) = AtEnd h (simple h.precision (shape_of f ids v))

-- The phase at the start of a body, in which a count or an x is expected.
abbrev pub begun : Kind → Head → Phase
begun (SimpleKind PointForm) h = AtBody h PointForm None (Want 0 top)
begun (SimpleKind LineForm) h = AtBody h LineForm None (Want 1 top)
begun (SimpleKind PolygonForm) h = AtBody h PolygonForm None (Want 2 top)
begun (SimpleKind MultiPointForm) h = AtCount ManyPoints h
begun (SimpleKind MultiLineForm) h = AtCount ManyLines h
begun (SimpleKind MultiPolygonForm) h = AtCount ManyPolygons h
begun CollectionKind h = AtCount ManyGeometries h

-- The phase before these optional parts. If none is left the body begins, unless bit 4 says that
-- there is none.
abbrev pub wanting : Kind → Head → List Role → Phase
wanting k h (r ∷ rs) = AtOption k h r rs
wanting k h [] = if bit h.meta 4 then AtEnd h (empty_of k h.precision) else begun k h

-- The optional parts that a metadata byte asks for.
abbrev pub asked : ℕ → List Role
asked meta = where_set (bit meta 3) (Extended ∷ [])
    ++ (where_set (bit meta 1) (Size ∷ []) ++ where_set (bit meta 0) (Box ∷ Box ∷ Box ∷ Box ∷ []))

-- The header after an optional part that ends at this many bytes.
abbrev pub with_option : Head → Role → ℕ → ℕ → Head
with_option h Extended n bytes = record h { from = bytes }
with_option h Size n bytes = record h { size = Some n; from = bytes }
with_option h _ n bytes = h

-- The members with one more at the end.
abbrev pub snoc : Trees → Tree → Trees
snoc end g = g ▷ end
snoc (h ▷ gs) g = h ▷ snoc gs g

-- The stack before the first of n members, whose ids were read.
abbrev pub members_begin : Many → Head → List Frame → Ids → ℕ → Stack
members_begin ManyPoints h fs ids n = (fs, settled h MultiPointForm ids (opened 0 n top))
members_begin ManyLines h fs ids n = (fs, settled h MultiLineForm ids (opened 1 n top))
members_begin ManyPolygons h fs ids n = (fs, settled h MultiPolygonForm ids (opened 2 n top))
members_begin ManyGeometries h fs ids zero = (fs, AtEnd h (collection h.precision None end))
members_begin ManyGeometries h fs ids (suc n) = (record { head = h; ids = ids; done = end; left = n } ∷ fs, AtHeader)

-- The stack after the count of n members: their ids come next if bit 2 asks for them, otherwise the
-- members.
abbrev pub counted : Many → Head → List Frame → ℕ → Stack
counted m h fs zero = members_begin m h fs None 0
counted m h fs (suc n) = if bit h.meta 2 then (fs, AtId m h (suc n) [] n) else members_begin m h fs None (suc n)

-- The stack after a complete geometry, which is the next member of the innermost open collection,
-- or the whole.
abbrev pub ended : List Frame → Tree → Stack
ended [] g = ([], Finished g)
ended (f ∷ fs) g = elim f.left [
  | zero ↦ (fs, AtEnd f.head (collection f.head.precision f.ids (snoc f.done g)))
  | suc n ↦ (record { head = f.head; ids = f.ids; done = snoc f.done g; left = n } ∷ fs, AtHeader)
]

-- The stack after an item with this number, with the bytes so far and the position after it.
abbrev pub advanced : Point → (bytes n : ℕ) → List Frame → Phase → Stack
advanced p bytes n fs AtHeader = (fs, AtMetadata (kind_at (n % 16)) (unzigzag_of (n / 16)))
advanced p bytes n fs (AtMetadata k precision) = (
  fs,
  wanting k (record { precision = precision; meta = n; size = None; from = bytes })
      (asked n),
)
advanced p bytes n fs (AtOption k h r rs) = (fs, wanting k (with_option h r n bytes) rs)
advanced p bytes n fs (AtCount m h) = counted m h fs n
advanced p bytes n fs (AtId m h members ids zero) = members_begin m h fs (Some (ids ++ unzigzag_of n ∷ [])) members
advanced p bytes n fs (AtId m h members ids (suc left)) = (fs, AtId m h members (ids ++ unzigzag_of n ∷ []) left)
advanced p bytes n fs (AtBody h f ids b) = (fs, settled h f ids (body_after p n b))
advanced p bytes n fs (AtEnd h g) = ended fs g
advanced p bytes n fs (Finished g) = (fs, Finished g)

-- The stack after an item.
abbrev pub stack_after : Sums → Item → Stack → Stack
stack_after e i st = advanced (moved e.position i.role i.number) (e.bytes + length i.bytes) i.number st.0 st.1

-- The machine runs through these items.
abbrev pub Runs : Sums → Stack → List Item → Stack → Type 0
Runs e st [] last = st ≡ last
Runs e st (i ∷ is) last = (role_at e st ≡ Some i.role) × IsItem i × Runs (added e i) (stack_after e i st) is last
