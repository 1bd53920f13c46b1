-- The items of a geometry, with every choice that the format leaves free, and no other, and blobs of them (TWKB,
-- structure and description of types).
use Rattle.std.specs.Prelude.{◌≡◌, ℕ, suc, ◌+◌, ◌*◌, ◌<◌, Bool, true, false, List, [], ◌∷◌, ◌++◌, map, length, ℤ}
use Rattle.std.specs.Prelude.{Option, Some, None, flat_map, ⊤}
use Rattle.twkb_num.specs.Spelling.{zigzag_of}
use Rattle.twkb_points.specs.Point.{Point}
use Rattle.twkb_points.specs.Steps.{differences}
use Rattle.twkb_tree.specs.Tree.{Simple, point, line, polygon, multi_point, multi_line, multi_polygon, Tree, simple}
use Rattle.twkb_tree.specs.Tree.{collection, Trees, end, ◌▷◌, count, points_in, Ids}
use Rattle.twkb_grammar.specs.Bits.{bit}
use Rattle.twkb_grammar.specs.Roles.{Counted, Vertices, Rings, Points, Components, Geometries, Header, Metadata}
use Rattle.twkb_grammar.specs.Roles.{Extended, Size, Box, Count, Id, X, Y, End, Item, join, Field, AreFields}
use Rattle.twkb_grammar.specs.Roles.{HaveRoles, where_set, item, Role}
use Rattle.std.specs.List.{AllByRecursion}
use Rattle.twkb_tree.specs.Limits.{Allowance, IsValid}

-- ==== The items of a geometry, with every choice that the format leaves free, and no other (TWKB,
-- structure and description of types).

-- A slot of a body: a count, an id, or a point with its absolute coordinates.
pub data Slot : Type 0 where
  OfCount : Counted → ℕ → Slot
  OfId : ℤ → Slot
  OfPoint : Point → Slot

-- The slots of an id list, which exists only if there are ids (TWKB, metadata header, bit 2).
abbrev pub id_slots : Ids → List Slot
id_slots None = []
id_slots (Some ids) = map OfId ids

-- The slots of a linestring or ring: npoints, and its points (TWKB, linestring).
abbrev pub run_of : List Point → List Slot
run_of ps = OfCount Vertices (length ps) ∷ map OfPoint ps

-- The slots of a polygon: nrings, and each ring as it is (TWKB, polygon; profile: nothing is
-- closed or checked).
abbrev pub rings_of : List (List Point) → List Slot
rings_of rings = OfCount Rings (length rings) ∷ flat_map run_of rings

-- The slots of a body; in a multi type the count, then the ids, then the members (TWKB,
-- description of types).
abbrev pub slots : Simple → List Slot
slots (point None) = []
slots (point (Some p)) = OfPoint p ∷ []
slots (line ps) = run_of ps
slots (polygon rings) = rings_of rings
slots (multi_point ids ps) = OfCount Points (length ps) ∷ id_slots ids ++ map OfPoint ps
slots (multi_line ids lines) = OfCount Components (length lines) ∷ id_slots ids ++ flat_map run_of lines
slots (multi_polygon ids areas) = OfCount Components (length areas) ∷ id_slots ids ++ flat_map rings_of areas

-- The fields of these slots, if the points have these differences in order. Ids and differences
-- are zigzag numbers (TWKB, zigzag).
abbrev pub filled : List Slot → List (ℤ × ℤ) → List Field
filled [] ds = []
filled (OfCount c n ∷ ps) ds = (Count c, n) ∷ filled ps ds
filled (OfId id ∷ ps) ds = (Id, zigzag_of id) ∷ filled ps ds
filled (OfPoint p ∷ ps) [] = []
filled (OfPoint p ∷ ps) (d ∷ ds) = (X, zigzag_of d.0) ∷ (Y, zigzag_of d.1) ∷ filled ps ds

-- The fields of a body: one list of differences runs through all its points, lines, rings and
-- polygons (TWKB, point arrays; profile: the position is carried through the whole geometry, and
-- each collection member begins at the origin).
abbrev pub fields : Simple → List Field
fields s = filled (slots s) (differences (points_in s))

-- The fields of an id list.
abbrev pub id_fields : Ids → List Field
id_fields ids = filled (id_slots ids) []

-- The number of a type (TWKB, type and precision).
abbrev pub kind_of : Simple → ℕ
kind_of (point o) = 1
kind_of (line ps) = 2
kind_of (polygon rings) = 3
kind_of (multi_point ids ps) = 4
kind_of (multi_line ids lines) = 5
kind_of (multi_polygon ids areas) = 6

-- The type byte: the type in bits 0 to 3, and the precision as a zigzag number in bits 4 to 7
-- (TWKB, type and precision).
abbrev pub header_byte : ℕ → ℤ → ℕ
header_byte kind precision = kind + 16 * zigzag_of precision

-- What the metadata byte must say about a body and ids (TWKB, metadata header, bits 4 and 2).
pub data Flags : Type 0 where
  MustBeEmpty : Flags  -- a point without coordinates: bit 4
  MayBeEmpty : Flags  -- no members, rings or points: bit 4, or a count of 0 (profile: both are the same geometry)
  HasBody : Flags  -- type 1 to 3 with points or rings: no bit 4, and bit 2 is free (profile)
  HasMembers : (named : Bool) → Flags  -- type 4 to 7 with members: no bit 4, and bit 2 if they have ids

-- The flags of a shape with members.
abbrev pub members : {A : Type 0} → Ids → List A → Flags
members ids [] = MayBeEmpty
members None (x ∷ xs) = HasMembers false
members (Some ids) (x ∷ xs) = HasMembers true

-- The flags of a linestring or polygon.
abbrev pub parts : {A : Type 0} → List A → Flags
parts [] = MayBeEmpty
parts (x ∷ xs) = HasBody

-- The flags of a simple shape.
abbrev pub flags : Simple → Flags
flags (point None) = MustBeEmpty
flags (point (Some p)) = HasBody
flags (line ps) = parts ps
flags (polygon rings) = parts rings
flags (multi_point ids ps) = members ids ps
flags (multi_line ids lines) = members ids lines
flags (multi_polygon ids areas) = members ids areas

-- The flags of a collection.
abbrev pub flags_all : Ids → Trees → Flags
flags_all ids end = MayBeEmpty
flags_all None (g ▷ gs) = HasMembers false
flags_all (Some ids) (g ▷ gs) = HasMembers true

-- The metadata byte says what the flags require (TWKB, metadata header; profile: bits 5 to 7 are
-- free).
abbrev pub Agrees : Flags → ℕ → Type 0
Agrees MustBeEmpty meta = bit meta 4 ≡ true
Agrees MayBeEmpty meta = ⊤
Agrees HasBody meta = bit meta 4 ≡ false
Agrees (HasMembers named) meta = (bit meta 4 ≡ false) × (bit meta 2 ≡ named)

-- The declared size, if there is one.
abbrev pub declared : List Item → Option ℕ
declared [] = None
declared (i ∷ is) = Some i.number

-- The end of a geometry, after the items that its size counts: all items after the size, the box
-- included (TWKB, size).
abbrev pub end_item : Option ℕ → List Item → Item
end_item size is = record { role = End size (length (join is)); number = 0; bytes = [] }

-- If bit 4 is set there is no body; otherwise there is this one (TWKB, metadata header).
abbrev pub BodyAt : Bool → (List Item → Type 0) → List Item → Type 0
BodyAt true Body is = is ≡ []
BodyAt false Body is = Body is

-- The optional parts before a body, each exactly if the metadata byte asks for it: the extended
-- byte, the size, and the four numbers of a box (TWKB, metadata header, bits 3, 1 and 0).
pub record AreOptional (meta : ℕ) (extended size box : List Item) : Type 0 where
  pub extended_is : HaveRoles (where_set (bit meta 3) (Extended ∷ [])) extended
  pub size_is : HaveRoles (where_set (bit meta 1) (Size ∷ [])) size
  pub box_is : HaveRoles (where_set (bit meta 0) (Box ∷ Box ∷ Box ∷ Box ∷ [])) box

-- A geometry: type byte, metadata byte, if flagged the extended byte, the size and the four
-- numbers of a box, then the body (TWKB, structure; profile: the size, the box numbers and bits 2
-- to 7 of the extended byte may be anything).
pub record Framed (kind : ℕ) (precision : ℤ) (own : Flags) (Body : List Item → Type 0) (is : List Item) : Type 0 where
  pub meta : ℕ
  pub extended : List Item
  pub size : List Item
  pub box : List Item
  pub body : List Item
  pub byte : meta < 256
  pub optional : AreOptional meta extended size box
  pub agrees : Agrees own meta
  pub body_is : BodyAt (bit meta 4) Body body
  pub whole : is ≡ item Header (header_byte kind precision) ∷ item (Metadata kind) meta
      ∷ extended ++ (size ++ ((box ++ body) ++ end_item (declared size) (box ++ body) ∷ []))

-- Some items of the first sort, then some of the second.
pub record Follow (First Second : List Item → Type 0) (is : List Item) : Type 0 where
  pub front : List Item
  pub rest : List Item
  pub first : First front
  pub second : Second rest
  pub whole : is ≡ front ++ rest

-- The items are those of a geometry inside `level` collections. A collection has its count, its
-- ids and then its members, each a complete geometry with its own header (TWKB, geometry
-- collection).
abbrev mutual
  pub Items : ℕ → Tree → List Item → Type 0
  Items level (simple p s) is = Framed (kind_of s) p (flags s) (AreFields (fields s)) is
  Items level (collection p ids gs) is =
      Framed 7 p (flags_all ids gs)
      (Follow (AreFields ((Count (Geometries level), count gs) ∷ id_fields ids))
      (ItemsOfAll (suc level) gs)) is

  -- The items are those of the members, one member after another.
  pub ItemsOfAll : ℕ → Trees → List Item → Type 0
  ItemsOfAll level end is = is ≡ []
  ItemsOfAll level (g ▷ gs) is = Follow (Items level g) (ItemsOfAll level gs) is

-- ==== Blobs, and streams of them.

-- At a geometry's end, a declared size is the number of bytes that came (TWKB, size).
abbrev pub IsExact : Role → Type 0
IsExact (End (Some n) came) = n ≡ came
IsExact _ = ⊤

-- Each declared size is exact, for every geometry that ends among these items.
abbrev pub AreExact : List Item → Type 0
AreExact is = AllByRecursion (λ i. IsExact i.role) is

-- The bytes are a blob of this geometry: they spell some items of it, with exact sizes (TWKB,
-- structure; profile: within the limits).
pub record Blob (limits : Allowance) (bytes : List ℕ) (g : Tree) : Type 0 where
  pub valid : IsValid limits g
  pub items : List Item
  pub are_items : Items 0 g items
  pub exact : AreExact items
  pub spelled : join items ≡ bytes

-- A blob of this geometry is at the start of the bytes, and `rest` comes after it.
pub record BlobInFront (limits : Allowance) (bytes : List ℕ) (g : Tree) (rest : List ℕ) : Type 0 where
  pub front : List ℕ
  pub whole : bytes ≡ front ++ rest
  pub blob : Blob limits front g

-- The bytes are blobs of these geometries, one after another, and nothing else (profile).
abbrev pub Stream : Allowance → List ℕ → List Tree → Type 0
Stream limits bytes [] = bytes ≡ []
Stream limits bytes (g ∷ gs) = (front rest : List ℕ) × (bytes ≡ front ++ rest) × Blob limits front g
    × Stream limits rest gs
