-- Items: the parts of a blob, each a single byte, or a number in one of its spellings.
use Rattle.std.specs.Prelude.{◌≡◌, ℕ, ◌<◌, ◌%◌, Bool, if◌then◌else◌, List, [], ◌∷◌, Option, flat_map, ⊤, ◌+◌, ◌^◌}
use Rattle.std.specs.Prelude.{◌*◌, ℤ, not, ◌||◌, nat_eq, nat_lt}
use Rattle.twkb_num.specs.Varint.{IsVarint}
use Rattle.twkb_grammar.specs.declared.metadata.MetadataFlags.{MetadataFlags}
use Rattle.twkb_num.specs.Spelling.{zigzag_of}
use Rattle.twkb_tree.specs.declared.kind.Kind.{Kind}
use Rattle.twkb_tree.specs.declared.kind.Kind.TheVariants as kind

-- ==== Items: the parts of a blob, each a single byte, or a number in one of its spellings.

-- What a count counts (TWKB, description of types: npoints, nrings, and the counts of multi types
-- and collections).
pub data Counted : Type 0 where
  Vertices : Counted  -- the points of a linestring or ring
  Rings : Counted  -- the rings of a polygon
  Points : Counted  -- the members of a multipoint
  Components : Counted  -- the members of a multilinestring or multipolygon
  Geometries : (level : ℕ) → Counted  -- the members of a collection inside `level` collections

-- What is at a place of a blob (TWKB, structure).
pub data Role : Type 0 where
  Header : Role  -- the type byte: type and precision
  Metadata : (kind : ℕ) → Role  -- the metadata byte of a geometry of this type
  Extended : Role  -- the extended dimensions byte
  Size : Role
  Box : Role  -- one of the four numbers of the bounding box
  Count : Counted → Role
  Id : Role
  X : Role
  Y : Role
  -- the end of a geometry, which has no bytes: the declared size, if there is one, and the number
  -- of bytes that came (profile: an item at which the size is checked)
  End : (declared : Option ℕ) → (came : ℕ) → Role

-- One item: its role, its number and its bytes.
pub record Item : Type 0 where
  pub role : Role
  pub number : ℕ
  pub bytes : List ℕ

-- The bytes of items, one item after another.
abbrev pub join : List Item → List ℕ
join is = flat_map (λ i. i.bytes) is

-- The bytes spell this number in this role: one byte in a header, a varint of at most ten bytes
-- elsewhere, nothing at an end. The type is 1 to 7 (TWKB, type and precision), and no geometry
-- has Z or M (profile: bits 0 and 1 of the extended byte are not set).
abbrev pub Spells : Role → ℕ → List ℕ → Type 0
Spells Header n bytes = (n < 256) × (0 < n % 16) × (n % 16 < 8) × (bytes ≡ n ∷ [])
Spells (Metadata kind) n bytes = (n < 256) × (bytes ≡ n ∷ [])
Spells Extended n bytes = (n < 256) × (n % 4 ≡ 0) × (bytes ≡ n ∷ [])
Spells Size n bytes = IsVarint bytes n
Spells Box n bytes = IsVarint bytes n
Spells (Count c) n bytes = IsVarint bytes n
Spells Id n bytes = IsVarint bytes n
Spells X n bytes = IsVarint bytes n
Spells Y n bytes = IsVarint bytes n
Spells (End declared came) n bytes = (n ≡ 0) × (bytes ≡ [])

-- In this role there is a varint, and not a single byte or nothing (TWKB, structure).
abbrev pub IsNumber : Role → Type 0
IsNumber Header = ⊥
IsNumber (Metadata kind) = ⊥
IsNumber Extended = ⊥
IsNumber Size = ⊤
IsNumber Box = ⊤
IsNumber (Count c) = ⊤
IsNumber Id = ⊤
IsNumber X = ⊤
IsNumber Y = ⊤
IsNumber (End declared came) = ⊥

-- An item with this role has bytes: it is not an end.
abbrev pub HasBytes : Role → Type 0
HasBytes role = (declared : Option ℕ) (came : ℕ) → role ≡ End declared came → ⊥

-- The bytes of the item spell its number in its role.
abbrev pub IsItem : Item → Type 0
IsItem i = Spells i.role i.number i.bytes

-- A role and the number at that place.
abbrev pub Field : Type 0
Field = Role × ℕ

-- The items have these roles and numbers, each in its own spelling.
abbrev pub AreFields : List Field → List Item → Type 0
AreFields [] [] = ⊤
AreFields (f ∷ fs) (i ∷ is) = (i.role ≡ f.0) × (i.number ≡ f.1) × IsItem i × AreFields fs is
AreFields [] (i ∷ is) = ⊥
AreFields (f ∷ fs) [] = ⊥

-- The items have these roles, whatever their numbers.
abbrev pub HaveRoles : List Role → List Item → Type 0
HaveRoles [] [] = ⊤
HaveRoles (r ∷ rs) (i ∷ is) = (i.role ≡ r) × IsItem i × HaveRoles rs is
HaveRoles [] (i ∷ is) = ⊥
HaveRoles (r ∷ rs) [] = ⊥

-- The roles if the bit that asks for them is set; otherwise none (TWKB, metadata header).
abbrev pub where_set : Bool → List Role → List Role
where_set b roles = if b then roles else []

-- The item of one byte.
abbrev pub item : Role → ℕ → Item
item role n = record { role = role; number = n; bytes = n ∷ [] }

-- ==== The metadata byte (TWKB, metadata header).

-- the value of bit k if it is set; bit 0 is the lowest
abbrev pub bit_value : Bool → ℕ → ℕ
bit_value b k = if b then 2 ^ k else 0

-- the metadata byte: bits 0, 1, 2 and 4 (TWKB, metadata header)
abbrev pub metadata_number : MetadataFlags → ℕ
metadata_number f = bit_value f.has_box 0 + bit_value f.has_size 1 + bit_value f.has_ids 2 + bit_value f.is_empty 4

-- ==== The type byte (TWKB, type and precision).

-- the number of a type (TWKB, type and precision); 0 for a ring, which has none
abbrev pub type_of : Kind → ℕ
type_of kind.Ring = 0
type_of kind.Point = 1
type_of kind.Linestring = 2
type_of kind.Polygon = 3
type_of kind.MultiPoint = 4
type_of kind.MultiLinestring = 5
type_of kind.MultiPolygon = 6
type_of kind.Collection = 7

-- the type byte: the type, and four bits of the precision's zigzag form (TWKB, type and precision)
abbrev pub type_byte : Kind → ℤ → ℕ
type_byte k p = type_of k + 16 * (zigzag_of p % 16)

-- the lower half is the number of a type: 1 to 7
abbrev pub names_type : ℕ → Bool
names_type byte = not (nat_eq (byte % 16) 0 || nat_lt 7 (byte % 16))
