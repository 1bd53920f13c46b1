-- Which items and lists a geometry of a kind has.
use Rattle.std.specs.Prelude.{ℕ, List, [], ◌∷◌, Bool, true, false, ◌&&◌, ◌||◌, nat_eq, ⊤}
use Rattle.twkb_tree.specs.declared.kind.Kind.{Kind}
use Rattle.twkb_tree.specs.declared.kind.Kind.TheVariants as kinds
use Rattle.twkb_engine.specs.declared.next_item.NextItem.{NextItem}
use Rattle.twkb_engine.specs.declared.next_item.NextItem.TheVariants as next

-- ---- the open lists of a body

-- how many values are left after the open one in each list round a coordinate, the innermost first
abbrev pub lists_of : Kind → (points rings members : ℕ) → List ℕ
lists_of kinds.Linestring p r m = p ∷ []
lists_of kinds.Polygon p r m = p ∷ r ∷ []
lists_of kinds.MultiPoint p r m = m ∷ []
lists_of kinds.MultiLinestring p r m = p ∷ m ∷ []
lists_of kinds.MultiPolygon p r m = p ∷ r ∷ m ∷ []
lists_of _ p r m = []

-- how many values are left after the open one in each list round a list of points
abbrev pub line_lists_of : Kind → (rings members : ℕ) → List ℕ
line_lists_of kinds.Polygon r m = r ∷ []
line_lists_of kinds.MultiLinestring r m = m ∷ []
line_lists_of kinds.MultiPolygon r m = r ∷ m ∷ []
line_lists_of _ r m = []

-- how many values are left after the open one in each list round a list of rings
abbrev pub area_lists_of : Kind → (members : ℕ) → List ℕ
area_lists_of kinds.MultiPolygon m = m ∷ []
area_lists_of _ m = []

-- ---- what fits a kind

-- a kind that has members
abbrev pub has_members : Kind → Bool
has_members kinds.MultiPoint = true
has_members kinds.MultiLinestring = true
has_members kinds.MultiPolygon = true
has_members kinds.Collection = true
has_members _ = false

-- a kind that has lists of points
abbrev pub has_lines : Kind → Bool
has_lines kinds.Linestring = true
has_lines kinds.Polygon = true
has_lines kinds.MultiLinestring = true
has_lines kinds.MultiPolygon = true
has_lines _ = false

-- a kind that has lists of rings
abbrev pub has_areas : Kind → Bool
has_areas kinds.Polygon = true
has_areas kinds.MultiPolygon = true
has_areas _ = false

-- a kind that has a body of its own
abbrev pub is_bodied : Kind → Bool
is_bodied kinds.Ring = false
is_bodied kinds.Collection = false
is_bodied _ = true

-- a kind of a type
abbrev pub is_typed : Kind → Bool
is_typed kinds.Ring = false
is_typed _ = true

-- a geometry of this kind has such an item
abbrev pub item_fits : NextItem → Kind → Bool
item_fits next.MemberCount k = has_members k
item_fits next.Id k = has_members k
item_fits next.X k = is_bodied k
item_fits next.Y k = is_bodied k
item_fits next.PointCount k = has_lines k
item_fits next.RingCount k = has_areas k
item_fits next.TypeByte k = true
item_fits _ k = is_typed k

-- a kind without such lists has no values left in them
abbrev pub left_fit : Kind → (points rings members : ℕ) → Bool
left_fit k p r m = (has_lines k || nat_eq p 0) && ((has_areas k || nat_eq r 0) && (has_members k || nat_eq m 0))

-- no list is open
abbrev pub are_shut : (points rings members : ℕ) → Bool
are_shut p r m = nat_eq p 0 && (nat_eq r 0 && nat_eq m 0)

-- lists that are not open have no values left: at a coordinate all of the kind may be, at a count
-- those round its list, at an id that of members, and else none
abbrev pub lists_fit : NextItem → Kind → (points rings members : ℕ) → Bool
lists_fit next.X k p r m = left_fit k p r m
lists_fit next.Y k p r m = left_fit k p r m
lists_fit next.PointCount k p r m = nat_eq p 0 && left_fit k p r m
lists_fit next.RingCount k p r m = nat_eq p 0 && (nat_eq r 0 && left_fit k p r m)
lists_fit next.Id k p r m = nat_eq p 0 && nat_eq r 0
lists_fit _ k p r m = are_shut p r m

-- the item after the header of a geometry of this kind: that of its body, or the count of its members
abbrev pub header_item : Kind → NextItem
header_item kinds.Point = next.X
header_item kinds.Linestring = next.PointCount
header_item kinds.Polygon = next.RingCount
header_item _ = next.MemberCount

-- the first item of a body of this kind, or of a member of a multi-geometry of this kind; of a
-- collection's member, its type byte
abbrev pub first_item : Kind → NextItem
first_item kinds.Point = next.X
first_item kinds.MultiPoint = next.X
first_item kinds.Linestring = next.PointCount
first_item kinds.MultiLinestring = next.PointCount
first_item kinds.Ring = next.PointCount
first_item kinds.Polygon = next.RingCount
first_item kinds.MultiPolygon = next.RingCount
first_item kinds.Collection = next.TypeByte

-- the next item is a byte
abbrev pub IsByte : NextItem → Type 0
IsByte next.TypeByte = ⊤
IsByte next.MetadataByte = ⊤
IsByte next.ExtendedByte = ⊤
IsByte _ = ⊥

-- a geometry is begun, by its type byte
abbrev pub IsInside : NextItem → Type 0
IsInside next.TypeByte = ⊥
IsInside _ = ⊤

-- the next item is one of a header after its type byte, or the count of members that may follow it
abbrev pub IsHeaderItem : NextItem → Type 0
IsHeaderItem next.MetadataByte = ⊤
IsHeaderItem next.ExtendedByte = ⊤
IsHeaderItem next.Size = ⊤
IsHeaderItem (next.BoxNumber left) = ⊤
IsHeaderItem next.MemberCount = ⊤
IsHeaderItem _ = ⊥

-- the next item is one of a body
abbrev pub IsBodyItem : NextItem → Type 0
IsBodyItem next.X = ⊤
IsBodyItem next.Y = ⊤
IsBodyItem next.PointCount = ⊤
IsBodyItem next.RingCount = ⊤
IsBodyItem _ = ⊥
