-- Where and why bytes are not a blob (profile: the reasons, their order and the limits; the
-- layout that they refer to: TWKB).
use Rattle.std.specs.Prelude.{◌≡◌, ◌≢◌, ℕ, ◌+◌, ◌%◌, ◌<◌, ◌≤◌, ◌⊎◌, ℤ, Bool, not, true, false, List}
use Rattle.std.specs.Prelude.{[], ◌∷◌, ◌++◌, length, ◌+ℤ◌, sum_by, nat_eq, if◌then◌else◌}
use Rattle.std.specs.List.{AllByRecursion}
use Rattle.twkb_num.specs.Spelling.{unzigzag_of}
use Rattle.twkb_num.specs.Varint.{IsVarint}
use Rattle.twkb_points.specs.Point.{Point, IsCoordinate, origin, point_at}
use Rattle.twkb_tree.specs.Tree.{Tree, IsTree}
use Rattle.twkb_tree.specs.Limits.{Allowance, IsValid}
use Rattle.twkb_grammar.specs.Bits.{bit}
use Rattle.twkb_grammar.specs.Roles.{Counted, Vertices, Rings, Points, Components, Geometries, Role, Header, Metadata}
use Rattle.twkb_grammar.specs.Roles.{Extended, Size, Box, Count, Id, X, Y, End, Item, join}
use Rattle.twkb_grammar.specs.Items.{Items, AreExact, IsExact, Stream}

-- Why an item is refused (profile).
pub data Reason : Type 0 where
  Truncated BadType ExtraDimensions BadVarint TooDeep TooManyNodes TooManyPoints CoordinateRange SizeMismatch : Reason

-- A part: a prefix of the items of a valid geometry. Each geometry that ends in the prefix has an
-- exact size, if it has one.
pub record Part (limits : Allowance) (is : List Item) : Type 0 where
  pub tree : Tree
  pub more : List Item
  pub valid : IsValid limits tree
  pub items : Items 0 tree (is ++ more)
  pub exact : AreExact is

-- The bytes are the items of a part: complete items, none of which is refused.
pub record IsPart (limits : Allowance) (bytes : List ℕ) : Type 0 where
  pub items : List Item
  pub part : Part limits items
  pub spelled : join items ≡ bytes

-- The number of nodes, which are rows of a table, that a count of n announces (profile).
abbrev pub nodes_of : Counted → ℕ → ℕ
nodes_of Vertices n = 0
nodes_of Rings n = n
nodes_of Points n = n
nodes_of Components n = n
nodes_of (Geometries level) n = n

-- The number of points that a count of n announces (profile).
abbrev pub points_of : Counted → ℕ → ℕ
points_of Vertices n = n
points_of Rings n = 0
points_of Points n = n
points_of Components n = 0
points_of (Geometries level) n = 0

-- This metadata byte announces a point: the type is point, and bit 4 is not set (profile).
abbrev pub announces_point : ℕ → ℕ → Bool
announces_point kind meta = if nat_eq kind 1 then not (bit meta 4) else false

-- The number of nodes that an item announces.
abbrev pub nodes_by : Role → ℕ → ℕ
nodes_by (Count c) n = nodes_of c n
nodes_by _ n = 0

-- The number of points that an item announces.
abbrev pub points_by : Role → ℕ → ℕ
points_by (Count c) n = points_of c n
points_by (Metadata kind) n = if announces_point kind n then 1 else 0
points_by _ n = 0

-- The number of nodes announced so far: one for the root, and those of the counts.
abbrev pub announced_nodes : List Item → ℕ
announced_nodes is = 1 + sum_by (λ i. nodes_by i.role i.number) is

-- The number of points announced so far, by counts and by points with coordinates.
abbrev pub announced_points : List Item → ℕ
announced_points is = sum_by (λ i. points_by i.role i.number) is

-- The position after an item: the origin at each header, otherwise the sum of the differences
-- (TWKB, point arrays; the origin at each header: profile).
abbrev pub moved : Point → Role → ℕ → Point
moved p Header n = origin
moved p X n = point_at (p.x +ℤ unzigzag_of n) p.y
moved p Y n = point_at p.x (p.y +ℤ unzigzag_of n)
moved p _ n = p

-- The position after some items that begin at p.
abbrev pub position_from : Point → List Item → Point
position_from p [] = p
position_from p (i ∷ is) = position_from (moved p i.role i.number) is

-- The position after the items that begin a blob.
abbrev pub position : List Item → Point
position is = position_from origin is

-- There is a next byte, and P holds of it.
abbrev pub FirstByte : (ℕ → Type 0) → List ℕ → Type 0
FirstByte P [] = ⊥
FirstByte P (b ∷ bs) = P b

-- There is a varint at the start of the bytes, and P holds of its number.
pub record FirstNumber (P : ℕ → Type 0) (rest : List ℕ) : Type 0 where
  pub number : ℕ
  pub bytes : List ℕ
  pub more : List ℕ
  pub whole : rest ≡ bytes ++ more
  pub spelled : IsVarint bytes number
  pub holds : P number

-- Each byte says that more follow: its top bit is set (TWKB, varints).
abbrev pub GoOn : List ℕ → Type 0
GoOn bytes = AllByRecursion (λ b. 128 ≤ b) bytes

-- The bytes end inside a varint: fewer than ten are left, and all say that more follow.
abbrev pub IsCut : List ℕ → Type 0
IsCut rest = (length rest < 10) × GoOn rest

-- A varint is too long or too large: nine bytes say that more follow, and the tenth is above 1
-- (profile: at most ten bytes, and below 2 ^ 64).
pub record IsTooLong (rest : List ℕ) : Type 0 where
  pub nine : List ℕ
  pub tenth : ℕ
  pub more : List ℕ
  pub whole : rest ≡ nine ++ tenth ∷ more
  pub length : length nine ≡ 9
  pub go_on : GoOn nine
  pub above : 1 < tenth

-- The count is that of a collection that is already inside as many collections as allowed
-- (profile).
abbrev pub IsDeep : Counted → ℕ → Type 0
IsDeep (Geometries level) nest = nest ≤ level
IsDeep Vertices nest = ⊥
IsDeep Rings nest = ⊥
IsDeep Points nest = ⊥
IsDeep Components nest = ⊥

-- r is this reason if P holds; if not, the other reasons decide.
abbrev pub When : Reason → Type 0 → Reason → Type 0 → Type 0
When r P reason Others = (P × (r ≡ reason)) ⊎ ((P → ⊥) × Others)

-- The reasons of any number come first: the bytes end inside it, or it is too long. If neither
-- holds, the other reasons decide.
abbrev pub NumberFirst : Reason → List ℕ → Type 0 → Type 0
NumberFirst r rest Others = When r (IsCut rest) Truncated (When r (IsTooLong rest) BadVarint Others)

-- The reasons of a byte: none is left, or P holds of it (profile).
abbrev pub ByteRefused : Reason → List ℕ → (ℕ → Type 0) → Reason → Type 0
ByteRefused r rest P reason = When r (rest ≡ []) Truncated (When r (FirstByte P rest) reason ⊥)

-- The reasons of a type byte. If no bytes are left at a root's header, that is the end of the
-- stream and not a fault (profile).
abbrev pub HeaderRefused : List Item → List ℕ → Reason → Type 0
HeaderRefused before rest r =
    When r ((before ≢ []) × (rest ≡ [])) Truncated
    (When r (FirstByte (λ b. (b % 16 ≡ 0) ⊎ (7 < b % 16)) rest) BadType ⊥)

-- The reasons of a count: those of any number, then the limits on depth, nodes and points, in
-- this order (profile).
abbrev pub CountRefused : Allowance → List Item → List ℕ → Counted → Reason → Type 0
CountRefused limits before rest c r = NumberFirst r rest
    (When r (FirstNumber (λ n. IsDeep c limits.nest × (0 < n)) rest) TooDeep
    (When r (FirstNumber (λ n. limits.nodes < announced_nodes before + nodes_of c n) rest) TooManyNodes
    (When r (FirstNumber (λ n. limits.points < announced_points before + points_of c n) rest) TooManyPoints ⊥)))

-- The reasons of a difference to this coordinate: those of any number, then the range of their
-- sum (profile).
abbrev pub DifferenceRefused : ℤ → List ℕ → Reason → Type 0
DifferenceRefused from rest r = NumberFirst r rest
    (When r (FirstNumber (λ n. IsCoordinate (from +ℤ unzigzag_of n) → ⊥) rest) CoordinateRange ⊥)

-- r is the first reason that holds at a place with this role, after the items `before` and with
-- these bytes left (profile).
abbrev pub Refused : Allowance → List Item → List ℕ → Role → Reason → Type 0
Refused limits before rest Header r = HeaderRefused before rest r
Refused limits before rest (Metadata kind) r = ByteRefused r rest
    (λ b. (announces_point kind b ≡ true) × (limits.points ≤ announced_points before)) TooManyPoints
Refused limits before rest Extended r = ByteRefused r rest (λ b. b % 4 ≢ 0) ExtraDimensions
Refused limits before rest Size r = NumberFirst r rest ⊥
Refused limits before rest Box r = NumberFirst r rest ⊥
Refused limits before rest Id r = NumberFirst r rest ⊥
Refused limits before rest (Count c) r = CountRefused limits before rest c r
Refused limits before rest X r = DifferenceRefused (position before).x rest r
Refused limits before rest Y r = DifferenceRefused (position before).y rest r
Refused limits before rest (End declared came) r = When r (IsExact (End declared came) → ⊥) SizeMismatch ⊥

-- Bytes that should begin a blob are refused at this offset for this reason.
pub record Fault (limits : Allowance) (bytes : List ℕ) (offset : ℕ) (reason : Reason) : Type 0 where
  pub before : List Item
  pub rest : List ℕ
  -- Place: the items `before` spell the bytes before the offset.
  pub split : bytes ≡ join before ++ rest
  pub place : offset ≡ length (join before)
  -- Dead: no item at the start of the rest continues these items to a part of a valid geometry.
  pub dead : (i : Item) (more : List ℕ) → rest ≡ i.bytes ++ more → Part limits (before ++ i ∷ []) → ⊥
  -- Fact: some geometry, valid or not, begins with these items; the next item of every such
  -- geometry has one role; the reason is the first that holds there.
  pub role : Role
  pub begins : (g : Tree) × (more : List Item) × IsTree g × Items 0 g (before ++ more)
  pub next : (g : Tree) (more : List Item) → IsTree g → Items 0 g (before ++ more) → (i : Item)
      × (after : List Item) × (more ≡ i ∷ after) × (i.role ≡ role)
  pub refused : Refused limits before rest role reason

-- The first fault: the items before it are also a part of a valid geometry, so no earlier item
-- could be refused.
pub record FirstFault (limits : Allowance) (bytes : List ℕ) (offset : ℕ) (reason : Reason) : Type 0 where
  pub fault : Fault limits bytes offset reason
  pub alive : Part limits fault.before

-- The bytes are blobs of these geometries, followed by bytes with a first fault. The offset
-- counts from the stream's start.
pub record StreamFault (limits : Allowance) (bytes : List ℕ) (gs : List Tree) (offset : ℕ)
    (reason : Reason) : Type 0 where
  pub front : List ℕ
  pub rest : List ℕ
  pub within : ℕ
  pub whole : bytes ≡ front ++ rest
  pub blobs : Stream limits front gs
  pub first : FirstFault limits rest within reason
  pub place : offset ≡ length front + within
