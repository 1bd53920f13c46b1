-- Two readers that take items one by one. They are no part of the format: code is proved against the first, and
-- the second is slow, but it computes.
use Rattle.std.specs.Prelude.{ℕ, zero, suc, ◌+◌, ◌-◌, ◌*◌, ◌%◌, Bool, true, false, not, ◌&&◌, ◌||◌, nat_lt, nat_le}
use Rattle.std.specs.Prelude.{nat_eq, if◌then◌else◌, List, [], ◌∷◌, length, ℤ, pos, negsuc, ◌+ℤ◌, Option, Some, None}
use Rattle.std.specs.Prelude.{Result, Ok, Err, ⊤, ◌≡◌, ◌<◌, ◌≤◌, ◌⊎◌, ◌++◌}
use Rattle.twkb_num.specs.Spelling.{unzigzag_of}
use Rattle.twkb_points.specs.declared.point.TheConstants.{COORDINATE_BOUND}
use Rattle.twkb_tree.specs.Tree.{Tree, collection}
use Rattle.twkb_tree.specs.Limits.{Allowance}
use Rattle.twkb_grammar.specs.Roles.{Counted, Geometries, Role, Header, Metadata, Extended, Count, X, Y, End, Item}
use Rattle.twkb_grammar.specs.Roles.{Size, Box, Id, IsNumber, HasBytes, join}
use Rattle.twkb_grammar.specs.Fault.{Reason, Truncated, BadType, ExtraDimensions, BadVarint, TooDeep, TooManyNodes}
use Rattle.twkb_grammar.specs.Fault.{TooManyPoints, CoordinateRange, SizeMismatch, announces_point, nodes_of}
use Rattle.twkb_grammar.specs.Fault.{points_of, Refused, FirstFault, GoOn, IsDeep, announced_nodes, announced_points}
use Rattle.twkb_grammar.specs.Machine.{Sums, nothing, added, Stack, Phase, Finished, started, role_at, stack_after}
use Rattle.twkb_grammar.specs.Machine.{sums_after, Frame, AtHeader, AtEnd, snoc, Runs}
use Rattle.twkb_num.specs.Varint.{IsVarint}
use Rattle.twkb_points.specs.Point.{Point, IsCoordinate}
use Rattle.twkb_grammar.specs.Items.{AreExact, Stream}

-- ==== The plain reader, which cuts items from bytes one by one and gives each to the machine. It
-- is slow, but it computes. It does not define the format: the law `plain_reader` states that it
-- answers as blobs and first faults require.

-- An item and the bytes after it, or the reason for which there is none.
abbrev pub Cut : Type 0
Cut = Result (ℕ × List ℕ × List ℕ) Reason

-- The cut with one more byte before a number.
abbrev pub with_byte : ℕ → Cut → Cut
with_byte b (Ok r) = Ok ((b - 128) + 128 * r.0, b ∷ r.1, r.2)
with_byte b (Err e) = Err e

-- The number, its bytes and the rest; the number has at most this many bytes.
abbrev pub varint_at : ℕ → List ℕ → Cut
varint_at zero bytes = Err BadVarint
varint_at (suc more) [] = Err Truncated
varint_at (suc zero) (b ∷ bytes) = if nat_lt b 2 then Ok (b, b ∷ [], bytes) else Err BadVarint
varint_at (suc (suc more)) (b ∷ bytes) = if nat_lt b 128 then Ok (b, b ∷ [], bytes) else with_byte b
    (varint_at (suc more) bytes)

-- One byte as a number.
abbrev pub byte_at : List ℕ → Cut
byte_at [] = Err Truncated
byte_at (b ∷ bytes) = Ok (b, b ∷ [], bytes)

-- The next item, by its role.
abbrev pub cut : Role → List ℕ → Cut
cut Header bytes = byte_at bytes
cut (Metadata kind) bytes = byte_at bytes
cut Extended bytes = byte_at bytes
cut (End declared came) bytes = Ok (0, [], bytes)
cut _ bytes = varint_at 10 bytes

-- The number is below the bound of coordinates and not below its negative (profile).
abbrev pub in_range : ℤ → Bool
in_range (pos n) = nat_lt n COORDINATE_BOUND
in_range (negsuc n) = nat_lt n COORDINATE_BOUND

-- A collection with members is already inside as many collections as allowed.
abbrev pub too_deep : Allowance → Counted → ℕ → Bool
too_deep limits (Geometries level) n = nat_le limits.nest level && nat_lt 0 n
too_deep limits _ n = false

-- The declared size is the number of bytes that came.
abbrev pub is_exact : Option ℕ → ℕ → Bool
is_exact None came = true
is_exact (Some n) came = nat_eq n came

-- This reason if the test holds; otherwise the other answer.
abbrev pub unless : Bool → Reason → Option Reason → Option Reason
unless true reason others = Some reason
unless false reason others = others

-- The reason for which the next item may not have this number, if there is one.
abbrev pub objection : Allowance → Sums → Role → ℕ → Option Reason
objection limits s Header n = unless (nat_eq (n % 16) 0 || nat_lt 7 (n % 16)) BadType None
objection limits s (Metadata kind) n = unless
    (announces_point kind n && nat_le limits.points s.points) TooManyPoints None
objection limits s Extended n = unless (not (nat_eq (n % 4) 0)) ExtraDimensions None
objection limits s (Count c) n =
    unless (too_deep limits c n) TooDeep
    (unless (nat_lt limits.nodes (s.nodes + nodes_of c n)) TooManyNodes
    (unless (nat_lt limits.points (s.points + points_of c n)) TooManyPoints None))
objection limits s X n = unless (not (in_range (s.position.x +ℤ unzigzag_of n))) CoordinateRange None
objection limits s Y n = unless (not (in_range (s.position.y +ℤ unzigzag_of n))) CoordinateRange None
objection limits s (End declared came) n = unless (not (is_exact declared came)) SizeMismatch None
objection limits s _ n = None

-- The answer of the plain reader: a geometry with the bytes after its blob, a fault, or that its
-- turns were not enough.
pub data Answer : Type 0 where
  Made : Tree → (rest : List ℕ) → Answer
  RefusedAt : (offset : ℕ) → Reason → Answer
  GoesOn : Answer

-- The reader goes on if there is no objection.
abbrev pub after_objection : ℕ → (List ℕ → Answer) → List ℕ → Option Reason → Answer
after_objection offset go rest None = go rest
after_objection offset go rest (Some reason) = RefusedAt offset reason

-- The reader goes on if the next item was cut and there is no objection.
abbrev pub after_cut : ℕ → (ℕ → List ℕ → Option Reason) → (ℕ → List ℕ → List ℕ → Answer) → Cut → Answer
after_cut offset object go (Ok r) = after_objection offset (go r.0 r.1) r.2 (object r.0 r.1)
after_cut offset object go (Err reason) = RefusedAt offset reason

-- The answer if no item is expected: the geometry, once it is complete.
abbrev pub made : Phase → List ℕ → Answer
made (Finished g) rest = Made g rest
made _ rest = GoesOn

-- The answer after at most this many more items.
abbrev pub decode_from : ℕ → Allowance → Sums → Stack → List ℕ → Answer
decode_from zero limits e st bytes = GoesOn
decode_from (suc turns) limits e st bytes =
    elim (role_at e st) [
      | None ↦ made st.1 bytes
      | Some r ↦ after_cut e.bytes (λ n spelling. objection limits e r n)
          (λ n spelling rest. let i : Item = record { role = r; number = n; bytes = spelling } in
          decode_from turns limits (added e i) (stack_after e i st) rest)
          (cut r bytes)
    ]

-- The answer for bytes that should begin a blob; there are more turns than items of a blob in
-- these bytes.
abbrev pub decode : Allowance → List ℕ → Answer
decode limits bytes = decode_from (8 * length bytes + 1) limits nothing started bytes

-- ==== A reader that takes items one by one: its state, and the effect of a number. It is no part
-- of the format: code is proved against it, and the law `reading` relates it to blobs and first
-- faults.

-- The limits on depth and range, which each item must keep after position p.
abbrev pub Here : ℕ → Point → Role → ℕ → Type 0
Here nest p (Count c) n = IsDeep c nest → n ≡ 0
Here nest p X n = IsCoordinate (p.x +ℤ unzigzag_of n)
Here nest p Y n = IsCoordinate (p.y +ℤ unzigzag_of n)
Here nest p _ n = ⊤

-- Each of the items keeps the limits on depth and range.
abbrev pub Kept : ℕ → Sums → List Item → Type 0
Kept nest e [] = ⊤
Kept nest e (i ∷ is) = Here nest e.position i.role i.number × Kept nest (added e i) is

-- The machine ran through these items to this stack, and they kept the limits, with exact sizes.
pub record Ran (limits : Allowance) (items : List Item) (st : Stack) : Type 0 where
  pub runs : Runs nothing started items st
  pub kept : Kept limits.nest nothing items
  pub nodes_kept : announced_nodes items ≤ limits.nodes
  pub points_kept : announced_points items ≤ limits.points
  pub exact : AreExact items

-- The bytes are complete items that the machine ran through within the limits; these are the sums
-- and the stack after them.
pub record Reached (limits : Allowance) (bytes : List ℕ) (e : Sums) (st : Stack) : Type 0 where
  pub items : List Item
  pub ran : Ran limits items st
  pub sums : sums_after nothing items ≡ e
  pub spelled : join items ≡ bytes

-- The bytes give this number at a place with this role, whether or not the number is allowed there.
abbrev pub Gives : Role → ℕ → List ℕ → Type 0
Gives Header n bytes = (n < 256) × (bytes ≡ n ∷ [])
Gives (Metadata kind) n bytes = (n < 256) × (bytes ≡ n ∷ [])
Gives Extended n bytes = (n < 256) × (bytes ≡ n ∷ [])
Gives Size n bytes = IsVarint bytes n
Gives Box n bytes = IsVarint bytes n
Gives (Count c) n bytes = IsVarint bytes n
Gives Id n bytes = IsVarint bytes n
Gives X n bytes = IsVarint bytes n
Gives Y n bytes = IsVarint bytes n
Gives (End declared came) n bytes = (n ≡ 0) × (bytes ≡ [])

-- The item's bytes give its number.
abbrev pub IsGiven : Item → Type 0
IsGiven i = Gives i.role i.number i.bytes

-- A geometry ends after these bytes; its size is exact or not. With it ends each collection whose
-- last member it is, as long as their sizes are exact.
abbrev pub past_end : Bool → ℕ → Tree → List Frame → Result Stack Reason
past_end false bytes g fs = Err SizeMismatch
past_end true bytes g [] = Ok ([], Finished g)
past_end true bytes g (f ∷ fs) = elim f.left [
  | zero ↦ past_end (is_exact f.head.size (bytes - f.head.from)) bytes
      (collection f.head.precision f.ids (snoc f.done g)) fs
  | suc n ↦ Ok (record { head = f.head; ids = f.ids; done = snoc f.done g; left = n } ∷ fs, AtHeader)
]

-- The ends after an item, which have no bytes and so come with it: the stack after them, or a
-- size that is wrong.
abbrev pub ends : ℕ → List Frame → Phase → Result Stack Reason
ends bytes fs (AtEnd h g) = past_end (is_exact h.size (bytes - h.from)) bytes g fs
ends bytes fs p = Ok (fs, p)

-- The first fault is at this item, for this reason, whatever bytes follow.
abbrev pub FaultAt : Allowance → List ℕ → Sums → Item → Reason → Type 0
FaultAt limits bytes e i reason = (more : List ℕ) → FirstFault limits (bytes ++ (i.bytes ++ more)) e.bytes reason

-- If `Known` is true and the next role is that of a number, then `Holds` is true of the bytes
-- that follow.
abbrev pub AtNumber : Type 0 → Option Role → (List ℕ → Type 0) → Type 0
AtNumber Known next Holds = (rest : List ℕ) (role : Role) → Known → next ≡ Some role → IsNumber role → Holds rest

-- If this stack expects an item after these items, each refusal of it is a fault of this sort,
-- right after them.
abbrev pub RefusalsAre : (List ℕ → ℕ → Reason → Type 0) → Allowance → List Item → Stack → Type 0
RefusalsAre IsFault limits before st = (rest : List ℕ) (role : Role) (reason : Reason)
    → role_at (sums_after nothing before) st ≡ Some role
    → Refused limits before rest role reason → IsFault (join before ++ rest) (length (join before)) reason

-- What the ends lead to: the reader's next state, or the first fault, whatever bytes follow.
abbrev pub Landed : Allowance → List ℕ → Sums → Result Stack Reason → Type 0
Landed limits bytes e (Ok st) = Reached limits bytes e st
Landed limits bytes e (Err reason) = (rest : List ℕ) → FirstFault limits (bytes ++ rest) e.bytes reason

-- What an item leads to, with or without an objection to it: the next state, or the first fault,
-- whatever bytes follow.
abbrev pub Leads : Allowance → List ℕ → Sums → Stack → Item → Option Reason → Type 0
Leads limits bytes e st i (Some reason) = FaultAt limits bytes e i reason
Leads limits bytes e st i None = Landed limits (bytes ++ i.bytes) (added e i)
    (ends (added e i).bytes (stack_after e i st).0 (stack_after e i st).1)

-- The bytes are blobs of these geometries, then complete items of a next one, if any, and then
-- the first bytes of a number, which are held.
pub record Stands (limits : Allowance) (bytes : List ℕ) (gs : List Tree) (e : Sums) (st : Stack)
    (held : List ℕ) : Type 0 where
  pub front : List ℕ
  pub middle : List ℕ
  pub whole : bytes ≡ front ++ (middle ++ held)
  pub blobs : Stream limits front gs
  pub reached : Reached limits middle e st
  -- the next item is expected, and it has bytes
  pub role : Role
  pub wants : role_at e st ≡ Some role
  pub spelled : HasBytes role
  pub go_on : GoOn held
  pub few : length held < 10
  pub number : (held ≡ []) ⊎ IsNumber role

-- Two states of a reader of a stream are the same: the same geometries, sums, stack and held bytes.
pub record IsSamePlace (gs hs : List Tree) (e f : Sums) (st su : Stack) (held kept : List ℕ) : Type 0 where
  pub geometries : gs ≡ hs
  pub sums : e ≡ f
  pub stack : st ≡ su
  pub bytes : held ≡ kept

-- The number of open geometries after an item with this role.
abbrev pub open_by : ℕ → Role → ℕ
open_by open_now Header = suc open_now
open_by (suc open_now) (End declared came) = open_now
open_by open_now _ = open_now

-- The number of open geometries after some items.
abbrev pub open_after : ℕ → List Item → ℕ
open_after open_now [] = open_now
open_after open_now (i ∷ is) = open_after (open_by open_now i.role) is

-- The number of frames of a stack: its open collections, and the geometry in them if one has begun.
abbrev pub frame_count : Stack → ℕ
frame_count (fs, AtHeader) = length fs
frame_count (fs, Finished g) = length fs
frame_count (fs, _) = suc (length fs)
