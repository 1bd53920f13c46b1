-- What comes next, as a stage of an outline.
use Rattle.std.specs.Prelude.{◌≡◌, ◌-◌, ℕ, zero, suc, List, [], ◌∷◌, ◌++◌, length, if◌then◌else◌, Some, None, ⊤}
use Rattle.twkb_tree.specs.Tree.{Ids}
use Rattle.twkb_tree.specs.Limits.{Allowance}
use Rattle.twkb_grammar.specs.Bits.{bit}
use Rattle.twkb_grammar.specs.Roles as role
use Rattle.twkb_grammar.specs.Roles.{Role, where_set}
use Rattle.twkb_grammar.specs.Machine.{Sums}
use Rattle.twkb_body.specs.Outline.{Outline, Stage, OnHeader, OnMetadata, OnOption, OnCount, OnId, OnBody, Wanted}
use Rattle.twkb_body.specs.Outline.{WantedY, BodyPlace, outline_role, ids_of, ids_read}
use Rattle.twkb_body.specs.Growing.{id_in}
use Rattle.twkb_body.specs.Header.{head_of, kind_of, form_of, many_of, IsHeadAt}
use Rattle.twkb_engine.specs.Collections.{frames_of}
use Rattle.twkb_engine.specs.Fits.{lists_of, line_lists_of, area_lists_of, has_members}
use Rattle.twkb_engine.specs.declared.next_item.NextItem.{NextItem}
use Rattle.twkb_engine.specs.declared.next_item.NextItem.TheVariants as next
use Rattle.twkb_engine.specs.declared.engine.Engine.{Engine}

-- ---- the optional parts of a header

-- this number of numbers of a box
abbrev pub boxes : ℕ → List Role
boxes zero = []
boxes (suc n) = role.Box ∷ boxes n

-- the parts that come after the size
abbrev pub box_roles : ℕ → List Role
box_roles meta = where_set (bit meta 0) (boxes 4)

-- the parts that come after the extended byte
abbrev pub size_roles : ℕ → List Role
size_roles meta = where_set (bit meta 1) (role.Size ∷ []) ++ box_roles meta

-- ---- what comes next

-- the ids from the open member on: only a kind that has members has any
abbrev pub ids_in : Engine → Ids
ids_in d = if has_members d.head.kind then ids_of d.ids else None

-- its body, at this place
abbrev pub body_at : Engine → BodyPlace → Stage
body_at d s = OnBody (head_of d.head) (form_of d.head.kind) (ids_in d) s

-- the stage of the grammar's machine at this item
abbrev pub stage_at : NextItem → Engine → Stage
stage_at next.TypeByte d = OnHeader
stage_at next.MetadataByte d = OnMetadata (kind_of d.head.kind) d.head.precision
stage_at next.ExtendedByte d = OnOption (kind_of d.head.kind) (head_of d.head) role.Extended
    (size_roles d.head.metadata)
stage_at next.Size d = OnOption (kind_of d.head.kind) (head_of d.head) role.Size (box_roles d.head.metadata)
stage_at (next.BoxNumber left) d = OnOption (kind_of d.head.kind) (head_of d.head) role.Box (boxes left)
stage_at next.MemberCount d = OnCount (many_of d.head.kind) (head_of d.head)
stage_at next.Id d = OnId (many_of d.head.kind) (head_of d.head) (suc d.members_left)
    (ids_read d.ids) (d.members_left - length (ids_read d.ids))
stage_at next.X d = body_at d (Wanted 0 (lists_of d.head.kind (d.points_left - 1) d.rings_left d.members_left))
stage_at next.Y d = body_at d (WantedY (lists_of d.head.kind (d.points_left - 1) d.rings_left d.members_left))
stage_at next.PointCount d = body_at d (Wanted 1 (line_lists_of d.head.kind d.rings_left d.members_left))
stage_at next.RingCount d = body_at d (Wanted 2 (area_lists_of d.head.kind d.members_left))

abbrev pub stage_of : Engine → Stage
stage_of d = stage_at d.next d

-- what is open in an engine
abbrev pub outline_in : Engine → Outline
outline_in d = (frames_of d.collections, stage_of d)

-- what the items of an engine so far sum to
abbrev pub sums_of : Engine → Sums
sums_of d = record { bytes = d.bytes; position = d.position; nodes = d.nodes; points = d.points }

-- the limits of an engine
abbrev pub allowance_of : Engine → Allowance
allowance_of d = d.limits

-- ---- what holds of its fields

-- its header is that of the geometry in the open collections
abbrev pub IsHere : Engine → Type 0
IsHere d = IsHeadAt (length (frames_of d.collections)) (id_in (frames_of d.collections)) d.head

-- after a header: its geometry is in the open collections
abbrev pub IsPlaced : NextItem → Engine → Type 0
IsPlaced next.TypeByte d = ⊤
IsPlaced next.MetadataByte d = ⊤
IsPlaced _ d = IsHere d

-- an item in this role comes next
abbrev pub IsNext : Role → Engine → Type 0
IsNext r d = outline_role (sums_of d) (outline_in d) ≡ Some r
