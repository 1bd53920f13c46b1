-- The totals of the rows at one depth and of all rows below them, and what they add to the geometry above them.
use Rattle.std.specs.Prelude.{ℕ, ◌+◌, ℤ, ◌-ℤ◌, List, [], ◌∷◌, length, Option, None, Some, ◌≤◌, Bool, true, false, not}
use Rattle.std.specs.Prelude.{◌&&◌, ◌||◌, if◌then◌else◌, nat_eq, is_some}
use Rattle.twkb_num.specs.Spelling.{zigzag_of}
use Rattle.twkb_num.specs.Varint.{varint_of}
use Rattle.twkb_points.specs.Point.{Point, origin}
use Rattle.twkb_points.specs.Extent.{extent, Extent, joined_options}
use Rattle.twkb_writer.specs.declared.tails.NonEmptyTailTotals.{NonEmptyTailTotals}
use Rattle.twkb_writer.specs.declared.tails.TailTotals.{TailTotals}
use Rattle.twkb_tree.specs.declared.kind.Kind.{Kind}
use Rattle.twkb_tree.specs.declared.kind.Kind.TheVariants as kind
use Rattle.twkb_grammar.specs.declared.style.Style.{Style}
use Rattle.twkb_grammar.specs.declared.style.Style.TheVariants.{Full, Plain}
use Rattle.twkb_writer.specs.declared.totals.RowTotals.{RowTotals}
use Rattle.twkb_writer.specs.declared.precisions.Precisions.TheVariants.{Absent, One}
use Rattle.twkb_writer.specs.declared.sizes.Entry.{Entry}
use Rattle.twkb_writer.specs.Sizes.{weights_cap, sums_cap, all_are, agreed}

-- ==== The number of bytes of the points from a place up to the end of their geometry.

-- the number of bytes of a number
unfoldable pub number_len : ℕ → ℕ
number_len n = length (varint_of n)

-- the number of bytes of a signed number (TWKB, zigzag)
abbrev pub signed_len : ℤ → ℕ
signed_len n = number_len (zigzag_of n)

-- the number of bytes of the difference from one point to the next (TWKB, point arrays)
abbrev pub step_len : Point → Point → ℕ
step_len a b = signed_len (b.x -ℤ a.x) + signed_len (b.y -ℤ a.y)

-- the number of bytes of the differences from a point through some others
abbrev pub way_len : Point → List Point → ℕ
way_len at [] = 0
way_len at (p ∷ ps) = step_len at p + way_len p ps

-- the number of bytes of the differences from the first point on
abbrev pub inner_len : List Point → ℕ
inner_len [] = 0
inner_len (p ∷ ps) = way_len p ps

-- the first point
abbrev pub first_of : List Point → Option Point
first_of [] = None
first_of (p ∷ ps) = Some p

-- the totals of the last points of a geometry
abbrev pub tail_of : List Point → TailTotals
tail_of ps = record { first = first_of ps; bytes = inner_len ps; bounds = extent ps }

-- the number of bytes of all differences, the first of them from the origin
abbrev pub from_origin : TailTotals → ℕ
from_origin t = elim t.first [ None ↦ 0 | Some p ↦ step_len origin p + t.bytes ]

-- the totals of at least one point, as totals of any number of points
abbrev pub tail_from : NonEmptyTailTotals → TailTotals
tail_from t = record { first = Some t.first; bytes = t.bytes; bounds = Some t.bounds }

-- ==== The totals of the rows at one depth and of all rows below them, and what they add to the
-- geometry above them.

-- the totals of no rows
abbrev pub blank : RowTotals
blank = record { members = 0; ids = 0; named = false; bytes = 0; bounds = None; precisions = Absent }

-- the number of bytes of an id, 0 if there is none
abbrev pub id_len : Option ℤ → ℕ
id_len None = 0
id_len (Some n) = signed_len n

-- the number of bytes of the four numbers of a box (TWKB, bounding box)
abbrev pub box_len : Option Extent → ℕ
box_len None = 0
box_len (Some e) = signed_len e.least.x + signed_len (e.greatest.x -ℤ e.least.x) + signed_len
    e.least.y + signed_len (e.greatest.y -ℤ e.least.y)

-- the number of bytes of a row's count, and of the ids if it counts members (TWKB, description of
-- types)
abbrev pub lead_len : Kind → ℕ → RowTotals → ℕ
lead_len kind.Point own below = 0
lead_len kind.Linestring own below = number_len own
lead_len kind.Ring own below = number_len own
lead_len _ own below = number_len below.members + below.ids

-- the row has no points, no members and no components
abbrev pub is_bare : ℕ → RowTotals → Bool
is_bare own below = nat_eq own 0 && nat_eq below.members 0

-- the number of bytes of a geometry's body: none if it is bare
abbrev pub body_len : Kind → ℕ → RowTotals → TailTotals → ℕ
body_len k own below t = if is_bare own below then 0 else lead_len k own below + below.bytes + from_origin t

-- the extent of the geometry's points, those of members included
abbrev pub all_bounds : RowTotals → TailTotals → Option Extent
all_bounds below t = joined_options t.bounds below.bounds

-- the row is a point
abbrev pub is_point : Kind → Bool
is_point kind.Point = true
is_point _ = false

-- the extent of the geometry's box, if it has one
abbrev pub box_for : Style → Kind → ℤ → RowTotals → TailTotals → Option Extent
box_for Full k p below t = if not (is_point k) && all_are p below.precisions then all_bounds below t else None
box_for Plain k p below t = None

-- the entry of a geometry: its own row has `own` points, `below` totals the rows under it, and `t`
-- totals its points, except those of collection members
abbrev pub entry_for : Style → Kind → ℤ → ℕ → RowTotals → TailTotals → Entry
entry_for style k p own below t = record {
  size = box_len (box_for style k p below t) + body_len k own below t;
  bounds = box_for style k p below t;
  members = below.members;
  named = below.named;
}

-- the length of a blob whose box and body have this many bytes: two bytes more, and the size if
-- there is one (TWKB, structure)
abbrev pub blob_len : Style → ℕ → ℕ
blob_len Full size = 2 + number_len size + size
blob_len Plain size = 2 + size

-- the totals `l` of some rows after a component of a geometry is added before them: its own row has
-- `own` points, and `below` totals the rows under it; bounds and precisions stay as in `l`
abbrev pub with_component : Kind → ℕ → Option ℤ → RowTotals → RowTotals → RowTotals
with_component k own id below l = record {
  members = l.members + 1;
  ids = id_len id + l.ids;
  named = is_some id || l.named;
  bytes = lead_len k own below + below.bytes + l.bytes;
  bounds = l.bounds;
  precisions = l.precisions;
}

-- the totals `l` of some rows after a geometry is added before them: its box and body have `size`
-- bytes, `below` totals the rows under it, and `t` its points, except those of collection members
abbrev pub with_geometry : Style → ℕ → ℤ → Option ℤ → RowTotals → TailTotals → RowTotals → RowTotals
with_geometry style size p id below t l = record {
  members = l.members + 1;
  ids = id_len id + l.ids;
  named = is_some id || l.named;
  bytes = blob_len style size + l.bytes;
  bounds = joined_options (all_bounds below t) l.bounds;
  precisions = agreed (agreed (One p) below.precisions) l.precisions;
}

-- all totals are so small that their sums fit 64 bits
pub record IsSmall (l : RowTotals) : Type 0 where
  pub members : l.members ≤ weights_cap
  pub ids : l.ids ≤ sums_cap
  pub bytes : l.bytes ≤ sums_cap
