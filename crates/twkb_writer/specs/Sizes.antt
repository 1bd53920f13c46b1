-- The numbers of a geometry that its canonical blob needs before its body, and their bounds.
use Rattle.std.specs.Prelude.{◌≡◌, ℕ, if◌then◌else◌, is_some, List, [], ◌∷◌, ◌++◌, length, Option, None, ◌^◌, ℤ, Bool}
use Rattle.std.specs.Prelude.{true, false}
use Rattle.twkb_points.specs.Extent.{Extent, extent}
use Rattle.twkb_tree.specs.Tree.{Simple, polygon, multi_point, multi_line, multi_polygon, Tree, simple, collection}
use Rattle.twkb_tree.specs.Tree.{Trees, end, ◌▷◌, Ids, IsTree, count, flat}
use Rattle.twkb_tree.specs.Rows.{Row, rows}
use Rattle.twkb_grammar.specs.Roles.{Count, Geometries}
use Rattle.twkb_grammar.specs.Items.{fields, id_fields}
use Rattle.twkb_grammar.specs.Written.{boxed, varints, is_empty, flags_of_tree, canonical_members}
use Rattle.twkb_grammar.specs.declared.style.Style.{Style}
use Rattle.twkb_grammar.specs.declared.style.Style.TheVariants.{Full, Plain}
use Rattle.twkb_writer.specs.declared.sizes.Entry.{Entry}
use Rattle.twkb_writer.specs.Bytes.{box_bytes}
use Rattle.twkb_tree.specs.Limits.{int_eq}
use Rattle.twkb_writer.specs.declared.precisions.Precisions.{Precisions}
use Rattle.twkb_writer.specs.declared.precisions.Precisions.TheVariants.{Absent, One, Several}

-- ==== The numbers of a geometry that its canonical blob needs before its body.

-- the body of a geometry's canonical blob, if it has one (TWKB, description of types)
abbrev pub body_of : Style → Tree → List ℕ
body_of style (simple p s) = varints (fields s)
body_of style (collection p ids gs) = varints ((Count (Geometries 0), count gs) ∷ id_fields ids)
    ++ canonical_members style gs

-- the body, or nothing if bit 4 says that there is none (TWKB, metadata header)
abbrev pub own_body : Style → Tree → List ℕ
own_body style g = if is_empty (flags_of_tree g) then [] else body_of style g

-- the extent of all points if the blob has a box; a plain blob has none
abbrev pub bounds_of : Style → Tree → Option Extent
bounds_of Full g = if boxed g then extent (flat g) else None
bounds_of Plain g = None

-- what comes after the metadata byte except the size: box and body
abbrev pub content_of : Style → Tree → List ℕ
content_of style g = box_bytes (bounds_of style g) ++ own_body style g

-- the number of rings or members of a simple shape
abbrev pub parts_in : Simple → ℕ
parts_in (polygon rings) = length rings
parts_in (multi_point ids ps) = length ps
parts_in (multi_line ids lines) = length lines
parts_in (multi_polygon ids areas) = length areas
parts_in _ = 0

-- the number of rings or members of any geometry
abbrev pub part_count : Tree → ℕ
part_count (simple p s) = parts_in s
part_count (collection p ids gs) = count gs

-- the ids of a simple shape's members
abbrev pub ids_in : Simple → Ids
ids_in (multi_point ids ps) = ids
ids_in (multi_line ids lines) = ids
ids_in (multi_polygon ids areas) = ids
ids_in _ = None

-- the ids of a geometry's members
abbrev pub ids_of : Tree → Ids
ids_of (simple p s) = ids_in s
ids_of (collection p ids gs) = ids

-- the entry of one geometry in a style: the length of its content, the extent for its box, the
-- number of its rings or members, and whether these have ids
abbrev pub entry_of : Style → Tree → Entry
entry_of style g = record {
  size = length (content_of style g);
  bounds = bounds_of style g;
  members = part_count g;
  named = is_some (ids_of g);
}

-- the entries of a geometry and of all collection members in it, in preorder
abbrev mutual
  pub sizes_of : Style → Tree → List Entry
  sizes_of style (simple p s) = entry_of style (simple p s) ∷ []
  sizes_of style (collection p ids gs) = entry_of style (collection p ids gs) ∷ sizes_of_all style gs

  pub sizes_of_all : Style → Trees → List Entry
  sizes_of_all style end = []
  sizes_of_all style (g ▷ gs) = sizes_of style g ++ sizes_of_all style gs

-- these are the sizes of the rows: none if there is no row, otherwise those of the geometry whose
-- rows they are
abbrev pub AreSizes : Style → List Row → List Entry → Type 0
AreSizes style [] es = es ≡ []
AreSizes style (r ∷ rs) es = (g : Tree) × IsTree g × (rows 0 g ≡ r ∷ rs) × (es ≡ sizes_of style g)

-- ==== Bounds on the numbers that a pass over rows adds up, by the limits on rows and points.

-- the weights of the rows at all depths, with the bytes of the points up to the next geometry, are
-- at most this
abbrev pub weights_cap : ℕ
weights_cap = 2 ^ 30

-- sums of bytes are at most this, so that they fit 64 bits
abbrev pub sums_cap : ℕ
sums_cap = 2 ^ 40

-- ==== The precisions of some geometries, as far as a box needs them.

-- all geometries have this precision
abbrev pub all_are : ℤ → Precisions → Bool
all_are p Absent = true
all_are p (One q) = int_eq p q
all_are p Several = false

-- the precisions of both groups of geometries
abbrev pub agreed : Precisions → Precisions → Precisions
agreed Absent b = b
agreed (One p) Absent = One p
agreed (One p) (One q) = if int_eq p q then One p else Several
agreed (One p) Several = Several
agreed Several b = Several
