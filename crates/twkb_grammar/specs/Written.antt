-- The canonical blob of a geometry in a style (TWKB; which optional parts there are, and what a
-- box covers: profile).
use Rattle.std.specs.Prelude.{ℕ, ◌+◌, Bool, true, false, not, ◌&&◌, if◌then◌else◌, List, [], ◌∷◌}
use Rattle.std.specs.Prelude.{◌++◌, length, flat_map}
use Rattle.twkb_num.specs.Spelling.{zigzag_of}
use Rattle.twkb_num.specs.Varint.{varint_of}
use Rattle.twkb_points.specs.Extent.{tight}
use Rattle.twkb_tree.specs.Tree.{point, line, polygon, multi_point, multi_line, multi_polygon, Tree}
use Rattle.twkb_tree.specs.Tree.{simple, collection, Trees, end, ◌▷◌, count, flat, precision_of}
use Rattle.twkb_tree.specs.Limits.{uniform}
use Rattle.twkb_grammar.specs.Roles.{Count, Geometries, Field}
use Rattle.twkb_grammar.specs.Items.{fields, id_fields, kind_of, header_byte, Flags, MustBeEmpty, MayBeEmpty, HasBody}
use Rattle.twkb_grammar.specs.Items.{HasMembers, flags, flags_all}
use Rattle.twkb_grammar.specs.declared.style.Style.{Style}
use Rattle.twkb_grammar.specs.declared.style.Style.TheVariants.{Full, Plain}

-- The geometry is a point.
abbrev pub is_point : Tree → Bool
is_point (simple p (point o)) = true
is_point (simple p (line ps)) = false
is_point (simple p (polygon rings)) = false
is_point (simple p (multi_point ids ps)) = false
is_point (simple p (multi_line ids lines)) = false
is_point (simple p (multi_polygon ids areas)) = false
is_point (collection p ids gs) = false

-- The list has an item.
abbrev pub has_any : {A : Type 0} → List A → Bool
has_any [] = false
has_any (x ∷ xs) = true

-- A full blob of the geometry has a box: it is not a point, has a point in it, and each
-- collection member in it, at any depth, has its precision (profile).
abbrev pub boxed : Tree → Bool
boxed g = not (is_point g) && (has_any (flat g) && uniform g)

-- The number of the geometry's type (TWKB, type and precision).
abbrev pub kind_of_tree : Tree → ℕ
kind_of_tree (simple p s) = kind_of s
kind_of_tree (collection p ids gs) = 7

-- What the metadata byte must say about the geometry's body and ids.
abbrev pub flags_of_tree : Tree → Flags
flags_of_tree (simple p s) = flags s
flags_of_tree (collection p ids gs) = flags_all ids gs

-- The geometry has no members, rings or points itself.
abbrev pub is_empty : Flags → Bool
is_empty MustBeEmpty = true
is_empty MayBeEmpty = true
is_empty HasBody = false
is_empty (HasMembers named) = false

-- Bits 4 and 2 of the metadata byte: bit 4 whenever it is allowed, bit 2 if there are ids (TWKB,
-- metadata header; bit 4 in place of a count of 0: profile).
abbrev pub flag_bits : Flags → ℕ
flag_bits MustBeEmpty = 16
flag_bits MayBeEmpty = 16
flag_bits HasBody = 0
flag_bits (HasMembers named) = if named then 4 else 0

-- The metadata byte: in a full blob bit 1 always, and bit 0 if there is a box; in a plain blob
-- neither (profile).
abbrev pub metadata_byte : Style → Tree → ℕ
metadata_byte Full g = flag_bits (flags_of_tree g) + ((if boxed g then 1 else 0) + 2)
metadata_byte Plain g = flag_bits (flags_of_tree g)

-- The numbers of the fields, each as its shortest varint (profile).
abbrev pub varints : List Field → List ℕ
varints fs = flat_map (λ f. varint_of f.1) fs

-- The box, if there is one: the tight one around all points, those of members included, in zigzag
-- varints (TWKB, bounding box; what it covers: profile).
abbrev pub box_of : Tree → List ℕ
box_of g = if boxed g then flat_map (λ n. varint_of (zigzag_of n)) (tight (flat g)) else []

-- These bytes after their length (TWKB, size).
abbrev pub sized : List ℕ → List ℕ
sized rest = varint_of (length rest) ++ rest

-- What follows the metadata byte: in a full blob the size, the box and the body; in a plain blob
-- only the body.
abbrev pub framed : Style → Tree → List ℕ → List ℕ
framed Full g body = sized (box_of g ++ body)
framed Plain g body = body

-- A blob: type byte, metadata byte and the rest, with this body unless bit 4 says that there is
-- none.
abbrev pub written : Style → Tree → List ℕ → List ℕ
written style g body =
    header_byte (kind_of_tree g) (precision_of g) ∷ metadata_byte style g ∷ framed style g
    (if is_empty (flags_of_tree g) then [] else body)

-- The canonical blob of a geometry; the members of a collection are canonical blobs themselves
-- (profile).
abbrev mutual
  pub canonical_blob : Style → Tree → List ℕ
  canonical_blob style (simple p s) = written style (simple p s) (varints (fields s))
  canonical_blob style (collection p ids gs) =
      written style (collection p ids gs)
      (varints ((Count (Geometries 0), count gs) ∷ id_fields ids) ++ canonical_members style gs)

  -- The canonical blobs of members, one after another.
  pub canonical_members : Style → Trees → List ℕ
  canonical_members style end = []
  canonical_members style (g ▷ gs) = canonical_blob style g ++ canonical_members style gs

-- The canonical stream of some geometries: their canonical blobs, one after another (profile).
abbrev pub canonical_stream : Style → List Tree → List ℕ
canonical_stream style gs = flat_map (canonical_blob style) gs
