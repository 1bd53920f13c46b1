-- The bytes of a geometry's rows, with its own entries, are its canonical blob.
use Rattle.std.proofs.Common.{◌≡◌, ◌<◌, ℕ, ◌+◌, ◌*◌, ◌%◌, ◌≤◌, Bool, true, false, List, [], ◌∷◌, ◌++◌, length, Option}
use Rattle.std.proofs.Common.{Some, None, refl, ap, sym, ◌∙◌, append_assoc, arith, suc, map, append-nil, subst}
use Rattle.std.proofs.Common.{length-append}
use Rattle.std.specs.Prelude.{ℤ, pos, negsuc, flat_map, not, ◌&&◌, if◌then◌else◌, is_some}
use Rattle.std.proofs.lemmas.Int.{ints}
use Rattle.twkb_num.specs.Spelling.{zigzag_of}
use Rattle.twkb_num.specs.Varint.{varint_of}
use Rattle.twkb_points.specs.Point.{Point, origin}
use Rattle.twkb_points.specs.Extent.{Extent, extent, extent_of, joined_options, box_numbers, tight}
use Rattle.twkb_tree.specs.Tree.{Simple, point, line, polygon, multi_point, multi_line, multi_polygon, Tree, simple}
use Rattle.twkb_tree.specs.Tree.{collection, end, ◌▷◌, IsTree, IsPrecision, precision_of, flat, Ids, Trees, HasIds}
use Rattle.twkb_tree.specs.Tree.{IdsFit, AreTrees, members, count}
use Rattle.twkb_tree.specs.Rows.{own_row, own_points, kind_in, Row, plain_row, polygon_rows, ring_rows, rows_of_each}
use Rattle.twkb_tree.specs.Rows.{whole_row, other_ids, rows, rows_with, rows_below, member_rows, first_id, rows_under}
use Rattle.twkb_tree.specs.Rows.{IsAbove}
use Rattle.twkb_tree.specs.Limits.{uniform}
use Rattle.twkb_tree.specs.declared.kind.Kind.{Kind}
use Rattle.twkb_tree.specs.declared.kind.Kind.TheVariants as kind
use Rattle.twkb_tree.proofs.TreeLemmas.{own_row_first}
use Rattle.twkb_tree.proofs.RowForest.{both_true}
use Rattle.twkb_tree.proofs.RowSteps.{own_row-depth, own_row-id, above_less}
use Rattle.twkb_tree.proofs.RowLaws.{one_geometry}
use Rattle.twkb_grammar.specs.Items.{header_byte, kind_of, flags, OfPoint, run_of, rings_of, Slot, OfCount, id_slots}
use Rattle.twkb_grammar.specs.Items.{id_fields, fields, slots, members as flags_of, flags_all}
use Rattle.twkb_grammar.specs.Written.{is_point, has_any, boxed, box_of, flag_bits, flags_of_tree, kind_of_tree}
use Rattle.twkb_grammar.specs.Written.{metadata_byte, framed, written, canonical_blob, varints, is_empty}
use Rattle.twkb_grammar.specs.Written.{canonical_members}
use Rattle.twkb_grammar.specs.declared.style.Style.{Style}
use Rattle.twkb_grammar.specs.declared.style.Style.TheVariants.{Full, Plain}
use Rattle.twkb_grammar.specs.Roles.{type_of, type_byte, bit_value, Counted, Points, Components, Count, Geometries}
use Rattle.twkb_grammar.specs.Roles.{Rings}
use Rattle.twkb_grammar.specs.Noting.{geometries, geometries_of_all}
use Rattle.twkb_grammar.proofs.Bodies.{reached, reached-append, fields_are}
use Rattle.twkb_writer.specs.Bytes.{is_bare, metadata_of, size_bytes, box_bytes, header, signed, rows_bytes}
use Rattle.twkb_writer.specs.Bytes.{counts_bytes, members_below, way_bytes, way_end, ids_bytes}
use Rattle.twkb_writer.specs.Sizes.{body_of, own_body, bounds_of, content_of, entry_of, sizes_of, sizes_of_all}
use Rattle.twkb_writer.specs.Sizes.{parts_in, ids_in, part_count, ids_of, AreSizes}
use Rattle.twkb_writer.specs.declared.sizes.Entry.{Entry}
use Rattle.twkb_writer.proofs.BelowLemmas.{walked, walked-append, walked-way, reached-way, walked-ids, reached-ids}
use Rattle.twkb_writer.proofs.BelowLemmas.{filled-ids, Heads, one_heads, members-each, length-each, ids-each}
use Rattle.twkb_writer.proofs.BelowLemmas.{deep-below, deep-rings, member_rows-each}

-- ==== The header of a geometry by its entry is that of its canonical blob.

-- ---- type byte

-- four bits hold a precision
precision_bits : (p : ℤ) → IsPrecision p → zigzag_of p % 16 ≡ zigzag_of p
precision_bits (pos n) h = let high : n ≤ 7 = (let top = h.1 in omega (arith, ints, top)) in omega arith
precision_bits (negsuc n) h = let high : n ≤ 7 = (let low = h.0 in omega (arith, ints, low)) in omega arith

simple_type : (s : Simple) → type_of (kind_in s) ≡ kind_of s
simple_type (point o) = refl
simple_type _ = refl

tree_type : (id : Option ℤ) (d : ℕ) (g : Tree) → type_of (own_row id d g).kind ≡ kind_of_tree g
tree_type id d (simple p s) = simple_type s
tree_type id d (collection p ids gs) = refl

-- the precision of a geometry is in range
tree_precision : (g : Tree) → IsTree g → IsPrecision (precision_of g)
tree_precision (simple p s) t = t.0
tree_precision (collection p ids gs) t = t.0

pub type_is : (id : Option ℤ) (d : ℕ) (g : Tree) → IsTree g
    → type_byte (own_row id d g).kind (precision_of g) ≡ header_byte (kind_of_tree g)
    (precision_of g)
type_is id d g t =
    let bits = precision_bits (precision_of g) (tree_precision g t) in
    λ i. tree_type id d g i + 16 * bits i

-- ---- box

option_box : (o : Option Extent) → box_bytes o ≡ flat_map signed (elim o [ None ↦ [] | Some e ↦ box_numbers e ])
option_box None = refl
option_box (Some e) = refl

box_where : (b : Bool) (ps : List Point) → box_bytes (if b then extent ps else None)
    ≡ (if b then flat_map signed (tight ps) else [])
box_where false ps = refl
box_where true ps = option_box (extent ps)

-- the box of the entry is the canonical box
pub box_is : (g : Tree) → box_bytes (bounds_of Full g) ≡ box_of g
box_is g = box_where (boxed g) (flat g)

-- bit 0 of the metadata byte
abbrev box_bit : Option Extent → ℕ
box_bit None = 0
box_bit (Some b) = 1

some_bit : (e : Extent) (o : Option Extent) → box_bit (joined_options (Some e) o) ≡ 1
some_bit e None = refl
some_bit e (Some f) = refl

bit_where : (b : Bool) (ps : List Point) → (b ≡ true → has_any ps ≡ true)
    → box_bit (if b then extent ps else None) ≡ (if b then 1 else 0)
bit_where false ps any = refl
bit_where true [] any = cc (any refl)
bit_where true (p ∷ ps) any = some_bit (extent_of p) (extent ps)

boxed_any : (g : Tree) → boxed g ≡ true → has_any (flat g) ≡ true
boxed_any g h = (both_true (has_any (flat g)) (uniform g)
    (both_true (not (is_point g)) (has_any (flat g) && uniform g) h).1).0

-- ---- metadata byte

-- bits 4 and 2 of the metadata byte
abbrev body_bits : ℕ → Entry → ℕ
body_bits own e = if is_bare own e then 16 else if e.named then 4 else 0

simple_bits : (style : Style) (p : ℤ) (s : Simple)
    → body_bits (length (own_points s)) (entry_of style (simple p s)) ≡ flag_bits (flags s)
simple_bits style p (point None) = refl
simple_bits style p (point (Some q)) = refl
simple_bits style p (line []) = refl
simple_bits style p (line (q ∷ ps)) = refl
simple_bits style p (polygon []) = refl
simple_bits style p (polygon (ring ∷ rings)) = refl
simple_bits style p (multi_point ids []) = refl
simple_bits style p (multi_point None (q ∷ ps)) = refl
simple_bits style p (multi_point (Some ids) (q ∷ ps)) = refl
simple_bits style p (multi_line ids []) = refl
simple_bits style p (multi_line None (ps ∷ lines)) = refl
simple_bits style p (multi_line (Some ids) (ps ∷ lines)) = refl
simple_bits style p (multi_polygon ids []) = refl
simple_bits style p (multi_polygon None (rings ∷ areas)) = refl
simple_bits style p (multi_polygon (Some ids) (rings ∷ areas)) = refl

tree_bits : (style : Style) (id : Option ℤ) (d : ℕ) (g : Tree)
    → body_bits (length (own_row id d g).points) (entry_of style g) ≡ flag_bits (flags_of_tree g)
tree_bits style id d (simple p s) = simple_bits style p s
tree_bits style id d (collection p ids end) = refl
tree_bits style id d (collection p None (g ▷ gs)) = refl
tree_bits style id d (collection p (Some ids) (g ▷ gs)) = refl

-- the sum of the bits in a full blob
full_bits : (bare named : Bool) (box : Option Extent)
    → bit_value (is_some box) 0 + bit_value true 1 + bit_value (not bare && named) 2 + bit_value
    bare 4 ≡ (if bare then 16 else if named then 4 else 0) + (box_bit box + 2)
full_bits true named None = refl
full_bits true named (Some e) = refl
full_bits false true None = refl
full_bits false true (Some e) = refl
full_bits false false None = refl
full_bits false false (Some e) = refl

-- the sum of the bits in a plain blob
plain_bits : (bare named : Bool) → bit_value false 0 + bit_value false 1 + bit_value
    (not bare && named) 2 + bit_value bare 4 ≡ (if bare then 16 else if named then 4 else 0)
plain_bits false true = refl
plain_bits _ _ = refl

pub meta_is : (style : Style) (id : Option ℤ) (d : ℕ) (g : Tree)
    → metadata_of style (length (own_row id d g).points) (entry_of style g) ≡ metadata_byte style g
meta_is Full id d g =
    let own = length (own_row id d g).points in
    full_bits (is_bare own (entry_of Full g)) (entry_of Full g).named (bounds_of Full g)
    ∙ (λ i. tree_bits Full id d g i + (bit_where (boxed g) (flat g) (boxed_any g) i + 2))
meta_is Plain id d g =
    let own = length (own_row id d g).points in
    plain_bits (is_bare own (entry_of Plain g)) (entry_of Plain g).named ∙ tree_bits Plain id d g

-- ---- the complete header

framed_is : (style : Style) (g : Tree) → (size_bytes style (entry_of style g) ++ box_bytes
    (bounds_of style g)) ++ own_body style g ≡ framed style g (own_body style g)
framed_is Full g =
    let body = own_body Full g in
    append_assoc (varint_of (length (content_of Full g))) (box_bytes (bounds_of Full g)) body
    ∙ ap (λ (box : List ℕ). varint_of (length (box ++ body)) ++ (box ++ body)) (box_is g)
framed_is Plain g = refl

pub blob_is : (style : Style) (g : Tree) → canonical_blob style g ≡ written style g (body_of style g)
blob_is style (simple p s) = refl
blob_is style (collection p ids gs) = refl

-- header and body are the canonical blob
pub headed : (style : Style) (id : Option ℤ) (d : ℕ) (g : Tree) → IsTree g
    → header style (own_row id d g).kind (precision_of g) (length (own_row id d g).points)
    (entry_of style g) ++ own_body style g ≡ canonical_blob style g
headed style id d g t = (λ i. type_is id d g t i ∷ meta_is style id d g i ∷ framed_is style g i)
    ∙ sym (blob_is style g)

-- ==== The bytes of the rows that are parts of a geometry.

-- The bytes of rows at depth d before any others that are no deeper: they use the entries `own`,
-- they are `put at` after a point `at`, and the others go on from `last at`.
record AreSpelled (style : Style) (d : ℕ) (rs : List Row) (own : List Entry) (put : Point → List ℕ)
    (last : Point → Point) : Type 0 where
  begins : (rest : List Row) → IsAbove (suc d) rest → IsAbove (suc d) (rs ++ rest)
  spelled : (at : Point) (es : List Entry) (rest : List Row) → IsAbove (suc d) rest
      → rows_bytes style at (own ++ es) (rs ++ rest) ≡ put at ++ rows_bytes style (last at) es rest

-- no rows have no bytes
spelled_none : (style : Style) (d : ℕ) → AreSpelled style d [] [] (λ at. []) (λ at. at)
spelled_none style d = record { begins = λ rest h. h; spelled = λ at es rest h. refl }

-- the bytes of rows before other rows
spelled_join : {style : Style} {d : ℕ} {xs ys : List Row} {own others : List Entry}
    {put next : Point → List ℕ} {last end_of : Point → Point}
    → AreSpelled style d xs own put last → AreSpelled style d ys others next end_of
    → AreSpelled style d (xs ++ ys) (own ++ others) (λ at. put at ++ next (last at)) (λ at. end_of (last at))
spelled_join {style} {d} {xs} {ys} {own} {others} {put} {next} {last} {end_of} a b = record {
  begins = λ rest h. subst (IsAbove (suc d)) (sym (append_assoc xs ys rest))
      (a.begins (ys ++ rest) (b.begins rest h));
  spelled = λ at es rest h.
      (λ i. rows_bytes style at (append_assoc own others es i) (append_assoc xs ys rest i))
      ∙ a.spelled at (others ++ es) (ys ++ rest) (b.begins rest h)
      ∙ ap (λ l. put at ++ l) (b.spelled (last at) es rest h)
      ∙ sym (append_assoc (put at) (next (last at)) (rows_bytes style (end_of (last at)) es rest));
}

-- ---- parts

-- the bytes of parts at this depth are those of slots
abbrev HasSlots : Style → ℕ → List Row → List Slot → Type 0
HasSlots style d rs ms = AreSpelled style d rs [] (λ at. walked at ms) (λ at. reached at ms)

-- parts, one after another
slots_each : {A : Type 0} {style : Style} {d : ℕ} {f : Option ℤ → A → List Row} (ms : A → List Slot)
    → ((id : Option ℤ) (x : A) → HasSlots style d (f id x) (ms x)) → (ids : Ids) (xs : List A)
    → HasSlots style d (rows_of_each f ids xs) (flat_map ms xs)
slots_each {style = style} {d} ms part ids [] = spelled_none style d
slots_each {style = style} ms part ids (x ∷ xs) =
    let all = spelled_join (part (first_id ids) x) (slots_each ms part (other_ids ids) xs) in
    record {
      begins = all.begins;
      spelled = λ at es rest h.
          let bytes = sym (walked-append at (ms x) (flat_map ms xs)) in
          let last = sym (reached-append at (ms x) (flat_map ms xs)) in
          all.spelled at es rest h ∙ (λ i. bytes i ++ rows_bytes style (last i) es rest);
    }

-- a kind whose rows have a count of points
abbrev IsRun : Kind → Type 0
IsRun k = (own members : ℕ) (ids : List ℕ) → counts_bytes k own members ids ≡ varint_of own

-- the row of a ring or linestring
run_spelled : (style : Style) (d : ℕ) (k : Kind) → IsRun k → (id : Option ℤ) (ps : List Point)
    → HasSlots style d (plain_row d k id ps ∷ []) (run_of ps)
run_spelled style d k is id ps = record {
  begins = λ rest h. (let le : d < suc d = omega arith in le);
  spelled = λ at es rest h.
      let count = is (length ps) (length (members_below d rest)) [] in
      let bytes = sym (walked-way at ps) in
      let last = sym (reached-way at ps) in
      (λ i. (count i ++ bytes i) ++ rows_bytes style (last i) es rest);
}

-- the row of a multipoint's point
point_spelled : (style : Style) (d : ℕ) (id : Option ℤ) (p : Point)
    → HasSlots style d (plain_row d kind.Point id (p ∷ []) ∷ []) (OfPoint p ∷ [])
point_spelled style d id p = record {
  begins = λ rest h. (let le : d < suc d = omega arith in le);
  spelled = λ at es rest h. ap (λ l. l ++ rows_bytes style p es rest) (sym (walked-way at (p ∷ [])));
}

-- the rows of a polygon's rings
rings_spelled : (style : Style) (d : ℕ) (rings : List (List Point))
    → HasSlots style d (ring_rows d rings) (flat_map run_of rings)
rings_spelled style d rings = slots_each run_of (run_spelled style d kind.Ring (λ own members ids. refl)) None rings

-- the rings of a polygon are its members
ring_members : (d : ℕ) (rings : List (List Point)) (rs : List Row) → IsAbove (suc d) rs
    → length (members_below d (ring_rows (suc d) rings ++ rs)) ≡ length rings
ring_members d rings rs h =
    ap length (members-each (one_heads d kind.Ring (λ ps. ps)) None rings rs h)
    ∙ length-each (λ id ps. plain_row (suc d) kind.Ring id ps) None rings

-- the rows of a polygon
polygon_spelled : (style : Style) (d : ℕ) (id : Option ℤ) (rings : List (List Point))
    → HasSlots style d (polygon_rows d id rings) (rings_of rings)
polygon_spelled style d id rings = record {
  begins = λ rest h. (let le : d < suc d = omega arith in le);
  spelled = λ at es rest h.
      let v = varint_of (length rings) in
      let below = rows_bytes style at es (ring_rows (suc d) rings ++ rest) in
      let ms = flat_map run_of rings in
      ap (λ n. ((varint_of n ++ []) ++ []) ++ below) (ring_members d rings rest h)
      ∙ ap (λ l. l ++ below) (append-nil (v ++ []) ∙ append-nil v)
      ∙ ap (λ l. v ++ l) ((rings_spelled style (suc d) rings).spelled at es rest (above_less (suc d) rest h))
      ∙ sym (append_assoc v (walked at ms) (rows_bytes style (reached at ms) es rest));
}

-- the slots of the parts of a shape
abbrev pub part_slots : Simple → List Slot
part_slots (polygon rings) = flat_map run_of rings
part_slots (multi_point ids ps) = flat_map (λ p. OfPoint p ∷ []) ps
part_slots (multi_line ids lines) = flat_map run_of lines
part_slots (multi_polygon ids areas) = flat_map rings_of areas
part_slots _ = []

-- the rows of the parts of a shape
parts_spelled : (style : Style) (d : ℕ) (s : Simple) → HasSlots style d (rows_below d s) (part_slots s)
parts_spelled style d (polygon rings) = rings_spelled style d rings
parts_spelled style d (multi_point ids ps) = slots_each (λ p. OfPoint p ∷ []) (point_spelled style d) ids ps
parts_spelled style d (multi_line ids lines) =
    slots_each run_of (run_spelled style d kind.Linestring (λ own members ids. refl)) ids lines
parts_spelled style d (multi_polygon ids areas) = slots_each rings_of (polygon_spelled style d) ids areas
parts_spelled style d _ = spelled_none style d

-- ==== The bytes of a geometry's rows, with its own entries, are its canonical blob.

-- ---- id lists

-- the bytes of an id list, and of slots after it
walked-id_slots : (at : Point) (ids : Ids) (ms : List Slot)
    → walked at (id_slots ids ++ ms) ≡ walked at (id_slots ids) ++ walked at ms
walked-id_slots at None ms = refl
walked-id_slots at (Some ids) ms = walked-ids at ids ms

reached-id_slots : (at : Point) (ids : Ids) (ms : List Slot) → reached at (id_slots ids ++ ms) ≡ reached at ms
reached-id_slots at None ms = refl
reached-id_slots at (Some ids) ms = reached-ids at ids ms

-- the ids of the rows below, if there are ids
part_ids : {A : Type 0} {d : ℕ} {f : Option ℤ → A → List Row} {own : Option ℤ → A → Row}
    {deeper : Option ℤ → A → List Row} → Heads d f own deeper → (at : Point) (ids : Ids) (xs : List A)
    (rs : List Row) → IsAbove (suc d) rs → HasIds ids (length xs)
    → (if is_some ids then ids_bytes (members_below d (rows_of_each f ids xs ++ rs)) else [])
    ≡ walked at (id_slots ids)
part_ids heads at None xs rs above h = refl
part_ids {own = own} heads at (Some ids) xs rs above h = ap ids_bytes (members-each heads (Some ids) xs rs above)
    ∙ ids-each own heads.same_id at ids xs h.1

-- ---- bodies

-- the bytes of a count, ids, and what follows
many_bytes : (v named ids x w t body : List ℕ) → named ≡ ids → x ≡ w ++ t → body ≡ v ++ (ids ++ w)
    → (v ++ named) ++ x ≡ body ++ t
many_bytes v named ids x w t body e f g =
    (λ i. (v ++ e i) ++ f i) ∙ append_assoc v ids (w ++ t) ∙ ap (λ l. v ++ l) (sym (append_assoc ids w t))
    ∙ sym (append_assoc v (ids ++ w) t) ∙ ap (λ l. l ++ t) (sym g)

-- a multi type with a member has a body
has_body : {A : Type 0} (ids : Ids) (x : A) (xs : List A) (body : List ℕ)
    → (if is_empty (flags_of ids (x ∷ xs)) then [] else body) ≡ body
has_body None x xs body = refl
has_body (Some ids) x xs body = refl

-- a collection with a member has a body
collection_body : (ids : Ids) (g : Tree) (gs : Trees) (body : List ℕ)
    → (if is_empty (flags_all ids (g ▷ gs)) then [] else body) ≡ body
collection_body None g gs body = refl
collection_body (Some ids) g gs body = refl

-- the bytes after the header of a simple shape at depth d, before other rows
abbrev put_body : Style → ℤ → Simple → ℕ → List Entry → List Row → List ℕ
put_body style p s d es rs =
    (if is_bare (length (own_points s)) (entry_of style (simple p s)) then [] else counts_bytes
    (kind_in s) (length (own_points s)) (parts_in s)
    (if is_some (ids_in s) then ids_bytes (members_below d (rows_below (suc d) s ++ rs)) else
    []))
    ++ (way_bytes origin (own_points s) ++ rows_bytes style (way_end origin (own_points s)) es
    (rows_below (suc d) s ++ rs))

-- the body of a shape with parts: a count, ids, and the parts
parts_body : (style : Style) (p : ℤ) (s : Simple) (d : ℕ) (es : List Entry) (rs : List Row) (c : Counted) (n : ℕ)
    (named : List ℕ) → slots s ≡ OfCount c n ∷ id_slots (ids_in s) ++ part_slots s
    → named ≡ walked origin (id_slots (ids_in s)) → own_body style (simple p s) ≡ varints (fields s)
    → IsAbove (suc d) rs
    → (varint_of n ++ named) ++ rows_bytes style origin es (rows_below (suc d) s ++ rs)
    ≡ own_body style (simple p s) ++ rows_bytes style (reached origin (slots s)) es rs
parts_body style p s d es rs c n named are ids full above =
    let ms = part_slots s in
    let body = full ∙ ap varints (fields_are s) ∙ ap (walked origin) are
    ∙ ap (λ l. varint_of n ++ l) (walked-id_slots origin (ids_in s) ms) in
    many_bytes (varint_of n) named _ _ (walked origin ms) _ _ ids
    ((parts_spelled style (suc d) s).spelled origin es rs (above_less (suc d) rs above)) body
    ∙ ap (λ at. own_body style (simple p s) ++ rows_bytes style at es rs)
    (sym (ap (reached origin) are ∙ reached-id_slots origin (ids_in s) ms))

-- points as slots, one at a time
pub points_ones : (ps : List Point) → map OfPoint ps ≡ flat_map (λ p. OfPoint p ∷ []) ps
points_ones [] = refl
points_ones (p ∷ ps) = ap (λ ms. OfPoint p ∷ ms) (points_ones ps)

simple_body : (style : Style) (p : ℤ) (s : Simple) (d : ℕ) (es : List Entry) (rs : List Row) → IdsFit s
    → IsAbove (suc d) rs
    → put_body style p s d es rs ≡ own_body style (simple p s) ++ rows_bytes style (reached origin (slots s)) es rs
simple_body style p (point (Some q)) d es rs fit above =
    ap (λ l. l ++ rows_bytes style q es rs) (sym (ap varints (fields_are (point (Some q)))
    ∙ walked-way origin (q ∷ [])))
simple_body style p (line (q ∷ ps)) d es rs fit above =
    let v = varint_of (length (q ∷ ps)) in
    let w = way_bytes origin (q ∷ ps) in
    sym (append_assoc v w (rows_bytes style (way_end q ps) es rs))
    ∙ ap (λ l. l ++ rows_bytes style (way_end q ps) es rs)
    (sym (ap varints (fields_are (line (q ∷ ps))) ∙ ap (λ l. v ++ l) (walked-way origin (q ∷ ps))))
    ∙ ap (λ at. varints (fields (line (q ∷ ps))) ++ rows_bytes style at es rs) (sym (reached-way origin (q ∷ ps)))
simple_body style p (polygon (ring ∷ rings)) d es rs fit above =
    parts_body style p (polygon (ring ∷ rings)) d es rs Rings (length (ring ∷ rings)) [] refl refl refl above
simple_body style p (multi_point (Some ids) []) d es rs fit above = absurd (omega (arith, fit.0))
simple_body style p (multi_point ids (q ∷ ps)) d es rs fit above =
    parts_body style p (multi_point ids (q ∷ ps)) d es rs Points (length (q ∷ ps)) _
    (ap (λ ms. OfCount Points (length (q ∷ ps)) ∷ id_slots ids ++ ms) (points_ones (q ∷ ps)))
    (part_ids (one_heads d kind.Point (λ x. x ∷ [])) origin ids (q ∷ ps) rs above fit)
    (has_body ids q ps _) above
simple_body style p (multi_line (Some ids) []) d es rs fit above = absurd (omega (arith, fit.0))
simple_body style p (multi_line ids (ps ∷ lines)) d es rs fit above =
    parts_body style p (multi_line ids (ps ∷ lines)) d es rs Components (length (ps ∷ lines)) _ refl
    (part_ids (one_heads d kind.Linestring (λ x. x)) origin ids (ps ∷ lines) rs above fit)
    (has_body ids ps lines _) above
simple_body style p (multi_polygon (Some ids) []) d es rs fit above = absurd (omega (arith, fit.0))
simple_body style p (multi_polygon ids (rings ∷ areas)) d es rs fit above =
    let heads : Heads d (polygon_rows (suc d)) (λ id x. plain_row (suc d) kind.Polygon id [])
    (λ id x. ring_rows (suc (suc d)) x) = record {
      is = λ id x. refl;
      depth = λ id x. refl;
      deep = λ id x. deep-rings (suc (suc d)) x;
      same_id = λ id x. refl;
    } in
    parts_body style p (multi_polygon ids (rings ∷ areas)) d es rs Components (length (rings ∷ areas)) _ refl
    (part_ids heads origin ids (rings ∷ areas) rs above fit) (has_body ids rings areas _) above
simple_body style p _ d es rs fit above = refl

-- ---- geometries

-- the members as a list are as many as the members
pub length-members : (gs : Trees) → length (members gs) ≡ count gs
length-members end = refl
length-members (g ▷ gs) = let more = length-members gs in omega (arith, more)

pub has_members : (ids : Ids) (gs : Trees) → HasIds ids (count gs) → HasIds ids (length (members gs))
has_members ids gs h = subst (HasIds ids) (sym (length-members gs)) h

-- the ids of the members of a collection
collection_ids : (d : ℕ) (ids : Ids) (gs : Trees) (rs : List Row) → IsAbove (suc d) rs → HasIds ids (count gs)
    → (if is_some ids then ids_bytes (members_below d (member_rows (suc d) ids gs ++ rs)) else [])
    ≡ walked origin (id_slots ids)
collection_ids d ids gs rs above h =
    let heads : Heads d (λ id g. rows_with id (suc d) g) (λ id g. own_row id (suc d) g)
    (λ id g. rows_under (suc (suc d)) g) = record {
      is = λ id g. own_row_first id (suc d) g;
      depth = λ id g. own_row-depth id (suc d) g;
      deep = λ id g. deep-below (suc (suc d)) g;
      same_id = λ id g. own_row-id id (suc d) g;
    } in
    ap (λ (l : List Row). if is_some ids then ids_bytes (members_below d (l ++ rs)) else [])
    (member_rows-each (suc d) ids gs)
    ∙ part_ids heads origin ids (members gs) rs above (has_members ids gs h)

-- an id list by its fields
id_fields-walked : (ids : Ids) → varints (id_fields ids) ≡ walked origin (id_slots ids)
id_fields-walked None = refl
id_fields-walked (Some ids) = filled-ids origin ids

-- what comes between the header of a geometry's row and its points, given the rows below it
abbrev counts_of : Style → Tree → Kind → ℕ → ℕ → List Row → List ℕ
counts_of style g k d own below =
    if is_bare own (entry_of style g) then [] else counts_bytes k own (part_count g)
    (if is_some (ids_of g) then ids_bytes (members_below d below) else [])

-- a geometry whose body comes after its header
geometry_spelled : (style : Style) (g : Tree) (k : Kind) (p : ℤ) (id : Option ℤ) (d : ℕ) (own : List Point)
    (at : Point) (es : List Entry) (below : List Row) (t : List ℕ)
    → header style k p (length own) (entry_of style g) ++ own_body style g ≡ canonical_blob style g
    → counts_of style g k d (length own) below ++ (way_bytes origin own
    ++ rows_bytes style (way_end origin own) es below) ≡ own_body style g ++ t
    → rows_bytes style at (entry_of style g ∷ es) (whole_row d k id p own ∷ below) ≡ canonical_blob style g ++ t
geometry_spelled style g k p id d own at es below t head put =
    let h = header style k p (length own) (entry_of style g) in
    let rest = rows_bytes style (way_end origin own) es below in
    append_assoc (h ++ counts_of style g k d (length own) below) (way_bytes origin own) rest
    ∙ append_assoc h _ _ ∙ ap (λ l. h ++ l) put ∙ sym (append_assoc h (own_body style g) t)
    ∙ ap (λ l. l ++ t) head

mutual
  -- the bytes of a geometry's rows are its canonical blob, and other rows go on from some point
  tree_spelled : (style : Style) (g : Tree) (id : Option ℤ) (d : ℕ) → IsTree g → (last : Point → Point)
      × AreSpelled style d (rows_with id d g) (sizes_of style g) (λ at. canonical_blob style g) last
  tree_spelled style (simple p s) id d t = (
    λ at. reached origin (slots s),
    record {
      begins = λ rest h. (let le : d < suc d = omega arith in le);
      spelled = λ at es rest h. geometry_spelled style (simple p s) (kind_in s) p id d (own_points s) at es
          (rows_below (suc d) s ++ rest) (rows_bytes style (reached origin (slots s)) es rest)
          (headed style id d (simple p s) t) (simple_body style p s d es rest t.1 h);
    },
  )
  tree_spelled style (collection p ids end) id d t = (
    λ at. origin,
    record {
      begins = λ rest h. (let le : d < suc d = omega arith in le);
      spelled = λ at es rest h. geometry_spelled style (collection p ids end) kind.Collection p id d [] at es
          rest (rows_bytes style origin es rest) (headed style id d (collection p ids end) t) refl;
    },
  )
  tree_spelled style (collection p ids (g ▷ gs)) id d t =
      let (last, members) = trees_spelled style (g ▷ gs) ids (suc d) t.2 in
      let all = canonical_members style (g ▷ gs) in
      let n = varint_of (count (g ▷ gs)) in
      let body = varints ((Count (Geometries 0), count (g ▷ gs)) ∷ id_fields ids) ++ all in (
        λ at. last origin,
        record {
          begins = λ rest h. (let le : d < suc d = omega arith in le);
          spelled = λ at es rest h.
              geometry_spelled style (collection p ids (g ▷ gs)) kind.Collection p id d [] at
              (sizes_of_all style (g ▷ gs) ++ es) (member_rows (suc d) ids (g ▷ gs) ++ rest)
              (rows_bytes style (last origin) es rest) (headed style id d (collection p ids (g ▷ gs)) t)
              (many_bytes n _ _ _ all _ _ (collection_ids d ids (g ▷ gs) rest h t.1)
              (members.spelled origin es rest (above_less (suc d) rest h))
              (collection_body ids g gs body ∙ append_assoc n (varints (id_fields ids)) all
              ∙ ap (λ l. n ++ (l ++ all)) (id_fields-walked ids)));
        },
      )

  trees_spelled : (style : Style) (gs : Trees) (ids : Ids) (d : ℕ) → AreTrees gs → (last : Point → Point)
      × AreSpelled style d (member_rows d ids gs) (sizes_of_all style gs) (λ at. canonical_members style gs) last
  trees_spelled style end ids d t = (λ at. at, spelled_none style d)
  trees_spelled style (g ▷ gs) ids d t =
      let (last, first) = tree_spelled style g (first_id ids) d t.0 in
      let (end_of, others) = trees_spelled style gs (other_ids ids) d t.1 in
      (λ at. end_of (last at), spelled_join first others)

-- the rows of a geometry with its sizes are its canonical blob
pub rows_spell : (style : Style) (g : Tree) → IsTree g
    → rows_bytes style origin (sizes_of style g) (rows 0 g) ≡ canonical_blob style g
rows_spell style g t =
    let (last, all) = tree_spelled style g None 0 t in
    ap (λ (l : List Entry). rows_bytes style origin l (rows 0 g)) (sym (append-nil (sizes_of style g)))
    ∙ ap (λ (l : List Row). rows_bytes style origin (sizes_of style g ++ []) l) (sym (append-nil (rows 0 g)))
    ∙ all.spelled origin [] [] tt ∙ append-nil (canonical_blob style g)

-- ==== The rows of a flat form with its sizes.

-- a geometry has at least one row
pub some_row : (g : Tree) → rows 0 g ≡ [] → ⊥
some_row (simple p s) e = cc e
some_row (collection p ids gs) e = cc e

-- rows with their sizes are the canonical blob of the geometry whose rows they are
pub rows_written : (style : Style) (rs : List Row) (es : List Entry) → AreSizes style rs es
    → (g : Tree) → IsTree g → rows 0 g ≡ rs → rows_bytes style origin es rs ≡ canonical_blob style g
rows_written style [] es sizes g t e = absurd (some_row g e)
rows_written style (r ∷ rs) es sizes g t e =
    let h = sizes.0 in
    let same : h ≡ g = one_geometry h g sizes.1 t (sizes.2 ∙ sym e) in
    ap (λ (l : List Entry). rows_bytes style origin l (r ∷ rs)) sizes.3
    ∙ ap (λ (l : List Row). rows_bytes style origin (sizes_of style h) l) (sym sizes.2)
    ∙ rows_spell style h sizes.1
    ∙ ap (canonical_blob style) same

-- ==== The number of sizes.

mutual
  -- there is one entry for each TWKB geometry
  length-sizes_of : (style : Style) (g : Tree) → length (sizes_of style g) ≡ geometries g
  length-sizes_of style (simple p s) = refl
  length-sizes_of style (collection p ids gs) = ap suc (length-sizes_of_all style gs)

  length-sizes_of_all : (style : Style) (gs : Trees) → length (sizes_of_all style gs) ≡ geometries_of_all gs
  length-sizes_of_all style end = refl
  length-sizes_of_all style (g ▷ gs) = omega (
    arith,
    length-append (sizes_of style g) (sizes_of_all style gs),
    length-sizes_of style g,
    length-sizes_of_all style gs,
  )

-- the sizes of a geometry's rows
pub one_size_each : (style : Style) (g : Tree) (flat : List Row) (sizes : List Entry) → IsTree g
    → rows 0 g ≡ flat → AreSizes style flat sizes → length sizes ≡ geometries g
one_size_each style g [] sizes tree same are = absurd (some_row g same)
one_size_each style g (r ∷ rs) sizes tree same are =
    let one : are.0 ≡ g = one_geometry are.0 g are.1 tree (are.2 ∙ sym same) in
    ap length are.3 ∙ length-sizes_of style are.0 ∙ ap geometries one
