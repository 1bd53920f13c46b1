-- The totals and the entries of the rows of a geometry are those of its tree.
use Rattle.std.proofs.Common.{◌≡◌, ◌≤◌, ℤ, pos, negsuc, Bool, true, false, refl, sym, ◌∙◌, ap, ℕ, suc, ◌+◌, ◌<◌, List}
use Rattle.std.proofs.Common.{[], ◌∷◌, ◌++◌, length, Option, None, Some, subst, arith, append-nil, length-append}
use Rattle.std.specs.Prelude.{◌&&◌, if◌then◌else◌, is_some, ◌||◌, nat_eq, map, ◌-ℤ◌, not}
use Rattle.std.proofs.lemmas.Bool.{eq-eqb}
use Rattle.std.proofs.lemmas.Bool.Decides.{nat_tests}
use Rattle.twkb_num.specs.Spelling.{zigzag_of}
use Rattle.twkb_num.specs.Varint.{varint_of}
use Rattle.twkb_points.specs.Point.{Point}
use Rattle.twkb_points.specs.Extent.{joined_options, extent, Extent}
use Rattle.twkb_points.proofs.PointLemmas.{joined_options-none, extent-append}
use Rattle.twkb_tree.specs.Tree.{Tree, simple, collection, Trees, end, ◌▷◌, precision_of, Ids, HasIds, IdsFit, Simple}
use Rattle.twkb_tree.specs.Tree.{point, count, members, flat, flat_all, points_in, IsTree, AreTrees}
use Rattle.twkb_tree.specs.Limits.{int_eq, has_precision, have_precision, uniform}
use Rattle.twkb_tree.specs.Rows.{Row, kind_in, own_points, rows, rows_with, member_rows, first_id, other_ids}
use Rattle.twkb_tree.specs.Rows.{whole_row, IsAbove}
use Rattle.twkb_tree.specs.declared.kind.Kind.{Kind}
use Rattle.twkb_tree.proofs.RowLaws.{AreDeep}
use Rattle.twkb_tree.proofs.RowSteps.{above_less}
use Rattle.twkb_grammar.specs.Roles.{Count, Geometries}
use Rattle.twkb_grammar.specs.Items.{id_fields, flags_all, filled, OfId, header_byte}
use Rattle.twkb_grammar.specs.Written.{canonical_blob, canonical_members, varints, is_empty, is_point, sized, box_of}
use Rattle.twkb_grammar.specs.Written.{has_any, flags_of_tree, metadata_byte, kind_of_tree}
use Rattle.twkb_grammar.specs.declared.style.Style.{Style}
use Rattle.twkb_grammar.specs.declared.style.Style.TheVariants.{Full, Plain}
use Rattle.twkb_writer.specs.declared.precisions.Precisions.{Precisions}
use Rattle.twkb_writer.specs.declared.precisions.Precisions.TheVariants.{Absent, One, Several}
use Rattle.twkb_writer.specs.Sizes.{all_are, agreed, AreSizes, entry_of, sizes_of, sizes_of_all, body_of, own_body}
use Rattle.twkb_writer.specs.Sizes.{bounds_of, content_of, part_count, ids_of}
use Rattle.twkb_writer.specs.declared.totals.RowTotals.{RowTotals}
use Rattle.twkb_writer.specs.declared.sizes.Entry.{Entry}
use Rattle.twkb_writer.specs.Totals.{blank, id_len, is_bare, entry_for, blob_len, is_point as is_point_kind, lead_len}
use Rattle.twkb_writer.specs.Totals.{body_len, all_bounds, box_for, box_len, number_len, tail_of, from_origin}
use Rattle.twkb_writer.specs.Bytes.{entry_count, entries_in, signed, box_bytes}
use Rattle.twkb_writer.specs.declared.tails.TailTotals.{TailTotals}
use Rattle.twkb_writer.specs.MeasuredRows.{row_entry, option_list, totals, measured, points_ahead, row_totals}
use Rattle.twkb_writer.proofs.MeasuringParts.{totals_at, totals_none, totals_past, with_each, components_totals}
use Rattle.twkb_writer.proofs.MeasuringParts.{AreCounted, counted_none, counted_join, parts_counted, all_points}
use Rattle.twkb_writer.proofs.MeasuringParts.{IsCounted, members_listed, ids_sum, ids_len, length-number}
use Rattle.twkb_writer.proofs.MeasuringParts.{length-fields, from_origin-tail_of, total_parts, and_true, lead_parts}
use Rattle.twkb_writer.proofs.MeasuringParts.{bare_shape}
use Rattle.twkb_writer.proofs.BelowLemmas.{deep-below}
use Rattle.twkb_writer.proofs.TreeBytes.{length-members, has_members, box_is as box_is_written, blob_is}
use Rattle.twkb_tree.specs.declared.kind.Kind.TheVariants as kinds

-- ==== The entry of a geometry, from the rows below it.

-- ---- boxes

-- the number of bytes of a box
length-box : (b : Option Extent) → length (box_bytes b) ≡ box_len b
length-box None = refl
length-box (Some e) =
    let w : ℤ = e.greatest.x -ℤ e.least.x in
    let h : ℤ = e.greatest.y -ℤ e.least.y in
    omega (
      arith,
      length-append (signed e.least.x) (signed w ++ (signed e.least.y ++ (signed h ++ []))),
      length-append (signed w) (signed e.least.y ++ (signed h ++ [])),
      length-append (signed e.least.y) (signed h ++ []),
      length-append (signed h) [],
      length-number (zigzag_of e.least.x),
      length-number (zigzag_of w),
      length-number (zigzag_of e.least.y),
      length-number (zigzag_of h),
    )

-- without points there is no box
box_if : (a u : Bool) (ps : List Point) → (if a && u then extent ps else None)
    ≡ (if a && (has_any ps && u) then extent ps else None)
box_if true true [] = refl
box_if _ _ [] = refl
box_if a u (p ∷ ps) = refl

-- ---- the length of a blob

sized_length : (a b : ℕ) (rest : List ℕ) → length (a ∷ b ∷ sized rest) ≡ 2 + number_len (length rest) + length rest
sized_length a b rest = omega (arith, length-append (varint_of (length rest)) rest, length-number (length rest))

plain_length : (a b : ℕ) (rest : List ℕ) → length (a ∷ b ∷ rest) ≡ 2 + length rest
plain_length a b rest = omega arith

-- the length of a blob follows from its box and body
pub blob_length : (style : Style) (g : Tree) → blob_len style (length (content_of style g)) ≡ length
    (canonical_blob style g)
blob_length Full g =
    ap (λ b. blob_len Full (length (b ++ own_body Full g))) (box_is_written g)
    ∙ sym (sized_length (header_byte (kind_of_tree g) (precision_of g)) (metadata_byte Full g)
    (box_of g ++ own_body Full g))
    ∙ sym (ap (λ bs. length bs) (blob_is Full g))
blob_length Plain g =
    sym (plain_length (header_byte (kind_of_tree g) (precision_of g)) (metadata_byte Plain g) (own_body Plain g))
    ∙ sym (ap (λ bs. length bs) (blob_is Plain g))

-- ---- the entry

-- the row of a geometry: its kind, the number of its points, and the totals of the rows below it
-- and of the points up to its end
pub record IsMeasured (style : Style) (g : Tree) (k : Kind) (own : ℕ) (below : RowTotals) (t : TailTotals)
    : Type 0 where
  pub point : is_point_kind k ≡ is_point g
  pub members : below.members ≡ part_count g
  pub named : below.named ≡ is_some (ids_of g)
  pub extent_is : all_bounds below t ≡ extent (flat g)
  pub uniform_is : all_are (precision_of g) below.precisions ≡ uniform g
  pub bare : is_bare own below ≡ is_empty (flags_of_tree g)
  pub body : lead_len k own below + below.bytes + from_origin t ≡ length (body_of style g)

box_is : {style : Style} {g : Tree} {k : Kind} {own : ℕ} {below : RowTotals} {t : TailTotals}
    → IsMeasured style g k own below t → box_for style k (precision_of g) below t ≡ bounds_of style g
box_is {style = Full} {g} m =
    (λ i. if not (m.point i) && m.uniform_is i then m.extent_is i else None)
    ∙ box_if (not (is_point g)) (uniform g) (flat g)
box_is {style = Plain} m = refl

size_is : (b : Option Extent) (e : Bool) (n : ℕ) (bytes : List ℕ) → n ≡ length bytes
    → box_len b + (if e then 0 else n) ≡ length (box_bytes b ++ (if e then [] else bytes))
size_is b true n bytes h = omega (arith, length-append (box_bytes b) [], length-box b)
size_is b false n bytes h = omega (arith, length-append (box_bytes b) bytes, length-box b)

-- the entry of such a row is the geometry's
pub entry_is : {style : Style} {g : Tree} {k : Kind} {own : ℕ} {below : RowTotals} {t : TailTotals}
    → IsMeasured style g k own below t
    → entry_for style k (precision_of g) own below t ≡ entry_of style g
entry_is {style} {g} {k} {own} {below} {t} m =
    let body = lead_len k own below + below.bytes + from_origin t in
    let size : box_len (box_for style k (precision_of g) below t) + body_len k own below t
    ≡ length (content_of style g) =
    (λ i. box_len (box_is m i) + (if m.bare i then 0 else body))
    ∙ size_is (bounds_of style g) (is_empty (flags_of_tree g)) body (body_of style g) m.body in
    λ i. record { size = size i; bounds = box_is m i; members = m.members i; named = m.named i }

-- ==== The precisions of several geometries, which decide whether there is a box.

-- a number passes the test with itself
int_eq_self : (n : ℤ) → int_eq n n ≡ true
int_eq_self (pos n) = eq-eqb n n refl
int_eq_self (negsuc n) = eq-eqb n n refl

and_false : (b : Bool) → (b && false) ≡ false
and_false true = refl
and_false false = refl

-- a number is equal to two others, if these two are equal or not
two_ones : (p q r : ℤ) → all_are p (if int_eq q r then One q else Several) ≡ (int_eq p q && int_eq p r)
two_ones (pos a) (pos b) (pos c) = grind (arith, nat_tests)
two_ones (negsuc a) (negsuc b) (negsuc c) = grind (arith, nat_tests)
two_ones (pos a) (pos b) (negsuc c) = sym (and_false (nat_eq a b))
two_ones (negsuc a) (negsuc b) (pos c) = sym (and_false (nat_eq a b))
two_ones _ _ _ = grind (arith, nat_tests)

-- all of both groups have a precision if all of each have it
pub all_are-agreed : (p : ℤ) (a b : Precisions) → all_are p (agreed a b) ≡ (all_are p a && all_are p b)
all_are-agreed p (One q) Absent = sym (and_true (int_eq p q))
all_are-agreed p (One q) (One r) = two_ones p q r
all_are-agreed p (One q) Several = sym (and_false (int_eq p q))
all_are-agreed p _ b = refl

-- the precisions of a geometry and of all members in it
abbrev mutual
  pub precisions_of : Tree → Precisions
  precisions_of (simple p s) = One p
  precisions_of (collection p ids gs) = agreed (One p) (precisions_of_all gs)

  pub precisions_of_all : Trees → Precisions
  precisions_of_all end = Absent
  precisions_of_all (g ▷ gs) = agreed (precisions_of g) (precisions_of_all gs)

mutual
  all_are-precisions_of : (p : ℤ) (g : Tree) → all_are p (precisions_of g) ≡ has_precision p g
  all_are-precisions_of p (simple q s) = refl
  all_are-precisions_of p (collection q ids gs) = all_are-agreed p (One q) (precisions_of_all gs)
      ∙ ap (λ b. int_eq p q && b) (all_are-precisions_of_all p gs)

  all_are-precisions_of_all : (p : ℤ) (gs : Trees) → all_are p (precisions_of_all gs) ≡ have_precision p gs
  all_are-precisions_of_all p end = refl
  all_are-precisions_of_all p (g ▷ gs) =
      all_are-agreed p (precisions_of g) (precisions_of_all gs)
      ∙ ap (λ b. b && all_are p (precisions_of_all gs)) (all_are-precisions_of p g)
      ∙ ap (λ b. has_precision p g && b) (all_are-precisions_of_all p gs)

-- the precisions of the members of a geometry
abbrev pub members_precisions : Tree → Precisions
members_precisions (simple p s) = Absent
members_precisions (collection p ids gs) = precisions_of_all gs

-- a geometry's members have its precision if all precisions found are that one
pub all_are-uniform : (g : Tree) → all_are (precision_of g) (members_precisions g) ≡ uniform g
all_are-uniform (simple p s) = sym (int_eq_self p)
all_are-uniform (collection p ids gs) = all_are-precisions_of_all p gs
    ∙ ap (λ b. b && have_precision p gs) (sym (int_eq_self p))

-- ==== The totals of the rows of a geometry.

-- the totals after a geometry is added before the rows
abbrev pub with_tree : Style → Option ℤ → Tree → RowTotals → RowTotals
with_tree style id g l = record {
  members = l.members + 1;
  ids = id_len id + l.ids;
  named = is_some id || l.named;
  bytes = length (canonical_blob style g) + l.bytes;
  bounds = joined_options (extent (flat g)) l.bounds;
  precisions = agreed (precisions_of g) l.precisions;
}

-- the totals of the members of a collection
abbrev pub trees_totals : Style → Ids → Trees → RowTotals
trees_totals style ids gs = with_each (with_tree style) ids (members gs) blank

-- the bytes, the bounds and the precisions of the members
pub trees_sums : (style : Style) (ids : Ids) (gs : Trees)
    → ((trees_totals style ids gs).bytes ≡ length (canonical_members style gs))
    × ((trees_totals style ids gs).bounds ≡ extent (flat_all gs))
    × ((trees_totals style ids gs).precisions ≡ precisions_of_all gs)
trees_sums style ids end = (refl, refl, refl)
trees_sums style ids (g ▷ gs) =
    let more = trees_sums style (other_ids ids) gs in (
      omega (arith, length-append (canonical_blob style g) (canonical_members style gs), more.0),
      ap (joined_options (extent (flat g))) more.1 ∙ sym (extent-append (flat g) (flat_all gs)),
      ap (agreed (precisions_of g)) more.2,
    )

-- ---- a simple geometry is measured by its parts

simple_point : (s : Simple) (p : ℤ) → is_point_kind (kind_in s) ≡ is_point (simple p s)
simple_point (point o) p = refl
simple_point _ p = refl

pub simple_measured : (style : Style) (p : ℤ) (s : Simple) → IdsFit s
    → IsMeasured style (simple p s) (kind_in s) (length (own_points s)) (components_totals s)
    (tail_of (points_in s))
simple_measured style p s h =
    let t = total_parts s h in
    record {
      point = simple_point s p;
      members = t.members;
      named = t.named;
      extent_is = ap (joined_options (extent (points_in s))) t.no_bounds ∙ joined_options-none (extent (points_in s));
      uniform_is = ap (all_are p) t.no_precisions ∙ all_are-uniform (simple p s);
      bare = bare_shape s h;
      body = (λ i. lead_parts s h i + from_origin-tail_of (points_in s) i) ∙ sym (length-fields s);
    }

-- ---- a collection is measured by its members

id_fields_len : (ids : List ℤ) → length (varints (filled (map OfId ids) [])) ≡ ids_sum ids
id_fields_len [] = refl
id_fields_len (id ∷ ids) =
    omega (
      arith,
      length-append (varint_of (zigzag_of id)) (varints (filled (map OfId ids) [])),
      length-number (zigzag_of id),
      id_fields_len ids,
    )

ids_bytes_len : (ids : Ids) → length (varints (id_fields ids)) ≡ ids_len ids
ids_bytes_len None = refl
ids_bytes_len (Some ids) = id_fields_len ids

nat_eq_more : (n : ℕ) → nat_eq (n + 1) 0 ≡ false
nat_eq_more n = grind (arith, nat_tests)

bare_trees : (style : Style) (ids : Ids) (gs : Trees)
    → is_bare 0 (trees_totals style ids gs) ≡ is_empty (flags_all ids gs)
bare_trees style ids end = refl
bare_trees style None (g ▷ gs) = nat_eq_more (trees_totals style None gs).members
bare_trees style (Some ids) (g ▷ gs) = nat_eq_more (trees_totals style (other_ids (Some ids)) gs).members

collection_measured : (style : Style) (p : ℤ) (ids : Ids) (gs : Trees) → HasIds ids (count gs)
    → IsMeasured style (collection p ids gs) kinds.Collection 0 (trees_totals style ids gs) (tail_of [])
collection_measured style p ids gs h =
    let counted : IsCounted (with_tree style) = record {
      members = λ id g l. refl;
      ids = λ id g l. refl;
      named = λ id g l. refl;
    } in
    let listed = members_listed (with_tree style) counted ids (members gs) (has_members ids gs h) in
    let few = listed.0 ∙ length-members gs in
    record {
      point = refl;
      members = few;
      named = listed.2;
      extent_is = (trees_sums style ids gs).1;
      uniform_is = ap (all_are p) (trees_sums style ids gs).2 ∙ all_are-uniform (collection p ids gs);
      bare = bare_trees style ids gs;
      body = omega (
        arith,
        ap number_len few,
        listed.1,
        (trees_sums style ids gs).0,
        ids_bytes_len ids,
        length-append (varints ((Count (Geometries 0), count gs) ∷ id_fields ids)) (canonical_members style gs),
        length-append (varint_of (count gs)) (varints (id_fields ids)),
        length-number (count gs),
      );
    }

-- ---- the rows of a geometry, one after the other

-- the rows after a geometry at this depth: the first is no deeper and not a part
pub record IsBehind (d : ℕ) (rest : List Row) : Type 0 where
  pub above : IsAbove (suc d) rest
  pub no_part : points_ahead rest ≡ []

-- the rows of a geometry, given its own row and what the rows under it add
geometry_counted : {style : Style} {d : ℕ} {g : Tree} {k : Kind} {May : List Row → Type 0}
    {under : List Row} {add : RowTotals → RowTotals} {ps : List Point} {es : List Entry}
    (id : Option ℤ) (own : List Point) → AreCounted style (suc d) May under add ps es
    → ((rest : List Row) → IsBehind d rest → May rest) → AreDeep (suc d) under
    → IsMeasured style g k (length own) (add blank) (tail_of (own ++ ps))
    → agreed (One (precision_of g)) (add blank).precisions ≡ precisions_of g
    → AreCounted style d (IsBehind d) (whole_row d k id (precision_of g) own ∷ under)
    (with_tree style id g) [] (entry_of style g ∷ es)
geometry_counted {style} {d} {g} {k} {May} {under} {add} {ps} {es} id own parts may deep m precisions =
    let p : ℤ = precision_of g in
    let below : (rest : List Row) → IsBehind d rest → totals style (suc d) (under ++ rest) ≡ add blank =
    λ rest h. parts.counts rest (may rest h) ∙ ap add (totals_none style (suc d) rest h.above) in
    let points : (rest : List Row) → IsBehind d rest → own ++ points_ahead (under ++ rest) ≡ own ++ ps =
    λ rest h. ap (λ l. own ++ l) (parts.ahead rest (may rest h) ∙ ap (λ l. ps ++ l) h.no_part ∙ append-nil ps) in
    let entry : entry_for style k p (length own) (add blank) (tail_of (own ++ ps)) ≡ entry_of style g = entry_is m in
    record {
      begins = λ rest h. record { above = (let lt : d < suc d = omega arith in lt); no_part = refl };
      counts = λ rest h.
          totals_at style d (whole_row d k id p own) (under ++ rest) refl
          ∙ (λ i. row_totals style k (length own) id (Some p) (below rest h i) (tail_of (points rest h i))
          (totals_past style d under rest deep i))
          ∙ (λ i. record {
            members = (totals style d rest).members + 1;
            ids = id_len id + (totals style d rest).ids;
            named = is_some id || (totals style d rest).named;
            bytes = (ap (λ (e : Entry). blob_len style e.size) entry ∙ blob_length style g) i
                + (totals style d rest).bytes;
            bounds = joined_options (m.extent_is i) (totals style d rest).bounds;
            precisions = agreed (precisions i) (totals style d rest).precisions;
          });
      ahead = λ rest h. sym h.no_part;
      entries = λ rest h.
          (λ i. entry_for style k p (length own) (below rest h i) (tail_of (points rest h i))
          ∷ parts.entries rest (may rest h) i)
          ∙ ap (λ (e : Entry). e ∷ (es ++ measured style rest)) entry;
    }

mutual
  -- what the rows of a geometry add
  rows_counted : (style : Style) (d : ℕ) (id : Option ℤ) (g : Tree) → IsTree g
      → AreCounted style d (IsBehind d) (rows_with id d g) (with_tree style id g) [] (sizes_of style g)
  rows_counted style d id (simple p s) fits =
      geometry_counted id (own_points s) (parts_counted style (suc d) s)
      (λ rest h. above_less (suc d) rest h.above) (deep-below (suc d) (simple p s))
      (subst (λ ps. IsMeasured style (simple p s) (kind_in s) (length (own_points s))
      (components_totals s) (tail_of ps))
      (sym (all_points s)) (simple_measured style p s fits.1))
      (ap (agreed (One p)) (total_parts s fits.1).no_precisions)
  rows_counted style d id (collection p ids gs) fits =
      geometry_counted id [] (members_counted style (suc d) ids gs fits.2)
      (λ rest h. record { above = above_less (suc d) rest h.above; no_part = h.no_part })
      (deep-below (suc d) (collection p ids gs))
      (collection_measured style p ids gs fits.1)
      (ap (agreed (One p)) (trees_sums style ids gs).2)

  -- what the rows of members add, one after another
  members_counted : (style : Style) (d : ℕ) (ids : Ids) (gs : Trees) → AreTrees gs
      → AreCounted style d (IsBehind d) (member_rows d ids gs) (with_each (with_tree style) ids (members gs)) []
      (sizes_of_all style gs)
  members_counted style d ids end fits = counted_none style d (IsBehind d)
  members_counted style d ids (g ▷ gs) fits =
      counted_join (rows_counted style d (first_id ids) g fits.0) (members_counted style d (other_ids ids) gs fits.1)

-- the entries of a geometry's rows are its sizes
pub measured_rows : (style : Style) (g : Tree) → IsTree g → measured style (rows 0 g) ≡ sizes_of style g
measured_rows style g fits =
    ap (measured style) (sym (append-nil (rows 0 g)))
    ∙ (rows_counted style 0 None g fits).entries [] (record { above = tt; no_part = refl })
    ∙ append-nil (sizes_of style g)

entry_counted : (style : Style) (k : Kind) (own : ℕ) (p : Option ℤ) (below : RowTotals) (t : TailTotals)
    → length (option_list (row_entry style k own p below t)) ≡ entry_count p
entry_counted style k own None below t = refl
entry_counted style k own (Some p) below t = refl

-- there is an entry for each row that is a geometry
length-measured : (style : Style) (rs : List Row) → length (measured style rs) ≡ entries_in rs
length-measured style [] = refl
length-measured style (r ∷ rs) =
    let below = totals style (suc r.depth) rs in
    let t = tail_of (r.points ++ points_ahead rs) in
    omega (
      arith,
      length-append (option_list (row_entry style r.kind (length r.points) r.precision below t)) (measured style rs),
      entry_counted style r.kind (length r.points) r.precision below t,
      length-measured style rs,
    )

-- there are as many sizes as the rows have entries
pub sizes_suffice : (style : Style) (rs : List Row) (es : List Entry) → AreSizes style rs es
    → entries_in rs ≤ length es
sizes_suffice style [] es sizes = omega arith
sizes_suffice style (r ∷ rs) es sizes = omega (
  arith,
  length-measured style (r ∷ rs),
  ap (λ (l : List Row). length (measured style l)) sizes.2,
  ap length (measured_rows style sizes.0 sizes.1),
  ap length sizes.3,
)

-- the number of bytes of a geometry's rows is the length of its blob
pub totals_blob : (g : Tree) → IsTree g → (totals Full 0 (rows 0 g ++ [])).bytes ≡ length (canonical_blob Full g)
totals_blob g fits = omega (
  arith,
  ap (λ (l : RowTotals). l.bytes)
      ((rows_counted Full 0 None g fits).counts [] (record { above = tt; no_part = refl })),
)
