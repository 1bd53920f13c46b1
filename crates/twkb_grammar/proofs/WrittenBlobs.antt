-- The canonical blob of a valid geometry, as items, is a blob of it.
use Rattle.std.proofs.Common.{◌≡◌, ℕ, ◌*◌, ◌<◌, ◌≤◌, ◌^◌, List, [], ◌∷◌, ◌++◌, length, refl, ap, sym, ◌∙◌, append_assoc}
use Rattle.std.proofs.Common.{length-append, arith, Bool, true, false, map, subst, Some, None, ◌+◌, append-nil, suc}
use Rattle.std.specs.List.{AllByRecursion}
use Rattle.std.specs.Prelude.{ℤ, flat_map, if◌then◌else◌, ◌&&◌, not}
use Rattle.std.specs.Int.{int_min, int_max}
use Rattle.std.proofs.lemmas.Int.{ints, clamps}
use Rattle.twkb_num.specs.Varint.{varint_of}
use Rattle.twkb_num.specs.Spelling.{zigzag_of}
use Rattle.twkb_num.proofs.VarintLemmas.{IsVarint-varint_of, length-varint_of}
use Rattle.twkb_points.specs.Point.{Point, IsCoordinate, IsInRange, AreInRange, origin}
use Rattle.twkb_points.specs.Extent.{Extent, extent_of, joined, joined_options, extent, box_numbers, tight}
use Rattle.twkb_tree.specs.Tree.{Tree, flat, precision_of, Ids, Simple, point, line, polygon, multi_point, multi_line}
use Rattle.twkb_tree.specs.Tree.{multi_polygon, AreIds, HasIds, IdsFit, flatten, points_in, nodes_in, area_nodes}
use Rattle.twkb_tree.specs.Tree.{simple, collection, Trees, end, ◌▷◌, count, flat_all, nodes, nodes_all, IsTree}
use Rattle.twkb_tree.specs.Tree.{AreTrees}
use Rattle.twkb_tree.specs.Limits.{uniform, Allowance, IsAllowance, IsValid}
use Rattle.twkb_tree.specs.declared.limits.TheConstants.{POINTS_CAP, NODES_CAP}
use Rattle.twkb_grammar.specs.Roles.{IsNumber, Role, Header, Metadata, Extended, Size, Box, Count, Id, End, Item}
use Rattle.twkb_grammar.specs.Roles.{Spells, join, Field, AreFields, HaveRoles, where_set, item, Geometries}
use Rattle.twkb_grammar.specs.Items.{IsExact, AreExact, Blob, BodyAt, Framed, Flags, MustBeEmpty, MayBeEmpty, HasBody}
use Rattle.twkb_grammar.specs.Items.{HasMembers, Agrees, declared, header_byte, end_item, Slot, OfCount, OfId}
use Rattle.twkb_grammar.specs.Items.{OfPoint, id_slots, run_of, rings_of, slots, fields, Follow, Items, ItemsOfAll}
use Rattle.twkb_grammar.specs.Items.{id_fields, filled}
use Rattle.twkb_grammar.specs.Written.{varints, box_of, boxed, has_any, is_point, is_empty, flag_bits, flags_of_tree}
use Rattle.twkb_grammar.specs.Written.{kind_of_tree, metadata_byte, framed, written, canonical_blob, canonical_members}
use Rattle.twkb_grammar.specs.Bits.{bit}
use Rattle.twkb_grammar.specs.declared.style.Style.{Style}
use Rattle.twkb_grammar.specs.declared.style.Style.TheVariants.{Full, Plain}
use Rattle.twkb_grammar.proofs.Bodies.{difference_fits, coordinate_fits, id_fits, steps, fields_are}
use Rattle.twkb_tree.proofs.RowLaws.{all_join, all_apart}

-- ==== Fields as items, each number as its shortest varint.

-- a field whose number a varint can spell
abbrev pub Fits : Field → Type 0
Fits f = IsNumber f.0 × (f.1 < 2 ^ 64)

-- each field fits
abbrev pub AllFit : List Field → Type 0
AllFit fs = AllByRecursion Fits fs

-- the item of a field
abbrev pub number_item : Role → ℕ → Item
number_item r n = record { role = r; number = n; bytes = varint_of n }

-- the items of fields
abbrev pub number_items : List Field → List Item
number_items [] = []
number_items (f ∷ fs) = number_item f.0 f.1 ∷ number_items fs

-- the shortest varint is a spelling of its number
pub spells : (r : Role) (n : ℕ) → IsNumber r → n < 2 ^ 64 → Spells r n (varint_of n)
spells Header n is h = absurd is
spells (Metadata kind) n is h = absurd is
spells Extended n is h = absurd is
spells (End declared came) n is h = absurd is
spells _ n is h = IsVarint-varint_of n h

exact : (r : Role) → IsNumber r → IsExact r
exact Header is = absurd is
exact (Metadata kind) is = absurd is
exact Extended is = absurd is
exact (End declared came) is = absurd is
exact _ is = tt

-- the items of fields have these fields
pub fields-number_items : (fs : List Field) → AllFit fs → AreFields fs (number_items fs)
fields-number_items [] fit = tt
fields-number_items (f ∷ fs) fit = (refl, refl, spells f.0 f.1 fit.0.0 fit.0.1, fields-number_items fs fit.1)

-- the items of fields are exact, since none has a size
pub exact-number_items : (fs : List Field) → AllFit fs → AreExact (number_items fs)
exact-number_items [] fit = tt
exact-number_items (f ∷ fs) fit = (exact f.0 fit.0.0, exact-number_items fs fit.1)

-- the bytes of the items are the varints of the fields
pub join-number_items : (fs : List Field) → join (number_items fs) ≡ varints fs
join-number_items [] = refl
join-number_items (f ∷ fs) = ap (λ bs. varint_of f.1 ++ bs) (join-number_items fs)

-- each varint has at most ten bytes
pub length-varints : (fs : List Field) → AllFit fs → length (varints fs) ≤ 10 * length fs
length-varints [] fit = omega arith
length-varints (f ∷ fs) fit = omega (
  arith,
  length-append (varint_of f.1) (varints fs),
  length-varint_of f.1 fit.0.1,
  length-varints fs fit.1,
)

-- joined items are exact if both lists are
pub AreExact-append : (is js : List Item) → AreExact is → AreExact js → AreExact (is ++ js)
AreExact-append [] js h k = k
AreExact-append (i ∷ is) js h k = (h.0, AreExact-append is js h.1 k)

-- the bytes of joined items
pub join-append : (is js : List Item) → join (is ++ js) ≡ join is ++ join js
join-append [] js = refl
join-append (i ∷ is) js = ap (λ bs. i.bytes ++ bs) (join-append is js) ∙ sym (append_assoc i.bytes (join is) (join js))

-- ==== The box of a written blob, as items.

-- an extent whose coordinates are in range
abbrev IsExtent : Extent → Type 0
IsExtent e = IsInRange e.least × IsInRange e.greatest

int_min-coordinate : (a b : ℤ) → IsCoordinate a → IsCoordinate b → IsCoordinate (int_min a b)
int_min-coordinate a b h k = (
  omega (arith, ints, clamps, h.0, h.1, k.0, k.1),
  omega (arith, ints, clamps, h.0, h.1, k.0, k.1),
)

int_max-coordinate : (a b : ℤ) → IsCoordinate a → IsCoordinate b → IsCoordinate (int_max a b)
int_max-coordinate a b h k = (
  omega (arith, ints, clamps, h.0, h.1, k.0, k.1),
  omega (arith, ints, clamps, h.0, h.1, k.0, k.1),
)

joined-extent : (a b : Extent) → IsExtent a → IsExtent b → IsExtent (joined a b)
unfolding joined
joined-extent a b h k = (
  (int_min-coordinate a.least.x b.least.x h.0.0 k.0.0, int_min-coordinate a.least.y b.least.y h.0.1 k.0.1),
  (int_max-coordinate a.greatest.x b.greatest.x h.1.0 k.1.0, int_max-coordinate a.greatest.y b.greatest.y h.1.1 k.1.1),
)

-- the extent of some points in range
record HasExtent (ps : List Point) : Type 0 where
  pub extent_is : Extent
  pub same : extent ps ≡ Some extent_is
  pub in_range : IsExtent extent_is

has_extent : (p : Point) (ps : List Point) → AreInRange (p ∷ ps) → HasExtent (p ∷ ps)
has_extent p [] h = record { extent_is = extent_of p; same = refl; in_range = (h.0, h.0) }
has_extent p (q ∷ ps) h =
    let more = has_extent q ps h.1 in
    record {
      extent_is = joined (extent_of p) more.extent_is;
      same = ap (λ o. joined_options (Some (extent_of p)) o) more.same;
      in_range = joined-extent (extent_of p) more.extent_is (h.0, h.0) more.in_range;
    }

-- the box numbers as fields
abbrev box_fields : List ℤ → List Field
box_fields ns = map (λ n. (Box, zigzag_of n)) ns

-- the bytes of a box as items, or no bytes
pub record BoxItems (b : Bool) (bytes : List ℕ) : Type 0 where
  pub items : List Item
  pub roles : HaveRoles (where_set b (Box ∷ Box ∷ Box ∷ Box ∷ [])) items
  pub exact : AreExact items
  pub spelled : join items ≡ bytes
  pub short : length bytes ≤ 40

-- without a box there are no items
pub no_box : BoxItems false []
no_box = record { items = []; roles = tt; exact = tt; spelled = refl; short = omega arith }

box_fit : (e : Extent) → IsExtent e → AllFit (box_fields (box_numbers e))
box_fit e h = (
  (tt, coordinate_fits e.least.x h.0.0),
  (
    (tt, difference_fits e.least.x e.greatest.x h.0.0 h.1.0),
    ((tt, coordinate_fits e.least.y h.0.1), ((tt, difference_fits e.least.y e.greatest.y h.0.1 h.1.1), tt)),
  ),
)

a_box : (e : Extent) → IsExtent e → BoxItems true (flat_map (λ n. varint_of (zigzag_of n)) (box_numbers e))
a_box e h =
    let fit = box_fit e h in
    record {
      items = number_items (box_fields (box_numbers e));
      roles = (
        refl,
        spells Box _ tt fit.0.1,
        (
          refl,
          spells Box _ tt fit.1.0.1,
          (refl, spells Box _ tt fit.1.1.0.1, (refl, spells Box _ tt fit.1.1.1.0.1, tt)),
        ),
      );
      exact = exact-number_items (box_fields (box_numbers e)) fit;
      spelled = join-number_items (box_fields (box_numbers e));
      short = length-varints (box_fields (box_numbers e)) fit;
    }

points_box : (ps : List Point) → AreInRange ps → (b : Bool) → has_any ps ≡ true
    → BoxItems true (flat_map (λ n. varint_of (zigzag_of n)) (tight ps))
points_box [] h b some = absurd cc
points_box (p ∷ ps) h b some =
    let e = has_extent p ps h in
    subst (λ o. BoxItems true (flat_map (λ n. varint_of (zigzag_of n))
    (elim o [ None ↦ [] | Some e ↦ box_numbers e ]))) (sym e.same)
    (a_box e.extent_is e.in_range)

-- the box of a geometry in range
pub box_items : (g : Tree) → AreInRange (flat g) → BoxItems (boxed g) (box_of g)
box_items g h = go (is_point g) (has_any (flat g)) (uniform g) refl
  where
    go : (p a u : Bool) → has_any (flat g) ≡ a
        → BoxItems (not p && (a && u)) (if (not p && (a && u)) then flat_map
        (λ n. varint_of (zigzag_of n)) (tight (flat g)) else [])
    go false true true same = points_box (flat g) h true same
    go _ _ u same = no_box

-- ==== A written blob as items, around the items of its body.

-- what the metadata byte says
record Says (meta : ℕ) (own : Flags) (sized box : Bool) : Type 0 where
  pub byte : meta < 256
  pub extended : bit meta 3 ≡ false
  pub sized_is : bit meta 1 ≡ sized
  pub box_is : bit meta 0 ≡ box
  pub empty_is : bit meta 4 ≡ is_empty own
  pub agrees : Agrees own meta

says : (meta : ℕ) {own : Flags} {sized box : Bool} → meta < 256 → bit meta 3 ≡ false → bit meta 1 ≡ sized
    → bit meta 0 ≡ box → bit meta 4 ≡ is_empty own → Agrees own meta → Says meta own sized box
says meta b x s o m a = record { byte = b; extended = x; sized_is = s; box_is = o; empty_is = m; agrees = a }

full_says : (own : Flags) (box : Bool) → Says (flag_bits own + ((if box then 1 else 0) + 2)) own true box
full_says MustBeEmpty true = says _ (omega arith) refl refl refl refl refl
full_says MustBeEmpty false = says _ (omega arith) refl refl refl refl refl
full_says MayBeEmpty true = says _ (omega arith) refl refl refl refl tt
full_says MayBeEmpty false = says _ (omega arith) refl refl refl refl tt
full_says HasBody true = says _ (omega arith) refl refl refl refl refl
full_says HasBody false = says _ (omega arith) refl refl refl refl refl
full_says (HasMembers true) true = says _ (omega arith) refl refl refl refl (refl, refl)
full_says (HasMembers true) false = says _ (omega arith) refl refl refl refl (refl, refl)
full_says (HasMembers false) true = says _ (omega arith) refl refl refl refl (refl, refl)
full_says (HasMembers false) false = says _ (omega arith) refl refl refl refl (refl, refl)

plain_says : (own : Flags) → Says (flag_bits own) own false false
plain_says MayBeEmpty = says _ (omega arith) refl refl refl refl tt
plain_says (HasMembers true) = says _ (omega arith) refl refl refl refl (refl, refl)
plain_says (HasMembers false) = says _ (omega arith) refl refl refl refl (refl, refl)
plain_says _ = says _ (omega arith) refl refl refl refl refl

-- items that spell these bytes, with exact sizes
pub record Spelling (Are : List Item → Type 0) (bytes : List ℕ) : Type 0 where
  pub items : List Item
  pub are : Are items
  pub exact : AreExact items
  pub spelled : join items ≡ bytes

-- a body, which is left out if the geometry is empty
pub body_or_none : (b : Bool) {Body : List Item → Type 0} {bytes : List ℕ} → Spelling Body bytes
    → Spelling (BodyAt b Body) (if b then [] else bytes)
body_or_none true s = record { items = []; are = refl; exact = tt; spelled = refl }
body_or_none false s = record { items = s.items; are = s.are; exact = s.exact; spelled = s.spelled }

-- the items of a geometry, from those of its size, its box and its body
frame_spelling : (kind : ℕ) (p : ℤ) {meta : ℕ} {own : Flags} {sized box : Bool} {Body : List Item → Type 0}
    {box_bytes bytes : List ℕ} (size : List Item) → Says meta own sized box
    → HaveRoles (where_set sized (Size ∷ [])) size → AreExact size → (b : BoxItems box box_bytes)
    → (s : Spelling (BodyAt (is_empty own) Body) bytes)
    → IsExact (End (declared size) (length (join (b.items ++ s.items))))
    → Spelling (Framed kind p own Body) (header_byte kind p ∷ meta ∷ join size ++ (box_bytes ++ bytes))
frame_spelling kind p {meta} {Body = Body} {box_bytes = box_bytes} size says roles exact b s last_exact =
    let rest : List Item = b.items ++ s.items in
    let last : Item = end_item (declared size) rest in
    record {
      items = item Header (header_byte kind p) ∷ item (Metadata kind) meta ∷ size ++ (rest ++ last ∷ []);
      are = record {
        meta = meta;
        extended = [];
        size = size;
        box = b.items;
        body = s.items;
        byte = says.byte;
        agrees = says.agrees;
        whole = refl;
        optional = record {
          extended_is = subst (λ b. HaveRoles (where_set b (Extended ∷ [])) []) (sym says.extended) tt;
          size_is = subst (λ b. HaveRoles (where_set b (Size ∷ [])) size) (sym says.sized_is) roles;
          box_is = subst (λ c. HaveRoles (where_set c (Box ∷ Box ∷ Box ∷ Box ∷ [])) b.items) (sym says.box_is) b.roles;
        };
        body_is = subst (λ b. BodyAt b Body s.items) (sym says.empty_is) s.are;
      };
      exact = (
        tt,
        (
          tt,
          AreExact-append size (rest ++ last ∷ []) exact
              (AreExact-append rest (last ∷ []) (AreExact-append b.items s.items b.exact s.exact) (last_exact, tt)),
        ),
      );
      spelled = ap (λ bs. header_byte kind p ∷ meta ∷ bs) (join-append size (rest ++ last ∷ [])
          ∙ ap (λ l. join size ++ l) (join-append rest (last ∷ []) ∙ (append-nil (join rest)
          ∙ (join-append b.items s.items
          ∙ (ap (λ l. l ++ join s.items) b.spelled ∙ ap (λ l. box_bytes ++ l) s.spelled)))));
    }

plain_frame : (g : Tree) {Body : List Item → Type 0} (bytes : List ℕ)
    → Spelling (BodyAt (is_empty (flags_of_tree g)) Body) bytes
    → Spelling (Framed (kind_of_tree g) (precision_of g) (flags_of_tree g) Body)
    (header_byte (kind_of_tree g) (precision_of g) ∷ metadata_byte Plain g ∷ framed Plain g bytes)
plain_frame g bytes s =
    frame_spelling (kind_of_tree g) (precision_of g) [] (plain_says (flags_of_tree g)) tt tt no_box s tt

full_frame : (g : Tree) {Body : List Item → Type 0} (bytes : List ℕ) → AreInRange (flat g)
    → length (box_of g ++ bytes) < 2 ^ 64 → Spelling
    (BodyAt (is_empty (flags_of_tree g)) Body) bytes
    → Spelling (Framed (kind_of_tree g) (precision_of g) (flags_of_tree g) Body)
    (header_byte (kind_of_tree g) (precision_of g) ∷ metadata_byte Full g ∷ framed Full g bytes)
full_frame g {Body} bytes in_range few s =
    let b = box_items g in_range in
    let n : ℕ = length (box_of g ++ bytes) in
    let came : n ≡ length (join (b.items ++ s.items)) = ap length (sym (join-append b.items s.items
    ∙ (ap (λ l. l ++ join s.items) b.spelled ∙ ap (λ l. box_of g ++ l) s.spelled))) in
    subst (λ l. Spelling (Framed (kind_of_tree g) (precision_of g) (flags_of_tree g) Body)
    (header_byte (kind_of_tree g) (precision_of g) ∷ metadata_byte Full g ∷ l ++ (box_of g ++ bytes)))
    (append-nil (varint_of n)) (frame_spelling (kind_of_tree g) (precision_of g) (number_item Size n ∷ [])
    (full_says (flags_of_tree g) (boxed g)) (refl, spells Size n tt few, tt) (tt, tt) b s came)

-- the items of a written blob, from those of its body
pub frame : (style : Style) (g : Tree) {Body : List Item → Type 0} (bytes : List ℕ)
    → AreInRange (flat g) → length bytes < 2 ^ 63 → Spelling Body bytes
    → Spelling (Framed (kind_of_tree g) (precision_of g) (flags_of_tree g) Body) (written style g bytes)
frame Full g bytes in_range few s =
    full_frame g (if is_empty (flags_of_tree g) then [] else bytes) in_range
    (short (is_empty (flags_of_tree g))) (body_or_none (is_empty (flags_of_tree g)) s)
  where
    short : (b : Bool) → length (box_of g ++ (if b then [] else bytes)) < 2 ^ 64
    short true = omega (arith, length-append (box_of g) [], (box_items g in_range).short)
    short false = omega (arith, length-append (box_of g) bytes, (box_items g in_range).short, few)
frame Plain g bytes in_range few s = plain_frame g
    (if is_empty (flags_of_tree g) then [] else bytes) (body_or_none (is_empty (flags_of_tree g)) s)

-- a written blob is longer than its body by a bounded number of bytes
pub length-written : (style : Style) (g : Tree) (bytes : List ℕ) → AreInRange (flat g)
    → length bytes < 2 ^ 63 → length (written style g bytes) ≤ 52 + length bytes
length-written Full g bytes in_range few = go (is_empty (flags_of_tree g))
  where
    go : (b : Bool) → length (header_byte (kind_of_tree g) (precision_of g) ∷ metadata_byte Full g
        ∷ framed Full g (if b then [] else bytes)) ≤ 52 + length bytes
    go true =
        let h = length-append (box_of g) [] in let k = (box_items g in_range).short in
        omega (
          arith,
          length-append (varint_of (length (box_of g ++ []))) (box_of g ++ []),
          length-varint_of (length (box_of g ++ [])) (omega (arith, h, k)),
          h,
          k,
        )
    go false =
        let h = length-append (box_of g) bytes in let k = (box_items g in_range).short in
        omega (
          arith,
          length-append (varint_of (length (box_of g ++ bytes))) (box_of g ++ bytes),
          length-varint_of (length (box_of g ++ bytes)) (omega (arith, h, k, few)),
          h,
          k,
        )
length-written Plain g bytes in_range few = go (is_empty (flags_of_tree g))
  where
    go : (b : Bool) → length (header_byte (kind_of_tree g) (precision_of g) ∷ metadata_byte Plain g
        ∷ framed Plain g (if b then [] else bytes)) ≤ 52 + length bytes
    go true = omega arith
    go false = omega arith

-- ==== The numbers of a body can be spelled, and the numbers of rows and points bound how many there are.

-- the numbers of a slot can be spelled
abbrev SlotFits : Slot → Type 0
SlotFits (OfCount c n) = n < 2 ^ 64
SlotFits (OfId id) = zigzag_of id < 2 ^ 64
SlotFits (OfPoint p) = IsInRange p

abbrev SlotsFit : List Slot → Type 0
SlotsFit ps = AllByRecursion SlotFits ps

fit-points : (ps : List Point) → AreInRange ps → SlotsFit (map OfPoint ps)
fit-points [] h = tt
fit-points (p ∷ ps) h = (h.0, fit-points ps h.1)

fit-ids : (ids : List ℤ) → AreIds ids → SlotsFit (map OfId ids)
fit-ids [] h = tt
fit-ids (id ∷ ids) h = (id_fits id h.0, fit-ids ids h.1)

-- the numbers of ids can be spelled
pub fit-id_slots : (ids : Ids) (n : ℕ) → HasIds ids n → SlotsFit (id_slots ids)
fit-id_slots None n h = tt
fit-id_slots (Some ids) n h = fit-ids ids h.2

fit-runs : (ls : List (List Point)) → AreInRange (flatten ls) → length (flatten ls) < 2 ^ 64
    → SlotsFit (flat_map run_of ls)
fit-runs [] h few = tt
fit-runs (ps ∷ ls) h few =
    let both = all_apart IsInRange ps (flatten ls) h in
    let total : length (flatten (ps ∷ ls)) ≡ length ps + length (flatten ls) = length-append ps (flatten ls) in (
      omega (arith, few, total),
      all_join SlotFits (map OfPoint ps) (flat_map run_of ls)
          (fit-points ps both.0) (fit-runs ls both.1 (omega (arith, few, total))),
    )

fit-areas : (areas : List (List (List Point))) → AreInRange (flat_map flatten areas)
    → length (flat_map flatten areas) < 2 ^ 64 → area_nodes areas < 2 ^ 64
    → SlotsFit (flat_map rings_of areas)
fit-areas [] h few nodes = tt
fit-areas (rings ∷ areas) h few nodes =
    let both = all_apart IsInRange (flatten rings) (flat_map flatten areas) h in
    let total : length (flat_map flatten (rings ∷ areas)) ≡ length (flatten rings) + length
    (flat_map flatten areas) = length-append (flatten rings) (flat_map flatten areas) in (
      omega (arith, nodes),
      all_join SlotFits (flat_map run_of rings) (flat_map rings_of areas)
          (fit-runs rings both.0 (omega (arith, few, total)))
          (fit-areas areas both.1 (omega (arith, few, total)) (omega (arith, nodes))),
    )

length-area_nodes : (areas : List (List (List Point))) → length areas ≤ area_nodes areas
length-area_nodes [] = omega arith
length-area_nodes (rings ∷ areas) = omega (arith, length-area_nodes areas)

fit-slots : (s : Simple) → IdsFit s → AreInRange (points_in s) → nodes_in s < 2 ^ 64
    → length (points_in s) < 2 ^ 64 → SlotsFit (slots s)
fit-slots (point None) fit h nodes few = tt
fit-slots (point (Some p)) fit h nodes few = (h.0, tt)
fit-slots (line ps) fit h nodes few = (few, fit-points ps h)
fit-slots (polygon rings) fit h nodes few = (omega (arith, nodes), fit-runs rings h few)
fit-slots (multi_point ids ps) fit h nodes few = (
  few,
  all_join SlotFits (id_slots ids) (map OfPoint ps) (fit-id_slots ids (length ps) fit)
      (fit-points ps h),
)
fit-slots (multi_line ids ls) fit h nodes few = (
  omega (arith, nodes),
  all_join SlotFits (id_slots ids) (flat_map run_of ls)
      (fit-id_slots ids (length ls) fit) (fit-runs ls h few),
)
fit-slots (multi_polygon ids areas) fit h nodes few = (
  omega (arith, nodes, length-area_nodes areas),
  all_join SlotFits (id_slots ids)
      (flat_map rings_of areas) (fit-id_slots ids (length areas) fit)
      (fit-areas areas h few (omega (arith, nodes))),
)

-- the numbers of fields at slots in range can be spelled
pub fit-steps : (ps : List Slot) (p : Point) → IsInRange p → SlotsFit ps → AllFit (steps p ps)
fit-steps [] p h fit = tt
fit-steps (OfPoint q ∷ ps) p h fit = (
  (tt, difference_fits p.x q.x h.0 fit.0.0),
  ((tt, difference_fits p.y q.y h.1 fit.0.1), fit-steps ps q fit.0 fit.1),
)
fit-steps (_ ∷ ps) p h fit = ((tt, fit.0), fit-steps ps p h fit.1)

-- the origin is in range
pub origin_in_range : IsInRange origin
origin_in_range = ((omega (arith, ints), omega (arith, ints)), (omega (arith, ints), omega (arith, ints)))

-- the numbers of a body can be spelled
pub fit-fields : (s : Simple) → IdsFit s → AreInRange (points_in s) → nodes_in s < 2 ^ 64
    → length (points_in s) < 2 ^ 64 → AllFit (fields s)
fit-fields s fit h nodes few = subst AllFit (sym (fields_are s))
    (fit-steps (slots s) origin origin_in_range (fit-slots s fit h nodes few))

-- how many numbers are at these slots
abbrev weight : List Slot → ℕ
weight [] = 0
weight (OfPoint p ∷ ps) = 2 + weight ps
weight (_ ∷ ps) = 1 + weight ps

weight-append : (ps qs : List Slot) → weight (ps ++ qs) ≡ weight ps + weight qs
weight-append [] qs = omega arith
weight-append (OfCount c n ∷ ps) qs = omega (arith, weight-append ps qs)
weight-append (_ ∷ ps) qs = omega (arith, weight-append ps qs)

length-steps : (ps : List Slot) (p : Point) → length (steps p ps) ≡ weight ps
length-steps [] p = refl
length-steps (OfPoint q ∷ ps) p = omega (arith, length-steps ps q)
length-steps (_ ∷ ps) p = omega (arith, length-steps ps p)

weight-points : (ps : List Point) → weight (map OfPoint ps) ≡ 2 * length ps
weight-points [] = omega arith
weight-points (p ∷ ps) = omega (arith, weight-points ps)

weight-ids : (ids : List ℤ) → weight (map OfId ids) ≡ length ids
weight-ids [] = omega arith
weight-ids (id ∷ ids) = omega (arith, weight-ids ids)

-- ids have as many numbers as there are members
pub weight-id_slots : (ids : Ids) (n : ℕ) → HasIds ids n → weight (id_slots ids) ≤ n
weight-id_slots None n h = omega arith
weight-id_slots (Some ids) n h = omega (arith, weight-ids ids, h.1)

weight-runs : (ls : List (List Point)) → weight (flat_map run_of ls) ≡ length ls + 2 * length (flatten ls)
weight-runs [] = omega arith
weight-runs (ps ∷ ls) = omega (
  arith,
  weight-append (map OfPoint ps) (flat_map run_of ls),
  weight-points ps,
  weight-runs ls,
  length-append ps (flatten ls),
)

weight-areas : (areas : List (List (List Point)))
    → weight (flat_map rings_of areas) ≡ area_nodes areas + 2 * length (flat_map flatten areas)
weight-areas [] = omega arith
weight-areas (rings ∷ areas) =
    omega (
      arith,
      weight-append (flat_map run_of rings) (flat_map rings_of areas),
      weight-runs rings,
      weight-areas areas,
      length-append (flatten rings)
          (flat_map flatten areas),
    )

weight-slots : (s : Simple) → IdsFit s → weight (slots s) ≤ 2 * nodes_in s + 2 * length (points_in s)
weight-slots (point None) fit = omega arith
weight-slots (point (Some p)) fit = omega arith
weight-slots (line ps) fit = omega (arith, weight-points ps)
weight-slots (polygon rings) fit = omega (arith, weight-runs rings)
weight-slots (multi_point ids ps) fit = omega (
  arith,
  weight-append (id_slots ids) (map OfPoint ps),
  weight-id_slots ids (length ps) fit,
  weight-points ps,
)
weight-slots (multi_line ids ls) fit = omega (
  arith,
  weight-append (id_slots ids) (flat_map run_of ls),
  weight-id_slots ids (length ls)
      fit,
  weight-runs ls,
)
weight-slots (multi_polygon ids areas) fit =
    omega (
      arith,
      weight-append (id_slots ids) (flat_map rings_of areas),
      weight-id_slots ids
          (length areas) fit,
      length-area_nodes areas,
      weight-areas areas,
    )

-- a body has at most this many numbers
pub length-fields : (s : Simple) → IdsFit s → length (fields s) ≤ 2 * nodes_in s + 2 * length (points_in s)
length-fields s fit =
    subst (λ fs. length fs ≤ 2 * nodes_in s + 2 * length (points_in s)) (sym (fields_are s))
    (omega (arith, length-steps (slots s) origin, weight-slots s fit))

-- there are at most as many ids as members
pub length-id_slots : (ids : Ids) (n : ℕ) → HasIds ids n → length (steps origin (id_slots ids)) ≤ n
length-id_slots ids n h = omega (arith, length-steps (id_slots ids) origin, weight-id_slots ids n h)

-- ==== The canonical blob of a valid geometry is a blob of it.

-- fields that can be spelled, as items
number_spelling : (fs : List Field) → AllFit fs → Spelling (AreFields fs) (varints fs)
number_spelling fs fit = record {
  items = number_items fs;
  are = fields-number_items fs fit;
  exact = exact-number_items fs fit;
  spelled = join-number_items fs;
}

-- two spellings, one after the other
both_spelled : {First Second : List Item → Type 0} {xs ys : List ℕ} → Spelling First xs
    → Spelling Second ys → Spelling (Follow First Second) (xs ++ ys)
both_spelled {First} {Second} {xs} {ys} a b = record {
  items = a.items ++ b.items;
  are = record { front = a.items; rest = b.items; first = a.are; second = b.are; whole = refl };
  exact = AreExact-append a.items b.items a.exact b.exact;
  spelled = join-append a.items b.items ∙ (ap (λ l. l ++ join b.items) a.spelled ∙ ap (λ l. xs ++ l) b.spelled);
}

-- the numbers before the members of a collection
abbrev head_fields : ℕ → Ids → ℕ → List Field
head_fields level ids n = (Count (Geometries level), n) ∷ id_fields ids

ids_are_steps : (ids : List ℤ) → filled (map OfId ids) [] ≡ steps origin (map OfId ids)
ids_are_steps [] = refl
ids_are_steps (id ∷ ids) = ap (λ fs. (Id, zigzag_of id) ∷ fs) (ids_are_steps ids)

id_fields_fit : (ids : Ids) (n : ℕ) → HasIds ids n → AllFit (id_fields ids)
id_fields_fit None n h = tt
id_fields_fit (Some ids) n h = subst AllFit (sym (ids_are_steps ids))
    (fit-steps (id_slots (Some ids)) origin origin_in_range (fit-id_slots (Some ids) n h))

length-id_fields : (ids : Ids) (n : ℕ) → HasIds ids n → length (id_fields ids) ≤ n
length-id_fields None n h = omega arith
length-id_fields (Some ids) n h = subst (λ fs. length fs ≤ n) (sym (ids_are_steps ids))
    (length-id_slots (Some ids) n h)

-- the most bytes of a blob with this many nodes and points
abbrev room : ℕ → ℕ → ℕ
room n p = 100 * n + 20 * p

-- a written blob as items, and its length
record WrittenAs (style : Style) (level : ℕ) (g : Tree) : Type 0 where
  pub spelling : Spelling (Items level g) (canonical_blob style g)
  pub short : length (canonical_blob style g) + 10 ≤ room (nodes g) (length (flat g))

-- written members as items, one member after another
record AllWrittenAs (style : Style) (level : ℕ) (gs : Trees) : Type 0 where
  pub spelling : Spelling (ItemsOfAll level gs) (canonical_members style gs)
  pub short : length (canonical_members style gs) + 10 * count gs ≤ room (nodes_all gs) (length (flat_all gs))

one_node : (s : Simple) → 0 < nodes_in s
one_node (point o) = omega arith
one_node _ = omega arith

some_nodes : (g : Tree) → 0 < nodes g
some_nodes (simple p s) = one_node s
some_nodes (collection p ids gs) = omega arith

count-nodes_all : (gs : Trees) → count gs ≤ nodes_all gs
count-nodes_all end = omega arith
count-nodes_all (g ▷ gs) = omega (arith, count-nodes_all gs, some_nodes g)

mutual
  tree_written : (style : Style) (level : ℕ) (g : Tree) → IsTree g → AreInRange (flat g)
      → nodes g ≤ NODES_CAP → length (flat g) ≤ POINTS_CAP → WrittenAs style level g
  tree_written style level (simple p s) fits h few_nodes few_points =
      let fit = fit-fields s fits.1 h (omega (arith, few_nodes)) (omega (arith, few_points)) in
      let long : length (varints (fields s)) ≤ 20 * nodes_in s + 20 * length (points_in s) = omega
      (arith, length-varints (fields s) fit, length-fields s fits.1) in
      let few : length (varints (fields s)) < 2 ^ 63 = omega (arith, long, few_nodes, few_points) in
      record {
        spelling = frame style (simple p s) (varints (fields s)) h few (number_spelling (fields s) fit);
        short = omega (arith, length-written style (simple p s) (varints (fields s)) h few, long, one_node s);
      }
  tree_written style level (collection p ids gs) fits h few_nodes few_points =
      let all = trees_written style (suc level) gs fits.2 h (omega (arith, few_nodes)) few_points in
      let some : count gs ≤ nodes_all gs = count-nodes_all gs in
      let fit : AllFit (head_fields level ids (count gs)) =
      ((tt, omega (arith, few_nodes, some)), id_fields_fit ids (count gs) fits.1) in
      let head : List ℕ = varints (head_fields level ids (count gs)) in
      let head_long : length head ≤ 10 + 10 * count gs = omega (
        arith,
        length-varints (head_fields level ids (count gs)) fit,
        length-id_fields ids
            (count gs) fits.1,
      ) in
      let body : List ℕ = head ++ canonical_members style gs in
      let long : length body ≤ 10 + room (nodes_all gs) (length (flat_all gs)) = omega
      (arith, length-append head (canonical_members style gs), head_long, all.short) in
      let few : length body < 2 ^ 63 = omega (arith, long, few_nodes, few_points) in
      record {
        spelling = frame style (collection p ids gs) body h few
            (both_spelled (number_spelling (head_fields level ids (count gs)) fit) all.spelling);
        short = omega (arith, length-written style (collection p ids gs) body h few, long);
      }

  trees_written : (style : Style) (level : ℕ) (gs : Trees) → AreTrees gs → AreInRange (flat_all gs)
      → nodes_all gs ≤ NODES_CAP → length (flat_all gs) ≤ POINTS_CAP → AllWrittenAs style level gs
  trees_written style level end fits h few_nodes few_points =
      record { spelling = record { items = []; are = refl; exact = tt; spelled = refl }; short = omega arith }
  trees_written style level (g ▷ gs) fits h few_nodes few_points =
      let total : length (flat_all (g ▷ gs)) ≡ length (flat g) + length (flat_all gs) =
      length-append (flat g) (flat_all gs) in
      let in_range = all_apart IsInRange (flat g) (flat_all gs) h in
      let one = tree_written style level g fits.0 in_range.0 (omega (arith, few_nodes))
      (omega (arith, few_points, total)) in
      let all = trees_written style level gs fits.1 in_range.1 (omega (arith, few_nodes))
      (omega (arith, few_points, total)) in
      record {
        spelling = both_spelled one.spelling all.spelling;
        short = omega (
          arith,
          one.short,
          all.short,
          total,
          length-append (canonical_blob style g)
              (canonical_members style gs),
        );
      }

-- the canonical blob is a blob
pub written_blob : (limits : Allowance) (style : Style) (g : Tree) → IsAllowance limits
    → IsValid limits g → Blob limits (canonical_blob style g) g
written_blob limits style g allowed valid =
    let w = tree_written style 0 g valid.tree valid.in_range
    (omega (arith, valid.nodes_kept, allowed.nodes_cap))
    (omega (arith, valid.points_kept, allowed.points_cap)) in
    record {
      valid = valid;
      items = w.spelling.items;
      are_items = w.spelling.are;
      exact = w.spelling.exact;
      spelled = w.spelling.spelled;
    }

-- the canonical blob is short
pub written_short : (limits : Allowance) (style : Style) (g : Tree) → IsAllowance limits
    → IsValid limits g → length (canonical_blob style g) ≤ 100 * nodes g + 20 * length (flat g)
written_short limits style g allowed valid =
    let w = tree_written style 0 g valid.tree valid.in_range
    (omega (arith, valid.nodes_kept, allowed.nodes_cap))
    (omega (arith, valid.points_kept, allowed.points_cap)) in
    omega (arith, w.short)
