-- The rows below a row, its members among them and their slots, and walks from row to row.
use Rattle.std.proofs.Common.{◌≡◌, ℕ, List, [], ◌∷◌, ◌++◌, map, refl, ap, sym, ◌∙◌, append_assoc, suc, ◌<◌, ◌≤◌, true}
use Rattle.std.proofs.Common.{false, length, Option, Some, None, arith, inl, inr, zero, ◌+◌, ◌-◌, ◌*◌, drop, get_or}
use Rattle.std.proofs.Common.{subst, take}
use Rattle.std.specs.Prelude.{ℤ, ◌-ℤ◌, nat_le, nat_eq, min}
use Rattle.std.proofs.lemmas.Grind.{flat_map-append}
use Rattle.std.proofs.lemmas.Bool.Decides.{nat_tests}
use Rattle.std.proofs.lemmas.Bool.{cases_lt}
use Rattle.std.proofs.lemmas.List.{drop_all, drop-drop, length-map, length-append, take-append-drop, drop_at, take_at}
use Rattle.std.proofs.lemmas.List.{drop_more}
use Rattle.twkb_num.specs.Varint.{varint_of}
use Rattle.twkb_points.specs.Point.{Point}
use Rattle.twkb_tree.specs.Tree.{Simple, polygon, multi_point, multi_line, multi_polygon, Tree, simple, collection}
use Rattle.twkb_tree.specs.Tree.{Trees, end, ◌▷◌, Ids, members}
use Rattle.twkb_tree.specs.declared.kind.Kind.{Kind}
use Rattle.twkb_tree.specs.Rows.{Row, plain_row, polygon_rows, rows_with, rows_below, member_rows, ring_rows}
use Rattle.twkb_tree.specs.Rows.{rows_of_each, first_id, other_ids, rows_under, row_points, IsAbove}
use Rattle.twkb_tree.proofs.RowLaws.{all_join, AreDeep, IsDeeper, row_points-append}
use Rattle.twkb_grammar.specs.Roles.{Field}
use Rattle.twkb_grammar.specs.Items.{Slot, OfId, OfPoint, filled}
use Rattle.twkb_grammar.specs.Written.{varints}
use Rattle.twkb_grammar.proofs.Bodies.{steps, reached}
use Rattle.twkb_grammar.proofs.BodiesBack.{steps-append}
use Rattle.twkb_grammar.specs.declared.style.Style.{Style}
use Rattle.twkb_writer.specs.Bytes.{signed, way_bytes, way_end, members_below, ids_bytes, id_bytes, geometry_lead}
use Rattle.twkb_writer.specs.Bytes.{lead, way_start, rows_bytes, entries_in, entry_count}
use Rattle.twkb_writer.specs.declared.sizes.Entry.{Entry}
use Rattle.twkb_flat.specs.declared.node.Node.{Node}
use Rattle.twkb_flat.specs.Rows.{IsNode, row_with, depths, depth_of}

-- ==== The slots of a body, followed from a position, and their bytes.

-- the bytes of slots from a position
abbrev pub walked : Point → List Slot → List ℕ
walked at ps = varints (steps at ps)

-- the bytes of joined slots
pub walked-append : (at : Point) (xs ys : List Slot) → walked at (xs ++ ys) ≡ walked at xs ++ walked (reached at xs) ys
walked-append at xs ys = ap varints (steps-append at xs ys)
    ∙ flat_map-append (λ (f : Field). varint_of f.1) (steps at xs) (steps (reached at xs) ys)

-- the bytes of points
pub walked-way : (at : Point) (ps : List Point) → walked at (map OfPoint ps) ≡ way_bytes at ps
walked-way at [] = refl
walked-way at (p ∷ ps) =
    let x = signed (p.x -ℤ at.x) in
    let y = signed (p.y -ℤ at.y) in
    ap (λ l. x ++ (y ++ l)) (walked-way p ps) ∙ sym (append_assoc x y (way_bytes p ps))

-- the position after points
pub reached-way : (at : Point) (ps : List Point) → reached at (map OfPoint ps) ≡ way_end at ps
reached-way at [] = refl
reached-way at (p ∷ ps) = reached-way p ps

-- ids do not change the position
pub reached-ids : (at : Point) (ids : List ℤ) (ms : List Slot) → reached at (map OfId ids ++ ms) ≡ reached at ms
reached-ids at [] ms = refl
reached-ids at (id ∷ ids) ms = reached-ids at ids ms

-- the bytes of ids, and of slots after them
pub walked-ids : (at : Point) (ids : List ℤ) (ms : List Slot)
    → walked at (map OfId ids ++ ms) ≡ walked at (map OfId ids) ++ walked at ms
walked-ids at [] ms = refl
walked-ids at (id ∷ ids) ms = ap (λ l. signed id ++ l) (walked-ids at ids ms)
    ∙ sym (append_assoc (signed id) (walked at (map OfId ids)) (walked at ms))

-- the bytes of ids as fields
pub filled-ids : (at : Point) (ids : List ℤ) → varints (filled (map OfId ids) []) ≡ walked at (map OfId ids)
filled-ids at [] = refl
filled-ids at (id ∷ ids) = ap (λ l. signed id ++ l) (filled-ids at ids)

-- ==== The members among the rows below a row.

-- ---- single rows

-- a row no deeper than d ends the members
pub members-over : (d : ℕ) (r : Row) (rs : List Row) → r.depth ≤ d → members_below d (r ∷ rs) ≡ []
members-over d r rs h = let le : nat_le r.depth d ≡ true = grind (arith, nat_tests) in rw le refl

-- a row one level deeper is a member
pub members-one : (d : ℕ) (r : Row) (rs : List Row) → r.depth ≡ suc d
    → members_below d (r ∷ rs) ≡ r ∷ members_below d rs
members-one d r rs e =
    let le : nat_le r.depth d ≡ false = grind (arith, nat_tests) in
    let eq : nat_eq r.depth (suc d) ≡ true = grind (arith, nat_tests) in
    rw (le, eq) refl

-- a row more than one level deeper is not a member
pub members-past : (d : ℕ) (r : Row) (rs : List Row) → suc d < r.depth → members_below d (r ∷ rs) ≡ members_below d rs
members-past d r rs h =
    let le : nat_le r.depth d ≡ false = grind (arith, nat_tests) in
    let eq : nat_eq r.depth (suc d) ≡ false = grind (arith, nat_tests) in
    rw (le, eq) refl

-- ---- lists of rows

-- rows that begin no deeper than d have no members
members-above : (d : ℕ) (rs : List Row) → IsAbove (suc d) rs → members_below d rs ≡ []
members-above d [] h = refl
members-above d (r ∷ rs) h = members-over d r rs (omega (arith, h))

-- rows below the members are passed over
pub members-deeper : (d : ℕ) (xs rs : List Row) → AreDeep (suc (suc d)) xs
    → members_below d (xs ++ rs) ≡ members_below d rs
members-deeper d [] rs deep = refl
members-deeper d (x ∷ xs) rs deep = members-past d x (xs ++ rs) (let low = deep.0 in
    omega (arith, low)) ∙ members-deeper d xs rs deep.1

-- each part begins with its own row, one level below d and with its id, and its other rows are deeper
pub record Heads {A : Type 0} (d : ℕ) (f : Option ℤ → A → List Row) (own : Option ℤ → A → Row)
    (deeper : Option ℤ → A → List Row) : Type 0 where
  pub is : (id : Option ℤ) (x : A) → f id x ≡ own id x ∷ deeper id x
  pub depth : (id : Option ℤ) (x : A) → (own id x).depth ≡ suc d
  pub deep : (id : Option ℤ) (x : A) → AreDeep (suc (suc d)) (deeper id x)
  pub same_id : (id : Option ℤ) (x : A) → (own id x).id ≡ id

-- parts of one row each
pub one_heads : {A : Type 0} (d : ℕ) (k : Kind) (g : A → List Point)
    → Heads d (λ id x. plain_row (suc d) k id (g x) ∷ []) (λ id x. plain_row (suc d) k id (g x)) (λ id x. [])
one_heads d k g = record {
  is = λ id x. refl;
  depth = λ id x. refl;
  deep = λ id x. tt;
  same_id = λ id x. refl;
}

-- the members are the own rows of the parts
pub members-each : {A : Type 0} {d : ℕ} {f : Option ℤ → A → List Row} {own : Option ℤ → A → Row}
    {deeper : Option ℤ → A → List Row} → Heads d f own deeper → (ids : Ids) (xs : List A) (rs : List Row)
    → IsAbove (suc d) rs
    → members_below d (rows_of_each f ids xs ++ rs) ≡ rows_of_each (λ id x. own id x ∷ []) ids xs
members-each {d = d} heads ids [] rs h = members-above d rs h
members-each {d = d} {f} {own} {deeper} heads ids (x ∷ xs) rs h =
    let id = first_id ids in
    let rest = rows_of_each f (other_ids ids) xs in
    ap (λ (l : List Row). members_below d ((l ++ rest) ++ rs)) (heads.is id x)
    ∙ ap (λ (l : List Row). members_below d (own id x ∷ l)) (append_assoc (deeper id x) rest rs)
    ∙ members-one d (own id x) (deeper id x ++ (rest ++ rs)) (heads.depth id x)
    ∙ ap (λ (l : List Row). own id x ∷ l) (members-deeper d (deeper id x) (rest ++ rs) (heads.deep id x)
    ∙ members-each heads (other_ids ids) xs rs h)

-- there is one member for each part
pub length-each : {A : Type 0} (own : Option ℤ → A → Row) (ids : Ids) (xs : List A)
    → length (rows_of_each (λ id x. own id x ∷ []) ids xs) ≡ length xs
length-each own ids [] = refl
length-each own ids (x ∷ xs) = let more = length-each own (other_ids ids) xs in omega (arith, more)

-- the ids of the members are those of the parts
pub ids-each : {A : Type 0} (own : Option ℤ → A → Row)
    → ((id : Option ℤ) (x : A) → (own id x).id ≡ id) → (at : Point) (ids : List ℤ) (xs : List A)
    → length ids ≡ length xs
    → ids_bytes (rows_of_each (λ id x. own id x ∷ []) (Some ids) xs) ≡ walked at (map OfId ids)
ids-each own is at [] [] e = refl
ids-each own is at (id ∷ ids) (x ∷ xs) e =
    ap (λ (i : Option ℤ). id_bytes i ++ ids_bytes (rows_of_each (λ id x. own id x ∷ []) (Some ids) xs)) (is (Some id) x)
    ∙ ap (λ l. signed id ++ l) (ids-each own is at ids xs (omega (arith, e)))
ids-each own is at _ _ e = absurd (omega (arith, e))

-- ---- depths

-- parts are deep if each is
pub deep-each : {A : Type 0} (d : ℕ) (f : Option ℤ → A → List Row)
    → ((id : Option ℤ) (x : A) → AreDeep d (f id x)) → (ids : Ids) (xs : List A)
    → AreDeep d (rows_of_each f ids xs)
deep-each d f deep ids [] = tt
deep-each d f deep ids (x ∷ xs) =
    all_join (IsDeeper d) _ _ (deep (first_id ids) x) (deep-each d f deep (other_ids ids) xs)

-- rows deeper than one depth are deeper than a smaller one
pub deep-less : (d : ℕ) (rs : List Row) → AreDeep (suc d) rs → AreDeep d rs
deep-less d [] h = tt
deep-less d (r ∷ rs) h = (let low = h.0 in omega (arith, low), deep-less d rs h.1)

-- the rings of a polygon are deep
pub deep-rings : (d : ℕ) (rings : List (List Point)) → AreDeep d (ring_rows d rings)
deep-rings d rings = deep-each d (λ none ring. plain_row d Kind.Ring none ring ∷ [])
    (λ id x. (omega arith, tt)) None rings

deep-simple : (d : ℕ) (s : Simple) → AreDeep d (rows_below d s)
deep-simple d (polygon rings) = deep-rings d rings
deep-simple d (multi_point ids ps) = deep-each d (λ id p. plain_row d Kind.Point id (p ∷ []) ∷ [])
    (λ id x. (omega arith, tt)) ids ps
deep-simple d (multi_line ids lines) = deep-each d (λ id ps. plain_row d Kind.Linestring id ps ∷ [])
    (λ id x. (omega arith, tt)) ids lines
deep-simple d (multi_polygon ids areas) = deep-each d (polygon_rows d)
    (λ id x. (omega arith, deep-less d (ring_rows (suc d) x) (deep-rings (suc d) x))) ids areas
deep-simple d _ = tt

mutual
  -- a geometry's rows are at its depth or deeper
  deep-with : (d : ℕ) (id : Option ℤ) (g : Tree) → AreDeep d (rows_with id d g)
  deep-with d id (simple p s) = (omega arith, deep-less d (rows_below (suc d) s) (deep-simple (suc d) s))
  deep-with d id (collection p ids gs) =
      (omega arith, deep-less d (member_rows (suc d) ids gs) (deep-members (suc d) ids gs))

  deep-members : (d : ℕ) (ids : Ids) (gs : Trees) → AreDeep d (member_rows d ids gs)
  deep-members d ids end = tt
  deep-members d ids (g ▷ gs) =
      all_join (IsDeeper d) _ _ (deep-with d (first_id ids) g) (deep-members d (other_ids ids) gs)

-- the rows below a geometry's own are deep
pub deep-below : (d : ℕ) (g : Tree) → AreDeep d (rows_under d g)
deep-below d (simple p s) = deep-simple d s
deep-below d (collection p ids gs) = deep-members d ids gs

-- the rows of members are those of each member
pub member_rows-each : (d : ℕ) (ids : Ids) (gs : Trees)
    → member_rows d ids gs ≡ rows_of_each (λ id g. rows_with id d g) ids (members gs)
member_rows-each d ids end = refl
member_rows-each d ids (g ▷ gs) = ap (λ (l : List Row). rows_with (first_id ids) d g ++ l)
    (member_rows-each d (other_ids ids) gs)

-- ==== No row is a member of two others, so walking over the members of each row reads each row at most once.

-- the number of rows, and their members counted once more
abbrev pub walks : List Row → ℕ
walks [] = 0
walks (r ∷ rs) = 1 + length (members_below r.depth rs) + walks rs

-- the number of rows whose parent is not among these rows, and is above depth n
abbrev pub opens : ℕ → List Row → ℕ
opens n [] = 0
opens n (r ∷ rs) = min 1 (suc n - r.depth) + opens (min n r.depth) rs

opens_rise : (n m : ℕ) (rs : List Row) → n ≤ m → opens n rs ≤ opens m rs
opens_rise n m [] h = omega arith
opens_rise n m (r ∷ rs) h = omega (arith, opens_rise (min n r.depth) (min m r.depth) rs (omega arith))

-- the members of a row at depth d have no parent among the rows after it
members_open : (d : ℕ) (rs : List Row) → opens d rs + length (members_below d rs) ≤ opens (suc d) rs
members_open d [] = omega arith
members_open d (r ∷ rs) =
    let above = opens_rise d (suc d) (r ∷ rs) (omega arith) in
    elim (cases_lt d r.depth) [
      | inl deep ↦
          (let upper : min d r.depth ≡ d = omega arith in
          let lower : min (suc d) r.depth ≡ suc d = omega arith in
          let own = ap (λ n. opens n rs) upper in
          let under = ap (λ n. opens n rs) lower in
          let others = members_open d rs in
          elim (cases_lt (suc d) r.depth) [
            | inl deeper ↦ omega (arith, own, under, others, ap length (members-past d r rs deeper))
            | inr at ↦ omega (arith, own, under, others, ap length (members-one d r rs (omega arith)))
          ])
      | inr shallow ↦ omega (arith, above, ap length (members-over d r rs shallow))
    ]

walks_opens : (n : ℕ) (rs : List Row) → walks rs + opens n rs ≤ 2 * length rs
walks_opens n [] = omega arith
walks_opens n (r ∷ rs) = omega (
  arith,
  walks_opens (suc r.depth) rs,
  members_open r.depth rs,
  opens_rise (min n r.depth) r.depth rs (omega arith),
)

pub walks_twice : (rs : List Row) → walks rs ≤ 2 * length rs
walks_twice rs = omega (arith, walks_opens 0 rs)

-- ==== A walk from member to member.

-- deeper rows are passed over
members_skip : (d : ℕ) (rs : List Row) (n : ℕ)
    → ((j : ℕ) → j < n → j < length rs → d + 1 < get_or (depths rs) j 0)
    → members_below d rs ≡ members_below d (drop n rs)
members_skip d rs zero deep = refl
members_skip d [] (suc n) deep = refl
members_skip d (r ∷ rs) (suc n) deep =
    let here = deep 0 (omega arith) (omega arith) in
    members-past d r rs (omega (arith, here)) ∙ members_skip d rs n (λ j h k. deep (suc j) (omega arith) (omega arith))

-- rows whose first is no deeper have no members
members_none : (d : ℕ) (rs : List Row) → (0 < length rs → get_or (depths rs) 0 0 ≤ d) → members_below d rs ≡ []
members_none d [] h = refl
members_none d (r ∷ rs) h = members-over d r rs (h (omega arith))

-- the depths of the rows from a place on
depths_drop : (rows : List Row) (i j : ℕ) → get_or (depths (drop i rows)) j 0 ≡ get_or (depths rows) (i + j) 0
depths_drop rows zero j = ap (λ (k : ℕ). get_or (depths rows) k 0) (let e : j ≡ 0 + j = omega arith in e)
depths_drop [] (suc i) j = refl
depths_drop (r ∷ rs) (suc i) j =
    depths_drop rs i j ∙ ap (λ (k : ℕ). get_or (depths (r ∷ rs)) k 0)
    (let e : suc (i + j) ≡ suc i + j = omega arith in e)

-- a place of the walk is at a member, or at the end
pub record At (rows : List Row) (d stop i : ℕ) : Type 0 where
  pub within : i ≤ stop
  pub totals : i < stop → get_or (depths rows) i 0 ≡ d + 1

-- the rows below a row at this depth end there
pub record Ends (rows : List Row) (d first stop : ℕ) : Type 0 where
  pub fits : stop ≤ length rows
  pub deeper : (j : ℕ) → first ≤ j → j < stop → d < get_or (depths rows) j 0
  pub ends : stop < length rows → get_or (depths rows) stop 0 ≤ d

row_depth : (rows : List Row) (i : ℕ) (node : Node) → IsNode rows i node → get_or (depths rows) i 0 ≡ node.row.depth
row_depth rows i node is =
    let shift : i ≡ i + 0 = omega arith in
    ap (λ (k : ℕ). get_or (depths rows) k 0) shift ∙ sym (depths_drop rows i 0)
    ∙ ap (λ (rs : List Row). get_or (depths rs) 0 0) is.here

pub node_ends : (rows : List Row) (i : ℕ) (node : Node) → IsNode rows i node
    → Ends rows node.row.depth (i + 1) node.next.0
node_ends rows i node is =
    let depth = row_depth rows i node is in
    let total = length-map rows depth_of in
    record {
      fits = omega (arith, is.next.within);
      deeper = λ j from before. let more = is.next.deeper j (omega arith) before in omega arith;
      ends = λ inside. let more = is.next.ends (omega arith) in omega arith;
    }

pub first_at : (rows : List Row) (i : ℕ) (node : Node) → IsNode rows i node → At rows node.row.depth node.next.0 (i + 1)
first_at rows i node is =
    let ends = node_ends rows i node is in
    record {
      within = omega (arith, is.next.after);
      totals = λ h. let low = ends.deeper (i + 1) (omega arith) h in
          let high = is.child (omega (arith, ends.fits)) in omega arith;
    }

pub next_at : (rows : List Row) (d first stop i : ℕ) (node : Node) → Ends rows d first stop
    → At rows d stop i → i < stop → first ≤ i → IsNode rows i node
    → At rows d stop node.next.0
next_at rows d first stop i node ends at before after is =
    let totals = at.totals before in
    let own = node_ends rows i node is in
    let depth = row_depth rows i node is in
    let within : node.next.0 ≤ stop = elim (cases_lt stop node.next.0) [
      | inl past ↦ (let low = own.deeper stop (omega arith) past in
          let high = ends.ends (omega (arith, own.fits)) in absurd (omega arith))
      | inr fine ↦ fine
    ] in
    record {
      within = within;
      totals = λ h. let low = ends.deeper node.next.0 (omega (arith, is.next.after)) h in
          let high = own.ends (omega (arith, ends.fits)) in omega arith;
    }

pub members_step : (rows : List Row) (d first stop i : ℕ) (node : Node) (is : IsNode rows i node)
    → At rows d stop i → i < stop
    → members_below d (drop i rows) ≡ row_with node.row is.own ∷ members_below d (drop node.next.0 rows)
members_step rows d first stop i node is at before =
    let totals = at.totals before in
    let own = node_ends rows i node is in
    let depth = row_depth rows i node is in
    let after = is.next.after in
    let rest = sym (ap (drop 1) is.here) ∙ drop-drop 1 i rows in
    let deep : (j : ℕ) → j < node.next.0 - (i + 1) → j < length (drop (i + 1) rows)
    → d + 1 < get_or (depths (drop (i + 1) rows)) j 0 =
    λ j h k. let at_j = depths_drop rows (i + 1) j in
    let low = own.deeper (i + 1 + j) (omega arith) (omega arith) in omega arith in
    let shift : i + 1 + (node.next.0 - (i + 1)) ≡ node.next.0 = omega arith in
    let r : Row = row_with node.row is.own in
    ap (members_below d) is.here
    ∙ members-one d r is.rest (omega (arith, totals, depth))
    ∙ ap (λ (rs : List Row). r ∷ members_below d rs) rest
    ∙ ap (λ (rs : List Row). r ∷ rs) (members_skip d (drop (i + 1) rows) (node.next.0 - (i + 1)) deep)
    ∙ ap (λ (rs : List Row). r ∷ members_below d rs) (drop-drop (node.next.0 - (i + 1)) (i + 1) rows)
    ∙ ap (λ (k : ℕ). r ∷ members_below d (drop k rows)) shift

pub members_end : (rows : List Row) (d first stop i : ℕ) → Ends rows d first stop → At rows d stop i
    → stop ≤ i → members_below d (drop i rows) ≡ []
members_end rows d first stop i ends at past =
    let same : stop ≡ i = omega (arith, at.within) in
    subst (λ (k : ℕ). members_below d (drop k rows) ≡ []) same
    (elim (cases_lt stop (length rows)) [
      | inl inside ↦ members_none d (drop stop rows) (λ _. let here = depths_drop rows stop 0 in
          let low = ends.ends inside in let shift : stop + 0 ≡ stop = omega arith in
          let value = ap (λ (k : ℕ). get_or (depths rows) k 0) shift in omega arith)
      | inr over ↦ ap (members_below d) (drop_all stop rows over)
    ])

-- ==== One step of the writer, from one row to the next.

-- the rows after a node
pub rest_is : (rows : List Row) (i : ℕ) (node : Node) (is : IsNode rows i node) → is.rest ≡ drop (i + 1) rows
rest_is rows i node is = sym (ap (drop 1) is.here) ∙ drop-drop 1 i rows

-- all points are those before the node, the node's own, and those after it
pub points_split : (rows : List Row) (i : ℕ) (node : Node) (is : IsNode rows i node)
    → row_points rows ≡ row_points (take i rows) ++ (is.own ++ row_points is.rest)
points_split rows i node is =
    ap row_points (sym (take-append-drop i rows)) ∙ row_points-append (take i rows) (drop i rows)
    ∙ ap (λ (rs : List Row). row_points (take i rows) ++ row_points rs) is.here

-- the node's own points among all points
pub own_points : (rows : List Row) (i : ℕ) (node : Node) (is : IsNode rows i node)
    → take node.points (drop node.first.0 (row_points rows)) ≡ is.own
own_points rows i node is =
    ap (λ (ps : List Point). take node.points (drop node.first.0 ps)) (points_split rows i node is)
    ∙ ap (take node.points) (drop_at (row_points (take i rows)) (is.own ++ row_points is.rest) node.first.0 is.first)
    ∙ take_at is.own (row_points is.rest) node.points is.count

-- the node's own points are within all points
pub points_within : (rows : List Row) (i : ℕ) (node : Node) → IsNode rows i node
    → node.first.0 + node.points ≤ length (row_points rows)
points_within rows i node is =
    omega (
      arith,
      ap length (points_split rows i node is),
      length-append (row_points (take i rows))
          (is.own ++ row_points is.rest),
      length-append is.own (row_points is.rest),
      is.first,
      is.count,
    )

-- the bytes of a row, and of the rows after it
pub rows_step : (style : Style) (rows : List Row) (i : ℕ) (node : Node) (is : IsNode rows i node)
    (at : Point) (es : List Entry)
    → rows_bytes style at es (drop i rows) ≡ lead style node.row.precision es node.row.kind
    node.row.depth node.points (drop (i + 1) rows)
    ++ (way_bytes (way_start node.row.precision at) (take node.points (drop node.first.0 (row_points rows)))
    ++ rows_bytes style (way_end (way_start node.row.precision at)
    (take node.points (drop node.first.0 (row_points rows))))
    (drop (entry_count node.row.precision) es) (drop (i + 1) rows))
rows_step style rows i node is at es =
    let own = own_points rows i node is in
    let r = node.row in
    let from = way_start r.precision at in
    let left = drop (entry_count r.precision) es in
    let rest = rest_is rows i node is in
    rw own
    (ap (rows_bytes style at es) is.here
    ∙ append_assoc _ (way_bytes from is.own) _
    ∙ (λ j. lead style r.precision es r.kind r.depth (is.count j) (rest j)
    ++ (way_bytes from is.own ++ rows_bytes style (way_end from is.own) left (rest j))))

-- the entries of a row, and of the rows after it
pub entries_step : (rows : List Row) (i : ℕ) (node : Node) → IsNode rows i node
    → entries_in (drop i rows) ≡ entry_count node.row.precision + entries_in (drop (i + 1) rows)
entries_step rows i node is = ap entries_in is.here
    ∙ ap (λ (rs : List Row). entry_count node.row.precision + entries_in rs)
    (rest_is rows i node is)

-- the reads of a row's walk, and of those after it
pub walks_step : (rows : List Row) (i : ℕ) (node : Node) → IsNode rows i node
    → walks (drop i rows) ≡ 1 + length (members_below node.row.depth (drop (i + 1) rows)) + walks
    (drop (i + 1) rows)
walks_step rows i node is = ap walks is.here
    ∙ ap (λ (rs : List Row). 1 + length (members_below node.row.depth rs) + walks rs)
    (rest_is rows i node is)

-- the points of a row, and of the rows after it
pub points_step : (rows : List Row) (i : ℕ) (node : Node) → IsNode rows i node
    → length (row_points (drop i rows)) ≡ node.points + length (row_points (drop (i + 1) rows))
points_step rows i node is =
    let rest = rest_is rows i node is in
    ap (λ (rs : List Row). length (row_points rs)) is.here
    ∙ length-append is.own (row_points is.rest) ∙ (λ j. is.count j + length (row_points (rest j)))

-- the entries that are left
left_is : (p : Option ℤ) (es : List Entry) (h after : ℕ) → after ≡ h + entry_count p
    → drop (entry_count p) (drop h es) ≡ drop after es
left_is p es h after e = drop-drop (entry_count p) h es
    ∙ ap (λ (n : ℕ). drop n es) (let same : h + entry_count p ≡ after = omega (arith, e) in same)

-- a row that is a geometry itself has the entry at its place
pub own_at : (style : Style) (o : Option ℤ) (p : ℤ) (es : List Entry) (h : ℕ) (e : Entry) (k : Kind)
    (d own : ℕ) (rs : List Row) → o ≡ Some p → h < length es → e ≡ get_or es h e
    → lead style o (drop h es) k d own rs ≡ geometry_lead style p e k d own rs
own_at style o p es h e k d own rs some within is =
    let first = drop_more es h e within ∙ ap (λ (x : Entry). x ∷ drop (h + 1) es) (sym is) in
    λ i. lead style (some i) (first i) k d own rs

-- there is an entry at this place
pub room_here : (o : Option ℤ) (p : ℤ) (h n : ℕ) → o ≡ Some p → h + entry_count o ≤ n → h < n
room_here o p h n some room = let one : entry_count o ≡ 1 = ap entry_count some in omega arith

-- the bytes of a row from where it starts, and the bytes after them
pub next_rows : (style : Style) (p : Option ℤ) (es : List Entry) (h after : ℕ)
    (at last from : Point) (ps : List Point) (rs : List Row)
    → after ≡ h + entry_count p → from ≡ way_start p at → last ≡ way_end from ps
    → way_bytes (way_start p at) ps ++ rows_bytes style (way_end (way_start p at) ps)
    (drop (entry_count p) (drop h es)) rs ≡ way_bytes from ps ++ rows_bytes style last
    (drop after es) rs
next_rows style p es h after at last from ps rs e f k =
    let start = sym f in
    let left = left_is p es h after e in
    (λ i. way_bytes (start i) ps ++ rows_bytes style (way_end (start i) ps) (left i) rs)
    ∙ ap (λ (q : Point). way_bytes from ps ++ rows_bytes style q (drop after es) rs) (sym k)
