-- The outline after an item, the change that the item makes to the rows, and the notes of spans.
use Rattle.std.proofs.Common.{◌≡◌, ℕ, suc, [], ◌∷◌, refl, sym, ap, zero, ◌-◌, Bool, true, false, ◌++◌, ◌∙◌, Some}
use Rattle.std.proofs.Common.{None, arith, append_assoc, append-nil, Option}
use Rattle.std.proofs.lemmas.List.{length-map}
use Rattle.std.specs.Prelude.{List, map, if◌then◌else◌, Ok, ℤ, ◌+◌, length}
use Rattle.twkb_grammar.specs.Noting.{Notes, note_byte, IsCalm}
use Rattle.twkb_grammar.specs.Machine.{Frame, Phase, AtHeader, AtOption, AtBody, Finished, Want, Nested, Around, top}
use Rattle.twkb_grammar.specs.Machine.{within, Body, WantY, Done, closed, opened, body_after, BodyForm, depth_of}
use Rattle.twkb_grammar.specs.Machine.{PointForm, LineForm, PolygonForm, MultiPointForm, MultiLineForm}
use Rattle.twkb_grammar.specs.Machine.{MultiPolygonForm, Kind, SimpleKind, Head, snoc, Many, ManyPoints, ManyLines}
use Rattle.twkb_grammar.specs.Machine.{ManyPolygons, ManyGeometries, AtMetadata, AtCount, AtId, AtEnd, settled, begun}
use Rattle.twkb_grammar.specs.Machine.{empty_of, wanting, asked, with_option, members_begin, counted, ended, advanced}
use Rattle.twkb_grammar.specs.Machine.{shape_of}
use Rattle.twkb_grammar.specs.Reading.{frame_count, is_exact, past_end, ends}
use Rattle.twkb_body.specs.Outline.{Stage, frame_outline, stage_of, outline_of, ids_behind, ids_after, FrameOutline}
use Rattle.twkb_body.specs.Outline.{Wanted, WantedY, OnHeader, OnId, OnBody, OnEnd, lefts_of, ids_left, body_stage}
use Rattle.twkb_body.specs.Outline.{next_ids, shut, listing, begins, options, members_open, many_counted}
use Rattle.twkb_body.specs.Outline.{outline_ended, outline_advanced, outline_past_end, outline_ends, outline_in}
use Rattle.twkb_body.specs.Reading.{open_count, note_stage, note_first, IsCalmStage}
use Rattle.twkb_num.specs.Spelling.{unzigzag_of}
use Rattle.twkb_points.specs.Point.{Point}
use Rattle.twkb_tree.specs.Tree.{Ids, Tree, Trees, end, ◌▷◌, collection, simple}
use Rattle.twkb_tree.specs.Rows.{other_ids, Row, plain_row, whole_row, first_id, rows_of_each, ring_rows}
use Rattle.twkb_tree.specs.Rows.{polygon_rows, rows_with}
use Rattle.twkb_tree.specs.RowGrowth.{with_point, point_added}
use Rattle.twkb_tree.specs.declared.kind.Kind as row
use Rattle.twkb_tree.specs.declared.kind.Kind.TheVariants as kinds
use Rattle.twkb_tree.proofs.PointMore.{point_last}
use Rattle.twkb_grammar.specs.Bits.{bit}
use Rattle.twkb_grammar.specs.Roles.{Role}
use Rattle.twkb_body.specs.Growing.{cut_behind, cut_before, cut, value_rows, phase_rows, applied, list_row}
use Rattle.twkb_body.specs.Growing.{point_change, stage_change}

-- ==== The notes of spans are determined by the outline.

pub same_note : (ph : Phase) (offset points byte : ℕ) (w : Notes)
    → note_byte ph offset points byte w ≡ note_stage (stage_of ph) offset points byte w
same_note (AtBody h f ids (Want d a)) offset points byte w = refl
same_note _ offset points byte w = refl

pub same_calm : (ph : Phase) → IsCalmStage (stage_of ph) → IsCalm ph
same_calm (AtOption k h r rs) c = c
same_calm _ c = tt

pub same_count : (fs : List Frame) (ph : Phase) → frame_count (fs, ph) ≡ open_count (outline_of (fs, ph))
same_count fs AtHeader = sym (length-map fs frame_outline)
same_count fs (Finished g) = sym (length-map fs frame_outline)
same_count fs (AtBody h f ids (Want d a)) = ap suc (sym (length-map fs frame_outline))
same_count fs _ = ap suc (sym (length-map fs frame_outline))

-- ---- the first of some bytes

module _ (t : Stage) (offset points : ℕ) where
  -- nothing is noted if no byte adds a note
  pub silent : (bytes : List ℕ) (w : Notes) → ((byte : ℕ) → note_stage t offset points byte w ≡ w)
      → note_first t offset points bytes w ≡ w
  silent [] w h = refl
  silent (byte ∷ bytes) w h = h byte

-- ==== The outline after an item is determined by the outline before it.

-- after one more value there is one id less
pub ids_behind-snoc : {A : Type 0} (ids : Ids) (xs : List A) (x : A)
    → ids_behind ids (xs ++ x ∷ []) ≡ other_ids (ids_behind ids xs)
ids_behind-snoc ids [] x = refl
ids_behind-snoc ids (y ∷ ys) x = ids_behind-snoc (other_ids ids) ys x

-- after one more geometry there is one id less
pub ids_after-snoc : (ids : Ids) (gs : Trees) (g : Tree) → ids_after ids (snoc gs g) ≡ other_ids (ids_after ids gs)
ids_after-snoc ids end g = refl
ids_after-snoc ids (k ▷ gs) g = ids_after-snoc (other_ids ids) gs g

-- the stage of a body, which at its end is its geometry's end
abbrev place_stage : {whole : ℕ} → Head → BodyForm → Ids → Body whole → Stage
place_stage h f ids (Want d a) = OnBody h f (ids_left ids a) (Wanted d (lefts_of a))
place_stage h f ids (WantY a) = OnBody h f (ids_left ids a) (WantedY (lefts_of a))
place_stage h f ids (Done v) = OnEnd h

-- the stage of a phase with a body
settled_stage : (h : Head) (f : BodyForm) (ids : Ids) (b : Body (depth_of f))
    → stage_of (settled h f ids b) ≡ place_stage h f ids b
settled_stage h f ids (Want d a) = refl
settled_stage h f ids _ = refl

-- the ids when the next value of a list is expected
next_left : {whole d : ℕ} (ids : Ids) (done : List (Nested d)) (v : Nested d) (left : ℕ)
    (a : Around whole (suc d)) → ids_left ids (within (done ++ v ∷ []) left a) ≡ next_ids
    (lefts_of a) (ids_left ids (within done (suc left) a))
next_left ids done v left top = ids_behind-snoc ids done v
next_left ids done v left (within others more a) = refl

-- the ids at the end of a list
shut_ids : {whole d : ℕ} (h : Head) (f : BodyForm) (ids : Ids) (done : List (Nested d)) (left : ℕ)
    (a : Around whole (suc d)) (n : ℕ) → shut h f (ids_left ids a) n (lefts_of a) ≡ shut h f
    (ids_left ids (within done left a)) n (lefts_of a)
shut_ids h f ids done left top n = refl
shut_ids h f ids done left (within others more a) n = refl

shut_stage : {whole d : ℕ} (h : Head) (f : BodyForm) (ids : Ids) (a : Around whole d) (v : Nested d)
    → place_stage h f ids (closed a v) ≡ shut h f (ids_left ids a) d (lefts_of a)
shut_stage h f ids top v = refl
shut_stage {d = d} h f ids (within done zero a) v = shut_stage h f ids a (done ++ v ∷ [])
    ∙ shut_ids h f ids done 0 a (suc d)
shut_stage {d = d} h f ids (within done (suc left) a) v =
    ap (λ js. OnBody h f js (Wanted d (left ∷ lefts_of a))) (next_left ids done v left a)

-- the ids when a list begins
first_left : {whole d : ℕ} (ids : Ids) (left : ℕ) (a : Around whole (suc d))
    → ids_left ids (within [] left a) ≡ ids_left ids a
first_left ids left top = refl
first_left ids left (within others more a) = refl

listing_stage : {whole : ℕ} (h : Head) (f : BodyForm) (ids : Ids) (d n : ℕ) (a : Around whole (suc d))
    → place_stage h f ids (opened d n a) ≡ listing h f (ids_left ids a) d n (lefts_of a)
listing_stage h f ids d zero a = shut_stage h f ids a []
listing_stage h f ids d (suc n) a = ap (λ js. OnBody h f js (Wanted d (n ∷ lefts_of a))) (first_left ids n a)

body_advanced : (p : Point) (n : ℕ) (h : Head) (f : BodyForm) (ids : Ids) (b : Body (depth_of f))
    (bytes : ℕ) (gs : List FrameOutline) → stage_of (settled h f ids (body_after p n b))
    ≡ (outline_advanced bytes n (gs, body_stage h f ids b)).1
body_advanced p n h f ids (Want (suc d) a) bytes gs = settled_stage h f ids (opened d n a) ∙ listing_stage h f ids d n a
body_advanced p n h f ids (WantY a) bytes gs = settled_stage h f ids (closed a p) ∙ shut_stage h f ids a p
body_advanced p n h f ids _ bytes gs = refl

-- the outline of a body with the collections around it
body_outline : (p : Point) (bytes n : ℕ) (fs : List Frame) (h : Head) (f : BodyForm) (ids : Ids)
    (b : Body (depth_of f)) → outline_of (fs, settled h f ids (body_after p n b)) ≡ outline_advanced
    bytes n (outline_of (fs, AtBody h f ids b))
body_outline p bytes n fs h f ids (Want (suc d) a) = ap (λ (s : Stage). (map frame_outline fs, s))
    (body_advanced p n h f ids (Want (suc d) a) bytes [])
body_outline p bytes n fs h f ids (WantY a) = ap (λ (s : Stage). (map frame_outline fs, s))
    (body_advanced p n h f ids (WantY a) bytes [])
body_outline p bytes n fs h f ids _ = refl

begun_stage : (k : Kind) (h : Head) → stage_of (begun k h) ≡ begins k h
begun_stage (SimpleKind PointForm) h = refl
begun_stage _ h = refl

wanting_stage : (k : Kind) (h : Head) (rs : List Role) → stage_of (wanting k h rs) ≡ options k h rs
wanting_stage k h (r ∷ rs) = refl
wanting_stage k h [] = go (bit h.meta 4)
  where
    go : (b : Bool) → stage_of (if b then AtEnd h (empty_of k h.precision) else begun k h)
        ≡ (if b then OnEnd h else begins k h)
    go true = refl
    go false = begun_stage k h

members_outline : (m : Many) (h : Head) (fs : List Frame) (ids : Ids) (n : ℕ)
    → outline_of (members_begin m h fs ids n) ≡ members_open m h (map frame_outline fs) ids n
members_outline ManyPoints h fs ids n = ap (λ (s : Stage). (map frame_outline fs, s))
    (settled_stage h MultiPointForm ids (opened 0 n top) ∙ listing_stage h MultiPointForm ids 0 n top)
members_outline ManyLines h fs ids n = ap (λ (s : Stage). (map frame_outline fs, s))
    (settled_stage h MultiLineForm ids (opened 1 n top) ∙ listing_stage h MultiLineForm ids 1 n top)
members_outline ManyPolygons h fs ids n = ap (λ (s : Stage). (map frame_outline fs, s))
    (settled_stage h MultiPolygonForm ids (opened 2 n top)
    ∙ listing_stage h MultiPolygonForm ids 2 n top)
members_outline ManyGeometries h fs ids zero = refl
members_outline ManyGeometries h fs ids (suc n) = refl

counted_outline : (m : Many) (h : Head) (fs : List Frame) (n : ℕ)
    → outline_of (counted m h fs n) ≡ many_counted m h (map frame_outline fs) n
counted_outline m h fs zero = members_outline m h fs None 0
counted_outline m h fs (suc n) = go (bit h.meta 2)
  where
    go : (b : Bool) → outline_of (if b then (fs, AtId m h (suc n) [] n) else members_begin m h fs
        None (suc n)) ≡ (if b then (map frame_outline fs, OnId m h (suc n) [] n) else members_open m h
        (map frame_outline fs) None (suc n))
    go true = refl
    go false = members_outline m h fs None (suc n)

ended_outline : (fs : List Frame) (g : Tree) → outline_of (ended fs g) ≡ outline_ended (map frame_outline fs)
ended_outline [] g = refl
ended_outline (f ∷ fs) g = go f.left
  where
    go : (n : ℕ) → outline_of (ended (record { head = f.head; ids = f.ids; done = f.done; left = n }
        ∷ fs) g) ≡ outline_ended
        (map frame_outline (record { head = f.head; ids = f.ids; done = f.done; left = n } ∷ fs))
    go zero = refl
    go (suc n) = ap (λ js. (
      record { head = f.head; ids = js; left = n } ∷ map frame_outline fs,
      OnHeader,
    )) (ids_after-snoc f.ids f.done g)

-- the outline after each item
pub outline_steps : (p : Point) (bytes n : ℕ) (fs : List Frame) (ph : Phase)
    → outline_of (advanced p bytes n fs ph) ≡ outline_advanced bytes n (outline_of (fs, ph))
outline_steps p bytes n fs (AtMetadata k precision) = ap (λ (s : Stage). (map frame_outline fs, s))
    (wanting_stage k (record { precision = precision; meta = n; size = None; from = bytes })
    (asked n))
outline_steps p bytes n fs (AtOption k h r rs) = ap (λ (s : Stage). (map frame_outline fs, s))
    (wanting_stage k (with_option h r n bytes) rs)
outline_steps p bytes n fs (AtCount m h) = counted_outline m h fs n
outline_steps p bytes n fs (AtId m h members ids zero) = members_outline m h fs
    (Some (ids ++ unzigzag_of n ∷ [])) members
outline_steps p bytes n fs (AtBody h f ids b) = body_outline p bytes n fs h f ids b
outline_steps p bytes n fs (AtEnd h g) = ended_outline fs g
outline_steps p bytes n fs _ = refl

-- the outline after the ends of geometries
past_end_outline : (exact : Bool) (bytes : ℕ) (g : Tree) (fs : List Frame)
    → outline_in (past_end exact bytes g fs) ≡ outline_past_end exact bytes (map frame_outline fs)
past_end_outline true bytes g (f ∷ fs) = go f.left
    (past_end_outline (is_exact f.head.size (bytes - f.head.from)) bytes
    (collection f.head.precision f.ids (snoc f.done g)) fs)
  where
    go : (n : ℕ) → outline_in (past_end (is_exact f.head.size (bytes - f.head.from)) bytes
        (collection f.head.precision f.ids (snoc f.done g)) fs) ≡ outline_past_end
        (is_exact f.head.size (bytes - f.head.from)) bytes (map frame_outline fs)
        → outline_in (past_end true bytes g
        (record { head = f.head; ids = f.ids; done = f.done; left = n } ∷ fs)) ≡ outline_past_end
        true bytes (map frame_outline (record { head = f.head; ids = f.ids; done = f.done; left = n }
        ∷ fs))
    go zero same = same
    go (suc n) same = ap (λ js. Ok (
      record { head = f.head; ids = js; left = n } ∷ map frame_outline fs,
      OnHeader,
    )) (ids_after-snoc f.ids f.done g)
past_end_outline _ bytes g _ = refl

-- the outline after the ends that follow an item
pub outline_at_ends : (bytes : ℕ) (fs : List Frame) (ph : Phase)
    → outline_in (ends bytes fs ph) ≡ outline_ends bytes (outline_of (fs, ph))
outline_at_ends bytes fs (AtBody h f ids (Want d a)) = refl
outline_at_ends bytes fs (AtEnd h g) = past_end_outline (is_exact h.size (bytes - h.from)) bytes g fs
outline_at_ends bytes fs _ = refl

-- ==== The change that an item makes to the rows.

-- ---- lists

-- one more row after the rows that follow another
pub one_behind : (front : List Row) (o : Row) (rs : List Row) (r : Row)
    → front ++ (o ∷ (rs ++ r ∷ [])) ≡ (front ++ (o ∷ rs)) ++ r ∷ []
one_behind front o rs r = sym (append_assoc front (o ∷ rs) (r ∷ []))

-- one more point in the rows that follow another
point_behind : (p : Point) (front : List Row) (o : Row) (rs : List Row) (r : Row)
    → front ++ (o ∷ (rs ++ with_point r p ∷ [])) ≡ point_added p (front ++ (o ∷ (rs ++ r ∷ [])))
point_behind p front o rs r = one_behind front o rs (with_point r p)
    ∙ (sym (point_last p (front ++ (o ∷ rs)) r) ∙ ap (point_added p)
    (sym (one_behind front o rs r)))

-- the rows of one more member
pub each-snoc : {A : Type 0} (f : Option ℤ → A → List Row) (ids : Ids) (xs : List A) (x : A)
    → rows_of_each f ids (xs ++ x ∷ []) ≡ rows_of_each f ids xs
    ++ f (first_id (ids_behind ids xs)) x
each-snoc f ids [] x = append-nil (f (first_id ids) x)
each-snoc f ids (y ∷ ys) x = ap (λ rs. f (first_id ids) y ++ rs) (each-snoc f (other_ids ids) ys x)
    ∙ sym (append_assoc (f (first_id ids) y) (rows_of_each f (other_ids ids) ys)
    (f (first_id (ids_behind (other_ids ids) ys)) x))

-- without ids there are none for the members left
no_ids : {A : Type 0} (xs : List A) → ids_behind None xs ≡ None
no_ids [] = refl
no_ids (x ∷ xs) = no_ids xs

-- the rows of one more ring
pub ring-snoc : (d : ℕ) (rings : List (List Point)) (ring : List Point)
    → ring_rows d (rings ++ ring ∷ []) ≡ ring_rows d rings ++ plain_row d kinds.Ring None ring ∷ []
ring-snoc d rings ring = each-snoc (λ none ps. plain_row d kinds.Ring none ps ∷ []) None rings ring
    ∙ ap (λ ids. ring_rows d rings ++ plain_row d kinds.Ring (first_id ids) ring ∷ [])
    (no_ids rings)

-- the rows of one more ring in the last polygon
pub area_ring : (d : ℕ) (ids : Ids) (areas : List (List (List Point))) (rings : List (List Point)) (ring : List Point)
    → rows_of_each (polygon_rows d) ids (areas ++ (rings ++ ring ∷ []) ∷ []) ≡ rows_of_each
    (polygon_rows d) ids (areas ++ rings ∷ []) ++ plain_row (suc d) kinds.Ring None ring ∷ []
area_ring d ids areas rings ring =
    let before = rows_of_each (polygon_rows d) ids areas in
    let id = first_id (ids_behind ids areas) in
    let r = plain_row (suc d) kinds.Ring None ring in
    each-snoc (polygon_rows d) ids areas (rings ++ ring ∷ [])
    ∙ (ap (λ rs. before ++ (plain_row d kinds.Polygon id [] ∷ rs)) (ring-snoc (suc d) rings ring)
    ∙ (one_behind before (plain_row d kinds.Polygon id []) (ring_rows (suc d) rings) r
    ∙ ap (λ rs. rs ++ r ∷ []) (sym (each-snoc (polygon_rows d) ids areas rings))))

-- one more row below a row
row_below : (front : List Row) (o : Row) (rs more : List Row) (r : Row) → more ≡ rs ++ r ∷ []
    → front ++ (o ∷ more) ≡ (front ++ (o ∷ rs)) ++ r ∷ []
row_below front o rs more r e = ap (λ l. front ++ (o ∷ l)) e ∙ one_behind front o rs r

-- one more point below a row
point_below : (p : Point) (front : List Row) (o : Row) (others rs more : List Row) (r : Row)
    → rs ≡ others ++ r ∷ [] → more ≡ others ++ with_point r p ∷ []
    → front ++ (o ∷ more) ≡ point_added p (front ++ (o ∷ rs))
point_below p front o others rs more r e h = ap (λ l. front ++ (o ∷ l)) h
    ∙ (point_behind p front o others r ∙ ap (λ l. point_added p (front ++ (o ∷ l))) (sym e))

-- ---- bodies

-- a value and the lists around it are as deep as the whole
pub lefts_fit : {whole d : ℕ} (a : Around whole d) → d + length (lefts_of a) ≡ whole
lefts_fit top = omega arith
lefts_fit (within done left a) = omega (arith, lefts_fit a)

-- the contents of a body when a value is complete, and when a list begins
cut-closed : {whole d : ℕ} (a : Around whole d) (v : Nested d) → cut (closed a v) ≡ Some (cut_behind a v)
cut-closed (within done zero a) v = cut-closed a (done ++ v ∷ [])
cut-closed _ v = refl

cut-opened : {whole : ℕ} (d n : ℕ) (a : Around whole (suc d)) → cut (opened d n a) ≡ Some (cut_behind a [])
cut-opened d zero a = cut-closed a []
cut-opened d (suc n) a = refl

settled_rows : (d : ℕ) (id : Option ℤ) (h : Head) (f : BodyForm) (ids : Ids) (b : Body (depth_of f))
    → phase_rows d id (settled h f ids b) ≡ value_rows d id h f ids (cut b)
settled_rows d id h f ids (Want k a) = refl
settled_rows d id h f ids _ = refl

module _ (front : List Row) (d : ℕ) (id : Option ℤ) (h : Head) (ids : Ids) where
  -- the rows of a body with this value
  abbrev rows_at : (f : BodyForm) → Nested (depth_of f) → List Row
  rows_at f v = front ++ rows_with id d (simple h.precision (shape_of f ids v))

  -- the rows of a body before a place
  abbrev rows_before : (f : BodyForm) {k : ℕ} → Around (depth_of f) k → List Row
  rows_before f a = front ++ value_rows d id h f ids (cut_before a)

  abbrev own : row.Kind → Row
  own kind = whole_row d kind id h.precision []

  abbrev line_rows : Option ℤ → List Point → List Row
  line_rows id ps = plain_row (suc d) kinds.Linestring id ps ∷ []

  abbrev point_rows : Option ℤ → Point → List Row
  point_rows id p = plain_row (suc d) kinds.Point id (p ∷ []) ∷ []

  first_row : (r : Row) → front ++ r ∷ [] ≡ (front ++ []) ++ r ∷ []
  first_row r = ap (λ rs. rs ++ r ∷ []) (sym (append-nil front))

  list_begins : (f : BodyForm) (inner : ℕ) (a : Around (depth_of f) (suc inner))
      → rows_at f (cut_behind a []) ≡ rows_before f a ++ list_row d id h.precision f
      (first_id (ids_left ids a)) inner ∷ []
  list_begins LineForm zero top = first_row (own kinds.Linestring)
  list_begins PolygonForm zero (within rings left top) = row_below front (own kinds.Polygon)
      (ring_rows (suc d) rings) _ (plain_row (suc d) kinds.Ring None [])
      (ring-snoc (suc d) rings [])
  list_begins PolygonForm (suc zero) top = first_row (own kinds.Polygon)
  list_begins MultiPointForm zero top = first_row (own kinds.MultiPoint)
  list_begins MultiLineForm zero (within lines left top) = row_below front
      (own kinds.MultiLinestring) (rows_of_each line_rows ids lines) _
      (plain_row (suc d) kinds.Linestring (first_id (ids_behind ids lines)) [])
      (each-snoc line_rows ids lines [])
  list_begins MultiLineForm (suc zero) top = first_row (own kinds.MultiLinestring)
  list_begins MultiPolygonForm zero (within rings left (within areas more top)) = row_below front
      (own kinds.MultiPolygon) (rows_of_each (polygon_rows (suc d)) ids (areas ++ rings ∷ [])) _
      (plain_row (suc (suc d)) kinds.Ring None []) (area_ring (suc d) ids areas rings [])
  list_begins MultiPolygonForm (suc zero) (within areas left top) = row_below front
      (own kinds.MultiPolygon) (rows_of_each (polygon_rows (suc d)) ids areas) _
      (plain_row (suc d) kinds.Polygon (first_id (ids_behind ids areas)) [])
      (each-snoc (polygon_rows (suc d)) ids areas [])
  list_begins MultiPolygonForm (suc (suc zero)) top = first_row (own kinds.MultiPolygon)
  list_begins f inner a = absurd (omega (arith, lefts_fit a))

  point_comes : (p : Point) (f : BodyForm) (a : Around (depth_of f) 0)
      → rows_at f (cut_behind a p) ≡ applied (point_change p d id h.precision f
      (first_id (ids_left ids a))) (rows_before f a)
  point_comes p PointForm top = first_row (whole_row d kinds.Point id h.precision (p ∷ []))
  point_comes p LineForm (within ps left top) =
      sym (point_last p front (whole_row d kinds.Linestring id h.precision ps))
  point_comes p PolygonForm (within ps left (within rings more top)) =
      point_below p front (own kinds.Polygon) (ring_rows (suc d) rings) _ _
      (plain_row (suc d) kinds.Ring None ps) (ring-snoc (suc d) rings ps)
      (ring-snoc (suc d) rings (ps ++ p ∷ []))
  point_comes p MultiPointForm (within ps left top) = row_below front (own kinds.MultiPoint)
      (rows_of_each point_rows ids ps) _ (plain_row (suc d) kinds.Point
      (first_id (ids_behind ids ps)) (p ∷ [])) (each-snoc point_rows ids ps p)
  point_comes p MultiLineForm (within ps left (within lines more top)) =
      point_below p front (own kinds.MultiLinestring) (rows_of_each line_rows ids lines) _ _
      (plain_row (suc d) kinds.Linestring (first_id (ids_behind ids lines)) ps)
      (each-snoc line_rows ids lines ps) (each-snoc line_rows ids lines (ps ++ p ∷ []))
  point_comes p MultiPolygonForm (within ps left (within rings more (within areas most top))) =
      point_below p front (own kinds.MultiPolygon) (rows_of_each (polygon_rows (suc d)) ids
      (areas ++ rings ∷ [])) _ _ (plain_row (suc (suc d)) kinds.Ring None ps)
      (area_ring (suc d) ids areas rings ps) (area_ring (suc d) ids areas rings (ps ++ p ∷ []))
  point_comes p f a = absurd (omega (arith, lefts_fit a))

  -- the change of a number in a body
  pub body_grows : (p : Point) (n : ℕ) (f : BodyForm) (b : Body (depth_of f))
      → front ++ phase_rows d id (settled h f ids (body_after p n b)) ≡ applied
      (stage_change p n d id (body_stage h f ids b)) (front ++ value_rows d id h f ids (cut b))
  body_grows p n f (Want (suc k) a) = ap (λ rs. front ++ rs)
      (settled_rows d id h f ids (opened k n a)) ∙ (ap (λ v. front ++ value_rows d id h f ids v)
      (cut-opened k n a) ∙ list_begins f k a)
  body_grows p n f (WantY a) = ap (λ rs. front ++ rs) (settled_rows d id h f ids (closed a p))
      ∙ (ap (λ v. front ++ value_rows d id h f ids v) (cut-closed a p) ∙ point_comes p f a)
  body_grows p n f _ = refl
