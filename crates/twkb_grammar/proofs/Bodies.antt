-- The machine runs through a body and through the frame around it.
use Rattle.std.proofs.Common.{◌≡◌, ℕ, zero, suc, ◌*◌, ◌/◌, ◌%◌, ◌^◌, ◌<◌, ◌-◌, ℤ, pos, negsuc, refl, arith, List, []}
use Rattle.std.proofs.Common.{◌∷◌, ◌++◌, map, ap, sym, ◌∙◌, Option, Some, None, true, false, ◌+◌, length, subst}
use Rattle.std.proofs.Common.{append_assoc, append-nil, length-append, Bool}
use Rattle.std.specs.Prelude.{◌≤ℤ◌, ◌-ℤ◌, flat_map, ◌+ℤ◌}
use Rattle.std.proofs.lemmas.Int.{ints}
use Rattle.std.proofs.lemmas.Bool.{false≢true}
use Rattle.twkb_num.specs.Spelling.{zigzag_of, unzigzag_of}
use Rattle.twkb_num.proofs.ZigzagLemmas.{unzigzag_of-zigzag_of}
use Rattle.twkb_points.specs.Point.{IsCoordinate, Point, origin, point_at}
use Rattle.twkb_points.specs.Steps.{differences_from}
use Rattle.twkb_tree.proofs.RowLaws.{all_join}
use Rattle.twkb_tree.specs.Tree.{IsPrecision, IsId, Simple, point, line, polygon, multi_point, multi_line}
use Rattle.twkb_tree.specs.Tree.{multi_polygon, points_in, flatten, Ids, simple, IdsFit, HasIds, Tree}
use Rattle.twkb_grammar.specs.Roles.{Field, Count, Id, X, Y, Item, Role, Counted, Vertices, Rings, AreFields, join}
use Rattle.twkb_grammar.specs.Roles.{Header, Metadata, Extended, Size, Box, End, HaveRoles, where_set, item}
use Rattle.twkb_grammar.specs.Items.{Slot, OfCount, OfId, OfPoint, filled, fields, slots, run_of, rings_of, id_slots}
use Rattle.twkb_grammar.specs.Items.{flags, members, Agrees, declared, end_item, Flags, Framed, header_byte}
use Rattle.twkb_grammar.specs.Items.{AreOptional}
use Rattle.twkb_grammar.specs.Noting.{before_body}
use Rattle.std.specs.List.{AllByRecursion}
use Rattle.twkb_grammar.specs.Bits.{bit}
use Rattle.twkb_grammar.specs.Fault.{moved}
use Rattle.twkb_grammar.specs.Machine.{Nested, Around, top, within, Body, Want, closed, opened, listed, BodyForm}
use Rattle.twkb_grammar.specs.Machine.{depth_of, Head, Frame, settled, Many, members_begin, ManyPoints, ManyLines}
use Rattle.twkb_grammar.specs.Machine.{ManyPolygons, begun, SimpleKind, shape_of, PointForm, LineForm, PolygonForm}
use Rattle.twkb_grammar.specs.Machine.{MultiPointForm, MultiLineForm, MultiPolygonForm, AtEnd, AtBody, first_count}
use Rattle.twkb_grammar.specs.Machine.{counted, AtId, AtCount, Sums, added, Stack, Runs, Kind}
use Rattle.twkb_grammar.specs.Machine.{kind_number, kind_at, AtHeader, AtMetadata, wanting, asked, ended, stack_after}
pub use Rattle.twkb_grammar.specs.Machine.{sums_after}

-- ==== Whole numbers in range, and their zigzag forms.

-- a number from -k - 1 to k
abbrev Between : ℕ → ℤ → Type 0
Between k z = (negsuc k ≤ℤ z) × (z ≤ℤ pos k)

between_pos : (k n : ℕ) → n < suc k → Between k (pos n)
between_pos k n h = (omega (arith, ints), omega (arith, ints))

between_neg : (k n : ℕ) → n < suc k → Between k (negsuc n)
between_neg k n h = (omega (arith, ints), omega (arith, ints))

between_form : (k n : ℕ) → n < 2 * suc k → Between k (unzigzag_of n)
between_form k n h = go (n % 2) refl (omega arith)
  where
    go : (r : ℕ) → n % 2 ≡ r → r < 2 → Between k (unzigzag_of n)
    go zero e l = rw e (between_pos k (n / 2) (omega arith))
    go (suc zero) e l = rw e (between_neg k (n / 2) (omega arith))
    go (suc (suc r)) e l = absurd (omega arith)

form_between : (k : ℕ) (z : ℤ) → Between k z → zigzag_of z < 2 * suc k
form_between k (pos n) h = omega (arith, ints, h.1)
form_between k (negsuc n) h = omega (arith, ints, h.0)

-- the zigzag form of a precision has four bits
pub zigzag_small : (p : ℤ) → IsPrecision p → zigzag_of p < 16
zigzag_small p h = form_between 7 p h

-- a number of four bits is the zigzag form of a precision
pub precision_fits : (n : ℕ) → n < 16 → IsPrecision (unzigzag_of n)
precision_fits n h = between_form 7 n h

-- a varint's number is the zigzag form of an id
pub id_small : (n : ℕ) → n < 2 ^ 64 → IsId (unzigzag_of n)
id_small n h = between_form (2 ^ 63 - 1) n (omega arith)

-- the zigzag form of an id fits a varint
pub id_fits : (z : ℤ) → IsId z → zigzag_of z < 2 ^ 64
id_fits z h = omega (arith, form_between (2 ^ 63 - 1) z h)

-- the zigzag form of a difference of coordinates fits a varint
pub difference_fits : (a b : ℤ) → IsCoordinate a → IsCoordinate b → zigzag_of (b -ℤ a) < 2 ^ 64
difference_fits a b h k =
    let low : negsuc (2 ^ 63 - 1) ≤ℤ (b -ℤ a) = omega (arith, ints, h.0, h.1, k.0, k.1) in
    let high : (b -ℤ a) ≤ℤ pos (2 ^ 63 - 1) = omega (arith, ints, h.0, h.1, k.0, k.1) in
    id_fits (b -ℤ a) (low, high)

-- the zigzag form of a coordinate fits a varint
pub coordinate_fits : (a : ℤ) → IsCoordinate a → zigzag_of a < 2 ^ 64
coordinate_fits a h = id_fits a (omega (arith, ints, h.0), omega (arith, ints, h.1))

-- ==== The fields of a body, with a running position.

-- the fields of these slots after position p
abbrev pub steps : Point → List Slot → List Field
steps p [] = []
steps p (OfCount c n ∷ ps) = (Count c, n) ∷ steps p ps
steps p (OfId id ∷ ps) = (Id, zigzag_of id) ∷ steps p ps
steps p (OfPoint q ∷ ps) = (X, zigzag_of (q.x -ℤ p.x)) ∷ (Y, zigzag_of (q.y -ℤ p.y)) ∷ steps q ps

-- the points of slots
abbrev pub slot_points : List Slot → List Point
slot_points [] = []
slot_points (OfPoint q ∷ ps) = q ∷ slot_points ps
slot_points (_ ∷ ps) = slot_points ps

-- slots filled with the differences of their points
pub filled_is : (ps : List Slot) (p : Point) → filled ps (differences_from p (slot_points ps)) ≡ steps p ps
filled_is [] p = refl
filled_is (OfCount c n ∷ ps) p = ap (λ fs. (Count c, n) ∷ fs) (filled_is ps p)
filled_is (OfId id ∷ ps) p = ap (λ fs. (Id, zigzag_of id) ∷ fs) (filled_is ps p)
filled_is (OfPoint q ∷ ps) p = ap (λ fs. (X, zigzag_of (q.x -ℤ p.x)) ∷ (Y, zigzag_of (q.y -ℤ p.y))
    ∷ fs) (filled_is ps q)

-- the points of joined slots
pub slot_points-append : (ps qs : List Slot) → slot_points (ps ++ qs) ≡ slot_points ps ++ slot_points qs
slot_points-append [] qs = refl
slot_points-append (OfPoint q ∷ ps) qs = ap (λ xs. q ∷ xs) (slot_points-append ps qs)
slot_points-append (_ ∷ ps) qs = slot_points-append ps qs

-- the points of points
pub slot_points-map : (ps : List Point) → slot_points (map OfPoint ps) ≡ ps
slot_points-map [] = refl
slot_points-map (p ∷ ps) = ap (λ xs. p ∷ xs) (slot_points-map ps)

-- the points of joined lists of slots
pub slot_points-flat : {A : Type 0} (f : A → List Slot) (g : A → List Point)
    → ((a : A) → slot_points (f a) ≡ g a) → (xs : List A) → slot_points (flat_map f xs) ≡ flat_map g xs
slot_points-flat f g h [] = refl
slot_points-flat f g h (x ∷ xs) = slot_points-append (f x) (flat_map f xs)
    ∙ (ap (λ ys. ys ++ slot_points (flat_map f xs)) (h x) ∙ ap (λ ys. g x ++ ys) (slot_points-flat f g h xs))

-- the slots of ids have no points
pub slot_points-ids : (ids : List ℤ) (ps : List Slot) → slot_points (map OfId ids ++ ps) ≡ slot_points ps
slot_points-ids [] ps = refl
slot_points-ids (id ∷ ids) ps = slot_points-ids ids ps

-- the slots of optional ids have no points
pub slot_points-id_slots : (ids : Option (List ℤ)) (ps : List Slot) → slot_points (id_slots ids ++ ps) ≡ slot_points ps
slot_points-id_slots None ps = refl
slot_points-id_slots (Some ids) ps = slot_points-ids ids ps

-- the points of rings
pub slot_points-rings : (rings : List (List Point)) → slot_points (rings_of rings) ≡ flatten rings
slot_points-rings rings = slot_points-flat run_of (λ ps. ps) slot_points-map rings

-- the points of the slots of a shape are its own
pub points_are : (s : Simple) → slot_points (slots s) ≡ points_in s
points_are (point None) = refl
points_are (point (Some p)) = refl
points_are (line ps) = slot_points-map ps
points_are (polygon rings) = slot_points-rings rings
points_are (multi_point ids ps) = slot_points-id_slots ids (map OfPoint ps) ∙ slot_points-map ps
points_are (multi_line ids lines) = slot_points-id_slots ids (flat_map run_of lines) ∙ slot_points-rings lines
points_are (multi_polygon ids areas) = slot_points-id_slots ids (flat_map rings_of areas)
    ∙ slot_points-flat rings_of flatten slot_points-rings areas

-- the fields of a shape, walked from the origin
pub fields_are : (s : Simple) → fields s ≡ steps origin (slots s)
fields_are s = ap (λ ps. filled (slots s) (differences_from origin ps)) (sym (points_are s))
    ∙ filled_is (slots s) origin

-- a difference added to its start gives its end
pub back : (p q : ℤ) → p +ℤ (q -ℤ p) ≡ q
back p q = omega (arith, ints)

-- a difference, in zigzag form and back, added to its start gives its end
pub forth : (p q : ℤ) → p +ℤ unzigzag_of (zigzag_of (q -ℤ p)) ≡ q
forth p q = rw (unzigzag_of-zigzag_of (q -ℤ p)) (back p q)

-- the position after these slots
abbrev pub reached : Point → List Slot → Point
reached p [] = p
reached p (OfPoint q ∷ ps) = reached q ps
reached p (_ ∷ ps) = reached p ps

-- the position after joined slots
pub reached-append : (p : Point) (xs ys : List Slot) → reached p (xs ++ ys) ≡ reached (reached p xs) ys
reached-append p [] ys = refl
reached-append p (OfPoint q ∷ xs) ys = reached-append q xs ys
reached-append p (_ ∷ xs) ys = reached-append p xs ys

-- ==== The machine runs through a body.

-- the slots of a value of depth d
abbrev pub slots_of : (d : ℕ) → Nested d → List Slot
slots_of zero p = OfPoint p ∷ []
slots_of (suc d) vs = OfCount (listed d) (length vs) ∷ flat_map (slots_of d) vs

-- from this stack the machine runs through any items of these slots, to the last stack
abbrev pub Reaches : Stack → List Slot → Point → Stack → Type 0
Reaches st more p last = (e : Sums) (js : List Item) → e.position ≡ p → AreFields (steps p more) js → Runs e st js last

pub moved_x : (e p q : Point) (r : Role) (n : ℕ) → e ≡ p → r ≡ X → n ≡ zigzag_of (q.x -ℤ p.x)
    → moved e r n ≡ point_at q.x p.y
moved_x e p q r n he hr hn = rw (he, hr, hn, forth p.x q.x)

pub moved_y : (e p q : Point) (r : Role) (n : ℕ) → e ≡ point_at q.x p.y → r ≡ Y
    → n ≡ zigzag_of (q.y -ℤ p.y) → moved e r n ≡ q
moved_y e p q r n he hr hn = rw (he, hr, hn, forth p.y q.y)

module _ (h : Head) (f : BodyForm) (ids : Ids) (fs : List Frame) (last : Stack) where
  -- the stack with this body
  abbrev at_body : Body (depth_of f) → Stack
  at_body b = (fs, settled h f ids b)

  point_runs : (a : Around (depth_of f) 0) (q : Point) (more : List Slot) (p : Point)
      → Reaches (at_body (closed a q)) more q last → Reaches (at_body (Want 0 a)) (OfPoint q ∷ more) p last
  point_runs a q more p k e [] here are = absurd are
  point_runs a q more p k e (i ∷ []) here are = absurd are.3
  point_runs a q more p k e (i ∷ j ∷ js) here are =
      let x = moved_x e.position p q i.role i.number here are.0 are.1 in
      let y = moved_y (added e i).position p q j.role j.number x are.3.0 are.3.1 in (
        ap Some (sym are.0),
        are.2,
        (
          ap Some (sym are.3.0),
          are.3.2,
          subst (λ r. Runs (added (added e i) j) (at_body (closed a r)) js last) (sym y)
              (k (added (added e i) j) js y are.3.3),
        ),
      )

  count_runs : (d n : ℕ) (a : Around (depth_of f) (suc d)) (more : List Slot) (p : Point)
      → Reaches (at_body (opened d n a)) more p last
      → Reaches (at_body (Want (suc d) a)) (OfCount (listed d) n ∷ more) p last
  count_runs d n a more p k e [] here are = absurd are
  count_runs d n a more p k e (i ∷ js) here are = (
    ap Some (sym are.0),
    are.2,
    subst (λ m. Runs (added e i) (at_body (opened d m a)) js last) (sym are.1)
        (k (added e i) js (rw are.0 here) are.3),
  )

  -- the machine runs through any value of this depth
  abbrev RunsThrough : ℕ → Type 0
  RunsThrough d = (v : Nested d) (a : Around (depth_of f) d) (more : List Slot) (p : Point)
      → Reaches (at_body (closed a v)) more (reached p (slots_of d v)) last
      → Reaches (at_body (Want d a)) (slots_of d v ++ more) p last

  rest_runs : (d : ℕ) → RunsThrough d → (vs : List (Nested d)) (v : Nested d)
      (done : List (Nested d)) (a : Around (depth_of f) (suc d)) (more : List Slot) (p : Point)
      → Reaches (at_body (closed a (done ++ v ∷ vs))) more (reached p (flat_map (slots_of d) (v ∷ vs))) last
      → Reaches (at_body (Want d (within done (length vs) a))) (flat_map (slots_of d) (v ∷ vs) ++ more) p last
  rest_runs d each [] v done a more p k =
      subst (λ ps. Reaches (at_body (Want d (within done 0 a))) ps p last)
      (sym (append_assoc (slots_of d v) [] more))
      (each v (within done 0 a) more p
      (subst (λ q. Reaches (at_body (closed a (done ++ v ∷ []))) more q last)
      (reached-append p (slots_of d v) []) k))
  rest_runs d each (w ∷ ws) v done a more p k =
      subst (λ ps. Reaches (at_body (Want d (within done (suc (length ws)) a))) ps p last)
      (sym (append_assoc (slots_of d v) (flat_map (slots_of d) (w ∷ ws)) more))
      (each v (within done (suc (length ws)) a) (flat_map (slots_of d) (w ∷ ws) ++ more) p
      (rest_runs d each ws w (done ++ v ∷ []) a more (reached p (slots_of d v))
      (subst (λ T. T) (λ t. Reaches (at_body (closed a (sym (append_assoc done (v ∷ []) (w ∷ ws)) t))) more
      (reached-append p (slots_of d v) (flat_map (slots_of d) (w ∷ ws)) t) last) k)))

  all_run : (d : ℕ) → RunsThrough d → (vs : List (Nested d)) (a : Around (depth_of f) (suc d))
      (more : List Slot) (p : Point)
      → Reaches (at_body (closed a vs)) more (reached p (flat_map (slots_of d) vs)) last
      → Reaches (at_body (opened d (length vs) a)) (flat_map (slots_of d) vs ++ more) p last
  all_run d each [] a more p k = k
  all_run d each (v ∷ vs) a more p k = rest_runs d each vs v [] a more p k

  value_runs : (d : ℕ) → RunsThrough d
  value_runs zero q a more p k = point_runs a q more p k
  value_runs (suc d) vs a more p k = count_runs d (length vs) a (flat_map (slots_of d) vs ++ more)
      p (all_run d (value_runs d) vs a more p k)

-- a run through no items ends where it began
pub finish : (st : Stack) (p : Point) → Reaches st [] p st
finish st p e [] here are = refl
finish st p e (i ∷ js) here are = absurd are

pub moved_id : (e : Point) (r : Role) (n : ℕ) → r ≡ Id → moved e r n ≡ e
moved_id e r n h = rw h

pub moved_count : (e : Point) (c : Counted) (r : Role) (n : ℕ) → r ≡ Count c → moved e r n ≡ e
moved_count e c r n h = rw h

-- whether ids follow a count, by the metadata byte
abbrev pub SaysIds : Head → Ids → ℕ → Type 0
SaysIds h ids zero = ids ≡ None
SaysIds h None (suc n) = bit h.meta 2 ≡ false
SaysIds h (Some ids) (suc n) = (bit h.meta 2 ≡ true) × (length ids ≡ suc n)

module _ (m : Many) (h : Head) (fs : List Frame) (last : Stack) where
  ids_run : (n : ℕ) (xs : List ℤ) (x : ℤ) (done : List ℤ) (more : List Slot) (p : Point)
      → Reaches (members_begin m h fs (Some (done ++ x ∷ xs)) n) more p last
      → Reaches (fs, AtId m h n done (length xs)) (map OfId (x ∷ xs) ++ more) p last
  ids_run n xs x done more p k e [] here are = absurd are
  ids_run n [] x done more p k e (i ∷ js) here are = (
    ap Some (sym are.0),
    are.2,
    subst (λ y. Runs (added e i) (members_begin m h fs (Some (done ++ y ∷ [])) n) js last)
        (sym (ap unzigzag_of are.1 ∙ unzigzag_of-zigzag_of x))
        (k (added e i) js (moved_id e.position i.role i.number are.0 ∙ here) are.3),
  )
  ids_run n (y ∷ ys) x done more p k e (i ∷ js) here are = (
    ap Some (sym are.0),
    are.2,
    subst (λ z. Runs (added e i) (fs, AtId m h n (done ++ z ∷ []) (length ys)) js last)
        (sym (ap unzigzag_of are.1 ∙ unzigzag_of-zigzag_of x))
        (ids_run n ys y (done ++ x ∷ []) more p
        (subst (λ xs. Reaches (members_begin m h fs (Some xs) n) more p last)
        (sym (append_assoc done (x ∷ []) (y ∷ ys))) k)
        (added e i) js (moved_id e.position i.role i.number are.0 ∙ here) are.3),
  )

  counted_run : (n : ℕ) (ids : Ids) (more : List Slot) (p : Point) → SaysIds h ids n
      → Reaches (members_begin m h fs ids n) more p last
      → Reaches (counted m h fs n) (id_slots ids ++ more) p last
  counted_run zero ids more p says k = rw says (rw says at k)
  counted_run (suc n) None more p says k = rw says k
  counted_run (suc n) (Some []) more p says k = absurd (let z : 0 ≡ suc n = says.1 in omega (arith, z))
  counted_run (suc n) (Some (x ∷ xs)) more p says k =
      let z : suc (length xs) ≡ suc n = says.1 in
      let y : length xs ≡ n = omega (arith, z) in
      rw says.0 (subst (λ l. Reaches (fs, AtId m h (suc n) [] l) (map OfId (x ∷ xs) ++ more) p
      last) y (ids_run (suc n) xs x [] more p k))

  -- the machine runs through a count and its ids
  pub first_run : (n : ℕ) (ids : Ids) (more : List Slot) (p : Point) → SaysIds h ids n
      → Reaches (members_begin m h fs ids n) more p last
      → Reaches (fs, AtCount m h) (OfCount (first_count m (length fs)) n ∷ id_slots ids ++ more)
      p last
  first_run n ids more p says k e [] here are = absurd are
  first_run n ids more p says k e (i ∷ js) here are = (
    ap Some (sym are.0),
    are.2,
    subst (λ l. Runs (added e i) (counted m h fs l) js last) (sym are.1)
        (counted_run n ids more p says k (added e i) js
        (moved_count e.position (first_count m (length fs)) i.role i.number are.0 ∙ here) are.3),
  )

-- ---- slots of a value

-- functions that agree give the same list of slots
pub flat_map-same : {A : Type 0} (f g : A → List Slot) → ((a : A) → f a ≡ g a) → (xs : List A)
    → flat_map f xs ≡ flat_map g xs
flat_map-same f g h [] = refl
flat_map-same f g h (x ∷ xs) = ap (λ ys. ys ++ flat_map f xs) (h x) ∙ ap (λ ys. g x ++ ys) (flat_map-same f g h xs)

-- the slots of points
pub points_slots : (ps : List Point) → flat_map (slots_of 0) ps ≡ map OfPoint ps
points_slots [] = refl
points_slots (p ∷ ps) = ap (λ ys. OfPoint p ∷ ys) (points_slots ps)

-- the slots of a list of points
pub run_slots : (ps : List Point) → slots_of 1 ps ≡ run_of ps
run_slots ps = ap (λ ys. OfCount Vertices (length ps) ∷ ys) (points_slots ps)

-- the slots of lists of points
pub runs_slots : (ls : List (List Point)) → flat_map (slots_of 1) ls ≡ flat_map run_of ls
runs_slots ls = flat_map-same (slots_of 1) run_of run_slots ls

-- the slots of a list of lists of points
pub rings_slots : (ls : List (List Point)) → slots_of 2 ls ≡ rings_of ls
rings_slots ls = ap (λ ys. OfCount Rings (length ls) ∷ ys) (runs_slots ls)

-- the slots of several such lists
pub areas_slots : (ls : List (List (List Point))) → flat_map (slots_of 2) ls ≡ flat_map rings_of ls
areas_slots ls = flat_map-same (slots_of 2) rings_of rings_slots ls

-- the form of a shape
abbrev pub form_of : Simple → BodyForm
form_of (point o) = PointForm
form_of (line ps) = LineForm
form_of (polygon rings) = PolygonForm
form_of (multi_point ids ps) = MultiPointForm
form_of (multi_line ids lines) = MultiLineForm
form_of (multi_polygon ids areas) = MultiPolygonForm

-- the machine runs through a value of depth d with nothing after it
whole_run : (h : Head) (f : BodyForm) (ids : Ids) (fs : List Frame) (p : Point)
    (v : Nested (depth_of f)) (ps : List Slot) → slots_of (depth_of f) v ≡ ps
    → Reaches (fs, AtBody h f ids (Want (depth_of f) top)) ps p
    (fs, AtEnd h (simple h.precision (shape_of f ids v)))
whole_run h f ids fs p v ps same =
    let done : Stack = (fs, AtEnd h (simple h.precision (shape_of f ids v))) in
    subst (λ qs. Reaches (fs, AtBody h f ids (Want (depth_of f) top)) qs p done)
    (append-nil (slots_of (depth_of f) v) ∙ same)
    (value_runs h f ids fs done (depth_of f) v top [] p
    (finish done (reached p (slots_of (depth_of f) v))))

says_of : {A : Type 0} (h : Head) (ids : Ids) (xs : List A) → HasIds ids (length xs)
    → Agrees (members ids xs) h.meta → SaysIds h ids (length xs)
says_of h None [] fit agrees = refl
says_of h None (x ∷ xs) fit agrees = agrees.1
says_of h (Some ids) [] fit agrees = absurd (let z : 0 < 0 = fit.0 in omega (arith, z))
says_of h (Some ids) (x ∷ xs) fit agrees = (agrees.1, fit.1)

parts_run : (m : Many) (h : Head) (f : BodyForm) (ids : Ids) (fs : List Frame)
    (last : Stack) (d : ℕ) (vs : List (Nested d)) (a : Around (depth_of f) (suc d))
    (ps : List Slot)
    → flat_map (slots_of d) vs ≡ ps → (fs, settled h f ids (closed a vs)) ≡ last
    → (fs, settled h f ids (opened d (length vs) a)) ≡ members_begin m h fs ids (length vs)
    → SaysIds h ids (length vs)
    → Reaches (fs, AtCount m h) (OfCount (first_count m (length fs)) (length vs) ∷ id_slots ids
    ++ ps) origin last
parts_run m h f ids fs last d vs a ps same is_last begins says =
    first_run m h fs last (length vs) ids ps origin says
    (subst (λ T. T) (λ t. Reaches (begins t) ((append-nil (flat_map (slots_of d) vs) ∙ same) t) origin last)
    (all_run h f ids fs last d (value_runs h f ids fs last d) vs a [] origin
    (subst (λ st. Reaches st [] (reached origin (flat_map (slots_of d) vs)) last)
    (sym is_last) (finish last (reached origin (flat_map (slots_of d) vs))))))

-- the machine runs through the body of a shape
pub shape_run : (h : Head) (fs : List Frame) (s : Simple) → IdsFit s
    → Agrees (flags s) h.meta → bit h.meta 4 ≡ false
    → Reaches (fs, begun (SimpleKind (form_of s)) h) (slots s) origin (fs, AtEnd h (simple h.precision s))
shape_run h fs (point None) fit agrees full = absurd (false≢true (sym full ∙ agrees))
shape_run h fs (point (Some p)) fit agrees full = whole_run h PointForm None fs origin p
    (OfPoint p ∷ []) refl
shape_run h fs (line ps) fit agrees full = whole_run h LineForm None fs origin ps
    (run_of ps) (run_slots ps)
shape_run h fs (polygon rings) fit agrees full = whole_run h PolygonForm None fs origin
    rings (rings_of rings) (rings_slots rings)
shape_run h fs (multi_point ids ps) fit agrees full =
    parts_run ManyPoints h MultiPointForm ids fs
    (fs, AtEnd h (simple h.precision (multi_point ids ps))) 0 ps top (map OfPoint ps)
    (points_slots ps) refl refl (says_of h ids ps fit agrees)
shape_run h fs (multi_line ids lines) fit agrees full =
    parts_run ManyLines h MultiLineForm ids fs
    (fs, AtEnd h (simple h.precision (multi_line ids lines))) 1 lines top
    (flat_map run_of lines) (runs_slots lines) refl refl (says_of h ids lines fit agrees)
shape_run h fs (multi_polygon ids areas) fit agrees full =
    parts_run ManyPolygons h MultiPolygonForm ids fs
    (fs, AtEnd h (simple h.precision (multi_polygon ids areas))) 2 areas top
    (flat_map rings_of areas) (areas_slots areas) refl refl (says_of h ids areas fit agrees)

-- ==== The machine runs through a geometry's frame: header, optional parts, body and end.

-- two runs, one after the other, are one
pub Runs-append : (is : List Item) (e : Sums) (st mid : Stack) (js : List Item) (last : Stack)
    → Runs e st is mid → Runs (sums_after e is) mid js last → Runs e st (is ++ js) last
Runs-append [] e st mid js last r s = subst (λ x. Runs e x js last) (sym r) s
Runs-append (i ∷ is) e st mid js last r s =
    (r.0, r.1, Runs-append is (added e i) (stack_after e i st) mid js last r.2 s)

-- the machine is deterministic
pub runs_same : (xs : List Item) (e : Sums) (st a b : Stack) → Runs e st xs a → Runs e st xs b → a ≡ b
runs_same [] e st a b r s = sym r ∙ s
runs_same (i ∷ xs) e st a b r s = runs_same xs (added e i) (stack_after e i st) a b r.2 s.2

-- the sums of joined items
pub sums_after-append : (is js : List Item) (e : Sums) → sums_after e (is ++ js) ≡ sums_after (sums_after e is) js
sums_after-append [] js e = refl
sums_after-append (i ∷ is) js e = sums_after-append is js (added e i)

-- the sums count the bytes
pub bytes_after : (is : List Item) (e : Sums) → (sums_after e is).bytes ≡ e.bytes + length (join is)
bytes_after [] e = omega arith
bytes_after (i ∷ is) e = omega (arith, bytes_after is (added e i), length-append i.bytes (join is))

-- what holds of roles holds of the roles of their items
roles_each : (P : Role → Type 0) (b : Bool) (rs : List Role) (is : List Item) → HaveRoles (where_set b rs) is
    → AllByRecursion P rs → AllByRecursion (λ (i : Item). P i.role) is
roles_each P true [] [] have all = tt
roles_each P true (r ∷ rs) (i ∷ is) have all = (subst P (sym have.0) all.0, roles_each P true rs is have.2 all.1)
roles_each P false rs [] have all = tt
roles_each P _ _ _ have all = absurd have

-- what holds of the three roles of optional parts holds of each part's role
pub options_each : (P : Role → Type 0) {meta : ℕ} {extended size box : List Item} → AreOptional meta extended size box
    → P Extended → P Size → P Box → AllByRecursion (λ (i : Item). P i.role) (extended ++ (size ++ box))
options_each P {meta} {extended = x} {size = s} {box = o} optional e z b =
    all_join (λ (i : Item). P i.role) x (s ++ o)
    (roles_each P (bit meta 3) (Extended ∷ []) x optional.extended_is (e, tt))
    (all_join (λ (i : Item). P i.role) s o (roles_each P (bit meta 1) (Size ∷ []) s optional.size_is (z, tt))
    (roles_each P (bit meta 0) (Box ∷ Box ∷ Box ∷ Box ∷ []) o optional.box_is (b, (b, (b, (b, tt))))))

still : (is : List Item) (e : Sums) → AllByRecursion (λ (i : Item). (p : Point) (n : ℕ) → moved p i.role n ≡ p) is
    → (sums_after e is).position ≡ e.position
still [] e all = refl
still (i ∷ is) e all = still is (added e i) all.1 ∙ all.0 e.position i.number

-- optional parts leave the position unchanged
pub still_options : (meta : ℕ) (extended size box : List Item) (e : Sums) → AreOptional meta extended size box
    → (sums_after e (extended ++ (size ++ box))).position ≡ e.position
still_options meta x s o e optional = still (x ++ (s ++ o)) e
    (options_each (λ r. (p : Point) (n : ℕ) → moved p r n ≡ p) optional (λ p n. refl) (λ p n. refl) (λ p n. refl))

-- five lists joined in another grouping
pub regroup : {A : Type 0} (x s o b l : List A) → x ++ (s ++ ((o ++ b) ++ l)) ≡ (x ++ (s ++ o)) ++ (b ++ l)
regroup x s o b l =
    ap (λ t. x ++ (s ++ t)) (append_assoc o b l)
    ∙ (ap (λ t. x ++ t) (sym (append_assoc s o (b ++ l)))
    ∙ sym (append_assoc x (s ++ o) (b ++ l)))

-- the items of a geometry are those before its body, those of the body, and the end
pub framed_whole : {kind : ℕ} {p : ℤ} {own : Flags} {Body : List Item → Type 0} {is : List Item}
    (f : Framed kind p own Body is)
    → is ≡ before_body f ++ (f.body ++ end_item (declared f.size) (f.box ++ f.body) ∷ [])
framed_whole {kind} {p} f = f.whole ∙ ap (λ l. item Header (header_byte kind p) ∷ item (Metadata kind) f.meta ∷ l)
    (regroup f.extended f.size f.box f.body (end_item (declared f.size) (f.box ++ f.body) ∷ []))

-- the header with these fields
abbrev pub head : ℤ → ℕ → Option ℕ → ℕ → Head
head p meta size from = record { precision = p; meta = meta; size = size; from = from }

module _ (k : Kind) (p : ℤ) (meta : ℕ) (fs : List Frame) where
  extended_run : (b : Bool) (is : List Item) (rs : List Role) (e : Sums) → HaveRoles (where_set b (Extended ∷ [])) is
      → Runs e (fs, wanting k (head p meta None e.bytes) (where_set b (Extended ∷ []) ++ rs)) is
      (fs, wanting k (head p meta None (sums_after e is).bytes) rs)
  extended_run true (i ∷ []) rs e have = (ap Some (sym have.0), have.1, refl)
  extended_run true (i ∷ j ∷ is) rs e have = absurd have.2
  extended_run false [] rs e have = refl
  extended_run _ _ rs e have = absurd have

  size_run : (b : Bool) (is : List Item) (rs : List Role) (e : Sums) → HaveRoles (where_set b (Size ∷ [])) is
      → Runs e (fs, wanting k (head p meta None e.bytes) (where_set b (Size ∷ []) ++ rs)) is
      (fs, wanting k (head p meta (declared is) (sums_after e is).bytes) rs)
  size_run true (i ∷ []) rs e have = (ap Some (sym have.0), have.1, refl)
  size_run true (i ∷ j ∷ is) rs e have = absurd have.2
  size_run false [] rs e have = refl
  size_run _ _ rs e have = absurd have

  box_run : (b : Bool) (is : List Item) (h : Head) (e : Sums) → HaveRoles (where_set b (Box ∷ Box ∷ Box ∷ Box ∷ [])) is
      → Runs e (fs, wanting k h (where_set b (Box ∷ Box ∷ Box ∷ Box ∷ []))) is (fs, wanting k h [])
  box_run true (i ∷ []) h e have = absurd have.2
  box_run true (i ∷ j ∷ []) h e have = absurd have.2.2
  box_run true (i ∷ j ∷ l ∷ []) h e have = absurd have.2.2.2
  box_run true (i ∷ j ∷ l ∷ m ∷ []) h e have = (
    ap Some (sym have.0),
    have.1,
    (
      ap Some (sym have.2.0),
      have.2.1,
      (
        ap Some (sym have.2.2.0),
        have.2.2.1,
        (ap Some (sym have.2.2.2.0), have.2.2.2.1, refl),
      ),
    ),
  )
  box_run true (i ∷ j ∷ l ∷ m ∷ n ∷ is) h e have = absurd have.2.2.2.2
  box_run false [] h e have = refl
  box_run _ _ h e have = absurd have

  -- the machine runs through the optional parts
  pub options_run : (extended size box : List Item) (e : Sums) → AreOptional meta extended size box
      → Runs e (fs, wanting k (head p meta None e.bytes) (asked meta)) (extended ++ (size ++ box))
      (fs, wanting k (head p meta (declared size) (sums_after (sums_after e extended) size).bytes) [])
  options_run x s o e optional =
      let boxes : List Role = where_set (bit meta 0) (Box ∷ Box ∷ Box ∷ Box ∷ []) in
      let sizes : List Role = where_set (bit meta 1) (Size ∷ []) ++ boxes in
      let e2 : Sums = sums_after e x in
      let h : Head = head p meta (declared s) (sums_after e2 s).bytes in
      Runs-append x e (fs, wanting k (head p meta None e.bytes) (asked meta))
      (fs, wanting k (head p meta None e2.bytes) sizes) (s ++ o) (fs, wanting k h [])
      (extended_run (bit meta 3) x sizes e optional.extended_is)
      (Runs-append s e2 (fs, wanting k (head p meta None e2.bytes) sizes) (fs, wanting k h boxes) o
      (fs, wanting k h []) (size_run (bit meta 1) s boxes e2 optional.size_is)
      (box_run (bit meta 0) o h (sums_after e2 s) optional.box_is))

-- the number of a kind is a type's number
pub kind_small : (k : Kind) → (0 < kind_number k) × (kind_number k < 8)
kind_small (SimpleKind PointForm) = (omega arith, omega arith)
kind_small _ = (omega arith, omega arith)

-- a kind is that of its number
pub kind_again : (k : Kind) → kind_at (kind_number k) ≡ k
kind_again (SimpleKind PointForm) = refl
kind_again _ = refl

-- a run through the body, for which the geometry is responsible
abbrev pub RunsBody : Kind → ℤ → List Frame → ℕ → List Item → Tree → Type 0
RunsBody k p fs meta body g = (e : Sums) (size : Option ℕ) (from : ℕ) → e.position ≡ origin
    → let h = head p meta size from in Runs e (fs, wanting k h []) body (fs, AtEnd h g)

-- subtracting what was added gives the number back
pub sub_add : (a n : ℕ) → (a + n) - a ≡ n
sub_add a n = omega arith

tail_run : (k : Kind) (p : ℤ) (own : Flags) (Body : List Item → Type 0) (fs : List Frame) (e : Sums)
    (is : List Item) (g : Tree)
    → (f : Framed (kind_number k) p own Body is) → RunsBody k p fs f.meta f.body g → e.position ≡ origin
    → Runs e (fs, wanting k (head p f.meta None e.bytes) (asked f.meta))
    (f.extended ++ (f.size ++ ((f.box ++ f.body) ++ end_item (declared f.size) (f.box ++ f.body)
    ∷ []))) (ended fs g)
tail_run k p own Body fs e is g f runs here =
    subst (λ l. Runs e first l (ended fs g)) (sym (regroup f.extended f.size f.box f.body (last ∷ [])))
    (Runs-append options e first (fs, wanting k h []) (f.body ++ last ∷ []) (ended fs g)
    (options_run k p f.meta fs f.extended f.size f.box e f.optional)
    (Runs-append f.body (sums_after e options) (fs, wanting k h []) (fs, AtEnd h g) (last ∷ []) (ended fs g)
    (runs (sums_after e options) (declared f.size) e3.bytes
    (still_options f.meta f.extended f.size f.box e f.optional ∙ here)) (
      ap (λ n. Some (End (declared f.size) n)) came,
      (refl, refl),
      refl,
    )))
  where
    first : Stack
    first = (fs, wanting k (head p f.meta None e.bytes) (asked f.meta))

    options : List Item
    options = f.extended ++ (f.size ++ f.box)

    e3 : Sums
    e3 = sums_after (sums_after e f.extended) f.size

    h : Head
    h = head p f.meta (declared f.size) e3.bytes

    last : Item
    last = end_item (declared f.size) (f.box ++ f.body)

    came : (sums_after (sums_after e options) f.body).bytes - e3.bytes ≡ length (join (f.box ++ f.body))
    came = ap (λ (x : Sums). x.bytes - e3.bytes) (ap (λ x. sums_after x f.body)
        (sums_after-append f.extended (f.size ++ f.box) e ∙ sums_after-append f.size f.box (sums_after e f.extended))
        ∙ sym (sums_after-append f.box f.body e3))
        ∙ (ap (λ n. n - e3.bytes) (bytes_after (f.box ++ f.body) e3)
        ∙ sub_add e3.bytes (length (join (f.box ++ f.body))))

-- the machine runs through a frame
pub framed_run : (k : Kind) (p : ℤ) (own : Flags) (Body : List Item → Type 0) (fs : List Frame)
    (e : Sums) (is : List Item) (g : Tree) → IsPrecision p
    → (f : Framed (kind_number k) p own Body is) → RunsBody k p fs f.meta f.body g
    → Runs e (fs, AtHeader) is (ended fs g)
framed_run k p own Body fs e is g fits f runs =
    subst (λ js. Runs e (fs, AtHeader) js (ended fs g)) (sym f.whole) (
      refl,
      (byte, omega (arith, kind_small k, small, low), omega (arith, kind_small k, low), refl),
      subst (λ ph. Runs e1 (fs, ph) (item (Metadata (kind_number k)) f.meta ∷ f.extended ++ (f.size
          ++ ((f.box ++ f.body) ++ end_item (declared f.size) (f.box ++ f.body) ∷ []))) (ended fs g))
          (λ t. AtMetadata (kinds t) (precisions t)) (
            refl,
            (f.byte, refl),
            tail_run k p own Body fs (added e1 (item (Metadata (kind_number k)) f.meta)) is g f
                runs refl,
          ),
    )
  where
    hb : ℕ
    hb = header_byte (kind_number k) p

    small : zigzag_of p < 16
    small = zigzag_small p fits

    low : hb % 16 ≡ kind_number k
    low = omega (arith, kind_small k, small)

    byte : hb < 256
    byte = omega (arith, kind_small k, small)

    e1 : Sums
    e1 = added e (item Header hb)

    kinds : k ≡ kind_at (hb % 16)
    kinds = sym (ap kind_at low ∙ kind_again k)

    precisions : p ≡ unzigzag_of (hb / 16)
    precisions = sym (ap unzigzag_of (let z : hb / 16 ≡ zigzag_of p = omega (arith, kind_small k, small) in z)
        ∙ unzigzag_of-zigzag_of p)
