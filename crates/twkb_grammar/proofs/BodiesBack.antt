-- What a place in a body says of the items that the machine ran through since the body began.
use Rattle.std.proofs.Common.{◌≡◌, ℕ, zero, suc, List, [], ◌∷◌, ◌++◌, length, refl, ap, sym, ◌∙◌, subst, append_assoc}
use Rattle.std.proofs.Common.{Some, None, map, arith, Bool, true, false, ◌+◌, append-nil, length-append}
use Rattle.std.proofs.lemmas.Int.{ints}
use Rattle.std.proofs.lemmas.List.Concat.{flat_map-append}
use Rattle.std.specs.Prelude.{⊤, ℤ, flat_map, if◌then◌else◌, ◌-ℤ◌, ◌+ℤ◌}
use Rattle.twkb_num.specs.Spelling.{zigzag_of, unzigzag_of}
use Rattle.twkb_num.proofs.ZigzagLemmas.{zigzag_of-unzigzag_of}
use Rattle.twkb_points.specs.Point.{Point, origin}
use Rattle.twkb_tree.specs.Tree.{Ids, HasIds, IdsFit}
use Rattle.twkb_grammar.specs.Bits.{bit}
use Rattle.twkb_grammar.specs.Roles.{Item, Role, X, Y, Count, Counted, Id, Field, AreFields, Spells, Vertices, Rings}
use Rattle.twkb_grammar.specs.Roles.{Points, Components}
use Rattle.twkb_grammar.specs.Items.{Slot, OfCount, OfId, OfPoint, id_slots, slots, kind_of, members, parts, flags}
use Rattle.twkb_grammar.specs.Items.{Agrees}
use Rattle.twkb_grammar.specs.Fault.{moved}
use Rattle.twkb_grammar.specs.Machine.{Nested, Around, top, within, Body, Want, WantY, Done, closed, opened, listed}
use Rattle.twkb_grammar.specs.Machine.{body_after, body_role, Head, BodyForm, PointForm, LineForm, PolygonForm}
use Rattle.twkb_grammar.specs.Machine.{MultiPointForm, MultiLineForm, MultiPolygonForm, depth_of, shape_of}
use Rattle.twkb_grammar.specs.Machine.{SimpleKind, kind_number}
use Rattle.twkb_grammar.proofs.Bodies.{steps, reached, reached-append, slots_of, SaysIds, points_slots}
use Rattle.twkb_grammar.proofs.Bodies.{run_slots, runs_slots, rings_slots, areas_slots}
pub use Rattle.twkb_grammar.proofs.Bodies.{sums_after-append}

-- ==== Fields and slots of joined items.

-- the items of joined fields are joined items
pub AreFields-append : (fs : List Field) (is : List Item) (gs : List Field) (js : List Item)
    → AreFields fs is → AreFields gs js → AreFields (fs ++ gs) (is ++ js)
AreFields-append [] [] gs js a b = b
AreFields-append (f ∷ fs) (i ∷ is) gs js a b = (a.0, a.1, a.2, AreFields-append fs is gs js a.3 b)
AreFields-append _ _ gs js a b = absurd a

-- the fields of joined slots
pub steps-append : (p : Point) (xs ys : List Slot) → steps p (xs ++ ys) ≡ steps p xs ++ steps (reached p xs) ys
steps-append p [] ys = refl
steps-append p (OfCount c n ∷ xs) ys = ap (λ fs. (Count c, n) ∷ fs) (steps-append p xs ys)
steps-append p (OfId id ∷ xs) ys = ap (λ fs. (Id, zigzag_of id) ∷ fs) (steps-append p xs ys)
steps-append p (OfPoint q ∷ xs) ys = ap (λ fs. (X, zigzag_of (q.x -ℤ p.x))
    ∷ (Y, zigzag_of (q.y -ℤ p.y)) ∷ fs) (steps-append q xs ys)

-- the items of joined slots are joined items
pub slots_more : (xs ys : List Slot) (is js : List Item) → AreFields (steps origin xs) is
    → AreFields (steps (reached origin xs) ys) js → AreFields (steps origin (xs ++ ys)) (is ++ js)
slots_more xs ys is js a b = subst (λ fs. AreFields fs (is ++ js)) (sym (steps-append origin xs ys))
    (AreFields-append (steps origin xs) is (steps (reached origin xs) ys) js a b)

-- two equal options name the same role
pub some_role : (a b : Role) → Some a ≡ Some b → b ≡ a
some_role a b e = cc

forth_back : (p d : ℤ) → (p +ℤ d) -ℤ p ≡ d
forth_back p d = omega (arith, ints)

difference : (n : ℕ) (p q : ℤ) → q ≡ p +ℤ unzigzag_of n → n ≡ zigzag_of (q -ℤ p)
difference n p q e = sym (ap (λ z. zigzag_of (z -ℤ p)) e
    ∙ (ap zigzag_of (forth_back p (unzigzag_of n)) ∙ zigzag_of-unzigzag_of n))

-- ==== The slots that come before a place in a body.

-- the place is that of the whole value
abbrev is_top : {whole d : ℕ} → Around whole d → Bool
is_top top = true
is_top (within done left a) = false

-- the items have these slots, which lead to this position
abbrev pub Lead : Point → List Slot → List Item → Type 0
Lead p ps is = AreFields (steps origin ps) is × (p ≡ reached origin ps)

-- the outermost list has slots of its own before its values
module _ (first : ℕ → List Slot) where
  -- the slots before the values of a list of n
  abbrev heading : {whole : ℕ} (d : ℕ) → Around whole (suc d) → ℕ → List Slot
  heading d a n = if is_top a then first n else (OfCount (listed d) n ∷ [])

  -- the slots before a place
  abbrev pub slots_before : {whole d : ℕ} → Around whole d → List Slot
  slots_before top = []
  slots_before (within {d = d} done left a) =
      slots_before a ++ (heading d a (length done + suc left) ++ flat_map (slots_of d) done)

  -- the slots of a whole value
  abbrev pub whole_slots : (d : ℕ) → Nested d → List Slot
  whole_slots zero p = OfPoint p ∷ []
  whole_slots (suc d) vs = first (length vs) ++ flat_map (slots_of d) vs

  -- the slots of the value at a place
  abbrev value_slots : {whole d : ℕ} → Around whole d → Nested d → List Slot
  value_slots {whole} top v = whole_slots whole v
  value_slots (within {d = d} done left a) v = slots_of d v

  list_slots : {whole : ℕ} (d : ℕ) (a : Around whole (suc d)) (vs : List (Nested d))
      → value_slots a vs ≡ heading d a (length vs) ++ flat_map (slots_of d) vs
  list_slots d top vs = refl
  list_slots d (within done left a) vs = refl

  point_slots : {whole : ℕ} (a : Around whole 0) (p : Point) → value_slots a p ≡ OfPoint p ∷ []
  point_slots top p = refl
  point_slots (within done left a) p = refl

  -- one more value of a list
  more_values : {whole : ℕ} (d n m : ℕ) (a : Around whole (suc d)) (done : List (Nested d)) (v : Nested d) → n ≡ m
      → (slots_before a ++ (heading d a n ++ flat_map (slots_of d) done)) ++ slots_of d v
      ≡ slots_before a ++ (heading d a m ++ flat_map (slots_of d) (done ++ v ∷ []))
  more_values d n m a done v same =
      append_assoc (slots_before a) (heading d a n ++ flat_map (slots_of d) done) (slots_of d v)
      ∙ ap (λ l. slots_before a ++ l) (append_assoc (heading d a n) (flat_map (slots_of d) done) (slots_of d v)
      ∙ (ap (λ k. heading d a k ++ (flat_map (slots_of d) done ++ slots_of d v)) same
      ∙ ap (λ l. heading d a m ++ l) (ap (λ l. flat_map (slots_of d) done ++ l) (sym (append-nil (slots_of d v)))
      ∙ sym (flat_map-append (slots_of d) done (v ∷ [])))))

  -- a count that is expected there is all that comes before the values of its list
  abbrev Headed : {whole : ℕ} (d : ℕ) → Around whole d → Type 0
  Headed zero a = ⊤
  Headed (suc d) a = (n : ℕ) → heading d a n ≡ OfCount (listed d) n ∷ []

  headed_within : {whole : ℕ} (d : ℕ) (done : List (Nested d)) (left : ℕ) (a : Around whole (suc d))
      → Headed d (within done left a)
  headed_within zero done left a = tt
  headed_within (suc d) done left a = λ n. refl

  -- ==== What a body that is being read says of its items so far, and of the position after them.

  -- the items are those of the body so far, and lead to this position
  abbrev pub BodyHeld : {whole : ℕ} → Point → Body whole → List Item → Type 0
  BodyHeld p (Want d a) is = Lead p (slots_before a) is × Headed d a
  BodyHeld p (WantY a) is = let q = reached origin (slots_before a) in
      AreFields (steps origin (slots_before a) ++ (X, zigzag_of (p.x -ℤ q.x)) ∷ []) is × (p.y ≡ q.y)
  BodyHeld {whole} p (Done v) is = AreFields (steps origin (whole_slots whole v)) is

  closed_held : {whole d : ℕ} (a : Around whole d) (v : Nested d) (p : Point) (is : List Item)
      → Lead p (slots_before a ++ value_slots a v) is → BodyHeld p (closed a v) is
  closed_held top v p is h = h.0
  closed_held (within {d = d} done zero a) v p is h =
      closed_held a (done ++ v ∷ []) p is (subst (λ ps. Lead p ps is)
      (more_values d (length done + 1) (length (done ++ v ∷ [])) a done v (sym (length-append done (v ∷ [])))
      ∙ ap (λ l. slots_before a ++ l) (sym (list_slots d a (done ++ v ∷ [])))) h)
  closed_held (within {d = d} done (suc left) a) v p is h =
      let n : length done + suc (suc left) ≡ length (done ++ v ∷ []) + suc left =
      omega (arith, length-append done (v ∷ [])) in (
        subst (λ ps. Lead p ps is) (more_values d (length done + suc (suc left))
            (length (done ++ v ∷ []) + suc left) a done v n) h,
        headed_within d (done ++ v ∷ []) left a,
      )

  -- the body at the start of a list of n values
  pub opened_held : {whole : ℕ} (d n : ℕ) (a : Around whole (suc d)) (p : Point) (is : List Item)
      → Lead p (slots_before a ++ heading d a n) is → BodyHeld p (opened d n a) is
  opened_held d zero a p is h = closed_held a [] p is (subst (λ l. Lead p (slots_before a ++ l) is)
      (sym (append-nil (heading d a 0)) ∙ sym (list_slots d a [])) h)
  opened_held d (suc n) a p is h = let z : suc n ≡ 0 + suc n = omega arith in (
    subst (λ l. Lead p (slots_before a ++ l) is) (sym (append-nil (heading d a (suc n)))
        ∙ ap (λ k. heading d a k ++ []) z) h,
    headed_within d [] n a,
  )

  -- an item of this role goes on with the body
  abbrev MoreHeld : {whole : ℕ} → Point → Body whole → List Item → ℕ → List ℕ → Role → Type 0
  MoreHeld p b is n bytes r = Spells r n bytes → BodyHeld (moved p r n) (body_after (moved p r n) n b)
      (is ++ record { role = r; number = n; bytes = bytes } ∷ [])

  -- the body after one more item
  pub body_held : {whole : ℕ} (b : Body whole) (p : Point) (is : List Item) (r : Role) (n : ℕ) (bytes : List ℕ)
      → body_role b ≡ Some r → BodyHeld p b is → MoreHeld p b is n bytes r
  body_held (Want zero a) p is r n bytes e h = subst (MoreHeld p (Want 0 a) is n bytes) (sym (some_role X r e)) (λ s. (
    AreFields-append (steps origin (slots_before a)) is _ _ h.0.0 (
      refl,
      difference n _ _
          (ap (λ (q : Point). q.x +ℤ unzigzag_of n) h.0.1),
      s,
      tt,
    ),
    ap (λ (q : Point). q.y) h.0.1,
  ))
  body_held (Want (suc d) a) p is r n bytes e h =
      let c = Count (listed d) in
      subst (MoreHeld p (Want (suc d) a) is n bytes) (sym (some_role c r e))
      (λ s. opened_held d n a p _ (subst (λ l. Lead p (slots_before a ++ l)
      (is ++ record { role = c; number = n; bytes = bytes } ∷ [])) (sym (h.1 n)) (
        slots_more (slots_before a) (OfCount (listed d) n ∷ []) is _ h.0.0 (refl, refl, s, tt),
        h.0.1 ∙ sym (reached-append origin (slots_before a) (OfCount (listed d) n ∷ [])),
      )))
  body_held (WantY a) p is r n bytes e h =
      let q = moved p Y n in
      let before = slots_before a in
      let here = reached origin before in
      let x = (X, zigzag_of (p.x -ℤ here.x)) ∷ [] in
      let y = (Y, zigzag_of (q.y -ℤ here.y)) ∷ [] in
      subst (MoreHeld p (WantY a) is n bytes) (sym (some_role Y r e)) (λ s.
      let more = is ++ record { role = Y; number = n; bytes = bytes } ∷ [] in
      closed_held a q q more (subst (λ l. Lead q (before ++ l) more) (sym (point_slots a q)) (
        subst (λ fs. AreFields fs more)
            (append_assoc (steps origin before) x y ∙ sym (steps-append origin before (OfPoint q ∷ [])))
            (AreFields-append (steps origin before ++ x) is y _ h.0
            (refl, difference n _ _ (ap (λ y. y +ℤ unzigzag_of n) h.1), s, tt)),
        sym (reached-append origin before (OfPoint q ∷ [])),
      )))
  body_held (Done v) p is r n bytes e h = absurd cc

-- ==== The items of a whole body are those of a shape.

-- the slots before the values of the outermost list
abbrev pub first_of : BodyForm → Ids → ℕ → List Slot
first_of PointForm ids n = []
first_of LineForm ids n = OfCount Vertices n ∷ []
first_of PolygonForm ids n = OfCount Rings n ∷ []
first_of MultiPointForm ids n = OfCount Points n ∷ id_slots ids
first_of _ ids n = OfCount Components n ∷ id_slots ids

-- the first count of a multi type, and its ids, are what the metadata byte asks for
abbrev pub Counts : Head → BodyForm → Ids → ℕ → Type 0
Counts h PointForm ids n = ⊤
Counts h LineForm ids n = ⊤
Counts h PolygonForm ids n = ⊤
Counts h _ ids n = SaysIds h ids n × HasIds ids n

-- the first number of the items is such a number
abbrev pub Starts : (ℕ → Type 0) → List Item → Type 0
Starts P [] = (n : ℕ) → P n
Starts P (i ∷ is) = P i.number

-- the slots of a shape
pub shape_slots : (f : BodyForm) (ids : Ids) (v : Nested (depth_of f))
    → slots (shape_of f ids v) ≡ whole_slots (first_of f ids) (depth_of f) v
shape_slots PointForm ids p = refl
shape_slots LineForm ids ps = sym (run_slots ps)
shape_slots PolygonForm ids rings = sym (rings_slots rings)
shape_slots MultiPointForm ids ps = ap (λ l. OfCount Points (length ps) ∷ id_slots ids ++ l) (sym (points_slots ps))
shape_slots MultiLineForm ids ls = ap (λ l. OfCount Components (length ls) ∷ id_slots ids ++ l) (sym (runs_slots ls))
shape_slots MultiPolygonForm ids areas = ap (λ l. OfCount Components (length areas) ∷ id_slots ids ++ l)
    (sym (areas_slots areas))

counted_is : (P : ℕ → Type 0) (c : Counted) (n : ℕ) (fs : List Field) (is : List Item) → Starts P is
    → AreFields ((Count c, n) ∷ fs) is → P n
counted_is P c n fs [] s are = absurd are
counted_is P c n fs (i ∷ is) s are = subst P are.1 s

pub counted_from : (P : ℕ → Type 0) (c : Counted) (n : ℕ) (fs : List Field) (is : List Item) → P n
    → AreFields ((Count c, n) ∷ fs) is → Starts P is
counted_from P c n fs [] s are = absurd are
counted_from P c n fs (i ∷ is) s are = subst P (sym are.1) s

agrees_of : {A : Type 0} (h : Head) (ids : Ids) (xs : List A) → SaysIds h ids (length xs)
    → bit h.meta 4 ≡ false → Agrees (members ids xs) h.meta
agrees_of h ids [] says full = tt
agrees_of h None (x ∷ xs) says full = (full, says)
agrees_of h (Some ids) (x ∷ xs) says full = (full, says.0)

parts_agree : {A : Type 0} (xs : List A) (meta : ℕ) → bit meta 4 ≡ false → Agrees (parts xs) meta
parts_agree [] meta full = tt
parts_agree (x ∷ xs) meta full = full

pub shape_number : (f : BodyForm) (ids : Ids) (v : Nested (depth_of f))
    → kind_of (shape_of f ids v) ≡ kind_number (SimpleKind f)
shape_number PointForm ids v = refl
shape_number _ ids v = refl

pub shape_fits : (h : Head) (f : BodyForm) (ids : Ids) (v : Nested (depth_of f)) (body : List Item)
    → bit h.meta 4 ≡ false → Starts (Counts h f ids) body
    → AreFields (steps origin (whole_slots (first_of f ids) (depth_of f) v)) body
    → IdsFit (shape_of f ids v) × Agrees (flags (shape_of f ids v)) h.meta
shape_fits h PointForm ids p body full s are = (tt, full)
shape_fits h LineForm ids ps body full s are = (tt, parts_agree ps h.meta full)
shape_fits h PolygonForm ids rings body full s are = (tt, parts_agree rings h.meta full)
shape_fits h MultiPointForm ids vs body full s are = let c = counted_is _ _ _ _ body s are in
    (c.1, agrees_of h ids vs c.0 full)
shape_fits h MultiLineForm ids vs body full s are = let c = counted_is _ _ _ _ body s are in
    (c.1, agrees_of h ids vs c.0 full)
shape_fits h MultiPolygonForm ids vs body full s are = let c = counted_is _ _ _ _ body s are in
    (c.1, agrees_of h ids vs c.0 full)

reached_ids : (p : Point) (ids : List ℤ) → reached p (map OfId ids) ≡ p
reached_ids p [] = refl
reached_ids p (id ∷ ids) = reached_ids p ids

pub reached_names : (ids : Ids) → reached origin (id_slots ids) ≡ origin
reached_names None = refl
reached_names (Some ids) = reached_ids origin ids
