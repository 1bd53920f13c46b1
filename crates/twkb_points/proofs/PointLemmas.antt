-- Points one after the other: their coordinates, steps, differences and extents.
use Rattle.std.proofs.Common.{◌≡◌, ℕ, ◌+◌, ◌<◌, ℤ, List, [], ◌∷◌, ◌++◌, Option, None, Some, length, get_or, drop}
use Rattle.std.proofs.Common.{refl, sym, ◌∙◌, ap, arith, ◌+ℤ◌, ◌-ℤ◌, ◌≤ℤ◌, ◌⊎◌, inl, inr, subst, SFits, to_z, of_z}
use Rattle.std.proofs.Common.{w64, ◌≤◌, pos, negsuc, ◌-◌, ◌^◌, take, append_assoc, length-append, zero, suc, add-one}
use Rattle.std.proofs.lemmas.List.{at_drop_more, map-append, drop-drop, take_rest, length-take-le, take-append-drop}
use Rattle.std.proofs.lemmas.List.{length-take, take_more}
use Rattle.std.proofs.lemmas.Int.{ints, clamps, to_z-of_z}
use Rattle.std.specs.Int.{int_min, int_max}
use Rattle.twkb_points.specs.Point.{Point, IsCoordinate, IsInRange, moved_by, origin, AreInRange, IsShortStep}
use Rattle.twkb_points.specs.Point.{IsNearCoordinate, IsNear}
use Rattle.twkb_points.specs.Extent.{Extent, extent_of, joined, joined_options, extent, box_numbers, tight, xs, ys}
use Rattle.twkb_points.specs.Extent.{IsLeast, IsGreatest, IsExtentOf, IsBox}
use Rattle.std.specs.Prelude.{◌↔◌, slice_get}
use Rattle.std.specs.List.{All, Contains}
use Rattle.std.proofs.lemmas.List.Elements.{All-nil, All-cons, All-append, All-weaker, All-contains}
use Rattle.std.proofs.lemmas.List.Elements.{Contains-append_left, Contains-append_right}
use Rattle.std.proofs.lemmas.Grind.{common_steps}
use Rattle.std.proofs.Math.Seq.{take-append_seam, drop-append_seam}
use Rattle.std.proofs.lemmas.Option.{slice_get-get_or, slice_get_within}
use Rattle.twkb_num.specs.Alphabet.{five_unit}
use Rattle.twkb_num.specs.Block.{SignedInFront}
use Rattle.twkb_num.specs.Spelling.{shortest, zigzag_of}
use Rattle.twkb_num.specs.declared.four.Four.{Four}
use Rattle.twkb_points.specs.Steps.{TwoInFront, IsStepTo, AreStepsTo, character_step, last_of, differences_from}
use Rattle.twkb_points.specs.Steps.{differences, points_from, points_of, AreDifferences}

-- ==== The join of extents, and the extent of joined lists.

int_min_assoc : (x y z : ℤ) → int_min (int_min x y) z ≡ int_min x (int_min y z)
int_min_assoc x y z = grind (arith, ints)

int_max_assoc : (x y z : ℤ) → int_max (int_max x y) z ≡ int_max x (int_max y z)
int_max_assoc x y z = grind (arith, ints)

joined_assoc : (a b c : Extent) → joined (joined a b) c ≡ joined a (joined b c)
unfolding joined
joined_assoc a b c = λ i. record {
  least = record {
    x = int_min_assoc a.least.x b.least.x c.least.x i;
    y = int_min_assoc a.least.y b.least.y c.least.y i;
  };
  greatest = record {
    x = int_max_assoc a.greatest.x b.greatest.x c.greatest.x i;
    y = int_max_assoc a.greatest.y b.greatest.y c.greatest.y i;
  };
}

-- the join of extents is associative
pub joined_options_assoc : (a b c : Option Extent)
    → joined_options (joined_options a b) c ≡ joined_options a (joined_options b c)
joined_options_assoc (Some a) (Some b) (Some c) = ap Some (joined_assoc a b c)
joined_options_assoc _ _ _ = refl

-- joining with the extent of no points changes nothing
pub joined_options-none : (a : Option Extent) → joined_options a None ≡ a
joined_options-none None = refl
joined_options-none (Some a) = refl

-- the extent of two lists, one after the other, is the join of their extents
pub extent-append : (ps qs : List Point) → extent (ps ++ qs) ≡ joined_options (extent ps) (extent qs)
extent-append [] qs = refl
extent-append (p ∷ ps) qs = ap (joined_options (Some (extent_of p))) (extent-append ps qs)
    ∙ sym (joined_options_assoc (Some (extent_of p)) (extent ps) (extent qs))

-- the extent of two lists that have points
pub extent-append_some : (ps qs : List Point) (a b : Extent) → extent ps ≡ Some a
    → extent qs ≡ Some b → extent (ps ++ qs) ≡ Some (joined a b)
extent-append_some ps qs a b h k = extent-append ps qs ∙ (λ i. joined_options (h i) (k i))

-- the bounds of the first i points and of one more
pub extent-one_more : (ps : List Point) (i : ℕ) (p : Point) (so_far next : Extent) → i < length ps
    → p ≡ get_or ps i p → next ≡ joined so_far (extent_of p)
    → joined_options (Some next) (extent (drop (i + 1) ps)) ≡ joined_options (Some so_far) (extent (drop i ps))
extent-one_more ps i p so_far next h is e =
    let left = drop (i + 1) ps in
    ap (λ (a : Extent). joined_options (Some a) (extent left)) e
    ∙ joined_options_assoc (Some so_far) (Some (extent_of p)) (extent left)
    ∙ ap (λ (q : Point). joined_options (Some so_far) (extent (q ∷ left))) is
    ∙ sym (at_drop_more (λ l. joined_options (Some so_far) (extent l)) ps i p h)

pub ruleset extents = (joined_options_assoc, joined_options-none, extent-append)

-- ==== What extents and boxes say of the points.

-- ---- least and greatest numbers

int_min-one : (m n : ℤ) → (int_min m n ≡ m) ⊎ (int_min m n ≡ n)
int_min-one m n = grind (arith, ints)

int_max-one : (m n : ℤ) → (int_max m n ≡ m) ⊎ (int_max m n ≡ n)
int_max-one m n = grind (arith, ints)

le_both : (a b : ℤ) → a ≤ℤ b → b ≤ℤ a → a ≡ b
le_both a b h k = omega (arith, ints)

-- the edge of two lists: it is that of one of them, and bounds the numbers that their edges bound
edge-append : (Bounds : ℤ → ℤ → Type 0) (k m n : ℤ) (ms ns : List ℤ) → ((k ≡ m) ⊎ (k ≡ n))
    → ((l : ℤ) → Bounds m l → Bounds k l) → ((l : ℤ) → Bounds n l → Bounds k l)
    → Contains ms m × All (Bounds m) ms → Contains ns n × All (Bounds n) ns
    → Contains (ms ++ ns) k × All (Bounds k) (ms ++ ns)
edge-append Bounds k m n ms ns one left right a b = (
  elim one [
    | inl e ↦ subst (Contains (ms ++ ns)) (sym e) (Contains-append_left ms ns m a.0)
    | inr e ↦ subst (Contains (ms ++ ns)) (sym e) (Contains-append_right ms ns n b.0)
  ],
  All-append (Bounds k) ms ns (All-weaker (Bounds m) (Bounds k) left ms a.1)
      (All-weaker (Bounds n) (Bounds k) right ns b.1),
)

IsLeast-append : (m n : ℤ) (ms ns : List ℤ) → IsLeast m ms → IsLeast n ns → IsLeast (int_min m n) (ms ++ ns)
IsLeast-append m n ms ns a b =
    let edge = edge-append (λ k l. k ≤ℤ l) (int_min m n) m n ms ns (int_min-one m n)
    (λ l h. omega (arith, ints, clamps)) (λ l h. omega (arith, ints, clamps))
    (a.reached, a.bound) (b.reached, b.bound) in
    record { reached = edge.0; bound = edge.1 }

IsGreatest-append : (m n : ℤ) (ms ns : List ℤ) → IsGreatest m ms → IsGreatest n ns → IsGreatest (int_max m n) (ms ++ ns)
IsGreatest-append m n ms ns a b =
    let edge = edge-append (λ k l. l ≤ℤ k) (int_max m n) m n ms ns (int_max-one m n)
    (λ l h. omega (arith, ints, clamps)) (λ l h. omega (arith, ints, clamps))
    (a.reached, a.bound) (b.reached, b.bound) in
    record { reached = edge.0; bound = edge.1 }

IsLeast-one : (m n : ℤ) (ns : List ℤ) → IsLeast m ns → IsLeast n ns → m ≡ n
IsLeast-one m n ns a b =
    le_both m n (All-contains (λ k. m ≤ℤ k) ns n a.bound b.reached) (All-contains (λ k. n ≤ℤ k) ns m b.bound a.reached)

IsGreatest-one : (m n : ℤ) (ns : List ℤ) → IsGreatest m ns → IsGreatest n ns → m ≡ n
IsGreatest-one m n ns a b =
    le_both m n (All-contains (λ k. k ≤ℤ n) ns m b.bound a.reached) (All-contains (λ k. k ≤ℤ m) ns n a.bound b.reached)

IsLeast-alone : (n : ℤ) → IsLeast n (n ∷ [])
IsLeast-alone n = record {
  reached = (0, omega arith, refl);
  bound = All-cons (λ k. n ≤ℤ k) n [] (omega (arith, ints)) (All-nil (λ k. n ≤ℤ k));
}

IsGreatest-alone : (n : ℤ) → IsGreatest n (n ∷ [])
IsGreatest-alone n = record {
  reached = (0, omega arith, refl);
  bound = All-cons (λ k. k ≤ℤ n) n [] (omega (arith, ints)) (All-nil (λ k. k ≤ℤ n));
}

IsLeast-none : (n : ℤ) → IsLeast n [] → ⊥
IsLeast-none n a = omega (arith, a.reached.1)

-- ---- extents

pub IsExtentOf-joined : (a b : Extent) (ps qs : List Point) → IsExtentOf a ps → IsExtentOf b qs
    → IsExtentOf (joined a b) (ps ++ qs)
unfolding joined
IsExtentOf-joined a b ps qs s t = record {
  least_x = subst (IsLeast (int_min a.least.x b.least.x))
      (sym (map-append (λ (p : Point). p.x) ps qs))
      (IsLeast-append a.least.x b.least.x (xs ps) (xs qs) s.least_x t.least_x);
  greatest_x = subst (IsGreatest (int_max a.greatest.x b.greatest.x))
      (sym (map-append (λ (p : Point). p.x) ps qs))
      (IsGreatest-append a.greatest.x b.greatest.x (xs ps) (xs qs) s.greatest_x t.greatest_x);
  least_y = subst (IsLeast (int_min a.least.y b.least.y))
      (sym (map-append (λ (p : Point). p.y) ps qs))
      (IsLeast-append a.least.y b.least.y (ys ps) (ys qs) s.least_y t.least_y);
  greatest_y = subst (IsGreatest (int_max a.greatest.y b.greatest.y))
      (sym (map-append (λ (p : Point). p.y) ps qs))
      (IsGreatest-append a.greatest.y b.greatest.y (ys ps) (ys qs) s.greatest_y t.greatest_y);
}

pub IsExtentOf-extent_of : (p : Point) → IsExtentOf (extent_of p) (p ∷ [])
IsExtentOf-extent_of p = record {
  least_x = IsLeast-alone p.x;
  greatest_x = IsGreatest-alone p.x;
  least_y = IsLeast-alone p.y;
  greatest_y = IsGreatest-alone p.y;
}

IsExtentOf-one : (a b : Extent) (ps : List Point) → IsExtentOf a ps → IsExtentOf b ps → a ≡ b
IsExtentOf-one a b ps s t = λ i. record {
  least = record {
    x = IsLeast-one a.least.x b.least.x (xs ps) s.least_x t.least_x i;
    y = IsLeast-one a.least.y b.least.y (ys ps) s.least_y t.least_y i;
  };
  greatest = record {
    x = IsGreatest-one a.greatest.x b.greatest.x (xs ps) s.greatest_x t.greatest_x
        i;
    y = IsGreatest-one a.greatest.y b.greatest.y (ys ps) s.greatest_y t.greatest_y i;
  };
}

-- the extent of at least one point spans the points
spanned : (p : Point) (ps : List Point) → (e : Extent) × (extent (p ∷ ps) ≡ Some e) × IsExtentOf e (p ∷ ps)
spanned p [] = (extent_of p, refl, IsExtentOf-extent_of p)
spanned p (q ∷ qs) =
    let r = spanned q qs in (
      joined (extent_of p) r.0,
      ap (joined_options (Some (extent_of p))) r.1,
      IsExtentOf-joined (extent_of p) r.0 (p ∷ []) (q ∷ qs) (IsExtentOf-extent_of p) r.2,
    )

-- the extent of a list is the one extent that spans it
pub extent_is : (ps : List Point) (e : Extent) → (extent ps ≡ Some e) ↔ IsExtentOf e ps
extent_is [] e = ((λ h. cc), (λ s. absurd (IsLeast-none e.least.x s.least_x)))
extent_is (p ∷ ps) e =
    let r = spanned p ps in (
      (λ h. let same : r.0 ≡ e = cc in subst (λ (a : Extent). IsExtentOf a (p ∷ ps)) same r.2),
      (λ s. r.1 ∙ ap Some (IsExtentOf-one r.0 e (p ∷ ps) r.2 s)),
    )

-- ---- boxes

pub tight-extent : (ps : List Point) (e : Extent) → extent ps ≡ Some e → box_numbers e ≡ tight ps
tight-extent ps e h = sym (ap (λ (o : Option Extent). elim o [ None ↦ [] | Some a ↦ box_numbers a ]) h)

IsBox-numbers : (ps : List Point) (e : Extent) (x width y height : ℤ) → IsExtentOf e ps
    → box_numbers e ≡ x ∷ width ∷ y ∷ height ∷ [] → IsBox ps x width y height
IsBox-numbers ps e x width y height s h =
    let x_is : e.least.x ≡ x = cc in
    let y_is : e.least.y ≡ y = cc in
    let width_is : e.greatest.x -ℤ e.least.x ≡ width = cc in
    let height_is : e.greatest.y -ℤ e.least.y ≡ height = cc in
    record {
      least_x = subst (λ (n : ℤ). IsLeast n (xs ps)) x_is s.least_x;
      greatest_x = subst (λ (n : ℤ). IsGreatest n (xs ps)) (omega (arith, ints)) s.greatest_x;
      least_y = subst (λ (n : ℤ). IsLeast n (ys ps)) y_is s.least_y;
      greatest_y = subst (λ (n : ℤ). IsGreatest n (ys ps)) (omega (arith, ints)) s.greatest_y;
    }

less_least : (least width : ℤ) → (least +ℤ width) -ℤ least ≡ width
less_least least width = omega (arith, ints)

-- the box numbers of a list are those of the box that bounds it and is reached on each side
pub tight_is : (ps : List Point) (x width y height : ℤ) → (tight ps ≡ x ∷ width ∷ y ∷ height ∷ [])
    ↔ IsBox ps x width y height
tight_is ps x width y height = (there ps, back)
  where
    there : (qs : List Point) → tight qs ≡ x ∷ width ∷ y ∷ height ∷ [] → IsBox qs x width y height
    there [] h = cc
    there (p ∷ qs) h =
        let r = spanned p qs in
        IsBox-numbers (p ∷ qs) r.0 x width y height r.2 (tight-extent (p ∷ qs) r.0 r.1 ∙ h)

    back : IsBox ps x width y height → tight ps ≡ x ∷ width ∷ y ∷ height ∷ []
    back b =
        let e : Extent = record {
          least = record { x = x; y = y };
          greatest = record { x = x +ℤ width; y = y +ℤ height };
        } in
        let s : IsExtentOf e ps = record {
          least_x = b.least_x;
          greatest_x = b.greatest_x;
          least_y = b.least_y;
          greatest_y = b.greatest_y;
        } in
        sym (tight-extent ps e ((extent_is ps e).1 s))
        ∙ (λ i. x ∷ less_least x width i ∷ y ∷ less_least y height i ∷ [])

-- ==== Coordinates as numbers of 64 bits.

-- a coordinate fits 64 bits
pub coordinate_fits : (n : ℤ) → IsCoordinate n → SFits w64 n
coordinate_fits n inside = grind (arith, common_steps)

-- the sum of two coordinates fits 64 bits
near_fits : (m n : ℤ) → IsCoordinate m → IsCoordinate n → SFits w64 (m +ℤ n)
near_fits m n inside near = grind (arith, common_steps)

-- the sum of two coordinates is computed without a wrap
pub near_sum : (k m n : ℤ) → k ≡ m → IsCoordinate m → IsCoordinate n
    → to_z w64 (of_z w64 (to_z w64 (of_z w64 k) +ℤ to_z w64 (of_z w64 n))) ≡ m +ℤ n
near_sum k m n same inside near =
    rw same (simp (
      to_z-of_z w64 m (coordinate_fits m inside),
      to_z-of_z w64 n (coordinate_fits n near),
      to_z-of_z w64 (m +ℤ n)
          (near_fits m n inside near),
    ))

-- ==== Short steps from an inner point stay near it and in range.

-- ---- along an axis

-- a coordinate near by n steps is near by any larger number of steps
further : (n m : ℕ) (x : ℤ) → n ≤ m → IsNearCoordinate n x → IsNearCoordinate m x
further n m x more near = (omega (arith, ints, near.0, more), omega (arith, ints, near.1, more))

-- one short step makes a coordinate near by one step more
one_further : (n : ℕ) (x d : ℤ) → IsNearCoordinate n x → IsShortStep d → IsNearCoordinate (n + 1) (x +ℤ d)
one_further n x d near short = (omega (arith, ints, near.0, short.0), omega (arith, ints, near.1, short.1))

-- a coordinate near by eight steps is in range
in_range : (x : ℤ) → IsNearCoordinate 8 x → IsCoordinate x
in_range x near = (omega (arith, ints, near.0), omega (arith, ints, near.1))

-- ---- along both

-- a point near by n steps is near by any larger number of steps
pub near_further : (n m : ℕ) (p : Point) → n ≤ m → IsNear n p → IsNear m p
near_further n m p more near = (further n m p.x more near.0, further n m p.y more near.1)

-- one short step makes a point near by one step more
pub near_moved : (n : ℕ) (p : Point) (dx dy : ℤ) → IsNear n p → IsShortStep dx → IsShortStep dy
    → IsNear (n + 1) (moved_by p dx dy)
near_moved n p dx dy near x_short y_short = (one_further n p.x dx near.0 x_short, one_further n p.y dy near.1 y_short)

-- a point near by at most eight steps is in range
pub near_in_range : (n : ℕ) (p : Point) → n ≤ 8 → IsNear n p → IsInRange p
near_in_range n p few near = (in_range p.x (further n 8 p.x few near.0), in_range p.y (further n 8 p.y few near.1))

-- a short step from a point near by at most seven leads to a point in range
pub step_in_range : (n : ℕ) (p : Point) (dx dy : ℤ) → n < 8 → IsNear n p → IsShortStep dx → IsShortStep dy
    → IsInRange (moved_by p dx dy)
step_in_range n p dx dy few near x_short y_short =
    near_in_range (n + 1) _ (omega (arith, few)) (near_moved n p dx dy near x_short y_short)

-- and to one near by one step more
pub step_near : (n : ℕ) (p to : Point) (dx dy : ℤ) → IsNear n p → IsShortStep dx → IsShortStep dy
    → to ≡ moved_by p dx dy → IsNear (n + 1) to
step_near n p to dx dy near x_short y_short leads =
    subst (IsNear (n + 1)) (sym leads) (near_moved n p dx dy near x_short y_short)

-- ==== Steps at the start of bytes, two after two.

-- a short step is in the range of a coordinate
pub short_is_near : (d : ℤ) → IsShortStep d → IsCoordinate d
short_is_near d short = (omega (arith, ints, short.0), omega (arith, ints, short.1))

-- a number whose zigzag form has at most 28 bits is a short step
form_is_short : (d : ℤ) → zigzag_of d < 2 ^ 28 → IsShortStep d
form_is_short (pos n) small = (omega (arith, ints, small), omega (arith, ints, small))
form_is_short (negsuc n) small = (omega (arith, ints, small), omega (arith, ints, small))

-- four numbers in characters are two steps, y before x
pub characters_in_front : (bytes : List ℕ) (f : Four) → SignedInFront five_unit 32 bytes f
    → TwoInFront character_step bytes f.second f.first f.fourth f.third f.used
characters_in_front bytes f found =
    let spelling = λ (d : ℤ). shortest five_unit 32 (zigzag_of d) in
    record {
      within = found.within;
      spelled = found.spelled
          ∙ sym (append_assoc (spelling f.first) (spelling f.second) (spelling f.third ++ spelling f.fourth));
      dx_short = form_is_short f.second found.second_small;
      dy_short = form_is_short f.first found.first_small;
      ex_short = form_is_short f.fourth found.fourth_small;
      ey_short = form_is_short f.third found.third_small;
    }

-- two steps lead to two points
pub two_led : {bytes_of : ℤ → ℤ → List ℕ} {bytes : List ℕ} {dx dy ex ey : ℤ} {count : ℕ} (from p q : Point)
    → TwoInFront bytes_of bytes dx dy ex ey count → p ≡ moved_by from dx dy → IsInRange p
    → q ≡ moved_by p ex ey → IsInRange q → AreStepsTo bytes_of from bytes (p ∷ q ∷ []) count
two_led {bytes_of = bytes_of} {bytes = bytes} {dx = dx} {dy = dy} {ex = ex} {ey = ey} {count = count} from p q
    two to_p p_kept to_q q_kept =
    let first : List ℕ = bytes_of dx dy in
    let next : List ℕ = bytes_of ex ey in
    let rest : List ℕ = drop count bytes in
    let whole : first ++ (next ++ rest) ≡ bytes = sym (append_assoc first next rest)
    ∙ (ap (λ l. l ++ rest) (sym two.spelled) ∙ take-append-drop count bytes) in
    let after : drop (length first) bytes ≡ next ++ rest =
    ap (drop (length first)) (sym whole) ∙ drop-append_seam first (next ++ rest) in
    let all : count ≡ length first + length next =
    sym (length-take-le count bytes two.within) ∙ (ap length two.spelled ∙ length-append first next) in
    let long : length bytes ≡ length first + length (next ++ rest) =
    ap length (sym whole) ∙ length-append first (next ++ rest) in
    let there : IsStepTo bytes_of from bytes p (length first) = record {
      dx = dx;
      dy = dy;
      within = omega (arith, long);
      spelled = ap (take (length first)) (sym whole) ∙ take-append_seam first (next ++ rest);
      dx_short = two.dx_short;
      dy_short = two.dy_short;
      leads = to_p;
      kept = p_kept;
    } in
    let on : IsStepTo bytes_of p (drop (length first) bytes) q (length next) = record {
      dx = ex;
      dy = ey;
      within = omega (arith, ap length after, length-append next rest);
      spelled = ap (take (length next)) after ∙ take-append_seam next rest;
      dx_short = two.ex_short;
      dy_short = two.ey_short;
      leads = to_q;
      kept = q_kept;
    } in
    (length first, length next, all, there, (length next, 0, omega arith, on, refl))

-- and if the first point is near, no test of the range is needed
pub two_near : {bytes_of : ℤ → ℤ → List ℕ} {bytes : List ℕ} {dx dy ex ey : ℤ} {count : ℕ} (from p q : Point)
    → TwoInFront bytes_of bytes dx dy ex ey count → IsNear 6 from → p ≡ moved_by from dx dy
    → q ≡ moved_by p ex ey → AreStepsTo bytes_of from bytes (p ∷ q ∷ []) count
two_near from p q two near to_p to_q =
    let one = step_near 6 from p _ _ near two.dx_short two.dy_short to_p in
    let next = step_near 7 p q _ _ one two.ex_short two.ey_short to_q in
    two_led from p q two to_p (near_in_range 7 p (omega arith) one) to_q (near_in_range 8 q (omega arith) next)

-- the second step leads to a point in range
pub second_kept : {bytes_of : ℤ → ℤ → List ℕ} {bytes : List ℕ} {dx dy ex ey : ℤ} {count : ℕ} (from p : Point)
    → TwoInFront bytes_of bytes dx dy ex ey count → IsNear 6 from → p ≡ moved_by from dx dy
    → IsInRange (moved_by p ex ey)
second_kept {ex = ex} {ey = ey} from p two near to_p =
    step_in_range 7 p ex ey (omega arith) (step_near 6 from p _ _ near two.dx_short two.dy_short to_p)
    two.ex_short two.ey_short

-- two short steps from a near point lead to a point near by two steps more
pub two_further : {bytes_of : ℤ → ℤ → List ℕ} {bytes : List ℕ} {dx dy ex ey : ℤ} {count : ℕ} (n : ℕ)
    (from p q : Point) → TwoInFront bytes_of bytes dx dy ex ey count → IsNear n from → p ≡ moved_by from dx dy
    → q ≡ moved_by p ex ey → IsNear (n + 2) q
two_further n from p q two near to_p to_q =
    let one = step_near n from p _ _ near two.dx_short two.dy_short to_p in
    near_further (n + 1 + 1) (n + 2) q (omega arith) (step_near (n + 1) p q _ _ one two.ex_short two.ey_short to_q)

module _ (bytes_of : ℤ → ℤ → List ℕ) where
  -- some points, and others after them
  pub steps_on : (ps qs : List Point) (from : Point) (bytes : List ℕ) (n m : ℕ)
      → AreStepsTo bytes_of from bytes ps n → AreStepsTo bytes_of (last_of from ps) (drop n bytes) qs m
      → AreStepsTo bytes_of from bytes (ps ++ qs) (n + m)
  steps_on [] qs from bytes n m none others =
      let total : m ≡ n + m = omega (arith, none) in
      subst (λ k. AreStepsTo bytes_of from bytes qs k) total
      (subst (λ k. AreStepsTo bytes_of from (drop k bytes) qs m) none others)
  steps_on (p ∷ ps) qs from bytes n m (first, rest, all, there, on) others =
      let after : drop n bytes ≡ drop rest (drop first bytes) =
      ap (λ k. drop k bytes) all ∙ sym (drop-drop rest first bytes) in (
        first,
        rest + m,
        omega (arith, all),
        there,
        steps_on ps qs p (drop first bytes) rest m on
            (subst (λ l. AreStepsTo bytes_of (last_of p ps) l qs m) after others),
      )

  -- points of a slice
  in_slice : (ps : List Point) (from : Point) (bytes : List ℕ) (i n : ℕ)
      → AreStepsTo bytes_of from (take (length bytes - i) (drop i bytes)) ps n
      → AreStepsTo bytes_of from (drop i bytes) ps n
  in_slice ps from bytes i n steps = subst (λ l. AreStepsTo bytes_of from l ps n) (take_rest bytes i) steps

  -- four times two points are eight
  pub eight_led : (from a b c d e f g h : Point) (bytes : List ℕ) (i j k l : ℕ)
      → AreStepsTo bytes_of from bytes (a ∷ b ∷ []) i
      → AreStepsTo bytes_of b (take (length bytes - i) (drop i bytes)) (c ∷ d ∷ []) j
      → AreStepsTo bytes_of d (take (length bytes - (i + j)) (drop (i + j) bytes)) (e ∷ f ∷ []) k
      → AreStepsTo bytes_of f (take (length bytes - (i + j + k)) (drop (i + j + k) bytes)) (g ∷ h ∷ []) l
      → AreStepsTo bytes_of from bytes (a ∷ b ∷ c ∷ d ∷ e ∷ f ∷ g ∷ h ∷ []) (i + j + k + l)
  eight_led from a b c d e f g h bytes i j k l first second third fourth =
      steps_on (a ∷ b ∷ c ∷ d ∷ e ∷ f ∷ []) (g ∷ h ∷ []) from bytes (i + j + k) l
      (steps_on (a ∷ b ∷ c ∷ d ∷ []) (e ∷ f ∷ []) from bytes (i + j) k
      (steps_on (a ∷ b ∷ []) (c ∷ d ∷ []) from bytes i j first (in_slice (c ∷ d ∷ []) b bytes i j second))
      (in_slice (e ∷ f ∷ []) d bytes (i + j) k third))
      (in_slice (g ∷ h ∷ []) f bytes (i + j + k) l fourth)

-- ==== A list of points gives its list of differences, and that gives the points.

add_difference : (a b : ℤ) → a +ℤ (b -ℤ a) ≡ b
add_difference a b = omega (arith, ints)

less_before : (a d : ℤ) → (a +ℤ d) -ℤ a ≡ d
less_before a d = omega (arith, ints)

less_zero : (a : ℤ) → a -ℤ pos 0 ≡ a
less_zero a = omega (arith, ints)

-- p moved by the difference from p to q is q
moved_by-difference : (p q : Point) → moved_by p (q.x -ℤ p.x) (q.y -ℤ p.y) ≡ q
moved_by-difference p q = λ i. record { x = add_difference p.x q.x i; y = add_difference p.y q.y i }

points_from-differences_from : (p : Point) (qs : List Point) → points_from p (differences_from p qs) ≡ qs
points_from-differences_from p [] = refl
points_from-differences_from p (q ∷ qs) =
    ap (λ (r : Point). r ∷ points_from r (differences_from q qs)) (moved_by-difference p q)
    ∙ ap (λ (rs : List Point). q ∷ rs) (points_from-differences_from q qs)

differences_from-points_from : (p : Point) (ds : List (ℤ × ℤ)) → differences_from p (points_from p ds) ≡ ds
differences_from-points_from p [] = refl
differences_from-points_from p (d ∷ ds) =
    let first : ((p.x +ℤ d.0) -ℤ p.x, (p.y +ℤ d.1) -ℤ p.y) ≡ d = λ i. (less_before p.x d.0 i, less_before p.y d.1 i) in
    ap (λ (e : ℤ × ℤ). e ∷ differences_from (moved_by p d.0 d.1) (points_from (moved_by p d.0 d.1) ds)) first
    ∙ ap (λ (es : List (ℤ × ℤ)). d ∷ es) (differences_from-points_from (moved_by p d.0 d.1) ds)

-- the points of the differences of some points are those points
pub points_of-differences : (ps : List Point) → points_of (differences ps) ≡ ps
points_of-differences ps = points_from-differences_from origin ps

-- the differences of the points of some differences are those differences
pub differences-points_of : (ds : List (ℤ × ℤ)) → differences (points_of ds) ≡ ds
differences-points_of ds = differences_from-points_from origin ds

-- no two lists of points have the same differences
pub differences_one : (ps qs : List Point) → differences ps ≡ differences qs → ps ≡ qs
differences_one ps qs e = sym (points_of-differences ps) ∙ ap points_of e ∙ points_of-differences qs

-- ---- place by place

length-differences_from : (p : Point) (qs : List Point) → length (differences_from p qs) ≡ length qs
length-differences_from p [] = refl
length-differences_from p (q ∷ qs) = ap suc (length-differences_from q qs)

later_from : (r : Point) (ps : List Point) (i : ℕ) (p q : Point) → slice_get ps i ≡ Some p
    → slice_get ps (suc i) ≡ Some q
    → slice_get (differences_from r ps) (suc i) ≡ Some (q.x -ℤ p.x, q.y -ℤ p.y)
later_from r [] i p q a b = cc
later_from r (s ∷ []) zero p q a b = cc
later_from r (s ∷ t ∷ ps) zero p q a b =
    let e : s ≡ p = cc in
    let f : t ≡ q = cc in
    ap (λ (z : Point). Some (t.x -ℤ z.x, t.y -ℤ z.y)) e ∙ ap (λ (z : Point). Some (z.x -ℤ p.x, z.y -ℤ p.y)) f
later_from r (s ∷ ps) (suc i) p q a b = later_from s ps i p q a b

first_from : (ps : List Point) (p : Point) → slice_get ps 0 ≡ Some p → slice_get (differences ps) 0 ≡ Some (p.x, p.y)
first_from [] p e = cc
first_from (s ∷ ps) p e =
    let f : s ≡ p = cc in
    ap (λ (z : Point). Some (z.x -ℤ pos 0, z.y -ℤ pos 0)) f ∙ (λ i. Some (less_zero p.x i, less_zero p.y i))

pub AreDifferences-differences : (ps : List Point) → AreDifferences ps (differences ps)
AreDifferences-differences ps = record {
  as_many = length-differences_from origin ps;
  first = first_from ps;
  later = λ i p q a b.
      let next = subst (λ (n : ℕ). slice_get ps n ≡ Some q) (add-one i) b in
      subst (λ (n : ℕ). slice_get (differences ps) n ≡ Some (q.x -ℤ p.x, q.y -ℤ p.y))
      (sym (add-one i)) (later_from origin ps i p q a next);
}

same_at : (ps : List Point) (ds es : List (ℤ × ℤ)) → AreDifferences ps ds → AreDifferences ps es
    → (i : ℕ) → i < length ds → slice_get ds i ≡ slice_get es i
same_at [] ds es a b i h = absurd (omega (arith, a.as_many))
same_at (s ∷ ps) ds es a b zero h = a.first s refl ∙ sym (b.first s refl)
same_at (s ∷ ps) ds es a b (suc i) h =
    let p = get_or (s ∷ ps) i s in
    let q = get_or (s ∷ ps) (i + 1) s in
    let as_many = a.as_many in
    let p_is = slice_get-get_or (s ∷ ps) i s (omega arith) in
    let q_is = slice_get-get_or (s ∷ ps) (i + 1) s (omega arith) in
    subst (λ (n : ℕ). slice_get ds n ≡ slice_get es n) (add-one i) (a.later i p q p_is q_is
    ∙ sym (b.later i p q p_is q_is))

same_lists : (ds es : List (ℤ × ℤ)) → length ds ≡ length es
    → ((i : ℕ) → i < length ds → slice_get ds i ≡ slice_get es i) → ds ≡ es
same_lists [] [] l same = refl
same_lists (d ∷ ds) (e ∷ es) l same =
    let head : Some d ≡ Some e = same 0 (omega arith) in
    let first : d ≡ e = cc in
    let rest = same_lists ds es (omega arith) (λ i h. same (suc i) (omega arith)) in
    λ i. first i ∷ rest i
same_lists _ _ l same = absurd (omega arith)

-- a list holds the differences place by place exactly if it is the list of differences
pub differences_is : (ps : List Point) (ds : List (ℤ × ℤ)) → (ds ≡ differences ps) ↔ AreDifferences ps ds
differences_is ps ds = (
  (λ e. subst (AreDifferences ps) (sym e) (AreDifferences-differences ps)),
  (λ a. let b = AreDifferences-differences ps in
      same_lists ds (differences ps) (a.as_many ∙ sym b.as_many) (same_at ps ds (differences ps) a b)),
)

-- ---- the points of a list of differences, one by one

pub length-points_from : (p : Point) (ds : List (ℤ × ℤ)) → length (points_from p ds) ≡ length ds
length-points_from p [] = refl
length-points_from p (d ∷ ds) = ap suc (length-points_from (moved_by p d.0 d.1) ds)

AreInRange-slice_get : (ps : List Point) (i : ℕ) (p : Point) → AreInRange ps → slice_get ps i ≡ Some p → IsInRange p
AreInRange-slice_get [] i p a e = cc
AreInRange-slice_get (q ∷ ps) zero p a e = let same : q ≡ p = cc in subst IsInRange same a.0
AreInRange-slice_get (q ∷ ps) (suc i) p a e = AreInRange-slice_get ps i p a.1 e

slice_get-after : (ps qs : List Point) (q : Point) (n : ℕ) → length ps ≡ n → slice_get (ps ++ q ∷ qs) n ≡ Some q
slice_get-after [] qs q zero e = refl
slice_get-after (p ∷ ps) qs q (suc n) e = slice_get-after ps qs q n (omega arith)
slice_get-after _ qs q _ e = absurd (omega arith)

-- after the points of the first i differences, the next point is that of difference i
pub next_point : (ds : List (ℤ × ℤ)) (ps : List Point) (at : Point) (i : ℕ) (none : ℤ × ℤ)
    → i < length ds → length ps ≡ length ds
    → take i ps ++ points_from at (drop i ds) ≡ points_of ds
    → slice_get (points_of ds) i ≡ Some (moved_by at (get_or ds i none).0 (get_or ds i none).1)
next_point ds ps at i none h l e =
    let d = get_or ds i none in
    let left = points_from (moved_by at d.0 d.1) (drop (i + 1) ds) in
    ap (λ (qs : List Point). slice_get qs i) (sym e)
    ∙ ap (λ (qs : List Point). slice_get (take i ps ++ qs) i) (at_drop_more (λ es. points_from at es) ds i none h)
    ∙ slice_get-after (take i ps) left (moved_by at d.0 d.1) i (rw (length-take i ps) (omega arith))

-- there is no point past the last difference
pub no_next_point : (ds : List (ℤ × ℤ)) (p : Point) → slice_get (points_of ds) (length ds) ≡ Some p → ⊥
no_next_point ds p e = omega (arith, slice_get_within (points_of ds) (length ds) p e, length-points_from origin ds)

-- the differences of points in range lead only to points in range
pub in_range_again : (ps : List Point) (ds : List (ℤ × ℤ)) (i : ℕ) (p : Point) → AreInRange ps
    → ds ≡ differences ps → slice_get (points_of ds) i ≡ Some p → IsInRange p
in_range_again ps ds i p a e at =
    AreInRange-slice_get ps i p a (ap (λ (qs : List Point). slice_get qs i)
    (sym (ap points_of e ∙ points_of-differences ps)) ∙ at)

-- ==== Points appended one by one.

-- after the first points of a list the next one was appended
pub put_more : (xs old now new : List Point) (i : ℕ) (p : Point) → i < length xs → now ≡ old ++ take i xs
    → p ≡ get_or xs i origin → new ≡ now ++ p ∷ [] → new ≡ old ++ take (i + 1) xs
put_more xs old now new i p within so_far is more =
    more ∙ ap (λ (ys : List Point). ys ++ p ∷ []) so_far ∙ append_assoc old (take i xs) (p ∷ [])
    ∙ ap (λ (q : Point). old ++ (take i xs ++ q ∷ [])) is
    ∙ ap (λ (ys : List Point). old ++ ys) (sym (take_more xs i origin within))
