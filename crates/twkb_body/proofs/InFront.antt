-- Numbers and points at the start of bytes: cut, too long, or complete.
use Rattle.std.proofs.Common.{◌≡◌, ℕ, ◌<◌, ◌^◌, pos, negsuc, sym, ap, ◌∙◌, arith, true, ◌+◌, ◌-◌, ◌≤◌, List, ◌++◌}
use Rattle.std.proofs.Common.{length, take, drop, subst, append_assoc, [], ◌∷◌, refl, length-append, Some, None}
use Rattle.std.specs.Prelude.{ℤ, ◌+ℤ◌, Option, IsSome, IfSome, ◌↔◌}
use Rattle.std.proofs.lemmas.Int.{ints}
use Rattle.twkb_points.specs.declared.point.TheConstants.{COORDINATE_BOUND}
use Rattle.twkb_points.specs.Point.{IsCoordinate, Point, point_at, IsInRange, moved_by, IsShortStep, origin}
use Rattle.twkb_num.specs.Spelling.{zigzag_of, unzigzag_of, IsOpen}
use Rattle.twkb_num.proofs.ZigzagLemmas.{unzigzag_of-zigzag_of}
use Rattle.std.proofs.lemmas.Bool.Decides.{nat_tests}
use Rattle.std.proofs.Math.Seq.{take-add, take-append_seam}
use Rattle.std.proofs.lemmas.List.{length-drop, take_rest, length-take-le}
use Rattle.twkb_num.specs.Alphabet.{leb_unit, leb_group}
use Rattle.twkb_num.specs.Answer.{IsAnswer}
use Rattle.twkb_num.specs.declared.partial.Step.TheVariants.{TooLong}
use Rattle.twkb_num.specs.Varint.{IsVarint, varint_of}
use Rattle.twkb_num.proofs.VarintLemmas.{open_varint_is, too_long_is, IsVarint-varint_of, some_byte}
use Rattle.twkb_points.specs.Steps.{AreStepsTo, IsStepTo, varint_step}
use Rattle.twkb_grammar.specs.Reading.{in_range}
use Rattle.twkb_grammar.specs.Fault.{IsCut, IsTooLong}
use Rattle.twkb_grammar.proofs.Stepping.{in_range_true}
use Rattle.twkb_body.specs.Front.{NumberInFront, PointInFront, StepsTo, PointsInFront, PointHeader, WholePoint}
use Rattle.twkb_body.specs.Reading.{Pair}

-- ==== Numbers in zigzag form.

-- a number that has this zigzag form is the number of the form
pub unzigzag_back : (z : ℤ) (n : ℕ) → zigzag_of z ≡ n → unzigzag_of n ≡ z
unzigzag_back z n e = ap unzigzag_of (sym e) ∙ unzigzag_of-zigzag_of z

-- a small form is that of a small number
pub small_step : (z : ℤ) → zigzag_of z < 2 ^ 35 → IsCoordinate z
small_step (pos k) h =
    let low : k < COORDINATE_BOUND = omega (arith, h) in (omega (arith, ints), omega (arith, ints, low))
small_step (negsuc k) h =
    let low : k < COORDINATE_BOUND = omega (arith, h) in (omega (arith, ints, low), omega (arith, ints))

-- ==== Coordinates in the code.

-- a coordinate passes
pub passes : (z : ℤ) → IsCoordinate z → in_range z ≡ true
passes (pos n) h = let low : n < COORDINATE_BOUND = omega (arith, ints, h.1) in grind (arith, nat_tests)
passes (negsuc n) h = let low : n < COORDINATE_BOUND = omega (arith, ints, h.0) in grind (arith, nat_tests)

-- a number that passes is a coordinate, too
pub ruleset ranges = (in_range_true, passes)

-- ==== The rest of a piece after the bytes that were used.

-- a prefix of the rest, after the bytes used, is a prefix of the piece
pub used_join : (piece : List ℕ) (used count : ℕ) → take (used + count) piece ≡ take used piece
    ++ take count (take (length piece - used) (drop used piece))
used_join piece used count = take-add used count piece
    ∙ ap (λ l. take used piece ++ take count l) (sym (take_rest piece used))

-- a prefix of the rest, after the bytes used and the bytes before the piece
pub one_front : (bs piece : List ℕ) (used count : ℕ)
    → (bs ++ take used piece) ++ take count (take (length piece - used) (drop used piece)) ≡ bs
    ++ take (used + count) piece
one_front bs piece used count = append_assoc bs (take used piece)
    (take count (take (length piece - used) (drop used piece)))
    ∙ ap (λ l. bs ++ l) (sym (used_join piece used count))

-- a prefix of the rest is within the piece
pub one_within : (piece : List ℕ) (used count : ℕ) → used ≤ length piece
    → count ≤ length (take (length piece - used) (drop used piece)) → used + count ≤ length piece
one_within piece used count within h = omega (
  arith,
  within,
  subst (λ l. count ≤ length l)
      (take_rest piece used) h,
  length-drop used piece,
)

-- ==== Numbers at the start of bytes that are cut or too long.

-- the bytes end inside a number that they begin
pub open_is_cut : (bytes : List ℕ) → IsOpen leb_unit 128 10 bytes → IsCut bytes
open_is_cut bytes unended = let begun = (open_varint_is bytes).1 unended in (omega (arith, begun.room), begun.high)

-- the byte that a reader refuses as too long, after those that it holds
pub refused_is_long : (held : List ℕ) (u : ℕ) (more : List ℕ) → IsOpen leb_unit 128 10 held → u < 256
    → IsAnswer leb_unit leb_group 128 10 held u TooLong → IsTooLong (held ++ u ∷ more)
refused_is_long held u more unended small answer =
    let begun = (open_varint_is held).1 unended in
    let long = (too_long_is held u begun small).0 answer in
    record {
      nine = held;
      tenth = u;
      more = more;
      whole = refl;
      length = long.0;
      go_on = begun.high;
      above = long.1;
    }

-- a number that is too long is so by its first ten bytes, whatever follows
pub long_in_ten : (bytes : List ℕ) → IsTooLong bytes
    → (10 ≤ length bytes) × ((more : List ℕ) → IsTooLong (take 10 bytes ++ more))
long_in_ten bytes long =
    let ten : List ℕ = long.nine ++ long.tenth ∷ [] in
    let count : length ten ≡ 10 = omega (arith, length-append long.nine (long.tenth ∷ []), long.length) in
    let whole : bytes ≡ ten ++ long.more = long.whole ∙ sym (append_assoc long.nine (long.tenth ∷ []) long.more) in
    let first : take 10 bytes ≡ ten = ap (λ l. take 10 l) whole
    ∙ (ap (λ k. take k (ten ++ long.more)) (sym count) ∙ take-append_seam ten long.more) in (
      omega (arith, ap (λ (l : List ℕ). length l) whole, length-append ten long.more, count),
      λ more. record {
        nine = long.nine;
        tenth = long.tenth;
        more = more;
        whole = ap (λ l. l ++ more) first ∙ append_assoc long.nine (long.tenth ∷ []) more;
        length = long.length;
        go_on = long.go_on;
        above = long.above;
      },
    )

-- ==== Points that are complete at the start of bytes.

-- two numbers spell the steps to a point
pub pair_of : (from to : Point) (bytes xs ys : List ℕ) (x y : ℕ) → bytes ≡ xs ++ ys → IsVarint xs x
    → IsVarint ys y → StepsTo from x y to → Pair from bytes to
pair_of from to bytes xs ys x y whole x_spelled y_spelled steps =
    record {
      x = x;
      y = y;
      x_bytes = xs;
      y_bytes = ys;
      whole = whole;
      x_spelled = x_spelled;
      y_spelled = y_spelled;
      x_kept = steps.x_kept;
      y_kept = steps.y_kept;
      leads = steps.leads;
    }

-- two numbers, one after the other, are the steps to a point
pub pair_in_front : (from to : Point) (bytes : List ℕ) (x y w h : ℕ) → NumberInFront bytes x w
    → NumberInFront (take (length bytes - w) (drop w bytes)) y h → StepsTo from x y to
    → PointInFront from bytes to (w + h)
pair_in_front from to bytes x y w h a cut steps =
    let b : NumberInFront (drop w bytes) y h = subst (λ l. NumberInFront l y h) (take_rest bytes w) cut in
    record {
      some = omega (arith, a.some);
      within = one_within bytes w h a.within cut.within;
      pair = pair_of from to _ (take w bytes) (take h (drop w bytes)) x y (take-add w h bytes)
          a.spelled b.spelled steps;
    }

-- two numbers are the steps to a point, a step at a time
pub two_numbers : (from beside to : Point) (bytes : List ℕ) (x y w h : ℕ) (dx dy : ℤ)
    → NumberInFront bytes x w → NumberInFront (take (length bytes - w) (drop w bytes)) y h
    → zigzag_of dx ≡ x → zigzag_of dy ≡ y
    → in_range (from.x +ℤ dx) ≡ true → beside ≡ point_at (from.x +ℤ dx) from.y
    → in_range (beside.y +ℤ dy) ≡ true → to ≡ point_at beside.x (beside.y +ℤ dy)
    → PointInFront from bytes to (w + h)
two_numbers from beside to bytes x y w h dx dy a cut ex ey rx eb ry et =
    let ux : dx ≡ unzigzag_of x = sym (unzigzag_back dx x ex) in
    let uy : dy ≡ unzigzag_of y = sym (unzigzag_back dy y ey) in
    pair_in_front from to bytes x y w h a cut
    record {
      x_kept = subst (λ d. in_range (from.x +ℤ d) ≡ true) ux rx;
      y_kept = subst (λ d. in_range (from.y +ℤ d) ≡ true) uy (subst (λ p. in_range (p.y +ℤ dy) ≡ true) eb ry);
      leads = et ∙ (ap (λ p. point_at p.x (p.y +ℤ dy)) eb
          ∙ (ap (λ d. point_at (from.x +ℤ d) (from.y +ℤ dy)) ux
          ∙ ap (λ d. point_at (from.x +ℤ unzigzag_of x) (from.y +ℤ d)) uy));
    }

-- ==== Points that are read at once are points at the start of bytes.

-- the form of a short step is small
short_small : (d : ℤ) → IsShortStep d → zigzag_of d < 2 ^ 28
short_small (pos k) short = omega (arith, ints, short.1)
short_small (negsuc k) short = omega (arith, ints, short.0)

-- a step to a point in range, by the zigzag forms of its numbers
pub step_to : (from to : Point) (dx dy : ℤ) → to ≡ moved_by from dx dy → IsInRange to
    → StepsTo from (zigzag_of dx) (zigzag_of dy) to
step_to from to dx dy leads kept =
    let x_is = sym (unzigzag_of-zigzag_of dx) in
    let y_is = sym (unzigzag_of-zigzag_of dy) in
    let there = subst IsInRange leads kept in
    record {
      x_kept = subst (λ d. in_range (from.x +ℤ d) ≡ true) x_is (passes _ there.0);
      y_kept = subst (λ d. in_range (from.y +ℤ d) ≡ true) y_is (passes _ there.1);
      leads = leads ∙ (λ i. point_at (from.x +ℤ x_is i) (from.y +ℤ y_is i));
    }

-- the same, of a point that may be out of range
pub step_if : (from : Point) (dx dy : ℤ) (to : Option Point) → IsSome to ↔ IsInRange (moved_by from dx dy)
    → IfSome to (λ p. p ≡ moved_by from dx dy) → IfSome to (λ p. StepsTo from (zigzag_of dx) (zigzag_of dy) p)
step_if from dx dy None range value = tt
step_if from dx dy (Some p) range value = step_to from p dx dy value (subst IsInRange (sym value) (range.0 refl))

-- a step to a point is the point's two numbers
point_in_front : (from to : Point) (bytes : List ℕ) (count : ℕ)
    → IsStepTo varint_step from bytes to count → PointInFront from bytes to count
point_in_front from to bytes count step =
    let xs : List ℕ = varint_of (zigzag_of step.dx) in
    let ys : List ℕ = varint_of (zigzag_of step.dy) in
    record {
      some = omega (
        arith,
        length-take-le count bytes step.within,
        ap length step.spelled,
        length-append xs ys,
        some_byte (zigzag_of step.dx),
      );
      within = step.within;
      pair = pair_of from to _ xs ys (zigzag_of step.dx) (zigzag_of step.dy) step.spelled
          (IsVarint-varint_of (zigzag_of step.dx) (omega (arith, short_small step.dx step.dx_short)))
          (IsVarint-varint_of (zigzag_of step.dy) (omega (arith, short_small step.dy step.dy_short)))
          (step_to from to step.dx step.dy step.leads step.kept);
    }

-- steps to points are their numbers
pub points_in_front : (ps : List Point) (from : Point) (bytes : List ℕ) (count : ℕ)
    → AreStepsTo varint_step from bytes ps count → PointsInFront from bytes ps count
points_in_front [] from bytes count none = none
points_in_front (p ∷ ps) from bytes count (first, rest, all, there, on) = (
  first,
  rest,
  all,
  point_in_front from p bytes first there,
  points_in_front ps p (drop first bytes) rest on,
)

-- ==== A point after a header.

-- a point after a header
pub behind_header : (bytes : List ℕ) (size : Option ℕ) (header steps : ℕ) (from to : Point)
    → from ≡ origin → PointHeader bytes size header
    → PointInFront from (take (length bytes - header) (drop header bytes)) to steps
    → WholePoint bytes to (header + steps) size
behind_header bytes size header steps from to start h cut =
    let p : PointInFront origin (drop header bytes) to steps =
    subst (λ l. PointInFront origin l to steps) (take_rest bytes header)
    (subst (λ o. PointInFront o (take (length bytes - header) (drop header bytes)) to steps)
    start cut) in
    record {
      some = omega (arith, p.some);
      within = omega (arith, h.within, p.within, length-drop header bytes);
      kind = h.kind;
      short = h.short;
      steps = take steps (drop header bytes);
      whole = take-add header steps bytes ∙ ap (λ l. l ++ take steps (drop header bytes)) h.whole;
      pair = p.pair;
    }
