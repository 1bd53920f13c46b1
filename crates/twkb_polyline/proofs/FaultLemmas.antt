-- Each text is the polyline of its points, or has exactly one fault.
use Rattle.std.proofs.Common.{◌≡◌, ℕ, suc, ℤ, pos, negsuc, ◌+◌, ◌-◌, ◌<◌, ◌≤◌, ◌^◌, ◌+ℤ◌, ◌-ℤ◌, ◌≤ℤ◌, List, [], ◌∷◌}
use Rattle.std.proofs.Common.{◌++◌, length, ◌⊎◌, inl, inr, refl, sym, ◌∙◌, ap, arith, subst, append_assoc, append-nil}
use Rattle.std.proofs.Common.{length-append, lit≤, zero}
use Rattle.std.specs.Prelude.{Some, None}
use Rattle.std.proofs.lemmas.Int.{ints}
use Rattle.std.proofs.lemmas.List.{append_cancel_left}
use Rattle.std.proofs.lemmas.Bool.{cases_lt}
use Rattle.twkb_num.specs.Alphabet.{five_laws, five_unit}
use Rattle.twkb_num.specs.Spelling.{digits, number_of, zigzag_of}
use Rattle.twkb_num.proofs.SpellingLemmas.{zigzag_one, same_digits, digits_below, number_of-digits, length-units_of}
use Rattle.twkb_num.proofs.SpellingLemmas.{digits_some}
use Rattle.twkb_points.specs.Point.{Point, IsCoordinate, IsInRange, AreInRange, origin, point_at}
use Rattle.twkb_points.specs.Steps.{last_of}
use Rattle.twkb_points.specs.declared.point.TheConstants.{COORDINATE_BOUND}
use Rattle.twkb_polyline.specs.Polyline.{number_text, polyline, polyline_from, DecodesTo, AppendsDecoded}
use Rattle.twkb_polyline.specs.Fault.{IsNumberFault, StartsWithNumber, IsCoordinateFault, IsLongitudeFault}
use Rattle.twkb_polyline.specs.Fault.{IsPointFault, IsNextFault, IsTextFault, IsRefused}
use Rattle.twkb_polyline.specs.declared.fault.PolyReason.{PolyReason}
use Rattle.twkb_polyline.specs.declared.fault.PolyFault.{PolyFault}
use Rattle.twkb_polyline.specs.declared.fault.PolyFault.TheVariants.{Memory, At}
use Rattle.twkb_polyline.specs.declared.fault.PolyReason.TheVariants.{Half, Range, TooMany}
use Rattle.twkb_polyline.proofs.NumberLemmas.{stops_one, fault_stops, number_stops, number_or_fault}
use Rattle.twkb_polyline.proofs.NumberLemmas.NumberOrFault.{is_number, is_fault}

-- ==== A text has at most one fault, and none if it is a polyline.

-- ---- numbers

-- no number's characters begin another's
pub number_text_one : (m n : ℤ) (x y : List ℕ) → number_text m ++ x ≡ number_text n ++ y → (m ≡ n) × (x ≡ y)
number_text_one m n x y h =
    let two : 2 ≤ 32 = lit≤ tt in
    let same = same_digits five_laws (digits 32 (zigzag_of m)) (digits 32 (zigzag_of n)) x y
    (digits_below 32 (zigzag_of m) two) (digits_below 32 (zigzag_of n) two)
    (digits_some 32 (zigzag_of m) two) (digits_some 32 (zigzag_of n) two) h in
    let number : zigzag_of m ≡ zigzag_of n = sym (number_of-digits 32 (zigzag_of m) two)
    ∙ ap (number_of 32) same ∙ number_of-digits 32 (zigzag_of n) two in
    let one = zigzag_one m n number in
    (one, append_cancel_left (number_text n) x y (ap (λ k. number_text k ++ x) (sym one) ∙ h))

-- a number has at least one character
pub number_text_length : (n : ℤ) → 1 ≤ length (number_text n)
number_text_length n = omega (
  arith,
  length-units_of five_unit (digits 32 (zigzag_of n)),
  digits_some 32 (zigzag_of n) (lit≤ tt),
)

number_text_some : (n : ℤ) (t : List ℕ) → number_text n ++ t ≡ [] → ⊥
number_text_some n t h = let none = ap length h in omega (arith, length-append (number_text n) t, number_text_length n)

-- a number has at most one fault
number_fault_one : (rest : List ℕ) (k l : ℕ) (r s : PolyReason) → IsNumberFault rest k r
    → IsNumberFault rest l s → (k ≡ l) × (r ≡ s)
number_fault_one rest k l r s f g =
    let e = stops_one rest (Some (k, r)) (Some (l, s)) (fault_stops rest k r f) (fault_stops rest l s g) in
    let pair : (k, r) ≡ (l, s) = cc in
    (ap (λ (z : ℕ × PolyReason). z.0) pair, ap (λ (z : ℕ × PolyReason). z.1) pair)

-- a number that can be read has no fault
number_fault_none : (rest : List ℕ) (k : ℕ) (r : PolyReason) (n : ℤ) (after : List ℕ)
    → IsNumberFault rest k r → StartsWithNumber rest n after → ⊥
number_fault_none rest k r n after f number =
    let e = stops_one rest (Some (k, r)) None (fault_stops rest k r f) (number_stops rest n after number) in cc

-- ---- coordinates

coordinate_fault_one : (v : ℤ) (rest : List ℕ) (k l : ℕ) (r s : PolyReason)
    → IsCoordinateFault v rest k r → IsCoordinateFault v rest l s → (k ≡ l) × (r ≡ s)
coordinate_fault_one v rest k l r s (inl f) (inl g) = number_fault_one rest k l r s f g
coordinate_fault_one v rest k l r s (inl f) (inr g) = absurd
    (number_fault_none rest k r g.0.difference g.0.after f g.0.number)
coordinate_fault_one v rest k l r s (inr f) (inl g) = absurd
    (number_fault_none rest l s f.0.difference f.0.after g f.0.number)
coordinate_fault_one v rest k l r s (inr f) (inr g) = (f.1 ∙ sym g.1, f.2 ∙ sym g.2)

coordinate_fault_none : (v : ℤ) (rest : List ℕ) (k : ℕ) (r : PolyReason) (n : ℤ) (after : List ℕ)
    → IsCoordinateFault v rest k r → StartsWithNumber rest n after → IsCoordinate (v +ℤ n) → ⊥
coordinate_fault_none v rest k r n after (inl f) number inside = number_fault_none rest k r n after f number
coordinate_fault_none v rest k r n after (inr f) number inside =
    let same = number_text_one f.0.difference n f.0.after after (sym f.0.number.split ∙ number.split) in
    f.0.outside (rw same.0 inside)

longitude_fault_one : (x : ℤ) (rest : List ℕ) (k l : ℕ) (r s : PolyReason)
    → IsLongitudeFault x rest k r → IsLongitudeFault x rest l s → (k ≡ l) × (r ≡ s)
longitude_fault_one x rest k l r s (inl f) (inl g) = (f.1 ∙ sym g.1, f.2 ∙ sym g.2)
longitude_fault_one x rest k l r s (inl f) (inr g) = absurd (g.0 f.0)
longitude_fault_one x rest k l r s (inr f) (inl g) = absurd (f.0 g.0)
longitude_fault_one x rest k l r s (inr f) (inr g) = coordinate_fault_one x rest k l r s f.1 g.1

longitude_fault_none : (x : ℤ) (rest : List ℕ) (k : ℕ) (r : PolyReason) (n : ℤ) (after : List ℕ)
    → IsLongitudeFault x rest k r → StartsWithNumber rest n after → IsCoordinate (x +ℤ n) → ⊥
longitude_fault_none x rest k r n after (inl f) number inside = number_text_some n after (sym number.split ∙ f.0)
longitude_fault_none x rest k r n after (inr f) number inside = coordinate_fault_none x rest k r n
    after f.1 number inside

-- ---- points

point_fault_one : (p : Point) (rest : List ℕ) (k l : ℕ) (r s : PolyReason) → IsPointFault p rest k r
    → IsPointFault p rest l s → (k ≡ l) × (r ≡ s)
point_fault_one p rest k l r s (inl f) (inl g) = coordinate_fault_one p.y rest k l r s f g
point_fault_one p rest k l r s (inl f) (inr g) = absurd
    (coordinate_fault_none p.y rest k r g.difference g.after f g.latitude g.inside)
point_fault_one p rest k l r s (inr f) (inl g) = absurd
    (coordinate_fault_none p.y rest l s f.difference f.after g f.latitude f.inside)
point_fault_one p rest k l r s (inr f) (inr g) =
    let one = number_text_one f.difference g.difference f.after g.after (sym f.latitude.split ∙ g.latitude.split) in
    let moved = subst (λ (t : List ℕ). IsLongitudeFault p.x t f.within r) one.1 f.fault in
    let same = longitude_fault_one p.x g.after f.within g.within r s moved g.fault in
    let widths : length (number_text f.difference) ≡ length (number_text g.difference) =
    ap (λ n. length (number_text n)) one.0 in
    (omega (arith, f.place, g.place, same.0, widths), same.1)

-- the difference of two coordinates in range has a zigzag form of 64 bits
bounded : (z : ℤ) → negsuc (2 ^ 63 - 1) ≤ℤ z → z ≤ℤ pos (2 ^ 63 - 1) → zigzag_of z < 2 ^ 64
bounded (pos n) p q = omega (arith, ints)
bounded (negsuc n) p q = omega (arith, ints)

difference_fits : (a b : ℤ) → IsCoordinate a → IsCoordinate b → zigzag_of (a -ℤ b) < 2 ^ 64
difference_fits a b p q = bounded (a -ℤ b) (omega (arith, ints)) (omega (arith, ints))

there : (a b : ℤ) → b +ℤ (a -ℤ b) ≡ a
there a b = omega (arith, ints)

-- a text that starts with the difference of two coordinates in range starts with a number
pub difference_starts : (a b : ℤ) (after rest : List ℕ) → IsCoordinate a → IsCoordinate b
    → rest ≡ number_text (a -ℤ b) ++ after → StartsWithNumber rest (a -ℤ b) after
difference_starts a b after rest p q split = record { split = split; fits = difference_fits a b p q }

point_fault_none : (p q : Point) (rest after : List ℕ) (k : ℕ) (r : PolyReason) → IsInRange p
    → IsInRange q → IsPointFault p rest k r → rest ≡ number_text (q.y -ℤ p.y)
    ++ (number_text (q.x -ℤ p.x) ++ after) → ⊥
point_fault_none p q rest after k r inp inq (inl f) split =
    coordinate_fault_none p.y rest k r (q.y -ℤ p.y) (number_text (q.x -ℤ p.x) ++ after) f
    (difference_starts q.y p.y (number_text (q.x -ℤ p.x) ++ after) rest inq.1 inp.1 split)
    (rw (there q.y p.y) inq.1)
point_fault_none p q rest after k r inp inq (inr f) split =
    let one = number_text_one f.difference (q.y -ℤ p.y) f.after (number_text (q.x -ℤ p.x) ++ after)
    (sym f.latitude.split ∙ split) in
    longitude_fault_none p.x f.after f.within r (q.x -ℤ p.x) after f.fault
    (difference_starts q.x p.x after f.after inq.0 inp.0 one.1) (rw (there q.x p.x) inq.0)

-- ---- texts

-- the numbers of the first point, before the rest of the text
pub regroup : (p q : Point) (qs : List Point) (rest : List ℕ)
    → polyline_from p (q ∷ qs) ++ rest ≡ number_text (q.y -ℤ p.y)
    ++ (number_text (q.x -ℤ p.x) ++ (polyline_from q qs ++ rest))
regroup p q qs rest =
    append_assoc (number_text (q.y -ℤ p.y)) (number_text (q.x -ℤ p.x) ++ polyline_from q qs) rest
    ∙ ap (λ t. number_text (q.y -ℤ p.y) ++ t) (append_assoc (number_text (q.x -ℤ p.x)) (polyline_from q qs) rest)

unmoved : (a b c : ℤ) → a -ℤ c ≡ b -ℤ c → a ≡ b
unmoved a b c e = omega (arith, ints)

same_point : (p q : Point) → p.x ≡ q.x → p.y ≡ q.y → p ≡ q
same_point p q ex ey = λ i. record { x = ex i; y = ey i }

-- two texts that are equal start with the same point, and their rests are equal
first_one : (p q r : Point) (qs rs : List Point) (s t : List ℕ)
    → polyline_from p (q ∷ qs) ++ s ≡ polyline_from p (r ∷ rs) ++ t → (q ≡ r)
    × (polyline_from q qs ++ s ≡ polyline_from r rs ++ t)
first_one p q r qs rs s t e =
    let first = number_text_one (q.y -ℤ p.y) (r.y -ℤ p.y)
    (number_text (q.x -ℤ p.x) ++ (polyline_from q qs ++ s))
    (number_text (r.x -ℤ p.x) ++ (polyline_from r rs ++ t)) (sym (regroup p q qs s) ∙ e
    ∙ regroup p r rs t) in
    let second = number_text_one (q.x -ℤ p.x) (r.x -ℤ p.x) (polyline_from q qs ++ s)
    (polyline_from r rs ++ t) first.1 in
    (same_point q r (unmoved q.x r.x p.x second.0) (unmoved q.y r.y p.y first.0), second.1)

next_within : (p : Point) (count max : ℕ) (rest : List ℕ) (k : ℕ) (r : PolyReason)
    → IsNextFault p count max rest k r → count ≤ max
next_within p count max rest k r (inl f) = omega arith
next_within p count max rest k r (inr f) = omega arith

-- if the next point can be read, it is not refused
next_none : (p q : Point) (count max : ℕ) (rest after : List ℕ) (k : ℕ) (r : PolyReason)
    → IsInRange p → IsInRange q → count < max → IsNextFault p count max rest k r
    → rest ≡ number_text (q.y -ℤ p.y) ++ (number_text (q.x -ℤ p.x) ++ after) → ⊥
next_none p q count max rest after k r inp inq room (inl f) split = omega arith
next_none p q count max rest after k r inp inq room (inr f) split = point_fault_none p q rest after
    k r inp inq f.1 split

next_one : (p : Point) (count max : ℕ) (rest : List ℕ) (k l : ℕ) (r s : PolyReason)
    → IsNextFault p count max rest k r → IsNextFault p count max rest l s → (k ≡ l) × (r ≡ s)
next_one p count max rest k l r s (inl f) (inl g) = (f.1 ∙ sym g.1, f.2 ∙ sym g.2)
next_one p count max rest k l r s (inl f) (inr g) = absurd (omega arith)
next_one p count max rest k l r s (inr f) (inl g) = absurd (omega arith)
next_one p count max rest k l r s (inr f) (inr g) = point_fault_one p rest k l r s f.1 g.1

-- the length of a point's two numbers
abbrev head_length : Point → Point → ℕ
head_length p q = length (number_text (q.y -ℤ p.y)) + length (number_text (q.x -ℤ p.x))

first_length : (p q : Point) (qs : List Point)
    → length (polyline_from p (q ∷ qs)) ≡ head_length p q + length (polyline_from q qs)
first_length p q qs =
    let dy = number_text (q.y -ℤ p.y) in
    let dx = number_text (q.x -ℤ p.x) in
    omega (arith, length-append dy (dx ++ polyline_from q qs), length-append dx (polyline_from q qs))

-- two faults of a text, found after some of its points, are the same fault
faults_one : (ps qs : List Point) (p : Point) (c m n max : ℕ) (rest left : List ℕ) (k l : ℕ)
    (r s : PolyReason) → IsInRange p → AreInRange ps → AreInRange qs → c + length ps ≡ m
    → c + length qs ≡ n
    → polyline_from p ps ++ rest ≡ polyline_from p qs ++ left
    → IsNextFault (last_of p ps) m max rest k r → IsNextFault (last_of p qs) n max left l s
    → (length (polyline_from p ps) + k ≡ length (polyline_from p qs) + l) × (r ≡ s)
faults_one [] [] p c m n max rest left k l r s inp a b em en e f g =
    let count : m ≡ n = omega arith in
    let here = subst (λ (t : List ℕ). IsNextFault p m max t k r) e f in
    let same = next_one p n max left k l r s (rw count at here) g in
    (omega (arith, same.0), same.1)
faults_one [] (q ∷ qs) p c m n max rest left k l r s inp a b em en e f g =
    let few = next_within (last_of p (q ∷ qs)) n max left l s g in
    absurd (next_none p q m max rest (polyline_from q qs ++ left) k r inp b.0 (omega arith) f (e ∙ regroup p q qs left))
faults_one (q ∷ qs) [] p c m n max rest left k l r s inp a b em en e f g =
    let few = next_within (last_of p (q ∷ qs)) m max rest k r f in
    absurd (next_none p q n max left (polyline_from q qs ++ rest) l s inp a.0 (omega arith) g
    (sym e ∙ regroup p q qs rest))
faults_one (q ∷ qs) (t ∷ ts) p c m n max rest left k l r s inp a b em en e f g =
    let first = first_one p q t qs ts rest left e in
    let tail : polyline_from t qs ++ rest ≡ polyline_from t ts ++ left =
    ap (λ z. polyline_from z qs ++ rest) (sym first.0) ∙ first.1 in
    let moved = subst (λ (z : Point). IsNextFault (last_of z qs) m max rest k r) first.0 f in
    let same = faults_one qs ts t (suc c) m n max rest left k l r s b.0 a.1 b.1 (omega arith)
    (omega arith) tail moved g in
    let heads = ap (head_length p) first.0 in
    let tails = ap (λ z. length (polyline_from z qs)) first.0 in
    (omega (arith, first_length p q qs, first_length p t ts, heads, tails, same.0), same.1)

-- the text of few enough points in range has no fault after some of its points
faults_none : (ps qs : List Point) (p : Point) (c m max : ℕ) (rest : List ℕ) (k : ℕ)
    (r : PolyReason) → IsInRange p → AreInRange ps → AreInRange qs → c + length ps ≡ m
    → c + length qs ≤ max
    → (rest ≡ [] → ⊥) → polyline_from p ps ++ rest ≡ polyline_from p qs
    → IsNextFault (last_of p ps) m max rest k r → ⊥
faults_none [] [] p c m max rest k r inp a b em few some e f = some e
faults_none [] (q ∷ qs) p c m max rest k r inp a b em few some e f = next_none p q m max rest
    (polyline_from q qs) k r inp b.0 (omega arith) f e
faults_none (q ∷ qs) [] p c m max rest k r inp a b em few some e f = number_text_some (q.y -ℤ p.y)
    (number_text (q.x -ℤ p.x) ++ (polyline_from q qs ++ rest)) (sym (regroup p q qs rest) ∙ e)
faults_none (q ∷ qs) (t ∷ ts) p c m max rest k r inp a b em few some e f =
    let first = first_one p q t qs ts rest [] (e ∙ sym (append-nil (polyline_from p (t ∷ ts)))) in
    let tail : polyline_from t qs ++ rest ≡ polyline_from t ts =
    ap (λ z. polyline_from z qs ++ rest) (sym first.0) ∙ first.1
    ∙ append-nil (polyline_from t ts) in
    let moved = subst (λ (z : Point). IsNextFault (last_of z qs) m max rest k r) first.0 f in
    faults_none qs ts t (suc c) m max rest k r b.0 a.1 b.1 (omega arith) (omega arith) some tail moved

-- ---- the laws

origin_in_range : IsInRange origin
origin_in_range = ((omega (arith, ints), omega (arith, ints)), (omega (arith, ints), omega (arith, ints)))

-- a text has one fault at most
pub text_fault_one : (text : List ℕ) (max o p : ℕ) (r s : PolyReason) → IsTextFault text max o r
    → IsTextFault text max p s → (o ≡ p) × (r ≡ s)
text_fault_one text max o p r s f g =
    let same = faults_one f.ps g.ps origin 0 (length f.ps) (length g.ps) max f.rest g.rest f.within
    g.within r s origin_in_range f.in_range g.in_range (omega arith) (omega arith)
    (sym f.split ∙ g.split) f.fault g.fault in
    (omega (arith, f.place, g.place, same.0), same.1)

-- a text from which points are read has no fault
pub text_fault_none : (text : List ℕ) (max o : ℕ) (r : PolyReason) (ps : List Point)
    → IsTextFault text max o r → DecodesTo text max ps → ⊥
text_fault_none text max o r ps f read =
    faults_none f.ps ps origin 0 (length f.ps) max f.rest f.within r origin_in_range f.in_range
    read.in_range (omega arith) (omega (arith, read.few)) f.left
    (sym f.split ∙ read.spelled) f.fault

-- points with the same text are equal
polyline_from_one : (p : Point) (ps qs : List Point) → polyline_from p ps ≡ polyline_from p qs → ps ≡ qs
polyline_from_one p [] [] e = refl
polyline_from_one p [] (q ∷ qs) e = absurd (number_text_some (q.y -ℤ p.y)
    (number_text (q.x -ℤ p.x) ++ polyline_from q qs) (sym e))
polyline_from_one p (q ∷ qs) [] e = absurd (number_text_some (q.y -ℤ p.y)
    (number_text (q.x -ℤ p.x) ++ polyline_from q qs) e)
polyline_from_one p (q ∷ qs) (t ∷ ts) e =
    let first = first_one p q t qs ts [] [] (append-nil (polyline_from p (q ∷ qs)) ∙ e
    ∙ sym (append-nil (polyline_from p (t ∷ ts)))) in
    let tail : polyline_from t qs ≡ polyline_from t ts = ap (λ z. polyline_from z qs) (sym first.0)
    ∙ sym (append-nil (polyline_from q qs)) ∙ first.1 ∙ append-nil (polyline_from t ts) in
    ap (λ (z : Point). z ∷ qs) first.0 ∙ ap (λ zs. t ∷ zs) (polyline_from_one t qs ts tail)

-- distinct lists have distinct texts
pub one_polyline : (ps qs : List Point) → polyline ps ≡ polyline qs → ps ≡ qs
one_polyline ps qs e = polyline_from_one origin ps qs e

-- ---- the answers of a reader

-- a text decodes to one list of points
pub no_other_points : (text : List ℕ) (max : ℕ) (ps qs : List Point) → DecodesTo text max qs
    → DecodesTo text max ps → qs ≡ ps
no_other_points text max ps qs read also = one_polyline qs ps (sym read.spelled ∙ also.spelled)

-- only want of memory refuses a polyline
pub only_memory : (text : List ℕ) (max : ℕ) (ps : List Point) (e : PolyFault) → IsRefused text max e
    → DecodesTo text max ps → e ≡ Memory
only_memory text max ps Memory f read = refl
only_memory text max ps (At offset reason) f read = absurd (text_fault_none text max offset reason ps f read)

-- a text with a fault is refused for that fault, or for want of memory
pub only_fault : (text : List ℕ) (max offset : ℕ) (reason : PolyReason) (e : PolyFault)
    → IsRefused text max e → IsTextFault text max offset reason → (e ≡ Memory)
    ⊎ (e ≡ At offset reason)
only_fault text max offset reason Memory f fault = inl refl
only_fault text max offset reason (At o r) f fault =
    let same = text_fault_one text max o offset r reason f fault in
    inr (ap (λ p. At p r) same.0 ∙ ap (λ s. At offset s) same.1)

-- points appended to an empty list
pub behind_none : (text : List ℕ) (max : ℕ) (old new : List Point) → old ≡ []
    → AppendsDecoded text max old new → DecodesTo text max new
behind_none text max old new none read = rw (read.appended, none) read.decoded

-- ==== Each text is the polyline of points in range, few enough, or it has a fault.

-- a coordinate is in range or out of range
coordinate_or_not : (z : ℤ) → IsCoordinate z ⊎ (IsCoordinate z → ⊥)
coordinate_or_not (pos n) = elim (cases_lt n COORDINATE_BOUND) [
  | inl small ↦ inl (omega (arith, ints), omega (arith, ints))
  | inr large ↦ inr
      (λ h. omega (arith, ints, h.1))
]
coordinate_or_not (negsuc n) = elim (cases_lt n COORDINATE_BOUND) [
  | inl small ↦ inl (omega (arith, ints), omega (arith, ints))
  | inr large ↦ inr
      (λ h. omega (arith, ints, h.0))
]

-- A point at the start of the text, or the reason for which there is none.
data PointOrFault (p : Point) (text : List ℕ) : Type 0 where
  is_point : (q : Point) (after : List ℕ) → text ≡ number_text (q.y -ℤ p.y)
      ++ (number_text (q.x -ℤ p.x) ++ after) → IsInRange q → PointOrFault p text
  no_point : (k : ℕ) (reason : PolyReason) → IsPointFault p text k reason → PointOrFault p text

taken : (a b : ℤ) → (a +ℤ b) -ℤ a ≡ b
taken a b = omega (arith, ints)

-- a difference that leaves the range of a coordinate is a fault of the coordinate
pub leaves_range : (v d : ℤ) {rest after : List ℕ} → StartsWithNumber rest d after → (IsCoordinate (v +ℤ d) → ⊥)
    → IsCoordinateFault v rest 0 Range
leaves_range v d {after = after} number outside =
    inr (record { difference = d; after = after; number = number; outside = outside }, refl, refl)

-- a fault of the longitude after a latitude in range is a fault of the point
pub after_latitude : (p : Point) (dy : ℤ) {rest after : List ℕ} (k : ℕ) (reason : PolyReason)
    → StartsWithNumber rest dy after → IsCoordinate (p.y +ℤ dy) → IsLongitudeFault p.x after k reason
    → IsPointFault p rest (length (number_text dy) + k) reason
after_latitude p dy {after = after} k reason latitude inside fault = inr (record {
  difference = dy;
  after = after;
  latitude = latitude;
  inside = inside;
  within = k;
  place = refl;
  fault = fault;
})

-- then there is no point
no_longitude : (p : Point) (dy : ℤ) {text after : List ℕ} → StartsWithNumber text dy after → IsCoordinate (p.y +ℤ dy)
    → (k : ℕ) (reason : PolyReason) → IsLongitudeFault p.x after k reason → PointOrFault p text
no_longitude p dy latitude inside k reason fault =
    no_point (length (number_text dy) + k) reason (after_latitude p dy k reason latitude inside fault)

-- the longitude after a latitude, or its fault
longitude_or_fault : (p : Point) (text : List ℕ) (dy : ℤ) (after : List ℕ)
    → StartsWithNumber text dy after → IsCoordinate (p.y +ℤ dy) → PointOrFault p text
longitude_or_fault p text dy [] latitude inside = no_longitude p dy latitude inside 0 Half (inl (refl, refl, refl))
longitude_or_fault p text dy (c ∷ cs) latitude inside =
    let left : c ∷ cs ≡ [] → ⊥ = λ none. cc in
    elim (number_or_fault (c ∷ cs)) [
      | is_fault k reason f ↦ no_longitude p dy latitude inside k reason (inr (left, inl f))
      | is_number dx after longitude ↦
          elim (coordinate_or_not (p.x +ℤ dx)) [
            | inr outside ↦
                no_longitude p dy latitude inside 0 Range (inr (left, leaves_range p.x dx longitude outside))
            | inl within ↦
                is_point (point_at (p.x +ℤ dx) (p.y +ℤ dy)) after
                (rw (taken p.y dy, taken p.x dx) (latitude.split
                ∙ ap (λ t. number_text dy ++ t) longitude.split)) (within, inside)
          ]
    ]

point_or_fault : (p : Point) (text : List ℕ) → PointOrFault p text
point_or_fault p text =
    elim (number_or_fault text) [
      | is_fault k reason f ↦ no_point k reason (inl (inl f))
      | is_number dy after latitude ↦
          elim (coordinate_or_not (p.y +ℤ dy)) [
            | inr outside ↦ no_point 0 Range (inl (leaves_range p.y dy latitude outside))
            | inl inside ↦ longitude_or_fault p text dy after latitude inside
          ]
    ]

-- The text of points after p, of which `count` were read before, or its fault.
data PointsOrFault (p : Point) (count max : ℕ) (text : List ℕ) : Type 0 where
  are_points : (ps : List Point) → text ≡ polyline_from p ps → AreInRange ps
      → count + length ps ≤ max → PointsOrFault p count max text
  no_points : (ps : List Point) (rest : List ℕ) (m k : ℕ) (reason : PolyReason)
      → text ≡ polyline_from p ps ++ rest → AreInRange ps → (rest ≡ [] → ⊥) → count + length ps ≡ m
      → IsNextFault (last_of p ps) m max rest k reason
      → PointsOrFault p count max text

-- one more point at the start of the text
front_point : (p q : Point) (count max : ℕ) (text after : List ℕ)
    → text ≡ number_text (q.y -ℤ p.y) ++ (number_text (q.x -ℤ p.x) ++ after) → IsInRange q
    → PointsOrFault q (suc count) max after → PointsOrFault p count max text
front_point p q count max text after split inside (are_points ps e are few) =
    are_points (q ∷ ps) (split
    ∙ ap (λ t. number_text (q.y -ℤ p.y) ++ (number_text (q.x -ℤ p.x) ++ t)) e) (inside, are)
    (omega arith)
front_point p q count max text after split inside (no_points ps rest m k reason e are left count_is f) =
    no_points (q ∷ ps) rest m k reason
    (split ∙ ap (λ t. number_text (q.y -ℤ p.y) ++ (number_text (q.x -ℤ p.x) ++ t)) e
    ∙ sym (regroup p q ps rest)) (inside, are) left (omega arith) f

-- the text after a point is shorter
shorter : (p q : Point) (text after : List ℕ)
    → text ≡ number_text (q.y -ℤ p.y) ++ (number_text (q.x -ℤ p.x) ++ after)
    → length after < length text
shorter p q text after split =
    let dy = number_text (q.y -ℤ p.y) in
    let dx = number_text (q.x -ℤ p.x) in
    let whole = ap length split in
    omega (arith, length-append dy (dx ++ after), length-append dx after, number_text_length (q.y -ℤ p.y))

points_or_fault : (turns : ℕ) (p : Point) (count max : ℕ) (text : List ℕ) → length text ≤ turns
    → count ≤ max → PointsOrFault p count max text
points_or_fault turns p count max [] h few = are_points [] refl tt (omega arith)
points_or_fault zero p count max (c ∷ cs) h few = absurd (omega arith)
points_or_fault (suc turns) p count max (c ∷ cs) h few =
    let left : c ∷ cs ≡ [] → ⊥ = λ none. cc in
    elim (cases_lt count max) [
      | inr full ↦ no_points [] (c ∷ cs) count 0 TooMany refl tt left (omega arith) (inl (omega arith, refl, refl))
      | inl room ↦
          elim (point_or_fault p (c ∷ cs)) [
            | no_point k reason f ↦ no_points [] (c ∷ cs) count k reason refl tt left (omega arith) (inr (room, f))
            | is_point q after split inside ↦
                let less = shorter p q (c ∷ cs) after split in
                front_point p q count max (c ∷ cs) after split inside
                (points_or_fault turns q (suc count) max after (omega arith) room)
          ]
    ]

-- each text is a polyline or has a fault
pub text_or_fault : (text : List ℕ) (max : ℕ) → ((ps : List Point) × DecodesTo text max ps)
    ⊎ ((offset : ℕ) × (reason : PolyReason) × IsTextFault text max offset reason)
text_or_fault text max =
    elim (points_or_fault (length text) origin 0 max text (omega arith) (omega arith)) [
      | are_points ps e are few ↦ inl (ps, record { spelled = e; in_range = are; few = omega arith })
      | no_points ps rest m k reason e are left count_is f ↦
          let count : m ≡ length ps = omega arith in
          inr (
            length (polyline ps) + k,
            reason,
            record {
              ps = ps;
              rest = rest;
              split = e;
              in_range = are;
              left = left;
              within = k;
              place = refl;
              fault = rw count at f;
            },
          )
    ]
