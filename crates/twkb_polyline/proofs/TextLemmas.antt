-- The text of points, written in parts, and read one point or several at once.
use Rattle.std.proofs.Common.{arith, ◌≡◌, ℕ, ℤ, zero, suc, ◌+◌, ◌*◌, ◌<◌, ◌-ℤ◌, List, [], ◌∷◌, ◌++◌, length, take}
use Rattle.std.proofs.Common.{drop, get_or, refl, sym, subst, ◌∙◌, ap, append_assoc, append-nil, drop-cons, drop-drop}
use Rattle.std.proofs.Common.{add-one, ◌/◌, ◌%◌, ◌-◌, ◌≤◌, ◌^◌, true, lit≤, inl, inr, lit<, bit_or, bit_and, pos}
use Rattle.std.proofs.Common.{negsuc, ◌+ℤ◌, length-drop, length-append}
use Rattle.std.proofs.lemmas.List.{take-append-drop, drop_all, length-take-le, take_all, take_rest}
use Rattle.std.specs.Simd.{first_chunks}
use Rattle.twkb_points.specs.Point.{Point, IsCoordinate, IsInRange, AreInRange, origin, moved_by}
use Rattle.twkb_points.specs.Steps.{last_of, AreStepsTo, character_step}
use Rattle.twkb_polyline.specs.Polyline.{number_text, polyline_from, points_of, spread, marks, HasGroups, polyline}
use Rattle.twkb_polyline.specs.Polyline.{AppendsDecoded, DecodesTo}
use lib.Count.{count_leading_zeros}
use Rattle.std.proofs.Math.Nat.{pow-suc, one-le-pow, pow-le-pow_right}
use Rattle.std.proofs.lemmas.Nat.{div_below, le-div, leading_top, le_or_l, le_or_r, or_lt, pow-add, and_mask}
use Rattle.std.proofs.lemmas.Bool.{cases_lt}
use Rattle.twkb_num.specs.Alphabet.{five_unit}
use Rattle.twkb_num.specs.Spelling.{low_digits, digits, shortest, zigzag_of}
use Rattle.twkb_num.proofs.SpellingLemmas.{shortest_more, shortest_one, length-digits-le, length-units_of}
use Rattle.std.proofs.lemmas.Int.{ints}
use Rattle.twkb_polyline.specs.Fault.{IsNumberFault, IsLongitudeFault, IsNextFault, IsPointFault, IsTextFault}
use Rattle.twkb_polyline.specs.Fault.{IsRefused, point_text_words}
use Rattle.twkb_polyline.specs.Reading.{IsNumberAt, IsPointAt, IsRefusedFrom, ArePointsAt, HasPutOn, IsShortOfMemory}
use Rattle.twkb_polyline.specs.declared.fault.PolyReason.TheVariants.{Half, Range, TooMany}
use Rattle.twkb_polyline.specs.declared.fault.PolyReason.{PolyReason}
use Rattle.twkb_polyline.specs.declared.fault.PolyFault.{PolyFault}
use Rattle.twkb_polyline.specs.declared.fault.PolyFault.TheVariants.{Memory, At}
use Rattle.twkb_polyline.proofs.FaultLemmas.{after_latitude, behind_none, leaves_range, number_text_length, regroup}
use Rattle.twkb_polyline.proofs.FaultLemmas.{text_fault_none}
use Rattle.twkb_polyline.specs.declared.fault.PolyReason.TheVariants as text

-- ==== The text of points, written in parts, one after the other.

-- Of the points after `start`, those in `left` are still to be written: the text of the others
-- was appended to `old`, and the cursor is at the last of them.
pub record HasPut (start : Point) (points left : List Point) (cursor : Point) (old text : List ℕ) : Type 0 where
  pub put : List ℕ
  pub held : text ≡ old ++ put
  pub told : put ++ polyline_from cursor left ≡ polyline_from start points
  pub ends : last_of cursor left ≡ last_of start points

-- the text of two lists of points, one after the other
polyline_from-append : (p : Point) (ps qs : List Point)
    → polyline_from p (ps ++ qs) ≡ polyline_from p ps ++ polyline_from (last_of p ps) qs
polyline_from-append p [] qs = refl
polyline_from-append p (r ∷ ps) qs =
    let dy = number_text (r.y -ℤ p.y) in
    let dx = number_text (r.x -ℤ p.x) in
    let tail = polyline_from (last_of r ps) qs in
    ap (λ t. dy ++ (dx ++ t)) (polyline_from-append r ps qs)
    ∙ ap (λ t. dy ++ t) (sym (append_assoc dx (polyline_from r ps) tail))
    ∙ sym (append_assoc dy (dx ++ polyline_from r ps) tail)

-- the last point of two lists, one after the other
last_of-append : (p : Point) (ps qs : List Point) → last_of p (ps ++ qs) ≡ last_of (last_of p ps) qs
last_of-append p [] qs = refl
last_of-append p (r ∷ ps) qs = last_of-append r ps qs

-- before the first point nothing is written
pub has_put_none : (start : Point) (points : List Point) (old : List ℕ) → HasPut start points points start old old
has_put_none start points old = record { put = []; held = sym (append-nil old); told = refl; ends = refl }

-- some more points are written
pub has_put_more : {start p q : Point} {points left : List Point} {old text after : List ℕ} (part : List Point)
    → HasPut start points (part ++ left) p old text
    → q ≡ last_of p part → after ≡ text ++ polyline_from p part → HasPut start points left q old after
has_put_more {p = p} {left = left} {old = old} part has moved e = record {
  put = has.put ++ polyline_from p part;
  held = e ∙ ap (λ t. t ++ polyline_from p part) has.held ∙ append_assoc old has.put (polyline_from p part);
  told =
      append_assoc has.put (polyline_from p part) (polyline_from _ left)
      ∙ ap (λ r. has.put ++ (polyline_from p part ++ polyline_from r left)) moved
      ∙ ap (λ t. has.put ++ t) (sym (polyline_from-append p part left))
      ∙ has.told;
  ends = ap (λ r. last_of r left) moved ∙ sym (last_of-append p part left) ∙ has.ends;
}

-- the first points of all are written
pub has_put_first : {start q : Point} {points left : List Point} {old after : List ℕ} (part : List Point)
    → points ≡ part ++ left → q ≡ last_of start part → after ≡ old ++ polyline_from start part
    → HasPut start points left q old after
has_put_first {start = start} {points = points} {old = old} part split moved e =
    has_put_more part (subst (λ ps. HasPut start points ps start old old) split (has_put_none start points old)) moved e

-- after all points the cursor is at the last one
pub has_put_last : {start p : Point} {points left : List Point} {old text : List ℕ}
    → HasPut start points left p old text → left ≡ [] → p ≡ last_of start points
has_put_last {p = p} has done = sym (ap (last_of p) done) ∙ has.ends

-- a text appended to what was written
pub put_behind : (old put more text middle : List ℕ) → text ≡ old ++ put → middle ≡ text ++ more
    → middle ≡ old ++ (put ++ more)
put_behind old put more text middle held e = e ∙ ap (λ t. t ++ more) held ∙ append_assoc old put more

-- the text of two points
pub pair_text : (p middle : Point) (pair : List Point) (d e : Point) (ax ay bx by : ℤ)
    → length pair ≡ 2 → middle ≡ get_or pair 0 d
    → ax ≡ (get_or pair 0 d).x -ℤ p.x → ay ≡ (get_or pair 0 d).y -ℤ p.y
    → bx ≡ (get_or pair 1 e).x -ℤ middle.x → by ≡ (get_or pair 1 e).y -ℤ middle.y
    → (number_text ay ++ number_text ax) ++ (number_text by ++ number_text bx) ≡ polyline_from p pair
pair_text p middle (q ∷ r ∷ []) d e ax ay bx by two em eax eay ebx eby =
    append_assoc (number_text ay) (number_text ax) (number_text by ++ number_text bx)
    ∙ ap (λ t. number_text ay ++ (number_text ax ++ (number_text by ++ t))) (sym (append-nil (number_text bx)))
    ∙ rw (eax, eay, ebx, eby, em) refl
pair_text p middle _ d e ax ay bx by two em eax eay ebx eby = absurd (omega arith)

-- ---- points in pairs

-- the pairs are all points but the rest after them
points_split : (points : List Point) (k : ℕ) → points_of (first_chunks 2 k points) ++ drop (k * 2) points ≡ points
points_split points zero = refl
points_split points (suc k) =
    let place : suc k * 2 ≡ 2 + k * 2 = omega arith in
    let pairs = points_of (first_chunks 2 k (drop 2 points)) in
    append_assoc (take 2 points) pairs (drop (suc k * 2) points)
    ∙ ap (λ ps. take 2 points ++ (pairs ++ ps)) (ap (λ j. drop j points) place ∙ sym (drop-drop (k * 2) 2 points))
    ∙ ap (λ ps. take 2 points ++ ps) (points_split (drop 2 points) k)
    ∙ take-append-drop 2 points

-- the points are those of the pairs and the rest after them
pub points_are : (points rest : List Point) (pairs : List (List Point)) (k : ℕ)
    → pairs ≡ first_chunks 2 k points → rest ≡ drop (k * 2) points
    → points ≡ points_of pairs ++ rest
points_are points rest pairs k chunks behind = sym (points_split points k)
    ∙ ap (λ ps. ps ++ drop (k * 2) points) (ap points_of (sym chunks))
    ∙ ap (λ ps. points_of pairs ++ ps) (sym behind)

-- an element of a list, and the elements after it
pub left_one : {X : Type 0} (xs : List X) (i : ℕ) (x : X) → i < length xs → x ≡ get_or xs i x
    → drop i xs ≡ x ∷ drop (i + 1) xs
left_one xs i x within read = drop-cons xs i x within ∙ ap (λ y. y ∷ drop (suc i) xs) (sym read)
    ∙ ap (λ j. x ∷ drop j xs) (sym (add-one i))

-- one more of the pairs that are left
pub left_pair : (pairs : List (List Point)) (i : ℕ) (pair : List Point) → i < length pairs
    → pair ≡ get_or pairs i pair → points_of (drop i pairs) ≡ pair ++ points_of (drop (i + 1) pairs)
left_pair pairs i pair within read = ap points_of (left_one pairs i pair within read)

-- ==== The characters of numbers in the bytes of a word.

-- ---- one number

-- 63 in each byte
abbrev pub bases : ℕ → ℕ
bases zero = 0
bases (suc k) = 63 + 256 * bases k

-- the groups of a number in a word, each with its mark, are its characters
spelled : (k j c n : ℕ) → suc c ≤ k → suc c ≤ j → n < 32 ^ suc c → (0 < c → 32 ^ c ≤ n)
    → low_digits 256 (suc c) (spread k n + marks (suc c) + bases j) ≡ shortest five_unit 32 n
spelled (suc k) (suc j) zero n few room below above =
    let small : n < 32 = omega arith in
    ap (λ b. b ∷ []) (let byte : (n % 32 + 256 * spread k (n / 32) + 0 + (63 + 256 * bases j)) % 256
    ≡ n + 63 = omega arith in byte)
    ∙ sym (shortest_one five_unit 32 n small)
spelled (suc k) (suc j) (suc c) n few room below above =
    let large : 32 ^ suc c ≤ n = above (omega arith) in
    let power : 32 ^ suc c ≡ 32 ^ c * 32 = pow-suc 32 c in
    let one : 1 ≤ 32 ^ c = one-le-pow c 32 (lit≤ tt) in
    let word = n % 32 + 256 * spread k (n / 32) + (32 + 256 * marks (suc c)) + (63 + 256 * bases j) in
    let low : word % 256 ≡ n % 32 + 95 = omega arith in
    let high : word / 256 ≡ spread k (n / 32) + marks (suc c) + bases j = omega arith in
    let small : n / 32 < 32 ^ suc c = div_below n 32 (32 ^ suc c) (lit≤ tt) (rw (pow-suc 32 (suc c)) at below) in
    let rest : 32 ^ c ≤ n / 32 = le-div (32 ^ c) n 32 (lit≤ tt) (omega arith) in
    let first : n % 32 + 95 ≡ five_unit (n % 32) true = omega arith in
    ap (λ b. b ∷ low_digits 256 (suc c) (word / 256)) (low ∙ first)
    ∙ ap (λ w. five_unit (n % 32) true ∷ low_digits 256 (suc c) w) high
    ∙ ap (λ us. five_unit (n % 32) true ∷ us) (spelled k j c (n / 32) (omega arith) (omega arith) small (λ _. rest))
    ∙ sym (shortest_more five_unit 32 n (lit≤ tt) (omega arith))
spelled _ _ c n few room below above = absurd (omega arith)

-- the groups in a word are the characters, by the number of groups
pub spelled_groups : (k j n c : ℕ) → HasGroups n c → c ≤ k → c ≤ j
    → low_digits 256 c (spread k n + marks c + bases j) ≡ shortest five_unit 32 n
spelled_groups k j n zero h few room = absurd (omega (arith, h.some))
spelled_groups k j n (suc c) h few room =
    let above : 0 < c → 32 ^ c ≤ n = λ some. let power : suc c - 1 ≡ c = omega arith in
    rw power at (h.above (omega arith)) in
    spelled k j c n few room h.below above

-- ==== Numbers of up to eight groups: the number of groups, and their characters in a word of 64 bits.

-- 2 ^ (5 k) is 32 ^ k
fives : (k : ℕ) → 2 ^ (5 * k) ≡ 32 ^ k
fives zero = refl
fives (suc k) =
    let next : 5 * suc k ≡ 5 * k + 5 = omega arith in
    rw (next, pow-add 2 (5 * k) 5, fives k, pow-suc 32 k) refl

-- the number of groups of a number whose top bit is at j
groups_by_top : (n j : ℕ) → n < 2 ^ suc j → (0 < j → 2 ^ j ≤ n) → HasGroups n (j / 5 + 1)
groups_by_top n j below above = record {
  some = omega arith;
  below =
      let most : 2 ^ suc j ≤ 2 ^ (5 * (j / 5 + 1)) = pow-le-pow_right {n = 2} (lit< tt)
      (let q : suc j ≤ 5 * (j / 5 + 1) = omega arith in q) in
      omega (arith, fives (j / 5 + 1));
  above = λ two.
      let least : 2 ^ (5 * (j / 5 + 1 - 1)) ≤ 2 ^ j = pow-le-pow_right {n = 2} (lit< tt)
      (let q : 5 * (j / 5 + 1 - 1) ≤ j = omega arith in q) in
      omega (arith, fives (j / 5 + 1 - 1), above (omega arith));
}

-- a number is at or above a power of 2 if it is so with its lowest bit set
above_power : (n j : ℕ) → 0 < j → 2 ^ j ≤ bit_or n 1 → 2 ^ j ≤ n
above_power n j some h =
    elim (cases_lt n (2 ^ j)) [
      | inl below ↦ absurd (let small : bit_or n 1 < 2 ^ j = or_lt j n 1 below
          (let two : 2 ^ 1 ≤ 2 ^ j = pow-le-pow_right {n = 2} (lit< tt) some in omega arith) in
          omega arith)
      | inr large ↦ large
    ]

-- the number of groups, as the code counts them
pub group_count : (n z : ℕ) → n < 2 ^ 40 → z ≡ count_leading_zeros 64 (bit_or n 1) → HasGroups n ((68 - z) / 5)
group_count n z small e =
    let m = bit_or n 1 in
    let fits : m < 2 ^ 40 = or_lt 40 n 1 small (lit< tt) in
    let one : 1 ≤ m = le_or_r n 1 in
    let top = leading_top 64 m (omega arith) (omega arith) in
    let j = top.0 in
    let place : count_leading_zeros 64 m + suc j ≡ 64 = top.1 in
    let count : (68 - z) / 5 ≡ j / 5 + 1 = omega arith in
    let below : n < 2 ^ suc j = omega (arith, le_or_l n 1, top.3) in
    rw count (groups_by_top n j below (λ some. above_power n j some top.2))

-- a number below 2 ^ 40 has at most eight groups
pub few_groups : (n c : ℕ) → n < 2 ^ 40 → HasGroups n c → c ≤ 8
few_groups n c small h =
    elim (cases_lt 8 c) [
      | inl many ↦
          let power : 32 ^ 8 ≤ 32 ^ (c - 1) = pow-le-pow_right {n = 32} (lit< tt)
          (let q : 8 ≤ c - 1 = omega arith in q) in
          absurd (omega (arith, h.above (omega arith)))
      | inr few ↦ few
    ]

-- the remainder by a power keeps the marks of all groups but the last
pub marks_cut : (c : ℕ) → 1 ≤ c → c ≤ 8 → 2314885530818453536 % ((1 * 2 ^ (8 * c - 8)) % 2 ^ 64) ≡ marks c
marks_cut zero some few = absurd (omega arith)
marks_cut (suc (suc (suc (suc (suc (suc (suc (suc (suc c))))))))) some few = absurd (omega arith)
marks_cut (suc _) some few = refl

-- the groups of a number in a word of 64 bits, each with its marks, are its characters
pub spelled_far : (n c groups : ℕ) → HasGroups n c → c ≤ 8 → groups ≡ spread 8 n
    → low_digits 256 c (groups + 2314885530818453536 % ((1 * 2 ^ (8 * c - 8)) % 2 ^ 64)
    + 4557430888798830399) ≡ shortest five_unit 32 n
spelled_far n c groups h few e = rw (marks_cut c h.some few, e) (spelled_groups 8 8 n c h few few)

-- a number of 64 bits has at most 13 characters
pub few_characters : (n : ℕ) → n < 2 ^ 64 → length (shortest five_unit 32 n) ≤ 13
few_characters n fits = rw (length-units_of five_unit (digits 32 n)) (length-digits-le 32 12 n (lit≤ tt) (omega arith))

-- ==== The lanes of a vector, one number in each.

-- groups put at their places add up without a carry
placed : (a b c d : ℕ) → a < 32 → b < 32 → c < 32 → d < 32
    → (((a + (b * 256) % 2 ^ 32) % 2 ^ 32 + (c * 65536) % 2 ^ 32) % 2 ^ 32 + (d * 16777216) % 2
    ^ 32) % 2 ^ 32 ≡ a + 256 * (b + 256 * (c + 256 * d))
placed a b c d ha hb hc hd = omega arith

-- a lane holds the groups of its number
pub spread_lane : (n : ℕ) → n < 2 ^ 20
    → (((bit_and n 31 + (bit_and (n / 32) 31 * 256) % 2 ^ 32) % 2 ^ 32
    + (bit_and (n / 1024) 31 * 65536) % 2 ^ 32) % 2 ^ 32 + (n / 32768 * 16777216) % 2 ^ 32) % 2 ^ 32
    ≡ spread 4 n
spread_lane n small =
    rw (and_mask n 5, and_mask (n / 32) 5, and_mask (n / 1024) 5)
    (placed (n % 32) (n / 32 % 32) (n / 1024 % 32) (n / 32768) (omega arith) (omega arith) (omega arith) (omega arith)
    ∙ omega arith)

-- ==== A point in a text: its two numbers, or its fault.

-- a number whose form is below 2 ^ 40 is in the range of a coordinate
pub near : (n : ℤ) → zigzag_of n < 2 ^ 40 → IsCoordinate n
near (pos n) small = omega (arith, ints)
near (negsuc n) small = omega (arith, ints)

-- a step is the difference of its ends
pub back : (a b d : ℤ) → a ≡ b +ℤ d → a -ℤ b ≡ d
back a b d e = omega (arith, ints)

-- a latitude and a longitude make a point
pub point_read : {text : List ℕ} {start middle end : ℕ} {dx dy : ℤ} {p q : Point}
    → IsNumberAt text start dy middle → IsNumberAt text middle dx end → q ≡ moved_by p dx dy
    → IsPointAt text start p q end
point_read {dx = dx} {dy = dy} {p = p} {q = q} latitude longitude moved = record {
  split = rw (back q.x p.x dx (ap (λ (s : Point). s.x) moved), back q.y p.y dy (ap (λ (s : Point). s.y) moved))
      (latitude.number.split ∙ ap (λ t. number_text dy ++ t) longitude.number.split);
  further = omega (arith, latitude.some, longitude.some);
  within = longitude.within;
}

-- text is left at a place before its end
pub text_left : (text : List ℕ) (at : ℕ) → at < length text → drop at text ≡ [] → ⊥
text_left text at h e = let none = ap length e in omega (arith, length-drop at text)

-- a fault of the longitude is a fault of the point
pub refused_after : {text : List ℕ} {start middle : ℕ} {dy : ℤ} (p : Point) (e : PolyFault)
    → IsNumberAt text start dy middle → IsCoordinate (p.y +ℤ dy)
    → IsRefusedFrom middle (IsLongitudeFault p.x (drop middle text)) e
    → IsRefusedFrom start (IsPointFault p (drop start text)) e
refused_after p Memory latitude inside f = absurd f
refused_after {dy = dy} p (At offset reason) latitude inside f = (
  length (number_text dy) + f.0,
  omega (arith, latitude.further, f.1),
  after_latitude p dy f.0 reason latitude.number inside f.2,
)

-- a fault of its number is a fault of the longitude
pub longitude_number : (text : List ℕ) (middle : ℕ) (x : ℤ) (e : PolyFault) → middle < length text
    → IsRefusedFrom middle (IsNumberFault (drop middle text)) e
    → IsRefusedFrom middle (IsLongitudeFault x (drop middle text)) e
longitude_number text middle x Memory more f = absurd f
longitude_number text middle x (At offset reason) more f = (f.0, f.1, inr (text_left text middle more, inl f.2))

-- a longitude that leaves its range is a fault
pub longitude_range : {text : List ℕ} {middle end : ℕ} (x dx : ℤ) → middle < length text
    → IsNumberAt text middle dx end → (IsCoordinate (x +ℤ dx) → ⊥)
    → IsRefusedFrom middle (IsLongitudeFault x (drop middle text)) (At middle Range)
longitude_range {text = text} {middle = middle} x dx more longitude outside =
    (0, omega arith, inr (text_left text middle more, leaves_range x dx longitude.number outside))

-- a fault of its number is a fault of the latitude
pub latitude_number : (text : List ℕ) (start : ℕ) (p : Point) (e : PolyFault)
    → IsRefusedFrom start (IsNumberFault (drop start text)) e
    → IsRefusedFrom start (IsPointFault p (drop start text)) e
latitude_number text start p Memory f = absurd f
latitude_number text start p (At offset reason) f = (f.0, f.1, inl (inl f.2))

-- a latitude that leaves its range is a fault
pub latitude_range : {text : List ℕ} {start middle : ℕ} (p : Point) (dy : ℤ)
    → IsNumberAt text start dy middle → (IsCoordinate (p.y +ℤ dy) → ⊥)
    → IsRefusedFrom start (IsPointFault p (drop start text)) (At start Range)
latitude_range p dy latitude outside = (0, omega arith, inl (leaves_range p.y dy latitude.number outside))

-- a latitude with no text after it is a fault
pub no_longitude : {text : List ℕ} {start middle : ℕ} {dy : ℤ} (p : Point)
    → IsNumberAt text start dy middle → IsCoordinate (p.y +ℤ dy) → middle ≡ length text
    → IsRefusedFrom start (IsPointFault p (drop start text)) (At middle Half)
no_longitude {text = text} {middle = middle} p latitude inside end =
    refused_after p (At middle Half) latitude inside
    (0, omega arith, inl (drop_all middle text (omega arith), refl, refl))

-- ---- a point whose numbers are read at once

-- two numbers that are the next characters are a point
pub point_in_text : (text : List ℕ) (start count end : ℕ) (dx dy : ℤ) (p q : Point) → end ≡ start + count
    → start ≤ length text → count ≤ length (drop start text)
    → take count (drop start text) ≡ number_text dy ++ number_text dx
    → q ≡ moved_by p dx dy → IsPointAt text start p q end
point_in_text text start count end dx dy p q end_is begun within spelled to_q =
    let rest = drop count (drop start text) in
    let rest_is : rest ≡ drop end text = drop-drop count start text ∙ ap (λ n. drop n text) (sym end_is) in
    let some = number_text_length dy in
    let long : count ≡ length (number_text dy) + length (number_text dx) =
    sym (length-take-le count (drop start text) within) ∙ ap length spelled
    ∙ length-append (number_text dy) (number_text dx) in
    let left = length-drop start text in
    record {
      split =
          rw (back q.x p.x dx (ap (λ (s : Point). s.x) to_q), back q.y p.y dy (ap (λ (s : Point). s.y) to_q))
          (sym (take-append-drop count (drop start text)) ∙ ap (λ t. t ++ rest) spelled
          ∙ append_assoc (number_text dy) (number_text dx) rest
          ∙ ap (λ t. number_text dy ++ (number_text dx ++ t)) rest_is);
      further = omega arith;
      within = omega arith;
    }

-- two numbers that are a whole text are a point
pub point_of_text : (text : List ℕ) (dx dy : ℤ) (p q : Point) → text ≡ number_text dy ++ number_text dx
    → q ≡ moved_by p dx dy → IsPointAt text 0 p q (length text)
point_of_text text dx dy p q spelled to_q = point_in_text text 0 (length text) (length text) dx dy p q
    (omega arith) (omega arith) (omega arith) (take_all (length text) text (omega arith) ∙ spelled) to_q

-- ==== Points in a text, one after the other.

-- one point
one_at : {text : List ℕ} {start end : ℕ} {p q : Point} → IsPointAt text start p q end → IsInRange q
    → ArePointsAt text start p (q ∷ []) q end
one_at {end = end} point inside = (end, point, inside, (refl, refl))

-- some points and others after them are points one after the other
points_on : (ps qs : List Point) (text : List ℕ) (i j k : ℕ) (p q r : Point)
    → ArePointsAt text i p ps q j → ArePointsAt text j q qs r k
    → ArePointsAt text i p (ps ++ qs) r k
points_on [] qs text i j k p q r (same, end) others =
    subst (λ (o : Point). ArePointsAt text i o qs r k) same
    (subst (λ n. ArePointsAt text n q qs r k) end others)
points_on (o ∷ ps) qs text i j k p q r (middle, first, inside, rest) others =
    (middle, first, inside, points_on ps qs text middle j k o q r rest others)

-- points end inside the text
pub points_end : (ps : List Point) (text : List ℕ) (i j : ℕ) (p q : Point) → i ≤ length text
    → ArePointsAt text i p ps q j → j ≤ length text
points_end [] text i j p q before (same, end) = omega (arith, end)
points_end (r ∷ rs) text i j p q before (middle, first, inside, rest) =
    points_end rs text middle j r q first.within rest

-- points end at or after the place where they begin
pub points_from : (ps : List Point) (text : List ℕ) (i j : ℕ) (p q : Point) → ArePointsAt text i p ps q j → i ≤ j
points_from [] text i j p q (same, end) = omega (arith, end)
points_from (r ∷ rs) text i j p q (middle, first, inside, rest) =
    omega (arith, first.further, points_from rs text middle j r q rest)

-- the text begins with the text of the points, whose last is this one and which are in range
points_told : (ps : List Point) (text : List ℕ) (i j : ℕ) (p q : Point) → ArePointsAt text i p ps q j
    → (drop i text ≡ polyline_from p ps ++ drop j text) × (q ≡ last_of p ps) × AreInRange ps
points_told [] text i j p q (same, end) = (ap (λ n. drop n text) (sym end), same, tt)
points_told (r ∷ rs) text i j p q (middle, first, inside, rest) =
    let told = points_told rs text middle j r q rest in (
      first.split ∙ ap (λ t. number_text (r.y -ℤ p.y) ++ (number_text (r.x -ℤ p.x) ++ t)) told.0
          ∙ sym (regroup p r rs (drop j text)),
      told.1,
      (inside, told.2),
    )

-- ---- points read at once

-- steps at `start` are points there
steps_read : (ps : List Point) (text : List ℕ) (start used : ℕ) (p : Point) → start ≤ length text
    → AreStepsTo character_step p (drop start text) ps used
    → ArePointsAt text start p ps (last_of p ps) (start + used)
steps_read [] text start used p before none = (refl, omega (arith, none))
steps_read (q ∷ qs) text start used p before (first, rest, all, there, on) =
    let middle = start + first in
    let point = point_in_text text start first middle there.dx there.dy p q refl before there.within there.spelled
    there.leads in
    let end : middle + rest ≡ start + used = omega (arith, all) in (
      middle,
      point,
      there.kept,
      subst (λ n. ArePointsAt text middle q qs (last_of q qs) n) end
          (steps_read qs text middle rest q point.within
          (subst (λ t. AreStepsTo character_step q t qs rest) (drop-drop first start text) on)),
    )

-- two steps from p are points there
pub two_read : {text : List ℕ} {start used : ℕ} {p from q r : Point} → start ≤ length text → from ≡ p
    → AreStepsTo character_step from (drop start text) (q ∷ r ∷ []) used
    → ArePointsAt text start p (q ∷ r ∷ []) r (start + used)
two_read {q = q} {r = r} before same steps = rw same at (steps_read (q ∷ r ∷ []) _ _ _ _ before steps)

-- steps in the rest of the text, the last of which is known
pub rest_read : (ps : List Point) (text : List ℕ) (at used : ℕ) (p q : Point) → at ≤ length text
    → AreStepsTo character_step p (take (length text - at) (drop at text)) ps used → last_of p ps ≡ q
    → ArePointsAt text at p ps q (at + used)
rest_read ps text at used p q before steps last =
    subst (λ (o : Point). ArePointsAt text at p ps o (at + used)) last
    (steps_read ps text at used p before
    (subst (λ t. AreStepsTo character_step p t ps used) (take_rest text at) steps))

-- ---- what the reader has appended

-- nothing was appended
pub put_none : {text : List ℕ} {start room : ℕ} {p : Point} {old : List Point}
    → HasPutOn text start room p old old p start
put_none {old = old} = record {
  ps = [];
  points = (refl, refl);
  few = omega arith;
  appended = sym (append-nil old);
}

-- more points are appended
pub put_on : {text : List ℕ} {start few room at end : ℕ} {p q r : Point} {old held after : List Point}
    (qs : List Point) (has : HasPutOn text start few p old held q at) → ArePointsAt text at q qs r end
    → length has.ps + length qs ≤ room → after ≡ held ++ qs → HasPutOn text start room p old after r end
put_on {old = old} qs has points fits appended = record {
  ps = has.ps ++ qs;
  points = points_on has.ps qs _ _ _ _ _ _ _ has.points points;
  few = omega (arith, length-append has.ps qs);
  appended = appended ∙ ap (λ ps. ps ++ qs) has.appended ∙ append_assoc old has.ps qs;
}

-- one more point is appended
pub put_one : {text : List ℕ} {start few room at end : ℕ} {p q r : Point} {old held after : List Point}
    (has : HasPutOn text start few p old held q at) → IsPointAt text at q r end → IsInRange r
    → length has.ps < room → after ≡ held ++ r ∷ [] → HasPutOn text start room p old after r end
put_one has point inside fits appended = put_on (_ ∷ []) has (one_at point inside) (omega arith) appended

-- points appended within a small room were appended within a larger one
pub put_fewer : {text : List ℕ} {start few room at : ℕ} {p q : Point} {old held : List Point}
    → HasPutOn text start few p old held q at → few ≤ room → HasPutOn text start room p old held q at
put_fewer has fits = record {
  ps = has.ps;
  points = has.points;
  few = omega (arith, has.few);
  appended = has.appended;
}

-- the number of points appended
pub put_count : {text : List ℕ} {start room at : ℕ} {p q : Point} {old held : List Point}
    (has : HasPutOn text start room p old held q at) → length held ≡ length old + length has.ps
put_count {old = old} has = ap length has.appended ∙ length-append old has.ps

-- memory is refused for one point
pub short_one : {text : List ℕ} {start end : ℕ} {p q : Point} → IsPointAt text start p q end → IsInRange q
    → IsShortOfMemory text start 1 p
short_one point inside = record {
  ps = [];
  last = _;
  middle = _;
  points = (refl, refl);
  few = omega arith;
  next = _;
  end = _;
  point = point;
  in_range = inside;
}

-- memory is refused for one of the points after others
pub short_on : {text : List ℕ} {start few room at : ℕ} {p q : Point} {old held : List Point} (qs : List Point)
    (end : ℕ) (r : Point) (has : HasPutOn text start few p old held q at) → ArePointsAt text at q qs r end
    → 0 < length qs → length has.ps + length qs ≤ room → IsShortOfMemory text start room p
short_on [] last r has points some fits = absurd (omega arith)
short_on (o ∷ qs) last r has (end, point, inside, rest) some fits = record {
  ps = has.ps;
  last = _;
  middle = _;
  points = has.points;
  few = omega arith;
  next = o;
  end = end;
  point = point;
  in_range = inside;
}

-- ---- points that are counted

-- Points were read from the start of a text, the last of them this one, and this is their number.
pub record IsCounted (text : List ℕ) (max : ℕ) (last : Point) (at count : ℕ) : Type 0 where
  pub held : List Point
  pub read : HasPutOn text 0 max origin [] held last at
  pub counted : count ≡ length held

-- no point was counted
pub counted_none : {text : List ℕ} {max : ℕ} → IsCounted text max origin 0 0
counted_none = record { held = []; read = put_none; counted = refl }

-- more points are counted
pub counted_on : {text : List ℕ} {max at end count after : ℕ} {q r : Point} (qs : List Point)
    → IsCounted text max q at count → ArePointsAt text at q qs r end → count + length qs ≤ max
    → after ≡ count + length qs → IsCounted text max r end after
counted_on qs has points fits more = record {
  held = has.held ++ qs;
  read = put_on qs has.read points (omega (arith, has.counted, put_count has.read)) refl;
  counted = omega (arith, has.counted, length-append has.held qs);
}

-- one more point is counted
pub counted_one : {text : List ℕ} {max at end count after : ℕ} {q r : Point}
    → IsCounted text max q at count → IsPointAt text at q r end → IsInRange r → count < max
    → after ≡ count + 1 → IsCounted text max r end after
counted_one has point inside fits more = counted_on (_ ∷ []) has (one_at point inside) (omega arith) more

-- the number of points that were put into an empty list
pub put_alone : {text : List ℕ} {start room at : ℕ} {p q : Point} {old held : List Point}
    (has : HasPutOn text start room p old held q at) → old ≡ [] → length has.ps ≡ length held
put_alone has none = omega (arith, put_count has, ap (λ (ps : List Point). length ps) none)

-- the points counted are no more than the most
pub few_counted : {text : List ℕ} {max at count : ℕ} {q : Point} → IsCounted text max q at count → count ≤ max
few_counted has = omega (arith, has.counted, put_count has.read, has.read.few)

-- ---- the points read from the start of a text

module _ {text : List ℕ} {max at : ℕ} {cursor : Point} {old held : List Point}
    (has : HasPutOn text 0 max origin old held cursor at) where
  -- they end inside the text
  pub read_within : at ≤ length text
  read_within = points_end has.ps text 0 at origin cursor (omega arith) has.points

  -- the text begins with their text
  told : (text ≡ polyline has.ps ++ drop at text) × (cursor ≡ last_of origin has.ps) × AreInRange has.ps
  told = points_told has.ps text 0 at origin cursor has.points

  -- their text ends at `at`
  front_length : length (polyline has.ps) ≡ at
  front_length = omega (
    arith,
    ap length told.0,
    length-append (polyline has.ps) (drop at text),
    length-drop at text,
    read_within,
  )

  -- at the end of the text all its points are read
  pub has_read_all : length text ≤ at → AppendsDecoded text max old held
  has_read_all done = record {
    ps = has.ps;
    appended = has.appended;
    decoded = record {
      spelled = told.0 ∙ ap (λ t. polyline has.ps ++ t) (drop_all at text done) ∙ append-nil (polyline has.ps);
      in_range = told.2;
      few = has.few;
    };
  }

  -- the next point is refused, or is a point too many
  refused_next : (k : ℕ) (reason : PolyReason) (offset : ℕ) → at < length text → offset ≡ at + k
      → IsNextFault cursor (length has.ps) max (drop at text) k reason → IsTextFault text max offset reason
  refused_next k reason offset more place fault = record {
    ps = has.ps;
    rest = drop at text;
    split = told.0;
    in_range = told.2;
    left = text_left text at more;
    within = k;
    place = omega (arith, front_length);
    fault = rw told.1 at fault;
  }

  -- a point too many is a fault of the text
  pub one_too_many : at < length text → length has.ps ≡ max → IsRefused text max (At at TooMany)
  one_too_many more full = refused_next 0 TooMany at more (omega arith) (inl (full, refl, refl))

  -- a fault of the next point is a fault of the text
  pub text_refused : (e : PolyFault) → at < length text → length has.ps < max
      → IsRefusedFrom at (IsPointFault cursor (drop at text)) e → IsRefused text max e
  text_refused Memory more room f = absurd f
  text_refused (At offset reason) more room f = refused_next f.0 reason offset more f.1 (inr (room, f.2))

  -- the text is refused for want of memory for one of the next points
  pub no_memory : (room : ℕ) → IsShortOfMemory text at room cursor → length has.ps + room ≤ max
      → IsRefused text max Memory
  no_memory room short fits =
      let before = put_on {room = max} short.ps has short.points (omega (arith, short.few)) refl in
      let all = put_one {room = max} before short.point short.in_range
      (omega (arith, short.few, put_count has, put_count before, length-append held short.ps)) refl in
      let read = points_told all.ps text 0 short.end origin short.next all.points in
      record {
        ps = all.ps;
        rest = drop short.end text;
        split = read.0;
        in_range = read.2;
        some = omega (
          arith,
          put_count has,
          put_count all,
          length-append (held ++ short.ps) (short.next ∷ []),
          length-append held short.ps,
        );
        few = all.few;
      }

-- at the end of the text all its points are counted
pub all_counted : {text : List ℕ} {max at count : ℕ} {q : Point} → IsCounted text max q at count
    → length text ≤ at → (ps : List Point) × DecodesTo text max ps × (length ps ≡ count)
all_counted has done =
    let all = has_read_all has.read done in
    (all.ps, all.decoded, omega (arith, has.counted, ap (λ (ps : List Point). length ps) all.appended))

-- ==== Texts that are the polyline of one point, and texts that are not.

-- the first point is read
first_read : {text : List ℕ} {q : Point} {end : ℕ} → IsPointAt text 0 origin q end → IsInRange q
    → HasPutOn text 0 1 origin [] (q ∷ []) q end
first_read {q = q} point inside = record {
  ps = q ∷ [];
  points = one_at point inside;
  few = omega arith;
  appended = refl;
}

-- a text whose first point ends with it is the polyline of one point
pub one_point : {text : List ℕ} {q : Point} {end : ℕ} → IsPointAt text 0 origin q end → IsInRange q
    → length text ≤ end → DecodesTo text 1 (q ∷ [])
one_point {text = text} {q = q} point inside done = behind_none text 1 [] (q ∷ []) refl
    (has_read_all (first_read point inside) done)

-- an empty text is not the polyline of one point
pub one_of_none : (text : List ℕ) → length text ≡ 0 → (p : Point) → DecodesTo text 1 (p ∷ []) → ⊥
one_of_none text none p read =
    let dy = number_text (p.y -ℤ origin.y) in
    let dx = number_text (p.x -ℤ origin.x) in
    omega (arith, none, ap length read.spelled, length-append dy (dx ++ []), number_text_length (p.y -ℤ origin.y))

-- a text with more after its first point is not the polyline of one point
pub one_with_more : {text : List ℕ} {q : Point} {end : ℕ} → IsPointAt text 0 origin q end
    → IsInRange q → end < length text → (p : Point) → DecodesTo text 1 (p ∷ []) → ⊥
one_with_more {text = text} {end = end} point inside more p read =
    let first = first_read point inside in
    text_fault_none text 1 end TooMany (p ∷ []) (one_too_many first more (omega (arith, put_count first))) read

-- a text whose first point is refused is not the polyline of one point
pub one_refused : (text : List ℕ) (e : PolyFault) → 0 < length text
    → IsRefusedFrom 0 (IsPointFault origin text) e → (p : Point) → DecodesTo text 1 (p ∷ []) → ⊥
one_refused text Memory some fault p read = absurd fault
one_refused text (At offset reason) some fault p read =
    let begun : HasPutOn text 0 1 origin [] [] origin 0 = put_none in
    text_fault_none text 1 offset reason (p ∷ [])
    (text_refused begun (At offset reason) some (omega (arith, put_count begun)) fault) read

-- ==== The text of a reason is short.

-- the text of each reason is short
pub short_point_text : (reason : PolyReason) → length (point_text_words reason) ≤ 31
short_point_text text.BadChar = omega arith
short_point_text _ = omega arith
