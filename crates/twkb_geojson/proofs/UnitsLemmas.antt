-- What the text of a coordinate says in units of its precision, and that of an id as a whole number.
use Rattle.std.proofs.Common.{◌≡◌, ℕ, zero, suc, ◌+◌, ◌-◌, ◌*◌, ◌/◌, ◌%◌, ◌^◌, ◌<◌, ◌≤◌, List, [], ◌∷◌, ◌++◌}
use Rattle.std.proofs.Common.{refl, ap, ◌∙◌, inl, inr, arith, eq-zero-or-pos, sym, ℤ, pos, negsuc, nat_abs, get_or}
use Rattle.std.proofs.Common.{ne_eqb, false, Some, append-nil, subst}
use Rattle.std.proofs.Math.Nat.{pow-zero, mod-one}
use Rattle.std.proofs.Math.Nat.{eq_of_mul-eq-mul_right}
use Rattle.std.proofs.lemmas.Nat.{div-add-mod', mod_below, pow-add, div-mul-add}
use Rattle.std.proofs.lemmas.Fmt.{decimal_by_steps_wide}
use Rattle.std.specs.List.{AllByRecursion}
use Rattle.std.specs.Fmt.{decimal, signed_decimal}
use lib.Dec.{leb→le}
use Rattle.json.specs.Json.{number}
use Rattle.twkb_points.specs.Point.{IsCoordinate}
use Rattle.twkb_tree.specs.Tree.{IsPrecision, IsId}
use Rattle.twkb_geojson.specs.Coordinate.{coordinate_text, size_text, fraction_text, fraction_digits, parts}
use Rattle.twkb_geojson.specs.Coordinate.{places_above, spelled_after, places_in}
use Rattle.twkb_geojson.specs.Reading.{before_exponent, after_mark, is_negative, signed, places_up, places_down}
use Rattle.twkb_geojson.specs.Reading.{nearest, units_said, whole_said}
use Rattle.twkb_geojson.proofs.DigitLemmas.{ten_pow, first_below}
use Rattle.twkb_geojson.proofs.ReadingLemmas.{parts_below, exactly, size_begins, begins_with_digit, spelled_decimal}
use Rattle.twkb_geojson.proofs.ReadingLemmas.{places_in_decimal}

-- ---- texts without exponents

-- the character is no letter
abbrev IsLow : ℕ → Type 0
IsLow c = c < 58

low_append : (xs ys : List ℕ) → AllByRecursion IsLow xs → AllByRecursion IsLow ys → AllByRecursion IsLow (xs ++ ys)
low_append [] ys p q = q
low_append (x ∷ xs) ys p q = (p.0, low_append xs ys p.1 q)

no_exponent : (t : List ℕ) → AllByRecursion IsLow t → (before_exponent t ≡ t) × (after_mark t ≡ [])
unfolding before_exponent after_mark
no_exponent [] low = (refl, refl)
no_exponent (c ∷ cs) low =
    let r = no_exponent cs low.1 in
    rw (ne_eqb c 101 (λ e. absurd (omega (arith, low.0, e))), ne_eqb c 69 (λ e. absurd (omega (arith, low.0, e))))
    (ap (λ l. c ∷ l) r.0, r.1)

decimal_low : (n : ℕ) → n < 10 ^ 64 → AllByRecursion IsLow (decimal n)
decimal_low n fits = decimal_by_steps_wide (λ m ds. AllByRecursion IsLow ds)
    (λ m small. (omega (arith, small), tt))
    (λ m ds some ih. low_append ds ((48 + m % 10) ∷ []) ih (omega arith, tt))
    n fits

fraction_low : (k f : ℕ) → f < 10 ^ k → AllByRecursion IsLow (fraction_digits k f)
unfolding fraction_digits
fraction_low zero f h = tt
fraction_low (suc k) f h = elim (eq-zero-or-pos f) [
  | inl z ↦ rw z tt
  | inr p ↦
      rw (ne_eqb f 0 (λ e. absurd (omega (arith, p, e))))
      (omega (arith, first_below k f h), fraction_low k (f % 10 ^ k) (mod_below f (10 ^ k) (ten_pow k)))
]

fraction_text_low : (f : ℕ) → f < 10 ^ 8 → AllByRecursion IsLow (fraction_text f)
fraction_text_low f h = elim (eq-zero-or-pos f) [
  | inl z ↦ rw z tt
  | inr p ↦ rw (ne_eqb f 0 (λ e. absurd (omega (arith, p, e)))) (omega arith, fraction_low 8 f h)
]

size_low : (m : ℕ) → m < 10 ^ 64 → AllByRecursion IsLow (decimal (m / 100000000) ++ fraction_text (m % 100000000))
size_low m fits = low_append (decimal (m / 100000000)) (fraction_text (m % 100000000))
    (decimal_low (m / 100000000) (omega (arith, fits))) (fraction_text_low (m % 100000000) (omega arith))

coordinate_low : (p u : ℤ) → IsPrecision p → IsCoordinate u → AllByRecursion IsLow (coordinate_text p u)
unfolding size_text
coordinate_low p (pos n) known inside = size_low (parts p n) (parts_below p (pos n) known inside)
coordinate_low p (negsuc n) known inside =
    (omega arith, size_low (parts p (suc n)) (parts_below p (negsuc n) known inside))

-- ---- signs

no_sign : (t : List ℕ) → 48 ≤ get_or t 0 0 → is_negative t ≡ false
no_sign [] h = refl
no_sign (c ∷ cs) h = ne_eqb c 45 (λ e. absurd (omega (arith, h, e)))

coordinate_signed : (p u : ℤ) → IsPrecision p → IsCoordinate u
    → signed (is_negative (coordinate_text p u)) (nat_abs u) ≡ u
coordinate_signed p (pos n) known inside =
    ap (λ b. signed b n) (no_sign (coordinate_text p (pos n)) (size_begins p (pos n) known inside))
coordinate_signed p (negsuc n) known inside = refl

-- ---- the nearest whole number

-- it is at most half a unit off, and of two the greater
pub nearest_half : (a d : ℕ) → 0 < d
    → (2 * (nearest a d * d) ≤ 2 * a + d) × (2 * a < 2 * (nearest a d * d) + d)
nearest_half a d some =
    let x : ℕ = 2 * a + d in
    let split : x / (2 * d) * (2 * d) + x % (2 * d) ≡ x = div-add-mod' x (2 * d) in
    let below : x % (2 * d) < 2 * d = mod_below x (2 * d) (omega (arith, some)) in
    let whole : x / (2 * d) * (2 * d) ≡ 2 * (x / (2 * d) * d) = omega arith in
    (omega (arith, split, whole), omega (arith, split, whole, below))

nearest_exact : (s d : ℕ) → 0 < d → nearest (s * d) d ≡ s
nearest_exact s d some =
    let e : 2 * (s * d) + d ≡ s * (2 * d) + d = omega arith in
    ap (λ n. n / (2 * d)) e ∙ div-mul-add s (2 * d) d (omega (arith, some))

-- so many parts of 10 ^ -8 are a size in units
units_over : (p : ℤ) (s a l : ℕ) → IsPrecision p → s * 10 ^ 8 ≡ a * 10 ^ places_above p * 10 ^ l
    → s * 10 ^ (places_up p + 0) ≡ a * 10 ^ (places_down p + 0 + l)
units_over (pos k) s a l known says =
    let small : k ≤ 7 = omega (arith, leb→le k 7 known.1.le) in
    let eight : 8 - k + k ≡ 8 = omega (arith, small) in
    let whole : 10 ^ (8 - k) * 10 ^ k ≡ 10 ^ 8 = sym (pow-add 10 (8 - k) k) ∙ ap (λ n. 10 ^ n) eight in
    let up : k + 0 ≡ k = omega arith in
    let down : 0 + 0 + l ≡ l = omega arith in
    rw (up, down) (eq_of_mul-eq-mul_right (10 ^ 8) (ten_pow 8) (s * 10 ^ k) (a * 10 ^ l)
    (times s a (10 ^ k) (10 ^ (8 - k)) (10 ^ l) (10 ^ 8) says whole))
  where
    times : (s a x y w e : ℕ) → s * e ≡ a * y * w → y * x ≡ e → s * x * e ≡ a * w * e
    times s a x y w e says whole =
        let left : s * x * e ≡ s * e * x = omega arith in
        let right : a * y * w * x ≡ a * w * (y * x) = omega arith in
        left ∙ ap (λ n. n * x) says ∙ right ∙ ap (λ n. a * w * n) whole
units_over (negsuc k) s a l known says =
    let power : 10 ^ (9 + k) ≡ 10 ^ suc k * 10 ^ 8 = ap (λ n. 10 ^ n) (nine k) ∙ pow-add 10 (suc k) 8 in
    let up : s * 10 ^ (0 + 0) ≡ s = omega (arith, pow-zero 10) in
    let down : 10 ^ (suc k + 0 + l) ≡ 10 ^ suc k * 10 ^ l = ap (λ n. 10 ^ n) (none k l) ∙ pow-add 10 (suc k) l in
    up ∙ eq_of_mul-eq-mul_right (10 ^ 8) (ten_pow 8) s (a * (10 ^ suc k * 10 ^ l))
    (says ∙ ap (λ n. a * n * 10 ^ l) power ∙ times a (10 ^ suc k) (10 ^ l) (10 ^ 8)) ∙ ap (λ n. a * n) (sym down)
  where
    nine : (k : ℕ) → 9 + k ≡ suc k + 8
    nine k = omega arith

    none : (k l : ℕ) → suc k + 0 + l ≡ suc k + l
    none k l = omega arith

    times : (a x w e : ℕ) → a * (x * e) * w ≡ a * (x * w) * e
    times a x w e = omega arith

-- The text of a coordinate says its units.
pub units_back : (p u : ℤ) → IsPrecision p → IsCoordinate u → units_said p (coordinate_text p u) ≡ u
unfolding units_said spelled_after
units_back p u known inside =
    let t : List ℕ = coordinate_text p u in
    let plain = no_exponent t (coordinate_low p u known inside) in
    let d : ℕ = 10 ^ (places_down p + 0 + places_in t) in
    let above = units_over p (spelled_after 0 t) (nat_abs u) (places_in t) known (exactly p u known inside) in
    rw (plain.0, plain.1)
    (ap (λ n. signed (is_negative t) (nearest n d)) above
    ∙ ap (λ n. signed (is_negative t) n) (nearest_exact (nat_abs u) d (ten_pow (places_down p + 0 + places_in t)))
    ∙ coordinate_signed p u known inside)

-- ---- ids

id_low : (id : ℤ) → IsId id → AllByRecursion IsLow (signed_decimal id)
id_low (pos n) h = decimal_low n (omega (arith, leb→le n 9223372036854775807 h.1.le))
id_low (negsuc n) h = (omega arith, decimal_low (suc n) (omega (arith, leb→le n 9223372036854775807 h.0.le)))

-- a text of digits alone has no places and spells its number
id_spelled : (id : ℤ) → IsId id
    → (spelled_after 0 (signed_decimal id) ≡ nat_abs id) × (places_in (signed_decimal id) ≡ 0)
unfolding spelled_after places_in
id_spelled (pos n) h =
    let fits : n < 10 ^ 64 = omega (arith, leb→le n 9223372036854775807 h.1.le) in
    (spelled_decimal n fits, places_in_decimal n fits)
id_spelled (negsuc n) h =
    let fits : suc n < 10 ^ 64 = omega (arith, leb→le n 9223372036854775807 h.0.le) in
    (spelled_decimal (suc n) fits, places_in_decimal (suc n) fits)

id_signed : (id : ℤ) → IsId id → signed (is_negative (signed_decimal id)) (nat_abs id) ≡ id
id_signed (pos n) h =
    let fits : n < 10 ^ 64 = omega (arith, leb→le n 9223372036854775807 h.1.le) in
    ap (λ b. signed b n) (no_sign (decimal n)
    (subst (λ l. 48 ≤ get_or l 0 0) (append-nil (decimal n)) (begins_with_digit n [] fits)))
id_signed (negsuc n) h = refl

-- The text of an id says the id.
pub whole_back : (id : ℤ) → IsId id → whole_said (number (signed_decimal id)) ≡ Some id
unfolding units_said spelled_after
whole_back id h =
    let t : List ℕ = signed_decimal id in
    let plain = no_exponent t (id_low id h) in
    let spelled = id_spelled id h in
    rw (plain.0, plain.1, spelled.0, spelled.1, mod-one (nat_abs id * 1))
    (ap (λ n. Some (signed (is_negative t) n)) (nearest_exact (nat_abs id) 1 (omega arith))
    ∙ ap Some (id_signed id h))
