-- What the decimals of coordinates say, and that only equal numbers have equal decimals.
use Rattle.std.proofs.Common.{◌≡◌, ℕ, zero, suc, ◌+◌, ◌-◌, ◌*◌, ◌/◌, ◌%◌, ◌^◌, ◌<◌, ◌≤◌, List, [], ◌∷◌, ◌++◌}
use Rattle.std.proofs.Common.{refl, ap, ◌∙◌, inl, inr, arith, eq-zero-or-pos, sym, ℤ, pos, negsuc, length, nat_abs}
use Rattle.std.proofs.Common.{le-ltb, lt-ltb, append_assoc, get_or, ne_eqb, ◌↔◌}
use Rattle.std.proofs.Math.Nat.{pow-suc, pow-zero, mul_assoc, add-mul, mul-one, eq_of_mul-eq-mul_right}
use Rattle.std.proofs.Math.Nat.{pow-le-pow_right, pow-succ'}
use Rattle.std.proofs.lemmas.Nat.{mod_below, div-add-mod', mul-le}
use Rattle.std.proofs.lemmas.Fmt.{decimal_by_steps_wide}
use lib.Dec.{leb→le}
use Rattle.std.proofs.lemmas.List.{append-nil}
use Rattle.std.proofs.Common.{subst}
use Rattle.std.specs.Fmt.{decimal}
use Rattle.twkb_points.specs.Point.{IsCoordinate}
use Rattle.twkb_tree.specs.Tree.{IsPrecision}
use Rattle.twkb_geojson.specs.Coordinate.{coordinate_text, size_text, fraction_text, fraction_digits, parts}
use Rattle.twkb_geojson.specs.Coordinate.{places_above}
use Rattle.twkb_geojson.specs.Coordinate.{sign, spelled_after, places_in, Says, IsSameNumber}
use Rattle.twkb_geojson.proofs.DigitLemmas.{ten_pow}

-- ---- the number that digits spell

spelled_append : (n : ℕ) (xs ys : List ℕ) → spelled_after n (xs ++ ys) ≡ spelled_after (spelled_after n xs) ys
unfolding spelled_after
spelled_append n [] ys = refl
spelled_append n (c ∷ xs) ys = elim (eq-zero-or-pos (48 - c)) [
  | inl z ↦ rw (le-ltb c 48 (omega (arith, z))) (spelled_append (n * 10 + (c - 48)) xs ys)
  | inr p ↦ rw (lt-ltb c 48 (omega (arith, p))) (spelled_append n xs ys)
]

spelled_digit : (n d : ℕ) → spelled_after n ((48 + d) ∷ []) ≡ n * 10 + d
unfolding spelled_after
spelled_digit n d = rw (le-ltb (48 + d) 48 (omega arith)) (omega arith)

pub spelled_decimal : (n : ℕ) → n < 10 ^ 64 → spelled_after 0 (decimal n) ≡ n
spelled_decimal n fits = decimal_by_steps_wide (λ m ds. spelled_after 0 ds ≡ m)
    (λ m small. spelled_digit 0 m ∙ omega arith)
    (λ m ds some ih. spelled_append 0 ds ((48 + m % 10) ∷ []) ∙ rw ih (spelled_digit (m / 10) (m % 10) ∙ omega arith))
    n fits

-- a fraction of so many places, after n
spelled_fraction : (k n f : ℕ) → f < 10 ^ k
    → spelled_after n (fraction_digits k f) * 10 ^ k ≡ (n * 10 ^ k + f) * 10 ^ length (fraction_digits k f)
unfolding spelled_after fraction_digits
spelled_fraction zero n f below = omega (arith, below, pow-zero 10)
spelled_fraction (suc k) n f below = elim (eq-zero-or-pos f) [
  | inl z ↦ rw z (omega (arith, pow-zero 10, mul-one (n * 10 ^ suc k)))
  | inr p ↦
      let d : ℕ = f / 10 ^ k in
      let r : ℕ = f % 10 ^ k in
      let ih = spelled_fraction k (n * 10 + d) r (mod_below f (10 ^ k) (ten_pow k)) in
      let digit : 48 + f / 10 ^ k - 48 ≡ f / 10 ^ k = omega arith in
      rw (ne_eqb f 0 (λ e. absurd (omega (arith, p, e))), le-ltb (48 + d) 48 (omega arith), digit)
      (one_more k n f d r (spelled_after (n * 10 + d) (fraction_digits k r)) (length (fraction_digits k r))
      (div-add-mod' f (10 ^ k)) ih)
]
  where
    one_more : (k n f d r m l : ℕ) → d * 10 ^ k + r ≡ f → m * 10 ^ k ≡ ((n * 10 + d) * 10 ^ k + r) * 10 ^ l
        → m * 10 ^ suc k ≡ (n * 10 ^ suc k + f) * 10 ^ suc l
    one_more k n f d r m l split ih =
        let x : ℕ = (n * 10 + d) * 10 ^ k + r in
        let tens : n * 10 * 10 ^ k ≡ n * 10 ^ suc k =
        mul_assoc n 10 (10 ^ k) ∙ ap (λ p. n * p) (sym (pow-succ' 10 k)) in
        let inner : x ≡ n * 10 ^ suc k + f = omega (arith, add-mul (n * 10) d (10 ^ k), tens, split) in
        ap (λ p. m * p) (pow-suc 10 k) ∙ sym (mul_assoc m (10 ^ k) 10) ∙ ap (λ p. p * 10) ih
        ∙ mul_assoc x (10 ^ l) 10 ∙ ap (λ p. x * p) (sym (pow-suc 10 l)) ∙ ap (λ p. p * 10 ^ suc l) inner

-- ---- the places of a text

places_digits : (n : ℕ) (rest : List ℕ) → n < 10 ^ 64 → places_in (decimal n ++ rest) ≡ places_in rest
unfolding places_in
places_digits n rest fits = decimal_by_steps_wide (λ m ds. (more : List ℕ) → places_in (ds ++ more) ≡ places_in more)
    (λ m small more. one m more)
    (λ m ds some ih more. ap places_in (append_assoc ds ((48 + m % 10) ∷ []) more)
    ∙ ih ((48 + m % 10) ∷ more) ∙ one (m % 10) more)
    n fits rest
  where
    one : (d : ℕ) (more : List ℕ) → places_in ((48 + d) ∷ more) ≡ places_in more
    one d more = rw (ne_eqb (48 + d) 46 (λ e. absurd (omega (arith, e)))) refl

pub places_in_decimal : (n : ℕ) → n < 10 ^ 64 → places_in (decimal n) ≡ 0
unfolding places_in
places_in_decimal n fits = ap places_in (sym (append-nil (decimal n))) ∙ places_digits n [] fits

-- ---- what the text of a size says

size_says_parts : (m : ℕ) → m < 10 ^ 64
    → Says (decimal (m / 100000000) ++ fraction_text (m % 100000000)) m
unfolding spelled_after places_in
size_says_parts m fits =
    let w : ℕ = m / 100000000 in
    let f : ℕ = m % 100000000 in
    let within : w < 10 ^ 64 = omega (arith, fits) in
    let whole = spelled_decimal w within in
    elim (eq-zero-or-pos f) [
      | inl z ↦ rw (z, append-nil (decimal w), places_in_decimal w within, whole)
          (omega (arith, z, pow-zero 10, mul-one m))
      | inr p ↦
          let rest = spelled_fraction 8 w f (mod_below m 100000000 (omega arith)) in
          let split : w * 100000000 + f ≡ m = omega arith in
          rw (
            ne_eqb f 0 (λ e. absurd (omega (arith, p, e))),
            spelled_append 0 (decimal w) (46 ∷ fraction_digits 8 f),
            places_digits w (46 ∷ fraction_digits 8 f) within,
            whole,
          )
          (rest ∙ ap (λ n. n * 10 ^ length (fraction_digits 8 f)) split)
    ]

-- the parts of a coordinate in range fit the decimals of std
abs_below : (u : ℤ) → IsCoordinate u → nat_abs u ≤ 4611686018427387904
abs_below (pos n) h = omega (arith, leb→le n 4611686018427387903 h.1.le)
abs_below (negsuc n) h = omega (arith, leb→le n 4611686018427387903 h.0.le)

above_few : (p : ℤ) → IsPrecision p → places_above p ≤ 16
above_few (pos n) h = omega arith
above_few (negsuc n) h = omega (arith, leb→le n 7 h.0.le)

pub parts_below : (p u : ℤ) → IsPrecision p → IsCoordinate u → parts p (nat_abs u) < 10 ^ 64
parts_below p u known inside =
    let power : 10 ^ places_above p ≤ 10000000000000000 =
    pow-le-pow_right {n = 10} (omega arith) {i = places_above p} {j = 16} (above_few p known) in
    omega (
      arith,
      mul-le (nat_abs u) (10 ^ places_above p) 4611686018427387904 10000000000000000
          (abs_below u inside) power,
    )

pub size_says : (p u : ℤ) → IsPrecision p → IsCoordinate u → Says (size_text p (nat_abs u)) (parts p (nat_abs u))
unfolding size_text
size_says p u known inside = size_says_parts (parts p (nat_abs u)) (parts_below p u known inside)

-- a sign says nothing of the size
sign_says : (u : ℤ) (text : List ℕ) (size : ℕ) → Says text size → Says (sign u ++ text) size
unfolding spelled_after places_in
sign_says (pos n) text size says = says
sign_says (negsuc n) text size says = says

pub exactly : (p u : ℤ) → IsPrecision p → IsCoordinate u → Says (coordinate_text p u) (parts p (nat_abs u))
exactly p u known inside = sign_says u (size_text p (nat_abs u)) (parts p (nat_abs u)) (size_says p u known inside)

-- ---- one text for one number

-- the text of a size begins with a digit
pub begins_with_digit : (n : ℕ) (rest : List ℕ) → n < 10 ^ 64 → 48 ≤ get_or (decimal n ++ rest) 0 0
begins_with_digit n rest fits = decimal_by_steps_wide (λ m ds. (more : List ℕ) → 48 ≤ get_or (ds ++ more) 0 0)
    (λ m small more. omega arith)
    (λ m ds some ih more. rw (append_assoc ds ((48 + m % 10) ∷ []) more) (ih ((48 + m % 10) ∷ more)))
    n fits rest

pub size_begins : (p u : ℤ) → IsPrecision p → IsCoordinate u → 48 ≤ get_or (size_text p (nat_abs u)) 0 0
unfolding size_text
size_begins p u known inside =
    let small = parts_below p u known inside in
    begins_with_digit (parts p (nat_abs u) / 100000000) (fraction_text (parts p (nat_abs u) % 100000000))
    (omega (arith, small))

same_sign : (u v : ℤ) (s t : List ℕ) → 48 ≤ get_or s 0 0 → 48 ≤ get_or t 0 0 → sign u ++ s ≡ sign v ++ t
    → sign u ≡ sign v
same_sign (pos m) (pos n) s t p q e = refl
same_sign (negsuc m) (negsuc n) s t p q e = refl
same_sign (pos m) (negsuc n) s t p q e = absurd (omega (arith, p, ap (λ l. get_or l 0 0) e))
same_sign (negsuc m) (pos n) s t p q e = absurd (omega (arith, q, ap (λ l. get_or l 0 0) e))

same_size : (s t : List ℕ) (m n : ℕ) → s ≡ t → Says s m → Says t n → m ≡ n
same_size s t m n e says also =
    let both : m * 10 ^ places_in s ≡ n * 10 ^ places_in s =
    sym says ∙ subst (λ l. Says l n) (sym e) also in
    eq_of_mul-eq-mul_right (10 ^ places_in s) (ten_pow (places_in s)) m n both

same_text : (p u q v : ℤ) → IsSameNumber p u q v → coordinate_text p u ≡ coordinate_text q v
unfolding size_text
same_text p u q v same =
    ap (λ l. l ++ size_text p (nat_abs u)) same.sign
    ∙ ap (λ n. sign v ++ (decimal (n / 100000000) ++ fraction_text (n % 100000000))) same.size

pub only_one_text : (p u q v : ℤ) → IsPrecision p → IsCoordinate u → IsPrecision q → IsCoordinate v
    → (coordinate_text p u ≡ coordinate_text q v) ↔ IsSameNumber p u q v
only_one_text p u q v known inside also there = (
  λ e. record {
    sign = same_sign u v _ _ (size_begins p u known inside) (size_begins q v also there) e;
    size = same_size _ _ _ _ e (exactly p u known inside) (exactly q v also there);
  },
  same_text p u q v,
)
