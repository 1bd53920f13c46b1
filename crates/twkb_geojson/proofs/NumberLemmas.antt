-- Decimals of coordinates are numbers of JSON, and the values of geometries nest at most 128 deep.
use Rattle.std.proofs.Common.{◌≡◌, ℕ, zero, suc, ◌+◌, ◌/◌, ◌%◌, ◌^◌, ◌<◌, ◌==◌, List, [], ◌∷◌, ◌++◌}
use Rattle.std.proofs.Common.{refl, ap, ◌∙◌, inl, inr, arith, eq-zero-or-pos, ℤ, pos, negsuc, length, get_or}
use Rattle.std.proofs.Common.{length-append, ne_eqb, append_assoc, Some, cond, drop, option_and_then, false}
use Rattle.std.proofs.lemmas.Bool.{le-leb, and_from}
use Rattle.std.proofs.lemmas.List.{drop_at, drop_all}
use Rattle.std.proofs.lemmas.Nat.{div_below, mod_below}
use Rattle.std.proofs.Math.Nat.{pow-succ'}
use Rattle.std.proofs.lemmas.Fmt.{decimal_by_steps_wide, decimal_digit}
use Rattle.std.specs.Fmt.{decimal}
use Rattle.std.specs.List.{prefix_len}
use Rattle.std.specs.Char.{is_ascii_digit}
use Rattle.json.specs.Word.{head, after_whole, after_fraction, after_exponent, after_number}
use Rattle.json.specs.Print.{IsNumber}
use Rattle.twkb_points.specs.Point.{IsCoordinate}
use Rattle.twkb_tree.specs.Tree.{IsPrecision}
use Rattle.twkb_geojson.specs.Coordinate.{coordinate_text, size_text, fraction_text, fraction_digits, parts}
use Rattle.twkb_geojson.proofs.DigitLemmas.{ten_pow}
use Rattle.twkb_geojson.proofs.ReadingLemmas.{parts_below}

-- ---- digits

digit_run : (d : ℕ) (r : List ℕ) → d < 10
    → prefix_len is_ascii_digit ((48 + d) ∷ r) ≡ 1 + prefix_len is_ascii_digit r
digit_run d r h = ap (λ b. cond b (1 + prefix_len is_ascii_digit r) 0)
    (and_from _ _ (le-leb 48 (48 + d) (omega arith)) (le-leb (48 + d) 57 (omega arith)))

decimal_run : (n : ℕ) (r : List ℕ) → n < 10 ^ 64
    → prefix_len is_ascii_digit (decimal n ++ r) ≡ length (decimal n) + prefix_len is_ascii_digit r
decimal_run n r fits = decimal_by_steps_wide
    (λ m ds. (more : List ℕ) → prefix_len is_ascii_digit (ds ++ more) ≡ length ds + prefix_len is_ascii_digit more)
    (λ m small more. digit_run m more small)
    (λ m ds some ih more. ap (prefix_len is_ascii_digit) (append_assoc ds ((48 + m % 10) ∷ []) more)
    ∙ ih ((48 + m % 10) ∷ more) ∙ ap (λ k. length ds + k) (digit_run (m % 10) more (omega arith))
    ∙ omega (arith, length-append ds ((48 + m % 10) ∷ [])))
    n fits r

-- the first digit of a number above 0 is not 0
decimal_first : (n : ℕ) (r : List ℕ) → n < 10 ^ 64 → 0 < n → 48 < get_or (decimal n ++ r) 0 0
decimal_first n r fits some = decimal_by_steps_wide
    (λ m ds. (more : List ℕ) → 0 < m → 48 < get_or (ds ++ more) 0 0)
    (λ m small more p. omega (arith, p))
    (λ m ds many ih more p. rw (append_assoc ds ((48 + m % 10) ∷ []) more)
    (ih ((48 + m % 10) ∷ more) (omega (arith, many))))
    n fits r some

fraction_run : (k f : ℕ) → f < 10 ^ k → prefix_len is_ascii_digit (fraction_digits k f) ≡ length (fraction_digits k f)
unfolding fraction_digits
fraction_run zero f h = refl
fraction_run (suc k) f h = elim (eq-zero-or-pos f) [
  | inl z ↦ rw z refl
  | inr p ↦
      let small = div_below f (10 ^ k) 10 (ten_pow k) (omega (arith, h, pow-succ' 10 k)) in
      rw (ne_eqb f 0 (λ e. absurd (omega (arith, p, e))))
      (digit_run (f / 10 ^ k) (fraction_digits k (f % 10 ^ k)) small
      ∙ ap (λ l. 1 + l) (fraction_run k (f % 10 ^ k) (mod_below f (10 ^ k) (ten_pow k))) ∙ omega arith)
]

-- ---- the parts of a number

-- a decimal has a digit
decimal_some : (n : ℕ) → n < 10 ^ 64 → 0 < length (decimal n)
decimal_some n fits = decimal_by_steps_wide (λ m ds. 0 < length ds) (λ m small. omega arith)
    (λ m ds some ih. omega (arith, length-append ds ((48 + m % 10) ∷ []))) n fits

whole_digits : (ds r : List ℕ) → 0 < length ds → 48 < get_or (ds ++ r) 0 0
    → prefix_len is_ascii_digit (ds ++ r) ≡ length ds + prefix_len is_ascii_digit r
    → prefix_len is_ascii_digit r ≡ 0
    → (after_whole (ds ++ r) ≡ Some r) × ((head (ds ++ r) == 45) ≡ false)
whole_digits [] r some first run none = absurd (omega (arith, some))
whole_digits (d ∷ ds) r some first run none =
    let all : prefix_len is_ascii_digit (d ∷ (ds ++ r)) ≡ suc (length ds) = run ∙ omega (arith, none) in (
      rw (
        ne_eqb d 48 (λ e. absurd (omega (arith, first, e))),
        all,
        ne_eqb (suc (length ds)) 0 (λ e. absurd (omega arith)),
      )
          (ap Some (drop_at (d ∷ ds) r (suc (length ds)) refl)),
      ne_eqb d 45 (λ e. absurd (omega (arith, first, e))),
    )

whole_over : (n : ℕ) (r : List ℕ) → n < 10 ^ 64 → prefix_len is_ascii_digit r ≡ 0
    → (after_whole (decimal n ++ r) ≡ Some r) × ((head (decimal n ++ r) == 45) ≡ false)
whole_over n r fits none = elim (eq-zero-or-pos n) [
  | inl z ↦ rw (z, decimal_digit 0 (omega arith)) (refl, refl)
  | inr p ↦ whole_digits (decimal n) r (decimal_some n fits) (decimal_first n r fits p) (decimal_run n r fits) none
]

fraction_some : (f : ℕ) → 0 < f → 0 < length (fraction_digits 8 f)
unfolding fraction_digits
fraction_some f p = rw (ne_eqb f 0 (λ e. absurd (omega (arith, p, e)))) (omega arith)

-- the fraction is the rest of a number
fraction_over : (f : ℕ) → f < 100000000
    → (option_and_then after_exponent (after_fraction (fraction_text f)) ≡ Some [])
    × (prefix_len is_ascii_digit (fraction_text f) ≡ 0)
fraction_over f below = elim (eq-zero-or-pos f) [
  | inl z ↦ rw z (refl, refl)
  | inr p ↦
      let run = fraction_run 8 f below in
      let some : 0 < length (fraction_digits 8 f) = fraction_some f p in
      rw (ne_eqb f 0 (λ e. absurd (omega (arith, p, e)))) (
        rw (
          run,
          ne_eqb (length (fraction_digits 8 f)) 0 (λ e. absurd (omega (arith, some, e))),
          drop_all (length (fraction_digits 8 f)) (fraction_digits 8 f) (omega arith),
        ) refl,
        refl,
      )
]

size_number : (m : ℕ) → m < 10 ^ 64
    → let text : List ℕ = decimal (m / 100000000) ++ fraction_text (m % 100000000) in
    (option_and_then after_exponent (option_and_then after_fraction (after_whole text)) ≡ Some [])
    × ((head text == 45) ≡ false)
size_number m fits =
    let f = fraction_over (m % 100000000) (omega arith) in
    let w = whole_over (m / 100000000) (fraction_text (m % 100000000)) (omega (arith, fits)) f.1 in
    (ap (λ o. option_and_then after_exponent (option_and_then after_fraction o)) w.0 ∙ f.0, w.1)

-- the decimal of a coordinate is a number of JSON
pub coordinate_number : (p u : ℤ) → IsPrecision p → IsCoordinate u → IsNumber (coordinate_text p u)
unfolding after_number size_text
coordinate_number p (pos n) known inside =
    let s = size_number (parts p n) (parts_below p (pos n) known inside) in
    let text : List ℕ = decimal (parts p n / 100000000) ++ fraction_text (parts p n % 100000000) in
    ap (λ b. option_and_then after_exponent (option_and_then after_fraction (after_whole (cond b (drop 1 text) text))))
    s.1 ∙ s.0
coordinate_number p (negsuc n) known inside =
    (size_number (parts p (suc n)) (parts_below p (negsuc n) known inside)).0
