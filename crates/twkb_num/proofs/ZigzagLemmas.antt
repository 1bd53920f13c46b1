-- The two zigzag functions undo each other, and lanes of bytes are units less their base.
use Rattle.std.proofs.Common.{◌≡◌, ℕ, ℤ, pos, negsuc, ◌+◌, ◌*◌, ◌/◌, ◌%◌, ◌<◌, ◌^◌, ◌-◌, suc, refl, ap, arith, zero}
use Rattle.std.proofs.Common.{Bool, true, false, List, [], ◌∷◌, length, map, ◌∙◌, Fits, FitsSigned, w32, w64, eqb}
use Rattle.std.proofs.Common.{◌≤◌, take, sym, w8, ltb}
use Rattle.std.specs.Prelude.{nat_eq}
use Rattle.std.proofs.lemmas.Int.{to_z-of_z}
use Rattle.twkb_num.specs.Spelling.{zigzag_of, unzigzag_of}
use mir.Syntax.{Width}
use mir.Val.{hbits}
use lib.Lanes.{Each1, zip2, sel_l, top, mask_l}
use lib.ListN.{replicate}
use mathlib.Core.Bool.{cond}
use Rattle.std.specs.Int.{cast_signed, cast_unsigned}
use Rattle.twkb_num.specs.Block.{unzigzagged_bits, units_in}
use Rattle.std.proofs.lemmas.List.{length-map, length-take-le}
use Rattle.std.proofs.lemmas.Simd.{bitmask_splat, zip2_splat, zip2_splat_left}

-- ==== The two zigzag functions undo each other, also for four forms at once.

-- unzigzag undoes zigzag
pub unzigzag_of-zigzag_of : (n : ℤ) → unzigzag_of (zigzag_of n) ≡ n
unzigzag_of-zigzag_of (pos n) = let e : (2 * n) % 2 ≡ 0 = omega arith in
    let d : (2 * n) / 2 ≡ n = omega arith in rw (e, d)
unzigzag_of-zigzag_of (negsuc n) = let e : (2 * n + 1) % 2 ≡ 1 = omega arith in
    let d : (2 * n + 1) / 2 ≡ n = omega arith in rw (e, d)

-- zigzag undoes unzigzag
pub zigzag_of-unzigzag_of : (n : ℕ) → zigzag_of (unzigzag_of n) ≡ n
zigzag_of-unzigzag_of n = go (n % 2) refl (omega arith)
  where
    go : (r : ℕ) → n % 2 ≡ r → r < 2 → zigzag_of (unzigzag_of n) ≡ n
    go (suc (suc r)) e h = absurd (omega arith)
    go _ e h = rw e (omega arith)

-- numbers with the same zigzag form are equal
pub zigzag_one : (m n : ℤ) → zigzag_of m ≡ zigzag_of n → m ≡ n
zigzag_one (pos m) (pos n) e = let h : m ≡ n = omega arith in ap pos h
zigzag_one (negsuc m) (negsuc n) e = let h : m ≡ n = omega arith in ap negsuc h
zigzag_one _ _ e = absurd (omega arith)

-- ==== The numbers of four zigzag forms, computed at once in 32 bits each.

-- the lanes as the code computes them
abbrev unzigzagged_lanes : ℕ → List ℕ → List ℕ
unzigzagged_lanes k forms =
    sel_l (map (top 31) (zip2 (λ a b. cond (eqb a b) 4294967295 0)
    (zip2 (λ a b. a % b) forms (replicate k 2)) (replicate k 0)))
    (zip2 (λ a b. a / b) forms (replicate k 2))
    (zip2 (λ a b. (a + (4294967296 - b)) % 4294967296) (replicate k 4294967295)
    (zip2 (λ a b. a / b) forms (replicate k 2)))

-- one lane is the unzigzagged number
lane_is : (n : ℕ) → n < 4294967296
    → cond (top 31 (cond (eqb (n % 2) 0) 4294967295 0)) (n / 2)
    ((4294967295 + (4294967296 - n / 2)) % 4294967296) ≡ unzigzagged_bits n
lane_is n small = go (n % 2) refl (omega arith)
  where
    go : (r : ℕ) → n % 2 ≡ r → r < 2 → cond (top 31 (cond (eqb (n % 2) 0) 4294967295 0)) (n / 2)
        ((4294967295 + (4294967296 - n / 2)) % 4294967296) ≡ unzigzagged_bits n
    go zero e h = rw e refl
    go (suc zero) e h = rw e (omega arith)
    go (suc (suc r)) e h = absurd (omega arith)

-- all lanes are the unzigzagged numbers
pub unzigzagged_are : (k : ℕ) (forms : List ℕ) → length forms ≡ k → Each1 (Fits w32) forms
    → unzigzagged_lanes k forms ≡ map unzigzagged_bits forms
unzigzagged_are zero [] long fit = refl
unzigzagged_are (suc k) (n ∷ forms) long fit =
    let small = fit.0 in
    rw (lane_is n (omega arith)) (ap (λ ns. unzigzagged_bits n ∷ ns) (unzigzagged_are k forms (omega arith) fit.1))
unzigzagged_are _ _ long fit = absurd (omega arith)

-- ---- the bits of one number

-- the number of a form fits a signed width if half the form fits its positive half
number_fits : (w : Width) (n : ℕ) → n / 2 < 2 ^ hbits w → FitsSigned w (unzigzag_of n)
number_fits w n half = fits (nat_eq (n % 2) 0)
  where
    fits : (even : Bool) → FitsSigned w (cond even (pos (n / 2)) (negsuc (n / 2)))
    fits true = record { sfits = half }
    fits false = record { sfits = half }

-- A lane read with its sign, and then widened, is the number of its form.
pub form_found : (n lane : ℕ) (read wide : ℤ) → n < 2 ^ 28 → lane ≡ unzigzagged_bits n → read ≡ cast_signed w32 lane
    → wide ≡ cast_signed w32 (cast_unsigned w32 read) → zigzag_of (cast_signed w64 (cast_unsigned w64 wide)) ≡ n
form_found n lane read wide small lane_is read_is wide_is =
    let back = to_z-of_z w32 (unzigzag_of n) (number_fits w32 n (omega arith)) in
    let same : read ≡ unzigzag_of n = read_is ∙ ap (cast_signed w32) lane_is ∙ back in
    let widened : wide ≡ unzigzag_of n = wide_is ∙ ap (λ z. cast_signed w32 (cast_unsigned w32 z)) same ∙ back in
    ap (λ z. zigzag_of (cast_signed w64 (cast_unsigned w64 z))) widened
    ∙ ap zigzag_of (to_z-of_z w64 (unzigzag_of n) (number_fits w64 n (omega arith)))
    ∙ zigzag_of-unzigzag_of n

-- ==== Sixteen lanes of bytes as units less their base, and the masks of these lanes.

-- one byte less another, modulo 256, as lanes compute it
abbrev pub wrapped_sub : ℕ → ℕ → ℕ
wrapped_sub a b = (a + (2 ^ 8 - b)) % 2 ^ 8

-- the lanes less the base are the units
pub lanes_are : (base : ℕ) (bytes : List ℕ) → 16 ≤ length bytes
    → zip2 wrapped_sub (take 16 bytes) (replicate 16 base) ≡ units_in base (take 16 bytes)
lanes_are base bytes long = zip2_splat wrapped_sub (take 16 bytes) 16 base (length-take-le 16 bytes long)

-- there are sixteen lanes
pub length-lanes : (base : ℕ) (bytes : List ℕ) → 16 ≤ length bytes
    → length (zip2 wrapped_sub (take 16 bytes) (replicate 16 base)) ≡ 16
length-lanes base bytes long = ap length (lanes_are base bytes long)
    ∙ length-map (take 16 bytes) (λ b. wrapped_sub b base) ∙ length-take-le 16 bytes long

-- `simd_gt` with its sides exchanged compares with a bound
pub above_is : (us : List ℕ) (y : ℕ) → length us ≡ 16
    → mask_l (map (top 7) (zip2 (λ a b. cond (ltb a b) (2 ^ 8 - 1) 0) (replicate 16 y) us)) % 2 ^ 64
    ≡ mask_l (map (λ u. ltb y u) us)
above_is us y long =
    ap (λ lanes. mask_l (map (top 7) lanes) % 2 ^ 64)
    (zip2_splat_left (λ a b. cond (ltb a b) (2 ^ 8 - 1) 0) y 16 us long
    ∙ sym (zip2_splat (λ a b. cond (ltb b a) (2 ^ 8 - 1) 0) us 16 y long))
    ∙ bitmask_splat w8 (λ a b. ltb b a) us 16 y long (omega arith)
