-- The first of sixteen bytes that passes a test, found by a mask.
use Rattle.std.proofs.Common.{◌≡◌, ℕ, ◌-◌, ◌%◌, ◌^◌, ◌<◌, ◌≤◌, List, length, take, get_or, Bool, true, false}
use Rattle.std.proofs.Common.{cond, map, refl, sym, ap, ◌∙◌, arith, w8, eqb, leb}
use Rattle.std.specs.Prelude.{◌==◌, nat_le, if◌then◌else◌}
use lib.Lanes.{mask_l, zip2, top}
use lib.ListN.{replicate}
use lib.Count.{count_trailing_zeros}
use Rattle.std.proofs.lemmas.List.{length-take-le}
use Rattle.std.proofs.lemmas.Simd.{zip2_splat, zip2_splat_left, bitmask_splat, first_set_mask_l}
use Rattle.std.proofs.lemmas.Simd.{run_in_chunk_le, run_in_chunk_fails}
use Rattle.std.proofs.lemmas.Grind.{common_steps}
use Rattle.std.proofs.lemmas.Bool.Decides.{nat_tests}
use Rattle.twkb_features.specs.declared.nesting.Place.TheVariants.{Outside, InString}
use Rattle.twkb_features.specs.Taken.{is_plain}

-- so many bytes come before the first of sixteen that passes
pub record Found (p : ℕ → Bool) (bytes : List ℕ) (count : ℕ) : Type 0 where
  pub within : count ≤ 16
  pub none : (k : ℕ) → k < count → p (get_or bytes k 0) ≡ false

as_cond : (b : Bool) (m n : ℕ) → (if b then m else n) ≡ cond b m n
as_cond true m n = refl
as_cond false m n = refl

-- by the lowest bit of a mask
pub mask_found : (p : ℕ → Bool) (bytes : List ℕ) (mask count : ℕ) → 16 ≤ length bytes
    → mask ≡ mask_l (map p (take 16 bytes)) → count ≡ (if mask == 0 then 16 else count_trailing_zeros 64 mask)
    → Found p bytes count
mask_found p bytes mask count long is found =
    let size : length (take 16 bytes) ≡ 16 = length-take-le 16 bytes long in
    let counted = found ∙ as_cond (mask == 0) 16 (count_trailing_zeros 64 mask)
    ∙ ap (λ m. cond (eqb m 0) 16 (count_trailing_zeros 64 m)) is
    ∙ first_set_mask_l p (take 16 bytes) 16 size (omega arith) in
    record {
      within = run_in_chunk_le p bytes 0 16 count 0 (omega arith) counted;
      none = λ k below.
          run_in_chunk_fails p bytes 0 16 count 0 (omega arith) counted k (omega arith) (omega (arith, below));
    }

-- the mask of the bytes that are this one
pub equal_mask : (bytes : List ℕ) (byte : ℕ) → 16 ≤ length bytes
    → mask_l (map (top 7) (zip2 (λ a b. cond (eqb a b) (2 ^ 8 - 1) 0) (take 16 bytes) (replicate 16 byte))) % 2 ^ 64
    ≡ mask_l (map (λ x. eqb x byte) (take 16 bytes))
equal_mask bytes byte long = bitmask_splat w8 eqb (take 16 bytes) 16 byte (length-take-le 16 bytes long) (omega arith)

-- the mask of the bytes that are this one or above
pub least_mask : (bytes : List ℕ) (least : ℕ) → 16 ≤ length bytes
    → mask_l (map (top 7) (zip2 (λ a b. cond (leb a b) (2 ^ 8 - 1) 0) (replicate 16 least) (take 16 bytes))) % 2 ^ 64
    ≡ mask_l (map (λ x. leb least x) (take 16 bytes))
least_mask bytes least long =
    let size = length-take-le 16 bytes long in
    ap (λ lanes. mask_l (map (top 7) lanes) % 2 ^ 64)
    (zip2_splat_left (λ a b. cond (leb a b) (2 ^ 8 - 1) 0) least 16 (take 16 bytes) size
    ∙ sym (zip2_splat (λ a b. cond (leb b a) (2 ^ 8 - 1) 0) (take 16 bytes) 16 least size))
    ∙ bitmask_splat w8 (λ a b. leb b a) (take 16 bytes) 16 least size (omega arith)

-- a byte below the brackets that is no quote
pub plain_outside : (byte : ℕ) → nat_le 91 byte ≡ false → (byte == 34) ≡ false → is_plain Outside byte ≡ true
plain_outside byte low unquoted = grind (arith, common_steps, nat_tests)

-- a byte of a string that is no quote and no backslash
pub plain_in_string : (byte : ℕ) → (byte == 92) ≡ false → (byte == 34) ≡ false → is_plain InString byte ≡ true
plain_in_string byte unescaped unquoted = grind (arith, common_steps, nat_tests)
