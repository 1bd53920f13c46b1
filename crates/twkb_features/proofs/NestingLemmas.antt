-- Nestings after one more byte.
use Rattle.std.proofs.Common.{◌≡◌, ℕ, zero, suc, ◌+◌, ◌<◌, List, [], ◌∷◌, length, take, get_or, refl, ap, ◌∙◌, arith}
use Rattle.twkb_features.specs.declared.nesting.Nesting.{Nesting}
use Rattle.twkb_features.specs.Nesting.{step, nesting_after}

-- after no byte
pub after_none : (n : Nesting) (bytes : List ℕ) → nesting_after n (take 0 bytes) ≡ n
unfolding nesting_after
after_none n bytes = refl

-- after one more byte, by its successor
pub after_next : (n : Nesting) (bytes : List ℕ) (i : ℕ) → i < length bytes
    → nesting_after n (take (suc i) bytes) ≡ step (nesting_after n (take i bytes)) (get_or bytes i 0)
unfolding nesting_after
after_next n [] i h = absurd (omega arith)
after_next n (byte ∷ bytes) zero h = refl
after_next n (byte ∷ bytes) (suc i) h = after_next (step n byte) bytes i (omega arith)

-- after one more byte
pub after_more : (n : Nesting) (bytes : List ℕ) (i : ℕ) → i < length bytes
    → nesting_after n (take (i + 1) bytes) ≡ step (nesting_after n (take i bytes)) (get_or bytes i 0)
after_more n bytes i h =
    let e : i + 1 ≡ suc i = omega arith in
    ap (λ k. nesting_after n (take k bytes)) e ∙ after_next n bytes i h
