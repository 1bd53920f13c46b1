-- A refused put of any sink, and two puts that take the join of their bytes.
use Rattle.std.specs.Prelude.{ℕ, ◌≡◌, List, ◌++◌, ◌≤◌, ◌+◌, length}
use Rattle.std.proofs.Common.{arith, length-append, append_assoc, ◌∙◌, ap}

-- ==== A refused put of any sink.

-- a prefix of these bytes was handed over, and its last put was refused with this fault
abbrev pub TookFront : {S F : Type 0} → (S → List ℕ → F → S → Type 0) → S → List ℕ → F → S → Type 0
TookFront refused old bytes fault new = (front rest : List ℕ) × (bytes ≡ front ++ rest) × refused old front fault new

-- ==== Two puts take the join of their bytes.

pub lengths_join : (a b c : ℕ) (xs ys : List ℕ) → b ≡ a + length xs → c ≡ b + length ys → c ≡ a + length (xs ++ ys)
lengths_join a b c xs ys first second = omega (arith, length-append xs ys)

pub lists_join : (a b c xs ys : List ℕ) → b ≡ a ++ xs → c ≡ b ++ ys → c ≡ a ++ (xs ++ ys)
lists_join a b c xs ys first second = second ∙ ap (λ l. l ++ ys) first ∙ append_assoc a xs ys

-- after adding a length, the number is at least the old one and at most that length above it
pub lengths_within : (a b : ℕ) (xs : List ℕ) → b ≡ a + length xs → (a ≤ b) × (b ≤ a + length xs)
lengths_within a b xs more = (omega arith, omega arith)
