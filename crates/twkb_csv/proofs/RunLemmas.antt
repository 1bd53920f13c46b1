-- Bytes before the first special one only join a field.
use Rattle.std.proofs.Common.{◌≡◌, refl, ℕ, Bool, true, false, zero, suc, List, [], ◌∷◌, take, arith}
use Rattle.std.specs.Prelude.{◌==◌, ◌||◌, if◌then◌else◌}
use Rattle.csv.specs.Machine.{Runs, after_end}
use Rattle.csv.specs.declared.parser.Action.TheVariants as act
use Rattle.csv.specs.declared.parser.State.TheVariants as st
use Rattle.memchr.specs.Find.{Nowhere, Passes, is_byte, is_byte3}
use Rattle.twkb_csv.specs.Machine.{config}

-- a byte that is none of three
joins_by : {A : Type 0} (x y z : Bool) (a b c : A) → ((x || y || z) ≡ true → ⊥)
    → (if x then a else (if y || z then b else c)) ≡ c
joins_by true y z a b c none = absurd (none refl)
joins_by false true z a b c none = absurd (none refl)
joins_by false false true a b c none = absurd (none refl)
joins_by false false false a b c none = refl

-- a byte that is no quote
joins_two : {A : Type 0} (x : Bool) (a b : A) → (x ≡ true → ⊥) → (if x then a else b) ≡ b
joins_two true a b none = absurd (none refl)
joins_two false a b none = refl

pub plain_runs : (d : ℕ) (bytes : List ℕ) (n : ℕ) → Nowhere (Passes (is_byte3 d 13 10) bytes) 0 n
    → Runs (config d) st.InField (take n bytes)
unfolding Runs
plain_runs d [] zero none = tt
plain_runs d [] (suc n) none = tt
plain_runs d (b ∷ bytes) zero none = tt
plain_runs d (b ∷ bytes) (suc n) none = (
  joins_by (b == d) (b == 13) (b == 10) (st.StartField, act.EndField)
      (after_end (config d).terminator b, act.EndRecord) (st.InField, act.Copy) (none 0 (omega arith) (omega arith)),
  plain_runs d bytes n (λ k low high. none (suc k) (omega arith) (omega (arith, high))),
)

pub quoted_runs : (d : ℕ) (bytes : List ℕ) (n : ℕ) → Nowhere (Passes (is_byte 34) bytes) 0 n
    → Runs (config d) st.InQuoted (take n bytes)
unfolding Runs
quoted_runs d [] zero none = tt
quoted_runs d [] (suc n) none = tt
quoted_runs d (b ∷ bytes) zero none = tt
quoted_runs d (b ∷ bytes) (suc n) none = (
  joins_two _ _ _ (none 0 (omega arith) (omega arith)),
  quoted_runs d bytes n (λ k low high. none (suc k) (omega arith) (omega (arith, high))),
)
