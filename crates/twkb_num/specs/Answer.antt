-- How a reader of spellings answers its next unit.
use Rattle.std.specs.Prelude.{◌≡◌, ℕ, ◌+◌, ◌<◌, ◌≤◌, ◌^◌, ◌↔◌, ◌⊎◌, Bool, true, IsTrue, Option}
use Rattle.std.specs.Prelude.{Some, None, List, [], ◌∷◌, ◌++◌, length}
use Rattle.std.specs.Int.Digits.{AllBelowBase}
use Rattle.twkb_num.specs.Spelling.{number_of, units_of, shortest, IsSpelling}
use Rattle.twkb_num.specs.declared.partial.Step.{Step}
use Rattle.twkb_num.specs.declared.partial.Step.TheVariants.{More, Done, BadUnit, TooLong}

-- the units end a spelling of a number that has more than 64 bits
pub record IsAbove (unit : ℕ → Bool → ℕ) (base : ℕ) (units : List ℕ) : Type 0 where
  pub ds : List ℕ
  pub spelled : units ≡ units_of unit ds
  pub below : AllBelowBase base ds
  pub above : 2 ^ 64 ≤ number_of base ds

-- The answer to the unit u after the open units us. More: u says that more follow, and there is
-- room for more. Done: u ends a spelling of the value. BadUnit: u is not in the alphabet.
-- TooLong: u is the last unit that may come and says that more follow, or it ends a spelling
-- whose number is too large (profile: the bounds on length and number).
abbrev pub IsAnswer : (ℕ → Bool → ℕ) → (ℕ → Option (ℕ × Bool)) → ℕ → ℕ → List ℕ → ℕ → Step → Type 0
IsAnswer unit group base longest us u More = (length us + 1 < longest) × ((d : ℕ) × (group u ≡ Some (d, true)))
IsAnswer unit group base longest us u (Done value short) =
    IsSpelling unit base longest (us ++ u ∷ []) value × (IsTrue short ↔ (us ++ u ∷ [] ≡ shortest unit base value))
IsAnswer unit group base longest us u BadUnit = group u ≡ None
IsAnswer unit group base longest us u TooLong =
    ((length us + 1 ≡ longest) × ((d : ℕ) × (group u ≡ Some (d, true)))) ⊎ IsAbove unit base (us ++ u ∷ [])

-- the unit u is refused after the open units us: it is not in the alphabet, the spelling is too
-- long, or its number is too large
abbrev pub IsRefused : (ℕ → Bool → ℕ) → (ℕ → Option (ℕ × Bool)) → ℕ → ℕ → List ℕ → ℕ → Type 0
IsRefused unit group base longest us u = IsAnswer unit group base longest us u BadUnit
    ⊎ IsAnswer unit group base longest us u TooLong

-- the units that the reader holds after its answer: none after any answer but More
abbrev pub held_after : List ℕ → ℕ → Step → List ℕ
held_after us u More = us ++ u ∷ []
held_after us u (Done value short) = []
held_after us u BadUnit = []
held_after us u TooLong = []
