-- What is at a place in a text, for the steps of a reader.
use Rattle.std.specs.Prelude.{◌≡◌, ℕ, ℤ, ◌+◌, ◌<◌, ◌≤◌, ◌-ℤ◌, drop, length, List, [], ◌∷◌, ◌++◌}
use Rattle.std.specs.Int.Digits.{AllBelowBase}
use Rattle.twkb_num.specs.Alphabet.{five_unit}
use Rattle.twkb_num.specs.Spelling.{number_of, open_units}
use Rattle.twkb_points.specs.Point.{Point, IsInRange}
use Rattle.twkb_polyline.specs.Polyline.{number_text}
use Rattle.twkb_polyline.specs.Fault.{StartsWithNumber}
use Rattle.twkb_polyline.specs.declared.fault.PolyReason.{PolyReason}
use Rattle.twkb_polyline.specs.declared.fault.PolyFault.{PolyFault}
use Rattle.twkb_polyline.specs.declared.fault.PolyFault.TheVariants.{Memory, At}

-- There is a number at `start`, and the text goes on at `end`.
pub record IsNumberAt (text : List ℕ) (start : ℕ) (n : ℤ) (end : ℕ) : Type 0 where
  pub number : StartsWithNumber (drop start text) n (drop end text)
  pub further : start + length (number_text n) ≡ end
  pub some : start < end
  pub within : end ≤ length text

-- The characters from `start` to `at`, at most twelve, say that more follow, and their groups
-- have this value.
pub record IsBegun (text : List ℕ) (start at value : ℕ) : Type 0 where
  pub groups : List ℕ
  pub split : drop start text ≡ open_units five_unit groups ++ drop at text
  pub below : AllBelowBase 32 groups
  pub number : value ≡ number_of 32 groups
  pub further : start + length groups ≡ at
  pub few : length groups ≤ 12
  pub within : at ≤ length text

-- The differences of q from p are at `start`, and the text goes on at `end`.
pub record IsPointAt (text : List ℕ) (start : ℕ) (p q : Point) (end : ℕ) : Type 0 where
  pub split : drop start text ≡ number_text (q.y -ℤ p.y) ++ (number_text (q.x -ℤ p.x) ++ drop end text)
  pub further : start < end
  pub within : end ≤ length text

-- These points are at `start`, each in range and the first after p; the last of them (or p) is q,
-- and the text goes on at `end`.
abbrev pub ArePointsAt : List ℕ → ℕ → Point → List Point → Point → ℕ → Type 0
ArePointsAt text start p [] q end = (q ≡ p) × (end ≡ start)
ArePointsAt text start p (r ∷ rs) q end = (middle : ℕ) × IsPointAt text start p r middle
    × IsInRange r × ArePointsAt text middle r rs q end

-- Points at `start`, at most `room`, were appended to `old`.
pub record HasPutOn (text : List ℕ) (start room : ℕ) (p : Point) (old new : List Point) (q : Point)
    (end : ℕ) : Type 0 where
  pub ps : List Point
  pub points : ArePointsAt text start p ps q end
  pub few : length ps ≤ room
  pub appended : new ≡ old ++ ps

-- There are points at `start`, at most `room`, and memory was refused for the last of them.
pub record IsShortOfMemory (text : List ℕ) (start room : ℕ) (p : Point) : Type 0 where
  pub ps : List Point
  pub last : Point
  pub middle : ℕ
  pub points : ArePointsAt text start p ps last middle
  pub few : length ps < room
  pub next : Point
  pub end : ℕ
  pub point : IsPointAt text middle last next end
  pub in_range : IsInRange next

-- the fault of what is at `start`, with its offset in the text
abbrev pub IsRefusedFrom : ℕ → (ℕ → PolyReason → Type 0) → PolyFault → Type 0
IsRefusedFrom start is_fault Memory = ⊥
IsRefusedFrom start is_fault (At offset reason) = (k : ℕ) × (offset ≡ start + k) × is_fault k reason
