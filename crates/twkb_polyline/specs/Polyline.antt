-- The text of a list of points (Encoded Polyline Algorithm Format).
use Rattle.std.specs.Prelude.{◌≡◌, ℕ, ℤ, ◌≤◌, length, List, [], ◌∷◌, ◌++◌, zero, suc, ◌+◌, ◌*◌, ◌-◌, ◌<◌, ◌^◌}
use Rattle.twkb_num.specs.Alphabet.{five_unit}
use Rattle.twkb_num.specs.Spelling.{shortest, zigzag_of, low_digits, number_of}
use Rattle.twkb_points.specs.Steps.{differences_from}
use Rattle.twkb_points.specs.Point.{Point, AreInRange, origin}

-- ==== The text of a list of points (Encoded Polyline Algorithm Format).

-- a number's characters: the groups of five bits of its zigzag form, low group first
abbrev pub number_text : ℤ → List ℕ
number_text n = shortest five_unit 32 (zigzag_of n)

-- for each difference its latitude (y), and then its longitude (x)
abbrev pub text_of : List (ℤ × ℤ) → List ℕ
text_of [] = []
text_of (d ∷ ds) = number_text d.1 ++ (number_text d.0 ++ text_of ds)

-- the text of points whose first one comes after p
abbrev pub polyline_from : Point → List Point → List ℕ
polyline_from p qs = text_of (differences_from p qs)

-- the polyline of the points: the first comes after (0, 0)
abbrev pub polyline : List Point → List ℕ
polyline ps = polyline_from origin ps

-- The text is the polyline of these points, all in range and at most `max`.
pub record DecodesTo (text : List ℕ) (max : ℕ) (ps : List Point) : Type 0 where
  pub spelled : text ≡ polyline ps
  pub in_range : AreInRange ps
  pub few : length ps ≤ max

-- The new points are the old ones and then those whose polyline the text is.
pub record AppendsDecoded (text : List ℕ) (max : ℕ) (old new : List Point) : Type 0 where
  pub ps : List Point
  pub appended : new ≡ old ++ ps
  pub decoded : DecodesTo text max ps

-- ==== For the steps of a writer: points in pairs, and the characters of numbers as the low bytes
-- of a word, the first one lowest.

-- the points of a list of pairs
abbrev pub points_of : List (List Point) → List Point
points_of [] = []
points_of (pair ∷ pairs) = pair ++ points_of pairs

-- the lowest `count` groups of n, each in a byte
abbrev pub spread : ℕ → ℕ → ℕ
spread count n = number_of 256 (low_digits 32 count n)

-- The number of groups of n: one for 0, and otherwise as many as its bits need.
pub record HasGroups (n count : ℕ) : Type 0 where
  pub some : 1 ≤ count
  pub below : n < 32 ^ count
  pub above : 2 ≤ count → 32 ^ (count - 1) ≤ n

-- a mark for each of `count` groups but the last: 32 in its byte
abbrev pub marks : ℕ → ℕ
marks zero = 0
marks (suc zero) = 0
marks (suc (suc k)) = 32 + 256 * marks (suc k)
