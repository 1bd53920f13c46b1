-- Where and why a text is refused (characters: Encoded Polyline Algorithm Format; reasons and order: profile).
use Rattle.std.specs.Prelude.{◌≡◌, ◌≢◌, ℕ, ℤ, ◌+◌, ◌-◌, ◌<◌, ◌≤◌, ◌^◌, ◌+ℤ◌, ◌⊎◌, List, [], ◌∷◌, ◌++◌, length, codes}
use Rattle.std.specs.List.{AllByRecursion}
use Rattle.twkb_num.specs.Spelling.{zigzag_of}
use Rattle.twkb_points.specs.Point.{Point, IsCoordinate, AreInRange, origin}
use Rattle.twkb_points.specs.Steps.{last_of}
use Rattle.twkb_polyline.specs.Polyline.{number_text, polyline}
use Rattle.twkb_polyline.specs.declared.fault.PolyReason.{PolyReason}
use Rattle.twkb_polyline.specs.declared.fault.PolyReason.TheVariants.{BadChar, Cut, TooLong, Padded, Half, Range}
use Rattle.twkb_polyline.specs.declared.fault.PolyReason.TheVariants.{TooMany}
use Rattle.twkb_polyline.specs.declared.fault.PolyFault.{PolyFault}
use Rattle.twkb_polyline.specs.declared.fault.PolyFault.TheVariants.{Memory, At}
use Rattle.twkb_polyline.specs.declared.fault.PolyReason.TheVariants as text

-- ==== Where and why a text is refused (characters: Encoded Polyline Algorithm Format; reasons and
-- order: profile).

-- the most characters that a number may have
abbrev pub longest : ℕ
longest = 13

-- the codes of the format, 63 to 126
abbrev pub IsCharacter : ℕ → Type 0
IsCharacter c = (63 ≤ c) × (c ≤ 126)

-- the characters 95 to 126, which say that more follow
abbrev pub GoesOn : ℕ → Type 0
GoesOn c = (95 ≤ c) × (c ≤ 126)

-- a character from 63 to 94 ends a number, and this is its last group
abbrev pub EndsIn : ℕ → ℕ → Type 0
EndsIn c group = (c ≡ group + 63) × (group < 32)

-- The number at the start of `rest` has c as its character number k, from 0: all characters
-- before c say that more follow, and k is at most 12.
pub record Reaches (rest : List ℕ) (k c : ℕ) : Type 0 where
  pub before : List ℕ
  pub after : List ℕ
  pub split : rest ≡ before ++ c ∷ after
  pub go_on : AllByRecursion GoesOn before
  pub place : length before ≡ k
  pub within : k < longest

-- The text ends before the number's last character.
pub record IsCut (rest : List ℕ) : Type 0 where
  pub go_on : AllByRecursion GoesOn rest
  pub within : length rest < longest

-- The thirteenth character goes on, or its group is 16 or more.
pub record IsTooLong (rest : List ℕ) : Type 0 where
  pub character : ℕ
  pub reached : Reaches rest (longest - 1) character
  pub too_much : GoesOn character ⊎ ((group : ℕ) × EndsIn character group × (16 ≤ group))

-- The number has more than one character, and its last group is 0.
pub record IsPadded (rest : List ℕ) : Type 0 where
  pub place : ℕ
  pub some : 0 < place
  pub character : ℕ
  pub reached : Reaches rest place character
  pub zero : EndsIn character 0

-- what a number at the start of `rest` is refused for, and at which offset in it
abbrev pub IsNumberFault : List ℕ → ℕ → PolyReason → Type 0
IsNumberFault rest k BadChar = (c : ℕ) × Reaches rest k c × ¬ IsCharacter c
IsNumberFault rest k Cut = IsCut rest × (k ≡ 0)
IsNumberFault rest k TooLong = IsTooLong rest × (k ≡ 0)
IsNumberFault rest k Padded = IsPadded rest × (k ≡ 0)
IsNumberFault rest k Half = ⊥
IsNumberFault rest k Range = ⊥
IsNumberFault rest k TooMany = ⊥

-- `rest` starts with a number of at most 64 bits in zigzag form, in its shortest spelling.
pub record StartsWithNumber (rest : List ℕ) (n : ℤ) (after : List ℕ) : Type 0 where
  pub split : rest ≡ number_text n ++ after
  pub fits : zigzag_of n < 2 ^ 64

-- `rest` starts with a difference that takes a coordinate out of its range.
pub record LeavesRange (coordinate : ℤ) (rest : List ℕ) : Type 0 where
  pub difference : ℤ
  pub after : List ℕ
  pub number : StartsWithNumber rest difference after
  pub outside : ¬ IsCoordinate (coordinate +ℤ difference)

-- what a coordinate at the start of `rest` is refused for: a fault of its number, or its range
abbrev pub IsCoordinateFault : ℤ → List ℕ → ℕ → PolyReason → Type 0
IsCoordinateFault coordinate rest k reason =
    IsNumberFault rest k reason ⊎ (LeavesRange coordinate rest × (k ≡ 0) × (reason ≡ Range))

-- what a longitude is refused for: that no text is left for it, or a fault of a coordinate
abbrev pub IsLongitudeFault : ℤ → List ℕ → ℕ → PolyReason → Type 0
IsLongitudeFault x rest k reason =
    ((rest ≡ []) × (k ≡ 0) × (reason ≡ Half)) ⊎ ((rest ≢ []) × IsCoordinateFault x rest k reason)

-- `rest` starts with a latitude in range, and the longitude after it is refused.
pub record IsAfterLatitude (p : Point) (rest : List ℕ) (k : ℕ) (reason : PolyReason) : Type 0 where
  pub difference : ℤ
  pub after : List ℕ
  pub latitude : StartsWithNumber rest difference after
  pub inside : IsCoordinate (p.y +ℤ difference)
  pub within : ℕ
  pub place : k ≡ length (number_text difference) + within
  pub fault : IsLongitudeFault p.x after within reason

-- what a point after p, at the start of `rest`, is refused for
abbrev pub IsPointFault : Point → List ℕ → ℕ → PolyReason → Type 0
IsPointFault p rest k reason = IsCoordinateFault p.y rest k reason ⊎ IsAfterLatitude p rest k reason

-- what is refused after `count` points, if text is left: a point too many, before any look at its
-- characters, or the point itself
abbrev pub IsNextFault : Point → ℕ → ℕ → List ℕ → ℕ → PolyReason → Type 0
IsNextFault p count max rest k reason =
    ((count ≡ max) × (k ≡ 0) × (reason ≡ TooMany)) ⊎ ((count < max) × IsPointFault p rest k reason)

-- The fault of a text: after the polyline of some points, all in range and at most `max`, the next is refused.
pub record IsTextFault (text : List ℕ) (max offset : ℕ) (reason : PolyReason) : Type 0 where
  pub ps : List Point
  pub rest : List ℕ
  pub split : text ≡ polyline ps ++ rest
  pub in_range : AreInRange ps
  pub left : rest ≢ []
  pub within : ℕ
  pub place : offset ≡ length (polyline ps) + within
  pub fault : IsNextFault (last_of origin ps) (length ps) max rest within reason

-- The start of the text is the polyline of one point or more, all in range and at most `max`.
pub record HasPoints (text : List ℕ) (max : ℕ) : Type 0 where
  pub ps : List Point
  pub rest : List ℕ
  pub split : text ≡ polyline ps ++ rest
  pub in_range : AreInRange ps
  pub some : 1 ≤ length ps
  pub few : length ps ≤ max

-- what a refusal says of the text; memory can be refused only after a point was read
abbrev pub IsRefused : List ℕ → ℕ → PolyFault → Type 0
IsRefused text max Memory = HasPoints text max
IsRefused text max (At offset reason) = IsTextFault text max offset reason

-- ==== The text of each reason for which a text of points is refused (profile).

-- the text of each reason
abbrev pub point_text_words : PolyReason → List ℕ
point_text_words text.BadChar = codes "bad character"
point_text_words text.Cut = codes "number cut short"
point_text_words text.TooLong = codes "number too long"
point_text_words text.Padded = codes "padded number"
point_text_words text.Half = codes "latitude without longitude"
point_text_words text.Range = codes "coordinate out of range"
point_text_words text.TooMany = codes "too many points"
