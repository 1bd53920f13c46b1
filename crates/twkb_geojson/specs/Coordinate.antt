-- The decimal of a coordinate: its units times 10 ^ -precision, exactly, in as few digits as that takes.
use Rattle.std.specs.Prelude.{ℕ, zero, suc, ℤ, pos, negsuc, nat_abs, ◌+◌, ◌-◌, ◌*◌, ◌/◌, ◌%◌, ◌^◌, List, [], ◌∷◌}
use Rattle.twkb_points.specs.Point.{Point}
use Rattle.std.specs.Prelude.{◌++◌, decimal, nat_eq, nat_lt, length, if◌then◌else◌, ◌≡◌, ◌<◌, ◌≤◌}

-- how many places a unit of this precision, at most 8, is above 10 ^ -8
abbrev pub places_above : ℤ → ℕ
places_above (pos places) = 8 - places
places_above (negsuc n) = 9 + n

-- a size in units of this precision as parts of 10 ^ -8, of which it is a whole number
abbrev pub parts : ℤ → ℕ → ℕ
parts precision size = size * 10 ^ places_above precision

-- a minus sign before a number below 0
abbrev pub sign : ℤ → List ℕ
sign (pos n) = []
sign (negsuc n) = 45 ∷ []

-- the digits of a fraction of so many places, the highest first, up to the last that is not 0
unfoldable pub fraction_digits : ℕ → ℕ → List ℕ
fraction_digits zero fraction = []
fraction_digits (suc places) fraction =
    if nat_eq fraction 0 then [] else ((48 + fraction / 10 ^ places) ∷ fraction_digits places (fraction % 10 ^ places))

-- a fraction of parts of 10 ^ -8: a point and its digits, or nothing if it is 0
abbrev pub fraction_text : ℕ → List ℕ
fraction_text fraction = if nat_eq fraction 0 then [] else (46 ∷ fraction_digits 8 fraction)

-- the decimal of a size in units of this precision: the whole part without leading zeros, and the
-- fraction without trailing zeros
unfoldable pub size_text : ℤ → ℕ → List ℕ
size_text precision size = decimal (parts precision size / 10 ^ 8) ++ fraction_text (parts precision size % 10 ^ 8)

-- The decimal of a coordinate of this precision: its size, after a minus sign if it is below 0. It
-- has no exponent (RFC 8259, section 6).
abbrev pub coordinate_text : ℤ → ℤ → List ℕ
coordinate_text precision units = sign units ++ size_text precision (nat_abs units)

-- both coordinates of a point with so many places have whole parts below 1,000
pub record IsNear (places : ℕ) (p : Point) : Type 0 where
  pub x : nat_abs p.x < 1000 * 10 ^ places
  pub y : nat_abs p.y < 1000 * 10 ^ places

-- ==== The digits of a number as the bytes of a word, the highest digit in the lowest byte.

-- the word of the `count` digits of a number, leading zeros included
unfoldable pub digit_word : ℕ → ℕ → ℕ
digit_word zero n = 0
digit_word (suc count) n = n / 10 ^ count + 256 * digit_word count (n % 10 ^ count)

-- the digit 0 as a character, in each of so many bytes
abbrev pub zeros_word : ℕ → ℕ
zeros_word zero = 0
zeros_word (suc count) = 48 + 256 * zeros_word count

-- the word has so many bytes, the lowest first, up to the last that is not 0
abbrev pub IsByteCount : ℕ → ℕ → Type 0
IsByteCount zero word = word ≡ 0
IsByteCount (suc count) word = (256 ^ count ≤ word) × (word < 256 ^ suc count)

-- ==== What a decimal says: the number that its digits spell, over a power of ten.

-- the number that the digits of a text spell after n, whatever stands between them
unfoldable pub spelled_after : ℕ → List ℕ → ℕ
spelled_after n [] = n
spelled_after n (c ∷ cs) = if nat_lt c 48 then spelled_after n cs else spelled_after (n * 10 + (c - 48)) cs

-- the number of characters after the point of a text, 0 if it has none
unfoldable pub places_in : List ℕ → ℕ
places_in [] = 0
places_in (c ∷ cs) = if nat_eq c 46 then length cs else places_in cs

-- The text says so many parts of 10 ^ -8: its digits spell the number of those parts, but for the
-- power of ten that its places and eight places differ by.
abbrev pub Says : List ℕ → ℕ → Type 0
Says text size = spelled_after 0 text * 10 ^ 8 ≡ size * 10 ^ places_in text

-- two coordinates of these precisions are the same number: both are below 0 or both are not, and
-- they have as many parts of 10 ^ -8
pub record IsSameNumber (p u q v : ℤ) : Type 0 where
  pub sign : sign u ≡ sign v
  pub size : parts p (nat_abs u) ≡ parts q (nat_abs v)
