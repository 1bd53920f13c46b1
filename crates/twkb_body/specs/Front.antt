-- What is complete at the start of bytes: a number, points or ids, or a whole point.
use Rattle.std.specs.Prelude.{◌≡◌, true, ◌+ℤ◌, ℕ, ◌+◌, ◌<◌, ◌≤◌, List, [], ◌∷◌, length, take, drop, ◌%◌, ◌++◌, get_or}
use Rattle.std.specs.Prelude.{Option, Some, None, IfSome}
use Rattle.twkb_num.specs.Varint.{IsVarint}
use Rattle.twkb_num.specs.Spelling.{unzigzag_of}
use Rattle.twkb_points.specs.Point.{Point, point_at, origin}
use Rattle.twkb_grammar.specs.Reading.{in_range}
use Rattle.twkb_grammar.specs.Fault.{IsCut, IsTooLong}
use Rattle.twkb_body.specs.Reading.{Pair}
use Rattle.twkb_body.specs.declared.numbers.FrontNumber.{FrontNumber}
use Rattle.twkb_body.specs.declared.numbers.FrontNumber.TheVariants.{Complete, Cut, TooLong}

-- ==== What is complete at the start of bytes.

-- the first `count` bytes spell this number
pub record NumberInFront (bytes : List ℕ) (n count : ℕ) : Type 0 where
  pub some : 0 < count
  pub within : count ≤ length bytes
  pub spelled : IsVarint (take count bytes) n

-- the number at the start of the bytes is complete, cut or too long, as the answer says
abbrev pub IsFront : List ℕ → FrontNumber → Type 0
IsFront bytes (Complete n count) = NumberInFront bytes n count
IsFront bytes Cut = IsCut bytes
IsFront bytes TooLong = IsTooLong bytes

-- the first `count` bytes are the two numbers of a point
pub record PointInFront (from : Point) (bytes : List ℕ) (to : Point) (count : ℕ) : Type 0 where
  pub some : 0 < count
  pub within : count ≤ length bytes
  pub pair : Pair from (take count bytes) to

-- the first `count` bytes are these points, each by its steps from the one before it
abbrev pub PointsInFront : Point → List ℕ → List Point → ℕ → Type 0
PointsInFront from bytes [] count = count ≡ 0
PointsInFront from bytes (p ∷ ps) count = (first : ℕ) × (rest : ℕ) × (count ≡ first + rest)
    × PointInFront from bytes p first × PointsInFront p (drop first bytes) ps rest

-- two numbers spell the steps from one point to another, both in range
pub record StepsTo (from : Point) (x y : ℕ) (to : Point) : Type 0 where
  pub x_kept : in_range (from.x +ℤ unzigzag_of x) ≡ true
  pub y_kept : in_range (from.y +ℤ unzigzag_of y) ≡ true
  pub leads : to ≡ point_at (from.x +ℤ unzigzag_of x) (from.y +ℤ unzigzag_of y)

-- ==== A point that is complete at the start of bytes with its header.

-- the metadata byte of a geometry that has a body, and asks for nothing, or for a size
abbrev pub metadata_with : Option ℕ → ℕ
metadata_with None = 0
metadata_with (Some n) = 2

-- the byte of a size, if there is one
abbrev pub size_bytes : Option ℕ → List ℕ
size_bytes None = []
size_bytes (Some n) = n ∷ []

-- the bytes of such a header, from its type byte on
abbrev pub header_bytes : (first : ℕ) → Option ℕ → List ℕ
header_bytes first size = first ∷ metadata_with size ∷ size_bytes size

-- the first `count` bytes are a point's own header, which asks for nothing, or for this size of one byte
pub record PointHeader (bytes : List ℕ) (size : Option ℕ) (count : ℕ) : Type 0 where
  pub within : count ≤ length bytes
  pub kind : get_or bytes 0 0 % 16 ≡ 1
  pub short : IfSome size (λ n. n < 128)
  pub whole : take count bytes ≡ header_bytes (get_or bytes 0 0) size

-- the first `count` bytes are a point after such a header
pub record WholePoint (bytes : List ℕ) (to : Point) (count : ℕ) (size : Option ℕ) : Type 0 where
  pub some : 0 < count
  pub within : count ≤ length bytes
  pub kind : get_or bytes 0 0 % 16 ≡ 1
  pub short : IfSome size (λ n. n < 128)
  pub steps : List ℕ
  pub whole : take count bytes ≡ header_bytes (get_or bytes 0 0) size ++ steps
  pub pair : Pair origin steps to
