-- Varints in the words of their specification (TWKB specification; LEB128), and the length of four.
use Rattle.std.specs.Prelude.{◌≡◌, ℕ, ◌+◌, ◌*◌, ◌%◌, ◌<◌, ◌≤◌, ◌^◌, List, [], ◌∷◌, length, ◌-◌}
use Rattle.std.specs.List.{AllByRecursion}
use Rattle.twkb_num.specs.Alphabet.{leb_unit}
use Rattle.twkb_num.specs.Spelling.{shortest}

-- ==== Varints in the words of their specification (TWKB specification; LEB128).

-- each byte but the last has its top bit set, and the last does not
abbrev pub HasMarks : List ℕ → Type 0
HasMarks [] = ⊥
HasMarks (b ∷ []) = b < 128
HasMarks (b ∷ c ∷ bs) = (128 ≤ b) × (b < 256) × HasMarks (c ∷ bs)

-- the sum of each byte's low seven bits times its power of 128
abbrev pub seven_bit_sum : List ℕ → ℕ
seven_bit_sum [] = 0
seven_bit_sum (b ∷ bs) = b % 128 + 128 * seven_bit_sum bs

-- the bytes, 1 to 10, spell n, a number of 64 bits, even if fewer would do (profile: ten bytes at
-- most, padding is read)
pub record IsVarint (bytes : List ℕ) (n : ℕ) : Type 0 where
  pub marked : HasMarks bytes
  pub within : length bytes ≤ 10
  pub sum : seven_bit_sum bytes ≡ n
  pub fits : n < 2 ^ 64

-- the shortest varint of n
abbrev pub varint_of : ℕ → List ℕ
varint_of n = shortest leb_unit 128 n

-- the bytes begin a varint and do not end it: at most nine, each with its top bit set
pub record IsOpenVarint (bytes : List ℕ) : Type 0 where
  pub high : AllByRecursion (λ b. 128 ≤ b) bytes
  pub below : AllByRecursion (λ b. b < 256) bytes
  pub room : length bytes ≤ 9

-- ==== The total length of four varints.

-- how many bytes the shortest varint of a number has after its first
abbrev pub more_bytes : ℕ → ℕ
more_bytes n = length (varint_of n) - 1

-- the bytes of the shortest varints of four numbers
abbrev pub four_lens : ℕ → ℕ → ℕ → ℕ → ℕ
four_lens a b c d = length (varint_of a) + length (varint_of b) + (length (varint_of c) + length (varint_of d))

-- the greatest sum of lengths to which four more may be added, so that no lane of 32 bits overflows
abbrev pub lanes_cap : ℕ
lanes_cap = 2 ^ 31
