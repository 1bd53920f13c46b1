-- The optional parts of a header, as far as bytes have them complete.
use Rattle.std.specs.Prelude.{⊤, ◌≡◌, ℕ, ◌+◌, ℤ, List, [], ◌∷◌, ◌++◌, length, None, zero, suc, ◌≤◌, take, Option, ◌<◌}
use Rattle.std.specs.Prelude.{Result, Ok, Err}
use Rattle.twkb_num.specs.Varint.{IsVarint}
use Rattle.twkb_grammar.specs.Roles.{Role, Size, Box, where_set}
use Rattle.twkb_grammar.specs.Machine.{Head, with_option, asked}
use Rattle.twkb_grammar.specs.Bits.{bit}
use Rattle.twkb_tree.specs.Limits.{Allowance}
use Rattle.twkb_grammar.specs.Fault.{Reason, IsPart, FirstFault, SizeMismatch}
use Rattle.twkb_body.specs.Outline.{Outline, Stage, OnHeader, OnMetadata, OnId, OnBody, OnFinished}

-- ==== The optional parts of a header that are numbers.

-- An optional part that is a number: the size, or a side of the box.
abbrev pub IsNumberPart : Role → Type 0
IsNumberPart Size = ⊤
IsNumberPart Box = ⊤
IsNumberPart _ = ⊥

-- A header after its metadata byte, before its optional parts.
abbrev pub bare_head : (precision : ℤ) → (meta from : ℕ) → Head
bare_head precision meta from = record { precision = precision; meta = meta; size = None; from = from }

-- From this offset the bytes are parts with these roles, and the last header is the first one
-- with these parts.
abbrev pub AreNumberParts : Head → ℕ → List Role → List ℕ → Head → Type 0
AreNumberParts h at [] bytes to = (bytes ≡ []) × (to ≡ h)
AreNumberParts h at (r ∷ rs) bytes to =
    (n : ℕ) × (part rest : List ℕ) × IsNumberPart r × IsVarint part n × (bytes ≡ part ++ rest)
    × AreNumberParts (with_option h r n (at + length part)) (at + length part) rs rest to

-- ==== The optional parts of a header that are complete at the start of bytes.

-- this number of sides of a box
abbrev pub sides : ℕ → List Role
sides zero = []
sides (suc n) = Box ∷ sides n

-- a header with this size, which counts the bytes after `from`
abbrev pub sized_head : (precision : ℤ) → (meta : ℕ) → (size : Option ℕ) → (from : ℕ) → Head
sized_head precision meta size from = record { precision = precision; meta = meta; size = size; from = from }

-- the first `used` bytes are the sides of this many, whatever the header
pub record SidesInFront (count : ℕ) (bytes : List ℕ) (used : ℕ) : Type 0 where
  pub within : used ≤ length bytes
  pub parts : (h : Head) (at : ℕ) → AreNumberParts h at (sides count) (take used bytes) h

-- the first `used` bytes are the box, if the metadata byte asks for one
pub record BoxInFront (meta : ℕ) (bytes : List ℕ) (used : ℕ) : Type 0 where
  pub within : used ≤ length bytes
  pub parts : (h : Head) (at : ℕ) → AreNumberParts h at (where_set (bit meta 0) (sides 4)) (take used bytes) h

-- the first `used` bytes are the size, if the metadata byte asks for one
pub record SizeInFront (meta : ℕ) (bytes : List ℕ) (size : Option ℕ) (from : ℕ) : Type 0 where
  pub within : from ≤ length bytes
  pub parts : (precision : ℤ) (at : ℕ) → AreNumberParts (bare_head precision meta at) at
      (where_set (bit meta 1) (Size ∷ [])) (take from bytes)
      (sized_head precision meta size (at + from))

-- the first `used` bytes are all optional parts that the metadata byte asks for, with this size,
-- which counts the bytes after `from`
pub record PartsInFront (meta : ℕ) (bytes : List ℕ) (size : Option ℕ) (from used : ℕ) : Type 0 where
  pub within : used ≤ length bytes
  pub ordered : from ≤ used
  pub parts : (precision : ℤ) (at : ℕ) → AreNumberParts (bare_head precision meta at) at
      (asked meta) (take used bytes) (sized_head precision meta size (at + from))

-- ==== Bytes that end a part whose sizes were judged.

-- The bytes are complete items of a part, and no size is found wrong at their end, whatever
-- follows: the geometries that end there have exact sizes too.
pub record IsJudged (limits : Allowance) (bytes : List ℕ) : Type 0 where
  pub part : IsPart limits bytes
  pub exact : (more : List ℕ) → FirstFault limits (bytes ++ more) (length bytes) SizeMismatch → ⊥

-- After these bytes, a prefix of the piece, of at least one byte, ends complete items that were
-- judged: the last item is allowed there, and the sizes after it are exact.
pub record PartIn (limits : Allowance) (bs piece : List ℕ) : Type 0 where
  pub used : ℕ
  pub some : 0 < used
  pub within : used ≤ length piece
  pub part : IsJudged limits (bs ++ take used piece)

-- The next item is inside its geometry or at its beginning, or no item comes next.
abbrev pub IsPastEnds : Stage → Type 0
IsPastEnds OnHeader = ⊤
IsPastEnds (OnMetadata k p) = ⊤
IsPastEnds (OnId m h members ids left) = ⊤
IsPastEnds (OnBody h f ids s) = ⊤
IsPastEnds OnFinished = ⊤
IsPastEnds _ = ⊥

-- The ends after an item are passed: each size is exact.
abbrev pub Passes : Result Outline Reason → Type 0
Passes (Ok o) = IsPastEnds o.1
Passes (Err reason) = ⊥
