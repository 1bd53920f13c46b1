-- The bytes that a sink in memory keeps, and that a count has seen.
use Rattle.std.specs.Prelude.{ℕ, List}
use Rattle.twkb_io.specs.declared.bytes.Bytes.{Bytes}
use Rattle.twkb_io.specs.declared.count.Count.{Count}

-- ==== The bytes that a sink in memory keeps.

-- the bytes of all accepted puts, in order
abbrev pub bytes_of : Bytes → List ℕ
bytes_of bytes = bytes.kept.items

-- ==== The bytes that a count has seen.

-- the length of all accepted puts
abbrev pub total_of : Count → ℕ
total_of count = count.total
