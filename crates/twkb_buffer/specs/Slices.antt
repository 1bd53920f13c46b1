-- The contents of a writer into a slice.
use Rattle.std.specs.Prelude.{ℕ, List, Option, Some, ◌∷◌, take}
use Rattle.std.specs.Borrow.{MutBor}
use Rattle.twkb_buffer.specs.declared.filler.Filler.{Filler}

-- the borrowed slice
abbrev pub buffer_of : Filler → MutBor (List ℕ)
buffer_of filler = filler.buffer

-- the number of bytes filled
abbrev pub filled_of : Filler → ℕ
filled_of filler = filler.filled

-- The name of the borrow, followed by the bytes that were filled. A writer's contents only grow
-- at their end, so the name stays through any writing, and the caller who made the filler can
-- prove that it gets its own slice back.
abbrev pub held : Filler → Option (List ℕ)
held filler = Some (filler.buffer.ghost_name ∷ take filler.filled filler.buffer.now)
