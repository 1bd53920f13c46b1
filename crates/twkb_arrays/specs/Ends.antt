-- Where geometries end, one number for each (profile): in a stream that is read, or in an output.
use Rattle.std.specs.Prelude.{◌≡◌, ◌⊎◌, ◌<◌, ◌≤◌, ℕ, List, [], ◌∷◌, ◌++◌, length, take, drop, ⊤}
use Rattle.twkb_tree.specs.Tree.{Tree}
use Rattle.twkb_tree.specs.Limits.{Allowance}
use Rattle.twkb_grammar.specs.Items.{Stream}
use Rattle.twkb_grammar.specs.Written.{canonical_stream}
use Rattle.twkb_grammar.specs.declared.style.Style.{Style}

-- the blobs of these geometries are exactly the bytes before this place
abbrev pub EndAt : Allowance → List ℕ → List Tree → ℕ → Type 0
EndAt l bytes gs end = (end ≤ length bytes) × Stream l (take end bytes) gs

-- the canonical blobs of these geometries are this many bytes
abbrev pub SentTo : Style → List Tree → ℕ → Type 0
SentTo style gs end = end ≡ length (canonical_stream style gs)

-- the numbers say where each of some geometries after others ends, where `ends_at` says where a list of them does
abbrev pub AreEnds : (List Tree → ℕ → Type 0) → List Tree → List Tree → List ℕ → Type 0
AreEnds ends_at before [] [] = ⊤
AreEnds ends_at before (g ∷ gs) (end ∷ ends) =
    ends_at (before ++ g ∷ []) end × AreEnds ends_at (before ++ g ∷ []) gs ends
AreEnds ends_at before _ _ = ⊥

-- The ends of geometries are at the start of an array, and the places after them are as they were.
pub record StartWithEnds (ends_at : List Tree → ℕ → Type 0) (old : List ℕ) (gs : List Tree) (new : List ℕ) :
    Type 0 where
  pub ends : List ℕ
  pub are_ends : AreEnds ends_at [] gs ends
  pub new_is : new ≡ ends ++ drop (length gs) old
  pub room : length gs ≤ length old

-- an array of no places gets no ends, and any other those of all geometries
abbrev pub HasEnds : (List Tree → ℕ → Type 0) → List ℕ → List Tree → List ℕ → Type 0
HasEnds ends_at old gs new = ((old ≡ []) × (new ≡ [])) ⊎ StartWithEnds ends_at old gs new

-- the array has places, and fewer than there are geometries
abbrev pub LacksEndRoom : List ℕ → List Tree → Type 0
LacksEndRoom ends gs = (0 < length ends) × (length ends < length gs)
