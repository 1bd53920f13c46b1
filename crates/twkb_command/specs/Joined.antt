-- The words as `clap` reads them: a negative number is one word with `--precision` before it, and `--hex=bare` is a
-- word without an equals sign (profile).
use Rattle.std.specs.Prelude.{List, [], ◌∷◌, ◌++◌, Bool, bytes_eq, codes, if◌then◌else◌}
use Rattle.std.specs.List.{list_any}
use Rattle.clap.specs.Words.{Text}
use Rattle.twkb_command.specs.declared.joined.Before.{Before}
use Rattle.twkb_command.specs.declared.joined.Before.TheVariants as before

-- the numbers that `clap` would take for options
abbrev pub negative_numbers : List Text
negative_numbers = codes "-1" ∷ codes "-2" ∷ codes "-3" ∷ codes "-4"
    ∷ codes "-5" ∷ codes "-6" ∷ codes "-7" ∷ codes "-8" ∷ []

-- the word is a number from -8 to -1
abbrev pub is_negative : Text → Bool
is_negative word = list_any (λ number. bytes_eq word number) negative_numbers

-- a word as `clap` finds it, which would cut `--hex=bare` at the equals sign
abbrev pub found_word : Text → Text
found_word word = if bytes_eq word (codes "--hex=bare") then codes "--hex-bare" else word

-- a word that is not joined, and the words after it: those after `--` stay, and `--precision` may be joined
abbrev pub then_joined : Text → List Text → List Text → List Text → List Text
then_joined word rest others after = if bytes_eq word (codes "--") then word ∷ rest
    else (if bytes_eq word (codes "--precision") then after else found_word word ∷ others)

abbrev mutual
  -- the words as `clap` finds them, with each number from -8 to -1 joined to `--precision` before it by an equals sign,
  -- up to the word `--`
  pub joined : List Text → List Text
  joined [] = []
  joined (word ∷ rest) = then_joined word rest (joined rest) (joined_after rest)

  -- `--precision` and the words after it
  pub joined_after : List Text → List Text
  joined_after [] = codes "--precision" ∷ []
  joined_after (word ∷ rest) = if is_negative word then (codes "--precision=" ++ word) ∷ joined rest
      else codes "--precision" ∷ then_joined word rest (joined rest) (joined_after rest)

-- the rest of the words, after what comes before them
abbrev pub joined_from : Before → List Text → List Text
joined_from before.Others rest = joined rest
joined_from before.Precision rest = joined_after rest
joined_from before.End rest = rest
