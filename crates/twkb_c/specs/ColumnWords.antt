-- The names and the words of a column, as C passes them (profile).
use Rattle.std.specs.Prelude.{◌≡◌, ◌≢◌, ◌-◌, ℕ, ℤ, List, [], ◌∷◌, ◌++◌, Option, Some, None, length, map, flat_map}
use Rattle.std.specs.Prelude.{get_or, drop, slice_get}
use Rattle.std.specs.Borrow.{Bor}
use Rattle.twkb_csv.specs.declared.column.Column.{Column}

-- the text ends with a zero byte
abbrev pub IsEnded : List ℕ → Type 0
IsEnded text = slice_get text (length text - 1) ≡ Some 0

-- words, each with a zero byte after it
abbrev pub ended_words : List (List ℕ) → List ℕ
ended_words words = flat_map (λ word. word ++ 0 ∷ []) words

-- the bytes of words
abbrev pub words_of : List (Bor (List ℕ)) → List (List ℕ)
words_of = map (λ word. word.now)

-- the name of the column of ids, if there is one: an empty word names none
abbrev pub NamesIds : List ℕ → Option (Bor (List ℕ)) → Type 0
NamesIds word None = word ≡ []
NamesIds word (Some ids) = (ids.now ≡ word) × (word ≢ [])

-- The words are the column's name, the name of the column of ids, and the words for a missing value; those after the
-- name may be left out.
pub record IsColumnOf (words : List (List ℕ)) (precision : ℤ) (delimiter : ℕ) (column : Column) : Type 0 where
  pub name : column.name.now ≡ get_or words 0 []
  pub ids : NamesIds (get_or words 1 []) column.ids
  pub nulls : words_of column.nulls.now ≡ drop 2 words
  pub precision_is : column.precision ≡ precision
  pub delimiter_is : column.delimiter ≡ delimiter
