-- The texts of reasons, by their numbers, and how a text is copied into a buffer (profile).
use Rattle.std.specs.Prelude.{◌≡◌, ◌≢◌, ◌≤◌, ℕ, List, [], ◌∷◌, ◌++◌, length, take, drop, codes, ◌==◌}
use Rattle.std.specs.Prelude.{if◌then◌else◌}
use Rattle.twkb_convert.specs.declared.report.Cause.{Cause}
use Rattle.twkb_convert.specs.Causes.{cause_words}
use Rattle.twkb_buffer.specs.Numbers.{reason_number_of}

-- the input is refused for this cause, and the number is that of its reason
abbrev pub HasReason : ℕ → Cause → Type 0
HasReason number why = (reason_number_of why ≡ number) × (number ≢ 0)

-- the words of the reason with this number for which a blob can't be a field of a column; empty if it is no such reason
abbrev pub line_words : ℕ → List ℕ
line_words number =
    if number == 91 then codes "no linestring" else if number == 92 then codes "another precision" else []

-- the words of the reason with this number for which a record of a CSV, or a blob of a column, is refused; empty if it
-- is no such reason
abbrev pub column_words : ℕ → List ℕ
column_words number =
    if number == 81 then codes "no such column" else if number == 82 then codes "column twice"
    else if number == 83 then codes "wrong number of fields" else if number == 84 then codes "missing value"
    else line_words number

-- the words of the reason with this number that no conversion of a table or a stream has: for which rows and points in
-- arrays, or a column, are refused; empty if it is no such reason
abbrev pub other_words : ℕ → List ℕ
other_words number =
    if number == 71 then codes "points missing" else if number == 72 then codes "points left over"
    else column_words number

-- The words are those of the command for the reason with this number, or those for arrays or a column, or
-- empty if no reason has this number.
pub record AreWordsOf (number : ℕ) (words : List ℕ) : Type 0 where
  pub told : (why : Cause) → HasReason number why → words ≡ cause_words why
  pub none : ((why : Cause) → HasReason number why → ⊥) → words ≡ other_words number

-- a text with a zero byte after it, written over the bytes of a buffer, and cut if it is too long
abbrev pub with_text : List ℕ → List ℕ → List ℕ
with_text words [] = []
with_text words (b ∷ bs) = take (length bs) words ++ (0 ∷ drop (length words) bs)

-- A text of at most 31 bytes was copied into a buffer, and its length was returned.
pub record PutsText (AreWords : List ℕ → Type 0) (old new : List ℕ) (count : ℕ) : Type 0 where
  pub words : List ℕ
  pub are : AreWords words
  pub new_is : new ≡ with_text words old
  pub count_is : count ≡ length words
  pub short : count ≤ 31

-- no reason of a polyline has this number
abbrev pub NamesNoPointText : ℕ → Type 0
NamesNoPointText n = (n ≢ 21) × (n ≢ 22) × (n ≢ 23) × (n ≢ 24) × (n ≢ 25) × (n ≢ 26) × (n ≢ 27)

-- no reason of a record has this number, but for those of its polyline
abbrev pub NamesNoRow : ℕ → Type 0
NamesNoRow n =
    (n ≢ 1) × (n ≢ 2) × (n ≢ 3) × (n ≢ 4) × (n ≢ 5) × (n ≢ 6) × (n ≢ 7) × (n ≢ 8)
    × (n ≢ 9) × (n ≢ 10) × (n ≢ 11) × (n ≢ 12) × (n ≢ 13) × (n ≢ 14) × (n ≢ 16)

-- no reason of a blob has this number
abbrev pub NamesNoBlob : ℕ → Type 0
NamesNoBlob n = (n ≢ 41) × (n ≢ 42) × (n ≢ 43) × (n ≢ 44) × (n ≢ 45) × (n ≢ 46) × (n ≢ 47) × (n ≢ 48) × (n ≢ 49)
