-- Words that `clap` accepts one by one, and that are refused (profile).
use Rattle.std.specs.Prelude.{ℕ, List, [], ◌∷◌, Option, None, Some, Bool, true, false, codes, ◌++◌, ◌==◌, ◌&&◌, ◌||◌}
use Rattle.std.specs.Prelude.{bytes_eq, if◌then◌else◌, is_some, nat_lt, not}
use Rattle.std.specs.Option.{option_or}
use Rattle.clap.specs.Words.{Row, Text, first_of}
use Rattle.twkb_command.specs.declared.misuse.Misuse.{Misuse}
use Rattle.twkb_command.specs.declared.misuse.Misuse.TheVariants as misuse
use Rattle.twkb_command.specs.declared.misuse.Word.{Word}
use Rattle.twkb_command.specs.declared.misuse.Word.TheVariants as word

-- an option's id for `clap`
abbrev pub id_of : Word → Text
id_of word.Column = codes "column"
id_of word.Precision = codes "precision"
id_of word.Ids = codes "ids"
id_of word.Hex = codes "hex"
id_of word.HexBare = codes "hex-bare"
id_of word.Null = codes "null"
id_of word.Delimiter = codes "delimiter"
id_of word.Geojson = codes "geojson"
id_of word.Collection = codes "collection"

-- an option as refusals show it
abbrev pub shown_of : Word → Text
shown_of word.Column = codes "--column <NAME>"
shown_of word.Precision = codes "--precision <-8 to 7>"
shown_of word.Ids = codes "--ids <KEY>"
shown_of word.Hex = codes "--hex"
shown_of word.HexBare = codes "--hex=bare"
shown_of word.Null = codes "--null <WORD>"
shown_of word.Delimiter = codes "--delimiter <C>"
shown_of word.Geojson = codes "--geojson"
shown_of word.Collection = codes "--collection"

-- the option has no value
abbrev pub is_flag : Word → Bool
is_flag word.Hex = true
is_flag word.HexBare = true
is_flag word.Geojson = true
is_flag word.Collection = true
is_flag _ = false

-- the flag is given: its value is `true` then, and `false` otherwise
abbrev pub flag_of : Option Text → Bool
flag_of None = false
flag_of (Some value) = bytes_eq value (codes "true")

-- ==== The delimiter.

-- the character may be between two fields
abbrev pub is_delimiter : ℕ → Bool
is_delimiter c = nat_lt c 128 && not (c == 34 || (c == 13 || c == 10))

-- the one byte of a text, if it may be between two fields
abbrev pub one_delimiter : Text → Option ℕ
one_delimiter (c ∷ []) = if is_delimiter c then Some c else None
one_delimiter _ = None

-- the byte that a value of `--delimiter` names: 9 for `tab` and `\t`
abbrev pub delimiter_of : Text → Option ℕ
delimiter_of text = if bytes_eq text (codes "tab") || bytes_eq text (codes "\\t") then Some 9 else one_delimiter text

-- the byte between two fields: a comma if the option gives none
abbrev pub delimiter_given : Option Text → Option ℕ
delimiter_given None = Some 44
delimiter_given (Some text) = delimiter_of text

-- ==== Words that do not go together.

-- the option has a value, or the flag is given
abbrev pub has : List Row → Word → Bool
has rows w = if is_flag w then flag_of (first_of (id_of w) rows) else is_some (first_of (id_of w) rows)

-- the misuse of the first option without the second
abbrev pub lack : List Row → Word → Word → Option Misuse
lack rows w other = if has rows w && not (has rows other) then Some (misuse.Without w other) else None

-- the misuse of two options that exclude each other
abbrev pub clash : List Row → Word → Word → Option Misuse
clash rows w other = if has rows w && has rows other then Some (misuse.With w other) else None

-- the misuse of a delimiter that is none
abbrev pub delimiter_misuse : Option Text → Option Misuse
delimiter_misuse given = if is_some (delimiter_given given) then None else Some misuse.NoDelimiter

-- the first misuse of an option that needs `--column`
abbrev pub column_lacks : List Row → Option Misuse
column_lacks rows =
    option_or (lack rows word.Precision word.Column) (option_or (lack rows word.Null word.Column)
    (option_or (lack rows word.Delimiter word.Column) (option_or (lack rows word.Ids word.Column)
    (option_or (lack rows word.Hex word.Column) (lack rows word.HexBare word.Column)))))

-- the first misuse of a flag about digits beside another one or a column of ids
abbrev pub digits_clash : List Row → Option Misuse
digits_clash rows = option_or (clash rows word.Hex word.HexBare)
    (option_or (clash rows word.Hex word.Ids) (clash rows word.HexBare word.Ids))

-- the first misuse in the words of `pack`
abbrev pub pack_misuse : List Row → Option Misuse
pack_misuse rows =
    option_or (column_lacks rows) (option_or (lack rows word.Column word.Precision)
    (option_or (digits_clash rows) (delimiter_misuse (first_of (codes "delimiter") rows))))

-- the first misuse in the words of `unpack`
abbrev pub unpack_misuse : List Row → Option Misuse
unpack_misuse rows =
    option_or (lack rows word.Delimiter word.Column) (option_or (lack rows word.Hex word.Column)
    (option_or (lack rows word.HexBare word.Column) (option_or (lack rows word.Collection word.Geojson)
    (option_or (clash rows word.Column word.Geojson) (option_or (clash rows word.Hex word.HexBare)
    (delimiter_misuse (first_of (codes "delimiter") rows)))))))

-- the first misuse in the words of the subcommand with this name
abbrev pub misuse_in : Text → List Row → Option Misuse
misuse_in name rows = if bytes_eq name (codes "pack") then pack_misuse rows
    else (if bytes_eq name (codes "unpack") then unpack_misuse rows else None)

-- the first misuse in the words of a subcommand, if one was entered
abbrev pub misuse_of : Option (Text × List Row) → Option Misuse
misuse_of None = None
misuse_of (Some (name, rows)) = misuse_in name rows

-- ==== The text of a misuse, as `clap` writes its own.

-- what is said of two options
abbrev pub pair_words : Word → List ℕ → Word → List ℕ
pair_words w said other = codes "error: the argument '" ++ (shown_of w ++ (said ++ (shown_of other ++ codes "'")))

-- what a misuse says
abbrev pub misuse_words : Misuse → List ℕ
misuse_words (misuse.Without w other) = pair_words w (codes "' cannot be used without '") other
misuse_words (misuse.With w other) = pair_words w (codes "' cannot be used with '") other
misuse_words misuse.NoDelimiter =
    codes "error: invalid value for '--delimiter <C>': "
    ++ codes "not one ASCII character or 'tab', or a quotation mark or a line end"

-- the end of a text
abbrev pub hint : List ℕ
hint = codes "\n\nFor more information, try '--help'.\n"

-- the text of a misuse
abbrev pub misuse_text : Misuse → List ℕ
misuse_text m = misuse_words m ++ hint
