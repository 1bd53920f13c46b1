-- The request that the words of a command line make.
use Rattle.std.specs.Prelude.{◌≡◌, List, [], ◌∷◌, Some, codes, ◌≢◌, ◌≤◌, ◌↔◌, ◌⊎◌, ⊤, Option, None, true, false}
use Rattle.std.specs.Prelude.{Result, IfOk, IfErr, OnOk, bytes_eq, if◌then◌else◌, is_some, map, option_map, unwrap_or}
use Rattle.std.specs.Prelude.{ℤ, negsuc, pos, ◌||◌}
use Rattle.std.specs.Borrow.{Bor}
use Rattle.clap.specs.Words.{App, Text, IsAmong, IsSignedIn, Kinds, Row, all_of, fault_of, first_of, one_of}
use Rattle.clap.specs.Words.{subcommand_of}
use Rattle.std.specs.Str.Parse.{IsNumeral, digits_value, signed_digits_value, without_leading_plus}
use Rattle.clap.specs.declared.error.kind.ErrorKind.{ErrorKind}
use Rattle.clap.specs.declared.error.kind.ErrorKind.TheVariants.{DisplayHelp, DisplayVersion}
use Rattle.twkb_tree.specs.declared.limits.TheConstants.{NEST_CAP}
use Rattle.twkb_tree.specs.Limits.{Allowance, standard_limits}
use Rattle.twkb_grammar.specs.declared.style.Style.{Style}
use Rattle.twkb_grammar.specs.declared.style.Style.TheVariants.{Full, Plain}
use Rattle.twkb_csv.specs.declared.column.Column.{Column}
use Rattle.twkb_conversions.specs.declared.conversion.Conversion.TheVariants as conversion
use Rattle.twkb_command.specs.declared.refusal.Refusal.{Refusal}
use Rattle.twkb_command.specs.declared.refusal.Refusal.TheVariants as refusal
use Rattle.twkb_command.specs.declared.misuse.Misuse.{Misuse}
use Rattle.twkb_command.specs.declared.misuse.Word.TheVariants as word
use Rattle.twkb_command.specs.declared.request.ColumnWords.{ColumnWords}
use Rattle.twkb_command.specs.declared.request.Job.{Job}
use Rattle.twkb_command.specs.declared.request.Job.TheVariants as job
use Rattle.twkb_command.specs.declared.request.Request.{Request}
use Rattle.twkb_command.specs.Misuses.{delimiter_given, has, misuse_of}

-- the names of the subcommands
abbrev pub IsSubcommand : Text → Type 0
IsSubcommand name = (name ≡ codes "pack") ⊎ (name ≡ codes "unpack") ⊎ (name ≡ codes "show")

-- the text is a number that limits allow as a nesting
abbrev pub IsNest : Text → Type 0
IsNest digits =
    IsNumeral 10 (without_leading_plus digits) × (digits_value 10 (without_leading_plus digits) ≤ NEST_CAP)

-- the limits with the nesting that the option gives, or the standard ones if it gives none
abbrev pub AreLimits : Option Text → Allowance → Type 0
AreLimits None l = l ≡ standard_limits
AreLimits (Some digits) l = IsNest digits
    × (l ≡ record standard_limits { nest = digits_value 10 (without_leading_plus digits) })

-- the option gives nothing, or a number from 0 to 32
abbrev pub GivesNest : Option Text → Type 0
GivesNest None = ⊤
GivesNest (Some digits) = IsNest digits

-- the option gives a text that is not a number from 0 to 32
abbrev pub GivesNoNest : Option Text → Type 0
GivesNoNest None = ⊥
GivesNoNest (Some digits) = IsNest digits → ⊥

-- the style that the option gives: plain for `plain`, full for `full` or if it gives none
abbrev pub IsStyle : Option Text → Style → Type 0
IsStyle None style = style ≡ Full
IsStyle (Some name) style = (style ≡ Plain) ↔ (name ≡ codes "plain")

-- the option gives a number from -8 to 7
abbrev pub GivesPrecision : Option Text → Type 0
GivesPrecision None = ⊥
GivesPrecision (Some digits) = IsSignedIn (negsuc 7) (pos 7) digits

-- the option gives nothing, or no number from -8 to 7
abbrev pub GivesNoPrecision : Option Text → Type 0
GivesNoPrecision None = ⊤
GivesNoPrecision (Some digits) = IsSignedIn (negsuc 7) (pos 7) digits → ⊥

-- the number that the option gives
abbrev pub IsPrecisionOf : Option Text → ℤ → Type 0
IsPrecisionOf None precision = ⊥
IsPrecisionOf (Some digits) precision = precision ≡ signed_digits_value 10 digits

-- the texts of words
abbrev pub words_of : List (Bor Text) → List Text
words_of = map (λ w. w.now)

-- the text that a request has for a name
abbrev pub name_in : Option (Bor Text) → Option Text
name_in = option_map (λ name. name.now)

-- the file that a word names: none if there is no word, or if it is `-`
abbrev pub file_of : Option Text → Option Text
file_of None = None
file_of (Some name) = if bytes_eq name (codes "-") then None else Some name

-- The rows of `pack` ask for this column: its name, its precision, the column of ids if `--ids` names one, the words of
-- `--null`, the byte between two fields, which is a comma if no option gives one, and the style of the blobs.
pub record IsColumn (rows : List Row) (words : ColumnWords) : Type 0 where
  pub style : IsStyle (first_of (codes "style") rows) words.style
  pub name : Some words.name.now ≡ first_of (codes "column") rows
  pub precision : IsPrecisionOf (one_of (codes "precision") rows) words.precision
  pub ids : name_in words.ids ≡ first_of (codes "ids") rows
  pub nulls : words_of words.nulls.items ≡ unwrap_or (all_of (codes "null") rows) []
  pub delimiter : delimiter_given (first_of (codes "delimiter") rows) ≡ Some words.delimiter

-- This is the column that was asked for, with its column of ids if one is named.
pub record IsColumnOf (words : ColumnWords) (column : Column) : Type 0 where
  pub name : column.name.now ≡ words.name.now
  pub ids : name_in column.ids ≡ name_in words.ids
  pub precision : column.precision ≡ words.precision
  pub nulls : words_of column.nulls.now ≡ words_of words.nulls.items
  pub delimiter : column.delimiter ≡ words.delimiter

-- the job of `pack`: a column of a CSV if one is named, to a stream or, if a flag asks for it, to digits, else a table,
-- in the style that the option gives
abbrev pub IsPackJob : List Row → Job → Type 0
IsPackJob rows (job.Convert (conversion.Pack style)) =
    (first_of (codes "column") rows ≡ None) × IsStyle (first_of (codes "style") rows) style
IsPackJob rows (job.PackColumn words) = IsColumn rows words
    × (has rows word.Hex ≡ false) × (has rows word.HexBare ≡ false)
IsPackJob rows (job.PackHex words true) = IsColumn rows words × (has rows word.HexBare ≡ true)
IsPackJob rows (job.PackHex words false) = IsColumn rows words
    × (has rows word.Hex ≡ true) × (has rows word.HexBare ≡ false)
IsPackJob rows _ = ⊥

-- the job of `unpack`: a column of a CSV if one is named, of a stream or, if a flag says so, of a CSV with digits in
-- it, else GeoJSON if that flag is given, in lines or as the collection that a flag asks for, else a table
abbrev pub IsUnpackJob : List Row → Job → Type 0
IsUnpackJob rows (job.Convert conversion.Unpack) =
    (first_of (codes "column") rows ≡ None) × (has rows word.Geojson ≡ false)
IsUnpackJob rows (job.Convert conversion.Geojson) = (first_of (codes "column") rows ≡ None)
    × (has rows word.Geojson ≡ true) × (has rows word.Collection ≡ false)
IsUnpackJob rows job.UnpackCollection = (first_of (codes "column") rows ≡ None)
    × (has rows word.Geojson ≡ true) × (has rows word.Collection ≡ true)
IsUnpackJob rows (job.UnpackColumn name delimiter) = (Some name.now ≡ first_of (codes "column") rows)
    × (delimiter_given (first_of (codes "delimiter") rows) ≡ Some delimiter)
    × ((has rows word.Hex || has rows word.HexBare) ≡ false)
IsUnpackJob rows (job.UnpackHex name delimiter) = (Some name.now ≡ first_of (codes "column") rows)
    × (delimiter_given (first_of (codes "delimiter") rows) ≡ Some delimiter)
    × ((has rows word.Hex || has rows word.HexBare) ≡ true)
IsUnpackJob rows _ = ⊥

-- the job of the subcommand with this name
abbrev pub IsJob : Text → List Row → Job → Type 0
IsJob name rows what = ((name ≡ codes "pack") × IsPackJob rows what)
    ⊎ ((name ≡ codes "unpack") × IsUnpackJob rows what)
    ⊎ ((name ≡ codes "show") × (what ≡ job.Convert conversion.Show))

-- What rows without a misuse have: the precision of a column that `pack` names, and a delimiter.
pub record IsProper (name : Text) (rows : List Row) : Type 0 where
  pub precision : name ≡ codes "pack" → is_some (first_of (codes "column") rows) ≡ true
      → GivesPrecision (one_of (codes "precision") rows)
  pub delimiter : (name ≡ codes "pack") ⊎ (name ≡ codes "unpack")
      → is_some (delimiter_given (first_of (codes "delimiter") rows)) ≡ true

-- A subcommand with this name and these rows makes the request: its job, its limits, and its files.
pub record Makes (name : Text) (rows : List Row) (request : Request) : Type 0 where
  pub job : IsJob name rows request.job
  pub limits : AreLimits (one_of (codes "max-nest") rows) request.limits
  pub input : name_in request.input ≡ file_of (first_of (codes "file") rows)
  pub output : name_in request.output ≡ file_of (first_of (codes "output") rows)

-- the rows of a subcommand make this request
abbrev pub IsAskedBy : Option (Text × List Row) → Request → Type 0
IsAskedBy None request = ⊥
IsAskedBy (Some (name, rows)) request = Makes name rows request

-- the option of a subcommand gives nothing, or a number from 0 to 32
abbrev pub HasNest : Option (Text × List Row) → Type 0
HasNest None = ⊤
HasNest (Some (name, rows)) = GivesNest (one_of (codes "max-nest") rows)

-- the option of a subcommand gives nothing, or a number from -8 to 7
abbrev pub HasPrecision : Option (Text × List Row) → Type 0
HasPrecision None = ⊤
HasPrecision (Some (name, rows)) =
    (digits : Text) → one_of (codes "precision") rows ≡ Some digits → IsSignedIn (negsuc 7) (pos 7) digits

-- the rows are those of a subcommand
abbrev pub NamesConversion : Option (Text × List Row) → Type 0
NamesConversion None = ⊥
NamesConversion (Some (name, rows)) = IsSubcommand name

-- the words ask for the job of this request, with its limits and its files
abbrev pub AsksFor : App → List Text → Request → Type 0
AsksFor line words request = IsAskedBy (subcommand_of line words) request

-- the refusal for an error of this kind, unless memory was refused
abbrev pub IsRefusal : ErrorKind → Refusal → Type 0
IsRefusal kind refusal.Memory = ⊤
IsRefusal kind (refusal.Help text) = kind ≡ DisplayHelp
IsRefusal kind (refusal.Version text) = kind ≡ DisplayVersion
IsRefusal kind (refusal.Usage text) = (kind ≢ DisplayHelp) × (kind ≢ DisplayVersion)
IsRefusal kind (refusal.Misused m) = ⊥

-- the refusal of words that have this misuse, unless memory was refused
abbrev pub IsMisuse : Option Misuse → Refusal → Type 0
IsMisuse found refusal.Memory = ⊤
IsMisuse found (refusal.Misused m) = found ≡ Some m
IsMisuse found _ = ⊥

-- the refusal of words that may have errors of these kinds, and this misuse if they have none: help or the version if
-- it was asked for, unless memory was refused
abbrev pub IsRefusalAmong : Kinds → Option Misuse → Refusal → Type 0
IsRefusalAmong kinds found refusal.Memory = ⊤
IsRefusalAmong kinds found (refusal.Help text) = IsAmong DisplayHelp kinds
IsRefusalAmong kinds found (refusal.Version text) = IsAmong DisplayVersion kinds
IsRefusalAmong kinds found (refusal.Misused m) = (kinds ≡ []) × (found ≡ Some m)
IsRefusalAmong kinds found (refusal.Usage text) = (kind : ErrorKind) × IsAmong kind kinds
    × (kind ≢ DisplayHelp) × (kind ≢ DisplayVersion)

-- the fault of words asks only for help, only for the version, or for neither
abbrev pub IsOneRequest : Kinds → Type 0
IsOneRequest kinds = (kinds ≡ DisplayHelp ∷ []) ⊎ (kinds ≡ DisplayVersion ∷ [])
    ⊎ ((IsAmong DisplayHelp kinds → ⊥) × (IsAmong DisplayVersion kinds → ⊥))

-- The result of reading words: their request if they have no fault and no misuse, otherwise a refusal of one of the
-- fault's kinds, or for the misuse. The fault asks only for help, only for the version, or for neither.
pub record Reads (line : App) (words : List Text) (answer : Result Request Refusal) : Type 0 where
  pub asked : IfOk answer (AsksFor line words)
  pub fits : OnOk answer (fault_of line words ≡ [])
  pub proper : OnOk answer (misuse_of (subcommand_of line words) ≡ None)
  pub refused : IfErr answer (IsRefusalAmong (fault_of line words) (misuse_of (subcommand_of line words)))
  pub one_request : IsOneRequest (fault_of line words)
