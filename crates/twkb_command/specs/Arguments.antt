-- The command line, as `clap` sees it: the program, its subcommands, and their arguments.
use Rattle.std.specs.Prelude.{◌≡◌, List, [], ◌∷◌, negsuc, pos, true, Some, codes, map}
use Rattle.std.specs.Borrow.{Bor}
use Rattle.clap.specs.Words.{App, Rule, Shape, Text, new_app, new_rule, with_rule, with_subcommand}
use Rattle.clap.specs.declared.builder.action.ArgAction.TheVariants.{Append, SetTrue}
use Rattle.clap.specs.declared.builder.value_parser.ValueParser.TheVariants as parser

-- an option with this name, whose value is any text
abbrev pub text_option : Text → Rule
text_option name = record (new_rule name) { long = Some name; value_names = 1 }

-- a flag with this name
abbrev pub flag : Text → Rule
flag name = record (new_rule name) { long = Some name; action = Some SetTrue }

-- `--hex=bare`, a flag that is found as `--hex-bare`
abbrev pub bare_flag : Rule
bare_flag = record (flag (codes "hex-bare")) { long = Some (codes "hex=bare"); aliases = codes "hex-bare" ∷ [] }

-- `--max-nest`, with values 0 to 32
abbrev pub max_nest : Rule
max_nest = record (text_option (codes "max-nest")) { parser = Some (parser.Signed (pos 0) (pos 32)) }

-- `--style`, whose values are these names
abbrev pub style_option : Bor (List (Bor Text)) → Rule
style_option styles = record (text_option (codes "style")) { parser = Some (parser.Names styles) }

-- `--precision`, with values -8 to 7
abbrev pub precision_option : Rule
precision_option = record (text_option (codes "precision")) { parser = Some (parser.Signed (negsuc 7) (pos 7)) }

-- `--null`, which may be given several times
abbrev pub null_option : Rule
null_option = record (text_option (codes "null")) { action = Some Append }

-- `--output` or `-o`, whose value is any text
abbrev pub output_option : Rule
output_option = record (text_option (codes "output")) { short = Some 111 }

-- the word of a subcommand that belongs to no option
abbrev pub file_word : Rule
file_word = record (new_rule (codes "file")) { value_names = 1 }

-- a subcommand with `--output` and the word for a file, besides its options
abbrev pub with_files : App → Shape
with_files app = (with_rule (with_rule app output_option) file_word).top

-- a subcommand with this name and the option `--max-nest`
abbrev pub conversion_app : Text → App
conversion_app name = with_rule (new_app name) max_nest

-- a subcommand with the options that name a column and its precision
abbrev pub with_column : App → App
with_column app = with_rule (with_rule app (text_option (codes "column"))) precision_option

-- a subcommand with the flags about digits
abbrev pub with_digits : App → App
with_digits app = with_rule (with_rule app (flag (codes "hex"))) bare_flag

-- a subcommand with the options about the fields of a CSV
abbrev pub with_fields : App → App
with_fields app = with_rule (with_rule app null_option) (text_option (codes "delimiter"))

-- `pack`, which also has `--style` and the options about a column
abbrev pub pack_shape : Bor (List (Bor Text)) → Shape
pack_shape styles = with_files (with_fields (with_digits (with_rule (with_column (with_rule
    (conversion_app (codes "pack")) (style_option styles))) (text_option (codes "ids")))))

-- a subcommand with the options about GeoJSON
abbrev pub with_geojson : App → App
with_geojson app = with_rule (with_rule app (flag (codes "geojson"))) (flag (codes "collection"))

-- `unpack`, which also has `--column`, `--delimiter` and the options about digits and GeoJSON
abbrev pub unpack_shape : Shape
unpack_shape = with_files (with_geojson (with_digits (with_rule (with_rule (conversion_app (codes "unpack"))
    (text_option (codes "column"))) (text_option (codes "delimiter")))))

-- a subcommand with `--max-nest` and files alone
abbrev pub conversion_shape : Text → Shape
conversion_shape name = with_files (conversion_app name)

-- the program: a subcommand is required, `help` is not one, and there is a version
abbrev pub bare_app : App
bare_app =
    let app = new_app (codes "polytwkb") in
    record app {
      top = record app.top {
        subcommand_required = true;
        disable_help_subcommand = true;
        has_version = true;
      };
    }

-- the program with its subcommands, if the styles have these names
unfoldable pub command_line : Bor (List (Bor Text)) → App
command_line styles =
    with_subcommand (with_subcommand (with_subcommand bare_app (pack_shape styles)) unpack_shape)
    (conversion_shape (codes "show"))

-- The command line: the styles are `full` and `plain`, wherever these names are in memory.
pub record IsCommandLine (line : App) : Type 0 where
  pub styles : Bor (List (Bor Text))
  pub names : map (λ name. name.now) styles.now ≡ codes "full" ∷ codes "plain" ∷ []
  pub is : line ≡ command_line styles
