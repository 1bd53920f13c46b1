-- The values that words without a fault give an option.
use Rattle.std.proofs.Common.{◌≡◌, Bool, true, false, cond, refl, List, [], ◌∷◌, drop}
use Rattle.std.proofs.Common.{Option, Some, None, find, bytes_eq}
use Rattle.std.proofs.Common.{sym, subst, codes, ◌==◌, ◌≤◌, true≢false, ap, arith}
use Rattle.std.proofs.Common.{◌++◌, ◌∙◌}
use Rattle.std.specs.Prelude.{⊤, Result, Ok, Err, IfOk, option_and_then, negsuc, pos, unwrap_or}
use Rattle.std.specs.Borrow.{Bor}
use Rattle.std.specs.Str.Parse.{IsNumeral, digits_value, starts_with_minus, without_leading_plus}
use Rattle.std.proofs.lemmas.Bool.{ne_eqb}
use Rattle.std.proofs.lemmas.Int.{ints}
use Rattle.std.proofs.lemmas.Slice.Eq.{bytes_eq-Decides}
use Rattle.std.proofs.lemmas.Str.Parse.{digit_from_value}
use Rattle.clap.specs.Kinds.{FailsBy, value_kinds, values_kinds}
use Rattle.clap.specs.Walk.{Row, Rule, Text}
use Rattle.clap.specs.Walk.{default_rows, has_row}
use Rattle.clap.specs.Walk.{reading_by}
use Rattle.clap.specs.Walk.{used}
use Rattle.clap.specs.Walk.{with_default, action_of, at_row, more_values}
use Rattle.clap.specs.Walk.{one_of, row_text, used_as, values_or_missing, with_values, without}
use Rattle.clap.specs.Lexer.{without_minus}
use Rattle.clap.specs.Simple.{built, subcommand_of, subcommand_rows_of, filled}
use Rattle.clap.specs.Simple.{help_rule, with_index}
use Rattle.clap.specs.Faults.{fault_of}
use Rattle.clap.specs.Faults.{use_fault}
use Rattle.clap.specs.Faults.{action_fault, values_fault}
use Rattle.clap.specs.declared.error.Error.{Error}
use Rattle.clap.specs.declared.parser.matches.ArgMatches.{ArgMatches}
use Rattle.clap.proofs.OnLiterals.{clap_on_literals}
use Rattle.clap.specs.Values.{IsSignedIn, read_as, refused_kind}
use Rattle.clap.specs.ValueTests.{accepts}
use Rattle.clap.specs.declared.builder.action.ArgAction.{ArgAction}
use Rattle.clap.specs.declared.builder.value_parser.Reading.{Reading}
use Rattle.clap.specs.declared.parser.matches.ValueSource.{ValueSource}
use Rattle.clap.specs.declared.parser.matches.ValueSource.TheVariants.{CommandLine, DefaultValue}
use Rattle.clap.proofs.ValueTestLemmas.{accepts-Accepts}
use Rattle.clap.specs.declared.builder.action.ArgAction.TheVariants as action
use Rattle.clap.specs.declared.builder.value_parser.Reading.TheVariants as reading
use Rattle.clap.specs.declared.builder.value_parser.ValueParser.TheVariants as parser
use Rattle.twkb_tree.specs.declared.limits.TheConstants.{NEST_CAP}
use Rattle.twkb_command.specs.Arguments.{bare_flag, command_line, file_word, flag, max_nest, null_option, output_option}
use Rattle.twkb_command.specs.Arguments.{precision_option, style_option, text_option}
use Rattle.twkb_command.specs.CommandLine.{GivesNest, HasNest, HasPrecision, IsNest}
use Rattle.twkb_command.proofs.PassedLemmas.{EachLevel, HoldsBelow, Keeps, first_none, last_none, subcommand_holds}

-- ==== The rows of words without a fault have only such values of an option.

abbrev IsStoring : ArgAction → Type 0
IsStoring action.Set = ⊤
IsStoring action.SetTrue = ⊤
IsStoring action.Append = ⊤
IsStoring _ = ⊥

-- the values of a use that is no fault are none
values_fine : (x : ArgAction) (again : Bool) (a : Rule) (values : List Text) (rows : List Row) → IsStoring x
    → action_fault x again a values rows ≡ [] → values_fault a values ≡ []
values_fine action.Set again a values rows stores none = last_none _ _ none
values_fine action.SetTrue again a values rows stores none = last_none _ _ none
values_fine action.Append again a values rows stores none = none
values_fine _ again a values rows stores none = absurd stores

-- a text that is compared as another one
other_option : {A : Type 0} {b : Bool} → b ≡ false → b ≡ true → A
other_option other same = absurd (true≢false (sym same ∙ other))

module _ (id : Text) (how : Reading) (Is : Text → Type 0) where
  abbrev pub EachValue : List Text → Type 0
  EachValue [] = ⊤
  EachValue (v ∷ vs) = Is (read_as how v) × EachValue vs

  abbrev IsValueRow : Row → Type 0
  IsValueRow r = bytes_eq r.id id ≡ true → (r.reading ≡ how) × EachValue r.values

  abbrev pub ValueRows : List Row → Type 0
  ValueRows [] = ⊤
  ValueRows (r ∷ rs) = IsValueRow r × ValueRows rs

  each_join : (us vs : List Text) → EachValue us → EachValue vs → EachValue (us ++ vs)
  each_join [] vs first second = second
  each_join (u ∷ us) vs first second = (first.0, each_join us vs first.1 second)

  rows_join : (xs ys : List Row) → ValueRows xs → ValueRows ys → ValueRows (xs ++ ys)
  rows_join [] ys first second = second
  rows_join (x ∷ xs) ys first second = (first.0, rows_join xs ys first.1 second)

  at_row_holds : (changed : Text) (change : Row → List Row) (missing rows : List Row)
      → ((r : Row) → bytes_eq r.id changed ≡ true → IsValueRow r → ValueRows (change r))
      → ValueRows missing → ValueRows rows → ValueRows (at_row changed change missing rows)
  at_row_holds changed change missing [] changes lacks held = lacks
  at_row_holds changed change missing (r ∷ rs) changes lacks held = go (bytes_eq r.id changed) refl
      (at_row_holds changed change missing rs changes lacks held.1)
    where
      go : (b : Bool) → bytes_eq r.id changed ≡ b → ValueRows (at_row changed change missing rs)
          → ValueRows (cond b (change r ++ rs) (r ∷ at_row changed change missing rs))
      go true same later = rows_join (change r) rs (changes r same held.0) held.1
      go false other later = (held.0, later)

  same_id : (a b : Text) → bytes_eq a b ≡ true → bytes_eq a id ≡ true → bytes_eq b id ≡ true
  same_id a b same is = subst (λ x. bytes_eq x id ≡ true) ((bytes_eq-Decides a b).0 same) is

  without_rows : (changed : Text) (rows : List Row) → ValueRows rows → ValueRows (without changed rows)
  without_rows changed rows held = at_row_holds changed (λ r. []) [] rows (λ r same is. tt) tt held

  added_rows : (changed : Text) (read : Reading) (source : ValueSource) (values : List Text) (rows : List Row)
      → (bytes_eq changed id ≡ true → (read ≡ how) × EachValue values) → ValueRows rows
      → ValueRows (with_values changed read source values rows)
  added_rows changed read source values rows given held =
      at_row_holds changed (more_values source values) _ rows
      (λ r same is. (
        λ own. let before = is own in
            (before.0, each_join r.values values before.1 (given (same_id r.id changed same own)).1),
        tt,
      ))
      (given, tt) held

  -- ---- the arguments of the subcommands

  used_rows : (x : ArgAction) (a : Rule) (values : List Text) (rows : List Row) → IsStoring x
      → (bytes_eq a.id id ≡ true → (reading_by a ≡ how) × EachValue values) → ValueRows rows
      → ValueRows (used_as x a.id (reading_by a) values rows)
  used_rows action.Set a values rows stores given held =
      added_rows a.id (reading_by a) CommandLine values _ given (without_rows a.id rows held)
  used_rows action.SetTrue a values rows stores given held =
      added_rows a.id (reading_by a) CommandLine values _ given (without_rows a.id rows held)
  used_rows action.Append a values rows stores given held =
      added_rows a.id (reading_by a) CommandLine values rows given held
  used_rows _ a values rows stores given held = absurd stores

  use_keeps : (again : Bool) (a : Rule) → IsStoring (action_of a)
      → ((values : List Text) → values_fault a values ≡ [] → bytes_eq a.id id ≡ true
      → (reading_by a ≡ how) × EachValue values)
      → (values : List Text) (rows : List Row) → ValueRows rows → use_fault again a values rows ≡ []
      → ValueRows (used a values rows)
  use_keeps again a stores given values rows held none =
      let given_values = values_or_missing a values in
      let fine = values_fine (action_of a) again a given_values rows stores (last_none _ _ none) in
      used_rows (action_of a) a given_values rows stores (given given_values fine) held

  default_keeps : (a : Rule) → (bytes_eq a.id id ≡ true → a.defaults ≡ []) → (rows : List Row)
      → ValueRows rows → ValueRows (with_default rows a)
  default_keeps a bare rows held = go (has_row a.id rows) a.defaults bare
    where
      go : (b : Bool) (values : List Text) → (bytes_eq a.id id ≡ true → values ≡ [])
          → ValueRows (cond b rows (default_rows a.id (reading_by a) values rows))
      go true values bare = held
      go false [] bare = held
      go false (v ∷ vs) bare = added_rows a.id (reading_by a) DefaultValue (v ∷ vs) rows
          (λ own. absurd (cc (bare own))) held

  -- the option itself
  pub own_keeps : (again : Bool) (a : Rule) → IsStoring (action_of a) → a.defaults ≡ [] → reading_by a ≡ how
      → ((values : List Text) → values_fault a values ≡ [] → EachValue values) → Keeps ValueRows again a
  own_keeps again a stores bare reads fits =
      (use_keeps again a stores (λ values fine own. (reads, fits values fine)), default_keeps a (λ own. bare))

  -- any other argument that keeps its values
  pub other_keeps : (again : Bool) (a : Rule) → IsStoring (action_of a) → bytes_eq a.id id ≡ false
      → Keeps ValueRows again a
  other_keeps again a stores other = (
    use_keeps again a stores (λ values fine own. other_option other own),
    default_keeps a (λ own. other_option other own),
  )

  help_use : (again : Bool) (a : Rule) → action_of a ≡ action.Help → (values : List Text) (rows : List Row)
      → ValueRows rows → use_fault again a values rows ≡ [] → ValueRows (used a values rows)
  help_use again a is values rows held none =
      let P : ArgAction → Type 0 = λ x. action_fault x again a (values_or_missing a values) rows ≡ [] → ⊥ in
      let here : P action.Help = λ fine. cc fine in
      absurd (subst P (sym is) here (last_none _ _ none))

  -- the flag that asks for help
  pub help_keeps : (again : Bool) → bytes_eq (codes "help") id ≡ false → Keeps ValueRows again (filled help_rule)
  help_keeps again other = (
    help_use again (filled help_rule) refl,
    default_keeps (filled help_rule) (λ own. refl),
  )

  -- ---- the value of the option

  abbrev pub IsGiven : Option Text → Type 0
  IsGiven None = ⊤
  IsGiven (Some text) = Is text

  head_value : (r : Row) → IsValueRow r → bytes_eq r.id id ≡ true → IsGiven (row_text r)
  head_value r is same = go r.reading r.values (is same).0 (is same).1
    where
      go : (read : Reading) (values : List Text) → read ≡ how → EachValue values
          → IsGiven (row_text (record r { reading = read; values = values }))
      go read [] reads each = tt
      go read (v ∷ vs) reads each = subst (λ x. IsGiven
          (row_text (record r { reading = x; values = v ∷ vs }))) (sym reads) each.0

  pub one_value : (rows : List Row) → ValueRows rows → IsGiven (one_of id rows)
  one_value [] held = tt
  one_value (r ∷ rs) held = go (bytes_eq r.id id) refl (one_value rs held.1)
    where
      go : (b : Bool) → bytes_eq r.id id ≡ b → IsGiven (one_of id rs)
          → IsGiven (option_and_then row_text (cond b (Some r) (find (λ x. bytes_eq x.id id) rs)))
      go true same later = head_value r held.0 same
      go false other later = later

-- ==== Words without a fault give `--max-nest` only numbers from 0 to 32.

-- ---- a text that `clap` accepts as a number from 0 to 32 is one, read without its minus

without_minus-cond : (t : Text) → without_minus t ≡ cond (starts_with_minus t) (drop 1 t) t
without_minus-cond [] = refl
without_minus-cond (x ∷ xs) =
    elim (x == 45) as (λ (b : Bool). unwrap_or (cond b (Some xs) None) (x ∷ xs) ≡ cond b xs
    (x ∷ xs)) [ true ↦ refl | false ↦ refl ]

no_plus : (ds : Text) → IsNumeral 10 ds → without_leading_plus ds ≡ ds
no_plus [] h = refl
no_plus (d ∷ ds) h =
    let plus : (d == 43) ≡ false = ne_eqb _ _ (λ e. omega (arith, digit_from_value d h.1.0)) in
    ap (λ (b : Bool). drop (cond b 1 0) (d ∷ ds)) plus

numeral_nest : (ds : Text) → IsNumeral 10 ds → digits_value 10 ds ≤ NEST_CAP → IsNest ds
numeral_nest ds numeral small = rw (no_plus ds numeral) (numeral, small)

signed_nest : (t : Text) → IsSignedIn (pos 0) (pos NEST_CAP) t → IsNest (without_minus t)
signed_nest t passed = rw (without_minus-cond t) (go (starts_with_minus t) refl)
  where
    go : (b : Bool) → starts_with_minus t ≡ b → IsNest (cond b (drop 1 t) t)
    go true minus =
        let low_ok = rw minus at passed.2 in
        let numeral : IsNumeral 10 (drop 1 t) = rw minus at passed.0 in
        numeral_nest (drop 1 t) numeral (omega (arith, ints))
    go false minus =
        let high_ok = rw minus at passed.3 in
        let numeral : IsNumeral 10 (without_leading_plus t) = rw minus at passed.0 in
        (numeral, omega (arith, ints))

accepted_nest : (t : Text) → value_kinds false (parser.Signed (pos 0) (pos 32)) t ≡ [] → IsNest (without_minus t)
accepted_nest t none = go (accepts false (parser.Signed (pos 0) (pos 32)) t) refl none
  where
    go : (b : Bool) → accepts false (parser.Signed (pos 0) (pos 32)) t ≡ b
        → cond b [] (refused_kind (parser.Signed (pos 0) (pos 32)) ∷ []) ≡ []
        → IsNest (without_minus t)
    go true passed none = signed_nest t (accepts-Accepts false (parser.Signed (pos 0) (pos 32)) t passed)
    go false passed none = absurd (cc none)

-- ---- the option in each subcommand

abbrev NestRows : List Row → Type 0
NestRows = ValueRows (codes "max-nest") reading.WithoutMinus IsNest

each_accepted : (values : List Text) → values_kinds false (parser.Signed (pos 0) (pos 32)) values ≡ []
    → EachValue (codes "max-nest") reading.WithoutMinus IsNest values
each_accepted [] none = tt
each_accepted (v ∷ vs) none = (accepted_nest v (first_none _ _ none), each_accepted vs (last_none _ _ none))

nest_keeps : Keeps NestRows false (filled max_nest)
nest_keeps = own_keeps (codes "max-nest") reading.WithoutMinus IsNest false (filled max_nest) tt refl refl each_accepted

beside_nest : (a : Rule) → IsStoring (action_of a) → bytes_eq a.id (codes "max-nest") ≡ false → Keeps NestRows false a
beside_nest = other_keeps (codes "max-nest") reading.WithoutMinus IsNest false

module _ (id : Text) (how : Reading) (Is : Text → Type 0) where
  -- the rest of each subcommand
  abbrev FilesKeep : Type 0
  FilesKeep = Keeps (ValueRows id how Is) false (filled output_option)
      × (Keeps (ValueRows id how Is) false (with_index 1 (filled file_word))
      × (Keeps (ValueRows id how Is) false (filled help_rule) × ⊤))

  files_keep : bytes_eq (codes "output") id ≡ false → bytes_eq (codes "file") id ≡ false
      → bytes_eq (codes "help") id ≡ false → FilesKeep
  files_keep output file help = (
    other_keeps id how Is false (filled output_option) tt output,
    (
      other_keeps id how Is false (with_index 1 (filled file_word)) tt file,
      (help_keeps id how Is false help, tt),
    ),
  )

levels_nest : (styles : Bor (List (Bor Text))) → EachLevel NestRows (built (command_line styles)).subs
unfolding clap_on_literals command_line
levels_nest styles = (
  (
    nest_keeps,
    (
      beside_nest (filled (style_option styles)) tt refl,
      (
        beside_nest (filled (text_option (codes "column"))) tt refl,
        (
          beside_nest (filled precision_option) tt refl,
          (
            beside_nest (filled (text_option (codes "ids"))) tt refl,
            (
              beside_nest (filled (flag (codes "hex"))) tt refl,
              (
                beside_nest (filled bare_flag) tt refl,
                (
                  beside_nest (filled null_option) tt refl,
                  (beside_nest (filled (text_option (codes "delimiter"))) tt refl, files),
                ),
              ),
            ),
          ),
        ),
      ),
    ),
  ),
  (
    (
      nest_keeps,
      (
        beside_nest (filled (text_option (codes "column"))) tt refl,
        (
          beside_nest (filled (text_option (codes "delimiter"))) tt refl,
          (
            beside_nest (filled (flag (codes "hex"))) tt refl,
            (
              beside_nest (filled bare_flag) tt refl,
              (
                beside_nest (filled (flag (codes "geojson"))) tt refl,
                (beside_nest (filled (flag (codes "collection"))) tt refl, files),
              ),
            ),
          ),
        ),
      ),
    ),
    ((nest_keeps, files), tt),
  ),
)
  where
    files : FilesKeep (codes "max-nest") reading.WithoutMinus IsNest
    files = files_keep (codes "max-nest") reading.WithoutMinus IsNest refl refl refl

given_nest : (given : Option Text) → IsGiven (codes "max-nest") reading.WithoutMinus IsNest given → GivesNest given
given_nest None is = tt
given_nest (Some digits) is = is

below_nest : (used : Option (Text × List Row)) → HoldsBelow NestRows used → HasNest used
below_nest None holds = tt
below_nest (Some p) holds = given_nest _ (one_value (codes "max-nest") reading.WithoutMinus IsNest p.1 holds)

-- words that the command line accepts give the option only numbers from 0 to 32
pub has_nest : (styles : Bor (List (Bor Text))) (words : List Text)
    → fault_of (command_line styles) words ≡ [] → HasNest
    (subcommand_of (command_line styles) words)
has_nest styles words none = below_nest _ (subcommand_holds NestRows (command_line styles) words
    (levels_nest styles) tt none)

pub nest_line : (styles : Bor (List (Bor Text))) (result : Result ArgMatches Error)
    (words : List Text) → FailsBy (fault_of (command_line styles) words) result
    → IfOk result (λ m. subcommand_rows_of m ≡ subcommand_of (command_line styles) words)
    → IfOk result (λ m. HasNest (subcommand_rows_of m))
nest_line styles (Ok m) words none is = subst HasNest (sym is) (has_nest styles words none)
nest_line styles (Err e) words kinds is = tt

-- ==== Words without a fault give `--precision` only numbers from -8 to 7.

accepted_precision : (t : Text) → value_kinds false (parser.Signed (negsuc 7) (pos 7)) t ≡ []
    → IsSignedIn (negsuc 7) (pos 7) t
accepted_precision t none = go (accepts false (parser.Signed (negsuc 7) (pos 7)) t) refl none
  where
    go : (b : Bool) → accepts false (parser.Signed (negsuc 7) (pos 7)) t ≡ b
        → cond b [] (refused_kind (parser.Signed (negsuc 7) (pos 7)) ∷ []) ≡ []
        → IsSignedIn (negsuc 7) (pos 7) t
    go true passed none = accepts-Accepts false (parser.Signed (negsuc 7) (pos 7)) t passed
    go false passed none = absurd (cc none)

abbrev IsDecimals : Text → Type 0
IsDecimals = IsSignedIn (negsuc 7) (pos 7)

abbrev PrecisionRows : List Row → Type 0
PrecisionRows = ValueRows (codes "precision") reading.AsWritten IsDecimals

each_precision : (values : List Text) → values_kinds false (parser.Signed (negsuc 7) (pos 7)) values ≡ []
    → EachValue (codes "precision") reading.AsWritten IsDecimals values
each_precision [] none = tt
each_precision (v ∷ vs) none = (accepted_precision v (first_none _ _ none), each_precision vs (last_none _ _ none))

precision_keeps : Keeps PrecisionRows false (filled precision_option)
precision_keeps = own_keeps (codes "precision") reading.AsWritten IsDecimals false (filled precision_option) tt
    refl refl each_precision

beside_precision : (a : Rule) → IsStoring (action_of a) → bytes_eq a.id (codes "precision") ≡ false
    → Keeps PrecisionRows false a
beside_precision = other_keeps (codes "precision") reading.AsWritten IsDecimals false

levels_precision : (styles : Bor (List (Bor Text))) → EachLevel PrecisionRows (built (command_line styles)).subs
unfolding clap_on_literals command_line
levels_precision styles = (
  (
    nest,
    (
      beside_precision (filled (style_option styles)) tt refl,
      (
        beside_precision (filled (text_option (codes "column"))) tt refl,
        (
          precision_keeps,
          (
            beside_precision (filled (text_option (codes "ids"))) tt refl,
            (
              beside_precision (filled (flag (codes "hex"))) tt refl,
              (
                beside_precision (filled bare_flag) tt refl,
                (
                  beside_precision (filled null_option) tt refl,
                  (beside_precision (filled (text_option (codes "delimiter"))) tt refl, files),
                ),
              ),
            ),
          ),
        ),
      ),
    ),
  ),
  (
    (
      nest,
      (
        beside_precision (filled (text_option (codes "column"))) tt refl,
        (
          beside_precision (filled (text_option (codes "delimiter"))) tt refl,
          (
            beside_precision (filled (flag (codes "hex"))) tt refl,
            (
              beside_precision (filled bare_flag) tt refl,
              (
                beside_precision (filled (flag (codes "geojson"))) tt refl,
                (beside_precision (filled (flag (codes "collection"))) tt refl, files),
              ),
            ),
          ),
        ),
      ),
    ),
    ((nest, files), tt),
  ),
)
  where
    nest : Keeps PrecisionRows false (filled max_nest)
    nest = beside_precision (filled max_nest) tt refl

    files : FilesKeep (codes "precision") reading.AsWritten IsDecimals
    files = files_keep (codes "precision") reading.AsWritten IsDecimals refl refl refl

given_precision : (given : Option Text) → IsGiven (codes "precision") reading.AsWritten IsDecimals given
    → (digits : Text) → given ≡ Some digits → IsDecimals digits
given_precision None is digits same = absurd (cc same)
given_precision (Some text) is digits same =
    let equal : text ≡ digits = cc same in
    subst IsDecimals equal is

below_precision : (used : Option (Text × List Row)) → HoldsBelow PrecisionRows used → HasPrecision used
below_precision None holds = tt
below_precision (Some p) holds =
    given_precision _ (one_value (codes "precision") reading.AsWritten IsDecimals p.1 holds)

-- words that the command line accepts give the option only numbers from -8 to 7
pub has_precision : (styles : Bor (List (Bor Text))) (words : List Text)
    → fault_of (command_line styles) words ≡ [] → HasPrecision
    (subcommand_of (command_line styles) words)
has_precision styles words none = below_precision _ (subcommand_holds PrecisionRows (command_line styles) words
    (levels_precision styles) tt none)

pub precision_line : (styles : Bor (List (Bor Text))) (result : Result ArgMatches Error)
    (words : List Text) → FailsBy (fault_of (command_line styles) words) result
    → IfOk result (λ m. subcommand_rows_of m ≡ subcommand_of (command_line styles) words)
    → IfOk result (λ m. HasPrecision (subcommand_rows_of m))
precision_line styles (Ok m) words none is = subst HasPrecision (sym is) (has_precision styles words none)
precision_line styles (Err e) words kinds is = tt
