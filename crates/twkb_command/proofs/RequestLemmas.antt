-- The command line, its subcommand, and what a fault of its words asks for.
use Rattle.std.proofs.Common.{◌≡◌, true, refl, subst, map, codes, [], ◌∷◌, List, Option, Some, None, ◌∙◌, ◌&&◌, ◌||◌}
use Rattle.std.proofs.Common.{◌==◌, ℕ, zero, suc, Bool, false, true≢false, not, cond, inl, inr, sym, drop, length}
use Rattle.std.proofs.Common.{is_some, find, bytes_eq, chars, encode_utf8, nat_lt, slice_get}
use Rattle.std.specs.Borrow.{Bor}
use Rattle.std.specs.Prelude.{Result, IfOk, option_map, ⊤}
use Rattle.std.proofs.lemmas.Result.{IfOk-weaker}
use Rattle.std.specs.Box.{box_value}
use Rattle.std.specs.List.{list_any}
use Rattle.std.specs.Option.{option_map_or}
use Rattle.clap.specs.Words.{App, FailsBy, HasMatchesOf, is_simple, is_simple_and_free, subcommand_of}
use Rattle.clap.specs.Words.{subcommand_rows_of, found_of, rows_of, subcommand_name_of}
use Rattle.clap.specs.declared.error.Error.{Error}
use Rattle.clap.specs.declared.parser.matches.ArgMatches.{ArgMatches}
use Rattle.clap.proofs.OnLiterals.{clap_on_literals}
use Rattle.clap.specs.declared.parser.matches.ArgMatches.TheViews.{out-ArgMatches, out-SubCommand}
use Rattle.clap.specs.Facts.{parser_of_value, unwrap_or_range}
use Rattle.clap.specs.Faults.{action_fault, bundle_fault, bundle_step_fault, count_fault, default_fault, defaults_fault}
use Rattle.clap.specs.Faults.{entered_fault, fault_of, flag_word_fault, flags_fault, level_fault, long_fault}
use Rattle.clap.specs.Faults.{option_fault, other_fault, positional_fault, react_fault, set_fault, settle_fault}
use Rattle.clap.specs.Faults.{short_fault, step_fault, stray_fault, turn_fault, use_fault, walk_fault}
use Rattle.clap.specs.Kinds.{IsAmong, Kinds, check_kinds, or_else, range_kinds, request_kinds, value_kinds}
use Rattle.clap.specs.Kinds.{values_kinds}
use Rattle.clap.specs.Lexer.{long_of, short_of}
use Rattle.clap.specs.Simple.{Shape, built, label_of}
use Rattle.clap.specs.Values.{refused_kind}
use Rattle.clap.specs.ValueTests.{accepts}
use Rattle.clap.specs.Walk.{Held, Names, Row, Rule, Step, Text, Walk, action_of, answers_to, arg_by_id, arg_by_index}
use Rattle.clap.specs.Walk.{arg_by_long, arg_by_short, attached_value, has_row, is_empty, is_pending, most_values}
use Rattle.clap.specs.Walk.{nothing_held, reacted, settled, subcommand_met, takes_several, takes_values}
use Rattle.clap.specs.Walk.{value, values_or_missing, walk, walk_from, walked, with_default, word_met}
use Rattle.clap.specs.declared.builder.action.ArgAction.{ArgAction}
use Rattle.clap.specs.declared.builder.value_parser.ValueParser.{ValueParser}
use Rattle.clap.specs.declared.error.kind.ErrorKind.{ErrorKind}
use Rattle.clap.specs.declared.builder.action.ArgAction.TheVariants as action
use Rattle.clap.specs.declared.builder.value_parser.ValueParser.TheVariants as parser
use Rattle.clap.specs.declared.error.kind.ErrorKind.TheVariants as kind
use Rattle.twkb_command.specs.Arguments.{IsCommandLine, command_line}
use Rattle.twkb_command.specs.CommandLine.{IsOneRequest}

-- ==== The command line is one whose matches `clap` specifies.

pub simple_line : (styles : Bor (List (Bor Text))) → is_simple (command_line styles) ≡ true
unfolding clap_on_literals command_line
simple_line styles = refl

pub free_line : (styles : Bor (List (Bor Text))) → is_simple_and_free (command_line styles) ≡ true
unfolding clap_on_literals command_line
free_line styles = refl

pub kinds_line : {T : Type 0} (styles : Bor (List (Bor Text))) (result : Result T Error) (app : App)
    (words : List Text) → app ≡ command_line styles
    → (is_simple_and_free app ≡ true → FailsBy (fault_of app words) result)
    → FailsBy (fault_of (command_line styles) words) result
kinds_line {T} styles result app words line kinds =
    let P : App → Type 0 = λ a. is_simple_and_free a ≡ true → FailsBy (fault_of a words) result in
    subst P line kinds (free_line styles)

pub matches_line : (styles : Bor (List (Bor Text))) (result : Result ArgMatches Error) (app : App)
    (words : List Text) → app ≡ command_line styles
    → IfOk result (HasMatchesOf app words) → IfOk result
    (λ m. subcommand_rows_of m ≡ subcommand_of (command_line styles) words)
matches_line styles result app words line matches =
    let P : App → Type 0 = λ a. IfOk result (HasMatchesOf a words) in
    IfOk-weaker result _ _ (λ m h. (h (simple_line styles)).1) (subst P line matches)

-- what is true of the line for any styles with these names is true of a command line
pub line_of_styles : {P : App → Type 0} (styles : Bor (List (Bor Text)))
    → map (λ name. name.now) styles.now ≡ codes "full" ∷ codes "plain" ∷ []
    → P (command_line styles) → (line : App) × IsCommandLine line × P line
line_of_styles styles names holds = (command_line styles, record { styles = styles; names = names; is = refl }, holds)

-- ==== The subcommand that the getters of `clap` return.

both_parts : {X : Type 0} (used : Option X) (f : X → Text) (g : X → List Row) (name : Text) (rows : List Row)
    → Some name ≡ option_map f used → Some rows ≡ option_map (λ (p : Text × List Row). p.1)
    (option_map {U = Text × List Row} (λ b. (f b, g b)) used)
    → option_map {U = Text × List Row} (λ b. (f b, g b)) used ≡ Some (name, rows)
both_parts None f g name rows first second = cc first
both_parts (Some x) f g name rows first second = cc (first, second)

-- the subcommand that a parse entered
pub used_is : (m : ArgMatches) (name : Text) (rows : List Row) → Some name ≡ subcommand_name_of m
    → Some rows ≡ option_map (λ (p : Text × List Row). p.1) (subcommand_rows_of m)
    → subcommand_rows_of m ≡ Some (name, rows)
used_is m name rows = both_parts (out-ArgMatches m).subcommand (λ b. (out-SubCommand (box_value b)).name.now)
    (λ b. rows_of (found_of (out-SubCommand (box_value b)).matches)) name rows

-- ==== The fault of words asks only for help, only for the version, or for neither.

none_one : IsOneRequest []
none_one = inr (inr (λ h. h, λ v. v))

or_one : (a b : Kinds) → IsOneRequest a → IsOneRequest b → IsOneRequest (or_else a b)
or_one [] b first second = second
or_one (k ∷ ks) b first second = first

if_one : (b : Bool) (x y : Kinds) → IsOneRequest x → IsOneRequest y → IsOneRequest (cond b x y)
if_one true x y first second = first
if_one false x y first second = second

-- ---- kinds that ask for nothing

abbrev is_asked : ErrorKind → Bool
is_asked kind.DisplayHelp = true
is_asked kind.DisplayVersion = true
is_asked k = false

not_among : (k : ErrorKind) → is_asked k ≡ true → (kinds : Kinds) → list_any is_asked kinds ≡ false
    → IsAmong k kinds → ⊥
not_among k asked [] plain listed = listed
not_among k asked (x ∷ xs) plain listed = elim listed [
  | inl same ↦ absurd (true≢false (sym (subst (λ y. is_asked y ≡ true) same asked) ∙ both.0))
  | inr later ↦ not_among k asked xs both.1 later
]
  where
    neither : (a b : Bool) → (a || b) ≡ false → (a ≡ false) × (b ≡ false)
    neither true b e = absurd (true≢false e)
    neither false b e = (refl, e)

    both : (is_asked x ≡ false) × (list_any is_asked xs ≡ false)
    both = neither (is_asked x) (list_any is_asked xs) plain

plain_one : (kinds : Kinds) → list_any is_asked kinds ≡ false → IsOneRequest kinds
plain_one kinds plain = inr
    (inr (
      not_among kind.DisplayHelp refl kinds plain,
      not_among kind.DisplayVersion refl
          kinds plain,
    ))

-- ---- a use of an argument

refused_one : (p : ValueParser) → IsOneRequest (refused_kind p ∷ [])
refused_one p = plain_one (refused_kind p ∷ []) (go p)
  where
    go : (q : ValueParser) → list_any is_asked (refused_kind q ∷ []) ≡ false
    go parser.NonEmptyString = refl
    go _ = refl

value_one : (i : Bool) (p : ValueParser) (t : Text) → IsOneRequest (value_kinds i p t)
value_one i p t = if_one (accepts i p t) [] (refused_kind p ∷ []) none_one (refused_one p)

values_one : (i : Bool) (p : ValueParser) (ts : List Text) → IsOneRequest (values_kinds i p ts)
values_one i p [] = none_one
values_one i p (t ∷ ts) = or_one (value_kinds i p t) (values_kinds i p ts) (value_one i p t) (values_one i p ts)

range_one : (least most n : ℕ) → IsOneRequest (range_kinds least most n)
range_one least most n =
    if_one (nat_lt 0 least && n == 0) _ _ (plain_one (kind.InvalidValue ∷ []) refl)
    (if_one (least == most) _ _ (if_one (least == n) _ _ none_one (plain_one (kind.WrongNumberOfValues ∷ []) refl))
    (if_one (nat_lt n least) _ _ (plain_one (kind.TooFewValues ∷ []) refl)
    (if_one (nat_lt most n) _ _ (plain_one (kind.TooManyValues ∷ []) refl) none_one)))

request_one : (x : ArgAction) → IsOneRequest (request_kinds x)
request_one action.Help = inl refl
request_one action.HelpShort = inl refl
request_one action.HelpLong = inl refl
request_one action.Version = inr (inl refl)
request_one other = none_one

count_one : (a : Rule) (values : List Text) (rows : List Row) → IsOneRequest (count_fault a values rows)
count_one a [] rows = value_one a.ignore_case (parser_of_value a.parser) _
count_one a (v ∷ vs) rows = values_one a.ignore_case (parser_of_value a.parser) (v ∷ vs)

set_one : (again : Bool) (a : Rule) (values : List Text) (rows : List Row)
    → IsOneRequest (set_fault again a values rows)
set_one again a values rows =
    or_one _ _ (if_one (has_row a.id rows && not again) _ _ (plain_one (kind.ArgumentConflict ∷ []) refl) none_one)
    (values_one a.ignore_case (parser_of_value a.parser) values)

action_one : (x : ArgAction) (again : Bool) (a : Rule) (values : List Text) (rows : List Row)
    → IsOneRequest (action_fault x again a values rows)
action_one action.Set again a values rows = set_one again a values rows
action_one action.SetTrue again a values rows = set_one again a values rows
action_one action.SetFalse again a values rows = set_one again a values rows
action_one action.Append again a values rows = values_one a.ignore_case (parser_of_value a.parser) values
action_one action.Count again a values rows = count_one a values rows
action_one other again a values rows = request_one other

use_one : (again : Bool) (a : Rule) (values : List Text) (rows : List Row)
    → IsOneRequest (use_fault again a values rows)
use_one again a values rows =
    or_one _ _ (range_one (unwrap_or_range a.range).start_inclusive (most_values a) (length values))
    (action_one (action_of a) again a (values_or_missing a values) rows)

-- ---- a word

module _ (c : List Rule) (again : Bool) where
  settle_one : (h : Held) → IsOneRequest (settle_fault c again h)
  settle_one h = go h.pending
    where
      of_rule : (found : Option Rule) (values : List Text)
          → IsOneRequest (option_map_or (λ a. use_fault again a values h.rows) found [])
      of_rule None values = none_one
      of_rule (Some a) values = use_one again a values h.rows

      go : (p : Option (Text × List Text)) → IsOneRequest
          (option_map_or (λ q. option_map_or (λ a. use_fault again a q.1 h.rows)
          (arg_by_id c q.0) []) p [])
      go None = none_one
      go (Some q) = of_rule (arg_by_id c q.0) q.1

  react_one : (a : Rule) (values : List Text) (h : Held) → IsOneRequest (react_fault c again a values h)
  react_one a values h = or_one _ _ (settle_one h) (use_one again a values (settled c h).rows)

  option_one : (a : Rule) (v : Option Text) (h : Held) → IsOneRequest (option_fault c again a v h)
  option_one a (Some v) h = react_one a (v ∷ []) h
  option_one a None h = settle_one h

  long_one : (found : Option Rule) (v : Option Text) (h : Held) → IsOneRequest (long_fault c again found v h)
  long_one None v h = plain_one (kind.UnknownArgument ∷ []) refl
  long_one (Some a) v h =
      if_one (takes_values a) _ _ (option_one a v h)
      (if_one (is_some v) _ _ (plain_one (kind.TooManyValues ∷ []) refl) (react_one a [] h))

  short_one : (found : Option Rule) (rest : Text) (h : Held) (later : Held → Kinds)
      → ((x : Held) → IsOneRequest (later x)) → IsOneRequest
      (short_fault c again found rest h later)
  short_one None rest h later one = plain_one (kind.UnknownArgument ∷ []) refl
  short_one (Some a) rest h later one =
      if_one (takes_values a) _ _ (option_one a (attached_value rest) h)
      (or_one _ _ (react_one a [] h) (one (reacted c a [] h)))

  flag_one : (x : Option ℕ) (flags : Text) (skip : ℕ) (h : Held) (later : Text → ℕ → Held → Kinds)
      → ((t : Text) (n : ℕ) (x : Held) → IsOneRequest (later t n x))
      → IsOneRequest (bundle_step_fault c again x flags skip h later)
  flag_one None flags skip h later one = none_one
  flag_one (Some x) flags zero h later one =
      let rest = drop (length (encode_utf8 x)) flags in
      short_one (arg_by_short c x) rest h (later rest 0) (one rest 0)
  flag_one (Some x) flags (suc skip) h later one = one _ skip h

  flags_one : (k : ℕ) (flags : Text) (skip : ℕ) (h : Held) → IsOneRequest (flags_fault c again k flags skip h)
  unfolding flags_fault
  flags_one zero flags skip h = none_one
  flags_one (suc k) flags skip h = flag_one (slice_get (chars flags) 0) flags skip h
      (flags_fault c again k) (λ t n x. flags_one k t n x)

  flag_word_one : (p : Option (Text × Option Text)) (word : Text) (h : Held)
      → IsOneRequest (flag_word_fault c again p word h)
  flag_word_one (Some p) word h = long_one (arg_by_long c p.0) p.1 h
  flag_word_one None word h = go (short_of word)
    where
      go : (f : Option Text) → IsOneRequest (option_map_or (λ flags. bundle_fault c again flags h) f [])
      go None = none_one
      go (Some flags) = flags_one (length flags) flags h.skip (record h { skip = 0 })

module _ (s : Shape) (no_help : s.disable_help_subcommand ≡ true) where
  other_one : (name : Option Text) (word : Text) (h : Held) → IsOneRequest (other_fault s name word h)
  other_one (Some name) word h = go (bytes_eq name (codes "help")) s.disable_help_subcommand no_help
    where
      go : (a b : Bool) → b ≡ true
          → IsOneRequest (cond (a && not b) (kind.DisplayHelp ∷ kind.InvalidSubcommand ∷ []) [])
      go true false e = absurd (true≢false (sym e))
      go _ _ e = none_one
  other_one None word h =
      if_one (bytes_eq word (45 ∷ 45 ∷ [])) _ _ none_one
      (flag_word_one s.rules s.args_override_self (long_of word) word h)

  step_one : (position : ℕ) (h : Held) (step : Step) → IsOneRequest (step_fault s position h step)
  step_one position h value = go (arg_by_index s.rules position)
    where
      go : (found : Option Rule)
          → IsOneRequest (option_map_or (λ a. positional_fault s.rules s.args_override_self a h)
          found (stray_fault s))
      go None = if_one s.is_leaf _ _ (plain_one (kind.UnknownArgument ∷ []) refl)
          (plain_one (kind.UnknownArgument ∷ kind.InvalidSubcommand ∷ []) refl)
      go (Some a) = if_one (is_pending a h.pending && takes_several a) _ _ none_one
          (settle_one s.rules s.args_override_self h)
  step_one position h _ = none_one

  turn_one : (names : Names) (w : Walk) (word : Text) → IsOneRequest (turn_fault s names w word)
  turn_one names w word =
      let met = word_met s.rules names w.is_trailing w.waiting w.position word w.held in
      if_one (is_some w.stopped) _ _ none_one
      (or_one _ _ (if_one w.is_trailing _ _ none_one (other_one (subcommand_met names w.waiting word) word w.held))
      (step_one w.position met.0 met.1))

  walk_one : (names : Names) (w : Walk) (words : List Text) → IsOneRequest (walk_fault s names w words)
  unfolding walk_fault
  walk_one names w [] = none_one
  walk_one names w (word ∷ rest) = or_one _ _ (turn_one names w word)
      (walk_one names (walked s.rules names w word) rest)

  -- ---- the end of the words

  default_one : (rows : List Row) (a : Rule) → IsOneRequest (default_fault rows a)
  default_one rows a =
      if_one (has_row a.id rows || is_empty a.defaults) _ _ none_one
      (or_one _ _ (request_one (action_of a)) (values_one a.ignore_case (parser_of_value a.parser) a.defaults))

  defaults_one : (rows : List Row) (others : List Rule) → IsOneRequest (defaults_fault rows others)
  unfolding defaults_fault
  defaults_one rows [] = none_one
  defaults_one rows (a ∷ others) = or_one _ _ (default_one rows a) (defaults_one (with_default rows a) others)

  check_one : (help needed argument : Bool) → IsOneRequest (check_kinds help needed argument)
  check_one help needed argument =
      if_one help _ _ (plain_one (kind.DisplayHelpOnMissingArgumentOrSubcommand ∷ []) refl)
      (if_one needed _ _ (plain_one (kind.MissingSubcommand ∷ []) refl)
      (if_one argument _ _ (plain_one (kind.MissingRequiredArgument ∷ []) refl) none_one))

  level_one : (names : Names) (h : Held) (words : List Text) (has : Bool) (below : Kinds)
      → IsOneRequest below → IsOneRequest (level_fault s names h words has below)
  level_one names h words has below one =
      let end = (walk s.rules names h words).held in
      or_one _ _ (walk_one names (walk_from h) words)
      (or_one _ _ one (or_one _ _ (settle_one s.rules s.args_override_self end)
      (or_one _ _ (defaults_one (settled s.rules end).rows s.rules) (check_one _ _ _))))

-- ---- a command and its subcommands

abbrev LackHelp : List Shape → Type 0
LackHelp [] = ⊤
LackHelp (s ∷ ss) = (s.disable_help_subcommand ≡ true) × LackHelp ss

found_one : (test : Shape → Bool) (ss : List Shape) (words : List Text) → LackHelp ss
    → IsOneRequest (option_map_or (λ s. level_fault s [] nothing_held words false []) (find test ss) [])
found_one test [] words lack = none_one
found_one test (s ∷ ss) words lack = elim (test s) as (λ (b : Bool). IsOneRequest
    (option_map_or (λ x. level_fault x [] nothing_held words false [])
    (cond b (Some s) (find test ss)) [])) [
      | true ↦ level_one s lack.0 [] nothing_held words false [] none_one
      | false ↦ found_one test ss words lack.1
    ]

entered_one : (a : App) (stop : Option (Text × List Text)) → LackHelp a.subs → IsOneRequest (entered_fault a stop)
entered_one a None lack = none_one
entered_one a (Some p) lack = found_one (λ s. answers_to p.0 (label_of s)) a.subs p.1 lack

words_one : (a : App) (words : List Text) → (built a).top.disable_help_subcommand ≡ true
    → LackHelp (built a).subs → IsOneRequest (fault_of a words)
words_one a words top subs =
    level_one (built a).top top _ _ _ _ _ (entered_one (built a) _ subs)

lacking_line : (styles : Bor (List (Bor Text)))
    → ((built (command_line styles)).top.disable_help_subcommand ≡ true)
    × LackHelp (built (command_line styles)).subs
unfolding clap_on_literals command_line
lacking_line styles = (refl, (refl, (refl, (refl, tt))))

-- the fault of a command line asks only for help, only for the version, or for neither
pub line_one : (styles : Bor (List (Bor Text))) (words : List Text)
    → IsOneRequest (fault_of (command_line styles) words)
line_one styles words = words_one (command_line styles) words (lacking_line styles).0 (lacking_line styles).1
