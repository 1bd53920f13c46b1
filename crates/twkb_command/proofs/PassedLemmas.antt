-- Words without a fault: what each use of an argument keeps, and the conversion that they name.
use Rattle.std.proofs.Common.{◌≡◌, ℕ, ◌&&◌, zero, suc, Bool, true, false, cond, refl, List, [], ◌∷◌, length, drop}
use Rattle.std.proofs.Common.{Option, Some, None, is_some, fold, find, option_map, chars, encode_utf8, bytes_eq}
use Rattle.std.proofs.Common.{slice_get, ◌⊎◌, inl, inr, not, sym, subst, map, codes}
use Rattle.std.specs.Prelude.{⊤, Result, Ok, Err, IfOk}
use Rattle.std.specs.Option.{option_map_or}
use Rattle.std.specs.Borrow.{Bor}
use Rattle.std.specs.List.{list_any}
use Rattle.clap.specs.Kinds.{Kinds, or_else, FailsBy, check_kinds}
use Rattle.clap.specs.Walk.{Held, Names, Outcome, Row, Rule, Step, Text, Waiting, Walk, after_flag, after_step}
use Rattle.clap.specs.Walk.{answers_to, arg_by_id, arg_by_index, arg_by_long, arg_by_short, attached_value, bundle}
use Rattle.clap.specs.Walk.{bundle_met, bundle_step, done, finished, flag_met, is_pending}
use Rattle.clap.specs.Walk.{long_met, long_or_other, nothing_held, option, option_met, option_word, plain}
use Rattle.clap.specs.Walk.{plain_word, positional_held, reacted, refused, settled}
use Rattle.clap.specs.Walk.{settled_rows, short_met, short_or_plain, subcommand_met, subcommand_or_other}
use Rattle.clap.specs.Walk.{takes_several, takes_values, to_positional, trailing, used, used_by_id, value, walk}
use Rattle.clap.specs.Walk.{walk_from, walked, walked_from, with_default, word_met}
use Rattle.clap.specs.Lexer.{long_of, short_of}
use Rattle.clap.specs.Simple.{App, Shape, built, entered, label_of, rows_at, subcommand_of, subcommand_rows_of}
use Rattle.clap.specs.Faults.{bundle_fault, bundle_step_fault, entered_fault, fault_of, flag_word_fault, flags_fault}
use Rattle.clap.specs.Faults.{level_fault, long_fault, option_fault, other_fault, positional_fault, react_fault}
use Rattle.clap.specs.Faults.{settle_fault, short_fault, step_fault, use_fault, walk_fault, word_fault, check_fault}
use Rattle.clap.specs.Faults.{defaults_fault}
use Rattle.clap.specs.declared.error.kind.ErrorKind.TheVariants as kind
use Rattle.clap.specs.Facts.{explicit_source}
use Rattle.clap.specs.Takes.{is_given}
use Rattle.clap.specs.declared.error.Error.{Error}
use Rattle.clap.specs.declared.parser.matches.ArgMatches.{ArgMatches}
use Rattle.clap.proofs.OnLiterals.{clap_on_literals}
use Rattle.twkb_command.specs.Arguments.{command_line}
use Rattle.twkb_command.specs.CommandLine.{NamesConversion}

-- ==== A fact that each use of an argument keeps is true of the rows of words without a fault.

-- ---- lists of kinds that are empty

pub first_none : (a b : Kinds) → or_else a b ≡ [] → a ≡ []
first_none [] b none = refl
first_none (k ∷ ks) b none = none

pub last_none : (a b : Kinds) → or_else a b ≡ [] → b ≡ []
last_none [] b none = none
last_none (k ∷ ks) b none = absurd (cc none)

-- ---- one use of an argument

module _ (Holds : List Row → Type 0) (again : Bool) where
  -- each use of the argument without a fault keeps the fact, and so do its default values
  abbrev pub Keeps : Rule → Type 0
  Keeps a = ((values : List Text) (rows : List Row) → Holds rows → use_fault again a values rows ≡ []
      → Holds (used a values rows)) × ((rows : List Row) → Holds rows → Holds (with_default rows a))

  abbrev pub EachKeeps : List Rule → Type 0
  EachKeeps [] = ⊤
  EachKeeps (a ∷ others) = Keeps a × EachKeeps others

  abbrev IfKeeps : Option Rule → Type 0
  IfKeeps None = ⊤
  IfKeeps (Some a) = Keeps a

  found_keeps : (test : Rule → Bool) (others : List Rule) → EachKeeps others → IfKeeps (find test others)
  found_keeps test [] each = tt
  found_keeps test (a ∷ others) each =
      elim (test a) as (λ (b : Bool). IfKeeps (cond b (Some a) (find test others)))
      [ true ↦ each.0 | false ↦ found_keeps test others each.1 ]

  by_id : (found : Option Rule) (values : List Text) (rows : List Row) → IfKeeps found → Holds rows
      → option_map_or (λ a. use_fault again a values rows) found [] ≡ [] → Holds (used_by_id found values rows)
  by_id None values rows keeps holds none = holds
  by_id (Some a) values rows keeps holds none = keeps.0 values rows holds none

-- ---- one level of a parse

module _ (Holds : List Row → Type 0) (s : Shape) (each : EachKeeps Holds s.args_override_self s.rules) where
  settled_holds : (p : Option (Text × List Text)) (rows : List Row) → Holds rows
      → option_map_or (λ q. option_map_or (λ a. use_fault s.args_override_self a q.1 rows)
      (arg_by_id s.rules q.0) []) p [] ≡ [] → Holds (settled_rows s.rules p rows)
  settled_holds None rows holds none = holds
  settled_holds (Some q) rows holds none = by_id Holds s.args_override_self (arg_by_id s.rules q.0)
      q.1 rows (found_keeps Holds s.args_override_self (λ a. bytes_eq a.id q.0) s.rules each) holds
      none

  reacted_holds : (a : Rule) (values : List Text) (h : Held) → Keeps Holds s.args_override_self a
      → Holds h.rows → react_fault s.rules s.args_override_self a values h ≡ []
      → Holds (reacted s.rules a values h).rows
  reacted_holds a values h keeps holds none =
      keeps.0 values (settled s.rules h).rows (settled_holds h.pending h.rows holds
      (first_none _ _ none)) (last_none _ _ none)

  option_holds : (a : Rule) (v : Option Text) (h : Held) → Keeps Holds s.args_override_self a
      → Holds h.rows → option_fault s.rules s.args_override_self a v h ≡ []
      → Holds (option_met s.rules a v h).0.rows
  option_holds a (Some v) h keeps holds none = reacted_holds a (v ∷ []) h keeps holds none
  option_holds a None h keeps holds none = settled_holds h.pending h.rows holds none

  long_holds : (found : Option Rule) (v : Option Text) (h : Held)
      → IfKeeps Holds s.args_override_self found → Holds h.rows
      → long_fault s.rules s.args_override_self found v h ≡ []
      → Holds (long_met s.rules found v h).0.rows
  long_holds None v h keeps holds none = holds
  long_holds (Some a) v h keeps holds none = go (takes_values a) v none
    where
      go : (b : Bool) (v : Option Text)
          → cond b (option_fault s.rules s.args_override_self a v h)
          (cond (is_some v) (kind.TooManyValues ∷ []) (react_fault s.rules s.args_override_self a
          [] h)) ≡ []
          → Holds (cond b (option_met s.rules a v h) (flag_met s.rules a v h)).0.rows
      go true v none = option_holds a v h keeps holds none
      go false None none = reacted_holds a [] h keeps holds none
      go false (Some v) none = holds

  short_holds : (found : Option Rule) (rest : Text) (h : Held) (further : Held → Held × Outcome)
      (later : Held → Kinds) → IfKeeps Holds s.args_override_self found
      → ((x : Held) → Holds x.rows → later x ≡ [] → Holds (further x).0.rows) → Holds h.rows
      → short_fault s.rules s.args_override_self found rest h later ≡ []
      → Holds (short_met s.rules found rest h further).0.rows
  short_holds None rest h further later keeps then holds = λ none. holds
  short_holds (Some a) rest h further later keeps then holds = elim (takes_values a) as
      (λ (b : Bool). cond b (option_fault s.rules s.args_override_self a (attached_value rest) h)
      (or_else (react_fault s.rules s.args_override_self a [] h) (later (reacted s.rules a [] h)))
      ≡ [] → Holds (cond b (option_met s.rules a (attached_value rest) h)
      (further (reacted s.rules a [] h))).0.rows) [
        | true ↦ option_holds a (attached_value rest) h keeps holds
        | false ↦ λ none. then (reacted s.rules a [] h)
            (reacted_holds a [] h keeps holds (first_none _ _ none)) (last_none _ _ none)
      ]

  flag_holds : (x : Option ℕ) (flags : Text) (skip : ℕ) (so_far : Outcome) (h : Held)
      (further : Text → ℕ → Outcome → Held → Held × Outcome) (later : Text → ℕ → Held → Kinds)
      → ((t : Text) (n : ℕ) (o : Outcome) (x : Held) → Holds x.rows → later t n x ≡ []
      → Holds (further t n o x).0.rows) → Holds h.rows
      → bundle_step_fault s.rules s.args_override_self x flags skip h later ≡ []
      → Holds (bundle_step s.rules x flags skip so_far h further).0.rows
  flag_holds None flags skip so_far h further later then holds none = holds
  flag_holds (Some x) flags zero so_far h further later then holds none =
      let rest = drop (length (encode_utf8 x)) flags in
      short_holds (arg_by_short s.rules x) rest h (further rest 0 done) (later rest 0)
      (found_keeps Holds s.args_override_self _ s.rules each) (then rest 0 done) holds none
  flag_holds (Some x) flags (suc skip) so_far h further later then holds none = then _ skip so_far h holds none

  bundle_holds : (k : ℕ) (flags : Text) (skip : ℕ) (so_far : Outcome) (h : Held) → Holds h.rows
      → flags_fault s.rules s.args_override_self k flags skip h ≡ []
      → Holds (bundle_met s.rules k flags skip so_far h).0.rows
  unfolding flags_fault bundle_met
  bundle_holds zero flags skip so_far h holds none = holds
  bundle_holds (suc k) flags skip so_far h holds none =
      flag_holds (slice_get (chars flags) 0) flags skip so_far h (bundle_met s.rules k)
      (flags_fault s.rules s.args_override_self k)
      (λ t n o x held none_later. bundle_holds k t n o x held none_later) holds none

  -- ---- a word

  value_holds : (found : Option Rule) (id word : Text) (h : Held) → Holds h.rows
      → Holds (option_word found id word h).0.rows
  value_holds None id word h holds = holds
  value_holds (Some a) id word h holds = holds

  plain_holds : (waiting : Waiting) (word : Text) (h : Held) → Holds h.rows
      → Holds (plain_word s.rules waiting word h).0.rows
  plain_holds (option id) word h holds = value_holds (arg_by_id s.rules id) id word h holds
  plain_holds _ word h holds = holds

  after_holds : (waiting : Waiting) (word : Text) (h : Held) (o : Outcome) → Holds h.rows
      → Holds (after_flag s.rules waiting word h o).0.rows
  after_holds waiting word h plain holds = plain_holds waiting word h holds
  after_holds waiting word h refused holds = plain_holds waiting word h holds
  after_holds waiting word h _ holds = holds

  short_word_holds : (flags : Option Text) (waiting : Waiting) (word : Text) (h : Held) → Holds h.rows
      → option_map_or (λ f. bundle_fault s.rules s.args_override_self f h) flags [] ≡ []
      → Holds (short_or_plain s.rules waiting word flags h).0.rows
  short_word_holds None waiting word h holds none = plain_holds waiting word h holds
  short_word_holds (Some flags) waiting word h holds none =
      after_holds waiting word (bundle s.rules flags h).0 (bundle s.rules flags h).1
      (bundle_holds (length flags) flags h.skip plain (record h { skip = 0 }) holds none)

  flag_word_holds : (p : Option (Text × Option Text)) (waiting : Waiting) (word : Text) (h : Held) → Holds h.rows
      → flag_word_fault s.rules s.args_override_self p word h ≡ []
      → Holds (long_or_other s.rules waiting word p h).0.rows
  flag_word_holds None waiting word h holds none = short_word_holds (short_of word) waiting word h holds none
  flag_word_holds (Some p) waiting word h holds none =
      after_holds waiting word (long_met s.rules (arg_by_long s.rules p.0) p.1 h).0
      (long_met s.rules (arg_by_long s.rules p.0) p.1 h).1
      (long_holds (arg_by_long s.rules p.0) p.1 h (found_keeps Holds s.args_override_self _ s.rules each) holds none)

  other_holds : (name : Option Text) (waiting : Waiting) (position : ℕ) (word : Text) (h : Held)
      → Holds h.rows → other_fault s name word h ≡ []
      → Holds (subcommand_or_other s.rules name waiting position word h).0.rows
  other_holds (Some name) waiting position word h holds = λ none. holds
  other_holds None waiting position word h holds = elim (bytes_eq word (45 ∷ 45 ∷ [])) as
      (λ (b : Bool).
      cond b [] (flag_word_fault s.rules s.args_override_self (long_of word) word h) ≡ []
      → Holds (cond b (h, trailing position)
      (long_or_other s.rules waiting word (long_of word) h)).0.rows)
      [ true ↦ λ none. holds | false ↦ flag_word_holds (long_of word) waiting word h holds ]

  word_holds : (is_trailing : Bool) (names : Names) (waiting : Waiting) (position : ℕ) (word : Text)
      (h : Held) → Holds h.rows
      → word_fault s names is_trailing waiting word h ≡ []
      → Holds (word_met s.rules names is_trailing waiting position word h).0.rows
  word_holds true names waiting position word h holds none = holds
  word_holds false names waiting position word h holds none = other_holds
      (subcommand_met names waiting word) waiting position word h holds none

  positional_holds : (a : Rule) (word : Text) (h : Held) → Holds h.rows
      → positional_fault s.rules s.args_override_self a h ≡ []
      → Holds (positional_held s.rules a word h).rows
  positional_holds a word h holds = elim (is_pending a h.pending && takes_several a) as
      (λ (b : Bool). cond b [] (settle_fault s.rules s.args_override_self h) ≡ []
      → Holds (cond b h (settled s.rules h)).rows)
      [ true ↦ λ none. holds | false ↦ settled_holds h.pending h.rows holds ]

  to_positional_holds : (found : Option Rule) (word : Text) (w : Walk) (h : Held) → Holds h.rows
      → (fallback : Kinds) → option_map_or (λ a. positional_fault s.rules s.args_override_self a h)
      found fallback ≡ [] → Holds (to_positional s.rules found word w h).held.rows
  to_positional_holds None word w h holds fallback none = holds
  to_positional_holds (Some a) word w h holds fallback none = positional_holds a word h holds none

  step_holds : (word : Text) (w : Walk) (h : Held) (step : Step) → Holds h.rows
      → step_fault s w.position h step ≡ [] → Holds (after_step s.rules word w h step).held.rows
  step_holds word w h value holds none = to_positional_holds (arg_by_index s.rules w.position) word w h holds _ none
  step_holds word w h _ holds none = holds

  turn_holds : (names : Names) (w : Walk) (word : Text) (stopped : Option (Text × List Text)) → Holds w.held.rows
      → cond (is_some stopped) [] (or_else (word_fault s names w.is_trailing w.waiting word w.held)
      (step_fault s w.position (word_met s.rules names w.is_trailing w.waiting w.position word
      w.held).0 (word_met s.rules names w.is_trailing w.waiting w.position word w.held).1)) ≡ []
      → Holds (walked_from s.rules names stopped w word).held.rows
  turn_holds names w word (Some p) holds none = holds
  turn_holds names w word None holds none =
      let met = word_met s.rules names w.is_trailing w.waiting w.position word w.held in
      step_holds word w met.0 met.1 (word_holds w.is_trailing names w.waiting w.position word w.held
      holds (first_none _ _ none)) (last_none _ _ none)

  walk_holds : (names : Names) (w : Walk) (words : List Text) → Holds w.held.rows
      → walk_fault s names w words ≡ [] → Holds (fold (walked s.rules names) w words).held.rows
  unfolding walk_fault walked
  walk_holds names w [] holds none = holds
  walk_holds names w (word ∷ rest) holds none =
      walk_holds names (walked s.rules names w word) rest
      (turn_holds names w word w.stopped holds (first_none _ _ none)) (last_none _ _ none)

  -- ---- the end of the words

  defaults_hold : (others : List Rule) (rows : List Row) → EachKeeps Holds s.args_override_self others
      → Holds rows → Holds (fold with_default rows others)
  defaults_hold [] rows keep holds = holds
  defaults_hold (a ∷ others) rows keep holds = defaults_hold others (with_default rows a) keep.1
      (keep.0.1 rows holds)

  pub level_holds : (names : Names) (h : Held) (words : List Text) (has : Bool) (below : Kinds)
      → Holds h.rows → level_fault s names h words has below ≡ []
      → Holds (finished s.rules (walk s.rules names h words).held)
  level_holds names h words has below holds none =
      let end = (walk s.rules names h words).held in
      let walked_well = walk_holds names (walk_from h) words holds (first_none _ _ none) in
      let rest = last_none _ _ none in
      let settled_well = first_none _ _ (last_none below _ rest) in
      defaults_hold s.rules (settled s.rules end).rows each
      (settled_holds end.pending end.rows walked_well settled_well)

-- ---- a subcommand

module _ (Holds : List Row → Type 0) where
  -- the arguments of each subcommand keep the fact
  abbrev pub EachLevel : List Shape → Type 0
  EachLevel [] = ⊤
  EachLevel (s ∷ ss) = EachKeeps Holds s.args_override_self s.rules × EachLevel ss

  abbrev IfLevel : Option Shape → Type 0
  IfLevel None = ⊤
  IfLevel (Some s) = EachKeeps Holds s.args_override_self s.rules

  -- the fact is true of the rows of a subcommand, if one was entered
  abbrev pub HoldsBelow : Option (Text × List Row) → Type 0
  HoldsBelow None = ⊤
  HoldsBelow (Some (name, rows)) = Holds rows

  found_level : (test : Shape → Bool) (ss : List Shape) → EachLevel ss → IfLevel (find test ss)
  found_level test [] each = tt
  found_level test (s ∷ ss) each =
      elim (test s) as (λ (b : Bool). IfLevel (cond b (Some s) (find test ss)))
      [ true ↦ each.0 | false ↦ found_level test ss each.1 ]

  level_below : (found : Option Shape) (words : List Text) → IfLevel found → Holds []
      → option_map_or (λ s. level_fault s [] nothing_held words false []) found [] ≡ []
      → HoldsBelow (option_map (λ s. rows_at s words) found)
  level_below None words level empty none = tt
  level_below (Some s) words level empty none = level_holds Holds s level [] nothing_held words
      false [] empty none

  entered_holds : (a : App) (stop : Option (Text × List Text)) → EachLevel a.subs → Holds []
      → entered_fault a stop ≡ [] → HoldsBelow (entered a stop)
  entered_holds a None each empty none = tt
  entered_holds a (Some p) each empty none =
      level_below (find (λ s. answers_to p.0 (label_of s)) a.subs) p.1
      (found_level (λ s. answers_to p.0 (label_of s)) a.subs each) empty none

  -- a fact that each use keeps is true of the rows of the subcommand, if words have no fault
  pub subcommand_holds : (a : App) (words : List Text) → EachLevel (built a).subs → Holds []
      → fault_of a words ≡ [] → HoldsBelow (subcommand_of a words)
  subcommand_holds a words each empty none =
      entered_holds (built a) _ each empty (first_none _ _ (last_none _ _ none))

-- ==== Words that the command line accepts name a conversion.

-- ---- no fault: a subcommand was entered

was_entered : (help has required argument : Bool) → check_kinds help (not has && required) argument
    ≡ [] → required ≡ true → has ≡ true
was_entered help true required argument none needed = refl
was_entered false false false argument none needed = absurd (cc needed)
was_entered _ false _ argument none needed = absurd (cc none)

check_entered : (s : Shape) (rows : List Row) (has : Bool) → s.subcommand_required ≡ true
    → check_fault s rows has ≡ [] → has ≡ true
check_entered s rows has needed none =
    was_entered (not has && (s.arg_required_else_help && not
    (list_any (λ r. explicit_source r.source) rows))) has s.subcommand_required
    (not (s.subcommand_negates_reqs && has) && list_any
    (λ a. a.required && not (is_given a.id rows)) s.rules) none needed

level_entered : (s : Shape) (names : Names) (h : Held) (words : List Text) (has : Bool)
    (below : Kinds) → s.subcommand_required ≡ true
    → level_fault s names h words has below ≡ [] → has ≡ true
level_entered s names h words has below needed none =
    let end = (walk s.rules names h words).held in
    let checked = check_fault s (finished s.rules end) has in
    let defaulted = defaults_fault (settled s.rules end).rows s.rules in
    let at_end = settle_fault s.rules s.args_override_self end in
    check_entered s (finished s.rules end) has needed
    (last_none defaulted checked
    (last_none at_end (or_else defaulted checked)
    (last_none below (or_else at_end (or_else defaulted checked))
    (last_none (walk_fault s names (walk_from h) words)
    (or_else below (or_else at_end (or_else defaulted checked))) none))))

-- ---- a subcommand that was entered is one of the command's

abbrev IsOneOf : Text → List Text → Type 0
IsOneOf name [] = ⊥
IsOneOf name (n ∷ ns) = (n ≡ name) ⊎ IsOneOf name ns

abbrev NamesOneOf : List Text → Option (Text × List Row) → Type 0
NamesOneOf names None = ⊥
NamesOneOf names (Some p) = IsOneOf p.0 names

abbrev names_in : List Shape → List Text
names_in = map (λ s. s.name)

found_or_later : (here : Bool) (s : Shape) (ss : List Shape) (words : List Text) (rest : Option Shape)
    → (is_some (option_map (λ x. rows_at x words) rest) ≡ true
    → NamesOneOf (names_in ss) (option_map (λ x. rows_at x words) rest))
    → is_some (option_map (λ x. rows_at x words) (cond here (Some s) rest)) ≡ true
    → NamesOneOf (names_in (s ∷ ss)) (option_map (λ x. rows_at x words) (cond here (Some s) rest))
found_or_later true s ss words rest later some = inl refl
found_or_later false s ss words None later some = absurd (cc some)
found_or_later false s ss words (Some t) later some = inr (later refl)

found_named : (test : Shape → Bool) (ss : List Shape) (words : List Text)
    → is_some (option_map (λ x. rows_at x words) (find test ss)) ≡ true
    → NamesOneOf (names_in ss) (option_map (λ x. rows_at x words) (find test ss))
found_named test [] words some = absurd (cc some)
found_named test (s ∷ ss) words some = found_or_later (test s) s ss words (find test ss)
    (found_named test ss words) some

entered_named : (a : App) (stop : Option (Text × List Text)) → is_some (entered a stop) ≡ true
    → NamesOneOf (names_in a.subs) (entered a stop)
entered_named a None some = absurd (cc some)
entered_named a (Some p) some = found_named (λ s. answers_to p.0 (label_of s)) a.subs p.1 some

no_fault_names : (a : App) (words : List Text) → (built a).top.subcommand_required ≡ true
    → fault_of a words ≡ [] → NamesOneOf (names_in (built a).subs) (subcommand_of a words)
no_fault_names a words needed none = entered_named (built a) _ (level_entered (built a).top _ _ _ _ _ needed none)

-- ---- the command line

needed_line : (styles : Bor (List (Bor Text))) → (built (command_line styles)).top.subcommand_required ≡ true
unfolding clap_on_literals command_line
needed_line styles = refl

abbrev conversion_names : List Text
conversion_names = codes "pack" ∷ codes "unpack" ∷ codes "show" ∷ []

names_line : (styles : Bor (List (Bor Text))) → names_in (built (command_line styles)).subs ≡ conversion_names
unfolding clap_on_literals command_line
names_line styles = refl

name_of_conversion : (used : Option (Text × List Row)) → NamesOneOf conversion_names used → NamesConversion used
name_of_conversion None named = named
name_of_conversion (Some p) (inl is) = inl (sym is)
name_of_conversion (Some p) (inr (inl is)) = inr (inl (sym is))
name_of_conversion (Some p) (inr (inr (inl is))) = inr (inr (sym is))
name_of_conversion (Some p) (inr (inr (inr none))) = absurd none

-- words that the command line accepts name a conversion
pub names_conversion : (styles : Bor (List (Bor Text))) (words : List Text)
    → fault_of (command_line styles) words ≡ [] → NamesConversion
    (subcommand_of (command_line styles) words)
names_conversion styles words none =
    name_of_conversion _ (subst (λ names. NamesOneOf names
    (subcommand_of (command_line styles) words)) (names_line styles)
    (no_fault_names (command_line styles) words (needed_line styles) none))

pub named_line : (styles : Bor (List (Bor Text))) (result : Result ArgMatches Error)
    (words : List Text) → FailsBy (fault_of (command_line styles) words) result
    → IfOk result (λ m. subcommand_rows_of m ≡ subcommand_of (command_line styles) words)
    → IfOk result (λ m. NamesConversion (subcommand_rows_of m))
named_line styles (Ok m) words none is = subst NamesConversion (sym is) (names_conversion styles words none)
named_line styles (Err e) words kinds is = tt
