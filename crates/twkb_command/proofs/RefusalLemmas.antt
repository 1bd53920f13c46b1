-- Printed lines, and the refusal for an error of `clap`.
use Rattle.std.proofs.Common.{◌≡◌, ◌∙◌, ◌++◌, ℕ, ◌+◌, ◌≤◌, ◌⊎◌, inl, inr, List, Option, true, false, sym, subst, ap}
use Rattle.std.specs.Prelude.{◌≢◌, Result, Ok, Err, OnOk}
use Rattle.std.proofs.Common.{◌^◌, None, Some, arith, length, codes, decimal, [], refl}
use Rattle.std.proofs.lemmas.List.{length-append}
use Rattle.twkb_polyline.specs.declared.fault.PolyReason.{PolyReason}
use Rattle.twkb_polyline.specs.Fault.{point_text_words}
use Rattle.twkb_polyline.proofs.TextLemmas.{short_point_text}
use Rattle.twkb_io.specs.declared.TheConstants.{MAX_BYTES}
use Rattle.twkb_io.specs.Outputs.{Took, is_spent, sent_of, took_join}
use Rattle.twkb_io.specs.Taps.{count_failure}
use Rattle.twkb_io.specs.declared.output.Output.{Output}
use Rattle.twkb_engine.specs.declared.blob_reason.BlobReason.{BlobReason}
use Rattle.twkb_engine.specs.Texts.{blob_words}
use Rattle.twkb_engine.proofs.Parts.{short_blob}
use Rattle.twkb_table.specs.declared.reason.RowReason.{RowReason}
use Rattle.twkb_column.specs.Causes.{reason_words}
use Rattle.twkb_column.specs.declared.fault.ColumnReason.{ColumnReason}
use Rattle.twkb_rest.specs.Unpacked.{line_words}
use Rattle.twkb_rest.specs.declared.fault.LineReason.{LineReason}
use Rattle.twkb_command.specs.declared.misuse.Misuse.{Misuse}
use Rattle.twkb_command.specs.declared.misuse.Misuse.TheVariants as misuse
use Rattle.twkb_command.specs.declared.misuse.Word.{Word}
use Rattle.twkb_command.specs.declared.misuse.Word.TheVariants as word
use Rattle.twkb_command.specs.declared.stop.Stop.{Stop}
use Rattle.twkb_command.specs.Misuses.{hint, misuse_text, pair_words, shown_of}
use Rattle.twkb_command.specs.Printing.{Fails, HasShortName, IsPrinted, Prints, before_of, line_of, named_line}
use Rattle.twkb_convert.specs.declared.report.Cause.TheVariants as cause
use Rattle.twkb_command.specs.Printing.{at_byte, hex_reason_text, reason_text, stop_text, text_reason}
use Rattle.twkb_hex.specs.declared.report.HexReason.{HexReason}
use Rattle.clap.specs.Words.{IsAmong, Kinds, kind_of}
use Rattle.clap.specs.Kinds.{HasKind}
use Rattle.clap.specs.declared.error.Error.{Error}
use Rattle.clap.specs.declared.error.kind.ErrorKind.{ErrorKind}
use Rattle.clap.specs.declared.error.kind.ErrorKind.TheVariants.{DisplayHelp, DisplayVersion, OutOfMemory}
use Rattle.twkb_io.specs.declared.tap.Tap.{Tap}
use Rattle.twkb_command.specs.declared.refusal.Refusal.{Refusal}
use Rattle.twkb_command.specs.declared.refusal.Refusal.TheVariants as refusal
use Rattle.twkb_command.specs.Outcome.{Refuses, TellsMemory, TellsMisuse, Answers, LacksMemory}
use Rattle.twkb_command.specs.CommandLine.{IsMisuse, IsRefusal, IsRefusalAmong}

-- ==== Two prints, one after the other, print the join of their bytes.

not_spent : {W : Type 0} (old new : Output W) → is_spent old ≡ false → is_spent new ≡ is_spent old
    → is_spent new ≡ false
not_spent old new fresh same = same ∙ fresh

later : {W : Type 0} (a b c : Output W) → Fails a b → c ≡ b → Fails a c
later a b c first same = subst (λ x. Fails a x) (sym same) first

second_fails : {W : Type 0} (contents : W → Option (List ℕ)) (a b c : Output W) (xs : List ℕ)
    → Took contents a xs b → Fails b c → Fails a c
second_fails contents a b c xs first second = record {
  same_tap = second.same_tap ∙ first.sends.same_tap;
  failures = second.failures ∙ ap (count_failure true) first.failures;
  spent = second.spent;
}

then_puts : {W : Type 0} (contents : W → Option (List ℕ)) (a b c : Output W) (xs ys : List ℕ)
    → is_spent a ≡ false → sent_of a + length (xs ++ ys) ≤ MAX_BYTES
    → Took contents a xs b ⊎ Fails a b → Prints contents b ys c → Took contents a (xs ++ ys) c ⊎ Fails a c
then_puts contents a b c xs ys fresh room (inr failed) second = inr (later a b c failed (second.stays failed.spent))
then_puts contents a b c xs ys fresh room (inl took) second =
    let fits : sent_of b + length ys ≤ MAX_BYTES = omega (arith, took.sends.sent, length-append xs ys, room) in
    elim (second.puts (not_spent a b fresh took.spent) fits) [
      | inl more ↦ inl (took_join contents a b c xs ys took more)
      | inr failed ↦ inr (second_fails contents a b c xs took failed)
    ]

pub prints_join : {W : Type 0} (contents : W → Option (List ℕ)) (a b c : Output W) (xs ys : List ℕ)
    → Prints contents a xs b → Prints contents b ys c → Prints contents a (xs ++ ys) c
prints_join contents a b c xs ys first second = record {
  puts = λ fresh room.
      let fits : sent_of a + length xs ≤ MAX_BYTES = omega (arith, length-append xs ys, room) in
      then_puts contents a b c xs ys fresh room (first.puts fresh fits) second;
  stays = λ spent.
      let same = first.stays spent in
      second.stays (subst (λ x. is_spent x ≡ true) (sym same) spent) ∙ same;
}

-- ==== The line of each fault is short.

-- the words for a fault in a text of points are short
pub short_text_reason : (offset : ℕ) (reason : PolyReason) → length (decimal offset) ≤ 40
    → length (text_reason offset reason) ≤ 100
short_text_reason offset reason short =
    let words = short_point_text reason in
    omega (
      arith,
      short,
      words,
      length-append (decimal offset)
          (codes ": " ++ point_text_words reason),
      length-append (codes ": ")
          (point_text_words reason),
    )

-- the words for a refused record are short
pub short_row_line : (number : ℕ) (reason : RowReason) → length (decimal number) ≤ 40
    → length (reason_text reason) ≤ 100
    → length (codes "record " ++ (decimal number ++ (codes ": " ++ reason_text reason))) ≤ 160
short_row_line number reason short words =
    omega (
      arith,
      short,
      words,
      length-append (decimal number) (codes ": " ++ reason_text reason),
      length-append (codes ": ") (reason_text reason),
    )

-- the words for a refused item are short
pub short_blob_line : (offset : ℕ) (reason : BlobReason) → length (decimal offset) ≤ 40
    → length (codes "byte " ++ (decimal offset ++ (codes ": " ++ blob_words reason))) ≤ 160
short_blob_line offset reason short =
    let words = short_blob reason in
    omega (
      arith,
      short,
      words,
      length-append (decimal offset) (codes ": " ++ blob_words reason),
      length-append (codes ": ") (blob_words reason),
    )

-- the words for a refused record of a CSV are short
pub short_csv_line : (number : ℕ) (reason : ColumnReason) → length (decimal number) ≤ 40
    → length (reason_words reason) ≤ 22
    → length (codes "record " ++ (decimal number ++ (codes ": " ++ reason_words reason))) ≤ 160
short_csv_line number reason short words =
    omega (
      arith,
      short,
      words,
      length-append (decimal number) (codes ": " ++ reason_words reason),
      length-append (codes ": ") (reason_words reason),
    )

-- an offset in a blob and a short reason are short
pub short_at_byte : (offset : ℕ) (words : List ℕ) → length (decimal offset) ≤ 40 → length words ≤ 31
    → length (at_byte offset words) ≤ 100
short_at_byte offset words short few =
    omega (arith, short, few, length-append (decimal offset) (codes ": " ++ words), length-append (codes ": ") words)

-- the words for a record of a CSV that is not converted from digits or to them are short
pub short_hex_line : (number : ℕ) (reason : HexReason) → length (decimal number) ≤ 40
    → length (hex_reason_text reason) ≤ 100
    → length (codes "record " ++ (decimal number ++ (codes ": " ++ hex_reason_text reason))) ≤ 160
short_hex_line number reason short words =
    omega (
      arith,
      short,
      words,
      length-append (decimal number) (codes ": " ++ hex_reason_text reason),
      length-append (codes ": ") (hex_reason_text reason),
    )

-- the words for a blob that can't be a field are short
pub short_line_reason : (offset : ℕ) (reason : LineReason) → length (decimal offset) ≤ 40
    → length (line_words reason) ≤ 31
    → length (codes "byte " ++ (decimal offset ++ (codes ": " ++ line_words reason))) ≤ 160
short_line_reason offset reason short words =
    omega (
      arith,
      short,
      words,
      length-append (decimal offset) (codes ": " ++ line_words reason),
      length-append (codes ": ") (line_words reason),
    )

-- what is before a message about a file with a short name is not long
short_before : (name : Option (List ℕ)) → HasShortName name → length (before_of name) ≤ 2 ^ 61 + 2
short_before None short = omega arith
short_before (Some name) short = omega (arith, short, length-append name (codes ": "))

-- the line of a stop fits an output
pub short_line : (name : Option (List ℕ)) (why : Stop) → length (stop_text why) ≤ 160 → HasShortName name
    → length (named_line name why) ≤ MAX_BYTES
short_line name why short named =
    let before = short_before name named in
    omega (
      arith,
      short,
      before,
      length-append (stop_text why) (codes "\n"),
      length-append (before_of name) (stop_text why ++ codes "\n"),
      length-append (codes "polytwkb: ") (before_of name ++ (stop_text why ++ codes "\n")),
    )

-- ==== The text of each misuse is short.

short_shown : (w : Word) → length (shown_of w) ≤ 40
short_shown word.Column = omega arith
short_shown word.Precision = omega arith
short_shown word.Ids = omega arith
short_shown word.Hex = omega arith
short_shown word.HexBare = omega arith
short_shown word.Null = omega arith
short_shown word.Delimiter = omega arith
short_shown word.Geojson = omega arith
short_shown word.Collection = omega arith

short_pair : (w other : Word) (said : List ℕ) → length said ≤ 40 → length (pair_words w said other ++ hint) ≤ MAX_BYTES
short_pair w other said short =
    omega (
      arith,
      short,
      short_shown w,
      short_shown other,
      length-append (pair_words w said other) hint,
      length-append (codes "error: the argument '") (shown_of w ++ (said ++ (shown_of other ++ codes "'"))),
      length-append (shown_of w) (said ++ (shown_of other ++ codes "'")),
      length-append said (shown_of other ++ codes "'"),
      length-append (shown_of other) (codes "'"),
    )

-- the text of a misuse fits an output
pub short_misuse : (m : Misuse) → length (misuse_text m) ≤ MAX_BYTES
short_misuse (misuse.Without w other) = short_pair w other (codes "' cannot be used without '") (omega arith)
short_misuse (misuse.With w other) = short_pair w other (codes "' cannot be used with '") (omega arith)
short_misuse misuse.NoDelimiter = omega arith

-- ==== The refusal for an error of `clap`.

among : (kinds : Kinds) (found : Option Misuse) (kind : ErrorKind) (r : Refusal) → IsAmong kind kinds
    → IsRefusal kind r → IsRefusalAmong kinds found r
among kinds found kind refusal.Memory listed is = tt
among kinds found kind (refusal.Usage text) listed is = (kind, listed, is.0, is.1)
among kinds found kind (refusal.Misused m) listed is = absurd is
among kinds found kind (refusal.Help text) listed is = subst (λ k. IsAmong k kinds) is listed
among kinds found kind (refusal.Version text) listed is = subst (λ k. IsAmong k kinds) is listed

-- an error of one of these kinds is refused as one of these kinds
pub refusal_among : (kinds : Kinds) (found : Option Misuse) (e : Error) (r : Refusal) → HasKind kinds e
    → (kind_of e ≡ OutOfMemory → r ≡ refusal.Memory) → IsRefusal (kind_of e) r
    → IsRefusalAmong kinds found r
refusal_among kinds found e r (inl memory) is_memory is =
    subst (IsRefusalAmong kinds found) (sym (is_memory memory)) tt
refusal_among kinds found e r (inr listed) is_memory is = among kinds found (kind_of e) r listed is

-- what is so is so if the result is `Ok`
pub ok_always : {T E : Type 0} {P : Type 0} (r : Result T E) → P → OnOk r P
ok_always (Ok x) p = p
ok_always (Err e) p = tt

-- words without a fault are refused for their misuse
pub misuse_among : (kinds : Kinds) (found : Option Misuse) (r : Refusal) → kinds ≡ [] → IsMisuse found r
    → IsRefusalAmong kinds found r
misuse_among kinds found refusal.Memory fine is = tt
misuse_among kinds found (refusal.Misused m) fine is = (fine, is)
misuse_among kinds found (refusal.Help text) fine is = absurd is
misuse_among kinds found (refusal.Version text) fine is = absurd is
misuse_among kinds found (refusal.Usage text) fine is = absurd is

-- nothing was read or written, and memory is told of
pub told_lacks : {R W E : Type 0} (told : E → Option (List ℕ)) (reader : Tap R) (writer : Tap W)
    (errors errors_after : Tap E) (status : ℕ) → status ≡ 4
    → IsPrinted told errors (line_of cause.Memory) errors_after
    → LacksMemory told reader writer errors reader writer errors_after status
told_lacks told reader writer errors errors_after status is line = record {
  unread = refl;
  unwritten = refl;
  status_is = is;
  line = line;
}

-- ---- the effect of a run with refused words

module _ {R W E : Type 0} (told : E → Option (List ℕ)) (kinds : Kinds) (found : Option Misuse) (reader : Tap R)
    (writer writer_after : Tap W) (errors errors_after : Tap E) (status : ℕ) where
  lacks_memory : TellsMemory told writer errors writer_after errors_after status
      → LacksMemory told reader writer errors reader writer_after errors_after status
  lacks_memory tells = record {
    unread = refl;
    unwritten = tells.unwritten;
    status_is = tells.status_is;
    line = tells.line;
  }

  -- words without a fault and without a misuse are refused only if memory was
  pub fine_lacks : (r : Refusal) → IsRefusalAmong kinds found r
      → Refuses told r writer errors writer_after errors_after status
      → kinds ≡ [] → found ≡ None → LacksMemory told reader writer errors reader writer_after errors_after status
  fine_lacks refusal.Memory among refuses none proper = lacks_memory refuses
  fine_lacks (refusal.Help text) among refuses none proper = absurd (subst (IsAmong DisplayHelp) none among)
  fine_lacks (refusal.Version text) among refuses none proper = absurd (subst (IsAmong DisplayVersion) none among)
  fine_lacks (refusal.Usage text) among refuses none proper = absurd (subst (IsAmong among.0) none among.1)
  fine_lacks (refusal.Misused m) among refuses none proper = absurd (cc (among.1, proper))

  -- words without a fault are refused for their misuse, or memory was refused
  pub misused_tells : (m : Misuse) (r : Refusal) → IsRefusalAmong kinds found r
      → Refuses told r writer errors writer_after errors_after status
      → kinds ≡ [] → found ≡ Some m
      → ((reader ≡ reader) × TellsMisuse told m writer errors writer_after errors_after status)
      ⊎ LacksMemory told reader writer errors reader writer_after errors_after status
  misused_tells m refusal.Memory among refuses none is = inr (lacks_memory refuses)
  misused_tells m (refusal.Help text) among refuses none is = absurd (subst (IsAmong DisplayHelp) none among)
  misused_tells m (refusal.Version text) among refuses none is = absurd (subst (IsAmong DisplayVersion) none among)
  misused_tells m (refusal.Usage text) among refuses none is = absurd (subst (IsAmong among.0) none among.1)
  misused_tells m (refusal.Misused x) among refuses none is =
      let same : x ≡ m = cc (among.1, is) in
      inl (refl, subst (λ y. TellsMisuse told y writer errors writer_after errors_after status) same refuses)

  -- one of the kinds of the words' fault is answered, or memory was refused
  pub refused_answers : kinds ≢ [] → (r : Refusal) → IsRefusalAmong kinds found r
      → Refuses told r writer errors writer_after errors_after status
      → ((kind : ErrorKind) × IsAmong kind kinds × Answers kind reader writer errors reader
      writer_after errors_after status)
      ⊎ LacksMemory told reader writer errors reader writer_after errors_after status
  refused_answers faulty refusal.Memory among refuses = inr (lacks_memory refuses)
  refused_answers faulty (refusal.Help text) among refuses =
      inl (
        DisplayHelp,
        among,
        record {
          unread = refl;
          told = λ asked. refuses;
          refused = λ other more. absurd (other refl);
        },
      )
  refused_answers faulty (refusal.Version text) among refuses =
      inl (
        DisplayVersion,
        among,
        record {
          unread = refl;
          told = λ asked. refuses;
          refused = λ other more. absurd (more refl);
        },
      )
  refused_answers faulty (refusal.Usage text) among refuses =
      inl (
        among.0,
        among.1,
        record {
          unread = refl;
          told = λ asked. absurd (elim asked [
            | inl help ↦ among.2 help
            | inr version ↦ among.3 version
          ]);
          refused = λ other more. refuses;
        },
      )
  refused_answers faulty (refusal.Misused m) among refuses = absurd (faulty among.0)
