-- The effect of a call of a column: at most one is asked for.
use Rattle.std.proofs.Common.{◌≡◌, ◌∙◌, ℕ, ℤ, List, Some, ap, sym, subst}
use Rattle.std.specs.Prelude.{Option}
use Rattle.twkb_tree.specs.Limits.{Allowance}
use Rattle.twkb_grammar.specs.declared.style.Style.{Style}
use Rattle.twkb_buffer.specs.declared.column_job.ColumnConversion.{ColumnConversion}
use Rattle.twkb_buffer.specs.declared.report.BufferReport.{BufferReport}
use Rattle.twkb_c.specs.Arguments.{option_at}
use Rattle.twkb_c.specs.ColumnCalls.{CallsColumn, DoesCall, DoesNothing, IsColumnCall, conversion_with, precision_at}
use Rattle.twkb_c.specs.ColumnWords.{IsEnded}
use Rattle.twkb_c.specs.declared.columns.ColumnCall.{ColumnCall}
use Rattle.twkb_c.proofs.ExportLemmas.{one_style}

-- ==== What the numbers of a call ask for.

-- nothing is asked for by these numbers
abbrev pub AsksNothing : ℕ → List ℕ → Type 0
AsksNothing number options = (call : ColumnCall) → IsColumnCall number options call → ⊥

some_same : {A : Type 0} (found : Option A) (a b : A) → found ≡ Some a → found ≡ Some b → a ≡ b
some_same found a b one other = cc

-- the call of these fields
abbrev made : ColumnConversion → Allowance → ℤ → ℕ → ColumnCall
made what limits precision delimiter = record {
  what = what;
  limits = limits;
  precision = precision;
  delimiter = delimiter;
}

-- at most one call is asked for
one_call : (number : ℕ) (options : List ℕ) (a b : ColumnCall) → IsColumnCall number options a
    → IsColumnCall number options b → a ≡ b
one_call number options a b p q =
    let style = one_style p.style q.style (option_at options 1) p.named q.named in
    let what : a.what ≡ b.what = some_same (conversion_with number q.style (option_at options 5)) a.what b.what
    (ap (λ (s : Style). conversion_with number s (option_at options 5)) (sym style) ∙ p.what_is) q.what_is in
    let limits : a.limits ≡ b.limits = p.limits_are ∙ sym q.limits_are in
    let precision : a.precision ≡ b.precision = some_same (precision_at (option_at options 5)) a.precision b.precision
    p.precision_is q.precision_is in
    let delimiter : a.delimiter ≡ b.delimiter = p.delimiter_is.1 ∙ sym q.delimiter_is.1 in
    ap (λ (w : ColumnConversion). made w a.limits a.precision a.delimiter) what
    ∙ ap (λ (l : Allowance). made b.what l a.precision a.delimiter) limits
    ∙ ap (λ (n : ℤ). made b.what b.limits n a.delimiter) precision
    ∙ ap (λ (n : ℕ). made b.what b.limits b.precision n) delimiter

-- ==== The effect of a call.

pub asked_nothing : (number : ℕ) (options input words old new : List ℕ) (report : BufferReport)
    → AsksNothing number options → DoesNothing 2 old new report
    → CallsColumn number options input words old new report
asked_nothing number options input words old new report lacks nothing = record {
  does = λ call is ended. absurd (lacks call is);
  no_call = λ _. nothing;
  no_words = λ _. nothing;
}

pub not_ended : (number : ℕ) (options input words old new : List ℕ) (report : BufferReport) → (IsEnded words → ⊥)
    → DoesNothing 2 old new report → CallsColumn number options input words old new report
not_ended number options input words old new report open_end nothing = record {
  does = λ call is ended. absurd (open_end ended);
  no_call = λ _. nothing;
  no_words = λ _. nothing;
}

pub asked : (number : ℕ) (options input words old new : List ℕ) (report : BufferReport) (call : ColumnCall)
    → IsColumnCall number options call → IsEnded words → DoesCall call input words old new report
    → CallsColumn number options input words old new report
asked number options input words old new report call is ended does = record {
  does = λ other are _. subst (λ (c : ColumnCall). DoesCall c input words old new report)
      (one_call number options call other is are) does;
  no_call = λ lacks. absurd (lacks call is);
  no_words = λ open_end. absurd (open_end ended);
}
