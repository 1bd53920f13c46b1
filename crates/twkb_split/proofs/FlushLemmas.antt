-- What outputs are left like after the flush, and what is reported.
use lib.Dec.{eqb}
use Rattle.std.proofs.Common.{◌≡◌, ◌∙◌, ℕ, List, [], Option, Bool, true, false, Result, Ok, Err, ap, refl, sym}
use Rattle.std.proofs.Common.{subst, inl, inr, ◌-◌}
use Rattle.std.specs.Prelude.{IfOk, IfErr, ◌≢◌, ◌||◌, not}
use Rattle.std.proofs.lemmas.Bool.{eqb-false, eqb-true}
use Rattle.std.proofs.lemmas.List.{append-nil}
use Rattle.twkb_io.specs.declared.output.Output.{Output}
use Rattle.twkb_io.specs.Outputs.{Sent, is_spent, output_failures, output_tap, sent_join}
use Rattle.twkb_io.specs.Taps.{count_failure, has_unflushed}
use Rattle.twkb_convert.specs.declared.report.Cause.TheVariants as cause
use Rattle.twkb_convert.specs.declared.report.Report.{Report}
use Rattle.twkb_column.specs.declared.fault.ColumnCause.{ColumnCause}
use Rattle.twkb_column.specs.declared.fault.ColumnCause.TheVariants.{Pack}
use Rattle.twkb_column.specs.declared.fault.ColumnFault.{ColumnFault}
use Rattle.twkb_split.specs.Causes.{Changes, after_flush, after_reads, is_write}
use Rattle.twkb_split.specs.Results.{records_of}
use Rattle.twkb_split.specs.Sending.{Flushes, IsLeft, UnlessRefused, reported}

-- ==== One output.

-- whether a call failed, given whether one before the flush and whether the flush did
abbrev pub failed_with : Bool → Bool → Bool
failed_with failed true = true
failed_with failed false = failed

-- nothing is added to what was sent
sent_with : {W : Type 0} {contents : W → Option (List ℕ)} {old mid new : Output W} {bytes : List ℕ}
    → Sent contents old bytes mid → Sent contents mid [] new → Sent contents old bytes new
sent_with {contents = contents} {old = old} {mid = mid} {new = new} {bytes = bytes} first second =
    subst (λ b. Sent contents old b new) (append-nil bytes) (sent_join contents old mid new bytes [] first second)

-- what an output is left like after a flush
pub left_last : {W : Type 0} {contents : W → Option (List ℕ)} {old mid new : Output W} {bytes : List ℕ}
    (failed again : Bool) → IsLeft contents old bytes mid failed → Flushes contents mid again new
    → IsLeft contents old bytes new (failed_with failed again)
left_last failed false left (inl (took, flushed)) = record {
  sends = sent_with left.sends took.sends;
  failures = took.failures ∙ left.failures;
  quiet = λ still. left.quiet (sym took.spent ∙ still);
}
left_last {contents = contents} {old = old} {bytes = bytes} failed false left (inr (spent, same)) =
    subst (λ o. IsLeft contents old bytes o failed) (sym same) left
left_last {old = old} failed true left (fresh, refused) = record {
  sends = sent_with left.sends refused.sends;
  failures = refused.failures ∙ ap (count_failure true) (left.failures
      ∙ ap (λ (b : Bool). count_failure b (output_failures old)) (left.quiet fresh));
  quiet = λ still. absurd (cc (still, refused.spent));
}

-- an output that was not spent is flushed
flushed_last : {W : Type 0} {contents : W → Option (List ℕ)} {mid new : Output W} → Flushes contents mid false new
    → is_spent mid ≡ false → has_unflushed (output_tap new).now ≡ false
flushed_last (inl (took, flushed)) fresh = flushed
flushed_last (inr (spent, same)) fresh = absurd (cc (fresh, spent))

-- ==== Both outputs.

or_true : (b : Bool) → true ≡ (b || true)
or_true true = refl
or_true false = refl

-- the answer after both flushes says whether a call failed
pub tells_last : {A : Type 0} (answer : Result A ColumnCause) (rest_failed failed rest_again again : Bool)
    → is_write answer ≡ (rest_failed || failed)
    → is_write (after_flush (rest_again || again) answer)
    ≡ (failed_with rest_failed rest_again || failed_with failed again)
tells_last answer rest_failed failed true again tells = refl
tells_last answer rest_failed failed false true tells = or_true rest_failed
tells_last answer rest_failed failed false false tells = tells

unless : {A : Type 0} (answer : Result A ColumnCause) (P Q : Type 0) → (P → Q) → UnlessRefused answer P
    → UnlessRefused answer Q
unless (Ok done) P Q more p = more p
unless (Err why) P Q more p = λ no_write no_length. more (p no_write no_length)

-- a fact about both outputs that each has after a flush that passed
both_last : {A : Type 0} (answer : Result A ColumnCause) (rest_again again : Bool) (P Q : Type 0)
    → (rest_again ≡ false → again ≡ false → P → Q) → UnlessRefused answer P
    → UnlessRefused (after_flush (rest_again || again) answer) Q
both_last answer true again P Q more p = λ no_write no_length. absurd (no_write refl)
both_last answer false true P Q more p = λ no_write no_length. absurd (no_write refl)
both_last answer false false P Q more p = unless answer P Q (more refl refl) p

module _ {A W V : Type 0} (contents : W → Option (List ℕ)) (rest_contents : V → Option (List ℕ))
    (blobs blobs_new : Output W) (rest rest_new : Output V) (answer : Result A ColumnCause) (rest_again again : Bool)
    (flushes : Flushes contents blobs again blobs_new) (rest_flushes : Flushes rest_contents rest rest_again rest_new)
    (fresh : UnlessRefused answer ((is_spent blobs ≡ false) × (is_spent rest ≡ false))) where
  passed : again ≡ false → Flushes contents blobs false blobs_new
  passed is = subst (λ (b : Bool). Flushes contents blobs b blobs_new) is flushes

  rest_passed : rest_again ≡ false → Flushes rest_contents rest false rest_new
  rest_passed is = subst (λ (b : Bool). Flushes rest_contents rest b rest_new) is rest_flushes

  -- both are flushed
  pub flushed_both : UnlessRefused (after_flush (rest_again || again) answer)
      ((has_unflushed (output_tap blobs_new).now ≡ false) × (has_unflushed (output_tap rest_new).now ≡ false))
  flushed_both = both_last answer rest_again again _ _ (λ no_rest none both. (
    flushed_last (passed none) both.0,
    flushed_last (rest_passed no_rest) both.1,
  )) fresh

-- ==== After the reads.

-- all was sent and flushed if that is the answer after the reads
pub ok_before : {A : Type 0} (failed : Bool) (answer : Result A ColumnCause) (done : A)
    → Ok done ≡ after_reads failed answer → answer ≡ Ok done
ok_before true (Ok first) done is = cc is
ok_before false (Ok first) done is = sym is
ok_before failed (Err why) done is = cc is

-- a fact that holds unless an output refused a call, once it is known whether a read failed
pub known_after : {A : Type 0} (failed : Bool) (answer : Result A ColumnCause) (why : ColumnCause) (P : Type 0)
    → Err why ≡ after_reads failed answer → UnlessRefused answer P → why ≢ Pack cause.WriteDevice
    → why ≢ Pack cause.ReadDevice → why ≢ Pack cause.TooLong → P
known_after failed (Ok done) why P is p no_write no_read no_length = p
known_after true (Err first) why P is p no_write no_read no_length = p
    (λ e. no_write (cc (is ∙ ap (λ k. after_reads true (Err k)) e)))
    (λ e. no_read (cc (is ∙ ap (λ k. after_reads true (Err k)) e)))
known_after false (Err first) why P is p no_write no_read no_length = p
    (λ e. no_write (cc (is ∙ ap (λ k. after_reads false (Err k)) e)))
    (λ e. no_length (cc (is ∙ ap (λ k. after_reads false (Err k)) e)))

-- ==== What is reported.

-- a report is that of an answer that is not a stop
pub reports_ok : (pieces bytes : ℕ) (report : Report) (answer : Result (Unit {0}) ColumnCause)
    → Ok report ≡ reported pieces bytes answer → (answer ≡ Ok tt)
    × (report ≡ record { geometries = pieces - 1; bytes = bytes; taken = records_of pieces })
reports_ok pieces bytes report (Ok done) is = (refl, cc is)
reports_ok pieces bytes report (Err why) is = absurd (cc is)

-- a fault is that of a stop, with its cause
pub reports_err : (pieces bytes : ℕ) (fault : ColumnFault) (answer : Result (Unit {0}) ColumnCause)
    → Err fault ≡ reported pieces bytes answer → (answer ≡ Err fault.cause)
    × (fault ≡ record { done = pieces - 1; sent = bytes; taken = records_of pieces; cause = fault.cause })
reports_err pieces bytes fault (Ok done) is = absurd (cc is)
reports_err pieces bytes fault (Err why) is =
    let same : fault ≡ record { done = pieces - 1; sent = bytes; taken = records_of pieces; cause = why } = cc is in
    let cause_is : fault.cause ≡ why = ap (λ (f : ColumnFault). f.cause) same in (
      ap (λ w. Err w) (sym cause_is),
      same ∙ ap (λ w. record { done = pieces - 1; sent = bytes; taken = records_of pieces; cause = w }) (sym cause_is),
    )

-- ==== The taps.

-- a count that was read twice
changes_by : (before after : ℕ) → Changes (not (eqb after before)) before after
changes_by before after = go (eqb after before) refl
  where
    go : (same : Bool) → eqb after before ≡ same → Changes (not same) before after
    go true is = eqb-true after before is
    go false is = λ e. eqb-false after before is e

-- whether a count changed, by what it was before and after
pub changes_as : (before after first last : ℕ) → before ≡ first → after ≡ last
    → Changes (not (eqb after before)) first last
changes_as before after first last was is = subst (λ n. Changes (not (eqb after before)) first n) is
    (subst (λ n. Changes (not (eqb after before)) n after) was (changes_by before after))

-- ==== Facts about a report or a fault, from what holds if there is one.

pub when_ok : {T E : Type 0} (r : Result T E) (P : T → Type 0) → ((t : T) → r ≡ Ok t → P t) → IfOk r P
when_ok (Ok t) P h = h t refl
when_ok (Err e) P h = tt

pub when_err : {T E : Type 0} (r : Result T E) (P : E → Type 0) → ((e : E) → r ≡ Err e → P e) → IfErr r P
when_err (Ok t) P h = tt
when_err (Err e) P h = h e refl
