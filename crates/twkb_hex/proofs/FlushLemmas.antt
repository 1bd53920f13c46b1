-- What an output is left like by an answer, before and after the flush, and what is reported.
use lib.Dec.{eqb}
use Rattle.std.proofs.Common.{◌≡◌, ◌∙◌, ℕ, List, [], Option, Bool, true, false, Result, Ok, Err, ap, refl, sym}
use Rattle.std.proofs.Common.{subst, inl, inr}
use Rattle.std.specs.Prelude.{IfOk, IfErr, ◌≢◌, ◌⊎◌, not}
use Rattle.std.proofs.lemmas.Bool.{eqb-false, eqb-true}
use Rattle.std.proofs.lemmas.List.{append-nil}
use Rattle.twkb_io.specs.declared.output.OutFault.{OutFault}
use Rattle.twkb_io.specs.declared.output.OutFault.TheVariants as out
use Rattle.twkb_io.specs.declared.output.Output.{Output}
use Rattle.twkb_io.specs.declared.tap.Tap.{Tap}
use Rattle.twkb_io.specs.Outputs.{Refused, Sent, Took, is_device, is_spent, output_tap, sent_join, sent_of}
use Rattle.twkb_io.specs.Taps.{count_failure, has_unflushed}
use Rattle.twkb_hex.specs.Causes.{Changes, after_reads, cause_of_output, is_write}
use Rattle.twkb_hex.specs.Results.{Finishes, Flushes, IsFlushedButForDevices, Leaves, UnlessRefused, reported}
use Rattle.twkb_hex.specs.declared.report.HexCause.{HexCause}
use Rattle.twkb_hex.specs.declared.report.HexCause.TheVariants as cause
use Rattle.twkb_hex.specs.declared.report.HexFault.{HexFault}
use Rattle.twkb_hex.specs.declared.report.HexReport.{HexReport}

-- ==== Before the flush.

-- nothing is said of an output that refused a put
put_refused : (A : Type 0) (f : OutFault) (Fact : Type 0) → UnlessRefused {T = A} (Err (cause_of_output f)) Fact
put_refused A out.TooLong Fact no_write no_length = absurd (no_length refl)
put_refused A out.Spent Fact no_write no_length = absurd (no_length refl)
put_refused A _ Fact no_write no_length = absurd (no_write refl)

always : {A : Type 0} (answer : Result A HexCause) (P : Type 0) → P → UnlessRefused answer P
always (Ok done) P p = p
always (Err why) P p = λ no_write no_length. p

write_refused : (A : Type 0) (f : OutFault) → is_write {A = A} (Err (cause_of_output f)) ≡ is_device f
write_refused A out.Write = refl
write_refused A _ = refl

-- no call was refused
pub leaves_took : {A W : Type 0} {contents : W → Option (List ℕ)} {old new : Output W}
    {bytes : List ℕ} (answer : Result A HexCause) → Took contents old bytes new → is_spent old ≡ false
    → is_write answer ≡ false → Leaves contents old bytes new answer
leaves_took {new = new} answer took fresh quiet = record {
  sends = took.sends;
  failures = rw quiet took.failures;
  quiet = λ still. took.failures;
  unspent = always answer (is_spent new ≡ false) (took.spent ∙ fresh);
}

-- a put was refused
pub leaves_refused : {A W : Type 0} {contents : W → Option (List ℕ)} {old new : Output W}
    {bytes : List ℕ} {f : OutFault} → Refused contents old bytes f new
    → Leaves {A = A} contents old bytes new (Err (cause_of_output f))
leaves_refused {A = A} {new = new} {f = f} refused = record {
  sends = refused.sends;
  failures = rw (write_refused A f) refused.failures;
  quiet = λ fresh. absurd (cc (fresh, refused.spent));
  unspent = put_refused A f (is_spent new ≡ false);
}

-- ==== After the flush.

unless : {A : Type 0} (answer : Result A HexCause) (P Q : Type 0) → (P → Q) → UnlessRefused answer P
    → UnlessRefused answer Q
unless (Ok done) P Q more p = more p
unless (Err why) P Q more p = λ no_write no_length. more (p no_write no_length)

-- nothing is added to what was sent
sent_with : {W : Type 0} {contents : W → Option (List ℕ)} {old mid new : Output W} {bytes : List ℕ}
    → Sent contents old bytes mid → Sent contents mid [] new → Sent contents old bytes new
sent_with {contents = contents} {old = old} {mid = mid} {new = new} {bytes = bytes} first second =
    subst (λ b. Sent contents old b new) (append-nil bytes)
    (sent_join contents old mid new bytes [] first second)

module _ {A W : Type 0} {contents : W → Option (List ℕ)} {old mid new : Output W} {bytes : List ℕ}
    {answer last : Result A HexCause} where
  -- the answer stays, unless the flush failed
  pub leaves_last : Leaves contents old bytes mid answer → Flushes contents mid answer new last
      → Leaves contents old bytes new last × ((last ≡ answer) ⊎ (last ≡ Err cause.WriteDevice))
  leaves_last s (inl (took, flushed, is)) = (
    subst (λ r. Leaves contents old bytes new r) (sym is) (record {
      sends = sent_with s.sends took.sends;
      failures = took.failures ∙ s.failures;
      quiet = λ fresh. took.failures ∙ s.quiet (sym took.spent ∙ fresh);
      unspent = unless answer (is_spent mid ≡ false) (is_spent new ≡ false) (λ e. took.spent ∙ e) s.unspent;
    }),
    inl is,
  )
  leaves_last s (inr (inl (spent, same, is))) = (
    subst (λ r. Leaves contents old bytes new r) (sym is)
        (subst (λ o. Leaves contents old bytes o answer) (sym same) s),
    inl is,
  )
  leaves_last s (inr (inr (fresh, refused, is))) = (
    subst (λ r. Leaves contents old bytes new r) (sym is) (record {
      sends = sent_with s.sends refused.sends;
      failures = refused.failures ∙ ap (count_failure true) (s.quiet fresh);
      quiet = λ still. absurd (cc (still, refused.spent));
      unspent = λ no_write no_length. absurd (no_write refl);
    }),
    inr is,
  )

-- all is flushed, unless the output refused a call
flushed_last : {A W : Type 0} {contents : W → Option (List ℕ)} {mid new : Output W}
    {answer last : Result A HexCause} → Flushes contents mid answer new last
    → UnlessRefused answer (is_spent mid ≡ false)
    → UnlessRefused last (has_unflushed (output_tap new).now ≡ false)
flushed_last {answer = answer} (inl (took, flushed, is)) unspent = rw is (always answer _ flushed)
flushed_last {answer = answer} (inr (inl (spent, same, is))) unspent =
    rw is (unless answer _ _ (λ e. absurd (cc (e, spent))) unspent)
flushed_last (inr (inr (fresh, refused, is))) unspent = rw is
    (λ no_write no_length. absurd (no_write refl))

-- all was sent and flushed if that is the answer after the reads
pub ok_before : {A : Type 0} (failed : Bool) (answer : Result A HexCause) (done : A)
    → Ok done ≡ after_reads failed answer → answer ≡ Ok done
ok_before true (Ok first) done is = cc is
ok_before false (Ok first) done is = sym is
ok_before failed (Err why) done is = cc is

-- a fact that holds unless the output refused a call, once it is known whether a read failed
flushed_after : {A : Type 0} (failed : Bool) (answer : Result A HexCause) (why : HexCause) (P : Type 0)
    → Err why ≡ after_reads failed answer → UnlessRefused answer P → why ≢ cause.WriteDevice
    → why ≢ cause.ReadDevice → why ≢ cause.TooLong → P
flushed_after failed (Ok done) why P is p no_write no_read no_length = p
flushed_after true (Err first) why P is p no_write no_read no_length = p
    (λ e. no_write (cc (is ∙ ap (λ k. after_reads true (Err k)) e)))
    (λ e. no_read (cc (is ∙ ap (λ k. after_reads true (Err k)) e)))
flushed_after false (Err first) why P is p no_write no_read no_length = p
    (λ e. no_write (cc (is ∙ ap (λ k. after_reads false (Err k)) e)))
    (λ e. no_length (cc (is ∙ ap (λ k. after_reads false (Err k)) e)))

write_stays : (failed : Bool) → after_reads {A = Unit {0}} failed (Err cause.WriteDevice) ≡ Err cause.WriteDevice
write_stays true = refl
write_stays false = refl

-- a flush of an answer after the reads is one of the answer before them
pub flushes_before : {W : Type 0} {contents : W → Option (List ℕ)} {mid new : Output W}
    {last : Result (Unit {0}) HexCause} (failed : Bool) (sending : Result (Unit {0}) HexCause)
    → Flushes contents mid (after_reads failed sending) new last
    → (answer : Result (Unit {0}) HexCause) × Flushes contents mid sending new answer
    × (last ≡ after_reads failed answer)
flushes_before failed sending (inl (took, flushed, is)) = (sending, inl (took, flushed, refl), is)
flushes_before failed sending
    (inr (inl (spent, same, is))) = (sending, inr (inl (spent, same, refl)), is)
flushes_before failed sending (inr (inr (fresh, refused, is))) =
    (Err cause.WriteDevice, inr (inr (fresh, refused, refl)), is ∙ sym (write_stays failed))

-- ==== What is reported.

-- a report is that of an answer that is not a stop
pub reports_ok : (records bytes : ℕ) (report : HexReport) (answer : Result (Unit {0}) HexCause)
    → Ok report ≡ reported records bytes answer
    → (answer ≡ Ok tt) × (report ≡ record { records = records; bytes = bytes })
reports_ok records bytes report (Ok done) is = (refl, cc is)
reports_ok records bytes report (Err why) is = absurd (cc is)

-- a fault is that of a stop, with its cause
pub reports_err : (records bytes : ℕ) (fault : HexFault) (answer : Result (Unit {0}) HexCause)
    → Err fault ≡ reported records bytes answer
    → (answer ≡ Err fault.cause)
    × (fault ≡ record { done = records; sent = bytes; cause = fault.cause })
reports_err records bytes fault (Ok done) is = absurd (cc is)
reports_err records bytes fault (Err why) is =
    let same : fault ≡ record { done = records; sent = bytes; cause = why } = cc is in
    let cause_is : fault.cause ≡ why = ap (λ (f : HexFault). f.cause) same in (
      ap (λ w. Err w) (sym cause_is),
      same ∙ ap (λ w. record { done = records; sent = bytes; cause = w }) (sym cause_is),
    )

-- ==== The taps.

-- a count that was read twice
changes_by : (before after : ℕ) → Changes (not (eqb after before)) before after
changes_by before after = go (eqb after before) refl
  where
    go : (same : Bool) → eqb after before ≡ same → Changes (not same) before after
    go true is = eqb-true after before is
    go false is = λ e. eqb-false after before is e

-- whether a count changed, by what it was before and after
pub changes_as : (before after first last : ℕ) → before ≡ first → after ≡ last
    → Changes (not (eqb after before)) first last
changes_as before after first last was is = subst (λ n. Changes (not (eqb after before)) first n) is
    (subst (λ n. Changes (not (eqb after before)) n after) was (changes_by before after))

-- what is flushed at the end
module _ {W : Type 0} {contents : W → Option (List ℕ)} {mid new : Output W} {records : ℕ}
    {report : Result HexReport HexFault} (failed : Bool) (sending : Result (Unit {0}) HexCause)
    (finishes : Finishes contents mid records (after_reads failed sending) new report)
    (unspent : UnlessRefused sending (is_spent mid ≡ false)) (written : Tap W)
    (closes : (output_tap new).now ≡ written) where
  flushes : (answer : Result (Unit {0}) HexCause) × Flushes contents mid sending new answer
      × (finishes.answer ≡ after_reads failed answer)
  flushes = flushes_before failed sending finishes.flushes

  held : UnlessRefused flushes.0 (has_unflushed written ≡ false)
  held = subst (λ t. UnlessRefused flushes.0 (has_unflushed t ≡ false)) closes
      (flushed_last flushes.1 unspent)

  pub flushed_ok : (done : HexReport) → report ≡ Ok done → has_unflushed written ≡ false
  flushed_ok done is =
      let (ok, same) = reports_ok records (sent_of new) done finishes.answer (sym is ∙ finishes.reports) in
      subst (λ a. UnlessRefused a (has_unflushed written ≡ false))
      (ok_before failed flushes.0 tt (sym ok ∙ flushes.2)) held

  pub flushed_err : (fault : HexFault) → report ≡ Err fault → fault.cause ≢ cause.WriteDevice
      → fault.cause ≢ cause.ReadDevice → fault.cause ≢ cause.TooLong → has_unflushed written ≡ false
  flushed_err fault is no_write no_read no_length =
      let (stops, same) = reports_err records (sent_of new) fault finishes.answer
      (sym is ∙ finishes.reports) in
      flushed_after failed flushes.0 fault.cause (has_unflushed written ≡ false) (sym stops ∙ flushes.2) held
      no_write no_read no_length

  pub flushed_all : IsFlushedButForDevices report written
  flushed_all = go report refl
    where
      go : (r : Result HexReport HexFault) → report ≡ r → IsFlushedButForDevices r written
      go (Ok done) is = flushed_ok done is
      go (Err fault) is = λ no_write no_read no_length. flushed_err fault is no_write no_read no_length

-- ==== Facts about a report or a fault, from what holds if there is one.

pub when_ok : {T E : Type 0} (r : Result T E) (P : T → Type 0) → ((t : T) → r ≡ Ok t → P t) → IfOk r P
when_ok (Ok t) P h = h t refl
when_ok (Err e) P h = tt

pub when_err : {T E : Type 0} (r : Result T E) (P : E → Type 0) → ((e : E) → r ≡ Err e → P e) → IfErr r P
when_err (Ok t) P h = tt
when_err (Err e) P h = h e refl
