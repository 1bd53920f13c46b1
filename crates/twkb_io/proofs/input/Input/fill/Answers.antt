use Rattle.std.proofs.Common.{◌-◌, arith, inl, inr, refl}
use Rattle.std.proofs.KnownBytes.{Keeps-refl}
use Rattle.std.proofs.lemmas.Result.{err_from_is_err_and}
use Rattle.twkb_io.specs.declared.TheConstants.{MAX_BYTES}
use Rattle.twkb_io.specs.Inputs.{rest_of}
use Rattle.twkb_io.specs.Taps.{device_of}
use Rattle.twkb_io.proofs.DeviceLemmas.{not_both, ok_no_err, ended_rest, held_rest, held_unused, kept_rest, not_spent}
use Rattle.twkb_io.proofs.DeviceLemmas.{not_used_up, some_held}
use Rattle.twkb_io.proofs.input.Input.fill.Goals as goal

pub returns-then-self : goal.returns-then-self
returns-then-self g c =
    let old = c.args.self.now in
    record {
      same_tap = refl;
      keeps = Keeps-refl (rest_of old);
      given = refl;
      end = tt;
      ended = λ ended. absurd (not_spent old.one_end c.if-self.true ended);
      for_good = λ ended. (absurd (not_spent old.one_end c.if-self.true ended), refl);
      unread = λ _. refl;
      once = omega arith;
      failures = refl;
      too_long = λ other. cc other;
      none_held = λ other. cc other;
      spent = (λ _. c.if-self.true, λ _. refl);
      stays = c.if-self.true;
      unchanged = λ _. refl;
    }

pub returns-in_err-refill : goal.returns-in_err-refill
returns-in_err-refill g c =
    let p = err_from_is_err_and c.from_residual.result c.from_residual.ensures.1 in
    let old = c.args.self.now in
    let new = c.refill.new.self in
    let filled = c.in_err-refill.ensures in
    rw (p.1, p.2, filled.err) record {
      same_tap = filled.same_tap;
      keeps = filled.keeps;
      given = filled.given;
      end = tt;
      ended = λ ended. absurd (not_spent new.one_end filled.stays ended);
      for_good = λ ended. absurd (not_both refl (filled.unread (inr ended)).0);
      unread = λ held. absurd
          (not_both refl (filled.unread
          (inl (held_unused old.held old.at old.filled _ old.in_order held))).0);
      once = filled.once;
      failures = filled.failures;
      too_long = λ other. absurd (cc other);
      none_held = λ _. filled.none_held refl;
      spent = (λ other. absurd (cc other), λ was. absurd (not_both was c.if-self.false));
      stays = filled.stays;
      unchanged = λ was. absurd (not_both was c.if-self.false);
    }

pub returns-then-self-2 : goal.returns-then-self-2
returns-then-self-2 g c =
    let old = c.args.self.now in
    let new = c.refill.new.self in
    let filled = c.in_ok-refill.ensures in
    record {
      same_tap = filled.same_tap;
      keeps = filled.keeps;
      given = filled.given;
      end = λ _. c.if-self-2.true;
      ended = λ ended. ended_rest new.held (g.R.Read.remaining (device_of new.tap.now)) new.at
          new.filled _ (new.used_up ended) (new.at_end ended);
      for_good = λ ended. (refl, (filled.unread (inr ended)).1);
      unread = λ held. (filled.unread (inl (held_unused old.held old.at old.filled _ old.in_order held))).1;
      once = filled.once;
      failures = filled.failures;
      too_long = λ other. cc other;
      none_held = λ other. cc other;
      spent = (λ other. absurd (ok_no_err other), λ was. absurd (not_both was c.if-self.false));
      stays = filled.stays;
      unchanged = λ was. absurd (not_both was c.if-self.false);
    }

pub returns-then-self-ge-MAX_BYTES-clause-too_long : goal.returns-then-self-ge-MAX_BYTES-clause-too_long
returns-then-self-ge-MAX_BYTES-clause-too_long g c =
    let filled = c.refill.new.self in
    let more = not_used_up filled.at filled.filled filled.ended filled.in_order
    c.in_ok-refill.ensures.end c.if-self-2.false in
    λ _. (
      omega arith,
      kept_rest _ _ c.refill.ensures.keeps
          (held_rest filled.held _ filled.at filled.filled more filled.in_array),
    )

pub returns-clause-end : goal.returns-clause-end
returns-clause-end g c =
    let filled = c.refill.new.self in
    let more = not_used_up filled.at filled.filled filled.ended filled.in_order
    c.in_ok-refill.ensures.end c.if-self-2.false in
    λ none. absurd (some_held filled.held filled.at filled.filled (MAX_BYTES - filled.offset) more
    filled.in_array (omega arith) none)
