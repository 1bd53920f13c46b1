use Rattle.std.proofs.Common.{rules, ap, refl, sym}
use Rattle.std.proofs.lemmas.Result.{err_from_is_err_and}
use Rattle.twkb_io.specs.Inputs.{held_of}
use Rattle.twkb_io.proofs.DeviceLemmas.{both_ok, ok_no_err, same_fault, kept_end, no_first}
use Rattle.twkb_io.proofs.input.Input.next.Goals as goal

pub returns-in_err-fill : goal.returns-in_err-fill
returns-in_err-fill g c =
    let p = err_from_is_err_and c.from_residual.result c.from_residual.ensures.1 in
    let filled = c.in_err-fill.ensures in
    rw (p.1, p.2) record {
      same_tap = filled.same_tap;
      gives = filled.keeps;
      given = filled.given;
      end = λ other. absurd (ok_no_err (sym other));
      for_good = λ ended. absurd (ok_no_err (sym (filled.for_good ended).0));
      unread = λ held. ap (λ (input : _). input.tap) (filled.unread held);
      once = filled.once;
      failures = filled.failures;
      too_long = λ same. filled.too_long (same_fault same);
      none_held = λ same. filled.none_held (same_fault same);
      spent = (λ same. filled.spent.0 (same_fault same), λ was. same_fault (filled.spent.1 was));
      stays = filled.stays;
      unchanged = filled.unchanged;
    }

pub returns-in_default : goal.returns-in_default
returns-in_default g c =
    let filled = c.in_ok-fill.ensures in
    let none = no_first c.held.result.now (held_of c.fill.new.self) c.held.ensures.held c.in_default.ensures.value in
    let (held, at_end, left) = filled.ended (filled.end none) in
    record {
      same_tap = filled.same_tap;
      gives = (kept_end _ _ filled.keeps at_end, filled.keeps);
      given = filled.given;
      end = λ _. (filled.end none, left);
      for_good = λ ended. (refl, (filled.for_good ended).1);
      unread = λ held. ap (λ (input : _). input.tap) (filled.unread held);
      once = filled.once;
      failures = filled.failures;
      too_long = λ other. filled.too_long (both_ok other);
      none_held = λ other. filled.none_held (both_ok other);
      spent = (λ other. filled.spent.0 (both_ok other), λ was. both_ok (filled.spent.1 was));
      stays = filled.stays;
      unchanged = filled.unchanged;
    }

pub returns : goal.returns
returns g c = search rules
