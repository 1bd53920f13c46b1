use Rattle.std.proofs.Common.{◌≡◌, ◌+◌, ◌≤◌, ◌-◌, ◌∙◌, ◌++◌, List, [], ℕ, refl, take, drop, length}
use Rattle.std.proofs.Common.{arith, rules, append_assoc, length-drop, sym, ap}
use Rattle.std.specs.Prelude.{◌≢◌}
use Rattle.std.proofs.Math.Seq.{take-length}
use Rattle.std.proofs.lemmas.List.{length-take, length-take-le, take-append-drop}
use Rattle.std.proofs.lemmas.Result.{err_from_is_err_and}
use Rattle.twkb_io.specs.Outputs.{took_join}
use Rattle.twkb_io.proofs.DeviceLemmas.{cut_inside, cut_short, front_cut, no_device, not_both}
use Rattle.twkb_io.specs.declared.output.OutFault.TheVariants as fault
use Rattle.twkb_io.proofs.output.OutputSink.put.Goals as goal

regroup : (whole front rest : List ℕ) (n : ℕ) → whole ≡ front ++ rest
    → whole ≡ (front ++ take n rest) ++ take (length rest - n) (drop n rest)
regroup whole front rest n e =
    let back = drop n rest in
    let cut = ap (λ k. take k back) (sym (length-drop n rest)) ∙ take-length back in
    e ∙ ap (λ l. front ++ l) (sym (take-append-drop n rest))
    ∙ sym (append_assoc front (take n rest) back)
    ∙ ap (λ l. (front ++ take n rest) ++ l) (sym cut)

room_left : (before after n most : ℕ) (rest : List ℕ) → before + length rest ≤ most
    → n ≤ length rest → after ≡ before + length (take n rest)
    → after + length (take (length rest - n) (drop n rest)) ≤ most
room_left before after n most rest room within e = omega (
  arith,
  length-take-le n rest within,
  length-drop n rest,
  length-take (length rest - n)
      (drop n rest),
)

pub loop-rest-preserved : goal.loop-rest-preserved
loop-rest-preserved g c =
    let n = c.in_ok-taken.taken in
    let rest = c.loop-rest.rest.now in
    let (front, whole, took) = c.loop-rest.invariant.front in
    let next = c.in_ok-taken.ensures.ok in
    record {
      fresh = next.spent ∙ c.loop-rest.invariant.fresh;
      flushes = c.in_ok-taken.ensures.flushes ∙ c.loop-rest.invariant.flushes;
      room = room_left _ _ n _ rest c.loop-rest.invariant.room c.in_ok-taken.ensures.count.1 next.sends.sent;
      front = (
        front ++ take n rest,
        regroup _ front rest n whole,
        took_join g.W.Write.contents _ _
            _ front (take n rest) took next,
      );
    }

pub returns-in_err-taken : goal.returns-in_err-taken
returns-in_err-taken g c =
    let p = err_from_is_err_and c.from_residual.result c.from_residual.ensures.1 in
    let (front, whole, took) = c.loop-rest.invariant.front in
    let told = c.in_err-taken.ensures in
    let some : c.loop-rest.rest.now ≢ [] = search rules in
    let cut = cut_inside g.W.Write.contents _ _ _ c.args.bytes.now front c.loop-rest.rest.now _
    whole some took told.err.0 told.err.1 in
    rw (p.1, p.2) record {
      ok = tt;
      err = front_cut g.W.Write.contents _ _ c.args.bytes.now _ cut;
      cut = cut;
      spent = (
        λ same. absurd (no_device _ fault.Spent told.err.1 refl (cc same)),
        λ was.
            absurd (not_both was c.if-self.false),
      );
      too_long = (
        λ same. absurd (no_device _ fault.TooLong told.err.1 refl (cc same)),
        λ far.
            absurd (let most = far.1 in omega arith),
      );
      untouched = λ same. absurd (no_device _ fault.TooLong told.err.1 refl (cc same));
      unchanged = λ was. absurd (not_both was c.if-self.false);
      told = λ _. told.told;
      flushes = told.flushes ∙ c.loop-rest.invariant.flushes;
      short = λ _. cut_short g.W.Write.contents _ _ _ c.args.bytes.now front c.loop-rest.rest.now _
          whole some took told.err.0;
    }

pub returns-then-self : goal.returns-then-self
returns-then-self g c = search rules

pub returns-then-bytes-self : goal.returns-then-bytes-self
returns-then-bytes-self g c = record {
  ok = search rules;
  err = front_cut g.W.Write.contents _ _ c.args.bytes.now _ (search rules);
  cut = search rules;
  spent = search rules;
  too_long = search rules;
  untouched = search rules;
  unchanged = search rules;
  told = search rules;
  flushes = search rules;
  short = search rules;
}

pub send-requires : goal.send-requires
send-requires g c = search rules
