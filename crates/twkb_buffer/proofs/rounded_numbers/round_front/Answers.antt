use Rattle.std.proofs.Common.{SFits, w64, arith, rules}
use Rattle.std.proofs.lemmas.Int.{to_z-of_z}
use Rattle.twkb_buffer.proofs.RoundingLemmas.{rounds_all, rounds_more, rounds_to}
use Rattle.twkb_buffer.proofs.rounded_numbers.round_front.Goals as goal

pub returns-in_default : goal.returns-in_default
returns-in_default c =
    rounds_to (c.round_moderate_by-count.ensures.rounds c.args.units.now c.loop-count.invariant.before) (omega arith)
    c.in_default.ensures

pub loop-count-preserved-then-count-numbers : goal.loop-count-preserved-then-count-numbers
loop-count-preserved-then-count-numbers c =
    let fits : SFits w64 c.in-Some.unit = search rules in
    record {
      before = simp (to_z-of_z w64 c.in-Some.unit fits)
          (rounds_more (c.round_moderate_by-count.ensures.rounds c.args.units.now c.loop-count.invariant.before)
          (omega arith) c.requires.room c.in-Some.ensures);
      within = omega arith;
    }

pub returns : goal.returns
returns c = rounds_all c.loop-count.invariant.before (omega (arith, c.loop-count.invariant.within))
