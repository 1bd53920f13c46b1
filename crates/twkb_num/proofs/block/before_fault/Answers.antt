use Rattle.std.proofs.Common.{rules, arith, subst, sym, ◌%◌, Fits, w64}
use Rattle.std.specs.Int.{trailing_zeros}
use Rattle.std.proofs.lemmas.Nat.{one_shl, pow_pos}
use Rattle.twkb_num.specs.Block.{AreEndsBefore}
use Rattle.twkb_num.proofs.BlockLemmas.{ends_before, fault_within, faults_of}
use Rattle.twkb_num.proofs.block.before_fault.Goals as goal

pub overflow_shl-result : goal.overflow_shl-result
overflow_shl-result c = fault_within c.args.marks (search rules) (search rules)

pub nonzero_rem-result : goal.nonzero_rem-result
nonzero_rem-result c =
    let t = trailing_zeros w64 (faults_of c.args.marks) in
    omega (arith, one_shl t 64 (fault_within c.args.marks (search rules) (search rules)), pow_pos t)

pub returns : goal.returns
returns c = λ radix most units are.
    let ends : Fits w64 c.args.marks.ends = search rules in
    let bad : Fits w64 c.args.marks.bad = search rules in
    let zeros : Fits w64 c.args.marks.zeros = search rules in
    let t = trailing_zeros w64 (faults_of c.args.marks) in
    subst (λ d. AreEndsBefore radix most units (c.args.marks.ends % d))
    (sym (one_shl t 64 (fault_within c.args.marks bad zeros)))
    (ends_before c.args.marks radix most units ends bad zeros are)
