use Rattle.std.proofs.Common.{◌≤◌, ◌+◌, ◌%◌, ◌∙◌, sym, ap, arith, length}
use lib.Lanes.{sum_l, zip2}
use Rattle.std.proofs.lemmas.Simd.{length-zip2}
use Rattle.twkb_num.specs.Varint.{four_lens, lanes_cap}
use Rattle.twkb_num.proofs.VarintLemmas.{lens_added, few_lens, grown_few}
use Rattle.twkb_num.proofs.varint_lens.VarintLens.add_short.Goals as goal

pub invariant_of-self : goal.invariant_of-self
invariant_of-self c = length-zip2 _ c.self.inside.lanes c.more_lens.result
    (c.self.invariant ∙ sym (ap length c.more_lens.ensures)) ∙ c.self.invariant

pub returns-clause-value : goal.returns-clause-value
returns-clause-value c =
    let lanes = c.self.inside.lanes in
    let others = c.self.inside.others in
    let room : sum_l lanes + others ≤ lanes_cap = omega (arith, c.self.view_is, c.requires.room) in
    ap (λ ms. sum_l (zip2 (λ x y. (x + y) % 4294967296) lanes ms) + (others + 4)) c.more_lens.ensures
    ∙ lens_added lanes others c.args.first c.args.second c.args.third c.args.fourth c.self.invariant room
    c.requires.first_small c.requires.second_small c.requires.third_small c.requires.fourth_small
    ∙ ap (λ n. n + four_lens c.args.first c.args.second c.args.third c.args.fourth) c.self.view_is

pub returns-clause-most : goal.returns-clause-most
returns-clause-most c =
    grown_few _ _ _ (returns-clause-value c)
    (few_lens c.args.first c.args.second c.args.third c.args.fourth c.requires.first_small
    c.requires.second_small c.requires.third_small c.requires.fourth_small)
