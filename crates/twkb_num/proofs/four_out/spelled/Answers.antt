use Rattle.twkb_num.proofs.SpelledLemmas.{high_small, may_shuffle, four_spelled}
use Rattle.twkb_num.proofs.four_out.spelled.Goals as goal

pub shuffle-requires-2 : goal.shuffle-requires-2
shuffle-requires-2 c =
    let a = c.args in
    let q = c.requires in
    high_small a.alphabet.base a.alphabet.radix a.first a.second a.third a.fourth q.known
    q.first_small q.second_small q.third_small q.fourth_small c.lanes-units.result
    c.lanes-units.ensures

pub swizzle : goal.swizzle
swizzle c =
    let a = c.args in
    let q = c.requires in
    may_shuffle a.alphabet.base a.alphabet.radix a.first a.second a.third a.fourth q.known
    q.first_small q.second_small q.third_small q.fourth_small c.lanes-units.result
    c.lanes-units.ensures
    c.shuffle.result c.shuffle-2.result c.shuffle.ensures c.shuffle-2.ensures

pub returns : goal.returns
returns c =
    let a = c.args in
    let q = c.requires in
    four_spelled a.alphabet.base a.alphabet.radix a.first a.second a.third a.fourth q.known
    q.first_small q.second_small q.third_small q.fourth_small c.lanes-units.result
    c.lanes-units.ensures
    c.shuffle.result c.shuffle-2.result c.shuffle.ensures c.shuffle-2.ensures
