use Rattle.std.proofs.Common.{arith}
use Rattle.std.proofs.lemmas.Option.{IfSome_then}
use Rattle.twkb_num.proofs.BlockLemmas.{ends_shifted}
use Rattle.twkb_num.proofs.FoundLemmas.{four_in_units, four_in_window}
use Rattle.twkb_num.proofs.four.four_at.Goals as goal

pub few_ends-requires-clause-bound : goal.few_ends-requires-clause-bound
few_ends-requires-clause-bound g c = rw c.ALPHABET-alphabet.ensures (omega (arith, g.met.G.Numbered.numbered.bound))

pub few_ends-requires-clause-in_bytes : goal.few_ends-requires-clause-in_bytes
few_ends-requires-clause-in_bytes g c = rw c.ALPHABET-alphabet.ensures g.met.G.Numbered.numbered.in_bytes

pub four_by-requires-clause-known : goal.four_by-requires-clause-known
four_by-requires-clause-known g c = rw c.ALPHABET-alphabet.ensures g.met.G.Numbered.numbered.known

pub four_by-requires-clause-ends : goal.four_by-requires-clause-ends
four_by-requires-clause-ends g c = ends_shifted _ _ _ _ _ c.few_ends.ensures

pub returns : goal.returns
returns g c =
    let four = rw c.ALPHABET-alphabet.ensures at c.four_by.ensures.four in
    IfSome_then c.four_by.result four
    (λ f found. four_in_window g.G.Groups.unit_of g.G.Numbered.ALPHABET.radix c.args.bytes.now c.args.start
    c.min-from.result _ _ _ _ f.used (omega (arith, c.min-from.ensures))
    (omega (arith, c.if-skipped-gt-MOST_SKIPPED.false))
    (four_in_units g.met.G.Numbered.numbered _ found))
