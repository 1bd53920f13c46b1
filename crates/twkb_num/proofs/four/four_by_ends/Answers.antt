use Rattle.std.proofs.lemmas.Option.{IfSome_then}
use Rattle.twkb_num.proofs.FoundLemmas.{four_in_units}
use Rattle.twkb_num.proofs.four.four_by_ends.Goals as goal

pub four_by-requires-clause-known : goal.four_by-requires-clause-known
four_by-requires-clause-known g c = rw c.ALPHABET.ensures g.met.G.Numbered.numbered.known

pub four_by-requires-clause-ends : goal.four_by-requires-clause-ends
four_by-requires-clause-ends g c = rw c.ALPHABET.ensures c.requires.ends

pub returns-clause-four : goal.returns-clause-four
returns-clause-four g c =
    let four = rw c.ALPHABET.ensures at c.four_by.ensures.four in
    IfSome_then c.four_by.result four (λ f found. four_in_units g.met.G.Numbered.numbered
    c.args.bytes.now found)

pub returns-clause-rest : goal.returns-clause-rest
returns-clause-rest g c = rw c.ALPHABET.ensures at c.four_by.ensures.rest
