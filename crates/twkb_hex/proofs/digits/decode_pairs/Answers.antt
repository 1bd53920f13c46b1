use Rattle.std.proofs.Common.{◌∙◌, Err, ap, refl, rules}
use Rattle.twkb_hex.proofs.DigitLemmas.{pairs_err, pairs_only}
use Rattle.twkb_hex.proofs.digits.decode_pairs.Goals as goal

pub unreachable-requires : goal.unreachable-requires
unreachable-requires c = pairs_only c.args.pairs.now _ _ c.decode_to_slice.result c.requires (search rules)
    c.decode_to_slice.ensures.value _ c.in-Err.is c.in_default-fault.not-InvalidHexCharacter

pub returns-clause-err : goal.returns-clause-err
returns-clause-err c = pairs_err c.args.pairs.now _ _ c.decode_to_slice.result c.requires (search rules)
    c.decode_to_slice.ensures.value c.in-InvalidHexCharacter.c c.in-InvalidHexCharacter.index _
    (c.in-Err.is ∙ ap (λ f. Err f) c.in-InvalidHexCharacter.is) refl
