use Rattle.std.proofs.Common.{refl, ◌∙◌, arith}
use Rattle.twkb_num.proofs.VarintLemmas.{written_more}
use Rattle.twkb_num.proofs.piece.Piece.push_middle.Goals as goal

pub returns : goal.returns
returns g c =
    c.push_short.ensures
    ∙ written_more _ _ _ _ _ c.args.number (omega arith) c.lead_byte-2.ensures c.push-2.ensures
    (written_more _ _ _ c.args.number _ c.args.number (omega arith) c.lead_byte.ensures c.push.ensures refl)
