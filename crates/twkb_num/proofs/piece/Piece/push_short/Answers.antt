use Rattle.std.proofs.Common.{◌++◌, ◌∙◌, ap}
use Rattle.twkb_num.specs.Varint.{varint_of}
use Rattle.twkb_num.proofs.VarintLemmas.{both_written, room_for_two}
use Rattle.twkb_num.proofs.piece.Piece.push_short.Goals as goal

pub returns : goal.returns
returns g c =
    both_written c.self.inside.bytes c.self.inside.len c.args.number _ _
    (room_for_two _ _ _ _ c.self.invariant c.self.told c.self.view_is c.requires.room)
    c.requires.small c.lead_byte.ensures c.short_len.ensures.value
    ∙ ap (λ bs. bs ++ varint_of c.args.number) c.self.view_is
