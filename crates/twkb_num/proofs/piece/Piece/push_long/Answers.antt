use Rattle.std.proofs.Common.{arith}
use Rattle.twkb_num.proofs.VarintLemmas.{length-varint_of, written_more, written_last, room_here}
use Rattle.twkb_num.proofs.piece.Piece.push_long.Goals as goal

pub push-requires : goal.push-requires
push-requires g c = omega (
  arith,
  room_here g.row.ROOM _ c.args.self.now _ c.args.number
      c.loop-rest.invariant
      (omega (arith, c.requires, length-varint_of c.args.number c.ranges.number.fits)),
)

pub loop-rest-preserved : goal.loop-rest-preserved
loop-rest-preserved g c = written_more _ _ _ _ _ c.args.number
    (omega (arith, c.loop-rest-test.true)) c.lead_byte.ensures c.push.ensures c.loop-rest.invariant

pub push-requires-2 : goal.push-requires-2
push-requires-2 g c = omega (
  arith,
  room_here g.row.ROOM _ c.args.self.now _ c.args.number
      c.loop-rest.invariant
      (omega (arith, c.requires, length-varint_of c.args.number c.ranges.number.fits)),
)

pub returns : goal.returns
returns g c = written_last _ _ _ c.loop-rest.rest c.args.number
    (omega (arith, c.loop-rest-test.false)) c.push-2.ensures c.loop-rest.invariant
