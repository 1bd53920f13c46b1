use Rattle.twkb_num.proofs.VarintLemmas.{ten_at_most}
use Rattle.twkb_num.proofs.piece.Piece.push_varint.Goals as goal

pub returns-then-number-lt-THREE_BYTES-clause-most : goal.returns-then-number-lt-THREE_BYTES-clause-most
returns-then-number-lt-THREE_BYTES-clause-most g c = ten_at_most _ _ c.args.number
    c.push_short.ensures c.ranges.number.fits

pub returns-then-number-lt-FIVE_BYTES-clause-most : goal.returns-then-number-lt-FIVE_BYTES-clause-most
returns-then-number-lt-FIVE_BYTES-clause-most g c = ten_at_most _ _ c.args.number
    c.push_middle.ensures c.ranges.number.fits

pub returns-else-number-lt-FIVE_BYTES-clause-most : goal.returns-else-number-lt-FIVE_BYTES-clause-most
returns-else-number-lt-FIVE_BYTES-clause-most g c = ten_at_most _ _ c.args.number
    c.push_long.ensures c.ranges.number.fits
