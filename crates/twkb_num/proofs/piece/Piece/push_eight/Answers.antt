use Rattle.std.proofs.Common.{◌+◌, ◌≤◌, length, ap, arith}
use Rattle.std.proofs.lemmas.List.{length-take-le}
use Rattle.twkb_num.proofs.VarintLemmas.{eight_stored}
use Rattle.twkb_num.proofs.piece.Piece.push_eight.Goals as goal

pub returns : goal.returns
returns g c =
    let bytes = c.self.inside.bytes in
    let len = c.self.inside.len in
    let held = length-take-le len bytes (omega (arith, c.self.invariant, c.self.told)) in
    let within : len + 8 ≤ length bytes = omega (arith, c.self.told, held, ap length c.self.view_is, c.requires.room) in
    eight_stored bytes _ c.args.bytes len _ c.args.count (omega arith) within c.self.view_is
    c.requires.few c.fits-bytes.0
