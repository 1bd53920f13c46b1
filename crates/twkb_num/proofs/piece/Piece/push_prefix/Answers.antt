use Rattle.std.proofs.Common.{◌≡◌, ◌≤◌, ◌∙◌, length, take, ◌++◌, ap, arith}
use Rattle.twkb_num.proofs.VarintLemmas.{front_stored}
use Rattle.twkb_num.proofs.piece.Piece.push_prefix.Goals as goal

pub returns : goal.returns
returns g c =
    let within : c.self.inside.len ≤ length c.self.inside.bytes = omega (arith, c.self.invariant, c.self.told) in
    let whole : length c.copy_from_slice.new.self ≡ length c.args.bytes.now =
    ap length c.copy_from_slice.ensures.after in
    front_stored c.self.inside.bytes _ c.copy_from_slice.new.self c.self.inside.len _ c.args.count
    within c.self.view_is (omega (arith, whole, c.told-bytes, c.requires.few))
    ∙ ap (λ bs. c.args.self.now ++ take c.args.count bs) c.copy_from_slice.ensures.after
