use Rattle.std.proofs.Common.{◌++◌, ◌∙◌, ap, take}
use Rattle.twkb_num.proofs.VarintLemmas.{take-le_bytes}
use Rattle.twkb_num.proofs.piece.Piece.push_low.Goals as goal

pub returns : goal.returns
returns g c =
    let held = c.args.self.now in
    c.push_eight.ensures
    ∙ ap (λ bs. held ++ take c.args.count bs) c.to_le_bytes.ensures
    ∙ ap (λ bs. held ++ bs) (take-le_bytes c.args.count c.args.word c.requires.few)
