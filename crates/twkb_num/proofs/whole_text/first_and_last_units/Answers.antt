use Rattle.std.proofs.Common.{◌∙◌, ◌-◌, ap, length}
use lib.Lanes.{zip2}
use lib.ListN.{replicate}
use Rattle.std.proofs.lemmas.List.{take_rest}
use Rattle.std.proofs.lemmas.Simd.{zip2_splat}
use Rattle.twkb_num.specs.Block.{first_and_last}
use Rattle.twkb_num.proofs.ZigzagLemmas.{wrapped_sub}
use Rattle.twkb_num.proofs.WordLemmas.{bytes_of}
use Rattle.twkb_num.proofs.BlockLemmas.{bytes_are, length-first_and_last}
use Rattle.twkb_num.proofs.whole_text.first_and_last_units.Goals as goal

pub returns : goal.returns
returns c =
    let text = c.args.text.now in
    let back = rw (take_rest text (length text - 8)) at c.eight_bytes-back.ensures in
    ap (λ bytes. zip2 wrapped_sub bytes (replicate 16 63))
    (bytes_are text c.requires c.eight_bytes-front.result c.eight_bytes-back.result (bytes_of text c.type_inv.text)
    c.eight_bytes-front.ensures back)
    ∙ zip2_splat wrapped_sub (first_and_last text) 16 63 (length-first_and_last text c.requires)
