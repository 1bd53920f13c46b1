use Rattle.std.proofs.Common.{◌∙◌, sym, arith, w8, ltb}
use lib.Lanes.{zip2}
use lib.ListN.{replicate}
use Rattle.std.proofs.lemmas.Simd.{bitmask_splat}
use Rattle.twkb_num.proofs.ZigzagLemmas.{wrapped_sub, above_is}
use Rattle.twkb_num.proofs.BlockLemmas.{marked_by, length-less}
use Rattle.twkb_num.proofs.whole_text.ends_of.Goals as goal

pub returns : goal.returns
returns c =
    let units = c.args.units in
    let less = zip2 wrapped_sub units (replicate 16 1) in
    marked_by units _ c.fits-units.0 c.fits-units.1
    (bitmask_splat w8 ltb units 16 32 c.fits-units.0 (omega arith))
    (sym (above_is less 62 (length-less units c.fits-units.0)) ∙ c.if-outside-ne0.false)
