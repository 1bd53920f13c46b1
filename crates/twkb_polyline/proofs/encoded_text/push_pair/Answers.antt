use Rattle.std.proofs.Common.{rules, FitsSigned, w64}
use Rattle.std.proofs.lemmas.Int.{to_z-of_z}
use Rattle.twkb_polyline.proofs.TextLemmas.{pair_text}
use Rattle.twkb_polyline.proofs.encoded_text.push_pair.Goals as goal

pub returns-clause-appended : goal.returns-clause-appended
returns-clause-appended c =
    let fits_first_dx : FitsSigned w64 c.delta-first_dx.result.0 = search rules in
    let fits_first_dy : FitsSigned w64 c.delta-first_dx.result.1 = search rules in
    let fits_second_dx : FitsSigned w64 c.delta-second_dx.result.0 = search rules in
    let fits_second_dy : FitsSigned w64 c.delta-second_dx.result.1 = search rules in
    let whole =
    pair_text c.args.cursor.now c.delta-first_dx.new.self c.args.pair.now c.index-pair-0.result
    c.index-pair-1.result c.delta-first_dx.result.0 c.delta-first_dx.result.1
    c.delta-second_dx.result.0 c.delta-second_dx.result.1
    c.type_inv.pair c.delta-first_dx.ensures.moved c.delta-first_dx.ensures.x
    c.delta-first_dx.ensures.y c.delta-second_dx.ensures.x c.delta-second_dx.ensures.y in
    rw (
      simp to_z-of_z at c.zigzag.ensures,
      simp to_z-of_z at c.zigzag-2.ensures,
      simp to_z-of_z at c.zigzag-3.ensures,
      simp to_z-of_z at c.zigzag-4.ensures,
      whole,
    ) at
    c.push_four.ensures.appended
