use Rattle.std.proofs.Common.{rules, FitsSigned, w64}
use Rattle.std.proofs.lemmas.Int.{to_z-of_z}
use Rattle.twkb_writer.proofs.PutLemmas.{pushed, four_pushed}
use Rattle.twkb_writer.proofs.gatherer.Gatherer+S+S+Fault.put_four.Goals as goal

pub returns : goal.returns
returns g c =
    let first_fits : FitsSigned w64 c.args.first = search rules in
    let second_fits : FitsSigned w64 c.args.second = search rules in
    let third_fits : FitsSigned w64 c.args.third = search rules in
    let fourth_fits : FitsSigned w64 c.args.fourth = search rules in
    let first = simp to_z-of_z at c.zigzag.ensures in
    let second = simp to_z-of_z at c.zigzag-2.ensures in
    let third = simp to_z-of_z at c.zigzag-3.ensures in
    let fourth = simp to_z-of_z at c.zigzag-4.ensures in
    pushed _ c.make_room.ensures.put (four_pushed _ _ _ _ _ _ c.args.first c.args.second c.args.third
    c.args.fourth c.push_four_varints.ensures first second third fourth)
