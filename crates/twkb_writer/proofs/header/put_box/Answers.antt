use Rattle.std.proofs.Common.{get_or, rules, FitsSigned, w64}
use Rattle.std.proofs.lemmas.Int.{to_z-of_z}
use Rattle.std.specs.Prelude.{pos}
use Rattle.twkb_writer.proofs.header.put_box.Goals as goal

pub returns-in-Some : goal.returns-in-Some
returns-in-Some g c =
    let least_x : FitsSigned w64 (get_or c.items.result 0 (pos 0)) = search rules in
    let width : FitsSigned w64 (get_or c.items.result 1 (pos 0)) = search rules in
    let least_y : FitsSigned w64 (get_or c.items.result 2 (pos 0)) = search rules in
    let height : FitsSigned w64 (get_or c.items.result 3 (pos 0)) = search rules in
    let put = simp to_z-of_z at c.put_four.ensures in
    rw c.in-Some.is (rw c.items.ensures.value at put)
