use Rattle.std.proofs.Common.{rules, w8, SFits, to_z-of_z}
use Rattle.twkb_flat.proofs.BuildLemmas.{fit_of}
use Rattle.twkb_flat.proofs.built_geometry.made_of.Goals as goal

pub unreachable-requires-in-Err : goal.unreachable-requires-in-Err
unreachable-requires-in-Err c =
    let fits : SFits w8 c.in-Some.precision = search rules in
    let accepted = simp to_z-of_z at c.in-Err.ensures.accepted in
    let made = accepted.1 (fit_of c.args.precision c.in-Some.precision c.args.shape c.requires.0
    c.in-Some.is c.requires.1) in
    cc made
