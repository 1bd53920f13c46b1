use Rattle.std.proofs.Common.{arith}
use Rattle.twkb_flat.proofs.FlatOpenLemmas.{length-rows, row_here, shallow_here}
use Rattle.twkb_flat.proofs.flat.Flat.row.Goals as goal

pub index-requires : goal.index-requires
index-requires c = omega (arith, c.requires, length-rows _ _ _ c.self.view_is, c.self.inside.kept.ok.0)

pub returns-clause-row : goal.returns-clause-row
returns-clause-row c =
    let all = length-rows _ _ _ c.self.view_is in
    λ row rest here. row_here _ _ c.args.at _ _ row rest c.self.invariant.laid c.self.view_is
    (omega (arith, c.requires, all)) c.index.ensures here

pub returns-clause-shallow : goal.returns-clause-shallow
returns-clause-shallow c =
    let all = length-rows _ _ _ c.self.view_is in
    shallow_here _ _ c.args.at _ c.args.self.now c.self.invariant.valid c.self.invariant.laid
    (omega (arith, c.requires, all)) c.index.ensures

pub returns-clause-few : goal.returns-clause-few
returns-clause-few c = omega (arith, length-rows _ _ _ c.self.view_is, c.self.invariant.nodes)
