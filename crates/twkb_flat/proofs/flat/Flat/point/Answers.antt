use Rattle.std.proofs.Common.{refl, ap, length, arith}
use Rattle.twkb_flat.proofs.LinkLemmas.{flat_points}
use Rattle.std.proofs.lemmas.Option.{slice_get_read}
use Rattle.twkb_flat.proofs.flat.Flat.point.Goals as goal

pub index-requires : goal.index-requires
index-requires c =
    let same = rw c.self.view_is at (flat_points _ _ c.self.invariant.laid) in
    omega (arith, c.requires, ap length same, c.self.inside.points.ok.0)

pub returns-clause-point : goal.returns-clause-point
returns-clause-point c =
    let same = rw c.self.view_is at (flat_points _ _ c.self.invariant.laid) in
    rw same (slice_get_read c.self.inside.points.items _ c.args.id.0 _ refl
    (omega (arith, c.requires, ap length same)) c.index.ensures)
