use Rattle.std.proofs.Common.{◌∙◌, subst, sym, refl}
use Rattle.twkb_tree.proofs.RowForest.{are_in_range-true, points_in_range}
use Rattle.twkb_flat.specs.Taking.{IfRefused}
use Rattle.twkb_arrays.specs.JudgedRow.{AreOutOfRange}
use Rattle.twkb_arrays.specs.Rows.{points_of}
use Rattle.twkb_arrays.proofs.own_points.OwnPointsPointSource.append_to.Goals as goal

pub returns-then-not-are_in_range-clause-refused : goal.returns-then-not-are_in_range-clause-refused
returns-then-not-are_in_range-clause-refused g c =
    let ps = points_of c.args.self.now.own.now in
    subst (IfRefused (AreOutOfRange ps)) (sym c.refused.ensures) (
      λ in_range.
          let passed = are_in_range-true ps in_range in
          cc (passed, c.are_in_range.ensures, c.if-not-are_in_range.true),
      refl,
    )

pub returns-in-Ok-clause-given : goal.returns-in-Ok-clause-given
returns-in-Ok-clause-given g c = (
  points_of c.args.self.now.own.now,
  c.in-Ok.ensures.appended,
  (refl, points_in_range _ (sym c.are_in_range.ensures ∙ c.if-not-are_in_range.false)),
)
