use Rattle.std.proofs.Common.{◌∙◌, [], None, ap, sym, subst}
use Rattle.twkb_tree.specs.Limits.{IsValid, largest_limits}
use Rattle.twkb_tree.specs.Rows.{rows}
use Rattle.twkb_flat.proofs.BuildLemmas.{all_at}
use Rattle.twkb_flat.proofs.flat.Flat.to_geometry.Goals as goal

pub take_geometry-requires : goal.take_geometry-requires
take_geometry-requires c =
    let whole = all_at largest_limits c.args.self.now c.requires c.is_empty-learnt.ensures.sound in
    (0, None, whole.0, [], whole.3)

pub returns-clause-rows : goal.returns-clause-rows
returns-clause-rows c =
    let whole = all_at largest_limits c.args.self.now c.requires c.is_empty-learnt.ensures.sound in
    ap (rows 0) (c.in_ok-geometry.ensures 0 None whole.0 [] whole.3).0 ∙ whole.2

pub returns-clause-valid : goal.returns-clause-valid
returns-clause-valid c =
    let whole = all_at largest_limits c.args.self.now c.requires c.is_empty-learnt.ensures.sound in
    subst (IsValid largest_limits) (sym (c.in_ok-geometry.ensures 0 None whole.0 [] whole.3).0) whole.1
