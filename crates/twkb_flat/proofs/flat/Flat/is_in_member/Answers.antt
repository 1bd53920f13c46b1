use Rattle.std.proofs.Common.{◌≡◌, Some, None, arith, rules}
use Rattle.twkb_tree.specs.declared.kind.Kind.{Kind}
use Rattle.twkb_flat.proofs.PushLemmas.{in_member}
use Rattle.twkb_flat.proofs.flat.Flat.is_in_member.Goals as goal

pub returns-then-eq : goal.returns-then-eq
returns-then-eq c = λ yes.
    let parent_is : c.open_row.result ≡ record {
      kind = Kind.MultiPoint;
      child_ids = Some c.args.named;
    } = search rules in
    let member_is : c.open_row-then-eq.result ≡ record { kind = Kind.Point; child_ids = None } = search rules in
    in_member c.args.self.now c.args.depth c.levels-levels.result c.args.named c.open_row.result
    c.open_row-then-eq.result c.levels-levels.ensures.sound c.levels-levels.ensures.value
    (omega (arith, c.if-levels-lt2.false)) (omega (arith, c.if-levels-depth.false))
    c.open_row.ensures c.open_row-then-eq.ensures parent_is member_is
