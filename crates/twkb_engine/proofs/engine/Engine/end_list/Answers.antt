use Rattle.std.proofs.Common.{◌≡◌, ◌<◌, arith, refl, true}
use Rattle.twkb_engine.specs.Fits.{has_members, left_fit, is_bodied, IsBodyItem}
use Rattle.twkb_engine.specs.declared.engine.Engine.{Engine}
use Rattle.twkb_engine.proofs.Points.{has_some, body_fits, body_kind, next_member, next_fits, next_lists_fit}
use Rattle.twkb_engine.proofs.Points.{next_inside, next_placed}
use Rattle.twkb_engine.proofs.engine.Engine.end_list.Goals as goal

bodied : (d : Engine) → IsBodyItem d.next → is_bodied d.head.kind ≡ true
bodied d body = body_kind d.next d.head.kind body d.item_fits

fits : (d : Engine) → IsBodyItem d.next → d.points_left ≡ 0
    → left_fit d.head.kind 0 d.rings_left d.members_left ≡ true
fits d body last = body_fits d.next d.head.kind d.points_left d.rings_left d.members_left body d.lists_fit last

pub invariant_of-self-2-clause-item_fits : goal.invariant_of-self-2-clause-item_fits
invariant_of-self-2-clause-item_fits c = next_fits c.args.self.now.head.kind c.first_of-self.result
    c.first_of-self.ensures (bodied c.args.self.now c.requires.body)

pub invariant_of-self-2-clause-lists_fit : goal.invariant_of-self-2-clause-lists_fit
invariant_of-self-2-clause-lists_fit c =
    let d = c.args.self.now in
    let has : has_members d.head.kind ≡ true = has_some d.head.kind 0 d.rings_left d.members_left
    (omega (arith, c.requires.left, c.if-self-gt0.false)) (fits d c.requires.body c.requires.last) in
    next_lists_fit d.head.kind c.first_of-self.result d.points_left d.rings_left
    c.saturating_sub-self.result c.first_of-self.ensures c.requires.last
    (omega (arith, c.if-self-gt0.false)) has (bodied d c.requires.body)

pub returns-clause-step : goal.returns-clause-step
returns-clause-step c =
    let d = c.args.self.now in
    let some : 0 < d.members_left = omega (arith, c.requires.left, c.if-self-gt0.false) in
    next_member d _ (omega (arith, c.if-self-gt0.false))
    (has_some d.head.kind 0 d.rings_left d.members_left some (fits d c.requires.body c.requires.last))
    (bodied d c.requires.body) some
    (omega (arith, c.saturating_sub-self.ensures)) refl refl c.advance.ensures.ids c.first_of-self.ensures

pub returns-clause-inside : goal.returns-clause-inside
returns-clause-inside c = next_inside c.args.self.now.head.kind c.first_of-self.result
    c.first_of-self.ensures (bodied c.args.self.now c.requires.body)

pub returns-clause-placed : goal.returns-clause-placed
returns-clause-placed c = next_placed c.args.self.now _ c.first_of-self.ensures
    (bodied c.args.self.now c.requires.body) refl refl
