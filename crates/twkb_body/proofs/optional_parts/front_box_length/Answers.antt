use Rattle.std.proofs.Common.{◌≡◌, subst, sym, ◌∙◌, arith}
use Rattle.twkb_body.specs.HeaderParts.{SidesInFront}
use Rattle.twkb_body.proofs.HeaderParts.{sides_none, sides_more, box_whole}
use Rattle.twkb_body.proofs.optional_parts.front_box_length.Goals as goal

pub loop-count-init : goal.loop-count-init
loop-count-init c = record { few = omega arith; sides = sides_none c.args.bytes.now }

pub loop-count-preserved : goal.loop-count-preserved
loop-count-preserved c = record {
  few = omega arith;
  sides = sides_more c.loop-count.count c.args.bytes.now c.loop-count.used _
      c.in-Complete.width c.loop-count.invariant.sides c.in-Complete.ensures;
}

pub returns : goal.returns
returns c =
    let all : c.loop-count.count ≡ 4 = omega (arith, c.loop-count.invariant.few) in
    box_whole c.args.metadata c.args.bytes.now c.loop-count.used (sym c.has_box.ensures
    ∙ c.if-not-has_box.false) (subst (λ n. SidesInFront n c.args.bytes.now c.loop-count.used)
    all c.loop-count.invariant.sides)
