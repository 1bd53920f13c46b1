use Rattle.std.proofs.Common.{arith, refl, sym, ◌∙◌}
use Rattle.twkb_features.specs.Nesting.{is_opening}
use Rattle.twkb_features.proofs.TakenLemmas.{block_taken, at_outside, count_at_most}
use Rattle.twkb_features.proofs.nesting.Nesting.take_block.Goals as goal

pub overflow_add-self : goal.overflow_add-self
overflow_add-self c = record {
  fits = omega (
    arith,
    c.from.ensures,
    c.count_brackets-counts.ensures.opens,
    count_at_most is_opening c.args.bytes.now c.requires.whole,
  );
}

pub returns : goal.returns
returns c =
    let counts = c.count_brackets-counts in
    let closes_are = c.from-closes.ensures ∙ counts.ensures.closes in
    block_taken c.args.self.now _ c.args.depth c.args.bytes.now c.from.result c.from-closes.result
    (at_outside c.args.self.now.place (sym c.is_outside.ensures ∙ c.if-not-is_outside.false)) c.requires.whole
    (sym counts.ensures.quotes ∙ c.if-counts-ne0.false) (c.from.ensures ∙ counts.ensures.opens) closes_are
    (omega arith) (omega arith) refl
