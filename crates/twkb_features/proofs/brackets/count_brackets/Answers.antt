use Rattle.std.proofs.Common.{◌+◌, arith, ap, ◌∙◌}
use Rattle.twkb_features.specs.Nesting.{is_opening, is_closing}
use Rattle.twkb_features.specs.Taken.{is_quote, one_if}
use Rattle.twkb_features.proofs.TakenLemmas.{counted_none, counted_more}
use Rattle.twkb_features.proofs.brackets.count_brackets.Goals as goal

pub loop-byte-init : goal.loop-byte-init
loop-byte-init c = (counted_none _ _, counted_none _ _, counted_none _ _)

pub loop-byte-preserved : goal.loop-byte-preserved
loop-byte-preserved c =
    let block = c.args.block.now in
    let at = c.loop-byte.byte-index in (
      counted_more is_opening block at _ _ (omega arith) c.loop-byte.invariant.0
          (c.counted-opens.ensures ∙ ap (λ b. c.loop-byte.opens + one_if b) c.is_opening-is_open.ensures),
      counted_more is_closing block at _ _ (omega arith) c.loop-byte.invariant.1
          (c.counted-closes.ensures ∙ ap (λ b. c.loop-byte.closes + one_if b) c.is_closing-is_close.ensures),
      counted_more is_quote block at _ _ (omega arith) c.loop-byte.invariant.2 c.counted-quotes.ensures,
    )
