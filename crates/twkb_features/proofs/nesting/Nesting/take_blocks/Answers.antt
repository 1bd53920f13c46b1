use Rattle.twkb_features.proofs.TakenLemmas.{takes_none, takes_block_at}
use Rattle.twkb_features.proofs.nesting.Nesting.take_blocks.Goals as goal

pub loop-at-init : goal.loop-at-init
loop-at-init c = takes_none c.args.self.now c.args.depth c.args.bytes.now

pub loop-at-preserved : goal.loop-at-preserved
loop-at-preserved c =
    takes_block_at c.take_block-is_taken.result c.loop-at.invariant
    c.take_block-is_taken.ensures c.if-not-is_taken.false
