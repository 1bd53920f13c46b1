use Rattle.std.proofs.Common.{◌-◌, length, arith}
use Rattle.twkb_flat.proofs.LinkLemmas.{rising_last, rising_within, rising_up, rising_there, read_here, some_node}
use Rattle.twkb_flat.proofs.kept_nodes.open_at.Goals as goal

pub loop-at-init : goal.loop-at-init
loop-at-init c = rising_last c.args.kept.now c.args.depth (length c.args.kept.now - 1)
    (omega (arith, some_node c.args.kept.now c.args.depth c.requires.within)) c.requires.within

pub loop-at-smaller : goal.loop-at-smaller
loop-at-smaller c =
    let h = rising_within _ _ _ c.loop-at.invariant in
    (rising_up _ _ _ _ c.requires.linked c.loop-at.invariant h (read_here _ _ _ h) c.loop-at-test.true).1

pub loop-at-preserved : goal.loop-at-preserved
loop-at-preserved c =
    let h = rising_within _ _ _ c.loop-at.invariant in
    (rising_up _ _ _ _ c.requires.linked c.loop-at.invariant h (read_here _ _ _ h) c.loop-at-test.true).0

pub returns : goal.returns
returns c =
    let h = rising_within _ _ _ c.loop-at.invariant in
    rising_there _ _ _ _ c.loop-at.invariant h (read_here _ _ _ h) c.loop-at-test.false
