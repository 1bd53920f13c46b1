use Rattle.std.proofs.Common.{◌-◌, arith}
use Rattle.twkb_flat.proofs.LinkLemmas.{closing_last, closing_within, closing_up, closing_done, read_here}
use Rattle.twkb_flat.proofs.kept_nodes.close_from.Goals as goal

pub loop-kept-init : goal.loop-kept-init
loop-kept-init c = closing_last c.args.kept.now c.args.depth (c.args.next - 1) c.args.next
    (omega (arith, c.requires.some)) c.requires.within c.requires.place

pub loop-kept-smaller : goal.loop-kept-smaller
loop-kept-smaller c =
    let h = closing_within _ _ _ _ _ c.loop-kept.invariant c.requires.within in
    (closing_up _ _ c.link.new.kept _ _ _ _ c.requires.linked c.requires.place c.requires.some
    c.requires.within c.loop-kept.invariant h (read_here _ _ _ h) c.loop-kept-test.true
    c.link.ensures.placed_rows c.link.ensures.links).less

pub loop-kept-preserved : goal.loop-kept-preserved
loop-kept-preserved c =
    let h = closing_within _ _ _ _ _ c.loop-kept.invariant c.requires.within in
    (closing_up _ _ c.link.new.kept _ _ _ _ c.requires.linked c.requires.place c.requires.some
    c.requires.within c.loop-kept.invariant h (read_here _ _ _ h) c.loop-kept-test.true
    c.link.ensures.placed_rows c.link.ensures.links).now

pub returns-clause-links : goal.returns-clause-links
returns-clause-links c =
    let h = closing_within _ _ _ _ _ c.loop-kept.invariant c.requires.within in
    (closing_done _ _ _ _ _ _ c.loop-kept.invariant c.requires.within h (read_here _ _ _ h)
    c.loop-kept-test.false).closed

pub returns-clause-above : goal.returns-clause-above
returns-clause-above c =
    let h = closing_within _ _ _ _ _ c.loop-kept.invariant c.requires.within in
    (closing_done _ _ _ _ _ _ c.loop-kept.invariant c.requires.within h (read_here _ _ _ h)
    c.loop-kept-test.false).above
