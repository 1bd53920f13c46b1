use Rattle.std.proofs.Common.{arith, length, ◌-◌}
use Rattle.twkb_flat.proofs.LastPoint.{last_fits, longer_placed, same_links}
use Rattle.twkb_flat.proofs.kept_nodes.count_points.Goals as goal

pub overflow_add-kept_node : goal.overflow_add-kept_node
overflow_add-kept_node c = last_fits c.args.more c.args.kept.now (length c.args.kept.now - 1)
    _ (omega (arith, c.requires.some)) c.requires.room

pub returns-clause-placed_rows : goal.returns-clause-placed_rows
returns-clause-placed_rows c = longer_placed c.args.more c.args.kept.now
    (length c.args.kept.now - 1) _ (omega (arith, c.requires.some))

pub returns-clause-links : goal.returns-clause-links
returns-clause-links c = same_links c.args.more c.args.kept.now (length c.args.kept.now - 1) _
