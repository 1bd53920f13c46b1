use Rattle.twkb_table.specs.TableReading.{progress}
use Rattle.twkb_table.proofs.TableSteps.{tree_given}
use Rattle.twkb_table.proofs.table_reader.TableReader.next_tree.Goals as goal

pub returns-clause-gives : goal.returns-clause-gives
returns-clause-gives g c l told records given s = tree_given l g.R.Read.remaining told records given
    (progress c.next_flat.new.self) _ c.in-Ok.geometry c.in-Ok.ensures.rows
    c.in-Ok.ensures.valid.tree
    (c.in_ok-next_flat.ensures.gives c.if-not-branch.false l told records given s)
