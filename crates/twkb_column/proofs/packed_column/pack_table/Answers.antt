use Rattle.twkb_column.proofs.TableLemmas.{packs_table}
use Rattle.twkb_column.proofs.packed_column.pack_table.Goals as goal

pub returns-clause-packs : goal.returns-clause-packs
returns-clause-packs g c = packs_table _ _ _ _ _ _ _ _ _ c.pack_styled.ensures.ok c.pack_styled.ensures.err
