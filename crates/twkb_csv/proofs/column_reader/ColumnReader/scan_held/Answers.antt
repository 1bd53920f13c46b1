use Rattle.twkb_csv.proofs.ScanLemmas.{kept_scan_if}
use Rattle.twkb_csv.proofs.column_reader.ColumnReader.scan_held.Goals as goal

pub returns-in-Ok : goal.returns-in-Ok
returns-in-Ok g c = kept_scan_if _ _ _ _ _ _ _ _ _ _ _ c.requires.goes c.requires.given c.clear.ensures.items
    c.take_all-taken.ensures.column c.take_all-taken.ensures.goes

pub returns-in-Err : goal.returns-in-Err
returns-in-Err g c = kept_scan_if _ _ _ _ _ _ _ _ _ _ _ c.requires.goes c.requires.given c.clear.ensures.items
    c.take_all-taken.ensures.column c.take_all-taken.ensures.goes
