use Rattle.std.proofs.Common.{◌-◌}
use Rattle.twkb_table.specs.RowReading.{Keeps}
use Rattle.twkb_table.specs.TableReading.{Begins}
use Rattle.twkb_table.specs.declared.numbered_records.TheConstants.{RECORD_CAP}
use Rattle.twkb_table.proofs.table_reader.TableReader.read_geometry.Given as goal

-- each record so far was one more row of the geometry
abbrev pub invariant-loop : goal.invariant-loop
invariant-loop g l =
    record {
      keeps : Keeps l.self.rows l.flat;
      begins : Begins g.R.Read.remaining l.fn.self l.flat l.self;
    }

-- each record has a number, which is below the cap
abbrev pub decreases-loop : goal.decreases-loop
decreases-loop g l = RECORD_CAP - l.self.number
