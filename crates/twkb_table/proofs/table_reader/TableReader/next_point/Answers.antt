use Rattle.std.proofs.Common.{rules, SFits, w8}
use Rattle.std.proofs.lemmas.Int.{to_z-of_z}
use Rattle.twkb_table.specs.TableReading.{progress}
use Rattle.twkb_table.proofs.TableSteps.{point_given}
use Rattle.twkb_table.proofs.table_reader.TableReader.next_point.Goals as goal

pub returns-in-Ok-clause-gives : goal.returns-in-Ok-clause-gives
returns-in-Ok-clause-gives g c l told records given s =
    let range : SFits w8 c.in-Some.precision = search rules in
    rw (to_z-of_z w8 c.in-Some.precision range) (point_given l g.R.Read.remaining told records given
    (progress c.args.self.now) (progress c.next_root.new.self) c.in-Some.precision c.in-Some.point _
    c.in-Some.ensures.point (search rules) (c.in-Ok.ensures.0 l told records given) s)
