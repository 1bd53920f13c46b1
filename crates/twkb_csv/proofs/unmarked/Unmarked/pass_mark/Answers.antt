use Rattle.std.proofs.Common.{◌≡◌, length, rules}
use Rattle.std.specs.Prelude.{slice_range}
use Rattle.twkb_csv.proofs.MarkLemmas.{passed_if}
use Rattle.twkb_csv.proofs.unmarked.Unmarked.pass_mark.Goals as goal

pub returns-clause-keeps : goal.returns-clause-keeps
returns-clause-keeps g c =
    let self = c.args.self.now in
    let three : length self.start ≡ 3 = search rules in
    rw c.mark_length-length.ensures (
    passed_if self.begun self.start (slice_range self.start self.at self.filled) self.filled _ c.requires.fresh three
    self.in_array c.requires.all
    )
