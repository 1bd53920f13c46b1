use Rattle.std.proofs.Common.{arith, take}
use Rattle.twkb_csv.proofs.MarkLemmas.{read_on_if}
use Rattle.twkb_csv.proofs.unmarked.Unmarked.read_on.Goals as goal

pub returns-clause-bytes : goal.returns-clause-bytes
returns-clause-bytes g c =
    let self = c.args.self.now in
    read_on_if self.begun self.start (take self.filled self.start) self.at self.filled _ _ _ _ c.requires
    (omega (arith, c.if-self.false)) c.read.ensures.bytes
