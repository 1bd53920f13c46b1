use Rattle.std.proofs.Common.{◌∙◌, List, ℕ, ◌++◌, ap, drop, take}
use Rattle.std.proofs.lemmas.List.{take_rest}
use Rattle.twkb_csv.specs.Scan.{rest_text, stand_of}
use Rattle.twkb_csv.proofs.ScanLemmas.{given_part}
use Rattle.twkb_csv.proofs.column_reader.ColumnReader.give.Goals as goal

pub returns-clause-gives : goal.returns-clause-gives
returns-clause-gives g c =
    let self = c.args.self.now in
    let count = c.copy_front-count.result in
    let tail = take_rest c.deref.result.now self.sent ∙ ap (λ (l : List ℕ). drop self.sent l) c.deref.ensures.value in
    let front = c.copy_front-count.ensures.copied ∙ ap (λ (l : List ℕ). take count l) tail in
    given_part self.ended
    (λ (bytes : List ℕ). rest_text self.scan.column (stand_of self.scan)
    (drop self.at (take self.filled self.held) ++ bytes))
    self.text.items self.sent count _ _ front
