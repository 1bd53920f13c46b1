use Rattle.std.proofs.Common.{◌∙◌, ◌<◌, ◌⊎◌, ◌++◌, ◌∷◌, [], ap, sym, subst, ℕ}
use Rattle.twkb_arrays.specs.SentBlobs.{LacksBlobRoom, blob_in}
use Rattle.twkb_arrays.specs.declared.writer.Writer.{Writer}
use Rattle.twkb_arrays.proofs.WritingLemmas.{passed_one, passed_within}
use Rattle.twkb_arrays.proofs.writer.Writer.pass.Goals as goal

pub returns-clause-passes : goal.returns-clause-passes
returns-clause-passes c = λ style start start_ends in_output in_ends given later g h counted same lack.
    let noted = c.note.ensures.marks style start start_ends in_output in_ends given later h counted in
    let room = ap (λ (w : Writer). blob_in w.room) c.note.ensures.same in
    rw c.pass.ensures (passed_one noted.0 g (c.blob-bytes.ensures ∙ room ∙ same) noted.1
    (subst (λ (n : ℕ). (0 < n) ⊎ LacksBlobRoom style start start_ends (given ++ g ∷ []))
    (sym c.note.ensures.passed) lack))

pub returns-clause-within : goal.returns-clause-within
returns-clause-within c = λ in_output in_ends i.
    rw c.pass.ensures (passed_within c.note.new.self.sent _ c.note.ensures.counts i)
