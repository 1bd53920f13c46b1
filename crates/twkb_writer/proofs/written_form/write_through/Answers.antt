use Rattle.std.proofs.Common.{◌∙◌, refl, rules}
use Rattle.twkb_writer.proofs.PutLemmas.{whole_run, cut_run}
use Rattle.twkb_writer.proofs.MeasuringTrees.{sizes_suffice}
use Rattle.twkb_writer.proofs.TreeBytes.{some_row, rows_written}
use Rattle.twkb_writer.proofs.written_form.write_through.Goals as goal

pub put_rows-requires : goal.put_rows-requires
put_rows-requires g c = sizes_suffice _ _ _ c.requires

pub returns-then-is_empty-clause-ok : goal.returns-then-is_empty-clause-ok
returns-then-is_empty-clause-ok g c = λ h t e. absurd (some_row h (e ∙ c.is_empty.ensures.value.0 c.if-is_empty.true))

pub returns-in-Some-clause-err : goal.returns-in-Some-clause-err
returns-in-Some-clause-err g c = λ h t e.
    cut_run g.S.Sink.took g.S.Sink.refused _ _ _ _ _ _ _ _ (g.met.S.Sink.takes_nothing _) refl
    c.clear.ensures c.put_rows.ensures.put c.flush.ensures.put (search rules) c.in-Some.is
    (search rules) (rows_written _ _ _ c.requires h t e)

pub returns-in-None-clause-ok : goal.returns-in-None-clause-ok
returns-in-None-clause-ok g c = λ h t e.
    whole_run g.S.Sink.took g.S.Sink.refused _ _ _ _ _ _ _ (g.met.S.Sink.takes_nothing _) refl
    c.clear.ensures c.put_rows.ensures.put c.flush.ensures.put (search rules) c.in-None.is
    c.flush.ensures.empty (search rules) (rows_written _ _ _ c.requires h t e)
