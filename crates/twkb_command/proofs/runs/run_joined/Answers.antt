use Rattle.std.proofs.Common.{inl, inr}
use Rattle.twkb_command.proofs.RefusalLemmas.{fine_lacks, misused_tells, refused_answers}
use Rattle.twkb_command.proofs.runs.run_joined.Goals as goal

pub returns-in-Ok : goal.returns-in-Ok
returns-in-Ok g c =
    let (line, known, read) = c.in-Ok.ensures in (
      line,
      known,
      record {
        accepted = λ fine proper. inl (c.in-Ok.request, read.asked, c.carry_out.ensures);
        misused = λ m fine found. absurd (cc (read.proper, found));
        refused = λ faulty. absurd (faulty read.fits);
        one_request = read.one_request;
      },
    )

pub returns-in-Err : goal.returns-in-Err
returns-in-Err g c =
    let (line, known, read) = c.in-Err.ensures in (
      line,
      known,
      record {
        accepted = λ fine proper.
            inr (fine_lacks _ _ _ _ _ _ _ _ _ c.in-Err.refusal read.refused c.refuse.ensures fine proper);
        misused = λ m. misused_tells _ _ _ _ _ _ _ _ _ m c.in-Err.refusal read.refused c.refuse.ensures;
        refused = λ faulty. refused_answers _ _ _ _ _ _ _ _ _ faulty c.in-Err.refusal read.refused c.refuse.ensures;
        one_request = read.one_request;
      },
    )
