use Rattle.std.proofs.Common.{inr}
use Rattle.twkb_command.proofs.RequestLemmas.{line_of_styles, line_one}
use Rattle.twkb_command.proofs.RefusalLemmas.{told_lacks}
use Rattle.twkb_command.proofs.runs.run.Goals as goal

pub returns-in-Ok : goal.returns-in-Ok
returns-in-Ok g c = rw (← c.in-Ok.ensures, ← c.deref.ensures.value) c.run_joined.ensures

pub returns-in-Err : goal.returns-in-Err
returns-in-Err g c =
    let lacks = told_lacks g.E.Write.contents c.args.reader.now c.args.writer.now c.args.errors.now _ _
    c.report_no_memory.ensures.status c.report_no_memory.ensures.line in
    line_of_styles c.styles-names.result c.styles-names.ensures
    (record {
      accepted = λ fine proper. inr lacks;
      misused = λ m fine found. inr lacks;
      refused = λ faulty. inr lacks;
      one_request = line_one c.styles-names.result _;
    })
