use Rattle.twkb_command.proofs.lines.put_stop.Goals as goal

pub returns-in-Cause : goal.returns-in-Cause
returns-in-Cause g c =
    rw c.in-Cause.is (record { prints = c.put_cause.ensures.prints; short = c.put_cause.ensures.short })

pub returns-in-Csv : goal.returns-in-Csv
returns-in-Csv g c = rw c.in-Csv.is (record { prints = c.put_csv.ensures.prints; short = c.put_csv.ensures.short })

pub returns-in-Hex : goal.returns-in-Hex
returns-in-Hex g c = rw c.in-Hex.is (record { prints = c.put_hex.ensures.prints; short = c.put_hex.ensures.short })

pub returns-in-Line : goal.returns-in-Line
returns-in-Line g c =
    rw c.in-Line.is (record { prints = c.put_line_reason.ensures.prints; short = c.put_line_reason.ensures.short })
