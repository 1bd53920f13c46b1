use Rattle.twkb_command.proofs.lines.put_cause.Goals as goal

pub returns-in-Row : goal.returns-in-Row
returns-in-Row g c = rw c.in-Row.is (record { prints = c.put_row.ensures.prints; short = c.put_row.ensures.short })

pub returns-in-Blob : goal.returns-in-Blob
returns-in-Blob g c = rw c.in-Blob.is (record { prints = c.put_blob.ensures.prints; short = c.put_blob.ensures.short })
