use Rattle.twkb_csv.proofs.machine.next_state.Goals as goal

pub returns-in-InQuoted : goal.returns-in-InQuoted
returns-in-InQuoted c = rw c.in-InQuoted.is (c.in_quotes.ensures c.args.delimiter)
