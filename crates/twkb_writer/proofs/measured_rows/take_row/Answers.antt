use Rattle.twkb_writer.proofs.measured_rows.take_row.Goals as goal

pub returns-in-None : goal.returns-in-None
returns-in-None c = c.take_component.ensures c.args.style c.args.points.now
