use Rattle.twkb_hex.proofs.packed_records.send_all.Goals as goal

pub returns : goal.returns
returns g c = record { sends = c.send_csv.ensures.sends _ c.new_reader-csv.ensures }
