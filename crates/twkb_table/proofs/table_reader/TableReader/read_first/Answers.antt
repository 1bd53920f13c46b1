use Rattle.std.proofs.Common.{inl}
use Rattle.twkb_table.proofs.TableSteps.{first_shown}
use Rattle.twkb_table.proofs.table_reader.TableReader.read_first.Goals as goal

pub next_root-requires : goal.next_root-requires
next_root-requires g c = inl c.in_ok-read_header.ensures.1

pub returns : goal.returns
returns g c = first_shown g.R.Read.remaining c.args.self.now c.read_header.new.self
    c.next_root.new.self
    c.next_root.result c.in_ok-read_header.ensures.0 c.in_ok-read_header.ensures.1 c.next_root.ensures
