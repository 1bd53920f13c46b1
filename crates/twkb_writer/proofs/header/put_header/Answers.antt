use Rattle.std.proofs.lemmas.Int.{to_z-of_z}
use Rattle.twkb_writer.proofs.PutLemmas.{put_join}
use Rattle.twkb_writer.proofs.header.put_header.Goals as goal

pub returns : goal.returns
returns g c =
    let first = simp (to_z-of_z, c.ranges.precision) at
    (rw (c.byte-kind.ensures, c.of.ensures.number, c.byte-flags.ensures, c.metadata.ensures) at
    c.put_two.ensures) in
    put_join first
    (put_join c.put_size.ensures c.put_box.ensures)
