use Rattle.twkb_buffer.proofs.column_job.run_job.Goals as goal

pub returns-in-Pack : goal.returns-in-Pack
returns-in-Pack g c = rw c.in-Pack.is (record {
  own = c.pack_column.result;
  same = c.as_packed.ensures;
  ok = c.pack_column.ensures.ok;
  err = c.pack_column.ensures.err;
})

pub returns-in-Unpack : goal.returns-in-Unpack
returns-in-Unpack g c = rw c.in-Unpack.is (record {
  own = c.unpack_column.result;
  same = c.as_unpacked.ensures;
  ok = c.unpack_column.ensures.ok;
  err = c.unpack_column.ensures.err;
})
