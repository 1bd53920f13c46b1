-- What a reader of a whole stream holds.
use Rattle.std.specs.Prelude.{List}
use Rattle.std.specs.declared.io.traits.Read.{Ghosts}
use Rattle.twkb_tree.specs.Rows.{Row}
use Rattle.twkb_blob.specs.declared.reader.Reader.{Reader}
use Rattle.twkb_blob.specs.declared.stream_reader.StreamReader.{StreamReader}

-- the reader of its input
abbrev pub reader_in : {R : Type 0} {read : Ghosts R} → StreamReader R read → Reader R read
reader_in s = s.reader

-- the rows of the geometry that it read last
abbrev pub rows_in : {R : Type 0} {read : Ghosts R} → StreamReader R read → List Row
rows_in s = s.room.now.session.rows.flat
