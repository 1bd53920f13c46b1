use Rattle.std.proofs.Common.{◌≡◌, ◌++◌, ◌∷◌, take}
use Rattle.csv.specs.Writing.{default_writer, escaped}
use Rattle.twkb_csv.specs.Named.{Grows}
use Rattle.twkb_csv.proofs.field_text.append_quoted.Given as goal

-- the bytes so far were appended after the first quote
abbrev pub invariant-loop-byte : goal.invariant-loop-byte
invariant-loop-byte l = record {
  text : l.text.items ≡ l.fn.text.items ++ (34 ∷ escaped default_writer (take l.byte-index l.field));
  grown : Grows l.fn.text.items l.text.items;
}
