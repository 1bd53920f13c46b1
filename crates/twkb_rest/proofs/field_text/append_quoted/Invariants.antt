use Rattle.std.proofs.Common.{◌≡◌, ◌++◌, ◌∷◌, take}
use Rattle.csv.specs.Writing.{escaped}
use Rattle.twkb_rest.specs.Written.{Grows, written_with}
use Rattle.twkb_rest.proofs.field_text.append_quoted.Given as goal

-- the bytes so far were appended after the first quote
abbrev pub invariant-loop-byte : goal.invariant-loop-byte
invariant-loop-byte l = record {
  text : l.text.items ≡ l.fn.text.items ++ (34 ∷ escaped (written_with l.delimiter) (take l.byte-index l.field));
  grown : Grows l.fn.text.items l.text.items;
}
