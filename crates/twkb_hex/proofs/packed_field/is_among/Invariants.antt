use Rattle.std.proofs.Common.{◌≡◌, false, take}
use Rattle.twkb_csv.specs.Named.{is_among}
use Rattle.twkb_hex.proofs.packed_field.is_among.Given as goal

-- none of the words so far is the field
abbrev pub invariant-loop-word : goal.invariant-loop-word
invariant-loop-word l = is_among (take l.word-index l.words) l.field ≡ false
