use Rattle.std.proofs.Common.{◌≡◌, drop}
use Rattle.csv.specs.Records.{fields_of}
use Rattle.twkb_hex.specs.Rows.{found_from, found_in}
use Rattle.twkb_hex.proofs.found.find.Given as goal

-- with the fields from here on, the answer is that of the header
abbrev pub invariant-loop-place : goal.invariant-loop-place
invariant-loop-place l = found_from l.name l.found l.place (drop l.place (fields_of l.header))
    ≡ found_in l.name (fields_of l.header)
