use Rattle.twkb_features.specs.Nesting.{is_opening, is_closing}
use Rattle.twkb_features.specs.Taken.{is_quote}
use Rattle.twkb_features.proofs.TakenLemmas.{Counted}
use Rattle.twkb_features.proofs.brackets.count_brackets.Given as goal

abbrev pub invariant-loop-byte : goal.invariant-loop-byte
invariant-loop-byte l =
    Counted is_opening l.block l.byte-index l.opens × Counted is_closing l.block l.byte-index l.closes
    × Counted is_quote l.block l.byte-index l.quotes
