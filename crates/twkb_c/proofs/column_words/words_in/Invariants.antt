-- The words before the rest were taken.
use Rattle.std.proofs.Common.{◌≡◌, ◌++◌, length}
use Rattle.twkb_c.specs.ColumnWords.{ended_words, words_of}
use Rattle.twkb_c.proofs.column_words.words_in.Given as goal

abbrev pub invariant-loop-length : goal.invariant-loop-length
invariant-loop-length l = ended_words (words_of l.words.items) ++ l.rest ≡ l.text

abbrev pub decreases-loop-length : goal.decreases-loop-length
decreases-loop-length l = length l.rest
