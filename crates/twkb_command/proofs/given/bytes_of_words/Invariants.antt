-- The words before the index were put.
use Rattle.std.proofs.Common.{◌≡◌, take}
use Rattle.twkb_command.specs.CommandLine.{words_of}
use Rattle.twkb_command.proofs.given.bytes_of_words.Given as goal

abbrev pub invariant-loop-word : goal.invariant-loop-word
invariant-loop-word l = words_of l.list.items ≡ words_of (take l.word-index l.words)
