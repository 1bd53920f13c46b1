-- The words so far and those that are left are the joined words.
use Rattle.std.proofs.Common.{◌≡◌, ◌++◌, drop, map}
use Rattle.std.specs.Prelude.{string_bytes}
use Rattle.twkb_command.specs.CommandLine.{words_of}
use Rattle.twkb_command.specs.Joined.{joined, joined_from}
use Rattle.twkb_command.proofs.joined.joined_words.Given as goal

abbrev pub invariant-loop-word : goal.invariant-loop-word
invariant-loop-word l = words_of l.list.items ++ joined_from l.before (map string_bytes (drop l.word-index l.words))
    ≡ joined (map string_bytes l.words)
