use Rattle.twkb_command.proofs.RequestLemmas.{kinds_line, matches_line}
use Rattle.twkb_command.proofs.PassedLemmas.{named_line}
use Rattle.twkb_command.proofs.ValueLemmas.{nest_line, precision_line}
use Rattle.twkb_command.proofs.words.matches_of.Goals as goal

pub returns : goal.returns
returns c =
    let line = c.in_ok-command.ensures in
    let parse = c.try_get_matches_from in
    let matches = matches_line _ parse.result _ _ line parse.ensures.matches in
    let kinds = kinds_line _ parse.result _ _ line parse.ensures.kinds in
    record {
      ok = matches;
      named = named_line _ parse.result _ kinds matches;
      nest = nest_line _ parse.result _ kinds matches;
      precision = precision_line _ parse.result _ kinds matches;
      kinds = kinds;
    }
