use Rattle.std.proofs.Common.{subst}
use Rattle.clap.specs.Words.{found_of, rows_of}
use Rattle.twkb_command.specs.CommandLine.{HasNest, HasPrecision, NamesConversion}
use Rattle.twkb_command.proofs.RequestLemmas.{used_is}
use Rattle.twkb_command.proofs.words.request_of.Goals as goal

pub subcommand_request-requires : goal.subcommand_request-requires
subcommand_request-requires c =
    let used = used_is c.args.matches.now c.in-Some.name.now (rows_of (found_of c.in-Some.inner.now))
    c.in-Some.ensures.name c.in-Some.ensures.rows in
    record {
      named = subst NamesConversion used c.requires.named;
      nest = subst HasNest used c.requires.nest;
      precision = subst HasPrecision used c.requires.precision;
    }

pub returns : goal.returns
returns c =
    let used = used_is c.args.matches.now c.in-Some.name.now (rows_of (found_of c.in-Some.inner.now))
    c.in-Some.ensures.name c.in-Some.ensures.rows in
    rw used (record {
      asked = c.subcommand_request.ensures.asked;
      proper = c.subcommand_request.ensures.proper;
      refused = c.subcommand_request.ensures.refused;
    })
