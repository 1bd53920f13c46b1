use Rattle.std.proofs.Common.{rules}
use Rattle.std.proofs.lemmas.Result.{err_from_is_err_and}
use Rattle.twkb_rest.proofs.JoinLemmas.{at_delimiter, header_cut, header_sent, misses_header}
use Rattle.twkb_rest.proofs.joined_rest.send_csv.Goals as goal

pub returns-in_err-column : goal.returns-in_err-column
returns-in_err-column g c =
    let p = err_from_is_err_and c.from_residual.result c.from_residual.ensures.1 in
    rw (p.1, p.2) (record {
      sends = λ told given. misses_header c.args.name.now c.args.delimiter g.Q.Read.remaining told g.W.Write.contents
          _ _ _ _ _ c.requires.none c.requires.nothing c.requires.fresh given _ _ c.in_err-column.ensures.err;
    })

pub returns-in_err-put : goal.returns-in_err-put
returns-in_err-put g c =
    let p = err_from_is_err_and c.from_residual-in_err-put.result c.from_residual-in_err-put.ensures.1 in
    rw (p.1, p.2) (record {
      sends = λ told given. header_cut c.args.name.now c.args.delimiter g.Q.Read.remaining told g.W.Write.contents
          _ _ _ _ _ c.requires.none c.requires.nothing c.requires.fresh given c.in_ok-column.ensures.ok _
          (search rules) c.in_err-put.ensures.err;
    })

pub returns : goal.returns
returns g c = record {
  sends = λ told given. at_delimiter c.in_ok-column.ensures.ok.same (c.send_rows.ensures.sends c.args.name.now told _
      (header_sent c.args.name.now c.args.delimiter g.Q.Read.remaining told g.W.Write.contents
      _ _ _ _ _ c.requires.none c.requires.nothing c.requires.fresh given c.in_ok-column.ensures.ok _
      (search rules) c.in_ok-put.ensures.ok));
}
