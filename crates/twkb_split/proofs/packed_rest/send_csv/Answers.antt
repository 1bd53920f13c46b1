use Rattle.std.proofs.Common.{rules}
use Rattle.std.proofs.lemmas.Result.{err_from_is_err_and}
use Rattle.twkb_split.proofs.SendingLemmas.{header_cut, header_sent, misses_header}
use Rattle.twkb_split.proofs.packed_rest.send_csv.Goals as goal

pub returns-in_err-place : goal.returns-in_err-place
returns-in_err-place g c =
    let p = err_from_is_err_and c.from_residual.result c.from_residual.ensures.1 in
    rw (p.1, p.2, c.requires.none) (record {
      sends = λ told given. misses_header c.args.packing.now g.R.Read.remaining g.W.Write.contents
          g.V.Write.contents told _ _ _ given c.requires.fresh c.requires.rest_fresh _ _ c.in_err-place.ensures.err;
    })

pub returns-in_err-put : goal.returns-in_err-put
returns-in_err-put g c =
    let p = err_from_is_err_and c.from_residual-in_err-put.result c.from_residual-in_err-put.ensures.1 in
    rw (p.1, p.2, c.requires.none) (record {
      sends = λ told given. header_cut c.args.packing.now g.R.Read.remaining g.W.Write.contents
          g.V.Write.contents told _ _ _ given c.requires.fresh c.requires.rest_fresh c.in_ok-place.ensures.ok _
          (search rules) c.in_err-put.ensures.err;
    })

pub returns : goal.returns
returns g c = record {
  sends = λ told given. c.send_rows.ensures.sends told _ _
      (header_sent c.args.packing.now g.R.Read.remaining g.W.Write.contents g.V.Write.contents told _ _ _ given
      c.requires.fresh c.requires.rest_fresh c.in_ok-place.ensures.ok _ (search rules) c.in_ok-put.ensures.ok _ _ _
      c.len-width.ensures (search rules) (search rules));
}
