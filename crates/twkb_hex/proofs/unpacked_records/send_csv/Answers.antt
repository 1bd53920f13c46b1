use Rattle.std.proofs.Common.{rules, ap, Err}
use Rattle.std.proofs.lemmas.Result.{err_from_is_err_and}
use Rattle.twkb_hex.specs.Fields.{Unpacked}
use Rattle.twkb_hex.proofs.SendingLemmas.{header_cut, header_sent, misses_header}
use Rattle.twkb_hex.proofs.unpacked_records.send_csv.Goals as goal

pub returns-in_err-place : goal.returns-in_err-place
returns-in_err-place g c =
    let p = err_from_is_err_and c.from_residual.result c.from_residual.ensures.1 in
    rw (p.1, p.2, c.requires.none) (record {
      sends = λ told given. misses_header (Unpacked c.args.unpacking.now c.args.limits.now) g.R.Read.remaining
          g.W.Write.contents told _ _ given c.requires.fresh _ _ c.in_err-place.ensures.err;
    })

pub returns-in_err-put : goal.returns-in_err-put
returns-in_err-put g c =
    let p = err_from_is_err_and c.from_residual-in_err-put.result c.from_residual-in_err-put.ensures.1 in
    rw (p.1, p.2, c.requires.none) (record {
      sends = λ told given. header_cut (Unpacked c.args.unpacking.now c.args.limits.now) g.R.Read.remaining
          g.W.Write.contents told _ _ given c.requires.fresh c.in_ok-place.ensures.ok _ (search rules)
          c.in_err-put.ensures.cut (λ far. (c.in_err-put.ensures.untouched (ap (λ f. Err f) far)).1);
    })

pub returns : goal.returns
returns g c = record {
  sends = λ told given. c.send_rows.ensures.sends told _
      (header_sent (Unpacked c.args.unpacking.now c.args.limits.now) g.R.Read.remaining g.W.Write.contents told _ _
      given c.requires.fresh c.in_ok-place.ensures.ok _ (search rules) c.in_ok-put.ensures.ok _ _
      c.len-width.ensures (search rules));
}
