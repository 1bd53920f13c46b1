use Rattle.std.proofs.Common.{◌≡◌, true, false, rules, subst}
use Rattle.std.proofs.lemmas.Result.{err_from_is_err_and}
use Rattle.twkb_io.specs.Outputs.{Took}
use Rattle.twkb_convert.proofs.ListingLemmas.{fewer_left, lists_all, lists_cut, lists_none, lists_up_to, sent_first}
use Rattle.twkb_convert.proofs.ListingLemmas.{sent_more}
use Rattle.twkb_convert.proofs.listed_stream.list_blobs.Goals as goal

pub returns-in_err-put : goal.returns-in_err-put
returns-in_err-put g c =
    let p = err_from_is_err_and c.from_residual.result c.from_residual.ensures.1 in
    rw (p.1, p.2) (record {
      lists = lists_none c.requires.none c.requires.nothing c.first_line.ensures.text c.requires.fresh
          c.in_err-put.ensures.cut;
    })

pub loop-output-init : goal.loop-output-init
loop-output-init g c = sent_first c.requires.none c.requires.nothing c.requires.fresh
    (subst (λ text. Took g.W.Write.contents c.args.output.now text c.put.new.self) c.first_line.ensures.text
    c.in_ok-put.ensures.ok)

pub returns-in_err-read_next : goal.returns-in_err-read_next
returns-in_err-read_next g c =
    let p = err_from_is_err_and c.from_residual-in_err-read_next.result c.from_residual-in_err-read_next.ensures.1 in
    rw (p.1, p.2)
    (record { lists = lists_up_to c.loop-output.invariant c.in_err-read_next.ensures.reads })

pub returns-in_err-put-2 : goal.returns-in_err-put-2
returns-in_err-put-2 g c =
    let found : c.in_ok-read_next.field-0 ≡ true = search rules in
    let p = err_from_is_err_and c.from_residual-in_err-put-2.result c.from_residual-in_err-put-2.ensures.1 in
    rw (p.1, p.2) (record {
      lists = lists_cut c.loop-output.invariant c.requires.fresh.unsent
          (rw found at c.in_ok-read_next.ensures.reads)
          (rw c.as_slice.ensures.value at c.in_err-put-2.ensures.cut);
    })

pub loop-output-smaller : goal.loop-output-smaller
loop-output-smaller g c =
    let found : c.in_ok-read_next.field-0 ≡ true = search rules in
    fewer_left (rw found at c.in_ok-read_next.ensures.reads)

pub loop-output-preserved : goal.loop-output-preserved
loop-output-preserved g c =
    let found : c.in_ok-read_next.field-0 ≡ true = search rules in
    rw c.offset.ensures (sent_more c.loop-output.invariant (rw found at c.in_ok-read_next.ensures.reads)
    (rw c.as_slice.ensures.value at c.in_ok-put-2.ensures.ok))

pub returns : goal.returns
returns g c =
    let none : c.in_ok-read_next.field-0 ≡ false = search rules in
    record {
      lists = lists_all c.loop-output.invariant (rw none at c.in_ok-read_next.ensures.reads);
    }
