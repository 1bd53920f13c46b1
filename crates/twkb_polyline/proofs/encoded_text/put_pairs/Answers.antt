use Rattle.std.proofs.Common.{[], sym, ap, append-nil, rules}
use Rattle.std.proofs.lemmas.List.{drop_all}
use Rattle.twkb_polyline.specs.Polyline.{points_of}
use Rattle.twkb_polyline.proofs.TextLemmas.{has_put_none, has_put_more, has_put_last, put_behind, left_pair}
use Rattle.twkb_polyline.proofs.encoded_text.put_pairs.Goals as goal

pub loop-pair-init : goal.loop-pair-init
loop-pair-init c =
    let text = c.args.text.now.items in
    rw (c.new-piece.ensures, append-nil text)
    (record {
      put = has_put_none c.args.cursor.now (points_of c.args.pairs.now) text;
      grown = ([], sym (append-nil text));
    })

pub loop-pair-preserved : goal.loop-pair-preserved
loop-pair-preserved c =
    let pairs = c.args.pairs.now in
    let old = c.args.text.now.items in
    let text = c.loop-pair.text.items in
    let i = c.loop-pair.pair-index in
    let left = left_pair pairs i c.pair-item.result c.loop-pair-test.true c.pair-item.is in
    let grown = c.loop-pair.invariant.grown in
    let more = c.in_ok-push_pair.ensures.grown in
    record {
      put = has_put_more c.pair-item.result (rw left at c.loop-pair.invariant.put) c.in_ok-push_pair.ensures.moved
          c.in_ok-push_pair.ensures.appended;
      grown = (_, put_behind old grown.0 more.0 text c.push_pair.new.text.items grown.1 more.1);
    }

pub returns-clause-moved : goal.returns-clause-moved
returns-clause-moved c =
    let pairs = c.args.pairs.now in
    let none = ap points_of (drop_all c.loop-pair.pair-index pairs c.loop-pair-test.false) in
    let last = has_put_last c.loop-pair.invariant.put none in
    search rules
