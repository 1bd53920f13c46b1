use Rattle.std.proofs.Common.{◌≡◌, ◌∙◌, ◌++◌, ◌∷◌, length, take, drop, sym, ap, subst, suc, arith}
use Rattle.std.proofs.Math.Seq.{split_at, take-length}
use Rattle.std.proofs.Math.ListN.{get_or}
use Rattle.twkb_grammar.specs.Fault.{IsTooLong, IsCut}
use Rattle.twkb_body.proofs.InFront.{open_is_cut, refused_is_long}
use Rattle.twkb_body.proofs.numbers.long_number.Goals as goal

pub returns-in-TooLong : goal.returns-in-TooLong
returns-in-TooLong c =
    let bytes = c.args.bytes.now in
    let index = c.loop-index.index in
    let more = get_or bytes index 0 ∷ drop (suc index) bytes in
    let whole = ap (λ l. l ++ more) c.loop-index.invariant ∙ sym (split_at bytes index 0 c.loop-index-test.true) in
    subst IsTooLong whole (refused_is_long c.loop-index.partial _ _ c.len-learnt.ensures.held
    (c.type_inv.bytes index).fits c.in-TooLong.ensures.answer)

pub returns : goal.returns
returns c =
    let bytes = c.args.bytes.now in
    let all : c.loop-index.index ≡ length bytes = omega (arith, c.loop-index-test.false, c.loop-index.auto.index-end) in
    let same = c.loop-index.invariant ∙ (ap (λ k. take k bytes) all ∙ take-length bytes) in
    subst IsCut same (open_is_cut c.loop-index.partial c.len-learnt-2.ensures.held)
