use Rattle.std.proofs.Common.{◌-◌, arith, refl}
use Rattle.twkb_features.proofs.PlainLemmas.{plain_whole, plain_point}
use Rattle.twkb_features.proofs.decimal.read_plain.Goals as goal

pub returns-then-point-text : goal.returns-then-point-text
returns-then-point-text c =
    let read = c.read_digits-point in
    plain_whole c.args.text.now read.result.0 read.result.1 read.ensures.end (omega arith) (omega arith)
    read.ensures.value read.ensures.few

pub returns : goal.returns
returns c =
    let first = c.read_digits-point in
    let second = c.read_digits-end in
    plain_point c.args.text.now first.result.0 second.result.0 first.result.1 second.result.1
    (second.result.0 - first.result.0 - 1) first.ensures.end (omega arith) second.ensures.end (omega arith)
    second.ensures.after (omega arith) (omega arith) first.ensures.value second.ensures.value second.ensures.few refl
