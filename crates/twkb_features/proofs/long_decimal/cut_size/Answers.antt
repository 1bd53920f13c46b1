use Rattle.std.proofs.Common.{◌+◌, ◌-◌, ◌^◌, ◌++◌, List, ℕ, take, arith, subst, length, length-append}
use Rattle.std.specs.Str.Parse.{digits_value}
use Rattle.twkb_features.specs.Decimal.{IsNearest}
use Rattle.twkb_features.proofs.LongLemmas.{cut}
use Rattle.twkb_features.proofs.long_decimal.cut_size.Goals as goal

pub returns : goal.returns
returns c =
    let ds : List ℕ = c.args.whole.now ++ c.args.fraction.now in
    let count = length-append c.args.whole.now c.args.fraction.now in
    let up : ℕ = c.rounded_up.result in
    let kept : ℕ = c.args.kept in
    let near = subst (λ k. IsNearest (digits_value 10 ds) (10 ^ (k - kept)) (digits_value 10 (take kept ds) + up)) count
    (cut ds kept up c.requires.digits (omega (arith, count))
    (λ h. c.rounded_up.ensures.up (omega (arith, h, c.digit_at.ensures)))
    (λ h. c.rounded_up.ensures.down (omega (arith, h, c.digit_at.ensures)))) in
    c.size_in_range.ensures (digits_value 10 ds) (10 ^ (length c.args.whole.now + length c.args.fraction.now - kept))
    (digits_value 10 (take kept ds) + up) (omega (arith, c.leading-size.ensures))
    (λ h. omega (arith, h, c.leading-size.ensures)) near
