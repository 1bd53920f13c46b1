use Rattle.std.proofs.Common.{◌≡◌, ◌+◌, ◌*◌, ◌^◌, ◌<◌, ◌++◌, List}
use Rattle.std.proofs.Common.{ℕ, min, take_all, arith, ap, ◌∙◌, length, length-append}
use Rattle.std.specs.Str.Parse.{digits_value}
use Rattle.twkb_features.proofs.NearestLemmas.{itself}
use Rattle.twkb_features.proofs.LongLemmas.{far_raised, raised_low, raised_same}
use Rattle.twkb_features.proofs.long_decimal.raised_size.Goals as goal

pub returns-then-zeros-gt18 : goal.returns-then-zeros-gt18
returns-then-zeros-gt18 c z e whole near =
    let ds : List ℕ = c.args.whole.now ++ c.args.fraction.now in
    let count = length-append c.args.whole.now c.args.fraction.now in
    let size_is : c.leading-size.result ≡ min (digits_value 10 ds) (2 ^ 62 + 1) =
    c.leading-size.ensures ∙ ap (λ l. min (digits_value 10 l) (2 ^ 62 + 1))
    (take_all (length c.args.whole.now + length c.args.fraction.now) ds (omega (arith, count))) in
    let some : 0 < digits_value 10 ds = omega (arith, size_is) in
    far_raised (digits_value 10 ds) z some (omega (arith, e)) whole near

pub returns : goal.returns
returns c z e =
    let ds : List ℕ = c.args.whole.now ++ c.args.fraction.now in
    let count = length-append c.args.whole.now c.args.fraction.now in
    let size : ℕ = c.leading-size.result in
    let size_is : c.leading-size.result ≡ min (digits_value 10 ds) (2 ^ 62 + 1) =
    c.leading-size.ensures ∙ ap (λ l. min (digits_value 10 l) (2 ^ 62 + 1))
    (take_all (length c.args.whole.now + length c.args.fraction.now) ds (omega (arith, count))) in
    let all : c.args.zeros ≡ z = omega (arith, e) in
    let product : size * c.from.result ≡ size * 10 ^ z =
    ap (λ n. size * n) (c.from.ensures ∙ c.ten_to.ensures ∙ ap (λ k. 10 ^ k) all) in
    c.size_in_range.ensures (digits_value 10 ds * 10 ^ z) 1 (digits_value 10 ds * 10 ^ z)
    (omega (arith, product, raised_low (digits_value 10 ds) size z size_is))
    (λ h. product ∙ raised_same (digits_value 10 ds) size z size_is (omega (arith, h, product)))
    (itself (digits_value 10 ds * 10 ^ z))
