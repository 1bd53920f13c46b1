use Rattle.std.proofs.Common.{◌≡◌, ◌-◌, ◌*◌, ◌^◌, arith, ap}
use Rattle.twkb_features.proofs.NearestLemmas.{ten_pow}
use Rattle.twkb_features.proofs.PlainLemmas.{raise_fits, raised, cut_off}
use Rattle.twkb_features.proofs.decimal.scaled.Goals as goal

pub overflow_mul-result : goal.overflow_mul-result
overflow_mul-result c =
    let product : c.args.digits * c.ten_to.result ≡ c.args.digits * 10 ^ (c.args.precision - c.args.places) =
    ap (λ n. c.args.digits * n) c.ten_to.ensures in
    omega (
      arith,
      product,
      raise_fits c.args.digits c.args.places c.args.precision c.requires.few
          c.if-places-precision.true c.requires.known,
    )

pub returns-then-places-precision : goal.returns-then-places-precision
returns-then-places-precision c =
    rw c.ten_to.ensures (raised c.args.digits c.args.places c.args.precision c.if-places-precision.true)

pub nonzero_div-result-2 : goal.nonzero_div-result-2
nonzero_div-result-2 c = rw c.ten_to-part.ensures (ten_pow (c.args.places - c.args.precision))

pub returns : goal.returns
returns c =
    rw c.ten_to-part.ensures (cut_off c.args.digits c.args.places c.args.precision c.if-places-precision.false)
