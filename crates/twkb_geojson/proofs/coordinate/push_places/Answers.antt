use Rattle.std.proofs.Common.{ℕ, arith, ◌≡◌, ◌*◌, ◌/◌, ◌%◌, ◌^◌, ◌-◌, ap, ◌∙◌}
use Rattle.twkb_geojson.proofs.DigitLemmas.{ten_pow}
use Rattle.twkb_geojson.proofs.SizeLemmas.{fraction_below, places_put}
use Rattle.twkb_geojson.proofs.coordinate.push_places.Goals as goal

pub split-whole-requires : goal.split-whole-requires
split-whole-requires c = omega (arith, c.ten_to-scale.ensures, ten_pow c.args.places)

-- the fraction in parts of 10 ^ -8
rest_is : (rest power : ℕ) (size scale p : ℕ) → rest ≡ size % scale → scale ≡ 10 ^ p → power ≡ 10 ^ (8 - p)
    → rest * power ≡ size % 10 ^ p * 10 ^ (8 - p)
rest_is rest power size scale p is_rest is_scale is_power =
    ap (λ n. rest * n) is_power ∙ ap (λ n. n * 10 ^ (8 - p)) (is_rest ∙ ap (λ n. size % n) is_scale)

pub overflow_mul-fraction : goal.overflow_mul-fraction
overflow_mul-fraction c =
    let is = rest_is _ _ c.args.size _ c.args.places c.split-whole.ensures.rest
    c.ten_to-scale.ensures c.ten_to.ensures in
    omega (arith, is, fraction_below c.args.places c.args.size c.requires.few)

pub push_fraction-requires-clause-below : goal.push_fraction-requires-clause-below
push_fraction-requires-clause-below c =
    let is = rest_is _ _ c.args.size _ c.args.places c.split-whole.ensures.rest
    c.ten_to-scale.ensures c.ten_to.ensures in
    omega (arith, is, fraction_below c.args.places c.args.size c.requires.few)

pub returns-clause-appended : goal.returns-clause-appended
returns-clause-appended c =
    places_put c.args.places c.args.size c.split-whole.result.0 (c.split-whole.result.1 * c.ten_to.result)
    _ _ _ c.requires.few
    (c.split-whole.ensures.whole ∙ ap (λ n. c.args.size / n) c.ten_to-scale.ensures)
    (rest_is _ _ c.args.size _ c.args.places c.split-whole.ensures.rest c.ten_to-scale.ensures c.ten_to.ensures)
    c.push_whole.ensures.appended c.push_fraction.ensures.appended
