use Rattle.std.proofs.Common.{arith, ◌*◌, ◌/◌, ◌%◌, ◌^◌, ◌-◌, ap, ◌∙◌}
use Rattle.twkb_geojson.proofs.DigitLemmas.{ten_pow}
use Rattle.twkb_geojson.proofs.SizeLemmas.{places_put}
use Rattle.twkb_geojson.proofs.NearLemmas.{rest_below, near_whole}
use Rattle.twkb_geojson.proofs.near.push_near_size.Goals as goal

pub split-whole-requires : goal.split-whole-requires
split-whole-requires c = omega (arith, c.ten_to.ensures, ten_pow c.args.places)

pub overflow_cast-whole : goal.overflow_cast-whole
overflow_cast-whole c =
    let below = near_whole c.args.places c.args.size _ c.requires.near c.ten_to.ensures in
    omega (arith, below, c.split-whole.ensures.whole)

pub push_hundreds-requires-clause-below : goal.push_hundreds-requires-clause-below
push_hundreds-requires-clause-below c =
    let below = near_whole c.args.places c.args.size _ c.requires.near c.ten_to.ensures in
    omega (arith, below, c.split-whole.ensures.whole)

pub push_rest-requires-clause-below : goal.push_rest-requires-clause-below
push_rest-requires-clause-below c =
    rest_below c.args.places c.args.size _ _ c.split-whole.ensures.rest c.ten_to.ensures

pub returns-clause-appended : goal.returns-clause-appended
returns-clause-appended c =
    places_put c.args.places c.args.size c.split-whole.result.0 (c.split-whole.result.1 * 10 ^ (8 - c.args.places))
    _ _ _ c.requires.few
    (c.split-whole.ensures.whole ∙ ap (λ n. c.args.size / n) c.ten_to.ensures)
    (ap (λ n. n * 10 ^ (8 - c.args.places)) (c.split-whole.ensures.rest
    ∙ ap (λ n. c.args.size % n) c.ten_to.ensures))
    c.push_hundreds.ensures.appended c.push_rest.ensures.appended
