use Rattle.std.proofs.Common.{arith, ◌*◌, ◌++◌, ap, ◌∙◌}
use Rattle.twkb_geojson.specs.Coordinate.{fraction_text}
use Rattle.twkb_geojson.proofs.NearLemmas.{six_scale, eight_scale}
use Rattle.twkb_geojson.proofs.near.push_rest.Goals as goal

pub overflow_mul-fraction : goal.overflow_mul-fraction
overflow_mul-fraction c =
    let scaled = six_scale c.args.places c.args.fraction (omega arith) c.requires.below in
    let is = ap (λ n. c.args.fraction * n) c.ten_to.ensures in
    omega (arith, is, scaled.1)

pub push_six-requires-clause-below : goal.push_six-requires-clause-below
push_six-requires-clause-below c =
    let scaled = six_scale c.args.places c.args.fraction (omega arith) c.requires.below in
    let is = ap (λ n. c.args.fraction * n) c.ten_to.ensures in
    omega (arith, is, scaled.1)

pub overflow_mul-fraction-else-places-le6 : goal.overflow_mul-fraction-else-places-le6
overflow_mul-fraction-else-places-le6 c =
    let scaled = eight_scale c.args.places c.args.fraction c.requires.few c.requires.below in
    let is = ap (λ n. c.args.fraction * n) c.ten_to-else-places-le6.ensures in
    omega (arith, is, scaled)

pub push_fraction-requires-clause-below : goal.push_fraction-requires-clause-below
push_fraction-requires-clause-below c =
    let scaled = eight_scale c.args.places c.args.fraction c.requires.few c.requires.below in
    let is = ap (λ n. c.args.fraction * n) c.ten_to-else-places-le6.ensures in
    omega (arith, is, scaled)

pub returns-then-places-le6-clause-appended : goal.returns-then-places-le6-clause-appended
returns-then-places-le6-clause-appended c =
    let scaled = six_scale c.args.places c.args.fraction (omega arith) c.requires.below in
    c.push_six.ensures.appended
    ∙ ap (λ n. c.args.piece.now ++ fraction_text (c.args.fraction * n * 100)) c.ten_to.ensures
    ∙ ap (λ n. c.args.piece.now ++ fraction_text n) scaled.0

pub returns-else-places-le6-clause-appended : goal.returns-else-places-le6-clause-appended
returns-else-places-le6-clause-appended c =
    c.push_fraction.ensures.appended
    ∙ ap (λ n. c.args.piece.now ++ fraction_text (c.args.fraction * n)) c.ten_to-else-places-le6.ensures
