use Rattle.std.proofs.Common.{arith, ◌∙◌, ap, ℕ, ◌+◌, drop, get_or, map, [], ◌∷◌}
use Rattle.std.specs.Prelude.{nat_lt}
use Rattle.std.proofs.lemmas.List.{length-map}
use Rattle.twkb_num.specs.Block.{unzigzagged_bits}
use Rattle.twkb_num.proofs.BlockLemmas.{lanes_read, ends_dropped}
use Rattle.twkb_num.proofs.FoundLemmas.{marks_of, four_found, numbers_small, twice_found, moved_places_below}
use Rattle.twkb_num.proofs.FoundLemmas.{four_places_ok, numbers_found}
use Rattle.twkb_num.proofs.ZigzagLemmas.{form_found}
use Rattle.twkb_num.proofs.four.four_by.Goals as goal

pub overflow_add-low_places : goal.overflow_add-low_places
overflow_add-low_places c =
    let twice = twice_found c.args.bytes.now c.requires.loaded c.requires.ends.are
    c.in_ok-low.ensures c.in_ok-high.ensures in
    record {
      fits = moved_places_below _ c.args.skipped c.from.result _ _ c.from.ensures twice.low
          (omega (arith, twice.window));
    }

pub overflow_add-high_places : goal.overflow_add-high_places
overflow_add-high_places c =
    let twice = twice_found c.args.bytes.now c.requires.loaded c.requires.ends.are
    c.in_ok-low.ensures c.in_ok-high.ensures in
    record {
      fits = moved_places_below _ (c.args.skipped + c.in_ok-low.low.used) c.from-2.result _ _ c.from-2.ensures
          twice.high (omega (arith, twice.window));
    }

pub overflow_add-result : goal.overflow_add-result
overflow_add-result c =
    let twice = twice_found c.args.bytes.now c.requires.loaded c.requires.ends.are
    c.in_ok-low.ensures c.in_ok-high.ensures in
    record { fits = omega (arith, twice.window) }

pub swizzle : goal.swizzle
swizzle c =
    let twice = twice_found c.args.bytes.now c.requires.loaded c.requires.ends.are
    c.in_ok-low.ensures c.in_ok-high.ensures in
    four_places_ok _ c.args.skipped _ _ _ _ _ _ c.from.ensures c.from-2.ensures twice

pub returns-clause-few : goal.returns-clause-few
returns-clause-few c =
    let twice = twice_found c.args.bytes.now c.requires.loaded c.requires.ends.are
    c.in_ok-low.ensures c.in_ok-high.ensures in
    omega (arith, twice.window)

pub returns-clause-rest : goal.returns-clause-rest
returns-clause-rest c =
    let ends = c.requires.ends in
    let twice = twice_found c.args.bytes.now c.requires.loaded ends.are c.in_ok-low.ensures c.in_ok-high.ensures in
    let marks_long = length-map ends.units (λ u. nat_lt u c.args.alphabet.radix) in
    ends_dropped c.args.alphabet.base c.args.alphabet.radix _ (drop c.args.skipped c.args.bytes.now) ends.units
    c.args.ends ends.are (omega (arith, twice.within, marks_long))

pub returns-clause-four : goal.returns-clause-four
returns-clause-four c =
    let radix = c.args.alphabet.radix in
    let skipped = c.args.skipped in
    let ends = c.requires.ends in
    let units = ends.units in
    let marks = marks_of radix units in
    let twice = twice_found c.args.bytes.now c.requires.loaded ends.are c.in_ok-low.ensures c.in_ok-high.ensures in
    let lanes = lanes_read c.args.alphabet.base radix skipped c.args.bytes.now units c.args.ends c.requires.long
    c.type_inv.bytes ends.are in
    let found = numbers_found marks skipped _ _ _ _ _ _ c.from.ensures c.from-2.ensures twice radix _ units
    c.requires.known lanes (length-map units (λ u. nat_lt u radix)) in
    let lane = λ (k : ℕ). ap (λ xs. get_or xs k 0) (c.unzigzagged.ensures
    ∙ ap (map unzigzagged_bits) (c.joined-numbers.ensures ∙ found)) in
    let small = numbers_small radix units marks skipped _ _ _ _ c.requires.known twice in
    let one = form_found _ _ _ _ small.0 (lane 0) c.cast_signed.ensures c.from-3.ensures in
    let two = form_found _ _ _ _ small.1.0 (lane 1) c.cast_signed-2.ensures c.from-4.ensures in
    let three = form_found _ _ _ _ small.1.1.0 (lane 2) c.cast_signed-3.ensures c.from-5.ensures in
    let last = form_found _ _ _ _ small.1.1.1.0 (lane 3) c.cast_signed-4.ensures c.from-6.ensures in
    four_found c.args.alphabet.base radix (drop skipped c.args.bytes.now) units c.args.ends skipped _ _ _ _ _ _ _ _
    c.requires.known ends.are twice (λ i. one i ∷ two i ∷ three i ∷ last i ∷ [])
