-- A size with its sign as a coordinate.
use Rattle.std.proofs.Common.{◌≡◌, ℕ, zero, suc, ◌^◌, ◌<◌, Bool, true, false, List, ℤ, Option, Some, None}
use Rattle.std.proofs.Common.{ap, ◌∙◌, sym, subst, arith}
use lib.Dec.{leb→le}
use Rattle.twkb_points.specs.Point.{IsCoordinate}
use Rattle.twkb_features.specs.Decimal.{IsNearest, FindsSize, FindsUnits, HasSign, IsUnits, above, below, numeral_of}
use Rattle.twkb_features.specs.Decimal.{is_below_zero, signed}
use Rattle.twkb_features.proofs.NearestLemmas.{one_nearest}

-- a size beyond all coordinates is none
no_coordinate : (is_negative : Bool) (size : ℕ) → 2 ^ 62 < size → IsCoordinate (signed is_negative size) → ⊥
no_coordinate false size far h = omega (arith, leb→le size 4611686018427387903 h.1.le)
no_coordinate true zero far h = omega arith
no_coordinate true (suc n) far h = omega (arith, leb→le n 4611686018427387903 h.0.le)

-- the coordinate of a size
pub units_found : (precision : ℤ) (text : List ℕ) (size : ℕ) (o : Option ℤ)
    → IsNearest (above precision (numeral_of text)) (below precision (numeral_of text)) size
    → HasSign (is_below_zero text) size o → FindsUnits precision text o
units_found precision text size (Some units) near h =
    record { size = size; nearest = near; units_are = h.0; in_range = h.1 }
units_found precision text size None near h = λ units is.
    h (subst IsCoordinate (is.units_are ∙ ap (signed (is_below_zero text))
    (one_nearest _ _ is.size size is.nearest near))
    is.in_range)

-- no size
pub none_found : (precision : ℤ) (text : List ℕ)
    → FindsSize (above precision (numeral_of text)) (below precision (numeral_of text)) None
    → FindsUnits precision text None
none_found precision text far = λ units is.
    no_coordinate (is_below_zero text) is.size (far is.size is.nearest) (subst IsCoordinate is.units_are is.in_range)

-- a text says one coordinate at most
pub one_coordinate : (precision u v : ℤ) (text : List ℕ) → IsUnits precision text u → IsUnits precision text v → u ≡ v
one_coordinate precision u v text p q =
    p.units_are ∙ ap (signed (is_below_zero text)) (one_nearest _ _ p.size q.size p.nearest q.nearest)
    ∙ sym q.units_are
