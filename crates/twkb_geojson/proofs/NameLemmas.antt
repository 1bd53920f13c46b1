-- What an object names, by the names of its members alone.
use Rattle.std.proofs.Common.{◌≡◌, ℕ, ℤ, List, [], ◌∷◌, refl, ap, ◌∙◌, sym, Some, None, Bool, true, false, ◌&&◌}
use Rattle.std.specs.Prelude.{Option, option_and_then, codes, nat_lt, if◌then◌else◌}
use Rattle.std.specs.List.{AllByRecursion, list_all}
use Rattle.std.specs.Str.{bytes_eq}
use Rattle.json.specs.Json.{Json, object, Members, no_members, member}
use Rattle.twkb_tree.specs.Tree.{Tree}
use Rattle.twkb_geojson.specs.Reading.{times, own_names, is_once, value_at, SameMember, kind_named, kind_with}
use Rattle.twkb_geojson.specs.Reading.{geometry_named, collected, geometries_named}

-- what a member "geometries" names is what its value names
collected_at : (p : ℤ) (ms : Members)
    → collected p ms ≡ option_and_then (geometries_named p) (value_at (codes "geometries") ms)
collected_at p no_members = refl
collected_at p (member key value others) = chosen (bytes_eq (codes "geometries") key) (collected_at p others)
  where
    chosen : (b : Bool)
        → collected p others ≡ option_and_then (geometries_named p) (value_at (codes "geometries") others)
        → (if b then geometries_named p value else collected p others)
        ≡ option_and_then (geometries_named p) (if b then Some value else value_at (codes "geometries") others)
    chosen true ih = refl
    chosen false ih = ih

abbrev from_parts : ℤ → Bool → Option Json → Option Json → Option Json → Option Json → Option Tree
from_parts p once type coordinates geometries ids = if once then option_and_then
    (kind_with p (option_and_then (geometries_named p) geometries) ids coordinates)
    (option_and_then kind_named type) else None

parts_of : (p : ℤ) (ms : Members) → geometry_named p (object ms) ≡ from_parts p (is_once ms)
    (value_at (codes "type") ms) (value_at (codes "coordinates") ms)
    (value_at (codes "geometries") ms) (value_at (codes "ids") ms)
parts_of p ms = ap (λ gs. if is_once ms then option_and_then
    (kind_with p gs (value_at (codes "ids") ms) (value_at (codes "coordinates") ms))
    (option_and_then kind_named (value_at (codes "type") ms)) else None) (collected_at p ms)

once_same : (ms ns : Members) (names : List (List ℕ)) → AllByRecursion (λ name. SameMember name ms ns) names
    → list_all (λ name. nat_lt (times name ms) 2) names ≡ list_all (λ name. nat_lt (times name ns) 2) names
once_same ms ns [] same = refl
once_same ms ns (name ∷ names) same =
    ap (λ n. nat_lt n 2 && list_all (λ name. nat_lt (times name ms) 2) names) same.0.times
    ∙ ap (λ b. nat_lt (times name ns) 2 && b) (once_same ms ns names same.1)

-- An object names the same, whatever the order of its members and whatever other members it has.
pub by_name : (p : ℤ) (ms ns : Members) → AllByRecursion (λ name. SameMember name ms ns) own_names
    → geometry_named p (object ms) ≡ geometry_named p (object ns)
by_name p ms ns same =
    let type = same.0 in
    let coordinates = same.1.0 in
    let geometries = same.1.1.0 in
    let ids = same.1.1.1.1.1.0 in
    parts_of p ms
    ∙ ap (λ b. from_parts p b (value_at (codes "type") ms) (value_at (codes "coordinates") ms)
    (value_at (codes "geometries") ms) (value_at (codes "ids") ms)) (once_same ms ns own_names same)
    ∙ ap (λ o. from_parts p (is_once ns) o (value_at (codes "coordinates") ms)
    (value_at (codes "geometries") ms) (value_at (codes "ids") ms)) type.value
    ∙ ap (λ o. from_parts p (is_once ns) (value_at (codes "type") ns) o
    (value_at (codes "geometries") ms) (value_at (codes "ids") ms)) coordinates.value
    ∙ ap (λ o. from_parts p (is_once ns) (value_at (codes "type") ns) (value_at (codes "coordinates") ns)
    o (value_at (codes "ids") ms)) geometries.value
    ∙ ap (λ o. from_parts p (is_once ns) (value_at (codes "type") ns) (value_at (codes "coordinates") ns)
    (value_at (codes "geometries") ns) o) ids.value
    ∙ sym (parts_of p ns)
