-- The geometry that a JSON value names at a precision (RFC 7946, section 3.1), each coordinate by the exact decimal
-- of its text. Whether it is in range and within limits is said of the geometry.
use Rattle.std.specs.Prelude.{◌≡◌, ℕ, zero, suc, ℤ, pos, negsuc, ◌+◌, ◌*◌, ◌/◌, ◌%◌, ◌^◌, List, [], ◌∷◌, length}
use Rattle.std.specs.Prelude.{codes, Bool, true, false, ◌&&◌, ◌||◌, nat_eq, nat_lt, if◌then◌else◌}
use Rattle.std.specs.Prelude.{Option, None, Some, option_map, option_and_then}
use Rattle.std.specs.List.{find, list_all}
use Rattle.std.specs.Str.{bytes_eq}
use Rattle.json.specs.Json.{Json, number, string, array, object, Items, no_items, item, Members, no_members, member}
use Rattle.twkb_points.specs.Point.{Point, point_at}
use Rattle.twkb_tree.specs.declared.kind.Kind.{Kind}
use Rattle.twkb_tree.specs.Tree.{Ids, Simple, point, line, polygon, multi_point, multi_line, multi_polygon}
use Rattle.twkb_tree.specs.Tree.{Tree, simple, collection, Trees, end, ◌▷◌, count}
use Rattle.twkb_geojson.specs.Coordinate.{spelled_after, places_in}
use Rattle.twkb_geojson.specs.Value.{type_name}

-- ==== The number that a text says (RFC 8259, section 6).

-- an e of either case, which begins an exponent
abbrev pub is_mark : ℕ → Bool
is_mark c = nat_eq c 101 || nat_eq c 69

-- a number's text before its exponent, and after the mark of its exponent
unfoldable pub before_exponent : List ℕ → List ℕ
before_exponent [] = []
before_exponent (c ∷ cs) = if is_mark c then [] else (c ∷ before_exponent cs)

unfoldable pub after_mark : List ℕ → List ℕ
after_mark [] = []
after_mark (c ∷ cs) = if is_mark c then cs else after_mark cs

-- a minus sign comes first
abbrev pub is_negative : List ℕ → Bool
is_negative [] = false
is_negative (c ∷ cs) = nat_eq c 45

-- the number of this size, below 0 or not
abbrev pub signed : Bool → ℕ → ℤ
signed true (suc n) = negsuc n
signed _ n = pos n

-- the whole number that a text of digits spells after a sign, or after none; 0 if there is no digit
abbrev pub whole_of : List ℕ → ℤ
whole_of text = signed (is_negative text) (spelled_after 0 text)

-- the powers of ten by which a number is to be multiplied, and divided, to move its point so many places
abbrev pub places_up : ℤ → ℕ
places_up (pos n) = n
places_up (negsuc n) = 0

abbrev pub places_down : ℤ → ℕ
places_down (pos n) = 0
places_down (negsuc n) = suc n

-- the size of a number in units of this precision is the first of these over the second, exactly
abbrev pub units_above : ℤ → List ℕ → ℕ
units_above precision text = spelled_after 0 (before_exponent text)
    * 10 ^ (places_up precision + places_up (whole_of (after_mark text)))

abbrev pub units_below : ℤ → List ℕ → ℕ
units_below precision text =
    10 ^ (places_down precision + places_down (whole_of (after_mark text)) + places_in (before_exponent text))

-- the whole number that is nearest to a fraction, the greater of two
abbrev pub nearest : ℕ → ℕ → ℕ
nearest above below = (2 * above + below) / (2 * below)

-- The units of this precision that are nearest to the number that a text says, a half away from 0.
unfoldable pub units_said : ℤ → List ℕ → ℤ
units_said precision text =
    signed (is_negative text) (nearest (units_above precision text) (units_below precision text))

-- the whole number that a text says, however it is written: 7, 7.0 or 70e-1
abbrev pub whole_said : Json → Option ℤ
whole_said (number text) =
    if nat_eq (units_above (pos 0) text % units_below (pos 0) text) 0 then Some (units_said (pos 0) text) else None
whole_said _ = None

-- ==== Positions (RFC 7946, section 3.1.1).

-- what the elements of an array name, if each names something
abbrev pub items_named : {A : Type 0} → (Json → Option A) → Items → Option (List A)
items_named named no_items = Some []
items_named named (item j js) =
    option_and_then (λ x. option_map (λ xs. x ∷ xs) (items_named named js)) (named j)

abbrev pub each_named : {A : Type 0} → (Json → Option A) → Json → Option (List A)
each_named named (array js) = items_named named js
each_named named _ = None

-- two numbers: the longitude, then the latitude
abbrev pub position_named : ℤ → Json → Option Point
position_named precision (array (item (number x) (item (number y) no_items))) =
    Some (point_at (units_said precision x) (units_said precision y))
position_named precision _ = None

-- an empty array is the position of an empty point (profile)
abbrev pub point_named : ℤ → Json → Option (Option Point)
point_named precision (array no_items) = Some None
point_named precision value = option_map Some (position_named precision value)

-- ==== Members of objects.

-- how many members have this name
abbrev pub times : List ℕ → Members → ℕ
times name no_members = 0
times name (member key value others) =
    if bytes_eq name key then suc (times name others) else times name others

-- the names that GeoJSON or this profile gives a meaning
abbrev pub own_names : List (List ℕ)
own_names = codes "type" ∷ codes "coordinates" ∷ codes "geometries" ∷ codes "geometry" ∷ codes "features"
    ∷ codes "ids" ∷ []

-- none of these names comes twice (profile: RFC 8259, section 4)
abbrev pub is_once : Members → Bool
is_once ms = list_all (λ name. nat_lt (times name ms) 2) own_names

-- the value of the member of this name, wherever it stands
abbrev pub value_at : List ℕ → Members → Option Json
value_at name no_members = None
value_at name (member key value others) = if bytes_eq name key then Some value else value_at name others

-- a name has as many members in two objects, and the first of them the same value
pub record SameMember (name : List ℕ) (ms ns : Members) : Type 0 where
  pub times : times name ms ≡ times name ns
  pub value : value_at name ms ≡ value_at name ns

-- the kinds of geometries
abbrev pub kinds : List Kind
kinds = Kind.Point ∷ Kind.Linestring ∷ Kind.Polygon ∷ Kind.MultiPoint ∷ Kind.MultiLinestring ∷ Kind.MultiPolygon
    ∷ Kind.Collection ∷ []

-- the kind that a value of "type" names
abbrev pub kind_named : Json → Option Kind
kind_named (string name) = find (λ kind. bytes_eq (type_name kind) name) kinds
kind_named _ = None

-- ids for so many members: one for each, or none if there are no members (profile)
abbrev pub ids_for : ℕ → List ℤ → Option Ids
ids_for zero [] = Some None
ids_for n ids = if nat_eq (length ids) n then Some (Some ids) else None

-- the ids of so many members that a value of "ids" names, if there is one
abbrev pub ids_named : ℕ → Option Json → Option Ids
ids_named n None = Some None
ids_named n (Some value) = option_and_then (ids_for n) (each_named whole_said value)

-- ==== Geometries.

-- a shape of members, with their ids
abbrev pub with_ids : {A : Type 0} → (Ids → List A → Simple) → Option Json → Option (List A) → Option Simple
with_ids shape ids named = option_and_then (λ xs. option_map (λ i. shape i xs) (ids_named (length xs) ids)) named

-- the simple shape of this kind that a value of "coordinates" names, and one of "ids" if there is one
abbrev pub shape_named : ℤ → Kind → Option Json → Json → Option Simple
shape_named p Kind.Point ids value = option_map point (point_named p value)
shape_named p Kind.Linestring ids value = option_map line (each_named (position_named p) value)
shape_named p Kind.Polygon ids value = option_map polygon (each_named (each_named (position_named p)) value)
shape_named p Kind.MultiPoint ids value = with_ids multi_point ids (each_named (position_named p) value)
shape_named p Kind.MultiLinestring ids value =
    with_ids multi_line ids (each_named (each_named (position_named p)) value)
shape_named p Kind.MultiPolygon ids value =
    with_ids multi_polygon ids (each_named (each_named (each_named (position_named p))) value)
shape_named p _ ids value = None

-- the geometry of this kind, from what its member "geometries" names and from its "ids" and "coordinates"
abbrev pub kind_with : ℤ → Option Trees → Option Json → Option Json → Kind → Option Tree
kind_with p geometries ids coordinates Kind.Collection =
    option_and_then (λ gs. option_map (λ own. collection p own gs) (ids_named (count gs) ids)) geometries
kind_with p geometries ids coordinates kind =
    option_map (simple p) (option_and_then (shape_named p kind ids) coordinates)

-- the geometry that a value names at a precision: each member of a collection has that precision too
abbrev mutual
  pub geometry_named : ℤ → Json → Option Tree
  geometry_named p (object ms) = if is_once ms then option_and_then
      (kind_with p (collected p ms) (value_at (codes "ids") ms) (value_at (codes "coordinates") ms))
      (option_and_then kind_named (value_at (codes "type") ms)) else None
  geometry_named p _ = None

  -- what the member "geometries" names, wherever it stands
  pub collected : ℤ → Members → Option Trees
  collected p no_members = None
  collected p (member key value others) =
      if bytes_eq (codes "geometries") key then geometries_named p value else collected p others

  pub geometries_named : ℤ → Json → Option Trees
  geometries_named p (array js) = all_named p js
  geometries_named p _ = None

  pub all_named : ℤ → Items → Option Trees
  all_named p no_items = Some end
  all_named p (item j js) =
      option_and_then (λ g. option_map (λ gs. g ▷ gs) (all_named p js)) (geometry_named p j)

-- ==== Features (RFC 7946, sections 3.2 and 3.3).

-- the object is of this type
abbrev pub is_of_type : List ℕ → Members → Bool
is_of_type name ms = is_string (value_at (codes "type") ms)
  where
    is_string : Option Json → Bool
    is_string (Some (string other)) = bytes_eq name other
    is_string _ = false

-- the geometry of a feature
abbrev pub feature_named : ℤ → Json → Option Tree
feature_named p (object ms) = if is_once ms && is_of_type (codes "Feature") ms
    then option_and_then (geometry_named p) (value_at (codes "geometry") ms) else None
feature_named p _ = None

-- the geometries of the features of a collection
abbrev pub features_named : ℤ → Json → Option (List Tree)
features_named p (object ms) = if is_once ms && is_of_type (codes "FeatureCollection") ms
    then option_and_then (each_named (feature_named p)) (value_at (codes "features") ms) else None
features_named p _ = None
