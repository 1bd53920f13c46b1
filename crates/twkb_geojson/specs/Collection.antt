-- One FeatureCollection of geometries: its JSON value (RFC 7946, section 3.3), and its text in lines.
use Rattle.std.specs.Prelude.{ℕ, List, [], ◌∷◌, ◌++◌, map, flat_map, codes}
use Rattle.json.specs.Json.{Json, string, array, object, no_members, member}
use Rattle.json.specs.Value.{items_of}
use Rattle.twkb_tree.specs.Tree.{Tree}
use Rattle.twkb_geojson.specs.Value.{value_of, geojson, array_of}

-- ==== The JSON value of a collection.

-- the feature of a geometry: it has no properties (RFC 7946, section 3.2)
abbrev pub feature_value : Tree → Json
feature_value g = object (member (codes "type") (string (codes "Feature"))
    (member (codes "properties") (object no_members) (member (codes "geometry") (value_of g) no_members)))

-- the collection of the features of these geometries
abbrev pub collection_value : List Tree → Json
collection_value gs = object (member (codes "type") (string (codes "FeatureCollection"))
    (member (codes "features") (array_of feature_value gs) no_members))

-- ==== The text of a collection (profile: a feature in each line).

-- the text of a feature, without blanks
abbrev pub feature_text : Tree → List ℕ
feature_text g = codes "{\"type\":\"Feature\",\"properties\":{},\"geometry\":" ++ (geojson g ++ 125 ∷ [])

-- features, each in a line after a comma
abbrev pub later_features : List Tree → List ℕ
later_features gs = flat_map (λ g. 44 ∷ 10 ∷ feature_text g) gs

-- features, each in a line, with a comma between two
abbrev pub feature_lines : List Tree → List ℕ
feature_lines [] = []
feature_lines (g ∷ gs) = (10 ∷ feature_text g) ++ later_features gs

-- the text before the features
abbrev pub opening_text : List ℕ
opening_text = codes "{\"type\":\"FeatureCollection\",\"features\":["

-- the text after the features: LF, both brackets and LF
abbrev pub closing_text : List ℕ
closing_text = 10 ∷ (codes "]}" ++ 10 ∷ [])

-- the text of a collection up to its closing
abbrev pub features_text : List Tree → List ℕ
features_text gs = opening_text ++ feature_lines gs

-- the text of the collection of the features of these geometries
abbrev pub collection_text : List Tree → List ℕ
collection_text gs = features_text gs ++ closing_text
