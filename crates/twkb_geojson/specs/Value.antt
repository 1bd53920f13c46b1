-- The JSON value of a geometry, and its text (RFC 7946, section 3.1; RFC 8259).
use Rattle.std.specs.Prelude.{ℕ, ℤ, List, [], ◌∷◌, ◌++◌, map, codes, None, Some}
use Rattle.std.specs.Fmt.{signed_decimal}
use Rattle.json.specs.Json.{Json, number, string, array, object, Items, no_items, item, Members, no_members, member}
use Rattle.json.specs.Value.{items_of}
use Rattle.json.specs.Tree.{json_tokens}
use Rattle.json.specs.Print.{print}
use Rattle.twkb_points.specs.Point.{Point}
use Rattle.twkb_tree.specs.declared.kind.Kind.{Kind}
use Rattle.twkb_tree.specs.Tree.{Ids, Simple, point, line, polygon, multi_point, multi_line, multi_polygon}
use Rattle.twkb_tree.specs.Tree.{Tree, simple, collection, Trees, end, ◌▷◌}
use Rattle.twkb_tree.specs.Rows.{kind_in}
use Rattle.twkb_geojson.specs.Coordinate.{coordinate_text}

-- ==== The JSON value of a geometry.

-- the values of a list as an array
abbrev pub array_of : {A : Type 0} → (A → Json) → List A → Json
array_of value xs = array (items_of (map value xs))

-- a coordinate of this precision
abbrev pub coordinate : ℤ → ℤ → Json
coordinate precision units = number (coordinate_text precision units)

-- the position of a point: the longitude, then the latitude (RFC 7946, section 3.1.1)
abbrev pub position : ℤ → Point → Json
position precision p = array_of (coordinate precision) (p.x ∷ p.y ∷ [])

-- the positions of a line, a ring or a multipoint
abbrev pub positions : ℤ → List Point → Json
positions precision = array_of (position precision)

-- the lists of positions of a polygon or a multilinestring
abbrev pub lists : ℤ → List (List Point) → Json
lists precision = array_of (positions precision)

-- the coordinates of a simple shape; those of an empty point are an empty array
abbrev pub coordinates : ℤ → Simple → Json
coordinates precision (point None) = array no_items
coordinates precision (point (Some p)) = position precision p
coordinates precision (line ps) = positions precision ps
coordinates precision (polygon rings) = lists precision rings
coordinates precision (multi_point ids ps) = positions precision ps
coordinates precision (multi_line ids lines) = lists precision lines
coordinates precision (multi_polygon ids areas) = array_of (lists precision) areas

-- the name of a kind of geometry (RFC 7946, section 1.4); a ring is none
abbrev pub type_name : Kind → List ℕ
type_name Kind.Point = codes "Point"
type_name Kind.Linestring = codes "LineString"
type_name Kind.Polygon = codes "Polygon"
type_name Kind.Ring = []
type_name Kind.MultiPoint = codes "MultiPoint"
type_name Kind.MultiLinestring = codes "MultiLineString"
type_name Kind.MultiPolygon = codes "MultiPolygon"
type_name Kind.Collection = codes "GeometryCollection"

-- the ids of the members of a simple shape
abbrev pub ids_of : Simple → Ids
ids_of (multi_point ids ps) = ids
ids_of (multi_line ids lines) = ids
ids_of (multi_polygon ids areas) = ids
ids_of _ = None

-- the id of a member
abbrev pub id_value : ℤ → Json
id_value id = number (signed_decimal id)

-- the member `ids`, if there are ids, before other members (profile: RFC 7946, section 6.1)
abbrev pub ids_before : Ids → Members → Members
ids_before None others = others
ids_before (Some ids) others = member (codes "ids") (array_of id_value ids) others

-- the name of the last member of an object: that of its coordinates, or of its members
abbrev pub member_name : Kind → List ℕ
member_name Kind.Collection = codes "geometries"
member_name _ = codes "coordinates"

-- an object of this type with these ids and one more member
abbrev pub typed : Kind → Ids → List ℕ → Json → Json
typed kind ids name value =
    object (member (codes "type") (string (type_name kind)) (ids_before ids (member name value no_members)))

-- the object of a geometry
abbrev mutual
  pub value_of : Tree → Json
  value_of (simple precision s) = typed (kind_in s) (ids_of s) (codes "coordinates") (coordinates precision s)
  value_of (collection precision ids gs) = typed Kind.Collection ids (codes "geometries") (array (values_of gs))

  -- the objects of the members of a collection
  pub values_of : Trees → Items
  values_of end = no_items
  values_of (g ▷ gs) = item (value_of g) (values_of gs)

-- ==== The text of a geometry.

-- the text of a value without blanks (RFC 8259)
abbrev pub text_of : Json → List ℕ
text_of value = print (json_tokens value)

-- the text of a geometry (profile: one spelling of each value)
abbrev pub geojson : Tree → List ℕ
geojson g = text_of (value_of g)

-- the line of a geometry, ended by LF
abbrev pub line_of : Tree → List ℕ
line_of g = geojson g ++ 10 ∷ []
