-- The words of a table for the kinds of rows (profile).
use Rattle.std.specs.Prelude.{ℕ, List, codes}
use Rattle.twkb_tree.specs.declared.kind.Kind.{Kind}
use Rattle.twkb_tree.specs.declared.kind.Kind.TheVariants.{Point, Linestring, Polygon, Ring}
use Rattle.twkb_tree.specs.declared.kind.Kind.TheVariants.{MultiPoint, MultiLinestring}
use Rattle.twkb_tree.specs.declared.kind.Kind.TheVariants.{MultiPolygon, Collection}

-- the ASCII word of a kind
abbrev pub word_of : Kind → List ℕ
word_of Point = codes "point"
word_of Linestring = codes "linestring"
word_of Polygon = codes "polygon"
word_of Ring = codes "ring"
word_of MultiPoint = codes "multipoint"
word_of MultiLinestring = codes "multilinestring"
word_of MultiPolygon = codes "multipolygon"
word_of Collection = codes "collection"
