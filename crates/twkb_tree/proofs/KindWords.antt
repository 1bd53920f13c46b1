-- The word of each kind is valid text.
use Rattle.std.proofs.Common.{refl, codes}
use Rattle.std.specs.Str.{IsUtf8}
use lib.Utf8.{encode}
use Rattle.twkb_tree.specs.Kind.{word_of}
use Rattle.twkb_tree.specs.declared.kind.Kind.{Kind}
use Rattle.twkb_tree.specs.declared.kind.Kind.TheVariants.{Point, Linestring, Polygon, Ring}
use Rattle.twkb_tree.specs.declared.kind.Kind.TheVariants.{MultiPoint, MultiLinestring}
use Rattle.twkb_tree.specs.declared.kind.Kind.TheVariants.{MultiPolygon, Collection}

-- the word of a kind is UTF-8
pub word_is_text : (k : Kind) → IsUtf8 (word_of k)
unfolding encode
word_is_text Point = (codes "point", (refl, refl))
word_is_text Linestring = (codes "linestring", (refl, refl))
word_is_text Polygon = (codes "polygon", (refl, refl))
word_is_text Ring = (codes "ring", (refl, refl))
word_is_text MultiPoint = (codes "multipoint", (refl, refl))
word_is_text MultiLinestring = (codes "multilinestring", (refl, refl))
word_is_text MultiPolygon = (codes "multipolygon", (refl, refl))
word_is_text Collection = (codes "collection", (refl, refl))
