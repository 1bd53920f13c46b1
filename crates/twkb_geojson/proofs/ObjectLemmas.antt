-- The texts of the objects of geometries.
use Rattle.std.proofs.Common.{◌≡◌, ℕ, List, [], ◌∷◌, ◌++◌, refl, ap, ◌∙◌, sym, append_assoc, None, Some}
use Rattle.std.proofs.Common.{ℤ}
use Rattle.std.specs.Prelude.{codes, false}
use Rattle.json.specs.Token.{Token}
use Rattle.json.specs.Json.{Json, array, no_items}
use Rattle.json.specs.Tree.{json_tokens}
use Rattle.std.specs.Prelude.{Result, OnOk}
use Rattle.std.proofs.lemmas.Result.{on_ok_weaker}
use Rattle.json.specs.Print.{print_from, escape_byte, escape}
use Rattle.twkb_tree.specs.declared.kind.Kind.{Kind}
use Rattle.twkb_points.specs.Point.{Point}
use Rattle.twkb_tree.specs.Tree.{Ids, Tree, simple, point, collection, trees, precision_of}
use Rattle.twkb_tree.specs.Shape.{tree_of}
use Rattle.twkb_tree.specs.declared.geometry.Shape.{Shape}
use Rattle.twkb_geojson.specs.Value.{text_of, array_of, position, id_value, type_name, member_name, typed, geojson}
use Rattle.twkb_geojson.specs.Value.{value_of}
use Rattle.twkb_geojson.specs.Text.{start_text}
use Rattle.twkb_geojson.proofs.PrintLemmas.{value_then}
use Rattle.twkb_geojson.proofs.ListLemmas.{members_value}

-- no name has a character that is escaped
quoted_type : (kind : Kind) → escape (type_name kind) ≡ type_name kind
unfolding escape_byte
quoted_type Kind.Point = refl
quoted_type Kind.Linestring = refl
quoted_type Kind.Polygon = refl
quoted_type Kind.Ring = refl
quoted_type Kind.MultiPoint = refl
quoted_type Kind.MultiLinestring = refl
quoted_type Kind.MultiPolygon = refl
quoted_type Kind.Collection = refl

quoted_name : (kind : Kind) → escape (member_name kind) ≡ member_name kind
unfolding escape_byte
quoted_name Kind.Point = refl
quoted_name Kind.Linestring = refl
quoted_name Kind.Polygon = refl
quoted_name Kind.Ring = refl
quoted_name Kind.MultiPoint = refl
quoted_name Kind.MultiLinestring = refl
quoted_name Kind.MultiPolygon = refl
quoted_name Kind.Collection = refl

-- the parts of an object without ids, and of one with ids, joined otherwise
plain_joined : (t n v : List ℕ)
    → codes "{\"type\":\"" ++ ((t ++ 34 ∷ []) ++ (44 ∷ 34 ∷ (((n ++ 34 ∷ []) ++ 58 ∷ []) ++ v)))
    ≡ (((codes "{\"type\":\"" ++ (t ++ codes "\",")) ++ []) ++ (34 ∷ (n ++ 34 ∷ 58 ∷ []))) ++ v
plain_joined t n v = simp append_assoc refl

named_joined : (t n a v : List ℕ)
    → codes "{\"type\":\"" ++ ((t ++ 34 ∷ []) ++ (codes ",\"ids\":"
    ++ (a ++ (44 ∷ 34 ∷ (((n ++ 34 ∷ []) ++ 58 ∷ []) ++ v)))))
    ≡ (((codes "{\"type\":\"" ++ (t ++ codes "\",")) ++ (codes "\"ids\":" ++ (a ++ 44 ∷ [])))
    ++ (34 ∷ (n ++ 34 ∷ 58 ∷ []))) ++ v
named_joined t n a v = simp append_assoc refl

-- the text of the object of a geometry
pub typed_text : (kind : Kind) (ids : Ids) (value : Json)
    → text_of (typed kind ids (member_name kind) value) ≡ start_text kind ids ++ (text_of value ++ 125 ∷ [])
unfolding print_from escape_byte
typed_text kind None value =
    let t : List ℕ = type_name kind in
    let n : List ℕ = member_name kind in
    let v : List ℕ = text_of value ++ 125 ∷ [] in
    ap (λ l. codes "{\"type\":\"" ++ ((escape t ++ 34 ∷ []) ++ (44 ∷ 34 ∷ (((escape n ++ 34 ∷ []) ++ 58 ∷ []) ++ l))))
    (value_then false value (Token.end_object ∷ []))
    ∙ ap (λ q. codes "{\"type\":\"" ++ ((q ++ 34 ∷ []) ++ (44 ∷ 34 ∷ (((escape n ++ 34 ∷ []) ++ 58 ∷ []) ++ v))))
    (quoted_type kind)
    ∙ ap (λ q. codes "{\"type\":\"" ++ ((t ++ 34 ∷ []) ++ (44 ∷ 34 ∷ (((q ++ 34 ∷ []) ++ 58 ∷ []) ++ v))))
    (quoted_name kind)
    ∙ plain_joined t n v
typed_text kind (Some ids) value =
    let t : List ℕ = type_name kind in
    let n : List ℕ = member_name kind in
    let a : List ℕ = text_of (array_of id_value ids) in
    let v : List ℕ = text_of value ++ 125 ∷ [] in
    ap (λ l. codes "{\"type\":\"" ++ ((escape t ++ 34 ∷ []) ++ (codes ",\"ids\":" ++ l)))
    (value_then false (array_of id_value ids) (Token.key (member_name kind) ∷
    (json_tokens value ++ Token.end_object ∷ [])))
    ∙ ap (λ l. codes "{\"type\":\"" ++ ((escape t ++ 34 ∷ []) ++ (codes ",\"ids\":"
    ++ (a ++ (44 ∷ 34 ∷ (((escape n ++ 34 ∷ []) ++ 58 ∷ []) ++ l))))))
    (value_then false value (Token.end_object ∷ []))
    ∙ ap (λ q. codes "{\"type\":\"" ++ ((q ++ 34 ∷ []) ++ (codes ",\"ids\":"
    ++ (a ++ (44 ∷ 34 ∷ (((escape n ++ 34 ∷ []) ++ 58 ∷ []) ++ v)))))) (quoted_type kind)
    ∙ ap (λ q. codes "{\"type\":\"" ++ ((t ++ 34 ∷ []) ++ (codes ",\"ids\":"
    ++ (a ++ (44 ∷ 34 ∷ (((q ++ 34 ∷ []) ++ 58 ∷ []) ++ v)))))) (quoted_name kind)
    ∙ named_joined t n a v

-- an object as the code appends it
pub object_put : (kind : Kind) (ids : Ids) (value : Json) (old a b new : List ℕ) → a ≡ old ++ start_text kind ids
    → b ≡ a ++ text_of value → new ≡ b ++ 125 ∷ [] → new ≡ old ++ text_of (typed kind ids (member_name kind) value)
object_put kind ids value old a b new start put close =
    close ∙ ap (λ l. l ++ 125 ∷ []) (put ∙ ap (λ l. l ++ text_of value) start)
    ∙ append_assoc (old ++ start_text kind ids) (text_of value) (125 ∷ [])
    ∙ append_assoc old (start_text kind ids) (text_of value ++ 125 ∷ [])
    ∙ ap (λ l. old ++ l) (sym (typed_text kind ids value))

-- an object whose last brackets are appended together
pub closed_put : (kind : Kind) (ids : Ids) (value : Json) (old a b new : List ℕ) → a ≡ old ++ start_text kind ids
    → b ++ 93 ∷ [] ≡ a ++ text_of value → new ≡ b ++ 93 ∷ 125 ∷ []
    → new ≡ old ++ text_of (typed kind ids (member_name kind) value)
closed_put kind ids value old a b new start put close =
    object_put kind ids value old a (b ++ 93 ∷ []) new start put (close ∙ sym (append_assoc b (93 ∷ []) (125 ∷ [])))

-- an empty point
pub empty_put : (p : ℤ) (old a new : List ℕ) → a ≡ old ++ start_text Kind.Point None
    → new ≡ a ++ 91 ∷ 93 ∷ 125 ∷ [] → new ≡ old ++ geojson (simple p (point None))
unfolding print_from
empty_put p old a new start put =
    object_put Kind.Point None (array no_items) old a (a ++ 91 ∷ 93 ∷ []) new start refl
    (put ∙ sym (append_assoc a (91 ∷ 93 ∷ []) (125 ∷ [])))

-- a point, gathered on its way to the text
pub point_put : (p : ℤ) (q : Point) (old a none gathered closed new : List ℕ) → a ≡ old ++ start_text Kind.Point None
    → none ≡ [] → gathered ≡ none ++ text_of (position p q) → closed ≡ gathered ++ 125 ∷ [] → new ≡ a ++ closed
    → new ≡ old ++ geojson (simple p (point (Some q)))
point_put p q old a none gathered closed new start empty put close moved =
    object_put Kind.Point None (position p q) old a (a ++ text_of (position p q)) new start refl
    (moved ∙ ap (λ l. a ++ l) (close ∙ ap (λ l. l ++ 125 ∷ []) (put ∙ ap (λ l. l ++ text_of (position p q)) empty))
    ∙ sym (append_assoc a (text_of (position p q)) (125 ∷ [])))

-- the text of a geometry by its shape
pub of_shape : (g : Tree) (p : ℤ) (shape s : Shape) (old new : List ℕ) → tree_of (precision_of g) shape ≡ g
    → p ≡ precision_of g → shape ≡ s → new ≡ old ++ geojson (tree_of p s) → new ≡ old ++ geojson g
of_shape g p shape s old new is precise same put =
    put ∙ ap (λ q. old ++ geojson (tree_of q s)) precise
    ∙ ap (λ z. old ++ geojson (tree_of (precision_of g) z)) (sym same) ∙ ap (λ h. old ++ geojson h) is

-- the text of a geometry, as the result of a call of its shape's writer says it
pub shape_put : {T E : Type 0} (result : Result T E) (g : Tree) (p : ℤ) (shape s : Shape) (h : Tree)
    (old new : List ℕ) → tree_of (precision_of g) shape ≡ g → p ≡ precision_of g → shape ≡ s → h ≡ tree_of p s
    → OnOk result (new ≡ old ++ geojson h) → OnOk result (new ≡ old ++ geojson g)
shape_put result g p shape s h old new is precise same made put =
    on_ok_weaker result (λ (e : new ≡ old ++ geojson h). of_shape g p shape s old new is precise same
    (e ∙ ap (λ (t : Tree). old ++ geojson t) made)) put

-- the same of a writer that takes no precision
pub any_put : {T E : Type 0} (result : Result T E) (g : Tree) (p : ℤ) (shape s : Shape) (f : ℤ → Tree)
    (old new : List ℕ) → tree_of (precision_of g) shape ≡ g → p ≡ precision_of g → shape ≡ s → f p ≡ tree_of p s
    → OnOk result ((q : ℤ) → new ≡ old ++ geojson (f q)) → OnOk result (new ≡ old ++ geojson g)
any_put result g p shape s f old new is precise same made put =
    shape_put result g p shape s (f p) old new is precise same made
    (on_ok_weaker result (λ (e : (q : ℤ) → new ≡ old ++ geojson (f q)). e p) put)

-- a collection by its members
pub collection_text : (p : ℤ) (ids : Ids) (gs : List Tree) (old new : List ℕ)
    → new ≡ old ++ text_of (typed Kind.Collection ids (member_name Kind.Collection) (array_of value_of gs))
    → new ≡ old ++ geojson (collection p ids (trees gs))
collection_text p ids gs old new put =
    put ∙ ap (λ js. old ++ text_of (typed Kind.Collection ids (member_name Kind.Collection) (array js)))
    (sym (members_value gs))
