-- What a value names at a precision has that precision throughout.
use Rattle.std.proofs.Common.{◌≡◌, ◌↔◌, ℤ, pos, negsuc, refl, subst, sym, Some, None, Bool, true, false, T, ◌&&◌}
use Rattle.std.proofs.Common.{eq-eqb}
use Rattle.std.specs.Prelude.{Option, option_map, option_and_then, codes, if◌then◌else◌, ⊤}
use Rattle.std.specs.Str.{bytes_eq}
use Rattle.json.specs.Json.{Json, null, boolean, number, string, array, object, Items, no_items, item, Members}
use Rattle.json.specs.Json.{no_members, member, document}
use Rattle.twkb_tree.specs.declared.kind.Kind.{Kind}
use Rattle.twkb_tree.specs.Tree.{Simple, Tree, simple, collection, Trees, ◌▷◌, precision_of, count}
use Rattle.twkb_tree.specs.Limits.{IsValid, largest_limits, int_eq, has_precision, have_precision, uniform}
use Rattle.twkb_geojson.specs.Value.{geojson}
use Rattle.twkb_geojson.specs.Reading.{is_once, value_at, kind_named, kind_with, ids_named}
use Rattle.twkb_geojson.specs.Reading.{geometry_named, collected, geometries_named, all_named}
use Rattle.twkb_geojson.proofs.ReadBackLemmas.{read_back}

abbrev OnSome : {A : Type 0} → (A → Type 0) → Option A → Type 0
OnSome P None = ⊤
OnSome P (Some x) = P x

abbrev Even : ℤ → Option Tree → Type 0
Even p o = OnSome (λ g. T (has_precision p g)) o

abbrev AllEven : ℤ → Option Trees → Type 0
AllEven p o = OnSome (λ gs. T (have_precision p gs)) o

itself : (p : ℤ) → T (int_eq p p)
itself (pos n) = subst T (sym (eq-eqb n n refl)) tt
itself (negsuc n) = subst T (sym (eq-eqb n n refl)) tt

and_both : (a b : Bool) → T a → T b → T (a && b)
and_both true b s t = t
and_both false b s t = absurd s

on_map : {A B : Type 0} (P : A → Type 0) (Q : B → Type 0) (f : A → B) (o : Option A) → ((x : A) → P x → Q (f x))
    → OnSome P o → OnSome Q (option_map f o)
on_map P Q f None step h = tt
on_map P Q f (Some x) step h = step x h

on_then : {A B : Type 0} (P : A → Type 0) (Q : B → Type 0) (f : A → Option B) (o : Option A)
    → ((x : A) → P x → OnSome Q (f x)) → OnSome P o → OnSome Q (option_and_then f o)
on_then P Q f None step h = tt
on_then P Q f (Some x) step h = step x h

on_any : {A : Type 0} (o : Option A) → OnSome (λ x. ⊤) o
on_any None = tt
on_any (Some x) = tt

simple_even : (p : ℤ) (o : Option Simple) → Even p (option_map (simple p) o)
simple_even p o = on_map (λ s. ⊤) (λ g. T (has_precision p g)) (simple p) o (λ s h. itself p) (on_any o)

collection_even : (p : ℤ) (gs : Option Trees) (ids : Option Json) → AllEven p gs
    → Even p (option_and_then (λ ts. option_map (λ own. collection p own ts) (ids_named (count ts) ids)) gs)
collection_even p gs ids h = on_then (λ ts. T (have_precision p ts)) (λ g. T (has_precision p g))
    (λ ts. option_map (λ own. collection p own ts) (ids_named (count ts) ids)) gs
    (λ ts even. on_map (λ own. ⊤) (λ g. T (has_precision p g)) (λ own. collection p own ts)
    (ids_named (count ts) ids) (λ own any. and_both (int_eq p p) (have_precision p ts) (itself p) even)
    (on_any (ids_named (count ts) ids))) h

kind_even : (p : ℤ) (gs : Option Trees) (ids coordinates : Option Json) (kind : Kind) → AllEven p gs
    → Even p (kind_with p gs ids coordinates kind)
kind_even p gs ids coordinates Kind.Point h = simple_even p _
kind_even p gs ids coordinates Kind.Linestring h = simple_even p _
kind_even p gs ids coordinates Kind.Polygon h = simple_even p _
kind_even p gs ids coordinates Kind.Ring h = simple_even p _
kind_even p gs ids coordinates Kind.MultiPoint h = simple_even p _
kind_even p gs ids coordinates Kind.MultiLinestring h = simple_even p _
kind_even p gs ids coordinates Kind.MultiPolygon h = simple_even p _
kind_even p gs ids coordinates Kind.Collection h = collection_even p gs ids h

if_even : (p : ℤ) (b : Bool) (o : Option Tree) → Even p o → Even p (if b then o else None)
if_even p true o h = h
if_even p false o h = tt

chosen_even : (p : ℤ) (b : Bool) (o others : Option Trees) → AllEven p o → AllEven p others
    → AllEven p (if b then o else others)
chosen_even p true o others h also = h
chosen_even p false o others h also = also

joined_even : (p : ℤ) (o : Option Tree) (others : Option Trees) → Even p o → AllEven p others
    → AllEven p (option_and_then (λ g. option_map (λ gs. g ▷ gs) others) o)
joined_even p o others h also = on_then (λ g. T (has_precision p g)) (λ gs. T (have_precision p gs))
    (λ g. option_map (λ gs. g ▷ gs) others) o
    (λ g even. on_map (λ gs. T (have_precision p gs)) (λ gs. T (have_precision p gs)) (λ gs. g ▷ gs) others
    (λ gs all. and_both (has_precision p g) (have_precision p gs) even all) also) h

mutual
  named_even : (p : ℤ) (value : Json) → Even p (geometry_named p value)
  named_even p (object ms) = if_even p (is_once ms) _ (on_then (λ kind. ⊤) (λ g. T (has_precision p g))
      (kind_with p (collected p ms) (value_at (codes "ids") ms) (value_at (codes "coordinates") ms))
      (option_and_then kind_named (value_at (codes "type") ms))
      (λ kind any. kind_even p (collected p ms) (value_at (codes "ids") ms) (value_at (codes "coordinates") ms)
      kind (members_even p ms)) (on_any (option_and_then kind_named (value_at (codes "type") ms))))
  named_even p null = tt
  named_even p (boolean b) = tt
  named_even p (number text) = tt
  named_even p (string text) = tt
  named_even p (array js) = tt

  members_even : (p : ℤ) (ms : Members) → AllEven p (collected p ms)
  members_even p no_members = tt
  members_even p (member key value others) = chosen_even p (bytes_eq (codes "geometries") key)
      (geometries_named p value) (collected p others) (geometries_even p value) (members_even p others)

  geometries_even : (p : ℤ) (value : Json) → AllEven p (geometries_named p value)
  geometries_even p (array js) = all_even p js
  geometries_even p null = tt
  geometries_even p (boolean b) = tt
  geometries_even p (number text) = tt
  geometries_even p (string text) = tt
  geometries_even p (object ms) = tt

  all_even : (p : ℤ) (js : Items) → AllEven p (all_named p js)
  all_even p no_items = tt
  all_even p (item j js) = joined_even p (geometry_named p j) (all_named p js) (named_even p j) (all_even p js)

-- whatever text names a geometry
text_even : (p : ℤ) (value : Option Json) → Even p (option_and_then (geometry_named p) value)
text_even p None = tt
text_even p (Some value) = named_even p value

is_true : (b : Bool) → T b → b ≡ true
is_true true t = refl
is_true false t = absurd t

-- The text of a valid geometry names it at its precision exactly if its members have it.
pub exactly_even : (g : Tree) → IsValid largest_limits g
    → (option_and_then (geometry_named (precision_of g)) (document (geojson g)) ≡ Some g) ↔ (uniform g ≡ true)
exactly_even g valid = (
  λ e. is_true (uniform g) (subst (Even (precision_of g)) e (text_even (precision_of g) (document (geojson g)))),
  read_back g valid,
)
