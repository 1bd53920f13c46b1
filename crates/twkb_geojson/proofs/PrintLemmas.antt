-- The texts of arrays and of values in them, by the kit's printer of tokens.
use Rattle.std.proofs.Common.{◌≡◌, ℕ, Bool, true, false, List, [], ◌∷◌, ◌++◌, refl, ap, ◌∙◌, sym, append_assoc, ℤ, map}
use Rattle.std.specs.Prelude.{fold}
use Rattle.json.specs.Token.{Token}
use Rattle.json.specs.Json.{Json, null, boolean, number, string, array, object, Items, no_items, item, Members}
use Rattle.json.specs.Json.{no_members, member}
use Rattle.json.specs.Value.{items_of}
use Rattle.json.specs.Tree.{json_tokens, items_tokens, members_tokens}
use Rattle.json.specs.Print.{print_from, ends}
use Rattle.json.proofs.Printed.Tokens.{print_from-append}
use Rattle.twkb_points.specs.Point.{Point}
use Rattle.twkb_geojson.specs.Coordinate.{coordinate_text}
use Rattle.twkb_geojson.specs.Value.{text_of, array_of, position}
use Rattle.twkb_geojson.specs.Text.{after_commas, listed, Grows}
use Rattle.std.proofs.Common.{◌-◌, take, drop, arith, length, get_or, ◌<◌, ◌≤◌, ◌+◌, append-nil}
use Rattle.std.proofs.lemmas.List.{take_more, take_all, take_rest, flat_map_more}

-- ---- a value is over after its tokens, and a comma goes before it

fold-append : (c : Bool) (ts us : List Token)
    → fold (λ _ u. ends u) c (ts ++ us) ≡ fold (λ _ u. ends u) (fold (λ _ u. ends u) c ts) us
fold-append c [] us = refl
fold-append c (t ∷ ts) us = fold-append (ends t) ts us

items_end : (c : Bool) (js : Items) → fold (λ _ u. ends u) c (items_tokens js) ≡ true
items_end c no_items = refl
items_end c (item j js) = fold-append c (json_tokens j) (items_tokens js) ∙ items_end _ js

pub members_end : (c : Bool) (ms : Members) → fold (λ _ u. ends u) c (members_tokens ms) ≡ true
members_end c no_members = refl
members_end c (member k j ms) = fold-append false (json_tokens j) (members_tokens ms) ∙ members_end _ ms

value_ends : (c : Bool) (j : Json) → fold (λ _ u. ends u) c (json_tokens j) ≡ true
value_ends c null = refl
value_ends c (boolean b) = refl
value_ends c (number s) = refl
value_ends c (string s) = refl
value_ends c (array js) = items_end false js
value_ends c (object ms) = members_end false ms

after_comma : (j : Json) → print_from true (json_tokens j) ≡ 44 ∷ text_of j
unfolding print_from
after_comma null = refl
after_comma (boolean b) = refl
after_comma (number s) = refl
after_comma (string s) = refl
after_comma (array js) = refl
after_comma (object ms) = refl

-- what follows a value, after it
pub value_then : (c : Bool) (j : Json) (ts : List Token)
    → print_from c (json_tokens j ++ ts) ≡ print_from c (json_tokens j) ++ print_from true ts
value_then c j ts =
    print_from-append c (json_tokens j) ts
    ∙ ap (λ e. print_from c (json_tokens j) ++ print_from e ts) (value_ends c j)

-- ---- arrays

items_after : {A : Type 0} → (f : A → Json) (xs : List A)
    → print_from true (items_tokens (items_of (map f xs))) ≡ after_commas f xs ++ 93 ∷ []
unfolding print_from
items_after f [] = refl
items_after f (x ∷ xs) =
    value_then true (f x) (items_tokens (items_of (map f xs)))
    ∙ ap (λ l. l ++ print_from true (items_tokens (items_of (map f xs)))) (after_comma (f x))
    ∙ ap (λ l. 44 ∷ text_of (f x) ++ l) (items_after f xs)
    ∙ sym (append_assoc (44 ∷ text_of (f x)) (after_commas f xs) (93 ∷ []))

-- the text of an array
pub array_text : {A : Type 0} → (f : A → Json) (xs : List A) → text_of (array_of f xs) ≡ 91 ∷ (listed f xs ++ 93 ∷ [])
unfolding print_from
array_text f [] = refl
array_text f (x ∷ xs) = ap (λ l. 91 ∷ l) (
    value_then false (f x) (items_tokens (items_of (map f xs)))
    ∙ ap (λ l. text_of (f x) ++ l) (items_after f xs)
    ∙ sym (append_assoc (text_of (f x)) (after_commas f xs) (93 ∷ [])))

-- the text of a position
pub position_text : (precision : ℤ) (p : Point) → text_of (position precision p)
    ≡ 91 ∷ (coordinate_text precision p.x ++ 44 ∷ (coordinate_text precision p.y ++ 93 ∷ []))
unfolding print_from
position_text precision p = refl

-- ---- texts as the code appends them

pub position_put : (precision : ℤ) (p : Point) (old a b c d new : List ℕ) → a ≡ old ++ 91 ∷ []
    → b ≡ a ++ coordinate_text precision p.x → c ≡ b ++ 44 ∷ [] → d ≡ c ++ coordinate_text precision p.y
    → new ≡ d ++ 93 ∷ [] → new ≡ old ++ text_of (position precision p)
position_put precision p old a b c d new e f g h i =
    let x = coordinate_text precision p.x in
    let y = coordinate_text precision p.y in
    i ∙ ap (λ l. l ++ 93 ∷ []) (h ∙ ap (λ l. l ++ y) (g ∙ ap (λ l. l ++ 44 ∷ []) (f ∙ ap (λ l. l ++ x) e)))
    ∙ joined old x y ∙ ap (λ l. old ++ l) (sym (position_text precision p))
  where
    joined : (old x y : List ℕ) → (((old ++ 91 ∷ []) ++ x) ++ 44 ∷ []) ++ y ++ 93 ∷ []
        ≡ old ++ (91 ∷ (x ++ 44 ∷ (y ++ 93 ∷ [])))
    joined old x y = simp append_assoc refl

-- the elements so far and one more, each after a comma
pub commas_more : {A : Type 0} → (f : A → Json) (xs : List A) (i : ℕ) (x : A) (start old new : List ℕ)
    → i < length xs → x ≡ get_or xs i x → old ≡ start ++ after_commas f (take i xs)
    → new ≡ old ++ 44 ∷ text_of (f x) → new ≡ start ++ after_commas f (take (i + 1) xs)
commas_more f xs i x start old new within is so_far put =
    put ∙ ap (λ l. l ++ 44 ∷ text_of (f x)) so_far
    ∙ flat_map_more (λ y. 44 ∷ text_of (f y)) start (take i xs) x
    ∙ ap (λ l. start ++ after_commas f l) (sym (take_more xs i x within ∙ ap (λ y. take i xs ++ y ∷ []) (sym is)))

pub commas_all : {A : Type 0} → (f : A → Json) (xs : List A) (i : ℕ) (start new : List ℕ)
    → length xs ≤ i → new ≡ start ++ after_commas f (take i xs) → new ≡ start ++ after_commas f xs
commas_all f xs i start new past put = put ∙ ap (λ l. start ++ after_commas f l) (take_all i xs past)

-- the second text begins with the first
pub grows_more : (a b c : List ℕ) → Grows a b → Grows b c → Grows a c
grows_more a b c p q = (p.0 ++ q.0, q.1 ∙ ap (λ l. l ++ q.0) p.1 ∙ append_assoc a p.0 q.0)

pub grows_same : (a b : List ℕ) → b ≡ a → Grows a b
grows_same a b e = ([], e ∙ sym (append-nil a))

-- an array of at least one element, as the code appends it
pub array_put : {A : Type 0} → (f : A → Json) (xs others : List A) (x : A) (old p q text r text2 r2 r3 new : List ℕ)
    → xs ≡ x ∷ others → p ≡ 91 ∷ [] → q ≡ p ++ text_of (f x)
    → text ++ r ≡ (old ++ q) ++ after_commas f others → text2 ++ r2 ≡ text ++ r → r3 ≡ r2 ++ 93 ∷ []
    → new ≡ text2 ++ r3 → new ≡ old ++ text_of (array_of f xs)
array_put f xs others x old p q text r text2 r2 r3 new is first second third held close put =
    put ∙ ap (λ l. text2 ++ l) close ∙ sym (append_assoc text2 r2 (93 ∷ []))
    ∙ ap (λ l. l ++ 93 ∷ []) (held ∙ third
    ∙ ap (λ l. (old ++ l) ++ after_commas f others) (second ∙ ap (λ l. l ++ text_of (f x)) first))
    ∙ joined old (text_of (f x)) (after_commas f others)
    ∙ ap (λ l. old ++ l) (sym (ap (λ l. text_of (array_of f l)) is ∙ array_text f (x ∷ others)))
  where
    joined : (old y ys : List ℕ) → (((old ++ 91 ∷ y) ++ ys) ++ 93 ∷ []) ≡ old ++ 91 ∷ ((y ++ ys) ++ 93 ∷ [])
    joined old y ys = simp append_assoc refl

pub no_elements_put : {A : Type 0} → (f : A → Json) (xs : List A) (old new : List ℕ) → xs ≡ []
    → new ≡ old ++ 91 ∷ 93 ∷ [] → new ≡ old ++ text_of (array_of f xs)
unfolding print_from
no_elements_put f xs old new none put = put ∙ ap (λ l. old ++ l) (sym (ap (λ l. text_of (array_of f l)) none))

-- a list of at least one element is its first and the others
pub first_of : {A : Type 0} → (xs : List A) (x : A) → 1 ≤ length xs → x ≡ get_or xs 0 x
    → xs ≡ x ∷ take (length xs - 1) (drop 1 xs)
first_of [] x some is = absurd (omega (arith, some))
first_of (y ∷ ys) x some is = ap (λ z. z ∷ ys) (sym is) ∙ ap (λ l. x ∷ l) (sym (take_rest (y ∷ ys) 1))
