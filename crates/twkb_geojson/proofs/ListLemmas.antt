-- The elements of an array, appended one after another with commas between them.
use Rattle.std.proofs.Common.{◌≡◌, ℕ, zero, suc, ◌+◌, ◌<◌, ◌≤◌, List, [], ◌∷◌, ◌++◌, length, take, get_or}
use Rattle.std.proofs.Common.{refl, ap, ◌∙◌, sym, append-nil, append_assoc, arith, map}
use Rattle.std.proofs.lemmas.List.{take_more, take_all, flat_map_more}
use Rattle.json.specs.Json.{Json, number, item}
use Rattle.json.specs.Print.{print_from}
use Rattle.json.specs.Value.{items_of}
use Rattle.twkb_tree.specs.Tree.{Tree, trees}
use Rattle.twkb_geojson.specs.Value.{text_of, array_of, value_of, values_of, id_value}
use Rattle.twkb_geojson.specs.Text.{listed, comma_before, ids_text, Grows}
use Rattle.std.specs.Prelude.{codes, ℤ, Some}
use Rattle.twkb_geojson.proofs.PrintLemmas.{array_text}

-- The elements before a place were appended, with a comma between them.
pub record HasListed {A : Type 0} (f : A → Json) (xs : List A) (i index : ℕ) (old new : List ℕ) : Type 0 where
  pub counted : index ≡ i
  pub put : new ≡ old ++ listed f (take i xs)
  pub grown : Grows old new

-- one more element, after a comma unless it is the first
listed_at : {A : Type 0} (f : A → Json) (xs : List A) (i : ℕ) (x : A) → i < length xs
    → listed f (take i xs ++ x ∷ []) ≡ listed f (take i xs) ++ (comma_before i ++ text_of (f x))
listed_at f xs zero x h = append-nil (text_of (f x))
listed_at f [] (suc i) x h = absurd (omega (arith, h))
listed_at f (y ∷ ys) (suc i) x h = sym (flat_map_more (λ z. 44 ∷ text_of (f z)) (text_of (f y)) (take i ys) x)

-- no default is read below the length
read_below : {A : Type 0} (xs : List A) (i : ℕ) (d e : A) → i < length xs → get_or xs i d ≡ get_or xs i e
read_below [] i d e h = absurd (omega (arith, h))
read_below (x ∷ xs) zero d e h = refl
read_below (x ∷ xs) (suc i) d e h = read_below xs i d e (omega (arith, h))

-- an element that is read with some default is the one that is read with itself as the default
pub read_again : {A : Type 0} (xs : List A) (i : ℕ) (d : A) → i < length xs
    → get_or xs i d ≡ get_or xs i (get_or xs i d)
read_again xs i d h = read_below xs i d (get_or xs i d) h

-- no element
pub has_listed_none : {A : Type 0} (f : A → Json) (xs : List A) (old : List ℕ) → HasListed f xs 0 0 old old
has_listed_none f xs old = record {
  counted = refl;
  put = sym (append-nil old);
  grown = ([], sym (append-nil old));
}

-- one more element
pub has_listed_more : {A : Type 0} (f : A → Json) (xs : List A) (i index : ℕ) (x : A) (old a b c : List ℕ)
    → HasListed f xs i index old a → i < length xs → x ≡ get_or xs i x → b ≡ a ++ comma_before index
    → c ≡ b ++ text_of (f x) → HasListed f xs (i + 1) (index + 1) old c
has_listed_more f xs i index x old a b c so_far within is comma put =
    let whole : c ≡ old ++ listed f (take (i + 1) xs) =
    put ∙ ap (λ l. l ++ text_of (f x)) (comma ∙ ap (λ l. l ++ comma_before index) so_far.put)
    ∙ ap (λ k. ((old ++ listed f (take i xs)) ++ comma_before k) ++ text_of (f x)) so_far.counted
    ∙ append_assoc (old ++ listed f (take i xs)) (comma_before i) (text_of (f x))
    ∙ append_assoc old (listed f (take i xs)) (comma_before i ++ text_of (f x))
    ∙ ap (λ l. old ++ l) (sym (listed_at f xs i x within))
    ∙ ap (λ l. old ++ listed f l) (sym (take_more xs i x within ∙ ap (λ y. take i xs ++ y ∷ []) (sym is))) in
    record { counted = ap (λ k. k + 1) so_far.counted; put = whole; grown = (listed f (take (i + 1) xs), whole) }

-- all elements
pub has_listed_all : {A : Type 0} (f : A → Json) (xs : List A) (i index : ℕ) (old new : List ℕ)
    → HasListed f xs i index old new → length xs ≤ i → new ≡ old ++ listed f xs
has_listed_all f xs i index old new so_far past = so_far.put ∙ ap (λ l. old ++ listed f l) (take_all i xs past)

-- the elements in brackets
pub in_brackets : {A : Type 0} (f : A → Json) (xs : List A) (old a b new : List ℕ) → a ≡ old ++ 91 ∷ []
    → b ≡ a ++ listed f xs → new ≡ b ++ 93 ∷ [] → new ≡ old ++ text_of (array_of f xs)
in_brackets f xs old a b new begun put close =
    close ∙ ap (λ l. l ++ 93 ∷ []) (put ∙ ap (λ l. l ++ listed f xs) begun)
    ∙ append_assoc (old ++ 91 ∷ []) (listed f xs) (93 ∷ [])
    ∙ append_assoc old (91 ∷ []) (listed f xs ++ 93 ∷ [])
    ∙ ap (λ l. old ++ l) (sym (array_text f xs))

-- the text of a number
pub number_text : (s : List ℕ) → text_of (number s) ≡ s
unfolding print_from
number_text s = append-nil s

-- ids in brackets, with their name and a comma
pub ids_put : (ids : List ℤ) (old a b new : List ℕ) → a ≡ old ++ codes "\"ids\":[" → b ≡ a ++ listed id_value ids
    → new ≡ b ++ 93 ∷ 44 ∷ [] → new ≡ old ++ ids_text (Some ids)
ids_put ids old a b new begun put close =
    close ∙ ap (λ l. l ++ 93 ∷ 44 ∷ []) (put ∙ ap (λ l. l ++ listed id_value ids) begun)
    ∙ append_assoc (old ++ codes "\"ids\":[") (listed id_value ids) (93 ∷ 44 ∷ [])
    ∙ append_assoc old (codes "\"ids\":[") (listed id_value ids ++ 93 ∷ 44 ∷ [])
    ∙ ap (λ l. old ++ (codes "\"ids\":[" ++ l)) (sym (append_assoc (listed id_value ids) (93 ∷ []) (44 ∷ [])))
    ∙ ap (λ l. old ++ (codes "\"ids\":" ++ (l ++ 44 ∷ []))) (sym (array_text id_value ids))

-- the members of a collection as an array
pub members_value : (gs : List Tree) → values_of (trees gs) ≡ items_of (map value_of gs)
members_value [] = refl
members_value (g ∷ gs) = ap (λ js. item (value_of g) js) (members_value gs)
