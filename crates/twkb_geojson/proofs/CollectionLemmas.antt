-- The text of a collection is that of one JSON value, its own: by the kit's printer of tokens with gaps.
use Rattle.std.proofs.Common.{◌≡◌, ℕ, Bool, true, false, List, [], ◌∷◌, ◌++◌, refl, ap, ◌∙◌, sym, subst, append_assoc}
use Rattle.std.proofs.Common.{map, arith, ◌≤◌, ◌+◌, Some, inr}
use Rattle.std.proofs.lemmas.List.{append-nil, map-append}
use Rattle.std.specs.Prelude.{fold, flat_map, codes, option_and_then}
use Rattle.std.specs.List.{AllByRecursion}
use Rattle.json.specs.Token.{Token}
use Rattle.json.specs.Json.{Json, string, object, Members, no_members, member, document, value, if_last, max_depth}
use Rattle.json.specs.Value.{items_of}
use Rattle.json.specs.Lex.{tokens}
use Rattle.json.specs.Tree.{json_tokens, items_tokens, members_tokens, HasNumbers, depth, items_depth}
use Rattle.json.specs.Print.{print_from, ends, token_text, separator, escape_byte, ArePrintable}
use Rattle.json.specs.Spaced.{AreGaps, print_spaced}
use Rattle.json.proofs.Printed.Tokens.{tokens-print_spaced}
use Rattle.json.proofs.Printed.Trees.{ArePrintable-json_tokens, value-json_tokens}
use Rattle.twkb_tree.specs.Tree.{Tree}
use Rattle.twkb_tree.specs.Limits.{IsValid, largest_limits}
use Rattle.twkb_geojson.specs.Value.{value_of, geojson, text_of}
use Rattle.twkb_geojson.specs.Collection.{feature_value, collection_value, feature_text, later_features, feature_lines}
use Rattle.twkb_geojson.specs.Collection.{opening_text, features_text, collection_text}
use Rattle.twkb_geojson.proofs.PrintLemmas.{members_end, value_then}
use Rattle.twkb_geojson.proofs.ValueLemmas.{items_have, tree_in, value_has, value_deep}

-- ---- tokens, each with what stands before it

abbrev Spaced : Type 0
Spaced = List ℕ × Token

abbrev token_of : Spaced → Token
token_of p = p.1

-- tokens with nothing before them
abbrev close : List Token → List Spaced
close [] = []
close (t ∷ ts) = ([], t) ∷ close ts

tokens_close : (ts : List Token) → map token_of (close ts) ≡ ts
tokens_close [] = refl
tokens_close (t ∷ ts) = ap (λ us. t ∷ us) (tokens_close ts)

gaps_close : (ts : List Token) (ps : List Spaced) → AreGaps ps → AreGaps (close ts ++ ps)
gaps_close [] ps gaps = gaps
gaps_close (t ∷ ts) ps gaps = (tt, gaps_close ts ps gaps)

print_close : (c : Bool) (ts : List Token) (ps : List Spaced)
    → print_spaced c (close ts ++ ps) ≡ print_from c ts ++ print_spaced (fold (λ _ u. ends u) c ts) ps
unfolding print_from print_spaced
print_close c [] ps = refl
print_close c (t ∷ ts) ps =
    ap (λ l. separator c t ++ (token_text t ++ l)) (print_close (ends t) ts ps)
    ∙ ap (λ l. separator c t ++ l) (sym (append_assoc (token_text t) _ _)) ∙ sym (append_assoc (separator c t) _ _)

-- ---- a feature in a line

abbrev feature_members : Tree → Members
feature_members g = member (codes "type") (string (codes "Feature"))
    (member (codes "properties") (object no_members) (member (codes "geometry") (value_of g) no_members))

feature_is : (g : Tree) → 123 ∷ print_from false (members_tokens (feature_members g)) ≡ feature_text g
unfolding print_from escape_byte
feature_is g = ap (λ l. codes "{\"type\":\"Feature\",\"properties\":{},\"geometry\":" ++ l)
    (value_then false (value_of g) (Token.end_object ∷ []))

-- the tokens of a feature, the first after LF
abbrev line_tokens : Tree → List Spaced
line_tokens g = (10 ∷ [], Token.begin_object) ∷ close (members_tokens (feature_members g))

print_line : (c : Bool) (g : Tree) (ps : List Spaced)
    → print_spaced c (line_tokens g ++ ps)
    ≡ separator c Token.begin_object ++ (10 ∷ (feature_text g ++ print_spaced true ps))
unfolding print_spaced
print_line c g ps =
    let ms = members_tokens (feature_members g) in
    ap (λ l. separator c Token.begin_object ++ (10 ∷ 123 ∷ l)) (print_close false ms ps
    ∙ ap (λ e. print_from false ms ++ print_spaced e ps) (members_end false (feature_members g)))
    ∙ ap (λ l. separator c Token.begin_object ++ (10 ∷ (l ++ print_spaced true ps))) (feature_is g)

-- ---- all features

abbrev lines_tokens : List Tree → List Spaced
lines_tokens gs = flat_map line_tokens gs

-- both closing brackets, the first after LF
abbrev last_tokens : List Spaced
last_tokens = (10 ∷ [], Token.end_array) ∷ ([], Token.end_object) ∷ []

print_later : (gs : List Tree)
    → print_spaced true (lines_tokens gs ++ last_tokens) ≡ later_features gs ++ 10 ∷ 93 ∷ 125 ∷ []
unfolding print_spaced
print_later [] = refl
print_later (g ∷ gs) =
    ap (print_spaced true) (append_assoc (line_tokens g) (lines_tokens gs) last_tokens)
    ∙ print_line true g (lines_tokens gs ++ last_tokens)
    ∙ ap (λ l. 44 ∷ 10 ∷ (feature_text g ++ l)) (print_later gs)
    ∙ sym (append_assoc (44 ∷ 10 ∷ feature_text g) (later_features gs) (10 ∷ 93 ∷ 125 ∷ []))

print_lines : (gs : List Tree)
    → print_spaced false (lines_tokens gs ++ last_tokens) ≡ feature_lines gs ++ 10 ∷ 93 ∷ 125 ∷ []
unfolding print_spaced
print_lines [] = refl
print_lines (g ∷ gs) =
    ap (print_spaced false) (append_assoc (line_tokens g) (lines_tokens gs) last_tokens)
    ∙ print_line false g (lines_tokens gs ++ last_tokens)
    ∙ ap (λ l. 10 ∷ (feature_text g ++ l)) (print_later gs)
    ∙ sym (append_assoc (10 ∷ feature_text g) (later_features gs) (10 ∷ 93 ∷ 125 ∷ []))

abbrev first_tokens : List Token
first_tokens = Token.begin_object ∷ Token.key (codes "type") ∷ Token.string (codes "FeatureCollection")
    ∷ Token.key (codes "features") ∷ Token.begin_array ∷ []

first_text : print_from false first_tokens ≡ opening_text
unfolding print_from escape_byte
first_text = refl

abbrev all_tokens : List Tree → List Spaced
all_tokens gs = close first_tokens ++ (lines_tokens gs ++ last_tokens)

-- the text without its last LF
abbrev without_last : List Tree → List ℕ
without_last gs = features_text gs ++ 10 ∷ 93 ∷ 125 ∷ []

print_all : (gs : List Tree) → print_spaced false (all_tokens gs) ≡ without_last gs
print_all gs =
    print_close false first_tokens (lines_tokens gs ++ last_tokens)
    ∙ ap (λ l. l ++ print_spaced false (lines_tokens gs ++ last_tokens)) first_text
    ∙ ap (λ l. opening_text ++ l) (print_lines gs)
    ∙ sym (append_assoc opening_text (feature_lines gs) (10 ∷ 93 ∷ 125 ∷ []))

-- ---- the tokens are those of the value

tokens_line : (g : Tree) → map token_of (line_tokens g) ≡ json_tokens (feature_value g)
tokens_line g = ap (λ ts. Token.begin_object ∷ ts) (tokens_close (members_tokens (feature_members g)))

tokens_lines : (gs : List Tree) → map token_of (lines_tokens gs ++ last_tokens)
    ≡ items_tokens (items_of (map feature_value gs)) ++ Token.end_object ∷ []
tokens_lines [] = refl
tokens_lines (g ∷ gs) =
    let others = items_tokens (items_of (map feature_value gs)) in
    ap (map token_of) (append_assoc (line_tokens g) (lines_tokens gs) last_tokens)
    ∙ map-append token_of (line_tokens g) (lines_tokens gs ++ last_tokens)
    ∙ ap (λ ts. ts ++ map token_of (lines_tokens gs ++ last_tokens)) (tokens_line g)
    ∙ ap (λ ts. json_tokens (feature_value g) ++ ts) (tokens_lines gs)
    ∙ sym (append_assoc (json_tokens (feature_value g)) others (Token.end_object ∷ []))

tokens_all : (gs : List Tree) → map token_of (all_tokens gs) ≡ json_tokens (collection_value gs)
tokens_all gs = ap (λ ts. first_tokens ++ ts) (tokens_lines gs)

gaps_lines : (gs : List Tree) → AreGaps (lines_tokens gs ++ last_tokens)
gaps_lines [] = ((inr refl, tt), (tt, tt))
gaps_lines (g ∷ gs) = subst AreGaps (sym (append_assoc (line_tokens g) (lines_tokens gs) last_tokens)) (
  (inr refl, tt),
  gaps_close (members_tokens (feature_members g)) (lines_tokens gs ++ last_tokens) (gaps_lines gs),
)

-- ---- the value

feature_has : (g : Tree) → IsValid largest_limits g → HasNumbers (feature_value g)
feature_has g valid = (tt, (tt, (value_has g valid.tree (tree_in g valid.in_range), tt)))

collection_has : (gs : List Tree) → AllByRecursion (IsValid largest_limits) gs → HasNumbers (collection_value gs)
collection_has gs all = (tt, (items_have feature_value (IsValid largest_limits) feature_has gs all, tt))

features_deep : (gs : List Tree) → AllByRecursion (IsValid largest_limits) gs
    → items_depth (items_of (map feature_value gs)) ≤ 100
features_deep [] all = omega arith
features_deep (g ∷ gs) all = omega (arith, value_deep g, all.0.nest_kept, features_deep gs all.1)

-- the text of a collection of valid geometries, but for its last LF, is that of its value
pub one_collection : (gs : List Tree) → AllByRecursion (IsValid largest_limits) gs
    → (text : List ℕ) × (collection_text gs ≡ text ++ 10 ∷ []) × (document text ≡ Some (collection_value gs))
one_collection gs all =
    let j = collection_value gs in
    let is = tokens_all gs in
    let printable = subst ArePrintable (sym is) (ArePrintable-json_tokens j (collection_has gs all)) in
    let read : tokens (without_last gs) ≡ json_tokens j =
    ap tokens (sym (print_all gs))
    ∙ tokens-print_spaced (all_tokens gs) (gaps_close first_tokens (lines_tokens gs ++ last_tokens)
    (gaps_lines gs)) printable
    ∙ is in (
      without_last gs,
      sym (append_assoc (features_text gs) (10 ∷ 93 ∷ 125 ∷ []) (10 ∷ [])),
      ap (option_and_then (λ p. if_last p.0 p.1))
          (ap (value max_depth) (read ∙ sym (append-nil (json_tokens j)))
          ∙ value-json_tokens j max_depth [] (omega (arith, features_deep gs all))),
    )
