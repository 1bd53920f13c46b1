-- Texts of values that follow one another in an array, the beginnings of objects, and texts that grow.
use Rattle.std.specs.Prelude.{ℕ, zero, suc, List, [], ◌∷◌, ◌++◌, ◌≡◌, flat_map, codes, None, Some}
use Rattle.json.specs.Json.{Json}
use Rattle.twkb_tree.specs.Tree.{Ids}
use Rattle.twkb_tree.specs.declared.kind.Kind.{Kind}
use Rattle.twkb_geojson.specs.Value.{text_of, array_of, id_value, type_name, member_name}

-- the texts of values, each after a comma
abbrev pub after_commas : {A : Type 0} → (A → Json) → List A → List ℕ
after_commas value xs = flat_map (λ x. 44 ∷ text_of (value x)) xs

-- the texts of values with a comma between them
abbrev pub listed : {A : Type 0} → (A → Json) → List A → List ℕ
listed value [] = []
listed value (x ∷ xs) = text_of (value x) ++ after_commas value xs

-- the second text begins with the first
abbrev pub Grows : List ℕ → List ℕ → Type 0
Grows old new = (more : List ℕ) × (new ≡ old ++ more)

-- the comma before the element of this index of an array: the first has none
abbrev pub comma_before : ℕ → List ℕ
comma_before zero = []
comma_before (suc i) = 44 ∷ []

-- the beginning of an object of this type
abbrev pub type_text : Kind → List ℕ
type_text kind = codes "{\"type\":\"" ++ (type_name kind ++ codes "\",")

-- the member `ids` and a comma, if there are ids
abbrev pub ids_text : Ids → List ℕ
ids_text None = []
ids_text (Some ids) = codes "\"ids\":" ++ (text_of (array_of id_value ids) ++ 44 ∷ [])

-- the name of the last member, and a colon
abbrev pub name_text : Kind → List ℕ
name_text kind = 34 ∷ (member_name kind ++ 34 ∷ 58 ∷ [])

-- the beginning of an object of this type with these ids, up to the value of its last member
abbrev pub start_text : Kind → Ids → List ℕ
start_text kind ids = (type_text kind ++ ids_text ids) ++ name_text kind
