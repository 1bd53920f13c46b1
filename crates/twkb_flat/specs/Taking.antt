-- The place of the rows of a component, of components or of a geometry among the rows.
use Rattle.std.specs.Prelude.{ℕ, suc, ℤ, List, ◌∷◌, Option, ⊤, ◌≡◌, [], ◌++◌, length, reverse, Bool, Some, None, ◌≢◌}
use Rattle.std.specs.Prelude.{drop}
use Rattle.twkb_points.specs.Point.{Point}
use Rattle.twkb_tree.specs.declared.kind.Kind.{Kind}
use Rattle.twkb_tree.specs.Tree.{Tree, simple, collection, Ids, IsTree, HasIds, precision_of}
use Rattle.twkb_tree.specs.Rows.{Row, plain_row, own_row, rows_with, rows_of_each, IsAbove}
use Rattle.twkb_tree.specs.declared.open_rows.OpenRow.{OpenRow}
use Rattle.twkb_tree.specs.Open.{AreOpen}
use Rattle.std.specs.List.{AllByRecursion}
use Rattle.twkb_tree.specs.Shape.{tree_of}
use Rattle.twkb_tree.specs.declared.geometry.Shape.{Shape}
use Rattle.twkb_flat.specs.declared.stop.Stop.{Stop}
use Rattle.twkb_flat.specs.declared.stop.Stop.TheVariants.{Memory, Refused}

-- ==== The rows of a component of a geometry (a point, line, ring or polygon), and geometries that
-- are not collections.

-- the rows of a component at a depth and with an id: its own row, of this kind and with its points,
-- and the rows below it
abbrev pub component_rows : {A : Type 0} → (A → List Point) → (ℕ → A → List Row) → Kind → ℕ → Option ℤ → A → List Row
component_rows own below kind d id component = plain_row d kind id (own component) ∷ below (suc d) component

-- the geometry is not a collection
abbrev pub IsSimple : Tree → Type 0
IsSimple (simple p s) = ⊤
IsSimple (collection p ids gs) = ⊥

-- ==== Rows that end in a member of a multipoint.

-- the open rows with two more: a multipoint, whose members all have ids or all have none, and one
-- of its members
abbrev pub with_member : List OpenRow → Bool → List OpenRow
with_member above named = above ++ record { kind = Kind.MultiPoint; child_ids = Some named }
    ∷ record { kind = Kind.Point; child_ids = None } ∷ []

-- the last two open rows are a multipoint and one of its members, which is at this depth
pub record OpenInMember (d : ℕ) (named : Bool) (os : List OpenRow) : Type 0 where
  pub above : List OpenRow
  pub depth : d ≡ suc (length above)
  pub whole : os ≡ with_member above named

-- the last row is a member, at this depth, of a multipoint whose members all have ids or all have
-- none
pub record EndsInMember (d : ℕ) (named : Bool) (rs : List Row) : Type 0 where
  pub os : List OpenRow
  pub are_open : AreOpen (reverse rs) os
  pub ends : OpenInMember d named os

-- ==== The place of the rows of a component, of components or of a geometry among the rows.

-- there is a first row, and it is at this depth
abbrev pub IsAt : ℕ → List Row → Type 0
IsAt d [] = ⊥
IsAt d (r ∷ rs) = r.depth ≡ d

-- the rows from a place on begin with those of one sound item at a depth, with an id, and the rest
-- are not below it
pub record OneAt {A : Type 0} (sound : A → Type 0) (f : Option ℤ → A → List Row) (rows : List Row)
    (at d : ℕ) (id : Option ℤ) (item : A) (rest : List Row) : Type 0 where
  pub is_sound : sound item
  pub behind : IsAbove (suc d) rest
  pub here : drop at rows ≡ f id item ++ rest

-- the rows from a place on begin with those of sound items at a depth, with these ids, and the rest
-- are above them
pub record EachAt {A : Type 0} (sound : A → Type 0) (f : Option ℤ → A → List Row) (rows : List Row)
    (at d : ℕ) (ids : Ids) (items : List A) (rest : List Row) : Type 0 where
  pub are_sound : AllByRecursion sound items
  pub ids_fit : HasIds ids (length items)
  pub behind : IsAbove d rest
  pub here : drop at rows ≡ rows_of_each f ids items ++ rest

-- any item is sound
abbrev pub IsAny : {A : Type 0} → A → Type 0
IsAny item = ⊤

-- the rows of a geometry at a depth begin at a place
abbrev pub TreeAt : List Row → ℕ → ℕ → Option ℤ → Tree → List Row → Type 0
TreeAt rows at d id g rest = OneAt IsTree (λ i h. rows_with i d h) rows at d id g rest

-- the rows of a geometry that is not a collection begin at a place
pub record SimpleAt (rows : List Row) (at d : ℕ) (id : Option ℤ) (g : Tree) (rest : List Row) : Type 0 where
  pub stands : TreeAt rows at d id g rest
  pub no_collection : (own_row id d g).kind ≢ Kind.Collection

-- the rows of components of this kind at a depth begin at a place
abbrev pub ComponentsAt : {A : Type 0} → (A → List Point) → (ℕ → A → List Row) → Kind → List Row → ℕ → ℕ
    → Ids → List A → List Row → Type 0
ComponentsAt own below kind rows at d ids components rest = EachAt IsAny
    (component_rows own below kind d) rows at d ids components rest

-- a precision and a shape are those of this geometry
pub record AreOf (precision : Option ℤ) (shape : Shape) (g : Tree) : Type 0 where
  pub sound : IsTree g
  pub precision_is : precision ≡ Some (precision_of g)
  pub shape_is : tree_of (precision_of g) shape ≡ g

-- the ids in a list; none if the list is empty
abbrev pub ids_in : List ℤ → Ids
ids_in [] = None
ids_in (id ∷ ids) = Some (id ∷ ids)

-- the id as a list, empty if there is none
abbrev pub id_list : Option ℤ → List ℤ
id_list None = []
id_list (Some id) = id ∷ []

-- ==== What a call says of something that it did not take.

-- a refusal is for a reason that holds; a lack of memory says nothing about what was refused
abbrev pub IfRefused : {R : Type 0} → (R → Type 0) → Stop R → Type 0
IfRefused Holds Memory = ⊤
IfRefused Holds (Refused reason) = Holds reason
