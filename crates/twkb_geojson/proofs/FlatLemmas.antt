-- The geometry whose rows a flat form has, and its text.
use Rattle.std.proofs.Common.{◌≡◌, ℕ, List, [], ◌∷◌, ◌++◌, ap, ◌∙◌, sym, subst, Some, None, Option, ℤ, refl}
use Rattle.std.specs.Prelude.{slice_get, Result, OnOk}
use Rattle.std.proofs.lemmas.Result.{on_ok_weaker}
use Rattle.twkb_points.specs.Point.{Point}
use Rattle.twkb_tree.specs.declared.kind.Kind.{Kind}
use Rattle.twkb_tree.specs.Tree.{Tree, simple, collection, line, IsTree, IsPrecision, precision_of}
use Rattle.twkb_tree.specs.Limits.{largest_limits}
use Rattle.twkb_tree.specs.Rows.{Row, rows, own_row, rows_under, AreValidRowsOfOne}
use Rattle.twkb_tree.proofs.RowLaws.{one_geometry}
use Rattle.twkb_tree.proofs.TreeLemmas.{own_row_first}
use Rattle.twkb_flat.specs.declared.node.Row.{Row as FlatRow}
use Rattle.twkb_flat.specs.Rows.{row_with}
use Rattle.twkb_flat.proofs.BuildLemmas.{is_line}
use Rattle.twkb_geojson.specs.Value.{geojson}

-- the text of the geometry that has these rows
pub of_rows : (g h : Tree) (rs : List Row) (old new : List ℕ) → IsTree g → IsTree h → rows 0 g ≡ rs → rows 0 h ≡ rs
    → new ≡ old ++ geojson g → new ≡ old ++ geojson h
of_rows g h rs old new sound known same own put =
    put ∙ ap (λ t. old ++ geojson t) (one_geometry g h sound known (same ∙ sym own))

own_precision : (id : Option ℤ) (d : ℕ) (g : Tree) → (own_row id d g).precision ≡ Some (precision_of g)
own_precision id d (simple p s) = refl
own_precision id d (collection p ids gs) = refl

-- the first row is the geometry's own
own_first : (g : Tree) (rs : List Row) (r : Row) → rows 0 g ≡ rs → slice_get rs 0 ≡ Some r → own_row None 0 g ≡ r
own_first g rs r are first =
    let found : Some (own_row None 0 g) ≡ Some r =
    ap (λ l. slice_get l 0) (sym (own_row_first None 0 g) ∙ are) ∙ first in cc found

-- a geometry whose first row is a linestring's is that linestring
pub lone_line : (g : Tree) (rs : List Row) (root : FlatRow) (ps : List Point) (p : ℤ) → rows 0 g ≡ rs
    → slice_get rs 0 ≡ Some (row_with root ps) → root.kind ≡ Kind.Linestring → root.precision ≡ Some p
    → simple p (line ps) ≡ g
lone_line g rs root ps p are first kind precise =
    let own = own_first g rs (row_with root ps) are first in
    let has : Some p ≡ Some (precision_of g) =
    sym precise ∙ ap (λ (r : Row). r.precision) (sym own) ∙ own_precision None 0 g in
    let same : p ≡ precision_of g = cc has in
    ap (λ q. simple q (line ps)) same ∙ ap (λ (r : Row). simple (precision_of g) (line r.points)) (sym own)
    ∙ is_line None 0 g (ap (λ (r : Row). r.kind) own ∙ kind)

-- the precision of a linestring's row is one of a geometry
pub lone_known : (rs : List Row) (root : FlatRow) (ps : List Point) (p : ℤ) → AreValidRowsOfOne largest_limits rs
    → slice_get rs 0 ≡ Some (row_with root ps) → root.kind ≡ Kind.Linestring → root.precision ≡ Some p
    → IsPrecision p
lone_known [] root ps p valid first kind precise = absurd (cc first)
lone_known (r ∷ rs) root ps p valid first kind precise =
    let tree = subst IsTree (sym (lone_line valid.0 (r ∷ rs) root ps p valid.2 first kind precise)) valid.1.tree in
    tree.0

-- a geometry has a row
pub has_row : (g : Tree) (rs : List Row) → rows 0 g ≡ rs → rs ≡ [] → ⊥
has_row g rs own none =
    let empty : own_row None 0 g ∷ rows_under 1 g ≡ [] = sym (own_row_first None 0 g) ∙ own ∙ none in cc empty

-- the text of a lone linestring, as the result of the call that appends it says it
pub line_put : {T E : Type 0} (result : Result T E) (rs : List Row) (root : FlatRow) (ps : List Point) (p : ℤ)
    (h : Tree) (old new : List ℕ) → slice_get rs 0 ≡ Some (row_with root ps) → root.kind ≡ Kind.Linestring
    → root.precision ≡ Some p → h ≡ simple p (line ps) → OnOk result (new ≡ old ++ geojson h)
    → OnOk result ((g : Tree) → IsTree g → rows 0 g ≡ rs → new ≡ old ++ geojson g)
line_put result rs root ps p h old new first kind precise made put =
    on_ok_weaker result (λ (e : new ≡ old ++ geojson h). λ g sound are. e
    ∙ ap (λ (t : Tree). old ++ geojson t) (made ∙ lone_line g rs root ps p are first kind precise)) put
