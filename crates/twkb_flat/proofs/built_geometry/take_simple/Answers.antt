use Rattle.std.proofs.Common.{◌∙◌, ◌++◌, suc, ap, inl, inr, refl, sym, arith}
use Rattle.std.specs.Prelude.{slice_get}
use Rattle.twkb_tree.specs.declared.kind.Kind.{Kind}
use Rattle.twkb_tree.specs.Tree.{point, line}
use Rattle.twkb_tree.specs.Rows.{rows_under, own_row}
use Rattle.twkb_tree.proofs.RowForest.{point_in}
use Rattle.twkb_flat.proofs.BuildLemmas.{tree_within, read_kind, own_here, is_no_ring, is_point, is_line, first_point}
use Rattle.twkb_flat.proofs.BuildLemmas.{own_taken, made_taken, parts_at, of_rings, of_points, of_lines, of_areas}
use Rattle.twkb_flat.proofs.built_geometry.take_simple.Goals as goal

pub row-row-requires : goal.row-row-requires
row-row-requires c = tree_within _ _ _ _ _ _ c.requires.4.stands

pub overflow_add-below : goal.overflow_add-below
overflow_add-below c =
    let inside = tree_within _ _ _ _ _ _ c.requires.4.stands in
    omega (arith, inside, c.row-row.ensures.few)

pub own_points-requires : goal.own_points-requires
own_points-requires c = tree_within _ _ _ _ _ _ c.requires.4.stands

pub own_points-requires-in-Linestring : goal.own_points-requires-in-Linestring
own_points-requires-in-Linestring c = tree_within _ _ _ _ _ _ c.requires.4.stands

pub take_each-requires : goal.take_each-requires
take_each-requires c =
    let w = c.requires in
    let p = parts_at _ _ _ _ _ of_rings _ _ _ _ _ _ _ w.4.stands c.row-row.ensures.row
    c.in-Polygon.is in
    (Kind.Ring, p.0.ids, p.0.parts, w.3, p.1)

pub take_each-requires-in-MultiPoint : goal.take_each-requires-in-MultiPoint
take_each-requires-in-MultiPoint c =
    let w = c.requires in
    let p = parts_at _ _ _ _ _ of_points _ _ _ _ _ _ _ w.4.stands c.row-row.ensures.row
    c.in-MultiPoint.is in
    (Kind.Point, p.0.ids, p.0.parts, w.3, p.1)

pub take_each-requires-in-MultiLinestring : goal.take_each-requires-in-MultiLinestring
take_each-requires-in-MultiLinestring c =
    let w = c.requires in
    let p = parts_at _ _ _ _ _ of_lines _ _ _ _ _ _ _ w.4.stands c.row-row.ensures.row
    c.in-MultiLinestring.is in
    (Kind.Linestring, p.0.ids, p.0.parts, w.3, p.1)

pub take_each-requires-in-MultiPolygon : goal.take_each-requires-in-MultiPolygon
take_each-requires-in-MultiPolygon c =
    let w = c.requires in
    let p = parts_at _ _ _ _ _ of_areas _ _ _ _ _ _ _ w.4.stands c.row-row.ensures.row
    c.in-MultiPolygon.is in
    (Kind.Polygon, p.0.ids, p.0.parts, w.3, p.1)

pub unreachable-requires : goal.unreachable-requires
unreachable-requires c =
    let w = c.requires in
    let kind = sym (read_kind _ _ _ _ _ _ _ w.4.stands c.row-row.ensures.row) in
    elim c.in-Collection.is [ inl is ↦ w.4.no_collection (kind ∙ is) | inr is ↦ is_no_ring w.1 w.0 w.2 (kind ∙ is) ]

pub returns-in-Point : goal.returns-in-Point
returns-in-Point c =
    λ d id g rest it.
    let own = c.own_points.ensures.points (own_row id d g) (rows_under (suc d) g ++ rest)
    (own_here c.args.flat.now c.args.at d id g rest it) in
    own_taken Kind.Point (λ ps. point (point_in ps)) is_point (λ k ps. refl) _ _ _ _ _ _ _ it
    c.row-row.ensures.row c.in-Point.is (point c.copied-point.result)
    (ap point (c.copied-point.ensures
    ∙ c.first.ensures.value ∙ ap (λ ps. slice_get ps 0) own ∙ first_point (own_row id d g).points))

pub returns-in_ok-points-in-Linestring : goal.returns-in_ok-points-in-Linestring
returns-in_ok-points-in-Linestring c =
    λ d id g rest it.
    let own = c.own_points-in-Linestring.ensures.points (own_row id d g)
    (rows_under (suc d) g ++ rest) (own_here c.args.flat.now c.args.at d id g rest it) in
    own_taken Kind.Linestring line is_line (λ k ps. refl) _ _ _ _ _ _ _ it c.row-row.ensures.row
    c.in-Linestring.is (line c.from_vec.result) (ap line (c.from_vec.ensures
    ∙ c.in_ok-points-in-Linestring.ensures.items ∙ own))

pub returns-in_ok-rings-in-Polygon : goal.returns-in_ok-rings-in-Polygon
returns-in_ok-rings-in-Polygon c =
    λ d id g rest it.
    let p = parts_at _ _ _ _ _ of_rings _ _ _ _ _ _ _ it c.row-row.ensures.row c.in-Polygon.is in
    made_taken _ _ _ _ _ _ p.0 _ _ _ _
    (c.in_ok-rings-in-Polygon.ensures Kind.Ring p.0.ids p.0.parts rest p.1)

pub returns-in_ok-points-in-MultiPoint : goal.returns-in_ok-points-in-MultiPoint
returns-in_ok-points-in-MultiPoint c =
    λ d id g rest it.
    let p = parts_at _ _ _ _ _ of_points _ _ _ _ _ _ _ it c.row-row.ensures.row
    c.in-MultiPoint.is in
    made_taken _ _ _ _ _ _ p.0 _ _ _ _
    (c.in_ok-points-in-MultiPoint.ensures Kind.Point p.0.ids p.0.parts rest p.1)

pub returns-in_ok-lines-in-MultiLinestring : goal.returns-in_ok-lines-in-MultiLinestring
returns-in_ok-lines-in-MultiLinestring c =
    λ d id g rest it.
    let p = parts_at _ _ _ _ _ of_lines _ _ _ _ _ _ _ it c.row-row.ensures.row
    c.in-MultiLinestring.is in
    made_taken _ _ _ _ _ _ p.0 _ _ _ _
    (c.in_ok-lines-in-MultiLinestring.ensures Kind.Linestring p.0.ids p.0.parts rest p.1)

pub returns-in_ok-areas-in-MultiPolygon : goal.returns-in_ok-areas-in-MultiPolygon
returns-in_ok-areas-in-MultiPolygon c =
    λ d id g rest it.
    let p = parts_at _ _ _ _ _ of_areas _ _ _ _ _ _ _ it c.row-row.ensures.row
    c.in-MultiPolygon.is in
    made_taken _ _ _ _ _ _ p.0 _ _ _ _
    (c.in_ok-areas-in-MultiPolygon.ensures Kind.Polygon p.0.ids p.0.parts rest p.1)
