use Rattle.std.proofs.Common.{FitsSigned, w8, ◌∙◌, ap, ◌++◌, ◌≡◌, refl, rules, None, Some}
use Rattle.std.proofs.Common.{to_z-of_z as whole_again, sym}
use Rattle.std.proofs.lemmas.Int.{to_z-of_z}
use Rattle.twkb_tree.specs.declared.kind.Kind.{Kind}
use Rattle.twkb_tree.specs.declared.geometry.Shape.TheVariants.{Point, Line, Polygon, MultiPoint, MultiLine}
use Rattle.twkb_tree.specs.declared.geometry.Shape.TheVariants.{MultiPolygon, Collection}
use Rattle.twkb_tree.specs.Tree.{simple, point, line, polygon, multi_point, multi_line, multi_polygon, collection}
use Rattle.twkb_tree.specs.Tree.{trees}
use Rattle.twkb_geojson.specs.Value.{value_of, array_of}
use Rattle.twkb_geojson.specs.Text.{listed}
use Rattle.twkb_geojson.proofs.PrintLemmas.{grows_more}
use Rattle.twkb_geojson.proofs.ListLemmas.{has_listed_none, has_listed_more, has_listed_all, in_brackets}
use Rattle.twkb_geojson.proofs.ObjectLemmas.{shape_put, any_put, closed_put, collection_text}
use Rattle.twkb_geojson.proofs.geometry_text.+text.Goals as goal

pub list_members-loop-member-init : goal.list_members-loop-member-init
list_members-loop-member-init t c = has_listed_none _ _ _

pub list_members-loop-member-preserved : goal.list_members-loop-member-preserved
list_members-loop-member-preserved t c =
    has_listed_more value_of c.as_slice-member-items.result.now c.loop-member.member-index c.loop-member.index
    c.member-item.result _ _ _ _ c.loop-member.invariant c.loop-member-test.true c.member-item.is
    c.in_ok-put_comma.ensures.appended c.in_ok-put_geometry.ensures.appended

pub list_members-returns-clause-appended : goal.list_members-returns-clause-appended
list_members-returns-clause-appended t c =
    has_listed_all value_of c.as_slice-member-items.result.now _ _ _ _ c.loop-member.invariant c.loop-member-test.false
    ∙ ap (λ gs. c.args.text.now.items ++ listed value_of gs) c.as_slice-member-items.ensures.items

pub put_collection-returns-clause-appended : goal.put_collection-returns-clause-appended
put_collection-returns-clause-appended t c = λ p.
    collection_text p c.args.ids.now c.args.members.now _ _
    (closed_put Kind.Collection c.args.ids.now (array_of value_of c.args.members.now) _ _ _ _
    c.in_ok-put_start.ensures.appended
    (in_brackets value_of c.args.members.now _ _ _ _ c.in_ok-push.ensures.items
    c.in_ok-list_members.ensures.appended refl)
    c.in_ok-extend_from_slice.ensures.items)

pub put_geometry-returns-in-Line-clause-appended : goal.put_geometry-returns-in-Line-clause-appended
put_geometry-returns-in-Line-clause-appended t c =
    let fits : FitsSigned w8 c.precision-precision.result = search rules in
    shape_put _ c.args.geometry.now c.precision-precision.result c.shape.result.now
    (Line c.in-Line.points) _ _ _ c.shape.ensures c.precision-precision.ensures.value c.in-Line.is
    (ap (λ p. simple p (line c.as_slice.result.now)) (whole_again fits)
    ∙ ap (λ ps. simple c.precision-precision.result (line ps)) c.as_slice.ensures.items)
    c.put_line.ensures.appended

pub put_geometry-returns-in-Polygon-clause-appended : goal.put_geometry-returns-in-Polygon-clause-appended
put_geometry-returns-in-Polygon-clause-appended t c =
    let fits : FitsSigned w8 c.precision-precision.result = search rules in
    shape_put _ c.args.geometry.now c.precision-precision.result c.shape.result.now
    (Polygon c.in-Polygon.rings) _ _ _ c.shape.ensures c.precision-precision.ensures.value c.in-Polygon.is
    (ap (λ p. simple p (polygon c.as_slice-in-Polygon.result.now)) (whole_again fits)
    ∙ ap (λ ps. simple c.precision-precision.result (polygon ps)) c.as_slice-in-Polygon.ensures.items)
    c.put_polygon.ensures.appended

pub put_geometry-returns-in-MultiPoint-clause-appended :
    goal.put_geometry-returns-in-MultiPoint-clause-appended
put_geometry-returns-in-MultiPoint-clause-appended t c =
    let fits : FitsSigned w8 c.precision-precision.result = search rules in
    let put = simp to_z-of_z at c.put_multi_point.ensures.appended in
    shape_put _ c.args.geometry.now c.precision-precision.result c.shape.result.now
    (MultiPoint c.in-MultiPoint.points c.in-MultiPoint.ids) _ _ _ c.shape.ensures c.precision-precision.ensures.value
    c.in-MultiPoint.is
    (ap (λ ps. simple c.precision-precision.result (multi_point c.in-MultiPoint.ids ps))
    c.as_slice-in-MultiPoint.ensures.items) put

pub put_geometry-returns-in-MultiLine-clause-appended :
    goal.put_geometry-returns-in-MultiLine-clause-appended
put_geometry-returns-in-MultiLine-clause-appended t c =
    let fits : FitsSigned w8 c.precision-precision.result = search rules in
    let put = simp to_z-of_z at c.put_multi_line.ensures.appended in
    shape_put _ c.args.geometry.now c.precision-precision.result c.shape.result.now
    (MultiLine c.in-MultiLine.lines c.in-MultiLine.ids) _ _ _ c.shape.ensures c.precision-precision.ensures.value
    c.in-MultiLine.is
    (ap (λ ps. simple c.precision-precision.result (multi_line c.in-MultiLine.ids ps))
    c.as_slice-in-MultiLine.ensures.items) put

pub put_geometry-returns-in-MultiPolygon-clause-appended :
    goal.put_geometry-returns-in-MultiPolygon-clause-appended
put_geometry-returns-in-MultiPolygon-clause-appended t c =
    let fits : FitsSigned w8 c.precision-precision.result = search rules in
    let put = simp to_z-of_z at c.put_multi_polygon.ensures.appended in
    shape_put _ c.args.geometry.now c.precision-precision.result c.shape.result.now
    (MultiPolygon c.in-MultiPolygon.areas c.in-MultiPolygon.ids) _ _ _
    c.shape.ensures c.precision-precision.ensures.value
    c.in-MultiPolygon.is
    (ap (λ ps. simple c.precision-precision.result (multi_polygon c.in-MultiPolygon.ids ps))
    c.as_slice-in-MultiPolygon.ensures.items) put

pub put_geometry-returns-in-Point-Some-clause-appended : goal.put_geometry-returns-in-Point-Some-clause-appended
put_geometry-returns-in-Point-Some-clause-appended t c =
    let fits : FitsSigned w8 c.precision-precision.result = search rules in
    let some : c.in-Point-Some.field-0 ≡ Some c.in-Point-Some.point = search rules in
    shape_put _ c.args.geometry.now c.precision-precision.result c.shape.result.now
    (Point c.in-Point-Some.field-0) _ _ _ c.shape.ensures c.precision-precision.ensures.value
    c.in-Point-Some.is
    (ap (λ p. simple p (point (Some c.in-Point-Some.point))) (whole_again fits)
    ∙ ap (λ o. simple c.precision-precision.result (point o)) (sym some))
    c.put_point.ensures.appended

pub put_geometry-returns-in-Point-None-clause-appended : goal.put_geometry-returns-in-Point-None-clause-appended
put_geometry-returns-in-Point-None-clause-appended t c =
    let none : c.in-Point-None.field-0 ≡ None = search rules in
    any_put _ c.args.geometry.now c.precision-precision.result c.shape.result.now
    (Point c.in-Point-None.field-0) (λ q. simple q (point None)) _ _
    c.shape.ensures c.precision-precision.ensures.value c.in-Point-None.is
    (ap (λ o. simple c.precision-precision.result (point o)) (sym none))
    c.put_empty_point.ensures.appended

pub put_geometry-returns-in-Collection-clause-appended : goal.put_geometry-returns-in-Collection-clause-appended
put_geometry-returns-in-Collection-clause-appended t c =
    any_put _ c.args.geometry.now c.precision-precision.result c.shape.result.now (Collection
    c.in-Collection.members c.in-Collection.ids)
    (λ q. collection q c.in-Collection.ids (trees c.in-Collection.members)) _ _
    c.shape.ensures c.precision-precision.ensures.value c.in-Collection.is refl c.put_collection.ensures.appended

pub list_members-returns-in_err-put_geometry-clause-grown : goal.list_members-returns-in_err-put_geometry-clause-grown
list_members-returns-in_err-put_geometry-clause-grown t c =
    grows_more _ _ _ (grows_more _ _ _ c.loop-member.invariant.grown c.in_ok-put_comma.ensures.grown)
    c.in_err-put_geometry.ensures.grown
