use Rattle.std.proofs.Common.{◌∙◌, ◌∷◌, [], ap}
use Rattle.twkb_tree.specs.Rows.{rows_of_each, plain_row, ring_rows, polygon_rows}
use Rattle.twkb_tree.specs.declared.kind.Kind.{Kind}
use Rattle.twkb_tree.proofs.TreeLemmas.{under_shape}
use Rattle.twkb_flat.proofs.BuildLemmas.{no_members, under_valid, under_pushed, none_under}
use Rattle.twkb_flat.proofs.geometry_rows.push_components.Goals as goal

pub push_each-requires : goal.push_each-requires
push_each-requires c =
    under_valid _ _ _ _ c.requires.valid (ap (ring_rows c.args.depth) c.as_slice.ensures.items
    ∙ under_shape _ _ _ _ _ c.shape.ensures c.in-Polygon.is)

pub push_each-requires-in-MultiPoint : goal.push_each-requires-in-MultiPoint
push_each-requires-in-MultiPoint c =
    under_valid _ _ _ _ c.requires.valid
    (ap (rows_of_each (λ id p. plain_row c.args.depth Kind.Point id (p ∷ []) ∷ [])
    c.in-MultiPoint.ids) c.as_slice-in-MultiPoint.ensures.items
    ∙ under_shape _ _ _ _ _ c.shape.ensures c.in-MultiPoint.is)

pub push_each-requires-in-MultiLine : goal.push_each-requires-in-MultiLine
push_each-requires-in-MultiLine c =
    under_valid _ _ _ _ c.requires.valid
    (ap (rows_of_each (λ id ps. plain_row c.args.depth Kind.Linestring id ps ∷ [])
    c.in-MultiLine.ids) c.as_slice-in-MultiLine.ensures.items
    ∙ under_shape _ _ _ _ _ c.shape.ensures c.in-MultiLine.is)

pub push_each-requires-in-MultiPolygon : goal.push_each-requires-in-MultiPolygon
push_each-requires-in-MultiPolygon c =
    under_valid _ _ _ _ c.requires.valid
    (ap (rows_of_each (polygon_rows c.args.depth) c.in-MultiPolygon.ids)
    c.as_slice-in-MultiPolygon.ensures.items ∙ under_shape _ _ _ _ _ c.shape.ensures
    c.in-MultiPolygon.is)

pub returns-in-Polygon : goal.returns-in-Polygon
returns-in-Polygon c =
    under_pushed _ _ _ _ _ _ (ap (ring_rows c.args.depth) c.as_slice.ensures.items
    ∙ under_shape _ _ _ _ _ c.shape.ensures c.in-Polygon.is) c.push_each.ensures

pub returns-in-MultiPoint : goal.returns-in-MultiPoint
returns-in-MultiPoint c =
    under_pushed _ _ _ _ _ _
    (ap (rows_of_each (λ id p. plain_row c.args.depth Kind.Point id (p ∷ []) ∷ [])
    c.in-MultiPoint.ids) c.as_slice-in-MultiPoint.ensures.items
    ∙ under_shape _ _ _ _ _ c.shape.ensures c.in-MultiPoint.is)
    c.push_each-in-MultiPoint.ensures

pub returns-in-MultiLine : goal.returns-in-MultiLine
returns-in-MultiLine c =
    under_pushed _ _ _ _ _ _
    (ap (rows_of_each (λ id ps. plain_row c.args.depth Kind.Linestring id ps ∷ [])
    c.in-MultiLine.ids) c.as_slice-in-MultiLine.ensures.items
    ∙ under_shape _ _ _ _ _ c.shape.ensures c.in-MultiLine.is) c.push_each-in-MultiLine.ensures

pub returns-in-MultiPolygon : goal.returns-in-MultiPolygon
returns-in-MultiPolygon c =
    under_pushed _ _ _ _ _ _ (ap (rows_of_each (polygon_rows c.args.depth) c.in-MultiPolygon.ids)
    c.as_slice-in-MultiPolygon.ensures.items ∙ under_shape _ _ _ _ _ c.shape.ensures
    c.in-MultiPolygon.is) c.push_each-in-MultiPolygon.ensures

pub returns-in-Point : goal.returns-in-Point
returns-in-Point c = none_under _ _ _ _ _ c.shape.ensures c.in-Point.is

pub returns-in-Point-2 : goal.returns-in-Point-2
returns-in-Point-2 c = none_under _ _ _ _ _ c.shape.ensures c.in-Point.is

pub unreachable-requires : goal.unreachable-requires
unreachable-requires c = no_members _ _ _ _ _ c.shape.ensures c.in-Collection.is c.requires.no_collection
