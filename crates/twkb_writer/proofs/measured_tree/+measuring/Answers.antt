use Rattle.std.proofs.Common.{◌∙◌, ap, arith, rules}
use Rattle.twkb_tree.specs.Rows.{ring_rows, rows_below, rows_with}
use Rattle.twkb_tree.specs.Size.{member_smaller}
use Rattle.twkb_tree.specs.Tree.{multi_point, multi_line, multi_polygon}
use Rattle.twkb_tree.proofs.TreeLemmas.{under_shape}
use Rattle.twkb_writer.proofs.MeasuringPass.{adds_same, awaits_same, each_none, each_awaits, each_more, each_all}
use Rattle.twkb_writer.proofs.MeasuringPass.{geometry_shallow, under_awaits, own_awaits, geometry_added, members_rows}
use Rattle.twkb_writer.proofs.measured_tree.+measuring.Goals as goal

pub add_geometry-overflow_add-below : goal.add_geometry-overflow_add-below
add_geometry-overflow_add-below t c =
    let shallow = geometry_shallow _ _ _ _ c.requires in omega arith

pub add_geometry-add_under-requires : goal.add_geometry-add_under-requires
add_geometry-add_under-requires t c = (search rules, under_awaits _ _ _ _ c.requires)

pub add_geometry-add-requires : goal.add_geometry-add-requires
add_geometry-add-requires t c = own_awaits _ _ _ _ _ _ c.own_row.ensures c.requires c.add_under.ensures

pub add_geometry-returns : goal.add_geometry-returns
add_geometry-returns t c = geometry_added _ _ _ _ _ _ _ c.own_row.ensures c.add_under.ensures c.add.ensures

pub add_members-loop-index-init : goal.add_members-loop-index-init
add_members-loop-index-init t c = each_none (λ id g. rows_with id c.args.depth g) c.args.ids.now
    c.as_slice-items.result.now c.args.pass.now

pub add_members-add_geometry-requires : goal.add_members-add_geometry-requires
add_members-add_geometry-requires t c =
    let items = c.as_slice-items.result.now in
    let same = members_rows c.args.depth c.args.ids.now items _ c.as_slice-items.ensures.items in (
      search (rules, member_smaller),
      each_awaits (λ id g. rows_with id c.args.depth g) c.args.ids.now items c.loop-index.index
          _ _ _ _ c.loop-index-test.true c.loop-index.auto.index c.index-items-index.is
          c.id_at.ensures (awaits_same c.requires same) c.loop-index.invariant,
    )

pub add_members-loop-index-preserved : goal.add_members-loop-index-preserved
add_members-loop-index-preserved t c =
    each_more (λ id g. rows_with id c.args.depth g) c.args.ids.now c.as_slice-items.result.now
    c.loop-index.index _ _ _ _ _ c.loop-index-test.true c.loop-index.auto.index
    c.index-items-index.is c.id_at.ensures c.loop-index.invariant c.add_geometry.ensures

pub add_members-returns : goal.add_members-returns
add_members-returns t c =
    adds_same (each_all (λ id g. rows_with id c.args.depth g) c.args.ids.now
    c.as_slice-items.result.now _ _ _ (omega arith) c.loop-index.invariant)
    (members_rows c.args.depth c.args.ids.now _ _ c.as_slice-items.ensures.items)

pub add_under-returns-in-Polygon : goal.add_under-returns-in-Polygon
add_under-returns-in-Polygon t c =
    adds_same c.add_each.ensures (ap (ring_rows c.args.depth) c.as_slice.ensures.items
    ∙ under_shape _ _ _ _ _ c.shape.ensures c.in-Polygon.is)

pub add_under-returns-in-MultiPoint : goal.add_under-returns-in-MultiPoint
add_under-returns-in-MultiPoint t c =
    adds_same c.add_each-in-MultiPoint.ensures
    (ap (λ ps. rows_below c.args.depth (multi_point c.in-MultiPoint.ids ps)) c.as_slice-in-MultiPoint.ensures.items
    ∙ under_shape _ _ _ _ _ c.shape.ensures c.in-MultiPoint.is)

pub add_under-returns-in-MultiLine : goal.add_under-returns-in-MultiLine
add_under-returns-in-MultiLine t c =
    adds_same c.add_each-in-MultiLine.ensures
    (ap (λ ls. rows_below c.args.depth (multi_line c.in-MultiLine.ids ls)) c.as_slice-in-MultiLine.ensures.items
    ∙ under_shape _ _ _ _ _ c.shape.ensures c.in-MultiLine.is)

pub add_under-returns-in-MultiPolygon : goal.add_under-returns-in-MultiPolygon
add_under-returns-in-MultiPolygon t c =
    adds_same c.add_each-in-MultiPolygon.ensures
    (ap (λ areas. rows_below c.args.depth (multi_polygon c.in-MultiPolygon.ids areas))
    c.as_slice-in-MultiPolygon.ensures.items
    ∙ under_shape _ _ _ _ _ c.shape.ensures c.in-MultiPolygon.is)
