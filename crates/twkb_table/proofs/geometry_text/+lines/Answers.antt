use Rattle.std.proofs.Common.{◌∙◌, ◌∷◌, [], ◌+◌, ap, arith, rules, subst}
use Rattle.twkb_tree.specs.Tree.{nest_all, trees}
use Rattle.twkb_tree.specs.Rows.{plain_row, ring_rows, polygon_rows, rows_of_each, member_rows}
use Rattle.twkb_tree.specs.declared.kind.Kind.{Kind}
use Rattle.twkb_table.specs.Text.{row_lines, Writes}
use Rattle.twkb_tree.specs.Size.{member_smaller}
use Rattle.twkb_tree.proofs.TreeLemmas.{member_rows_each, nest_member, under_shape}
use Rattle.twkb_table.proofs.LineLemmas.{geometry_written, has_written_all, has_written_more, has_written_none}
use Rattle.twkb_table.proofs.geometry_text.+lines.Goals as goal

pub write_members-loop-member-init : goal.write_members-loop-member-init
write_members-loop-member-init t c = has_written_none c.requires.ready

pub write_members-write_geometry-requires : goal.write_members-write_geometry-requires
write_members-write_geometry-requires t c = (
  search (rules, member_smaller),
  (
    omega (
      arith,
      nest_member c.as_slice-member-items.result.now c.loop-member.member-index
          c.member-item.result c.loop-member-test.true c.member-item.is,
      ap (λ gs. nest_all (trees gs))
          c.as_slice-member-items.ensures.items,
    ),
    c.loop-member.invariant.ready,
  ),
)

pub write_members-loop-member-preserved : goal.write_members-loop-member-preserved
write_members-loop-member-preserved t c = has_written_more
    c.loop-member.invariant c.loop-member-test.true c.member-item.is c.id_at.ensures
    c.in_ok-write_geometry.ensures

pub write_members-returns : goal.write_members-returns
write_members-returns t c =
    subst (λ rs. Writes c.args.records.now.writer c.loop-member.records.writer (row_lines rs))
    (member_rows_each c.args.depth c.args.ids.now c.as_slice-member-items.result.now
    ∙ ap (λ gs. member_rows c.args.depth c.args.ids.now (trees gs))
    c.as_slice-member-items.ensures.items)
    (has_written_all c.loop-member.invariant c.loop-member-test.false)

pub write_geometry-returns-in-Polygon : goal.write_geometry-returns-in-Polygon
write_geometry-returns-in-Polygon t c =
    geometry_written _ _ _ _ _ _ _ _ _ c.own_row.ensures
    (ap (ring_rows (c.args.depth + 1)) c.as_slice.ensures.items
    ∙ under_shape _ _ _ _ _ c.shape.ensures c.in-Polygon.is) c.in_ok-write_row.ensures
    c.write_lines.ensures

pub write_geometry-returns-in-MultiPoint : goal.write_geometry-returns-in-MultiPoint
write_geometry-returns-in-MultiPoint t c =
    geometry_written _ _ _ _ _ _ _ _ _ c.own_row.ensures
    (ap (rows_of_each (λ id p. plain_row (c.args.depth + 1) Kind.Point id (p ∷ []) ∷ [])
    c.in-MultiPoint.ids) c.as_slice-in-MultiPoint.ensures.items
    ∙ under_shape _ _ _ _ _ c.shape.ensures c.in-MultiPoint.is) c.in_ok-write_row.ensures
    c.write_points.ensures

pub write_geometry-returns-in-MultiLine : goal.write_geometry-returns-in-MultiLine
write_geometry-returns-in-MultiLine t c =
    geometry_written _ _ _ _ _ _ _ _ _ c.own_row.ensures
    (ap (rows_of_each (λ id ps. plain_row (c.args.depth + 1) Kind.Linestring id ps ∷ [])
    c.in-MultiLine.ids) c.as_slice-in-MultiLine.ensures.items
    ∙ under_shape _ _ _ _ _ c.shape.ensures c.in-MultiLine.is) c.in_ok-write_row.ensures
    c.write_lines-in-MultiLine.ensures

pub write_geometry-returns-in-MultiPolygon : goal.write_geometry-returns-in-MultiPolygon
write_geometry-returns-in-MultiPolygon t c =
    geometry_written _ _ _ _ _ _ _ _ _ c.own_row.ensures
    (ap (rows_of_each (polygon_rows (c.args.depth + 1)) c.in-MultiPolygon.ids)
    c.as_slice-in-MultiPolygon.ensures.items ∙ under_shape _ _ _ _ _ c.shape.ensures
    c.in-MultiPolygon.is)
    c.in_ok-write_row.ensures c.write_areas.ensures

pub write_geometry-returns-in-Collection : goal.write_geometry-returns-in-Collection
write_geometry-returns-in-Collection t c = geometry_written _ _ _ _ _ _ _ _ _ c.own_row.ensures
    (under_shape _ _ _ _ _ c.shape.ensures c.in-Collection.is) c.in_ok-write_row.ensures
    c.write_members.ensures
