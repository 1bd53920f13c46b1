use Rattle.std.proofs.Common.{rules, arith, refl}
use Rattle.std.proofs.lemmas.Grind.{common_steps}
use Rattle.twkb_table.specs.Text.{Grows, row_lines}
use Rattle.twkb_table.proofs.LineLemmas.{all_counted, all_lines, few_nodes, few_points, grows_by, grows_on}
use Rattle.twkb_table.proofs.LineLemmas.{rows_put_more, rows_put_none}
use Rattle.twkb_table.proofs.flat_text.put_flat_rows.Goals as goal

pub loop-index-init : goal.loop-index-init
loop-index-init c = rows_put_none _ _ _ (omega arith) (omega arith)

pub loop-index-preserved : goal.loop-index-preserved
loop-index-preserved c = rows_put_more c.loop-index.invariant c.row_at.ensures.row
    c.row_at.ensures.counted c.in-Ok.ensures.appended

pub returns-in_default : goal.returns-in_default
returns-in_default c =
    let read = rows_put_more c.loop-index.invariant c.row_at.ensures.row c.row_at.ensures.counted
    refl in
    record {
      appended = search rules;
      counted = search rules;
      same = (let grown : Grows c.args.text.now.items c.put_row.new.text.items = grows_on _ _ _
          (grows_by _ _ _ c.loop-index.invariant.lines) c.in_default.ensures.grown in
          grind (arith, common_steps));
      nodes = few_nodes read (omega (arith, c.node_count-index-end.ensures.value));
      points = few_points read;
    }

pub returns : goal.returns
unfolding row_lines
returns c = record {
  appended = all_lines c.loop-index.invariant (omega (arith, c.node_count-index-end.ensures.value));
  counted = all_counted c.loop-index.invariant
      (omega (arith, c.node_count-index-end.ensures.value));
  same = search rules;
  nodes = few_nodes c.loop-index.invariant (omega (arith, c.node_count-index-end.ensures.value));
  points = few_points c.loop-index.invariant;
}
