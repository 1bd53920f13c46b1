use Rattle.std.proofs.Common.{arith}
use Rattle.twkb_hex.proofs.TextLemmas.{body_all, body_more, length-replaced}
use Rattle.csv.specs.Records.{fields_of}
use Rattle.twkb_hex.proofs.row_text.append_fields.Goals as goal

pub loop-index-preserved : goal.loop-index-preserved
loop-index-preserved c = body_more _ _ _ _ _ _ _ _ (omega (
  arith,
  c.loop-index-test.true,
  c.len-index-end.ensures,
  c.loop-index.auto.index-end,
  length-replaced c.args.place c.args.made.now (fields_of c.args.row.now),
)) c.field_of.ensures c.loop-index.invariant c.in_ok-append_separator.ensures c.in_ok-append_field.ensures

pub returns : goal.returns
returns c = body_all _ _ _ _ c.loop-index.index (omega (
  arith,
  c.loop-index-test.false,
  c.len-index-end.ensures,
  c.loop-index.auto.index-end,
  length-replaced c.args.place c.args.made.now (fields_of c.args.row.now),
)) c.loop-index.invariant
