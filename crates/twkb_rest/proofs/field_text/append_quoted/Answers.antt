use Rattle.csv.specs.Writing.{escaped}
use Rattle.twkb_rest.proofs.TextLemmas.{grows_by, grows_on, quoted_more}
use Rattle.twkb_rest.proofs.field_text.append_quoted.Goals as goal

pub loop-byte-init : goal.loop-byte-init
unfolding escaped
loop-byte-init c = record {
  text = c.in_ok-extend_from_slice.ensures.items;
  grown = grows_by _ _ _ c.in_ok-extend_from_slice.ensures.items;
}

pub loop-byte-preserved : goal.loop-byte-preserved
loop-byte-preserved c = record {
  text = quoted_more _ _ _ _ _ _ c.loop-byte-test.true c.loop-byte.invariant.text c.in_ok-append_escaped.ensures.ok;
  grown = grows_on _ _ _ c.loop-byte.invariant.grown c.append_escaped.ensures.grown;
}
