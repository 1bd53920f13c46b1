use Rattle.std.proofs.Common.{◌≡◌, ◌++◌, take}
use Rattle.std.specs.Prelude.{flat_map}
use Rattle.twkb_convert.proofs.span_texts.put_all.Given as goal

abbrev pub invariant-loop-span : goal.invariant-loop-span
invariant-loop-span g l = l.text.items ≡ l.fn.text.items ++ flat_map g.F.SpanForm.written (take l.span-index l.spans)
