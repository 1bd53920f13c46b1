use Rattle.std.proofs.Common.{rules, ap, [], sym, refl, inr}
use Rattle.twkb_body.proofs.Outlined.{starts_at}
use Rattle.twkb_engine.specs.Collections.{frames_of}
use Rattle.twkb_engine.proofs.engine.Engine.new.Goals as goal

pub returns-clause-stands : goal.returns-clause-stands
returns-clause-stands c = record {
  front = [];
  whole = sym c.new-3.ensures;
  outlined = starts_at c.args.limits c.origin.result _ [] (search rules) c.origin.ensures
      (ap frames_of c.new.ensures) refl;
  placed = tt;
  spelled = inr c.new-3.ensures;
}
