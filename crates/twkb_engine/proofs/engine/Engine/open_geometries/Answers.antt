use Rattle.std.proofs.Common.{◌∙◌, arith, ap, ◌+◌}
use Rattle.twkb_engine.proofs.Items.{few_open, open_at_type, open_past_type}
use Rattle.twkb_engine.proofs.engine.Engine.open_geometries.Goals as goal

pub returns-in-TypeByte-clause-open : goal.returns-in-TypeByte-clause-open
returns-in-TypeByte-clause-open c = c.len-open.ensures ∙ open_at_type c.args.self.now c.in-TypeByte.is

pub returns-in-TypeByte-clause-few : goal.returns-in-TypeByte-clause-few
returns-in-TypeByte-clause-few c = λ bs rs s. omega (arith, few_open bs rs c.args.self.now s, c.len-open.ensures)

pub returns-in_default : goal.returns-in_default
returns-in_default c = record {
  «open» = ap (λ n. n + 1) c.len-open.ensures ∙ open_past_type c.args.self.now c.in_default.not-TypeByte;
  few = λ bs rs s. omega (arith, few_open bs rs c.args.self.now s, c.len-open.ensures);
}
