use Rattle.std.proofs.Common.{rules, refl}
use Rattle.twkb_grammar.specs.Roles as role
use Rattle.twkb_engine.proofs.Items.{number_leads, takes, took}
use Rattle.twkb_engine.proofs.Parts.{sums_as, add_zero}
use Rattle.twkb_engine.proofs.engine.Engine.size.Goals as goal

pub after_size-requires-clause-may : goal.after_size-requires-clause-may
after_size-requires-clause-may g c =
    (number_leads c.requires.alive c.requires.next role.Size c.args.number 0 refl (λ p. p) tt
    c.requires.wide refl).admits

pub returns : goal.returns
returns g c =
    took (takes (number_leads c.requires.alive c.requires.next role.Size c.args.number c.args.width refl
    (λ p. p) tt c.requires.wide refl)
    _ _ _ _ (sums_as refl refl (add_zero _) (add_zero _)) refl refl c.after_size.ensures.landed)
    (search rules) (search rules) (search rules)
