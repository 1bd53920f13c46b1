use Rattle.std.proofs.Common.{refl, rules}
use Rattle.twkb_grammar.specs.Roles as role
use Rattle.twkb_engine.proofs.Items.{byte_leads, takes, took}
use Rattle.twkb_engine.proofs.Parts.{sums_as, add_zero}
use Rattle.twkb_engine.proofs.engine.Engine.extended_byte.Goals as goal

pub after_extended-requires-clause-may : goal.after_extended-requires-clause-may
after_extended-requires-clause-may g c =
    (byte_leads c.requires.comes.alive c.requires.comes.next role.Extended c.args.number 1 refl _ (λ at. at)
    (c.requires.byte, refl) (search rules)).admits

pub returns : goal.returns
returns g c =
    took (takes (byte_leads c.requires.comes.alive c.requires.comes.next role.Extended c.args.number 1 refl _
    (λ at. at) (c.requires.byte, refl) (search rules))
    _ _ _ _ (sums_as refl refl (add_zero _) (add_zero _)) refl refl c.after_extended.ensures.landed)
    (search rules) (search rules) (search rules)
