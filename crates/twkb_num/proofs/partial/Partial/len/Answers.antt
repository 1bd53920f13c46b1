use Rattle.std.proofs.Common.{◌^◌, sym, ◌∙◌, ap, length}
use Rattle.twkb_num.proofs.SpellingLemmas.{length-held, held_open}
use Rattle.twkb_num.proofs.partial.Partial.len.Goals as goal

pub returns-clause-count : goal.returns-clause-count
returns-clause-count g c = sym (length-held g.G.Groups.unit_of (2 ^ g.G.Groups.BITS)
    c.self.inside.len c.self.inside.value) ∙ ap length c.self.view_is

pub returns-clause-held : goal.returns-clause-held
returns-clause-held g c = rw (← c.self.view_is)
    (held_open g.met.G.Groups.laws c.self.inside.len c.self.inside.value c.self.invariant.0)
