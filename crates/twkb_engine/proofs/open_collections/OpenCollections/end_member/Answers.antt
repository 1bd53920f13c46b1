use Rattle.std.proofs.Common.{refl, sym, arith}
use Rattle.twkb_engine.proofs.Items.{member_goes_on, member_goes_up}
use Rattle.twkb_engine.proofs.open_collections.OpenCollections.end_member.Goals as goal

pub returns-then-innermost-gt0-clause-goes_on : goal.returns-then-innermost-gt0-clause-goes_on
returns-then-innermost-gt0-clause-goes_on c = λ bytes.
    member_goes_on c.self.inside.places _ _ c.as_mut_slice.ensures.value c.self.invariant
    (sym c.self.view_is)
    (omega (arith, c.if-self-eq0.false)) bytes c.if-innermost-gt0.true refl refl
    c.advance.ensures.ids

pub returns-clause-goes_up : goal.returns-clause-goes_up
returns-clause-goes_up c = λ bytes.
    member_goes_up c.self.inside.places _ _ c.as_mut_slice.ensures.value c.self.invariant
    (sym c.self.view_is) (omega (arith, c.if-self-eq0.false)) bytes c.if-innermost-gt0.false
