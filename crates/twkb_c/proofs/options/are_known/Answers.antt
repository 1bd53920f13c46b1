use Rattle.std.proofs.Common.{◌≡◌, ℕ, List, subst}
use Rattle.std.proofs.lemmas.List.{take_rest}
use Rattle.std.specs.Prelude.{◌↔◌, All, IsTrue}
use Rattle.twkb_c.proofs.options.are_known.Goals as goal

pub returns : goal.returns
returns c =
    let words = c.args.words.now in
    subst (λ (xs : List ℕ). IsTrue c.are_zero.result ↔ All (λ word. word ≡ 0) xs) (take_rest words c.args.known)
    c.are_zero.ensures
