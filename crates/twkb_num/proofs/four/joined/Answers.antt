use Rattle.std.proofs.Common.{◌≡◌, ◌*◌, ◌%◌, refl, rules, inl, inr}
use lib.Lanes.{zip2}
use lib.ListN.{replicate}
use Rattle.std.proofs.lemmas.Simd.{Each2-splat, Each1-all, zip2_splat}
use Rattle.twkb_num.proofs.WordLemmas.{joined_are}
use Rattle.twkb_num.proofs.four.joined.Goals as goal

pub nonzero_rem-groups : goal.nonzero_rem-groups
nonzero_rem-groups c =
    Each2-splat _ c.args.units 16 c.args.radix (Each1-all _ (λ a. elim c.requires.alphabet [
      | inl e ↦ rw e (search rules)
      | inr e ↦ rw e (search rules)
    ]) c.args.units)

pub returns : goal.returns
returns c =
    let square : c.from.result * c.from-2.result ≡ c.args.radix * c.args.radix =
    rw (c.from.ensures, c.from-2.ensures) refl in
    let groups = zip2 (λ a b. a % b) c.args.units (replicate 16 c.args.radix) in
    rw c.from-3.ensures (joined_are c.args.radix (c.from.result * c.from-2.result) c.args.units
    groups c.requires.alphabet square c.fits-units.0 c.fits-units.1
    (zip2_splat (λ a b. a % b) c.args.units 16 c.args.radix c.fits-units.0))
