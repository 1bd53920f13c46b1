use Rattle.std.proofs.Common.{rules}
use Rattle.std.proofs.lemmas.Simd.{Each2-splat, Each1-all}
use Rattle.twkb_num.proofs.ZigzagLemmas.{unzigzagged_are}
use Rattle.twkb_num.proofs.four.unzigzagged.Goals as goal

pub nonzero_div-half : goal.nonzero_div-half
nonzero_div-half c = Each2-splat _ c.args.forms 4 2 (Each1-all _ (λ a. search rules) c.args.forms)

pub nonzero_rem-even : goal.nonzero_rem-even
nonzero_rem-even c = Each2-splat _ c.args.forms 4 2 (Each1-all _ (λ a. search rules) c.args.forms)

pub returns : goal.returns
returns c = unzigzagged_are 4 c.args.forms c.fits-forms.0 c.fits-forms.1
