use Rattle.std.proofs.Common.{◌≡◌, ◌∙◌, ◌%◌, ap, get_or, refl}
use lib.Lanes.{mask_l}
use Rattle.twkb_num.specs.declared.places.TheConstants.{PLACES, USED}
use Rattle.twkb_num.proofs.FoundLemmas.{two_found}
use Rattle.twkb_num.proofs.places.two_in_front.Goals as goal

pub returns : goal.returns
returns c = λ marks is.
    let read : get_or PLACES (c.args.ends % 256) 0 % 2 ≡ 0 = c.if-places-ne0.false in
    let even = rw is at read in
    let used : c.from.result ≡ get_or USED (c.args.ends % 256) 0 = c.from.ensures in
    rw is (two_found marks (get_or PLACES (mask_l marks % 256) 0) c.from.result refl
    (used ∙ ap (λ ends. get_or USED (ends % 256) 0) is) even)
