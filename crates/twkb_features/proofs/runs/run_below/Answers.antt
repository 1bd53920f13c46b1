use Rattle.std.proofs.Common.{leb}
use Rattle.twkb_features.proofs.RunLemmas.{mask_found, least_mask}
use Rattle.twkb_features.proofs.runs.run_below.Goals as goal

pub returns-clause-within : goal.returns-clause-within
returns-clause-within c =
    (mask_found (λ x. leb c.args.least x) c.args.bytes.now _ c.first_mark.result c.requires.long
    (least_mask c.args.bytes.now c.args.least c.requires.long) c.first_mark.ensures).within

pub returns-clause-none : goal.returns-clause-none
returns-clause-none c =
    (mask_found (λ x. leb c.args.least x) c.args.bytes.now _ c.first_mark.result c.requires.long
    (least_mask c.args.bytes.now c.args.least c.requires.long) c.first_mark.ensures).none
