use Rattle.std.proofs.Common.{eqb}
use Rattle.twkb_features.proofs.RunLemmas.{mask_found, equal_mask}
use Rattle.twkb_features.proofs.runs.run_without.Goals as goal

pub returns-clause-within : goal.returns-clause-within
returns-clause-within c =
    (mask_found (λ x. eqb x c.args.byte) c.args.bytes.now _ c.first_mark.result c.requires.long
    (equal_mask c.args.bytes.now c.args.byte c.requires.long) c.first_mark.ensures).within

pub returns-clause-none : goal.returns-clause-none
returns-clause-none c =
    (mask_found (λ x. eqb x c.args.byte) c.args.bytes.now _ c.first_mark.result c.requires.long
    (equal_mask c.args.bytes.now c.args.byte c.requires.long) c.first_mark.ensures).none
