use Rattle.std.proofs.Common.{arith, ◌∙◌, ap, ◌≤◌, length, drop, map, take, w8, ltb, eqb}
use lib.Lanes.{mask_l, zip2}
use lib.ListN.{replicate}
use Rattle.std.proofs.lemmas.List.{length-drop}
use Rattle.std.proofs.lemmas.Simd.{bitmask_splat}
use Rattle.twkb_num.proofs.FoundLemmas.{mask_small}
use Rattle.twkb_num.proofs.ZigzagLemmas.{wrapped_sub, lanes_are, above_is, length-lanes}
use Rattle.twkb_num.proofs.block.sixteen.Goals as goal

pub returns-clause-marks : goal.returns-clause-marks
returns-clause-marks c =
    let bytes = drop c.args.at c.args.bytes.now in
    let enough : 16 ≤ length bytes = omega (arith, length-drop c.args.at c.args.bytes.now, c.requires) in
    let units = zip2 wrapped_sub (take 16 bytes) (replicate 16 c.args.alphabet.base) in
    let long = length-lanes c.args.alphabet.base bytes enough in
    let are = lanes_are c.args.alphabet.base bytes enough in
    record {
      ends = bitmask_splat w8 ltb units 16 c.args.alphabet.radix long (omega arith)
          ∙ ap (λ us. mask_l (map (λ u. ltb u c.args.alphabet.radix) us)) are;
      zeros = bitmask_splat w8 eqb units 16 0 long (omega arith) ∙ ap (λ us. mask_l (map (λ u. eqb u 0) us)) are;
      bad = above_is units c.args.alphabet.most long ∙ ap (λ us. mask_l (map (λ u. ltb c.args.alphabet.most u) us)) are;
    }

pub returns-clause-small : goal.returns-clause-small
returns-clause-small c =
    let bytes = drop c.args.at c.args.bytes.now in
    let enough : 16 ≤ length bytes = omega (arith, length-drop c.args.at c.args.bytes.now, c.requires) in
    let marks = returns-clause-marks c in
    record {
      ends = mask_small _ c.args.alphabet.base 16 _ bytes enough marks.ends;
      zeros = mask_small _ c.args.alphabet.base 16 _ bytes enough marks.zeros;
      bad = mask_small _ c.args.alphabet.base 16 _ bytes enough marks.bad;
    }
