use Rattle.std.proofs.Common.{refl, rules, arith}
use Rattle.twkb_hex.proofs.DigitLemmas.{all_decoded, odd_refused, some_decoded}
use Rattle.twkb_hex.proofs.digits.decode.Goals as goal

pub returns-then-digits-eq1-clause-err : goal.returns-then-digits-eq1-clause-err
returns-then-digits-eq1-clause-err c = rw c.refused_rest.ensures (odd_refused c.args.digits.now _ _ _
    (let odd = c.if-digits-eq1.true in omega (arith, odd)) c.in_ok-decode_pairs.ensures.ok refl)

pub returns-clause-some : goal.returns-clause-some
returns-clause-some c = some_decoded c.args.digits.now _
    (all_decoded c.args.digits.now _ _ (let even = c.if-digits-eq1.false in omega (arith, even))
    c.in_ok-decode_pairs.ensures.ok) (search rules)
