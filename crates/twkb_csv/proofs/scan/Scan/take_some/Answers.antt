use Rattle.std.proofs.Common.{◌≡◌, ◌∙◌, ◌-◌, arith, drop, length, length-drop, refl, take}
use Rattle.std.proofs.lemmas.List.{take_all}
use Rattle.twkb_csv.specs.Scan.{stand_of}
use Rattle.twkb_csv.proofs.ScanLemmas.{goes_both, goes_run_to}
use Rattle.twkb_csv.proofs.scan.Scan.take_some.Goals as goal

pub returns-in_err-take_byte-clause-goes : goal.returns-in_err-take_byte-clause-goes
returns-in_err-take_byte-clause-goes c =
    let tail : take (length c.args.bytes.now - c.args.at.now)
    (drop c.args.at.now c.args.bytes.now) ≡ drop c.args.at.now c.args.bytes.now =
    take_all _ _ (omega (arith, length-drop c.args.at.now c.args.bytes.now)) in
    goes_run_to c.args.self.now.column (stand_of c.args.self.now) _
    c.args.text.now.items _ c.args.bytes.now c.args.at.now c.in_ok-count.count (rw tail at c.in_ok-count.ensures.joins)
    (c.in_err-take_byte.ensures.same ∙ (rw tail at c.in_ok-count.ensures.ok)) c.in_err-take_byte.ensures.none

pub returns-in_ok-take_byte-clause-goes : goal.returns-in_ok-take_byte-clause-goes
returns-in_ok-take_byte-clause-goes c =
    let tail : take (length c.args.bytes.now - c.args.at.now)
    (drop c.args.at.now c.args.bytes.now) ≡ drop c.args.at.now c.args.bytes.now =
    take_all _ _ (omega (arith, length-drop c.args.at.now c.args.bytes.now)) in
    goes_both c.args.self.now.column _ (stand_of c.args.self.now) _ _
    c.args.text.now.items _ c.args.bytes.now c.args.at.now c.in_ok-count.count _ c.in_ok-count.ensures.column
    (rw tail at c.in_ok-count.ensures.joins) (rw tail at c.in_ok-count.ensures.ok)
    (omega arith) refl c.in_ok-take_byte.ensures.ok
    c.in_ok-take_byte.ensures.text

pub returns-else-at-bytes-clause-goes : goal.returns-else-at-bytes-clause-goes
returns-else-at-bytes-clause-goes c =
    let tail : take (length c.args.bytes.now - c.args.at.now)
    (drop c.args.at.now c.args.bytes.now) ≡ drop c.args.at.now c.args.bytes.now =
    take_all _ _ (omega (arith, length-drop c.args.at.now c.args.bytes.now)) in
    goes_run_to c.args.self.now.column (stand_of c.args.self.now) _
    c.args.text.now.items _ c.args.bytes.now c.args.at.now c.in_ok-count.count (rw tail at c.in_ok-count.ensures.joins)
    (rw tail at c.in_ok-count.ensures.ok) refl
