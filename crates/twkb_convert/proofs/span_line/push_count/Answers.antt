use Rattle.std.proofs.Common.{◌≡◌, ◌∙◌, List, [], ◌∷◌, ◌++◌, ℕ, ◌+◌, ◌/◌, ◌%◌, ◌<◌, ◌≤◌, ap, sym, append_assoc, arith}
use Rattle.std.proofs.Common.{decimal, length, length-append}
use Rattle.std.proofs.lemmas.Fmt.{decimal_digit, decimal_step}
use Rattle.twkb_convert.specs.Listings.{Adds}
use Rattle.twkb_convert.proofs.span_line.push_count.Goals as goal
use Rattle.twkb_convert.proofs.span_line.push_count.Goals.{then-count-lt10, else-count-lt10+then-count-lt100}
use Rattle.twkb_convert.proofs.span_line.push_count.Goals.{else-count-lt10+else-count-lt100}

-- a number with one digit
one_digit : (old new : List ℕ) (n : ℕ) → n < 10 → new ≡ old ++ (48 + n) ∷ []
    → (new ≡ old ++ decimal n) × (length new ≤ length old + 20)
one_digit old new n few is = (
  is ∙ ap (λ (t : List ℕ). old ++ t) (sym (decimal_digit n few)),
  omega (arith, ap length is, length-append old ((48 + n) ∷ [])),
)

-- a number with two digits is the tens and then the ones
two_digits : (old first new : List ℕ) (n : ℕ) → 10 ≤ n → n < 100 → first ≡ old ++ (48 + n / 10) ∷ []
    → new ≡ first ++ (48 + n % 10) ∷ [] → (new ≡ old ++ decimal n) × (length new ≤ length old + 20)
two_digits old first new n some few tens ones =
    let spelled : decimal n ≡ (48 + n / 10) ∷ (48 + n % 10) ∷ [] = decimal_step n some (omega (arith, few))
    ∙ ap (λ (t : List ℕ). t ++ (48 + n % 10) ∷ []) (decimal_digit (n / 10) (omega (arith, few))) in (
      ones ∙ ap (λ (t : List ℕ). t ++ (48 + n % 10) ∷ []) tens
          ∙ append_assoc old ((48 + n / 10) ∷ []) ((48 + n % 10) ∷ []) ∙ ap (λ (t : List ℕ). old ++ t) (sym spelled),
      omega (
        arith,
        ap length ones,
        length-append first ((48 + n % 10) ∷ []),
        ap length tens,
        length-append old ((48 + n / 10) ∷ []),
      ),
    )

-- a byte after a number
ended : (old mid new text : List ℕ) (end : ℕ) → (mid ≡ old ++ text) × (length mid ≤ length old + 20)
    → new ≡ mid ++ end ∷ [] → Adds 21 old (text ++ end ∷ []) new
ended old mid new text end (is, few) last = record {
  appended = last ∙ ap (λ (t : List ℕ). t ++ end ∷ []) is ∙ append_assoc old text (end ∷ []);
  few = omega (arith, few, ap length last, length-append mid (end ∷ []));
}

pub returns : goal.returns
returns c = ended c.args.line.now c.if-count-lt10.line _ (decimal c.args.count) c.args.end
    (elim c.if-count-lt10.branch [
      | then-count-lt10 w ↦ one_digit c.args.line.now c.if-count-lt10.line c.args.count w.if-count-lt10.true
          (w.line-is ∙ w.push.ensures)
      | else-count-lt10+then-count-lt100 w ↦ two_digits c.args.line.now w.push-then-count-lt100.new.self
          c.if-count-lt10.line c.args.count w.if-count-lt10.false w.if-count-lt100.true w.push-then-count-lt100.ensures
          (w.line-is ∙ w.push-then-count-lt100-2.ensures)
      | else-count-lt10+else-count-lt100 w ↦ (
        w.line-is ∙ w.push_number.ensures.appended,
        omega (arith, ap length w.line-is, w.push_number.ensures.most),
      )
    ]) c.push-2.ensures
