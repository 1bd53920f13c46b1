use Rattle.std.proofs.Common.{◌≡◌, ◌∙◌, List, [], ◌∷◌, ◌++◌, ℕ, OnOk, SFits, ap, subst, rules, w8}
use Rattle.std.proofs.lemmas.Int.{to_z-of_z}
use Rattle.twkb_convert.proofs.ListingLemmas.{hex_put, words_put}
use Rattle.twkb_convert.specs.Listings.{span_line}
use Rattle.twkb_convert.proofs.span_line.put_line.Goals as goal

pub returns : goal.returns
returns c =
    let fits : SFits w8 c.args.span.now.precision = search rules in
    let level = rw c.from.ensures at c.push_count.ensures.appended in
    let kind = c.push_kind.ensures.appended in
    let precision = simp (to_z-of_z w8 c.args.span.now.precision fits) at c.push_precision.ensures.appended in
    let metadata = hex_put _ _ _ _ c.args.span.now.metadata (rw c.hex_digit.ensures at c.push.ensures)
    (rw c.hex_digit-2.ensures at c.push-2.ensures) c.push-3.ensures in
    let line : c.push_count-3.new.line ≡ c.new-line.result ++ span_line c.args.span.now =
    c.push_count-3.ensures.appended
    ∙ words_put c.new-line.result (32 ∷ []) _ _ _ _ _ _ _ _ _ _ _ _ _
    level c.push_number.ensures.appended kind
    precision metadata c.push_count-2.ensures.appended in
    let whole = c.as_slice.ensures ∙ line ∙ ap (λ (t : List ℕ). t ++ span_line c.args.span.now) c.new-line.ensures in
    let copied : OnOk c.extend_from_slice.result (c.extend_from_slice.new.self.items
    ≡ c.args.text.now.items ++ c.as_slice.result.now) = search rules in
    record {
      appended = subst (λ (t : List ℕ). OnOk c.extend_from_slice.result
          (c.extend_from_slice.new.self.items ≡ c.args.text.now.items ++ t)) whole copied;
    }
