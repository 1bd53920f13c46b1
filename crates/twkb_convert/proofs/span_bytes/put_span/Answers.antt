use Rattle.std.proofs.Common.{◌≡◌, ◌∙◌, ◌++◌, List, ℕ, OnOk, SFits, subst, rules, w8}
use Rattle.std.proofs.lemmas.Int.{to_z-of_z}
use Rattle.twkb_convert.specs.Listings.{span_bytes}
use Rattle.twkb_convert.proofs.ListingLemmas.{last_put, parts_put}
use Rattle.twkb_convert.proofs.span_bytes.put_span.Goals as goal

pub returns : goal.returns
returns c =
    let range : SFits w8 c.args.span.now.precision = search rules in
    let signed = simp (to_z-of_z w8 c.args.span.now.precision range) at c.cast_unsigned.ensures in
    let last = last_put c.args.span.now _ _ _ _ (c.byte-kind.ensures ∙ c.of.ensures.number) signed
    c.push_all-5.ensures in
    let whole : c.push_all-5.new.self ≡ span_bytes c.args.span.now = parts_put _ _ _ _ _ _ _ _ _ _ _
    c.new-piece.ensures
    (rw c.to_le_bytes.ensures at c.push_all.ensures)
    (rw c.to_le_bytes-2.ensures at c.push_all-2.ensures)
    (rw c.to_le_bytes-3.ensures at c.push_all-3.ensures)
    (rw c.to_le_bytes-4.ensures at c.push_all-4.ensures) last in
    let copied : OnOk c.extend_from_slice.result (c.extend_from_slice.new.self.items
    ≡ c.args.bytes.now.items ++ c.as_slice.result.now) = search rules in
    record {
      appended = subst (λ (t : List ℕ). OnOk c.extend_from_slice.result
          (c.extend_from_slice.new.self.items ≡ c.args.bytes.now.items ++ t)) (c.as_slice.ensures ∙ whole) copied;
    }
