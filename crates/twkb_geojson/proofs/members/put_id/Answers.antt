use Rattle.std.proofs.Common.{FitsSigned, w64, ◌∙◌, ap, ◌++◌, sym}
use Rattle.std.proofs.lemmas.Int.{to_z-of_z}
use Rattle.std.specs.Fmt.{signed_decimal}
use Rattle.twkb_geojson.proofs.ListLemmas.{number_text}
use Rattle.twkb_geojson.proofs.members.put_id.Goals as goal

pub returns-clause-appended : goal.returns-clause-appended
returns-clause-appended c =
    let fits : FitsSigned w64 c.args.id = c.ranges.id in
    let printed = c.as_bytes.ensures.value ∙ (simp to_z-of_z at c.format.ensures.text) in
    c.in_ok-extend_from_slice.ensures.items
    ∙ ap (λ l. c.args.text.now.items ++ l) (printed ∙ sym (number_text (signed_decimal c.args.id)))
