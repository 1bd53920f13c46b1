use Rattle.std.proofs.Common.{◌≡◌, ◌∙◌, w64, SFits, rules}
use Rattle.std.proofs.lemmas.Int.{to_z-of_z}
use Rattle.std.specs.Cmp.Lexicographic.{other_text}
use Rattle.std.specs.Fmt.{signed_decimal}
use Rattle.twkb_table.proofs.FieldLemmas.{no_text, no_number, other_spelling}
use Rattle.twkb_table.proofs.decimal.read_decimal.Goals as goal

pub returns-in_default : goal.returns-in_default
returns-in_default c = record { reads = no_text c.args.field.now c.in_default.ensures.cases.0 }

pub returns-in_default-parse : goal.returns-in_default-parse
returns-in_default-parse c =
    record {
      reads = no_number c.in-Ok.text.now c.args.field.now c.parse.result
          c.in_default-parse.field-0 c.parse.ensures.value.0 c.in_default-parse.is
          c.in-Ok.ensures.cases.0;
    }

pub returns-else-eq : goal.returns-else-eq
returns-else-eq c =
    let fits : SFits w64 c.in-Ok-parse.number = search rules in
    let printed = c.as_bytes.ensures.value ∙ (simp to_z-of_z at c.format.ensures.text) in
    let differs = λ (same : signed_decimal c.in-Ok-parse.number ≡ c.args.field.now).
    other_text c.as_bytes.result.now c.args.field.now c.if-eq.ensures (printed ∙ same) in
    record {
      reads = other_spelling c.in-Ok.text.now c.args.field.now c.parse.result
          c.in-Ok-parse.number c.parse.ensures.value.0 c.in-Ok-parse.is
          c.in-Ok.ensures.cases.0 differs;
    }
