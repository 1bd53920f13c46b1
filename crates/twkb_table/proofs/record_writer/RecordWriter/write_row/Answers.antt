use Rattle.std.proofs.Common.{◌≡◌, ◌∙◌, ap, ◌++◌, rules}
use Rattle.std.specs.Prelude.{pos, Some}
use Rattle.twkb_flat.specs.Rows.{row_with}
use Rattle.twkb_polyline.specs.Polyline.{polyline}
use Rattle.twkb_table.specs.Record.{optional}
use Rattle.twkb_table.proofs.LineLemmas.{row_written}
use Rattle.twkb_table.proofs.record_writer.RecordWriter.write_row.Goals as goal

pub returns : goal.returns
returns c =
    let depth : c.number_field.result.now ≡ optional (Some (pos c.args.row.now.depth)) = search rules in
    let precision : c.number_field-3.result.now ≡ optional c.args.row.now.precision = search rules in
    let line : c.as_slice.result.now ≡ polyline c.args.points.now = c.as_slice.ensures.value
    ∙ c.in_ok-encode_into.ensures.appended ∙ ap (λ t. t ++ polyline c.args.points.now)
    c.clear.ensures.items in
    row_written _ _ _ (row_with c.args.row.now c.args.points.now) _ _ _ _ _ depth c.word.ensures
    c.number_field-2.ensures.spelled precision line c.number_field.ensures.bare
    c.number_field-2.ensures.bare c.number_field-3.ensures.bare c.write_record.ensures
