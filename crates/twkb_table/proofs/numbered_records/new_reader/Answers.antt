use Rattle.std.proofs.Common.{◌∙◌, inr}
use Rattle.twkb_table.proofs.RowReaderLemmas.{given_none}
use Rattle.twkb_table.proofs.numbered_records.new_reader.Goals as goal

pub returns : goal.returns
returns g c =
    let made = c.from_reader.ensures in
    let headers = c.has_headers.ensures in
    let flexible = c.flexible.ensures in (
      (
        rw (flexible, headers) at made.trim ∙ c.new.ensures.trim,
        inr (inr (rw (flexible, headers) at made.has_headers, made.headers)),
        rw flexible at made.flexible,
        rw (flexible, headers) at made.config ∙ c.new.ensures.config,
      ),
      given_none g.R.Read.remaining _ c.from_reader.result made.source made.state,
    )
