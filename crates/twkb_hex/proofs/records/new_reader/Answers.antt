use Rattle.std.proofs.Common.{◌∙◌, inr}
use Rattle.twkb_hex.proofs.RecordLemmas.{given_none}
use Rattle.twkb_hex.proofs.records.new_reader.Goals as goal

pub returns : goal.returns
returns g c =
    let made = c.from_reader.ensures in
    let headers = c.has_headers.ensures in
    let flexible = c.flexible.ensures in
    let delimiter = c.delimiter.ensures in (
      (
        rw (delimiter, flexible, headers) at made.trim ∙ c.new.ensures.trim,
        inr (inr (rw (delimiter, flexible, headers) at made.has_headers, made.headers)),
        rw (delimiter, flexible) at made.flexible,
        rw (delimiter, flexible, headers, c.new.ensures.config) at made.config,
      ),
      given_none _ g.R.Read.remaining _ c.from_reader.result made.source made.state,
    )
