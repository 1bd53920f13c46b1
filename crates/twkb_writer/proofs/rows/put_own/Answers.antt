use Rattle.std.proofs.Common.{◌≡◌, ◌∙◌, sym, false}
use Rattle.twkb_writer.specs.Bytes.{is_bare}
use Rattle.twkb_writer.proofs.PutLemmas.{reads_if}
use Rattle.twkb_writer.proofs.rows.put_own.Goals as goal

pub returns-clause-put : goal.returns-clause-put
returns-clause-put g c =
    let bare : is_bare c.args.at.now.node.points c.args.entry.now ≡ false =
    sym c.has_no_body.ensures ∙ c.if-has_no_body.false in
    rw bare c.put_counts.ensures.put

pub returns-clause-reads : goal.returns-clause-reads
returns-clause-reads g c = reads_if c.args.entry.now.named _ _ _ c.put_counts.ensures.reads
