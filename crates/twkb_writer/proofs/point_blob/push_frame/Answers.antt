use Rattle.std.proofs.Common.{◌∙◌}
use Rattle.twkb_writer.proofs.LoneBlobLemmas.{full_frame}
use Rattle.twkb_writer.proofs.point_blob.push_frame.Goals as goal

pub returns-in-Full-clause-value : goal.returns-in-Full-clause-value
returns-in-Full-clause-value c = full_frame c.args.style _ _ _ _ c.args.size c.in-Full.is
    (c.byte.ensures ∙ c.sized.ensures) c.requires.small c.push.ensures c.push-in-Full.ensures
