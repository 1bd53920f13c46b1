use Rattle.std.proofs.Common.{sym, ◌∙◌}
use Rattle.twkb_body.proofs.HeaderParts.{parts_whole}
use Rattle.twkb_body.proofs.optional_parts.front_parts.Goals as goal

pub returns : goal.returns
returns c = parts_whole c.args.metadata c.args.bytes.now c.in_ok-size.size c.in_ok-size.from
    c.in_ok-sides.sides (sym c.has_extended.ensures ∙ c.if-has_extended.false) c.in_ok-size.ensures
    c.in_ok-sides.ensures
