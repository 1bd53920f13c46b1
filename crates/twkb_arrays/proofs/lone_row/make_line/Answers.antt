use Rattle.std.proofs.Common.{◌∙◌, sym}
use Rattle.twkb_arrays.proofs.TakingLemmas.{line_made, precision_passed}
use Rattle.twkb_arrays.proofs.lone_row.make_line.Goals as goal

pub returns : goal.returns
returns c = line_made c.args.limits c.args.style c.args.row.now c.args.ahead.now _ _ c.requires
    (precision_passed c.args.row.now.precision c.requires.alone.has_precision)
    (sym c.are_in_range.ensures ∙ c.if-not-are_in_range.false) c.in_ok-make_line.ensures
