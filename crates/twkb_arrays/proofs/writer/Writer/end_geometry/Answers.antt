use Rattle.std.proofs.Common.{◌∙◌, ℕ, List, ap, arith, length}
use Rattle.twkb_tree.specs.Limits.{largest_limits}
use Rattle.twkb_arrays.proofs.WritingLemmas.{counted, some_bytes, ended_one, one_of, not_empty}
use Rattle.twkb_arrays.proofs.writer.Writer.end_geometry.Goals as goal

pub send-goes_on-requires-clause-some : goal.send-goes_on-requires-clause-some
send-goes_on-requires-clause-some c =
    let one = one_of largest_limits c.args.self.now.open_geometry
    (not_empty c.args.self.now.open_geometry c.is_empty.result c.if-is_empty.false c.is_empty.ensures.value)
    c.is_empty.ensures.sound in
    omega (
      arith,
      some_bytes c.args.style one.0,
      ap (λ (xs : List ℕ). length xs) (c.in_ok-make.ensures one.0 one.1.tree one.2),
    )

pub returns-clause-ended : goal.returns-clause-ended
returns-clause-ended c = λ l start start_ends in_rows in_points many w.
    ended_one w _ _
    (not_empty c.args.self.now.open_geometry c.is_empty.result c.if-is_empty.false c.is_empty.ensures.value)
    (λ g tree same. c.in_ok-make.ensures g tree same)
    (λ g h same. c.send-goes_on.ensures.sends c.args.style start start_ends w.given w.later g h
    (counted w.read many) same)
    c.clear.ensures
