use Rattle.std.proofs.Common.{rules, ◌≡◌, refl, arith}
use Rattle.twkb_tree.specs.declared.kind.Kind.TheVariants as kinds
use Rattle.std.proofs.lemmas.Result.{err_from_is_err_and}
use Rattle.twkb_engine.proofs.Points.{none_taken, members_stop, members_taken}
use Rattle.twkb_engine.proofs.engine.Engine.take_members.Goals as goal

pub returns-then-ne-clause-taken : goal.returns-then-ne-clause-taken
returns-then-ne-clause-taken c = none_taken

pub returns-in_err-taken-clause-taken : goal.returns-in_err-taken-clause-taken
returns-in_err-taken-clause-taken c =
    let d = c.args.self.now in
    let kind : d.head.kind ≡ kinds.MultiPoint = search rules in
    members_stop c.args.flat.now d c.requires.next kind c.requires.alone
    (err_from_is_err_and c.from_residual.result c.from_residual.ensures.1).1
    (record { limits = refl; start = refl; held = refl })
    (c.in_err-taken.ensures.taken d.head (omega arith))

pub returns-clause-taken : goal.returns-clause-taken
returns-clause-taken c =
    let d = c.args.self.now in
    let t = c.in_ok-taken.taken in
    let kind : d.head.kind ≡ kinds.MultiPoint = search rules in
    let run = c.in_ok-taken.ensures.taken in
    members_taken c.args.flat.now d c.requires.next kind c.requires.alone c.take_members.new.flat _ t.used
    c.in_ok-taken.left t.position refl run.within (run.run d.head (omega arith))
