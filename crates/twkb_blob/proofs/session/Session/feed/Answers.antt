use Rattle.std.proofs.Common.{◌≡◌, [], rules}
use Rattle.std.proofs.lemmas.Result.{err_from_is_err_and}
use Rattle.twkb_tree.proofs.RowLaws.{one_geometry}
use Rattle.twkb_blob.specs.Sessions.{session_rows}
use Rattle.twkb_blob.proofs.Answering.{gave_tree, no_tree, not_none}
use Rattle.twkb_blob.proofs.session.Session.feed.Goals as goal
use Rattle.twkb_blob.proofs.session.Session.feed.Goals.{then-not-ends-via-then-not-ends}
use Rattle.twkb_blob.proofs.session.Session.feed.Goals.{then-not-ends-via-else-not-ends+then-is_empty}

pub returns-then-not-ends-clause-fed : goal.returns-then-not-ends-clause-fed
returns-then-not-ends-clause-fed c = λ bytes gs s.
    elim c.then-not-ends.branch [
      | then-not-ends-via-then-not-ends w ↦ rw w.if-not-ends.true at (c.in_ok-used.ensures.fed bytes gs s)
      | then-not-ends-via-else-not-ends+then-is_empty w ↦
          let none : session_rows c.feed_flat.new.self ≡ [] = search rules in
          let (g, fed, is) = rw w.if-not-ends.false at (c.in_ok-used.ensures.fed bytes gs s) in
          absurd (not_none (session_rows c.feed_flat.new.self) g is none)
    ]

pub returns-in_err-tree-clause-fed : goal.returns-in_err-tree-clause-fed
returns-in_err-tree-clause-fed c = λ bytes gs s.
    let part = no_tree s c.args.piece.now c.feed_flat.new.self c.in_ok-used.used c.feed_flat.ensures.limits
    (rw c.if-not-ends.false at (c.in_ok-used.ensures.fed bytes gs s)) in
    let p = err_from_is_err_and c.from_residual-in_err-tree.result c.from_residual-in_err-tree.ensures.1 in
    rw (p.1, p.2, c.in_err-tree.ensures.tree, c.tree.ensures.limits) part

pub returns-clause-fed : goal.returns-clause-fed
returns-clause-fed c = λ bytes gs s.
    let tree = c.in_ok-tree.ensures in
    rw tree.kept (gave_tree one_geometry bytes gs c.args.piece.now c.feed_flat.new.self c.in_ok-used.used
    c.in_ok-tree.field-0 (rw c.if-not-ends.false at (c.in_ok-used.ensures.fed bytes gs s)) tree.tree.0 tree.tree.1)
