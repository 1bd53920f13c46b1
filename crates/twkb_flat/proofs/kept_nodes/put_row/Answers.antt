use Rattle.std.proofs.Common.{◌<◌, ◌^◌, length, ap, ◌∙◌, arith, rules}
use Rattle.std.proofs.lemmas.List.{length-append}
use Rattle.twkb_flat.proofs.PushLemmas.{cut_back, put_as}
use Rattle.twkb_flat.proofs.kept_nodes.put_row.Goals as goal

pub overflow_cast-placed : goal.overflow_cast-placed
overflow_cast-placed g c =
    let own = c.in_default.ensures.given in
    let room = c.requires.room own.0 own.2 in
    let few : c.len.result < 2 ^ 32 = omega (
      arith,
      room,
      c.len.ensures
          ∙ c.append_to.new.points.ok.0,
      ap length own.1,
      length-append c.args.points.now.items own.0,
    )
    in
    search rules

pub returns-clause-put : goal.returns-clause-put
returns-clause-put g c =
    let own = c.in_default.ensures.given in (
      own.0,
      put_as c.args.kept.now.items c.push.new.self.items c.args.points.now.items own.0
          c.append_to.new.points.items c.len-first.result c.len.result c.args.row
          (c.len-first.ensures ∙ c.args.points.now.ok.0)
          (c.len.ensures ∙ c.append_to.new.points.ok.0) own.1 c.in-Ok.ensures.items,
      own.2,
    )

pub returns-in_default-push-clause-no_point : goal.returns-in_default-push-clause-no_point
returns-in_default-push-clause-no_point g c =
    let own = c.in_default.ensures.given in
    cut_back c.args.points.now.items own.0 c.append_to.new.points.items c.truncate.new.self.items
    c.len-first.result (c.len-first.ensures ∙ c.args.points.now.ok.0) own.1
    c.truncate.ensures.items
