use Rattle.std.proofs.Common.{◌+◌, sym, subst, rules}
use Rattle.std.proofs.lemmas.Result.{err_from_is_err_and}
use Rattle.twkb_grammar.specs.Roles as role
use Rattle.twkb_body.specs.Outline.{outline_ends, outline_advanced}
use Rattle.twkb_body.specs.HeaderParts.{Passes}
use Rattle.twkb_engine.specs.State.{stage_at}
use Rattle.twkb_engine.specs.Collections.{frames_of}
use Rattle.twkb_engine.specs.Taking.{IsFree}
use Rattle.twkb_engine.proofs.Items.{took}
use Rattle.twkb_engine.proofs.engine.Engine.type_byte.Goals as goal

pub returns-in_err-begin_geometry : goal.returns-in_err-begin_geometry
returns-in_err-begin_geometry g c = λ rs.
    let d = c.args.self.now in
    let n = c.args.number in
    let p = err_from_is_err_and c.from_residual.result c.from_residual.ensures.1 in
    let free : IsFree role.Header n d = search rules in
    rw (p.1, p.2) (took (
      free,
      subst (λ i. Passes (outline_ends (d.bytes + 1)
          (outline_advanced (d.bytes + 1) n (frames_of d.collections, stage_at i d)))) (sym c.requires.next) tt,
    )
    tt (λ at. tt) (search rules))
