use Rattle.std.proofs.Common.{◌≡◌, ◌⊎◌, ◌<◌, ◌≤◌, ◌∙◌, [], length, true, inl, inr, sym, ap, arith, rules}
use Rattle.twkb_grammar.proofs.Running.{deep_refused}
use Rattle.twkb_tree.specs.declared.kind.Kind.TheVariants.{Collection}
use Rattle.twkb_body.specs.Header.{many_of}
use Rattle.twkb_engine.specs.State.{sums_of}
use Rattle.twkb_engine.specs.Collections.{frames_of}
use Rattle.twkb_engine.specs.Fits.{item_fits, has_members}
use Rattle.twkb_engine.proofs.Items.{frames_length}
use Rattle.twkb_engine.proofs.Parts.{members_allowed, collection_is}
use Rattle.twkb_engine.proofs.engine.Engine.too_many_members.Goals as goal
use Rattle.twkb_engine.proofs.engine.Engine.too_many_members.Goals.{else-eq-via-then-eq+then-count-gt0+else-len-nest}
use Rattle.twkb_engine.proofs.engine.Engine.too_many_members.Goals.{else-eq-via-then-eq+else-count-gt0}
use Rattle.twkb_engine.proofs.engine.Engine.too_many_members.Goals.{else-eq-via-else-eq}

pub returns-then-len-nest : goal.returns-then-len-nest
returns-then-len-nest c =
    let d = c.args.self.now in
    let is : d.head.kind ≡ Collection = search rules in
    rw is (deep_refused _ (length (frames_of d.collections)) _ _
    (omega (
      arith,
      frames_length [] d.collections,
      c.len.ensures,
      c.nest-nest.ensures.value,
      c.if-len-nest.true,
    )) c.if-count-gt0.true)

pub returns : goal.returns
returns c =
    let d = c.args.self.now in
    let has : has_members d.head.kind ≡ true = sym (ap (λ i. item_fits i d.head.kind) c.requires.next) ∙ d.item_fits in
    let deep : d.head.kind ≡ Collection → (length (frames_of d.collections) < d.limits.nest)
    ⊎ (c.args.count ≤ 0) = λ is. elim c.else-eq.branch [
      | else-eq-via-then-eq+then-count-gt0+else-len-nest w ↦ inl
          (omega (
            arith,
            frames_length [] d.collections,
            w.len.ensures,
            c.nest-nest.ensures.value,
            w.if-len-nest.false,
          ))
      | else-eq-via-then-eq+else-count-gt0 w ↦ inr w.if-count-gt0.false
      | else-eq-via-else-eq w ↦ absurd (search rules)
    ] in
    members_allowed d.limits (sums_of d) (many_of d.head.kind) (length (frames_of d.collections))
    c.args.count c.args.points _ c.requires.points (λ m. deep (collection_is d.head.kind has m))
    c.too_many.ensures
