use Rattle.std.proofs.Common.{◌≡◌, ◌+◌, ◌++◌, ◌∷◌, [], take, ap, sym, ◌∙◌}
use Rattle.std.specs.Prelude.{slice_set}
use Rattle.std.proofs.lemmas.List.{length-set, take_more}
use Rattle.twkb_points.specs.Point.{Point}
use Rattle.twkb_buffer.specs.declared.point.BufferPoint.{BufferPoint}
use Rattle.twkb_arrays.proofs.ArrayLemmas.{point_written}
use Rattle.twkb_arrays.proofs.copied_form.put_points.Goals as goal

pub loop-at-preserved : goal.loop-at-preserved
loop-at-preserved c =
    let own = c.args.own.now in
    let i = c.loop-at.at in
    let p = c.index-own-at.result in
    let next : take (i + 1) own ≡ take i own ++ p ∷ [] = take_more own i p c.loop-at-test.true
    ∙ ap (λ (q : Point). take i own ++ q ∷ []) (sym c.index-own-at.is) in (
      length-set c.loop-at.points i c.as_coordinates.result ∙ c.loop-at.invariant.0,
      ap (λ (d : BufferPoint). take (i + 1) (slice_set c.loop-at.points i d)) c.as_coordinates.ensures
          ∙ point_written own i p c.loop-at.points c.loop-at-test.true c.loop-at.invariant.0 c.loop-at.invariant.1 next,
    )
