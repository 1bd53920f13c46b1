use Rattle.std.proofs.Common.{◌∙◌, ◌++◌, ◌∷◌, [], List, ap, arith, length, sym, take}
use Rattle.twkb_tree.specs.Rows.{Row}
use Rattle.twkb_blob.specs.Sessions.{session_limits}
use Rattle.twkb_arrays.proofs.ArrayLemmas.{length-rest_of, rest_of}
use Rattle.twkb_arrays.proofs.EndLemmas.{end_kept}
use Rattle.twkb_arrays.proofs.ReadingLemmas.{fed_all, fed_whole, has_taken_kept, no_further, reached, stopped}
use Rattle.twkb_arrays.proofs.ReadingLemmas.{stream_there, took, went_on}
use Rattle.twkb_arrays.proofs.TakingLemmas.{some_rows}
use Rattle.twkb_arrays.proofs.filled_arrays.read_next.Goals as goal

pub take_geometry-requires-clause-some : goal.take_geometry-requires-clause-some
take_geometry-requires-clause-some c =
    let bytes = take c.args.used c.args.blobs.now in
    let fed = fed_whole bytes c.requires.stands.0 (rest_of c.args.blobs.now c.args.used) c.in-Ok-default-true.more
    c.in-Ok-default-true.field-0-1 c.feed_flat.new.self
    (c.in-Ok-default-true.ensures.fed bytes c.requires.stands.0 c.requires.stands.1)
    c.in-Ok-default-true.field-0-1-test in
    omega (arith, some_rows fed.0, ap (λ (rs : List Row). length rs) (c.rows.ensures ∙ fed.2))

pub returns-in-Ok-default-true-clause-more : goal.returns-in-Ok-default-true-clause-more
returns-in-Ok-default-true-clause-more c =
    let bytes = take c.args.used c.args.blobs.now in
    let fed = fed_whole bytes c.requires.stands.0 (rest_of c.args.blobs.now c.args.used) c.in-Ok-default-true.more
    c.in-Ok-default-true.field-0-1 c.feed_flat.new.self
    (c.in-Ok-default-true.ensures.fed bytes c.requires.stands.0 c.requires.stands.1)
    c.in-Ok-default-true.field-0-1-test in
    let some = fed.1.0 in
    let most = fed.1.1 in
    let count = length-rest_of c.args.blobs.now c.args.used in (
      omega (arith, some),
      omega (arith, most, count, c.requires.left),
    )

pub returns-in-Ok-default-true-clause-reads : goal.returns-in-Ok-default-true-clause-reads
returns-in-Ok-default-true-clause-reads c = λ start_rows start_points start_ends r.
    let l = session_limits c.args.session.now in
    let bytes = take c.args.used c.args.blobs.now in
    let rest = rest_of c.args.blobs.now c.args.used in
    let more = c.in-Ok-default-true.more in
    let fed = fed_whole bytes (r.0 ++ r.1) rest more c.in-Ok-default-true.field-0-1 c.feed_flat.new.self
    (c.in-Ok-default-true.ensures.fed bytes (r.0 ++ r.1) r.2) c.in-Ok-default-true.field-0-1-test in
    took c.args.blobs.now c.args.used more (r.0 ++ r.1) fed.0 fed.1.3
    (c.take_geometry.ensures.takes l (bytes ++ take more rest) start_rows start_points start_ends r.0 r.1
    fed.0 (has_taken_kept (λ gs n. end_kept l bytes (take more rest) gs n) r.3)
    (sym (c.rows.ensures ∙ fed.2))
    (reached c.feed_flat.new.self l c.args.blobs.now c.args.used more ((r.0 ++ r.1) ++ fed.0 ∷ [])
    c.feed_flat.ensures.limits
    (omega (arith, c.requires.left)) fed.1.1 fed.1.2))

pub returns-in-Ok-default-true-clause-passes : goal.returns-in-Ok-default-true-clause-passes
returns-in-Ok-default-true-clause-passes c = λ passed.
    let blobs = c.args.blobs.now in
    let bytes = take c.args.used blobs in
    let gs = c.requires.stands.0 in
    let fed = fed_whole bytes gs (rest_of blobs c.args.used) c.in-Ok-default-true.more
    c.in-Ok-default-true.field-0-1 c.feed_flat.new.self
    (c.in-Ok-default-true.ensures.fed bytes gs c.requires.stands.1) c.in-Ok-default-true.field-0-1-test in (
      gs ++ fed.0 ∷ [],
      stream_there c.feed_flat.new.self (session_limits c.args.session.now) blobs c.args.used
          c.in-Ok-default-true.more (gs ++ fed.0 ∷ []) c.feed_flat.ensures.limits fed.1.2,
    )

pub returns-in-Ok-default-false-clause-more : goal.returns-in-Ok-default-false-clause-more
returns-in-Ok-default-false-clause-more c =
    let bytes = take c.args.used c.args.blobs.now in
    let fed = fed_all bytes c.requires.stands.0 (rest_of c.args.blobs.now c.args.used) c.in-Ok-default-false.more
    c.in-Ok-default-false.field-0-1 c.feed_flat.new.self
    (c.in-Ok-default-false.ensures.fed bytes c.requires.stands.0 c.requires.stands.1)
    c.in-Ok-default-false.field-0-1-test in
    let all = fed.0 in
    let count = length-rest_of c.args.blobs.now c.args.used in (
      omega (arith, all, count, c.requires.left),
      omega (arith, all, count, c.requires.left),
    )

pub returns-in-Ok-default-false-clause-reads : goal.returns-in-Ok-default-false-clause-reads
returns-in-Ok-default-false-clause-reads c = λ start_rows start_points start_ends r.
    let bytes = take c.args.used c.args.blobs.now in
    let fed = fed_all bytes (r.0 ++ r.1) (rest_of c.args.blobs.now c.args.used) c.in-Ok-default-false.more
    c.in-Ok-default-false.field-0-1 c.feed_flat.new.self
    (c.in-Ok-default-false.ensures.fed bytes (r.0 ++ r.1) r.2)
    c.in-Ok-default-false.field-0-1-test in
    went_on c.args.blobs.now c.args.used c.in-Ok-default-false.more fed.0 fed.1 r.3

pub returns-in-Err-clause-stops : goal.returns-in-Err-clause-stops
returns-in-Err-clause-stops c = λ start_rows start_points start_ends r. (
  r.0,
  r.1,
  no_further c.args.blobs.now c.args.used r.3,
  stopped c.args.blobs.now c.args.used c.feed_flat.new.self c.in-Err.fault r.2
      c.feed_flat.ensures.limits
      (c.in-Err.ensures.fed (take c.args.used c.args.blobs.now) (r.0 ++ r.1) r.2),
)
