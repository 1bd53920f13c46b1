use Rattle.std.specs.Prelude.{◌≢◌}
use Rattle.std.proofs.Common.{◌≡◌, ◌∙◌, ℕ, ◌-◌, List, ◌++◌, length, min, take, drop, set, ap, rules}
use Rattle.twkb_buffer.proofs.RunLemmas.{put_text}
use Rattle.twkb_buffer.proofs.reason_texts.put.Goals as goal

pub returns-then-not-is_empty-clause-copied : goal.returns-then-not-is_empty-clause-copied
returns-then-not-is_empty-clause-copied c =
    let some : length c.args.text.now ≢ 0 = search rules in
    let least : c.min-count.result ≡ min (length c.args.words.now) (length c.args.text.now - 1) = search rules in
    let front : c.copy_from_slice.new.self ≡ take c.min-count.result c.args.words.now = search rules in
    ap (λ (xs : List ℕ). xs ++ drop c.min-count.result (set c.args.text.now c.min-count.result 0))
    front ∙ put_text c.args.words.now c.args.text.now c.min-count.result some least
