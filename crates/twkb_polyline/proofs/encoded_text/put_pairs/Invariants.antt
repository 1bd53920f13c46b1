-- The pairs so far were appended to the text, some of them in the piece, and the cursor is at the
-- last of them.
use Rattle.std.proofs.Common.{◌≡◌, ℕ, List, ◌++◌, drop}
use Rattle.twkb_polyline.specs.Polyline.{points_of}
use Rattle.twkb_polyline.proofs.TextLemmas.{HasPut}
use Rattle.twkb_polyline.proofs.encoded_text.put_pairs.Given as goal

abbrev pub invariant-loop-pair : goal.invariant-loop-pair
invariant-loop-pair l =
    record {
      put : HasPut l.fn.cursor (points_of l.pairs) (points_of (drop l.pair-index l.pairs)) l.moved
          l.fn.text.items (l.text.items ++ l.piece);
      grown : (more : List ℕ) × (l.text.items ≡ l.fn.text.items ++ more);
    }
