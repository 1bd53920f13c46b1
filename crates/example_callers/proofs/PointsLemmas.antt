-- The points of blobs that a reader gave, counted.
use Rattle.std.proofs.Common.{◌≡◌, ◌∙◌, ◌+◌, ℕ, List, [], ◌∷◌, ◌++◌, Option, length, arith, refl, sym, subst}
use Rattle.std.proofs.Common.{length-append, false}
use Rattle.std.specs.Prelude.{Some, Ok}
use Rattle.std.proofs.lemmas.List.{append-nil}
use Rattle.std.proofs.KnownBytes.{Consumes-trans}
use Rattle.std.specs.Io.KnownBytes.{Consumes}
use Rattle.std.specs.declared.io.traits.Read.{Ghosts}
use Rattle.twkb_tree.specs.Tree.{Tree, flat, saturated}
use Rattle.twkb_tree.specs.Limits.{Allowance}
use Rattle.twkb_grammar.specs.Items.{Stream}
use Rattle.twkb_grammar.proofs.Streams.{stream-append}
use Rattle.twkb_io.specs.Inputs.{rest_of}
use Rattle.twkb_blob.specs.Readers.{IsNext, Makes, has_ended, is_spent, reader_input, reader_limits}
use Rattle.twkb_blob.specs.declared.reader.Reader.{Reader}
use Rattle.example_callers.specs.Counting.{all_points}

-- A reader of all that a device gave has given geometries, which have this many points.
pub record GavePoints {R : Type 0} {read : Ghosts R} (limits : Allowance) (told : Option (List ℕ))
    (reader : Reader R read) (count : ℕ) : Type 0 where
  pub geometries : List Tree
  pub bytes : List ℕ
  pub stream : Stream limits bytes geometries
  pub used : Consumes told (rest_of (reader_input reader)) bytes
  pub points : count ≡ saturated (length (all_points geometries))
  pub limited : reader_limits reader ≡ limits
  pub live : is_spent reader ≡ false
  pub going_on : has_ended reader ≡ false

-- the points of one more geometry
points_more : (gs : List Tree) (g : Tree) → length (all_points (gs ++ g ∷ [])) ≡ length
    (all_points gs) + length (flat g)
points_more [] g = omega (arith, length-append (flat g) [])
points_more (h ∷ gs) g =
    omega (
      arith,
      length-append (flat h) (all_points (gs ++ g ∷ [])),
      length-append (flat h)
          (all_points gs),
      points_more gs g,
    )

module _ {R : Type 0} {read : Ghosts R} (limits : Allowance) (told : Option (List ℕ)) where
  -- one more blob was counted
  pub gave_more : (old new : Reader R read) (count points total : ℕ) (found : Option Tree)
      (g : Tree) → GavePoints limits told old count
      → IsNext (reader_limits old) (reader_input old) (reader_input new) (Ok found) → found ≡ Some g
      → points ≡ saturated (length (flat g)) → total ≡ saturated (count + points)
      → reader_limits new ≡ reader_limits old → is_spent new ≡ false → has_ended new ≡ false
      → GavePoints limits told new total
  gave_more old new count points total found g gave next is own sum same live going_on =
      let makes : Makes (reader_limits old) [] (reader_input old) (reader_input new) g =
      subst (λ f. IsNext (reader_limits old) (reader_input old) (reader_input new) (Ok f)) is
      next in
      let here : Makes limits [] (reader_input old) (reader_input new) g =
      subst (λ l. Makes l [] (reader_input old) (reader_input new) g) gave.limited makes in
      record {
        geometries = gave.geometries ++ g ∷ [];
        bytes = gave.bytes ++ here.bytes;
        stream = stream-append limits gave.bytes here.bytes gave.geometries (g ∷ []) gave.stream
            (here.bytes, [], sym (append-nil here.bytes), here.blob, refl);
        used = Consumes-trans told (rest_of (reader_input old)) (rest_of (reader_input new))
            gave.bytes here.bytes gave.used here.left.consumed;
        points = omega (arith, sum, own, gave.points, points_more gave.geometries g);
        limited = same ∙ gave.limited;
        live = live;
        going_on = going_on;
      }
