-- The numbers counted in a stream.
use Rattle.std.specs.Prelude.{◌≡◌, ℕ, List, ◌++◌, length, Option, IfSome, flat_map}
use Rattle.twkb_points.specs.Point.{Point}
use Rattle.twkb_tree.specs.Tree.{Tree, flat, saturated}
use Rattle.twkb_tree.specs.Limits.{Allowance}
use Rattle.twkb_grammar.specs.Items.{Stream}
use Rattle.twkb_blob.specs.Sessions.{Stands}
use Rattle.twkb_blob.specs.declared.session.Session.{Session}

-- the points of geometries, one geometry after another
abbrev pub all_points : List Tree → List Point
all_points gs = flat_map flat gs

-- The bytes that a device gave are a stream of geometries, which have this many points; the count
-- stops at the greatest u64.
pub record HasPoints (limits : Allowance) (told : Option (List ℕ)) (count : ℕ) : Type 0 where
  pub geometries : List Tree
  pub stream : IfSome told (λ bytes. Stream limits bytes geometries)
  pub points : count ≡ saturated (length (all_points geometries))

-- The bytes that a device gave have this length, and are a stream of this many geometries.
pub record HasGeometries (limits : Allowance) (told : Option (List ℕ)) (count size : ℕ) : Type 0 where
  pub geometries : List Tree
  pub stream : IfSome told (λ bytes. Stream limits bytes geometries × (size ≡ length bytes))
  pub counted : count ≡ length geometries

-- After these bytes and geometries a session took a piece, in which this many more geometries end.
pub record TookPiece (bytes : List ℕ) (gs : List Tree) (piece : List ℕ) (count : ℕ) (session : Session) : Type 0 where
  pub more : List Tree
  pub stands : Stands (bytes ++ piece) (gs ++ more) session
  pub counted : count ≡ length more
