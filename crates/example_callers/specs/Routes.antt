-- Polylines of routes.
use Rattle.std.specs.Prelude.{◌≡◌, ℕ, List, ◌++◌}
use Rattle.twkb_points.specs.Point.{Point}
use Rattle.twkb_polyline.specs.Polyline.{DecodesTo, polyline}

-- The two texts are polylines of at most 10,000 points each, and the third is that of the points
-- of both, one after the other.
pub record IsJoined (first second text : List ℕ) : Type 0 where
  pub front : List Point
  pub back : List Point
  pub decoded : DecodesTo first 10000 front
  pub decoded_next : DecodesTo second 10000 back
  pub spelled : text ≡ polyline (front ++ back)
