-- The blob of a polyline, and why a polyline has none.
use Rattle.std.specs.Prelude.{ℕ, ℤ, ◌≡◌, List}
use Rattle.twkb_points.specs.Point.{Point}
use Rattle.twkb_polyline.specs.Fault.{IsTextFault}
use Rattle.twkb_polyline.specs.Polyline.{DecodesTo}
use Rattle.twkb_tree.specs.Limits.{Allowance}
use Rattle.twkb_tree.specs.Tree.{IsPrecision}
use Rattle.twkb_grammar.specs.Written.{canonical_blob}
use Rattle.twkb_grammar.specs.declared.style.Style.{Style}
use Rattle.twkb_writer.specs.Bytes.{one_line}
use Rattle.twkb_records.specs.declared.line.LineFault.{LineFault}
use Rattle.twkb_records.specs.declared.line.LineFault.TheVariants as fault

-- The text is a polyline, within the limit of points, and the bytes are the canonical blob of its
-- linestring.
pub record IsBlobOf (style : Style) (precision : ℤ) (l : Allowance) (polyline bytes : List ℕ) : Type 0 where
  pub is_precision : IsPrecision precision
  pub points : List Point
  pub decoded : DecodesTo polyline l.points points
  pub written : bytes ≡ canonical_blob style (one_line precision points)

-- the text is no polyline of at most so many points
abbrev pub RefusesPolyline : List ℕ → ℕ → LineFault → Type 0
RefusesPolyline polyline max fault.BadPrecision = ⊥
RefusesPolyline polyline max (fault.Polyline offset why) = IsTextFault polyline max offset why

-- the reason is the first for which a polyline has no blob of this precision
abbrev pub RefusesLine : ℤ → Allowance → List ℕ → LineFault → Type 0
RefusesLine precision l polyline fault.BadPrecision = ¬ IsPrecision precision
RefusesLine precision l polyline (fault.Polyline offset why) =
    IsPrecision precision × IsTextFault polyline l.points offset why
