-- The effect of a call that writes points of a buffer as an encoded polyline, or reads them from
-- one (profile).
use Rattle.std.specs.Prelude.{◌≡◌, ◌^◌, ◌-◌, ℕ, ◌<◌, ◌≤◌, ◌⊎◌, List, [], ◌∷◌, ◌++◌, length, drop, ⊤}
use Rattle.twkb_points.specs.Point.{Point, AreInRange, IsInRange, point_at}
use Rattle.twkb_polyline.specs.Fault.{IsTextFault}
use Rattle.twkb_polyline.specs.Polyline.{DecodesTo, polyline}
use Rattle.twkb_polyline.specs.declared.fault.PolyFault.{PolyFault}
use Rattle.twkb_polyline.specs.declared.fault.PolyFault.TheVariants.{At, Memory}
use Rattle.twkb_polyline.specs.declared.fault.PolyReason.{PolyReason}
use Rattle.twkb_polyline.specs.declared.fault.PolyReason.TheVariants.{Range}
use Rattle.twkb_buffer.specs.Numbers.{point_text_number_of}
use Rattle.twkb_buffer.specs.declared.point.BufferPoint.{BufferPoint}
use Rattle.twkb_buffer.specs.declared.report.BufferReport.{BufferReport}

-- a point in C's layout
abbrev pub coordinates_at : Point → BufferPoint
coordinates_at p = record { x = p.x; y = p.y }

-- the points in C's layout
abbrev pub coordinates_of : List Point → List BufferPoint
coordinates_of [] = []
coordinates_of (p ∷ ps) = coordinates_at p ∷ coordinates_of ps

-- The coordinates are those of points in range.
pub record ArePoints (given : List BufferPoint) (ps : List Point) : Type 0 where
  pub given_is : given ≡ coordinates_of ps
  pub in_range : AreInRange ps

-- The first coordinates that are out of range are at this place, counted from 0.
pub record FirstOutside (given : List BufferPoint) (place : ℕ) : Type 0 where
  pub before : List Point
  pub coordinates : BufferPoint
  pub after : List BufferPoint
  pub given_is : given ≡ coordinates_of before ++ coordinates ∷ after
  pub in_range : AreInRange before
  pub place_is : place ≡ length before
  pub outside : ¬ IsInRange (point_at coordinates.x coordinates.y)

-- what a refusal says about coordinates: a place out of range, or that memory was refused
abbrev pub IsRefusedPoint : List BufferPoint → PolyFault → Type 0
IsRefusedPoint given Memory = ⊤
IsRefusedPoint given (At place reason) = FirstOutside given place × (reason ≡ Range)

-- the report of a call that wrote nothing, with this status and the number of places it needs
abbrev pub nothing_report : ℕ → ℕ → BufferReport
nothing_report status needed = record {
  status = status;
  reason = 0;
  place = 0;
  text_offset = 0;
  done = 0;
  sent = 0;
  needed = needed;
  taken = 0;
  taken_points = 0;
  reserved_1 = 0;
  reserved_2 = 0;
}

-- the report of a call that wrote one list of this length
abbrev pub put_report : ℕ → BufferReport
put_report count = record (nothing_report 0 count) { done = 1; sent = count }

-- A list was written at the start of a slice; or the slice has fewer places than needed and is
-- unchanged, and the report gives the number of places needed.
pub record Puts {A : Type 0} (whole old new : List A) (report : BufferReport) : Type 0 where
  pub fits : length whole ≤ length old → (new ≡ whole ++ drop (length whole) old) × (report ≡ put_report (length whole))
  pub small : length old < length whole → (new ≡ old) × (report ≡ nothing_report 5 (length whole))

-- Memory was refused, and the slice is unchanged.
pub record FindsNoMemory {A : Type 0} (old new : List A) (report : BufferReport) : Type 0 where
  pub report_is : report ≡ nothing_report 4 0
  pub same : new ≡ old

-- Some point is out of range: the reason is that of a polyline, and the place is the first such
-- point.
pub record RefusesPoints (given : List BufferPoint) (old new : List ℕ) (report : BufferReport) : Type 0 where
  pub report_is : report ≡ record (nothing_report 1 0) { reason = 26; place = report.place }
  pub outside : FirstOutside given report.place
  pub same : new ≡ old

-- The text is no polyline: the reason and the offset are those of its first fault.
pub record RefusesText (text : List ℕ) (old new : List BufferPoint) (report : BufferReport) : Type 0 where
  pub why : PolyReason
  pub report_is : report ≡ record (nothing_report 1 0) {
    reason = point_text_number_of why;
    text_offset = report.text_offset;
  }
  pub fault : IsTextFault text (2 ^ 32 - 1) report.text_offset why
  pub same : new ≡ old

-- the polyline of the points was written into a slice
pub record PutsPolyline (given : List BufferPoint) (old new : List ℕ) (report : BufferReport) : Type 0 where
  pub ps : List Point
  pub are : ArePoints given ps
  pub puts : Puts (polyline ps) old new report

-- the points of a text were written into a slice
pub record PutsPoints (text : List ℕ) (old new : List BufferPoint) (report : BufferReport) : Type 0 where
  pub ps : List Point
  pub decodes : DecodesTo text (2 ^ 32 - 1) ps
  pub puts : Puts (coordinates_of ps) old new report

-- the result for points: status 0 or 5, 1, or 4
abbrev pub EncodesSlice : List BufferPoint → List ℕ → List ℕ → BufferReport → Type 0
EncodesSlice given old new report = PutsPolyline given old new report
    ⊎ (RefusesPoints given old new report ⊎ FindsNoMemory old new report)

-- the result for a text: status 0 or 5, 1, or 4
abbrev pub DecodesSlice : List ℕ → List BufferPoint → List BufferPoint → BufferReport → Type 0
DecodesSlice text old new report = PutsPoints text old new report
    ⊎ (RefusesText text old new report ⊎ FindsNoMemory old new report)
