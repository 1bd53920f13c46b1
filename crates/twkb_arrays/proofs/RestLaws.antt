-- What is left of arrays after the rows and points that the blobs in an output took.
use Rattle.std.proofs.Common.{◌≡◌, ◌∙◌, ℕ, List, [], ◌∷◌, ◌++◌, length}
use Rattle.std.proofs.Common.{take, drop, ap, sym, subst, append_assoc, inl, inr}
use Rattle.std.proofs.Common.{refl}
use Rattle.std.specs.Prelude.{Result, Ok, Err}
use Rattle.std.proofs.lemmas.List.{append-nil, drop_at, length-map, map-append, take-append-drop, take_at}
use Rattle.std.proofs.lemmas.Grind.{flat_map-append}
use Rattle.twkb_tree.specs.Tree.{Tree}
use Rattle.twkb_tree.specs.Limits.{Allowance, IsValid}
use Rattle.twkb_tree.specs.Rows.{Row, rows, rows_of, row_points, AreValid}
use Rattle.twkb_flat.specs.declared.stop.Stop.{Stop}
use Rattle.twkb_flat.specs.declared.stop.Stop.TheVariants as stop
use Rattle.twkb_grammar.specs.Written.{canonical_blob, canonical_stream}
use Rattle.twkb_grammar.specs.declared.style.Style.{Style}
use Rattle.twkb_buffer.specs.Polylines.{coordinates_of}
use Rattle.twkb_buffer.specs.declared.point.BufferPoint.{BufferPoint}
use Rattle.twkb_buffer.specs.declared.report.BufferReport.{BufferReport}
use Rattle.twkb_buffer.proofs.RunLemmas.{coordinates_of-append}
use Rattle.twkb_arrays.specs.ReadBack.{RestGoesOn}
use Rattle.twkb_arrays.specs.Rows.{array_points, array_rows, row_in_c, rows_in_c}
use Rattle.twkb_arrays.specs.SentBlobs.{IsStreamIn, are_more}
use Rattle.twkb_arrays.specs.WrittenArrays.{AreArrays, AreRead, EndsWriting, ReportsAs, WritesArrays, WritesWithinRoom}
use Rattle.twkb_arrays.specs.declared.row.BufferRow.{BufferRow}
use Rattle.twkb_arrays.specs.declared.written_arrays.RefusedAt.{RefusedAt}
use Rattle.twkb_arrays.proofs.ArrayLemmas.{length-coordinates_of, row_points-append}

-- ==== Arrays that begin with those of geometries.

-- The arrays begin with those of valid geometries.
record BeginWith (l : Allowance) (gs : List Tree) (in_rows : List BufferRow) (in_points : List BufferPoint) :
    Type 0 where
  valid : AreValid l gs
  more_rows : List BufferRow
  rows_are : in_rows ≡ array_rows gs ++ more_rows
  more_points : List BufferPoint
  points_are : in_points ≡ array_points gs ++ more_points

-- the arrays of two lists of geometries
array_rows-append : (gs hs : List Tree) → array_rows (gs ++ hs) ≡ array_rows gs ++ array_rows hs
array_rows-append gs hs = ap rows_in_c (flat_map-append (rows 0) gs hs) ∙ map-append row_in_c (rows_of gs) (rows_of hs)

array_points-append : (gs hs : List Tree) → array_points (gs ++ hs) ≡ array_points gs ++ array_points hs
array_points-append gs hs = ap (λ (rs : List Row). coordinates_of (row_points rs)) (flat_map-append (rows 0) gs hs)
    ∙ ap coordinates_of (row_points-append (rows_of gs) (rows_of hs))
    ∙ coordinates_of-append (row_points (rows_of gs)) (row_points (rows_of hs))

-- all of two lists, and of the first of them
both_valid : (l : Allowance) (gs hs : List Tree) → AreValid l gs → AreValid l hs → AreValid l (gs ++ hs)
both_valid l [] hs a b = b
both_valid l (g ∷ gs) hs a b = (a.0, both_valid l gs hs a.1 b)

first_valid : (l : Allowance) (gs hs : List Tree) → AreValid l (gs ++ hs) → AreValid l gs
first_valid l [] hs a = tt
first_valid l (g ∷ gs) hs a = (a.0, first_valid l gs hs a.1)

-- arrays of which the first rows and points were read begin with those of the complete geometries
read_begins : {l : Allowance} {gs : List Tree} {begun : List Row} {front_rows in_rows : List BufferRow}
    {front_points in_points : List BufferPoint} (more : List BufferRow) (ahead : List BufferPoint) → AreRead l
    gs begun front_rows front_points
    → in_rows ≡ front_rows ++ more → in_points ≡ front_points ++ ahead → BeginWith l gs in_rows in_points
read_begins {gs = gs} {begun = begun} more ahead a rows_are points_are = record {
  valid = a.valid;
  more_rows = rows_in_c begun ++ more;
  rows_are = rows_are ∙ ap (λ (xs : List BufferRow). xs ++ more)
      (a.rows_are ∙ map-append row_in_c (rows_of gs) begun)
      ∙ append_assoc (array_rows gs) (rows_in_c begun) more;
  more_points = coordinates_of (row_points begun) ++ ahead;
  points_are = points_are ∙ ap (λ (xs : List BufferPoint). xs ++ ahead)
      (a.points_are ∙ ap coordinates_of (row_points-append (rows_of gs) begun)
      ∙ coordinates_of-append (row_points (rows_of gs)) (row_points begun))
      ∙ append_assoc (array_points gs) (coordinates_of (row_points begun)) ahead;
}

-- however a writing ended, the arrays begin with those of the complete geometries
ended_begins : (l : Allowance) (gs : List Tree) (in_rows : List BufferRow) (in_points : List BufferPoint)
    (answer : Result (Unit {0}) (Stop RefusedAt)) → EndsWriting l gs in_rows in_points answer
    → BeginWith l gs in_rows in_points
ended_begins l gs in_rows in_points (Ok done) e = record {
  valid = e.valid;
  more_rows = [];
  rows_are = e.rows_are ∙ sym (append-nil (array_rows gs));
  more_points = [];
  points_are = e.points_are ∙ sym (append-nil (array_points gs));
}
ended_begins l gs in_rows in_points (Err stop.Memory) e = read_begins e.more e.ahead e.read e.rows_are e.points_are
ended_begins l gs in_rows in_points (Err (stop.Refused at)) (inl e) =
    read_begins (e.row ∷ e.more) e.ahead e.read e.rows_are e.points_are
ended_begins l gs in_rows in_points (Err (stop.Refused at)) (inr e) =
    read_begins [] e.left e.read (sym (append-nil in_rows)) e.points_are

-- the first of some geometries begin the arrays too
first_begins : {l : Allowance} {in_rows : List BufferRow} {in_points : List BufferPoint} (gs hs : List Tree)
    → BeginWith l (gs ++ hs) in_rows in_points → BeginWith l gs in_rows in_points
first_begins {l = l} gs hs b = record {
  valid = first_valid l gs hs b.valid;
  more_rows = array_rows hs ++ b.more_rows;
  rows_are = b.rows_are ∙ ap (λ (xs : List BufferRow). xs ++ b.more_rows) (array_rows-append gs hs)
      ∙ append_assoc (array_rows gs) (array_rows hs) b.more_rows;
  more_points = array_points hs ++ b.more_points;
  points_are = b.points_are ∙ ap (λ (xs : List BufferPoint). xs ++ b.more_points) (array_points-append gs hs)
      ∙ append_assoc (array_points gs) (array_points hs) b.more_points;
}

-- arrays that go on begin with the same
longer_begins : {l : Allowance} {gs : List Tree} (in_rows : List BufferRow) (in_points : List BufferPoint) (n m : ℕ)
    → BeginWith l gs (take n in_rows) (take m in_points) → BeginWith l gs in_rows in_points
longer_begins {gs = gs} in_rows in_points n m b = record {
  valid = b.valid;
  more_rows = b.more_rows ++ drop n in_rows;
  rows_are = sym (take-append-drop n in_rows) ∙ ap (λ (xs : List BufferRow). xs ++ drop n in_rows) b.rows_are
      ∙ append_assoc (array_rows gs) b.more_rows (drop n in_rows);
  more_points = b.more_points ++ drop m in_points;
  points_are = sym (take-append-drop m in_points) ∙ ap (λ (xs : List BufferPoint). xs ++ drop m in_points) b.points_are
      ∙ append_assoc (array_points gs) b.more_points (drop m in_points);
}

-- ==== The rest of arrays.

-- the report of a call counts the rows and points of the geometries in its output
goes_on : {l : Allowance} {style : Style} {gs later : List Tree} {in_rows : List BufferRow}
    {in_points : List BufferPoint} {old new : List ℕ} {answer : Result (Unit {0}) (Stop RefusedAt)}
    {report : BufferReport} → BeginWith l gs in_rows in_points → IsStreamIn style old gs new
    → ReportsAs style gs later answer report → RestGoesOn l style gs in_rows in_points new report
goes_on {l = l} {style = style} {gs = gs} {in_rows = in_rows} {in_points = in_points} {old = old} {new = new}
    {report = report} b written reported =
    let row_count : length (array_rows gs) ≡ report.taken =
    length-map (rows_of gs) row_in_c ∙ sym reported.taken_is in
    let point_count : length (array_points gs) ≡ report.taken_points =
    length-coordinates_of (row_points (rows_of gs)) ∙ sym reported.taken_points_is in
    let rows_taken : take report.taken in_rows ≡ array_rows gs =
    ap (λ (xs : List BufferRow). take report.taken xs) b.rows_are
    ∙ take_at (array_rows gs) b.more_rows report.taken row_count in
    let points_taken : take report.taken_points in_points ≡ array_points gs =
    ap (λ (xs : List BufferPoint). take report.taken_points xs) b.points_are
    ∙ take_at (array_points gs) b.more_points report.taken_points point_count in
    let stream = canonical_stream style gs in
    record {
      rows_are = rows_taken;
      points_are = points_taken;
      joined = λ more a. record {
        valid = both_valid l gs more b.valid a.valid;
        rows_are = sym (take-append-drop report.taken in_rows)
            ∙ ap (λ (xs : List BufferRow). xs ++ drop report.taken in_rows) rows_taken
            ∙ ap (λ (xs : List BufferRow). array_rows gs ++ xs) a.rows_are ∙ sym (array_rows-append gs more);
        points_are = sym (take-append-drop report.taken_points in_points)
            ∙ ap (λ (xs : List BufferPoint). xs ++ drop report.taken_points in_points) points_taken
            ∙ ap (λ (xs : List BufferPoint). array_points gs ++ xs) a.points_are
            ∙ sym (array_points-append gs more);
      };
      stream = λ more. flat_map-append (canonical_blob style) gs more
          ∙ ap (λ (xs : List ℕ). xs ++ canonical_stream style more)
          (sym (ap (λ (xs : List ℕ). take report.sent xs) written.bytes_are
          ∙ take_at stream (drop (length stream) old) report.sent (sym reported.sent_is)));
    }

pub rest_of_writing : (l : Allowance) (style : Style) (in_rows : List BufferRow) (in_points : List BufferPoint)
    (old old_ends new new_ends : List ℕ) (report : BufferReport)
    (wrote : WritesArrays l style in_rows in_points old old_ends new new_ends report)
    → RestGoesOn l style wrote.given in_rows in_points new report
rest_of_writing l style in_rows in_points old old_ends new new_ends report wrote =
    goes_on (first_begins wrote.given wrote.later
    (ended_begins l (wrote.given ++ wrote.later) in_rows in_points wrote.answer wrote.ended)) wrote.written
    wrote.reported

pub rest_of_stopped : (l : Allowance) (style : Style) (in_rows : List BufferRow) (in_points : List BufferPoint)
    (old old_ends new new_ends : List ℕ) (report : BufferReport)
    (wrote : WritesWithinRoom l style in_rows in_points old old_ends new new_ends report)
    → RestGoesOn l style wrote.writes.given in_rows in_points new report
rest_of_stopped l style in_rows in_points old old_ends new new_ends report wrote =
    let w = wrote.writes in
    goes_on (longer_begins in_rows in_points wrote.row_count wrote.point_count (first_begins w.given w.later
    (ended_begins l (w.given ++ w.later) (take wrote.row_count in_rows) (take wrote.point_count in_points) w.answer
    w.ended))) w.written w.reported
