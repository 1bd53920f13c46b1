-- Arrays that were written to their end, or to where the call stopped.
use Rattle.std.proofs.Common.{◌≡◌, ◌∙◌, ℕ, ◌+◌, ◌<◌, ◌≤◌, ◌⊎◌, inl, inr}
use Rattle.std.proofs.Common.{List, [], ◌∷◌, ◌++◌, length, take, drop, Bool, true}
use Rattle.std.proofs.Common.{false, refl, sym, subst, arith}
use Rattle.std.specs.Prelude.{Result, Ok, Err}
use Rattle.std.proofs.lemmas.List.{append-nil, length-take-le, take-append-drop, take_all}
use Rattle.std.proofs.lemmas.Bool.{true≢false}
use Rattle.twkb_tree.specs.Tree.{Tree}
use Rattle.twkb_tree.specs.Limits.{Allowance}
use Rattle.twkb_flat.specs.declared.stop.Stop.{Stop}
use Rattle.twkb_flat.specs.declared.stop.Stop.TheVariants as stop
use Rattle.twkb_grammar.specs.declared.style.Style.{Style}
use Rattle.twkb_buffer.specs.declared.point.BufferPoint.{BufferPoint}
use Rattle.twkb_buffer.specs.declared.report.BufferReport.{BufferReport}
use Rattle.twkb_arrays.specs.SentBlobs.{AreTaken, HasSent}
use Rattle.twkb_arrays.specs.declared.sent_blobs.Sent.{Sent}
use Rattle.twkb_arrays.specs.WrittenArrays.{AreAsMany, AreArrays, EndsWriting}
use Rattle.twkb_arrays.specs.WrittenArrays.{IsWriting, MarksTaken, ReportsAs, StopsFull}
use Rattle.twkb_arrays.specs.WrittenArrays.{StopsWriting, WritesArrays, WritesTo, WritesWithinRoom}
use Rattle.twkb_arrays.specs.declared.row.BufferRow.{BufferRow}
use Rattle.twkb_arrays.specs.declared.writer.ReadCounts.{ReadCounts}
use Rattle.twkb_arrays.specs.declared.written_arrays.RefusedAt.{RefusedAt}
use Rattle.twkb_arrays.specs.declared.writer.Writer.{Writer}
use Rattle.twkb_arrays.proofs.ArrayLemmas.{length-rest_of, rest_of, some_more}
use Rattle.twkb_arrays.proofs.EndLemmas.{one_later, some_later}
use Rattle.twkb_arrays.proofs.WritingLemmas.{all_complete, counted, lacks_memory, points_left_over}

-- ==== What was read of some rows and points.

-- all were read, to their end, to a refusal or until memory was refused
pub wrote_to_end : {A : Type 0} {l : Allowance} {style : Style} {stops : Bool}
    {start start_ends out out_ends : List ℕ} {given later : List Tree} {sent : Sent}
    {answer : Result A (Stop RefusedAt)} (in_rows : List BufferRow) (in_points : List BufferPoint)
    → HasSent style start start_ends given later out out_ends sent × AreTaken given sent
    → EndsWriting l (given ++ later) in_rows in_points answer → (stops ≡ true → sent.passed ≤ 1)
    → WritesTo l style stops in_rows in_points start start_ends out out_ends sent answer
wrote_to_end {l = l} {given = given} {later = later} {answer = answer} in_rows in_points h ends few =
    let gs = given ++ later in
    let rows_whole : in_rows ≡ take (length in_rows) in_rows =
    sym (take_all (length in_rows) in_rows (omega arith)) in
    let points_whole : in_points ≡ take (length in_points) in_points =
    sym (take_all (length in_points) in_points (omega arith)) in
    record {
      row_count = length in_rows;
      point_count = length in_points;
      given = given;
      later = later;
      has_sent = h.0;
      taken = h.1;
      ended = subst (λ (ps : List BufferPoint). EndsWriting l gs (take (length in_rows) in_rows) ps answer)
          points_whole
          (subst (λ (rs : List BufferRow). EndsWriting l gs rs in_points answer) rows_whole ends);
      rows_within = omega arith;
      points_within = omega arith;
      one = λ may. one_later h.0.fit (few may);
      all = λ every. (refl, refl);
    }

-- a row was refused, or memory
pub wrote_to_halt : {l : Allowance} {style : Style} {stops : Bool} {start start_ends out out_ends : List ℕ}
    (writer new : Writer) {read : ReadCounts} {why : Stop RefusedAt} (in_rows : List BufferRow)
    (in_points : List BufferPoint)
    → StopsWriting l style start start_ends in_rows in_points out out_ends writer read why
    → MarksTaken read writer new → (stops ≡ true → new.sent.passed ≤ 1)
    → WritesTo {A = Unit {0}} l style stops in_rows in_points start start_ends out out_ends new.sent (Err why)
wrote_to_halt {style = style} {start = start} {start_ends = start_ends} {out = out} {out_ends = out_ends}
    writer new in_rows
    in_points s marks few =
    wrote_to_end in_rows in_points (marks style start start_ends out out_ends s.0 s.1 s.2 s.3) s.4 few

-- those up to the end of a geometry without room were read
pub wrote_to_stop : {l : Allowance} {style : Style} {stops : Bool}
    {start start_ends before before_ends after after_ends : List ℕ} {old new : Writer}
    (in_rows : List BufferRow) (in_points : List BufferPoint) (i n : ℕ) → i ≤ length in_rows → n ≤ length in_points
    → IsWriting l style start start_ends (take i in_rows) (take n in_points) before before_ends old
    → StopsFull l style stops (record { rows = i; points = n }) (rest_of in_rows i) (rest_of in_points n)
    before before_ends old after after_ends new → new.sent.passed ≤ 1
    → WritesTo {A = Unit {0}} l style stops in_rows in_points start start_ends after after_ends new.sent (Ok tt)
wrote_to_stop {l = l} {style = style} {stops = stops} {start = start} {start_ends = start_ends} {after = after}
    {after_ends = after_ends} {new = new} in_rows in_points i n rows_in points_in w f few =
    let w' : IsWriting l style start start_ends (take (i + f.count) in_rows) (take (n + f.point_count) in_points)
    after after_ends new = rw (some_more in_rows i f.count, some_more in_points n f.point_count) at
    (f.reads start start_ends (take i in_rows) (take n in_points)
    (sym (length-take-le i in_rows rows_in), sym (length-take-le n in_points points_in)) w) in
    let taken : AreTaken w'.given new.sent = elim w'.sent.taken [
      | inl none ↦ absurd (some_later w'.sent.fit f.some none)
      | inr taken ↦ taken
    ] in
    record {
      row_count = i + f.count;
      point_count = n + f.point_count;
      given = w'.given;
      later = w'.later;
      has_sent = w'.sent;
      taken = taken;
      ended = all_complete w' f.closed;
      rows_within = omega (arith, f.rows_within, length-rest_of in_rows i, rows_in);
      points_within = omega (arith, f.points_within, length-rest_of in_points n, points_in);
      one = λ may. one_later w'.sent.fit few;
      all = λ every. elim every [
        | inl never ↦ absurd (true≢false (sym f.may ∙ never))
        | inr none ↦ absurd (some_later w'.sent.fit f.some none)
      ];
    }

-- ---- all rows were read, with these of the points

-- so many
pub as_many : (in_rows : List BufferRow) (in_points : List BufferPoint) (used : ℕ) → used ≤ length in_points
    → AreAsMany in_rows (take used in_points) (record { rows = length in_rows; points = used })
as_many in_rows in_points used within = (refl, sym (length-take-le used in_points within))

module _ {l : Allowance} {style : Style} {stops : Bool} {start start_ends out out_ends : List ℕ} {writer : Writer}
    (in_rows : List BufferRow) (in_points : List BufferPoint) (used : ℕ) (within : used ≤ length in_points)
    (w : IsWriting l style start start_ends in_rows (take used in_points) out out_ends writer) where
  -- points are left over
  pub wrote_left : (new : Writer) → used < length in_points → (writer.open_geometry ≡ [] → in_rows ≡ [])
      → MarksTaken (record { rows = length in_rows; points = used }) writer new
      → (stops ≡ true → new.sent.passed ≤ 1)
      → WritesTo {A = Unit {0}} l style stops in_rows in_points start start_ends out out_ends new.sent
      (Err (stop.Refused (record { place = length in_rows; number = 72; index = 0 })))
  wrote_left new some last marks few = wrote_to_end in_rows in_points
      (marks style start start_ends out out_ends w.given w.later w.sent (counted w.read (as_many in_rows
      in_points used within)))
      (points_left_over in_points used w some last) few

  -- no geometry is open
  pub wrote_whole : (new : Writer) → length in_points ≤ used → writer.open_geometry ≡ []
      → MarksTaken (record { rows = length in_rows; points = used }) writer new
      → (stops ≡ true → new.sent.passed ≤ 1)
      → WritesTo {A = Unit {0}} l style stops in_rows in_points start start_ends out out_ends new.sent (Ok tt)
  wrote_whole new past closed marks few = wrote_to_end in_rows in_points
      (marks style start start_ends out out_ends w.given w.later w.sent (counted w.read (as_many in_rows
      in_points used within)))
      (subst (λ (ps : List BufferPoint). AreArrays l (w.given ++ w.later) in_rows ps)
      (take_all used in_points past) (all_complete w closed)) few

  -- memory was refused for the blob of the last geometry
  pub wrote_without_memory : (mid new : Writer) {out' ends' : List ℕ} → out' ≡ out → ends' ≡ out_ends
      → mid.sent ≡ writer.sent → mid.open_geometry ≡ writer.open_geometry
      → MarksTaken (record { rows = length in_rows; points = used }) mid new
      → (stops ≡ true → new.sent.passed ≤ 1)
      → WritesTo {A = Unit {0}} l style stops in_rows in_points start start_ends out' ends' new.sent
      (Err stop.Memory)
  wrote_without_memory mid new {out' = out'} {ends' = ends'} same_output same_ends same same_form marks few =
      let stopped : StopsWriting l style start start_ends (in_rows ++ [])
      (take used in_points ++ drop used in_points) out' ends' mid
      (record { rows = length in_rows; points = used }) stop.Memory =
      lacks_memory mid w (as_many in_rows in_points used within) [] (drop used in_points) same_output same_ends
      same same_form in
      wrote_to_halt mid new in_rows in_points (rw (append-nil in_rows, take-append-drop used in_points) at
      stopped) marks few

-- a call wrote the rows and points that were read
abbrev pub writes_first : {l : Allowance} {style : Style} {stops : Bool} {in_rows : List BufferRow}
    {in_points : List BufferPoint} {start start_ends out out_ends : List ℕ} {sent : Sent}
    {answer : Result (Unit {0}) (Stop RefusedAt)} {report : BufferReport}
    (w : WritesTo l style stops in_rows in_points start start_ends out out_ends sent answer)
    → ReportsAs style w.given w.later answer report
    → WritesArrays l style (take w.row_count in_rows) (take w.point_count in_points) start start_ends out out_ends
    report
writes_first {answer = answer} w reported = record {
  given = w.given;
  later = w.later;
  written = w.has_sent.filled;
  ends = w.has_sent.ends;
  stops = w.has_sent.fit.stops;
  answer = answer;
  ended = w.ended;
  reported = reported;
}

-- a call that does not stop wrote all
pub writes_all : {l : Allowance} {style : Style} {stops : Bool} {in_rows : List BufferRow}
    {in_points : List BufferPoint} {start start_ends out out_ends : List ℕ} {sent : Sent}
    {answer : Result (Unit {0}) (Stop RefusedAt)} {report : BufferReport}
    (w : WritesTo l style stops in_rows in_points start start_ends out out_ends sent answer)
    → ReportsAs style w.given w.later answer report → stops ≡ false
    → WritesArrays l style in_rows in_points start start_ends out out_ends report
writes_all {l = l} {style = style} {in_rows = in_rows} {in_points = in_points} {start = start}
    {start_ends = start_ends} {out = out} {out_ends = out_ends} {report = report} w reported never =
    let all = w.all (inl never) in
    let rows_all = all.0 in
    let points_all = all.1 in
    subst (λ (ps : List BufferPoint). WritesArrays l style in_rows ps start start_ends out out_ends report)
    (take_all w.point_count in_points (omega (arith, points_all)))
    (subst (λ (rs : List BufferRow). WritesArrays l style rs (take w.point_count in_points) start start_ends out
    out_ends report) (take_all w.row_count in_rows (omega (arith, rows_all))) (writes_first w reported))

-- a call that may stop wrote the first ones
pub writes_within : {l : Allowance} {style : Style} {stops : Bool} {in_rows : List BufferRow}
    {in_points : List BufferPoint} {start start_ends out out_ends : List ℕ} {sent : Sent}
    {answer : Result (Unit {0}) (Stop RefusedAt)} {report : BufferReport}
    (w : WritesTo l style stops in_rows in_points start start_ends out out_ends sent answer)
    → ReportsAs style w.given w.later answer report → stops ≡ true
    → WritesWithinRoom l style in_rows in_points start start_ends out out_ends report
writes_within w reported may = record {
  row_count = w.row_count;
  point_count = w.point_count;
  writes = writes_first w reported;
  rows_within = w.rows_within;
  points_within = w.points_within;
  one = w.one may;
  all = λ none. w.all (inr none);
}
