-- Streams that are read into arrays, geometry by geometry, to their end or to where a call stops.
use Rattle.std.proofs.Common.{◌≡◌, ◌∙◌, inl, inr, ◌<◌, ◌≤◌, ◌+◌, ℕ, List, [], ◌∷◌, ◌++◌, length, take, drop}
use Rattle.std.proofs.Common.{Bool, true, false, refl, sym, ap, arith, length-append, append_assoc, subst}
use Rattle.std.specs.Prelude.{Some, Result, Ok, Err}
use Rattle.std.proofs.lemmas.List.{take-append-drop, length-take-le, take_all}
use Rattle.std.proofs.lemmas.Bool.{false≢true, true≢false}
use Rattle.twkb_tree.specs.Tree.{Tree}
use Rattle.twkb_tree.specs.Limits.{Allowance}
use Rattle.twkb_tree.specs.Rows.{rows}
use Rattle.twkb_grammar.specs.Items.{Stream}
use Rattle.twkb_grammar.proofs.Streams.{no_stream}
use Rattle.twkb_engine.specs.Stops.{reason_of}
use Rattle.twkb_blob.specs.Sessions.{FedFlat, FedSession, Finished, Stands, session_limits, session_rows}
use Rattle.twkb_blob.specs.declared.session.Session.{Session}
use Rattle.twkb_blob.specs.declared.fault.BlobFault.{BlobFault}
use Rattle.twkb_blob.specs.declared.fault.BlobFault.TheVariants as fault
use Rattle.twkb_buffer.specs.declared.point.BufferPoint.{BufferPoint}
use Rattle.twkb_arrays.specs.Ends.{EndAt}
use Rattle.twkb_arrays.specs.FilledArrays.{BeginsWithBlobs, CountsAs, EndsReading, HasTaken, IsReading, ReadsArrays}
use Rattle.twkb_arrays.specs.FilledArrays.{ReadsTo, ReadsWithinRoom, TakesOne}
use Rattle.twkb_arrays.specs.declared.filled_arrays.BufferCounts.{BufferCounts}
use Rattle.twkb_arrays.specs.declared.row.BufferRow.{BufferRow}
use Rattle.twkb_arrays.specs.declared.taken_geometries.Taken.{Taken}
use Rattle.twkb_arrays.proofs.ArrayLemmas.{parts_join, rest_of, some_more}
use Rattle.twkb_arrays.proofs.EndLemmas.{end_kept, end_whole, has_ends_kept, none_later, one_later, some_later}

-- ==== Streams that are read into arrays.

-- the bytes begin with the blobs after which a session stands
begins : {gs : List Tree} {s : Session} (blobs : List ℕ) (used : ℕ) → Stands (take used blobs) gs s
    → BeginsWithBlobs (session_limits s) blobs gs
begins blobs used at = (
  at.front,
  at.rest ++ rest_of blobs used,
  sym (parts_join blobs used) ∙ ap (λ (b : List ℕ). b ++ rest_of blobs used) at.whole
      ∙ append_assoc at.front at.rest (rest_of blobs used),
  at.blobs,
)

-- why a feed refused the rest of the bytes is how their reading ends
pub stopped : {gs : List Tree} {old : Session} (blobs : List ℕ) (used : ℕ) (new : Session)
    (why : BlobFault) → Stands (take used blobs) gs old → session_limits new ≡ session_limits old
    → FedSession (take used blobs) gs (rest_of blobs used) (Err why) new
    → EndsReading {A = Unit {0}} (session_limits old) blobs gs (Err why)
stopped blobs used new fault.Memory at kept fed = begins blobs used at
stopped blobs used new (fault.Device why) at kept fed = (
  omega (
    arith,
    fed.1.past,
    length-append (take used blobs) (rest_of blobs used),
    ap (λ (b : List ℕ). length b) (parts_join blobs used),
  ),
  begins blobs used at,
)
stopped blobs used new fault.Spent at kept fed = absurd fed
stopped blobs used new (fault.At offset reason) at kept fed =
    rw (kept, append_assoc, take-append-drop, parts_join blobs used) at
    (fed.fault (drop fed.used (rest_of blobs used)))

-- the end of a session is the end of the reading
pub finished : {A : Type 0} (l : Allowance) (blobs : List ℕ) (gs : List Tree) (answer : Result A BlobFault)
    → Finished l blobs gs answer → EndsReading l blobs gs answer
finished l blobs gs (Ok done) f = f
finished l blobs gs (Err (fault.At offset reason)) f = f
finished l blobs gs (Err _) f = absurd f

-- the end of a session after a stream is no fault
pub finished_whole : {A : Type 0} (l : Allowance) (bytes : List ℕ) (gs hs : List Tree) (s : Session)
    (answer : Result A BlobFault) → session_limits s ≡ l → Finished (session_limits s) bytes gs answer
    → Stream l bytes hs → Stream l bytes gs
finished_whole {A = A} l bytes gs hs s answer limits f stream = go answer (rw limits at f)
  where
    go : (a : Result A BlobFault) → Finished l bytes gs a → Stream l bytes gs
    go (Ok done) e = e
    go (Err (fault.At offset why)) e = absurd (no_stream l e.front e.rest gs hs e.within (reason_of why) e.blobs
        e.first.fault (subst (λ (b : List ℕ). Stream l b hs) e.whole stream))
    go (Err _) e = absurd e

-- what was taken, whose ends are ends in another sense too
pub has_taken_kept : {P Q : List Tree → ℕ → Type 0} {start_rows in_rows : List BufferRow}
    {start_points in_points : List BufferPoint} {start_ends in_ends : List ℕ} {given later : List Tree}
    {taken : Taken} → ((gs : List Tree) (n : ℕ) → P gs n → Q gs n)
    → HasTaken P start_rows start_points start_ends given later in_rows in_points in_ends taken
    → HasTaken Q start_rows start_points start_ends given later in_rows in_points in_ends taken
has_taken_kept {given = given} {taken = taken} f h = record {
  filled = h.filled;
  ends = has_ends_kept f h.ends;
  fit = h.fit;
  rows_is = h.rows_is;
  points_is = h.points_is;
  bytes_is = f given taken.bytes h.bytes_is;
  passed_rows_is = h.passed_rows_is;
  passed_points_is = h.passed_points_is;
}

-- the geometries that were read end where the session came to
pub reached : (new : Session) (l : Allowance) (blobs : List ℕ) (used more : ℕ) (gs : List Tree)
    → session_limits new ≡ l → used ≤ length blobs → more ≤ length (rest_of blobs used)
    → Stream (session_limits new) (take used blobs ++ take more (rest_of blobs used)) gs
    → EndAt l (take used blobs ++ take more (rest_of blobs used)) gs (used + more)
reached new l blobs used more gs limits within few s =
    end_whole l (take used blobs ++ take more (rest_of blobs used)) gs (used + more)
    (subst (λ (m : Allowance). Stream m (take used blobs ++ take more (rest_of blobs used)) gs) limits s)
    (omega (
      arith,
      length-append (take used blobs) (take more (rest_of blobs used)),
      length-take-le used blobs within,
      length-take-le more (rest_of blobs used) few,
    ))

-- they are those of the bytes up to there
pub stream_there : (new : Session) (l : Allowance) (blobs : List ℕ) (used more : ℕ) (gs : List Tree)
    → session_limits new ≡ l → Stream (session_limits new) (take used blobs ++ take more (rest_of blobs used)) gs
    → Stream l (take (used + more) blobs) gs
stream_there new l blobs used more gs limits s = subst (λ (b : List ℕ). Stream l b gs) (some_more blobs used more)
    (subst (λ (m : Allowance). Stream m (take used blobs ++ take more (rest_of blobs used)) gs) limits s)

-- a geometry was read to its end, and was taken or counted
pub took : {l : Allowance} {start_rows in_rows : List BufferRow} {start_points in_points : List BufferPoint}
    {start_ends in_ends : List ℕ} {new : Session} {taken : Taken} (blobs : List ℕ) (used more : ℕ)
    (gs : List Tree) (g : Tree)
    → Stands (take used blobs ++ take more (rest_of blobs used)) (gs ++ g ∷ []) new
    → TakesOne (EndAt l (take used blobs ++ take more (rest_of blobs used))) start_rows start_points start_ends
    gs g in_rows in_points in_ends taken
    → IsReading l start_rows start_points start_ends (take (used + more) blobs) in_rows in_points in_ends new taken
took {l = l} {new = new} blobs used more gs g at (given, later, all, h) =
    let whole = some_more blobs used more in (
      given,
      later,
      rw all (rw whole at at),
      has_taken_kept (λ hs n. subst (λ (b : List ℕ). EndAt l b hs n) whole) h,
    )

-- the bytes were read to their end inside a geometry, or after one
pub went_on : {l : Allowance} {start_rows in_rows : List BufferRow} {start_points in_points : List BufferPoint}
    {start_ends in_ends : List ℕ} {given later : List Tree} {new : Session} {taken : Taken} (blobs : List ℕ)
    (used more : ℕ) → more ≡ length (rest_of blobs used) → Stands (take used blobs ++ rest_of blobs used)
    (given ++ later) new
    → HasTaken (EndAt l (take used blobs)) start_rows start_points start_ends given later in_rows in_points in_ends
    taken
    → IsReading l start_rows start_points start_ends (take (used + more) blobs) in_rows in_points in_ends new taken
went_on {l = l} {given = given} {later = later} blobs used more all at h =
    let piece = rest_of blobs used in
    let whole : take used blobs ++ piece ≡ take (used + more) blobs =
    ap (λ (b : List ℕ). take used blobs ++ b) (sym (take_all more piece (omega arith)))
    ∙ some_more blobs used more in (
      given,
      later,
      rw whole at at,
      has_taken_kept (λ gs n e. subst (λ (b : List ℕ). EndAt l b gs n) whole
          (end_kept l (take used blobs) piece gs n e)) h,
    )

-- the bytes were read to a fault, or until memory was refused
pub no_further : {l : Allowance} {start_rows in_rows : List BufferRow} {start_points in_points : List BufferPoint}
    {start_ends in_ends : List ℕ} {given later : List Tree} {taken : Taken} (blobs : List ℕ) (used : ℕ)
    → HasTaken (EndAt l (take used blobs)) start_rows start_points start_ends given later in_rows in_points in_ends
    taken
    → HasTaken (EndAt l blobs) start_rows start_points start_ends given later in_rows in_points in_ends taken
no_further {l = l} blobs used h =
    has_taken_kept (λ gs n e. subst (λ (b : List ℕ). EndAt l b gs n) (parts_join blobs used)
    (end_kept l (take used blobs) (rest_of blobs used) gs n e)) h

-- a feed with which a geometry ended
pub fed_whole : (bytes : List ℕ) (gs : List Tree) (piece : List ℕ) (n : ℕ) (ends : Bool) (s : Session)
    → FedFlat bytes gs piece (Ok (n, ends)) s → ends ≡ true
    → (g : Tree) × FedSession bytes gs piece (Ok (n, Some g)) s × (session_rows s ≡ rows 0 g)
fed_whole bytes gs piece n true s fed e = fed
fed_whole bytes gs piece n false s fed e = absurd (false≢true e)

-- a feed with which none ended
pub fed_all : (bytes : List ℕ) (gs : List Tree) (piece : List ℕ) (n : ℕ) (ends : Bool) (s : Session)
    → FedFlat bytes gs piece (Ok (n, ends)) s → ends ≡ false → (n ≡ length piece) × Stands (bytes ++ piece) gs s
fed_all bytes gs piece n false s fed e = fed
fed_all bytes gs piece n true s fed e = absurd (false≢true (sym e))

-- the end of a session is the end of the reading of the bytes that it read
pub ended : {A : Type 0} (l : Allowance) (bytes : List ℕ) (gs : List Tree) (s : Session)
    (answer : Result A BlobFault) → session_limits s ≡ l → Finished (session_limits s) bytes gs answer
    → EndsReading l bytes gs answer
ended l bytes gs s answer limits f = finished l bytes gs answer (rw limits at f)

-- ==== What was read of some bytes.

-- all bytes were read, to their end or to a fault
pub read_to_end : {A : Type 0} {l : Allowance} {stops : Bool} {start_rows in_rows : List BufferRow}
    {start_points in_points : List BufferPoint} {start_ends in_ends : List ℕ} {given later : List Tree}
    {taken : Taken} {answer : Result A BlobFault} (blobs : List ℕ)
    → HasTaken (EndAt l blobs) start_rows start_points start_ends given later in_rows in_points in_ends taken
    → EndsReading l blobs (given ++ later) answer → (stops ≡ true → taken.passed ≡ 0)
    → ReadsTo l stops blobs start_rows start_points start_ends in_rows in_points in_ends taken answer
read_to_end {l = l} {given = given} {later = later} {answer = answer} blobs h ends few =
    let whole : blobs ≡ take (length blobs) blobs = sym (take_all (length blobs) blobs (omega arith)) in
    record {
      count = length blobs;
      given = given;
      later = later;
      has_taken = has_taken_kept (λ gs n. subst (λ (b : List ℕ). EndAt l b gs n) whole) h;
      ended = subst (λ (b : List ℕ). EndsReading l b (given ++ later) answer) whole ends;
      within = omega arith;
      one = λ may. one_later h.fit (let none = few may in omega (arith, none));
      exact = λ may some. absurd (some (none_later h.fit (few may)));
      all = λ every. refl;
    }

-- all bytes were read, up to a place that is not before their end
pub all_read : {A : Type 0} {l : Allowance} {stops : Bool} {start_rows in_rows : List BufferRow}
    {start_points in_points : List BufferPoint} {start_ends in_ends : List ℕ} {given later : List Tree}
    {taken : Taken} {answer : Result A BlobFault} (blobs : List ℕ) (used : ℕ) → length blobs ≤ used
    → HasTaken (EndAt l (take used blobs)) start_rows start_points start_ends given later in_rows in_points in_ends
    taken → EndsReading l (take used blobs) (given ++ later) answer → (stops ≡ true → taken.passed ≡ 0)
    → ReadsTo l stops blobs start_rows start_points start_ends in_rows in_points in_ends taken answer
all_read {l = l} {given = given} {later = later} {answer = answer} blobs used past h ends few =
    let whole : take used blobs ≡ blobs = take_all used blobs past in
    read_to_end blobs (has_taken_kept (λ gs n. subst (λ (b : List ℕ). EndAt l b gs n) whole) h)
    (subst (λ (b : List ℕ). EndsReading l b (given ++ later) answer) whole ends) few

-- the bytes up to a geometry without room were read
pub read_to_stop : {A : Type 0} {l : Allowance} {stops : Bool} {start_rows in_rows : List BufferRow}
    {start_points in_points : List BufferPoint} {start_ends in_ends : List ℕ} {given later : List Tree}
    {taken : Taken} {answer : Result A BlobFault} (blobs : List ℕ) (used : ℕ)
    → HasTaken (EndAt l (take used blobs)) start_rows start_points start_ends given later in_rows in_points in_ends
    taken → EndsReading l (take used blobs) (given ++ later) answer → used ≤ length blobs → stops ≡ true
    → 0 < taken.passed → taken.passed ≤ 1 → Stream l (take used blobs) (given ++ later)
    → ReadsTo l stops blobs start_rows start_points start_ends in_rows in_points in_ends taken answer
read_to_stop {given = given} {later = later} blobs used h ends within may some few whole = record {
  count = used;
  given = given;
  later = later;
  has_taken = h;
  ended = ends;
  within = within;
  one = λ again. one_later h.fit few;
  exact = λ again more. whole;
  all = λ every. elim every [
    | inl never ↦ absurd (true≢false (sym may ∙ never))
    | inr none ↦ absurd (some_later h.fit some none)
  ];
}

-- a call read the bytes that were read
abbrev pub reads_first : {l : Allowance} {stops : Bool} {blobs : List ℕ} {start_rows in_rows : List BufferRow}
    {start_points in_points : List BufferPoint} {start_ends in_ends : List ℕ} {taken : Taken}
    {answer : Result (Unit {0}) BlobFault} {counts : BufferCounts}
    (r : ReadsTo l stops blobs start_rows start_points start_ends in_rows in_points in_ends taken answer)
    → CountsAs (EndAt l (take r.count blobs)) r.given r.later answer counts
    → ReadsArrays l (take r.count blobs) start_rows start_points start_ends in_rows in_points in_ends counts
reads_first {answer = answer} r counted = record {
  given = r.given;
  later = r.later;
  filled = r.has_taken.filled;
  ends = r.has_taken.ends;
  stops = r.has_taken.fit.stops;
  answer = answer;
  ended = r.ended;
  counted = counted;
}

-- a call that does not stop read all bytes
pub reads_all : {l : Allowance} {stops : Bool} {blobs : List ℕ} {start_rows in_rows : List BufferRow}
    {start_points in_points : List BufferPoint} {start_ends in_ends : List ℕ} {taken : Taken}
    {answer : Result (Unit {0}) BlobFault} {counts : BufferCounts}
    (r : ReadsTo l stops blobs start_rows start_points start_ends in_rows in_points in_ends taken answer)
    → CountsAs (EndAt l (take r.count blobs)) r.given r.later answer counts → stops ≡ false
    → ReadsArrays l blobs start_rows start_points start_ends in_rows in_points in_ends counts
reads_all {l = l} {blobs = blobs} {start_rows = start_rows} {in_rows = in_rows} {start_points = start_points}
    {in_points = in_points} {start_ends = start_ends} {in_ends = in_ends} {counts = counts} r counted never =
    subst (λ (b : List ℕ). ReadsArrays l b start_rows start_points start_ends in_rows in_points in_ends counts)
    (take_all r.count blobs (omega (arith, r.all (inl never)))) (reads_first r counted)

-- a call that may stop read the first bytes
pub reads_within : {l : Allowance} {stops : Bool} {blobs : List ℕ} {start_rows in_rows : List BufferRow}
    {start_points in_points : List BufferPoint} {start_ends in_ends : List ℕ} {taken : Taken}
    {answer : Result (Unit {0}) BlobFault} {counts : BufferCounts}
    (r : ReadsTo l stops blobs start_rows start_points start_ends in_rows in_points in_ends taken answer)
    → CountsAs (EndAt l (take r.count blobs)) r.given r.later answer counts → stops ≡ true
    → ReadsWithinRoom l blobs start_rows start_points start_ends in_rows in_points in_ends counts
reads_within r counted may = record {
  count = r.count;
  reads = reads_first r counted;
  within = r.within;
  one = r.one may;
  exact = r.exact may;
  all = λ none. r.all (inr none);
}
