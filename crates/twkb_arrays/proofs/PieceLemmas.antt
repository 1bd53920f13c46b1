-- What one call that reads a window wrote, where its geometries ended, and how its reading ended.
use Rattle.std.proofs.Common.{◌≡◌, ◌∙◌, ◌⊎◌, inl, inr, ◌≤◌, ◌+◌, ℕ, List, [], ◌∷◌, ◌++◌, length, take, drop}
use Rattle.std.proofs.Common.{refl, sym, ap, subst, arith, append_assoc}
use Rattle.std.specs.Prelude.{Result, Ok, Err, map, ◌≢◌}
use Rattle.std.proofs.lemmas.List.{append-nil, length-drop, length-map, length-take-le, map-append, take-append-drop}
use Rattle.std.proofs.lemmas.List.{take_all, take_at}
use Rattle.std.proofs.lemmas.Grind.{flat_map-append}
use Rattle.std.proofs.Math.Seq.{take-add}
use Rattle.twkb_io.specs.declared.TheConstants.{MAX_BYTES}
use Rattle.twkb_tree.specs.Tree.{Tree}
use Rattle.twkb_tree.specs.Limits.{Allowance}
use Rattle.twkb_tree.specs.Rows.{rows, rows_of, row_points}
use Rattle.twkb_grammar.specs.Items.{Stream}
use Rattle.twkb_grammar.specs.Fault.{StreamFault, Truncated}
use Rattle.twkb_grammar.proofs.Streams.{fault-append, stream-append}
use Rattle.twkb_engine.specs.Stops.{reason_of}
use Rattle.twkb_engine.specs.declared.blob_reason.BlobReason.{BlobReason}
use Rattle.twkb_engine.specs.declared.blob_reason.BlobReason.TheVariants as blob
use Rattle.twkb_blob.specs.declared.fault.BlobFault.{BlobFault}
use Rattle.twkb_blob.specs.declared.fault.BlobFault.TheVariants as fault
use Rattle.twkb_buffer.specs.Numbers.{blob_number_of}
use Rattle.twkb_buffer.specs.Polylines.{coordinates_of}
use Rattle.twkb_buffer.specs.declared.point.BufferPoint.{BufferPoint}
use Rattle.twkb_buffer.proofs.RunLemmas.{coordinates_of-append}
use Rattle.twkb_arrays.specs.Ends.{AreEnds, EndAt, HasEnds}
use Rattle.twkb_arrays.specs.FilledArrays.{CountsAs, EndsReading, ReadsArrays}
use Rattle.twkb_arrays.specs.Pieces.{Call, EndsWith, IsCall, ends_by}
use Rattle.twkb_arrays.specs.Rows.{array_points, array_rows, row_in_c, rows_in_c}
use Rattle.twkb_arrays.specs.declared.row.BufferRow.{BufferRow}
use Rattle.twkb_arrays.specs.declared.filled_arrays.BufferCounts.{BufferCounts}
use Rattle.twkb_arrays.proofs.ArrayLemmas.{length-coordinates_of, row_points-append}
use Rattle.twkb_arrays.proofs.EndLemmas.{end_kept, ends_kept, length-ends}
use Rattle.twkb_arrays.proofs.FaultLemmas.{fault_kept}

-- ==== What one call read and wrote.

-- A call read the first bytes of its window: all of them, if it had room for each geometry.
pub record Read (l : Allowance) (c : Call) : Type 0 where
  pub count : ℕ
  pub reads : ReadsArrays l (take count c.window) c.old_rows c.old_points c.old_ends c.new_rows c.new_points
      c.new_ends c.counts
  pub all : reads.later ≡ [] → count ≡ length c.window

pub read_of : (l : Allowance) (c : Call) → IsCall l c → Read l c
read_of l c (inl r) =
    let whole : c.window ≡ take (length c.window) c.window =
    sym (take_all (length c.window) c.window (omega arith)) in
    record {
      count = length c.window;
      reads = subst (λ (b : List ℕ). ReadsArrays l b c.old_rows c.old_points c.old_ends c.new_rows c.new_points
          c.new_ends c.counts) whole r;
      all = λ none. refl;
    }
read_of l c (inr r) = record { count = r.count; reads = r.reads; all = r.all }

-- what it took, in its window
pub taken_in : (l : Allowance) (c : Call) (r : Read l c) → EndAt l c.window r.reads.given c.counts.taken
taken_in l c r = subst (λ (b : List ℕ). EndAt l b r.reads.given c.counts.taken) (take-append-drop r.count c.window)
    (end_kept l (take r.count c.window) (drop r.count c.window) r.reads.given c.counts.taken
    r.reads.counted.taken_is)

-- what it took, in bytes that begin with its window
pub taken_of : (l : Allowance) (bytes rest : List ℕ) (c : Call) (r : Read l c) → bytes ≡ c.window ++ rest
    → EndAt l bytes r.reads.given c.counts.taken
taken_of l bytes rest c r whole = subst (λ (b : List ℕ). EndAt l b r.reads.given c.counts.taken) (sym whole)
    (end_kept l c.window rest r.reads.given c.counts.taken (taken_in l c r))

pub rows_wrote : (l : Allowance) (c : Call) (r : Read l c) → take c.counts.rows c.new_rows ≡ array_rows r.reads.given
rows_wrote l c r = ap (λ (rs : List BufferRow). take c.counts.rows rs) r.reads.filled.rows_are
    ∙ take_at (array_rows r.reads.given) (drop (length (rows_of r.reads.given)) c.old_rows) c.counts.rows
    (length-map (rows_of r.reads.given) row_in_c ∙ sym r.reads.counted.rows_is)

pub points_wrote : (l : Allowance) (c : Call) (r : Read l c)
    → take c.counts.points c.new_points ≡ array_points r.reads.given
points_wrote l c r = ap (λ (ps : List BufferPoint). take c.counts.points ps) r.reads.filled.points_are
    ∙ take_at (array_points r.reads.given) (drop (length (row_points (rows_of r.reads.given))) c.old_points)
    c.counts.points
    (length-coordinates_of (row_points (rows_of r.reads.given)) ∙ sym r.reads.counted.points_is)

-- ---- the rows and points of some geometries and of others after them

pub rows_of-append : (gs hs : List Tree) → rows_of (gs ++ hs) ≡ rows_of gs ++ rows_of hs
rows_of-append gs hs = flat_map-append (rows 0) gs hs

pub array_rows-append : (gs hs : List Tree) → array_rows (gs ++ hs) ≡ array_rows gs ++ array_rows hs
array_rows-append gs hs = ap rows_in_c (rows_of-append gs hs) ∙ map-append row_in_c (rows_of gs) (rows_of hs)

pub all_points-append : (gs hs : List Tree)
    → row_points (rows_of (gs ++ hs)) ≡ row_points (rows_of gs) ++ row_points (rows_of hs)
all_points-append gs hs = ap row_points (rows_of-append gs hs) ∙ row_points-append (rows_of gs) (rows_of hs)

pub array_points-append : (gs hs : List Tree) → array_points (gs ++ hs) ≡ array_points gs ++ array_points hs
array_points-append gs hs = ap coordinates_of (all_points-append gs hs)
    ∙ coordinates_of-append (row_points (rows_of gs)) (row_points (rows_of hs))

-- ---- the geometries after others

pub end-append : (l : Allowance) (bytes : List ℕ) (gs hs : List Tree) (n m : ℕ) → EndAt l bytes gs n
    → EndAt l (drop n bytes) hs m → EndAt l bytes (gs ++ hs) (n + m)
end-append l bytes gs hs n m a b =
    let first = a.0 in
    let second = b.0 in (
      omega (arith, first, second, length-drop n bytes),
      subst (λ (k : List ℕ). Stream l k (gs ++ hs)) (sym (take-add n m bytes))
          (stream-append l (take n bytes) (take m (drop n bytes)) gs hs a.1 b.1),
    )

-- ---- where its geometries ended

-- its ends, if it was asked for any, in its window
pub ends_wrote : (l : Allowance) (c : Call) (r : Read l c) → c.old_ends ≢ []
    → AreEnds (EndAt l c.window) [] r.reads.given (take c.counts.done c.new_ends)
ends_wrote l c r some = go r.reads.ends
  where
    there : (gs : List Tree) (n : ℕ) → EndAt l (take r.count c.window) gs n → EndAt l c.window gs n
    there gs n e = subst (λ (b : List ℕ). EndAt l b gs n) (take-append-drop r.count c.window)
        (end_kept l (take r.count c.window) (drop r.count c.window) gs n e)

    go : HasEnds (EndAt l (take r.count c.window)) c.old_ends r.reads.given c.new_ends
        → AreEnds (EndAt l c.window) [] r.reads.given (take c.counts.done c.new_ends)
    go (inl none) = absurd (some none.0)
    go (inr s) =
        let many = length-ends (EndAt l (take r.count c.window)) [] r.reads.given s.ends s.are_ends in
        let same : take c.counts.done c.new_ends ≡ s.ends =
        ap (λ (es : List ℕ). take c.counts.done es) s.new_is
        ∙ take_at s.ends (drop (length r.reads.given) c.old_ends) c.counts.done
        (many ∙ sym r.reads.counted.done_is) in
        subst (λ (es : List ℕ). AreEnds (EndAt l c.window) [] r.reads.given es) (sym same)
        (ends_kept (EndAt l (take r.count c.window)) (EndAt l c.window) there [] r.reads.given s.ends s.are_ends)

-- the ends of some geometries and of others after them
pub ends-append : (P : List Tree → ℕ → Type 0) (before gs hs : List Tree) (es fs : List ℕ) → AreEnds P before gs es
    → AreEnds P (before ++ gs) hs fs → AreEnds P before (gs ++ hs) (es ++ fs)
ends-append P before [] hs [] fs a b = subst (λ (x : List Tree). AreEnds P x hs fs) (append-nil before) b
ends-append P before (g ∷ gs) hs (e ∷ es) fs a b = (
  a.0,
  ends-append P (before ++ g ∷ []) gs hs es fs a.1
      (subst (λ (x : List Tree). AreEnds P x hs fs) (sym (append_assoc before (g ∷ []) gs)) b),
)
ends-append P before [] hs (e ∷ es) fs a b = absurd a
ends-append P before (g ∷ gs) hs [] fs a b = absurd a

-- ends in what is left of bytes, counted from the start of these
pub ends_moved : (l : Allowance) (bytes : List ℕ) (given : List Tree) (n : ℕ) → EndAt l bytes given n
    → (before gs : List Tree) (es : List ℕ) → AreEnds (EndAt l (drop n bytes)) before gs es
    → AreEnds (EndAt l bytes) (given ++ before) gs (map (λ (k : ℕ). n + k) es)
ends_moved l bytes given n at before [] [] a = tt
ends_moved l bytes given n at before (g ∷ gs) (e ∷ es) a =
    let same : (given ++ before) ++ g ∷ [] ≡ given ++ (before ++ g ∷ []) = append_assoc given before (g ∷ []) in (
      subst (λ (x : List Tree). EndAt l bytes x (n + e)) (sym same)
          (end-append l bytes given (before ++ g ∷ []) n e at a.0),
      subst (λ (x : List Tree). AreEnds (EndAt l bytes) x gs (map (λ (k : ℕ). n + k) es)) (sym same)
          (ends_moved l bytes given n at (before ++ g ∷ []) gs es a.1),
    )
ends_moved l bytes given n at before [] (e ∷ es) a = absurd a
ends_moved l bytes given n at before (g ∷ gs) [] a = absurd a

-- there is one list of ends, if there is one end of each list of geometries
pub one_ends : (P : List Tree → ℕ → Type 0) (before gs : List Tree) (es fs : List ℕ)
    → ((hs : List Tree) (n m : ℕ) → P hs n → P hs m → n ≡ m) → AreEnds P before gs es → AreEnds P before gs fs
    → es ≡ fs
one_ends P before [] [] [] one a b = refl
one_ends P before (g ∷ gs) (e ∷ es) (f ∷ fs) one a b =
    let first = one (before ++ g ∷ []) e f a.0 b.0 in
    let more = one_ends P (before ++ g ∷ []) gs es fs one a.1 b.1 in λ i. first i ∷ more i
one_ends P before [] (e ∷ es) fs one a b = absurd a
one_ends P before [] [] (f ∷ fs) one a b = absurd b
one_ends P before (g ∷ gs) [] fs one a b = absurd a
one_ends P before (g ∷ gs) (e ∷ es) [] one a b = absurd b

-- ---- ends that are counted from another place

pub from_zero : (es : List ℕ) → map (λ (k : ℕ). 0 + k) es ≡ es
from_zero [] = refl
from_zero (e ∷ es) = let same : 0 + e ≡ e = omega arith in λ i. same i ∷ from_zero es i

moved_twice : (m n : ℕ) (es : List ℕ)
    → map (λ (k : ℕ). (m + n) + k) es ≡ map (λ (k : ℕ). m + k) (map (λ (k : ℕ). n + k) es)
moved_twice m n [] = refl
moved_twice m n (e ∷ es) =
    let same : (m + n) + e ≡ m + (n + e) = omega arith in λ i. same i ∷ moved_twice m n es i

pub ends_by-from : (m n : ℕ) (cs : List Call) → ends_by (m + n) cs ≡ map (λ (k : ℕ). m + k) (ends_by n cs)
ends_by-from m n [] = refl
ends_by-from m n (c ∷ cs) =
    let es = take c.counts.done c.new_ends in
    let same : (m + n) + c.counts.taken ≡ m + (n + c.counts.taken) = omega arith in
    (λ i. moved_twice m n es i ++ (ap (λ (k : ℕ). ends_by k cs) same ∙ ends_by-from m (n + c.counts.taken) cs) i)
    ∙ sym (map-append (λ (k : ℕ). m + k) (map (λ (k : ℕ). n + k) es) (ends_by (n + c.counts.taken) cs))

-- ==== How a reading ended.

-- a call that had memory and room left no geometry out
pub none_left_out : {ends_at : List Tree → ℕ → Type 0} (given later : List Tree) (answer : Result (Unit {0}) BlobFault)
    (counts : BufferCounts) → CountsAs ends_at given later answer counts → counts.status ≢ 4 → counts.status ≢ 5
    → later ≡ []
none_left_out given [] answer counts c memory room = refl
none_left_out given (g ∷ later) (Ok done) counts c memory room = absurd (room c.status_is)
none_left_out given (g ∷ later) (Err fault.Memory) counts c memory room = absurd (memory c.status_is)
none_left_out given (g ∷ later) (Err fault.Spent) counts c memory room = absurd (memory c.status_is)
none_left_out given (g ∷ later) (Err (fault.Device why)) counts c memory room = absurd (room c.status_is)
none_left_out given (g ∷ later) (Err (fault.At offset why)) counts c memory room = absurd (room c.status_is)

-- and came to the end of its bytes
how_ended : {ends_at : List Tree → ℕ → Type 0} (l : Allowance) (bytes : List ℕ) (given later : List Tree)
    (answer : Result (Unit {0}) BlobFault) (counts : BufferCounts) → CountsAs ends_at given later answer counts
    → later ≡ [] → counts.status ≢ 4 → length bytes ≤ MAX_BYTES → EndsReading l bytes (given ++ later) answer
    → EndsWith l bytes given counts.status counts.reason counts.place
how_ended l bytes given [] (Ok done) counts c none memory few e = inl (
  subst (λ (hs : List Tree). Stream l bytes hs) (append-nil given) e,
  c.status_is,
  c.reason_is,
)
how_ended l bytes given [] (Err (fault.At offset why)) counts c none memory few e = inr (
  why,
  subst (λ (p : ℕ). StreamFault l bytes given p (reason_of why)) (sym c.place_is)
      (subst (λ (hs : List Tree). StreamFault l bytes hs offset (reason_of why)) (append-nil given) e),
  c.status_is,
  c.reason_is,
)
how_ended l bytes given [] (Err (fault.Device why)) counts c none memory few e =
    let long = e.0 in absurd (omega (arith, long, few))
how_ended l bytes given [] (Err fault.Memory) counts c none memory few e = absurd (memory c.status_is)
how_ended l bytes given [] (Err fault.Spent) counts c none memory few e = absurd e
how_ended l bytes given (g ∷ later) answer counts c none memory few e = absurd cc

-- a call that left no geometry out, in its window
pub ended_in : (l : Allowance) (c : Call) (r : Read l c) → r.reads.later ≡ [] → c.counts.status ≢ 4
    → length c.window ≤ MAX_BYTES
    → EndsWith l c.window r.reads.given c.counts.status c.counts.reason c.counts.place
ended_in l c r none memory few =
    let whole : take r.count c.window ≡ c.window = take_all r.count c.window (omega (arith, r.all none)) in
    how_ended l c.window r.reads.given r.reads.later r.reads.answer c.counts r.reads.counted none memory few
    (subst (λ (b : List ℕ). EndsReading l b (r.reads.given ++ r.reads.later) r.reads.answer) whole r.reads.ended)

-- ---- in all bytes

-- only the end of the bytes has the number of that reason
not_cut : (why : BlobReason) → blob_number_of why ≢ blob_number_of blob.Truncated → reason_of why ≡ Truncated → ⊥
not_cut blob.Truncated other e = other refl
not_cut _ other e = absurd cc

-- how it ended in a window is how it ends in all bytes
pub end_stays : (l : Allowance) (bytes window rest : List ℕ) (gs : List Tree) (status reason place : ℕ)
    → bytes ≡ window ++ rest
    → (window ≡ bytes) ⊎ ((status ≡ 1) × (reason ≢ blob_number_of blob.Truncated))
    → EndsWith l window gs status reason place → EndsWith l bytes gs status reason place
end_stays l bytes window rest gs status reason place whole (inl all) e =
    subst (λ (b : List ℕ). EndsWith l b gs status reason place) all e
end_stays l bytes window rest gs status reason place whole (inr refused) (inl e) =
    let one = refused.0 in
    let zero_is = e.1 in absurd (omega (arith, one, zero_is))
end_stays l bytes window rest gs status reason place whole (inr refused) (inr e) = inr (
  e.0,
  subst (λ (b : List ℕ). StreamFault l b gs place (reason_of e.0)) (sym whole)
      (fault_kept l window rest gs place (reason_of e.0)
      (not_cut e.0 (λ number. refused.1 (e.3 ∙ number))) e.1),
  e.2,
  e.3,
)

-- how the rest of bytes ends is how they end
pub end_moved : (l : Allowance) (bytes : List ℕ) (gs hs : List Tree) (n status reason place : ℕ) → EndAt l bytes gs n
    → EndsWith l (drop n bytes) hs status reason place → EndsWith l bytes (gs ++ hs) status reason (n + place)
end_moved l bytes gs hs n status reason place a (inl e) = inl (
  subst (λ (b : List ℕ). Stream l b (gs ++ hs)) (take-append-drop n bytes)
      (stream-append l (take n bytes) (drop n bytes) gs hs a.1 e.0),
  e.1,
  e.2,
)
end_moved l bytes gs hs n status reason place a (inr e) = inr (
  e.0,
  subst (λ (b : List ℕ). StreamFault l b (gs ++ hs) (n + place) (reason_of e.0)) (take-append-drop n bytes)
      (subst (λ (k : ℕ). StreamFault l (take n bytes ++ drop n bytes) (gs ++ hs) (k + place) (reason_of e.0))
      (length-take-le n bytes a.0)
      (fault-append l (take n bytes) (drop n bytes) gs hs place (reason_of e.0) a.1 e.1)),
  e.2,
  e.3,
)
