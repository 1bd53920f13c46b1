-- Streams that are read in pieces: what calls give together, that they come to the end, and what they read twice.
use Rattle.std.proofs.Common.{◌≡◌, ◌∙◌, ◌⊎◌, inl, inr, ◌<◌, ◌≤◌, ◌+◌, ℕ, List, [], ◌∷◌, ◌++◌, length, take, drop}
use Rattle.std.proofs.Common.{refl, sym, ap, subst, arith, length-append, append_assoc}
use Rattle.std.specs.Prelude.{Result, Ok, Err, map, ◌≢◌}
use Rattle.std.proofs.lemmas.List.{append-nil, drop-drop, length-drop, length-map, length-take-le, take-append-drop}
use Rattle.twkb_io.specs.declared.TheConstants.{MAX_BYTES}
use Rattle.twkb_points.specs.Point.{Point}
use Rattle.twkb_tree.specs.Tree.{Tree, saturated}
use Rattle.twkb_tree.specs.Limits.{Allowance}
use Rattle.twkb_tree.specs.Rows.{Row, rows_of, row_points}
use Rattle.twkb_grammar.specs.Items.{BlobInFront, Stream}
use Rattle.twkb_grammar.proofs.Streams.{behind_stream, blob_some, no_stream, one_stream, one_stream_fault}
use Rattle.twkb_grammar.proofs.NotedSpans.{none_front}
use Rattle.twkb_grammar.proofs.OneFault.{left_cancel}
use Rattle.twkb_engine.specs.Stops.{reason_of}
use Rattle.twkb_engine.specs.declared.blob_reason.BlobReason.{BlobReason}
use Rattle.twkb_blob.specs.declared.fault.BlobFault.{BlobFault}
use Rattle.twkb_blob.specs.declared.fault.BlobFault.TheVariants as fault
use Rattle.twkb_buffer.specs.Numbers.{blob_number_of}
use Rattle.twkb_buffer.specs.declared.point.BufferPoint.{BufferPoint}
use Rattle.twkb_arrays.specs.Ends.{AreEnds, EndAt}
use Rattle.twkb_arrays.specs.FilledArrays.{BeginsWithBlobs, CountsAs, EndsReading}
use Rattle.twkb_arrays.specs.Pieces.{AddUpTo, Call, EndsWith, HasPlaces, HasPlacesFor, HaveRead, IsCall, IsLast}
use Rattle.twkb_arrays.specs.Pieces.{HaveReadAll, IsStoppingCall, PassesOver, ReadInPieces, done_by, ends_by}
use Rattle.twkb_arrays.specs.Pieces.{points_by, rows_by, taken_by}
use Rattle.twkb_arrays.specs.Rows.{LacksPlaces, array_points, array_rows, row_in_c}
use Rattle.twkb_arrays.specs.SentBlobs.{StopsBefore}
use Rattle.twkb_arrays.specs.declared.row.BufferRow.{BufferRow}
use Rattle.twkb_arrays.specs.declared.filled_arrays.BufferCounts.{BufferCounts}
use Rattle.twkb_arrays.proofs.ArrayLemmas.{length-coordinates_of}
use Rattle.twkb_arrays.proofs.EndLemmas.{end_kept, ends_kept}
use Rattle.twkb_arrays.proofs.FaultLemmas.{AreNested, GoesOn, nested, no_bytes, none_there}
use Rattle.twkb_arrays.proofs.ReadingLaws.{fault_number, number_is}
use Rattle.twkb_arrays.proofs.PieceLemmas.{Read, all_points-append, array_points-append, array_rows-append, end-append}
use Rattle.twkb_arrays.proofs.PieceLemmas.{end_moved, end_stays, ended_in, ends-append, ends_by-from, ends_moved}
use Rattle.twkb_arrays.proofs.PieceLemmas.{ends_wrote, from_zero, none_left_out, one_ends, points_wrote, read_of}
use Rattle.twkb_arrays.proofs.PieceLemmas.{rows_of-append, rows_wrote, taken_in, taken_of}

-- ==== What calls read, one after another.

-- calls that read nothing yet
nothing : (l : Allowance) (bytes : List ℕ) → HaveRead l bytes [] []
nothing l bytes = record {
  rows_are = refl;
  points_are = refl;
  done_is = refl;
  taken_are = (omega arith, refl);
  ends_are = λ some. tt;
}

-- the ends that a call wrote, and those of calls after it
ends_next : (l : Allowance) (bytes rest : List ℕ) (c : Call) (cs : List Call) (gs : List Tree)
    → bytes ≡ c.window ++ rest → (r : Read l c) → c.old_ends ≢ []
    → AreEnds (EndAt l (drop c.counts.taken bytes)) [] gs (ends_by 0 cs)
    → AreEnds (EndAt l bytes) [] (r.reads.given ++ gs) (ends_by 0 (c ∷ cs))
ends_next l bytes rest c cs gs whole r some after =
    let es = take c.counts.done c.new_ends in
    let more = map (λ (k : ℕ). c.counts.taken + k) (ends_by 0 cs) in
    let from : 0 + c.counts.taken ≡ c.counts.taken + 0 = omega arith in
    let others : ends_by (0 + c.counts.taken) cs ≡ more =
    ap (λ (k : ℕ). ends_by k cs) from ∙ ends_by-from c.counts.taken 0 cs in
    let same : ends_by 0 (c ∷ cs) ≡ es ++ more = λ i. from_zero es i ++ others i in
    subst (λ (fs : List ℕ). AreEnds (EndAt l bytes) [] (r.reads.given ++ gs) fs) (sym same)
    (ends-append (EndAt l bytes) [] r.reads.given gs es more
    (ends_kept (EndAt l c.window) (EndAt l bytes) there [] r.reads.given es (ends_wrote l c r some))
    (subst (λ (x : List Tree). AreEnds (EndAt l bytes) x gs more) (append-nil r.reads.given)
    (ends_moved l bytes r.reads.given c.counts.taken (taken_of l bytes rest c r whole) [] gs (ends_by 0 cs) after)))
  where
    there : (hs : List Tree) (n : ℕ) → EndAt l c.window hs n → EndAt l bytes hs n
    there hs n e = subst (λ (b : List ℕ). EndAt l b hs n) (sym whole) (end_kept l c.window rest hs n e)

-- a call, and those after it
next : (l : Allowance) (bytes rest : List ℕ) (c : Call) (cs : List Call) (gs : List Tree)
    → bytes ≡ c.window ++ rest → (r : Read l c) → HaveRead l (drop c.counts.taken bytes) cs gs
    → HaveRead l bytes (c ∷ cs) (r.reads.given ++ gs)
next l bytes rest c cs gs whole r h = record {
  rows_are = (λ i. rows_wrote l c r i ++ h.rows_are i) ∙ sym (array_rows-append r.reads.given gs);
  points_are = (λ i. points_wrote l c r i ++ h.points_are i) ∙ sym (array_points-append r.reads.given gs);
  done_is = omega (arith, r.reads.counted.done_is, h.done_is, length-append r.reads.given gs);
  taken_are = end-append l bytes r.reads.given gs c.counts.taken (taken_by cs) (taken_of l bytes rest c r whole)
      h.taken_are;
  ends_are = λ some. ends_next l bytes rest c cs gs whole r some.0 (h.ends_are some.1);
}

-- whatever the windows and rooms are, what calls wrote is what the bytes that they took have
pub so_far : (l : Allowance) (bytes : List ℕ) (cs : List Call) → ReadInPieces l bytes cs
    → (gs : List Tree) × HaveRead l bytes cs gs
so_far l bytes [] in_pieces = ([], nothing l bytes)
so_far l bytes (c ∷ cs) in_pieces =
    let r = read_of l c in_pieces.0 in
    let more = so_far l (drop c.counts.taken bytes) cs in_pieces.2 in
    (r.reads.given ++ more.0, next l bytes in_pieces.1.0 c cs more.0 in_pieces.1.1 r more.1)

-- ==== The last of them.

only_call : (l : Allowance) (bytes rest : List ℕ) (last : Call) → bytes ≡ last.window ++ rest → Read l last
    → IsLast bytes last → length last.window ≤ MAX_BYTES → (gs : List Tree) × HaveReadAll l bytes [] last gs
only_call l bytes rest last whole r is_last few =
    let none = none_left_out r.reads.given r.reads.later r.reads.answer last.counts r.reads.counted is_last.memory
    is_last.room in
    let from_start : last.counts.place ≡ 0 + last.counts.place = omega arith in (
      r.reads.given,
      record {
        have_read = subst (λ (gs : List Tree). HaveRead l bytes (last ∷ []) gs) (append-nil r.reads.given)
            (next l bytes rest last [] [] whole r (nothing l (drop last.counts.taken bytes)));
        ended = subst
            (λ (n : ℕ). EndsWith l bytes r.reads.given last.counts.status last.counts.reason n) from_start
            (end_stays l bytes last.window rest r.reads.given last.counts.status last.counts.reason
            last.counts.place whole is_last.final (ended_in l last r none is_last.memory few));
      },
    )

pub ended : (l : Allowance) (bytes : List ℕ) (before : List Call) (last : Call)
    → ReadInPieces l bytes (before ++ last ∷ []) → IsLast (drop (taken_by before) bytes) last
    → length last.window ≤ MAX_BYTES → (gs : List Tree) × HaveReadAll l bytes before last gs
ended l bytes [] last in_pieces is_last few =
    only_call l bytes in_pieces.1.0 last in_pieces.1.1 (read_of l last in_pieces.0) is_last few
ended l bytes (c ∷ before) last in_pieces is_last few =
    let r = read_of l c in_pieces.0 in
    let more = ended l (drop c.counts.taken bytes) before last in_pieces.2
    (subst (λ (b : List ℕ). IsLast b last) (sym (drop-drop (taken_by before) c.counts.taken bytes)) is_last) few in
    let place : c.counts.taken + (taken_by before + last.counts.place)
    ≡ (c.counts.taken + taken_by before) + last.counts.place = omega arith in (
      r.reads.given ++ more.0,
      record {
        have_read = next l bytes in_pieces.1.0 c (before ++ last ∷ []) more.0 in_pieces.1.1 r more.1.have_read;
        ended = subst (λ (n : ℕ). EndsWith l bytes (r.reads.given ++ more.0) last.counts.status
            last.counts.reason n) place
            (end_moved l bytes r.reads.given more.0 c.counts.taken last.counts.status last.counts.reason
            (taken_by before + last.counts.place) (taken_of l bytes in_pieces.1.0 c r in_pieces.1.1)
            more.1.ended);
      },
    )

-- ==== One call over all bytes.

-- blobs at the start of bytes are the first of all that the bytes have
complete : (l : Allowance) (bytes a x : List ℕ) (gs hs : List Tree) (status reason place : ℕ)
    → EndsWith l bytes gs status reason place → Stream l a hs → a ++ x ≡ bytes
    → (ks : List Tree) × (gs ≡ hs ++ ks)
complete l bytes a x gs hs status reason place (inl e) s at =
    let more = behind_stream l a x hs gs s (subst (λ (b : List ℕ). Stream l b gs) (sym at) e.0) in
    (more.0, more.1)
complete l bytes a x gs hs status reason place (inr e) s at =
    go (nested l a e.1.front x e.1.rest hs gs s e.1.blobs (at ∙ e.1.whole))
  where
    go : AreNested l a hs e.1.front gs → (ks : List Tree) × (gs ≡ hs ++ ks)
    go (inl n) = (n.others, n.geometries_are)
    go (inr n) =
        let here : e.1.front ++ (n.bytes ++ x) ≡ e.1.front ++ e.1.rest =
        sym (append_assoc e.1.front n.bytes x) ∙ ap (λ (b : List ℕ). b ++ x) (sym n.bytes_are)
        ∙ at ∙ e.1.whole in
        let none = none_there l e.1.rest n.bytes x n.others e.1.within (reason_of e.0) e.1.first n.blobs
        (left_cancel e.1.front (n.bytes ++ x) e.1.rest here) in (
          [],
          sym (n.geometries_are ∙ ap (λ (ks : List Tree). gs ++ ks) none ∙ append-nil gs)
              ∙ sym (append-nil hs),
        )

-- what was read is at the start of the bytes
begun : (l : Allowance) (bytes : List ℕ) (gs : List Tree) (answer : Result (Unit {0}) BlobFault)
    → EndsReading l bytes gs answer → BeginsWithBlobs l bytes gs
begun l bytes gs (Ok done) e = (bytes, [], sym (append-nil bytes), e)
begun l bytes gs (Err (fault.At offset why)) e = (e.front, e.rest, e.whole, e.blobs)
begun l bytes gs (Err (fault.Device why)) e = e.1
begun l bytes gs (Err fault.Memory) e = e
begun l bytes gs (Err fault.Spent) e = absurd e

begun_in : (l : Allowance) (c : Call) (r : Read l c) → BeginsWithBlobs l c.window (r.reads.given ++ r.reads.later)
begun_in l c r =
    let b = begun l (take r.count c.window) (r.reads.given ++ r.reads.later) r.reads.answer r.reads.ended in (
      b.0,
      b.1 ++ drop r.count c.window,
      sym (take-append-drop r.count c.window) ∙ ap (λ (k : List ℕ). k ++ drop r.count c.window) b.2
          ∙ append_assoc b.0 b.1 (drop r.count c.window),
      b.3,
    )

-- arrays with places for geometries have places for the first of them
has_places : (c : Call) (gs hs ks : List Tree) → HasPlacesFor c gs → gs ≡ hs ++ ks
    → LacksPlaces c.old_rows c.old_points c.old_ends hs → ⊥
has_places c gs hs ks h e lacks = go lacks
  where
    rows_are : length (rows_of gs) ≡ length (rows_of hs) + length (rows_of ks)
    rows_are = ap (λ (g : List Tree). length (rows_of g)) e
        ∙ ap (λ (rs : List Row). length rs) (rows_of-append hs ks) ∙ length-append (rows_of hs) (rows_of ks)

    points_are : length (row_points (rows_of gs))
        ≡ length (row_points (rows_of hs)) + length (row_points (rows_of ks))
    points_are = ap (λ (g : List Tree). length (row_points (rows_of g))) e
        ∙ ap (λ (ps : List Point). length ps) (all_points-append hs ks)
        ∙ length-append (row_points (rows_of hs)) (row_points (rows_of ks))

    many : length gs ≡ length hs + length ks
    many = ap (λ (g : List Tree). length g) e ∙ length-append hs ks

    no_ends : (c.old_ends ≡ []) ⊎ (length gs ≤ length c.old_ends) → 0 < length c.old_ends
        → length c.old_ends < length hs → ⊥
    no_ends (inl none) some few = omega (arith, some, ap (λ (es : List ℕ). length es) none)
    no_ends (inr fit) some few = omega (arith, few, fit, many)

    go : LacksPlaces c.old_rows c.old_points c.old_ends hs → ⊥
    go (inl (inl few)) = omega (arith, few, h.rows_fit, rows_are)
    go (inl (inr few)) = omega (arith, few, h.points_fit, points_are)
    go (inr (some, few)) = no_ends h.ends_fit some few

-- the first of more geometries
first_more : (given later ks : List Tree) (g : Tree)
    → (given ++ g ∷ later) ++ ks ≡ (given ++ g ∷ []) ++ (later ++ ks)
first_more given later ks g = append_assoc given (g ∷ later) ks ∙ sym (append_assoc given (g ∷ []) (later ++ ks))

-- a call with places for all geometries left none out
all_have_room : (l : Allowance) (c : Call) (gs given later : List Tree) (status reason place : ℕ)
    → EndsWith l c.window gs status reason place → HasPlacesFor c gs
    → StopsBefore (LacksPlaces c.old_rows c.old_points c.old_ends) given later
    → BeginsWithBlobs l c.window (given ++ later) → later ≡ []
all_have_room l c gs given [] status reason place e room stops b = refl
all_have_room l c gs given (g ∷ later) status reason place e room stops b =
    let all = complete l c.window b.0 b.1 gs (given ++ g ∷ later) status reason place e b.3 (sym b.2) in
    absurd (has_places c gs (given ++ g ∷ []) (later ++ all.0) room
    (all.1 ∙ first_more given later all.0 g) stops)

-- ---- bytes end in one way

-- the number of a reason is one
same_number : (a b : BlobReason) → reason_of a ≡ reason_of b → blob_number_of a ≡ blob_number_of b
same_number a b same = number_is a ∙ ap fault_number same ∙ sym (number_is b)

-- How two readings of bytes ended alike.
record EndAlike (gs hs : List Tree) (s t r q p o : ℕ) : Type 0 where
  pub geometries : gs ≡ hs
  pub status : s ≡ t
  pub reason : r ≡ q
  pub place : s ≡ 1 → p ≡ o

one_end : (l : Allowance) (bytes : List ℕ) (gs hs : List Tree) (s t r q p o : ℕ) → EndsWith l bytes gs s r p
    → EndsWith l bytes hs t q o → EndAlike gs hs s t r q p o
one_end l bytes gs hs s t r q p o (inl a) (inl b) =
    let zero_is = a.1 in
    record {
      geometries = one_stream l bytes gs hs a.0 b.0;
      status = a.1 ∙ sym b.1;
      reason = a.2 ∙ sym b.2;
      place = λ one. absurd (omega (arith, zero_is, one));
    }
one_end l bytes gs hs s t r q p o (inl a) (inr b) = absurd (no_stream l b.1.front b.1.rest hs gs b.1.within
    (reason_of b.0) b.1.blobs b.1.first.fault (subst (λ (k : List ℕ). Stream l k gs) b.1.whole a.0))
one_end l bytes gs hs s t r q p o (inr a) (inl b) = absurd (no_stream l a.1.front a.1.rest gs hs a.1.within
    (reason_of a.0) a.1.blobs a.1.first.fault (subst (λ (k : List ℕ). Stream l k hs) a.1.whole b.0))
one_end l bytes gs hs s t r q p o (inr a) (inr b) =
    let one = one_stream_fault l bytes gs hs p o (reason_of a.0) (reason_of b.0) a.1 b.1 in
    record {
      geometries = one.0;
      status = a.2 ∙ sym b.2;
      reason = a.3 ∙ same_number a.0 b.0 one.2 ∙ sym b.3;
      place = λ is. one.1;
    }

-- no geometries, by their number
none_of : (gs : List Tree) → length gs ≡ 0 → gs ≡ []
none_of [] e = refl
none_of (g ∷ gs) e = absurd (omega (arith, e))

-- nothing goes on after blobs of as many geometries
same_length : (l : Allowance) (a b : List ℕ) (gs hs : List Tree) → GoesOn l a gs b hs → length hs ≤ length gs
    → length a ≡ length b
same_length l a b gs hs n few =
    let none = none_of n.others (omega (
      arith,
      few,
      length-append gs n.others,
      ap (λ (ks : List Tree). length ks) n.geometries_are,
    )) in
    omega (
      arith,
      length-append a n.bytes,
      ap (λ (k : List ℕ). length k) n.bytes_are,
      ap (λ (k : List ℕ). length k) (no_bytes l n.bytes n.others n.blobs none),
    )

-- blobs of the same geometries end at one place
one_place : (l : Allowance) (bytes : List ℕ) (gs : List Tree) (n m : ℕ) → EndAt l bytes gs n → EndAt l bytes gs m
    → n ≡ m
one_place l bytes gs n m a b = go (nested l (take n bytes) (take m bytes) (drop n bytes) (drop m bytes) gs gs a.1 b.1
    (take-append-drop n bytes ∙ sym (take-append-drop m bytes)))
  where
    long : length (take n bytes) ≡ n
    long = length-take-le n bytes a.0

    as_long : length (take m bytes) ≡ m
    as_long = length-take-le m bytes b.0

    go : AreNested l (take n bytes) gs (take m bytes) gs → n ≡ m
    go (inl on) = sym long ∙ same_length l (take n bytes) (take m bytes) gs gs on (omega arith) ∙ as_long
    go (inr on) = sym long ∙ sym (same_length l (take m bytes) (take n bytes) gs gs on (omega arith)) ∙ as_long

-- ---- the sum of calls

-- the last window is within the bytes
last_within : (l : Allowance) (bytes : List ℕ) (before : List Call) (last : Call)
    → ReadInPieces l bytes (before ++ last ∷ []) → length last.window ≤ length bytes
last_within l bytes [] last in_pieces = omega (
  arith,
  ap (λ (b : List ℕ). length b) in_pieces.1.1,
  length-append last.window in_pieces.1.0,
)
last_within l bytes (c ∷ before) last in_pieces = omega (
  arith,
  last_within l (drop c.counts.taken bytes) before last in_pieces.2,
  length-drop c.counts.taken bytes,
)

-- arrays with places for what calls wrote have places for the geometries of it
places_for : (l : Allowance) (bytes : List ℕ) (one : Call) (cs : List Call) (gs : List Tree) → HaveRead l bytes cs gs
    → HasPlaces one (length (rows_by cs)) (length (points_by cs)) (done_by cs) → HasPlacesFor one gs
places_for l bytes one cs gs h room = record {
  rows_fit = subst (λ (n : ℕ). n ≤ length one.old_rows)
      (ap (λ (rs : List BufferRow). length rs) h.rows_are ∙ length-map (rows_of gs) row_in_c) room.rows_fit;
  points_fit = subst (λ (n : ℕ). n ≤ length one.old_points)
      (ap (λ (ps : List BufferPoint). length ps) h.points_are ∙ length-coordinates_of (row_points (rows_of gs)))
      room.points_fit;
  ends_fit = subst (λ (n : ℕ). (one.old_ends ≡ []) ⊎ (n ≤ length one.old_ends)) h.done_is room.ends_fit;
}

-- what calls wrote and how the last of them ended is what one call over all bytes gives
pub as_one : (l : Allowance) (bytes : List ℕ) (before : List Call) (last one : Call)
    → ReadInPieces l bytes (before ++ last ∷ []) → IsLast (drop (taken_by before) bytes) last
    → length bytes ≤ MAX_BYTES → IsCall l one → one.window ≡ bytes → one.counts.status ≢ 4
    → HasPlaces one (length (rows_by (before ++ last ∷ []))) (length (points_by (before ++ last ∷ [])))
    (done_by (before ++ last ∷ [])) → AddUpTo one before last
as_one l bytes before last one in_pieces is_last few called whole memory room =
    let within = last_within l bytes before last in_pieces in
    let all = ended l bytes before last in_pieces is_last (omega (arith, within, few)) in
    let h = all.1.have_read in
    let e = subst (λ (b : List ℕ). EndsWith l b all.0 last.counts.status last.counts.reason
    (taken_by before + last.counts.place)) (sym whole) all.1.ended in
    let r = read_of l one called in
    let none = all_have_room l one all.0 r.reads.given r.reads.later last.counts.status last.counts.reason
    (taken_by before + last.counts.place) e (places_for l bytes one (before ++ last ∷ []) all.0 h room)
    r.reads.stops (begun_in l one r) in
    let few_there : length one.window ≤ MAX_BYTES =
    omega (arith, few, ap (λ (b : List ℕ). length b) whole) in
    let same = one_end l one.window r.reads.given all.0 one.counts.status last.counts.status one.counts.reason
    last.counts.reason one.counts.place (taken_by before + last.counts.place)
    (ended_in l one r none memory few_there) e in
    record {
      rows_are = rows_wrote l one r ∙ ap array_rows same.geometries ∙ sym h.rows_are;
      points_are = points_wrote l one r ∙ ap array_points same.geometries ∙ sym h.points_are;
      done_is = r.reads.counted.done_is ∙ ap (λ (gs : List Tree). length gs) same.geometries ∙ sym h.done_is;
      taken_is = one_place l bytes all.0 one.counts.taken (taken_by (before ++ last ∷ []))
          (subst (λ (gs : List Tree). EndAt l bytes gs one.counts.taken) same.geometries
          (subst (λ (b : List ℕ). EndAt l b r.reads.given one.counts.taken) whole (taken_in l one r)))
          h.taken_are;
      status_is = same.status;
      reason_is = same.reason;
      place_is = same.place;
      ends_are = λ some others. one_ends (EndAt l bytes) [] all.0 (take one.counts.done one.new_ends)
          (ends_by 0 (before ++ last ∷ [])) (λ hs n m. one_place l bytes hs n m)
          (subst (λ (gs : List Tree). AreEnds (EndAt l bytes) [] gs (take one.counts.done one.new_ends))
          same.geometries
          (subst (λ (b : List ℕ). AreEnds (EndAt l b) [] r.reads.given (take one.counts.done one.new_ends)) whole
          (ends_wrote l one r some)))
          (h.ends_are others);
    }

-- ==== A call takes the geometries that are whole in its window, if it has places for them.

-- the geometries are the first of those in `given`, or go on after all of these with the first of those in `later`
abbrev AreWithin : List Tree → List Tree → List Tree → Type 0
AreWithin gs given later = ((ks : List Tree) × (given ≡ gs ++ ks))
    ⊎ ((g : Tree) × (ks us : List Tree) × (gs ≡ given ++ g ∷ ks) × (later ≡ g ∷ us))

within_more : (x g : Tree) (given later gs : List Tree) → x ≡ g → AreWithin gs given later
    → AreWithin (g ∷ gs) (x ∷ given) later
within_more x g given later gs same (inl h) = inl (h.0, λ i. same i ∷ h.1 i)
within_more x g given later gs same (inr h) = inr (h.0, h.1, h.2, λ i. sym same i ∷ h.3 i, h.4)

are_within : (given later gs ks : List Tree) → given ++ later ≡ gs ++ ks → AreWithin gs given later
are_within given later [] ks e = inl (given, refl)
are_within [] [] (g ∷ gs) ks e = absurd cc
are_within [] (h ∷ later) (g ∷ gs) ks e =
    let same : h ≡ g = cc in inr (g, gs, later, refl, λ i. same i ∷ later)
are_within (x ∷ given) later (g ∷ gs) ks e =
    let same : x ≡ g = cc in
    let more : given ++ later ≡ gs ++ ks = cc in
    within_more x g given later gs same (are_within given later gs ks more)

-- geometries at the start of a window for which there are places are among those that were taken
whole_taken : (l : Allowance) (c : Call) (front rest : List ℕ) (gs given later : List Tree) → Stream l front gs
    → c.window ≡ front ++ rest → HasPlacesFor c gs
    → StopsBefore (LacksPlaces c.old_rows c.old_points c.old_ends) given later
    → BeginsWithBlobs l c.window (given ++ later)
    → (later ≡ [] → EndsWith l c.window given c.counts.status c.counts.reason c.counts.place)
    → (ks : List Tree) × (given ≡ gs ++ ks)
whole_taken l c front rest gs given [] s whole room stops b ends = complete l c.window front rest given gs
    c.counts.status c.counts.reason c.counts.place (ends refl) s (sym whole)
whole_taken l c front rest gs given (g ∷ later) s whole room stops b ends =
    go (nested l front b.0 rest b.1 gs (given ++ g ∷ later) s b.3 (sym whole ∙ b.2))
  where
    among : AreWithin gs given (g ∷ later) → (ks : List Tree) × (given ≡ gs ++ ks)
    among (inl h) = h
    among (inr h) =
        let same : h.0 ≡ g = let e = h.4 in cc in
        absurd (has_places c gs (given ++ g ∷ []) h.1 room
        (h.3 ∙ (λ i. given ++ same i ∷ h.1) ∙ sym (append_assoc given (g ∷ []) h.1)) stops)

    go : AreNested l front gs b.0 (given ++ g ∷ later) → (ks : List Tree) × (given ≡ gs ++ ks)
    go (inl n) = among (are_within given (g ∷ later) gs n.others n.geometries_are)
    go (inr n) = absurd (has_places c gs (given ++ g ∷ []) (later ++ n.others) room
        (n.geometries_are ∙ first_more given later n.others g) stops)

-- a call takes at least the blobs that are whole in its window and for which it has places
pub takes_whole : (l : Allowance) (c : Call) (front rest : List ℕ) (gs : List Tree) → IsCall l c
    → c.counts.status ≢ 4 → length c.window ≤ MAX_BYTES → c.window ≡ front ++ rest → Stream l front gs
    → HasPlacesFor c gs → (length front ≤ c.counts.taken) × (length gs ≤ c.counts.done)
takes_whole l c front rest gs called memory few whole s room = (
  go (nested l front (take c.counts.taken c.window) rest (drop c.counts.taken c.window) gs r.reads.given s at.1
      (sym whole ∙ sym (take-append-drop c.counts.taken c.window))),
  omega (arith, many, r.reads.counted.done_is),
)
  where
    r : Read l c
    r = read_of l c called

    at : EndAt l c.window r.reads.given c.counts.taken
    at = taken_in l c r

    long : length (take c.counts.taken c.window) ≡ c.counts.taken
    long = length-take-le c.counts.taken c.window at.0

    among : (ks : List Tree) × (r.reads.given ≡ gs ++ ks)
    among = whole_taken l c front rest gs r.reads.given r.reads.later s whole room r.reads.stops (begun_in l c r)
        (λ none. ended_in l c r none memory few)

    many : length gs ≤ length r.reads.given
    many = omega (arith, ap (λ (g : List Tree). length g) among.1, length-append gs among.0)

    go : AreNested l front gs (take c.counts.taken c.window) r.reads.given → length front ≤ c.counts.taken
    go (inl n) = omega (arith, long, ap (λ (b : List ℕ). length b) n.bytes_are, length-append front n.bytes)
    go (inr n) = omega (
      arith,
      long,
      same_length l (take c.counts.taken c.window) front r.reads.given gs n many,
    )

-- ==== What a call reads and does not take.

after_equal : (gs hs ks : List Tree) → gs ++ hs ≡ gs ++ ks → hs ≡ ks
after_equal [] hs ks e = e
after_equal (g ∷ gs) hs ks e = let more : gs ++ hs ≡ gs ++ ks = cc in after_equal gs hs ks more

-- what was read and not taken comes after what was taken
not_taken : (l : Allowance) (bytes : List ℕ) (given later : List Tree) (n : ℕ) → EndAt l bytes given n
    → BeginsWithBlobs l bytes (given ++ later) → BeginsWithBlobs l (drop n bytes) later
not_taken l bytes given later n a b = go (nested l (take n bytes) b.0 (drop n bytes) b.1 given (given ++ later) a.1
    b.3 (take-append-drop n bytes ∙ b.2))
  where
    go : AreNested l (take n bytes) given b.0 (given ++ later) → BeginsWithBlobs l (drop n bytes) later
    go (inl on) = (
      on.bytes,
      b.1,
      left_cancel (take n bytes) (drop n bytes) (on.bytes ++ b.1)
          (take-append-drop n bytes ∙ b.2 ∙ ap (λ (k : List ℕ). k ++ b.1) on.bytes_are
          ∙ append_assoc (take n bytes) on.bytes b.1),
      subst (λ (ks : List Tree). Stream l on.bytes ks)
          (sym (after_equal given later on.others on.geometries_are)) on.blobs,
    )
    go (inr on) =
        let none = none_of later (omega (
          arith,
          ap (λ (ks : List Tree). length ks) on.geometries_are,
          length-append (given ++ later) on.others,
          length-append given later,
        )) in ([], drop n bytes, refl, subst (λ (ks : List Tree). Stream l [] ks) (sym none) refl)

-- with status 5 there is a geometry for which there was no room
some_left_out : {ends_at : List Tree → ℕ → Type 0} (given later : List Tree) (answer : Result (Unit {0}) BlobFault)
    (counts : BufferCounts) → CountsAs ends_at given later answer counts → counts.status ≡ 5 → later ≢ []
some_left_out given [] (Ok done) counts c five none = absurd (omega (arith, five, c.status_is))
some_left_out given [] (Err fault.Memory) counts c five none = absurd (omega (arith, five, c.status_is))
some_left_out given [] (Err fault.Spent) counts c five none = absurd (omega (arith, five, c.status_is))
some_left_out given [] (Err (fault.Device why)) counts c five none = absurd (omega (arith, five, c.status_is))
some_left_out given [] (Err (fault.At offset why)) counts c five none = absurd (omega (arith, five, c.status_is))
some_left_out given (g ∷ later) answer counts c five none = absurd cc

passes_over : (l : Allowance) (c : Call) (r : Read l c) → PassesOver l c r.reads.given r.reads.later
passes_over l c r = record {
  taken_are = taken_in l c r;
  blobs = not_taken l c.window given later c.counts.taken (taken_in l c r) (begun_in l c r);
  lacks = r.reads.stops;
  full = some_left_out given later r.reads.answer c.counts r.reads.counted;
  needed_rows_is = r.reads.counted.needed_rows_is ∙ ap (λ (n : ℕ). saturated n) rows_are;
  needed_points_is = r.reads.counted.needed_points_is ∙ ap (λ (n : ℕ). saturated n) points_are;
}
  where
    given : List Tree
    given = r.reads.given

    later : List Tree
    later = r.reads.later

    rows_are : length (rows_of (given ++ later)) ≡ c.counts.rows + length (rows_of later)
    rows_are = omega (
      arith,
      r.reads.counted.rows_is,
      ap (λ (rs : List Row). length rs) (rows_of-append given later),
      length-append (rows_of given) (rows_of later),
    )

    points_are : length (row_points (rows_of (given ++ later)))
        ≡ c.counts.points + length (row_points (rows_of later))
    points_are = omega (
      arith,
      r.reads.counted.points_is,
      ap (λ (ps : List Point). length ps) (all_points-append given later),
      length-append (row_points (rows_of given)) (row_points (rows_of later)),
    )

-- a call that stops reads at most one geometry that it does not take
pub reads_one_more : (l : Allowance) (c : Call) → IsStoppingCall l c
    → (gs later : List Tree) × (length later ≤ 1) × PassesOver l c gs later
reads_one_more l c r = (
  r.reads.given,
  r.reads.later,
  r.one,
  passes_over l c (record { count = r.count; reads = r.reads; all = r.all }),
)

-- ==== A call that takes nothing.

-- no geometries are before the first byte
none_at : (l : Allowance) (bytes : List ℕ) (gs : List Tree) (n : ℕ) → EndAt l bytes gs n → n ≡ 0 → gs ≡ []
none_at l bytes [] n a zero_is = refl
none_at l bytes (g ∷ gs) n a zero_is =
    let s = a.1 in
    let no_bytes_there : take n bytes ≡ [] = ap (λ (k : ℕ). take k bytes) zero_is in
    absurd (blob_some l g s.0 s.3 (none_front s.0 s.1 (sym s.2 ∙ no_bytes_there)))

-- if memory and arrays suffice, no blob is whole in its window
pub no_whole_blob : (l : Allowance) (c : Call) (g : Tree) (rest : List ℕ) → IsCall l c → c.counts.status ≢ 4
    → c.counts.status ≢ 5 → length c.window ≤ MAX_BYTES → c.counts.taken ≡ 0 → BlobInFront l c.window g rest → ⊥
no_whole_blob l c g rest called memory room few zero_is b =
    let r = read_of l c called in
    let none = none_left_out r.reads.given r.reads.later r.reads.answer c.counts r.reads.counted memory room in
    let first : Stream l b.front (g ∷ []) = (b.front, [], sym (append-nil b.front), b.blob, refl) in
    let all = complete l c.window b.front rest r.reads.given (g ∷ []) c.counts.status c.counts.reason c.counts.place
    (ended_in l c r none memory few) first (sym b.whole) in
    let e : [] ≡ g ∷ all.0 = sym (none_at l c.window r.reads.given c.counts.taken (taken_in l c r) zero_is)
    ∙ all.1 in absurd cc

-- with status 5 its arrays lack places for the first geometry of the window
pub no_places : (l : Allowance) (c : Call) → IsCall l c → c.counts.status ≡ 5 → c.counts.taken ≡ 0
    → (g : Tree) × (rest : List ℕ) × BlobInFront l c.window g rest
    × LacksPlaces c.old_rows c.old_points c.old_ends (g ∷ [])
no_places l c called five zero_is =
    let r = read_of l c called in
    let over = passes_over l c r in
    go r.reads.given r.reads.later
    (none_at l c.window r.reads.given c.counts.taken over.taken_are zero_is) over.full over.lacks
    (subst (λ (n : ℕ). BeginsWithBlobs l (drop n c.window) r.reads.later) zero_is over.blobs)
  where
    go : (given later : List Tree) → given ≡ [] → (c.counts.status ≡ 5 → later ≢ [])
        → StopsBefore (LacksPlaces c.old_rows c.old_points c.old_ends) given later
        → BeginsWithBlobs l (drop 0 c.window) later → (g : Tree) × (rest : List ℕ) × BlobInFront l c.window g rest
        × LacksPlaces c.old_rows c.old_points c.old_ends (g ∷ [])
    go given [] none full lacks b = absurd (full five refl)
    go given (g ∷ later) none full lacks b =
        let s = b.3 in (
          g,
          s.1 ++ b.1,
          record {
            front = s.0;
            whole = b.2 ∙ ap (λ (k : List ℕ). k ++ b.1) s.2 ∙ append_assoc s.0 s.1 b.1;
            blob = s.3;
          },
          subst (λ (gs : List Tree). LacksPlaces c.old_rows c.old_points c.old_ends (gs ++ g ∷ [])) none lacks,
        )
