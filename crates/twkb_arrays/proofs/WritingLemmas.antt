-- Arrays that are written as streams, row by row and blob by blob, to their end.
use Rattle.std.proofs.Common.{◌≡◌, ℕ, ◌+◌, ◌-◌, ◌<◌, ◌≤◌, inl, inr, List, [], ◌∷◌, ◌++◌, length, take, drop, Bool, true}
use Rattle.std.proofs.Common.{false, refl, sym, ap, ◌∙◌, arith, length-append, append_assoc, subst, ℤ, pos, negsuc}
use Rattle.std.proofs.Common.{if◌then◌else◌, ◌⊎◌, slice_index_or, suc, zero}
use Rattle.std.proofs.lemmas.List.{append-nil, length-drop, length-map, length-take-le, map-append, take-append-drop}
use Rattle.std.proofs.lemmas.List.{take_all}
use Rattle.std.proofs.lemmas.Grind.{flat_map-append}
use Rattle.std.specs.Prelude.{IsTrue, ◌↔◌, Some, None, ◌==◌, Result, Ok, Err, Option, IfSome}
use Rattle.std.proofs.lemmas.Bool.{false≢true, true≢false, eqb-true}
use Rattle.twkb_points.specs.Point.{Point}
use Rattle.twkb_tree.specs.Tree.{Tree, simple, collection, saturated, IsTree}
use Rattle.twkb_tree.specs.Limits.{Allowance, IsValid}
use Rattle.twkb_tree.specs.Rows.{Row, rows, rows_of, row_points, AreValidRowsOfOne}
use Rattle.twkb_tree.proofs.TreeLemmas.{all_push}
use Rattle.twkb_tree.proofs.RowLaws.{one_geometry}
use Rattle.twkb_flat.specs.declared.stop.Stop.{Stop}
use Rattle.twkb_flat.specs.Taking.{IfRefused}
use Rattle.twkb_flat.specs.declared.stop.Stop.TheVariants as stop
use Rattle.twkb_grammar.specs.Written.{canonical_blob, canonical_stream}
use Rattle.twkb_grammar.specs.declared.style.Style.{Style}
use Rattle.twkb_buffer.specs.Polylines.{coordinates_of}
use Rattle.twkb_buffer.specs.declared.point.BufferPoint.{BufferPoint}
use Rattle.twkb_buffer.proofs.RunLemmas.{coordinates_of-append}
use Rattle.twkb_arrays.specs.Ends.{HasEnds, SentTo}
use Rattle.twkb_arrays.specs.SentBlobs.{AreTaken, HasSent, IsLimited, IsOpen, IsSentWithin, IsStreamIn, LacksBlobRoom}
use Rattle.twkb_arrays.specs.SentBlobs.{LimitsAfter, SendsOne}
use Rattle.twkb_arrays.specs.declared.sent_blobs.Sent.{Sent}
use Rattle.twkb_arrays.specs.Rows.{rows_in_c, id_flag, id_number, kind_number, point_of, points_of, precision_number}
use Rattle.twkb_arrays.specs.Rows.{row_in_c}
use Rattle.twkb_arrays.specs.WrittenArrays.{AreArrays, AreAsMany, AreCounted, AreRead, EndsWriting, IsWriting}
use Rattle.twkb_arrays.specs.WrittenArrays.{ReadsMore, SendsBlob, StaysWriting, StopsFull, StopsWriting}
use Rattle.twkb_arrays.specs.WrittenArrays.{stopped_at}
use Rattle.twkb_arrays.specs.declared.row.BufferRow.{BufferRow}
use Rattle.twkb_arrays.specs.declared.writer.ReadCounts.{ReadCounts}
use Rattle.twkb_arrays.specs.declared.written_arrays.RefusedAt.{RefusedAt}
use Rattle.twkb_arrays.specs.declared.writer.Writer.{Writer}
use Rattle.twkb_arrays.specs.JudgedRow.{AcceptedAfter, HasRightId, id_of, is_no_precision, precision_of, RefusedAfter}
use Rattle.twkb_arrays.specs.JudgedRow.{BeginWithRoot, IsMadeFirst}
use Rattle.twkb_arrays.proofs.ArrayLemmas.{laid_length, laid_next, length-coordinates_of, row_points-append, one_after}
use Rattle.twkb_arrays.proofs.EndLemmas.{ends_length, ends_next, has_room, none_later, passes}
use Rattle.twkb_arrays.proofs.TakingLemmas.{rows_of-more}

-- ==== Blobs that are written into a slice one after another.

-- ---- the stream of one more geometry

stream_more : (style : Style) (gs : List Tree) (g : Tree) (blob : List ℕ)
    → blob ≡ canonical_blob style g
    → canonical_stream style (gs ++ g ∷ []) ≡ canonical_stream style gs ++ blob
stream_more style gs g blob is = flat_map-append (canonical_blob style) gs (g ∷ [])
    ∙ ap (λ (xs : List ℕ). canonical_stream style gs ++ xs) (append-nil (canonical_blob style g)
    ∙ sym is)

stream_longer : (style : Style) (gs : List Tree) (g : Tree) (blob : List ℕ)
    → blob ≡ canonical_blob style g
    → length (canonical_stream style (gs ++ g ∷ [])) ≡ length (canonical_stream style gs) + length
    blob
stream_longer style gs g blob is = ap (λ (xs : List ℕ). length xs) (stream_more style gs g blob is)
    ∙ length-append (canonical_stream style gs) blob

-- a blob has a byte
pub some_bytes : (style : Style) (g : Tree) → 0 < length (canonical_blob style g)
some_bytes style (simple p s) = omega arith
some_bytes style (collection p ids gs) = omega arith

-- there are no more geometries than bytes
few_blobs : (style : Style) (gs : List Tree) → length gs ≤ length (canonical_stream style gs)
few_blobs style [] = omega arith
few_blobs style (g ∷ gs) = omega (
  arith,
  length-append (canonical_blob style g) (canonical_stream style gs),
  some_bytes style g,
  few_blobs style gs,
)

-- ---- the slice

-- a slice that holds a stream is as long as it was
same_length : {style : Style} {start in_output : List ℕ} {gs : List Tree}
    → IsStreamIn style start gs in_output → length in_output ≡ length start
same_length {style = style} {start = start} {gs = gs} f =
    laid_length (canonical_stream style gs) start refl f.bytes_are f.room

pub sent_within : {style : Style} {start start_ends in_output in_ends : List ℕ} {given later : List Tree} {sent : Sent}
    → HasSent style start start_ends given later in_output in_ends sent → IsSentWithin in_output in_ends sent
sent_within {style = style} {start = start} {start_ends = start_ends} {in_ends = in_ends} {given = given} {sent
    = sent} h =
    let bytes_fit : sent.bytes ≤ length start = omega (arith, h.filled.room, h.bytes_is) in
    let limited : (sent.bytes ≤ sent.limit) × (sent.limit ≤ length start) = elim h.limited [
      | inl open_room ↦
          let is = open_room.0 in (omega (arith, is, bytes_fit), omega (arith, is))
      | inr closed ↦
          let is = closed.0 in (omega (arith, is), omega (arith, is, bytes_fit))
    ] in
    let above = limited.1 in
    record {
      bytes_fit = limited.0;
      limit_fits = omega (arith, above, same_length h.filled);
      few = omega (arith, h.fit.done_is, h.bytes_is, few_blobs style given);
      limited = subst (λ (n : ℕ). IsLimited n (length in_ends) sent) (sym (same_length h.filled))
          (subst (λ (n : ℕ). IsLimited (length start) n sent) (sym (ends_length h.ends)) h.limited);
    }

-- nothing was written before the first blob
pub none_sent : {sent : Sent} (style : Style) (output ends : List ℕ) → sent.limit ≡ length output → sent.done ≡ 0
    → sent.bytes ≡ 0 → sent.passed ≡ 0 → sent.passed_bytes ≡ 0 → HasSent style output ends [] [] output ends sent
none_sent {sent = sent} style output ends limit done bytes passed passed_bytes = record {
  filled = record { bytes_are = refl; room = omega arith };
  ends = none_ended ends;
  fit = record { stops = tt; passed_is = omega (arith, passed); done_is = omega (arith, done) };
  bytes_is = omega (arith, bytes);
  passed_bytes_is = omega (arith, passed_bytes);
  limited = inl (limit, (passed, rw done (zero_or_more (length ends))));
  taken = inl refl;
}
  where
    zero_or_more : (n : ℕ) → (n ≡ 0) ⊎ (0 < n)
    zero_or_more zero = inl refl
    zero_or_more (suc n) = inr (omega arith)

    none_ended : (old : List ℕ) → HasEnds (SentTo style) old [] old
    none_ended [] = inl (refl, refl)
    none_ended (x ∷ xs) = inr (record { ends = []; are_ends = tt; new_is = refl; room = omega arith })

-- ---- what was written

-- a blob was passed that has this many bytes
abbrev pub passed_with : Sent → ℕ → Sent
passed_with t n = record t {
  limit = t.bytes;
  passed = saturated (t.passed + 1);
  passed_bytes = saturated (t.passed_bytes + n);
}

-- the number of bytes of all blobs that were made
pub needed : {style : Style} {start start_ends in_output in_ends : List ℕ} {given later : List Tree} {sent : Sent}
    → HasSent style start start_ends given later in_output in_ends sent
    → saturated (sent.bytes + sent.passed_bytes) ≡ saturated (length (canonical_stream style (given ++ later)))
needed {style = style} {given = given} {later = later} h = omega (
  arith,
  h.bytes_is,
  h.passed_bytes_is,
  ap (λ (xs : List ℕ). length xs) (flat_map-append (canonical_blob style) given later),
  length-append (canonical_stream style given) (canonical_stream style later),
)

-- one more blob was made
module _ {style : Style} {start start_ends in_output in_ends : List ℕ} {given later : List Tree} {old : Sent}
    (h : HasSent style start start_ends given later in_output in_ends old) (g : Tree) {blob : List ℕ}
    (same : blob ≡ canonical_blob style g) where
  -- there is no room for it, or others were passed before
  pub lacks_room : old.limit - old.bytes < length blob
      → (0 < old.passed) ⊎ LacksBlobRoom style start start_ends (given ++ g ∷ [])
  lacks_room few =
      let longer = stream_longer style given g blob same in
      let more = length-append given (g ∷ []) in elim h.limited [
        | inl open_room ↦
            let is = open_room.0 in inr (inl (omega (arith, few, is, longer, h.bytes_is)))
        | inr (is, inl some) ↦ inl some
        | inr (is, inr full) ↦
            let places = full.0 in
            let used = full.1 in inr (inr (places, omega (arith, used, more, h.fit.done_is)))
      ]

  -- it was counted, and not written
  pub passed_one : AreTaken given old → (0 < old.passed) ⊎ LacksBlobRoom style start start_ends (given ++ g ∷ [])
      → SendsOne style start start_ends (given ++ later) g in_output in_ends (passed_with old (length blob))
  passed_one taken lack = (
    given,
    later ++ g ∷ [],
    sym (append_assoc given later (g ∷ [])),
    record {
      filled = h.filled;
      ends = h.ends;
      fit = passes g h.fit lack;
      bytes_is = h.bytes_is;
      passed_bytes_is = omega (arith, h.passed_bytes_is, stream_longer style later g blob same);
      limited = inr (refl, inl (omega arith));
      taken = inr (record { rows_are = taken.rows_are; points_are = taken.points_are });
    },
  )

  -- it may be written
  pub is_open : 0 < length blob → length blob ≤ old.limit - old.bytes
      → (old.limit ≡ length start) × IsOpen (length start_ends) old
  is_open some fits = elim h.limited [
    | inl open_room ↦ open_room
    | inr closed ↦
        let is = closed.0 in absurd (omega (arith, is, some, fits))
  ]

  -- it was written
  pub sent_one : {new : Sent} {out new_ends : List ℕ} → 0 < length blob → length blob ≤ old.limit - old.bytes
      → out ≡ take old.bytes in_output ++ (blob ++ drop (old.bytes + length blob) in_output)
      → (length in_ends ≡ 0 → new_ends ≡ in_ends)
      → (old.done < length in_ends → new_ends
      ≡ take old.done in_ends ++ (((old.bytes + length blob) ∷ []) ++ drop (old.done + 1) in_ends))
      → new.done ≡ old.done + 1 → new.bytes ≡ old.bytes + length blob → new.passed ≡ old.passed
      → new.passed_bytes ≡ old.passed_bytes
      → LimitsAfter (length in_ends) (record old { bytes = old.bytes + length blob }) new
      → SendsOne style start start_ends (given ++ later) g out new_ends new
  sent_one {new = new} some fits out_is kept put done bytes passed passed_bytes limits =
      let room = is_open some fits in
      let limit = room.0 in
      let none : old.passed ≡ 0 = room.1.0 in
      let places : length in_ends ≡ length start_ends = ends_length h.ends in
      let end_room : (length in_ends ≡ 0) ⊎ (old.done < length in_ends) =
      subst (λ (n : ℕ). (n ≡ 0) ⊎ (old.done < n)) (sym places) room.1.1 in
      let empty = none_later h.fit none in
      let longer = stream_longer style given g blob same in
      let were : in_output ≡ canonical_stream style given ++ drop old.bytes start =
      rw h.bytes_is h.filled.bytes_are in
      let limited : IsLimited (length start) (length start_ends) new = elim limits [
        | inl same_limit ↦
            let is = same_limit.0 in
            inl (
              is ∙ limit,
              (passed ∙ none, subst (λ (n : ℕ). (n ≡ 0) ⊎ (new.done < n)) places (rw done same_limit.1)),
            )
        | inr last ↦
            let is = last.0 in
            let some_places = last.1 in
            let used = last.2 in
            inr (is ∙ sym bytes, inr (omega (arith, some_places, places), omega (arith, used, places, done)))
      ] in (
        given ++ g ∷ [],
        [],
        one_after given later g empty,
        record {
          filled = record {
            bytes_are = laid_next start (canonical_stream style given) blob (length blob) h.bytes_is
                (longer ∙ ap (λ (n : ℕ). n + length blob) (sym h.bytes_is)) were
                (stream_more style given g blob same) out_is;
            room = omega (arith, fits, longer, h.bytes_is, limit, h.filled.room);
          };
          ends = ends_next g old.done (old.bytes + length blob) h.ends (omega (arith, longer, h.bytes_is))
              h.fit.done_is end_room kept put;
          fit = rw (passed, done) (has_room g h.fit none);
          bytes_is = omega (arith, longer, h.bytes_is, bytes);
          passed_bytes_is = omega (
            arith,
            h.passed_bytes_is,
            passed_bytes,
            ap (λ (l : List Tree). length (canonical_stream style l)) empty,
          );
          limited = limited;
          taken = inl refl;
        },
      )

-- the rows and points of the blobs that were written are those that were read but for the open geometry's
pub noted : {style : Style} {start start_ends in_output in_ends : List ℕ} {given later : List Tree}
    {begun : List Row} {old new : Sent} (read : ReadCounts)
    → HasSent style start start_ends given later in_output in_ends old → AreCounted (given ++ later) begun read
    → (old.passed ≡ 0 → new
    ≡ record old { rows = read.rows - length begun; points = read.points - length (row_points begun) })
    → (0 < old.passed → new ≡ old)
    → HasSent style start start_ends given later in_output in_ends new × AreTaken given new
noted {given = given} {later = []} {begun = begun} {old = old} {new = new} read h counted first same =
    let all : given ++ [] ≡ given = append-nil given in
    let rows_are : read.rows ≡ length (rows_of given) + length begun = rw all at counted.rows_are in
    let points_are : read.points ≡ length (row_points (rows_of given)) + length (row_points begun) =
    rw all at counted.points_are in
    rw (first (omega (arith, h.fit.passed_is))) (
      record {
        filled = h.filled;
        ends = h.ends;
        fit = h.fit;
        bytes_is = h.bytes_is;
        passed_bytes_is = h.passed_bytes_is;
        limited = h.limited;
        taken = inl refl;
      },
      record { rows_are = omega (arith, rows_are); points_are = omega (arith, points_are) },
    )
noted {given = given} {later = x ∷ xs} {old = old} read h counted first same =
    let taken : AreTaken given old = elim h.taken [
      | inl none ↦ absurd (cc none)
      | inr taken ↦ taken
    ] in
    rw (same (omega (arith, h.fit.passed_is))) (h, taken)

-- a blob was passed, and what was written is in the slice
pub passed_within : {in_output in_ends : List ℕ} {old : Sent} (new : Sent) (n : ℕ)
    → new ≡ record old { rows = new.rows; points = new.points } → IsSentWithin in_output in_ends old
    → IsSentWithin in_output in_ends (passed_with new n)
passed_within {old = old} new n same i =
    let bytes : new.bytes ≡ old.bytes = ap (λ (t : Sent). t.bytes) same in
    let done : new.done ≡ old.done = ap (λ (t : Sent). t.done) same in
    record {
      bytes_fit = omega arith;
      limit_fits = omega (arith, bytes, i.bytes_fit, i.limit_fits);
      few = omega (arith, bytes, done, i.few);
      limited = inr (refl, inl (omega arith));
    }

-- ==== The open geometry of arrays that are written as streams.

-- a test for rows that found some
pub not_empty : (form : List Row) (found : Bool) → found ≡ false → IsTrue found ↔ (form ≡ []) → form ≡ [] → ⊥
not_empty form found some same none = false≢true (sym some ∙ same.1 none)

-- before the first row
pub none_read : (l : Allowance) (style : Style) (start start_ends : List ℕ) (writer : Writer)
    → writer.open_geometry ≡ [] → HasSent style start start_ends [] [] start start_ends writer.sent
    → IsWriting l style start start_ends [] [] start start_ends writer
none_read l style start start_ends writer none sent = record {
  given = [];
  later = [];
  read = rw none (record { valid = tt; begun_valid = tt; rows_are = refl; points_are = refl });
  sent = sent;
}

-- rows of one valid geometry, of which there are some, are all rows of it
pub one_of : (l : Allowance) (form : List Row) → (form ≡ [] → ⊥) → AreValidRowsOfOne l form
    → (g : Tree) × IsValid l g × (rows 0 g ≡ form)
one_of l [] some valid = absurd (some refl)
one_of l (r ∷ rs) some valid = valid

-- the open geometry is complete
read_whole : {l : Allowance} {gs : List Tree} {form : List Row} {in_rows : List BufferRow}
    {in_points : List BufferPoint} (g : Tree) → AreRead l gs form in_rows in_points → IsValid l g
    → rows 0 g ≡ form → AreRead l (gs ++ g ∷ []) [] in_rows in_points
read_whole {l = l} {gs = gs} {form = form} g a valid same =
    let all = sym (append-nil (rows_of (gs ++ g ∷ [])) ∙ rows_of-more gs g form same) in
    record {
      valid = all_push (IsValid l) gs g a.valid valid;
      begun_valid = tt;
      rows_are = a.rows_are ∙ ap rows_in_c all;
      points_are = a.points_are ∙ ap (λ (rs : List Row). coordinates_of (row_points rs)) all;
    }

-- the numbers of rows and points that were read are those of complete geometries and of the open one
pub counted : {l : Allowance} {gs : List Tree} {begun : List Row} {in_rows : List BufferRow}
    {in_points : List BufferPoint} {read : ReadCounts} → AreRead l gs begun in_rows in_points
    → AreAsMany in_rows in_points read → AreCounted gs begun read
counted {gs = gs} {begun = begun} a many =
    let rs = rows_of gs ++ begun in
    let rows_are = many.0 in
    let points_are = many.1 in record {
      rows_are = omega (
        arith,
        rows_are,
        ap (λ (xs : List BufferRow). length xs) a.rows_are,
        length-map rs row_in_c,
        length-append (rows_of gs) begun,
      );
      points_are = omega (
        arith,
        points_are,
        ap (λ (xs : List BufferPoint). length xs) a.points_are,
        length-coordinates_of (row_points rs),
        ap (λ (xs : List Point). length xs) (row_points-append (rows_of gs) begun),
        length-append (row_points (rows_of gs)) (row_points begun),
      );
    }

-- the open geometry is complete, and its blob was written or counted
pub ended_one : {l : Allowance} {style : Style} {start start_ends before before_ends after after_ends : List ℕ}
    {in_rows : List BufferRow} {in_points : List BufferPoint} {old : Writer}
    (w : IsWriting l style start start_ends in_rows in_points before before_ends old) (new : Writer)
    (blob : List ℕ) → (old.open_geometry ≡ [] → ⊥)
    → ((g : Tree) → IsTree g → rows 0 g ≡ old.open_geometry → blob ≡ canonical_blob style g)
    → ((g : Tree) → HasSent style start start_ends w.given w.later before before_ends old.sent
    → blob ≡ canonical_blob style g
    → SendsOne style start start_ends (w.given ++ w.later) g after after_ends new.sent)
    → new.open_geometry ≡ [] → IsWriting l style start start_ends in_rows in_points after after_ends new
ended_one {l = l} {style = style} {old = old} w new blob some made sends closed =
    let (g, valid, same) = one_of l old.open_geometry some w.read.begun_valid in
    let (given, later, all, sent) = sends g w.sent (made g valid.tree same) in
    record {
      given = given;
      later = later;
      read = rw (all, closed) (read_whole g w.read valid same);
      sent = sent;
    }

-- ==== A row of an array, and the row of a geometry that it stands for.

-- points in C's layout are the coordinates of what they stand for
pub coordinates_of-points_of : (own : List BufferPoint) → coordinates_of (points_of own) ≡ own
coordinates_of-points_of [] = refl
coordinates_of-points_of (p ∷ ps) = ap (λ (xs : List BufferPoint). p ∷ xs) (coordinates_of-points_of ps)

-- the id of a row whose flag is 1, and of one whose flag is 0
flagged : (row : BufferRow) → row.has_id ≡ 1 → id_of row ≡ Some row.id
flagged row one = ap (λ (n : ℕ). if n == 0 then None else Some row.id) one

bare : (row : BufferRow) → row.has_id ≡ 0 → id_of row ≡ None
bare row is_zero = ap (λ (n : ℕ). if n == 0 then None else Some row.id) is_zero

id_back : (row : BufferRow) → HasRightId row → id_number (id_of row) ≡ row.id
id_back row (inl one) = ap id_number (flagged row one)
id_back row (inr none) = ap id_number (bare row none.0) ∙ sym none.1

flag_back : (row : BufferRow) → HasRightId row → id_flag (id_of row) ≡ row.has_id
flag_back row (inl one) = ap id_flag (flagged row one) ∙ sym one
flag_back row (inr none) = ap id_flag (bare row none.0) ∙ sym none.0

precision_by : (n : ℕ) (b : Bool) → (n == 127) ≡ b
    → precision_number (if b then None else Some (negsuc n)) ≡ negsuc n
precision_by n true is = ap negsuc (sym (eqb-true n 127 is))
precision_by n false is = refl

precision_back : (p : ℤ) → precision_number (if is_no_precision p then None else Some p) ≡ p
precision_back (pos n) = refl
precision_back (negsuc n) = precision_by n (n == 127) refl

-- a row with the id that it stands for, and so on, is the row itself
same_row : (row : BufferRow) (id : ℤ) (points kind flag : ℕ) (precision : ℤ) → id ≡ row.id → points ≡ row.points
    → kind ≡ row.kind → flag ≡ row.has_id → precision ≡ row.precision
    → record { id = id; points = points; depth = row.depth; kind = kind; has_id = flag; precision = precision } ≡ row
same_row row id points kind flag precision ids counts kinds flags precisions =
    rw (ids, counts, kinds, flags, precisions) refl

-- an accepted row is in C's layout what the array has
pub row_back : (l : Allowance) (rs : List Row) (row : BufferRow) (ahead : List BufferPoint) (r : Row)
    → AcceptedAfter l rs row ahead r → row_in_c r ≡ row
row_back l rs row ahead r a =
    let k = a.0 in
    let own = take row.points ahead in
    let few : row.points ≤ length ahead = a.3 in
    let count : length (points_of own) ≡ row.points = length-map own point_of ∙ length-take-le row.points ahead few in
    ap row_in_c a.4
    ∙ same_row row (id_number (id_of row)) (length (points_of own)) (kind_number k) (id_flag (id_of row))
    (precision_number (precision_of row))
    (id_back row a.2) count a.1 (flag_back row a.2) (precision_back row.precision)

-- its points are the first of those ahead
pub points_back : (l : Allowance) (rs : List Row) (row : BufferRow) (ahead : List BufferPoint) (r : Row)
    → AcceptedAfter l rs row ahead r → coordinates_of r.points ≡ take row.points ahead
points_back l rs row ahead r a =
    ap (λ (x : Row). coordinates_of x.points) a.4 ∙ coordinates_of-points_of (take row.points ahead)

-- ==== The next row of arrays that are written as streams.

-- one more row is read, and belongs to the open geometry
read_more : {l : Allowance} {gs : List Tree} {form : List Row} {in_rows : List BufferRow}
    {in_points : List BufferPoint} (a : AreRead l gs form in_rows in_points) (new_form : List Row)
    (row : BufferRow) (ahead : List BufferPoint) (r : Row) (count : ℕ) → new_form ≡ form ++ r ∷ []
    → AcceptedAfter l form row ahead r → AreValidRowsOfOne l new_form → count ≡ row.points
    → AreRead l gs new_form (in_rows ++ row ∷ []) (in_points ++ take count ahead)
read_more {l = l} {form = form} a new_form row ahead r count is accepted valid count_is = record {
  valid = a.valid;
  begun_valid = valid;
  rows_are = rw (is, a.rows_are, ← row_back l form row ahead r accepted)
      (simp (append_assoc, map-append));
  points_are = rw (is, a.points_are, count_is, ← points_back l form row ahead r accepted)
      (simp (append_assoc, row_points-append, coordinates_of-append, append-nil));
}

-- one more row is read
abbrev writes_more : {l : Allowance} {style : Style} {start start_ends out out_ends : List ℕ}
    {in_rows : List BufferRow} {in_points : List BufferPoint} {mid : Writer}
    (w : IsWriting l style start start_ends in_rows in_points out out_ends mid) (new : Writer) (row : BufferRow)
    (ahead : List BufferPoint) (r : Row) (count : ℕ)
    → new.open_geometry ≡ mid.open_geometry ++ r ∷ []
    → AcceptedAfter l mid.open_geometry row ahead r → AreValidRowsOfOne l new.open_geometry
    → count ≡ row.points → new.sent ≡ mid.sent → IsWriting l style start start_ends (in_rows ++ row ∷ [])
    (in_points ++ take count ahead) out out_ends new
writes_more {style = style} {start = start} {start_ends = start_ends} {out = out} {out_ends = out_ends} w new row
    ahead r count is accepted valid count_is same = record {
      given = w.given;
      later = w.later;
      read = read_more w.read new.open_geometry row ahead r count is accepted valid count_is;
      sent = subst (λ (t : Sent). HasSent style start start_ends w.given w.later out out_ends t) (sym same) w.sent;
    }

-- the first of some rows, and those after it
first_and_more : (rows_ahead : List BufferRow) (row none : BufferRow) → 0 < length rows_ahead
    → row ≡ slice_index_or rows_ahead 0 none → rows_ahead ≡ row ∷ drop 1 rows_ahead
first_and_more [] row none some is = absurd (omega (arith, some))
first_and_more (first ∷ more) row none some is = ap (λ (r : BufferRow). r ∷ more) (sym is)

-- the first of some rows alone
pub first_alone : (rows_ahead : List BufferRow) (row none : BufferRow) → 0 < length rows_ahead
    → row ≡ slice_index_or rows_ahead 0 none → take 1 rows_ahead ≡ row ∷ []
first_alone rows_ahead row none some is =
    ap (λ (xs : List BufferRow). take 1 xs) (first_and_more rows_ahead row none some is)

-- the first row is a root
pub first_is_root : (rows_ahead : List BufferRow) (row none : BufferRow) → row ≡ slice_index_or rows_ahead 0 none
    → BeginWithRoot rows_ahead → row.depth ≡ 0
first_is_root [] row none is root = absurd root
first_is_root (first ∷ more) row none is root = ap (λ (r : BufferRow). r.depth) is ∙ root

-- a row is read into the form
pub row_read : (l : Allowance) (style : Style) (read : ReadCounts) (before before_ends after after_ends : List ℕ)
    (old mid new : Writer) (rows_ahead : List BufferRow) (row : BufferRow) (ahead : List BufferPoint) (count : ℕ)
    → take 1 rows_ahead ≡ row ∷ [] → StaysWriting style read before before_ends old after after_ends mid
    → (count ≤ length ahead) × (count ≡ row.points)
    → (r : Row) × (new.open_geometry ≡ mid.open_geometry ++ r ∷ [])
    × AcceptedAfter l mid.open_geometry row ahead r × AreValidRowsOfOne l new.open_geometry
    → new.sent ≡ mid.sent
    → ReadsMore l style read (take 1 rows_ahead) (take count ahead) before before_ends old after after_ends new
row_read l style read before before_ends after after_ends old mid new rows_ahead row ahead count first stays
    known pushed same = λ start start_ends in_rows in_points many w.
    rw first (writes_more (stays l start start_ends in_rows in_points many w) new row ahead pushed.0 count
    pushed.1 pushed.2 pushed.3 known.1 same)

-- a form to which a row was appended is not empty
pub some_pushed : (form new : List Row) (r : Row) → new ≡ form ++ r ∷ [] → new ≡ [] → ⊥
some_pushed form new r is none = omega (
  arith,
  length-append form (r ∷ []),
  ap (λ (xs : List Row). length xs) (sym is ∙ none),
)

-- the first row is a whole geometry with this many points, and these are the bytes of its blob
pub first_made : {l : Allowance} {style : Style} {rows_ahead : List BufferRow}
    {ahead : List BufferPoint} {made : Option ℕ} {count : ℕ} {found blob : List ℕ}
    → made ≡ Some count → blob ≡ found
    → IfSome made (λ n. IsMadeFirst l style rows_ahead ahead n found)
    → IsMadeFirst l style rows_ahead ahead count blob
first_made is same m = rw same (rw is at m)

-- the first row is a whole geometry, whose blob was written or counted
pub first_written : {l : Allowance} {style : Style} {rows_ahead : List BufferRow}
    {ahead : List BufferPoint} {count : ℕ} {blob : List ℕ}
    (m : IsMadeFirst l style rows_ahead ahead count blob) (read : ReadCounts)
    (before before_ends between between_ends after after_ends : List ℕ) (old mid new : Writer)
    → StaysWriting style read before before_ends old between between_ends mid
    → (BeginWithRoot rows_ahead → mid.open_geometry ≡ [])
    → SendsBlob blob read between between_ends mid after after_ends new
    → new.open_geometry ≡ mid.open_geometry
    → ReadsMore l style read (take 1 rows_ahead) (take count ahead) before before_ends old after after_ends new
first_written {l = l} {style = style} {ahead = ahead} {count = count} {blob = blob} m read before before_ends
    between between_ends after after_ends old mid new stays root sends same start start_ends in_rows in_points
    many w =
    let one = m.made in
    let r = one.only_row in
    let none : mid.open_geometry ≡ [] = root (subst BeginWithRoot (sym m.rows_are) one.is_root) in
    let accepted = subst (λ (rs : List Row). AcceptedAfter l rs m.row ahead r) (sym none) one.accepted in
    let now = stays l start start_ends in_rows in_points many w in
    let begun = writes_more now (record mid { open_geometry = r ∷ [] }) m.row ahead r count (rw none refl)
    accepted (one.geometry, one.valid, one.row_is) one.count_is refl in
    rw m.rows_are (ended_one begun new blob (λ e. cc e)
    (λ g tree is. one.blob_is
    ∙ ap (canonical_blob style)
    (one_geometry one.geometry g one.valid.tree tree (one.row_is ∙ sym is)))
    (λ g h is. sends style start start_ends now.given now.later g h (counted now.read many) is) (same ∙ none))

-- the first row is a root, and so no geometry is open
pub first_closes : {l : Allowance} {style : Style} {rows_ahead : List BufferRow} {ahead : List BufferPoint}
    {count : ℕ} {blob : List ℕ} {form : List Row} → IsMadeFirst l style rows_ahead ahead count blob
    → (BeginWithRoot rows_ahead → form ≡ []) → form ≡ []
first_closes m root = root (subst BeginWithRoot (sym m.rows_are) m.made.is_root)

-- the blob of the first row has a byte
pub first_has_bytes : {l : Allowance} {style : Style} {rows_ahead : List BufferRow} {ahead : List BufferPoint}
    {count : ℕ} {blob : List ℕ} → IsMadeFirst l style rows_ahead ahead count blob → 0 < length blob
first_has_bytes {style = style} m = omega (
  arith,
  some_bytes style m.made.geometry,
  ap (λ (xs : List ℕ). length xs) m.made.blob_is,
)

-- ---- a blob without room after which the call stops

-- it was that of the open geometry
pub stopped_before : {l : Allowance} {style : Style} {stops : Bool} {read : ReadCounts}
    {before before_ends after after_ends : List ℕ} {old new : Writer} (rows_ahead : List BufferRow)
    (ahead : List BufferPoint) → (stops ≡ true) × (0 < new.sent.passed) × (new.open_geometry ≡ [])
    → new.sent.passed ≤ 1 → StaysWriting style read before before_ends old after after_ends new
    → StopsFull l style stops read rows_ahead ahead before before_ends old after after_ends new
stopped_before {l = l} {style = style} {after = after} {after_ends = after_ends} {new = new} rows_ahead ahead off one
    stays = record {
      may = off.0;
      some = off.1;
      one = one;
      closed = off.2;
      count = 0;
      point_count = 0;
      rows_within = omega arith;
      points_within = omega arith;
      reads = λ start start_ends in_rows in_points many w.
          subst (λ (ps : List BufferPoint). IsWriting l style start start_ends (in_rows ++ []) ps after after_ends new)
          (sym (append-nil in_points))
          (subst (λ (rs : List BufferRow). IsWriting l style start start_ends rs in_points after after_ends new)
          (sym (append-nil in_rows)) (stays l start start_ends in_rows in_points many w));
    }

-- it was that of the first row
pub stopped_first : {l : Allowance} {style : Style} {stops : Bool} {read : ReadCounts}
    {before before_ends after after_ends : List ℕ} {old new : Writer} {rows_ahead : List BufferRow}
    {ahead : List BufferPoint} {count : ℕ} {blob : List ℕ}
    → IsMadeFirst l style rows_ahead ahead count blob → 0 < length rows_ahead
    → (stops ≡ true) × (0 < new.sent.passed) → new.sent.passed ≤ 1 → new.open_geometry ≡ []
    → ReadsMore l style read (take 1 rows_ahead) (take count ahead) before before_ends old after after_ends new
    → StopsFull l style stops read rows_ahead ahead before before_ends old after after_ends new
stopped_first {count = count} m some off one closed reads =
    let enough = m.made.accepted.3 in record {
      may = off.0;
      some = off.1;
      one = one;
      closed = closed;
      count = 1;
      point_count = count;
      rows_within = omega (arith, some);
      points_within = omega (arith, enough, m.made.count_is);
      reads = reads;
    }

-- ---- a row that is not read

-- memory was refused before more rows and points were read
pub lacks_memory : {l : Allowance} {style : Style} {start start_ends before before_ends after after_ends : List ℕ}
    {in_rows : List BufferRow} {in_points : List BufferPoint} {old : Writer} {read : ReadCounts} (new : Writer)
    (w : IsWriting l style start start_ends in_rows in_points before before_ends old)
    → AreAsMany in_rows in_points read → (more : List BufferRow) (ahead : List BufferPoint)
    → after ≡ before → after_ends ≡ before_ends → new.sent ≡ old.sent
    → new.open_geometry ≡ old.open_geometry
    → StopsWriting l style start start_ends (in_rows ++ more) (in_points ++ ahead) after after_ends new read
    stop.Memory
lacks_memory {in_rows = in_rows} {in_points = in_points} {old = old} new w many more ahead same_output same_ends
    same same_form = (
      w.given,
      w.later,
      rw (same_output, same_ends, same) w.sent,
      rw same_form (counted w.read many),
      record {
        begun = old.open_geometry;
        front_rows = in_rows;
        more = more;
        front_points = in_points;
        ahead = ahead;
        rows_are = refl;
        points_are = refl;
        read = w.read;
      },
    )

-- why a row is not read
pub row_not_read : (l : Allowance) (style : Style) (read : ReadCounts)
    (before before_ends after after_ends : List ℕ) (old mid new : Writer) (row none : BufferRow)
    (rows_ahead : List BufferRow) (ahead : List BufferPoint) (why : Stop ℕ) → 0 < length rows_ahead
    → row ≡ slice_index_or rows_ahead 0 none
    → StaysWriting style read before before_ends old after after_ends mid
    → new.sent ≡ mid.sent → new.open_geometry ≡ mid.open_geometry
    → (row.depth ≡ 0 → mid.open_geometry ≡ [])
    → (mid.open_geometry ≡ [] → (row.depth ≡ 0) ⊎ (old.open_geometry ≡ []))
    → IfRefused (RefusedAfter l mid.open_geometry row ahead) why
    → (start start_ends : List ℕ) (in_rows : List BufferRow) (in_points : List BufferPoint)
    → AreAsMany in_rows in_points read
    → IsWriting l style start start_ends in_rows in_points before before_ends old
    → (old.open_geometry ≡ [] → (in_rows ≡ []) ⊎ BeginWithRoot rows_ahead)
    → StopsWriting l style start start_ends (in_rows ++ rows_ahead) (in_points ++ ahead) after after_ends new read
    (stopped_at (length in_rows) ahead why)
row_not_read l style read before before_ends after after_ends old mid new row none rows_ahead ahead stop.Memory
    some is stays same same_form root kept refused start start_ends in_rows in_points many w was =
    lacks_memory new (stays l start start_ends in_rows in_points many w) many rows_ahead ahead refl refl same
    same_form
row_not_read l style read before before_ends after after_ends old mid new row none rows_ahead ahead
    (stop.Refused number) some is stays same same_form root kept refused start start_ends in_rows in_points many w
    was =
    let now = stays l start start_ends in_rows in_points many w in (
      now.given,
      now.later,
      rw same now.sent,
      rw same_form (counted now.read many),
      inl (record {
        begun = mid.open_geometry;
        front_rows = in_rows;
        row = row;
        more = drop 1 rows_ahead;
        front_points = in_points;
        ahead = ahead;
        rows_are = ap (λ (xs : List BufferRow). in_rows ++ xs)
            (first_and_more rows_ahead row none some is);
        points_are = refl;
        read = now.read;
        root = root;
        first = λ closed. elim (kept closed) [
          | inl is_zero ↦ inl is_zero
          | inr earlier ↦ elim (was earlier) [
            | inl first ↦ inr first
            | inr is_zero ↦ inl (first_is_root rows_ahead row none is is_zero)
          ]
        ];
        refused = refused;
        place_is = refl;
        index_is = refl;
      }),
    )

-- ==== The end of arrays that are written as streams: all is written, or points are left over.

-- points that are left over end the writing
pub points_left_over : {l : Allowance} {style : Style} {start start_ends out out_ends : List ℕ}
    {in_rows : List BufferRow} {writer : Writer} (in_points : List BufferPoint) (used : ℕ)
    (w : IsWriting l style start start_ends in_rows (take used in_points) out out_ends writer)
    → used < length in_points → (writer.open_geometry ≡ [] → in_rows ≡ [])
    → EndsWriting {A = Unit {0}} l (w.given ++ w.later) in_rows in_points
    (Err (stop.Refused (record { place = length in_rows; number = 72; index = 0 })))
points_left_over {writer = writer} in_points used w some last = inr (record {
  begun = writer.open_geometry;
  front_points = take used in_points;
  left = drop used in_points;
  points_are = sym (take-append-drop used in_points);
  read = w.read;
  last = last;
  some = omega (arith, length-drop used in_points, some);
  place_is = refl;
  number_is = refl;
  index_is = refl;
})

-- rows and points are those of complete geometries
pub all_complete : {l : Allowance} {style : Style} {start start_ends out out_ends : List ℕ}
    {in_rows : List BufferRow} {in_points : List BufferPoint} {writer : Writer}
    (w : IsWriting l style start start_ends in_rows in_points out out_ends writer) → writer.open_geometry ≡ []
    → AreArrays l (w.given ++ w.later) in_rows in_points
all_complete {writer = writer} w closed =
    let gs = w.given ++ w.later in
    let all : rows_of gs ++ writer.open_geometry ≡ rows_of gs = rw closed
    (append-nil (rows_of gs)) in record {
      valid = w.read.valid;
      rows_are = w.read.rows_are ∙ ap rows_in_c all;
      points_are = w.read.points_are ∙ ap (λ (rs : List Row). coordinates_of (row_points rs)) all;
    }
