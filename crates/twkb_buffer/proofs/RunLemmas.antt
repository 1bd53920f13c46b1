-- What a run between two slices says about the bytes, the length and the words of its report.
use Rattle.std.specs.Io.KnownBytes.{Appends}
use Rattle.std.proofs.Common.{◌≡◌, ◌∙◌, ℕ, ◌≤◌, List, ◌∷◌, ◌++◌, length, take, Result, Ok, Err, ap, sym, subst}
use Rattle.std.proofs.Common.{length-take-le, [], Some, Option, None, arith, refl, append_assoc, ◌+◌, ◌-◌}
use Rattle.std.proofs.Common.{◌<◌, drop, set, min, eqb, if◌then◌else◌}
use Rattle.twkb_convert.specs.declared.report.ConvertFault.{ConvertFault}
use Rattle.twkb_convert.specs.declared.report.Report.{Report}
use Rattle.twkb_table.proofs.FieldLemmas.{head_same, tail_same}
use Rattle.twkb_conversions.specs.Conversions.{Answers, IsRefusal, Outputs, outputs_of}
use Rattle.twkb_conversions.proofs.ConversionLemmas.{finished_length_is, refused_length_is}
use Rattle.twkb_buffer.specs.Calls.{Fills, Measures, MeasuresBy, count_of, refused_length, whole_length_of}
use Rattle.twkb_buffer.specs.Slices.{buffer_of, filled_of, held}
use Rattle.twkb_buffer.specs.declared.filler.Filler.{Filler}
use Rattle.std.proofs.lemmas.List.{drop-set, drop_min, take_min}
use Rattle.std.specs.Prelude.{◌≢◌}
use Rattle.twkb_tree.specs.Limits.{Allowance}
use Rattle.twkb_convert.specs.declared.report.Cause.{Cause}
use Rattle.twkb_conversions.specs.declared.conversion.Conversion.{Conversion}
use Rattle.twkb_convert.specs.declared.report.Cause.TheVariants as cause
use Rattle.twkb_buffer.specs.Numbers.{status_of, blob_number_of, point_text_number_of, reason_number_of}
use Rattle.twkb_buffer.specs.Numbers.{row_number_of}
use Rattle.twkb_buffer.specs.declared.report.BufferReport.{BufferReport}
use Rattle.twkb_points.specs.Point.{Point, AreInRange, IsInRange, point_at}
use Rattle.twkb_buffer.specs.Polylines.{FirstOutside, coordinates_at, coordinates_of}
use Rattle.twkb_buffer.specs.declared.point.BufferPoint.{BufferPoint}
use Rattle.std.proofs.Math.Nat.{min_comm, min-le_right}
use Rattle.std.proofs.Math.Numerals.{add-one}
use Rattle.twkb_polyline.specs.declared.fault.PolyReason.{PolyReason}
use Rattle.twkb_polyline.specs.declared.fault.PolyReason.TheVariants as text
use Rattle.twkb_table.specs.declared.reason.RowReason.{RowReason}
use Rattle.twkb_table.specs.declared.reason.RowReason.TheVariants as row
use Rattle.twkb_engine.specs.declared.blob_reason.BlobReason.{BlobReason}
use Rattle.twkb_engine.specs.declared.blob_reason.BlobReason.TheVariants as blob
use Rattle.twkb_convert.specs.Causes.{cause_words}
use Rattle.twkb_buffer.specs.Texts.{AreWordsOf, HasReason, NamesNoBlob, NamesNoPointText, NamesNoRow, other_words}
use Rattle.twkb_buffer.specs.Texts.{with_text}

-- ==== The bytes that a writer into a slice leaves there.

-- The writer keeps its borrow, and these bytes are the start of the borrowed slice.
pub record Filled (old new : Filler) (bytes : List ℕ) : Type 0 where
  pub same_borrow : (buffer_of new).ghost_name ≡ (buffer_of old).ghost_name
  pub count : filled_of new ≡ length bytes
  pub within : length bytes ≤ length (buffer_of new).now
  pub front : take (length bytes) (buffer_of new).now ≡ bytes

-- the name of the borrow, followed by the bytes
abbrev held_list : Filler → List ℕ
held_list f = (buffer_of f).ghost_name ∷ take (filled_of f) (buffer_of f).now

-- the bytes written to a fresh writer
filled : (old new : Filler) (bytes : List ℕ) → filled_of old ≡ 0
    → Appends (held old) (held new) bytes → Filled old new bytes
filled old new bytes none appends =
    let name : ℕ = (buffer_of old).ghost_name in
    let all : held_list new ≡ name ∷ bytes = appends ∙ ap (λ n. (name ∷ take n (buffer_of old).now) ++ bytes) none in
    let front : take (filled_of new) (buffer_of new).now ≡ bytes = tail_same _ name _ bytes all in
    let count : filled_of new ≡ length bytes = sym (length-take-le (filled_of new)
    (buffer_of new).now new.within) ∙ ap length front in
    record {
      same_borrow = head_same _ name _ bytes all;
      count = count;
      within = subst (λ n. n ≤ length (buffer_of new).now) count new.within;
      front = ap (λ n. take n (buffer_of new).now) (sym count) ∙ front;
    }

-- the bytes written by a writer that was moved under a tap and back
pub moved_back : (borrowed started ended given : Filler) (bytes : List ℕ) → started ≡ borrowed
    → given ≡ ended → filled_of borrowed ≡ 0 → Appends (held started) (held ended) bytes
    → Filled borrowed given bytes
moved_back borrowed started ended given bytes first last none appends =
    let added : Appends (held borrowed) (held ended) bytes =
    subst (λ (f : Filler). Appends (held f) (held ended) bytes) first appends in
    filled borrowed given bytes none (subst (λ (f : Filler). Appends (held borrowed) (held f) bytes) (sym last) added)

-- a fact about the bytes written is one about the start of a slice
pub at_start : (Fact : List ℕ → Type 0) (n : ℕ) (bytes slice : List ℕ) → n ≡ length bytes
    → take (length bytes) slice ≡ bytes → Fact bytes
    → Fact (take n slice) × (n ≡ length (take n slice))
at_start Fact n bytes slice count front fact =
    let same : take n slice ≡ bytes = ap (λ k. take k slice) count ∙ front in
    (subst Fact (sym same) fact, count ∙ ap length (sym same))

-- the start of a slice is the bytes written
pub fills : (outputs : Outputs) (answer : Result Report ConvertFault) (bytes slice : List ℕ)
    → Answers outputs bytes answer → length bytes ≤ length slice → take (length bytes) slice ≡ bytes
    → Fills outputs slice answer
fills outputs (Ok report) bytes slice agrees within front = record {
  fits = rw agrees.1 within;
  agrees = at_start (λ written. outputs.IsWhole written report.geometries report.taken) report.bytes bytes slice
      agrees.1 front agrees.0;
}
fills outputs (Err fault) bytes slice agrees within front = record {
  fits = rw agrees.1 within;
  agrees = at_start (λ written. outputs.IsFront written fault.done fault.taken fault.cause) fault.sent bytes slice
      agrees.1 front agrees.0;
}

-- ==== The length of the whole output, as an answer counts it.

-- if a length is reported, the input is refused
is_refused : (why : Cause) (sent n : ℕ) → refused_length why sent ≡ Some n → IsRefusal why × (n ≡ sent)
is_refused (cause.Row number reason) sent n e = (tt, cc)
is_refused (cause.Blob offset reason) sent n e = (tt, cc)
is_refused _ sent n e = absurd cc

-- the length that an answer counts as the whole output is that length
pub whole_length : (what : Conversion) (l : Allowance) (input written : List ℕ)
    (answer : Result Report ConvertFault) (n : ℕ) → Answers (outputs_of what l input) written answer
    → whole_length_of answer ≡ Some n → (outputs_of what l input).HasLength n
whole_length what l input written (Ok report) n agrees told =
    let same : n ≡ report.bytes = cc in
    finished_length_is what l input written report.geometries report.taken n agrees.0 (same ∙ agrees.1)
whole_length what l input written (Err fault) n agrees told =
    let refused = is_refused fault.cause fault.sent n told in
    refused_length_is what l input written fault.done fault.taken n fault.cause
    agrees.0 refused.0 (refused.1 ∙ agrees.1)

-- ==== From the answer of a conversion to the report of a call that measures.

-- a stop does not have the status of an end
never_done : (why : Cause) → status_of why ≡ 0 → ⊥
never_done (cause.Row number reason) e = omega (arith, e)
never_done _ e = omega (arith, e)

-- a count that is not 0 was reported
told_count : (found : Option ℕ) (n : ℕ) → n ≡ count_of found → n ≢ 0 → found ≡ Some n
told_count None n e some = absurd (some e)
told_count (Some m) n e some = ap (λ k. Some k) (sym e)

-- if the input is refused, the count is the number of bytes sent
refused_count : (why : Cause) (sent : ℕ) → IsRefusal why → count_of (refused_length why sent) ≡ sent
refused_count (cause.Row number reason) sent refused = refl
refused_count (cause.Blob offset reason) sent refused = refl
refused_count _ sent refused = absurd refused

-- the length that was counted is measured
pub measured : (outputs : Outputs) (answer : Result Report ConvertFault) (report : BufferReport)
    (counts : (written : List ℕ) × Answers outputs written answer) → MeasuresBy answer report
    → ((n : ℕ) → whole_length_of answer ≡ Some n → outputs.HasLength n) → Measures outputs report
measured outputs (Ok answer) report counts by known = record {
  none = by.0;
  finished = λ zero. (
    counts.0,
    subst (λ n. outputs.IsWhole counts.0 n report.taken) (sym by.2)
        (subst (λ n. outputs.IsWhole counts.0 answer.geometries n) (sym by.4) counts.1.0),
    by.3 ∙ counts.1.1,
  );
  stopped = λ some. absurd (some by.1);
  needed = λ some. known report.needed (ap (λ n. Some n) (sym by.3));
  no_more = by.5;
}
measured outputs (Err fault) report counts by known = record {
  none = by.0;
  finished = λ zero. absurd (never_done fault.cause (sym by.1.status ∙ zero));
  stopped = λ some. (
    fault.cause,
    counts.0,
    by.1,
    subst (λ n. outputs.IsFront counts.0 n report.taken fault.cause) (sym by.2)
        (subst (λ n. outputs.IsFront counts.0 fault.done n fault.cause) (sym by.4) counts.1.0),
    λ refused. by.3 ∙ (refused_count fault.cause fault.sent refused ∙ counts.1.1),
  );
  needed = λ some. known report.needed (told_count (refused_length fault.cause fault.sent) report.needed by.3 some);
  no_more = by.5;
}

-- ==== Points and their coordinates, one by one.

-- The coordinates are those of these points, all in range, followed by others.
pub record HasTaken (given left : List BufferPoint) (ps : List Point) : Type 0 where
  pub split : given ≡ coordinates_of ps ++ left
  pub in_range : AreInRange ps

-- the coordinates of two lists of points, one after the other
pub coordinates_of-append : (ps qs : List Point) → coordinates_of (ps ++ qs) ≡ coordinates_of ps ++ coordinates_of qs
coordinates_of-append [] qs = refl
coordinates_of-append (p ∷ ps) qs = ap (λ r. coordinates_at p ∷ r) (coordinates_of-append ps qs)

-- points in range followed by points in range are in range
AreInRange-append : (ps qs : List Point) → AreInRange ps → AreInRange qs → AreInRange (ps ++ qs)
AreInRange-append [] qs a b = b
AreInRange-append (p ∷ ps) qs a b = (a.0, AreInRange-append ps qs a.1 b)

-- the coordinates of one more point
coordinates_more : (ps : List Point) (p : Point) (after : List BufferPoint)
    → coordinates_of ps ++ coordinates_at p ∷ after ≡ coordinates_of (ps ++ p ∷ []) ++ after
coordinates_more ps p after =
    sym (append_assoc (coordinates_of ps) (coordinates_at p ∷ []) after)
    ∙ ap (λ (r : List BufferPoint). r ++ after) (sym (coordinates_of-append ps (p ∷ [])))

-- one more point was read
pub taken_more : (given left after : List BufferPoint) (ps qs : List Point) (p : Point)
    (c : BufferPoint) → HasTaken given left ps → left ≡ c ∷ after
    → coordinates_at p ≡ c → IsInRange p → qs ≡ ps ++ p ∷ [] → HasTaken given after qs
taken_more given left after ps qs p c taken next value fits more = record {
  split =
      taken.split
      ∙ ap (λ (r : List BufferPoint). coordinates_of ps ++ r) (next ∙ ap (λ d. d ∷ after) (sym value))
      ∙ coordinates_more ps p after
      ∙ ap (λ (r : List Point). coordinates_of r ++ after) (sym more);
  in_range = subst AreInRange (sym more) (AreInRange-append ps (p ∷ []) taken.in_range (fits, tt));
}

-- the next coordinates are out of range
pub taken_outside : (given left after : List BufferPoint) (ps : List Point) (c : BufferPoint)
    (place : ℕ) → HasTaken given left ps → left ≡ c ∷ after
    → (IsInRange (point_at c.x c.y) → ⊥) → place ≡ length ps → FirstOutside given place
taken_outside given left after ps c place taken next outside count = record {
  before = ps;
  coordinates = c;
  after = after;
  given_is = taken.split ∙ ap (λ (r : List BufferPoint). coordinates_of ps ++ r) next;
  in_range = taken.in_range;
  place_is = count;
  outside = outside;
}

-- the coordinates of one more point were written after those before it
pub coordinates_put : (whole put after : List BufferPoint) (left rest : List Point) (p : Point)
    → put ++ coordinates_of left ≡ whole → left ≡ p ∷ rest
    → after ≡ put ++ coordinates_at p ∷ [] → after ++ coordinates_of rest ≡ whole
coordinates_put whole put after left rest p held next more =
    ap (λ (r : List BufferPoint). r ++ coordinates_of rest) more
    ∙ append_assoc put (coordinates_at p ∷ []) (coordinates_of rest)
    ∙ ap (λ (r : List Point). put ++ coordinates_of r) (sym next)
    ∙ held

-- ==== The words of the reason with a number, and how a text is copied into a buffer.

-- a cause for each reason
abbrev all_causes : List Cause
all_causes =
    cause.Row 0 row.BadHeader ∷
    cause.Row 0 row.FieldCount ∷
    cause.Row 0 row.BadDepth ∷
    cause.Row 0 row.BadKind ∷
    cause.Row 0 row.BadPlace ∷
    cause.Row 0 row.TooDeep ∷
    cause.Row 0 row.TooManyNodes ∷
    cause.Row 0 row.BadId ∷
    cause.Row 0 row.IdNotAllowed ∷
    cause.Row 0 row.MixedIds ∷
    cause.Row 0 row.BadPrecision ∷
    cause.Row 0 row.PrecisionMissing ∷
    cause.Row 0 row.PrecisionNotAllowed ∷
    cause.Row 0 row.PolylineNotAllowed ∷
    cause.Row 0 row.PointCount ∷
    cause.Row 0 (row.Polyline 0 text.BadChar) ∷
    cause.Row 0 (row.Polyline 0 text.Cut) ∷
    cause.Row 0 (row.Polyline 0 text.TooLong) ∷
    cause.Row 0 (row.Polyline 0 text.Padded) ∷
    cause.Row 0 (row.Polyline 0 text.Half) ∷
    cause.Row 0 (row.Polyline 0 text.Range) ∷
    cause.Row 0 (row.Polyline 0 text.TooMany) ∷
    cause.Blob 0 blob.Truncated ∷
    cause.Blob 0 blob.BadType ∷
    cause.Blob 0 blob.ExtraDimensions ∷
    cause.Blob 0 blob.BadVarint ∷
    cause.Blob 0 blob.TooDeep ∷
    cause.Blob 0 blob.TooManyNodes ∷
    cause.Blob 0 blob.TooManyPoints ∷
    cause.Blob 0 blob.CoordinateRange ∷
    cause.Blob 0 blob.SizeMismatch ∷
    cause.TooLong ∷
    cause.TooManyRecords ∷ []

-- the words of the first cause with this number
abbrev words_at : List Cause → ℕ → List ℕ
words_at [] n = []
words_at (why ∷ rest) n = if eqb (reason_number_of why) n then cause_words why else words_at rest n

-- the words are found by the number
found : (why : Cause) → reason_number_of why ≢ 0 → words_at all_causes (reason_number_of why) ≡ cause_words why
found (cause.Row number (row.Polyline offset text.BadChar)) some = refl
found (cause.Blob offset blob.Truncated) some = refl
found cause.ReadDevice some = absurd (some refl)
found cause.WriteDevice some = absurd (some refl)
found cause.Memory some = absurd (some refl)
found _ some = refl

-- the cause with a number has its words
found_at : (n : ℕ) (why : Cause) → HasReason n why → words_at all_causes n ≡ cause_words why
found_at n why has = ap (λ (k : ℕ). words_at all_causes k) (sym has.0) ∙ found why (λ e. has.1 (sym has.0 ∙ e))

-- the words of one cause with a number are those of the number
pub named : (n : ℕ) (why : Cause) (words : List ℕ) → HasReason n why → words ≡ cause_words why → AreWordsOf n words
named n why words has e = record {
  told = λ other same. e
      ∙ (sym (found_at n why has) ∙ found_at n other same);
  none = λ lacks. absurd (lacks why has);
}

-- a number that no cause has is that of the words for arrays or a column, or of none
pub unnamed : (n : ℕ) (words : List ℕ) → ((why : Cause) → HasReason n why → ⊥) → words ≡ other_words n
    → AreWordsOf n words
unnamed n words lacks is = record { told = λ why has. absurd (lacks why has); none = λ _. is }

-- no reason of a polyline has a number other than these
no_point_text : (n : ℕ) → NamesNoPointText n → (reason : PolyReason) → point_text_number_of reason ≢ n
no_point_text n lacks text.BadChar = λ e. lacks.0 (sym e)
no_point_text n lacks text.Cut = λ e. lacks.1 (sym e)
no_point_text n lacks text.TooLong = λ e. lacks.2 (sym e)
no_point_text n lacks text.Padded = λ e. lacks.3 (sym e)
no_point_text n lacks text.Half = λ e. lacks.4 (sym e)
no_point_text n lacks text.Range = λ e. lacks.5 (sym e)
no_point_text n lacks text.TooMany = λ e. lacks.6 (sym e)

-- no reason of a record has a number other than these
no_row : (n : ℕ) → NamesNoRow n → NamesNoPointText n → (reason : RowReason) → row_number_of reason ≢ n
no_row n lacks points row.BadHeader = λ e. lacks.0 (sym e)
no_row n lacks points row.FieldCount = λ e. lacks.1 (sym e)
no_row n lacks points row.BadDepth = λ e. lacks.2 (sym e)
no_row n lacks points row.BadKind = λ e. lacks.3 (sym e)
no_row n lacks points row.BadPlace = λ e. lacks.4 (sym e)
no_row n lacks points row.TooDeep = λ e. lacks.5 (sym e)
no_row n lacks points row.TooManyNodes = λ e. lacks.6 (sym e)
no_row n lacks points row.BadId = λ e. lacks.7 (sym e)
no_row n lacks points row.IdNotAllowed = λ e. lacks.8 (sym e)
no_row n lacks points row.MixedIds = λ e. lacks.9 (sym e)
no_row n lacks points row.BadPrecision = λ e. lacks.10 (sym e)
no_row n lacks points row.PrecisionMissing = λ e. lacks.11 (sym e)
no_row n lacks points row.PrecisionNotAllowed = λ e. lacks.12 (sym e)
no_row n lacks points row.PolylineNotAllowed = λ e. lacks.13 (sym e)
no_row n lacks points row.PointCount = λ e. lacks.14 (sym e)
no_row n lacks points (row.Polyline offset why) = no_point_text n points why

-- no reason of a blob has a number other than these
no_blob : (n : ℕ) → NamesNoBlob n → (reason : BlobReason) → blob_number_of reason ≢ n
no_blob n lacks blob.Truncated = λ e. lacks.0 (sym e)
no_blob n lacks blob.BadType = λ e. lacks.1 (sym e)
no_blob n lacks blob.ExtraDimensions = λ e. lacks.2 (sym e)
no_blob n lacks blob.BadVarint = λ e. lacks.3 (sym e)
no_blob n lacks blob.TooDeep = λ e. lacks.4 (sym e)
no_blob n lacks blob.TooManyNodes = λ e. lacks.5 (sym e)
no_blob n lacks blob.TooManyPoints = λ e. lacks.6 (sym e)
no_blob n lacks blob.CoordinateRange = λ e. lacks.7 (sym e)
no_blob n lacks blob.SizeMismatch = λ e. lacks.8 (sym e)

-- no cause has a number other than all these
pub no_cause : (n : ℕ) → NamesNoRow n → NamesNoPointText n → NamesNoBlob n → n ≢ 61 → n ≢ 62
    → (why : Cause) → HasReason n why → ⊥
no_cause n rows points items long many (cause.Row number reason) has = no_row n rows points reason has.0
no_cause n rows points items long many (cause.Blob offset reason) has = no_blob n items reason has.0
no_cause n rows points items long many cause.TooLong has = long (sym has.0)
no_cause n rows points items long many cause.TooManyRecords has = many (sym has.0)
no_cause n rows points items long many _ has = has.1 (sym has.0)

-- in a buffer of at least one byte: the words as far as there is room, then a zero byte
over : (words bs : List ℕ) (b m : ℕ) → m ≡ min (length words) (length bs)
    → take m words ++ drop m (set (b ∷ bs) m 0) ≡ take (length bs) words
    ++ (0 ∷ drop (length words) bs)
over words bs b m e =
    let low : m ≤ length bs = subst (λ (n : ℕ). n ≤ length bs) (sym e) (min-le_right (length words) (length bs)) in
    let within : m < length (b ∷ bs) = omega (arith, low) in
    let first : take m words ≡ take (length bs) words = ap (λ (n : ℕ). take n words)
    (e ∙ min_comm (length words) (length bs)) ∙ take_min (length bs) words in
    let left : drop (m + 1) (b ∷ bs) ≡ drop (length words) bs = ap (λ (n : ℕ). drop n (b ∷ bs))
    (add-one m) ∙ (ap (λ (n : ℕ). drop n bs) e ∙ drop_min (length words) bs) in
    let last : drop m (set (b ∷ bs) m 0) ≡ 0 ∷ drop (length words) bs = drop-set (b ∷ bs) m 0 within
    ∙ ap (λ (xs : List ℕ). 0 ∷ xs) left in
    ap (λ (xs : List ℕ). xs ++ drop m (set (b ∷ bs) m 0)) first
    ∙ ap (λ (xs : List ℕ). take (length bs) words ++ xs) last

-- in any buffer that is not empty: the words as far as there is room, then a zero byte
pub put_text : (words old : List ℕ) (m : ℕ) → length old ≢ 0
    → m ≡ min (length words) (length old - 1) → take m words ++ drop m (set old m 0)
    ≡ with_text words old
put_text words [] m some e = absurd (some refl)
put_text words (b ∷ bs) m some e =
    let less : length (b ∷ bs) - 1 ≡ length bs = omega arith in
    over words bs b m (e ∙ ap (λ (n : ℕ). min (length words) n) less)
