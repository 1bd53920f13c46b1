-- The text of a stream's blobs, joined from their parts, and the exits of the loop over them.
use Rattle.std.specs.Prelude.{map, ◌/◌, ◌%◌}
use Rattle.std.proofs.lemmas.List.{nil_from_length}
use Rattle.std.proofs.lemmas.Grind.{flat_map-append}
use Rattle.std.specs.Fmt.{digit_glyph}
use Rattle.std.specs.Int.{cast_unsigned, w8}
use Rattle.std.proofs.Common.{pos}
use Rattle.twkb_grammar.specs.Roles.{type_byte, type_of}
use Rattle.std.specs.Io.KnownBytes.{prepend_known}
use Rattle.std.proofs.KnownBytes.{Consumes-nil, Consumes-trans}
use Rattle.twkb_io.specs.Inputs.{unused}
use Rattle.twkb_io.specs.Taps.{has_unflushed}
use Rattle.twkb_io.specs.declared.input.InFault.TheVariants as input
use Rattle.twkb_io.specs.declared.TheConstants.{MAX_BYTES}
use Rattle.twkb_tree.specs.Tree.{Tree, IsTree}
use Rattle.twkb_tree.specs.Rows.{rows, rows_of, Row}
use Rattle.twkb_grammar.specs.Noting.{spans_of_blob}
use Rattle.twkb_grammar.specs.declared.span.Span.{Span}
use Rattle.twkb_grammar.proofs.Streams.{blob_long}
use Rattle.twkb_engine.specs.declared.blob_reason.BlobReason.{BlobReason}
use Rattle.twkb_engine.specs.Stops.{reason_of}
use Rattle.twkb_blob.specs.declared.fault.BlobFault.{BlobFault}
use Rattle.twkb_blob.specs.Located.{ReadsSpans}
use Rattle.twkb_blob.specs.Readers.{IfGoingOn, IsNext, ReadsNext, ReadsRows, RefusedKnown, failed_by_read}
use Rattle.twkb_blob.specs.Readers.{reader_input}
use Rattle.twkb_blob.specs.declared.fault.BlobFault.TheVariants as blob
use Rattle.twkb_table.specs.Record.{header, record_of}
use Rattle.twkb_table.specs.Text.{csvtext, joined}
use Rattle.twkb_table.proofs.Verdicts.{records-append}
use Rattle.twkb_convert.specs.Outputs.{rows_text, table_text, geojson_text, Finishes, Flushes, IsFlushed}
use Rattle.twkb_convert.specs.Outputs.{UnlessRefused, reported}
use Rattle.twkb_geojson.specs.Value.{line_of}
use Rattle.twkb_convert.specs.Listings.{table_layout, geojson_layout, spans_layout, hex_of}
use Rattle.twkb_convert.specs.Listed.{EndsBlobs, Follows, GivesText, IsBetween, Misses, MissesText, RefusesBlob}
use Rattle.twkb_convert.specs.Listed.{given, is_input_spent, is_read, limits_of, reader_failures, rest_of, told_of}
use Rattle.twkb_convert.specs.Listed.{GivesBlob, Used, reader_tap, ExplainsListingCause, Listed, StoppedListing}
use Rattle.twkb_convert.specs.Causes.{cause_of_blob, cause_of_output, is_write, cause_words}
use Rattle.twkb_convert.specs.declared.report.Cause.TheVariants as cause
use Rattle.twkb_convert.specs.BlobsListed.{Ends, IsFresh, Lists, SentSoFar}
use Rattle.twkb_convert.proofs.Prelude.{TakesBlobs}
use Rattle.twkb_convert.proofs.Prelude.{◌≡◌, ◌∙◌, ◌+◌, ◌-◌, ◌<◌, ℕ, Bool, false, List, [], ◌∷◌, ◌++◌, Option, Some}
use Rattle.twkb_convert.proofs.Prelude.{None, Result, Ok, Err, IfSome, length, ap, arith, refl, sym, subst, inl, inr}
use Rattle.twkb_convert.proofs.Prelude.{append_assoc, length-append, append-nil, Consumes, IsAtEnd, Ghosts}
use Rattle.twkb_convert.proofs.Prelude.{BeginsWith, Cut, Took, sent_of, refused_join, took_join, Output, OutFault}
use Rattle.twkb_convert.proofs.Prelude.{Allowance, Reader, Located, LocatedStream, TellsSpans, blobs_text}
use Rattle.twkb_convert.proofs.Prelude.{listing_text, Layout, Cause, ◌⊎◌, true, Appends, Sent, count_failure}
use Rattle.twkb_convert.proofs.Prelude.{device_of, failures_of, is_spent, output_failures, output_tap, Tap}
use Rattle.twkb_convert.proofs.Prelude.{geometries_of, IsDeviceCause, ConvertFault, Report, IfErr, IfOk}
use Rattle.twkb_convert.proofs.FlushLemmas.{explained, put_explained, told_missed, told_put, leaves_refused}
use Rattle.twkb_convert.proofs.FlushLemmas.{leaves_took, flushed_last, leaves_last, reports_err, reports_ok, when_err}
use Rattle.twkb_convert.proofs.FlushLemmas.{when_ok, located-append, located-one, located-stream, one_front}
use Rattle.std.proofs.Common.{◌≤◌}
use Rattle.twkb_table.proofs.FaultLaws.{short_row}
use Rattle.twkb_engine.proofs.Parts.{short_blob}

-- ==== Texts of rows, joined.

-- the rows of one geometry
pub rows_text-one : (g : Tree) → csvtext (map record_of (rows 0 g)) ≡ rows_text (g ∷ [])
rows_text-one g = ap (λ l. csvtext (map record_of l)) (sym (append-nil (rows 0 g)))

-- the rows of two lists of geometries, one after the other
pub rows_text-append : (gs hs : List Tree) → rows_text (gs ++ hs) ≡ rows_text gs ++ rows_text hs
rows_text-append gs hs = ap csvtext (records-append gs hs)
    ∙ flat_map-append _ (map record_of (rows_of gs)) (map record_of (rows_of hs))

-- the table is the header's line and the rows
pub table_text-rows : (gs : List Tree) → csvtext (header ∷ []) ++ rows_text gs ≡ table_text gs
table_text-rows gs = ap (λ l. l ++ rows_text gs) (append-nil (joined header ++ 10 ∷ []))

-- the table of geometries, and then the rows of others
pub table_text-append : (gs hs : List Tree) → table_text (gs ++ hs) ≡ table_text gs ++ rows_text hs
table_text-append gs hs =
    let line = csvtext (header ∷ []) in
    sym (table_text-rows (gs ++ hs)) ∙ ap (λ k. line ++ k) (rows_text-append gs hs)
    ∙ sym (append_assoc line (rows_text gs) (rows_text hs))
    ∙ ap (λ k. k ++ rows_text hs) (table_text-rows gs)

-- ==== Texts of blobs, joined.

-- the texts of two lists of blobs, one after the other
pub blobs_text-append : (layout : Layout) (bs cs : List Located)
    → blobs_text layout (bs ++ cs) ≡ blobs_text layout bs ++ blobs_text layout cs
blobs_text-append layout bs cs = flat_map-append layout.text_of bs cs

pub blobs_text-one : (layout : Layout) (b : Located) → blobs_text layout (b ∷ []) ≡ layout.text_of b
blobs_text-one layout b = append-nil (layout.text_of b)

-- ---- tables

rows_of_blobs : (bs : List Located) → blobs_text table_layout bs ≡ rows_text (geometries_of bs)
rows_of_blobs [] = refl
rows_of_blobs (b ∷ bs) =
    ap (λ t. rows_text (b.geometry ∷ []) ++ t) (rows_of_blobs bs)
    ∙ sym (rows_text-append (b.geometry ∷ []) (geometries_of bs))

-- the text of a table is that of its geometries
pub table_of_blobs : (bs : List Located) → listing_text table_layout bs ≡ table_text (geometries_of bs)
table_of_blobs bs =
    ap (λ t. csvtext (header ∷ []) ++ t) (rows_of_blobs bs) ∙ table_text-rows (geometries_of bs)

-- the lines of blobs are those of their geometries
pub geojson_of_blobs : (bs : List Located) → listing_text geojson_layout bs ≡ geojson_text (geometries_of bs)
geojson_of_blobs [] = refl
geojson_of_blobs (b ∷ bs) = ap (λ t. line_of b.geometry ++ t) (geojson_of_blobs bs)

-- ==== The text of one blob, from the parts that were appended.

-- the seven words of a line, each appended with the byte after it, except that the space after
-- the offset is appended with the kind
pub words_put : (old space level offset kind precision metadata length points a b c d e f : List ℕ)
    → a ≡ old ++ level → b ≡ a ++ offset → c ≡ b ++ (space ++ kind) → d ≡ c ++ precision
    → e ≡ d ++ metadata → f ≡ e ++ length
    → f ++ (points ++ 10 ∷ []) ≡ old
    ++ ((level ++ ((offset ++ space) ++ (kind ++ (precision ++ (metadata ++ (length ++ points))))))
    ++ 10 ∷ [])
words_put old space level offset kind precision metadata length points a b c d e f ea eb ec ed ee ef =
    let whole : f ≡ (((((old ++ level) ++ offset) ++ (space ++ kind)) ++ precision) ++ metadata) ++ length = cc in
    ap (λ t. t ++ (points ++ 10 ∷ [])) whole ∙ simp (append_assoc)

-- both digits of a byte were pushed, and a space
pub hex_put : (old first both new : List ℕ) (byte : ℕ) → first ≡ old ++ digit_glyph true (byte / 16) ∷ []
    → both ≡ first ++ digit_glyph true (byte % 16) ∷ [] → new ≡ both ++ 32 ∷ [] → new ≡ old ++ (hex_of byte ++ 32 ∷ [])
hex_put old first both new byte high low space =
    space ∙ ap (λ (t : List ℕ). t ++ 32 ∷ []) (low ∙ ap (λ (t : List ℕ). t ++ digit_glyph true (byte % 16) ∷ []) high)
    ∙ append_assoc (old ++ digit_glyph true (byte / 16) ∷ []) (digit_glyph true (byte % 16) ∷ []) (32 ∷ [])
    ∙ append_assoc old (digit_glyph true (byte / 16) ∷ []) (digit_glyph true (byte % 16) ∷ 32 ∷ [])

-- five parts, each appended to those before it
pub parts_put : (a b c d e none one two three four five : List ℕ) → none ≡ [] → one ≡ none ++ a → two ≡ one ++ b
    → three ≡ two ++ c → four ≡ three ++ d → five ≡ four ++ e → five ≡ a ++ (b ++ (c ++ (d ++ e)))
parts_put a b c d e none one two three four five p q r s t u =
    let whole : five ≡ (((([] ++ a) ++ b) ++ c) ++ d) ++ e = cc in
    whole ∙ simp (append_assoc)

-- the last four bytes of a header: at precision 0 a type byte is the number of its type
pub last_put : (s : Span) (old new : List ℕ) (kind precision : ℕ) → kind ≡ type_byte s.kind (pos 0)
    → precision ≡ cast_unsigned w8 s.precision → new ≡ old ++ kind ∷ precision ∷ s.metadata ∷ 0 ∷ []
    → new ≡ old ++ type_of s.kind ∷ cast_unsigned w8 s.precision ∷ s.metadata ∷ 0 ∷ []
last_put s old new kind precision is signed put =
    put ∙ ap (λ n. old ++ n ∷ precision ∷ s.metadata ∷ 0 ∷ []) (omega (arith, is))
    ∙ ap (λ n. old ++ type_of s.kind ∷ n ∷ s.metadata ∷ 0 ∷ []) signed

-- the bytes left are refused
refused_left : (limits : Allowance) (before : ℕ) (rest : Option (List ℕ)) (offset : ℕ)
    (why : BlobReason) → IfSome rest (λ bytes. RefusedKnown limits before bytes offset
    (reason_of why)) → IfSome rest (λ bytes. RefusesBlob limits bytes before offset why)
refused_left limits before None offset why h = tt
refused_left limits before (Some bytes) offset why h = record { within = h.within; place = h.place; first = h.first }

-- a failed read of a blob is a failed read of its text
read_stops : (why : BlobFault) → failed_by_read {A = Bool} (Err why) ≡ is_read (cause_of_blob why)
read_stops (blob.Device input.Read) = refl
read_stops _ = refl

-- a device gives nothing if no byte was left and none was lost
told_none : (known told : Option (List ℕ)) (held : List ℕ) → IsAtEnd known
    → Consumes known (prepend_known held told) [] → IfSome known (λ bytes. IsAtEnd told)
told_none None told held end loses = tt
told_none (Some xs) None held end loses = absurd loses
told_none (Some xs) (Some ys) held end loses =
    let none : held ++ ys ≡ [] = sym loses ∙ end in
    nil_from_length ys (omega (arith, ap length none, length-append held ys))

module _ {R : Type 0} {read : Ghosts R} (from to : Reader R read) where
  -- the reader keeps its tap and its limits
  pub follows : (answer : Result Bool BlobFault) (failed : Bool) → failed_by_read answer ≡ failed
      → ReadsNext false from to answer → Follows from to failed
  follows answer failed is shared = record {
    same_tap = shared.same_tap;
    limits = shared.limits;
    failures = shared.failures ∙ ap (λ f. count_failure f (reader_failures from)) is;
    within = to.input.within;
  }

  misses : (why : BlobFault) → IsNext (limits_of from) (reader_input from) (reader_input to) (Err why)
      → is_input_spent from ≡ false
      → Misses (limits_of from) (rest_of from) (given from) (told_of to) (cause_of_blob why)
  misses blob.Memory h live = tt
  misses (blob.Device input.Read) h live =
      record {
        cut = h.bytes;
        consumed = subst (λ t. Consumes (rest_of from) t h.bytes) h.none_held
            h.left.consumed;
        cut_off = h.cut_off;
      }
  misses (blob.Device input.TooLong) h live = h.full.1
  misses (blob.Device input.Spent) h live = absurd (cc (h, live))
  misses blob.Spent h live = absurd h
  misses (blob.At offset reason) h live = refused_left (limits_of from) (given from) (rest_of from) offset reason h

  -- no blob was read, so no text was made
  pub missed : (why : BlobFault) → IsBetween from → ReadsNext false from to (Err why)
      → IfGoingOn from (IsNext (limits_of from) (reader_input from) (reader_input to) (Err why))
      → MissesText from to (cause_of_blob why)
  missed why ready shared next = record {
    misses = misses why (next ready.fresh ready.going_on) ready.input;
    follows = follows (Err why) (is_read (cause_of_blob why)) (read_stops why) shared;
  }

  -- no blob is left
  pub ended : IsBetween from → ReadsNext false from to (Ok false)
      → IfGoingOn from (IsNext (limits_of from) (reader_input from) (reader_input to) (Ok None))
      → EndsBlobs from to
  ended ready shared next =
      let end = next ready.fresh ready.going_on in
      record {
        empty = end.0;
        ended = told_none (rest_of from) (told_of to) (unused (reader_input to)) end.0 end.1.consumed;
        follows = follows (Ok false) false refl shared;
      }

  -- the reader is between two blobs after one was read
  pub between : ReadsNext false from to (Ok true) → is_input_spent to ≡ false → IsBetween to
  between shared live = record { fresh = shared.stays; going_on = shared.going_on (λ e. cc e); input = live }

  -- the rows of a geometry, from its flat form
  pub rows_given : (rs : List Row) (text : List ℕ) → IsBetween from → ReadsRows from to (Ok true) rs
      → text ≡ csvtext (map record_of rs) → GivesText table_layout from to text
  rows_given rs text ready reads own =
      let (g, made, rows) = reads.next ready.fresh ready.going_on in
      record {
        found = record { geometry = g; spans = spans_of_blob (given from) made.blob };
        gives = record {
          front = made.bytes;
          tells = record { blob = made.blob; told = refl };
          used = record { consumed = made.left.consumed; counted = made.left.counted };
        };
        own = own ∙ ap (λ (q : List Row). csvtext (map record_of q)) rows ∙ rows_text-one g;
        follows = follows (Ok true) false refl reads.shared;
        between = between reads.shared made.unspent;
      }

  -- the line of a geometry, from its flat form
  pub geojson_given : (rs : List Row) (text : List ℕ) → IsBetween from → ReadsRows from to (Ok true) rs
      → ((g : Tree) → IsTree g → rows 0 g ≡ rs → text ≡ line_of g) → GivesText geojson_layout from to text
  geojson_given rs text ready reads own =
      let (g, made, are) = reads.next ready.fresh ready.going_on in
      record {
        found = record { geometry = g; spans = spans_of_blob (given from) made.blob };
        gives = record {
          front = made.bytes;
          tells = record { blob = made.blob; told = refl };
          used = record { consumed = made.left.consumed; counted = made.left.counted };
        };
        own = own g made.blob.valid.tree (sym are);
        follows = follows (Ok true) false refl reads.shared;
        between = between reads.shared made.unspent;
      }

  -- the text of a blob, from its spans
  pub spans_given : (text_of : List Span → List ℕ) (rs : List Row) (spans : List Span) (text : List ℕ)
      → IsBetween from → ReadsSpans from to (Ok true) rs spans → text ≡ text_of spans
      → GivesText (spans_layout text_of) from to text
  spans_given text_of rs spans text ready reads own =
      let (g, has, rows) = reads.next ready.fresh ready.going_on in
      record {
        found = record { geometry = g; spans = spans };
        gives = record {
          front = has.made.bytes;
          tells = record { blob = has.made.blob; told = has.told };
          used = record { consumed = has.made.left.consumed; counted = has.made.left.counted };
        };
        own = own;
        follows = follows (Ok true) false refl reads.shared;
        between = between reads.shared has.made.unspent;
      }

-- ==== The exits of the loop over a stream's blobs.

-- ---- bytes

consumes_begins : (old new : Option (List ℕ)) (bytes : List ℕ) → Consumes old new bytes → BeginsWith old bytes
consumes_begins None new bytes c = tt
consumes_begins (Some xs) None bytes c = absurd c
consumes_begins (Some xs) (Some ys) bytes c = (ys, c)

-- these are all bytes if none is left
consumes_all : (old new : Option (List ℕ)) (bytes : List ℕ) → Consumes old new bytes → IsAtEnd new
    → IfSome old (λ whole. whole ≡ bytes)
consumes_all None new bytes c end = tt
consumes_all (Some xs) None bytes c end = absurd c
consumes_all (Some xs) (Some ys) bytes c end = c ∙ ap (λ l. bytes ++ l) end ∙ append-nil bytes

-- bytes that were known are known when some of them are gone
still_known : (old new : Option (List ℕ)) (bytes : List ℕ) (Fact : Type 0) → Consumes old new bytes
    → IfSome new (λ left. Fact) → IfSome old (λ whole. Fact)
still_known None new bytes Fact c fact = tt
still_known (Some xs) None bytes Fact c fact = absurd c
still_known (Some xs) (Some ys) bytes Fact c fact = fact

used_join : {a b c : Option (List ℕ)} {m n o : ℕ} {xs ys : List ℕ} → Used a m xs b n
    → Used b n ys c o → Used a m (xs ++ ys) c o
used_join {a = a} {b = b} {c = c} {xs = xs} {ys = ys} first second = record {
  consumed = Consumes-trans a b c xs ys first.consumed second.consumed;
  counted = omega (arith, first.counted, second.counted, length-append xs ys);
}

any_begins : (known : Option (List ℕ)) → BeginsWith known []
any_begins None = tt
any_begins (Some bytes) = (bytes, refl)

-- ---- blobs

-- one more blob after others
one_more : (l m : Allowance) (before after : ℕ) (bytes front : List ℕ) (bs : List Located)
    (b : Located) → LocatedStream l before bytes bs → m ≡ l → after ≡ before + length bytes
    → TellsSpans m after front b → LocatedStream l before (bytes ++ front) (bs ++ b ∷ [])
one_more l m before after bytes front bs b blobs same place tells =
    let here : TellsSpans l (before + length bytes) front b = subst (λ n. TellsSpans l n front b)
    place (subst (λ a. TellsSpans a after front b) same tells) in
    located-append l before bytes front bs (b ∷ []) blobs (located-one l (before + length bytes) front b here)

-- the text of one more blob after that of others
text_more : (layout : Layout) (bs : List Located) (b : Located)
    → listing_text layout bs ++ layout.text_of b ≡ listing_text layout (bs ++ b ∷ [])
text_more layout bs b = append_assoc layout.first (blobs_text layout bs) (layout.text_of b)
    ∙ ap (λ t. layout.first ++ (blobs_text layout bs ++ t)) (sym (blobs_text-one layout b))
    ∙ ap (λ t. layout.first ++ t) (sym (blobs_text-append layout bs (b ∷ [])))

-- a blob has at least one byte
given_more : {l : Allowance} {old new : Option (List ℕ)} {before after : ℕ} {b : Located}
    → GivesBlob l old before b new after → before < after
given_more {l = l} {b = b} gives =
    omega (arith, gives.used.counted, blob_long l gives.front b.geometry gives.tells.blob)

-- fewer bytes may still be given out after a blob was read
pub fewer_left : {R : Type 0} {read : Ghosts R} {layout : Layout} {from to : Reader R read}
    {text : List ℕ} → GivesText layout from to text → MAX_BYTES - given to < MAX_BYTES - given from
fewer_left one = omega (arith, given_more one.gives, one.follows.within)

-- ---- the loop

-- reads that failed or not, after reads that did not
follows_on : {R : Type 0} {read : Ghosts R} {from mid to : Reader R read} {failed : Bool}
    → Follows from mid false → Follows mid to failed → Follows from to failed
follows_on first second = record {
  same_tap = second.same_tap ∙ first.same_tap;
  limits = second.limits ∙ first.limits;
  failures = rw first.failures at second.failures;
  within = second.within;
}

module _ {R W : Type 0} {read : Ghosts R} {layout : Layout} {contents : W → Option (List ℕ)}
    {from : Reader R read} {old : Output W} where
  -- the text before the first blob was sent
  pub sent_first : {new : Output W} {done taken : ℕ} → done ≡ 0 → taken ≡ 0 → IsFresh from old
      → Took contents old layout.first new → SentSoFar layout contents from old from new done taken
  sent_first {new = new} none nothing fresh took = record {
    found = [];
    bytes = [];
    blobs = refl;
    used = record { consumed = Consumes-nil (rest_of from); counted = fresh.unread };
    took = subst (λ t. Took contents old t new) (sym (append-nil layout.first)) took;
    count = none;
    follows = record { same_tap = refl; limits = refl; failures = refl; within = from.input.within };
    between = fresh.between;
    unspent = took.spent ∙ fresh.unspent;
    few = omega (arith, none);
    taken_is = nothing ∙ sym fresh.unread;
  }

  -- the text before the first blob was not sent whole
  pub lists_none : {new : Output W} {done taken : ℕ} {text : List ℕ} {f : OutFault} → done ≡ 0 → taken ≡ 0
      → text ≡ layout.first → IsFresh from old → Cut contents old text f new
      → Lists layout contents from old from new done taken (Err (cause_of_output f))
  lists_none {f = f} none nothing own fresh cut =
      let whole = append-nil layout.first ∙ sym own in
      record {
        text = cut.front;
        part = record {
          whole = [];
          later = [];
          bytes = [];
          left = cut.rest;
          blobs = refl;
          begins = any_begins (rest_of from);
          cut = whole ∙ cut.whole;
          one = inl refl;
          holds = inl refl;
        };
        leaves = leaves_refused cut.refused;
        count = none;
        takes = record { front = []; rest = []; cut = refl; blobs = refl; taken_is = nothing };
        read_failed = false;
        follows = record { same_tap = refl; limits = refl; failures = refl; within = from.input.within };
        ends = record {
          explains = put_explained layout (limits_of from) (rest_of from) (told_of from) [] f [] []
              cut.rest (λ e. (let far = cut.too_long e in omega (arith, far, fresh.unsent, ap length whole)))
              (cut.unspent fresh.unspent);
          tell = told_put f;
        };
      }

  module _ {mid : Reader R read} {out : Output W} {done taken : ℕ}
      (sent : SentSoFar layout contents from old mid out done taken)
    where
      -- the bytes of the blobs so far are those taken
      all_taken : taken ≡ length sent.bytes
      all_taken = omega (arith, sent.taken_is, sent.used.counted)

      -- one more blob was read
      one_read : {to : Reader R read} {text : List ℕ} (one : GivesText layout mid to text)
          → LocatedStream (limits_of from) 0 (sent.bytes ++ one.gives.front)
          (sent.found ++ one.found ∷ [])
      one_read one = one_more (limits_of from) (limits_of mid) 0 (given mid) sent.bytes
          one.gives.front
          sent.found one.found sent.blobs sent.follows.limits sent.used.counted one.gives.tells

      -- the text of one more blob was sent
      pub sent_more : {to : Reader R read} {new : Output W} {text : List ℕ}
          → GivesText layout mid to text → Took contents out text new
          → SentSoFar layout contents from old to new (done + 1) (given to)
      sent_more {new = new} one took = record {
        found = sent.found ++ one.found ∷ [];
        bytes = sent.bytes ++ one.gives.front;
        blobs = one_read one;
        used = used_join sent.used one.gives.used;
        took = subst (λ text. Took contents old text new) (text_more layout sent.found one.found)
            (took_join contents old out new _ _ sent.took (rw one.own at took));
        count = omega (arith, sent.count, length-append sent.found (one.found ∷ []));
        follows = follows_on sent.follows one.follows;
        between = one.between;
        unspent = took.spent ∙ sent.unspent;
        few = omega (arith, sent.few, given_more one.gives);
        taken_is = refl;
      }

      -- a prefix of the text of one more blob was sent
      pub lists_cut : {to : Reader R read} {new : Output W} {text : List ℕ} {fault : OutFault}
          → sent_of old ≡ 0 → GivesText layout mid to text → Cut contents out text fault new
          → Lists layout contents from old to new done taken (Err (cause_of_output fault))
      lists_cut {to = to} {new = new} {fault = fault} none one refused_text =
          let cut : Cut contents out (layout.text_of one.found) fault new = rw one.own at
          refused_text in
          let joined = text_more layout sent.found one.found in
          record {
            text = listing_text layout sent.found ++ cut.front;
            part = record {
              whole = sent.found;
              later = one.found ∷ [];
              bytes = sent.bytes ++ one.gives.front;
              left = cut.rest;
              blobs = one_read one;
              begins = consumes_begins (rest_of from) (rest_of to) (sent.bytes ++ one.gives.front)
                  (used_join sent.used one.gives.used).consumed;
              cut = sym joined ∙ ap (λ t. listing_text layout sent.found ++ t) cut.whole
                  ∙ sym (append_assoc (listing_text layout sent.found) cut.front cut.rest);
              one = inr (one.found, refl, cut.left sent.unspent);
              holds = inr (cut.front, refl);
            };
            leaves = leaves_refused (refused_join contents old out new _ cut.front fault sent.took
                cut.refused);
            count = sent.count;
            takes = record {
              front = sent.bytes;
              rest = one.gives.front;
              cut = refl;
              blobs = sent.blobs;
              taken_is = all_taken;
            };
            read_failed = false;
            follows = follows_on sent.follows one.follows;
            ends = record {
              explains = put_explained layout (limits_of from) (rest_of from) (told_of to)
                  (sent.bytes ++ one.gives.front) fault sent.found (one.found ∷ []) cut.rest
                  (λ e. (let far = cut.too_long e in
                  omega (
                    arith,
                    far,
                    none,
                    sent.took.sends.sent,
                    ap length joined,
                    length-append (listing_text layout sent.found) (layout.text_of one.found),
                  )))
                  (cut.unspent sent.unspent);
              tell = told_put fault;
            };
          }

      -- no text was sent after those of whole blobs
      lists_whole : {to : Reader R read} {failed : Bool} (answer : Result (Unit {0}) Cause)
          → Follows mid to failed → is_write answer ≡ false
          → Ends layout from to sent.bytes sent.found [] [] failed answer
          → Lists layout contents from old to out done taken answer
      lists_whole {failed = failed} answer follows quiet ends =
          let text = listing_text layout sent.found in
          record {
            text = text;
            part = record {
              whole = sent.found;
              later = [];
              bytes = sent.bytes;
              left = [];
              blobs = rw append-nil sent.blobs;
              begins = consumes_begins (rest_of from) (rest_of mid) sent.bytes sent.used.consumed;
              cut = ap (listing_text layout) (append-nil sent.found) ∙ sym (append-nil text);
              one = inl refl;
              holds = inr ([], sym (append-nil text));
            };
            leaves = leaves_took answer sent.took (sym sent.took.spent ∙ sent.unspent) quiet;
            count = sent.count;
            takes = record {
              front = sent.bytes;
              rest = [];
              cut = sym (append-nil sent.bytes);
              blobs = sent.blobs;
              taken_is = all_taken;
            };
            read_failed = failed;
            follows = follows_on sent.follows follows;
            ends = ends;
          }

      -- the end was found
      pub lists_all : {to : Reader R read} → EndsBlobs mid to
          → Lists layout contents from old to out done taken (Ok tt)
      lists_all {to = to} ends = lists_whole (Ok tt) ends.follows refl (record {
        no_later = refl;
        none_left = refl;
        all = consumes_all (rest_of from) (rest_of mid) sent.bytes sent.used.consumed ends.empty;
        ended = still_known (rest_of from) (rest_of mid) sent.bytes (IsAtEnd (told_of to)) sent.used.consumed
            ends.ended;
        no_read = refl;
      })

      -- the text of the next blob was not made
      pub lists_up_to : {to : Reader R read} {why : Cause} → MissesText mid to why
          → Lists layout contents from old to out done taken (Err why)
      lists_up_to {to = to} {why = why} missed =
          let misses : Misses (limits_of from) (rest_of mid) (given mid) (told_of to) why =
          subst (λ l. Misses l (rest_of mid) (given mid) (told_of to) why) sent.follows.limits missed.misses in
          let told = told_missed (limits_of from) (rest_of mid) (told_of to) (given mid) why misses in
          lists_whole (Err why) missed.follows told.0
          (record {
            explains = explained layout (limits_of from) (rest_of from) (rest_of mid) (told_of to)
                (given mid) sent.bytes sent.found sent.blobs sent.used why misses;
            tell = told.1;
          })

-- ==== The flush after the text of a stream, and what the caller of the conversion learns.

-- ---- the flush

wrote : (failed : Bool) → IsDeviceCause failed true cause.WriteDevice
wrote false = refl
wrote true = refl

-- what was sent, after the flush
pub lists_last : {R W : Type 0} {read : Ghosts R} {layout : Layout} {contents : W → Option (List ℕ)}
    {from to : Reader R read} {old mid new : Output W} {done taken : ℕ}
    {answer last : Result (Unit {0}) Cause} → Lists layout contents from old to mid done taken answer
    → Flushes contents mid answer new last → Lists layout contents from old to new done taken last
lists_last {layout = layout} {from = from} {to = to} {answer = answer} {last = last} lists flushes =
    let after = leaves_last lists.leaves flushes in
    record {
      text = lists.text;
      part = lists.part;
      leaves = after.0;
      count = lists.count;
      takes = lists.takes;
      read_failed = lists.read_failed;
      follows = lists.follows;
      ends = ends after.1;
    }
  where
    ends : (last ≡ answer) ⊎ (last ≡ Err cause.WriteDevice)
        → Ends layout from to lists.part.bytes lists.part.whole lists.part.later lists.part.left
        lists.read_failed last
    ends (inl same) = rw same lists.ends
    ends (inr write) = rw write (record { explains = tt; tell = wrote lists.read_failed })

-- what is flushed at the end
module _ {W : Type 0} {contents : W → Option (List ℕ)} {mid new : Output W} {done taken : ℕ}
    {sending : Result (Unit {0}) Cause} {report : Result Report ConvertFault}
    (finishes : Finishes contents mid done taken sending new report)
    (unspent : UnlessRefused sending (is_spent mid ≡ false)) (written : Tap W)
    (closes : (output_tap new).now ≡ written) where
  held : (answer : Result (Unit {0}) Cause) → finishes.answer ≡ answer
      → UnlessRefused answer (has_unflushed written ≡ false)
  held answer is = subst (λ t. UnlessRefused answer (has_unflushed t ≡ false)) closes
      (subst (λ a. UnlessRefused a (has_unflushed (output_tap new).now ≡ false)) is
      (flushed_last finishes.flushes unspent))

  flushed_as : (r : Result Report ConvertFault) → r ≡ reported done (sent_of new) taken finishes.answer
      → IsFlushed r written
  flushed_as (Ok r) is = held (Ok tt) (reports_ok done (sent_of new) taken r finishes.answer is).0
  flushed_as (Err fault) is = held (Err fault.cause) (reports_err done (sent_of new) taken fault finishes.answer is).0

  pub flushed : IsFlushed report written
  flushed = flushed_as report finishes.reports

-- ---- the taps

known_stream : (l : Allowance) (known : Option (List ℕ)) (bytes : List ℕ) (bs : List Located)
    → IfSome known (λ whole. whole ≡ bytes) → LocatedStream l 0 bytes bs
    → IfSome known (λ whole. LocatedStream l 0 whole bs)
known_stream l None bytes bs all blobs = tt
known_stream l (Some whole) bytes bs all blobs = subst (λ b. LocatedStream l 0 b bs) (sym all) blobs

-- the bytes of all blobs are those taken
pub taken_whole : (l : Allowance) (bytes : List ℕ) (bs : List Located) (taken : ℕ) → LocatedStream l 0 bytes bs
    → TakesBlobs (LocatedStream l 0) bytes bs taken → taken ≡ length bytes
taken_whole l bytes bs taken blobs takes =
    takes.taken_is ∙ ap length (one_front l takes.front bytes takes.rest [] (geometries_of bs)
    (located-stream l 0 takes.front bs takes.blobs) (located-stream l 0 bytes bs blobs)
    (sym takes.cut ∙ sym (append-nil bytes)))

-- they are all bytes
pub known_length : (known : Option (List ℕ)) (bytes : List ℕ) (taken : ℕ) → IfSome known (λ whole. whole ≡ bytes)
    → taken ≡ length bytes → IfSome known (λ whole. taken ≡ length whole)
known_length None bytes taken all is = tt
known_length (Some whole) bytes taken all is = is ∙ ap length (sym all)

-- no text is left after that of all blobs
pub whole_text : (layout : Layout) (whole later : List Located) (text left : List ℕ)
    → listing_text layout (whole ++ later) ≡ text ++ left → later ≡ [] → left ≡ []
    → text ≡ listing_text layout whole
whole_text layout whole later text left cut no_later none_left =
    sym (append-nil text) ∙ ap (λ l. text ++ l) (sym none_left) ∙ sym cut
    ∙ ap (λ bs. listing_text layout (whole ++ bs)) no_later ∙ ap (listing_text layout) (append-nil whole)

module _ {R W : Type 0} {read : Ghosts R} {layout : Layout} {contents : W → Option (List ℕ)}
    {l : Allowance} {from to : Reader R read} {old mid new : Output W} {done taken : ℕ}
    {sending : Result (Unit {0}) Cause}
    {report : Result Report ConvertFault} (remaining : R → Option (List ℕ)) (reader after : Tap R)
    (writer written : Tap W) (finishes : Finishes contents mid done taken sending new report)
    (sends : Lists layout contents from old to mid done taken sending)
    (limits : limits_of from ≡ l) (told : rest_of from ≡ remaining (device_of reader))
    (failures : reader_failures from ≡ failures_of reader)
    (borrowed : (output_tap old).now ≡ writer) (none : sent_of old ≡ 0)
    (ends : (reader_tap to).now ≡ after) (closes : (output_tap new).now ≡ written)
    (later_told : told_of to ≡ remaining (device_of after)) where
  appended : (text : List ℕ) → Sent contents old text new
      → Appends (contents (device_of writer)) (contents (device_of written)) text
  appended text sent = subst (λ t. Appends (contents (device_of t)) (contents (device_of written)) text) borrowed
      (subst (λ t. Appends (contents (device_of (output_tap old).now)) (contents (device_of t)) text)
      closes sent.appends)

  reads_as : (failed : Bool) → reader_failures to ≡ count_failure failed (reader_failures from)
      → failures_of after ≡ count_failure failed (failures_of reader)
  reads_as failed reads = ap failures_of (sym ends) ∙ reads ∙ ap (count_failure failed) failures

  writes_as : (failed : Bool) → output_failures new ≡ count_failure failed (output_failures old)
      → failures_of written ≡ count_failure failed (failures_of writer)
  writes_as failed writes = ap failures_of (sym closes) ∙ writes
      ∙ ap (λ t. count_failure failed (failures_of t)) borrowed

  lists_with : (answer : Result (Unit {0}) Cause) → finishes.answer ≡ answer
      → Lists layout contents from old to new done taken answer
  lists_with answer is = rw is at (lists_last sends finishes.flushes)

  listed_as : (r : Report) → Ok r ≡ reported done (sent_of new) taken finishes.answer
      → Listed (LocatedStream l 0) (listing_text layout) remaining contents reader writer r after written
  listed_as r is =
      let (ok, same) = reports_ok done (sent_of new) taken r finishes.answer is in
      let lists = lists_with (Ok tt) ok in
      let p = lists.part in
      let e = lists.ends in
      let text = whole_text layout p.whole p.later lists.text p.left p.cut e.no_later e.none_left in
      let blobs : LocatedStream l 0 p.bytes p.whole = subst (λ a. LocatedStream a 0 p.bytes p.whole) limits
      (subst (λ bs. LocatedStream (limits_of from) 0 p.bytes bs)
      (ap (λ bs. p.whole ++ bs) e.no_later ∙ append-nil p.whole) p.blobs) in
      record {
        found = p.whole;
        stream = subst (λ k. IfSome k (λ bytes. LocatedStream l 0 bytes p.whole)) told
            (known_stream l (rest_of from) p.bytes p.whole e.all blobs);
        appends = subst (λ t. Appends (contents (device_of writer)) (contents (device_of written)) t) text
            (appended lists.text lists.leaves.sends);
        geometries = ap (λ (q : Report). q.geometries) same ∙ lists.count;
        bytes = (let count = ap (λ (q : Report). q.bytes) same in
            omega (arith, count, lists.leaves.sends.sent, none, ap length text));
        taken = subst (λ k. IfSome k (λ bytes. r.taken ≡ length bytes)) told
            (known_length (rest_of from) p.bytes r.taken e.all
            (ap (λ (q : Report). q.taken) same ∙ taken_whole l p.bytes p.whole taken blobs
            (subst (λ a. TakesBlobs (LocatedStream a 0) p.bytes p.whole taken) limits lists.takes)));
        end = subst (λ k. IfSome k (λ bytes. IsAtEnd (remaining (device_of after)))) told
            (subst (λ t. IfSome (rest_of from) (λ bytes. IsAtEnd t)) later_told e.ended);
        reads = reads_as false (subst (λ f. reader_failures to ≡ count_failure f (reader_failures from))
            e.no_read lists.follows.failures);
        writes = writes_as false lists.leaves.failures;
      }

  stopped_as : (fault : ConvertFault) → Err fault ≡ reported done (sent_of new) taken finishes.answer
      → StoppedListing (LocatedStream l 0) geometries_of (listing_text layout) l remaining contents
      reader writer fault after written
  stopped_as fault is =
      let (stops, same) = reports_err done (sent_of new) taken fault finishes.answer is in
      let lists = lists_with (Err fault.cause) stops in
      let p = lists.part in
      record {
        text = lists.text;
        part = record {
          whole = p.whole;
          later = p.later;
          bytes = p.bytes;
          left = p.left;
          blobs = subst (λ a. LocatedStream a 0 p.bytes (p.whole ++ p.later)) limits p.blobs;
          begins = subst (λ k. BeginsWith k p.bytes) told p.begins;
          cut = p.cut;
          one = p.one;
          holds = p.holds;
        };
        appends = appended lists.text lists.leaves.sends;
        done = ap (λ (f : ConvertFault). f.done) same ∙ lists.count;
        sent = (let count = ap (λ (f : ConvertFault). f.sent) same in
            omega (arith, count, lists.leaves.sends.sent, none));
        taken = subst (λ a. TakesBlobs (LocatedStream a 0) p.bytes p.whole fault.taken) limits
            (subst (λ n. TakesBlobs (LocatedStream (limits_of from) 0) p.bytes p.whole n)
            (sym (ap (λ (f : ConvertFault). f.taken) same)) lists.takes);
        explains = subst (λ a. ExplainsListingCause geometries_of (listing_text layout) a
            (remaining (device_of reader)) (remaining (device_of after)) p.bytes fault.cause p.whole p.later p.left)
            limits
            (subst (λ k. ExplainsListingCause geometries_of (listing_text layout) (limits_of from) k
            (remaining (device_of after)) p.bytes fault.cause p.whole p.later p.left) told
            (subst (λ t. ExplainsListingCause geometries_of (listing_text layout) (limits_of from)
            (rest_of from) t p.bytes fault.cause p.whole p.later p.left) later_told lists.ends.explains));
        devices = record {
          read_failed = lists.read_failed;
          write_failed = is_write {A = Unit {0}} (Err fault.cause);
          reads = reads_as lists.read_failed lists.follows.failures;
          writes = writes_as (is_write {A = Unit {0}} (Err fault.cause)) lists.leaves.failures;
          tell = lists.ends.tell;
        };
      }

  pub listed : IfOk report (λ r. Listed (LocatedStream l 0) (listing_text layout) remaining contents reader writer r
      after written)
  listed = when_ok report _ (λ r is. listed_as r (sym is ∙ finishes.reports))

  pub stopped : IfErr report (λ fault. StoppedListing (LocatedStream l 0) geometries_of (listing_text layout) l
      remaining contents reader writer fault after written)
  stopped = when_err report _ (λ fault is. stopped_as fault (sym is ∙ finishes.reports))

-- ==== The text of each cause is short.

-- the text of a cause is short
pub short_cause : (c : Cause) → length (cause_words c) ≤ 31
short_cause (cause.Row number reason) = short_row reason
short_cause (cause.Blob offset reason) = short_blob reason
short_cause _ = omega arith
