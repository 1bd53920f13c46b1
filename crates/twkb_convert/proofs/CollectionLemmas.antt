-- A stream as one FeatureCollection: the text of located blobs is that of their geometries, and what
-- was sent with the closing.
use Rattle.std.proofs.Common.{ne_eqb}
use Rattle.std.proofs.lemmas.Result.{IfErr-weaker}
use Rattle.std.specs.Prelude.{nat_eq}
use Rattle.twkb_io.specs.Inputs.{BeginsWith}
use Rattle.twkb_io.specs.declared.TheConstants.{MAX_BYTES}
use Rattle.twkb_io.specs.declared.output.OutFault.TheVariants as out
use Rattle.twkb_tree.specs.Tree.{IsTree}
use Rattle.twkb_tree.specs.Rows.{rows}
use Rattle.twkb_grammar.proofs.NotedSpans.{blob_first}
use Rattle.twkb_grammar.proofs.Streams.{blob_long}
use Rattle.twkb_blob.specs.Readers.{ReadsRows}
use Rattle.twkb_geojson.specs.Collection.{closing_text, collection_text, feature_text, features_text, later_features}
use Rattle.twkb_geojson.specs.Collection.{opening_text}
use Rattle.twkb_convert.specs.Collections.{Closes, StoppedCollection, Unclosed, before_feature, collection_layout}
use Rattle.twkb_convert.specs.Collections.{is_first}
use Rattle.twkb_convert.specs.Listed.{ExplainsListingCause, Follows, GivesText, IsBetween, Listed, StoppedListing}
use Rattle.twkb_convert.specs.Listed.{given, limits_of, reader_failures, reader_tap, rest_of, told_of}
use Rattle.twkb_convert.specs.BlobsListed.{Lists}
use Rattle.twkb_convert.specs.Causes.{cause_of_output, is_write}
use Rattle.twkb_convert.specs.Outputs.{Finishes, Flushes, IsFlushed, Leaves, UnlessRefused, reported}
use Rattle.twkb_convert.specs.declared.report.Cause.TheVariants as causes
use Rattle.twkb_convert.proofs.Prelude.{◌≡◌, ◌≢◌, ◌∙◌, ◌+◌, ◌<◌, ℕ, Bool, true, false, List, [], ◌∷◌, ◌++◌, Option}
use Rattle.twkb_convert.proofs.Prelude.{Some, None, Result, Ok, Err, IfSome, IfOk, IfErr, length, ap, arith, refl}
use Rattle.twkb_convert.proofs.Prelude.{sym, subst, inl, inr, ◌⊎◌, append_assoc, length-append, append-nil, map-append}
use Rattle.twkb_convert.proofs.Prelude.{length-map, Appends, IsAtEnd, Ghosts, Cut, Took, Sent, Refused, sent_of}
use Rattle.twkb_convert.proofs.Prelude.{refused_join, took_join, Output, OutFault, Allowance, Reader, Located}
use Rattle.twkb_convert.proofs.Prelude.{LocatedStream, TellsSpans, blobs_text, listing_text, Cause, count_failure}
use Rattle.twkb_convert.proofs.Prelude.{device_of, failures_of, is_spent, output_failures, output_tap, Tap}
use Rattle.twkb_convert.proofs.Prelude.{geometries_of, IsDeviceCause, ConvertFault, Report, Tree, Row, Stream, Blob}
use Rattle.twkb_convert.proofs.Prelude.{spans_of_blob, HoldsWhole, TakesBlobs, AtMostOneCut}
use Rattle.twkb_convert.proofs.FlushLemmas.{leaves_last, leaves_refused, leaves_took, located-stream, reports_err}
use Rattle.twkb_convert.proofs.FlushLemmas.{reports_ok, told_put, when_err, when_ok}
use Rattle.twkb_convert.proofs.ListingLemmas.{between, flushed, follows, known_length, stopped, taken_whole, whole_text}

-- ==== The text of one blob, from the parts that were appended.

pub feature_put : (old before head text a b c new : List ℕ) → a ≡ old ++ before → b ≡ a ++ head → c ≡ b ++ text
    → new ≡ c ++ 125 ∷ [] → new ≡ old ++ (before ++ (head ++ (text ++ 125 ∷ [])))
feature_put old before head text a b c new ea eb ec ed =
    let whole : new ≡ (((old ++ before) ++ head) ++ text) ++ 125 ∷ [] = cc in
    whole ∙ simp (append_assoc)

-- a blob is the first of its stream exactly if it begins at offset 0
first_span : (l : Allowance) (bytes : List ℕ) (g : Tree) (offset : ℕ) (b : Blob l bytes g)
    → is_first (spans_of_blob offset b) ≡ nat_eq offset 0
first_span l bytes g offset b = ap is_first (blob_first l bytes g offset b).first

module _ {R : Type 0} {read : Ghosts R} (from to : Reader R read) where
  -- the feature of a geometry, from its flat form
  pub feature_given : (rs : List Row) (text : List ℕ) (start : ℕ) → start ≡ given from → IsBetween from
      → ReadsRows from to (Ok true) rs
      → ((g : Tree) → IsTree g → rows 0 g ≡ rs → text ≡ before_feature (nat_eq start 0) ++ feature_text g)
      → GivesText collection_layout from to text
  feature_given rs text start is ready reads own =
      let (g, made, are) = reads.next ready.fresh ready.going_on in
      let first = first_span (limits_of from) made.bytes g (given from) made.blob in
      record {
        found = record { geometry = g; spans = spans_of_blob (given from) made.blob };
        gives = record {
          front = made.bytes;
          tells = record { blob = made.blob; told = refl };
          used = record { consumed = made.left.consumed; counted = made.left.counted };
        };
        own = own g made.blob.valid.tree (sym are)
            ∙ ap (λ n. before_feature (nat_eq n 0) ++ feature_text g) is
            ∙ ap (λ f. before_feature f ++ feature_text g) (sym first);
        follows = follows from to (Ok true) false refl reads.shared;
        between = between from to reads.shared made.unspent;
      }

-- ==== The text of located blobs is that of their geometries.

tells_first : (l : Allowance) (offset : ℕ) (bytes : List ℕ) (b : Located) → TellsSpans l offset bytes b
    → is_first b.spans ≡ nat_eq offset 0
tells_first l offset bytes b tells =
    ap is_first tells.told ∙ first_span l bytes b.geometry offset tells.blob

later_of : (l : Allowance) (offset : ℕ) (bytes : List ℕ) (bs : List Located) → 0 < offset
    → LocatedStream l offset bytes bs → blobs_text collection_layout bs ≡ later_features (geometries_of bs)
later_of l offset bytes [] some s = refl
later_of l offset bytes (b ∷ bs) some s =
    let first = tells_first l offset s.0 b s.3 ∙ ne_eqb offset 0 (λ e. absurd (omega (arith, some, e))) in
    ap (λ f. (before_feature f ++ feature_text b.geometry) ++ blobs_text collection_layout bs) first
    ∙ ap (λ t. (44 ∷ 10 ∷ feature_text b.geometry) ++ t)
    (later_of l (offset + length s.0) s.1 bs (omega (arith, some)) s.4)

pub features_of : (l : Allowance) (bytes : List ℕ) (bs : List Located) → LocatedStream l 0 bytes bs
    → listing_text collection_layout bs ≡ features_text (geometries_of bs)
features_of l bytes [] s = refl
features_of l bytes (b ∷ bs) s =
    let first = tells_first l 0 s.0 b s.3 in
    let some = blob_long l s.0 b.geometry s.3.blob in
    ap (λ f. opening_text ++ ((before_feature f ++ feature_text b.geometry) ++ blobs_text collection_layout bs)) first
    ∙ ap (λ t. opening_text ++ ((10 ∷ feature_text b.geometry) ++ t))
    (later_of l (0 + length s.0) s.1 bs (omega (arith, some)) s.4)

joined : (bs cs : List Located) → geometries_of (bs ++ cs) ≡ geometries_of bs ++ geometries_of cs
joined bs cs = map-append (λ (b : Located). b.geometry) bs cs

counted : (bs : List Located) → length (geometries_of bs) ≡ length bs
counted bs = length-map bs (λ (b : Located). b.geometry)

cut_without : (later : List Located) (left : List ℕ) → AtMostOneCut later left → AtMostOneCut (geometries_of later) left
cut_without later left (inl none) = inl (ap geometries_of none)
cut_without later left (inr one) = inr (one.0.geometry, ap geometries_of one.1, one.2)

holds_without : (l : Allowance) (front text : List ℕ) (whole : List Located) → LocatedStream l 0 front whole
    → HoldsWhole (listing_text collection_layout) text whole → HoldsWhole features_text text (geometries_of whole)
holds_without l front text whole s (inl none) = inl (ap geometries_of none)
holds_without l front text whole s (inr more) =
    inr (more.0, more.1 ∙ ap (λ t. t ++ more.0) (features_of l front whole s))

-- the text of all these blobs
all_text : (l : Allowance) (bytes : List ℕ) (whole later : List Located) → LocatedStream l 0 bytes (whole ++ later)
    → listing_text collection_layout (whole ++ later) ≡ features_text (geometries_of whole ++ geometries_of later)
all_text l bytes whole later s = features_of l bytes (whole ++ later) s ∙ ap features_text (joined whole later)

explains_without : (l : Allowance) (old told : Option (List ℕ)) (bytes : List ℕ) (why : Cause)
    (whole later : List Located) (left : List ℕ) → LocatedStream l 0 bytes (whole ++ later)
    → ExplainsListingCause geometries_of (listing_text collection_layout) l old told bytes why whole later left
    → ExplainsListingCause (λ (trees : List Tree). trees) features_text l old told bytes why
    (geometries_of whole) (geometries_of later) left
explains_without l old told bytes (causes.Blob offset reason) whole later left s e = (ap geometries_of e.0, e.1, e.2)
explains_without l old told bytes causes.ReadDevice whole later left s e = (ap geometries_of e.0, e.1, e.2)
explains_without l old told bytes causes.WriteDevice whole later left s e = tt
explains_without l old told bytes causes.Memory whole later left s e = (ap geometries_of e.0, e.1)
explains_without l old told bytes causes.TooLong whole later left s (inl long) = inl long
explains_without l old told bytes causes.TooLong whole later left s (inr long) =
    inr (subst (λ (t : List ℕ). MAX_BYTES < length t) (all_text l bytes whole later s) long)
explains_without l old told bytes _ whole later left s e = e

-- a listing that stopped before the closing
pub features_stopped : {R W : Type 0} {remaining : R → Option (List ℕ)}
    {contents : W → Option (List ℕ)} {reader read : Tap R} {writer written : Tap W}
    {fault : ConvertFault} (l : Allowance)
    → StoppedListing (LocatedStream l 0) geometries_of (listing_text collection_layout) l remaining
    contents reader writer fault read written
    → StoppedListing (Stream l) (λ (trees : List Tree). trees) features_text l remaining
    contents reader writer fault read written
features_stopped {remaining = remaining} {reader = reader} {read = read} {fault = fault} l stopped =
    let p = stopped.part in
    record {
      text = stopped.text;
      part = record {
        whole = geometries_of p.whole;
        later = geometries_of p.later;
        bytes = p.bytes;
        left = p.left;
        blobs = subst (λ gs. Stream l p.bytes gs) (joined p.whole p.later)
            (located-stream l 0 p.bytes (p.whole ++ p.later) p.blobs);
        begins = p.begins;
        cut = sym (all_text l p.bytes p.whole p.later p.blobs) ∙ p.cut;
        one = cut_without p.later p.left p.one;
        holds = holds_without l stopped.taken.front stopped.text p.whole stopped.taken.blobs p.holds;
      };
      appends = stopped.appends;
      done = stopped.done ∙ sym (counted p.whole);
      sent = stopped.sent;
      taken = record {
        front = stopped.taken.front;
        rest = stopped.taken.rest;
        cut = stopped.taken.cut;
        blobs = located-stream l 0 stopped.taken.front p.whole stopped.taken.blobs;
        taken_is = stopped.taken.taken_is;
      };
      explains = explains_without l (remaining (device_of reader)) (remaining (device_of read))
          p.bytes fault.cause p.whole p.later p.left p.blobs stopped.explains;
      devices = stopped.devices;
    }

-- ==== What was sent with the closing.

-- the closing is whole, or this cause stopped it
abbrev ClosedBy : List Tree → List ℕ → Result (Unit {0}) Cause → Type 0
ClosedBy found rest (Ok done) = rest ≡ []
ClosedBy found rest (Err why) =
    (why ≡ causes.WriteDevice) ⊎ ((why ≡ causes.TooLong) × (MAX_BYTES < length (collection_text found)))

-- All bytes are these blobs, and the text of their features was sent, and a prefix of the closing.
record Closed {R W : Type 0} {read : Ghosts R} (contents : W → Option (List ℕ)) (from : Reader R read)
    (old : Output W) (to : Reader R read) (new : Output W) (done taken : ℕ)
    (answer : Result (Unit {0}) Cause) : Type 0 where
  pub found : List Tree
  pub bytes : List ℕ
  pub stream : Stream (limits_of from) bytes found
  pub all : IfSome (rest_of from) (λ whole. whole ≡ bytes)
  pub ended : IfSome (rest_of from) (λ whole. IsAtEnd (told_of to))
  pub front : List ℕ
  pub rest : List ℕ
  pub cut : closing_text ≡ front ++ rest
  pub leaves : Leaves contents old (features_text found ++ front) new answer
  pub count : done ≡ length found
  pub taken_is : taken ≡ length bytes
  pub follows : Follows from to false
  pub why : ClosedBy found rest answer

module _ {R W : Type 0} {read : Ghosts R} {contents : W → Option (List ℕ)} {from to : Reader R read}
    {old mid : Output W} {done taken : ℕ} (lists : Lists collection_layout contents from old to mid done taken (Ok tt))
    (fresh : is_spent old ≡ false) (none : sent_of old ≡ 0) where
  whole_blobs : LocatedStream (limits_of from) 0 lists.part.bytes lists.part.whole
  whole_blobs =
      subst (λ bs. LocatedStream (limits_of from) 0 lists.part.bytes bs)
      (ap (λ bs. lists.part.whole ++ bs) lists.ends.no_later ∙ append-nil lists.part.whole) lists.part.blobs

  sent_text : lists.text ≡ features_text (geometries_of lists.part.whole)
  sent_text =
      whole_text collection_layout lists.part.whole lists.part.later lists.text lists.part.left lists.part.cut
      lists.ends.no_later lists.ends.none_left
      ∙ features_of (limits_of from) lists.part.bytes lists.part.whole whole_blobs

  all_took : Took contents old (features_text (geometries_of lists.part.whole)) mid
  all_took = subst (λ t. Took contents old t mid) sent_text (record {
    sends = lists.leaves.sends;
    failures = lists.leaves.failures;
    spent = lists.leaves.unspent ∙ sym fresh;
  })

  closed : {new : Output W} (answer : Result (Unit {0}) Cause) (front rest : List ℕ) → closing_text ≡ front ++ rest
      → Leaves contents old (features_text (geometries_of lists.part.whole) ++ front) new answer
      → ClosedBy (geometries_of lists.part.whole) rest answer
      → Closed contents from old to new done taken answer
  closed answer front rest cut leaves why = record {
    found = geometries_of lists.part.whole;
    bytes = lists.part.bytes;
    stream = located-stream (limits_of from) 0 lists.part.bytes lists.part.whole whole_blobs;
    all = lists.ends.all;
    ended = lists.ends.ended;
    front = front;
    rest = rest;
    cut = cut;
    leaves = leaves;
    count = lists.count ∙ sym (counted lists.part.whole);
    taken_is = taken_whole (limits_of from) lists.part.bytes lists.part.whole taken whole_blobs lists.takes;
    follows = subst (λ f. Follows from to f) lists.ends.no_read lists.follows;
    why = why;
  }

  -- the closing was sent
  closed_whole : {new : Output W} → Took contents mid closing_text new
      → Closed contents from old to new done taken (Ok tt)
  closed_whole {new = new} took = closed (Ok tt) closing_text [] (sym (append-nil closing_text))
      (leaves_took (Ok tt) (took_join contents old mid new _ _ all_took took) fresh refl) refl

  refused_by : {new : Output W} (f : OutFault) → Cut contents mid closing_text f new → (rest : List ℕ)
      → ClosedBy (geometries_of lists.part.whole) rest (Err (cause_of_output f))
  refused_by out.TooLong cut rest =
      let far = cut.too_long refl in
      let gs = geometries_of lists.part.whole in
      inr (refl, omega (arith, far, none, all_took.sends.sent, length-append (features_text gs) closing_text))
  refused_by out.Spent cut rest = absurd (cut.unspent (all_took.spent ∙ fresh) refl)
  refused_by _ cut rest = inl refl

  -- a prefix of the closing was sent
  closed_cut : {new : Output W} (f : OutFault) → Cut contents mid closing_text f new
      → Closed contents from old to new done taken (Err (cause_of_output f))
  closed_cut {new = new} f cut = closed (Err (cause_of_output f)) cut.front cut.rest cut.whole
      (leaves_refused (refused_join contents old mid new _ cut.front f all_took cut.refused))
      (refused_by f cut cut.rest)

-- a stop before the closing, which stays
record StoppedBefore {R W : Type 0} {read : Ghosts R} (contents : W → Option (List ℕ)) (from : Reader R read)
    (old : Output W) (to : Reader R read) (new : Output W) (done taken : ℕ)
    (answer : Result (Unit {0}) Cause) : Type 0 where
  pub why : Cause
  pub is : answer ≡ Err why
  pub lists : Lists collection_layout contents from old to new done taken answer

-- the closing, by what came before it
closing_by : {R W : Type 0} {read : Ghosts R} {contents : W → Option (List ℕ)} {from to : Reader R read}
    {old mid new : Output W} {done taken : ℕ} (listing sending : Result (Unit {0}) Cause)
    → Lists collection_layout contents from old to mid done taken listing → is_spent old ≡ false → sent_of old ≡ 0
    → Closes contents mid listing new sending
    → StoppedBefore contents from old to new done taken sending ⊎ Closed contents from old to new done taken sending
closing_by {contents = contents} {from = from} {to = to} {old = old} {mid = mid} {done = done} {taken = taken}
    (Err why) sending lists fresh none (same, is) = inl (record {
      why = why;
      is = is;
      lists = subst (λ o. Lists collection_layout contents from old to o done taken sending) (sym same)
          (subst (λ a. Lists collection_layout contents from old to mid done taken a) (sym is) lists);
    })
closing_by (Ok sent) (Ok done) lists fresh none took = inr (closed_whole lists fresh none took)
closing_by {contents = contents} {from = from} {to = to} {old = old} {new = new} {done = done} {taken = taken}
    (Ok sent) (Err why) lists fresh none (f, is, cut) =
    inr (subst (λ w. Closed contents from old to new done taken (Err w)) (sym is) (closed_cut lists fresh none f cut))

-- what was sent with the closing, after the flush
closed_last : {R W : Type 0} {read : Ghosts R} {contents : W → Option (List ℕ)} {from to : Reader R read}
    {old mid new : Output W} {done taken : ℕ} {answer last : Result (Unit {0}) Cause}
    → Closed contents from old to mid done taken answer → Flushes contents mid answer new last
    → Closed contents from old to new done taken last
closed_last {answer = answer} {last = last} closed flushes =
    let after = leaves_last closed.leaves flushes in
    record {
      found = closed.found;
      bytes = closed.bytes;
      stream = closed.stream;
      all = closed.all;
      ended = closed.ended;
      front = closed.front;
      rest = closed.rest;
      cut = closed.cut;
      leaves = after.0;
      count = closed.count;
      taken_is = closed.taken_is;
      follows = closed.follows;
      why = why after.1;
    }
  where
    why : (last ≡ answer) ⊎ (last ≡ Err causes.WriteDevice) → ClosedBy closed.found closed.rest last
    why (inl same) = rw same closed.why
    why (inr write) = rw write (inl refl)

-- ==== What the caller learns.

known_trees : (l m : Allowance) (known : Option (List ℕ)) (bytes : List ℕ) (gs : List Tree) → m ≡ l
    → IfSome known (λ whole. whole ≡ bytes) → Stream m bytes gs → IfSome known (λ whole. Stream l whole gs)
known_trees l m None bytes gs same all s = tt
known_trees l m (Some whole) bytes gs same all s =
    subst (λ b. Stream l b gs) (sym all) (subst (λ a. Stream a bytes gs) same s)

closed_tell : (why : Cause) (found : List Tree) (rest : List ℕ) → ClosedBy found rest (Err why)
    → IsDeviceCause false (is_write {A = Unit {0}} (Err why)) why
closed_tell causes.WriteDevice found rest by = refl
closed_tell causes.TooLong found rest by = (λ e. cc e, λ e. cc e)
closed_tell _ found rest (inl is) = absurd (cc is)
closed_tell _ found rest (inr far) = absurd (cc far.0)

module _ {R W : Type 0} {read : Ghosts R} {contents : W → Option (List ℕ)}
    {l : Allowance} {from to : Reader R read} {old mid new last : Output W} {done taken : ℕ}
    {listing sending : Result (Unit {0}) Cause}
    {report : Result Report ConvertFault} (remaining : R → Option (List ℕ)) (reader after : Tap R)
    (writer written : Tap W) (finishes : Finishes contents new done taken sending last report)
    (lists : Lists collection_layout contents from old to mid done taken listing)
    (closes : Closes contents mid listing new sending)
    (fresh : is_spent old ≡ false) (limits : limits_of from ≡ l)
    (told : rest_of from ≡ remaining (device_of reader)) (failures : reader_failures from ≡ failures_of reader)
    (borrowed : (output_tap old).now ≡ writer) (none : sent_of old ≡ 0)
    (ends : (reader_tap to).now ≡ after) (ended : (output_tap last).now ≡ written)
    (later_told : told_of to ≡ remaining (device_of after)) where
  either : StoppedBefore contents from old to new done taken sending
      ⊎ Closed contents from old to new done taken sending
  either = closing_by listing sending lists fresh none closes

  appended : (text : List ℕ) → Sent contents old text last
      → Appends (contents (device_of writer)) (contents (device_of written)) text
  appended text sent = subst (λ t. Appends (contents (device_of t)) (contents (device_of written)) text) borrowed
      (subst (λ t. Appends (contents (device_of (output_tap old).now)) (contents (device_of t)) text)
      ended sent.appends)

  reads_as : reader_failures to ≡ reader_failures from → failures_of after ≡ failures_of reader
  reads_as reads = ap failures_of (sym ends) ∙ reads ∙ failures

  writes_as : (failed : Bool) → output_failures last ≡ count_failure failed (output_failures old)
      → failures_of written ≡ count_failure failed (failures_of writer)
  writes_as failed writes = ap failures_of (sym ended) ∙ writes
      ∙ ap (λ t. count_failure failed (failures_of t)) borrowed

  closed_as : Closed contents from old to new done taken sending → (answer : Result (Unit {0}) Cause)
      → finishes.answer ≡ answer → Closed contents from old to last done taken answer
  closed_as closed answer is = rw is at (closed_last closed finishes.flushes)

  listed_as : Closed contents from old to new done taken sending → (r : Report)
      → Ok r ≡ reported done (sent_of last) taken finishes.answer
      → Listed (Stream l) collection_text remaining contents reader writer r after written
  listed_as closed r is =
      let (ok, same) = reports_ok done (sent_of last) taken r finishes.answer is in
      let c = closed_as closed (Ok tt) ok in
      let front : c.front ≡ closing_text = sym (append-nil c.front) ∙ ap (λ t. c.front ++ t) (sym c.why) ∙ sym c.cut in
      let text : features_text c.found ++ c.front ≡ collection_text c.found
      = ap (λ t. features_text c.found ++ t) front in
      record {
        found = c.found;
        stream = subst (λ k. IfSome k (λ bytes. Stream l bytes c.found)) told
            (known_trees l (limits_of from) (rest_of from) c.bytes c.found limits c.all c.stream);
        appends = subst (λ t. Appends (contents (device_of writer)) (contents (device_of written)) t) text
            (appended (features_text c.found ++ c.front) c.leaves.sends);
        geometries = ap (λ (q : Report). q.geometries) same ∙ c.count;
        bytes = (let count = ap (λ (q : Report). q.bytes) same in
            omega (arith, count, c.leaves.sends.sent, none, ap length text));
        taken = subst (λ k. IfSome k (λ bytes. r.taken ≡ length bytes)) told
            (known_length (rest_of from) c.bytes r.taken c.all (ap (λ (q : Report). q.taken) same ∙ c.taken_is));
        end = subst (λ k. IfSome k (λ bytes. IsAtEnd (remaining (device_of after)))) told
            (subst (λ t. IfSome (rest_of from) (λ bytes. IsAtEnd t)) later_told c.ended);
        reads = reads_as c.follows.failures;
        writes = writes_as false c.leaves.failures;
      }

  unclosed_as : Closed contents from old to new done taken sending → (fault : ConvertFault)
      → Err fault ≡ reported done (sent_of last) taken finishes.answer
      → Unclosed l remaining contents reader writer fault after written
  unclosed_as closed fault is =
      let (stops, same) = reports_err done (sent_of last) taken fault finishes.answer is in
      let c = closed_as closed (Err fault.cause) stops in
      record {
        found = c.found;
        stream = subst (λ k. IfSome k (λ bytes. Stream l bytes c.found)) told
            (known_trees l (limits_of from) (rest_of from) c.bytes c.found limits c.all c.stream);
        front = c.front;
        rest = c.rest;
        cut = c.cut;
        appends = appended (features_text c.found ++ c.front) c.leaves.sends;
        done = ap (λ (f : ConvertFault). f.done) same ∙ c.count;
        sent = (let count = ap (λ (f : ConvertFault). f.sent) same in
            omega (arith, count, c.leaves.sends.sent, none));
        taken = subst (λ k. IfSome k (λ bytes. fault.taken ≡ length bytes)) told
            (known_length (rest_of from) c.bytes fault.taken c.all
            (ap (λ (f : ConvertFault). f.taken) same ∙ c.taken_is));
        end = subst (λ k. IfSome k (λ bytes. IsAtEnd (remaining (device_of after)))) told
            (subst (λ t. IfSome (rest_of from) (λ bytes. IsAtEnd t)) later_told c.ended);
        why = c.why;
        devices = record {
          read_failed = false;
          write_failed = is_write {A = Unit {0}} (Err fault.cause);
          reads = reads_as c.follows.failures;
          writes = writes_as (is_write {A = Unit {0}} (Err fault.cause)) c.leaves.failures;
          tell = closed_tell fault.cause c.found c.rest c.why;
        };
      }

  -- no report is that of a stop
  no_report : StoppedBefore contents from old to new done taken sending → (r : Report)
      → Ok r ≡ reported done (sent_of last) taken finishes.answer → ⊥
  no_report before r is =
      let ok = (reports_ok done (sent_of last) taken r finishes.answer is).0 in
      elim (leaves_last before.lists.leaves finishes.flushes).1 [
        | inl same ↦ cc (sym ok ∙ same ∙ before.is)
        | inr write ↦ cc (sym ok ∙ write)
      ]

  pub collected : IfOk report (λ r. Listed (Stream l) collection_text remaining contents reader writer r after written)
  collected = when_ok report _ (λ r is. (elim either [
    | inl before ↦ absurd (no_report before r (sym is ∙ finishes.reports))
    | inr closed ↦ listed_as closed r (sym is ∙ finishes.reports)
  ]))

  pub collection_stopped : IfErr report
      (λ fault. StoppedCollection l remaining contents reader writer fault after written)
  collection_stopped = elim either [
    | inl before ↦ IfErr-weaker report _ _ (λ fault s. inl (features_stopped l s))
        (stopped remaining reader after writer written finishes before.lists limits told failures borrowed none ends
        ended later_told)
    | inr closed ↦ when_err report _ (λ fault is. inr (unclosed_as closed fault (sym is ∙ finishes.reports)))
  ]

-- all is flushed, unless the output refused a call
pub collection_flushed : {R W : Type 0} {read : Ghosts R} {contents : W → Option (List ℕ)} {from to : Reader R read}
    {old mid new last : Output W} {done taken : ℕ} {listing sending : Result (Unit {0}) Cause}
    {report : Result Report ConvertFault} → Finishes contents new done taken sending last report
    → Lists collection_layout contents from old to mid done taken listing → Closes contents mid listing new sending
    → is_spent old ≡ false → sent_of old ≡ 0 → (written : Tap W) → (output_tap last).now ≡ written
    → IsFlushed report written
collection_flushed {listing = listing} {sending = sending} finishes lists closes fresh none written ended =
    elim (closing_by listing sending lists fresh none closes) [
      | inl before ↦ flushed finishes before.lists.leaves.unspent written ended
      | inr after ↦ flushed finishes after.leaves.unspent written ended
    ]
