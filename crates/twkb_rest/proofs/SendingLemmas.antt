-- The exits of the loop over a stream's linestrings.
use Rattle.std.proofs.KnownBytes.{Consumes-nil, Consumes-trans}
use Rattle.std.proofs.Common.{ℤ}
use Rattle.csv.specs.Writing.{row_text}
use Rattle.twkb_io.specs.declared.TheConstants.{MAX_BYTES}
use Rattle.twkb_io.specs.declared.output.OutFault.TheVariants as out
use Rattle.twkb_grammar.proofs.Streams.{blob_long}
use Rattle.twkb_convert.proofs.Prelude.{◌≡◌, ◌≢◌, ◌∙◌, ◌+◌, ◌-◌, ◌<◌, ℕ, Bool, false, List, [], ◌∷◌, ◌++◌}
use Rattle.twkb_convert.proofs.Prelude.{Option, Some, None, Result, Ok, Err, IfSome, length, ap, arith, refl, sym}
use Rattle.twkb_convert.proofs.Prelude.{subst, inl, inr}
use Rattle.twkb_convert.proofs.Prelude.{append_assoc, length-append, append-nil, Consumes, IsAtEnd}
use Rattle.twkb_convert.proofs.Prelude.{Ghosts, BeginsWith, Cut, Took, sent_of, refused_join, took_join, took_nothing}
use Rattle.twkb_convert.proofs.Prelude.{Output, OutFault, Allowance, Reader, Tree, Stream, Blob}
use Rattle.twkb_convert.proofs.Prelude.{BlobReason, StreamFault, reason_of}
use Rattle.twkb_convert.specs.Causes.{cause_of_output, is_write}
use Rattle.twkb_convert.specs.Listed.{EndsBlobs, Follows, Misses, MissesText, RefusesBlob, Used, given}
use Rattle.twkb_convert.specs.Listed.{limits_of, rest_of, told_of}
use Rattle.twkb_convert.specs.BlobsListed.{IsFresh}
use Rattle.twkb_convert.specs.declared.report.Cause.{Cause}
use Rattle.twkb_convert.specs.declared.report.Cause.TheVariants as cause
use Rattle.twkb_convert.proofs.FlushLemmas.{leaves_refused, leaves_took, told_missed, told_put}
use Rattle.twkb_rest.specs.Written.{written_with}
use Rattle.twkb_rest.specs.Columns.{LineStream, RefusesLine, column_text, line_record, Refuses}
use Rattle.twkb_rest.specs.Lines.{Ends, GivesLine, GivesTree, RefusesNext, Sends, SentSoFar}
use Rattle.twkb_rest.specs.Unpacked.{ExplainsUnpackCause}
use Rattle.twkb_rest.specs.declared.fault.LineReason.{LineReason}
use Rattle.twkb_rest.specs.declared.fault.UnpackCause.TheVariants as column
use Rattle.twkb_rest.proofs.LineLemmas.{lines_more, text_more}

-- ---- bytes

pub consumes_begins : (old new : Option (List ℕ)) (bytes : List ℕ) → Consumes old new bytes → BeginsWith old bytes
consumes_begins None new bytes c = tt
consumes_begins (Some xs) None bytes c = absurd c
consumes_begins (Some xs) (Some ys) bytes c = (ys, c)

-- these are all bytes if none is left
pub consumes_all : (old new : Option (List ℕ)) (bytes : List ℕ) → Consumes old new bytes → IsAtEnd new
    → IfSome old (λ whole. whole ≡ bytes)
consumes_all None new bytes c end = tt
consumes_all (Some xs) None bytes c end = absurd c
consumes_all (Some xs) (Some ys) bytes c end = c ∙ ap (λ l. bytes ++ l) end ∙ append-nil bytes

-- bytes that were known are known when some of them are gone
pub still_known : (old new : Option (List ℕ)) (bytes : List ℕ) (Fact : Type 0) → Consumes old new bytes
    → IfSome new (λ left. Fact) → IfSome old (λ whole. Fact)
still_known None new bytes Fact c fact = tt
still_known (Some xs) None bytes Fact c fact = absurd c
still_known (Some xs) (Some ys) bytes Fact c fact = fact

pub used_join : {a b c : Option (List ℕ)} {m n o : ℕ} {xs ys : List ℕ} → Used a m xs b n
    → Used b n ys c o → Used a m (xs ++ ys) c o
used_join {a = a} {b = b} {c = c} {xs = xs} {ys = ys} first second = record {
  consumed = Consumes-trans a b c xs ys first.consumed second.consumed;
  counted = omega (arith, first.counted, second.counted, length-append xs ys);
}

pub any_begins : (known : Option (List ℕ)) → BeginsWith known []
any_begins None = tt
any_begins (Some bytes) = (bytes, refl)

-- ---- blobs

-- one more blob after a stream
pub stream_more : (l : Allowance) (xs ys : List ℕ) (gs : List Tree) (g : Tree) → Stream l xs gs → Blob l ys g
    → Stream l (xs ++ ys) (gs ++ g ∷ [])
stream_more l xs ys [] g s b =
    subst (λ (zs : List ℕ). Stream l (zs ++ ys) (g ∷ [])) (sym s) (ys, [], sym (append-nil ys), b, refl)
stream_more l xs ys (h ∷ gs) g s b = (
  s.0,
  s.1 ++ ys,
  ap (λ zs. zs ++ ys) s.2 ∙ append_assoc s.0 s.1 ys,
  s.3,
  stream_more l s.1 ys gs g s.4 b,
)

-- a blob has at least one byte
pub given_more : {l : Allowance} {old new : Option (List ℕ)} {before after : ℕ} {g : Tree}
    → GivesTree l old before g new after → before < after
given_more {l = l} {g = g} gives = omega (arith, gives.used.counted, blob_long l gives.front g gives.blob)

-- fewer bytes may still be given out after a linestring was read
pub fewer_left : {R : Type 0} {read : Ghosts R} {d : ℕ} {first next : Option ℤ} {from to : Reader R read}
    {text : List ℕ} → GivesLine d first next from to text → MAX_BYTES - given to < MAX_BYTES - given from
fewer_left one = omega (arith, given_more one.gives, one.follows.within)

-- reads that failed or not, after reads that did not
pub follows_on : {R : Type 0} {read : Ghosts R} {from mid to : Reader R read} {failed : Bool}
    → Follows from mid false → Follows mid to failed → Follows from to failed
follows_on first second = record {
  same_tap = second.same_tap ∙ first.same_tap;
  limits = second.limits ∙ first.limits;
  failures = rw first.failures at second.failures;
  within = second.within;
}

-- a reader that was not called
pub stays : {R : Type 0} {read : Ghosts R} (from : Reader R read) → Follows from from false
stays from = record { same_tap = refl; limits = refl; failures = refl; within = from.input.within }

-- ---- causes

module _ (text_of : List Tree → List ℕ) (l : Allowance) (old mid told : Option (List ℕ)) (middle : ℕ)
    (bytes text : List ℕ) (gs : List Tree) (blobs : Stream l bytes gs) (used : Used old 0 bytes mid middle) where
  long : (known left : Option (List ℕ)) → Consumes known left bytes
      → IfSome left (λ rest. MAX_BYTES < middle + length rest) → IfSome known (λ all. MAX_BYTES < length all)
  long None left c far = tt
  long (Some all) None c far = absurd c
  long (Some all) (Some rest) c far = omega (arith, far, used.counted, ap length c, length-append bytes rest)

  refused : (known left : Option (List ℕ)) (offset : ℕ) (why : BlobReason)
      → Consumes known left bytes → IfSome left (λ rest. RefusesBlob l rest middle offset why)
      → IfSome known (λ all. StreamFault l all gs offset (reason_of why))
  refused None left offset why c refuses = tt
  refused (Some all) None offset why c refuses = absurd c
  refused (Some all) (Some rest) offset why c refuses = record {
    front = bytes;
    rest = rest;
    within = refuses.within;
    whole = c;
    blobs = blobs;
    first = refuses.first;
    place = omega (arith, refuses.place, used.counted);
  }

  -- what a cause says after blobs with these bytes, if no further record was made
  pub explained : (why : Cause) → Misses l mid middle told why
      → ExplainsUnpackCause text_of l old told bytes text (column.Stream why) gs [] []
  explained cause.Memory misses = (refl, inl refl)
  explained cause.ReadDevice misses = (
    refl,
    refl,
    record {
      cut = misses.cut;
      consumed = Consumes-trans old mid told bytes misses.cut used.consumed misses.consumed;
      cut_off = misses.cut_off;
    },
  )
  explained cause.TooLong misses = inl (long old mid used.consumed misses)
  explained (cause.Blob offset why) misses = (refl, refl, refused old mid offset why used.consumed misses)
  explained cause.WriteDevice misses = absurd misses
  explained cause.TooManyRecords misses = absurd misses
  explained (cause.Row number reason) misses = absurd misses

-- what the cause of a refused put says
pub put_explained : (text_of : List Tree → List ℕ) (l : Allowance) (old told : Option (List ℕ)) (bytes text : List ℕ)
    (f : OutFault) (whole later : List Tree) (left : List ℕ)
    → (f ≡ out.TooLong → MAX_BYTES < length (text_of (whole ++ later))) → f ≢ out.Spent
    → ExplainsUnpackCause text_of l old told bytes text (column.Stream (cause_of_output f)) whole later left
put_explained text_of l old told bytes text out.TooLong whole later left far unspent = inr (far refl)
put_explained text_of l old told bytes text out.Spent whole later left far unspent = absurd (unspent refl)
put_explained text_of l old told bytes text out.Write whole later left far unspent = tt
put_explained text_of l old told bytes text out.Stuck whole later left far unspent = tt

-- ---- the loop

module _ {R W : Type 0} {read : Ghosts R} {d : ℕ} {name : List ℕ} {contents : W → Option (List ℕ)}
    {from : Reader R read} {old : Output W} where
  -- the record of the name was sent
  pub sent_first : {new : Output W} {done taken : ℕ} → done ≡ 0 → taken ≡ 0 → IsFresh from old
      → Took contents old (row_text (written_with d) (name ∷ [])) new
      → SentSoFar d name contents from old None from new done taken
  sent_first {new = new} none nothing fresh took = record {
    found = [];
    bytes = [];
    blobs = (refl, tt);
    first_is = refl;
    used = record { consumed = Consumes-nil (rest_of from); counted = fresh.unread };
    took = subst (λ t. Took contents old t new) (sym (append-nil (row_text (written_with d) (name ∷ [])))) took;
    count = none;
    follows = stays from;
    between = fresh.between;
    unspent = took.spent ∙ fresh.unspent;
    few = omega (arith, none);
    taken_is = nothing ∙ sym fresh.unread;
  }

  -- memory was refused before anything was sent
  pub sends_nothing : {done taken : ℕ} → done ≡ 0 → taken ≡ 0 → IsFresh from old
      → Sends d name contents from old from old done taken (Err cause.Memory)
  sends_nothing none nothing fresh = record {
    text = [];
    part = record {
      whole = [];
      later = [];
      bytes = [];
      left = column_text d name [];
      blobs = (refl, tt);
      begins = any_begins (rest_of from);
      cut = refl;
      one = inl refl;
      holds = inl refl;
    };
    leaves = leaves_took (Err cause.Memory) (took_nothing contents old) fresh.unspent refl;
    count = none;
    takes = record { front = []; rest = []; cut = refl; blobs = (refl, tt); taken_is = nothing };
    read_failed = false;
    follows = stays from;
    ends = record { explains = (refl, inr refl); tell = (λ e. cc e, λ e. cc e) };
  }

  -- the record of the name was not sent whole
  pub sends_none : {new : Output W} {done taken : ℕ} {f : OutFault} → done ≡ 0 → taken ≡ 0 → IsFresh from old
      → Cut contents old (row_text (written_with d) (name ∷ [])) f new
      → Sends d name contents from old from new done taken (Err (cause_of_output f))
  sends_none {f = f} none nothing fresh cut =
      let whole : column_text d name [] ≡ row_text (written_with d) (name ∷ []) = append-nil _ in
      record {
        text = cut.front;
        part = record {
          whole = [];
          later = [];
          bytes = [];
          left = cut.rest;
          blobs = (refl, tt);
          begins = any_begins (rest_of from);
          cut = whole ∙ cut.whole;
          one = inl refl;
          holds = inl refl;
        };
        leaves = leaves_refused cut.refused;
        count = none;
        takes = record { front = []; rest = []; cut = refl; blobs = (refl, tt); taken_is = nothing };
        read_failed = false;
        follows = stays from;
        ends = record {
          explains = put_explained (column_text d name) (limits_of from) (rest_of from) (told_of from) [] cut.front f
              [] [] cut.rest
              (λ e. (let far = cut.too_long e in omega (arith, far, fresh.unsent, ap length whole)))
              (cut.unspent fresh.unspent);
          tell = told_put f;
        };
      }

  module _ {mid : Reader R read} {between : Output W} {first : Option ℤ} {done taken : ℕ}
      (sent : SentSoFar d name contents from old first mid between done taken) where
    -- the bytes of the blobs so far are those taken
    all_taken : taken ≡ length sent.bytes
    all_taken = omega (arith, sent.taken_is, sent.used.counted)

    -- one more linestring was read
    one_read : {next : Option ℤ} {to : Reader R read} {text : List ℕ} (one : GivesLine d first next mid to text)
        → LineStream (limits_of from) (sent.bytes ++ one.gives.front) (sent.found ++ one.found ∷ [])
    one_read {next = next} one = (
      stream_more (limits_of from) sent.bytes one.gives.front sent.found one.found sent.blobs.0
          (subst (λ l. Blob l one.gives.front one.found) sent.follows.limits one.gives.blob),
      (lines_more first next sent.found one.found sent.blobs.1 sent.first_is one.takes).0,
    )

    -- the record of one more linestring was sent
    pub sent_more : {next : Option ℤ} {to : Reader R read} {new : Output W} {text : List ℕ}
        → GivesLine d first next mid to text → Took contents between text new
        → SentSoFar d name contents from old next to new (done + 1) (given to)
    sent_more {next = next} {new = new} one took = record {
      found = sent.found ++ one.found ∷ [];
      bytes = sent.bytes ++ one.gives.front;
      blobs = one_read one;
      first_is = (lines_more first next sent.found one.found sent.blobs.1 sent.first_is one.takes).1;
      used = used_join sent.used one.gives.used;
      took = subst (λ text. Took contents old text new) (text_more d name sent.found one.found)
          (took_join contents old between new _ _ sent.took (rw one.own at took));
      count = omega (arith, sent.count, length-append sent.found (one.found ∷ []));
      follows = follows_on sent.follows one.follows;
      between = one.between;
      unspent = took.spent ∙ sent.unspent;
      few = omega (arith, sent.few, given_more one.gives);
      taken_is = refl;
    }

    -- a prefix of the record of one more linestring was sent
    pub sends_cut : {next : Option ℤ} {to : Reader R read} {new : Output W} {text : List ℕ} {fault : OutFault}
        → sent_of old ≡ 0 → GivesLine d first next mid to text → Cut contents between text fault new
        → Sends d name contents from old to new done taken (Err (cause_of_output fault))
    sends_cut {to = to} {new = new} {fault = fault} none one refused_text =
        let cut : Cut contents between (row_text (written_with d) (line_record one.found)) fault new = rw one.own at
        refused_text in
        let joined = text_more d name sent.found one.found in
        record {
          text = column_text d name sent.found ++ cut.front;
          part = record {
            whole = sent.found;
            later = one.found ∷ [];
            bytes = sent.bytes ++ one.gives.front;
            left = cut.rest;
            blobs = one_read one;
            begins = consumes_begins (rest_of from) (rest_of to) (sent.bytes ++ one.gives.front)
                (used_join sent.used one.gives.used).consumed;
            cut = sym joined ∙ ap (λ t. column_text d name sent.found ++ t) cut.whole
                ∙ sym (append_assoc (column_text d name sent.found) cut.front cut.rest);
            one = inr (one.found, refl, cut.left sent.unspent);
            holds = inr (cut.front, refl);
          };
          leaves = leaves_refused (refused_join contents old between new _ cut.front fault sent.took cut.refused);
          count = sent.count;
          takes = record {
            front = sent.bytes;
            rest = one.gives.front;
            cut = refl;
            blobs = sent.blobs;
            taken_is = all_taken;
          };
          read_failed = false;
          follows = follows_on sent.follows one.follows;
          ends = record {
            explains = put_explained (column_text d name) (limits_of from) (rest_of from) (told_of to)
                (sent.bytes ++ one.gives.front) (column_text d name sent.found ++ cut.front) fault sent.found
                (one.found ∷ []) cut.rest
                (λ e. (let far = cut.too_long e in
                omega (
                  arith,
                  far,
                  none,
                  sent.took.sends.sent,
                  ap length joined,
                  length-append (column_text d name sent.found) (row_text (written_with d) (line_record one.found)),
                )))
                (cut.unspent sent.unspent);
            tell = told_put fault;
          };
        }

    -- nothing was sent after the records of whole blobs
    sends_whole : {to : Reader R read} {failed : Bool} (answer : Result (Option LineReason) Cause)
        → Follows mid to failed → is_write answer ≡ false
        → Ends d name from to sent.bytes (column_text d name sent.found) sent.found [] [] taken failed answer
        → Sends d name contents from old to between done taken answer
    sends_whole {failed = failed} answer follows quiet ends =
        let text = column_text d name sent.found in
        record {
          text = text;
          part = record {
            whole = sent.found;
            later = [];
            bytes = sent.bytes;
            left = [];
            blobs = rw append-nil sent.blobs;
            begins = consumes_begins (rest_of from) (rest_of mid) sent.bytes sent.used.consumed;
            cut = ap (column_text d name) (append-nil sent.found) ∙ sym (append-nil text);
            one = inl refl;
            holds = inr ([], sym (append-nil text));
          };
          leaves = leaves_took answer sent.took (sym sent.took.spent ∙ sent.unspent) quiet;
          count = sent.count;
          takes = record {
            front = sent.bytes;
            rest = [];
            cut = sym (append-nil sent.bytes);
            blobs = sent.blobs;
            taken_is = all_taken;
          };
          read_failed = failed;
          follows = follows_on sent.follows follows;
          ends = ends;
        }

    -- the end was found
    pub sends_all : {to : Reader R read} → EndsBlobs mid to
        → Sends d name contents from old to between done taken (Ok None)
    sends_all {to = to} ends = sends_whole (Ok None) ends.follows refl (record {
      no_later = refl;
      none_left = refl;
      all = consumes_all (rest_of from) (rest_of mid) sent.bytes sent.used.consumed ends.empty;
      ended = still_known (rest_of from) (rest_of mid) sent.bytes (IsAtEnd (told_of to)) sent.used.consumed ends.ended;
      no_read = refl;
    })

    -- a blob can't be in the column
    refused_known : {to : Reader R read} {why : LineReason} → RefusesNext first mid to why
        → (known left more : Option (List ℕ)) → Consumes known left sent.bytes
        → (one : RefusesNext first mid to why) → Consumes left more one.gives.front
        → IfSome known (λ all. RefusesLine (limits_of from) all sent.found taken why)
    refused_known refuses None left more c one next = tt
    refused_known refuses (Some all) None more c one next = absurd c
    refused_known refuses (Some all) (Some rest) None c one next = absurd next
    refused_known {why = why} refuses (Some all) (Some rest) (Some tail) c one next = record {
      front = sent.bytes;
      here = one.gives.front;
      rest = tail;
      found = one.found;
      whole = c ∙ ap (λ (t : List ℕ). sent.bytes ++ t) next;
      blobs = sent.blobs;
      place = all_taken;
      blob = subst (λ l. Blob l one.gives.front one.found) sent.follows.limits one.gives.blob;
      refused = subst (λ (f : Option ℤ). Refuses f one.found why) sent.first_is one.refused;
    }

    pub sends_before : {to : Reader R read} {why : LineReason} → RefusesNext first mid to why
        → Sends d name contents from old to between done taken (Ok (Some why))
    sends_before {to = to} {why = why} refuses = sends_whole (Ok (Some why)) refuses.follows refl (record {
      no_later = refl;
      none_left = refl;
      refused = refused_known refuses (rest_of from) (rest_of mid) (rest_of to) sent.used.consumed refuses
          refuses.gives.used.consumed;
      no_read = refl;
    })

    -- the record of the next blob was not made
    pub sends_up_to : {to : Reader R read} {why : Cause} → MissesText mid to why
        → Sends d name contents from old to between done taken (Err why)
    sends_up_to {to = to} {why = why} missed =
        let misses : Misses (limits_of from) (rest_of mid) (given mid) (told_of to) why =
        subst (λ l. Misses l (rest_of mid) (given mid) (told_of to) why) sent.follows.limits missed.misses in
        let told = told_missed (limits_of from) (rest_of mid) (told_of to) (given mid) why misses in
        sends_whole (Err why) missed.follows told.0
        (record {
          explains = explained (column_text d name) (limits_of from) (rest_of from) (rest_of mid) (told_of to)
              (given mid) sent.bytes (column_text d name sent.found) sent.found sent.blobs.0 sent.used why misses;
          tell = told.1;
        })
