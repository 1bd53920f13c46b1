-- The exits of the loop over a stream's linestrings and the records of a rest.
use Rattle.std.proofs.Common.{ℤ, ◌≤◌}
use Rattle.std.specs.Borrow.{MutBor}
use Rattle.std.specs.List.{AllByRecursion}
use Rattle.std.proofs.KnownBytes.{Consumes-nil}
use Rattle.csv.specs.declared.reader.Reader.{Reader as CsvReader}
use Rattle.twkb_io.specs.declared.output.OutFault.TheVariants as out
use Rattle.twkb_io.specs.declared.tap.Tap.{Tap}
use Rattle.twkb_io.specs.Outputs.{is_device}
use Rattle.twkb_convert.proofs.Prelude.{◌≡◌, ◌∙◌, ◌+◌, ◌-◌, ◌^◌, ℕ, Bool, true, false, List, [], ◌∷◌, ◌++◌}
use Rattle.twkb_convert.proofs.Prelude.{map}
use Rattle.twkb_convert.proofs.Prelude.{Option, Some, None, Result, Ok, Err, IfSome, length, ap, arith, refl, sym}
use Rattle.twkb_convert.proofs.Prelude.{subst, inl, inr, map-append}
use Rattle.twkb_convert.proofs.Prelude.{append_assoc, length-append, append-nil, Consumes, IsAtEnd}
use Rattle.twkb_convert.proofs.Prelude.{Ghosts, Cut, Took, Refused, refused_join, took_join}
use Rattle.twkb_convert.proofs.Prelude.{Output, OutFault, is_spent, Allowance, Reader, Blob, took_nothing}
use Rattle.twkb_convert.specs.Listed.{EndsBlobs, Follows, Misses, MissesText, given, is_read, limits_of, rest_of}
use Rattle.twkb_convert.specs.Listed.{told_of}
use Rattle.twkb_convert.specs.BlobsListed.{IsFresh}
use Rattle.twkb_convert.specs.declared.report.Cause.{Cause}
use Rattle.twkb_convert.specs.declared.report.Cause.TheVariants as cause
use Rattle.twkb_records.proofs.RecordLemmas.{given_begins}
use Rattle.twkb_records.specs.Records.{BeginWith, HasGiven, ReadsNext}
use Rattle.twkb_records.specs.Rows.{found_in}
use Rattle.twkb_records.specs.declared.found.Found.{Found}
use Rattle.twkb_records.specs.declared.found.Found.TheVariants.{Absent, At, Twice}
use Rattle.twkb_rest.specs.Columns.{LineStream, Refuses, RefusesLine, first_precision}
use Rattle.twkb_rest.specs.JoinCauses.{cause_of_put, is_failed_read, is_failed_write}
use Rattle.twkb_rest.specs.JoinResults.{ExplainsJoin, HasBlobAfter, Parts, RefusesRest}
use Rattle.twkb_rest.specs.Joins.{AreJoined, HasWidth, IsHeaded, Joined, blobs_of, joined_row, joined_text, rows_of}
use Rattle.twkb_rest.specs.JoinSending.{EndsJoin, EndsRest, FindsHeader, GivesJoined, GivesPolyline, IsCut, IsLeft}
use Rattle.twkb_rest.specs.JoinSending.{MissesHeader, MissesJoined, MissesRow, RefusesNames, SendsJoined, SentJoined}
use Rattle.twkb_rest.specs.JoinSending.{UnlessRefused}
use Rattle.twkb_rest.specs.Lines.{RefusesNext}
use Rattle.twkb_rest.specs.Written.{Record, records_text}
use Rattle.twkb_rest.specs.declared.fault.LineReason.{LineReason}
use Rattle.twkb_rest.specs.declared.fault.UnpackCause.TheVariants.{Line, Stream}
use Rattle.twkb_rest.specs.declared.join_fault.JoinCause.{JoinCause}
use Rattle.twkb_rest.specs.declared.join_fault.JoinCause.TheVariants.{Column, NoRecord, Rest, RestDevice}
use Rattle.twkb_rest.specs.declared.join_fault.RestReason.{RestReason}
use Rattle.twkb_rest.specs.declared.join_fault.RestReason.TheVariants as rest
use Rattle.twkb_rest.specs.declared.rest_records.RestColumn.{RestColumn}
use Rattle.twkb_rest.proofs.LineLemmas.{lines_more, records_more}
use Rattle.twkb_rest.proofs.SendingLemmas.{any_begins, consumes_all, consumes_begins, explained, follows_on, given_more}
use Rattle.twkb_rest.proofs.SendingLemmas.{put_explained, stays, still_known, stream_more, used_join}

-- ==== One more joined record.

row_more : (d place : ℕ) (header : List Record) (js : List Joined) (j : Joined)
    → joined_text d place header js ++ records_text d (joined_row place j ∷ [])
    ≡ joined_text d place header (js ++ j ∷ [])
row_more d place header js j =
    sym (records_more d (header ++ map (joined_row place) js) (joined_row place j ∷ []))
    ∙ ap (records_text d) (append_assoc header (map (joined_row place) js) (joined_row place j ∷ [])
    ∙ ap (λ (rs : List Record). header ++ rs) (sym (map-append (joined_row place) js (j ∷ []))))

blobs_more : (js : List Joined) (j : Joined) → blobs_of (js ++ j ∷ []) ≡ blobs_of js ++ j.blob ∷ []
blobs_more js j = map-append (λ (k : Joined). k.blob) js (j ∷ [])

rows_more : (js : List Joined) (j : Joined) → rows_of (js ++ j ∷ []) ≡ rows_of js ++ j.row ∷ []
rows_more js j = map-append (λ (k : Joined). k.row) js (j ∷ [])

fits_more : (width : ℕ) (js : List Joined) (j : Joined) → AllByRecursion (HasWidth width) js → HasWidth width j
    → AllByRecursion (HasWidth width) (js ++ j ∷ [])
fits_more width [] j all one = (one, tt)
fits_more width (k ∷ js) j all one = (all.0, fits_more width js j all.1 one)

-- ==== What is left of the output, and what causes say of the devices.

left_took : {W : Type 0} {contents : W → Option (List ℕ)} {old new : Output W} {bytes : List ℕ}
    → Took contents old bytes new → IsLeft contents old bytes new false
left_took took = record { sends = took.sends; failures = took.failures; quiet = λ still. refl }

left_refused : {W : Type 0} {contents : W → Option (List ℕ)} {old new : Output W} {bytes : List ℕ} {f : OutFault}
    → Refused contents old bytes f new → IsLeft contents old bytes new (is_device f)
left_refused refused = record {
  sends = refused.sends;
  failures = refused.failures;
  quiet = λ fresh. absurd (cc (fresh, refused.spent));
}

put_refused : (f : OutFault) (Fact : Type 0) → UnlessRefused {T = Unit {0}} (Err (cause_of_put f)) Fact
put_refused out.TooLong Fact no_write no_length = absurd (no_length refl)
put_refused out.Spent Fact no_write no_length = absurd (no_length refl)
put_refused out.Write Fact no_write no_length = absurd (no_write refl)
put_refused out.Stuck Fact no_write no_length = absurd (no_write refl)

put_writes : (f : OutFault) → is_failed_write {A = Unit {0}} (Err (cause_of_put f)) ≡ is_device f
put_writes out.TooLong = refl
put_writes out.Spent = refl
put_writes out.Write = refl
put_writes out.Stuck = refl

put_reads : (f : OutFault) → is_failed_read {A = Unit {0}} (Err (cause_of_put f)) ≡ false
put_reads out.TooLong = refl
put_reads out.Spent = refl
put_reads out.Write = refl
put_reads out.Stuck = refl

missed_tells : (l : Allowance) (old told : Option (List ℕ)) (before : ℕ) (why : Cause) → Misses l old before told why
    → (is_failed_write {A = Unit {0}} (Err (Column (Stream why))) ≡ false)
    × (is_failed_read {A = Unit {0}} (Err (Column (Stream why))) ≡ is_read why)
missed_tells l old told before cause.ReadDevice misses = (refl, refl)
missed_tells l old told before cause.WriteDevice misses = absurd misses
missed_tells l old told before cause.TooManyRecords misses = absurd misses
missed_tells l old told before (cause.Row number reason) misses = absurd misses
missed_tells l old told before (cause.Blob offset reason) misses = (refl, refl)
missed_tells l old told before cause.Memory misses = (refl, refl)
missed_tells l old told before cause.TooLong misses = (refl, refl)

-- ==== The header.

names_refused : (d : ℕ) (name : List ℕ) (told rest_told : Option (List ℕ)) (names : Record) (why : RestReason)
    (found : Found) → found_in name names ≡ found → RefusesNames found why
    → RefusesRest d name told rest_told [] [] [] (names ∷ []) 1 why
names_refused d name told rest_told names why Absent is because =
    rw because (refl, refl, inr (names, refl, is))
names_refused d name told rest_told names why (At place) is because = absurd because
names_refused d name told rest_told names why Twice is because = rw because (refl, refl, (names, refl, is))

module _ {R Q W : Type 0} {read : Ghosts R} (name : List ℕ) (d : ℕ) (remaining : Q → Option (List ℕ))
    (rest_told : Option (List ℕ)) (contents : W → Option (List ℕ)) (from : Reader R read) (old : Output W)
    (csv : CsvReader (MutBor (Tap Q))) (done taken : ℕ) (none : done ≡ 0) (nothing : taken ≡ 0)
    (fresh : IsFresh from old) (given_none : HasGiven d remaining rest_told [] csv) where
  -- what is there if nothing was sent
  abbrev no_parts : List Record → Parts
  no_parts here = record {
    told = rest_of from;
    told_last = told_of from;
    rest_told = rest_told;
    bytes = [];
    text = [];
    header = [];
    place = 0;
    whole = [];
    later = [];
    here = here;
    left = [];
  }

  none_sent : (why : JoinCause) (here : List Record) → IfSome rest_told (λ bytes. BeginWith d bytes here)
      → is_failed_write {A = Unit {0}} (Err why) ≡ false → is_failed_read {A = Unit {0}} (Err why) ≡ false
      → ExplainsJoin d name (limits_of from) why (no_parts here)
      → SendsJoined name d rest_told contents from old from old done taken (Err why)
  none_sent why here begins no_write no_read explains = record {
    text = [];
    header = [];
    place = 0;
    here = here;
    part = record {
      whole = [];
      later = [];
      bytes = [];
      left = [];
      blobs = (refl, tt);
      begins = any_begins (rest_of from);
      cut = refl;
      one = inl refl;
      holds = inl refl;
    };
    headed = refl;
    records = begins;
    count = none;
    takes = record { front = []; rest = []; cut = refl; blobs = (refl, tt); taken_is = nothing };
    failed = false;
    leaves = left_took (took_nothing contents old);
    open_still = λ writes far. fresh.unspent;
    read_failed = false;
    follows = stays from;
    writes = no_write;
    reads = λ quiet. no_read;
    ends = (explains, λ is. (refl, inl refl));
  }

  begun_none : IfSome rest_told (λ bytes. BeginWith d bytes [])
  begun_none = given_begins d remaining rest_told [] csv given_none

  module _ (to : CsvReader (MutBor (Tap Q))) (header : Record) (reads : ReadsNext remaining csv true header to) where
    given_one : HasGiven d remaining rest_told (header ∷ []) to
    given_one = reads d rest_told [] given_none

    begun_one : IfSome rest_told (λ bytes. BeginWith d bytes (header ∷ []))
    begun_one = given_begins d remaining rest_told (header ∷ []) to given_one

  -- there is no header
  pub misses_header : (to : CsvReader (MutBor (Tap Q))) (why : JoinCause) → MissesHeader name remaining csv why to
      → SendsJoined name d rest_told contents from old from old done taken (Err why)
  misses_header to why (inl is) = rw is (none_sent RestDevice [] begun_none refl refl (inl refl))
  misses_header to why (inr (inl (ended, is))) = rw is (none_sent (Rest 1 rest.NoSuchColumn) [] begun_none refl refl
      (refl, (refl, refl, inl (refl, ended d rest_told [] given_none))))
  misses_header to why (inr (inr (header, reads, inl is))) = rw is (none_sent (Column (Stream cause.Memory))
      (header ∷ []) (begun_one to header reads) refl refl (refl, inl refl))
  misses_header to why (inr (inr (header, reads, inr (because, is, refused)))) = rw is (none_sent (Rest 1 because)
      (header ∷ []) (begun_one to header reads) refl refl (
        refl,
        names_refused d name (rest_of from) rest_told header
            because (found_in name header) refl refused,
      ))

  module _ {to : CsvReader (MutBor (Tap Q))} {column : RestColumn} {header : Record} {text : List ℕ}
      (finds : FindsHeader name d remaining csv column header text to) where
    same_text : (bytes : List ℕ) → bytes ≡ text → bytes ≡ joined_text d column.place (header ∷ []) []
    same_text bytes same = same ∙ finds.own

    -- the output refused the header
    pub header_cut : {new : Output W} {why : JoinCause} (bytes : List ℕ) → bytes ≡ text
        → IsCut contents old bytes why new
        → SendsJoined name d rest_told contents from old from new done taken (Err why)
    header_cut {new = new} bytes same cut = rw cut.told_as (record {
      text = cut.cut.front;
      header = header ∷ [];
      place = column.place;
      here = [];
      part = record {
        whole = [];
        later = [];
        bytes = [];
        left = cut.cut.rest;
        blobs = (refl, tt);
        begins = any_begins (rest_of from);
        cut = sym (same_text bytes same) ∙ cut.cut.whole;
        one = inl refl;
        holds = inl refl;
      };
      headed = (refl, finds.found, tt);
      records = begun_one to header finds.reads;
      count = none;
      takes = record { front = []; rest = []; cut = refl; blobs = (refl, tt); taken_is = nothing };
      failed = is_device cut.fault;
      leaves = left_refused cut.cut.refused;
      open_still = put_refused cut.fault _;
      read_failed = false;
      follows = stays from;
      writes = put_writes cut.fault;
      reads = λ quiet. put_reads cut.fault;
      ends = (
        put_explained (λ trees. joined_text d column.place (header ∷ []) []) (limits_of from) (rest_of from)
            (told_of from) [] cut.cut.front cut.fault [] [] cut.cut.rest
            (λ e. (let far = cut.cut.too_long e in
            omega (arith, far, fresh.unsent, ap length (same_text bytes same))))
            (cut.cut.unspent fresh.unspent),
        λ is. absurd (cc is),
      );
    })

    -- the header was sent
    pub header_sent : {new : Output W} (bytes : List ℕ) → bytes ≡ text → Took contents old bytes new
        → SentJoined name column remaining rest_told contents from old to None from new 2 done taken
    header_sent {new = new} bytes same took = record {
      header = header;
      found = finds.found;
      width = finds.width;
      joined = [];
      bytes = [];
      blobs = (refl, tt);
      first_is = refl;
      fits = tt;
      records = subst (λ (e : ℕ). HasGiven e remaining rest_told (header ∷ []) to) (sym finds.same)
          (given_one to header finds.reads);
      used = record { consumed = Consumes-nil (rest_of from); counted = fresh.unread };
      took = subst (λ (e : ℕ). Took contents old (joined_text e column.place (header ∷ []) []) new) (sym finds.same)
          (subst (λ t. Took contents old t new) (same_text bytes same) took);
      number_is = refl;
      count = none;
      follows = stays from;
      unspent = took.spent ∙ fresh.unspent;
      unsent = fresh.unsent;
      few = omega arith;
      taken_is = nothing ∙ sym fresh.unread;
    }

-- ==== The joined records.

module _ {R Q W : Type 0} {read : Ghosts R} {name : List ℕ} {column : RestColumn} {remaining : Q → Option (List ℕ)}
    {rest_told : Option (List ℕ)} {contents : W → Option (List ℕ)} {from : Reader R read} {old : Output W}
    {csv : CsvReader (MutBor (Tap Q))} {first : Option ℤ} {mid : Reader R read} {between : Output W}
    {number done taken : ℕ}
    (sent : SentJoined name column remaining rest_told contents from old csv first mid between number done taken) where
  abbrev text_so_far : List ℕ
  text_so_far = joined_text column.delimiter column.place (sent.header ∷ []) sent.joined

  -- the bytes of the blobs so far are those taken
  all_taken : taken ≡ length sent.bytes
  all_taken = omega (arith, sent.taken_is, sent.used.counted)

  -- what is there after the records of whole blobs
  abbrev parts : (to : Reader R read) (here : List Record) → Parts
  parts to here = record {
    told = rest_of from;
    told_last = told_of to;
    rest_told = rest_told;
    bytes = sent.bytes;
    text = text_so_far;
    header = sent.header ∷ [];
    place = column.place;
    whole = sent.joined;
    later = [];
    here = here;
    left = [];
  }

  fits_as : (js : List Joined) → AllByRecursion (HasWidth column.width) js
      → IsHeaded name column.place (sent.header ∷ []) js
  fits_as js fits = (
    refl,
    sent.found,
    subst (λ (w : ℕ). AllByRecursion (HasWidth w) js) (sym sent.width) fits,
  )

  -- nothing was sent after the records of whole blobs
  whole_sent : {to : Reader R read} {failed : Bool} (answer : Result (Unit {0}) JoinCause) (here : List Record)
      → IfSome rest_told (λ bytes. BeginWith column.delimiter bytes ((sent.header ∷ rows_of sent.joined) ++ here))
      → Follows mid to failed → is_failed_write answer ≡ false → is_failed_read answer ≡ failed
      → UnlessRefused answer (is_spent between ≡ false)
      → EndsJoin name column.delimiter rest_told from to answer (parts to here)
      → SendsJoined name column.delimiter rest_told contents from old to between done taken answer
  whole_sent {failed = failed} answer here begins follows no_write reads open_still ends = record {
    text = text_so_far;
    header = sent.header ∷ [];
    place = column.place;
    here = here;
    part = record {
      whole = sent.joined;
      later = [];
      bytes = sent.bytes;
      left = [];
      blobs = rw append-nil sent.blobs;
      begins = consumes_begins (rest_of from) (rest_of mid) sent.bytes sent.used.consumed;
      cut = ap (joined_text column.delimiter column.place (sent.header ∷ [])) (append-nil sent.joined)
          ∙ sym (append-nil text_so_far);
      one = inl refl;
      holds = inr ([], sym (append-nil text_so_far));
    };
    headed = subst (IsHeaded name column.place (sent.header ∷ [])) (sym (append-nil sent.joined))
        (fits_as sent.joined sent.fits);
    records = subst (λ (js : List Joined). IfSome rest_told
        (λ bytes. BeginWith column.delimiter bytes ((sent.header ∷ rows_of js) ++ here)))
        (sym (append-nil sent.joined)) begins;
    count = sent.count;
    takes = record {
      front = sent.bytes;
      rest = [];
      cut = sym (append-nil sent.bytes);
      blobs = sent.blobs;
      taken_is = all_taken;
    };
    failed = false;
    leaves = left_took sent.took;
    open_still = open_still;
    read_failed = failed;
    follows = follows_on sent.follows follows;
    writes = no_write;
    reads = λ quiet. reads;
    ends = ends;
  }

  begun : IfSome rest_told (λ bytes. BeginWith column.delimiter bytes ((sent.header ∷ rows_of sent.joined) ++ []))
  begun = subst (λ (rs : List Record). IfSome rest_told (λ bytes. BeginWith column.delimiter bytes rs))
      (sym (append-nil (sent.header ∷ rows_of sent.joined)))
      (given_begins column.delimiter remaining rest_told (sent.header ∷ rows_of sent.joined) csv sent.records)

  begun_more : (to : CsvReader (MutBor (Tap Q))) (row : Record) → ReadsNext remaining csv true row to
      → IfSome rest_told
      (λ bytes. BeginWith column.delimiter bytes ((sent.header ∷ rows_of sent.joined) ++ row ∷ []))
  begun_more to row reads = given_begins column.delimiter remaining rest_told
      ((sent.header ∷ rows_of sent.joined) ++ row ∷ []) to
      (reads column.delimiter rest_told (sent.header ∷ rows_of sent.joined) sent.records)

  -- the next blob was not read
  blob_missed : {to : Reader R read} (because : Cause) → MissesText mid to because
      → SendsJoined name column.delimiter rest_told contents from old to between done taken
      (Err (Column (Stream because)))
  blob_missed {to = to} because missed =
      let misses : Misses (limits_of from) (rest_of mid) (given mid) (told_of to) because =
      subst (λ l. Misses l (rest_of mid) (given mid) (told_of to) because) sent.follows.limits missed.misses in
      let tells = missed_tells (limits_of from) (rest_of mid) (told_of to) (given mid) because misses in
      whole_sent (Err (Column (Stream because))) [] begun missed.follows tells.0 tells.1
      (λ no_write no_length. sent.unspent) (
        explained (λ trees. joined_text column.delimiter column.place (sent.header ∷ []) (sent.joined ++ []))
            (limits_of from) (rest_of from) (rest_of mid) (told_of to) (given mid) sent.bytes text_so_far
            (blobs_of sent.joined) sent.blobs.0 sent.used because misses,
        λ is. absurd (cc is),
      )

  refused_known : {to : Reader R read} {why : LineReason} (known left more : Option (List ℕ))
      → Consumes known left sent.bytes → (one : RefusesNext first mid to why) → Consumes left more one.gives.front
      → IfSome known (λ all. RefusesLine (limits_of from) all (blobs_of sent.joined) taken why)
  refused_known None left more c one next = tt
  refused_known (Some all) None more c one next = absurd c
  refused_known (Some all) (Some rest) None c one next = absurd next
  refused_known {why = why} (Some all) (Some rest) (Some tail) c one next = record {
    front = sent.bytes;
    here = one.gives.front;
    rest = tail;
    found = one.found;
    whole = c ∙ ap (λ (t : List ℕ). sent.bytes ++ t) next;
    blobs = sent.blobs;
    place = all_taken;
    blob = subst (λ l. Blob l one.gives.front one.found) sent.follows.limits one.gives.blob;
    refused = subst (λ (f : Option ℤ). Refuses f one.found why) sent.first_is one.refused;
  }

  -- the next blob is refused
  blob_refused : {to : Reader R read} (because : LineReason) → RefusesNext first mid to because
      → SendsJoined name column.delimiter rest_told contents from old to between done taken
      (Err (Column (Line taken because)))
  blob_refused {to = to} because refuses = whole_sent (Err (Column (Line taken because))) [] begun refuses.follows refl
      refl (λ no_write no_length. sent.unspent) (
        (
          refl,
          refl,
          refused_known (rest_of from) (rest_of mid) (rest_of to) sent.used.consumed refuses
              refuses.gives.used.consumed,
        ),
        λ is. absurd (cc is),
      )

  -- the rest goes on after the stream's end, or could not be read
  rest_goes_on : {to : Reader R read} (after : CsvReader (MutBor (Tap Q))) (why : JoinCause) → EndsBlobs mid to
      → EndsRest number remaining csv (Err why) after
      → SendsJoined name column.delimiter rest_told contents from old to between done taken (Err why)
  rest_goes_on after why ends (inl is) = rw is (whole_sent (Err RestDevice) [] begun ends.follows refl refl
      (λ no_write no_length. sent.unspent) (inl refl, λ same. (refl, inl refl)))
  rest_goes_on after why ends (inr (row, reads, is)) = rw is (whole_sent (Err (Rest number rest.NoBlob)) (row ∷ [])
      (begun_more after row reads) ends.follows refl refl (λ no_write no_length. sent.unspent) (
        (
          refl,
          (
            sent.number_is,
            (row, refl),
            consumes_all (rest_of from) (rest_of mid) sent.bytes sent.used.consumed ends.empty,
          ),
        ),
        λ same. absurd (cc same),
      ))

  has_blob : {next : Option ℤ} {to : Reader R read} {line : List ℕ} (known left more : Option (List ℕ))
      → Consumes known left sent.bytes → (one : GivesPolyline first next mid to line)
      → Consumes left more one.gives.front → IfSome known (λ all. HasBlobAfter (limits_of from) sent.bytes all)
  has_blob None left more c one next = tt
  has_blob (Some all) None more c one next = absurd c
  has_blob (Some all) (Some rest) None c one next = absurd next
  has_blob (Some all) (Some rest) (Some tail) c one next = (
    one.gives.front,
    tail,
    one.found,
    c ∙ ap (λ (t : List ℕ). sent.bytes ++ t) next,
    subst (λ l. Blob l one.gives.front one.found) sent.follows.limits one.gives.blob,
  )

  -- the record of a blob was not read, or is refused
  row_missed : {next : Option ℤ} {to : Reader R read} {line : List ℕ} (after : CsvReader (MutBor (Tap Q)))
      (why : JoinCause) → GivesPolyline first next mid to line → MissesRow column number taken remaining csv why after
      → SendsJoined name column.delimiter rest_told contents from old to between done taken (Err why)
  row_missed after why one (inl is) = rw is (whole_sent (Err RestDevice) [] begun one.follows refl refl
      (λ no_write no_length. sent.unspent) (inl refl, λ same. (refl, inl refl)))
  row_missed {to = to} after why one (inr (inl (ended, is))) = rw is (whole_sent (Err (NoRecord taken)) [] begun
      one.follows refl refl (λ no_write no_length. sent.unspent) (
        (
          refl,
          refl,
          all_taken,
          ended column.delimiter rest_told (sent.header ∷ rows_of sent.joined) sent.records,
          has_blob (rest_of from) (rest_of mid) (rest_of to) sent.used.consumed one one.gives.used.consumed,
        ),
        λ same. absurd (cc same),
      ))
  row_missed after why one (inr (inr (row, reads, inl is))) = rw is (whole_sent (Err (Column (Stream cause.Memory)))
      (row ∷ []) (begun_more after row reads) one.follows refl refl (λ no_write no_length. sent.unspent)
      ((refl, inl refl), λ same. absurd (cc same)))
  row_missed after why one (inr (inr (row, reads, inr (is, other)))) =
      rw is (whole_sent (Err (Rest number rest.FieldCount)) (row ∷ []) (begun_more after row reads) one.follows refl
      refl (λ no_write no_length. sent.unspent) (
        (
          refl,
          (sent.number_is, (sent.header, row, refl, refl, λ same. other (same ∙ sent.width))),
        ),
        λ same. absurd (cc same),
      ))

  -- no text of a blob and a record was made
  pub misses_joined : {next : Option ℤ} {to : Reader R read} (after : CsvReader (MutBor (Tap Q))) (why : JoinCause)
      → MissesJoined column number taken remaining first next mid to csv why after
      → SendsJoined name column.delimiter rest_told contents from old to between done taken (Err why)
  misses_joined after why (inl (because, missed, is)) = rw is (blob_missed because missed)
  misses_joined after why (inr (inl (because, refuses, is))) = rw is (blob_refused because refuses)
  misses_joined after why (inr (inr (inl (ends, goes_on)))) = rest_goes_on after why ends goes_on
  misses_joined after why (inr (inr (inr (line, one, missed)))) = row_missed after why one missed

  -- the stream and the rest ended
  pub joins_all : {to : Reader R read} (after : CsvReader (MutBor (Tap Q))) → EndsBlobs mid to
      → ReadsNext remaining csv false [] after
      → SendsJoined name column.delimiter rest_told contents from old to between done taken (Ok tt)
  joins_all {to = to} after ends ended = whole_sent (Ok tt) [] begun ends.follows refl refl sent.unspent (record {
    names = sent.header;
    header_is = refl;
    no_later = refl;
    none_left = refl;
    all = consumes_all (rest_of from) (rest_of mid) sent.bytes sent.used.consumed ends.empty;
    ended = still_known (rest_of from) (rest_of mid) sent.bytes (IsAtEnd (told_of to)) sent.used.consumed ends.ended;
    records = ended column.delimiter rest_told (sent.header ∷ rows_of sent.joined) sent.records;
  })

  -- more records than bytes can be
  pub too_many : 2 ^ 64 - 1 ≤ number
      → SendsJoined name column.delimiter rest_told contents from old mid between done taken
      (Err (Column (Stream cause.TooLong)))
  too_many far = absurd (let few = sent.few in let n = sent.number_is in let within = sent.follows.within in
      omega (arith, far, few, n, within))

  module _ {next : Option ℤ} {to : Reader R read} {after : CsvReader (MutBor (Tap Q))} {text : List ℕ}
      (one : GivesJoined column remaining first next mid to csv text after) where
    -- the blob and the record
    abbrev both : Joined
    both = record { blob = one.blob.found; row = one.row.row }

    own : text ≡ records_text column.delimiter (joined_row column.place both ∷ [])
    own = one.row.own ∙ ap (λ (t : List ℕ).
        records_text column.delimiter (Rattle.twkb_records.specs.Rows.replaced column.place t one.row.row ∷ []))
        one.blob.own

    more : LineStream (limits_of from) (sent.bytes ++ one.blob.gives.front) (blobs_of sent.joined ++ both.blob ∷ [])
    more = (
      stream_more (limits_of from) sent.bytes one.blob.gives.front (blobs_of sent.joined) both.blob sent.blobs.0
          (subst (λ l. Blob l one.blob.gives.front both.blob) sent.follows.limits one.blob.gives.blob),
      (lines_more first next (blobs_of sent.joined) both.blob sent.blobs.1 sent.first_is one.blob.takes).0,
    )

    one_read : AreJoined (limits_of from) (sent.bytes ++ one.blob.gives.front) (sent.joined ++ both ∷ [])
    one_read = subst (LineStream (limits_of from) (sent.bytes ++ one.blob.gives.front))
        (sym (blobs_more sent.joined both)) more

    fits_both : AllByRecursion (HasWidth column.width) (sent.joined ++ both ∷ [])
    fits_both = fits_more column.width sent.joined both sent.fits one.row.fields

    given_both : HasGiven column.delimiter remaining rest_told (sent.header ∷ rows_of (sent.joined ++ both ∷ [])) after
    given_both = subst (λ (rs : List Record). HasGiven column.delimiter remaining rest_told (sent.header ∷ rs) after)
        (sym (rows_more sent.joined both))
        (one.row.reads column.delimiter rest_told (sent.header ∷ rows_of sent.joined) sent.records)

    -- the text of one more was sent
    pub sent_more : {new : Output W} (bytes : List ℕ) → bytes ≡ text → Took contents between bytes new
        → (next_number now_done now_taken : ℕ) → next_number ≡ number + 1 → now_done ≡ number - 1
        → now_taken ≡ given to
        → SentJoined name column remaining rest_told contents from old after next to new next_number now_done now_taken
    sent_more {new = new} bytes same took next_number now_done now_taken one_more less taken_is = record {
      header = sent.header;
      found = sent.found;
      width = sent.width;
      joined = sent.joined ++ both ∷ [];
      bytes = sent.bytes ++ one.blob.gives.front;
      blobs = one_read;
      first_is = (lines_more first next (blobs_of sent.joined) both.blob sent.blobs.1 sent.first_is one.blob.takes).1
          ∙ ap first_precision (sym (blobs_more sent.joined both));
      fits = fits_both;
      records = given_both;
      used = used_join sent.used one.blob.gives.used;
      took = subst (λ t. Took contents old t new)
          (row_more column.delimiter column.place (sent.header ∷ []) sent.joined both)
          (took_join contents old between new _ _ sent.took (subst (λ t. Took contents between t new) (same ∙ own)
          took));
      number_is = (let n = sent.number_is in omega (arith, one_more, n, length-append sent.joined (both ∷ [])));
      count = (let n = sent.number_is in omega (arith, less, n, length-append sent.joined (both ∷ [])));
      follows = follows_on sent.follows one.blob.follows;
      unspent = took.spent ∙ sent.unspent;
      unsent = sent.unsent;
      few = (let few = sent.few in
          omega (arith, few, length-append sent.joined (both ∷ []), given_more one.blob.gives));
      taken_is = taken_is;
    }

    -- a prefix of the text of one more was sent
    pub joined_cut : {new : Output W} {why : JoinCause} (bytes : List ℕ) → bytes ≡ text
        → IsCut contents between bytes why new
        → SendsJoined name column.delimiter rest_told contents from old to new done taken (Err why)
    joined_cut {new = new} bytes same refused =
        let cut : Cut contents between (records_text column.delimiter (joined_row column.place both ∷ [])) refused.fault
        new = subst (λ t. Cut contents between t refused.fault new) (same ∙ own) refused.cut in
        let whole = row_more column.delimiter column.place (sent.header ∷ []) sent.joined both in
        rw refused.told_as (record {
          text = text_so_far ++ cut.front;
          header = sent.header ∷ [];
          place = column.place;
          here = [];
          part = record {
            whole = sent.joined;
            later = both ∷ [];
            bytes = sent.bytes ++ one.blob.gives.front;
            left = cut.rest;
            blobs = one_read;
            begins = consumes_begins (rest_of from) (rest_of to) (sent.bytes ++ one.blob.gives.front)
                (used_join sent.used one.blob.gives.used).consumed;
            cut = sym whole ∙ ap (λ t. text_so_far ++ t) cut.whole ∙ sym (append_assoc text_so_far cut.front cut.rest);
            one = inr (both, refl, cut.left sent.unspent);
            holds = inr (cut.front, refl);
          };
          headed = fits_as (sent.joined ++ both ∷ []) fits_both;
          records = subst (λ (rs : List Record). IfSome rest_told (λ bytes. BeginWith column.delimiter bytes rs))
              (sym (append-nil (sent.header ∷ rows_of (sent.joined ++ both ∷ []))))
              (given_begins column.delimiter remaining rest_told (sent.header ∷ rows_of (sent.joined ++ both ∷ []))
              after given_both);
          count = sent.count;
          takes = record {
            front = sent.bytes;
            rest = one.blob.gives.front;
            cut = refl;
            blobs = sent.blobs;
            taken_is = all_taken;
          };
          failed = is_device refused.fault;
          leaves = left_refused (refused_join contents old between new _ cut.front refused.fault sent.took cut.refused);
          open_still = put_refused refused.fault _;
          read_failed = false;
          follows = follows_on sent.follows one.blob.follows;
          writes = put_writes refused.fault;
          reads = λ quiet. put_reads refused.fault;
          ends = (
            put_explained
                (λ trees. joined_text column.delimiter column.place (sent.header ∷ []) (sent.joined ++ both ∷ []))
                (limits_of from) (rest_of from) (told_of to) (sent.bytes ++ one.blob.gives.front)
                (text_so_far ++ cut.front) refused.fault (blobs_of sent.joined) (both.blob ∷ []) cut.rest
                (λ e. (let far = cut.too_long e in
                omega (
                  arith,
                  far,
                  sent.unsent,
                  sent.took.sends.sent,
                  ap length whole,
                  length-append text_so_far (records_text column.delimiter (joined_row column.place both ∷ [])),
                )))
                (cut.unspent sent.unspent),
            λ is. absurd (cc is),
          );
        })

-- the delimiter of the column is that of the rest
pub at_delimiter : {R W : Type 0} {read : Ghosts R} {name : List ℕ} {d e : ℕ} {rest_told : Option (List ℕ)}
    {contents : W → Option (List ℕ)} {from to : Reader R read} {old new : Output W} {done taken : ℕ}
    {answer : Result (Unit {0}) JoinCause} → d ≡ e
    → SendsJoined name d rest_told contents from old to new done taken answer
    → SendsJoined name e rest_told contents from old to new done taken answer
at_delimiter {name = name} {rest_told = rest_told} {contents = contents} {from = from} {to = to} {old = old}
    {new = new} {done = done} {taken = taken} {answer = answer} same sends =
    subst (λ (k : ℕ). SendsJoined name k rest_told contents from old to new done taken answer) same sends
