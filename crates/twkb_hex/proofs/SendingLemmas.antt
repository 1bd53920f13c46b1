-- The sending of records, up to each place where it ends.
use Rattle.std.proofs.Common.{◌≡◌, ◌∙◌, ℕ, List, [], ◌∷◌, ◌++◌, Option, false, Ok, Err}
use Rattle.std.proofs.Common.{ap, refl, sym, subst, inl, inr, arith, length, length-append, ◌+◌}
use Rattle.std.proofs.Common.{◌-◌, ◌<◌, ◌≤◌, ◌^◌, suc}
use Rattle.std.specs.Prelude.{IfSome, ◌⊎◌, ◌≢◌}
use Rattle.std.specs.Borrow.{MutBor}
use Rattle.std.proofs.lemmas.List.{append-nil}
use Rattle.std.proofs.lemmas.Grind.{flat_map-append}
use Rattle.csv.specs.Writing.{row_text}
use Rattle.csv.specs.declared.reader.Reader.{Reader}
use Rattle.twkb_io.specs.declared.TheConstants.{MAX_BYTES}
use Rattle.twkb_io.specs.declared.output.OutFault.{OutFault}
use Rattle.twkb_io.specs.declared.output.OutFault.TheVariants as out
use Rattle.twkb_io.specs.declared.output.Output.{Output}
use Rattle.twkb_io.specs.declared.tap.Tap.{Tap}
use Rattle.twkb_io.specs.Outputs.{Cut, Took, refused_join, sent_of, took_join, took_nothing}
use Rattle.twkb_csv.specs.Named.{Record}
use Rattle.twkb_hex.specs.Causes.{cause_of_output, is_write}
use Rattle.twkb_hex.specs.Fields.{Packed, Unpacked, Way, delimiter_of, name_of}
use Rattle.twkb_hex.specs.Records.{BeginWith, HasGiven, ReadsNext, text_of, written_with}
use Rattle.twkb_hex.specs.Refusals.{IsHeldBack}
use Rattle.twkb_hex.specs.Results.{ExplainsCause, FrontOfRecords, Sends}
use Rattle.twkb_hex.specs.Rows.{Become, Converts, RefusesRow, RowBecomes}
use Rattle.twkb_hex.specs.Sending.{FindsHeader, IsFresh, MakesRow, MissesHeader, MissesRow, StandsAt}
use Rattle.twkb_hex.specs.declared.packing.Packing.{Packing}
use Rattle.twkb_hex.specs.declared.packing.Unpacking.{Unpacking}
use Rattle.twkb_hex.specs.declared.report.HexCause.{HexCause}
use Rattle.twkb_hex.specs.declared.report.HexCause.TheVariants as cause
use Rattle.twkb_tree.specs.Limits.{Allowance}
use Rattle.twkb_hex.proofs.FlushLemmas.{leaves_refused, leaves_took}
use Rattle.twkb_hex.proofs.RecordLemmas.{given_begins}

-- ==== Records and what they become.

pub become-length : (way : Way) (place width : ℕ) (rows news : List Record) → Become way place width rows news
    → length rows ≡ length news
unfolding Become
become-length way place width [] [] b = refl
become-length way place width [] (n ∷ ns) b = absurd b
become-length way place width (r ∷ rs) [] b = absurd b
become-length way place width (r ∷ rs) (n ∷ ns) b = ap suc (become-length way place width rs ns b.1)

pub become-more : (way : Way) (place width : ℕ) (rows news : List Record) (row new : Record)
    → Become way place width rows news → RowBecomes way place width row new
    → Become way place width (rows ++ row ∷ []) (news ++ new ∷ [])
unfolding Become
become-more way place width [] [] row new b one = (one, tt)
become-more way place width [] (n ∷ ns) row new b one = absurd b
become-more way place width (r ∷ rs) [] row new b one = absurd b
become-more way place width (r ∷ rs) (n ∷ ns) row new b one = (b.0, become-more way place width rs ns row new b.1 one)

pub become-none : (way : Way) (place width : ℕ) → Become way place width [] []
unfolding Become
become-none way place width = tt

pub text-append : (d : ℕ) (xs ys : List Record) → text_of d (xs ++ ys) ≡ text_of d xs ++ text_of d ys
text-append d xs ys = flat_map-append (row_text (written_with d)) xs ys

-- at most one record is held back
one_held : (way : Way) (whole held : List Record) → IsHeldBack way whole held
    → (held ≡ []) ⊎ ((last : Record) × (held ≡ last ∷ []))
one_held (Packed p l) whole held (inl (few, none)) = inl none
one_held (Packed p l) whole held (inr (some, one)) = inr one
one_held (Unpacked u l) whole held none = inl none

empty_of : (xs : List ℕ) → length xs ≡ 0 → xs ≡ []
empty_of [] none = refl
empty_of (x ∷ xs) none = absurd (omega (arith, none))

-- no list is left of none
none_left : (xs ys : List ℕ) → [] ≡ xs ++ ys → ys ≡ []
none_left [] ys is = sym is
none_left (x ∷ xs) ys is = cc is

-- what is sent, if one more text is refused
module _ {W : Type 0} (way : Way) (contents : W → Option (List ℕ)) (told : Option (List ℕ))
    {first output new : Output W} {f : OutFault} (done : ℕ) (before whole : List Record) (last : Record)
    (begins : IfSome told (λ text. BeginWith (delimiter_of way) text (before ++ [])))
    (converts : Converts way before (whole ++ last ∷ []))
    (took : Took contents first (text_of (delimiter_of way) whole) output) (fresh : IsFresh first)
    (count : done ≡ length whole)
    (cut : Cut contents output (text_of (delimiter_of way) (last ∷ [])) f new)
    (untouched : f ≡ out.TooLong → sent_of new ≡ sent_of output) where
  abbrev cut_part : FrontOfRecords way told (text_of (delimiter_of way) whole ++ cut.front)
  cut_part = record {
    before = before;
    here = [];
    begins = begins;
    whole = whole;
    later = last ∷ [];
    held = [];
    converts = converts;
    front = cut.front;
    left = cut.rest;
    cut = cut.whole;
    written = refl;
    one = inr (last, refl, cut.left (took.spent ∙ fresh.0));
  }

  no_front : f ≡ out.TooLong → cut.front ≡ []
  no_front far = empty_of cut.front (let more = cut.refused.sends.sent in omega (arith, more, untouched far))

  too_long : f ≡ out.TooLong → MAX_BYTES < length (text_of (delimiter_of way) (whole ++ last ∷ []))
  too_long far = let most = cut.too_long far in let sent = took.sends.sent in omega (
    arith,
    most,
    sent,
    fresh.1,
    ap length (text-append (delimiter_of way) whole (last ∷ [])),
    length-append (text_of (delimiter_of way) whole) (text_of (delimiter_of way) (last ∷ [])),
  )

  cut_explains : (g : OutFault) → f ≡ g → g ≢ out.Spent
      → ExplainsCause way told (text_of (delimiter_of way) whole ++ cut.front) (cause_of_output g) cut_part
  cut_explains out.TooLong is unspent = (no_front is, inl (too_long is))
  cut_explains out.Spent is unspent = absurd (unspent refl)
  cut_explains out.Write is unspent = tt
  cut_explains out.Stuck is unspent = tt

  pub sends_cut : Sends way contents told first new done (Err (cause_of_output f))
  sends_cut = record {
    bytes = text_of (delimiter_of way) whole ++ cut.front;
    leaves = leaves_refused (refused_join contents first output new _ cut.front f took cut.refused);
    ends = (cut_part, count, cut_explains f refl (cut.unspent (took.spent ∙ fresh.0)));
  }

-- ==== The header.

-- nothing was sent
abbrev none_part : (way : Way) (told : Option (List ℕ)) (here : List Record)
    → IfSome told (λ text. BeginWith (delimiter_of way) text here) → FrontOfRecords way told []
none_part way told here begins = record {
  before = [];
  here = here;
  begins = begins;
  whole = [];
  later = [];
  held = [];
  converts = tt;
  front = [];
  left = [];
  cut = refl;
  written = refl;
  one = inl refl;
}

-- nothing is held back of nothing
none_held : (way : Way) → IsHeldBack way [] []
none_held (Packed p l) = inl (omega arith, refl)
none_held (Unpacked u l) = refl

-- the header is not held back
header_held : (way : Way) (header : Record) → IsHeldBack way (header ∷ []) []
header_held (Packed p l) header = inl (omega arith, refl)
header_held (Unpacked u l) header = refl

none_sent : {W : Type 0} (way : Way) (contents : W → Option (List ℕ)) (told : Option (List ℕ)) (first : Output W)
    → IsFresh first → (why : HexCause) (here : List Record)
    (begins : IfSome told (λ text. BeginWith (delimiter_of way) text here))
    → is_write {A = Unit {0}} (Err why) ≡ false → ExplainsCause way told [] why (none_part way told here begins)
    → Sends way contents told first first 0 (Err why)
none_sent way contents told first fresh why here begins quiet explains = record {
  bytes = [];
  leaves = leaves_took (Err why) (took_nothing contents first) fresh.0 quiet;
  ends = (none_part way told here begins, refl, explains);
}

module _ {R W : Type 0} (way : Way) (remaining : R → Option (List ℕ)) (contents : W → Option (List ℕ))
    (told : Option (List ℕ)) (csv : Reader (MutBor (Tap R))) (first : Output W)
    (given : HasGiven (delimiter_of way) remaining told [] csv) (fresh : IsFresh first) where
  -- there is no header
  pub misses_header : (to : Reader (MutBor (Tap R))) (why : HexCause) → MissesHeader (name_of way) remaining csv why to
      → Sends way contents told first first 0 (Err why)
  misses_header to why (inl is) =
      rw is (none_sent way contents told first fresh cause.ReadDevice [] (given_begins (delimiter_of way) remaining
      told [] csv given) refl refl)
  misses_header to why (inr (inl (ended, is))) =
      rw is (none_sent way contents told first fresh (cause.Record 1 _) [] (given_begins (delimiter_of way)
      remaining told [] csv given) refl
      (refl, refl, inl (refl, refl, refl, refl, ended (delimiter_of way) told [] given), none_held way))
  misses_header to why (inr (inr (header, reads, inl is))) =
      rw is (none_sent way contents told first fresh cause.Memory (header ∷ [])
      (given_begins (delimiter_of way) remaining told (header ∷ []) to (reads (delimiter_of way) told [] given))
      refl refl)
  misses_header to why (inr (inr (header, reads, inr (because, is, refused)))) =
      rw is (none_sent way contents told first fresh (cause.Record 1 because) (header ∷ [])
      (given_begins (delimiter_of way) remaining told (header ∷ []) to (reads (delimiter_of way) told [] given)) refl (
        refl,
        refl,
        inr (inl (record { header = header; first = refl; alone = refl; place = refl; refused = refused })),
        none_held way,
      ))

  module _ {to : Reader (MutBor (Tap R))} {place : ℕ} {header : Record} {text : List ℕ}
      (finds : FindsHeader (name_of way) (delimiter_of way) remaining csv place header text to) where
    header_given : HasGiven (delimiter_of way) remaining told (header ∷ []) to
    header_given = finds.reads (delimiter_of way) told [] given

    header_converts : Converts way (header ∷ []) (header ∷ [])
    header_converts = (refl, (place, finds.found, become-none way place (length header)))

    -- the header was sent
    pub header_sent : {new : Output W} (bytes : List ℕ) → bytes ≡ text → Took contents first bytes new
        → (width : ℕ) (waiting : List ℕ) → width ≡ length header → waiting ≡ []
        → StandsAt way place width remaining contents told to first new 2 1 waiting
    header_sent {new = new} bytes same took width waiting wide none = record {
      header = header;
      rows = [];
      given = header_given;
      found = finds.found;
      width_is = sym wide;
      news = [];
      become = become-none way place width;
      sent = header ∷ [];
      held = [];
      parts = refl;
      held_back = header_held way header;
      took = subst (λ t. Took contents first t new) (same ∙ finds.own) took;
      text = none;
      fresh = fresh;
      number_is = refl;
      count = refl;
    }

    -- the output refused the header
    pub header_cut : {new : Output W} {f : OutFault} (bytes : List ℕ) → bytes ≡ text
        → Cut contents first bytes f new
        → (f ≡ out.TooLong → sent_of new ≡ sent_of first)
        → Sends way contents told first new 0 (Err (cause_of_output f))
    header_cut {new = new} {f = f} bytes same cut untouched = sends_cut way contents told 0 (header ∷ []) [] header
        (given_begins (delimiter_of way) remaining told (header ∷ []) to header_given) header_converts
        (took_nothing contents first) fresh refl (subst (λ t. Cut contents first t f new) (same ∙ finds.own) cut)
        untouched

-- ==== The records after the header.

module _ {R W : Type 0} {way : Way} {place width : ℕ} {remaining : R → Option (List ℕ)}
    {contents : W → Option (List ℕ)} {told : Option (List ℕ)} {csv : Reader (MutBor (Tap R))}
    {first output : Output W} {number done : ℕ} {waiting : List ℕ}
    (s : StandsAt way place width remaining contents told csv first output number done waiting) where
  abbrev seen : List Record
  seen = s.header ∷ s.rows

  begun : IfSome told (λ text. BeginWith (delimiter_of way) text (seen ++ []))
  begun = subst (λ (rs : List Record). IfSome told (λ text. BeginWith (delimiter_of way) text rs))
      (sym (append-nil seen))
      (given_begins (delimiter_of way) remaining told seen csv s.given)

  all_converts : Converts way seen (s.header ∷ s.news)
  all_converts = (
    refl,
    (place, s.found, subst (λ (w : ℕ). Become way place w s.rows s.news) (sym s.width_is) s.become),
  )

  converts : Converts way seen (s.sent ++ s.held)
  converts = subst (Converts way seen) s.parts all_converts

  abbrev part : (here : List Record) → IfSome told (λ text. BeginWith (delimiter_of way) text (seen ++ here))
      → FrontOfRecords way told (text_of (delimiter_of way) s.sent)
  part here begins = record {
    before = seen;
    here = here;
    begins = begins;
    whole = s.sent;
    later = [];
    held = s.held;
    converts = converts;
    front = [];
    left = [];
    cut = refl;
    written = sym (append-nil (text_of (delimiter_of way) s.sent));
    one = inl refl;
  }

  -- no more was sent, for this cause
  stops : (why : HexCause) (here : List Record)
      (begins : IfSome told (λ text. BeginWith (delimiter_of way) text (seen ++ here)))
      → is_write {A = Unit {0}} (Err why) ≡ false
      → ExplainsCause way told (text_of (delimiter_of way) s.sent) why (part here begins)
      → Sends way contents told first output done (Err why)
  stops why here begins quiet explains = record {
    bytes = text_of (delimiter_of way) s.sent;
    leaves = leaves_took (Err why) s.took s.fresh.0 quiet;
    ends = (part here begins, s.count, explains);
  }

  -- the text of the next record was not made
  pub misses_row : (to : Reader (MutBor (Tap R))) (why : HexCause) → MissesRow way place width number remaining csv
      why to
      → Sends way contents told first output done (Err why)
  misses_row to why (inl is) = rw is (stops cause.ReadDevice [] begun refl refl)
  misses_row to why (inr (row, reads, inl is)) = rw is (stops cause.Memory (row ∷ [])
      (given_begins (delimiter_of way) remaining told (seen ++ row ∷ []) to (reads (delimiter_of way) told seen
      s.given))
      refl refl)
  misses_row to why (inr (row, reads, inr (because, is, refused))) =
      rw is (stops (cause.Record number because) (row ∷ [])
      (given_begins (delimiter_of way) remaining told (seen ++ row ∷ []) to (reads (delimiter_of way) told seen
      s.given))
      refl (
        refl,
        refl,
        inr (inr (record {
          header = s.header;
          rows = s.rows;
          row = row;
          column = place;
          first = refl;
          found = s.found;
          alone = refl;
          place = (let n = s.number_is in omega (arith, n));
          refused = subst (λ (w : ℕ). RefusesRow way place w row because) (sym s.width_is) refused;
        })),
        s.held_back,
      ))

  -- the output refused the text that waits
  pub waiting_cut : {new : Output W} {f : OutFault} (bytes : List ℕ) → bytes ≡ waiting
      → Cut contents output bytes f new
      → (f ≡ out.TooLong → sent_of new ≡ sent_of output)
      → Sends way contents told first new done (Err (cause_of_output f))
  waiting_cut {new = new} {f = f} bytes same cut untouched = go (one_held way s.sent s.held s.held_back)
    where
      go : (s.held ≡ []) ⊎ ((last : Record) × (s.held ≡ last ∷ []))
          → Sends way contents told first new done (Err (cause_of_output f))
      go (inl none) =
          let nothing : bytes ≡ [] = same ∙ s.text ∙ ap (text_of (delimiter_of way)) none in
          absurd (cut.left (s.took.spent ∙ s.fresh.0) (none_left cut.front cut.rest (sym nothing ∙ cut.whole)))
      go (inr (last, is)) = sends_cut way contents told done seen s.sent last begun
          (subst (λ (h : List Record). Converts way seen (s.sent ++ h)) is converts) s.took s.fresh s.count
          (subst (λ t. Cut contents output t f new) (same ∙ s.text ∙ ap (text_of (delimiter_of way)) is) cut) untouched

  module _ {new : Output W} (bytes : List ℕ) (same : bytes ≡ waiting) (took : Took contents output bytes new) where
    -- what waited was sent
    all_took : Took contents first (text_of (delimiter_of way) (s.header ∷ s.news)) new
    all_took = subst (λ t. Took contents first t new)
        (ap (λ (t : List ℕ). text_of (delimiter_of way) s.sent ++ t) (same ∙ s.text)
        ∙ sym (text-append (delimiter_of way) s.sent s.held) ∙ ap (text_of (delimiter_of way)) (sym s.parts))
        (took_join contents first output new _ _ s.took took)

    -- all records were read
    pub ends_all : (to : Reader (MutBor (Tap R))) (after : ℕ) → after ≡ number - 1 → ReadsNext remaining csv false [] to
        → Sends way contents told first new after (Ok tt)
    ends_all to after less ended = record {
      bytes = text_of (delimiter_of way) (s.header ∷ s.news);
      leaves = leaves_took (Ok tt) all_took s.fresh.0 refl;
      ends = (
        record {
          header = s.header;
          rows = s.rows;
          all = ended (delimiter_of way) told seen s.given;
          become = s.header ∷ s.news;
          converts = all_converts;
        },
        refl,
        (let n = s.number_is in omega (arith, less, n, become-length way place width s.rows s.news s.become)),
      );
    }

    -- one more record waits
    pub next_waits : (to : Reader (MutBor (Tap R))) (p : Packing) (l : Allowance) → way ≡ Packed p l
        → (after next : ℕ) (text moved : List ℕ) → after ≡ number - 1 → next ≡ number + 1
        → MakesRow way place width remaining csv text to → moved ≡ text
        → StandsAt way place width remaining contents told to first new next after moved
    next_waits to p l is after next text moved less more makes own = record {
      header = s.header;
      rows = s.rows ++ makes.row ∷ [];
      given = makes.reads (delimiter_of way) told seen s.given;
      found = s.found;
      width_is = s.width_is;
      news = s.news ++ makes.made.0 ∷ [];
      become = become-more way place width s.rows s.news makes.row makes.made.0 s.become makes.made.1;
      sent = s.header ∷ s.news;
      held = makes.made.0 ∷ [];
      parts = refl;
      held_back = subst (λ w. IsHeldBack w (s.header ∷ s.news) (makes.made.0 ∷ [])) (sym is)
          (inr (omega arith, (makes.made.0, refl)));
      took = all_took;
      text = own ∙ makes.made.2;
      fresh = s.fresh;
      number_is = (let n = s.number_is in omega (arith, more, n, length-append s.rows (makes.row ∷ [])));
      count = (let n = s.number_is in omega (arith, less, n, become-length way place width s.rows s.news s.become));
    }

  -- there are too many records to count
  pub too_many : 2 ^ 64 - 1 ≤ number → Sends way contents told first output done (Err cause.TooLong)
  too_many far = stops cause.TooLong [] begun refl
      (refl, inr (let n = s.number_is in omega (arith, far, n)))

-- ==== The records after the header, each sent before the next one is read.

module _ {R W : Type 0} {u : Unpacking} {l : Allowance} {place width : ℕ} {remaining : R → Option (List ℕ)}
    {contents : W → Option (List ℕ)} {told : Option (List ℕ)} {csv : Reader (MutBor (Tap R))}
    {first output : Output W} {number done : ℕ}
    (s : StandsAt (Unpacked u l) place width remaining contents told csv first output number done []) where
  abbrev way : Way
  way = Unpacked u l

  -- all was sent
  all_sent : s.sent ≡ s.header ∷ s.news
  all_sent = sym (s.parts ∙ ap (λ (h : List Record). s.sent ++ h) s.held_back ∙ append-nil s.sent)

  sent_took : Took contents first (text_of (delimiter_of way) (s.header ∷ s.news)) output
  sent_took = subst (λ (rs : List Record). Took contents first (text_of (delimiter_of way) rs) output) all_sent s.took

  sent_count : done ≡ length (s.header ∷ s.news)
  sent_count = s.count ∙ ap (λ (rs : List Record). length rs) all_sent

  -- all records were read
  pub ends_sent : (to : Reader (MutBor (Tap R))) → ReadsNext remaining csv false [] to
      → Sends way contents told first output done (Ok tt)
  ends_sent to ended = record {
    bytes = text_of (delimiter_of way) (s.header ∷ s.news);
    leaves = leaves_took (Ok tt) sent_took s.fresh.0 refl;
    ends = (
      record {
        header = s.header;
        rows = s.rows;
        all = ended (delimiter_of way) told (seen s) s.given;
        become = s.header ∷ s.news;
        converts = all_converts s;
      },
      refl,
      sent_count,
    );
  }

  module _ {to : Reader (MutBor (Tap R))} {text : List ℕ}
      (makes : MakesRow way place width remaining csv text to) where
    abbrev rows_now : List Record
    rows_now = s.rows ++ makes.row ∷ []

    abbrev news_now : List Record
    news_now = s.news ++ makes.made.0 ∷ []

    given_now : HasGiven (delimiter_of way) remaining told (s.header ∷ rows_now) to
    given_now = makes.reads (delimiter_of way) told (seen s) s.given

    become_now : Become way place width rows_now news_now
    become_now = become-more way place width s.rows s.news makes.row makes.made.0 s.become makes.made.1

    -- the text of one more record was sent
    pub next_sent : {new : Output W} (bytes : List ℕ) → bytes ≡ text → Took contents output bytes new
        → (next : ℕ) → next ≡ number + 1
        → StandsAt way place width remaining contents told to first new next number []
    next_sent {new = new} bytes same took next more = record {
      header = s.header;
      rows = rows_now;
      given = given_now;
      found = s.found;
      width_is = s.width_is;
      news = news_now;
      become = become_now;
      sent = s.header ∷ news_now;
      held = [];
      parts = sym (append-nil (s.header ∷ news_now));
      held_back = refl;
      took = subst (λ t. Took contents first t new)
          (ap (λ (t : List ℕ). text_of (delimiter_of way) (s.header ∷ s.news) ++ t) (same ∙ makes.made.2)
          ∙ sym (text-append (delimiter_of way) (s.header ∷ s.news) (makes.made.0 ∷ [])))
          (took_join contents first output new _ _ sent_took took);
      text = refl;
      fresh = s.fresh;
      number_is = (let n = s.number_is in omega (arith, more, n, length-append s.rows (makes.row ∷ [])));
      count = (let n = s.number_is in omega (
        arith,
        n,
        become-length way place width s.rows s.news s.become,
        length-append s.news (makes.made.0 ∷ []),
      ));
    }

    -- the output refused the text of one more record
    pub next_cut : {new : Output W} {f : OutFault} (bytes : List ℕ) → bytes ≡ text
        → Cut contents output bytes f new → (f ≡ out.TooLong → sent_of new ≡ sent_of output)
        → Sends way contents told first new done (Err (cause_of_output f))
    next_cut {new = new} {f = f} bytes same cut untouched = sends_cut way contents told done (s.header ∷ rows_now)
        (s.header ∷ s.news) makes.made.0
        (subst (λ (rs : List Record). IfSome told (λ text. BeginWith (delimiter_of way) text rs))
        (sym (append-nil (s.header ∷ rows_now)))
        (given_begins (delimiter_of way) remaining told (s.header ∷ rows_now) to given_now)) (
          refl,
          (
            place,
            s.found,
            subst (λ (w : ℕ). Become way place w rows_now news_now) (sym s.width_is) become_now,
          ),
        )
        sent_took s.fresh sent_count
        (subst (λ t. Cut contents output t f new) (same ∙ makes.made.2) cut) untouched
