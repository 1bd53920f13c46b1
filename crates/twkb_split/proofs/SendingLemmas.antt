-- The sending of pieces, up to each place where it ends.
use Rattle.std.proofs.Common.{◌≡◌, ◌∙◌, ℕ, List, [], ◌∷◌, ◌++◌, Option, true, false, Ok, Err}
use Rattle.std.proofs.Common.{ap, refl, sym, subst, inl, inr, arith, length, length-append, ◌+◌}
use Rattle.std.proofs.Common.{◌-◌, ◌<◌, ◌≤◌, ◌^◌, suc}
use Rattle.std.specs.Prelude.{IfSome, ◌⊎◌, ◌≢◌}
use Rattle.std.specs.Borrow.{MutBor}
use Rattle.std.proofs.lemmas.List.{append-nil}
use Rattle.std.proofs.lemmas.Grind.{flat_map-append}
use Rattle.csv.specs.Writing.{row_text}
use Rattle.csv.specs.declared.reader.Reader.{Reader}
use Rattle.twkb_io.specs.declared.TheConstants.{MAX_BYTES}
use Rattle.twkb_io.specs.declared.output.OutFault.{OutFault}
use Rattle.twkb_io.specs.declared.output.OutFault.TheVariants as out
use Rattle.twkb_io.specs.declared.output.Output.{Output}
use Rattle.twkb_io.specs.declared.tap.Tap.{Tap}
use Rattle.twkb_io.specs.Outputs.{Cut, Took, is_device, refused_join, sent_of, took_join, took_nothing}
use Rattle.twkb_csv.specs.Named.{Record}
use Rattle.twkb_convert.specs.declared.report.Cause.TheVariants as cause
use Rattle.twkb_column.specs.declared.fault.ColumnCause.{ColumnCause}
use Rattle.twkb_column.specs.declared.fault.ColumnCause.TheVariants.{Csv, Pack}
use Rattle.twkb_column.specs.declared.fault.ColumnReason.TheVariants as column
use Rattle.twkb_table.specs.declared.numbered_records.TheConstants.{RECORD_CAP}
use Rattle.twkb_records.proofs.RecordLemmas.{given_begins}
use Rattle.twkb_records.specs.Records.{BeginWith, HasGiven, ReadsNext, written_with}
use Rattle.twkb_records.specs.declared.line.LineFault.TheVariants as line
use Rattle.twkb_split.proofs.OutputLemmas.{blobs_tell, left_refused, left_took, no_read, put_refused, refusal_tells}
use Rattle.twkb_split.proofs.OutputLemmas.{rest_tells}
use Rattle.twkb_split.specs.Causes.{cause_of_output, is_write, refused_at}
use Rattle.twkb_split.specs.Pieces.{Become, Becomes, Piece, RefusesRow, Splits, header_piece, rest_text, stream_of}
use Rattle.twkb_split.specs.Refusals.{IsHeldBack}
use Rattle.twkb_split.specs.Results.{ExplainsCause, FrontOfPieces, IsRefused}
use Rattle.twkb_split.specs.Sending.{FindsHeader, IsCut, IsFresh, IsPieceCut, MakesPiece, MissesHeader, MissesRow}
use Rattle.twkb_split.specs.Sending.{Sends, StandsAt}
use Rattle.twkb_split.specs.declared.causes.RecordReason.{RecordReason}
use Rattle.twkb_split.specs.declared.causes.RecordReason.TheVariants as reason
use Rattle.twkb_split.specs.declared.packing.Packing.{Packing}

-- ==== Records and what they become.

pub become-length : (p : Packing) (place width : ℕ) (rows : List Record) (news : List Piece)
    → Become p place width rows news → length rows ≡ length news
unfolding Become
become-length p place width [] [] b = refl
become-length p place width [] (n ∷ ns) b = absurd b
become-length p place width (r ∷ rs) [] b = absurd b
become-length p place width (r ∷ rs) (n ∷ ns) b = ap suc (become-length p place width rs ns b.1)

pub become-more : (p : Packing) (place width : ℕ) (rows : List Record) (news : List Piece) (row : Record) (new : Piece)
    → Become p place width rows news → Becomes p place width row new
    → Become p place width (rows ++ row ∷ []) (news ++ new ∷ [])
unfolding Become
become-more p place width [] [] row new b one = (one, tt)
become-more p place width [] (n ∷ ns) row new b one = absurd b
become-more p place width (r ∷ rs) [] row new b one = absurd b
become-more p place width (r ∷ rs) (n ∷ ns) row new b one = (b.0, become-more p place width rs ns row new b.1 one)

pub become-none : (p : Packing) (place width : ℕ) → Become p place width [] []
unfolding Become
become-none p place width = tt

pub text-append : (d : ℕ) (xs ys : List Piece) → rest_text d (xs ++ ys) ≡ rest_text d xs ++ rest_text d ys
text-append d xs ys = flat_map-append (λ (piece : Piece). row_text (written_with d) piece.row) xs ys

pub stream-append : (xs ys : List Piece) → stream_of (xs ++ ys) ≡ stream_of xs ++ stream_of ys
stream-append xs ys = flat_map-append (λ (piece : Piece). piece.blob) xs ys

-- at most one piece is held back
one_held : (whole held : List Piece) → IsHeldBack whole held → (held ≡ []) ⊎ ((last : Piece) × (held ≡ last ∷ []))
one_held whole held (inl (few, none)) = inl none
one_held whole held (inr (some, one)) = inr one

empty_of : (xs : List ℕ) → length xs ≡ 0 → xs ≡ []
empty_of [] none = refl
empty_of (x ∷ xs) none = absurd (omega (arith, none))

-- no list is left of none
none_left : (xs ys : List ℕ) → [] ≡ xs ++ ys → ys ≡ []
none_left [] ys is = sym is
none_left (x ∷ xs) ys is = cc is

-- what is sent, if one more piece is not put whole
module _ {W V : Type 0} (p : Packing) (contents : W → Option (List ℕ)) (rest_contents : V → Option (List ℕ))
    (told : Option (List ℕ)) {first blobs : Output W} {rest_first rest : Output V} {f : OutFault} (done : ℕ)
    (before : List Record) (whole : List Piece) (last : Piece)
    (begins : IfSome told (λ text. BeginWith p.column.delimiter text (before ++ [])))
    (splits : Splits p before (whole ++ last ∷ []))
    (took : Took contents first (stream_of whole) blobs)
    (rest_took : Took rest_contents rest_first (rest_text p.column.delimiter whole) rest)
    (fresh : IsFresh first) (rest_fresh : IsFresh rest_first) (count : done ≡ length whole) where
  -- the record was refused
  module _ {rest_new : Output V} (cut : Cut rest_contents rest (rest_text p.column.delimiter (last ∷ [])) f rest_new)
      (untouched : f ≡ out.TooLong → sent_of rest_new ≡ sent_of rest) where
    abbrev rest_part : FrontOfPieces p told (stream_of whole) (rest_text p.column.delimiter whole ++ cut.front)
    rest_part = record {
      before = before;
      here = [];
      begins = begins;
      whole = whole;
      later = last ∷ [];
      held = [];
      splits = splits;
      blob_front = [];
      blob_left = stream_of (last ∷ []);
      blob_cut = refl;
      blobs_are = sym (append-nil (stream_of whole));
      rest_front = cut.front;
      rest_left = cut.rest;
      rest_cut = cut.whole;
      rest_is = refl;
      one = inr (last, refl, inl (cut.left (rest_took.spent ∙ rest_fresh.0)));
      rest_first = inr refl;
    }

    rest_none : f ≡ out.TooLong → cut.front ≡ []
    rest_none far = empty_of cut.front (let more = cut.refused.sends.sent in omega (arith, more, untouched far))

    rest_long : f ≡ out.TooLong → MAX_BYTES < length (rest_text p.column.delimiter (whole ++ last ∷ []))
    rest_long far = let most = cut.too_long far in let sent = rest_took.sends.sent in omega (
      arith,
      most,
      sent,
      rest_fresh.1,
      ap length (text-append p.column.delimiter whole (last ∷ [])),
      length-append (rest_text p.column.delimiter whole) (rest_text p.column.delimiter (last ∷ [])),
    )

    rest_explains : (g : OutFault) → f ≡ g → g ≢ out.Spent → ExplainsCause (cause_of_output g) rest_part
    rest_explains out.TooLong is unspent = (refl, inl (rest_none is), inr (rest_long is))
    rest_explains out.Spent is unspent = absurd (unspent refl)
    rest_explains out.Write is unspent = tt
    rest_explains out.Stuck is unspent = tt

    pub sends_rest_cut : Sends p contents rest_contents told first blobs rest_first rest_new done
        (Err (cause_of_output f))
    sends_rest_cut = record {
      stream = stream_of whole;
      text = rest_text p.column.delimiter whole ++ cut.front;
      failed = false;
      rest_failed = is_device f;
      left = left_took took;
      rest_left = left_refused
          (refused_join rest_contents rest_first rest rest_new _ cut.front f rest_took cut.refused);
      tells = rest_tells f;
      open_still = put_refused f _;
      ends = (
        (rest_part, count, rest_explains f refl (cut.unspent (rest_took.spent ∙ rest_fresh.0))),
        λ is. no_read f _ is,
      );
    }

  -- the record was put, and its blob was refused
  module _ {rest_new : Output V} {new : Output W} (put : Took rest_contents rest
      (rest_text p.column.delimiter (last ∷ [])) rest_new) (cut : Cut contents blobs (stream_of (last ∷ [])) f new)
      (untouched : f ≡ out.TooLong → sent_of new ≡ sent_of blobs) where
    abbrev blob_part : FrontOfPieces p told (stream_of whole ++ cut.front)
        (rest_text p.column.delimiter whole ++ rest_text p.column.delimiter (last ∷ []))
    blob_part = record {
      before = before;
      here = [];
      begins = begins;
      whole = whole;
      later = last ∷ [];
      held = [];
      splits = splits;
      blob_front = cut.front;
      blob_left = cut.rest;
      blob_cut = cut.whole;
      blobs_are = refl;
      rest_front = rest_text p.column.delimiter (last ∷ []);
      rest_left = [];
      rest_cut = sym (append-nil (rest_text p.column.delimiter (last ∷ [])));
      rest_is = refl;
      one = inr (last, refl, inr (cut.left (took.spent ∙ fresh.0)));
      rest_first = inl refl;
    }

    blob_none : f ≡ out.TooLong → cut.front ≡ []
    blob_none far = empty_of cut.front (let more = cut.refused.sends.sent in omega (arith, more, untouched far))

    blob_long : f ≡ out.TooLong → MAX_BYTES < length (stream_of (whole ++ last ∷ []))
    blob_long far = let most = cut.too_long far in let sent = took.sends.sent in omega (
      arith,
      most,
      sent,
      fresh.1,
      ap length (stream-append whole (last ∷ [])),
      length-append (stream_of whole) (stream_of (last ∷ [])),
    )

    blob_explains : (g : OutFault) → f ≡ g → g ≢ out.Spent → ExplainsCause (cause_of_output g) blob_part
    blob_explains out.TooLong is unspent = (blob_none is, inr refl, inl (blob_long is))
    blob_explains out.Spent is unspent = absurd (unspent refl)
    blob_explains out.Write is unspent = tt
    blob_explains out.Stuck is unspent = tt

    pub sends_blob_cut : Sends p contents rest_contents told first new rest_first rest_new done
        (Err (cause_of_output f))
    sends_blob_cut = record {
      stream = stream_of whole ++ cut.front;
      text = rest_text p.column.delimiter whole ++ rest_text p.column.delimiter (last ∷ []);
      failed = is_device f;
      rest_failed = false;
      left = left_refused (refused_join contents first blobs new _ cut.front f took cut.refused);
      rest_left = left_took (took_join rest_contents rest_first rest rest_new _ _ rest_took put);
      tells = blobs_tell f;
      open_still = put_refused f _;
      ends = (
        (blob_part, count, blob_explains f refl (cut.unspent (took.spent ∙ fresh.0))),
        λ is. no_read f _ is,
      );
    }

-- ==== The header.

-- nothing was sent
abbrev none_part : (p : Packing) (told : Option (List ℕ)) (here : List Record)
    → IfSome told (λ text. BeginWith p.column.delimiter text here) → FrontOfPieces p told [] []
none_part p told here begins = record {
  before = [];
  here = here;
  begins = begins;
  whole = [];
  later = [];
  held = [];
  splits = tt;
  blob_front = [];
  blob_left = [];
  blob_cut = refl;
  blobs_are = refl;
  rest_front = [];
  rest_left = [];
  rest_cut = refl;
  rest_is = refl;
  one = inl refl;
  rest_first = inl refl;
}

-- a refusal explains itself
refusal_explains : {p : Packing} {told : Option (List ℕ)} {stream text : List ℕ} (number : ℕ) (because : RecordReason)
    (part : FrontOfPieces p told stream text) → IsRefused part (refused_at number because)
    → ExplainsCause (refused_at number because) part
refusal_explains number (reason.Csv why) part refused = refused
refusal_explains number (reason.Line line.BadPrecision) part refused = refused
refusal_explains number (reason.Line (line.Polyline offset why)) part refused = refused

module _ {R W V : Type 0} (p : Packing) (remaining : R → Option (List ℕ)) (contents : W → Option (List ℕ))
    (rest_contents : V → Option (List ℕ)) (told : Option (List ℕ)) (csv : Reader (MutBor (Tap R)))
    (first : Output W) (rest_first : Output V) (given : HasGiven p.column.delimiter remaining told [] csv)
    (fresh : IsFresh first) (rest_fresh : IsFresh rest_first) where
  none_sent : (why : ColumnCause) (here : List Record)
      (begins : IfSome told (λ text. BeginWith p.column.delimiter text here))
      → is_write {A = Unit {0}} (Err why) ≡ false → ExplainsCause why (none_part p told here begins)
      → Sends p contents rest_contents told first first rest_first rest_first 0 (Err why)
  none_sent why here begins quiet explains = record {
    stream = [];
    text = [];
    failed = false;
    rest_failed = false;
    left = left_took (took_nothing contents first);
    rest_left = left_took (took_nothing rest_contents rest_first);
    tells = quiet;
    open_still = λ no_write no_length. (fresh.0, rest_fresh.0);
    ends = ((none_part p told here begins, refl, explains), λ is. refl);
  }

  begun_none : IfSome told (λ text. BeginWith p.column.delimiter text [])
  begun_none = given_begins p.column.delimiter remaining told [] csv given

  module _ (to : Reader (MutBor (Tap R))) (header : Record) (reads : ReadsNext remaining csv true header to) where
    given_one : HasGiven p.column.delimiter remaining told (header ∷ []) to
    given_one = reads p.column.delimiter told [] given

    begun_one : IfSome told (λ text. BeginWith p.column.delimiter text (header ∷ []))
    begun_one = given_begins p.column.delimiter remaining told (header ∷ []) to given_one

  -- there is no header
  pub misses_header : (to : Reader (MutBor (Tap R))) (why : ColumnCause)
      → MissesHeader p.column.name.now remaining csv why to
      → Sends p contents rest_contents told first first rest_first rest_first 0 (Err why)
  misses_header to why (inl is) = rw is (none_sent (Pack cause.ReadDevice) [] begun_none refl (inl refl))
  misses_header to why (inr (inl (ended, is))) =
      rw is (none_sent (Csv 1 column.NoSuchColumn) [] begun_none refl (
        refl,
        record {
          number = 1;
          because = reason.Csv column.NoSuchColumn;
          told_as = refl;
          refused = inl (refl, refl, refl, refl, ended p.column.delimiter told [] given);
        },
        inl (omega arith, refl),
      ))
  misses_header to why (inr (inr (header, reads, inl is))) =
      rw is (none_sent (Pack cause.Memory) (header ∷ []) (begun_one to header reads) refl refl)
  misses_header to why (inr (inr (header, reads, inr (because, is, refused)))) =
      rw is (none_sent (refused_at 1 because) (header ∷ []) (begun_one to header reads) (refusal_tells 1 because)
      (refusal_explains 1 because (none_part p told (header ∷ []) (begun_one to header reads)) (
        refl,
        record {
          number = 1;
          because = because;
          told_as = refl;
          refused = inr (inl (record {
            header = header;
            first = refl;
            alone = refl;
            place = refl;
            refused = refused;
          }));
        },
        inl (omega arith, refl),
      )))

  module _ {to : Reader (MutBor (Tap R))} {place : ℕ} {header : Record} {text : List ℕ}
      (finds : FindsHeader p.column.name.now p.column.delimiter remaining csv place header text to) where
    header_splits : Splits p (header ∷ []) (header_piece header ∷ [])
    header_splits = (refl, (place, finds.found, become-none p place (length header)))

    -- the header was sent
    pub header_sent : {rest_new : Output V} (bytes : List ℕ) → bytes ≡ text
        → Took rest_contents rest_first bytes rest_new → (width : ℕ) (waiting blob : List ℕ) → width ≡ length header
        → waiting ≡ [] → blob ≡ []
        → StandsAt p place width remaining contents rest_contents told to first first rest_first rest_new 2 1 waiting
        blob
    header_sent {rest_new = rest_new} bytes same took width waiting blob wide none no_blob = record {
      header = header;
      rows = [];
      given = given_one to header finds.reads;
      found = finds.found;
      width_is = sym wide;
      news = [];
      become = become-none p place width;
      sent = header_piece header ∷ [];
      held = [];
      parts = refl;
      held_back = inl (omega arith, refl);
      took = took_nothing contents first;
      rest_took = subst (λ t. Took rest_contents rest_first t rest_new) (same ∙ finds.own) took;
      text_is = none;
      blob_is = no_blob;
      fresh = fresh;
      rest_fresh = rest_fresh;
      number_is = refl;
      count = refl;
    }

    -- the rest refused the header
    pub header_cut : {rest_new : Output V} {why : ColumnCause} (bytes : List ℕ) → bytes ≡ text
        → IsCut rest_contents rest_first bytes why rest_new
        → Sends p contents rest_contents told first first rest_first rest_new 0 (Err why)
    header_cut {rest_new = rest_new} {why = why} bytes same cut = rw cut.told_as (sends_rest_cut p contents
        rest_contents told 0 (header ∷ []) [] (header_piece header) (begun_one to header finds.reads) header_splits
        (took_nothing contents first) (took_nothing rest_contents rest_first) fresh rest_fresh refl
        (subst (λ t. Cut rest_contents rest_first t cut.fault rest_new) (same ∙ finds.own) cut.cut) cut.untouched)

-- ==== The records after the header.

module _ {R W V : Type 0} {p : Packing} {place width : ℕ} {remaining : R → Option (List ℕ)}
    {contents : W → Option (List ℕ)} {rest_contents : V → Option (List ℕ)} {told : Option (List ℕ)}
    {csv : Reader (MutBor (Tap R))} {first blobs : Output W} {rest_first rest : Output V} {number done : ℕ}
    {text blob : List ℕ} (s : StandsAt p place width remaining contents rest_contents told csv first blobs rest_first
    rest number done text blob) where
  abbrev seen : List Record
  seen = s.header ∷ s.rows

  begun : IfSome told (λ text. BeginWith p.column.delimiter text (seen ++ []))
  begun = subst (λ (rs : List Record). IfSome told (λ text. BeginWith p.column.delimiter text rs))
      (sym (append-nil seen)) (given_begins p.column.delimiter remaining told seen csv s.given)

  all_split : Splits p seen (header_piece s.header ∷ s.news)
  all_split = (
    refl,
    (place, s.found, subst (λ (w : ℕ). Become p place w s.rows s.news) (sym s.width_is) s.become),
  )

  split : Splits p seen (s.sent ++ s.held)
  split = subst (Splits p seen) s.parts all_split

  abbrev part : (here : List Record) → IfSome told (λ text. BeginWith p.column.delimiter text (seen ++ here))
      → FrontOfPieces p told (stream_of s.sent) (rest_text p.column.delimiter s.sent)
  part here begins = record {
    before = seen;
    here = here;
    begins = begins;
    whole = s.sent;
    later = [];
    held = s.held;
    splits = split;
    blob_front = [];
    blob_left = [];
    blob_cut = refl;
    blobs_are = sym (append-nil (stream_of s.sent));
    rest_front = [];
    rest_left = [];
    rest_cut = refl;
    rest_is = sym (append-nil (rest_text p.column.delimiter s.sent));
    one = inl refl;
    rest_first = inl refl;
  }

  -- no more was sent, for this cause
  stops : (why : ColumnCause) (here : List Record)
      (begins : IfSome told (λ text. BeginWith p.column.delimiter text (seen ++ here)))
      → is_write {A = Unit {0}} (Err why) ≡ false → ExplainsCause why (part here begins)
      → Sends p contents rest_contents told first blobs rest_first rest done (Err why)
  stops why here begins quiet explains = record {
    stream = stream_of s.sent;
    text = rest_text p.column.delimiter s.sent;
    failed = false;
    rest_failed = false;
    left = left_took s.took;
    rest_left = left_took s.rest_took;
    tells = quiet;
    open_still = λ no_write no_length. (s.took.spent ∙ s.fresh.0, s.rest_took.spent ∙ s.rest_fresh.0);
    ends = ((part here begins, s.count, explains), λ is. refl);
  }

  module _ (to : Reader (MutBor (Tap R))) (row : Record) (reads : ReadsNext remaining csv true row to) where
    begun_more : IfSome told (λ text. BeginWith p.column.delimiter text (seen ++ row ∷ []))
    begun_more = given_begins p.column.delimiter remaining told (seen ++ row ∷ []) to
        (reads p.column.delimiter told seen s.given)

    -- the next record is refused
    refuses_row : (because : RecordReason) → RefusesRow p place width row because
        → Sends p contents rest_contents told first blobs rest_first rest done (Err (refused_at number because))
    refuses_row because refused = stops (refused_at number because) (row ∷ []) begun_more
        (refusal_tells number because) (refusal_explains number because (part (row ∷ []) begun_more) (
          refl,
          record {
            number = number;
            because = because;
            told_as = refl;
            refused = inr (inr (record {
              header = s.header;
              rows = s.rows;
              row = row;
              column = place;
              first = refl;
              found = s.found;
              alone = refl;
              place = (let n = s.number_is in omega (arith, n));
              refused = subst (λ (w : ℕ). RefusesRow p place w row because) (sym s.width_is) refused;
            }));
          },
          s.held_back,
        ))

    many : RECORD_CAP ≤ number → RECORD_CAP ≤ length (seen ++ row ∷ [])
    many far = let n = s.number_is in omega (arith, far, n, length-append seen (row ∷ []))

  -- the piece of the next record was not made
  pub misses_row : (to : Reader (MutBor (Tap R))) (why : ColumnCause)
      → MissesRow p place width number remaining csv why to
      → Sends p contents rest_contents told first blobs rest_first rest done (Err why)
  misses_row to why (inl is) = rw is (stops (Pack cause.ReadDevice) [] begun refl (inl refl))
  misses_row to why (inr (row, reads, inl is)) =
      rw is (stops (Pack cause.Memory) (row ∷ []) (begun_more to row reads) refl refl)
  misses_row to why (inr (row, reads, inr (inl (is, far)))) =
      rw is (stops (Pack cause.TooManyRecords) (row ∷ []) (begun_more to row reads) refl
      (refl, many to row reads far))
  misses_row to why (inr (row, reads, inr (inr (because, is, refused)))) =
      rw is (refuses_row to row reads because refused)

  -- an output refused what waits
  module _ {new : Output W} {rest_new : Output V} {why : ColumnCause} (record_text waiting : List ℕ)
      (same : record_text ≡ text) (same_blob : waiting ≡ blob) where
    -- nothing waits: nothing can be refused
    none_waits : s.held ≡ []
        → IsPieceCut contents rest_contents blobs rest record_text waiting why new rest_new
        → Sends p contents rest_contents told first new rest_first rest_new done (Err why)
    none_waits none (inl (cut, kept)) =
        let nothing : record_text ≡ [] = same ∙ s.text_is ∙ ap (rest_text p.column.delimiter) none in
        absurd (cut.cut.left (s.rest_took.spent ∙ s.rest_fresh.0)
        (none_left cut.cut.front cut.cut.rest (sym nothing ∙ cut.cut.whole)))
    none_waits none (inr (put, cut)) =
        let nothing : waiting ≡ [] = same_blob ∙ s.blob_is ∙ ap stream_of none in
        absurd (cut.cut.left (s.took.spent ∙ s.fresh.0)
        (none_left cut.cut.front cut.cut.rest (sym nothing ∙ cut.cut.whole)))

    -- one piece waits
    one_waits : (last : Piece) → s.held ≡ last ∷ []
        → IsPieceCut contents rest_contents blobs rest record_text waiting why new rest_new
        → Sends p contents rest_contents told first new rest_first rest_new done (Err why)
    one_waits last is (inl (cut, kept)) = rw (cut.told_as, kept) (sends_rest_cut p contents rest_contents told done seen
        s.sent last begun (subst (λ (h : List Piece). Splits p seen (s.sent ++ h)) is split) s.took s.rest_took s.fresh
        s.rest_fresh s.count (subst (λ t. Cut rest_contents rest t cut.fault rest_new)
        (same ∙ s.text_is ∙ ap (rest_text p.column.delimiter) is) cut.cut) cut.untouched)
    one_waits last is (inr (put, cut)) = rw cut.told_as (sends_blob_cut p contents rest_contents told done seen
        s.sent last begun (subst (λ (h : List Piece). Splits p seen (s.sent ++ h)) is split) s.took s.rest_took s.fresh
        s.rest_fresh s.count (subst (λ t. Took rest_contents rest t rest_new)
        (same ∙ s.text_is ∙ ap (rest_text p.column.delimiter) is) put)
        (subst (λ t. Cut contents blobs t cut.fault new) (same_blob ∙ s.blob_is ∙ ap stream_of is) cut.cut)
        cut.untouched)

    pub waiting_cut : IsPieceCut contents rest_contents blobs rest record_text waiting why new rest_new
        → Sends p contents rest_contents told first new rest_first rest_new done (Err why)
    waiting_cut cut = go (one_held s.sent s.held s.held_back)
      where
        go : (s.held ≡ []) ⊎ ((last : Piece) × (s.held ≡ last ∷ []))
            → Sends p contents rest_contents told first new rest_first rest_new done (Err why)
        go (inl none) = none_waits none cut
        go (inr (last, is)) = one_waits last is cut

  -- what waited was sent
  module _ {new : Output W} {rest_new : Output V} (record_text waiting : List ℕ) (same : record_text ≡ text)
      (same_blob : waiting ≡ blob) (took : Took contents blobs waiting new)
      (rest_took : Took rest_contents rest record_text rest_new) where
    all_took : Took contents first (stream_of (header_piece s.header ∷ s.news)) new
    all_took = subst (λ t. Took contents first t new)
        (ap (λ (t : List ℕ). stream_of s.sent ++ t) (same_blob ∙ s.blob_is)
        ∙ sym (stream-append s.sent s.held) ∙ ap stream_of (sym s.parts))
        (took_join contents first blobs new _ _ s.took took)

    rest_all_took : Took rest_contents rest_first
        (rest_text p.column.delimiter (header_piece s.header ∷ s.news)) rest_new
    rest_all_took = subst (λ t. Took rest_contents rest_first t rest_new)
        (ap (λ (t : List ℕ). rest_text p.column.delimiter s.sent ++ t) (same ∙ s.text_is)
        ∙ sym (text-append p.column.delimiter s.sent s.held) ∙ ap (rest_text p.column.delimiter) (sym s.parts))
        (took_join rest_contents rest_first rest rest_new _ _ s.rest_took rest_took)

    sent_count : (after : ℕ) → after ≡ number - 1 → after ≡ length (header_piece s.header ∷ s.news)
    sent_count after less = let n = s.number_is in
        omega (arith, less, n, become-length p place width s.rows s.news s.become)

    -- all records were read
    pub ends_all : (to : Reader (MutBor (Tap R))) (after : ℕ) → after ≡ number - 1 → ReadsNext remaining csv false [] to
        → Sends p contents rest_contents told first new rest_first rest_new after (Ok tt)
    ends_all to after less ended = record {
      stream = stream_of (header_piece s.header ∷ s.news);
      text = rest_text p.column.delimiter (header_piece s.header ∷ s.news);
      failed = false;
      rest_failed = false;
      left = left_took all_took;
      rest_left = left_took rest_all_took;
      tells = refl;
      open_still = (all_took.spent ∙ s.fresh.0, rest_all_took.spent ∙ s.rest_fresh.0);
      ends = (
        record {
          header = s.header;
          rows = s.rows;
          all = ended p.column.delimiter told seen s.given;
          pieces = header_piece s.header ∷ s.news;
          splits = all_split;
        },
        refl,
        refl,
        sent_count after less,
      );
    }

    -- one more piece waits
    pub next_waits : (to : Reader (MutBor (Tap R))) (after next : ℕ) (made made_blob moved moved_blob : List ℕ)
        → after ≡ number - 1 → next ≡ number + 1 → MakesPiece p place width remaining csv made made_blob to
        → moved ≡ made → moved_blob ≡ made_blob
        → StandsAt p place width remaining contents rest_contents told to first new rest_first rest_new next after
        moved moved_blob
    next_waits to after next made made_blob moved moved_blob less more makes own own_blob = record {
      header = s.header;
      rows = s.rows ++ makes.row ∷ [];
      given = makes.reads p.column.delimiter told seen s.given;
      found = s.found;
      width_is = s.width_is;
      news = s.news ++ makes.made.0 ∷ [];
      become = become-more p place width s.rows s.news makes.row makes.made.0 s.become makes.made.1;
      sent = header_piece s.header ∷ s.news;
      held = makes.made.0 ∷ [];
      parts = refl;
      held_back = inr (omega arith, (makes.made.0, refl));
      took = all_took;
      rest_took = rest_all_took;
      text_is = own ∙ makes.made.2;
      blob_is = own_blob ∙ makes.made.3;
      fresh = s.fresh;
      rest_fresh = s.rest_fresh;
      number_is = (let n = s.number_is in omega (arith, more, n, length-append s.rows (makes.row ∷ [])));
      count = sent_count after less;
    }

  -- there are too many records to count
  pub too_many : 2 ^ 64 - 1 ≤ number → Sends p contents rest_contents told first blobs rest_first rest done
      (Err (Pack cause.TooManyRecords))
  too_many far = stops (Pack cause.TooManyRecords) [] begun refl
      (refl, (let n = s.number_is in omega (arith, far, n, ap length (append-nil seen))))
