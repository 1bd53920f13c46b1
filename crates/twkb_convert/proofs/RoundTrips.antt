-- Packing and unpacking give one output, and give back what was put in, also in parts.
use Rattle.csv.specs.Reading.{AreRecords, Reached, default_config, strip_bom}
use Rattle.csv.specs.Machine.{Read, next_record}
use Rattle.csv.specs.declared.parser.Config.{Config}
use Rattle.csv.specs.declared.parser.State.{State}
use Rattle.csv.specs.declared.parser.State.TheVariants.{StartRecord}
use Rattle.std.specs.Prelude.{drop}
use Rattle.std.proofs.lemmas.List.{drop_at}
use Rattle.twkb_tree.specs.Rows.{AreValid, AreGeometries}
use Rattle.twkb_tree.proofs.LimitLaws.{valid_front}
use Rattle.twkb_tree.proofs.RowLaws.{at_root, first_ended, below_root}
use Rattle.twkb_grammar.proofs.Streams.{no_stream, one_stream, written_stream, behind_stream, fault-append}
use Rattle.twkb_grammar.proofs.Streams.{stream-append, one_stream_fault, stream_or_fault}
use Rattle.twkb_geojson.specs.Value.{line_of}
use Rattle.twkb_convert.specs.Outputs.{TextTo, geojson_text}
use Rattle.twkb_grammar.proofs.NotedSpans.{blob_moved}
use Rattle.twkb_table.specs.TableReading.{NameSoFar}
use Rattle.twkb_table.specs.Text.{BeginAtRoot}
use Rattle.twkb_table.proofs.FaultLaws.{fault_none, later_none, one_complete, some_complete, named_or_fault}
use Rattle.twkb_table.proofs.RowReaderLemmas.{text_read}
use Rattle.twkb_table.proofs.Verdicts.{one_table as named_table, geometries, split, table_front, named_cut}
use Rattle.twkb_table.proofs.Verdicts.{named_joined, records-append}
use Rattle.twkb_table.proofs.FieldLemmas.{head_same, tail_same}
use Rattle.twkb_table.proofs.TableSteps.{never_none}
use Rattle.twkb_convert.proofs.Prelude.{◌≡◌, ◌∙◌, ℕ, List, [], ◌∷◌, None, ap, refl, sym, subst, inl, inr, Tree}
use Rattle.twkb_convert.proofs.Prelude.{Allowance, IsAllowance, Stream, canonical_stream, Style, Record, table, Named}
use Rattle.twkb_convert.proofs.Prelude.{AreComplete, NamesNone, RowReason, map-append, AreRecordsOf, IsTable}
use Rattle.twkb_convert.proofs.Prelude.{PackTextTo, PackTo, UnpackTo, table_text, ◌⊎◌, map, ◌++◌, Some, append_assoc}
use Rattle.twkb_convert.proofs.Prelude.{append-nil, flat_map-append, BeginsWith, Row, rows, rows_of, FirstFault}
use Rattle.twkb_convert.proofs.Prelude.{Reason, canonical_blob, header, record_of, HasNoHeader, all_but_last}
use Rattle.twkb_convert.proofs.Prelude.{BeginWith, FrontOfBlobs, rows_text, MayBeWritten, ◌+◌, length, arith}
use Rattle.twkb_convert.proofs.Prelude.{append_cancel_left, StreamFault, moved_span, csvtext, Located, BeginLocated}
use Rattle.twkb_convert.proofs.Prelude.{LocatedStream, ShowTo, geometries_of, lines_text, AreMovedLines, PackApart}
use Rattle.twkb_convert.proofs.Prelude.{◌≢◌, TakesBlobs, records_of}
use Rattle.twkb_convert.proofs.Prelude.{RowsName, all_moved, span_lines, AreBytes, RowFault, IsRefusedText}
use Rattle.twkb_convert.proofs.ListingLemmas.{table_text-append, table_text-rows}
use Rattle.twkb_convert.proofs.FlushLemmas.{located-append, located-stream, Begins, each_other, fault_no_blob}
use Rattle.twkb_convert.proofs.FlushLemmas.{located_first, one_shown, some_located_stream}

-- ==== Packing and unpacking give back what was put in.

-- ---- a text has one list of records

reached_first : (cfg : Config) (s : State) (xs : List ℕ) (rs qs : List Record)
    → AreRecords cfg s xs rs → (state : State) (left : List ℕ) → Reached cfg s xs qs state left
    → Begins qs rs
unfolding Reached
reached_first cfg s xs rs [] a state left b = (rs, refl)
reached_first cfg s xs [] (q ∷ qs) a state left b =
    let ended : next_record cfg s [] [] xs ≡ None = subst (λ t. next_record cfg t [] [] xs ≡ None)
    (sym a.2.0) (subst (λ l. next_record cfg a.0 [] [] l ≡ None) (sym a.2.1) a.3) in
    absurd (let more = b.1 in cc)
reached_first cfg s xs (r ∷ rs) (q ∷ qs) a state left b =
    let first = a.2.1 in
    let second = b.1 in
    let same : a.2.0 ≡ b.0 = cc (first, second) in
    let later : AreRecords cfg b.0.1 b.0.2 rs = subst (λ (p : Read). AreRecords cfg p.1 p.2 rs) same
    (a.0, a.1, a.2.3, a.3) in
    let tail = reached_first cfg b.0.1 b.0.2 rs qs later state left b.3 in
    (tail.0, ap (λ x. x ∷ rs) (a.2.2 ∙ ap (λ (p : Read). p.0) same ∙ sym b.2) ∙ ap (λ l. q ∷ l) tail.1)

-- the records with which a text begins are the first of its records
pub first_records : (text : List ℕ) (records seen : List Record) → AreRecordsOf text records
    → BeginWith text seen → (more : List Record) × (records ≡ seen ++ more)
first_records text records seen all begins = reached_first default_config StartRecord
    (strip_bom text) records seen all begins.0 begins.1 begins.2

pub one_records : (text : List ℕ) (rs qs : List Record) → AreRecordsOf text rs → AreRecordsOf text qs → rs ≡ qs
one_records text rs qs a b = each_other rs qs (first_records text qs rs b (a.0, a.1, a.2))
    (first_records text rs qs a (b.0, b.1, b.2))

-- ---- one output

-- the table to which a stream is unpacked
pub unpacked_stream : (l : Allowance) (bytes text : List ℕ) (gs : List Tree) → Stream l bytes gs
    → UnpackTo l bytes text → text ≡ table_text gs
unpacked_stream l bytes text gs stream (inl (hs, other, e)) = e ∙ ap table_text (one_stream l bytes hs gs other stream)
unpacked_stream l bytes text gs stream (inr (offset, reason, hs, fault, e)) =
    absurd (no_stream l fault.front fault.rest hs gs fault.within reason fault.blobs
    fault.first.fault (subst (λ b. Stream l b gs) fault.whole stream))

-- records with a fault name no geometries
pub complete_none : (l : Allowance) (records : List Record) (number : ℕ) (reason : RowReason)
    (gs : List Tree) → AreComplete l records number reason gs → NamesNone l records
complete_none l records number reason gs (inl f) = fault_none l records number reason (inl (f.0, f.1, f.2))
complete_none l records number reason gs (inr f) = fault_none l records number reason (inr f.0)

-- the stream to which records that name geometries are packed
pub packed_records : (style : Style) (l : Allowance) (records : List Record) (bytes : List ℕ)
    (gs : List Tree) → IsAllowance l → Named l records gs → PackTo style l records bytes
    → bytes ≡ canonical_stream style gs
packed_records style l records bytes gs allowed named (inl (hs, other, e)) = e
    ∙ ap (canonical_stream style) (named_table l records hs gs allowed other named)
packed_records style l records bytes gs allowed named (inr (number, reason, hs, complete, e)) =
    absurd (complete_none l records number reason hs complete gs named)

-- ---- round trips both ways

valid_stream : (l : Allowance) (bytes : List ℕ) (gs : List Tree) → Stream l bytes gs → AreValid l gs
valid_stream l bytes [] s = tt
valid_stream l bytes (g ∷ gs) s = (s.3.valid, valid_stream l s.1 gs s.4)

pub unpack_of_pack : (style : Style) (l : Allowance) (packed bytes text : List ℕ)
    (records : List Record) → IsAllowance l
    → IsTable l packed records → PackTo style l records bytes → UnpackTo l bytes text → AreRecordsOf text records
unpack_of_pack style l packed bytes text records allowed (are, (gs, named)) packs unpacks =
    let stream : Stream l bytes gs = subst (λ b. Stream l b gs)
    (sym (packed_records style l records bytes gs allowed named packs))
    (written_stream l style gs allowed named.valid) in
    let same : text ≡ table_text gs = unpacked_stream l bytes text gs stream unpacks in
    let read : AreRecordsOf (table_text gs) (table gs) = text_read l (table gs) gs allowed
    (record { table_of = refl; valid = named.valid }) in
    subst (λ r. AreRecordsOf text r) (sym named.table_of) (subst (λ t. AreRecordsOf t (table gs)) (sym same) read)

pub pack_of_unpack : (style : Style) (l : Allowance) (bytes text packed : List ℕ) (gs : List Tree) → IsAllowance l
    → Stream l bytes gs → UnpackTo l bytes text → PackTextTo style l text packed → packed ≡ canonical_stream style gs
pack_of_unpack style l bytes text packed gs allowed stream unpacks (records, are, packs) =
    let same : text ≡ table_text gs = unpacked_stream l bytes text gs stream unpacks in
    let named : Named l (table gs) gs = record { table_of = refl; valid = valid_stream l bytes gs stream } in
    let read : AreRecordsOf (table_text gs) (table gs) = text_read l (table gs) gs allowed named in
    let one : records ≡ table gs = one_records text records (table gs) are
    (subst (λ t. AreRecordsOf t (table gs)) (sym same) read) in
    packed_records style l records packed gs allowed (subst (λ r. Named l r gs) (sym one) named) packs

-- ==== The bytes that may be written are a prefix of the whole output.

-- ---- records

-- of two prefixes of a list, one continues the other
abbrev OneGoesOn : List Record → List Record → Record → Type 0
OneGoesOn xs ys x = Begins xs ys ⊎ Begins (ys ++ x ∷ []) xs

one_goes_on : (xs ys : List Record) (x : Record) (rest more : List Record)
    → xs ++ rest ≡ ys ++ x ∷ more → OneGoesOn xs ys x
one_goes_on [] ys x rest more e = inl (ys, refl)
one_goes_on (a ∷ xs) [] x rest more e = inr (xs, ap (λ q. q ∷ xs) (head_same a x (xs ++ rest) more e))
one_goes_on (a ∷ xs) (b ∷ ys) x rest more e = go
    (one_goes_on xs ys x rest more (tail_same a b (xs ++ rest) (ys ++ x ∷ more) e))
  where
    same : a ≡ b
    same = head_same a b (xs ++ rest) (ys ++ x ∷ more) e

    go : OneGoesOn xs ys x → OneGoesOn (a ∷ xs) (b ∷ ys) x
    go (inl (zs, f)) = inl (zs, ap (λ q. q ∷ ys) (sym same) ∙ ap (λ l. a ∷ l) f)
    go (inr (zs, f)) = inr (zs, ap (λ q. q ∷ xs) same ∙ ap (λ l. b ∷ l) f)

-- ---- geometries

-- a geometry has at least one row
no_row : (g : Tree) (gs : List Tree) (more : List Row) → AreGeometries (g ∷ gs) → [] ≡ rows_of (g ∷ gs) ++ more → ⊥
no_row g gs more are e = let (below, first, deep) = below_root g are.0 in
    cc (e ∙ ap (λ rs. (rs ++ rows_of gs) ++ more) first)

-- all geometries but the last are the first of all
all_but_last_first : (gs : List Tree) → Begins (all_but_last gs) gs
all_but_last_first (g ∷ k ∷ gs) =
    let rest = all_but_last_first (k ∷ gs) in (rest.0, ap (λ hs. g ∷ hs) rest.1)
all_but_last_first gs = (gs, refl)

one_before : (g : Tree) (gs rest hs : List Tree) → hs ≡ g ∷ rest → (rest ≡ [] → ⊥)
    → Begins gs (all_but_last rest) → Begins (g ∷ gs) (all_but_last hs)
one_before g gs [] hs whole some first = absurd (some refl)
one_before g gs (r ∷ rest) hs whole some first = (
  first.0,
  ap all_but_last whole
      ∙ ap (λ l. g ∷ l) first.1,
)

-- if rows of geometries begin with the rows of others, all but the last of those come first,
-- without the last too
come_first : (gs hs : List Tree) (more : List Row) → AreGeometries gs → AreGeometries hs
    → rows_of hs ≡ rows_of gs ++ more → Begins (all_but_last gs) (all_but_last hs)
come_first (g ∷ k ∷ gs) hs more a b e =
    let (rest, whole, others) = first_ended g (rows_of (k ∷ gs) ++ more) hs a.0 b
    (at_root k gs more a.1) (sym (append_assoc (rows 0 g) (rows_of (k ∷ gs)) more) ∙ sym e) in
    let are : AreGeometries (g ∷ rest) = subst AreGeometries whole b in
    one_before g (all_but_last (k ∷ gs)) rest hs whole
    (λ none. no_row k gs more a.1 (ap rows_of (sym none) ∙ others))
    (come_first (k ∷ gs) rest more a.1 are.1 others)
come_first _ hs more a b e = (all_but_last hs, refl)

-- if records of geometries begin with the records of others, so do the rows
named_first : (l : Allowance) (seen tail : List Record) (gs hs : List Tree) → IsAllowance l
    → Named l seen gs → Named l (seen ++ tail) hs → Begins (all_but_last gs) (all_but_last hs)
named_first l [] tail gs hs allowed a b = absurd (let e = a.table_of in cc)
named_first l (h ∷ front) tail gs hs allowed a b =
    let head = head_same h header (front ++ tail) (map record_of (rows_of hs)) b.table_of in
    let s = split (rows_of hs) front tail
    (sym (tail_same h header (front ++ tail) (map record_of (rows_of hs)) b.table_of)) in
    let v = valid_front l s.front s.more (hs, b.valid, s.whole) in
    let named : Named l (h ∷ front) v.0 = record {
      table_of = ap (λ q. q ∷ front) head
          ∙ ap (λ qs. header ∷ qs) (sym s.fronts ∙ ap (λ qs. map record_of qs) (sym v.2));
      valid = v.1;
    } in
    let same : rows_of gs ≡ s.front = ap rows_of (named_table l (h ∷ front) gs v.0 allowed a named) ∙ v.2 in
    come_first gs hs s.more (geometries l gs a.valid) (geometries l hs b.valid)
    (s.whole ∙ ap (λ rs. rs ++ s.more) (sym same))

-- ---- geometries that may be written

-- the geometries that are ready after some records of a text
abbrev IsReady : List ℕ → List Record → List Tree → List Tree → Type 0
IsReady text seen trees gs = (gs ≡ all_but_last trees) ⊎ (AreRecordsOf text seen × (gs ≡ trees))

none_ready : (text : List ℕ) (seen : List Record) (trees gs : List Tree) → trees ≡ []
    → IsReady text seen trees gs → gs ≡ []
none_ready text seen trees gs none (inl e) = e ∙ ap all_but_last none
none_ready text seen trees gs none (inr e) = e.1 ∙ none

ready_named : (l : Allowance) (text : List ℕ) (records seen : List Record) (trees gs hs : List Tree)
    → IsAllowance l → AreRecordsOf text records → BeginWith text seen → NameSoFar l seen trees
    → IsReady text seen trees gs → Named l records hs → Begins gs hs
ready_named l text records [] trees gs hs allowed all begins named ready other =
    (hs, ap (λ ks. ks ++ hs) (sym (none_ready text [] trees gs named ready)))
ready_named l text records (s ∷ seen) trees gs hs allowed all begins named (inl e) other =
    let (tail, whole) = first_records text records (s ∷ seen) all begins in
    let first = named_first l (s ∷ seen) tail trees hs allowed named (subst (λ r. Named l r hs) whole other) in
    let (last, all) = all_but_last_first hs in (
      first.0 ++ last,
      all ∙ ap (λ ks. ks ++ last) (first.1 ∙ ap (λ ks. ks ++ first.0) (sym e))
          ∙ append_assoc gs first.0 last,
    )
ready_named l text records (s ∷ seen) trees gs hs allowed all begins named (inr (ended, e)) other =
    let same : s ∷ seen ≡ records = one_records text (s ∷ seen) records ended all in (
      [],
      named_table l records hs trees allowed other (subst (λ r. Named l r trees) same named)
          ∙ sym e ∙ sym (append-nil gs),
    )

is_header : (l : Allowance) (s : Record) (seen tail records : List Record) (trees : List Tree)
    → Named l (s ∷ seen) trees → records ≡ s ∷ (seen ++ tail) → HasNoHeader records → ⊥
is_header l s seen tail [] trees named e none = cc e
is_header l s seen tail (q ∷ qs) trees named e none =
    none (head_same q s qs (seen ++ tail) e ∙ head_same s header seen (map record_of (rows_of trees)) named.table_of)

ready_complete : (l : Allowance) (text : List ℕ) (records seen : List Record) (number : ℕ)
    (reason : RowReason) (trees gs hs : List Tree) → IsAllowance l → AreRecordsOf text records
    → BeginWith text seen → NameSoFar l seen trees → IsReady text seen trees gs
    → AreComplete l records number reason hs → Begins gs hs
ready_complete l text records [] number reason trees gs hs allowed all begins named ready complete =
    (hs, ap (λ ks. ks ++ hs) (sym (none_ready text [] trees gs named ready)))
ready_complete l text records (s ∷ seen) number reason trees gs hs allowed all begins named ready (inl f) =
    let (tail, whole) = first_records text records (s ∷ seen) all begins in
    absurd (is_header l s seen tail records trees named whole f.0)
ready_complete l text records (s ∷ seen) number reason trees gs hs allowed all begins named (inr (ended, e)) (inr f) =
    absurd (later_none l records number reason f.0 trees
    (subst (λ r. Named l r trees) (one_records text (s ∷ seen) records ended all) named))
ready_complete l text records (s ∷ seen) number reason trees gs hs allowed all begins named (inl e)
    (inr f) = go (one_goes_on (s ∷ seen) f.0.before f.0.here tail.0 f.0.more
    (sym tail.1 ∙ f.0.split))
  where
    tail : (more : List Record) × (records ≡ (s ∷ seen) ++ more)
    tail = first_records text records (s ∷ seen) all begins

    go : OneGoesOn (s ∷ seen) f.0.before f.0.here → Begins gs hs
    go (inl (more, longer)) =
        let first = named_first l (s ∷ seen) more trees f.0.geometries allowed named
        (subst (λ r. Named l r f.0.geometries) longer f.0.named) in
        (first.0, f.1 ∙ first.1 ∙ ap (λ ks. ks ++ first.0) (sym e))
    go (inr (more, longer)) =
        let front = table_front l (f.0.before ++ f.0.here ∷ []) more trees
        (never_none f.0.before f.0.here) (subst (λ r. Named l r trees) longer named) in
        absurd (f.0.none front.0 front.1)

ready_packed : (style : Style) (l : Allowance) (text : List ℕ) (records : List Record)
    (gs : List Tree) (bytes : List ℕ) → IsAllowance l → AreRecordsOf text records
    → MayBeWritten l (Some text) gs → PackTo style l records bytes
    → (hs : List Tree) × (bytes ≡ canonical_stream style hs) × Begins gs hs
ready_packed style l text records gs bytes allowed all may (inl (hs, named, e)) = (
  hs,
  e,
  ready_named l text records may.records may.geometries gs hs allowed all may.begins
      may.named may.ready named,
)
ready_packed style l text records gs bytes allowed all may (inr (number, reason, hs, complete, e)) = (
  hs,
  e,
  ready_complete l text records may.records number reason may.geometries gs hs allowed all
      may.begins may.named may.ready complete,
)

pub pack_front : (style : Style) (l : Allowance) (text written bytes : List ℕ) → IsAllowance l
    → FrontOfBlobs style l (Some text) written → PackTextTo style l text bytes
    → BeginsWith (Some bytes) written
pack_front style l text written bytes allowed f (records, all, packs) =
    let (hs, e, (others, first)) = ready_packed style l text records (f.whole ++ f.later) bytes
    allowed all f.ready packs in
    let stream = canonical_stream style in
    let behind = f.rest ++ stream others in (
      behind,
      e ∙ ap stream first ∙ flat_map-append (canonical_blob style) (f.whole ++ f.later) others
          ∙ ap (λ b. b ++ stream others) (flat_map-append (canonical_blob style) f.whole f.later)
          ∙ append_assoc (stream f.whole) (stream f.later) (stream others)
          ∙ ap (λ b. stream f.whole ++ (b ++ stream others)) f.cut
          ∙ ap (λ b. stream f.whole ++ b) (append_assoc f.front f.rest (stream others))
          ∙ sym (append_assoc (stream f.whole) f.front behind)
          ∙ ap (λ b. b ++ behind) (sym f.bytes),
    )

-- ---- tables

-- blobs before bytes with a fault are the first of those before the fault
blobs_first : (l : Allowance) (a b x y : List ℕ) (gs hs : List Tree) (within : ℕ) (reason : Reason)
    → Stream l a gs → Stream l b hs → FirstFault l y within reason → a ++ x ≡ b ++ y
    → Begins gs hs
blobs_first l a b x y gs hs within reason s t f e =
    let (bs, located, are) = some_located_stream l 0 a gs s in
    let (cs, others, same) = some_located_stream l 0 b hs t in
    let first = located_first l 0 a b x y bs cs located others (fault_no_blob l y within reason f)
    e in (
      geometries_of first.0,
      sym same ∙ ap geometries_of first.1
          ∙ map-append (λ (c : Located). c.geometry) bs first.0 ∙ ap (λ ks. ks ++ geometries_of first.0)
          are,
    )

blobs_unpacked : (l : Allowance) (all bytes rest : List ℕ) (gs : List Tree) (text : List ℕ)
    → all ≡ bytes ++ rest → Stream l bytes gs → UnpackTo l all text → (hs : List Tree)
    × (text ≡ table_text hs) × Begins gs hs
blobs_unpacked l all bytes rest gs text whole s (inl (hs, t, e)) = let behind = behind_stream l
    bytes rest gs hs s (subst (λ k. Stream l k hs) whole t) in (hs, e, (behind.0, behind.1))
blobs_unpacked l all bytes rest gs text whole s (inr (offset, reason, hs, f, e)) = (
  hs,
  e,
  blobs_first l bytes f.front rest f.rest gs hs f.within reason s f.blobs f.first
      (sym whole ∙ f.whole),
)

pub unpack_front : (l : Allowance) (all bytes text written : List ℕ) (gs : List Tree)
    → BeginsWith (Some all) bytes → Stream l bytes gs → BeginsWith (Some (table_text gs)) written
    → UnpackTo l all text → BeginsWith (Some text) written
unpack_front l all bytes text written gs (rest, whole) s (left, cut) unpacks =
    let (hs, e, (others, first)) = blobs_unpacked l all bytes rest gs text whole s unpacks in (
      left ++ rows_text others,
      e ∙ ap table_text first ∙ table_text-append gs others
          ∙ ap (λ k. k ++ rows_text others) cut ∙ append_assoc written left (rows_text others),
    )

-- ==== Tables and streams in parts.

-- ---- tables

pub packed_joined : (style : Style) (l : Allowance) (rows more : List Record) → IsAllowance l
    → RowsName l rows → RowsName l more → PackApart style l rows more
packed_joined style l rows more cap (gs, first) (hs, second) a b first_out second_out =
    let one = packed_records style l (header ∷ rows) a gs cap first first_out in
    let other = packed_records style l (header ∷ more) b hs cap second second_out in
    inl (
      gs ++ hs,
      named_joined l rows more gs hs first second,
      ap (λ k. k ++ b) one
          ∙ ap (λ k. canonical_stream style gs ++ k) other
          ∙ sym (flat_map-append (canonical_blob style) gs hs),
    )

pub packed_cut : (style : Style) (l : Allowance) (rows more : List Record) → IsAllowance l
    → BeginAtRoot more → RowsName l (rows ++ more) → PackApart style l rows more
packed_cut style l rows more cap root (ks, named) =
    let (gs, hs, whole, here, there) = named_cut l rows more ks cap root named in
    packed_joined style l rows more cap (gs, here) (hs, there)

-- ---- streams as tables

-- the rows after the header's line
rows_after : (rows : List ℕ) (gs : List Tree) → csvtext (header ∷ []) ++ rows ≡ table_text gs → rows ≡ rows_text gs
rows_after rows gs e = append_cancel_left (csvtext (header ∷ [])) rows (rows_text gs) (e ∙ sym (table_text-rows gs))

texts_joined : (first rows : List ℕ) (gs hs : List Tree) → first ≡ table_text gs
    → csvtext (header ∷ []) ++ rows ≡ table_text hs → first ++ rows ≡ table_text (gs ++ hs)
texts_joined first rows gs hs one other =
    ap (λ k. k ++ rows) one ∙ ap (λ k. table_text gs ++ k) (rows_after rows hs other) ∙ sym (table_text-append gs hs)

pub unpacked_joined : (l : Allowance) (a b : List ℕ) (gs : List Tree) (first rows : List ℕ)
    → Stream l a gs → UnpackTo l a first → UnpackTo l b (csvtext (header ∷ []) ++ rows)
    → UnpackTo l (a ++ b) (first ++ rows)
unpacked_joined l a b gs first rows s out (inl (hs, t, e)) =
    inl (gs ++ hs, stream-append l a b gs hs s t, texts_joined first rows gs hs (unpacked_stream l a first gs s out) e)
unpacked_joined l a b gs first rows s out (inr (offset, reason, hs, f, e)) =
    inr (
      length a + offset,
      reason,
      gs ++ hs,
      fault-append l a b gs hs offset reason s f,
      texts_joined first rows gs hs (unpacked_stream l a first gs s out) e,
    )

-- ---- streams as GeoJSON

geojson_more : (lines : List ℕ) (gs hs : List Tree) → lines ≡ geojson_text hs
    → geojson_text gs ++ lines ≡ geojson_text (gs ++ hs)
geojson_more lines gs hs e = ap (λ k. geojson_text gs ++ k) e ∙ sym (flat_map-append line_of gs hs)

pub geojson_joined : (l : Allowance) (a b : List ℕ) (gs : List Tree) (lines : List ℕ) → Stream l a gs
    → TextTo geojson_text l b lines → TextTo geojson_text l (a ++ b) (geojson_text gs ++ lines)
geojson_joined l a b gs lines s (inl (hs, t, e)) =
    inl (gs ++ hs, stream-append l a b gs hs s t, geojson_more lines gs hs e)
geojson_joined l a b gs lines s (inr (offset, reason, hs, f, e)) =
    inr (
      length a + offset,
      reason,
      gs ++ hs,
      fault-append l a b gs hs offset reason s f,
      geojson_more lines gs hs e,
    )

-- ---- streams as lines

-- more bytes before a stream move its spans
located_moved : (l : Allowance) (n offset : ℕ) (bytes : List ℕ) (bs : List Located)
    → LocatedStream l offset bytes bs → LocatedStream l (n + offset) bytes (all_moved n bs)
located_moved l n offset bytes [] s = s
located_moved l n offset bytes (b ∷ bs) s =
    let place : n + (offset + length s.0) ≡ n + offset + length s.0 = omega arith in (
      s.0,
      s.1,
      s.2,
      record {
        blob = s.3.blob;
        told = ap (λ ss. map (moved_span n) ss) s.3.told
            ∙ sym (blob_moved l s.0 b.geometry n offset s.3.blob);
      },
      subst (λ k. LocatedStream l k s.1 (all_moved n bs)) place (located_moved l n (offset + length s.0) s.1 bs s.4),
    )

pub located_joined : (l : Allowance) (a b : List ℕ) (bs cs : List Located) → LocatedStream l 0 a bs
    → LocatedStream l 0 b cs → LocatedStream l 0 (a ++ b) (bs ++ all_moved (length a) cs)
located_joined l a b bs cs s t =
    let place : length a + 0 ≡ 0 + length a = omega arith in
    located-append l 0 a b bs (all_moved (length a) cs) s
    (subst (λ k. LocatedStream l k b (all_moved (length a) cs)) place
    (located_moved l (length a) 0 b cs t))

-- moving spans does not change the geometries
geometries_joined : (n : ℕ) (bs cs : List Located)
    → geometries_of bs ++ geometries_of cs ≡ geometries_of (bs ++ all_moved n cs)
geometries_joined n [] [] = refl
geometries_joined n [] (c ∷ cs) = ap (λ gs. c.geometry ∷ gs) (geometries_joined n [] cs)
geometries_joined n (b ∷ bs) cs = ap (λ gs. b.geometry ∷ gs) (geometries_joined n bs cs)

lines_joined : (n : ℕ) (bs cs : List Located) → lines_text bs ++ lines_text (all_moved n cs)
    ≡ lines_text (bs ++ all_moved n cs)
lines_joined n bs cs = sym (flat_map-append (λ (b : Located). span_lines b.spans) bs (all_moved n cs))

-- The join is shown by the first text and the lines of the second, moved.
abbrev ShowsMoved : Allowance → (a b first second : List ℕ) → Type 0
ShowsMoved l a b first second = (later : List ℕ) × AreMovedLines (length a) second later
    × ShowTo l (a ++ b) (first ++ later)

located_after : (l : Allowance) (a b first second : List ℕ) (bs : List Located)
    → LocatedStream l 0 a bs → first ≡ lines_text bs → ShowTo l b second
    → ShowsMoved l a b first second
located_after l a b first second bs s e (inl (cs, t, lines)) = (
  lines_text (all_moved (length a) cs),
  (cs, lines, refl),
  inl (
    bs ++ all_moved (length a) cs,
    located_joined l a b bs cs s t,
    ap (λ k. k ++ lines_text (all_moved (length a) cs)) e ∙ lines_joined (length a) bs cs,
  ),
)
located_after l a b first second bs s e (inr (offset, reason, cs, f, (front, rest, whole, t), lines)) =
    let both = fault-append l a b (geometries_of bs) (geometries_of cs) offset reason (located-stream l 0 a bs s) f in
    let begin : BeginLocated l (a ++ b) (bs ++ all_moved (length a) cs) = (
      a ++ front,
      rest,
      ap (λ k. a ++ k) whole ∙ sym (append_assoc a front rest),
      located_joined l a front bs cs s t,
    ) in (
      lines_text (all_moved (length a) cs),
      (cs, lines, refl),
      inr (
        length a + offset,
        reason,
        bs ++ all_moved (length a) cs,
        subst (λ gs. StreamFault l (a ++ b) gs (length a + offset) reason) (geometries_joined (length a) bs cs) both,
        begin,
        ap (λ k. k ++ lines_text (all_moved (length a) cs)) e ∙ lines_joined (length a) bs cs,
      ),
    )

pub shown_joined : (l : Allowance) (a b : List ℕ) (gs : List Tree) (first second : List ℕ)
    → Stream l a gs → ShowTo l a first → ShowTo l b second → ShowsMoved l a b first second
shown_joined l a b gs first second s one other =
    let (bs, located, are) = some_located_stream l 0 a gs s in
    located_after l a b first second bs located (one_shown l a first (lines_text bs) one
    (inl (bs, located, refl))) other

-- ==== Any records are packed to one output, and any bytes are unpacked to one.

some_of : (style : Style) (l : Allowance) (records : List Record)
    → ((gs : List Tree) × Named l records gs) ⊎ ((number : ℕ) × (reason : RowReason)
    × RowFault l records number reason) → (bytes : List ℕ) × PackTo style l records bytes
some_of style l records (inl (gs, named)) = (canonical_stream style gs, inl (gs, named, refl))
some_of style l records (inr (number, reason, fault)) =
    let complete = some_complete l records number reason fault in
    (canonical_stream style complete.0, inr (number, reason, complete.0, complete.1, refl))

pub some_output : (style : Style) (l : Allowance) (records : List Record) → IsAllowance l
    → (bytes : List ℕ) × PackTo style l records bytes
some_output style l records cap = some_of style l records (named_or_fault l records cap)

pub one_output : (style : Style) (l : Allowance) (records : List Record) (a b : List ℕ)
    → IsAllowance l → PackTo style l records a → PackTo style l records b → a ≡ b
one_output style l records a b cap (inl (gs, named, out)) packed = out
    ∙ sym (packed_records style l records b gs cap named packed)
one_output style l records a b cap (inr (m, why, gs, complete, out)) (inl (hs, named, other)) =
    absurd (complete_none l records m why gs complete hs named)
one_output style l records a b cap (inr (m, why, gs, complete, out)) (inr (n, reason, hs, others, other)) =
    out ∙ ap (canonical_stream style) (one_complete l records m n why reason gs hs cap complete others) ∙ sym other

-- ---- tables

some_table_of : (l : Allowance) (bytes : List ℕ) → ((gs : List Tree) × Stream l bytes gs)
    ⊎ ((gs : List Tree) × (offset : ℕ) × (reason : Reason) × StreamFault l bytes gs offset reason)
    → (text : List ℕ) × UnpackTo l bytes text
some_table_of l bytes (inl (gs, stream)) = (table_text gs, inl (gs, stream, refl))
some_table_of l bytes (inr (gs, offset, reason, fault)) = (table_text gs, inr (offset, reason, gs, fault, refl))

pub some_table : (l : Allowance) (bytes : List ℕ) → IsAllowance l → AreBytes bytes → (text : List ℕ)
    × UnpackTo l bytes text
some_table l bytes cap are = some_table_of l bytes (stream_or_fault l bytes cap are)

pub one_table : (l : Allowance) (bytes a b : List ℕ) → UnpackTo l bytes a → UnpackTo l bytes b → a ≡ b
one_table l bytes a b (inl (gs, stream, out)) unpacked = out ∙ sym (unpacked_stream l bytes b gs stream unpacked)
one_table l bytes a b (inr first) (inl (hs, stream, other)) = unpacked_stream l bytes a hs stream
    (inr first) ∙ sym other
one_table l bytes a b (inr (m, why, gs, fault, out)) (inr (n, reason, hs, others, other)) =
    out ∙ ap table_text (one_stream_fault l bytes gs hs m n why reason fault others).0 ∙ sym other

-- ==== A record refused at the beginning of a text is refused in the whole text, and the geometries complete before
-- it are the output.

-- more records change no refusal, unless there were no records
complete_more : (l : Allowance) (seen more : List Record) (number : ℕ) (reason : RowReason)
    (gs : List Tree) → (seen ≡ [] → more ≡ []) → AreComplete l seen number reason gs
    → AreComplete l (seen ++ more) number reason gs
complete_more l [] more number reason gs only (inl first) =
    subst (λ rs. AreComplete l rs number reason gs) (sym (only refl)) (inl first)
complete_more l (s ∷ seen) more number reason gs only (inl first) = inl first
complete_more l seen more number reason gs only (inr (later, same)) =
    inr (
      record {
        before = later.before;
        here = later.here;
        more = later.more ++ more;
        split = ap (λ rs. rs ++ more) later.split ∙ append_assoc later.before (later.here ∷ later.more) more;
        place = later.place;
        geometries = later.geometries;
        named = later.named;
        none = later.none;
        judged = later.judged;
      },
      same,
    )

pub refused_all : (l : Allowance) (text : List ℕ) (records : List Record) (number : ℕ)
    (reason : RowReason) (gs : List Tree) → IsRefusedText l text records number reason gs
    → AreComplete l records number reason gs
refused_all l text records number reason gs (all, refused) =
    let (more, whole) = first_records text records refused.seen all refused.begins in
    let only : refused.seen ≡ [] → more ≡ [] = λ none. sym (whole ∙ ap (λ rs. rs ++ more) none)
    ∙ one_records text records [] all (refused.none none) in
    subst (λ rs. AreComplete l rs number reason gs) (sym whole)
    (complete_more l refused.seen more number reason gs only refused.fault)

pub refused_none : (l : Allowance) (text : List ℕ) (records : List Record) (number : ℕ)
    (reason : RowReason) (gs : List Tree) → IsRefusedText l text records number reason gs
    → NamesNone l records
refused_none l text records number reason gs refused = complete_none l records number reason gs
    (refused_all l text records number reason gs refused)

pub refused_output : (style : Style) (l : Allowance) (text : List ℕ) (records : List Record)
    (number : ℕ) (reason : RowReason) (gs : List Tree)
    → IsRefusedText l text records number reason gs
    → PackTo style l records (canonical_stream style gs)
refused_output style l text records number reason gs refused = inr
    (number, reason, gs, refused_all l text records number reason gs refused, refl)

-- ==== What is left of an input after what was taken is converted to the rest of the output.

-- the bytes after those taken
left_of : {A : Type 0} {AreBlobs : List ℕ → List A → Type 0} {stream : List ℕ} {whole : List A} {taken : ℕ}
    (t : TakesBlobs AreBlobs stream whole taken) → drop taken stream ≡ t.rest
left_of {taken = taken} t = ap (λ (bs : List ℕ). drop taken bs) t.cut ∙ drop_at t.front t.rest taken (sym t.taken_is)

pub unpacked_rest : (l : Allowance) (stream rows : List ℕ) (whole : List Tree) (taken : ℕ)
    → TakesBlobs (Stream l) stream whole taken
    → UnpackTo l (drop taken stream) (csvtext (header ∷ []) ++ rows) → UnpackTo l stream (table_text whole ++ rows)
unpacked_rest l stream rows whole taken t rest =
    subst (λ (bs : List ℕ). UnpackTo l bs (table_text whole ++ rows)) (sym t.cut)
    (unpacked_joined l t.front t.rest whole (table_text whole) rows t.blobs (inl (whole, t.blobs, refl))
    (subst (λ (bs : List ℕ). UnpackTo l bs (csvtext (header ∷ []) ++ rows)) (left_of t) rest))

pub shown_rest : (l : Allowance) (stream lines : List ℕ) (whole : List Located) (taken : ℕ)
    → TakesBlobs (LocatedStream l 0) stream whole taken → ShowTo l (drop taken stream) lines
    → (later : List ℕ) × AreMovedLines taken lines later × ShowTo l stream (lines_text whole ++ later)
shown_rest l stream lines whole taken t rest =
    let joined = located_after l t.front t.rest (lines_text whole) lines whole t.blobs refl
    (subst (λ (bs : List ℕ). ShowTo l bs lines) (left_of t) rest) in (
      joined.0,
      subst (λ (n : ℕ). AreMovedLines n lines joined.0) (sym t.taken_is) joined.1,
      subst (λ (bs : List ℕ). ShowTo l bs (lines_text whole ++ joined.0)) (sym t.cut) joined.2,
    )

-- the last of valid geometries are valid
valid_rest : (l : Allowance) (gs hs : List Tree) → AreValid l (gs ++ hs) → AreValid l hs
valid_rest l [] hs v = v
valid_rest l (g ∷ gs) hs v = valid_rest l gs hs v.1

-- the records after those of the first geometries
records_rest : (g : Tree) (gs hs : List Tree)
    → drop (records_of (g ∷ gs)) (table ((g ∷ gs) ++ hs)) ≡ map record_of (rows_of hs)
records_rest g gs hs =
    ap (λ (rs : List Record). drop (records_of (g ∷ gs)) (header ∷ rs)) (records-append (g ∷ gs) hs)
    ∙ drop_at (table (g ∷ gs)) (map record_of (rows_of hs)) (records_of (g ∷ gs)) refl

packed_after : (style : Style) (l : Allowance) (records : List Record) (ks whole left : List Tree) (rest : List ℕ)
    → IsAllowance l → Named l records ks → ks ≡ whole ++ left → whole ≢ []
    → PackTo style l (header ∷ drop (records_of whole) records) rest
    → PackTo style l records (canonical_stream style whole ++ rest)
packed_after style l records ks [] left rest allowed named same some packs = absurd (some refl)
packed_after style l records ks (g ∷ gs) left rest allowed named same some packs =
    let below : drop (records_of (g ∷ gs)) records ≡ map record_of (rows_of left)
    = ap (λ (rs : List Record). drop (records_of (g ∷ gs)) rs) (named.table_of ∙ ap table same)
    ∙ records_rest g gs left in
    let other : Named l (header ∷ drop (records_of (g ∷ gs)) records) left = record {
      table_of = ap (λ (rs : List Record). header ∷ rs) below;
      valid = valid_rest l (g ∷ gs) left (subst (AreValid l) same named.valid);
    } in
    let out = packed_records style l (header ∷ drop (records_of (g ∷ gs)) records) rest left allowed other packs in
    inl (
      ks,
      named,
      ap (λ (bs : List ℕ). canonical_stream style (g ∷ gs) ++ bs) out
          ∙ sym (flat_map-append (canonical_blob style) (g ∷ gs) left)
          ∙ ap (canonical_stream style) (sym same),
    )

pub packed_rest : (style : Style) (l : Allowance) (text written rest : List ℕ) (records : List Record)
    → IsAllowance l → IsTable l text records → (part : FrontOfBlobs style l (Some text) written) → part.whole ≢ []
    → PackTo style l (header ∷ drop (records_of part.whole) records) rest
    → PackTo style l records (canonical_stream style part.whole ++ rest)
packed_rest style l text written rest records allowed (all, (ks, named)) part some packs =
    let may = part.ready in
    let (others, first) = ready_named l text records may.records may.geometries (part.whole ++ part.later) ks allowed
    all may.begins may.named may.ready named in
    packed_after style l records ks part.whole (part.later ++ others) rest allowed named
    (first ∙ append_assoc part.whole part.later others) some packs
