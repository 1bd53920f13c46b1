-- The turns of a call that reads a blob of an input, piece by piece.
use Rattle.std.proofs.Common.{◌≡◌, ℕ, zero, suc, ◌<◌, ◌≤◌, List, [], ◌∷◌, length, set, get_or, refl, ap, ◌∙◌, arith}
use Rattle.std.proofs.Common.{◌+◌, ◌++◌, take, length-append, Bool, true, false, Ok, ◌-◌, drop, take-append-drop, sym}
use Rattle.std.proofs.Common.{subst, Result, Err, inl, inr, ◌≢◌, append_assoc, nat_eq, Option, Some, None, append-nil}
use Rattle.twkb_grammar.specs.Noting.{changed_at, Notes}
use Rattle.std.specs.Prelude.{if◌then◌else◌, IfSome}
use Rattle.std.proofs.lemmas.List.{length-take-le, length-take, take-append-le, nil_from_length}
use Rattle.std.proofs.Math.Logic.{∥∥₁_elim, ∥∥₁_map}
use Rattle.std.proofs.Props.{props}
use Rattle.std.proofs.Math.Seq.{take-length, take-append-add}
use Rattle.std.proofs.KnownBytes.{Consumes-kept, Consumes-nil, Consumes-trans, Consumes-whole, starts_with_rest}
use Rattle.std.proofs.lemmas.Grind.{common_steps}
use Rattle.std.proofs.lemmas.Option.{IfSome_then}
use Rattle.std.specs.Io.KnownBytes.{Consumes, Keeps, IsAtEnd}
use Rattle.std.specs.declared.io.traits.Read.{Ghosts}
use Rattle.std.specs.Result.{result_and}
use Rattle.std.specs.Io.{StartsWith}
use Rattle.twkb_io.specs.declared.TheConstants.{MAX_BYTES}
use Rattle.twkb_io.specs.declared.input.InFault.TheVariants.{TooLong, Read, Spent}
use Rattle.twkb_io.specs.declared.input.Input.{Input}
use Rattle.twkb_io.specs.declared.input.InFault.{InFault}
use Rattle.twkb_io.specs.Inputs.{given, held_of, is_read, rest_of, is_spent, input_failures, input_tap}
use Rattle.twkb_io.specs.Taps.{count_failure, failures_of}
use Rattle.twkb_tree.specs.Rows.{Row}
use Rattle.twkb_tree.specs.Limits.{Allowance}
use Rattle.twkb_flat.specs.declared.stop.Stop.TheVariants.{Memory, Refused}
use Rattle.twkb_flat.specs.declared.stop.Stop.TheVariants as stop
use Rattle.twkb_grammar.specs.Items.{Blob}
use Rattle.twkb_grammar.specs.Fault.{FirstFault}
use Rattle.twkb_body.specs.HeaderParts.{IsJudged, PartIn}
use Rattle.twkb_engine.specs.Standing.{IsAlive, IsAnswer, count_of, StandsAt, IsEnd, IsFed, FedBy, HoldsSpans}
use Rattle.twkb_engine.specs.Standing.{TakesAll, notes_at, offset_in, RefusedIn}
use Rattle.twkb_engine.specs.declared.engine.Engine.{Engine}
use Rattle.twkb_engine.specs.State.{allowance_of}
use Rattle.twkb_engine.specs.Stops.{Stop, reason_of}
use Rattle.twkb_engine.proofs.Answering.{count_is}
use Rattle.twkb_blob.specs.Faults.{fault_of, FedPiece, Feeds, EndsAt, Goes, IsCutAt, Reads, ReadsBlob, ReadsNoBlob}
use Rattle.twkb_blob.specs.Faults.{Turns}
use Rattle.twkb_blob.specs.Readers.{AreCutOff, HasNone, Left, failed_by_read, told_by}
use Rattle.twkb_blob.specs.declared.fault.BlobFault.TheVariants.{Device}
use Rattle.twkb_blob.specs.declared.fault.BlobFault.TheVariants as fault
use Rattle.twkb_blob.specs.declared.fault.BlobFault.{BlobFault}

-- ==== A list that is changed at a place.

-- the item at the place is set
changed_set : {A : Type 0} (xs : List A) (i : ℕ) (f : A → A) (d : A) → i < length xs
    → set xs i (f (get_or xs i d)) ≡ changed_at i f xs
changed_set [] i f d low = absurd (omega (arith, low))
changed_set (x ∷ xs) zero f d low = refl
changed_set (x ∷ xs) (suc i) f d low = ap (λ l. x ∷ l) (changed_set xs i f d (omega (arith, low)))

-- past the end nothing is
pub changed_past : {A : Type 0} (xs : List A) (i : ℕ) (f : A → A) → length xs ≤ i → xs ≡ changed_at i f xs
changed_past [] i f past = refl
changed_past (x ∷ xs) zero f past = absurd (omega (arith, past))
changed_past (x ∷ xs) (suc i) f past = ap (λ l. x ∷ l) (changed_past xs i f (omega (arith, past)))

-- the item at the place is set to what is made of it
pub changed_to : {A : Type 0} (xs : List A) (i : ℕ) (f : A → A) (x y : A) → y ≡ f x → x ≡ get_or xs i x → i < length xs
    → set xs i y ≡ changed_at i f xs
changed_to xs i f x y is at low = ap (set xs i) (is ∙ ap f at) ∙ changed_set xs i f x low

-- ==== Engines that some bytes lead to, after a piece and before one.

module _ {S : Type 0} {holds : S → Notes → Type 0} {rs more : List Row} {d e : Engine} {old new : S}
    {piece : List ℕ} {used : ℕ} where
  -- the form has the rows of the geometry that is read, unless it ended
  pub alive_fed : (ends : Bool) → IsAnswer holds d rs old piece (Ok (used, ends)) e more new
      → IsAlive rs d → IsAlive (if ends then [] else more) e
  alive_fed false f alive = ∥∥₁_map alive (λ s. (s.0 ++ take used piece, (f.fed s.0 s.1).2))
  alive_fed true f alive = ∥∥₁_map alive (λ s. ([], (f.fed s.0 s.1).2))

  -- it took these bytes, and no more than there are
  pub many_fed : (ends : Bool) → IsAnswer holds d rs old piece (Ok (used, ends)) e more new → IsAlive rs d
      → (used ≤ length piece) × (e.start + count_of e ≡ (d.start + count_of d) + used)
  many_fed false f alive = ∥∥₁_elim alive (Prim.hlevel props) (λ s.
      let h = f.fed s.0 s.1 in (
        h.0,
        omega (
          arith,
          h.1,
          count_is s.0 rs d s.1,
          count_is (s.0 ++ take used piece) more e h.2,
          length-append s.0 (take used piece),
          length-take-le used piece h.0,
        ),
      ))
  many_fed true f alive = ∥∥₁_elim alive (Prim.hlevel props) (λ s.
      let h = f.fed s.0 s.1 in (h.0.within, omega (arith, h.3, count_is s.0 rs d s.1, count_is [] [] e h.2)))

-- ==== An answer to a prefix of a piece is one to the piece.

-- where an engine stands there are no bytes, or they end inside a blob
pub are_cut_off : (limits : Allowance) (bs : List ℕ) (offset : ℕ) (between : Bool)
    → IsEnd limits bs offset between → AreCutOff limits bs
are_cut_off limits bs offset true none = inl none
are_cut_off limits bs offset false cut = inr (offset, cut)

module _ {S : Type 0} (holds : S → Notes → Type 0) (known : Type 0) (limits : Allowance) (start : ℕ)
    (bs xs ys : List ℕ) (rs : List Row) (e : Engine) (new : S) where
  longer : (used : ℕ) → used ≤ length xs → used ≤ length (xs ++ ys)
  longer used few = omega (arith, few, length-append xs ys)

  pub grown : (answer : Result (ℕ × Bool) Stop) → IsFed holds known limits start bs xs answer rs e new
      → IsFed holds known limits start bs (xs ++ ys) answer rs e new
  grown (Ok (used, false)) f =
      let same : take used xs ≡ take used (xs ++ ys) = sym (take-append-le used xs ys f.0) in
      let both = subst (λ l. (s : StandsAt (bs ++ l) rs e) × (known → holds new (notes_at s))) same (f.2, f.3) in
      (longer used f.0, f.1, both.0, both.1)
  grown (Ok (used, true)) f =
      let m = f.0 in
      let same : take used xs ≡ take used (xs ++ ys) = sym (take-append-le used xs ys m.within) in
      let both = subst (λ l. (x : Blob limits (bs ++ l) m.geometry)
      × (known → HoldsSpans holds new start x)) same (m.blob, f.1) in (
        record {
          some = m.some;
          within = longer used m.within;
          geometry = m.geometry;
          blob = both.0;
          made = m.made;
        },
        both.1,
        f.2,
        f.3,
      )
  grown (Err Memory) f = record {
    used = f.used;
    some = f.some;
    within = longer f.used f.within;
    part = rw (take-append-le f.used xs ys f.within) f.part;
  }
  grown (Err (Refused why)) f = record {
    used = f.used;
    some = f.some;
    within = longer f.used f.within;
    fault = λ more. rw (take-append-le f.used xs ys f.within) (f.fault more);
  }

piece_fed : {S : Type 0} (holds : S → Notes → Type 0) (d e : Engine) (rs more : List Row)
    (old new : S) (piece : List ℕ) (count : ℕ) (answer : Result (ℕ × Bool) Stop)
    → FedBy holds d rs old (take count piece) answer e more new → FedBy holds d rs old piece answer e more new
piece_fed holds d e rs more old new piece count answer fed = λ bs s.
    let known : Type 0 = holds old (notes_at s) in
    subst (λ l. IsFed holds known (allowance_of d) d.start bs l answer more e new) (take-append-drop count piece)
    (grown holds known (allowance_of d) d.start bs (take count piece) (drop count piece) more e new answer (fed bs s))

-- a piece of one byte
only_byte : (piece : List ℕ) (byte : ℕ) → length piece ≡ 1 → byte ≡ get_or piece 0 0 → take 1 piece ≡ byte ∷ []
only_byte (x ∷ []) byte one is = ap (λ y. y ∷ []) (sym is)
only_byte _ byte one is = absurd (omega (arith, one))

module _ {S : Type 0} {holds : S → Notes → Type 0} {d e : Engine} {rs more : List Row} {old new : S}
    {piece : List ℕ} where
  -- bytes of it were used
  pub cut_feeds : (count used : ℕ) (ends : Bool) → IsAnswer holds d rs old (take count piece) (Ok (used, ends))
      e more new → IsAlive rs d → (d.start + count_of d) + count ≤ MAX_BYTES
      → (ends ≡ false → used ≡ length piece) → Feeds holds d rs old piece (Ok (used, ends)) e more new
  cut_feeds count used ends f alive room all =
      let whole : IsAnswer holds d rs old piece (Ok (used, ends)) e more new = record {
        limits = f.limits;
        fed = piece_fed holds d e rs more old new piece count (Ok (used, ends)) f.fed;
      } in
      let cut = many_fed ends f alive in
      record {
        limits = f.limits;
        fed = whole.fed;
        within = (many_fed ends whole alive).0;
        all = all;
        few = omega (arith, cut.0, cut.1, length-take count piece, room);
        alive = alive_fed ends whole alive;
        unread = refl;
      }

  halted : (why : BlobFault) → e.limits ≡ d.limits → FedPiece holds d rs old piece (Err why) e more new
      → failed_by_read {A = ℕ × Bool} (Err why) ≡ false → Feeds holds d rs old piece (Err why) e more new
  halted why limits fed unread =
      record { limits = limits; fed = fed; within = tt; all = tt; few = tt; alive = tt; unread = unread }

  -- the engine stopped
  pub stopped : {place : ℕ} (count : ℕ) (stop : Stop) → IsAnswer holds d rs old (take count piece) (Err stop) e more new
      → place ≡ d.start + offset_in e → Feeds holds d rs old piece (Err (fault_of place stop)) e more new
  stopped count Memory f at =
      halted fault.Memory f.limits (piece_fed holds d e rs more old new piece count (Err Memory) f.fed) refl
  stopped {place} count (Refused why) f at = halted (fault.At place why) f.limits
      (piece_fed holds d e rs more old new piece count (Err (Refused why)) f.fed, at) refl

  -- the stream has no room for all of the piece
  pub too_far : (used count : ℕ) (ends : Bool) → ends ≡ false
      → TakesAll (length (take count piece)) (Ok (used, ends))
      → FedBy holds d rs old (take count piece) (Ok (used, ends)) e more new
      → (d.start + count_of d) + count ≡ MAX_BYTES → count < length piece → e.limits ≡ d.limits
      → ((bs : List ℕ) (rs : List Row) → StandsAt bs rs e → AreCutOff (allowance_of e) bs)
      → Feeds holds d rs old piece (Err (fault.Device TooLong)) e more new
  too_far used count true off all fed full less limits cut = absurd cc
  too_far used count false off all fed full less limits cut = halted (fault.Device TooLong) limits (
    refl,
    omega (arith, full, less),
    λ bs s. let room : count ≡ MAX_BYTES - (d.start + count_of d) = omega (arith, full) in
        let whole : take used (take count piece) ≡ take (MAX_BYTES - (d.start + count_of d)) piece =
        ap (λ n. take n (take count piece)) all ∙ take-length (take count piece) ∙ ap (λ n. take n piece) room in
        subst (λ l. AreCutOff l (bs ++ take (MAX_BYTES - (d.start + count_of d)) piece)) limits
        (cut _ more (subst (λ l. StandsAt (bs ++ l) more e) whole (fed bs s).2)),
  ) refl

  -- it is one byte, which was used
  pub byte_feeds : {byte : ℕ} (ends : Bool) → e.limits ≡ d.limits → length piece ≡ 1 → byte ≡ get_or piece 0 0
      → FedBy holds d rs old (byte ∷ []) (Ok (1, ends)) e more new → IsAlive rs d
      → d.start + count_of d < MAX_BYTES → Feeds holds d rs old piece (Ok (1, ends)) e more new
  byte_feeds {byte} ends limits one is fed alive room = cut_feeds 1 1 ends (record {
    limits = limits;
    fed = subst (λ l. FedBy holds d rs old l (Ok (1, ends)) e more new) (sym (only_byte piece byte one is)) fed;
  }) alive (omega (arith, room)) (λ off. sym one)

  -- it is one byte, at which the engine stopped
  pub byte_stopped : {byte place : ℕ} (stop : Stop) → e.limits ≡ d.limits → length piece ≡ 1 → byte ≡ get_or piece 0 0
      → FedBy holds d rs old (byte ∷ []) (Err stop) e more new
      → place ≡ d.start + offset_in e → Feeds holds d rs old piece (Err (fault_of place stop)) e more new
  byte_stopped {byte} stop limits one is fed at = stopped 1 stop (record {
    limits = limits;
    fed = subst (λ l. FedBy holds d rs old l (Err stop) e more new) (sym (only_byte piece byte one is)) fed;
  }) at

-- all bytes of it were used, if no blob ended
pub all_used : (used many : ℕ) (ends : Bool) → TakesAll many (Ok (used, ends)) → ends ≡ false → used ≡ many
all_used used many false all off = all
all_used used many true all off = absurd cc

-- ==== Bytes that leave an input one piece after another, and what is known of those that are left.

-- what follows for all known bytes from what holds of those that are left
pub known_after : {P : List ℕ → Type 0} (Q : List ℕ → Type 0) (a b : Option (List ℕ))
    (bytes : List ℕ) → Consumes a b bytes → IfSome b P
    → ((rest : List ℕ) → P rest → Q (bytes ++ rest)) → IfSome a Q
known_after Q None b bytes loses h so = tt
known_after Q (Some xs) None bytes loses h so = absurd loses
known_after Q (Some xs) (Some ys) bytes loses h so = subst Q (sym loses) (so ys h)

-- a part that ends in further bytes
pub part_after : {limits : Allowance} (bs xs : List ℕ) {ys : List ℕ} → PartIn limits (bs ++ xs) ys
    → PartIn limits bs (xs ++ ys)
part_after {limits} bs xs {ys} h = record {
  used = length xs + h.used;
  some = (let some = h.some in omega (arith, some));
  within = (let few = h.within in omega (arith, few, length-append xs ys));
  part = subst (IsJudged limits) (append_assoc bs xs (take h.used ys)
      ∙ ap (λ l. bs ++ l) (sym (take-append-add xs ys h.used))) h.part;
}

-- a piece without bytes
pub none_in : (piece : List ℕ) (empty : Bool) → empty ≡ nat_eq (length piece) 0 → empty ≡ true → piece ≡ []
none_in piece empty is on = nil_from_length piece (is_zero (length piece) (sym is ∙ on))
  where
    is_zero : (n : ℕ) → nat_eq n 0 ≡ true → n ≡ 0
    is_zero n same = grind (arith, common_steps)

-- whether a fault of an input is a failed read
pub read_failed : (why : InFault) → is_read why ≡ failed_by_read {A = Bool} (Err (Device why))
read_failed Read = refl
read_failed _ = refl

module _ {R : Type 0} {read : Ghosts R} {a b : Input R read} where
  -- a fill loses nothing
  pub left_none : Keeps (rest_of a) (rest_of b) → given b ≡ given a → Left a b []
  left_none keeps same = record {
    consumed = Consumes-kept (rest_of a) (rest_of a) (rest_of b) [] (Consumes-nil (rest_of a)) keeps;
    counted = omega (arith, same);
  }

  -- bytes that leave one after another
  pub left_join : {c : Input R read} {xs ys : List ℕ} → Left a b xs → Left b c ys → Left a c (xs ++ ys)
  left_join {c} {xs} {ys} first second = record {
    consumed = Consumes-trans (rest_of a) (rest_of b) (rest_of c) xs ys first.consumed second.consumed;
    counted = omega (arith, first.counted, second.counted, length-append xs ys);
  }

  -- held bytes leave
  pub held_left : {piece : List ℕ} {used : ℕ} → piece ≡ held_of a → used ≤ length piece
      → Consumes (rest_of a) (rest_of b) (take used (held_of a))
      → given b ≡ given a + used → Left a b (take used piece)
  held_left {piece} {used} is within loses counted = record {
    consumed = subst (λ l. Consumes (rest_of a) (rest_of b) (take used l)) (sym is) loses;
    counted = omega (arith, counted, length-take-le used piece within);
  }

  -- why an input gave none, after bytes that left
  pub none_from : {bytes : List ℕ} (c : Input R read) (why : InFault) → Left a b bytes
      → is_spent b ≢ true → HasNone why b c → HasNone why a c
  none_from c Read left live none = none
  none_from {bytes} c TooLong left live none = (
    none.0,
    known_after (λ rest. MAX_BYTES < given a + length rest) (rest_of a) (rest_of b) bytes left.consumed none.1
        (λ rest long. omega (arith, long, left.counted, length-append bytes rest)),
  )
  none_from c Spent left live none = absurd (live none)

-- why a fill gave none
pub fill_none : {A R : Type 0} {read : Ghosts R} {r : Result A InFault} (a b : Input R read)
    (why : InFault) → r ≡ Err why → given b ≡ given a
    → (r ≡ Err TooLong → (given a ≡ MAX_BYTES) × IfSome (rest_of a) (λ rest. rest ≢ []))
    → (r ≡ Err Read → rest_of b ≡ told_by b)
    → (r ≡ Err Spent → is_spent a ≡ true) → HasNone why a b
fill_none a b Read is same long none spent = none is
fill_none a b TooLong is same long none spent = let h = long is in
    (same ∙ h.0, IfSome_then (rest_of a) h.1 (λ rest some. more rest h.0 some))
  where
    more : (rest : List ℕ) → given a ≡ MAX_BYTES → rest ≢ [] → MAX_BYTES < given a + length rest
    more [] full some = absurd (some refl)
    more (x ∷ rest) full some = omega (arith, full)
fill_none a b Spent is same long none spent = spent is

-- ==== The turns of a call that reads a blob of an input.

-- the bytes end inside a blob
pub halts_end : {R : Type 0} {read : Ghosts R} {a b : Input R read} (limits : Allowance) (start : ℕ)
    (bs : List ℕ) (why : BlobFault)
    → IsAtEnd (rest_of b) → Left a b [] → IsCutAt limits start bs why → ReadsNoBlob limits start bs a b why
halts_end {a = a} {b = b} limits start bs (fault.At offset reason) end left h =
    Consumes-whole (rest_of a) (rest_of b) [] (λ rest. (within : ℕ)
    × FirstFault limits (bs ++ rest) within (reason_of reason) × (offset ≡ start + within))
    left.consumed end (h.0, subst (λ l. FirstFault limits l h.0 (reason_of reason)) (sym (append-nil bs)) h.1, h.2)
halts_end limits start bs why end left h = absurd h

module _ {R : Type 0} {read : Ghosts R} {a b : Input R read} {bytes : List ℕ}
    (left : Left a b bytes) (live : is_spent b ≢ true)
    (c : Input R read) (limits : Allowance) (start : ℕ) (bs : List ℕ) where
  -- what is said after bytes that left, is said before them
  halts_after : (why : BlobFault) → ReadsNoBlob limits start (bs ++ bytes) b c why → ReadsNoBlob limits start bs a c why
  halts_after fault.Memory h = known_after (PartIn limits bs) (rest_of a) (rest_of b) bytes
      left.consumed h (λ rest part. part_after bs bytes part)
  halts_after (fault.At offset reason) h =
      known_after (λ rest. (within : ℕ) × FirstFault limits (bs ++ rest) within (reason_of reason)
      × (offset ≡ start + within)) (rest_of a) (rest_of b) bytes
      left.consumed h (λ rest f. (
        f.0,
        subst (λ l. FirstFault limits l f.0 (reason_of reason))
            (append_assoc bs bytes rest) f.1,
        f.2,
      ))
  halts_after (fault.Device why) (more, last, cut, none) = (
    bytes ++ more,
    left_join left last,
    subst (AreCutOff limits) (append_assoc bs bytes more) cut,
    none_from c why left live none,
  )
  halts_after fault.Spent h = absurd h

  blob_after : {S : Type 0} (holds : S → Notes → Type 0) (told known : Type 0) (e : Engine)
      (more : List Row) (v : S) (answer : Result Bool BlobFault)
      → (told → known) → ReadsBlob holds known limits start (bs ++ bytes) b c answer e more v
      → ReadsBlob holds told limits start bs a c answer e more v
  blob_after holds told known e more v (Ok true) tells h =
      let m = h.1 in
      let both = subst (λ l. (x : Blob limits l h.0) × (known → HoldsSpans holds v start x)
      × (e.start ≡ start + length l)) (append_assoc bs bytes m.bytes) (m.blob, h.2, h.5) in (
        h.0,
        record {
          bytes = bytes ++ m.bytes;
          left = left_join left m.left;
          blob = both.0;
          unspent = m.unspent;
        },
        λ k. both.1 (tells k),
        h.3,
        h.4,
        both.2,
      )
  blob_after holds told known e more v (Ok false) tells h =
      (bytes ++ h.0, left_join left h.1, h.2, sym (append_assoc bs bytes h.0) ∙ h.3)
  blob_after holds told known e more v (Err why) tells h = halts_after why h

-- a piece begins the rest
module _ {S : Type 0} (holds : S → Notes → Type 0) {R : Type 0} {read : Ghosts R} (a : Input R read)
    (d e : Engine) (rs more : List Row) (told now : S) (piece : List ℕ)
    (starts : IfSome (rest_of a) (λ rest. StartsWith rest piece))
    (bs : List ℕ) (s : StandsAt bs rs d) where
  in_rest : (why : Stop) (rest : List ℕ) → StartsWith rest piece
      → IsFed holds (holds told (notes_at s)) (allowance_of d) d.start bs piece (Err why) more e now
      → IsFed holds (holds told (notes_at s)) (allowance_of d) d.start bs rest (Err why) more e now
  in_rest why rest is fed =
      subst (λ l. IsFed holds (holds told (notes_at s)) (allowance_of d) d.start bs l (Err why) more
      e now) (sym (starts_with_rest rest piece is))
      (grown holds (holds told (notes_at s)) (allowance_of d) d.start bs piece
      (drop (length piece) rest) more e now (Err why) fed)

  halts_in : {place : ℕ} (why : Stop) → place ≡ d.start + offset_in e
      → FedBy holds d rs told piece (Err why) e more now
      → ReadsNoBlob (allowance_of d) d.start bs a a (fault_of place why)
  halts_in stop.Memory at f = IfSome_then (rest_of a) starts (λ rest is. in_rest stop.Memory rest is (f bs s))
  halts_in (stop.Refused why) at f =
      IfSome_then (rest_of a) starts (λ rest is. let h : RefusedIn (allowance_of d) bs rest
      (offset_in e) (reason_of why) = in_rest (stop.Refused why) rest is (f bs s) in (
        offset_in e,
        subst (λ l. FirstFault (allowance_of d) l (offset_in e) (reason_of why))
            (append_assoc bs (take h.used rest) (drop h.used rest)
            ∙ ap (λ l. bs ++ l) (take-append-drop h.used rest)) (h.fault (drop h.used rest)),
        at,
      ))

module _ {S : Type 0} {holds : S → Notes → Type 0} {R : Type 0} {read : Ghosts R}
    {a b : Input R read} {d e : Engine} {rs mid : List Row} {told now : S} where
  -- a blob that is read after bytes that led on
  pub onto : {c : Input R read} {answer : Result Bool BlobFault} {x : Engine} {more : List Row}
      {v : S} → Goes holds d rs told a b e mid now
      → Reads holds e mid now b c answer x more v → Reads holds d rs told a c answer x more v
  onto {c} {answer} {x} {more} {v} g r = record {
    same_tap = r.same_tap ∙ g.same_tap;
    failures = r.failures ∙ ap (count_failure (failed_by_read answer)) g.failures;
    limits = r.limits ∙ g.limits;
    blob = λ bs s. let l = g.leads bs s in
        let known : Type 0 = holds now (notes_at l.0) in
        let here = subst (λ q. ReadsBlob holds known q e.start (bs ++ g.bytes) b c answer x more v)
        g.limits (r.blob (bs ++ g.bytes) l.0) in
        blob_after g.left (λ on. absurd (let live = g.live in cc (on, live))) c (allowance_of d)
        d.start bs holds (holds told (notes_at s)) known x more v answer l.1
        (subst (λ o. ReadsBlob holds known (allowance_of d) o (bs ++ g.bytes) b c answer x more v) l.2 here);
  }

  -- bytes of a piece were fed
  pub turned : {piece : List ℕ} (used : ℕ) (ends : Bool) → Left a b (take used piece)
      → is_spent b ≡ false → input_tap b ≡ input_tap a
      → IsAnswer holds d rs told piece (Ok (used, ends)) e mid now → Turns holds d rs told a b (Ok ends) e mid now
  turned {piece} used false left live tap f = record {
    bytes = take used piece;
    left = left;
    leads = λ bs s. let h = f.fed bs s in (h.2, h.3, h.1);
    limits = f.limits;
    same_tap = ap (λ t. t.ghost_name) tap;
    failures = ap (λ t. failures_of t.now) tap;
    live = live;
  }
  turned {piece} used true left live tap f = record {
    same_tap = ap (λ t. t.ghost_name) tap;
    failures = ap (λ t. failures_of t.now) tap;
    limits = f.limits;
    blob = λ bs s. let h = f.fed bs s in let m = h.0 in (
      m.geometry,
      record { bytes = take used piece; left = left; blob = m.blob; unspent = live },
      h.1,
      m.made,
      h.2,
      omega (arith, h.3, length-append bs (take used piece), length-take-le used piece m.within),
    );
  }

-- a stop of an engine is no failed read
unread : (place : ℕ) (why : Stop) → failed_by_read {A = Bool} (Err (fault_of place why)) ≡ false
unread place stop.Memory = refl
unread place (stop.Refused why) = refl

-- a piece was refused
pub refused : {S : Type 0} {holds : S → Notes → Type 0} {R : Type 0} {read : Ghosts R}
    {a : Input R read} {d e : Engine} {rs more : List Row} {told now : S} {piece : List ℕ}
    {place : ℕ} (why : Stop) → place ≡ d.start + offset_in e
    → IfSome (rest_of a) (λ rest. StartsWith rest piece)
    → IsAnswer holds d rs told piece (Err why) e more now
    → Reads holds d rs told a a (Err (fault_of place why)) e more now
refused {holds = holds} {a = a} {d} {e} {rs} {more} {told} {now} {piece} {place} why at starts f = record {
  same_tap = refl;
  failures = ap (λ t. count_failure t (input_failures a)) (sym (unread place why));
  limits = f.limits;
  blob = λ bs s. halts_in holds a d e rs more told now piece starts bs s why at f.fed;
}

-- an input gave no byte, or it ended
module _ {S : Type 0} {holds : S → Notes → Type 0} {R : Type 0} {read : Ghosts R} {a b : Input R read}
    {d : Engine} {rs : List Row} {told : S} (left : Left a b [])
    (tap : (input_tap b).ghost_name ≡ (input_tap a).ghost_name) where
  pub not_filled : (why : InFault) → input_failures b ≡ count_failure (is_read why) (input_failures a)
      → ((bs : List ℕ) (rs : List Row) → StandsAt bs rs d → AreCutOff (allowance_of d) bs)
      → HasNone why a b → Reads holds d rs told a b (Err (fault.Device why)) d rs told
  not_filled why failures cut none = record {
    same_tap = tap;
    failures = failures ∙ ap (λ t. count_failure t (input_failures a)) (read_failed why);
    limits = refl;
    blob = λ bs s. (
      [],
      left,
      subst (AreCutOff (allowance_of d)) (sym (append-nil bs)) (cut bs rs s),
      none,
    );
  }

  pub ended : {A : Type 0} (answer : Result A BlobFault) → input_failures b ≡ input_failures a
      → failed_by_read answer ≡ false → IsAtEnd (rest_of b)
      → ((bs : List ℕ) (rs : List Row) → StandsAt bs rs d → EndsAt (allowance_of d) d.start bs answer)
      → Reads holds d rs told a b (result_and answer (Ok false)) d rs told
  ended (Ok done) failures unread end ends = record {
    same_tap = tap;
    failures = failures;
    limits = refl;
    blob = λ bs s. ([], left, end, append-nil bs ∙ ends bs rs s);
  }
  ended (Err why) failures unread end ends = record {
    same_tap = tap;
    failures = failures ∙ ap (λ t. count_failure t (input_failures a)) (sym unread);
    limits = refl;
    blob = λ bs s. halts_end (allowance_of d) d.start bs why end left (ends bs rs s);
  }

-- a fill loses nothing
pub filled : {S : Type 0} {holds : S → Notes → Type 0} {R : Type 0} {read : Ghosts R}
    {a b : Input R read} {d : Engine} {rs : List Row} {told : S}
    → Left a b [] → (input_tap b).ghost_name ≡ (input_tap a).ghost_name
    → input_failures b ≡ input_failures a → is_spent b ≡ false → Goes holds d rs told a b d rs told
filled {holds = holds} {d = d} {rs} {told} left tap failures live = record {
  bytes = [];
  left = left;
  leads = λ bs s. subst (λ l. (t : StandsAt l rs d)
      × (holds told (notes_at s) → holds told (notes_at t)) × (d.start ≡ d.start))
      (sym (append-nil bs)) (s, λ known. known, refl);
  limits = refl;
  same_tap = tap;
  failures = failures;
  live = live;
}
