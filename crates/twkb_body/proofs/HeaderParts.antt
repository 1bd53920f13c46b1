-- A reader after the parts of a header, those of a point too, and what it notes.
use Rattle.std.proofs.Common.{◌≡◌, ℕ, List, [], ◌++◌, refl, sym, subst, append_assoc, append-nil, length-append, arith}
use Rattle.std.proofs.Common.{◌+◌, length, ◌∙◌, ap, None, suc, ◌<◌, ◌∷◌, false, ℤ, Option, zero, ◌-◌, take, drop, true}
use Rattle.std.proofs.Common.{◌/◌, ◌%◌, Some}
use Rattle.std.specs.Prelude.{not, ◌+ℤ◌, if◌then◌else◌, get_or, ◌&&◌, ◌||◌, nat_eq, nat_lt, nat_le}
use Rattle.std.proofs.Math.Seq.{take-suc}
use Rattle.std.proofs.lemmas.List.{length-take-le}
use Rattle.std.proofs.lemmas.Bool.Decides.{nat_tests}
use Rattle.twkb_num.specs.Spelling.{unzigzag_of}
use Rattle.twkb_num.specs.Varint.{IsVarint}
use Rattle.twkb_points.specs.Point.{Point, point_at, origin}
use Rattle.twkb_tree.specs.Limits.{Allowance}
use Rattle.twkb_tree.specs.Rows.{Row}
use Rattle.twkb_tree.specs.Tree.{Ids}
use Rattle.twkb_grammar.specs.Machine.{Sums, BodyForm, Head, added, Kind, kind_number, asked, with_option, PointForm}
use Rattle.twkb_grammar.specs.Machine.{SimpleKind, kind_at}
use Rattle.twkb_grammar.specs.Noting.{Notes, note_metadata, noted_by}
use Rattle.twkb_grammar.specs.Roles.{Item, X, Y, Role, Metadata, Size, Box, IsNumber, item, Extended, where_set}
use Rattle.twkb_grammar.specs.Roles.{Header}
use Rattle.twkb_grammar.specs.Fault.{CoordinateRange, moved, nodes_by, points_by, BadType, TooManyPoints}
use Rattle.twkb_grammar.specs.Fault.{announces_point}
use Rattle.twkb_grammar.specs.Reading.{unless, objection, Gives}
use Rattle.twkb_grammar.specs.Bits.{bit}
use Rattle.twkb_body.specs.Outline.{Outline, FrameOutline, Wanted, WantedY, OnBody, shut, Stage, OnMetadata, OnOption}
use Rattle.twkb_body.specs.Outline.{OnEnd, begins, options, OnHeader}
use Rattle.twkb_body.specs.Reading.{sums_past, Pair, point_after, Outlined, outline_after, change_after, NotedOutline}
use Rattle.twkb_body.specs.Reading.{notes_in}
use Rattle.twkb_body.specs.Growing.{applied, Takes, header_change, NewRow, own_of, Nothing}
use Rattle.twkb_body.specs.HeaderParts.{IsNumberPart, bare_head, AreNumberParts, sides, sized_head, SidesInFront}
use Rattle.twkb_body.specs.HeaderParts.{BoxInFront, SizeInFront, PartsInFront}
use Rattle.twkb_body.specs.Front.{NumberInFront}
use Rattle.twkb_body.proofs.Outlined.{noted_item, outlined_item, outlined_takes}
use Rattle.twkb_body.proofs.InFront.{used_join, one_within}

-- ==== The state of a reader after no bytes, and after two pieces.

-- sums are the same if their parts are
pub sums_same : {e f : Sums} → e.bytes ≡ f.bytes → e.position ≡ f.position → e.nodes ≡ f.nodes
    → e.points ≡ f.points → e ≡ f
sums_same b p n q = λ t. record { bytes = b t; position = p t; nodes = n t; points = q t }

-- the sums after two pieces
sums_join : (e : Sums) (xs ys : List ℕ) (at to : Point)
    → sums_past (sums_past e xs at) ys to ≡ sums_past e (xs ++ ys) to
sums_join e xs ys at to = sums_same (omega (arith, length-append xs ys)) refl refl refl

-- the sums after no bytes
sums_still : (e : Sums) (at : Point) → e.position ≡ at → e ≡ sums_past e [] at
sums_still e at same = sums_same (omega arith) same refl refl

module _ (limits : Allowance) (front : List ℕ) (e : Sums) (o : Outline) (rs : List Row) (told : ℕ → Notes) where
  pub noted_still : (at : Point) → e.position ≡ at → NotedOutline limits front e o rs told
      → NotedOutline limits (front ++ []) (sums_past e [] at) o rs told
  noted_still at same n = subst (λ T. T)
      (λ t. NotedOutline limits (sym (append-nil front) t) (sums_still e at same t) o rs told) n

  pub noted_join : (xs ys : List ℕ) (at to : Point)
      → NotedOutline limits ((front ++ xs) ++ ys) (sums_past (sums_past e xs at) ys to) o rs told
      → NotedOutline limits (front ++ (xs ++ ys)) (sums_past e (xs ++ ys) to) o rs told
  noted_join xs ys at to n = subst (λ T. T)
      (λ t. NotedOutline limits (append_assoc front xs ys t) (sums_join e xs ys at to t) o rs told) n

-- ==== The two numbers of a point add no notes.

-- the notes after the x of a point that was expected
pub noted_x : (limits : Allowance) (front : List ℕ) (e : Sums) (gs : List FrameOutline) (h : Head)
    (f : BodyForm) (ids : Ids) (lefts : List ℕ) (rs : List Row) (told : ℕ → Notes) (bytes : List ℕ)
    (to : Point)
    → NotedOutline limits front e (gs, OnBody h f ids (Wanted 0 lefts)) rs told
    → (p : Pair e.position bytes to)
    → NotedOutline limits (front ++ p.x_bytes) (added e (record { role = X; number = p.x; bytes = p.x_bytes }))
    (gs, OnBody h f ids (WantedY lefts)) rs told
noted_x limits front e gs h f ids lefts rs told bytes to r p =
    noted_item limits front e (gs, OnBody h f ids (Wanted 0 lefts)) rs told
    (record { role = X; number = p.x; bytes = p.x_bytes }) r refl p.x_spelled
    (ap (λ b. unless (not b) CoordinateRange None) p.x_kept)

-- the notes after a point that was expected
pub noted_point : (limits : Allowance) (front : List ℕ) (e : Sums) (gs : List FrameOutline) (h : Head)
    (f : BodyForm) (ids : Ids) (lefts : List ℕ) (rs : List Row) (told : ℕ → Notes) (bytes : List ℕ)
    (to : Point)
    → NotedOutline limits front e (gs, OnBody h f ids (Wanted 0 lefts)) rs told → Pair e.position bytes to
    → NotedOutline limits (front ++ bytes) (sums_past e bytes to) (gs, shut h f ids 0 lefts)
    (applied (point_after to gs h f ids) rs) told
noted_point limits front e gs h f ids lefts rs told bytes to r p =
    let i : Item = record { role = X; number = p.x; bytes = p.x_bytes } in
    let j : Item = record { role = Y; number = p.y; bytes = p.y_bytes } in
    let a : NotedOutline limits (front ++ p.x_bytes) (added e i) (gs, OnBody h f ids (WantedY lefts)) rs told =
    noted_x limits front e gs h f ids lefts rs told bytes to r p in
    let there : point_at (e.position.x +ℤ unzigzag_of p.x) (e.position.y +ℤ unzigzag_of p.y) ≡ to = sym p.leads in
    let b : NotedOutline limits ((front ++ p.x_bytes) ++ p.y_bytes) (added (added e i) j)
    (gs, shut h f ids 0 lefts)
    (applied (point_after (point_at (e.position.x +ℤ unzigzag_of p.x)
    (e.position.y +ℤ unzigzag_of p.y)) gs h f ids) rs) told =
    noted_item limits (front ++ p.x_bytes) (added e i) (gs, OnBody h f ids (WantedY lefts)) rs told
    j a refl p.y_spelled (ap (λ b. unless (not b) CoordinateRange None) p.y_kept) in
    let as_long : length bytes ≡ length p.x_bytes + length p.y_bytes = ap length p.whole
    ∙ length-append p.x_bytes p.y_bytes in
    let sum : (e.bytes + length p.x_bytes) + length p.y_bytes ≡ e.bytes + length bytes = omega (arith, as_long) in
    let nodes : (e.nodes + 0) + 0 ≡ e.nodes = omega arith in
    let points : (e.points + 0) + 0 ≡ e.points = omega arith in
    let same : added (added e i) j ≡ sums_past e bytes to = λ t.
    record { bytes = sum t; position = there t; nodes = nodes t; points = points t } in
    let spelled : (front ++ p.x_bytes) ++ p.y_bytes ≡ front ++ bytes = append_assoc front p.x_bytes
    p.y_bytes ∙ ap (λ l. front ++ l) (sym p.whole) in
    subst (λ T. T) (λ t. NotedOutline limits (spelled t) (same t) (gs, shut h f ids 0 lefts)
    (applied (point_after (there t) gs h f ids) rs) told) b

-- ==== The two numbers of a point, taken at once.

pub outlined_point : (limits : Allowance) (front : List ℕ) (e : Sums) (gs : List FrameOutline) (h : Head)
    (f : BodyForm) (ids : Ids) (lefts : List ℕ) (rs : List Row) (bytes : List ℕ) (to : Point)
    → Outlined limits front e (gs, OnBody h f ids (Wanted 0 lefts)) rs → Pair e.position bytes to
    → Outlined limits (front ++ bytes) (sums_past e bytes to) (gs, shut h f ids 0 lefts)
    (applied (point_after to gs h f ids) rs)
outlined_point limits front e gs h f ids lefts rs bytes to r p =
    (noted_point limits front e gs h f ids lefts rs (λ start. notes_in start r) bytes to
    (record { outlined = r; notes = λ start. refl }) p).outlined

-- a point that is added goes into the row of a line
pub point_takes : (limits : Allowance) (front : List ℕ) (e : Sums) (gs : List FrameOutline) (h : Head)
    (f : BodyForm) (ids : Ids) (lefts : List ℕ) (rs : List Row) (bytes : List ℕ) (to : Point)
    → Outlined limits front e (gs, OnBody h f ids (Wanted 0 lefts)) rs → Pair e.position bytes to
    → Takes (point_after to gs h f ids) rs
point_takes limits front e gs h f ids lefts rs bytes to r p =
    let i : Item = record { role = X; number = p.x; bytes = p.x_bytes } in
    let a : Outlined limits (front ++ p.x_bytes) (added e i) (gs, OnBody h f ids (WantedY lefts)) rs =
    outlined_item limits front e (gs, OnBody h f ids (Wanted 0 lefts)) rs i r refl p.x_spelled
    (ap (λ b. unless (not b) CoordinateRange None) p.x_kept) in
    outlined_takes limits (front ++ p.x_bytes) (added e i) (gs, OnBody h f ids (WantedY lefts)) rs to 0 a

-- ==== A reader after the optional parts of a header that are numbers.

-- ---- optional parts

-- one part is a list of parts
pub one_part : (h : Head) (at n : ℕ) (r : Role) (bytes : List ℕ) → IsNumberPart r → IsVarint bytes n
    → AreNumberParts h at (r ∷ []) bytes (with_option h r n (at + length bytes))
one_part h at n r bytes is v = (n, bytes, [], is, v, sym (append-nil bytes), (refl, refl))

-- some parts and the parts after them are parts
pub parts_join : (h mid to : Head) (at : ℕ) (rs qs : List Role) (xs ys : List ℕ)
    → AreNumberParts h at rs xs mid → AreNumberParts mid (at + length xs) qs ys to
    → AreNumberParts h at (rs ++ qs) (xs ++ ys) to
parts_join h mid to at [] qs xs ys (none, same) next =
    let still : at + length xs ≡ at = omega (arith, ap length none) in
    subst (λ T. T) (λ t. AreNumberParts (same t) (still t) qs (sym none t ++ ys) to) next
parts_join h mid to at (r ∷ rs) qs xs ys (n, part, rest, is, v, whole, more) next =
    let behind : at + length xs ≡ (at + length part) + length rest = omega
    (arith, ap length whole, length-append part rest) in (
      n,
      part,
      rest ++ ys,
      is,
      v,
      ap (λ l. l ++ ys) whole ∙ append_assoc part rest ys,
      parts_join (with_option h r n (at + length part)) mid to (at + length part) rs qs rest ys more
          (subst (λ a. AreNumberParts mid a qs ys to) behind next),
    )

-- ---- the reader

-- a part is neither a header nor an end
record IsCalmPart (limits : Allowance) (e : Sums) (r : Role) (n : ℕ) : Type 0 where
  pub number : IsNumber r
  pub free : objection limits e r n ≡ None
  pub still : moved e.position r n ≡ e.position
  pub nodes : nodes_by r n ≡ 0
  pub points : points_by r n ≡ 0
  pub silent : (start : ℕ) (w : Notes) → noted_by start e r n w ≡ w
  pub meta : (h : Head) (at : ℕ) → (with_option h r n at).meta ≡ h.meta
  pub gives : (bytes : List ℕ) → IsVarint bytes n → Gives r n bytes

calm : (limits : Allowance) (e : Sums) (r : Role) (n : ℕ) → IsNumberPart r → IsCalmPart limits e r n
calm limits e Size n is = record {
  number = tt;
  free = refl;
  still = refl;
  nodes = refl;
  points = refl;
  silent = λ start w. refl;
  meta = λ h at. refl;
  gives = λ bytes v. v;
}
calm limits e Box n is = record {
  number = tt;
  free = refl;
  still = refl;
  nodes = refl;
  points = refl;
  silent = λ start w. refl;
  meta = λ h at. refl;
  gives = λ bytes v. v;
}
calm limits e _ n is = absurd is

-- a header that goes on to a body changes no row
no_row : (d : ℕ) (id : Option ℤ) (k : Kind) (precision : ℤ) (meta : ℕ) (rs : List Role)
    (rows : List Row) → bit meta 4 ≡ false → applied (header_change d id k precision meta rs)
    rows ≡ rows
no_row d id k precision meta (r ∷ rs) rows full = refl
no_row d id k precision meta [] rows full = ap (λ b.
    applied (if b then NewRow (own_of d id k precision) else Nothing) rows) full

module _ (limits : Allowance) (gs : List FrameOutline) (k : Kind) (rows : List Row) (told : ℕ → Notes) where
  -- the state after one part
  part_read : (front : List ℕ) (e : Sums) (h : Head) (r : Role) (rs : List Role) (n : ℕ)
      (part : List ℕ) → bit h.meta 4 ≡ false → IsNumberPart r → IsVarint part n
      → NotedOutline limits front e (gs, OnOption k h r rs) rows told
      → NotedOutline limits (front ++ part) (sums_past e part e.position)
      (gs, options k (with_option h r n (e.bytes + length part)) rs) rows told
  part_read front e h r rs n part full is v there =
      let c = calm limits e r n is in
      let i : Item = record { role = r; number = n; bytes = part } in
      let sums : added e i ≡ sums_past e part e.position =
      sums_same refl c.still (omega (arith, c.nodes)) (omega (arith, c.points)) in
      let with : Head = with_option h r n (e.bytes + length part) in
      let Behind : Sums → List Row → Type 0 = λ s l.
      NotedOutline limits (front ++ part) s (gs, options k with rs) l
      (λ start. noted_by start e r n (told start)) in
      let d = subst (λ s. Behind s rows) sums
      (subst (Behind (added e i)) (no_row _ _ k h.precision h.meta rs rows full)
      (noted_item _ _ _ _ _ _ i there refl (c.gives part v) c.free)) in
      record { outlined = d.outlined; notes = λ start. d.notes start ∙ c.silent start (told start) }

  -- the state after some parts
  pub parts_read : (front : List ℕ) (e : Sums) (h to : Head) (rs : List Role) (bytes : List ℕ)
      → bit h.meta 4 ≡ false → AreNumberParts h e.bytes rs bytes to
      → NotedOutline limits front e (gs, options k h rs) rows told
      → NotedOutline limits (front ++ bytes) (sums_past e bytes e.position) (gs, options k to []) rows told
  parts_read front e h to [] bytes full (none, same) there =
      rw (none, same)
      (noted_still limits front e (gs, options k h []) rows told e.position refl there)
  parts_read front e h to (r ∷ rs) bytes full (n, part, rest, is, v, whole, more) there =
      let with = with_option h r n (e.bytes + length part) in
      let meta : bit with.meta 4 ≡ false = ap (λ m. bit m 4)
      ((calm limits e r n is).meta h (e.bytes + length part)) ∙ full in
      let next = parts_read (front ++ part) (sums_past e part e.position) with to rs rest meta more
      (part_read front e h r rs n part full is v there) in
      rw whole
      (noted_join limits front e (gs, options k to []) rows told part rest e.position e.position next)

-- the sums after a metadata byte and the parts that it asks for
abbrev pub sums_behind_header : Sums → Kind → (meta : ℕ) → (parts : List ℕ) → Sums
sums_behind_header e k meta parts = record {
  bytes = e.bytes + suc (length parts);
  position = e.position;
  nodes = e.nodes;
  points = e.points + points_by
      (Metadata (kind_number k)) meta;
}

-- a metadata byte, the parts that it asks for, and then a body: only the metadata byte adds notes
pub header_read : (limits : Allowance) (front : List ℕ) (e : Sums) (gs : List FrameOutline) (k : Kind)
    (precision : ℤ) (rows : List Row) (told : ℕ → Notes) (meta : ℕ) (parts : List ℕ)
    (size : Option ℕ) (from : ℕ) → meta < 256 → bit meta 4 ≡ false
    → objection limits e (Metadata (kind_number k)) meta ≡ None
    → (let to : Head = record { precision = precision; meta = meta; size = size; from = from } in
    AreNumberParts (bare_head precision meta (e.bytes + 1)) (e.bytes + 1) (asked meta) parts to
    → NotedOutline limits front e (gs, OnMetadata k precision) rows told
    → NotedOutline limits (front ++ meta ∷ parts) (sums_behind_header e k meta parts)
    (gs, begins k to) rows (λ start. note_metadata meta (told start)))
header_read limits front e gs k precision rows told meta parts size from low full free are there =
    let i : Item = item (Metadata (kind_number k)) meta in
    let to : Head = record { precision = precision; meta = meta; size = size; from = from } in
    let h : Head = bare_head precision meta (e.bytes + 1) in
    let noted : ℕ → Notes = λ start. note_metadata meta (told start) in
    let Behind : List ℕ → Sums → Stage → List Row → Type 0 = λ bs s q l.
    NotedOutline limits bs s (gs, q) l noted in
    let own : List ℕ = front ++ meta ∷ [] in
    let b = subst (Behind own (added e i) (options k h (asked meta)))
    (no_row _ _ k precision meta (asked meta) rows full)
    (noted_item _ _ _ _ _ _ i there refl (low, refl) free) in
    let c = parts_read limits gs k rows noted own (added e i) h to (asked meta) parts full are b in
    let goes : options k to [] ≡ begins k to = ap (λ t. if t then OnEnd to else begins k to) full in
    let sums : sums_past (added e i) parts e.position ≡ sums_behind_header e k meta parts =
    sums_same (omega arith) refl (omega arith) refl in
    subst (λ T. T) (λ t. Behind (append_assoc front (meta ∷ []) parts t) (sums t) (goes t) rows) c

-- ==== Optional parts of a header that are complete at the start of bytes.

-- ---- the sides of a box

-- one more after some
sides_push : (count : ℕ) → sides count ++ Box ∷ [] ≡ sides (suc count)
sides_push zero = refl
sides_push (suc count) = ap (λ rs. Box ∷ rs) (sides_push count)

pub sides_none : (bytes : List ℕ) → SidesInFront 0 bytes 0
sides_none bytes = record { within = omega arith; parts = λ h at. (refl, refl) }

pub sides_more : (count : ℕ) (bytes : List ℕ) (used n width : ℕ) → SidesInFront count bytes used
    → NumberInFront (take (length bytes - used) (drop used bytes)) n width
    → SidesInFront (count + 1) bytes (used + width)
sides_more count bytes used n width first number =
    let left : List ℕ = take (length bytes - used) (drop used bytes) in
    let more : sides count ++ Box ∷ [] ≡ sides (count + 1) = let one : suc count ≡ count + 1 =
    omega arith in sides_push count ∙ ap sides one in
    record {
      within = one_within bytes used width first.within number.within;
      parts = λ h at.
          subst (λ T. T) (λ t. AreNumberParts h at (more t) (sym (used_join bytes used width) t) h)
          (parts_join h h h at (sides count) (Box ∷ []) (take used bytes) (take width left)
          (first.parts h at) (one_part h (at + length (take used bytes)) n Box (take width left)
          tt number.spelled));
    }

pub box_whole : (meta : ℕ) (bytes : List ℕ) (used : ℕ) → bit meta 0 ≡ true
    → SidesInFront 4 bytes used → BoxInFront meta bytes used
box_whole meta bytes used has s = record {
  within = s.within;
  parts = λ h at. subst (λ b. AreNumberParts h at (where_set b (sides 4)) (take used bytes) h)
      (sym has) (s.parts h at);
}

-- ---- all parts

pub parts_whole : (meta : ℕ) (bytes : List ℕ) (size : Option ℕ) (from used : ℕ) → bit meta 3 ≡ false
    → SizeInFront meta bytes size from → BoxInFront meta
    (take (length bytes - from) (drop from bytes)) used
    → PartsInFront meta bytes size from (from + used)
parts_whole meta bytes size from used none first next =
    let left : List ℕ = take (length bytes - from) (drop from bytes) in
    record {
      within = one_within bytes from used first.within next.within;
      ordered = omega arith;
      parts = λ precision at.
          let h = bare_head precision meta at in
          let to = sized_head precision meta size (at + from) in
          let rest : List Role = where_set (bit meta 1) (Size ∷ []) ++ where_set (bit meta 0) (sides 4) in
          let both = parts_join h to to at (where_set (bit meta 1) (Size ∷ []))
          (where_set (bit meta 0) (sides 4)) (take from bytes) (take used left)
          (first.parts precision at) (next.parts to (at + length (take from bytes))) in
          subst (λ T. T) (λ t. AreNumberParts h at (where_set (sym none t) (Extended ∷ []) ++ rest)
          (sym (used_join bytes from used) t) to) both;
    }

-- ---- a reader after a metadata byte

-- a metadata byte at the start, and all parts that it asks for
pub read_ahead : (limits : Allowance) (front : List ℕ) (e : Sums) (gs : List FrameOutline) (k : Kind)
    (precision : ℤ) (rows : List Row) (told : ℕ → Notes) (rest : List ℕ) (size : Option ℕ)
    (from used points : ℕ) → (let meta : ℕ = get_or rest 0 0 in 0 < length rest → meta < 256
    → bit meta 4 ≡ false
    → objection limits e (Metadata (kind_number k)) meta ≡ None
    → points ≡ e.points + points_by (Metadata (kind_number k)) meta
    → PartsInFront meta (take (length rest - 1) (drop 1 rest)) size from used
    → NotedOutline limits front e (gs, OnMetadata k precision) rows told
    → NotedOutline limits (front ++ take (1 + used) rest)
    (record {
      bytes = e.bytes + (1 + used);
      position = e.position;
      nodes = e.nodes;
      points = points;
    }) (gs, begins k (sized_head precision meta size ((e.bytes + 1) + from))) rows
    (λ start. note_metadata meta (told start)))
read_ahead limits front e gs k precision rows told rest size from used points some low full free announced p there =
    let meta : ℕ = get_or rest 0 0 in
    let left : List ℕ = take (length rest - 1) (drop 1 rest) in
    let parts : List ℕ = take used left in
    let whole : meta ∷ parts ≡ take (1 + used) rest = ap (λ l. l ++ parts)
    (sym (take-suc rest 0 0 some)) ∙ sym (used_join rest 1 used) in
    let long : length parts ≡ used = length-take-le used left p.within in
    let behind : Sums = record {
      bytes = e.bytes + (1 + used);
      position = e.position;
      nodes = e.nodes;
      points = points;
    } in
    let sums : sums_behind_header e k meta parts ≡ behind =
    sums_same (omega (arith, long)) refl refl (sym announced) in
    let o : Outline = (gs, begins k (sized_head precision meta size ((e.bytes + 1) + from))) in
    let noted : ℕ → Notes = λ start. note_metadata meta (told start) in
    let read = header_read limits front e gs k precision rows told meta parts size
    ((e.bytes + 1) + from) low full free (p.parts precision (e.bytes + 1)) there in
    subst (λ T. T) (λ t. NotedOutline limits (front ++ whole t) (sums t) o rows noted) read

-- ==== The header of a point that asks for nothing, or for a size of one byte.

few : (limit points : ℕ) → points < limit → nat_le limit (points + 0) ≡ false
few limit points h = grind (arith, nat_tests)

-- a byte below 128 spells itself
byte_spells : (n : ℕ) → n < 128 → IsVarint (n ∷ []) n
byte_spells n h = record { marked = h; within = omega arith; sum = omega (arith, h); fits = omega (arith, h) }

-- the sums after this many bytes of such a point, which lead to this position
abbrev pub sums_behind : Sums → (used : ℕ) → Point → Sums
sums_behind e used to = record { bytes = e.bytes + used; position = to; nodes = e.nodes; points = e.points + 1 }

-- these bytes are the header of a point, after which its first number is expected
abbrev pub HeaderRead : Allowance → List ℕ → Sums → List FrameOutline → List Row → List ℕ → Head → Type 0
HeaderRead limits front e gs rs own h = Outlined limits (front ++ own)
    (sums_behind e (length own) origin) (gs, OnBody h PointForm None (Wanted 0 [])) rs

-- the type byte of such a point comes next
module _ (limits : Allowance) (front : List ℕ) (e : Sums) (gs : List FrameOutline) (rs : List Row)
    (first : ℕ) (r : Outlined limits front e (gs, OnHeader) rs) (low : first < 256)
    (kind : first % 16 ≡ 1) (room : e.points < limits.points) where
  -- the sums and the outline after its type byte
  abbrev typed : Sums
  typed = added e (item Header first)

  abbrev on_metadata : Outline
  on_metadata = (gs, OnMetadata (SimpleKind PointForm) (unzigzag_of (first / 16)))

  type_read : Outlined limits (front ++ first ∷ []) typed on_metadata rs
  type_read =
      let a = outlined_item limits front e (gs, OnHeader) rs (item Header first) r refl (low, refl)
      (subst (λ n. unless (nat_eq n 0 || nat_lt 7 n) BadType None ≡ None) (sym kind) refl) in
      subst (λ n. Outlined limits (front ++ first ∷ []) typed
      (gs, OnMetadata (kind_at n) (unzigzag_of (first / 16))) rs) kind a

  metadata_read : (n : ℕ) → n < 256 → objection limits typed (Metadata 1) n ≡ None
      → (let i = item (Metadata 1) n in Outlined limits ((front ++ first ∷ []) ++ n ∷ [])
      (added typed i) (outline_after typed i on_metadata)
      (applied (change_after typed i on_metadata) rs))
  metadata_read n fits free = outlined_item limits (front ++ first ∷ []) typed on_metadata rs
      (item (Metadata 1) n) type_read refl (fits, refl) free

  reach : (own bytes : List ℕ) (s : Sums) (h k : Head) → bytes ≡ front ++ own
      → s ≡ sums_behind e (length own) origin → h ≡ k
      → Outlined limits bytes s (gs, OnBody h PointForm None (Wanted 0 [])) rs
      → HeaderRead limits front e gs rs own k
  reach own bytes s h k spelled sums head a =
      rw (← spelled, ← sums, ← head) a

  -- a header that asks for nothing is read
  pub bare_header_read : HeaderRead limits front e gs rs (first ∷ 0 ∷ [])
      (record { precision = unzigzag_of (first / 16); meta = 0; size = None; from = e.bytes + 2 })
  bare_header_read =
      let two : (e.bytes + 1) + 1 ≡ e.bytes + 2 = omega arith in
      let free = ap (λ t. unless (announces_point 1 0 && t) TooManyPoints None) (few limits.points e.points room) in
      let sums : added typed (item (Metadata 1) 0) ≡ sums_behind e 2 origin =
      sums_same two refl (omega arith) (omega arith) in
      reach (first ∷ 0 ∷ []) _ _ _ _ (append_assoc front (first ∷ []) (0 ∷ [])) sums
      (λ t. record {
        precision = unzigzag_of (first / 16);
        meta = 0;
        size = None;
        from = two t;
      }) (metadata_read 0 (omega arith) free)

  -- a header that asks for a size of one byte is read
  pub sized_header_read : (n : ℕ) → n < 128 → HeaderRead limits front e gs rs (first ∷ 2 ∷ n ∷ [])
      (record { precision = unzigzag_of (first / 16); meta = 2; size = Some n; from = e.bytes + 3 })
  sized_header_read n short =
      let three : ((e.bytes + 1) + 1) + 1 ≡ e.bytes + 3 = omega arith in
      let behind = added typed (item (Metadata 1) 2) in
      let asking : Head = record { precision = unzigzag_of (first / 16); meta = 2; size = None; from = behind.bytes } in
      let sums : added behind (item Size n) ≡ sums_behind e 3 origin =
      sums_same three refl (omega arith) (omega arith) in
      let spelled = append_assoc (front ++ first ∷ []) (2 ∷ []) (n ∷ [])
      ∙ append_assoc front (first ∷ []) (2 ∷ n ∷ []) in
      let free = ap (λ t. unless (announces_point 1 2 && t) TooManyPoints None) (few limits.points e.points room) in
      let read = outlined_item limits ((front ++ first ∷ []) ++ 2 ∷ []) behind
      (gs, OnOption (SimpleKind PointForm) asking Size []) rs (item Size n)
      (metadata_read 2 (omega arith) free) refl (byte_spells n short) refl in
      reach (first ∷ 2 ∷ n ∷ []) _ _ _ _ spelled sums
      (λ t. record {
        precision = unzigzag_of (first / 16);
        meta = 2;
        size = Some n;
        from = three t;
      }) read

-- after such a header a point leads to the end of its geometry
pub header_point_read : (limits : Allowance) (front : List ℕ) (e : Sums) (gs : List FrameOutline)
    (rs : List Row) (header steps : List ℕ) (h : Head) (to : Point)
    → HeaderRead limits front e gs rs header h → Pair origin steps to
    → Outlined limits (front ++ (header ++ steps)) (sums_behind e (length (header ++ steps)) to)
    (gs, OnEnd h) (applied (point_after to gs h PointForm None) rs)
header_point_read limits front e gs rs header steps h to read pair =
    let begun = sums_behind e (length header) origin in
    let Rows : List Row = applied (point_after to gs h PointForm None) rs in
    let a = outlined_point limits (front ++ header) begun gs h PointForm None [] rs steps to read pair in
    let sums : sums_past begun steps to ≡ sums_behind e (length (header ++ steps)) to =
    sums_same (omega (arith, length-append header steps)) refl refl refl in
    subst (λ T. T) (λ t. Outlined limits (append_assoc front header steps t) (sums t) (gs, OnEnd h) Rows) a
