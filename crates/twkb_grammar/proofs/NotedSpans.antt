-- The notes of a geometry's items, and of its end, are its spans, and bytes have one list of spans.
use Rattle.std.proofs.Common.{◌≡◌, ℕ, zero, suc, ◌+◌, ◌-◌, List, [], ◌∷◌, ◌++◌, length, refl, sym, ap, ◌∙◌, subst}
use Rattle.std.proofs.Common.{arith, Option, inl, inr, Bool, true, false, ◌/◌, ◌%◌, ◌<◌, append_assoc, append-nil}
use Rattle.std.proofs.Common.{length-append}
use Rattle.std.proofs.lemmas.Bool.{cases_lt}
use Rattle.std.specs.Prelude.{⊤, ℤ, map}
use Rattle.twkb_num.specs.Varint.{IsVarint}
use Rattle.twkb_num.specs.Spelling.{zigzag_of, unzigzag_of}
use Rattle.twkb_num.proofs.ZigzagLemmas.{unzigzag_of-zigzag_of}
use Rattle.twkb_tree.specs.declared.kind.Kind.{Kind}
use Rattle.twkb_tree.specs.Tree.{Simple, point, Tree, simple, collection, Trees, end, ◌▷◌, count, Ids, flat}
use Rattle.twkb_tree.specs.Tree.{IsPrecision, IsTree, AreTrees}
use Rattle.twkb_tree.specs.Limits.{Allowance}
use Rattle.twkb_tree.specs.declared.kind.Kind.TheVariants as kind
use Rattle.twkb_grammar.specs.Roles.{Role, Header, Metadata, Extended, Count, End, Item, IsItem, Spells, join, Field}
use Rattle.twkb_grammar.specs.Roles.{AreFields, Counted, Geometries, item}
use Rattle.twkb_grammar.specs.Fault.{points_by}
use Rattle.twkb_grammar.specs.Machine.{Sums, added, sums_after, Stack, stack_after, Runs, kind_at, nothing}
use Rattle.twkb_grammar.specs.Reading.{open_by, open_after}
use Rattle.twkb_grammar.specs.Noting.{Notes, without_first, note_end, noted_by, noted, note_ends, note_ends_to}
use Rattle.twkb_grammar.specs.Noting.{changed_at, IsQuiet, shown, no_notes, note_header, note_metadata, kind_of_shape}
use Rattle.twkb_grammar.specs.Noting.{before_body, behind, spans, spans_of_all, spans_of_blob, span_of, moved_span}
use Rattle.twkb_grammar.specs.Noting.{geometries, geometries_of_all, CoversBlob}
use Rattle.twkb_grammar.specs.declared.span.Span.{Span}
use Rattle.twkb_grammar.specs.Items.{Slot, OfCount, OfId, OfPoint, filled, fields, id_fields, id_slots, slots}
use Rattle.twkb_grammar.specs.Items.{declared, end_item, header_byte, Flags, flags, flags_all, Framed, Follow, BodyAt}
use Rattle.twkb_grammar.specs.Items.{Items, ItemsOfAll, kind_of, Blob, Agrees}
use Rattle.twkb_grammar.specs.Bits.{bit}
use Rattle.twkb_grammar.proofs.Trees.{total, total_is, total-append, tree_total, some_bare}
use Rattle.twkb_grammar.proofs.Running.{points_after}
use Rattle.twkb_grammar.proofs.Bodies.{zigzag_small, bytes_after, options_each, framed_whole}
use Rattle.std.specs.List.{AllByRecursion}
use Rattle.twkb_grammar.proofs.BodiesBack.{sums_after-append}
use Rattle.std.proofs.lemmas.List.{map-append}
use Rattle.twkb_grammar.proofs.Parts.{one_blob_items}

-- ==== Ends of geometries, and what a reader notes of them.

-- all items are ends
abbrev pub AreEnds : List Item → Type 0
AreEnds [] = ⊤
AreEnds (i ∷ is) = (d : Option ℕ) × (came : ℕ) × (i.role ≡ End d came) × IsItem i × AreEnds is

no_varint : (n : ℕ) (bytes : List ℕ) → IsVarint bytes n → bytes ≡ [] → ⊥
no_varint n [] v e = v.marked
no_varint n (b ∷ bytes) v e = cc

-- an item without bytes is an end
end_role : (r : Role) (n : ℕ) (bytes : List ℕ) → Spells r n bytes → bytes ≡ [] → (d : Option ℕ)
    × (came : ℕ) × (r ≡ End d came)
end_role Header n bytes s e = let z : n ∷ [] ≡ [] = sym s.3 ∙ e in absurd cc
end_role (Metadata k) n bytes s e = let z : n ∷ [] ≡ [] = sym s.1 ∙ e in absurd cc
end_role Extended n bytes s e = let z : n ∷ [] ≡ [] = sym s.2 ∙ e in absurd cc
end_role (End d c) n bytes s e = (d, c, refl)
end_role _ n bytes s e = absurd (no_varint n bytes s e)

pub none_front : (a b : List ℕ) → a ++ b ≡ [] → a ≡ []
none_front [] b e = refl
none_front (x ∷ a) b e = absurd cc

none_back : (a b : List ℕ) → a ++ b ≡ [] → b ≡ []
none_back [] b e = e
none_back (x ∷ a) b e = absurd cc

-- items without bytes are only ends
pub ends_only : (is : List Item) (e : Sums) (st last : Stack) → Runs e st is last → join is ≡ [] → AreEnds is
ends_only [] e st last r none = tt
ends_only (i ∷ is) e st last r none =
    let h = end_role i.role i.number i.bytes r.1 (none_front i.bytes (join is) none) in
    (h.0, h.1, h.2, r.1, ends_only is (added e i) (stack_after e i st) last r.2 (none_back i.bytes (join is) none))

-- two sums are equal except for the position
abbrev pub Same : Sums → Sums → Type 0
Same a b = (a.bytes ≡ b.bytes) × (a.points ≡ b.points)

end_adds : (e : Sums) (i : Item) (d : Option ℕ) (came : ℕ) → i.role ≡ End d came → IsItem i → Same (added e i) e
end_adds e i d came is item =
    let sp : Spells (End d came) i.number i.bytes = subst (λ x. Spells x i.number i.bytes) is item in (
      let z : length i.bytes ≡ 0 = ap length sp.1 in
          omega (arith, z),
      let z : points_by i.role i.number ≡ 0 = ap (λ x. points_by x i.number)
          is in omega (arith, z),
    )

-- an end noted before other ends gives the same notes as an end noted after them
pub ends_swap : (n offset points : ℕ) (w : Notes) → note_ends n offset points (note_end offset points w)
    ≡ note_end offset points (note_ends n offset points w)
ends_swap zero offset points w = refl
ends_swap (suc n) offset points w = ap (λ v. note_end offset points v) (ends_swap n offset points w)

pub ends_noted : (start : ℕ) (is : List Item) (e : Sums) (offset points : ℕ) (w : Notes)
    → AreEnds is → start + e.bytes ≡ offset → e.points ≡ points
    → noted start e w is ≡ note_ends (length is) offset points w
ends_noted start [] e offset points w are at many = refl
ends_noted start (i ∷ is) e offset points w (d, came, role, item, are) at many =
    let a = end_adds e i d came role item in
    ap (λ v. noted start (added e i) v is) (ap (λ r. noted_by start e r i.number w) role
    ∙ (ap (λ o. note_end o e.points w) at ∙ ap (λ q. note_end offset q w) many))
    ∙ (ends_noted start is (added e i) offset points (note_end offset points w) are
    (ap (λ n. start + n) a.0 ∙ at) (a.1 ∙ many) ∙ ends_swap (length is) offset points w)

pub ends_add : (is : List Item) (e : Sums) → AreEnds is → Same (sums_after e is) e
ends_add [] e are = (refl, refl)
ends_add (i ∷ is) e (d, came, role, item, are) =
    let a = end_adds e i d came role item in
    let b = ends_add is (added e i) are in
    (b.0 ∙ a.0, b.1 ∙ a.1)

-- the notes have as many open geometries as the items leave open
one_open : (start : ℕ) (e : Sums) (r : Role) (n : ℕ) (ss : List Span) (b : List ℕ)
    → length (noted_by start e r n (record { spans = ss; begun = b })).begun ≡ open_by (length b) r
one_open start e Header n ss b = refl
one_open start e _ n ss (x ∷ b) = refl
one_open start e _ n ss _ = refl

pub all_open : (start : ℕ) (is : List Item) (e : Sums) (w : Notes)
    → length (noted start e w is).begun ≡ open_after (length w.begun) is
all_open start [] e w = refl
all_open start (i ∷ is) e w = all_open start is (added e i) (noted_by start e i.role i.number w)
    ∙ ap (λ n. open_after n is) (one_open start e i.role i.number w.spans w.begun)

-- n ends close n geometries
ends_left : (n offset points : ℕ) (w : Notes) → length (note_ends n offset points w).begun ≡ length w.begun - n
ends_left zero offset points w = omega arith
ends_left (suc n) offset points w = one (note_ends n offset points w).begun (ends_left n offset points w)
  where
    one : (b : List ℕ) → length b ≡ length w.begun - n → length (without_first b) ≡ length w.begun - suc n
    one [] e = omega (arith, e)
    one (x ∷ b) e = omega (arith, e)

-- without an open geometry an end changes nothing
none_ends : (offset points : ℕ) (w : Notes) → length w.begun ≡ 0 → note_end offset points w ≡ w
none_ends offset points w e = go w.spans w.begun e
  where
    go : (ss : List Span) (b : List ℕ) → length b ≡ 0 → note_end offset points (record { spans = ss; begun = b })
        ≡ record { spans = ss; begun = b }
    go ss [] e = refl
    go ss (x ∷ b) e = absurd (omega (arith, e))

-- a number of ends is given by the number of geometries they leave open
pub ends_to : (n offset points : ℕ) (w : Notes)
    → note_ends n offset points w ≡ note_ends_to (length (note_ends n offset points w).begun)
    offset points w
ends_to zero offset points w = ap (λ k. note_ends k offset points w)
    (let z : 0 ≡ length w.begun - length w.begun = omega arith in z)
ends_to (suc n) offset points w = elim (cases_lt n (length w.begun)) [
  | inl low ↦ ap (λ k. note_ends k offset points w)
      (let z : suc n ≡ length w.begun - length (note_ends (suc n) offset points w).begun =
      omega (arith, ends_left (suc n) offset points w, low) in z)
  | inr high ↦
      let none : length (note_ends n offset points w).begun ≡ 0 = omega (arith, ends_left n offset points w, high) in
      let same = none_ends offset points (note_ends n offset points w) none in
      same ∙ (ends_to n offset points w ∙ ap (λ (v : Notes). note_ends (length w.begun - length v.begun) offset points
      w) (sym same))
]

-- ==== Items noted one after another, and items that leave no note.

-- changing the item after some others
pub changed-behind : {A : Type 0} (xs : List A) (f : A → A) (x : A) (ys : List A)
    → changed_at (length xs) f (xs ++ x ∷ ys) ≡ xs ++ f x ∷ ys
changed-behind [] f x ys = refl
changed-behind (z ∷ xs) f x ys = ap (λ l. z ∷ l) (changed-behind xs f x ys)

-- joined items are noted one after another
pub noted-append : (start : ℕ) (is js : List Item) (e : Sums) (w : Notes)
    → noted start e w (is ++ js) ≡ noted start (sums_after e is) (noted start e w is) js
noted-append start [] js e w = refl
noted-append start (i ∷ is) js e w = noted-append start is js (added e i) (noted_by start e i.role i.number w)

-- the sums have the number of points announced
pub points_total : (is : List Item) (e : Sums) → (sums_after e is).points ≡ e.points + total points_by is
points_total is e = points_after is e ∙ ap (λ n. e.points + n) (total_is points_by is)

-- items of quiet roles leave no note
pub quiet : (start : ℕ) (e : Sums) (r : Role) (n : ℕ) (w : Notes) → IsQuiet r → noted_by start e r n w ≡ w
quiet start e Header n w q = absurd q
quiet start e (Metadata k) n w q = absurd q
quiet start e (End d c) n w q = absurd q
quiet start e _ n w q = refl

pub all_quiet : (start : ℕ) (is : List Item) (e : Sums) (w : Notes) → AllByRecursion (λ (i : Item). IsQuiet i.role) is
    → noted start e w is ≡ w
all_quiet start [] e w all = refl
all_quiet start (i ∷ is) e w all = all_quiet start is (added e i) (noted_by start e i.role i.number w) all.1
    ∙ quiet start e i.role i.number w all.0

abbrev QuietFields : List Field → Type 0
QuietFields [] = ⊤
QuietFields (f ∷ fs) = IsQuiet f.0 × QuietFields fs

pub quiet_filled : (ps : List Slot) (ds : List (ℤ × ℤ)) → QuietFields (filled ps ds)
quiet_filled (OfCount c n ∷ ps) ds = (tt, quiet_filled ps ds)
quiet_filled (OfId id ∷ ps) ds = (tt, quiet_filled ps ds)
quiet_filled (OfPoint p ∷ ps) (d ∷ ds) = (tt, (tt, quiet_filled ps ds))
quiet_filled _ _ = tt

pub quiet_fields : (start : ℕ) (fs : List Field) (is : List Item) (e : Sums) (w : Notes)
    → AreFields fs is → QuietFields fs → noted start e w is ≡ w
quiet_fields start [] [] e w h q = refl
quiet_fields start (f ∷ fs) (i ∷ is) e w h q =
    quiet_fields start fs is (added e i) (noted_by start e i.role i.number w) h.3 q.1
    ∙ quiet start e i.role i.number w (subst IsQuiet (sym h.0) q.0)
quiet_fields start _ _ e w h q = absurd h

-- ==== The notes of a geometry's items are its spans.

-- notes with these spans and geometries
abbrev notes : List Span → List ℕ → Notes
notes ss is = record { spans = ss; begun = is }

-- the span of an open geometry, and that of one that has ended
abbrev told : (level offset : ℕ) → Kind → ℤ → (meta length points : ℕ) → Span
told level offset k p meta size points = record {
  level = level;
  offset = offset;
  kind = k;
  precision = p;
  metadata = meta;
  length = size;
  points = points;
}

-- the notes of a type byte and a metadata byte
head_noted : (offset points kind : ℕ) (p : ℤ) (k : Kind) (meta : ℕ) (w : Notes) → IsPrecision p
    → kind < 8 → shown (kind_at kind) ≡ k
    → note_metadata meta (note_header offset points (header_byte kind p) w)
    ≡ notes (w.spans ++ told (length w.begun) offset k p meta 0 points ∷ []) (length w.spans ∷ w.begun)
head_noted offset points kind p k meta w fits low same =
    ap (λ l. notes l (length w.spans ∷ w.begun)) (changed-behind w.spans (λ s. record s { metadata = meta })
    (told (length w.begun) offset (shown (kind_at (n % 16))) (unzigzag_of (n / 16)) 0 0 points) []
    ∙ (λ t. w.spans ++ told (length w.begun) offset (kinds t) (halves t) meta 0 points ∷ []))
  where
    n : ℕ
    n = header_byte kind p

    kinds : shown (kind_at (n % 16)) ≡ k
    kinds = ap (λ m. shown (kind_at m)) (let z : n % 16 ≡ kind = omega (arith, low, zigzag_small p fits) in z) ∙ same

    halves : unzigzag_of (n / 16) ≡ p
    halves = ap unzigzag_of (let z : n / 16 ≡ zigzag_of p = omega (arith, low, zigzag_small p fits) in z)
        ∙ unzigzag_of-zigzag_of p

module _ (start kind : ℕ) (p : ℤ) (own : Flags) (Body : List Item → Type 0) (is : List Item)
    (e : Sums) (w : Notes) (f : Framed kind p own Body is) where
  -- the sums before the body
  abbrev pub e1 : Sums
  e1 = sums_after e (before_body f)

  abbrev last : Item
  last = end_item (declared f.size) (f.box ++ f.body)

  -- the bytes of the items are those before the body and those in it; the end has none
  own_bytes : length (join is) ≡ length (join (before_body f)) + length (join f.body)
  own_bytes = omega (
    arith,
    sym (bytes_after is e),
    ap (λ l. (sums_after e l).bytes) (framed_whole f ∙ sym (append_assoc (before_body f) f.body (last ∷ []))),
    ap (λ s. s.bytes) (sums_after-append (before_body f ++ f.body) (last ∷ []) e),
    ap (λ s. s.bytes) (sums_after-append (before_body f) f.body e),
    bytes_after f.body e1,
    bytes_after (before_body f) e,
  )

  module _ (k : Kind) (fits : IsPrecision p) (low : kind < 8) (same : shown (kind_at kind) ≡ k) where
    -- the notes before the body
    abbrev pub w1 : Notes
    w1 = notes (w.spans ++ told (length w.begun) (start + e.bytes) k p f.meta 0 e.points ∷ [])
        (length w.spans ∷ w.begun)

    begins : noted start e w (before_body f) ≡ w1
    begins = all_quiet start (f.extended ++ (f.size ++ f.box)) _
        (note_metadata f.meta (note_header (start + e.bytes) e.points (header_byte kind p) w))
        (options_each IsQuiet f.optional tt tt tt)
        ∙ head_noted (start + e.bytes) e.points kind p k f.meta w fits low same

    -- a geometry is noted by its own span and then the spans of its members
    pub framed_noted : (inner : List Span) (points : ℕ)
        → noted start e1 w1 f.body ≡ notes (w1.spans ++ inner) w1.begun
        → total points_by is ≡ points
        → noted start e w is ≡ notes (w.spans ++ told (length w.begun) (start + e.bytes) k p f.meta
        (length (join is)) points ∷ inner) w.begun
    framed_noted inner points body_is points_are =
        ap (λ l. noted start e w l) (framed_whole f)
        ∙ (noted-append start (before_body f) (f.body ++ last ∷ []) e w
        ∙ (ap (λ v. noted start e1 v (f.body ++ last ∷ [])) begins
        ∙ (noted-append start f.body (last ∷ []) e1 w1
        ∙ (ap (λ v. noted start e3 v (last ∷ [])) body_is
        ∙ (ap (λ l. notes (changed_at (length w.spans) ends l) w.begun) (append_assoc w.spans (s1 ∷ []) inner)
        ∙ (ap (λ l. notes l w.begun) (changed-behind w.spans ends s1 inner)
        ∙ (λ t. notes (w.spans ++ told (length w.begun) (start + e.bytes) k p f.meta (size_is t) (counted t)
        ∷ inner) w.begun)))))))
      where
        e3 : Sums
        e3 = sums_after e1 f.body

        s1 : Span
        s1 = told (length w.begun) (start + e.bytes) k p f.meta 0 e.points

        ends : Span → Span
        ends = λ s. record s { length = (start + e3.bytes) - s.offset; points = e3.points - s.points }

        size_is : (start + e3.bytes) - (start + e.bytes) ≡ length (join is)
        size_is = omega (arith, own_bytes, bytes_after f.body e1, bytes_after (before_body f) e)

        counted : e3.points - e.points ≡ points
        counted = omega (
          arith,
          points_are,
          ap (total points_by) (framed_whole f),
          total-append points_by (before_body f) (f.body ++ last ∷ []),
          total-append points_by f.body (last ∷ []),
          points_total f.body e1,
          points_total (before_body f) e,
        )

-- without members nothing more is noted
none_more : (w : Notes) → w ≡ notes (w.spans ++ []) w.begun
none_more w = ap (λ l. notes l w.begun) (sym (append-nil w.spans))

shape_kind : (s : Simple) → shown (kind_at (kind_of s)) ≡ kind_of_shape s
shape_kind (point o) = refl
shape_kind _ = refl

shape_low : (s : Simple) → kind_of s < 8
shape_low (point o) = omega arith
shape_low _ = omega arith

simple_body : (start : ℕ) (s : Simple) (b : Bool) (body : List Item) (e : Sums) (w : Notes)
    → BodyAt b (AreFields (fields s)) body → noted start e w body ≡ w
simple_body start s true body e w h = ap (λ l. noted start e w l) h
simple_body start s false body e w h = quiet_fields start (fields s) body e w h
    (quiet_filled (slots s) (Rattle.twkb_points.specs.Steps.differences
    (Rattle.twkb_tree.specs.Tree.points_in s)))

-- the notes of the members are their spans
abbrev NotesMembers : Trees → Type 0
NotesMembers gs = (start : ℕ) (e : Sums) (w : Notes) (is : List Item)
    → (h : ItemsOfAll (length w.begun) gs is) → noted start e w is ≡ notes
    (w.spans ++ spans_of_all (length w.begun) (start + e.bytes) gs is h) w.begun

below_noted : (gs : Trees) → NotesMembers gs → (c : Counted) (n : ℕ) (ids : Ids) (start : ℕ)
    (b : Bool) (body : List Item) (e : Sums) (w : Notes)
    → (h : BodyAt b (Follow (AreFields ((Count c, n) ∷ id_fields ids)) (ItemsOfAll (length w.begun) gs)) body)
    → noted start e w body ≡ notes (w.spans ++ behind (AreFields ((Count c, n) ∷ id_fields ids))
    (ItemsOfAll (length w.begun) gs) (start + e.bytes)
    (λ o js h. spans_of_all (length w.begun) o gs js h) b body h) w.begun
below_noted gs each c n ids start true body e w h = ap (λ l. noted start e w l) h ∙ none_more w
below_noted gs each c n ids start false body e w h =
    ap (λ l. noted start e w l) h.whole
    ∙ (noted-append start h.front h.rest e w
    ∙ (ap (λ v. noted start (sums_after e h.front) v h.rest)
    (quiet_fields start ((Count c, n) ∷ id_fields ids) h.front e w h.first
    (tt, quiet_filled (id_slots ids) []))
    ∙ (each start (sums_after e h.front) w h.rest h.second
    ∙ ap (λ o. notes (w.spans ++ spans_of_all (length w.begun) o gs h.rest h.second) w.begun)
    (let b : (sums_after e h.front).bytes ≡ e.bytes + length (join h.front) = bytes_after h.front
    e in omega (arith, b)))))

mutual
  -- the notes of a geometry are its spans
  pub tree_noted : (g : Tree) (start : ℕ) (e : Sums) (w : Notes) (is : List Item) → IsTree g
      → (f : Items (length w.begun) g is) → noted start e w is ≡ notes
      (w.spans ++ spans (length w.begun) (start + e.bytes) g is f) w.begun
  tree_noted (simple p s) start e w is fits f =
      framed_noted start (kind_of s) p (flags s) (AreFields (fields s)) is e w f (kind_of_shape s)
      fits.0 (shape_low s) (shape_kind s) [] (length (flat (simple p s)))
      (simple_body start s (bit f.meta 4) f.body _ _ f.body_is ∙ none_more _)
      (tree_total (simple p s) (length w.begun) is fits f).1
  tree_noted (collection p ids gs) start e w is fits f =
      framed_noted start 7 p (flags_all ids gs) Body is e w f kind.Collection fits.0 (omega arith)
      refl inner (length (flat (collection p ids gs)))
      (below_noted gs (members_noted gs fits.2) (Geometries (length w.begun)) (count gs) ids start
      (bit f.meta 4) f.body ea wa f.body_is ∙ ap (λ o. notes (wa.spans ++ inner_at o) wa.begun)
      at)
      (tree_total (collection p ids gs) (length w.begun) is fits f).1
    where
      Body : List Item → Type 0
      Body = Follow (AreFields ((Count (Geometries (length w.begun)), count gs) ∷ id_fields ids))
          (ItemsOfAll (suc (length w.begun)) gs)

      inner_at : ℕ → List Span
      inner_at offset = behind
          (AreFields ((Count (Geometries (length w.begun)), count gs) ∷ id_fields ids))
          (ItemsOfAll (suc (length w.begun)) gs) offset
          (λ o js h. spans_of_all (suc (length w.begun)) o gs js h) (bit f.meta 4) f.body f.body_is

      ea : Sums
      ea = e1 start 7 p (flags_all ids gs) Body is e w f

      wa : Notes
      wa = w1 start 7 p (flags_all ids gs) Body is e w f kind.Collection fits.0 (omega arith) refl

      at : start + ea.bytes ≡ (start + e.bytes) + length (join (before_body f))
      at = omega (arith, bytes_after (before_body f) e)

      inner : List Span
      inner = inner_at ((start + e.bytes) + length (join (before_body f)))

  members_noted : (gs : Trees) → AreTrees gs → NotesMembers gs
  members_noted end fits = λ start e w is h. ap (λ l. noted start e w l) h ∙ none_more w
  members_noted (g ▷ gs) fits = λ start e w is h.
      ap (λ l. noted start e w l) h.whole
      ∙ (noted-append start h.front h.rest e w
      ∙ (ap (λ v. noted start (sums_after e h.front) v h.rest) (tree_noted g start e w h.front fits.0 h.first)
      ∙ (members_noted gs fits.1 start (sums_after e h.front)
      (notes (w.spans ++ spans (length w.begun) (start + e.bytes) g h.front h.first) w.begun)
      h.rest h.second
      ∙ (ap (λ o. notes ((w.spans ++ spans (length w.begun) (start + e.bytes) g h.front h.first)
      ++ spans_of_all (length w.begun) o gs h.rest h.second) w.begun)
      (let b : (sums_after e h.front).bytes ≡ e.bytes + length (join h.front) = bytes_after h.front
      e in omega (arith, b))
      ∙ ap (λ l. notes l w.begun) (append_assoc w.spans
      (spans (length w.begun) (start + e.bytes) g h.front h.first)
      (spans_of_all (length w.begun) ((start + e.bytes) + length (join h.front)) gs h.rest
      h.second))))))

-- the notes of a blob's items are its spans
pub blob_noted : (limits : Allowance) (bytes : List ℕ) (g : Tree) (start : ℕ)
    (b : Blob limits bytes g) → noted start nothing no_notes b.items ≡ notes
    (spans_of_blob start b) []
blob_noted limits bytes g start b = tree_noted g start nothing no_notes b.items b.valid.tree
    b.are_items ∙ ap (λ o. notes (spans 0 o g b.items b.are_items) [])
    (let z : start + 0 ≡ start = omega arith in z)

-- ==== A blob has one span for each geometry, the first covers the blob, its bytes have one list of
-- spans, and at another offset the spans are moved.

below_many : (First : List Item → Type 0) (level offset : ℕ) (ids : Rattle.twkb_tree.specs.Tree.Ids)
    (gs : Trees) (meta : ℕ) → Agrees (flags_all ids gs) meta
    → ((o : ℕ) (js : List Item) (h : ItemsOfAll level gs js)
    → length (spans_of_all level o gs js h) ≡ geometries_of_all gs)
    → (b : Bool) → bit meta 4 ≡ b → (body : List Item) (h : BodyAt b (Follow First (ItemsOfAll level gs)) body)
    → length (behind First (ItemsOfAll level gs) offset (λ o js h. spans_of_all level o gs js h) b
    body h) ≡ geometries_of_all gs
below_many First level offset ids end meta agrees each true bare body h = refl
below_many First level offset ids (g ▷ gs) meta agrees each true bare body h = absurd
    (some_bare ids g gs meta agrees bare)
below_many First level offset ids gs meta agrees each false full body h = each
    (offset + length (join h.front)) h.rest h.second

mutual
  -- there is a span for each geometry
  pub spans_many : (g : Tree) (level offset : ℕ) (is : List Item) (f : Items level g is)
      → length (spans level offset g is f) ≡ geometries g
  spans_many (simple p s) level offset is f = refl
  spans_many (collection p ids gs) level offset is f =
      ap suc (below_many _ (suc level) _ ids gs f.meta f.agrees
      (λ o js h. all_many gs (suc level) o js h) (bit f.meta 4) refl f.body f.body_is)

  all_many : (gs : Trees) (level offset : ℕ) (is : List Item) (h : ItemsOfAll level gs is)
      → length (spans_of_all level offset gs is h) ≡ geometries_of_all gs
  all_many end level offset is h = refl
  all_many (g ▷ gs) level offset is h =
      length-append (spans level offset g h.front h.first)
      (spans_of_all level (offset + length (join h.front)) gs h.rest h.second)
      ∙ (ap (λ n. n + length (spans_of_all level (offset + length (join h.front)) gs h.rest
      h.second)) (spans_many g level offset h.front h.first)
      ∙ ap (λ n. geometries g + n) (all_many gs level (offset + length (join h.front)) h.rest h.second))

-- a blob has one span for each geometry
pub blob_many : (limits : Allowance) (bytes : List ℕ) (g : Tree) (start : ℕ)
    (b : Blob limits bytes g) → length (spans_of_blob start b) ≡ geometries g
blob_many limits bytes g start b = spans_many g 0 start b.items b.are_items

whole_first : (g : Tree) (start : ℕ) (is : List Item) (f : Items 0 g is)
    → CoversBlob start (join is) g (spans 0 start g is f)
whole_first (simple p s) start is f = record { meta = f.meta; more = []; first = refl }
whole_first (collection p ids gs) start is f = record { meta = f.meta; more = _; first = refl }

-- the first span is that of the blob
pub blob_first : (limits : Allowance) (bytes : List ℕ) (g : Tree) (start : ℕ)
    (b : Blob limits bytes g) → CoversBlob start bytes g (spans_of_blob start b)
blob_first limits bytes g start b = subst (λ l. CoversBlob start l g (spans_of_blob start b))
    b.spelled (whole_first g start b.items b.are_items)

-- the bytes determine the spans
pub one_list : (limits : Allowance) (bytes : List ℕ) (g : Tree) (start : ℕ)
    (a b : Blob limits bytes g) → spans_of_blob start a ≡ spans_of_blob start b
one_list limits bytes g start a b = ap (λ w. w.spans) (sym (blob_noted limits bytes g start a)
    ∙ (ap (λ l. noted start nothing no_notes l) (one_blob_items limits bytes bytes [] [] g g a b refl).1
    ∙ blob_noted limits bytes g start b))

-- ---- the same bytes at another offset

below_moved : (First : List Item → Type 0) (n level offset there : ℕ) (gs : Trees) → there ≡ n + offset
    → ((o : ℕ) (js : List Item) (h : ItemsOfAll level gs js)
    → spans_of_all level (n + o) gs js h ≡ map (moved_span n) (spans_of_all level o gs js h))
    → (b : Bool) (body : List Item) (h : BodyAt b (Follow First (ItemsOfAll level gs)) body)
    → behind First (ItemsOfAll level gs) there (λ o js h. spans_of_all level o gs js h) b body h
    ≡ map (moved_span n) (behind First (ItemsOfAll level gs) offset
    (λ o js h. spans_of_all level o gs js h) b body h)
below_moved First n level offset there gs place each true body h = refl
below_moved First n level offset there gs place each false body h =
    let later : there + length (join h.front) ≡ n + (offset + length (join h.front)) = omega (arith, place) in
    ap (λ o. spans_of_all level o gs h.rest h.second) later ∙ each (offset + length (join h.front)) h.rest h.second

mutual
  spans_moved : (g : Tree) (n level offset : ℕ) (is : List Item) (f : Items level g is)
      → spans level (n + offset) g is f ≡ map (moved_span n) (spans level offset g is f)
  spans_moved (simple p s) n level offset is f = refl
  spans_moved (collection p ids gs) n level offset is f =
      let later : n + offset + length (join (before_body f))
      ≡ n + (offset + length (join (before_body f))) = omega arith in
      ap (λ ss. span_of level (n + offset) (collection p ids gs) f.meta is ∷ ss)
      (below_moved _ n (suc level) (offset + length (join (before_body f)))
      (n + offset + length (join (before_body f))) gs later
      (λ o js h. all_moved gs n (suc level) o js h) (bit f.meta 4) f.body f.body_is)

  all_moved : (gs : Trees) (n level offset : ℕ) (is : List Item) (h : ItemsOfAll level gs is)
      → spans_of_all level (n + offset) gs is h ≡ map (moved_span n)
      (spans_of_all level offset gs is h)
  all_moved end n level offset is h = refl
  all_moved (g ▷ gs) n level offset is h =
      let k = length (join h.front) in
      let later : n + offset + k ≡ n + (offset + k) = omega arith in
      ap (λ ss. ss ++ spans_of_all level (n + offset + k) gs h.rest h.second)
      (spans_moved g n level offset h.front h.first)
      ∙ ap (λ ss. map (moved_span n) (spans level offset g h.front h.first) ++ ss)
      (ap (λ o. spans_of_all level o gs h.rest h.second) later
      ∙ all_moved gs n level (offset + k) h.rest h.second)
      ∙ sym (map-append (moved_span n) (spans level offset g h.front h.first)
      (spans_of_all level (offset + k) gs h.rest h.second))

-- after n more bytes, the spans of a blob are moved by n
pub blob_moved : (limits : Allowance) (bytes : List ℕ) (g : Tree) (n start : ℕ)
    (b : Blob limits bytes g) → spans_of_blob (n + start) b ≡ map (moved_span n)
    (spans_of_blob start b)
blob_moved limits bytes g n start b = spans_moved g n 0 start b.items b.are_items
