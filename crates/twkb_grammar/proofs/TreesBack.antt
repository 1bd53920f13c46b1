-- Items that the machine ran through to a complete geometry are the items of that geometry: each stack says what the
-- items so far are.
use Rattle.std.proofs.Common.{◌≡◌, ℕ, suc, ◌+◌, ◌-◌, ◌/◌, ◌%◌, ◌<◌, List, [], ◌∷◌, ◌++◌, length, refl, ap, sym, ◌∙◌}
use Rattle.std.proofs.Common.{subst, append_assoc, length-append, None, arith, Bool, true, false, zero, Some, map}
use Rattle.std.proofs.Common.{append-nil, ◌≤◌, inl, inr}
use Rattle.std.proofs.lemmas.Bool.{cases_lt}
use Rattle.std.specs.Prelude.{⊤, ℤ}
use Rattle.std.specs.List.{AllByRecursion}
use Rattle.std.proofs.lemmas.List.{map-append}
use Rattle.std.proofs.lemmas.List.Concat.{flat_map-append}
use Rattle.twkb_num.specs.Varint.{IsVarint}
use Rattle.twkb_num.specs.Spelling.{unzigzag_of}
use Rattle.twkb_num.proofs.ZigzagLemmas.{zigzag_of-unzigzag_of}
use Rattle.twkb_points.specs.Point.{Point, origin}
use Rattle.twkb_tree.specs.Tree.{Tree, IsPrecision, IsTree, simple, collection, Trees, end, ◌▷◌, count, Ids, HasIds}
use Rattle.twkb_tree.specs.Tree.{AreTrees, IsId}
use Rattle.twkb_grammar.specs.Bits.{bit}
use Rattle.twkb_grammar.specs.Roles.{Item, IsItem, Role, Header, Metadata, Extended, Size, Box, End, Spells, join}
use Rattle.twkb_grammar.specs.Roles.{HaveRoles, where_set, item, Count, Id, Geometries, AreFields, Field}
use Rattle.twkb_grammar.specs.Items.{declared, end_item, Items, header_byte, id_slots, fields, Agrees, Flags, flags}
use Rattle.twkb_grammar.specs.Items.{flags_all, ItemsOfAll, id_fields, BodyAt, Framed, AreOptional, Follow, OfCount}
use Rattle.twkb_grammar.specs.Items.{OfId}
use Rattle.twkb_grammar.specs.Fault.{moved}
use Rattle.twkb_grammar.specs.Reading.{Here, Kept}
use Rattle.twkb_grammar.specs.Machine.{top, Body, Want, WantY, Done, opened, BodyForm, PointForm}
use Rattle.twkb_grammar.specs.Machine.{LineForm, PolygonForm, MultiPointForm, MultiLineForm, MultiPolygonForm}
use Rattle.twkb_grammar.specs.Machine.{depth_of, shape_of, Kind, SimpleKind, CollectionKind, kind_number, kind_at}
use Rattle.twkb_grammar.specs.Machine.{Head, Frame, Many, ManyPoints, ManyLines, ManyPolygons, ManyGeometries}
use Rattle.twkb_grammar.specs.Machine.{Phase, AtHeader, AtMetadata, AtOption, AtCount, AtId, AtBody, AtEnd, Finished}
use Rattle.twkb_grammar.specs.Machine.{first_count, settled, begun, wanting, asked, with_option, empty_of, counted}
use Rattle.twkb_grammar.specs.Machine.{members_begin, snoc, ended, Sums, added, nothing, started, Stack, stack_after}
use Rattle.twkb_grammar.specs.Machine.{role_at, body_after, Runs}
use Rattle.twkb_grammar.proofs.Bodies.{precision_fits, sums_after, head, id_small, steps, fields_are, SaysIds}
use Rattle.twkb_grammar.proofs.Bodies.{moved_count, moved_id}
use Rattle.twkb_grammar.proofs.Bodies.{still_options, regroup, options_run, runs_same}
use Rattle.twkb_grammar.proofs.Bodies.{sums_after-append, Runs-append, bytes_after}
use Rattle.twkb_grammar.proofs.BodiesBack.{some_role, slots_more, BodyHeld, opened_held, body_held}
use Rattle.twkb_grammar.proofs.BodiesBack.{first_of, Counts, Starts, shape_slots, counted_from, shape_number}
use Rattle.twkb_grammar.proofs.BodiesBack.{shape_fits, reached_names}
use Rattle.twkb_grammar.proofs.Trees.{frame, names_steps}

-- ==== The parts of a geometry before its body.

-- items of roles in two groups
record Cut (rs qs : List Role) (is : List Item) : Type 0 where
  front : List Item
  rest : List Item
  whole : is ≡ front ++ rest
  first : HaveRoles rs front
  second : HaveRoles qs rest

roles_cut : (rs qs : List Role) (is : List Item) → HaveRoles (rs ++ qs) is → Cut rs qs is
roles_cut [] qs is h = record { front = []; rest = is; whole = refl; first = tt; second = h }
roles_cut (r ∷ rs) qs [] h = absurd h
roles_cut (r ∷ rs) qs (i ∷ is) h =
    let c = roles_cut rs qs is h.2 in
    record {
      front = i ∷ c.front;
      rest = c.rest;
      whole = ap (λ l. i ∷ l) c.whole;
      first = (h.0, h.1, c.first);
      second = c.second;
    }

roles_more : (rs : List Role) (r : Role) (is : List Item) (i : Item) → HaveRoles rs is → i.role ≡ r → IsItem i
    → HaveRoles (rs ++ r ∷ []) (is ++ i ∷ [])
roles_more [] r [] i h role item = (role, item, tt)
roles_more (q ∷ rs) r (j ∷ is) i h role item = (h.0, h.1, roles_more rs r is i h.2 role item)
roles_more _ r _ i h role item = absurd h

-- the number of bytes of joined items
long : (is js : List Item) → length (join (is ++ js)) ≡ length (join is) + length (join js)
long is js = ap length (flat_map-append (λ (i : Item). i.bytes) is js) ∙ length-append (join is) (join js)

-- the optional parts before these roles have been read; the machine ran through them
record Options (k : Kind) (at : ℕ) (rs : List Role) (h : Head) (e : Sums) (is : List Item) : Type 0 where
  precision : ℤ
  meta : ℕ
  roles : List Role
  options : List Item
  start : Sums
  precise : IsPrecision precision
  byte : meta < 256
  have : HaveRoles roles options
  asked_is : roles ++ rs ≡ asked meta
  place : start.bytes ≡ at + 2
  here : start.position ≡ origin
  sums : sums_after start options ≡ e
  runs : Runs start ([], wanting k (head precision meta None start.bytes) (asked meta)) options ([], wanting k h rs)
  whole : is ≡ item Header (header_byte (kind_number k) precision) ∷ item (Metadata (kind_number k)) meta ∷ options

-- one more optional part
option_more : (k : Kind) (at : ℕ) (r : Role) (rs : List Role) (h : Head) (e : Sums) (is : List Item) (i : Item)
    → Options k at (r ∷ rs) h e is → i.role ≡ r → IsItem i
    → Options k at rs (with_option h r i.number (e.bytes + length i.bytes)) (added e i) (is ++ i ∷ [])
option_more k at r rs h e is i o role item = record {
  precision = o.precision;
  meta = o.meta;
  roles = o.roles ++ r ∷ [];
  options = o.options ++ i ∷ [];
  start = o.start;
  precise = o.precise;
  byte = o.byte;
  have = roles_more o.roles r o.options i o.have role item;
  asked_is = append_assoc o.roles (r ∷ []) rs ∙ o.asked_is;
  place = o.place;
  here = o.here;
  sums = sums_after-append o.options (i ∷ []) o.start ∙ ap (λ x. added x i) o.sums;
  runs = Runs-append o.options o.start _ ([], AtOption k h r rs) (i ∷ []) _ o.runs
      (subst (λ x. Runs x ([], AtOption k h r rs) (i ∷ [])
      ([], wanting k (with_option h r i.number (e.bytes + length i.bytes)) rs)) (sym o.sums)
      (ap Some (sym role), item, refl));
  whole = ap (λ l. l ++ i ∷ []) o.whole;
}

-- the parts before the body
record Parts (k : Kind) (at : ℕ) (h : Head) : Type 0 where
  extended : List Item
  size : List Item
  box : List Item
  precise : IsPrecision h.precision
  byte : h.meta < 256
  optional : AreOptional h.meta extended size box
  size_is : h.size ≡ declared size
  from_is : h.from ≡ at + (2 + (length (join extended) + length (join size)))

-- the items of these parts
abbrev opening : {k : Kind} {at : ℕ} {h : Head} → Parts k at h → List Item
opening {k} {at} {h} q = item Header (header_byte (kind_number k) h.precision) ∷ item (Metadata (kind_number k)) h.meta
    ∷ q.extended ++ (q.size ++ q.box)

-- the items are those of the parts before a body, which begins
record Ready (k : Kind) (at : ℕ) (h : Head) (e : Sums) (is : List Item) : Type 0 where
  parts : Parts k at h
  here : e.position ≡ origin
  whole : is ≡ opening parts ++ []

-- the optional parts have been read
options_read : (k : Kind) (at : ℕ) (h : Head) (e : Sums) (is : List Item) → Options k at [] h e is
    → (g : Head) × (wanting k h [] ≡ wanting k g []) × Ready k at g e is
options_read k at h e is o = (
  head o.precision o.meta (declared s.front) (sums_after (sums_after o.start x.front) s.front).bytes,
  ap (λ (t : Stack). t.1) (runs_same o.options o.start _ _ _ o.runs
      (subst (λ l. Runs o.start ([], wanting k (head o.precision o.meta None o.start.bytes) (asked o.meta)) l (
        [],
        wanting k (head o.precision o.meta (declared s.front)
            (sums_after (sums_after o.start x.front) s.front).bytes) [],
      )) (sym cut)
      (options_run k o.precision o.meta [] x.front s.front s.rest o.start optional))),
  record {
    parts = record {
      extended = x.front;
      size = s.front;
      box = s.rest;
      precise = o.precise;
      byte = o.byte;
      optional = optional;
      size_is = refl;
      from_is = omega (arith, o.place, bytes_after x.front o.start, bytes_after s.front (sums_after o.start x.front));
    };
    here = ap (λ (x : Sums). x.position) (sym o.sums ∙ ap (λ l. sums_after o.start l) cut)
        ∙ (still_options o.meta x.front s.front s.rest o.start optional ∙ o.here);
    whole = o.whole ∙ ap (λ l. item Header (header_byte (kind_number k) o.precision)
        ∷ item (Metadata (kind_number k)) o.meta ∷ l) (cut ∙ sym (append-nil (x.front ++ (s.front ++ s.rest))));
  },
)
  where
    boxes : List Role
    boxes = where_set (bit o.meta 0) (Box ∷ Box ∷ Box ∷ Box ∷ [])

    x : Cut (where_set (bit o.meta 3) (Extended ∷ [])) (where_set (bit o.meta 1) (Size ∷ []) ++ boxes) o.options
    x = roles_cut (where_set (bit o.meta 3) (Extended ∷ [])) (where_set (bit o.meta 1) (Size ∷ []) ++ boxes) o.options
        (subst (λ rs. HaveRoles rs o.options) (sym (append-nil o.roles) ∙ o.asked_is) o.have)

    s : Cut (where_set (bit o.meta 1) (Size ∷ [])) boxes x.rest
    s = roles_cut (where_set (bit o.meta 1) (Size ∷ [])) boxes x.rest x.second

    optional : AreOptional o.meta x.front s.front s.rest
    optional = record { extended_is = x.first; size_is = s.first; box_is = s.second }

    cut : o.options ≡ x.front ++ (s.front ++ s.rest)
    cut = x.whole ∙ ap (λ l. x.front ++ l) s.whole

-- the items are the parts before a body, and then items of which this holds
record Open (k : Kind) (at : ℕ) (h : Head) (Body : List Item → Type 0) (is : List Item) : Type 0 where
  parts : Parts k at h
  full : bit h.meta 4 ≡ false
  body : List Item
  body_is : Body body
  whole : is ≡ opening parts ++ body

-- the same items, of which something else holds, and then more items
open_as : {k : Kind} {at : ℕ} {h : Head} {B C : List Item → Type 0} {is : List Item} (o : Open k at h B is)
    → C o.body → Open k at h C is
open_as o c = record { parts = o.parts; full = o.full; body = o.body; body_is = c; whole = o.whole }

open_more : {k : Kind} {at : ℕ} {h : Head} {B C : List Item → Type 0} {is : List Item} (o : Open k at h B is)
    (more : List Item) → C (o.body ++ more) → Open k at h C (is ++ more)
open_more o more c = record {
  parts = o.parts;
  full = o.full;
  body = o.body ++ more;
  body_is = c;
  whole = ap (λ l. l ++ more) o.whole ∙ append_assoc (opening o.parts) o.body more;
}

-- the end of a geometry with these items, which begin at this place
abbrev end_after : Head → ℕ → List Item → Item
end_after h at is = record { role = End h.size ((at + length (join is)) - h.from); number = 0; bytes = [] }

-- with its end a body is that of a geometry
closing : {k : Kind} {at : ℕ} {h : Head} {own : Flags} {Body : List Item → Type 0} (q : Parts k at h)
    (body is : List Item) → is ≡ opening q ++ body → Agrees own h.meta → BodyAt (bit h.meta 4) Body body
    → Framed (kind_number k) h.precision own Body (is ++ end_after h at is ∷ [])
closing {k} {at} {h} q body is whole agrees body_is = record {
  meta = h.meta;
  extended = q.extended;
  size = q.size;
  box = q.box;
  body = body;
  byte = q.byte;
  optional = q.optional;
  agrees = agrees;
  body_is = body_is;
  whole = ap (λ i. is ++ i ∷ []) ends ∙ (ap (λ l. l ++ last ∷ []) whole ∙ (append_assoc (opening q) body (last ∷ [])
      ∙ ap (λ l. item Header (header_byte (kind_number k) h.precision) ∷ item (Metadata (kind_number k)) h.meta ∷ l)
      (sym (regroup q.extended q.size q.box body (last ∷ [])))));
}
  where
    last : Item
    last = end_item (declared q.size) (q.box ++ body)

    came : (at + length (join is)) - h.from ≡ length (join (q.box ++ body))
    came = omega (
      arith,
      q.from_is,
      ap (λ l. length (join l)) whole,
      long (q.extended ++ (q.size ++ q.box)) body,
      long q.extended (q.size ++ q.box),
      long q.size q.box,
      long q.box body,
    )

    ends : end_after h at is ≡ last
    ends = λ t. record { role = End (q.size_is t) (came t); number = 0; bytes = [] }

-- ==== What a stack says of the items so far.

-- the kind of a geometry with such members
abbrev many_kind : Many → Kind
many_kind ManyPoints = SimpleKind MultiPointForm
many_kind ManyLines = SimpleKind MultiLineForm
many_kind ManyPolygons = SimpleKind MultiPolygonForm
many_kind ManyGeometries = CollectionKind

-- ids have been read, and so many are missing
record Named (level : ℕ) (m : Many) (h : Head) (n : ℕ) (ids : List ℤ) (left : ℕ) (body : List Item) : Type 0 where
  has : bit h.meta 2 ≡ true
  are : AreFields (steps origin (OfCount (first_count m level) n ∷ map OfId ids)) body
  many : length ids + left ≡ n
  each : AllByRecursion IsId ids

-- the first count and the ids of a multi type or a collection
record Listed (level : ℕ) (m : Many) (h : Head) (n : ℕ) (ids : Ids) (body : List Item) : Type 0 where
  says : SaysIds h ids n
  fit : HasIds ids n
  are : AreFields (steps origin (OfCount (first_count m level) n ∷ id_slots ids)) body

-- a body is being read
record Bodied (h : Head) (f : BodyForm) (ids : Ids) (b : Body (depth_of f)) (p : Point) (body : List Item)
    : Type 0 where
  counts : Starts (Counts h f ids) body
  held : BodyHeld (first_of f ids) p b body

-- members of a collection have been read, and so many are missing
record Gathered (level : ℕ) (h : Head) (ids : Ids) (done : Trees) (left : ℕ) (body : List Item) : Type 0 where
  n : ℕ
  many : n ≡ count done + left
  says : SaysIds h ids n
  fit : HasIds ids n
  trees : AreTrees done
  are : Follow (AreFields ((Count (Geometries level), n) ∷ id_fields ids)) (ItemsOfAll (suc level) done) body

-- the items of the innermost geometry so far; it begins at this place, inside `level` collections
abbrev Own : (level at : ℕ) → Sums → Phase → List Item → Type 0
Own level at e AtHeader is = is ≡ []
Own level at e (AtMetadata k q) is = (is ≡ item Header (header_byte (kind_number k) q) ∷ []) × IsPrecision q
    × (e.position ≡ origin)
Own level at e (AtOption k h r rs) is = Options k at (r ∷ rs) h e is
Own level at e (AtCount m h) is = Open (many_kind m) at h (λ body. body ≡ []) is × (e.position ≡ origin)
Own level at e (AtId m h n ids left) is = Open (many_kind m) at h (Named level m h n ids (suc left)) is
    × (e.position ≡ origin)
Own level at e (AtBody h f ids (Done v)) is = ⊥
Own level at e (AtBody h f ids b) is = Open (SimpleKind f) at h (Bodied h f ids b e.position) is
Own level at e (AtEnd h g) is = Items level g (is ++ end_after h at is ∷ []) × IsTree g
Own level at e (Finished g) is = Items level g is × IsTree g × (level ≡ 0)

-- the items of the open collections
abbrev Inside : List Frame → List Item → Type 0
Inside [] is = is ≡ []
Inside (f ∷ fs) is = (before own : List Item) × (is ≡ before ++ own) × Inside fs before
    × Open CollectionKind (length (join before)) f.head (Gathered (length fs) f.head f.ids f.done (suc f.left)) own

-- the items are what the stack says
record Holds (e : Sums) (st : Stack) (is : List Item) : Type 0 where
  before : List Item
  own : List Item
  whole : is ≡ before ++ own
  outer : Inside st.0 before
  bytes : e.bytes ≡ length (join before) + length (join own)
  inner : Own (length st.0) (length (join before)) e st.1 own

-- ==== The items of a whole shape or a whole collection.

agrees_all : (h : Head) (ids : Ids) (gs : Trees) → SaysIds h ids (count gs) → bit h.meta 4 ≡ false
    → Agrees (flags_all ids gs) h.meta
agrees_all h ids end says full = tt
agrees_all h None (g ▷ gs) says full = (full, says)
agrees_all h (Some ids) (g ▷ gs) says full = (full, says.0)

trees_more : (gs : Trees) (g : Tree) → AreTrees gs → IsTree g → AreTrees (snoc gs g)
trees_more end g are fits = (fits, tt)
trees_more (h ▷ gs) g are fits = (are.0, trees_more gs g are.1 fits)

count-snoc : (gs : Trees) (g : Tree) → count (snoc gs g) ≡ count gs + 1
count-snoc end g = refl
count-snoc (h ▷ gs) g = omega (arith, count-snoc gs g)

members_more : (level : ℕ) (gs : Trees) (g : Tree) (is js : List Item) → ItemsOfAll level gs is → Items level g js
    → ItemsOfAll level (snoc gs g) (is ++ js)
members_more level end g is js are items = record {
  front = js;
  rest = [];
  first = items;
  second = refl;
  whole = ap (λ l. l ++ js) are ∙ sym (append-nil js);
}
members_more level (h ▷ gs) g is js are items = record {
  front = are.front;
  rest = are.rest ++ js;
  first = are.first;
  second = members_more level gs g are.rest js are.second items;
  whole = ap (λ l. l ++ js) are.whole ∙ append_assoc are.front are.rest js;
}

-- one more member of a collection
gathered_more : (level : ℕ) (h : Head) (ids : Ids) (done : Trees) (left : ℕ) (g : Tree) (body own : List Item)
    → Gathered level h ids done (suc left) body → Items (suc level) g own → IsTree g
    → Gathered level h ids (snoc done g) left (body ++ own)
gathered_more level h ids done left g body own c items fits = record {
  n = c.n;
  many = omega (arith, c.many, count-snoc done g);
  says = c.says;
  fit = c.fit;
  trees = trees_more done g c.trees fits;
  are = record {
    front = c.are.front;
    rest = c.are.rest ++ own;
    first = c.are.first;
    second = members_more (suc level) done g c.are.rest own c.are.second items;
    whole = ap (λ l. l ++ own) c.are.whole ∙ append_assoc c.are.front c.are.rest own;
  };
}

-- before the first member
gathered_none : (level : ℕ) (h : Head) (n : ℕ) (ids : Ids) (body : List Item) → Listed level ManyGeometries h n ids body
    → Gathered level h ids end n body
gathered_none level h n ids body l = record {
  n = n;
  many = omega arith;
  says = l.says;
  fit = l.fit;
  trees = tt;
  are = record {
    front = body;
    rest = [];
    first = subst (λ fs. AreFields ((Count (Geometries level), n) ∷ fs) body)
        (ap (λ ps. steps origin ps) (sym (append-nil (id_slots ids))) ∙ sym (names_steps ids)) l.are;
    second = refl;
    whole = sym (append-nil body);
  };
}

-- with all its members a collection is at its end
gathered_all : (level at : ℕ) (e : Sums) (h : Head) (ids : Ids) (done : Trees) (is : List Item)
    → Open CollectionKind at h (Gathered level h ids done 0) is
    → Own level at e (AtEnd h (collection h.precision ids done)) is
gathered_all level at e h ids done is o =
    let c = o.body_is in
    let n : c.n ≡ count done = omega (arith, c.many) in (
      closing o.parts o.body is o.whole
          (agrees_all h ids done (subst (λ n. SaysIds h ids n) n c.says) o.full)
          (rw o.full (subst (λ n. Follow (AreFields ((Count (Geometries level), n) ∷ id_fields ids))
          (ItemsOfAll (suc level) done) o.body) n c.are)),
      (o.parts.precise, subst (λ n. HasIds ids n) n c.fit, c.trees),
    )

-- ==== One more item leads to a stack that says what the items are.

module _ (fs : List Frame) (before : List Item) (outer : Inside fs before) (e : Sums) (own : List Item)
    (bytes : e.bytes ≡ length (join before) + length (join own)) where
  -- the stack with the same open collections
  now : (ph : Phase) → Own (length fs) (length (join before)) e ph own → Holds e (fs, ph) (before ++ own)
  now ph inner = record { before = before; own = own; whole = refl; outer = outer; bytes = bytes; inner = inner }

  -- the next member of a collection
  member_next : (f : Frame) → Open CollectionKind (length (join before)) f.head
      (Gathered (length fs) f.head f.ids f.done (suc f.left)) own → Holds e (f ∷ fs, AtHeader) (before ++ own)
  member_next f o = record {
    before = before ++ own;
    own = [];
    whole = sym (append-nil (before ++ own));
    bytes = omega (arith, bytes, long before own);
    inner = refl;
    outer = (before, own, refl, outer, o);
  }

  settled_holds : (h : Head) (f : BodyForm) (ids : Ids) (b : Body (depth_of f))
      → Open (SimpleKind f) (length (join before)) h (Bodied h f ids b e.position) own
      → Holds e (fs, settled h f ids b) (before ++ own)
  settled_holds h f ids (Want d a) o = now (AtBody h f ids (Want d a)) o
  settled_holds h f ids (WantY a) o = now (AtBody h f ids (WantY a)) o
  settled_holds h f ids (Done v) o =
      let s = shape_of f ids v in
      let fits = shape_fits h f ids v o.body o.full o.body_is.counts o.body_is.held in
      let are = subst (λ ps. AreFields ps o.body) (ap (λ ps. steps origin ps) (sym (shape_slots f ids v))
      ∙ sym (fields_are s)) o.body_is.held in
      now (AtEnd h (simple h.precision s)) (
        subst (λ k. Framed k h.precision (flags s) (AreFields (fields s))
            (own ++ end_after h (length (join before)) own ∷ [])) (sym (shape_number f ids v))
            (closing o.parts o.body own o.whole fits.1
            (subst (λ b. BodyAt b (AreFields (fields s)) o.body) (sym o.full) are)),
        (o.parts.precise, fits.0),
      )

  module _ (k : Kind) (h : Head) (q : Ready k (length (join before)) h e own) where
    -- a body of which this holds before its first item
    none_yet : {B : List Item → Type 0} → bit h.meta 4 ≡ false → B [] → Open k (length (join before)) h B own
    none_yet full holds = record { parts = q.parts; full = full; body = []; body_is = holds; whole = q.whole }

  -- a body begins with a count, or with an x
  begun_holds : (k : Kind) (h : Head) → Ready k (length (join before)) h e own → bit h.meta 4 ≡ false
      → Holds e (fs, begun k h) (before ++ own)
  begun_holds (SimpleKind PointForm) h q full = now (AtBody h PointForm None (Want 0 top))
      (none_yet (SimpleKind PointForm) h q full (record { counts = λ n. tt; held = ((tt, q.here), tt) }))
  begun_holds (SimpleKind LineForm) h q full = now (AtBody h LineForm None (Want 1 top))
      (none_yet (SimpleKind LineForm) h q full (record { counts = λ n. tt; held = ((tt, q.here), λ n. refl) }))
  begun_holds (SimpleKind PolygonForm) h q full = now (AtBody h PolygonForm None (Want 2 top))
      (none_yet (SimpleKind PolygonForm) h q full (record { counts = λ n. tt; held = ((tt, q.here), λ n. refl) }))
  begun_holds (SimpleKind MultiPointForm) h q full = now (AtCount ManyPoints h) (none_yet _ h q full refl, q.here)
  begun_holds (SimpleKind MultiLineForm) h q full = now (AtCount ManyLines h) (none_yet _ h q full refl, q.here)
  begun_holds (SimpleKind MultiPolygonForm) h q full = now (AtCount ManyPolygons h) (none_yet _ h q full refl, q.here)
  begun_holds CollectionKind h q full = now (AtCount ManyGeometries h) (none_yet _ h q full refl, q.here)

  module _ (h : Head) where
    -- the members of a multi type or a collection, after their count and ids
    members_holds : (m : Many) (ids : Ids) (n : ℕ) → e.position ≡ origin
        → Open (many_kind m) (length (join before)) h (Listed (length fs) m h n ids) own
        → Holds e (members_begin m h fs ids n) (before ++ own)
    members_holds ManyPoints ids n here o = settled_holds h MultiPointForm ids (opened 0 n top) (open_as o (record {
      counts = counted_from _ _ n _ o.body (o.body_is.says, o.body_is.fit) o.body_is.are;
      held = opened_held (first_of MultiPointForm ids) 0 n top e.position o.body
          (o.body_is.are, here ∙ sym (reached_names ids));
    }))
    members_holds ManyLines ids n here o = settled_holds h MultiLineForm ids (opened 1 n top) (open_as o (record {
      counts = counted_from _ _ n _ o.body (o.body_is.says, o.body_is.fit) o.body_is.are;
      held = opened_held (first_of MultiLineForm ids) 1 n top e.position o.body
          (o.body_is.are, here ∙ sym (reached_names ids));
    }))
    members_holds ManyPolygons ids n here o = settled_holds h MultiPolygonForm ids (opened 2 n top) (open_as o (record {
      counts = counted_from _ _ n _ o.body (o.body_is.says, o.body_is.fit) o.body_is.are;
      held = opened_held (first_of MultiPolygonForm ids) 2 n top e.position o.body
          (o.body_is.are, here ∙ sym (reached_names ids));
    }))
    members_holds ManyGeometries ids zero here o = now (AtEnd h (collection h.precision None end))
        (gathered_all (length fs) (length (join before)) e h None end own
        (open_as o (subst (λ i. Gathered (length fs) h i end 0 o.body) o.body_is.says
        (gathered_none (length fs) h 0 ids o.body o.body_is))))
    members_holds ManyGeometries ids (suc n) here o =
        member_next (frame h ids end n) (open_as o (gathered_none (length fs) h (suc n) ids o.body o.body_is))

    -- the first count of a multi type or a collection was read
    counted_holds : (m : Many) (n : ℕ) → e.position ≡ origin → Open (many_kind m) (length (join before)) h
        (λ body. AreFields (steps origin (OfCount (first_count m (length fs)) n ∷ [])) body) own
        → Holds e (counted m h fs n) (before ++ own)
    counted_holds m zero here o = members_holds m None 0 here
        (open_as o (record { says = refl; fit = tt; are = o.body_is }))
    counted_holds m (suc n) here o = go (bit h.meta 2) refl
      where
        go : (b : Bool) → bit h.meta 2 ≡ b → Holds e (counted m h fs (suc n)) (before ++ own)
        go false has = rw has (members_holds m None (suc n) here
            (open_as o (record { says = has; fit = tt; are = o.body_is })))
        go true has = rw has (now (AtId m h (suc n) [] n)
            (open_as o (record { has = has; are = o.body_is; many = omega arith; each = tt }), here))

  -- the next optional part, or the body after the last one
  wanting_holds : (k : Kind) (h : Head) (rs : List Role) → Options k (length (join before)) rs h e own
      → Holds e (fs, wanting k h rs) (before ++ own)
  wanting_holds k h (r ∷ rs) o = now (AtOption k h r rs) o
  wanting_holds k h [] o =
      let (g, same, q) = options_read k (length (join before)) h e own o in
      subst (λ ph. Holds e (fs, ph) (before ++ own)) (sym same) (go g q (bit g.meta 4) refl)
    where
      -- bit 4 stands for an empty geometry
      empty : (k : Kind) (h : Head) (q : Ready k (length (join before)) h e own) → bit h.meta 4 ≡ true
          → Own (length fs) (length (join before)) e (AtEnd h (empty_of k h.precision)) own
      empty (SimpleKind PointForm) h q bare =
          (closing q.parts [] own q.whole bare (rw bare refl), (q.parts.precise, tt))
      empty (SimpleKind _) h q bare = (closing q.parts [] own q.whole tt (rw bare refl), (q.parts.precise, tt))
      empty CollectionKind h q bare = (closing q.parts [] own q.whole tt (rw bare refl), (q.parts.precise, tt, tt))

      go : (g : Head) → Ready k (length (join before)) g e own → (t : Bool) → bit g.meta 4 ≡ t
          → Holds e (fs, wanting k g []) (before ++ own)
      go g q true bare = rw bare (now (AtEnd g (empty_of k g.precision)) (empty k g q bare))
      go g q false full = rw full (begun_holds k g q full)

-- a complete geometry is the next member of the innermost open collection, or the whole
ended_holds : (fs : List Frame) (before : List Item) (e : Sums) (g : Tree) (own : List Item) → Inside fs before
    → e.bytes ≡ length (join before) + length (join own) → Items (length fs) g own → IsTree g
    → Holds e (ended fs g) (before ++ own)
ended_holds [] before e g own outer bytes items fits = now [] before outer e own bytes (Finished g) (items, fits, refl)
ended_holds (f ∷ fs) before e g own (pre, mine, cut, out, o) bytes items fits =
    subst (λ l. Holds e (ended (f ∷ fs) g) l) (sym (ap (λ l. l ++ own) cut ∙ append_assoc pre mine own)) (go f.left o)
  where
    total : e.bytes ≡ length (join pre) + length (join (mine ++ own))
    total = omega (arith, bytes, ap (λ l. length (join l)) cut, long pre mine, long mine own)

    more : (left : ℕ) → Open CollectionKind (length (join pre)) f.head
        (Gathered (length fs) f.head f.ids f.done (suc left)) mine
        → Open CollectionKind (length (join pre)) f.head
        (Gathered (length fs) f.head f.ids (snoc f.done g) left) (mine ++ own)
    more left o = open_more o own (gathered_more (length fs) f.head f.ids f.done left g o.body own o.body_is items fits)

    go : (left : ℕ) → Open CollectionKind (length (join pre)) f.head
        (Gathered (length fs) f.head f.ids f.done (suc left)) mine
        → Holds e (ended (frame f.head f.ids f.done left ∷ fs) g) (pre ++ (mine ++ own))
    go zero o = now fs pre out e (mine ++ own) total
        (AtEnd f.head (collection f.head.precision f.ids (snoc f.done g)))
        (gathered_all (length fs) (length (join pre)) e f.head f.ids (snoc f.done g) (mine ++ own) (more 0 o))
    go (suc left) o =
        member_next fs pre out e (mine ++ own) total (frame f.head f.ids (snoc f.done g) left) (more (suc left) o)

-- a kind found by its number has that number
kind_number_at : (n : ℕ) → 0 < n → n < 8 → kind_number (kind_at n) ≡ n
kind_number_at zero a b = absurd (omega arith)
kind_number_at (suc (suc (suc (suc (suc (suc (suc n))))))) a b = let z : n ≡ 0 = omega arith in
    ap (λ k. suc (suc (suc (suc (suc (suc (suc k))))))) (sym z)
kind_number_at (suc _) a b = refl

-- an item with the role and the bytes of a header
is_header : (i : Item) → i.role ≡ Header → Spells Header i.number i.bytes
    → i ≡ item Header (header_byte (kind_number (kind_at (i.number % 16))) (unzigzag_of (i.number / 16)))
is_header i role s = (λ t. record { role = role t; number = i.number; bytes = s.3 t }) ∙ ap (λ n. item Header n)
    (let z : i.number ≡ header_byte (kind_number (kind_at (i.number % 16))) (unzigzag_of (i.number / 16)) =
    omega (arith, kind_number_at (i.number % 16) s.1 s.2, zigzag_of-unzigzag_of (i.number / 16)) in z)

starts_more : (P : ℕ → Type 0) (is : List Item) (i : Item) → Starts P is → Starts P (is ++ i ∷ [])
starts_more P [] i s = s i.number
starts_more P (j ∷ is) i s = s

all_more : (ids : List ℤ) (id : ℤ) → AllByRecursion IsId ids → IsId id → AllByRecursion IsId (ids ++ id ∷ [])
all_more [] id each fit = (fit, tt)
all_more (x ∷ ids) id each fit = (each.0, all_more ids id each.1 fit)

-- one more id
named_more : (level : ℕ) (m : Many) (h : Head) (n : ℕ) (ids : List ℤ) (left : ℕ) (body : List Item) (i : Item)
    → Named level m h n ids (suc left) body → i.role ≡ Id → IsItem i
    → Named level m h n (ids ++ unzigzag_of i.number ∷ []) left (body ++ i ∷ [])
named_more level m h n ids left body i c role item =
    let v : IsVarint i.bytes i.number = subst (λ r. Spells r i.number i.bytes) role item in
    let x = unzigzag_of i.number in
    record {
      has = c.has;
      are = subst (λ l. AreFields (steps origin (OfCount (first_count m level) n ∷ l)) (body ++ i ∷ []))
          (sym (map-append OfId ids (x ∷ [])))
          (slots_more (OfCount (first_count m level) n ∷ map OfId ids) (OfId x ∷ []) body (i ∷ []) c.are
          (role, sym (zigzag_of-unzigzag_of i.number), item, tt));
      many = omega (arith, c.many, length-append ids (x ∷ []));
      each = all_more ids x c.each (id_small i.number v.fits);
    }

-- the ids are complete
named_all : (level : ℕ) (m : Many) (h : Head) (n : ℕ) (ids : List ℤ) (id : ℤ) (body : List Item)
    → Named level m h n (ids ++ id ∷ []) 0 body → Listed level m h n (Some (ids ++ id ∷ [])) body
named_all level m h n ids id body c = record {
  says = go n same;
  fit = (omega (arith, same, length-append ids (id ∷ [])), same, c.each);
  are = c.are;
}
  where
    same : length (ids ++ id ∷ []) ≡ n
    same = omega (arith, c.many)

    go : (n : ℕ) → length (ids ++ id ∷ []) ≡ n → SaysIds h (Some (ids ++ id ∷ [])) n
    go zero same = absurd (omega (arith, same, length-append ids (id ∷ [])))
    go (suc n) same = (c.has, same)

module _ (fs : List Frame) (before : List Item) (outer : Inside fs before) (e : Sums) (own : List Item)
    (bytes : e.bytes ≡ length (join before) + length (join own)) (i : Item) (spelled : IsItem i) where
  next_bytes : (added e i).bytes ≡ length (join before) + length (join (own ++ i ∷ []))
  next_bytes = omega (arith, bytes, long own (i ∷ []), length-append i.bytes [])

  step : (ph : Phase) → role_at e (fs, ph) ≡ Some i.role → Own (length fs) (length (join before)) e ph own
      → Holds (added e i) (stack_after e i (fs, ph)) (before ++ (own ++ i ∷ []))
  step AtHeader r o =
      let role = some_role Header i.role r in
      let s : Spells Header i.number i.bytes = subst (λ r. Spells r i.number i.bytes) role spelled in
      now fs before outer (added e i) (own ++ i ∷ []) next_bytes
      (AtMetadata (kind_at (i.number % 16)) (unzigzag_of (i.number / 16))) (
        ap (λ l. l ++ i ∷ []) o ∙ ap (λ j. j ∷ []) (is_header i role s),
        precision_fits (i.number / 16) (omega (arith, s.0)),
        ap (λ r. moved e.position r i.number) role,
      )
  step (AtMetadata k q) r o =
      let role = some_role (Metadata (kind_number k)) i.role r in
      let s : Spells (Metadata (kind_number k)) i.number i.bytes =
      subst (λ r. Spells r i.number i.bytes) role spelled in
      let is_meta : i ≡ item (Metadata (kind_number k)) i.number =
      λ t. record { role = role t; number = i.number; bytes = s.1 t } in
      wanting_holds fs before outer (added e i) (own ++ i ∷ []) next_bytes k
      (head q i.number None (added e i).bytes) (asked i.number) (record {
        precision = q;
        meta = i.number;
        roles = [];
        options = [];
        start = added e i;
        precise = o.1;
        byte = s.0;
        have = tt;
        asked_is = refl;
        place = omega (arith, bytes, ap (λ l. length (join l)) o.0, ap length s.1);
        here = ap (λ r. moved e.position r i.number) role ∙ o.2;
        sums = refl;
        runs = refl;
        whole = ap (λ l. l ++ i ∷ []) o.0 ∙ ap (λ j. item Header (header_byte (kind_number k) q) ∷ j ∷ []) is_meta;
      })
  step (AtOption k h s rs) r o = wanting_holds fs before outer (added e i) (own ++ i ∷ []) next_bytes k
      (with_option h s i.number (e.bytes + length i.bytes)) rs
      (option_more k (length (join before)) s rs h e own i o (some_role s i.role r) spelled)
  step (AtCount m h) r (o, here) =
      let c = first_count m (length fs) in
      let role = some_role (Count c) i.role r in
      counted_holds fs before outer (added e i) (own ++ i ∷ []) next_bytes h m i.number
      (moved_count e.position c i.role i.number role ∙ here) (open_more o (i ∷ [])
      (subst (λ l. AreFields (steps origin (OfCount c i.number ∷ [])) (l ++ i ∷ [])) (sym o.body_is)
      (role, refl, spelled, tt)))
  step (AtId m h n ids zero) r (o, here) =
      let role = some_role Id i.role r in
      members_holds fs before outer (added e i) (own ++ i ∷ []) next_bytes h m
      (Some (ids ++ unzigzag_of i.number ∷ [])) n (moved_id e.position i.role i.number role ∙ here)
      (open_more o (i ∷ []) (named_all (length fs) m h n ids (unzigzag_of i.number) (o.body ++ i ∷ [])
      (named_more (length fs) m h n ids 0 o.body i o.body_is role spelled)))
  step (AtId m h n ids (suc left)) r (o, here) =
      let role = some_role Id i.role r in
      now fs before outer (added e i) (own ++ i ∷ []) next_bytes
      (AtId m h n (ids ++ unzigzag_of i.number ∷ []) left) (
        open_more o (i ∷ []) (named_more (length fs) m h n ids (suc left) o.body i o.body_is role spelled),
        moved_id e.position i.role i.number role ∙ here,
      )
  step (AtBody h f ids (Done v)) r o = absurd o
  step (AtBody h f ids b) r o = settled_holds fs before outer (added e i) (own ++ i ∷ []) next_bytes h f ids
      (body_after (moved e.position i.role i.number) i.number b) (open_more o (i ∷ []) (record {
        counts = starts_more (Counts h f ids) o.body i o.body_is.counts;
        held = body_held (first_of f ids) b e.position o.body i.role i.number i.bytes r o.body_is.held spelled;
      }))
  step (AtEnd h g) r o =
      let role : i.role ≡ End h.size ((length (join before) + length (join own)) - h.from) =
      some_role (End h.size (e.bytes - h.from)) i.role r ∙ ap (λ n. End h.size (n - h.from)) bytes in
      let s : Spells (End h.size ((length (join before) + length (join own)) - h.from)) i.number i.bytes =
      subst (λ r. Spells r i.number i.bytes) role spelled in
      let is_end : i ≡ end_after h (length (join before)) own =
      λ t. record { role = role t; number = s.0 t; bytes = s.1 t } in
      ended_holds fs before (added e i) g (own ++ i ∷ []) outer next_bytes
      (subst (λ j. Items (length fs) g (own ++ j ∷ [])) (sym is_end) o.0) o.1
  step (Finished g) r o = absurd cc

-- the stack after some items says what they are
held_run : (is before : List Item) (e : Sums) (st last : Stack) → Holds e st before → Runs e st is last
    → Holds (sums_after e is) last (before ++ is)
held_run [] before e st last h r =
    subst (λ l. Holds e last l) (sym (append-nil before)) (subst (λ s. Holds e s before) r h)
held_run (i ∷ is) before e st last h r =
    subst (λ l. Holds (sums_after (added e i) is) last l) (append_assoc before (i ∷ []) is)
    (held_run is (before ++ i ∷ []) (added e i) (stack_after e i st) last
    (subst (λ l. Holds (added e i) (stack_after e i st) l)
    (sym (ap (λ l. l ++ i ∷ []) h.whole ∙ append_assoc h.before h.own (i ∷ [])))
    (step st.0 h.before h.outer e h.own h.bytes i r.1 st.1 r.0 h.inner)) r.2)

-- the stack after all items from the start says what they are
held : (is : List Item) (last : Stack) → Runs nothing started is last → Holds (sums_after nothing is) last is
held is last r = held_run is [] nothing started last
    (record { before = []; own = []; whole = refl; outer = refl; bytes = refl; inner = refl }) r

-- items that the machine runs through from its start to a geometry are the items of that geometry
pub runs_are_items : (g : Tree) (is : List Item) → Runs nothing started is ([], Finished g) → Items 0 g is × IsTree g
runs_are_items g is r = let h = held is ([], Finished g) r in
    (subst (λ l. Items 0 g l) (sym (h.whole ∙ ap (λ l. l ++ h.own) h.outer)) h.inner.0, h.inner.1)

-- ==== Stacks that the machine reaches.

-- a stack that expects an item, or is finished
abbrev pub IsProper : Stack → Type 0
IsProper (fs, AtBody h f ids (Done v)) = ⊥
IsProper (fs, Finished g) = fs ≡ []
IsProper _ = ⊤

-- the machine runs from its start to such stacks alone
pub proper_run : (is : List Item) (st : Stack) → Runs nothing started is st → IsProper st
proper_run is (fs, ph) r = let h = held is (fs, ph) r in go (length (join h.before)) ph h.own h.inner
  where
    empty : (fs : List Frame) → length fs ≡ 0 → fs ≡ []
    empty [] e = refl
    empty (f ∷ fs) e = absurd (omega (arith, e))

    go : (at : ℕ) (ph : Phase) (own : List Item) → Own (length fs) at (sums_after nothing is) ph own → IsProper (fs, ph)
    go at (AtBody h f ids (Done v)) own o = absurd o
    go at (Finished g) own o = empty fs o.2
    go at _ own o = tt

-- if the items are in this order, an item at its place keeps depth and range
pub kept_at : (most : ℕ) (before : List Item) (i : Item) (more : List Item) (e : Sums)
    → Kept most e (before ++ i ∷ more) → Here most (sums_after e before).position i.role i.number
kept_at most [] i more e k = k.0
kept_at most (j ∷ before) i more e k = kept_at most before i more (added e j) k.1

-- at most as many collections are open as allowed: the count of the innermost says so
pub depth_run : (nest : ℕ) (is : List Item) (st : Stack) → Runs nothing started is st → Kept nest nothing is
    → length st.0 ≤ nest
depth_run nest is st r k = let h = held is st r in
    go st.0 h.before h.own h.outer (subst (λ l. Kept nest nothing l) h.whole k)
  where
    counted : (n level : ℕ) (front rest before : List Item) (fs : List Field) → 0 < n
        → AreFields ((Count (Geometries level), n) ∷ fs) front → Kept nest nothing (before ++ (front ++ rest))
        → suc level ≤ nest
    counted n level [] rest before fs some are k = absurd are
    counted n level (i ∷ front) rest before fs some are k =
        let deep : nest ≤ level → i.number ≡ 0 = subst (λ r. Here nest (sums_after nothing before).position r i.number)
        are.0 (kept_at nest before i (front ++ rest) nothing k) in
        elim (cases_lt level nest) [ inl low ↦ low | inr high ↦ absurd (omega (arith, deep high, are.1, some)) ]

    go : (fs : List Frame) (before more : List Item) → Inside fs before → Kept nest nothing (before ++ more)
        → length fs ≤ nest
    go [] before more o k = omega arith
    go (f ∷ fs) inside more (before, own, cut, out, o) k =
        counted o.body_is.n (length fs) o.body_is.are.front (o.body_is.are.rest ++ more) (before ++ opening o.parts)
        (id_fields f.ids) (omega (arith, o.body_is.many)) o.body_is.are.first (subst (λ l. Kept nest nothing l)
        (ap (λ l. l ++ more) (cut ∙ ap (λ l. before ++ l) (o.whole ∙ ap (λ l. opening o.parts ++ l) o.body_is.are.whole)
        ∙ sym (append_assoc before (opening o.parts) (o.body_is.are.front ++ o.body_is.are.rest)))
        ∙ (append_assoc (before ++ opening o.parts) (o.body_is.are.front ++ o.body_is.are.rest) more
        ∙ ap (λ l. (before ++ opening o.parts) ++ l)
        (append_assoc o.body_is.are.front o.body_is.are.rest more))) k)
