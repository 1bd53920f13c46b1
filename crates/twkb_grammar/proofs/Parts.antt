-- Prefixes of items, with the frames of their open geometries, each of which can be completed.
use Rattle.std.proofs.Common.{Bool, true, false, ◌≡◌, ℕ, zero, suc, ◌+◌, ◌<◌, ◌≤◌, List, [], ◌∷◌, ◌++◌, length, refl}
use Rattle.std.proofs.Common.{subst, Some, None, arith, ◌-◌, ap, sym, ◌∙◌, ◌*◌, length-append, append_assoc}
use Rattle.std.specs.Prelude.{⊤, ℤ}
use Rattle.twkb_num.specs.Spelling.{unzigzag_of}
use Rattle.twkb_num.specs.Varint.{HasMarks, IsVarint}
use Rattle.twkb_points.specs.Point.{Point}
use Rattle.twkb_tree.specs.Tree.{Tree, Ids, Trees, simple, collection, IsTree}
use Rattle.twkb_tree.specs.Limits.{Allowance}
use Rattle.twkb_tree.proofs.RowLaws.{all_join}
use Rattle.twkb_grammar.specs.Bits.{bit}
use Rattle.twkb_grammar.specs.Roles.{Role, Count, Item, Header, Metadata, Extended, Size, Box, Id, X, Y, End}
use Rattle.twkb_grammar.specs.Roles.{where_set, Spells, HasBytes, IsItem, join}
use Rattle.twkb_grammar.specs.Fault.{moved}
use Rattle.twkb_grammar.specs.Machine.{BodyForm, PointForm, MultiPointForm, MultiLineForm, MultiPolygonForm, depth_of}
use Rattle.twkb_grammar.specs.Machine.{Kind, SimpleKind, Body, Want, WantY, Done, opened, top, Head, Frame, Many}
use Rattle.twkb_grammar.specs.Machine.{ManyPoints, ManyLines, ManyPolygons, ManyGeometries, Phase, AtHeader}
use Rattle.twkb_grammar.specs.Machine.{AtMetadata, AtOption, AtCount, AtId, AtBody, AtEnd, Finished, Sums, nothing}
use Rattle.twkb_grammar.specs.Machine.{added, Stack, started, settled, begun, wanting, asked, with_option, body_after}
use Rattle.twkb_grammar.specs.Machine.{members_begin, counted, ended, stack_after, Runs, kind_number, listed}
use Rattle.twkb_grammar.specs.Machine.{body_role, first_count, phase_role, advanced, Nested, Around, within, closed}
use Rattle.twkb_grammar.specs.Machine.{shape_of, CollectionKind, LineForm, PolygonForm, empty_of, snoc, role_at}
use Rattle.twkb_grammar.specs.Reading.{Reached, open_by, open_after, frame_count}
use Rattle.twkb_grammar.proofs.BodiesBack.{some_role}
use Rattle.twkb_grammar.proofs.TreesBack.{depth_run, runs_are_items, IsProper, proper_run}
use Rattle.twkb_grammar.proofs.Trees.{frame, tree_runs}
use Rattle.twkb_grammar.proofs.Bodies.{head, sums_after, Runs-append}
use Rattle.std.specs.List.{AllByRecursion}
use Rattle.twkb_num.proofs.VarintLemmas.{one_varint}
use Rattle.twkb_grammar.specs.Items.{Blob, Items}
pub use Rattle.twkb_grammar.proofs.Bodies.{runs_same}

-- ==== The limit on collections around a member bounds the number of open collections.

-- at most as many collections are open as allowed
pub reached_depth : (limits : Allowance) (bytes : List ℕ) (e : Sums) (st : Stack)
    → Reached limits bytes e st → length st.0 ≤ limits.nest
reached_depth limits bytes e st r = depth_run limits.nest r.items st r.ran.runs r.ran.kept

-- ==== The frames of a stack and the optional parts that it expects, after an item.

-- the number of frames, and the optional parts that are expected
abbrev pub load : Stack → ℕ × List Role
load (fs, AtHeader) = (length fs, [])
load (fs, Finished g) = (length fs, [])
load (fs, AtOption k h r rs) = (suc (length fs), r ∷ rs)
load (fs, _) = (suc (length fs), [])

load-settled : (fs : List Frame) (h : Head) (f : BodyForm) (ids : Ids) (b : Body (depth_of f))
    → load (fs, settled h f ids b) ≡ (suc (length fs), [])
load-settled fs h f ids (Want d a) = refl
load-settled fs h f ids _ = refl

load-wanting : (fs : List Frame) (k : Kind) (h : Head) (rs : List Role)
    → load (fs, wanting k h rs) ≡ (suc (length fs), rs)
load-wanting fs k h (r ∷ rs) = refl
load-wanting fs k h [] = go (bit h.meta 4) refl
  where
    begins : (k : Kind) → load (fs, begun k h) ≡ (suc (length fs), [])
    begins (SimpleKind PointForm) = refl
    begins _ = refl

    go : (b : Bool) → bit h.meta 4 ≡ b → load (fs, wanting k h []) ≡ (suc (length fs), [])
    go true e = rw e refl
    go false e = rw e (begins k)

load-members_begin : (fs : List Frame) (m : Many) (h : Head) (ids : Ids) (n : ℕ)
    → load (members_begin m h fs ids n) ≡ (suc (length fs), [])
load-members_begin fs ManyPoints h ids n = load-settled fs h MultiPointForm ids (opened 0 n top)
load-members_begin fs ManyLines h ids n = load-settled fs h MultiLineForm ids (opened 1 n top)
load-members_begin fs ManyPolygons h ids n = load-settled fs h MultiPolygonForm ids (opened 2 n top)
load-members_begin fs ManyGeometries h ids zero = refl
load-members_begin fs ManyGeometries h ids (suc n) = refl

load-counted : (fs : List Frame) (m : Many) (h : Head) (n : ℕ) → load (counted m h fs n) ≡ (suc (length fs), [])
load-counted fs m h zero = load-members_begin fs m h None 0
load-counted fs m h (suc n) = go (bit h.meta 2) refl
  where
    go : (b : Bool) → bit h.meta 2 ≡ b → load (counted m h fs (suc n)) ≡ (suc (length fs), [])
    go true e = rw e refl
    go false e = rw e (load-members_begin fs m h None (suc n))

load-ended : (fs : List Frame) (g : Tree) → load (ended fs g) ≡ (length fs, [])
load-ended [] g = refl
load-ended (f ∷ fs) g = go f.left
  where
    go : (n : ℕ) → load (ended (frame f.head f.ids f.done n ∷ fs) g) ≡ (suc (length fs), [])
    go zero = refl
    go (suc n) = refl

-- the number of frames and the optional parts after an item with this number
abbrev load_after : ℕ → Stack → ℕ × List Role
load_after n (fs, AtMetadata k p) = (suc (length fs), asked n)
load_after n (fs, AtOption k h r rs) = (suc (length fs), rs)
load_after n (fs, AtEnd h g) = (length fs, [])
load_after n (fs, Finished g) = (length fs, [])
load_after n (fs, _) = (suc (length fs), [])

load-advanced : (p : Point) (total n : ℕ) (fs : List Frame) (ph : Phase)
    → load (advanced p total n fs ph) ≡ load_after n (fs, ph)
load-advanced p total n fs AtHeader = refl
load-advanced p total n fs (AtMetadata k q) = load-wanting fs k (head q n None total) (asked n)
load-advanced p total n fs (AtOption k h r rs) = load-wanting fs k (with_option h r n total) rs
load-advanced p total n fs (AtCount m h) = load-counted fs m h n
load-advanced p total n fs (AtId m h members ids zero) =
    load-members_begin fs m h (Some (ids ++ unzigzag_of n ∷ [])) members
load-advanced p total n fs (AtId m h members ids (suc left)) = refl
load-advanced p total n fs (AtBody h f ids b) = load-settled fs h f ids (body_after p n b)
load-advanced p total n fs (AtEnd h g) = load-ended fs g
load-advanced p total n fs (Finished g) = refl

-- what holds of the roles of a body's items holds of the next one's
pub body_each : (P : Role → Type 0) → P X → P Y → ((d : ℕ) → P (Count (listed d))) → {whole : ℕ} (b : Body whole)
    (r : Role) → body_role b ≡ Some r → P r
body_each P x y counts (Want zero a) r e = subst P (sym (some_role X r e)) x
body_each P x y counts (Want (suc d) a) r e = subst P (sym (some_role (Count (listed d)) r e)) (counts d)
body_each P x y counts (WantY a) r e = subst P (sym (some_role Y r e)) y
body_each P x y counts (Done v) r e = absurd cc

-- ==== The frames of a stack are its open geometries.

-- an optional part
abbrev IsOption : Role → Type 0
IsOption Extended = ⊤
IsOption Size = ⊤
IsOption Box = ⊤
IsOption _ = ⊥

asked_options : (meta : ℕ) → AllByRecursion IsOption (asked meta)
asked_options meta = all_join IsOption (where_set (bit meta 3) (Extended ∷ [])) _
    (go (bit meta 3) (Extended ∷ []) (tt, tt))
    (all_join IsOption (where_set (bit meta 1) (Size ∷ [])) _ (go (bit meta 1) (Size ∷ []) (tt, tt))
    (go (bit meta 0) (Box ∷ Box ∷ Box ∷ Box ∷ []) (tt, (tt, (tt, (tt, tt))))))
  where
    go : (b : Bool) (rs : List Role) → AllByRecursion IsOption rs → AllByRecursion IsOption (where_set b rs)
    go true rs all = all
    go false rs all = tt

option_opens : (n : ℕ) (r : Role) → IsOption r → open_by (suc n) r ≡ suc n
option_opens n Extended o = refl
option_opens n Size o = refl
option_opens n Box o = refl
option_opens n _ o = absurd o

-- the number of frames changes with an item as that of open geometries, if the optional parts are such
frames_after : (n total : ℕ) (p : Point) (level at : ℕ) (fs : List Frame) (ph : Phase) (r : Role)
    → phase_role level at ph ≡ Some r → AllByRecursion IsOption (load (fs, ph)).1
    → ((load (advanced p total n fs ph)).0 ≡ open_by (load (fs, ph)).0 r)
    × AllByRecursion IsOption (load (advanced p total n fs ph)).1
frames_after n total p level at fs ph r says options =
    let same = load-advanced p total n fs ph in (
      ap (λ (x : ℕ × List Role). x.0) same ∙ opens ph says options,
      subst (λ (x : ℕ × List Role). AllByRecursion IsOption x.1) (sym same) (left ph options),
    )
  where
    left : (ph : Phase) → AllByRecursion IsOption (load (fs, ph)).1 → AllByRecursion IsOption (load_after n (fs, ph)).1
    left (AtMetadata k q) o = asked_options n
    left (AtOption k h r rs) o = o.1
    left _ o = tt

    at_role : (m : ℕ) (s : Role) → Some s ≡ Some r → m ≡ open_by (suc (length fs)) s → m ≡ open_by (suc (length fs)) r
    at_role m s e same = same ∙ ap (open_by (suc (length fs))) (sym (some_role s r e))

    opens : (ph : Phase) → phase_role level at ph ≡ Some r → AllByRecursion IsOption (load (fs, ph)).1
        → (load_after n (fs, ph)).0 ≡ open_by (load (fs, ph)).0 r
    opens AtHeader e o = ap (open_by (length fs)) (sym (some_role Header r e))
    opens (AtMetadata k q) e o = at_role _ (Metadata (kind_number k)) e refl
    opens (AtOption k h s rs) e o = at_role _ s e (sym (option_opens (length fs) s o.0))
    opens (AtCount m h) e o = at_role _ (Count (first_count m level)) e refl
    opens (AtId m h members ids left) e o = at_role _ Id e refl
    opens (AtBody h f ids b) e o = body_each (λ r. suc (length fs) ≡ open_by (suc (length fs)) r) refl refl (λ d. refl)
        b r e
    opens (AtEnd h g) e o = at_role _ (End h.size (at - h.from)) e refl
    opens (Finished g) e o = absurd cc

frames_run : (is : List Item) (e : Sums) (st last : Stack) → Runs e st is last → AllByRecursion IsOption (load st).1
    → (load last).0 ≡ open_after (load st).0 is
frames_run [] e st last r o = ap (λ s. (load s).0) (sym r)
frames_run (i ∷ is) e st last r o =
    let next = frames_after i.number (e.bytes + length i.bytes) (moved e.position i.role i.number) (length st.0) e.bytes
    st.0 st.1 i.role r.0 o in
    frames_run is (added e i) (stack_after e i st) last r.2 next.1 ∙ ap (λ n. open_after n is) next.0

frame_count-load : (fs : List Frame) (ph : Phase) → frame_count (fs, ph) ≡ (load (fs, ph)).0
frame_count-load fs AtHeader = refl
frame_count-load fs _ = refl

-- the number of frames is the number of open geometries
pub reached_frames : (limits : Allowance) (bytes : List ℕ) (e : Sums) (st : Stack)
    (r : Reached limits bytes e st) → frame_count st ≡ open_after 0 r.items
reached_frames limits bytes e st r = frame_count-load st.0 st.1 ∙ frames_run r.items nothing started st r.ran.runs tt

most_frames : (nest : ℕ) (fs : List Frame) (ph : Phase) → length fs ≤ nest → frame_count (fs, ph) ≤ nest + 1
most_frames nest fs AtHeader few = omega (arith, few)
most_frames nest fs _ few = omega (arith, few)

-- there is at most one frame more than the collections allowed around a member
pub reached_few : (limits : Allowance) (bytes : List ℕ) (e : Sums) (st : Stack)
    → Reached limits bytes e st → frame_count st ≤ limits.nest + 1
reached_few limits bytes e st r = most_frames limits.nest st.0 st.1 (reached_depth limits bytes e st r)

-- ==== A measure that each item lowers, which bounds the number of items still to come.

-- the number of open geometries, and of optional parts that are expected
abbrev pub pending : Stack → ℕ
pending st = (load st).0 + length (load st).1

-- an item that is not an end has bytes
pub item_some : (role : Role) (n : ℕ) (bytes : List ℕ) → HasBytes role → Spells role n bytes → 0 < length bytes
item_some Header n bytes apart s = omega (arith, ap length s.3)
item_some (Metadata k) n bytes apart s = omega (arith, ap length s.1)
item_some Extended n bytes apart s = omega (arith, ap length s.2)
item_some (End d c) n bytes apart s = absurd (apart d c refl)
item_some _ n bytes apart s = go bytes s.marked
  where
    go : (bytes : List ℕ) → HasMarks bytes → 0 < length bytes
    go [] h = absurd h
    go (b ∷ bs) h = omega arith

length-asked : (meta : ℕ) → length (asked meta) ≤ 6
length-asked meta = omega (
  arith,
  length-append (where_set (bit meta 3) (Extended ∷ [])) (sizes ++ boxes),
  length-append sizes boxes,
  go (bit meta 3) (Extended ∷ []),
  go (bit meta 1) (Size ∷ []),
  go (bit meta 0) (Box ∷ Box ∷ Box ∷ Box ∷ []),
)
  where
    sizes : List Role
    sizes = where_set (bit meta 1) (Size ∷ [])

    boxes : List Role
    boxes = where_set (bit meta 0) (Box ∷ Box ∷ Box ∷ Box ∷ [])

    go : (b : Bool) (rs : List Role) → length (where_set b rs) ≤ length rs
    go true rs = omega arith
    go false rs = omega arith

-- each item lowers eight times the bytes left plus what is pending
pub lowers : (p : Point) (level at total n : ℕ) (bytes : List ℕ) (fs : List Frame) (ph : Phase)
    (r : Role) → phase_role level at ph ≡ Some r → Spells r n bytes
    → pending (advanced p total n fs ph) + 1 ≤ 8 * length bytes + pending (fs, ph)
lowers p level at total n bytes fs ph r says s =
    subst (λ (x : ℕ × List Role). x.0 + length x.1 + 1 ≤ 8 * length bytes + pending (fs, ph))
    (sym (load-advanced p total n fs ph)) (go ph says)
  where
    go : (ph : Phase) → phase_role level at ph ≡ Some r
        → (load_after n (fs, ph)).0 + length (load_after n (fs, ph)).1 + 1 ≤ 8 * length bytes + pending (fs, ph)
    go AtHeader e = omega (arith, item_some r n bytes (λ d c f. cc) s)
    go (AtMetadata k q) e = omega (arith, item_some r n bytes (λ d c f. cc) s, length-asked n)
    go (AtOption k h o rs) e = omega arith
    go (AtCount m h) e = omega (arith, item_some r n bytes (λ d c f. cc) s)
    go (AtId m h members ids left) e = omega (arith, item_some r n bytes (λ d c f. cc) s)
    go (AtBody h f ids b) e = omega (
      arith,
      item_some r n bytes
          (body_each HasBytes (λ d c f. cc) (λ d c f. cc) (λ d m c f. cc) b r e) s,
    )
    go (AtEnd h g) e = omega arith
    go (Finished g) e = absurd cc

-- ==== Every state that the machine reaches can be completed: with zeros, 0x10 for a metadata byte, and 01 10 for a
-- geometry.

-- the number of a filler: an item for any role that announces and moves nothing, or a point
-- without coordinates
abbrev pub filler_number : Role → ℕ
filler_number Header = 1
filler_number (Metadata kind) = 16
filler_number _ = 0

-- the bytes of a filler
abbrev pub filler_bytes : Role → List ℕ
filler_bytes Header = 1 ∷ []
filler_bytes (Metadata kind) = 16 ∷ []
filler_bytes (End declared came) = []
filler_bytes _ = 0 ∷ []

-- the filler of a role
abbrev pub filler : Role → Item
filler r = record { role = r; number = filler_number r; bytes = filler_bytes r }

zero_varint : IsVarint (0 ∷ []) 0
zero_varint = record { marked = omega arith; within = omega arith; sum = refl; fits = omega arith }

-- a filler is an item
pub filler_is : (r : Role) → IsItem (filler r)
filler_is Header = (omega arith, omega arith, omega arith, refl)
filler_is (Metadata k) = (omega arith, refl)
filler_is Extended = (omega arith, refl, refl)
filler_is (End d c) = (refl, refl)
filler_is _ = zero_varint

-- fillers that lead to the end of the geometry
pub record Completion (e : Sums) (st : Stack) : Type 0 where
  pub roles : List Role
  pub tree : Tree
  pub runs : Runs e st (Rattle.std.specs.Prelude.map filler roles) ([], Finished tree)

-- fillers lead to the end, whatever the sums
abbrev pub Completes : Stack → Type 0
Completes st = (e : Sums) → Completion e st

fill : (e : Sums) (st next : Stack) (r : Role) → role_at e st ≡ Some r
    → stack_after e (filler r) st ≡ next → Completion (added e (filler r)) next → Completion e st
fill e st next r says leads c =
    record {
      roles = r ∷ c.roles;
      tree = c.tree;
      runs = (
        says,
        filler_is r,
        subst (λ s. Runs (added e (filler r)) s
            (Rattle.std.specs.Prelude.map filler c.roles) ([], Finished c.tree)) (sym leads) c.runs,
      );
    }

end_done : (h : Head) (g : Tree) (fs : List Frame) → Completes (ended fs g) → Completes (fs, AtEnd h g)
end_done h g fs k e = let r = End h.size (e.bytes - h.from) in
    fill e (fs, AtEnd h g) (ended fs g) r refl refl (k (added e (filler r)))

header_done : (fs : List Frame) → ((g : Tree) → Completes (ended fs g)) → Completes (fs, AtHeader)
header_done fs k e =
    fill e (fs, AtHeader) (stack_after e (filler Header) (fs, AtHeader)) Header refl refl
    (fill (added e (filler Header)) (stack_after e (filler Header) (fs, AtHeader))
    (stack_after (added e (filler Header)) (filler (Metadata 1))
    (stack_after e (filler Header) (fs, AtHeader))) (Metadata 1) refl refl
    (end_done _ _ fs (k _) (added (added e (filler Header)) (filler (Metadata 1)))))

frame_done : (fs : List Frame) → ((g : Tree) → Completes (ended fs g))
    → (left : ℕ) (h : Head) (ids : Ids) (done : Trees) (g : Tree)
    → Completes (ended (frame h ids done left ∷ fs) g)
frame_done fs k zero h ids done g = end_done h (collection h.precision ids (snoc done g)) fs
    (k (collection h.precision ids (snoc done g)))
frame_done fs k (suc left) h ids done g = header_done (frame h ids (snoc done g) left ∷ fs)
    (λ t. frame_done fs k left h ids (snoc done g) t)

-- fillers lead to the end after a complete geometry
pub ended_done : (fs : List Frame) (g : Tree) → Completes (ended fs g)
ended_done [] g e = record { roles = []; tree = g; runs = refl }
ended_done (f ∷ fs) g e = frame_done fs (ended_done fs) f.left f.head f.ids f.done g e

module _ (h : Head) (f : BodyForm) (ids : Ids) (fs : List Frame) where
  abbrev body_st : Body (depth_of f) → Stack
  body_st b = (fs, settled h f ids b)

  want_done : (d : ℕ) (a : Around (depth_of f) d)
      → ((v : Nested d) → Completes (body_st (closed a v))) → Completes (body_st (Want d a))
  want_done zero a k e =
      fill e (body_st (Want 0 a)) (body_st (WantY a)) X refl refl
      (fill (added e (filler X)) (body_st (WantY a))
      (body_st (closed a (added (added e (filler X)) (filler Y)).position)) Y refl refl
      (k (added (added e (filler X)) (filler Y)).position
      (added (added e (filler X)) (filler Y))))
  want_done (suc d) a k e = fill e (body_st (Want (suc d) a)) (body_st (closed a []))
      (Count (listed d)) refl refl (k [] (added e (filler (Count (listed d)))))

  list_done : (d : ℕ) (a : Around (depth_of f) (suc d))
      → ((v : Nested (suc d)) → Completes (body_st (closed a v)))
      → (left : ℕ) (done : List (Nested d)) (v : Nested d)
      → Completes (body_st (closed (within done left a) v))
  list_done d a k zero done v = k (done ++ v ∷ [])
  list_done d a k (suc left) done v = want_done d (within (done ++ v ∷ []) left a)
      (λ w. list_done d a k left (done ++ v ∷ []) w)

  around_done : {d : ℕ} (a : Around (depth_of f) d) (v : Nested d) → Completes (body_st (closed a v))
  around_done top v = end_done h (simple h.precision (shape_of f ids v)) fs
      (ended_done fs (simple h.precision (shape_of f ids v)))
  around_done (within {d = d} done left a) v = list_done d a (around_done a) left done v

  opened_done : (d n : ℕ) (a : Around (depth_of f) (suc d)) → Completes (body_st (opened d n a))
  opened_done d zero a = around_done a []
  opened_done d (suc n) a = want_done d (within [] n a) (around_done (within [] n a))

  y_done : (a : Around (depth_of f) 0) → Completes (body_st (WantY a))
  y_done a e = fill e (body_st (WantY a)) (body_st (closed a (added e (filler Y)).position)) Y refl
      refl (around_done a (added e (filler Y)).position (added e (filler Y)))

members_done : (m : Many) (h : Head) (fs : List Frame) (ids : Ids) (n : ℕ) → Completes (members_begin m h fs ids n)
members_done ManyPoints h fs ids n = opened_done h MultiPointForm ids fs 0 n top
members_done ManyLines h fs ids n = opened_done h MultiLineForm ids fs 1 n top
members_done ManyPolygons h fs ids n = opened_done h MultiPolygonForm ids fs 2 n top
members_done ManyGeometries h fs ids zero = end_done h (collection h.precision None Trees.end) fs
    (ended_done fs (collection h.precision None Trees.end))
members_done ManyGeometries h fs ids (suc n) = header_done (frame h ids Trees.end n ∷ fs)
    (ended_done (frame h ids Trees.end n ∷ fs))

ids_done : (m : Many) (h : Head) (fs : List Frame) (n left : ℕ) (ids : List ℤ) → Completes (fs, AtId m h n ids left)
ids_done m h fs n zero ids e = fill e (fs, AtId m h n ids 0)
    (members_begin m h fs (Some (ids ++ Rattle.std.specs.Prelude.pos 0 ∷ [])) n) Id refl refl
    (members_done m h fs (Some (ids ++ Rattle.std.specs.Prelude.pos 0 ∷ [])) n
    (added e (filler Id)))
ids_done m h fs n (suc left) ids e = fill e (fs, AtId m h n ids (suc left))
    (fs, AtId m h n (ids ++ Rattle.std.specs.Prelude.pos 0 ∷ []) left) Id refl refl
    (ids_done m h fs n left (ids ++ Rattle.std.specs.Prelude.pos 0 ∷ []) (added e (filler Id)))

count_done : (m : Many) (h : Head) (fs : List Frame) → Completes (fs, AtCount m h)
count_done m h fs e = let r = Count (first_count m (length fs)) in
    fill e (fs, AtCount m h) (members_begin m h fs None 0) r refl refl
    (members_done m h fs None 0 (added e (filler r)))

begun_done : (k : Kind) (h : Head) (fs : List Frame) → Completes (fs, begun k h)
begun_done (SimpleKind PointForm) h fs = want_done h PointForm None fs 0 top (around_done h PointForm None fs top)
begun_done (SimpleKind LineForm) h fs = want_done h LineForm None fs 1 top (around_done h LineForm None fs top)
begun_done (SimpleKind PolygonForm) h fs = want_done h PolygonForm None fs 2 top (around_done h PolygonForm None fs top)
begun_done (SimpleKind MultiPointForm) h fs = count_done ManyPoints h fs
begun_done (SimpleKind MultiLineForm) h fs = count_done ManyLines h fs
begun_done (SimpleKind MultiPolygonForm) h fs = count_done ManyPolygons h fs
begun_done CollectionKind h fs = count_done ManyGeometries h fs

wanting_done : (k : Kind) (rs : List Role) (h : Head) (fs : List Frame) → Completes (fs, wanting k h rs)
wanting_done k [] h fs = go (bit h.meta 4) refl
  where
    go : (b : Bool) → bit h.meta 4 ≡ b → Completes (fs, wanting k h [])
    go true e = rw e (end_done h (empty_of k h.precision) fs (ended_done fs (empty_of k h.precision)))
    go false e = rw e (begun_done k h fs)
wanting_done k (r ∷ rs) h fs =
    λ e. fill e (fs, AtOption k h r rs)
    (fs, wanting k (with_option h r (filler_number r) (e.bytes + length (filler_bytes r))) rs)
    r refl refl
    (wanting_done k rs (with_option h r (filler_number r) (e.bytes + length (filler_bytes r))) fs (added e (filler r)))

-- fillers lead to the end from any such stack
pub completes : (st : Stack) → IsProper st → Completes st
completes (fs, AtHeader) p = header_done fs (ended_done fs)
completes (fs, AtMetadata k q) p =
    λ e. fill e (fs, AtMetadata k q) (
      fs,
      AtEnd (record { precision = q; meta = 16; size = None; from = e.bytes + 1 })
          (empty_of k q),
    ) (Metadata (kind_number k)) refl refl
    (end_done (record { precision = q; meta = 16; size = None; from = e.bytes + 1 }) (empty_of k q)
    fs (ended_done fs (empty_of k q)) (added e (filler (Metadata (kind_number k)))))
completes (fs, AtOption k h r rs) p = wanting_done k (r ∷ rs) h fs
completes (fs, AtCount m h) p = count_done m h fs
completes (fs, AtId m h n ids left) p = ids_done m h fs n left ids
completes (fs, AtBody h f ids (Want d a)) p = want_done h f ids fs d a (around_done h f ids fs a)
completes (fs, AtBody h f ids (WantY a)) p = y_done h f ids fs a
completes (fs, AtBody h f ids (Done v)) p = absurd p
completes (fs, AtEnd h g) p = end_done h g fs (ended_done fs g)
completes (fs, Finished g) p = λ e. record { roles = []; tree = g; runs = ap (λ l. (l, Finished g)) p }

-- ==== Bytes are a blob of at most one geometry, and no blob is a proper prefix of another.

one_byte : (m n : ℕ) (a b x y : List ℕ) → a ≡ m ∷ [] → b ≡ n ∷ [] → a ++ x ≡ b ++ y → (m ≡ n) × (a ≡ b)
one_byte m n a b x y ea eb e =
    let f : m ∷ x ≡ n ∷ y = sym (ap (λ l. l ++ x) ea) ∙ (e ∙ ap (λ l. l ++ y) eb) in
    let same : m ≡ n = cc in
    (same, ea ∙ (ap (λ k. k ∷ []) same ∙ sym eb))

-- bytes begin with one spelling of a role
pub one_spelling : (r : Role) (m n : ℕ) (a b x y : List ℕ) → Spells r m a → Spells r n b
    → a ++ x ≡ b ++ y → (m ≡ n) × (a ≡ b)
one_spelling Header m n a b x y sa sb e = one_byte m n a b x y sa.3 sb.3 e
one_spelling (Metadata k) m n a b x y sa sb e = one_byte m n a b x y sa.1 sb.1 e
one_spelling Extended m n a b x y sa sb e = one_byte m n a b x y sa.2 sb.2 e
one_spelling (End d c) m n a b x y sa sb e = (sa.0 ∙ sym sb.0, sa.1 ∙ sym sb.1)
one_spelling _ m n a b x y sa sb e = one_varint a b x y m n sa sb e

-- two items with one role at the start of the same bytes are equal
pub one_item : (i j : Item) (x y : List ℕ) → i.role ≡ j.role → IsItem i → IsItem j → i.bytes ++ x ≡ j.bytes ++ y → i ≡ j
one_item i j x y same si sj e =
    let h = one_spelling j.role i.number j.number i.bytes j.bytes x y
    (subst (λ r. Spells r i.number i.bytes) same si) sj e in
    let r : i.role ≡ j.role = same in
    let n : i.number ≡ j.number = h.0 in
    let b : i.bytes ≡ j.bytes = h.1 in
    λ t. record { role = r t; number = n t; bytes = b t }

-- after equal bytes the rests of equal lists are equal
pub peel : (a b x y : List ℕ) → a ≡ b → a ++ x ≡ b ++ y → x ≡ y
peel a b x y same e = cancel b x y (subst (λ l. l ++ x ≡ b ++ y) same e)
  where
    cancel : (b x y : List ℕ) → b ++ x ≡ b ++ y → x ≡ y
    cancel [] x y e = e
    cancel (c ∷ b) x y e = let f : b ++ x ≡ b ++ y = cc in cancel b x y f

-- two runs to a geometry over the same bytes are the same
pub one_reading : (is js : List Item) (e : Sums) (st : Stack) (g h : Tree) (x y : List ℕ)
    → Runs e st is ([], Finished g) → Runs e st js ([], Finished h)
    → join is ++ x ≡ join js ++ y → (g ≡ h) × (is ≡ js)
one_reading [] [] e st g h x y r s eq = (
  let f : Finished g ≡ Finished h = ap (λ (t : Stack). t.1)
      (sym r ∙ s) in cc,
  refl,
)
one_reading [] (j ∷ js) e st g h x y r s eq = let f : None ≡ Some j.role = ap (role_at e) (sym r) ∙ s.0 in cc
one_reading (i ∷ is) [] e st g h x y r s eq = let f : None ≡ Some i.role = ap (role_at e) (sym s) ∙ r.0 in cc
one_reading (i ∷ is) (j ∷ js) e st g h x y r s eq =
    let role : i.role ≡ j.role = cc in
    let eq2 : i.bytes ++ (join is ++ x) ≡ j.bytes ++ (join js ++ y) =
    sym (append_assoc i.bytes (join is) x) ∙ (eq ∙ append_assoc j.bytes (join js) y) in
    let same = one_item i j (join is ++ x) (join js ++ y) role r.1 s.1 eq2 in
    let next = one_reading is js (added e j) (stack_after e j st) g h x y
    (subst (λ k. Runs (added e k) (stack_after e k st) is ([], Finished g)) same r.2) s.2
    (peel i.bytes j.bytes (join is ++ x) (join js ++ y) (ap (λ k. k.bytes) same) eq2) in
    (next.0, ap (λ k. k ∷ is) same ∙ ap (λ l. j ∷ l) next.1)

-- the machine runs through the items of a blob
pub blob_runs : (limits : Allowance) (bytes : List ℕ) (g : Tree) (b : Blob limits bytes g)
    → Runs nothing started b.items ([], Finished g)
blob_runs limits bytes g b = tree_runs g [] nothing b.items b.valid.tree b.are_items

-- two blobs at the start of the same bytes have the same items
pub one_blob_items : (limits : Allowance) (a b x y : List ℕ) (g h : Tree) (ba : Blob limits a g)
    (bb : Blob limits b h) → a ++ x ≡ b ++ y → (g ≡ h) × (ba.items ≡ bb.items)
one_blob_items limits a b x y g h ba bb e = one_reading ba.items bb.items nothing started g h x y
    (blob_runs limits a g ba) (blob_runs limits b h bb)
    (ap (λ l. l ++ x) ba.spelled ∙ (e ∙ sym (ap (λ l. l ++ y) bb.spelled)))

-- two blobs at the start of the same bytes are equal
pub one_blob_lem : (limits : Allowance) (a b x y : List ℕ) (g h : Tree) → Blob limits a g
    → Blob limits b h → a ++ x ≡ b ++ y → (g ≡ h) × (a ≡ b)
one_blob_lem limits a b x y g h ba bb e =
    let r = one_blob_items limits a b x y g h ba bb e in
    (r.0, sym ba.spelled ∙ (ap join r.1 ∙ bb.spelled))

-- ==== Prefixes of items, and what the machine says about them.

-- a run through a prefix, and one through the rest
pub record Split (e : Sums) (st : Stack) (xs ys : List Item) (last : Stack) : Type 0 where
  pub mid : Stack
  pub front : Runs e st xs mid
  pub rest : Runs (sums_after e xs) mid ys last

-- a run through joined items is two runs
pub runs_split : (xs ys : List Item) (e : Sums) (st last : Stack) → Runs e st (xs ++ ys) last → Split e st xs ys last
runs_split [] ys e st last r = record { mid = st; front = refl; rest = r }
runs_split (i ∷ xs) ys e st last r =
    let s = runs_split xs ys (added e i) (stack_after e i st) last r.2 in
    record { mid = s.mid; front = (r.0, r.1, s.front); rest = s.rest }

-- a run through joined items goes on from where a run through the first of them ends
pub run_on : (before more : List Item) (st last : Stack) → Runs nothing started (before ++ more) last
    → Runs nothing started before st → Runs (sums_after nothing before) st more last
run_on before more st last r s =
    let t = runs_split before more nothing started last r in
    subst (λ m. Runs (sums_after nothing before) m more last)
    (runs_same before nothing started t.mid st t.front s) t.rest

-- the next item of any geometry that begins with these items has the role that the machine says
pub next_role : (before : List Item) (st : Stack) (role : Role) → Runs nothing started before st
    → role_at (sums_after nothing before) st ≡ Some role
    → (g : Tree) (more : List Item) → IsTree g → Items 0 g (before ++ more)
    → (i : Item) × (after : List Item) × (more ≡ i ∷ after) × (i.role ≡ role)
next_role before st role r says g more fits items = go more (run_on before more st ([], Finished g)
    (tree_runs g [] nothing (before ++ more) fits items) r)
  where
    go : (more : List Item) → Runs (sums_after nothing before) st more ([], Finished g)
        → (i : Item) × (after : List Item) × (more ≡ i ∷ after) × (i.role ≡ role)
    go [] t = let z : None ≡ Some role = ap (λ x. role_at (sums_after nothing before) x) (sym t) ∙ says in absurd cc
    go (i ∷ after) t = (i, after, refl, some_role role i.role (sym says ∙ t.0))

-- the machine runs through a prefix of the items of a geometry
pub front_runs : (before more : List Item) (g : Tree) → IsTree g → Items 0 g (before ++ more)
    → (st : Stack) × Runs nothing started before st
front_runs before more g fits items =
    let s = runs_split before more nothing started ([], Finished g)
    (tree_runs g [] nothing (before ++ more) fits items) in (s.mid, s.front)

-- items that the machine runs through are a prefix of the items of a geometry, whatever the
-- limits and the open sizes
pub record Front (is : List Item) : Type 0 where
  pub tree : Tree
  pub roles : List Role
  pub fits : IsTree tree
  pub items : Items 0 tree (is ++ Rattle.std.specs.Prelude.map filler roles)

-- items that the machine runs through are a prefix
pub run_is_front : (is : List Item) (st : Stack) → Runs nothing started is st → Front is
run_is_front is st r =
    let c = completes st (proper_run is st r) (sums_after nothing is) in
    let whole = runs_are_items c.tree (is ++ Rattle.std.specs.Prelude.map filler c.roles)
    (Runs-append is nothing started st (Rattle.std.specs.Prelude.map filler c.roles)
    ([], Finished c.tree) r c.runs) in
    record { tree = c.tree; roles = c.roles; fits = whole.1; items = whole.0 }

-- each state that the machine reaches can be completed
pub run_completes : (before : List Item) (st : Stack) → Runs nothing started before st
    → (more : List Item) × (g : Tree) × Runs (sums_after nothing before) st more ([], Finished g)
run_completes before st r = let c = completes st (proper_run before st r)
    (sums_after nothing before) in (Rattle.std.specs.Prelude.map filler c.roles, c.tree, c.runs)
