-- Points, members and ids that are complete at the start of the bytes, and the ends of lists.
use Rattle.std.proofs.Common.{◌≡◌, ℕ, suc, ◌-◌, ◌≤◌, ◌+◌, ◌<◌, List, [], ◌∷◌, ◌++◌, length, take, refl, sym, ap, ◌∙◌}
use Rattle.std.proofs.Common.{subst, append-nil, arith, rules, true, None, Result, Ok, Err, false, Bool, OnOk, IfOk}
use Rattle.std.proofs.Common.{zero}
use Rattle.std.proofs.lemmas.List.{length-take-le}
use Rattle.std.specs.Prelude.{ℤ, if◌then◌else◌, Option, ◌&&◌, nat_eq}
use Rattle.twkb_points.specs.Point.{Point}
use Rattle.twkb_tree.specs.declared.kind.Kind.{Kind}
use Rattle.twkb_tree.specs.Tree.{Ids}
use Rattle.twkb_tree.specs.Rows.{Row, first_id, other_ids}
use Rattle.twkb_tree.specs.declared.kind.Kind.TheVariants as kinds
use Rattle.twkb_flat.specs.declared.stop.Stop.TheVariants.{Memory, Refused}
use Rattle.twkb_grammar.specs.Machine.{MultiPointForm}
use Rattle.twkb_grammar.specs.Noting.{Notes}
use Rattle.twkb_body.specs.Outline.{Stage, OnId, OnBody, Wanted, next_ids, Outline, shut, ids_of, ids_read}
use Rattle.twkb_body.specs.Outline.{FrameOutline, outline_ends}
use Rattle.twkb_body.specs.Growing.{id_in, Change, Nothing, applied, point_change, Admits}
use Rattle.twkb_body.specs.Reading.{NotedOutline, notes_in, sums_past, Outlined}
use Rattle.twkb_body.specs.HeaderParts.{PartIn}
use Rattle.twkb_body.specs.Header.{head_of, form_of, many_of, IsHeadAt}
use Rattle.twkb_body.specs.declared.member_ids.MemberIds.{MemberIds}
use Rattle.twkb_body.specs.Running.{HasLists, WantedIn, StageRuns, StageStops, ListRuns, ListStops, in_list, IdsTaken}
use Rattle.twkb_body.specs.Running.{IdsStop}
use Rattle.twkb_body.specs.Front.{PointInFront}
use Rattle.twkb_body.specs.declared.head.Head.{Head}
use Rattle.twkb_body.proofs.PointRuns.{stage_none, same_change, admitted_by, point_admitted}
use Rattle.twkb_body.proofs.HeaderParts.{noted_point}
use Rattle.twkb_engine.specs.Collections.{frames_of}
use Rattle.twkb_engine.specs.Fits.{lists_of, line_lists_of, has_members, left_fit, lists_fit, IsInside, is_bodied}
use Rattle.twkb_engine.specs.Fits.{first_item, item_fits, has_lines, has_areas, IsBodyItem}
use Rattle.twkb_engine.specs.State.{IsPlaced, sums_of, stage_at, ids_in, IsHere, outline_in, body_at}
use Rattle.twkb_engine.specs.Taking.{Stays, shut_at, last_lists, GoesOn, Keeps, past_last, point_row, NotesGo}
use Rattle.twkb_engine.specs.Taking.{notes_past, open_in}
use Rattle.twkb_engine.specs.Standing.{StandsAt, TakesMany, TakesList, notes_at, held_in, IsAlive, FedBy, IsFed}
use Rattle.twkb_engine.specs.Standing.{IsAnswer, with_used}
use Rattle.twkb_engine.specs.declared.next_item.NextItem.{NextItem}
use Rattle.twkb_engine.specs.declared.engine.Engine.{Engine}
use Rattle.twkb_engine.specs.declared.next_item.NextItem.TheVariants as next
use Rattle.twkb_engine.specs.Stops.{Stop, reason_of}
use Rattle.twkb_engine.proofs.Steps.{all_whole, noted_at, stands_whole, open_noted, Fields, fields_of, moved_to}
use Rattle.twkb_engine.proofs.Steps.{moved_fields}
use Rattle.twkb_engine.proofs.Items.{is_some}
use Rattle.twkb_engine.proofs.Parts.{many_open}
use Rattle.twkb_engine.proofs.Answering.{Reads, past_on, past_blob, past_judged, past_wrong}
use Rattle.twkb_grammar.specs.Machine as machine
use Rattle.twkb_grammar.specs.Fault.{Reason}
use Rattle.twkb_engine.specs.declared.open_collections.OpenCollection.{OpenCollection}

-- ==== Points of a list, members and ids that are taken many at once.

-- none are taken: the engine stays where it is
pub none_taken : {E : Type 0} {rs : List Row} {d : Engine} {rest : List ℕ} → TakesMany {E = E} rs d rest (Ok 0) rs d
none_taken {rs = rs} {d = d} = record {
  within = omega arith;
  led = λ front s. subst (λ l. (t : StandsAt l rs d) × (notes_at t ≡ notes_at s)) (sym (append-nil front)) (s, refl);
  memory = tt;
  stays = record { limits = refl; start = refl; held = refl };
}

pub none_listed : {E : Type 0} {rs : List Row} {d : Engine} {rest : List ℕ} → TakesList {E = E} rs d rest (Ok 0) rs d
none_listed {rs = rs} {d = d} = record {
  within = omega arith;
  long = omega arith;
  run = λ h f ids outer others listed same.
      stage_none h (in_list h f ids (d.points_left + others) outer) rs d.position;
  moves = search (rules, arith);
  memory = tt;
  stays = record { limits = refl; start = refl; held = refl };
}

-- there is no memory for a point of the open list
pub list_unkept : {E : Type 0} {why : E} {rs more : List Row} {d e : Engine} {rest : List ℕ} {r : Result ℕ E}
    → r ≡ Err why → Stays d e → ListStops rs d.position d.points_left rest → TakesList rs d rest r more e
list_unkept {rs = rs} {more = more} {d = d} {e = e} {rest = rest} failed stays stops =
    subst (λ x. TakesList rs d rest x more e) (sym failed)
    (record { within = tt; long = tt; run = tt; moves = tt; memory = stops; stays = stays })

pub place_at : (d e : Engine) → e.collections ≡ d.collections → e.head ≡ d.head
    → IsHeadAt (length (frames_of d.collections)) (id_in (frames_of d.collections)) d.head
    → IsHeadAt (length (frames_of e.collections)) (id_in (frames_of e.collections)) e.head
place_at d e cs h p = subst (λ c. IsHeadAt (length (frames_of c)) (id_in (frames_of c)) e.head)
    (sym cs) (subst (IsHeadAt (length (frames_of d.collections)) (id_in (frames_of d.collections)))
    (sym h) p)

-- ---- many of one stage

abbrev Headed : Engine → Type 0
Headed d = IsHeadAt (length (frames_of d.collections)) (id_in (frames_of d.collections)) d.head

-- an engine at this item, whose stage that is, and which has a header in the open collections
module _ (rs : List Row) (d : Engine) (i : NextItem) (step : Fields → Stage) (s : Stage) (is : d.next ≡ i)
    (at : (e : Engine) → stage_at i e ≡ step (fields_of e)) (here : step (fields_of d) ≡ s) (none : held_in d ≡ [])
    (placed : (e : Engine) → (IsPlaced i e → Headed e) × (Headed e → IsPlaced i e)) where
  headed : (front : List ℕ) → StandsAt front rs d → Headed d
  headed front t = (placed d).0 (subst (λ j. IsPlaced j d) is t.placed)

  wanted : (front : List ℕ) (t : StandsAt front rs d)
      → WantedIn d.limits t.front (sums_of d) (frames_of d.collections)
      (λ start. notes_in start t.outlined) d.head s rs
  wanted front t = record {
    outlined = subst (λ p. NotedOutline d.limits t.front (sums_of d) (frames_of d.collections, p) rs
        (λ start. notes_in start t.outlined))
        (ap (λ j. stage_at j d) is ∙ (at d ∙ here)) (noted_at t);
    placed = headed front t;
  }

  -- there is no memory for one
  stage_stops : {E : Type 0} {why : E} {more : List Row} {e : Engine} {r : Result ℕ E} (rest : List ℕ)
      → r ≡ Err why → Stays d e → StageStops d.head s rs d.position rest → TakesMany rs d rest r more e
  stage_stops {E} {why} {more} {e} rest failed stays stops =
      subst (λ x. TakesMany rs d rest x more e) (sym failed) (record {
        within = tt;
        led = tt;
        memory = λ front t. subst (λ l. PartIn d.limits l rest) (sym (all_whole front rs d none t))
            (stops d.limits (sums_of d) t.front (frames_of d.collections) _ refl (wanted front t));
        stays = stays;
      })

  -- they were taken
  stage_taken : {E : Type 0} {rest : List ℕ} (more : List Row) (e : Engine) (p : Stage) (used : ℕ) (to : Point)
      (ids : MemberIds) (members points : ℕ) → StageRuns d.head s rs d.position (take used rest) p more to
      → used ≤ length rest → fields_of e ≡ moved_to d used to ids members points
      → step (moved_to d used to ids members points) ≡ p → TakesMany {E = E} rs d rest (Ok used) more e
  stage_taken {E} {rest} more e p used to ids members points run within q there = record {
    within = within;
    led = λ front t.
        let bytes = take used rest in
        let next : e.next ≡ i = ap (λ (g : Fields). g.next) q ∙ is in
        let n : (d.bytes + used) ≡ d.bytes + length bytes =
        ap (λ k. d.bytes + k) (sym (length-take-le used rest within)) in
        let u = stands_whole (front ++ bytes) more e (run d.limits (sums_of d) t.front
        (frames_of d.collections) _ refl (wanted front t))
        (ap (λ (g : Fields). g.limits) q)
        (ap (λ (g : Fields). g.sums) q
        ∙ (λ j. record { bytes = n j; position = to; nodes = d.nodes; points = d.points }))
        (λ j. (frames_of (q j).collections, (ap (λ k. stage_at k e) next ∙ (at e ∙ (ap step q ∙ there))) j))
        refl (subst (λ k. IsPlaced k e) (sym next) ((placed e).1
        (place_at d e (ap (λ (g : Fields). g.collections) q) (ap (λ (g : Fields). g.head) q)
        (headed front t))))
        (ap (λ l. l ++ bytes) (all_whole front rs d none t)) (ap (λ (g : Fields). g.held) q ∙ none) in
        (u.0, u.1 ∙ ap (λ start. notes_in start t.outlined) (ap (λ (g : Fields). g.start) q));
    memory = tt;
    stays = record {
      limits = ap (λ (g : Fields). g.limits) q;
      start = ap (λ (g : Fields). g.start) q;
      held = ap (λ (g : Fields). g.held) q;
    };
  }

-- a point comes next
abbrev on_point : Fields → Stage
on_point f = OnBody (head_of f.head) (form_of f.head.kind)
    (if has_members f.head.kind then ids_of f.ids else None)
    (Wanted 0 (lists_of f.head.kind (f.points_left - 1) f.rings_left f.members_left))

-- an id comes next
abbrev on_id : Fields → Stage
on_id f = OnId (many_of f.head.kind) (head_of f.head) (suc f.members_left) (ids_read f.ids)
    (f.members_left - length (ids_read f.ids))

-- ---- points of a list

-- the lists of a kind that has points in lists
pub record InLists (k : Kind) (ids : Ids) (r m : ℕ) : Type 0 where
  pub lists : (p : ℕ) → lists_of k p r m ≡ p ∷ line_lists_of k r m
  pub form : HasLists (form_of k)
  pub same : next_ids (line_lists_of k r m) (if has_members k then ids else None)
      ≡ (if has_members k then ids else None)

in_lists : (k : Kind) (ids : Ids) (p r m : ℕ) → left_fit k p r m ≡ true → 0 < p → InLists k ids r m
in_lists kinds.Linestring ids p r m h some = record { lists = λ p. refl; form = tt; same = refl }
in_lists kinds.Polygon ids p r m h some = record { lists = λ p. refl; form = tt; same = refl }
in_lists kinds.MultiLinestring ids p r m h some = record { lists = λ p. refl; form = tt; same = refl }
in_lists kinds.MultiPolygon ids p r m h some = record { lists = λ p. refl; form = tt; same = refl }
in_lists k ids p r m h some = let z = is_some p some in absurd cc

module _ (rs : List Row) (d : Engine) (is : d.next ≡ next.X) (some : 0 < d.points_left) (none : held_in d ≡ []) where
  inside : InLists d.head.kind (ids_of d.ids) d.rings_left d.members_left
  inside = in_lists d.head.kind (ids_of d.ids) d.points_left d.rings_left d.members_left
      (subst (λ i. lists_fit i d.head.kind d.points_left d.rings_left d.members_left ≡ true) is
      d.lists_fit) some

  abbrev outer : List ℕ
  outer = line_lists_of d.head.kind d.rings_left d.members_left

  abbrev point : ℕ → Stage
  point left = in_list d.head (form_of d.head.kind) (ids_in d) (left + 0) outer

  abbrev wanted_in : Ids → List ℕ → Stage
  wanted_in ids lists = OnBody (head_of d.head) (form_of d.head.kind) ids (Wanted 0 lists)

  listed : (left : ℕ) → 0 < left
      → wanted_in (ids_in d) (lists_of d.head.kind (left - 1) d.rings_left d.members_left) ≡ point left
  listed left more =
      let one : suc (left - 1) ≡ left + 0 = omega (arith, more) in
      ap (λ l. wanted_in (ids_in d) l) (inside.lists (left - 1))
      ∙ (ap (λ i. wanted_in i ((left - 1) ∷ outer)) (sym inside.same)
      ∙ ap (λ n. in_list d.head (form_of d.head.kind) (ids_in d) n outer) one)

  list_stops : {E : Type 0} {why : E} {more : List Row} {e : Engine} {rest : List ℕ} {r : Result ℕ E}
      → r ≡ Err why → Stays d e → ListStops rs d.position d.points_left rest → TakesMany rs d rest r more e
  list_stops {rest = rest} failed stays stops =
      stage_stops rs d next.X on_point (point d.points_left) is (λ e. refl) (listed d.points_left some)
      none (λ e. (λ p. p, λ p. p)) rest failed stays
      (stops d.head (form_of d.head.kind) (ids_in d) _ 0 inside.form inside.same)

  -- others of the list are to come
  list_taken : {E : Type 0} {rest : List ℕ} (more : List Row) (e : Engine) (used left : ℕ) (to : Point)
      → 0 < left → fields_of e ≡ moved_to d used to d.ids d.members_left left → used ≤ length rest
      → ListRuns rs d.position d.points_left (take used rest) left more to
      → TakesMany {E = E} rs d rest (Ok used) more e
  list_taken more e used left to others q within run =
      stage_taken rs d next.X on_point (point d.points_left) is (λ e. refl) (listed d.points_left some) none
      (λ e. (λ p. p, λ p. p)) more e (point left) used to d.ids d.members_left left
      (run d.head (form_of d.head.kind) (ids_in d) _ 0 inside.form inside.same) within q (listed left others)

  pub list_stopped : {E : Type 0} {why : E} {more : List Row} {e : Engine} {rest : List ℕ}
      → TakesList {E = E} rs d rest (Err why) more e → TakesMany {E = E} rs d rest (Err why) more e
  list_stopped t = list_stops refl t.stays t.memory

  pub list_goes_on : {E : Type 0} {used : ℕ} {more : List Row} {e : Engine} {rest : List ℕ}
      → TakesList {E = E} rs d rest (Ok used) more e → 0 < e.points_left
      → TakesMany {E = E} rs d rest (Ok used) more e
  list_goes_on {used = used} {more = more} {e = e} t others = list_taken more e used e.points_left
      e.position others (moved_fields t.stays t.moves) t.within t.run

  -- all were taken, and the list ends
  pub list_read : (more : List Row) (used left : ℕ) (to : Point) (rest : List ℕ) → left ≡ 0
      → ListRuns rs d.position d.points_left (take used rest) left more to
      → (front : List ℕ) (s : StandsAt front rs d)
      → NotedOutline d.limits (s.front ++ take used rest) (sums_past (sums_of d) (take used rest) to)
      (frames_of d.collections, shut_at d 0 (last_lists d)) more (λ start. notes_in start s.outlined)
  list_read more used left to rest last run front s =
      let zero : left + 0 ≡ 0 = omega (arith, last) in
      let ended : point left ≡ shut_at d 0 (last_lists d) =
      ap (λ n. in_list d.head (form_of d.head.kind) (ids_in d) n outer) zero
      ∙ ap (shut_at d 0) (sym (inside.lists 0)) in
      subst (λ p. NotedOutline d.limits (s.front ++ take used rest) (sums_past (sums_of d) (take used rest) to)
      (frames_of d.collections, p) more (λ start. notes_in start s.outlined)) ended
      (run d.head (form_of d.head.kind) (ids_in d) _ 0 inside.form inside.same d.limits (sums_of d)
      s.front (frames_of d.collections) _ refl
      (wanted rs d next.X on_point (point d.points_left) is (λ e. refl) (listed d.points_left some) none
      (λ e. (λ p. p, λ p. p)) front s))

-- ---- members of a multipoint

module _ (rs : List Row) (d : Engine) (is : d.next ≡ next.X) (kind : d.head.kind ≡ kinds.MultiPoint)
    (none : held_in d ≡ []) where
  abbrev member : MemberIds → ℕ → Stage
  member ids left = OnBody (head_of d.head) MultiPointForm (ids_of ids) (Wanted 0 (left ∷ []))

  -- the stage there, by the kind
  of_kind : (ids : MemberIds) (left : ℕ) → OnBody (head_of d.head) (form_of d.head.kind)
      (if has_members d.head.kind then ids_of ids else None)
      (Wanted 0 (lists_of d.head.kind (d.points_left - 1) d.rings_left left)) ≡ member ids left
  of_kind ids left = ap (λ k. OnBody (head_of d.head) (form_of k)
      (if has_members k then ids_of ids else None) (Wanted 0
      (lists_of k (d.points_left - 1) d.rings_left left))) kind

  pub members_stop : {E : Type 0} {why : E} {more : List Row} {e : Engine} {rest : List ℕ} {r : Result ℕ E}
      → r ≡ Err why → Stays d e → StageStops d.head (member d.ids d.members_left) rs d.position rest
      → TakesMany rs d rest r more e
  members_stop {rest = rest} failed stays stops =
      stage_stops rs d next.X on_point (member d.ids d.members_left) is (λ e. refl)
      (of_kind d.ids d.members_left) none (λ e. (λ p. p, λ p. p)) rest failed stays stops

  pub members_taken : {E : Type 0} {rest : List ℕ} (more : List Row) (e : Engine) (used left : ℕ) (to : Point)
      → fields_of e ≡ moved_to d used to e.ids left d.points_left → used ≤ length rest
      → StageRuns d.head (member d.ids d.members_left) rs d.position (take used rest) (member e.ids left) more to
      → TakesMany {E = E} rs d rest (Ok used) more e
  members_taken more e used left to q within run =
      stage_taken rs d next.X on_point (member d.ids d.members_left) is (λ e. refl)
      (of_kind d.ids d.members_left) none (λ e. (λ p. p, λ p. p))
      more e (member e.ids left) used to e.ids left d.points_left run within q (of_kind e.ids left)

-- ---- ids

module _ (rs : List Row) (d : Engine) (is : d.next ≡ next.Id) (none : held_in d ≡ []) (most : ℕ)
    (many : most ≡ d.members_left - length (ids_read d.ids)) where
  abbrev id_stage : List ℤ → ℕ → Stage
  id_stage ids left = OnId (many_of d.head.kind) (head_of d.head) (suc d.members_left) ids left

  id_here : stage_at next.Id d ≡ id_stage (ids_read d.ids) most
  id_here = ap (λ n. id_stage (ids_read d.ids) n) (sym many)

  pub ids_stop : {E : Type 0} {why : E} {e : Engine} {rest : List ℕ} {r : Result ℕ E} → r ≡ Err why
      → Stays d e → IdsStop (ids_read d.ids) most rest → TakesMany rs d rest r rs e
  ids_stop {rest = rest} failed stays stops =
      stage_stops rs d next.Id on_id (id_stage (ids_read d.ids) most) is (λ e. refl) id_here none
      (λ e. (λ p. p, λ p. p)) rest failed stays
      (stops d.head (many_of d.head.kind) (suc d.members_left) rs d.position)

  pub ids_taken : {E : Type 0} (e : Engine) (used : ℕ) (rest : List ℕ) → 0 < most → used ≤ length rest
      → fields_of e ≡ moved_to d used d.position e.ids d.members_left d.points_left
      → IdsTaken (ids_read d.ids) most rest used (ids_read e.ids) → TakesMany {E = E} rs d rest (Ok used) rs e
  ids_taken e used rest some within q taken =
      let left_is : d.members_left - length (ids_read e.ids) ≡ taken.0 = omega (arith, taken.1, many, some) in
      stage_taken rs d next.Id on_id (id_stage (ids_read d.ids) most) is (λ e. refl) id_here none
      (λ e. (λ p. p, λ p. p)) rs e (id_stage (ids_read e.ids) taken.0) used d.position e.ids d.members_left
      d.points_left (taken.2 d.head (many_of d.head.kind) (suc d.members_left) rs d.position) within q
      (ap (λ n. id_stage (ids_read e.ids) n) left_is)

-- ==== A point that is complete at the start of the bytes, and the ends after it.

-- the stage after a point that is the last of its list, or in none
abbrev stage_past : Head → MemberIds → (rings members : ℕ) → Stage
stage_past h ids r m = shut (head_of h) (form_of h.kind) (if has_members h.kind then ids_of ids else
    None) 0 (lists_of h.kind 0 r m)

-- what the point brings
abbrev brought : Point → Head → MemberIds → Change
brought to h ids = point_change to h.depth h.id h.precision (form_of h.kind)
    (first_id (if has_members h.kind then ids_of ids else None))

-- bytes that lead past a point that is the last of its list, or in none, before the ends after it
module _ (rs : List Row) (d : Engine) (is : d.next ≡ next.X) (none : held_in d ≡ []) (rest : List ℕ)
    (to : Point) (used : ℕ) (some : 0 < used) (within : used ≤ length rest) (base : List Row)
    (change : Change) where
  -- they lead there wherever the engine stands
  abbrev pub ReadsPast : Type 0
  ReadsPast = (bs : List ℕ) (s : StandsAt bs rs d)
      → NotedOutline d.limits (s.front ++ take used rest) (sums_past (sums_of d) (take used rest) to)
      (frames_of d.collections, shut_at d 0 (last_lists d)) (applied change base)
      (λ start. notes_in start s.outlined)

  module _ (read : ReadsPast) {S : Type 0} (holds : S → Notes → Type 0) (m e : Engine) (more : List Row)
      (old new : S) (points : ℕ) (q : fields_of m ≡ moved_to d used to d.ids d.members_left points) where
    open_there : open_in m ≡ open_in d
    open_there =
        let inside : IsInside d.next = subst IsInside (sym is) tt in
        let still : IsInside m.next = subst IsInside (sym (ap (λ (g : Fields). g.next) q)) inside in
        omega (arith, many_open d inside, many_open m still, ap (λ (g : Fields). length g.collections) q)

    module _ (bs : List ℕ) (s : StandsAt bs rs d) where
      abbrev told : ℕ → Notes
      told start = notes_in start s.outlined

      abbrev all : List ℕ
      all = s.front ++ take used rest

      abbrev Known : Type 0
      Known = holds old (told d.start)

      abbrev ended : Outline
      ended = (frames_of m.collections, shut_at m 0 (last_lists m))

      abbrev grown : List Row
      grown = applied change base

      whole : all ≡ bs ++ take used rest
      whole = ap (λ l. l ++ take used rest) (sym (all_whole bs rs d none s))

      -- as the engine has it then
      stood : NotedOutline m.limits all (sums_of m) ended grown told
      stood =
          let size : d.bytes + length (take used rest) ≡ d.bytes + used =
          ap (λ n. d.bytes + n) (length-take-le used rest within) in
          subst (λ (g : Fields). NotedOutline g.limits all g.sums (
            frames_of g.collections,
            stage_past g.head g.ids g.rings_left g.members_left,
          ) grown told) (sym q)
          (subst (λ n. NotedOutline d.limits all
          (record { bytes = n; position = to; nodes = d.nodes; points = d.points })
          (frames_of d.collections, shut_at d 0 (last_lists d)) grown told) size (read bs s))

      reads : Reads m.limits bs rest used (sums_of m) ended grown told
      reads = record {
        some = some;
        within = within;
        stood = subst (λ l. NotedOutline m.limits l (sums_of m) ended grown told) whole stood;
      }

      -- what is noted at its ends
      kept : (ends : Bool) → NotesGo holds (notes_past m e ends) m old new → Known
          → holds new (notes_past m e ends (told m.start))
      kept ends go known = go (told m.start) (open_noted d.limits s.front (sums_of d)
          (outline_in d) rs s.outlined m.start ∙ sym open_there) (subst (λ x. holds old (told x))
          (sym (ap (λ (g : Fields). g.start) q)) known)

      empty : Keeps m e → held_in e ≡ []
      empty keeps = keeps.held ∙ (ap (λ (g : Fields). g.held) q ∙ none)

      placed_there : IsHere m
      placed_there = place_at d m (ap (λ (g : Fields). g.collections) q) (ap (λ (g : Fields). g.head) q)
          (subst (λ i. IsPlaced i d) is s.placed)

      fed : (answer : Result Bool Stop) → GoesOn holds (past_last m) change m base old answer e more new
          → IsFed holds Known m.limits m.start bs rest (with_used used answer) more e new
      fed (Ok false) t =
          let l = t.landed in
          past_on reads holds Known m.start more e new l.0 l.1 t.kept.limits l.3.start l.2
          (t.placed placed_there) (empty t.kept) (kept false t.noted)
      fed (Ok true) t =
          let l = t.landed in
          past_blob reads holds Known m.start more e new l.0 l.2 l.1 (empty t.kept) (kept true t.noted)
      fed (Err Memory) t = past_judged reads t.landed
      fed (Err (Refused why)) t = past_wrong reads e.bytes (reason_of why) t.landed.0 t.landed.1

    -- the answer past the ends is the answer to the piece
    pub ended_fed : (answer : Result Bool Stop) → GoesOn holds (past_last m) change m base old answer e more new
        → FedBy holds d rs old rest (with_used used answer) e more new
    ended_fed answer t = λ bs s.
        subst (λ (g : Fields). IsFed holds (holds old (notes_at s)) g.limits g.start bs rest
        (with_used used answer) more e new) q (fed bs s answer t)

module _ (rs : List Row) (d : Engine) (is : d.next ≡ next.X) (last : d.points_left ≡ 0) where
  here : outline_in d ≡ (frames_of d.collections, body_at d (Wanted 0 (last_lists d)))
  here =
      let none : d.points_left - 1 ≡ 0 = omega (arith, last) in
      ap (λ i. (frames_of d.collections, stage_at i d)) is ∙ ap (λ p.
      (frames_of d.collections, body_at d (Wanted 0 (lists_of d.head.kind p d.rings_left d.members_left)))) none

  -- the header is that of the geometry in the open collections
  placed_at_x : {bs : List ℕ} → StandsAt bs rs d → IsHere d
  placed_at_x s = subst (λ i. IsPlaced i d) is s.placed

  module _ (rest : List ℕ) (to : Point) (used : ℕ) (cut : PointInFront d.position rest to used) where
    -- the rows take it
    pub front_admits : IsAlive rs d → Admits (point_row to d) rs
    front_admits alive = admitted_by ((bs : List ℕ) × StandsAt bs rs d) (point_row to d) rs alive (λ s.
        let gs = frames_of d.collections in
        let f = form_of d.head.kind in
        let o = subst (λ o. Outlined d.limits s.1.front (sums_of d) o rs) here s.1.outlined in
        subst (λ c. Admits c rs) (same_change to gs d.head f (first_id (ids_in d))
        (placed_at_x s.1))
        (point_admitted d.limits d.allowed s.1.front (sums_of d) gs (head_of d.head) f (ids_in d)
        (last_lists d) rs (take used rest) to o cut.pair))

    -- it was read, before the ends after it
    point_read : (bs : List ℕ) (s : StandsAt bs rs d)
        → NotedOutline d.limits (s.front ++ take used rest) (sums_past (sums_of d) (take used rest) to)
        (frames_of d.collections, shut_at d 0 (last_lists d)) (applied (point_row to d) rs)
        (λ start. notes_in start s.outlined)
    point_read bs s =
        let gs = frames_of d.collections in
        let f = form_of d.head.kind in
        let told : ℕ → Notes = λ start. notes_in start s.outlined in
        let all = s.front ++ take used rest in
        let stood = subst (λ o. NotedOutline d.limits s.front (sums_of d) o rs told) here
        (record { outlined = s.outlined; notes = λ start. refl }) in
        subst (λ c. NotedOutline d.limits all (sums_past (sums_of d) (take used rest) to)
        (gs, shut_at d 0 (last_lists d)) (applied c rs) told) (same_change to gs d.head f
        (first_id (ids_in d)) (placed_at_x s))
        (noted_point d.limits s.front (sums_of d) gs (head_of d.head) f (ids_in d)
        (last_lists d) rs told (take used rest) to stood cut.pair)

    -- the answer to it is the answer to the piece
    pub point_fed : {S : Type 0} {holds : S → Notes → Type 0} {m e : Engine} {more : List Row} {old new : S}
        (answer : Result Bool Stop) → GoesOn holds (past_last m) (point_row to m) m rs old answer e more new
        → fields_of m ≡ moved_to d used to d.ids d.members_left d.points_left → held_in d ≡ []
        → IsAnswer holds d rs old rest (with_used used answer) e more new
    point_fed {holds = holds} {m = m} {e = e} {more = more} {old = old} {new = new} answer t q none = record {
      limits = t.kept.limits ∙ ap (λ (g : Fields). g.limits) q;
      fed =
          let same : point_row to m ≡ point_row to d = ap (λ (g : Fields). brought to g.head g.ids) q in
          ended_fed rs d is none rest to used cut.some cut.within rs (point_row to d) point_read holds m e
          more old new d.points_left q answer
          (subst (λ c. GoesOn holds (past_last m) c m rs old answer e more new) same t);
    }

-- all points of the open list were taken, and the ends after them are passed
pub line_fed : {E : Type 0} (rs base : List Row) (d m e : Engine) (is : d.next ≡ next.X)
    → 0 < d.points_left → held_in d ≡ [] → {rest : List ℕ} {used : ℕ}
    → TakesList {E = E} rs d rest (Ok used) base m → m.points_left ≡ 0
    → {S : Type 0} {holds : S → Notes → Type 0} {old new : S} (answer : Result Bool Stop)
    → GoesOn holds (past_last m) Nothing m base old answer e base new
    → IsAnswer holds d rs old rest (with_used used answer) e base new
line_fed rs base d m e is some none {rest} {used} t last {S} {holds} {old} {new} answer goes = record {
  limits = goes.kept.limits ∙ t.stays.limits;
  fed =
      let taken : 0 < used = omega (arith, some, t.long, last) in
      ended_fed rs d is none rest m.position used taken t.within base Nothing
      (list_read rs d is some none base used m.points_left m.position rest last t.run) holds m e base
      old new m.points_left (moved_fields t.stays t.moves) answer goes;
}

-- ==== The ends of lists in a body.

-- a kind of whose members some are left has members
pub has_some : (k : Kind) (p r m : ℕ) → 0 < m → left_fit k p r m ≡ true → has_members k ≡ true
has_some k p r zero some fits = absurd (omega (arith, some))
has_some kinds.MultiPoint p r (suc m) some fits = refl
has_some k p r (suc m) some fits = grind arith

-- ---- what an item of a body says

none_left : (p : ℕ) (f : Bool) → nat_eq p 0 && f ≡ true → f ≡ true
none_left p true fits = refl
none_left p false fits = grind arith

-- no values are left but in lists of its kind
pub body_fits : (i : NextItem) (k : Kind) (p r m : ℕ) → IsBodyItem i → lists_fit i k p r m ≡ true → p ≡ 0
    → left_fit k 0 r m ≡ true
body_fits next.X k p r m body fits none = subst (λ n. left_fit k n r m ≡ true) none fits
body_fits next.Y k p r m body fits none = subst (λ n. left_fit k n r m ≡ true) none fits
body_fits next.PointCount k p r m body fits none =
    subst (λ n. left_fit k n r m ≡ true) none (none_left p (left_fit k p r m) fits)
body_fits next.RingCount k p r m body fits none =
    subst (λ n. left_fit k n r m ≡ true) none (none_left r (left_fit k p r m) (none_left p _ fits))
body_fits i k p r m body fits none = absurd body

-- a kind with lists of points, or of rings, has a body
lined_bodied : (k : Kind) → has_lines k ≡ true → is_bodied k ≡ true
lined_bodied kinds.Linestring lines = refl
lined_bodied k lines = cc

area_bodied : (k : Kind) → has_areas k ≡ true → is_bodied k ≡ true
area_bodied kinds.Polygon areas = refl
area_bodied k areas = cc

-- its kind has a body
pub body_kind : (i : NextItem) (k : Kind) → IsBodyItem i → item_fits i k ≡ true → is_bodied k ≡ true
body_kind next.X k body fits = fits
body_kind next.Y k body fits = fits
body_kind next.PointCount k body fits = lined_bodied k fits
body_kind next.RingCount k body fits = area_bodied k fits
body_kind i k body fits = absurd body

-- a geometry is begun
pub body_inside : (i : NextItem) → IsBodyItem i → IsInside i
body_inside next.TypeByte body = absurd body
body_inside i body = tt

-- ---- after a list

-- past the last list of a member, the next member begins
begun_member : (k : Kind) (e : Engine) (h : machine.Head) (ids : Ids) (gs : List FrameOutline) (bytes : ℕ)
    → has_members k ≡ true → is_bodied k ≡ true → e.head.kind ≡ k → frames_of e.collections ≡ gs
    → head_of e.head ≡ h
    → ids_of e.ids ≡ other_ids ids
    → outline_ends bytes (
      gs,
      shut h (form_of k) (if has_members k then ids else None) 0
          (lists_of k 0 0 (suc e.members_left)),
    ) ≡ Ok (frames_of e.collections, stage_at (first_item k) e)
begun_member kinds.MultiPoint e h ids gs bytes has body ek eg eh ei = rw (ek, eg, eh, ei) refl
begun_member kinds.MultiLinestring e h ids gs bytes has body ek eg eh ei = rw (ek, eg, eh, ei) refl
begun_member kinds.MultiPolygon e h ids gs bytes has body ek eg eh ei = rw (ek, eg, eh, ei) refl
begun_member k e h ids gs bytes has body ek eg eh ei = absurd cc

pub next_member : (d e : Engine) → d.rings_left ≡ 0 → has_members d.head.kind ≡ true
    → is_bodied d.head.kind ≡ true → 0 < d.members_left → e.members_left ≡ d.members_left - 1
    → e.head ≡ d.head → e.collections ≡ d.collections
    → ids_of e.ids ≡ other_ids (ids_of d.ids) → e.next ≡ first_item d.head.kind → past_last d ≡ Ok (outline_in e)
next_member d e er has body some em eh eg ei en =
    let one : d.members_left ≡ suc e.members_left = omega (arith, some, em) in
    rw (er, one)
    (begun_member d.head.kind e (head_of d.head) (ids_of d.ids) (frames_of d.collections) d.bytes
    has body (ap (λ (h : Head). h.kind) eh) (ap (λ (c : List OpenCollection). frames_of c) eg)
    (ap head_of eh) ei
    ∙ ap (λ (n : NextItem). let o : Result Outline Reason = Ok (frames_of e.collections, stage_at n e) in o) (sym en))

-- what fits before it fits then
pub next_fits : (k : Kind) (n : NextItem) → n ≡ first_item k → is_bodied k ≡ true → item_fits n k ≡ true
next_fits kinds.Point n en body = rw en refl
next_fits k n en body = rw en cc

pub next_lists_fit : (k : Kind) (n : NextItem) (p r m : ℕ) → n ≡ first_item k → p ≡ 0 → r ≡ 0
    → has_members k ≡ true → is_bodied k ≡ true → lists_fit n k p r m ≡ true
next_lists_fit kinds.MultiPoint n p r m en ep er has body = rw (en, ep, er) refl
next_lists_fit k n p r m en ep er has body = rw (en, ep, er) cc

pub next_inside : (k : Kind) (n : NextItem) → n ≡ first_item k → is_bodied k ≡ true → IsInside n
next_inside kinds.Collection n en body = absurd cc
next_inside k n en body = rw en tt

-- the header keeps its place
placed_by : (k : Kind) (n : NextItem) (e : Engine) → n ≡ first_item k → is_bodied k ≡ true
    → IsHere e → IsPlaced n e
placed_by kinds.Collection n e en body at = absurd cc
placed_by k n e en body at = subst (λ (m : NextItem). IsPlaced m e) (sym en) at

pub next_placed : (d e : Engine) → e.next ≡ first_item d.head.kind → is_bodied d.head.kind ≡ true
    → e.head ≡ d.head → e.collections ≡ d.collections → IsHere d → IsPlaced e.next e
next_placed d e en body eh eg at = placed_by d.head.kind e.next e en body (place_at d e eg eh at)

-- ---- what a point brings

-- the id of the open member is that of the kind's members, if it has any
member_there : (k : Kind) (ids : Ids) (p : Point) (depth : ℕ) (id : Option ℤ) (precision : ℤ)
    → point_change p depth id precision (form_of k) (first_id ids) ≡ point_change p depth id
    precision (form_of k) (first_id (if has_members k then ids else None))
member_there kinds.Point ids p depth id precision = refl
member_there k ids p depth id precision = refl

-- the change is that of the engine
pub point_there : (d : Engine) (h : Head) (member : Option ℤ) (p : Point) → h ≡ d.head
    → member ≡ first_id (ids_of d.ids) → point_change p h.depth h.id h.precision (form_of h.kind)
    member ≡ point_row p d
point_there d h member p eh em =
    ap (λ (k : Head). point_change p k.depth k.id k.precision (form_of k.kind) member) eh
    ∙ (ap (λ (m : Option ℤ). point_change p d.head.depth d.head.id d.head.precision
    (form_of d.head.kind) m) em ∙ member_there d.head.kind (ids_of d.ids) p d.head.depth d.head.id
    d.head.precision)
