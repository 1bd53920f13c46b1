-- Points and ids that are complete at the start of bytes, and the rows that can take them.
use Rattle.std.proofs.Common.{◌≡◌, ℕ, zero, suc, ◌+◌, ◌-◌, ◌≤◌, List, ◌++◌, length, take, drop, subst, Result, Some}
use Rattle.std.proofs.Common.{Ok, Err, OnErr, arith, ◌<◌, [], ◌∷◌, refl, sym, ap, ◌∙◌, length-append, None, inl, inr}
use Rattle.std.proofs.lemmas.List.{length-take-le, take-take, take-append-le, take_all, take_rest}
use Rattle.std.specs.Prelude.{Option, ℤ, IsErr, ◌⊎◌, Bool, true, false}
use Rattle.twkb_num.specs.Spelling.{unzigzag_of}
use Rattle.twkb_points.specs.Point.{Point}
use Rattle.twkb_points.specs.Steps.{AreStepsTo, last_of, varint_step}
use Rattle.twkb_tree.specs.Limits.{Allowance, IsAllowance, largest_limits}
use Rattle.twkb_tree.specs.Rows.{Row, plain_row, first_id, other_ids, row_points, AreValidRowsOfOne}
use Rattle.twkb_tree.specs.Tree.{Ids, flat}
use Rattle.twkb_tree.specs.RowGrowth.{point_added, EndsInLine, with_point, points_added}
use Rattle.twkb_tree.specs.declared.kind.Kind.TheVariants as kinds
use Rattle.twkb_tree.specs.declared.limits.TheConstants.{POINTS_CAP}
use Rattle.twkb_tree.proofs.PointMore.{point_last}
use Rattle.twkb_tree.proofs.RowLaws.{row_points-append, row_points-with}
use Rattle.twkb_grammar.specs.Roles.{Role, Item, Id, X}
use Rattle.twkb_grammar.specs.Fault.{Reason, moved}
use Rattle.twkb_grammar.specs.Machine.{Sums, BodyForm, PointForm, MultiPointForm, added}
use Rattle.twkb_grammar.proofs.OneFault.{NoEnd}
use Rattle.twkb_body.specs.Outline.{OnOption, OnCount, OnEnd, Outline, Stage, OnId, OnBody, Wanted, stage_role}
use Rattle.twkb_body.specs.Outline.{FrameOutline, shut, next_ids, outline_role}
use Rattle.twkb_body.specs.Reading.{Outlined, OutlineLanded, Pair, sums_past, NotedOutline, change_after, AtPoint}
use Rattle.twkb_body.specs.HeaderParts.{IsJudged, PartIn, IsPastEnds, Passes}
use Rattle.twkb_body.specs.Growing.{applied, NewPoint, point_change, id_in, Change, Nothing, NewRow, Takes, change_of}
use Rattle.twkb_body.specs.Growing.{Admits}
use Rattle.twkb_body.specs.Front.{PointInFront, NumberInFront, PointsInFront}
use Rattle.twkb_body.specs.Header.{head_of, IsHeadAt}
use Rattle.twkb_body.specs.Running.{HasLists, StageRuns, StageStops, MembersLead, in_list, IdsRun, IdsStop}
use Rattle.twkb_body.specs.Running.{ListGoesOn, ListStops}
use Rattle.twkb_body.specs.declared.head.Head.{Head}
use Rattle.twkb_body.specs.declared.list_points.Taken.{Taken}
use Rattle.twkb_body.proofs.Outlined.{outlined_part, noted_item, outlined_exact, outlined_item, outlined_largest}
use Rattle.twkb_body.proofs.Outlined.{outlined_takes, row_goes_on}
use Rattle.twkb_grammar.proofs.Parts.{item_some}
use Rattle.twkb_body.proofs.InFront.{one_front, one_within, used_join, points_in_front}
use Rattle.twkb_body.proofs.HeaderParts.{noted_x, noted_point, noted_still, noted_join, sums_same, outlined_point}
use Rattle.twkb_body.proofs.HeaderParts.{point_takes}
use Rattle.std.proofs.Math.Logic.{∥∥₁_elim}
use Rattle.std.proofs.Math.Bool.{Bool-set}
use Rattle.twkb_tree.proofs.OpenLaws.{continues_is, continues_true}
use Rattle.std.proofs.Props.{props}
use Rattle.twkb_tree.specs.declared.kind.Kind.{Kind}
use Rattle.twkb_grammar.specs.Reading.{objection, Gives}

-- ==== The bytes were judged if the ends after an item are passed, or if none comes; and a part that ends in the rest
-- of a piece ends in the piece.

-- no geometry's end comes next
next_no_end : (level bytes : ℕ) (s : Stage) (role : Role) → IsPastEnds s
    → stage_role level bytes s ≡ Some role → NoEnd role
next_no_end level bytes (OnOption k h r rs) role past says = absurd past
next_no_end level bytes (OnCount m h) role past says = absurd past
next_no_end level bytes (OnEnd h) role past says = absurd past
next_no_end level bytes (OnBody h f ids (Wanted zero lefts)) role past says = λ d c e. cc
next_no_end level bytes _ role past says = λ d c e. cc

pub outlined_judged : (limits : Allowance) (bytes : List ℕ) (e : Sums) (o : Outline) (rs : List Row)
    → Outlined limits bytes e o rs → IsPastEnds o.1 → IsJudged limits bytes
outlined_judged limits bytes e o rs r past = record {
  part = outlined_part limits bytes e o rs r;
  exact = λ more. outlined_exact limits bytes more e o rs r (λ role. next_no_end (length o.0) e.bytes o.1 role past);
}

pub landed_judged : (limits : Allowance) (bytes : List ℕ) (e : Sums) (rs : List Row)
    (way : Result Outline Reason) → OutlineLanded limits bytes e rs way → Passes way
    → IsJudged limits bytes
landed_judged limits bytes e rs (Ok o) l past = outlined_judged limits bytes e o rs l past
landed_judged limits bytes e rs (Err x) l past = absurd past

-- what is true in any case is true if an error is returned
pub on_err : {A E P : Type 0} (r : Result A E) → P → OnErr r P
on_err (Ok x) p = tt
on_err (Err e) p = p

pub part_further : (limits : Allowance) (bs piece : List ℕ) (used : ℕ) → used ≤ length piece
    → PartIn limits (bs ++ take used piece) (take (length piece - used) (drop used piece))
    → PartIn limits bs piece
part_further limits bs piece used within p = record {
  used = used + p.used;
  some = (let some = p.some in omega (arith, some));
  within = one_within piece used p.used within p.within;
  part = subst (IsJudged limits) (one_front bs piece used p.used) p.part;
}

-- ==== Points that are complete at the start of bytes lead a body on; and the bytes up to one for which there is no
-- memory are a part.

-- what every error has
pub err_only : {A E : Type 0} (P : Result A E → Type 0) (r : Result A E) → IsErr r
    → ((e : E) → P (Err e)) → P r
err_only P (Ok x) is h = absurd cc
err_only P (Err e) is h = h e

-- ---- the next stage, in a geometry of one header

module _ (h : Head) where
  -- no bytes lead nowhere
  pub stage_none : (s : Stage) (rs : List Row) (from : Point) → StageRuns h s rs from [] s rs from
  stage_none s rs from = λ limits e front gs told at i. noted_still limits front e (gs, s) rs told from at i.outlined

  -- some bytes, and then others
  pub stage_more : (s t u : Stage) (rs mid more : List Row) (from at to : Point) (bytes : List ℕ)
      (used count : ℕ) → StageRuns h s rs from (take used bytes) t mid at
      → StageRuns h t mid at (take count (take (length bytes - used) (drop used bytes))) u more to
      → StageRuns h s rs from (take (used + count) bytes) u more to
  stage_more s t u rs mid more from at to bytes used count first second =
      let xs = take used bytes in
      let ys = take count (take (length bytes - used) (drop used bytes)) in
      subst (λ l. StageRuns h s rs from l u more to) (sym (used_join bytes used count))
      (λ limits e front gs told there i.
      noted_join limits front e (gs, u) more told xs ys at to
      (second limits (sums_past e xs at) (front ++ xs) gs told refl
      (record { outlined = first limits e front gs told there i; placed = i.placed })))

  -- there is no memory for what bytes lead to that were judged
  pub stage_judged : (s t : Stage) (rs more : List Row) (from to : Point) (bytes : List ℕ) (count : ℕ)
      → 0 < count → count ≤ length bytes → IsPastEnds t
      → StageRuns h s rs from (take count bytes) t more to → StageStops h s rs from bytes
  stage_judged s t rs more from to bytes count some within past run = λ limits e front gs told there i.
      record {
        used = count;
        some = some;
        within = within;
        part = outlined_judged limits (front ++ take count bytes) _ _ more
            (run limits e front gs told there i).outlined past;
      }

  -- some bytes, and then there is no memory
  pub stage_stops : (s t : Stage) (rs mid : List Row) (from at : Point) (bytes : List ℕ) (used : ℕ)
      → used ≤ length bytes → StageRuns h s rs from (take used bytes) t mid at
      → StageStops h t mid at (take (length bytes - used) (drop used bytes))
      → StageStops h s rs from bytes
  stage_stops s t rs mid from at bytes used within first stops = λ limits e front gs told there i.
      part_further limits front bytes used within (stops limits (sums_past e (take used bytes) at)
      (front ++ take used bytes) gs told refl
      (record { outlined = first limits e front gs told there i; placed = i.placed }))

-- ---- a point

-- what a point changes, by the place of its header
pub same_change : (to : Point) (gs : List FrameOutline) (h : Head) (f : BodyForm) (member : Option ℤ)
    → IsHeadAt (length gs) (id_in gs) h → point_change to (length gs) (id_in gs) h.precision f
    member ≡ point_change to h.depth h.id h.precision f member
same_change to gs h f member at = ap (λ d. point_change to d (id_in gs) h.precision f member)
    (sym at.depth_is) ∙ ap (λ i. point_change to h.depth i h.precision f member) (sym at.id_is)

-- what a point leads to
point_runs : (h : Head) (f : BodyForm) (ids : Ids) (rs : List Row) (from to : Point)
    (bytes lefts : List ℕ) (used : ℕ) → PointInFront from bytes to used
    → StageRuns h (OnBody (head_of h) f ids (Wanted 0 lefts)) rs from (take used bytes)
    (shut (head_of h) f ids 0 lefts)
    (applied (point_change to h.depth h.id h.precision f (first_id ids)) rs) to
point_runs h f ids rs from to bytes lefts used cut = λ limits e front gs told at i.
    let xs = take used bytes in
    let next = noted_point limits front e gs (head_of h) f ids lefts rs told xs to i.outlined
    (subst (λ q. Pair q xs to) (sym at) cut.pair) in
    subst (λ k. NotedOutline limits (front ++ xs) (sums_past e xs to)
    (gs, shut (head_of h) f ids 0 lefts) (applied k rs) told)
    (same_change to gs h f (first_id ids) i.placed) next

-- a point for which there is no memory: its x was judged
point_judged : (h : Head) (f : BodyForm) (ids : Ids) (rs : List Row) (from to : Point)
    (bytes lefts : List ℕ) (used : ℕ) → PointInFront from bytes to used
    → StageStops h (OnBody (head_of h) f ids (Wanted 0 lefts)) rs from bytes
point_judged h f ids rs from to bytes lefts used cut = λ limits e front gs told at i.
    let p = subst (λ q. Pair q (take used bytes) to) (sym at) cut.pair in
    let xs = p.x_bytes in
    let fits : length xs + length p.y_bytes ≡ used =
    sym (length-append xs p.y_bytes) ∙ (ap length (sym p.whole) ∙ length-take-le used bytes cut.within) in
    let within : length xs ≤ used = omega (arith, fits) in
    let is : take (length xs) bytes ≡ xs =
    sym (take-take (length xs) used bytes within)
    ∙ (ap (λ l. take (length xs) l) p.whole
    ∙ (take-append-le (length xs) xs p.y_bytes (omega arith) ∙ take_all (length xs) xs (omega arith))) in
    record {
      used = length xs;
      some = item_some X p.x xs (λ d c e. cc) p.x_spelled;
      within = omega (arith, within, cut.within);
      part = subst (λ l. IsJudged limits (front ++ l)) (sym is)
          (outlined_judged limits (front ++ xs) _ _ rs
          (noted_x limits front e gs (head_of h) f ids lefts rs told _ to i.outlined p).outlined tt);
    }

-- ---- a point of a list

-- a point comes to the last row
comes : (f : BodyForm) (to : Point) (d : ℕ) (id : Option ℤ) (precision : ℤ) (member : Option ℤ)
    → HasLists f → point_change to d id precision f member ≡ NewPoint to
comes PointForm to d id precision member h = absurd h
comes MultiPointForm to d id precision member h = absurd h
comes _ to d id precision member h = refl

-- one point leads on to the next of its list, or to the end of the list
pub list_runs : (h : Head) (f : BodyForm) (ids : Ids) (lefts : List ℕ) (rs more : List Row)
    (left used : ℕ) (from to : Point) (bytes : List ℕ) → 0 < left → HasLists f
    → next_ids lefts ids ≡ ids → PointInFront from bytes to used → more ≡ point_added to rs
    → StageRuns h (in_list h f ids left lefts) rs from (take used bytes)
    (in_list h f ids (left - 1) lefts) more to
list_runs h f ids lefts rs more zero used from to bytes some listed same cut added =
    absurd (omega (arith, some))
list_runs h f ids lefts rs more (suc left) used from to bytes some listed same cut added =
    let less : suc left - 1 ≡ left = omega arith in
    let Runs : Ids → List Row → Type 0 = λ i l.
    StageRuns h (OnBody (head_of h) f i (Wanted 0 (left ∷ lefts))) rs from (take used bytes)
    (in_list h f ids left lefts) l to in
    let change = comes f to h.depth h.id h.precision (first_id ids) listed in
    rw less
    (subst (λ i. Runs i more) (sym same)
    (subst (λ l. Runs ids l) (ap (λ c. applied c rs) change ∙ sym added)
    (point_runs h f ids rs from to bytes (left ∷ lefts) used cut)))

-- there is no memory for one, of which the x was judged
pub list_judged : (h : Head) (f : BodyForm) (ids : Ids) (lefts : List ℕ) (rs : List Row)
    (left used : ℕ) (from to : Point) (bytes : List ℕ) → 0 < left
    → next_ids lefts ids ≡ ids → PointInFront from bytes to used
    → StageStops h (in_list h f ids left lefts) rs from bytes
list_judged h f ids lefts rs zero used from to bytes some same cut = absurd (omega (arith, some))
list_judged h f ids lefts rs (suc left) used from to bytes some same cut =
    subst (λ i. StageStops h (OnBody (head_of h) f i (Wanted 0 (left ∷ lefts))) rs from bytes)
    (sym same) (point_judged h f ids rs from to bytes (left ∷ lefts) used cut)

-- ---- a member of a multipoint

-- a member comes next, with so many after it
abbrev in_members : Head → Ids → (left : ℕ) → Stage
in_members h ids left = OnBody (head_of h) MultiPointForm ids (Wanted 0 (left ∷ []))

-- one leads to the next
member_runs : (h : Head) (ids others : Ids) (rs more : List Row) (left used : ℕ) (from to : Point)
    (bytes : List ℕ) → 0 < left → PointInFront from bytes to used → others ≡ other_ids ids
    → more ≡ rs ++ plain_row (suc h.depth) kinds.Point (first_id ids) (to ∷ []) ∷ []
    → StageRuns h (in_members h ids left) rs from (take used bytes) (in_members h others (left - 1))
    more to
member_runs h ids others rs more zero used from to bytes some cut next added =
    absurd (omega (arith, some))
member_runs h ids others rs more (suc left) used from to bytes some cut next added =
    let less : suc left - 1 ≡ left = omega arith in
    let Runs : Ids → List Row → Type 0 = λ i l.
    StageRuns h (in_members h ids (suc left)) rs from (take used bytes) (in_members h i left) l to in
    rw less
    (subst (λ i. Runs i more) (sym next)
    (subst (λ l. Runs (other_ids ids) l) (sym added)
    (point_runs h MultiPointForm ids rs from to bytes (suc left ∷ []) used cut)))

-- none
pub members_none : (rs : List Row) (ids : Ids) (depth : ℕ) (from : Point) (bytes : List ℕ)
    (most : ℕ) → MembersLead rs ids depth from bytes most (record { used = 0; position = from })
    most ids rs
members_none rs ids depth from bytes most = record {
  within = omega arith;
  few = omega arith;
  run = λ h deep. stage_none h (in_members h ids most) rs from;
}

-- some, and then one more
pub members_more : (rs mid more : List Row) (ids between others : Ids) (depth most left count : ℕ)
    (from to : Point) (bytes : List ℕ) (t : Taken) (member : Option ℤ)
    → MembersLead rs ids depth from bytes most t left between mid → 0 < left
    → PointInFront t.position (take (length bytes - t.used) (drop t.used bytes)) to count
    → member ≡ first_id between → others ≡ other_ids between
    → more ≡ mid ++ plain_row depth kinds.Point member (to ∷ []) ∷ []
    → (let both : Taken = record { used = t.used + count; position = to } in
    MembersLead rs ids depth from bytes most both (left - 1) others more)
members_more rs mid more ids between others depth most left count from to bytes t member l some cut
    same next added = record {
      within = one_within bytes t.used count l.within cut.within;
      few = omega (arith, l.few);
      run = λ h deep.
          let row : ℕ → Option ℤ → List Row = λ d m. mid ++ plain_row d kinds.Point m
          (to ∷ []) ∷ [] in
          let put = added ∙ (ap (λ d. row d member) (sym deep) ∙ ap (row (suc h.depth)) same) in
          stage_more h _ _ _ _ _ _ _ _ _ bytes t.used count (l.run h deep)
          (member_runs h between others mid more left count t.position to _ some cut next put);
    }

-- some, and then one for which there is no memory
pub members_stop : (rs mid : List Row) (ids between : Ids) (depth most left count : ℕ)
    (from to : Point) (bytes : List ℕ) (t : Taken)
    → MembersLead rs ids depth from bytes most t left between mid → 0 < left
    → PointInFront t.position (take (length bytes - t.used) (drop t.used bytes)) to count
    → (h : Head) → suc h.depth ≡ depth → StageStops h (in_members h ids most) rs from bytes
members_stop rs mid ids between depth most left count from to bytes t l some cut h deep =
    stage_stops h _ _ _ _ _ _ bytes t.used l.within (l.run h deep)
    (stage_judged h _ (in_members h (other_ids between) (left - 1)) mid _ t.position to _ count
    cut.some cut.within tt
    (member_runs h between (other_ids between) mid _ left count t.position to _ some cut refl refl))

-- ==== Ids that are complete at the start of the bytes lead on; and the bytes up to one for which there is no memory
-- are a part.

-- no ids
pub no_ids : (ids : List ℤ) (left : ℕ) → IdsRun ids left [] ids left
no_ids ids left = λ h m members rs at. stage_none h (OnId m (head_of h) members ids left) rs at

-- an id that others follow
id_runs : (ids : List ℤ) (left n count : ℕ) (bytes : List ℕ) → 0 < left
    → NumberInFront bytes n count
    → IdsRun ids left (take count bytes) (ids ++ unzigzag_of n ∷ []) (left - 1)
id_runs ids zero n count bytes some front = absurd (omega (arith, some))
id_runs ids (suc left) n count bytes some front =
    let less : suc left - 1 ≡ left = omega arith in
    rw less (λ h m members rs at limits e before gs told there i.
    let xs = take count bytes in
    let item : Item = record { role = Id; number = n; bytes = xs } in
    let next : Stage = OnId m (head_of h) members (ids ++ unzigzag_of n ∷ []) left in
    let sums : added e item ≡ sums_past e xs at = sums_same refl there (omega arith) (omega arith) in
    subst (λ s. NotedOutline limits (before ++ xs) s (gs, next) rs told) sums
    (noted_item limits before e _ rs told item i.outlined refl front.spelled refl))

-- ids, and then one more
pub ids_more : (ids mid : List ℤ) (left between n used count : ℕ) (bytes : List ℕ)
    → IdsRun ids left (take used bytes) mid between → 0 < between
    → NumberInFront (take (length bytes - used) (drop used bytes)) n count
    → IdsRun ids left (take (used + count) bytes) (mid ++ unzigzag_of n ∷ []) (between - 1)
ids_more ids mid left between n used count bytes first some front = λ h m members rs at.
    stage_more h _ _ _ _ _ _ _ _ _ bytes used count (first h m members rs at)
    (id_runs mid between n count _ some front h m members rs at)

-- ids, and then one for which there is no memory
pub ids_stop : (ids mid : List ℤ) (left between used count n : ℕ) (bytes : List ℕ)
    → used ≤ length bytes → IdsRun ids left (take used bytes) mid between → 0 < between
    → NumberInFront (take (length bytes - used) (drop used bytes)) n count
    → IdsStop ids left bytes
ids_stop ids mid left between used count n bytes within first some front = λ h m members rs at.
    stage_stops h _ _ _ _ _ _ bytes used within (first h m members rs at)
    (stage_judged h _ _ rs rs at at _ count front.some front.within tt
    (id_runs mid between n count _ some front h m members rs at))

-- ==== The last row, that of a line, with one more point.

-- the last row is still that of a line
pub ends_again : (p : Point) (rs : List Row) → EndsInLine rs → EndsInLine (point_added p rs)
ends_again p rs e = record {
  front = e.front;
  last = with_point e.last p;
  line = e.line;
  whole = ap (point_added p) e.whole ∙ point_last p e.front e.last;
}

-- there is one more point
pub one_point_more : (p : Point) (rs : List Row) → EndsInLine rs
    → length (row_points (point_added p rs)) ≡ length (row_points rs) + 1
one_point_more p rs e =
    let before : length (row_points rs) ≡ length (row_points e.front) + length (row_points (e.last ∷ [])) =
    ap (λ (l : List Row). length (row_points l)) e.whole
    ∙ (ap (λ (l : List Point). length l) (row_points-append e.front (e.last ∷ []))
    ∙ length-append (row_points e.front) (row_points (e.last ∷ []))) in
    let after : length (row_points (point_added p rs)) ≡ length (row_points e.front) + length
    (row_points (with_point e.last p ∷ [])) =
    ap (λ (l : List Row). length (row_points l)) (ap (point_added p) e.whole ∙ point_last p e.front e.last)
    ∙ (ap (λ (l : List Point). length l) (row_points-append e.front (with_point e.last p ∷ []))
    ∙ length-append (row_points e.front) (row_points (with_point e.last p ∷ []))) in
    omega (
      arith,
      before,
      after,
      length-append e.last.points [],
      length-append (e.last.points ++ p ∷ []) [],
      length-append e.last.points (p ∷ []),
    )

-- ==== Points of a list that are complete at the start of bytes lead its body on; and the bytes up to one for which
-- there is no memory are a part.

-- no points
pub list_none : (rs : List Row) (from : Point) (bytes : List ℕ) (most : ℕ) → EndsInLine rs
    → length (row_points rs) + most ≤ POINTS_CAP
    → ListGoesOn rs from bytes most (record { used = 0; position = from }) most rs
list_none rs from bytes most line room = record {
  leads = record {
    within = omega arith;
    few = omega arith;
    long = omega arith;
    run = λ h f ids outer others listed same.
        stage_none h (in_list h f ids (most + others) outer) rs from;
  };
  line = line;
  room = room;
}

-- points, and then others
pub list_on : {rs mid more : List Row} {most left rest : ℕ} {from : Point} {bytes : List ℕ}
    {t u : Taken} → ListGoesOn rs from bytes most t left mid
    → ListGoesOn mid t.position (take (length bytes - t.used) (drop t.used bytes)) left u rest more
    → (let both : Taken = record { used = t.used + u.used; position = u.position } in
    ListGoesOn rs from bytes most both rest more)
list_on {bytes = bytes} {t = t} {u = u} a b = record {
  leads = record {
    within = one_within bytes t.used u.used a.leads.within b.leads.within;
    few = omega (arith, a.leads.few, b.leads.few);
    long = omega (arith, a.leads.long, b.leads.long);
    run = λ h f ids outer others listed same.
        stage_more h _ _ _ _ _ _ _ _ _ bytes t.used u.used (a.leads.run h f ids outer others listed same)
        (b.leads.run h f ids outer others listed same);
  };
  line = b.line;
  room = b.room;
}

-- points, and then one for which there is no memory
pub list_stops_on : {rs mid : List Row} {most left : ℕ} {from : Point} {bytes : List ℕ} {t : Taken}
    → ListGoesOn rs from bytes most t left mid
    → ListStops mid t.position left (take (length bytes - t.used) (drop t.used bytes))
    → ListStops rs from most bytes
list_stops_on {bytes = bytes} {t = t} a stops = λ h f ids outer others listed same.
    stage_stops h _ _ _ _ _ _ bytes t.used a.leads.within (a.leads.run h f ids outer others listed same)
    (stops h f ids outer others listed same)

-- one point
pub list_one : {rs more : List Row} {most count : ℕ} {from p : Point} {bytes : List ℕ}
    → EndsInLine rs → length (row_points rs) + most ≤ POINTS_CAP → 0 < most
    → PointInFront from bytes p count → more ≡ point_added p rs
    → ListGoesOn rs from bytes most (record { used = count; position = p }) (most - 1) more
list_one {rs = rs} {more = more} {most = most} {count = count} {from = from} {p = p} {bytes = bytes}
    line room some cut added = record {
      leads = record {
        within = cut.within;
        few = omega arith;
        long = omega (arith, cut.some);
        run = λ h f ids outer others listed same.
            let less : (most + others) - 1 ≡ (most - 1) + others = omega (arith, some) in
            subst (λ n. StageRuns h (in_list h f ids (most + others) outer) rs from (take count bytes)
            (in_list h f ids n outer) more p) less
            (list_runs h f ids outer rs more (most + others) count from p bytes (omega (arith, some))
            listed same cut added);
      };
      line = subst EndsInLine (sym added) (ends_again p rs line);
      room = omega (arith, room, ap (λ (l : List Row). length (row_points l)) added, one_point_more p rs line);
    }

-- a point for which there is no memory
pub list_one_stop : (rs : List Row) (most count : ℕ) (from p : Point) (bytes : List ℕ) → 0 < most
    → PointInFront from bytes p count → ListStops rs from most bytes
list_one_stop rs most count from p bytes some cut = λ h f ids outer others listed same.
    list_judged h f ids outer rs (most + others) count from p bytes (omega (arith, some)) same cut

-- these points, at most as many as are left
points_lead : (ps : List Point) (rs more : List Row) (most count : ℕ) (from : Point)
    (bytes : List ℕ) → EndsInLine rs → length (row_points rs) + most ≤ POINTS_CAP → length ps ≤ most
    → PointsInFront from bytes ps count → more ≡ points_added ps rs
    → ListGoesOn rs from bytes most (record { used = count; position = last_of from ps })
    (most - length ps) more
points_lead [] rs more most count from bytes line room few none added =
    let all : most - 0 ≡ most = omega arith in
    rw (added, none, all) (list_none rs from bytes most line room)
points_lead (p ∷ ps) rs more most count from bytes line room few (w, v, is, cut, rest) added =
    let n = most - 1 in
    let left : n - length ps ≡ most - suc (length ps) = omega arith in
    let one : Taken = record { used = w; position = p } in
    let first : ListGoesOn rs from bytes most one n (point_added p rs) =
    list_one line room (omega (arith, few)) cut refl in
    rw (is, ← left) (list_on first
    (points_lead ps (point_added p rs) more n v p _ first.line first.room (omega arith)
    (subst (λ bs. PointsInFront p bs ps v) (sym (take_rest bytes w)) rest) added))

-- so many points, the last of them named
pub list_points : (ps : List Point) (to : Point) (n : ℕ) (rs more : List Row) (most count : ℕ)
    (from : Point) (bytes : List ℕ) → length ps ≡ n → last_of from ps ≡ to → EndsInLine rs
    → length (row_points rs) + most ≤ POINTS_CAP → n ≤ most → PointsInFront from bytes ps count
    → more ≡ points_added ps rs
    → ListGoesOn rs from bytes most (record { used = count; position = to }) (most - n) more
list_points ps to n rs more most count from bytes many last line room few cut added =
    rw (← many, ← last)
    (points_lead ps rs more most count from bytes line room (omega arith) cut added)

-- two points, by their steps
pub list_two : {rs more : List Row} {most count : ℕ} {from p q : Point} {bytes : List ℕ}
    → EndsInLine rs → length (row_points rs) + most ≤ POINTS_CAP → 1 < most
    → AreStepsTo varint_step from bytes (p ∷ q ∷ []) count → more ≡ point_added q (point_added p rs)
    → ListGoesOn rs from bytes most (record { used = count; position = q }) (most - 2) more
list_two {from = from} {p = p} {q = q} {bytes = bytes} line room some steps added =
    points_lead (p ∷ q ∷ []) _ _ _ _ from bytes line room (omega arith)
    (points_in_front (p ∷ q ∷ []) from bytes _ steps) added

-- so many points for which there is no memory
pub list_points_stop : (ps : List Point) (rs : List Row) (most count : ℕ) (from : Point)
    (bytes : List ℕ) → 0 < length ps → length ps ≤ most → PointsInFront from bytes ps count
    → ListStops rs from most bytes
list_points_stop [] rs most count from bytes some few cut = absurd (omega (arith, some))
list_points_stop (p ∷ ps) rs most count from bytes some few (w, v, is, cut, rest) =
    list_one_stop rs most w from p bytes (omega (arith, few)) cut

-- two points, by their steps, for which there is no memory
pub list_two_stop : {rs : List Row} {most count : ℕ} {from p q : Point} {bytes : List ℕ} → 1 < most
    → AreStepsTo varint_step from bytes (p ∷ q ∷ []) count → ListStops rs from most bytes
list_two_stop {rs = rs} {most = most} {count = count} {from = from} {p = p} {q = q} {bytes = bytes} some steps =
    list_points_stop (p ∷ q ∷ []) rs most count from bytes (omega arith) (omega (arith, some))
    (points_in_front (p ∷ q ∷ []) from bytes count steps)

-- ==== The rows can take the change of the next item.

-- valid rows have at most as many points as allowed
few_points : (rs : List Row) → AreValidRowsOfOne largest_limits rs → length (row_points rs) ≤ POINTS_CAP
few_points [] v = omega arith
few_points (r ∷ rs) v =
    let same : length (flat v.0) ≡ length (row_points (r ∷ rs)) = ap (λ xs. length xs)
    (sym (row_points-with None 0 v.0)) ∙ ap (λ xs. length (row_points xs)) v.2 in
    let kept = v.1.points_kept in
    omega (arith, same, kept)

module _ (limits : Allowance) (allowed : IsAllowance limits) where
  -- rows can take a change that leads to a reader's state
  pub change_admitted : (bytes : List ℕ) (e : Sums) (o : Outline) (rs : List Row) (c : Change)
      → Takes c rs → Outlined limits bytes e o (applied c rs) → Admits c rs
  change_admitted bytes e o rs Nothing t r = tt
  change_admitted bytes e o rs (NewRow row) t r = row_goes_on limits allowed bytes e o rs row r
  change_admitted bytes e o rs (NewPoint p) t r =
      let few = few_points (point_added p rs) (outlined_largest limits allowed bytes e o (point_added p rs) r) in
      (t, omega (arith, few, one_point_more p rs t))

  -- rows can take the change of an item
  pub item_admitted : (bytes : List ℕ) (e : Sums) (o : Outline) (rs : List Row) (i : Item)
      → Outlined limits bytes e o rs → outline_role e o ≡ Some i.role
      → Gives i.role i.number i.bytes
      → objection limits e i.role i.number ≡ None → Admits (change_after e i o) rs
  item_admitted bytes e o rs i r says gives free =
      change_admitted (bytes ++ i.bytes) (added e i) _ rs (change_after e i o)
      (outlined_takes limits bytes e o rs (moved e.position i.role i.number) i.number r)
      (outlined_item limits bytes e o rs i r says gives free)

  -- rows can take the change of a point whose two numbers are taken at once
  pub point_admitted : AtPoint (Outlined limits) (λ bytes e o change rs. Admits change rs)
  point_admitted front e gs h f ids lefts rs bytes to r cut =
      change_admitted (front ++ bytes) _ _ rs _ (point_takes limits front e gs h f ids lefts rs
      bytes to r cut) (outlined_point limits front e gs h f ids lefts rs bytes to r cut)

-- ---- states of which it is only known that some reader reaches them

-- whether a row is that of a line or a ring
abbrev is_line : Kind → Bool
is_line kinds.Linestring = true
is_line kinds.Ring = true
is_line _ = false

line_is : (k : Kind) → is_line k ≡ true → (k ≡ kinds.Linestring) ⊎ (k ≡ kinds.Ring)
line_is kinds.Linestring h = inl refl
line_is kinds.Ring h = inr refl
line_is _ h = absurd cc

line_true : (k : Kind) → (k ≡ kinds.Linestring) ⊎ (k ≡ kinds.Ring) → is_line k ≡ true
line_true k (inl e) = ap is_line e
line_true k (inr e) = ap is_line e

-- whether the last row is that of a line or a ring
abbrev ends_line : List Row → Bool
ends_line [] = false
ends_line (r ∷ []) = is_line r.kind
ends_line (r ∷ s ∷ rs) = ends_line (s ∷ rs)

ends_is : (rs : List Row) → ends_line rs ≡ true → EndsInLine rs
ends_is [] h = absurd cc
ends_is (r ∷ []) h = record { front = []; last = r; line = line_is r.kind h; whole = refl }
ends_is (r ∷ s ∷ rs) h = let e = ends_is (s ∷ rs) h in
    record { front = r ∷ e.front; last = e.last; line = e.line; whole = ap (λ l. r ∷ l) e.whole }

ends_behind : (front : List Row) (r : Row) → is_line r.kind ≡ true → ends_line (front ++ r ∷ []) ≡ true
ends_behind (s ∷ t ∷ front) r h = ends_behind (t ∷ front) r h
ends_behind _ r h = h

ends_true : (rs : List Row) → EndsInLine rs → ends_line rs ≡ true
ends_true rs e = ap ends_line e.whole ∙ ends_behind e.front e.last (line_true e.last.kind e.line)

-- Rows can take a change if some witness shows it. `Admits` says nothing of the witness, so a
-- truncated one is enough.
pub admitted_by : (A : Type 0) (c : Change) (rs : List Row) → ∥ A ∥₁ → (A → Admits c rs) → Admits c rs
admitted_by A Nothing rs t f = tt
admitted_by A (NewRow r) rs t f = continues_is largest_limits rs r
    (∥∥₁_elim t (Bool-set _ _) (λ a. continues_true largest_limits rs r (f a)))
admitted_by A (NewPoint p) rs t f = (
  ends_is rs (∥∥₁_elim t (Bool-set _ _) (λ a. ends_true rs (f a).0)),
  ∥∥₁_elim t (Prim.hlevel props) (λ a. (f a).1),
)

-- the change of an item that comes after some bytes
pub somewhere_admitted : (limits : Allowance) → IsAllowance limits
    → (e : Sums) (o : Outline) (rs : List Row) (role : Role) (n : ℕ) (bytes : List ℕ)
    → ∥ ((front : List ℕ) × Outlined limits front e o rs) ∥₁
    → outline_role e o ≡ Some role → Gives role n bytes → objection limits e role n ≡ None
    → Admits (change_of (moved e.position role n) n o) rs
somewhere_admitted limits allowed e o rs role n bytes alive says gives free =
    admitted_by ((front : List ℕ) × Outlined limits front e o rs) (change_of (moved e.position role n) n o) rs alive
    (λ r. item_admitted limits allowed r.0 e o rs
    (record { role = role; number = n; bytes = bytes }) r.1 says gives free)
