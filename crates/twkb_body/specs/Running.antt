-- Points, members and ids that are read on at the start of bytes, or for which there is no memory.
use Rattle.std.specs.Prelude.{◌≡◌, ◌+◌, ◌≤◌, ⊤, ℕ, suc, ℤ, List, [], ◌∷◌, ◌++◌, length, take}
use Rattle.std.specs.Prelude.{Result, Ok, Err}
use Rattle.twkb_points.specs.Point.{Point}
use Rattle.twkb_tree.specs.declared.limits.TheConstants.{POINTS_CAP}
use Rattle.twkb_tree.specs.Tree.{Ids}
use Rattle.twkb_tree.specs.Limits.{Allowance}
use Rattle.twkb_tree.specs.Rows.{Row, row_points}
use Rattle.twkb_tree.specs.RowGrowth.{EndsInLine}
use Rattle.twkb_grammar.specs.Machine.{BodyForm, PointForm, MultiPointForm, Many, Sums}
use Rattle.twkb_grammar.specs.Noting.{Notes}
use Rattle.twkb_body.specs.Outline.{FrameOutline, Stage, OnId, OnBody, Wanted, shut, next_ids}
use Rattle.twkb_body.specs.Growing.{id_in}
use Rattle.twkb_body.specs.Reading.{sums_past, NotedOutline}
use Rattle.twkb_body.specs.HeaderParts.{PartIn}
use Rattle.twkb_body.specs.Header.{head_of, IsHeadAt}
use Rattle.twkb_body.specs.declared.head.Head.{Head}
use Rattle.twkb_body.specs.declared.list_points.Taken.{Taken}

-- a form that has its points in lists, and each list in a row
abbrev pub HasLists : BodyForm → Type 0
HasLists PointForm = ⊥
HasLists MultiPointForm = ⊥
HasLists f = ⊤

-- after these bytes and inside these collections this stage comes next, in a geometry of this
-- header, and these are the notes of spans
pub record WantedIn (limits : Allowance) (front : List ℕ) (e : Sums) (gs : List FrameOutline)
    (told : ℕ → Notes) (h : Head) (s : Stage) (rs : List Row) : Type 0 where
  pub outlined : NotedOutline limits front e (gs, s) rs told
  pub placed : IsHeadAt (length gs) (id_in gs) h

-- wherever the first stage comes next, the bytes lead on to the other, from one position to another;
-- they announce and note nothing
abbrev pub StageRuns : Head → Stage → List Row → Point → List ℕ → Stage → List Row → Point → Type 0
StageRuns h s rs from bytes next more to =
    (limits : Allowance) (e : Sums) (front : List ℕ) (gs : List FrameOutline) (told : ℕ → Notes)
    → e.position ≡ from → WantedIn limits front e gs told h s rs
    → NotedOutline limits (front ++ bytes) (sums_past e bytes to) (gs, next) more told

-- wherever the stage comes next, a prefix of the bytes ends a part that was judged
abbrev pub StageStops : Head → Stage → List Row → Point → List ℕ → Type 0
StageStops h s rs from bytes = (limits : Allowance) (e : Sums) (front : List ℕ) (gs : List FrameOutline)
    (told : ℕ → Notes) → e.position ≡ from → WantedIn limits front e gs told h s rs
    → PartIn limits front bytes

-- in a list of points of this form and with these ids, inside other lists, with so many points still
-- to come: the next one, or the end of the list
abbrev pub in_list : Head → BodyForm → Ids → (left : ℕ) → (outer : List ℕ) → Stage
in_list h f ids left outer = shut (head_of h) f ids 0 (left ∷ outer)

-- wherever `most` points of a list come to the last row, and whatever number of others after them,
-- the bytes lead on to the last `left` of these, or past all
abbrev pub ListRuns : List Row → Point → ℕ → List ℕ → ℕ → List Row → Point → Type 0
ListRuns rs from most bytes left more to = (h : Head) (f : BodyForm) (ids : Ids) (outer : List ℕ)
    (others : ℕ) → HasLists f → next_ids outer ids ≡ ids
    → StageRuns h (in_list h f ids (most + others) outer) rs from bytes
    (in_list h f ids (left + others) outer) more to

-- wherever `most` points of a list come to the last row, and whatever number of others after them,
-- a prefix of the bytes ends a part that was judged
abbrev pub ListStops : List Row → Point → ℕ → List ℕ → Type 0
ListStops rs from most bytes = (h : Head) (f : BodyForm) (ids : Ids) (outer : List ℕ) (others : ℕ)
    → HasLists f → next_ids outer ids ≡ ids
    → StageStops h (in_list h f ids (most + others) outer) rs from bytes

-- these points of a list were taken, at most `most`, each of a byte or more, and the others are left
pub record ListLeads (rs : List Row) (from : Point) (bytes : List ℕ) (most : ℕ) (t : Taken)
    (left : ℕ) (more : List Row) : Type 0 where
  pub within : t.used ≤ length bytes
  pub few : left ≤ most
  pub long : most ≤ left + t.used
  pub run : ListRuns rs from most (take t.used bytes) left more t.position

-- what a call answers that takes points of a list
abbrev pub TakesRow : {E : Type 0} → List Row → Point → List ℕ → ℕ → Result (Taken × ℕ) E → List Row → Type 0
TakesRow rs from bytes most (Ok r) more = ListLeads rs from bytes most r.0 r.1 more
TakesRow rs from bytes most (Err e) more = ListStops rs from most bytes

-- points of a list were taken so, and the last row takes those that are left
pub record ListGoesOn (rs : List Row) (from : Point) (bytes : List ℕ) (most : ℕ) (t : Taken)
    (left : ℕ) (more : List Row) : Type 0 where
  pub leads : ListLeads rs from bytes most t left more
  pub line : EndsInLine more
  pub room : length (row_points more) + left ≤ POINTS_CAP

-- what a call answers whose caller takes those that are left
abbrev pub GoesOn : {E : Type 0} → List Row → Point → List ℕ → ℕ → Result (Taken × ℕ) E → List Row
    → Type 0
GoesOn rs from bytes most (Ok r) more = ListGoesOn rs from bytes most r.0 r.1 more
GoesOn rs from bytes most (Err e) more = ListStops rs from most bytes

-- the members of a multipoint at this depth that were taken, from these ids on, at most `most`; the
-- others are left, with those ids
pub record MembersLead (rs : List Row) (ids : Ids) (depth : ℕ) (from : Point) (bytes : List ℕ)
    (most : ℕ) (t : Taken) (left : ℕ) (others : Ids) (more : List Row) : Type 0 where
  pub within : t.used ≤ length bytes
  pub few : left ≤ most
  pub run : (h : Head) → suc h.depth ≡ depth → StageRuns h
      (OnBody (head_of h) MultiPointForm ids (Wanted 0 (most ∷ []))) rs from (take t.used bytes)
      (OnBody (head_of h) MultiPointForm others (Wanted 0 (left ∷ []))) more t.position

-- what a call answers that takes them
abbrev pub TakesMembers : {E : Type 0} → List Row → Ids → (depth : ℕ) → Point → List ℕ → (most : ℕ)
    → Result (Taken × ℕ) E → Ids → List Row → Type 0
TakesMembers rs ids depth from bytes most (Ok r) others more = MembersLead rs ids depth from bytes
    most r.0 r.1 others more
TakesMembers rs ids depth from bytes most (Err e) others more = (h : Head) → suc h.depth ≡ depth
    → StageStops h (OnBody (head_of h) MultiPointForm ids (Wanted 0 (most ∷ []))) rs from bytes

-- wherever ids are read, with `left` after the next one, the bytes are further ones, with `further` left after them
abbrev pub IdsRun : List ℤ → ℕ → List ℕ → List ℤ → ℕ → Type 0
IdsRun ids left bytes more further = (h : Head) (m : Many) (members : ℕ) (rs : List Row)
    (at : Point) → StageRuns h (OnId m (head_of h) members ids left) rs at bytes
    (OnId m (head_of h) members more further) rs at

-- this number of bytes is further ids, at most `most`
abbrev pub IdsTaken : List ℤ → (most : ℕ) → List ℕ → (used : ℕ) → List ℤ → Type 0
IdsTaken ids most bytes used more = (left : ℕ) × (length more + left ≡ length ids + most)
    × IdsRun ids most (take used bytes) more left

-- wherever ids are read, a prefix of the bytes ends a part that was judged
abbrev pub IdsStop : List ℤ → ℕ → List ℕ → Type 0
IdsStop ids left bytes = (h : Head) (m : Many) (members : ℕ) (rs : List Row) (at : Point)
    → StageStops h (OnId m (head_of h) members ids left) rs at bytes
