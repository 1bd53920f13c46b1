-- Items that the machine ran through, and the geometries that the plain reader makes of them.
use Rattle.std.proofs.Common.{◌≡◌, ℕ, ◌+◌, ◌<◌, ◌≤◌, ◌⊎◌, inl, inr, Bool, true, false, nat_le, nat_lt, ◌&&◌, refl}
use Rattle.std.proofs.Common.{arith, Some, None, List, [], ◌∷◌, ◌++◌, length, sym, ap, ◌∙◌, subst, zero, suc, ◌-◌}
use Rattle.std.proofs.Common.{append-nil, Option, ◌*◌, append_assoc, length-append}
use Rattle.std.specs.Prelude.{if◌then◌else◌, sum_by, ◌≢◌, Ok}
use Rattle.std.proofs.lemmas.Bool.Decides.{nat_tests}
use Rattle.std.proofs.lemmas.List.Sums.{sum_by-append, sum_by-cons}
use Rattle.std.proofs.lemmas.Grind.{common_steps}
use Rattle.twkb_points.specs.Point.{Point}
use Rattle.twkb_tree.specs.Limits.{Allowance, IsAllowance, IsValid}
use Rattle.twkb_tree.specs.Tree.{Tree, collection}
use Rattle.twkb_grammar.specs.Roles.{Role, Header, Metadata, Extended, Count, X, Y, End, Item, IsItem, join, IsNumber}
use Rattle.twkb_grammar.specs.Roles.{Spells}
use Rattle.twkb_grammar.specs.Fault.{Reason, TooDeep, announces_point, nodes_by, points_by, Part, FirstFault, Refused}
use Rattle.twkb_grammar.specs.Fault.{announced_nodes, announced_points, position, Truncated, BadVarint, SizeMismatch}
use Rattle.twkb_grammar.specs.Fault.{IsCut, IsTooLong, NumberFirst, moved}
use Rattle.twkb_grammar.specs.Reading.{objection, unless, is_exact, Here, Kept, Ran, Reached, Gives, past_end, ends}
use Rattle.twkb_grammar.specs.Reading.{Landed, Leads, Answer, Made, RefusedAt, GoesOn, made, cut, after_cut}
use Rattle.twkb_grammar.specs.Reading.{decode_from, decode}
use Rattle.twkb_grammar.specs.Machine.{Sums, Finished, nothing, added, sums_after, Stack, started, role_at}
use Rattle.twkb_grammar.specs.Machine.{stack_after, Runs, Head, Frame, Phase, AtHeader, AtEnd, snoc, ended, Want}
use Rattle.twkb_grammar.specs.Machine.{Done, AtBody}
use Rattle.twkb_grammar.specs.Items.{IsExact, Blob, BlobInFront}
use Rattle.twkb_grammar.proofs.Trees.{tree_runs, tree_total, total, total_is, total-append}
use Rattle.twkb_grammar.proofs.Bodies.{Runs-append, bytes_after}
use Rattle.twkb_grammar.proofs.TreesBack.{runs_are_items, IsProper, proper_run}
use Rattle.twkb_grammar.proofs.Parts.{runs_split, run_on, pending, lowers}
use Rattle.twkb_grammar.proofs.Stepping.{Allowed, Agree, Sound, Objects, long_not_cut, count_says, x_says, y_says}
use Rattle.twkb_grammar.proofs.Stepping.{header_says, metadata_says, extended_says, end_says, Took, Steps, step}
use Rattle.twkb_grammar.proofs.Refusing.{refusal_is_first, position_is, alive, Kept-append, kept_split, tree_keeps}
use Rattle.twkb_grammar.proofs.WrittenBlobs.{AreExact-append, join-append}
use Rattle.twkb_grammar.proofs.BodiesBack.{sums_after-append}
use Rattle.twkb_grammar.specs.Bits.{AreBytes}

-- ==== Objections to items, and the limits that an item without an objection keeps.

-- a collection with members inside too many collections is refused
pub deep_refused : (nest level n : ℕ) (others : Option Reason) → nest ≤ level → 0 < n
    → Some TooDeep ≡ unless (nat_le nest level && nat_lt 0 n) TooDeep others
deep_refused nest level n others h k =
    let a : nat_le nest level ≡ true = grind (arith, nat_tests) in
    let b : nat_lt 0 n ≡ true = grind (arith, nat_tests) in
    rw (a, b) refl

-- a collection inside few enough, or without members, is allowed
pub deep_allowed : (nest level n : ℕ) (others : Option Reason) → (level < nest) ⊎ (n ≤ 0)
    → others ≡ unless (nat_le nest level && nat_lt 0 n) TooDeep others
deep_allowed nest level n others (inl h) =
    let a : nat_le nest level ≡ false = grind (arith, nat_tests) in rw a refl
deep_allowed nest level n others (inr h) =
    let b : nat_lt 0 n ≡ false = grind (arith, nat_tests) in
    elim (nat_le nest level) as (λ v. others ≡ unless (v && nat_lt 0 n) TooDeep others)
    [ true ↦ rw b refl | false ↦ refl ]

-- ==== Items that the machine ran through within the limits: a part, a blob once the geometry is complete, and a
-- first fault if it refuses.

-- the number of nodes in the sums is the number announced
pub nodes_after : (is : List Item) (e : Sums)
    → (sums_after e is).nodes ≡ e.nodes + sum_by (λ i. nodes_by i.role i.number) is
nodes_after [] e = omega arith
nodes_after (i ∷ is) e = omega (arith, nodes_after is (added e i), sum_by-cons (λ i. nodes_by i.role i.number) i is)

-- the number of points in the sums is the number announced
pub points_after : (is : List Item) (e : Sums)
    → (sums_after e is).points ≡ e.points + sum_by (λ i. points_by i.role i.number) is
points_after [] e = omega arith
points_after (i ∷ is) e = omega (arith, points_after is (added e i), sum_by-cons (λ i. points_by i.role i.number) i is)

-- the sums agree with the items
pub agrees : (before : List Item) → Agree (sums_after nothing before) before
agrees before = record {
  position_is = position_is before nothing;
  nodes_are = nodes_after before nothing;
  points_are = omega
      (arith, points_after before nothing);
}

-- before the first item nothing is against the limits
pub ran_nothing : (limits : Allowance) → IsAllowance limits → Ran limits [] started
ran_nothing limits allowed = record {
  runs = refl;
  kept = tt;
  nodes_kept = omega (arith, allowed.one_node);
  points_kept = omega arith;
  exact = tt;
}

-- items run through within the limits are a part
pub ran_part : (limits : Allowance) (before : List Item) (st : Stack) → Ran limits before st → Part limits before
ran_part limits before st r = alive limits before st r.runs r.kept r.nodes_kept r.points_kept r.exact

-- a part that is complete is its geometry
valid_tree : (limits : Allowance) (before : List Item) (g : Tree)
    → Runs nothing started before ([], Finished g) → Part limits before → IsValid limits g
valid_tree limits before g runs part = subst (λ t. IsValid limits t) (sym (go part.more
    (run_on before part.more ([], Finished g) ([], Finished part.tree)
    (tree_runs part.tree [] nothing (before ++ part.more) part.valid.tree part.items) runs))) part.valid
  where
    go : (more : List Item) → Runs (sums_after nothing before) ([], Finished g) more ([], Finished part.tree)
        → g ≡ part.tree
    go [] t = let z : Finished g ≡ Finished part.tree = ap (λ (x : Stack). x.1) t in cc
    go (i ∷ more) t = let z : None ≡ Some i.role = t.0 in absurd cc

-- items run through to the end within the limits are a blob
pub ran_blob : (limits : Allowance) (before : List Item) (g : Tree)
    → Ran limits before ([], Finished g) → Blob limits (join before) g
ran_blob limits before g r = record {
  valid = valid_tree limits before g r.runs (ran_part limits before ([], Finished g) r);
  items = before;
  are_items = (runs_are_items g before r.runs).0;
  exact = r.exact;
  spelled = refl;
}

-- a reason that holds after the items is the first fault
pub ran_fault : (limits : Allowance) (before : List Item) (rest : List ℕ) (st : Stack) (role : Role)
    (reason : Reason) → Ran limits before st → role_at (sums_after nothing before) st ≡ Some role
    → Refused limits before rest role reason → FirstFault limits (join before ++ rest) (length (join before)) reason
ran_fault limits before rest st role reason r says refused =
    refusal_is_first limits before rest st role reason r.runs says refused (ran_part limits before st r)

-- ---- one more item

here_of : (limits : Allowance) (before : List Item) (p : Point) (r : Role) (n : ℕ)
    → p ≡ position before → Allowed limits before r n → Here limits.nest p r n
here_of limits before p (Count c) n e a = a.0
here_of limits before p X n e a = rw e a
here_of limits before p Y n e a = rw e a
here_of limits before p _ n e a = tt

more_nodes : (limits : Allowance) (before : List Item) (r : Role) (n : ℕ)
    → Allowed limits before r n → announced_nodes before ≤ limits.nodes
    → announced_nodes before + nodes_by r n ≤ limits.nodes
more_nodes limits before (Count c) n a h = a.1
more_nodes limits before _ n a h = omega (arith, h)

more_points : (limits : Allowance) (before : List Item) (r : Role) (n : ℕ)
    → Allowed limits before r n → announced_points before ≤ limits.points
    → announced_points before + points_by r n ≤ limits.points
more_points limits before (Metadata k) n a h = go (announces_point k n) refl
  where
    go : (b : Bool) → announces_point k n ≡ b → announced_points before + (if b then 1 else 0) ≤ limits.points
    go true e = omega (arith, a e)
    go false e = omega (arith, h)
more_points limits before (Count c) n a h = a.2
more_points limits before _ n a h = omega (arith, h)

-- the items and one more that is allowed there
pub ran_item : (limits : Allowance) (before : List Item) (st : Stack) (i : Item)
    → Ran limits before st → role_at (sums_after nothing before) st ≡ Some i.role → IsItem i
    → Allowed limits before i.role i.number → IsExact i.role
    → Ran limits (before ++ i ∷ []) (stack_after (sums_after nothing before) i st)
ran_item limits before st i r says is allowed exact = record {
  runs = Runs-append before nothing started st (i ∷ [])
      (stack_after (sums_after nothing before) i st) r.runs (says, is, refl);
  kept = Kept-append limits.nest before (i ∷ []) nothing r.kept (
    here_of limits before (sums_after nothing before).position i.role i.number
        (position_is before nothing) allowed,
    tt,
  );
  nodes_kept = omega (
    arith,
    more_nodes limits before i.role i.number allowed r.nodes_kept,
    sum_by-append (λ i. nodes_by i.role i.number) before (i ∷ []),
    sum_by-cons (λ i. nodes_by i.role i.number) i [],
  );
  points_kept = omega (
    arith,
    more_points limits before i.role i.number allowed r.points_kept,
    sum_by-append (λ i. points_by i.role i.number) before (i ∷ []),
    sum_by-cons (λ i. points_by i.role i.number) i [],
  );
  exact = AreExact-append before (i ∷ []) r.exact (exact, tt);
}

-- the machine runs through a part within the limits
pub part_ran : (limits : Allowance) (before : List Item) → Part limits before → (st : Stack) × Ran limits before st
part_ran limits before p = (
  s.mid,
  record {
    runs = s.front;
    kept = (kept_split limits.nest before p.more nothing kept).0;
    exact = p.exact;
    nodes_kept = omega (arith, p.valid.nodes_kept, t.0, total-append nodes_by before p.more, total_is nodes_by before);
    points_kept = omega (
      arith,
      p.valid.points_kept,
      t.1,
      total-append points_by before p.more,
      total_is points_by before,
    );
  },
)
  where
    s : Rattle.twkb_grammar.proofs.Parts.Split nothing started before p.more ([], Finished p.tree)
    s = runs_split before p.more nothing started ([], Finished p.tree)
        (tree_runs p.tree [] nothing (before ++ p.more) p.valid.tree p.items)

    t : (total nodes_by (before ++ p.more) + 1 ≡ Rattle.twkb_tree.specs.Tree.nodes p.tree)
        × (total points_by (before ++ p.more) ≡ length (Rattle.twkb_tree.specs.Tree.flat p.tree))
    t = tree_total p.tree 0 (before ++ p.more) p.valid.tree p.items

    kept : Kept limits.nest nothing (before ++ p.more)
    kept = (tree_keeps p.tree limits.nest 0 (before ++ p.more) nothing p.valid.tree (omega arith) p.items).1
        (omega (arith, p.valid.nest_kept), p.valid.in_range)

-- ==== The state of a reader: the effect of an item, when there is a blob, and which refusals are first faults.

-- before the first byte
pub reached_nothing : (limits : Allowance) → IsAllowance limits → Reached limits [] nothing started
reached_nothing limits allowed = record { items = []; ran = ran_nothing limits allowed; sums = refl; spelled = refl }

-- the sums count the bytes
pub reached_bytes : (limits : Allowance) (bytes : List ℕ) (e : Sums) (st : Stack)
    → Reached limits bytes e st → length bytes ≡ e.bytes
reached_bytes limits bytes e st r =
    let a : (sums_after nothing r.items).bytes ≡ e.bytes = ap (λ (s : Sums). s.bytes) r.sums in
    let b : length (join r.items) ≡ length bytes = ap length r.spelled in
    omega (arith, a, b, bytes_after r.items nothing)

-- the role that comes next in the state is the one that comes next after its items
pub role_behind : (limits : Allowance) (bytes : List ℕ) (e : Sums) (st : Stack) (role : Role)
    (r : Reached limits bytes e st) → role_at e st ≡ Some role
    → role_at (sums_after nothing r.items) st ≡ Some role
role_behind limits bytes e st role r says = ap (λ s. role_at s st) r.sums ∙ says

-- the state after one more item
pub reached_item : (limits : Allowance) (bytes : List ℕ) (e : Sums) (st : Stack) (i : Item)
    (r : Reached limits bytes e st) → role_at e st ≡ Some i.role → IsItem i
    → Allowed limits r.items i.role i.number → IsExact i.role
    → Reached limits (bytes ++ i.bytes) (added e i) (stack_after e i st)
reached_item limits bytes e st i r says is allowed exact = record {
  items = r.items ++ i ∷ [];
  ran = subst (λ s. Ran limits (r.items ++ i ∷ []) (stack_after s i st)) r.sums
      (ran_item limits r.items st i r.ran (role_behind limits bytes e st i.role r says) is
      allowed exact);
  sums = sums_after-append r.items (i ∷ []) nothing ∙ ap (λ s. added s i) r.sums;
  spelled = join-append r.items (i ∷ []) ∙ (ap (λ l. l ++ join (i ∷ [])) r.spelled
      ∙ ap (λ l. bytes ++ l) (append-nil i.bytes));
}

-- a geometry that is complete is that of a blob
pub reached_blob : (limits : Allowance) (bytes : List ℕ) (e : Sums) (g : Tree)
    → Reached limits bytes e ([], Finished g) → Blob limits bytes g
reached_blob limits bytes e g r = subst (λ l. Blob limits l g) r.spelled (ran_blob limits r.items g r.ran)

-- a reason that holds after the items is the first fault
pub reached_fault : (limits : Allowance) (bytes : List ℕ) (e : Sums) (st : Stack) (rest : List ℕ)
    (role : Role) (reason : Reason) (r : Reached limits bytes e st) → role_at e st ≡ Some role
    → Refused limits r.items rest role reason → FirstFault limits (bytes ++ rest) e.bytes reason
reached_fault limits bytes e st rest role reason r says refused =
    subst (λ n. FirstFault limits (bytes ++ rest) n reason) (reached_bytes limits bytes e st r)
    (subst (λ l. FirstFault limits (l ++ rest) (length l) reason) r.spelled
    (ran_fault limits r.items rest st role reason r.ran
    (role_behind limits bytes e st role r says) refused))

-- a reason of any number is one of a number in this role
number_refused : (limits : Allowance) (before : List Item) (rest : List ℕ) (r : Role) (reason : Reason) → IsNumber r
    → ((Others : Type 0) → NumberFirst reason rest Others) → Refused limits before rest r reason
number_refused limits before rest Header reason n first = absurd n
number_refused limits before rest (Metadata k) reason n first = absurd n
number_refused limits before rest Extended reason n first = absurd n
number_refused limits before rest (End d came) reason n first = absurd n
number_refused limits before rest _ reason n first = first _

-- bytes that end inside a number are truncated there, as the first fault
pub reached_cut : (limits : Allowance) (bytes : List ℕ) (e : Sums) (st : Stack) (rest : List ℕ)
    (role : Role) → Reached limits bytes e st → role_at e st ≡ Some role
    → IsNumber role → IsCut rest → FirstFault limits (bytes ++ rest) e.bytes Truncated
reached_cut limits bytes e st rest role r says n c = reached_fault limits bytes e st rest role
    Truncated r says (number_refused limits r.items rest role Truncated n
    (λ Others. inl (c, refl)))

-- a number that is too long is the first fault
pub reached_long : (limits : Allowance) (bytes : List ℕ) (e : Sums) (st : Stack) (rest : List ℕ)
    (role : Role) → Reached limits bytes e st → role_at e st ≡ Some role
    → IsNumber role → IsTooLong rest → FirstFault limits (bytes ++ rest) e.bytes BadVarint
reached_long limits bytes e st rest role r says n h = reached_fault limits bytes e st rest role
    BadVarint r says (number_refused limits r.items rest role BadVarint n
    (λ Others. inr (long_not_cut rest h, inl (h, refl))))

-- bytes that end where an item with bytes is expected, and not at a blob's end
end_refused : (limits : Allowance) (before : List Item) (r : Role) → before ≢ []
    → ((d : Option ℕ) (came : ℕ) → r ≡ End d came → ⊥) → Refused limits before [] r Truncated
end_refused limits before Header some n = inl ((some, refl), refl)
end_refused limits before (Metadata k) some n = inl (refl, refl)
end_refused limits before Extended some n = inl (refl, refl)
end_refused limits before (End d came) some n = absurd (n d came refl)
end_refused limits before _ some n = inl ((omega arith, tt), refl)

-- bytes that end there are truncated, as the first fault
pub reached_end : (limits : Allowance) (bytes : List ℕ) (e : Sums) (st : Stack) (role : Role)
    → Reached limits bytes e st → role_at e st ≡ Some role
    → bytes ≢ [] → ((d : Option ℕ) (came : ℕ) → role ≡ End d came → ⊥) → FirstFault limits bytes e.bytes Truncated
reached_end limits bytes e st role r says some n =
    subst (λ l. FirstFault limits l e.bytes Truncated) (append-nil bytes)
    (reached_fault limits bytes e st [] role Truncated r says
    (end_refused limits r.items role (λ none. some (sym r.spelled ∙ ap join none)) n))

-- an objection to a number is the first reason that holds; without one the number is allowed
objects : (limits : Allowance) (before : List Item) (e : Sums) (r : Role) (n : ℕ)
    (bytes more : List ℕ) → Agree e before → Gives r n bytes
    → Objects limits before (bytes ++ more) r n (objection limits e r n)
objects limits before e Header n bytes more agree g = header_says limits before (bytes ++ more) e
    agree n more (ap (λ l. l ++ more) g.1)
objects limits before e (Metadata k) n bytes more agree g = metadata_says limits before
    (bytes ++ more) e agree k n more (ap (λ l. l ++ more) g.1)
objects limits before e Extended n bytes more agree g = extended_says limits before (bytes ++ more)
    e agree n more (ap (λ l. l ++ more) g.1)
objects limits before e (Count c) n bytes more agree g = count_says limits before (bytes ++ more) e
    agree c n (record { front = bytes; more = more; whole = refl; spelled = g })
objects limits before e X n bytes more agree g = x_says limits before (bytes ++ more) e agree n
    (record { front = bytes; more = more; whole = refl; spelled = g })
objects limits before e Y n bytes more agree g = y_says limits before (bytes ++ more) e agree n
    (record { front = bytes; more = more; whole = refl; spelled = g })
objects limits before e (End d came) n bytes more agree g =
    subst (λ m. Objects limits before (bytes ++ more) (End d came) m
    (objection limits e (End d came) m)) (sym g.0)
    (end_says limits before (bytes ++ more) e agree d came)
objects limits before e _ n bytes more agree g = (tt, tt, tt)

is_item : (r : Role) (n : ℕ) (bytes : List ℕ) → Gives r n bytes → Sound r n → Spells r n bytes
is_item Header n bytes g s = (g.0, s.0, s.1, g.1)
is_item Extended n bytes g s = (g.0, s, g.1)
is_item _ n bytes g s = g

-- the end after an item is an item like others
abbrev end_of : Sums → Head → Item
end_of e h = record { role = End h.size (e.bytes - h.from); number = 0; bytes = [] }

added_end : (e : Sums) (h : Head) → added e (end_of e h) ≡ e
added_end e h =
    let b : e.bytes + 0 ≡ e.bytes = omega arith in
    let n : e.nodes + 0 ≡ e.nodes = omega arith in
    let p : e.points + 0 ≡ e.points = omega arith in
    λ t. record { bytes = b t; position = e.position; nodes = n t; points = p t }

exact_is : (d : Option ℕ) (came : ℕ) → is_exact d came ≡ true → IsExact (End d came)
exact_is None came h = tt
exact_is (Some n) came h = grind (arith, common_steps)

exact_not : (d : Option ℕ) (came : ℕ) → is_exact d came ≡ false → IsExact (End d came) → ⊥
exact_not None came h x = cc
exact_not (Some n) came h x = grind (arith, common_steps)

end_taken : (limits : Allowance) (bytes : List ℕ) (e : Sums) (h : Head) (g : Tree) (fs : List Frame)
    → is_exact h.size (e.bytes - h.from) ≡ true → Reached limits bytes e (fs, AtEnd h g)
    → Reached limits bytes e (ended fs g)
end_taken limits bytes e h g fs x r =
    let a = reached_item limits bytes e (fs, AtEnd h g) (end_of e h) r refl (refl, refl) tt
    (exact_is h.size (e.bytes - h.from) x) in
    let b : Reached limits bytes (added e (end_of e h)) (ended fs g) =
    subst (λ l. Reached limits l (added e (end_of e h)) (ended fs g)) (append-nil bytes) a in
    subst (λ s. Reached limits bytes s (ended fs g)) (added_end e h) b

past : (limits : Allowance) (bytes : List ℕ) (e : Sums) (h : Head) (g : Tree) (fs : List Frame)
    (b : Bool) → is_exact h.size (e.bytes - h.from) ≡ b → Reached limits bytes e (fs, AtEnd h g)
    → Landed limits bytes e (past_end b e.bytes g fs)
past limits bytes e h g fs false x r = λ rest.
    reached_fault limits bytes e (fs, AtEnd h g) rest (End h.size (e.bytes - h.from)) SizeMismatch r
    refl (inl (exact_not h.size (e.bytes - h.from) x, refl))
past limits bytes e h g [] true x r = end_taken limits bytes e h g [] x r
past limits bytes e h g (f ∷ fs) true x r =
    elim f.left as (λ m.
    Reached limits bytes e
    (elim m [
      | zero ↦ (fs, AtEnd f.head (collection f.head.precision f.ids (snoc f.done g)))
      | suc n ↦ (
        record { head = f.head; ids = f.ids; done = snoc f.done g; left = n } ∷ fs,
        AtHeader,
      )
    ])
    → Landed limits bytes e
    (elim m [
      | zero ↦ past_end (is_exact f.head.size (e.bytes - f.head.from)) e.bytes
          (collection f.head.precision f.ids (snoc f.done g)) fs
      | suc n ↦ Ok
          (record { head = f.head; ids = f.ids; done = snoc f.done g; left = n } ∷ fs, AtHeader)
    ])) [
      | zero ↦ λ a. past limits bytes e f.head (collection f.head.precision f.ids (snoc f.done g)) fs
          (is_exact f.head.size (e.bytes - f.head.from)) refl a
      | suc n ↦ λ a. a
    ]
    (end_taken limits bytes e h g (f ∷ fs) x r)

pub landed : (limits : Allowance) (bytes : List ℕ) (e : Sums) (fs : List Frame) (p : Phase)
    → Reached limits bytes e (fs, p) → Landed limits bytes e (ends e.bytes fs p)
landed limits bytes e fs (AtEnd h g) r = past limits bytes e h g fs (is_exact h.size (e.bytes - h.from)) refl r
landed limits bytes e fs _ r = r

-- a number at a place leads to the next state, or is the first fault
pub leads : (limits : Allowance) (bytes : List ℕ) (e : Sums) (st : Stack) (i : Item)
    → Reached limits bytes e st → role_at e st ≡ Some i.role → Gives i.role i.number i.bytes
    → Leads limits bytes e st i (objection limits e i.role i.number)
leads limits bytes e st i r says gives = go (objection limits e i.role i.number)
    (λ more. objects limits r.items e i.role i.number i.bytes more agree gives)
  where
    agree : Agree e r.items
    agree = subst (λ s. Agree s r.items) r.sums (agrees r.items)

    go : (o : Option Reason) → ((more : List ℕ) → Objects limits r.items (i.bytes ++ more) i.role
        i.number o) → Leads limits bytes e st i o
    go None h =
        let may = h [] in
        landed limits (bytes ++ i.bytes) (added e i) (stack_after e i st).0 (stack_after e i st).1
        (reached_item limits bytes e st i r says (is_item i.role i.number i.bytes gives may.1) may.0 may.2)
    go (Some reason) h = λ more. reached_fault limits bytes e st (i.bytes ++ more) i.role reason r says (h more)

-- a number without an objection leads to the state after one more item, whether or not the sizes
-- after it are right
pub reached_on : (limits : Allowance) (bytes : List ℕ) (e : Sums) (st : Stack) (i : Item)
    (r : Reached limits bytes e st) → role_at e st ≡ Some i.role → Gives i.role i.number i.bytes
    → objection limits e i.role i.number ≡ None → (t : Reached limits (bytes ++ i.bytes) (added e i)
    (stack_after e i st)) × (t.items ≡ r.items ++ i ∷ [])
unfolding reached_item
reached_on limits bytes e st i r says gives free =
    let agree : Agree e r.items = subst (λ s. Agree s r.items) r.sums (agrees r.items) in
    let may = subst (λ o. Objects limits r.items (i.bytes ++ []) i.role i.number o) free
    (objects limits r.items e i.role i.number i.bytes [] agree gives) in
    (reached_item limits bytes e st i r says (is_item i.role i.number i.bytes gives may.1) may.0 may.2, refl)

-- ==== The plain reader makes exactly the geometries of blobs, and refuses at the first fault.

-- what the answer of the plain reader says
abbrev pub Outcome : Allowance → List ℕ → Answer → Type 0
Outcome limits bytes (Made g rest) = BlobInFront limits bytes g rest
Outcome limits bytes (RefusedAt offset reason) = FirstFault limits bytes offset reason
Outcome limits bytes GoesOn = ⊥

-- the geometry is complete if no item is expected
record IsFinished (st : Stack) : Type 0 where
  pub tree : Tree
  pub is : st ≡ ([], Finished tree)

finished : (e : Sums) (st : Stack) → IsProper st → role_at e st ≡ None → IsFinished st
finished e (fs, AtBody h f ids (Want zero a)) p says = absurd cc
finished e (fs, AtBody h f ids (Done v)) p says = absurd p
finished e (fs, Finished g) p says = record { tree = g; is = ap (λ l. (l, Finished g)) p }
finished e (fs, _) p says = absurd cc

-- what is known before each item
record State (limits : Allowance) (bytes : List ℕ) (before : List Item) (st : Stack) (rest : List ℕ) : Type 0 where
  pub ran : Ran limits before st
  pub split : bytes ≡ join before ++ rest
  pub are : AreBytes rest

done : (limits : Allowance) (bytes : List ℕ) (before : List Item) (st : Stack) (rest : List ℕ)
    → State limits bytes before st rest → IsFinished st → Outcome limits bytes (made st.1 rest)
done limits bytes before st rest s f =
    subst (λ (x : Stack). Outcome limits bytes (made x.1 rest)) (sym f.is) (record {
      front = join before;
      whole = s.split;
      blob = ran_blob limits before f.tree (subst (λ x. Ran limits before x) f.is s.ran);
    })

refuse : (limits : Allowance) (bytes : List ℕ) (before : List Item) (st : Stack) (rest : List ℕ)
    (r : Role) (reason : Reason) → State limits bytes before st rest
    → role_at (sums_after nothing before) st ≡ Some r → Refused limits before rest r reason
    → FirstFault limits bytes (sums_after nothing before).bytes reason
refuse limits bytes before st rest r reason s says refused =
    let n : length (join before) ≡ (sums_after nothing before).bytes = omega (arith, bytes_after before nothing) in
    subst (λ T. T) (λ t. FirstFault limits (sym s.split t) (n t) reason)
    (ran_fault limits before rest st r reason s.ran says refused)

-- the rest of a list of bytes is a list of bytes
pub bytes_left : (front more : List ℕ) → AreBytes (front ++ more) → AreBytes more
bytes_left [] more h = h
bytes_left (b ∷ front) more h = bytes_left front more h.1

next_state : (limits : Allowance) (bytes : List ℕ) (before : List Item) (st : Stack) (rest : List ℕ)
    (i : Item) (more : List ℕ) → State limits bytes before st rest
    → role_at (sums_after nothing before) st ≡ Some i.role → IsItem i → rest ≡ i.bytes ++ more
    → Allowed limits before i.role i.number → IsExact i.role
    → State limits bytes (before ++ i ∷ []) (stack_after (sums_after nothing before) i st) more
next_state limits bytes before st rest i more s says is whole allowed exact = record {
  ran = ran_item limits before st i s.ran says is allowed exact;
  split = s.split ∙ (ap (λ l. join before ++ l) whole
      ∙ (sym (append_assoc (join before) i.bytes more)
      ∙ ap (λ l. l ++ more) (sym (join-append before (i ∷ [])
      ∙ ap (λ l. join before ++ l) (append-nil i.bytes)))));
  are = bytes_left i.bytes more (subst AreBytes whole s.are);
}

-- the rest of the program after n turns
abbrev After : ℕ → Allowance → List ℕ → Type 0
After turns limits bytes = (before : List Item) (st : Stack) (rest : List ℕ)
    → State limits bytes before st rest → (rest ≡ [] → before ≢ [])
    → 8 * length rest + pending st < turns → Outcome limits bytes
    (decode_from turns limits (sums_after nothing before) st rest)

not_empty : (before : List Item) (i : Item) → before ++ i ∷ [] ≢ []
not_empty [] i = λ e. cc
not_empty (j ∷ before) i = λ e. cc

module _ (turns : ℕ) (limits : Allowance) (bytes : List ℕ) (again : After turns limits bytes)
    (before : List Item) (st : Stack) (rest : List ℕ) (s : State limits bytes before st rest)
    (some : rest ≡ [] → before ≢ []) (few : 8 * length rest + pending st < suc turns) where
  -- the program that goes on after an item of this role
  abbrev goes : Role → ℕ → List ℕ → List ℕ → Answer
  goes r n spelling more =
      let i : Item = record { role = r; number = n; bytes = spelling } in
      decode_from turns limits (added (sums_after nothing before) i)
      (stack_after (sums_after nothing before) i st) more

  took : (r : Role) (answer : Answer) → role_at (sums_after nothing before) st ≡ Some r
      → Took limits before (sums_after nothing before) (goes r) rest r answer
      → Outcome limits bytes answer
  took r answer says t =
      let i : Item = record { role = r; number = t.number; bytes = t.bytes } in
      let next = next_state limits bytes before st rest i t.more s says t.spells t.whole t.allowed t.exact in
      let lower = lowers (moved (sums_after nothing before).position r t.number) (length st.0)
      (sums_after nothing before).bytes ((sums_after nothing before).bytes + length t.bytes)
      t.number t.bytes st.0 st.1 r says t.spells in
      let long : length rest ≡ length t.bytes + length t.more = ap length t.whole ∙ length-append t.bytes t.more in
      let go_on = again (before ++ i ∷ []) (stack_after (sums_after nothing before) i st) t.more
      next (λ _. not_empty before i) (omega (arith, lower, long, few)) in
      subst (λ a. Outcome limits bytes a) (sym t.answer_is)
      (subst (λ x. Outcome limits bytes (decode_from turns limits x
      (stack_after (sums_after nothing before) i st) t.more))
      (sums_after-append before (i ∷ []) nothing) go_on)

  decided : (r : Role) (answer : Answer) → role_at (sums_after nothing before) st ≡ Some r
      → Steps limits before (sums_after nothing before) (goes r) rest r answer
      → Outcome limits bytes answer
  decided r answer says (inl t) = took r answer says t
  decided r answer says (inr t) = subst (λ a. Outcome limits bytes a) (sym t.answer_is)
      (refuse limits bytes before st rest r t.reason s says t.refused)

  one_turn : Outcome limits bytes (decode_from (suc turns) limits (sums_after nothing before) st rest)
  one_turn = go (role_at (sums_after nothing before) st) refl
    where
      go : (o : Option Role) → role_at (sums_after nothing before) st ≡ o
          → Outcome limits bytes (elim o [
            | None ↦ made st.1 rest
            | Some r ↦ after_cut (sums_after nothing before).bytes
                (λ n spelling. objection limits (sums_after nothing before) r n) (goes r)
                (cut r rest)
          ])
      go None says = done limits bytes before st rest s
          (finished (sums_after nothing before) st (proper_run before st s.ran.runs) says)
      go (Some r) says = decided r _ says (step limits before (sums_after nothing before)
          (goes r) rest r (agrees before) s.are some)

decode_says : (turns : ℕ) (limits : Allowance) (bytes : List ℕ) → After turns limits bytes
decode_says zero limits bytes before st rest s some few = absurd (omega (arith, few))
decode_says (suc turns) limits bytes before st rest s some few = one_turn turns limits bytes
    (decode_says turns limits bytes) before st rest s some few

-- the answer for a list of at least one byte
pub decoded : (limits : Allowance) (bytes : List ℕ) → IsAllowance limits → AreBytes bytes
    → bytes ≢ [] → Outcome limits bytes (decode limits bytes)
decoded limits bytes allowed are some =
    decode_says (8 * length bytes + 1) limits bytes [] started bytes
    (record { ran = ran_nothing limits allowed; split = refl; are = are })
    (λ none _. some none) (omega arith)
