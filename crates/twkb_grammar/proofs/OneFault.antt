-- Bytes have at most one first fault, which the plain reader finds if it makes no geometry.
use Rattle.std.proofs.Common.{◌≡◌, ℕ, List, [], ◌∷◌, ◌++◌, refl, sym, ap, ◌∙◌, subst, append_assoc, append-nil, Some}
use Rattle.std.proofs.Common.{None, length, inl, inr, ◌<◌, length-append, arith, ◌≤◌, ◌↔◌, Bool, true, false}
use Rattle.std.specs.Prelude.{Option, ◌≢◌, nat_lt, ◌&&◌}
use Rattle.twkb_num.specs.Varint.{IsVarint}
use Rattle.twkb_tree.specs.Tree.{Tree}
use Rattle.twkb_tree.specs.Limits.{Allowance, IsAllowance}
use Rattle.twkb_grammar.specs.Roles.{Item, join, Role, Header, Metadata, Extended, Size, Box, Count, Id, X, Y, End}
use Rattle.twkb_grammar.specs.Roles.{Spells, IsNumber}
use Rattle.twkb_grammar.specs.Items.{Items, AreExact, Blob, BlobInFront}
use Rattle.twkb_grammar.specs.Fault.{Reason, Part, Fault, Truncated, BadVarint, When, NumberFirst, Refused, IsCut}
use Rattle.twkb_grammar.specs.Fault.{IsTooLong, FirstFault, SizeMismatch, IsPart}
use Rattle.twkb_grammar.specs.Machine.{Finished, Sums, nothing, added, Stack, started, role_at, stack_after, Runs}
use Rattle.twkb_grammar.specs.Reading.{Reached, Gives, Answer, Made, RefusedAt, GoesOn, decode}
use Rattle.twkb_grammar.proofs.Parts.{blob_runs, one_item, peel, run_on, front_runs, one_blob_lem, item_some}
use Rattle.twkb_grammar.proofs.Trees.{tree_runs}
use Rattle.twkb_grammar.proofs.Running.{ran_part, part_ran, Outcome, decoded}
use Rattle.std.proofs.lemmas.Bool.{ltb-true}
use Rattle.twkb_tree.specs.declared.limits.TheConstants.{NEST_CAP, NODES_CAP, POINTS_CAP}
use Rattle.twkb_grammar.specs.Bits.{AreBytes}
use Rattle.twkb_grammar.specs.Samples.{standard, nest_eight, no_nest, two_nodes, one_point_only, no_points}
use Rattle.twkb_grammar.proofs.Stepping.{both}

-- ==== Of two lists of items that the machine runs through at the start of the same bytes, one begins with the other.

-- the items are those before, one more, and perhaps others
pub record Beyond (is before : List Item) : Type 0 where
  pub next : Item
  pub more : List Item
  pub whole : is ≡ before ++ next ∷ more

-- one list goes on beyond the other, or they are equal
pub data Compared (is js : List Item) : Type 0 where
  longer : Beyond is js → Compared is js
  shorter : Beyond js is → Compared is js
  same : is ≡ js → Compared is js

-- over the same bytes one list goes on beyond the other, or they are equal
pub two_fronts : (is js : List Item) (e : Sums) (st last other : Stack) (x y : List ℕ)
    → Runs e st is last → Runs e st js other → join is ++ x ≡ join js ++ y → Compared is js
two_fronts [] [] e st last other x y r s eq = same refl
two_fronts (i ∷ is) [] e st last other x y r s eq = longer (record { next = i; more = is; whole = refl })
two_fronts [] (j ∷ js) e st last other x y r s eq = shorter (record { next = j; more = js; whole = refl })
two_fronts (i ∷ is) (j ∷ js) e st last other x y r s eq =
    let role : i.role ≡ j.role = cc in
    let eq2 : i.bytes ++ (join is ++ x) ≡ j.bytes ++ (join js ++ y) =
    sym (append_assoc i.bytes (join is) x) ∙ (eq ∙ append_assoc j.bytes (join js) y) in
    let one = one_item i j (join is ++ x) (join js ++ y) role r.1 s.1 eq2 in
    subst (λ k. Compared (k ∷ is) (j ∷ js)) (sym one) (behind j is js (two_fronts is js (added e j)
    (stack_after e j st) last other x y (subst (λ k. Runs (added e k) (stack_after e k st) is last) one r.2) s.2
    (peel i.bytes j.bytes (join is ++ x) (join js ++ y) (ap (λ k. k.bytes) one) eq2)))
  where
    behind : (j : Item) (is js : List Item) → Compared is js → Compared (j ∷ is) (j ∷ js)
    behind j is js (longer b) = longer (record { next = b.next; more = b.more; whole = ap (λ l. j ∷ l) b.whole })
    behind j is js (shorter b) = shorter (record { next = b.next; more = b.more; whole = ap (λ l. j ∷ l) b.whole })
    behind j is js (same e) = same (ap (λ l. j ∷ l) e)

-- no items go on beyond a geometry that is complete
pub none_beyond : (is js : List Item) (g : Tree) (last : Stack)
    → Runs nothing started is ([], Finished g) → Runs nothing started js last → Beyond js is → ⊥
none_beyond is js g last r s b =
    let t = run_on is (b.next ∷ b.more) ([], Finished g) last (subst (λ l. Runs nothing started l last) b.whole s) r in
    let z : None ≡ Some b.next.role = t.0 in absurd cc

-- a prefix of exact items is exact
pub exact_front : (is js : List Item) → AreExact (is ++ js) → AreExact is
exact_front [] js h = tt
exact_front (i ∷ is) js h = (h.0, exact_front is js h.1)

-- a prefix of a part is a part
pub part_front : (limits : Allowance) (before more : List Item) → Part limits (before ++ more) → Part limits before
part_front limits before more p = record {
  tree = p.tree;
  more = more ++ p.more;
  valid = p.valid;
  items = subst (λ l. Items 0 p.tree l) (append_assoc before more p.more) p.items;
  exact = exact_front before more p.exact;
}

-- the items of a blob are a part
pub blob_part : (limits : Allowance) (bytes : List ℕ) (g : Tree) (b : Blob limits bytes g) → Part limits b.items
blob_part limits bytes g b = record {
  tree = g;
  more = [];
  valid = b.valid;
  items = subst (λ l. Items 0 g l) (sym (append-nil b.items)) b.are_items;
  exact = b.exact;
}

-- the bytes of some items, one more item and others
pub join-beyond : (before more : List Item) (i : Item)
    → join (before ++ i ∷ more) ≡ join before ++ (i.bytes ++ join more)
join-beyond [] more i = refl
join-beyond (j ∷ before) more i = ap (λ l. j.bytes ++ l) (join-beyond before more i)
    ∙ sym (append_assoc j.bytes (join before) (i.bytes ++ join more))

-- after equal bytes the rests of equal lists are equal
pub left_cancel : (a x y : List ℕ) → a ++ x ≡ a ++ y → x ≡ y
left_cancel a x y e = peel a a x y refl e

-- no part over the same bytes goes on beyond a fault
pub none_beyond_fault : (limits : Allowance) (bytes : List ℕ) (offset : ℕ) (reason : Reason)
    (f : Fault limits bytes offset reason) (is : List Item) (x : List ℕ) → Part limits is
    → join is ++ x ≡ bytes → Beyond is f.before → ⊥
none_beyond_fault limits bytes offset reason f is x part at b =
    let here : join f.before ++ ((b.next.bytes ++ join b.more) ++ x) ≡ join f.before ++ f.rest =
    sym (append_assoc (join f.before) (b.next.bytes ++ join b.more) x)
    ∙ (ap (λ l. l ++ x) (sym (join-beyond f.before b.more b.next) ∙ ap join (sym b.whole))
    ∙ (at ∙ f.split)) in
    let stands : f.rest ≡ b.next.bytes ++ (join b.more ++ x) =
    sym (left_cancel (join f.before) ((b.next.bytes ++ join b.more) ++ x) f.rest here)
    ∙ append_assoc b.next.bytes (join b.more) x in
    f.dead b.next (join b.more ++ x) stands (part_front limits (f.before ++ b.next ∷ []) b.more
    (subst (λ l. Part limits l) (b.whole ∙ sym (append_assoc f.before (b.next ∷ []) b.more)) part))

-- ==== Bytes have at most one first fault.

-- the first reason that holds is unique
when_same : {P A B : Type 0} (r s reason : Reason) → (A → B → r ≡ s) → When r P reason A → When s P reason B → r ≡ s
when_same r s reason others (inl a) (inl b) = a.1 ∙ sym b.1
when_same r s reason others (inl a) (inr b) = absurd (b.0 a.0)
when_same r s reason others (inr a) (inl b) = absurd (a.0 b.0)
when_same r s reason others (inr a) (inr b) = others a.1 b.1

number_same : {A B : Type 0} (r s : Reason) (rest : List ℕ) → (A → B → r ≡ s) → NumberFirst r rest A
    → NumberFirst s rest B → r ≡ s
number_same {A = A} {B = B} r s rest others a b =
    when_same {P = IsCut rest} {A = When r (IsTooLong rest) BadVarint A}
    {B = When s (IsTooLong rest) BadVarint B} r s Truncated
    (when_same {P = IsTooLong rest} {A = A} {B = B} r s BadVarint others) a b

neither : (r s : Reason) → ⊥ → ⊥ → r ≡ s
neither r s a b = absurd a

-- the first reason at a place is unique
pub one_reason : (limits : Allowance) (before : List Item) (rest : List ℕ) (role : Role)
    (r s : Reason) → Refused limits before rest role r → Refused limits before rest role s → r ≡ s
one_reason limits before rest Size r s a b = number_same r s rest (neither r s) a b
one_reason limits before rest Box r s a b = number_same r s rest (neither r s) a b
one_reason limits before rest Id r s a b = number_same r s rest (neither r s) a b
one_reason limits before rest (Count c) r s a b = number_same r s rest
    (when_same r s _ (when_same r s _ (when_same r s _ (neither r s)))) a b
one_reason limits before rest X r s a b = number_same r s rest (when_same r s _ (neither r s)) a b
one_reason limits before rest Y r s a b = number_same r s rest (when_same r s _ (neither r s)) a b
one_reason limits before rest (End d c) r s a b = when_same r s _ (neither r s) a b
one_reason limits before rest _ r s a b = when_same r s _ (when_same r s _ (neither r s)) a b

-- the machine runs through the items before a fault
pub fault_runs : (limits : Allowance) (bytes : List ℕ) (offset : ℕ) (reason : Reason)
    (f : Fault limits bytes offset reason) → (st : Stack) × Runs nothing started f.before st
fault_runs limits bytes offset reason f = front_runs f.before f.begins.1 f.begins.0 f.begins.2 f.begins.3

-- a fault after the same items has the same role
one_role : (limits : Allowance) (bytes : List ℕ) (o p : ℕ) (r s : Reason)
    (a : Fault limits bytes o r) (b : Fault limits bytes p s) → a.before ≡ b.before
    → a.role ≡ b.role
one_role limits bytes o p r s a b e =
    let g = a.begins.0 in
    let more = a.begins.1 in
    let i = a.next g more a.begins.2 a.begins.3 in
    let j = b.next g more a.begins.2 (subst (λ l. Items 0 g (l ++ more)) e a.begins.3) in
    let one : i.0 ≡ j.0 = let f : i.0 ∷ i.1 ≡ j.0 ∷ j.1 = sym i.2 ∙ j.2 in cc in
    sym i.3 ∙ (ap (λ (k : Item). k.role) one ∙ j.3)

-- two first faults of the same bytes are equal
pub one_first_fault : (limits : Allowance) (bytes : List ℕ) (o p : ℕ) (r s : Reason)
    → FirstFault limits bytes o r → FirstFault limits bytes p s → (o ≡ p) × (r ≡ s)
one_first_fault limits bytes o p r s a b =
    go (two_fronts a.fault.before b.fault.before nothing started
    (fault_runs limits bytes o r a.fault).0 (fault_runs limits bytes p s b.fault).0 a.fault.rest
    b.fault.rest
    (fault_runs limits bytes o r a.fault).1 (fault_runs limits bytes p s b.fault).1 (sym a.fault.split ∙ b.fault.split))
  where
    go : Compared a.fault.before b.fault.before → (o ≡ p) × (r ≡ s)
    go (longer n) = absurd (none_beyond_fault limits bytes p s b.fault a.fault.before a.fault.rest
        a.alive (sym a.fault.split) n)
    go (shorter n) = absurd (none_beyond_fault limits bytes o r a.fault b.fault.before b.fault.rest
        b.alive (sym b.fault.split) n)
    go (same e) =
        let role = one_role limits bytes o p r s a.fault b.fault e in
        let rest : a.fault.rest ≡ b.fault.rest = left_cancel (join b.fault.before) a.fault.rest
        b.fault.rest (ap (λ l. join l ++ a.fault.rest) (sym e)
        ∙ (sym a.fault.split ∙ b.fault.split)) in
        let z = subst (λ T. T) (λ t. Refused limits (e t) (rest t) (role t) r) a.fault.refused in (
          a.fault.place ∙ (ap (λ l. length (join l)) e ∙ sym b.fault.place),
          one_reason limits b.fault.before b.fault.rest b.fault.role r s z b.fault.refused,
        )

-- bytes that begin with a blob have no fault
pub no_fault : (limits : Allowance) (bytes rest : List ℕ) (g : Tree) (offset : ℕ) (reason : Reason)
    → BlobInFront limits bytes g rest → Fault limits bytes offset reason → ⊥
no_fault limits bytes rest g offset reason b f = go
    (two_fronts b.blob.items f.before nothing started ([], Finished g) st.0 rest f.rest whole st.1
    (at ∙ f.split))
  where
    whole : Runs nothing started b.blob.items ([], Finished g)
    whole = blob_runs limits b.front g b.blob

    st : (st : Stack) × Runs nothing started f.before st
    st = fault_runs limits bytes offset reason f

    at : join b.blob.items ++ rest ≡ bytes
    at = ap (λ l. l ++ rest) b.blob.spelled ∙ sym b.whole

    go : Compared b.blob.items f.before → ⊥
    go (longer n) = none_beyond_fault limits bytes offset reason f b.blob.items rest
        (blob_part limits b.front g b.blob) at n
    go (shorter n) = none_beyond b.blob.items f.before g st.0 whole st.1 n
    go (same e) =
        let next = f.next g [] b.blob.valid.tree (subst (λ l. Items 0 g l)
        (e ∙ sym (append-nil f.before)) b.blob.are_items) in
        let z : [] ≡ next.0 ∷ next.1 = next.2 in absurd cc

-- ==== A size is found to be wrong only at an end, so none is if no end comes next.

-- the role is not that of a geometry's end
abbrev pub NoEnd : Role → Type 0
NoEnd role = (declared : Option ℕ) (came : ℕ) → role ≡ End declared came → ⊥

-- a wrong size is not the first reason if the reason tested is another and the others exclude it
not_this : {P Others : Type 0} (reason : Reason) → (SizeMismatch ≡ reason → ⊥) → (Others → ⊥)
    → When SizeMismatch P reason Others → ⊥
not_this reason other none (inl a) = other a.1
not_this reason other none (inr b) = none b.1

no_number : {Others : Type 0} (rest : List ℕ) → (Others → ⊥) → NumberFirst SizeMismatch rest Others → ⊥
no_number {Others = Others} rest none h = not_this {P = IsCut rest}
    {Others = When SizeMismatch (IsTooLong rest) _ Others} _ (λ e. cc)
    (not_this {P = IsTooLong rest} {Others = Others} _ (λ e. cc) none) h

never : ⊥ → ⊥
never x = x

-- a size is found to be wrong only at an end
size_at_end : (limits : Allowance) (before : List Item) (rest : List ℕ) (role : Role) → NoEnd role
    → Refused limits before rest role SizeMismatch → ⊥
size_at_end limits before rest Size n h = no_number rest never h
size_at_end limits before rest Box n h = no_number rest never h
size_at_end limits before rest Id n h = no_number rest never h
size_at_end limits before rest (Count c) n h = no_number rest
    (not_this _ (λ e. cc) (not_this _ (λ e. cc) (not_this _ (λ e. cc) never))) h
size_at_end limits before rest X n h = no_number rest (not_this _ (λ e. cc) never) h
size_at_end limits before rest Y n h = no_number rest (not_this _ (λ e. cc) never) h
size_at_end limits before rest (End d c) n h = n d c refl
size_at_end limits before rest _ n h = not_this _ (λ e. cc) (not_this _ (λ e. cc) never) h

-- if no end comes next, no size is found to be wrong after the bytes, whatever follows
pub no_size_wrong : (limits : Allowance) (bytes more : List ℕ) (e : Sums) (st : Stack)
    → Reached limits bytes e st → ((role : Role) → role_at e st ≡ Some role → NoEnd role)
    → FirstFault limits (bytes ++ more) (length bytes) SizeMismatch → ⊥
no_size_wrong limits bytes more e st r no_end f = go
    (two_fronts r.items f.fault.before nothing started st behind.0 more f.fault.rest r.ran.runs
    behind.1 (at ∙ f.fault.split))
  where
    behind : (last : Stack) × Runs nothing started f.fault.before last
    behind = fault_runs limits (bytes ++ more) (length bytes) SizeMismatch f.fault

    at : join r.items ++ more ≡ bytes ++ more
    at = ap (λ l. l ++ more) r.spelled

    -- the next of the items that go on is not an end
    next_open : (i : Item) (is : List Item) (last : Stack)
        → Runs nothing started (r.items ++ i ∷ is) last → NoEnd i.role
        × Spells i.role i.number i.bytes
    next_open i is last run =
        let t = run_on r.items (i ∷ is) st last run r.ran.runs in
        (no_end i.role (ap (λ s. role_at s st) (sym r.sums) ∙ t.0), t.1)

    go : Compared r.items f.fault.before → ⊥
    go (longer n) = none_beyond_fault limits (bytes ++ more) (length bytes) SizeMismatch f.fault
        r.items more (ran_part limits r.items st r.ran) at n
    go (shorter n) =
        let (apart, spells) = next_open n.next n.more behind.0
        (subst (λ l. Runs nothing started l behind.0) n.whole behind.1) in
        let whole : length (join f.fault.before) ≡ length
        (join r.items ++ (n.next.bytes ++ join n.more)) = ap (λ l. length (join l)) n.whole
        ∙ ap length (join-beyond r.items n.more n.next) in
        let place = f.fault.place in
        let size : length (join r.items) ≡ length bytes = ap length r.spelled in
        let some = item_some n.next.role n.next.number n.next.bytes apart spells in
        absurd (omega (
          arith,
          place,
          size,
          whole,
          some,
          length-append (join r.items)
              (n.next.bytes ++ join n.more),
          length-append n.next.bytes (join n.more),
        ))
    go (same eq) =
        let g = f.fault.begins.0 in
        let next = f.fault.next g f.fault.begins.1 f.fault.begins.2 f.fault.begins.3 in
        let items : Items 0 g (r.items ++ next.0 ∷ next.1) =
        subst (λ l. Items 0 g (l ++ next.0 ∷ next.1)) (sym eq)
        (subst (λ l. Items 0 g (f.fault.before ++ l)) next.2 f.fault.begins.3) in
        let (apart, spells) = next_open next.0 next.1 _
        (tree_runs g [] nothing (r.items ++ next.0 ∷ next.1) f.fault.begins.2 items) in
        size_at_end limits f.fault.before f.fault.rest f.fault.role (subst NoEnd next.3 apart) f.fault.refused

-- ==== Bytes of parts, and the faults after them.

-- the items that a reader has read are a part
pub reached_part : (limits : Allowance) (bytes : List ℕ) (e : Sums) (st : Stack)
    → Reached limits bytes e st → IsPart limits bytes
reached_part limits bytes e st r = record {
  items = r.items;
  part = ran_part limits r.items st r.ran;
  spelled = r.spelled;
}

-- the items of a blob are a part
pub blob_is_part : (limits : Allowance) (bytes : List ℕ) (g : Tree) → Blob limits bytes g → IsPart limits bytes
blob_is_part limits bytes g b = record { items = b.items; part = blob_part limits bytes g b; spelled = b.spelled }

-- a fault is at the end of a part or after it
pub fault_behind : (limits : Allowance) (bytes more : List ℕ) (offset : ℕ) (reason : Reason)
    → IsPart limits bytes → Fault limits (bytes ++ more) offset reason → length bytes ≤ offset
fault_behind limits bytes more offset reason p f =
    let ran = part_ran limits p.items p.part in
    let st = fault_runs limits (bytes ++ more) offset reason f in
    go (two_fronts p.items f.before nothing started ran.0 st.0 more f.rest ran.1.runs st.1 (at ∙ f.split))
  where
    at : join p.items ++ more ≡ bytes ++ more
    at = ap (λ l. l ++ more) p.spelled

    size : length (join p.items) ≡ length bytes
    size = ap length p.spelled

    go : Compared p.items f.before → length bytes ≤ offset
    go (longer n) = absurd (none_beyond_fault limits (bytes ++ more) offset reason f p.items more p.part at n)
    go (shorter n) =
        let whole : length (join f.before) ≡ length (join p.items ++ (n.next.bytes ++ join n.more))
        = ap (λ l. length (join l)) n.whole ∙ ap length (join-beyond p.items n.more n.next) in
        let place = f.place in
        let sum = length-append (join p.items) (n.next.bytes ++ join n.more) in
        omega (arith, place, size, whole, sum)
    go (same e) =
        let whole : length (join p.items) ≡ length (join f.before) = ap (λ l. length (join l)) e in
        let place = f.place in
        omega (arith, place, size, whole)

-- ==== The bytes of items, by their roles.

-- the item with this role is a single byte
abbrev pub IsByteRole : Role → Type 0
IsByteRole Header = Rattle.std.specs.Prelude.⊤
IsByteRole (Metadata kind) = Rattle.std.specs.Prelude.⊤
IsByteRole Extended = Rattle.std.specs.Prelude.⊤
IsByteRole _ = ⊥

pub byte_gives : (r : Role) (n : ℕ) → IsByteRole r → n < 256 → Gives r n (n ∷ [])
byte_gives Header n is low = (low, refl)
byte_gives (Metadata kind) n is low = (low, refl)
byte_gives Extended n is low = (low, refl)
byte_gives _ n is low = absurd is

pub number_gives : (r : Role) (n : ℕ) (bytes : List ℕ) → IsNumber r → IsVarint bytes n → Gives r n bytes
number_gives Header n bytes is v = absurd is
number_gives (Metadata kind) n bytes is v = absurd is
number_gives Extended n bytes is v = absurd is
number_gives (End d c) n bytes is v = absurd is
number_gives _ n bytes is v = v

pub byte_no_end : (r : Role) → IsByteRole r → NoEnd r
byte_no_end Header is = λ d c e. cc
byte_no_end (Metadata kind) is = λ d c e. cc
byte_no_end Extended is = λ d c e. cc
byte_no_end _ is = absurd is

pub number_no_end : (r : Role) → IsNumber r → NoEnd r
number_no_end (End k m) is = absurd is
number_no_end _ is = λ d c e. cc

-- ==== The plain reader makes the geometry whose blob is at the start of the bytes, or refuses the first fault.

same_front : (limits : Allowance) (bytes rest other : List ℕ) (g h : Tree)
    → BlobInFront limits bytes g rest → BlobInFront limits bytes h other
    → Made h other ≡ Made g rest
same_front limits bytes rest other g h a b =
    let one = one_blob_lem limits a.front b.front rest other g h a.blob b.blob (sym a.whole ∙ b.whole) in
    let tail : rest ≡ other = peel a.front b.front rest other one.1 (sym a.whole ∙ b.whole) in
    let tree : g ≡ h = one.0 in cc

pub made_exactly : (limits : Allowance) (bytes rest : List ℕ) (g : Tree) → IsAllowance limits
    → AreBytes bytes → bytes ≢ [] → decode limits bytes ≡ Made g rest
    ↔ BlobInFront limits bytes g rest
made_exactly limits bytes rest g allowed are some = (
  (λ (e : decode limits bytes ≡ Made g rest). subst (λ a. Outcome limits bytes a) e
      (decoded limits bytes allowed are some)),
  (λ (b : BlobInFront limits bytes g rest). answered (decode limits bytes) (decoded limits bytes allowed are some) b),
)
  where
    answered : (a : Answer) → Outcome limits bytes a → BlobInFront limits bytes g rest → a ≡ Made g rest
    answered (Made h other) o b = same_front limits bytes rest other g h b o
    answered (RefusedAt offset reason) o b = absurd (no_fault limits bytes rest g offset reason b o.fault)
    answered GoesOn o b = absurd o

-- the plain reader refuses exactly the first fault
pub refused_exactly : (limits : Allowance) (bytes : List ℕ) (offset : ℕ) (reason : Reason)
    → IsAllowance limits → AreBytes bytes → bytes ≢ []
    → decode limits bytes ≡ RefusedAt offset reason ↔ FirstFault limits bytes offset reason
refused_exactly limits bytes offset reason allowed are some = (
  (λ (e : decode limits bytes ≡ RefusedAt offset reason). subst (λ a. Outcome limits bytes a) e
      (decoded limits bytes allowed are some)),
  (λ (f : FirstFault limits bytes offset reason). answered (decode limits bytes)
      (decoded limits bytes allowed are some) f),
)
  where
    answered : (a : Answer) → Outcome limits bytes a → FirstFault limits bytes offset reason
        → a ≡ RefusedAt offset reason
    answered (Made g rest) o f = absurd (no_fault limits bytes rest g offset reason o f.fault)
    answered (RefusedAt p s) o f = let one = one_first_fault limits bytes p offset s reason o f in
        let place : p ≡ offset = one.0 in let why : s ≡ reason = one.1 in cc
    answered GoesOn o f = absurd o

-- the plain reader always answers
pub answered : (limits : Allowance) (bytes : List ℕ) → IsAllowance limits → AreBytes bytes
    → bytes ≢ [] → decode limits bytes ≢ GoesOn
answered limits bytes allowed are some = λ e. subst (λ a. Outcome limits bytes a) e
    (decoded limits bytes allowed are some)

-- ==== Blobs and first faults by computation: the plain reader computes, and its law states what its answer means.

allowed : {l : Allowance} → l.nest ≤ NEST_CAP → 0 < l.nodes → l.nodes ≤ NODES_CAP → l.points ≤ POINTS_CAP
    → IsAllowance l
allowed nest one nodes points = record { nest_cap = nest; one_node = one; nodes_cap = nodes; points_cap = points }

pub standard_allowed : IsAllowance standard
standard_allowed = allowed {l = standard} (omega arith) (omega arith) (omega arith) (omega arith)

pub nest_eight_allowed : IsAllowance nest_eight
nest_eight_allowed = allowed {l = nest_eight} (omega arith) (omega arith) (omega arith) (omega arith)

pub no_nest_allowed : IsAllowance no_nest
no_nest_allowed = allowed {l = no_nest} (omega arith) (omega arith) (omega arith) (omega arith)

pub two_nodes_allowed : IsAllowance two_nodes
two_nodes_allowed = allowed {l = two_nodes} (omega arith) (omega arith) (omega arith) (omega arith)

pub one_point_only_allowed : IsAllowance one_point_only
one_point_only_allowed = allowed {l = one_point_only} (omega arith) (omega arith) (omega arith) (omega arith)

pub no_points_allowed : IsAllowance no_points
no_points_allowed = allowed {l = no_points} (omega arith) (omega arith) (omega arith) (omega arith)

-- each number is below 256
abbrev small : List ℕ → Bool
small [] = true
small (b ∷ bytes) = nat_lt b 256 && small bytes

-- there is at least one byte
abbrev pub some_bytes : List ℕ → Bool
some_bytes [] = false
some_bytes (b ∷ bytes) = small (b ∷ bytes)

are_bytes : (bytes : List ℕ) → small bytes ≡ true → AreBytes bytes
are_bytes [] e = tt
are_bytes (b ∷ bytes) e = let h = both (nat_lt b 256) (small bytes) e in (ltb-true b 256 h.0, are_bytes bytes h.1)

some_are : (bytes : List ℕ) → some_bytes bytes ≡ true → AreBytes bytes × (bytes ≢ [])
some_are [] e = absurd cc
some_are (b ∷ bytes) e = (are_bytes (b ∷ bytes) e, (λ z. cc))

-- bytes from which the plain reader makes a geometry are a blob of it
pub blob_by : (limits : Allowance) (bytes : List ℕ) (g : Tree) → IsAllowance limits
    → some_bytes bytes ≡ true → decode limits bytes ≡ Made g [] → Blob limits bytes g
blob_by limits bytes g allowed are e =
    let h = some_are bytes are in
    let b : BlobInFront limits bytes g [] = (made_exactly limits bytes [] g allowed h.0 h.1).0 e in
    subst (λ l. Blob limits l g) (sym (append-nil b.front) ∙ sym b.whole) b.blob

-- the refusal of the plain reader is the first fault
pub fault_by : (limits : Allowance) (bytes : List ℕ) (offset : ℕ) (reason : Reason)
    → IsAllowance limits → some_bytes bytes ≡ true → decode limits bytes ≡ RefusedAt offset reason
    → FirstFault limits bytes offset reason
fault_by limits bytes offset reason allowed are e = let h = some_are bytes are in
    (refused_exactly limits bytes offset reason allowed h.0 h.1).0 e
