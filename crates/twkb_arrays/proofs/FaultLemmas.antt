-- A fault stays when bytes are added, unless it is that the bytes end; and streams at the start of the same bytes.
use Rattle.std.proofs.Common.{◌≡◌, ◌∙◌, ◌⊎◌, inl, inr, ◌<◌, ◌+◌, ℕ, List, [], ◌∷◌, ◌++◌, length}
use Rattle.std.proofs.Common.{refl, sym, ap, subst, arith, length-append, append_assoc, Some}
use Rattle.std.specs.Prelude.{◌+ℤ◌}
use Rattle.twkb_num.specs.Spelling.{unzigzag_of}
use Rattle.twkb_num.specs.Varint.{HasMarks}
use Rattle.twkb_points.specs.Point.{IsCoordinate}
use Rattle.twkb_tree.specs.Tree.{Tree}
use Rattle.twkb_tree.specs.Limits.{Allowance}
use Rattle.twkb_grammar.specs.Roles.{Role, Counted, Header, Metadata, Extended, Size, Box, Count, Id, X, Y, End, Item}
use Rattle.twkb_grammar.specs.Roles.{join}
use Rattle.twkb_grammar.specs.Items.{Stream}
use Rattle.twkb_grammar.specs.Fault.{Reason, Truncated, ExtraDimensions, BadVarint, TooDeep, TooManyNodes}
use Rattle.twkb_grammar.specs.Fault.{TooManyPoints, CoordinateRange, FirstNumber, GoOn, IsCut, IsTooLong}
use Rattle.twkb_grammar.specs.Fault.{When, NumberFirst, ByteRefused, HeaderRefused, CountRefused, Refused, IsDeep}
use Rattle.twkb_grammar.specs.Fault.{announced_nodes, announced_points, nodes_of, points_of, position, FirstFault}
use Rattle.twkb_grammar.specs.Fault.{StreamFault}
use Rattle.twkb_grammar.specs.Machine.{Finished, Stack, Runs, nothing, role_at, sums_after}
use Rattle.twkb_grammar.proofs.OneFault.{fault_runs, no_fault}
use Rattle.twkb_grammar.proofs.Parts.{one_blob_lem, peel, run_on}
use Rattle.twkb_grammar.proofs.Refusing.{refusal_is_first}
use Rattle.twkb_grammar.proofs.Trees.{tree_runs}

-- ==== Bytes that go on.

-- bytes that all say that more follow begin with such bytes
go_on_front : (a b : List ℕ) → GoOn (a ++ b) → GoOn a
go_on_front [] b g = tt
go_on_front (x ∷ a) b g = (g.0, go_on_front a b g.1)

-- bytes that go on inside a varint were inside it before
cut_front : (rest more : List ℕ) → IsCut (rest ++ more) → IsCut rest
cut_front rest more c =
    let few = c.0 in
    (omega (arith, few, length-append rest more), go_on_front rest more c.1)

-- a list that is cut before an element ends before it or goes on after it
abbrev AreCut : List ℕ → ℕ → List ℕ → Type 0
AreCut a t rest = ((ys : List ℕ) × (rest ≡ a ++ t ∷ ys)) ⊎ ((zs : List ℕ) × (a ≡ rest ++ zs))

cut_more : (b r t : ℕ) (a rest : List ℕ) → b ≡ r → AreCut a t rest → AreCut (b ∷ a) t (r ∷ rest)
cut_more b r t a rest same (inl h) = inl (h.0, λ i. sym same i ∷ h.1 i)
cut_more b r t a rest same (inr h) = inr (h.0, λ i. same i ∷ h.1 i)

cut_at : (a : List ℕ) (t : ℕ) (x rest more : List ℕ) → a ++ t ∷ x ≡ rest ++ more → AreCut a t rest
cut_at [] t x [] more e = inr ([], refl)
cut_at [] t x (r ∷ rest) more e = let same : t ≡ r = cc in inl (rest, λ i. sym same i ∷ rest)
cut_at (b ∷ a) t x [] more e = inr (b ∷ a, refl)
cut_at (b ∷ a) t x (r ∷ rest) more e =
    let same : b ≡ r = cc in
    let next : a ++ t ∷ x ≡ rest ++ more = cc in cut_more b r t a rest same (cut_at a t x rest more next)

-- a varint that is too long stays so
long_more : (rest more : List ℕ) → IsTooLong rest → IsTooLong (rest ++ more)
long_more rest more t = record {
  nine = t.nine;
  tenth = t.tenth;
  more = t.more ++ more;
  whole = ap (λ (l : List ℕ). l ++ more) t.whole ∙ append_assoc t.nine (t.tenth ∷ t.more) more;
  length = t.length;
  go_on = t.go_on;
  above = t.above;
}

-- and was so before, if the bytes did not end inside it
long_back : (rest more : List ℕ) → (IsCut rest → ⊥) → IsTooLong (rest ++ more) → IsTooLong rest
long_back rest more uncut t = go (cut_at t.nine t.tenth t.more rest more (sym t.whole))
  where
    go : AreCut t.nine t.tenth rest → IsTooLong rest
    go (inl h) = record {
      nine = t.nine;
      tenth = t.tenth;
      more = h.0;
      whole = h.1;
      length = t.length;
      go_on = t.go_on;
      above = t.above;
    }
    go (inr h) =
        let few : length rest < 10 =
        omega (arith, t.length, ap (λ (l : List ℕ). length l) h.1, length-append rest h.0) in
        absurd (uncut (few, go_on_front rest h.0 (subst (λ (l : List ℕ). GoOn l) h.1 t.go_on)))

-- ---- a number at the start

-- bytes have a whole list at their start, or are a proper prefix of it
abbrev HaveOrCut : List ℕ → List ℕ → Type 0
HaveOrCut bytes rest = ((ys : List ℕ) × (rest ≡ bytes ++ ys))
    ⊎ ((z : ℕ) × (zs : List ℕ) × (bytes ≡ rest ++ z ∷ zs))

have_more : (b r : ℕ) (bytes rest : List ℕ) → b ≡ r → HaveOrCut bytes rest → HaveOrCut (b ∷ bytes) (r ∷ rest)
have_more b r bytes rest same (inl h) = inl (h.0, λ i. sym same i ∷ h.1 i)
have_more b r bytes rest same (inr h) = inr (h.0, h.1, λ i. same i ∷ h.2 i)

have_or_cut : (bytes x rest more : List ℕ) → bytes ++ x ≡ rest ++ more → HaveOrCut bytes rest
have_or_cut [] x rest more e = inl (rest, refl)
have_or_cut (b ∷ bytes) x [] more e = inr (b, bytes, refl)
have_or_cut (b ∷ bytes) x (r ∷ rest) more e =
    let same : b ≡ r = cc in
    let next : bytes ++ x ≡ rest ++ more = cc in have_more b r bytes rest same (have_or_cut bytes x rest more next)

-- the bytes of a varint but the last say that more follow
marks_front : (rest : List ℕ) (z : ℕ) (zs : List ℕ) → HasMarks (rest ++ z ∷ zs) → GoOn rest
marks_front [] z zs m = tt
marks_front (r ∷ []) z zs m = (m.0, tt)
marks_front (r ∷ s ∷ rest) z zs m = (m.0, marks_front (s ∷ rest) z zs m.2)

-- a number at the start stays
number_more : (P : ℕ → Type 0) (rest more : List ℕ) → FirstNumber P rest → FirstNumber P (rest ++ more)
number_more P rest more f = record {
  number = f.number;
  bytes = f.bytes;
  more = f.more ++ more;
  whole = ap (λ (l : List ℕ). l ++ more) f.whole ∙ append_assoc f.bytes f.more more;
  spelled = f.spelled;
  holds = f.holds;
}

-- and was there before, if the bytes did not end inside it
number_back : (P : ℕ → Type 0) (rest more : List ℕ) → (IsCut rest → ⊥) → FirstNumber P (rest ++ more)
    → FirstNumber P rest
number_back P rest more uncut f = go (have_or_cut f.bytes f.more rest more (sym f.whole))
  where
    go : HaveOrCut f.bytes rest → FirstNumber P rest
    go (inl h) = record {
      number = f.number;
      bytes = f.bytes;
      more = h.0;
      whole = h.1;
      spelled = f.spelled;
      holds = f.holds;
    }
    go (inr h) =
        let ten = f.spelled.within in
        let few : length rest < 10 =
        omega (arith, ten, ap (λ (l : List ℕ). length l) h.2, length-append rest (h.0 ∷ h.1)) in
        absurd (uncut (
          few,
          marks_front rest h.0 h.1 (subst (λ (l : List ℕ). HasMarks l) h.2 f.spelled.marked),
        ))

-- ==== A reason that holds, other than that the bytes end, holds when they go on.

when_kept : {P Q A B : Type 0} (r reason : Reason) → (P → Q) → (Q → P) → (A → B) → When r P reason A
    → When r Q reason B
when_kept r reason to back others (inl a) = inl (to a.0, a.1)
when_kept r reason to back others (inr b) = inr ((λ q. b.0 (back q)), others b.1)

same : {A : Type 0} → A → A
same x = x

-- a reason that is tested of a number at the start
of_number : {A B : Type 0} (r reason : Reason) (P : ℕ → Type 0) (rest more : List ℕ) → (IsCut rest → ⊥) → (A → B)
    → When r (FirstNumber P rest) reason A → When r (FirstNumber P (rest ++ more)) reason B
of_number {A = A} {B = B} r reason P rest more uncut others =
    when_kept {P = FirstNumber P rest} {Q = FirstNumber P (rest ++ more)} {A = A} {B = B} r reason
    (number_more P rest more) (number_back P rest more uncut) others

-- the reasons of any number
of_any : {A B : Type 0} (r : Reason) (rest more : List ℕ) → (r ≡ Truncated → ⊥) → ((IsCut rest → ⊥) → A → B)
    → NumberFirst r rest A → NumberFirst r (rest ++ more) B
of_any r rest more other others (inl a) = absurd (other a.1)
of_any {A = A} {B = B} r rest more other others (inr b) = inr (
  (λ c. b.0 (cut_front rest more c)),
  when_kept {P = IsTooLong rest} {Q = IsTooLong (rest ++ more)} {A = A} {B = B} r BadVarint
      (long_more rest more) (long_back rest more b.0) (others b.0) b.1,
)

-- the reasons of a byte
of_byte : (r reason : Reason) (P : ℕ → Type 0) (rest more : List ℕ) → (r ≡ Truncated → ⊥)
    → ByteRefused r rest P reason → ByteRefused r (rest ++ more) P reason
of_byte r reason P rest more other (inl a) = absurd (other a.1)
of_byte r reason P [] more other (inr b) = absurd (b.0 refl)
of_byte r reason P (x ∷ rest) more other (inr b) = inr ((λ e. let z : x ∷ (rest ++ more) ≡ [] = e in cc), b.1)

-- the reasons of a type byte
of_header : (before : List Item) (rest more : List ℕ) (r : Reason) → (r ≡ Truncated → ⊥)
    → HeaderRefused before rest r → HeaderRefused before (rest ++ more) r
of_header before rest more r other (inl a) = absurd (other a.1)
of_header before [] more r other (inr (b, inl k)) = absurd k.0
of_header before [] more r other (inr (b, inr k)) = absurd k.1
of_header before (x ∷ rest) more r other (inr b) =
    inr ((λ k. let z : x ∷ (rest ++ more) ≡ [] = k.1 in cc), b.1)

-- the reasons of a count
of_count : (limits : Allowance) (before : List Item) (rest more : List ℕ) (c : Counted) (r : Reason)
    → (r ≡ Truncated → ⊥) → CountRefused limits before rest c r → CountRefused limits before (rest ++ more) c r
of_count limits before rest more c r other h = of_any r rest more other (λ uncut.
    of_number r TooDeep (λ n. IsDeep c limits.nest × (0 < n)) rest more uncut
    (of_number r TooManyNodes (λ n. limits.nodes < announced_nodes before + nodes_of c n) rest more uncut
    (of_number r TooManyPoints (λ n. limits.points < announced_points before + points_of c n) rest more uncut
    same))) h

kept : (limits : Allowance) (before : List Item) (rest more : List ℕ) (role : Role) (r : Reason)
    → (r ≡ Truncated → ⊥) → Refused limits before rest role r → Refused limits before (rest ++ more) role r
kept limits before rest more Header r other h = of_header before rest more r other h
kept limits before rest more (Metadata kind) r other h = of_byte r TooManyPoints _ rest more other h
kept limits before rest more Extended r other h = of_byte r ExtraDimensions _ rest more other h
kept limits before rest more Size r other h = of_any r rest more other (λ uncut. same) h
kept limits before rest more Box r other h = of_any r rest more other (λ uncut. same) h
kept limits before rest more Id r other h = of_any r rest more other (λ uncut. same) h
kept limits before rest more (Count c) r other h = of_count limits before rest more c r other h
kept limits before rest more X r other h = of_any r rest more other (λ uncut. of_number r CoordinateRange
    (λ n. IsCoordinate ((position before).x +ℤ unzigzag_of n) → ⊥) rest more uncut same) h
kept limits before rest more Y r other h = of_any r rest more other (λ uncut. of_number r CoordinateRange
    (λ n. IsCoordinate ((position before).y +ℤ unzigzag_of n) → ⊥) rest more uncut same) h
kept limits before rest more (End declared came) r other h = h

-- ==== A first fault that is not the end of the bytes stays when bytes are added.

-- the machine has the role of a fault after the items before it
role_there : (before more : List Item) (st : Stack) (g : Tree) (i : Item) (after : List Item) (role : Role)
    → Runs (sums_after nothing before) st more ([], Finished g) → more ≡ i ∷ after → i.role ≡ role
    → role_at (sums_after nothing before) st ≡ Some role
role_there before more st g i after role runs next is =
    (subst (λ (l : List Item). Runs (sums_after nothing before) st l ([], Finished g)) next runs).0
    ∙ ap (λ (r : Role). Some r) is

pub first_kept : (limits : Allowance) (bytes more : List ℕ) (offset : ℕ) (reason : Reason)
    → (reason ≡ Truncated → ⊥) → FirstFault limits bytes offset reason
    → FirstFault limits (bytes ++ more) offset reason
first_kept limits bytes more offset reason other f =
    let x = f.fault in
    let run = fault_runs limits bytes offset reason x in
    let g = x.begins.0 in
    let next = x.next g x.begins.1 x.begins.2 x.begins.3 in
    let says = role_there x.before x.begins.1 run.0 g next.0 next.1 x.role
    (run_on x.before x.begins.1 run.0 ([], Finished g)
    (tree_runs g [] nothing (x.before ++ x.begins.1) x.begins.2 x.begins.3) run.1) next.2 next.3 in
    let whole : join x.before ++ (x.rest ++ more) ≡ bytes ++ more =
    sym (append_assoc (join x.before) x.rest more) ∙ ap (λ (l : List ℕ). l ++ more) (sym x.split) in
    subst (λ (l : List ℕ). FirstFault limits l offset reason) whole
    (subst (λ (n : ℕ). FirstFault limits (join x.before ++ (x.rest ++ more)) n reason) (sym x.place)
    (refusal_is_first limits x.before (x.rest ++ more) run.0 x.role reason run.1 says
    (kept limits x.before x.rest more x.role reason other x.refused) f.alive))

pub fault_kept : (limits : Allowance) (bytes more : List ℕ) (gs : List Tree) (offset : ℕ) (reason : Reason)
    → (reason ≡ Truncated → ⊥) → StreamFault limits bytes gs offset reason
    → StreamFault limits (bytes ++ more) gs offset reason
fault_kept limits bytes more gs offset reason other f = record {
  front = f.front;
  rest = f.rest ++ more;
  within = f.within;
  whole = ap (λ (l : List ℕ). l ++ more) f.whole ∙ append_assoc f.front f.rest more;
  blobs = f.blobs;
  first = first_kept limits f.rest more f.within reason other f.first;
  place = f.place;
}

-- ==== Streams at the start of the same bytes.

-- one stream goes on after the other
pub record GoesOn (l : Allowance) (a : List ℕ) (gs : List Tree) (b : List ℕ) (hs : List Tree) : Type 0 where
  pub others : List Tree
  pub bytes : List ℕ
  pub geometries_are : hs ≡ gs ++ others
  pub bytes_are : b ≡ a ++ bytes
  pub blobs : Stream l bytes others

-- one of them goes on after the other
abbrev pub AreNested : Allowance → List ℕ → List Tree → List ℕ → List Tree → Type 0
AreNested l a gs b hs = GoesOn l a gs b hs ⊎ GoesOn l b hs a gs

further : (l : Allowance) (x y a b : List ℕ) (g h : Tree) (gs hs : List Tree) → g ≡ h → x ≡ y
    → GoesOn l a gs b hs → GoesOn l (x ++ a) (g ∷ gs) (y ++ b) (h ∷ hs)
further l x y a b g h gs hs one bytes n = record {
  others = n.others;
  bytes = n.bytes;
  geometries_are = λ i. sym one i ∷ n.geometries_are i;
  bytes_are = (λ i. sym bytes i ++ n.bytes_are i) ∙ sym (append_assoc x a n.bytes);
  blobs = n.blobs;
}

step : (l : Allowance) (a b x y u v : List ℕ) (g h : Tree) (gs hs : List Tree) → g ≡ h → x ≡ y
    → a ≡ x ++ u → b ≡ y ++ v → AreNested l u gs v hs → AreNested l a (g ∷ gs) b (h ∷ hs)
step l a b x y u v g h gs hs one bytes first second (inl n) = inl (subst (λ T. T)
    (λ i. GoesOn l (sym first i) (g ∷ gs) (sym second i) (h ∷ hs)) (further l x y u v g h gs hs one bytes n))
step l a b x y u v g h gs hs one bytes first second (inr n) = inr (subst (λ T. T)
    (λ i. GoesOn l (sym second i) (h ∷ hs) (sym first i) (g ∷ gs))
    (further l y x v u h g hs gs (sym one) (sym bytes) n))

pub nested : (l : Allowance) (a b x y : List ℕ) (gs hs : List Tree) → Stream l a gs → Stream l b hs
    → a ++ x ≡ b ++ y → AreNested l a gs b hs
nested l a b x y [] hs s t e = inl (record {
  others = hs;
  bytes = b;
  geometries_are = refl;
  bytes_are = ap (λ (k : List ℕ). k ++ b) (sym s);
  blobs = t;
})
nested l a b x y (g ∷ gs) [] s t e = inr (record {
  others = g ∷ gs;
  bytes = a;
  geometries_are = refl;
  bytes_are = ap (λ (k : List ℕ). k ++ a) (sym t);
  blobs = s;
})
nested l a b x y (g ∷ gs) (h ∷ hs) s t e =
    let whole : s.0 ++ (s.1 ++ x) ≡ t.0 ++ (t.1 ++ y) = sym (append_assoc s.0 s.1 x)
    ∙ (ap (λ (k : List ℕ). k ++ x) (sym s.2) ∙ (e ∙ (ap (λ (k : List ℕ). k ++ y) t.2
    ∙ append_assoc t.0 t.1 y))) in
    let one = one_blob_lem l s.0 t.0 (s.1 ++ x) (t.1 ++ y) g h s.3 t.3 whole in
    let tail = peel s.0 t.0 (s.1 ++ x) (t.1 ++ y) one.1 whole in
    step l a b s.0 t.0 s.1 t.1 g h gs hs one.0 one.1 s.2 t.2 (nested l s.1 t.1 x y gs hs s.4 t.4 tail)

-- no blob is at the start of bytes with a fault
pub none_there : (l : Allowance) (bytes a x : List ℕ) (gs : List Tree) (offset : ℕ) (reason : Reason)
    → FirstFault l bytes offset reason → Stream l a gs → a ++ x ≡ bytes → gs ≡ []
none_there l bytes a x [] offset reason f s e = refl
none_there l bytes a x (g ∷ gs) offset reason f s e = absurd (no_fault l bytes (s.1 ++ x) g offset reason
    (record {
      front = s.0;
      whole = sym e ∙ ap (λ (k : List ℕ). k ++ x) s.2 ∙ append_assoc s.0 s.1 x;
      blob = s.3;
    }) f.fault)

-- bytes without geometries have no blobs
pub no_bytes : (l : Allowance) (bytes : List ℕ) (gs : List Tree) → Stream l bytes gs → gs ≡ [] → bytes ≡ []
no_bytes l bytes [] s none = s
no_bytes l bytes (g ∷ gs) s none = absurd cc
