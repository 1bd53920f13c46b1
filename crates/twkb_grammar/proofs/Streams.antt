-- A stream is cut into blobs in one way, and it has no fault.
use Rattle.std.proofs.Common.{◌≡◌, ℕ, zero, suc, ◌+◌, ◌≤◌, List, [], ◌∷◌, ◌++◌, length, refl, sym}
use Rattle.std.proofs.Common.{ap, ◌∙◌, subst, append_assoc, append-nil, length-append, arith, inl}
use Rattle.std.proofs.Common.{inr}
use Rattle.std.specs.Prelude.{◌⊎◌}
use Rattle.std.specs.List.{AllByRecursion}
use Rattle.twkb_tree.specs.Tree.{Tree}
use Rattle.twkb_tree.specs.Limits.{Allowance, IsAllowance, IsValid}
use Rattle.twkb_grammar.specs.Bits.{AreBytes}
use Rattle.twkb_grammar.specs.Roles.{Header, Item, Spells, join}
use Rattle.twkb_grammar.specs.Items.{Items, Blob, BlobInFront, Stream}
use Rattle.twkb_grammar.specs.Written.{canonical_blob, canonical_stream}
use Rattle.twkb_grammar.specs.declared.style.Style.{Style}
use Rattle.twkb_grammar.specs.Fault.{Reason, Refused, Fault, FirstFault, StreamFault}
use Rattle.twkb_grammar.specs.Machine.{Finished, AtHeader, nothing, started, Stack, Runs}
use Rattle.twkb_grammar.specs.Reading.{Answer, Made, RefusedAt, GoesOn, decode}
use Rattle.twkb_grammar.proofs.BodiesBack.{some_role}
use Rattle.twkb_grammar.proofs.Trees.{tree_runs}
use Rattle.twkb_grammar.proofs.Parts.{blob_runs, front_runs, peel, one_blob_lem}
use Rattle.twkb_grammar.proofs.OneFault.{left_cancel, one_first_fault, no_fault}
use Rattle.twkb_grammar.proofs.WrittenBlobs.{written_blob}
use Rattle.twkb_grammar.proofs.NotedSpans.{none_front}
use Rattle.twkb_grammar.proofs.Running.{Outcome, bytes_left, decoded}

-- items run through from the start have at least one byte
pub first_item : (i : Item) (is : List Item) (last : Stack) → Runs nothing started (i ∷ is) last
    → join (i ∷ is) ≡ [] → ⊥
first_item i is last r none =
    let head : Spells Header i.number i.bytes = subst (λ r. Spells r i.number i.bytes)
    (some_role Header i.role r.0) r.1 in
    let z : i.number ∷ [] ≡ [] = sym head.3 ∙ none_front i.bytes (join is) none in cc

-- no bytes have no items
pub no_items : (is : List Item) (st : Stack) → Runs nothing started is st → join is ≡ [] → is ≡ []
no_items [] st r e = refl
no_items (i ∷ is) st r e = absurd (first_item i is st r e)

-- an empty list of bytes is not a blob
pub blob_some : (limits : Allowance) (g : Tree) (bytes : List ℕ) → Blob limits bytes g → bytes ≡ [] → ⊥
blob_some limits g bytes b none = go b.items (blob_runs limits bytes g b) (b.spelled ∙ none)
  where
    go : (is : List Item) → Runs nothing started is ([], Finished g) → join is ≡ [] → ⊥
    go [] r e = let z : AtHeader ≡ Finished g = ap (λ (s : Stack). s.1) r in cc
    go (i ∷ is) r e = first_item i is ([], Finished g) r e

-- an empty list of bytes has no fault
pub no_fault_of_nothing : (limits : Allowance) (bytes : List ℕ) (offset : ℕ) (reason : Reason)
    → Fault limits bytes offset reason → bytes ≡ [] → ⊥
no_fault_of_nothing limits bytes offset reason f none = go f.before refl
  where
    spelled : join f.before ++ f.rest ≡ []
    spelled = sym f.split ∙ none

    go : (is : List Item) → is ≡ f.before → ⊥
    go (i ∷ is) e =
        let run = front_runs f.before f.begins.1 f.begins.0 f.begins.2 f.begins.3 in
        first_item i is run.0 (subst (λ l. Runs nothing started l run.0) (sym e) run.1)
        (ap join e ∙ none_front (join f.before) f.rest spelled)
    go [] e =
        let next = f.next f.begins.0 f.begins.1 f.begins.2 f.begins.3 in
        let at_start : Items 0 f.begins.0 (next.0 ∷ next.1) = subst (λ l. Items 0 f.begins.0 l)
        (ap (λ l. l ++ f.begins.1) (sym e) ∙ next.2) f.begins.3 in
        let run = tree_runs f.begins.0 [] nothing (next.0 ∷ next.1) f.begins.2 at_start in
        let role : f.role ≡ Header = sym next.3 ∙ some_role Header next.0.role run.0 in
        let rest : f.rest ≡ [] = left_cancel (join f.before) f.rest []
        (ap (λ l. join l ++ f.rest) (sym e) ∙ (ap (λ l. join l ++ f.rest) e
        ∙ (spelled ∙ ap (λ l. join l ++ []) e))) in
        nothing_refused (subst (λ T. T) (λ t. Refused limits (sym e t) (rest t) (role t) reason) f.refused)
      where
        nothing_refused : Refused limits [] [] Header reason → ⊥
        nothing_refused (inl h) = h.0.0 refl
        nothing_refused (inr (h, inl k)) = absurd k.0
        nothing_refused (inr (h, inr k)) = absurd k.1

-- what a stream has after its first blob
record Behind (limits : Allowance) (rest : List ℕ) (g : Tree) (gs : List Tree) : Type 0 where
  pub others : List Tree
  pub whole : gs ≡ g ∷ others
  pub stream : Stream limits rest others

behind_blob : (limits : Allowance) (a rest : List ℕ) (g : Tree) (gs : List Tree) → Blob limits a g
    → Stream limits (a ++ rest) gs → Behind limits rest g gs
behind_blob limits a rest g [] b s = absurd (blob_some limits g a b (none_front a rest s))
behind_blob limits a rest g (h ∷ gs) b s =
    let one = one_blob_lem limits a s.0 rest s.1 g h b s.3 s.2 in
    let tail : rest ≡ s.1 = peel a s.0 rest s.1 one.1 s.2 in
    record {
      others = gs;
      whole = ap (λ t. t ∷ gs) (sym one.0);
      stream = subst (λ l. Stream limits l gs) (sym tail) s.4;
    }

-- a stream that begins with another has its geometries first, and the rest is a stream
pub behind_stream : (limits : Allowance) (bytes rest : List ℕ) (gs hs : List Tree)
    → Stream limits bytes gs → Stream limits (bytes ++ rest) hs → (ks : List Tree) × (hs ≡ gs ++ ks)
    × Stream limits rest ks
behind_stream limits bytes rest [] hs s t = (hs, refl, subst (λ l. Stream limits (l ++ rest) hs) s t)
behind_stream limits bytes rest (g ∷ gs) hs s t =
    let whole : bytes ++ rest ≡ s.0 ++ (s.1 ++ rest) = ap (λ l. l ++ rest) s.2 ∙ append_assoc s.0 s.1 rest in
    let b = behind_blob limits s.0 (s.1 ++ rest) g hs s.3 (subst (λ l. Stream limits l hs) whole t) in
    let r = behind_stream limits s.1 rest gs b.others s.4 b.stream in
    (r.0, b.whole ∙ ap (λ l. g ∷ l) r.1, r.2)

-- a stream of no bytes has no geometries
none_of_nothing : (limits : Allowance) (gs : List Tree) → Stream limits [] gs → gs ≡ []
none_of_nothing limits [] s = refl
none_of_nothing limits (g ∷ gs) s = absurd (blob_some limits g s.0 s.3 (none_front s.0 s.1 (sym s.2)))

-- a stream has one reading
pub one_stream : (limits : Allowance) (bytes : List ℕ) (gs hs : List Tree) → Stream limits bytes gs
    → Stream limits bytes hs → gs ≡ hs
one_stream limits bytes gs hs s t =
    let r = behind_stream limits bytes [] gs hs s (subst (λ l. Stream limits l hs) (sym (append-nil bytes)) t) in
    sym (r.1 ∙ (ap (λ l. gs ++ l) (none_of_nothing limits r.0 r.2) ∙ append-nil gs))

-- the join of two streams is a stream
pub stream-append : (limits : Allowance) (a b : List ℕ) (gs hs : List Tree) → Stream limits a gs
    → Stream limits b hs → Stream limits (a ++ b) (gs ++ hs)
stream-append limits a b [] hs s t = subst (λ l. Stream limits (l ++ b) hs) (sym s) t
stream-append limits a b (g ∷ gs) hs s t = (
  s.0,
  s.1 ++ b,
  ap (λ l. l ++ b) s.2
      ∙ append_assoc s.0 s.1 b,
  s.3,
  stream-append limits s.1 b gs hs s.4 t,
)

-- the canonical blobs of valid geometries are a stream of them
pub written_stream : (limits : Allowance) (style : Style) (gs : List Tree) → IsAllowance limits
    → AllByRecursion (λ g. IsValid limits g) gs → Stream limits (canonical_stream style gs) gs
written_stream limits style [] allowed valid = refl
written_stream limits style (g ∷ gs) allowed valid = (
  canonical_blob style g,
  canonical_stream style gs,
  refl,
  written_blob limits style g allowed
      valid.0,
  written_stream limits style gs allowed valid.1,
)

-- no stream has a fault after some of its blobs
pub no_stream : (limits : Allowance) (bytes rest : List ℕ) (gs hs : List Tree) (offset : ℕ)
    (reason : Reason) → Stream limits bytes gs → Fault limits rest offset reason
    → Stream limits (bytes ++ rest) hs → ⊥
no_stream limits bytes rest gs hs offset reason s f t = let r = behind_stream limits bytes rest gs hs s t in go r.0 r.2
  where
    go : (ks : List Tree) → Stream limits rest ks → ⊥
    go [] e = no_fault_of_nothing limits rest offset reason f e
    go (k ∷ ks) u = no_fault limits rest u.1 k offset reason (record { front = u.0; whole = u.2; blob = u.3 }) f

-- no blob is at the start of these bytes
abbrev pub NoBlob : Allowance → List ℕ → Type 0
NoBlob limits bytes = (g : Tree) (front rest : List ℕ) → Blob limits front g → front ++ rest ≡ bytes → ⊥

-- two streams at the start of the same bytes, each as far as blobs go, are the same
pub streams_same : (limits : Allowance) (a b x y : List ℕ) (gs hs : List Tree) → Stream limits a gs
    → Stream limits b hs → NoBlob limits x → NoBlob limits y → a ++ x ≡ b ++ y → (gs ≡ hs) × (a ≡ b)
streams_same limits a b x y [] [] s t m n e = (refl, s ∙ sym t)
streams_same limits a b x y [] (h ∷ hs) s t m n e =
    absurd (m h t.0 (t.1 ++ y) t.3 (sym (append_assoc t.0 t.1 y) ∙ (ap (λ l. l ++ y) (sym t.2)
    ∙ (sym e ∙ ap (λ l. l ++ x) s))))
streams_same limits a b x y (g ∷ gs) [] s t m n e =
    absurd (n g s.0 (s.1 ++ x) s.3 (sym (append_assoc s.0 s.1 x) ∙ (ap (λ l. l ++ x) (sym s.2)
    ∙ (e ∙ ap (λ l. l ++ y) t))))
streams_same limits a b x y (g ∷ gs) (h ∷ hs) s t m n e =
    let whole : s.0 ++ (s.1 ++ x) ≡ t.0 ++ (t.1 ++ y) = sym (append_assoc s.0 s.1 x)
    ∙ (ap (λ l. l ++ x) (sym s.2) ∙ (e ∙ (ap (λ l. l ++ y) t.2 ∙ append_assoc t.0 t.1 y))) in
    let one = one_blob_lem limits s.0 t.0 (s.1 ++ x) (t.1 ++ y) g h s.3 t.3 whole in
    let tail = peel s.0 t.0 (s.1 ++ x) (t.1 ++ y) one.1 whole in
    let rest = streams_same limits s.1 t.1 x y gs hs s.4 t.4 m n tail in
    ((λ k. one.0 k ∷ rest.0 k), s.2 ∙ ((λ k. one.1 k ++ rest.1 k) ∙ sym t.2))

-- two streams, each before a first fault of the same bytes, are the same
pub same_front : (limits : Allowance) (a b x y : List ℕ) (gs hs : List Tree) (o p : ℕ) (r q : Reason)
    → Stream limits a gs → Stream limits b hs → FirstFault limits x o r → FirstFault limits y p q
    → a ++ x ≡ b ++ y → (gs ≡ hs) × (a ≡ b)
same_front limits a b x y gs hs o p r q s t f k e =
    streams_same limits a b x y gs hs s t (none x o r f.fault) (none y p q k.fault) e
  where
    none : (x : List ℕ) (o : ℕ) (r : Reason) → Fault limits x o r → NoBlob limits x
    none x o r f g front rest blob at =
        no_fault limits x rest g o r (record { front = front; whole = sym at; blob = blob }) f

-- a stream's first fault is unique, and so are the geometries before it
pub one_stream_fault : (limits : Allowance) (bytes : List ℕ) (gs hs : List Tree) (o p : ℕ)
    (r q : Reason) → StreamFault limits bytes gs o r → StreamFault limits bytes hs p q → (gs ≡ hs)
    × (o ≡ p) × (r ≡ q)
one_stream_fault limits bytes gs hs o p r q s t =
    let e : s.front ++ s.rest ≡ t.front ++ t.rest = sym s.whole ∙ t.whole in
    let cut = same_front limits s.front t.front s.rest t.rest gs hs s.within t.within r q s.blobs
    t.blobs s.first t.first e in
    let rest : s.rest ≡ t.rest = peel s.front t.front s.rest t.rest cut.1 e in
    let one = one_first_fault limits t.rest s.within t.within r q
    (subst (λ l. FirstFault limits l s.within r) rest s.first) t.first in
    let long : length s.front ≡ length t.front = ap length cut.1 in
    (cut.0, omega (arith, s.place, t.place, long, one.0), one.1)

-- a stream, followed by blobs and a first fault, has the blobs of both and that fault
pub fault-append : (limits : Allowance) (a b : List ℕ) (gs hs : List Tree) (offset : ℕ)
    (reason : Reason) → Stream limits a gs → StreamFault limits b hs offset reason
    → StreamFault limits (a ++ b) (gs ++ hs) (length a + offset) reason
fault-append limits a b gs hs offset reason s f = record {
  front = a ++ f.front;
  rest = f.rest;
  within = f.within;
  whole = ap (λ l. a ++ l) f.whole ∙ sym (append_assoc a f.front f.rest);
  blobs = stream-append limits a f.front gs hs s f.blobs;
  first = f.first;
  place = omega (arith, f.place, length-append a f.front);
}

-- the bytes are a stream, or blobs followed by a first fault
abbrev StreamOr : Allowance → List ℕ → Type 0
StreamOr limits bytes = ((gs : List Tree) × Stream limits bytes gs)
    ⊎ ((gs : List Tree) × (offset : ℕ) × (reason : Reason)
    × StreamFault limits bytes gs offset reason)

one_more : (limits : Allowance) (bytes rest : List ℕ) (g : Tree) → BlobInFront limits bytes g rest
    → StreamOr limits rest → StreamOr limits bytes
one_more limits bytes rest g b (inl s) = inl (g ∷ s.0, (b.front, rest, b.whole, b.blob, s.1))
one_more limits bytes rest g b (inr (gs, o, r, f)) =
    let first : Stream limits b.front (g ∷ []) = (b.front, [], sym (append-nil b.front), b.blob, refl) in
    inr (
      g ∷ gs,
      length b.front + o,
      r,
      subst (λ l. StreamFault limits l (g ∷ gs)
          (length b.front + o) r) (sym b.whole) (fault-append limits b.front rest (g ∷ []) gs o
          r first f),
    )

pub blob_long : (limits : Allowance) (bytes : List ℕ) (g : Tree) → Blob limits bytes g → 1 ≤ length bytes
blob_long limits [] g b = absurd (blob_some limits g [] b refl)
blob_long limits (x ∷ bytes) g b = omega arith

-- the answer for some bytes from the answer for fewer
decided : (limits : Allowance) (bytes : List ℕ) → AreBytes bytes
    → ((rest : List ℕ) → AreBytes rest → length rest + 1 ≤ length bytes → StreamOr limits rest)
    → (a : Answer) → Outcome limits bytes a → StreamOr limits bytes
decided limits bytes are again (Made g rest) b =
    let long : length bytes ≡ length b.front + length rest = ap length b.whole ∙ length-append b.front rest in
    one_more limits bytes rest g b
    (again rest (bytes_left b.front rest (subst AreBytes b.whole are))
    (omega (arith, long, blob_long limits b.front g b.blob)))
decided limits bytes are again (RefusedAt o r) f = inr (
  [],
  o,
  r,
  record {
    front = [];
    rest = bytes;
    within = o;
    whole = refl;
    blobs = refl;
    first = f;
    place = omega arith;
  },
)
decided limits bytes are again GoesOn o = absurd o

stream_within : (turns : ℕ) (limits : Allowance) (bytes : List ℕ) → IsAllowance limits
    → AreBytes bytes → length bytes ≤ turns → StreamOr limits bytes
stream_within turns limits [] allowed are few = inl ([], refl)
stream_within zero limits (x ∷ bytes) allowed are few = absurd (omega (arith, few))
stream_within (suc turns) limits (x ∷ bytes) allowed are few =
    decided limits (x ∷ bytes) are (λ rest rest_are fewer. stream_within turns limits rest allowed
    rest_are (omega (arith, few, fewer))) (decode limits (x ∷ bytes))
    (decoded limits (x ∷ bytes) allowed are (λ e. cc))

-- bytes are a stream, or blobs followed by a first fault
pub stream_or_fault : (limits : Allowance) (bytes : List ℕ) → IsAllowance limits → AreBytes bytes
    → StreamOr limits bytes
stream_or_fault limits bytes allowed are = stream_within (length bytes) limits bytes allowed are (omega arith)
